-- A memory as it is lent. Assumes nothing.
use Rattle.std.specs.Prelude.{◌≡◌}
use Rattle.actions.specs.declared.memory.Memory.{Memory as Lent}
use Rattle.actions.specs.Memory.{Memory, memory_of}

-- what a lent memory holds
abbrev pub seen : Lent → Memory
seen x = memory_of x.cells.now x.pointers.now

-- What is written there goes back to the same lenders.
abbrev pub SameLenders : Lent → Lent → Type 0
SameLenders a b = (b.cells.ghost_name ≡ a.cells.ghost_name) × (b.pointers.ghost_name ≡ a.pointers.ghost_name)
