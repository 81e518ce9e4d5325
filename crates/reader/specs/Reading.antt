-- What a reader of texts answers, line by line. Assumes nothing.
use Rattle.std.specs.Prelude.{◌≡◌, ℕ, ◌+◌, ◌<◌, ◌≤◌, cond, List, length, Ok, Err, Result}
use Rattle.records.specs.declared.faults.LineFault.{LineFault}
use Rattle.records.specs.declared.faults.LineFault.TheVariants.{NotDue, TooLong}
use Rattle.reader.specs.declared.Reader.{Reader}
use Rattle.reader.specs.declared.sections.Line.{Line}
use Rattle.reader.specs.declared.sections.Section.{Section}
use Rattle.reader.specs.Format.{Goes}
pub use Rattle.reader.specs.Texts.{most_bytes, ends, Stands, Refused, cells_so_far, due_key, Run, Whole, Accepts, Exact}

-- A new reader stands at the first line. Only a text that is too long is refused.
abbrev pub Opens : List ℕ → Result Reader LineFault → Type 0
Opens text (Ok r) = (length text ≤ most_bytes) × (r.rest.now ≡ text) × (r.line ≡ 1) × (r.section ≡ Section.Levels)
Opens text (Err f) = (most_bytes < length text) × (f ≡ TooLong)

-- What reading a line does to a reader a, which then is b. A refusal leaves it as it was.
abbrev pub Answered : Reader → Result Line LineFault → Reader → Type 0
Answered a (Ok l) b = Stands l a.rest.now b.rest.now × Goes a.section (record { line = l; next = b.section }) × (b.line ≡ a.line + cond (ends l) 0 1)
Answered a (Err f) b = (b ≡ a) × ((k : ℕ) × Refused a.section a.rest.now k × (f ≡ NotDue a.line (k + 1)))
