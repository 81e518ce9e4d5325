-- What a refusal says: its number and the place. Assumes nothing.
use Rattle.std.specs.Prelude.{◌≡◌, ℕ, List, [], ◌∷◌, Some, None, Ok, Err, Option, Result}
use Rattle.lattice.specs.declared.faults.LatticeFault.{LatticeFault}
use Rattle.lattice.specs.declared.faults.LatticeFault.TheVariants.{ShortRows, CountOutOfRange, OrderBroken, NoBound, TooWide}

pub record Refusal : Type 0 where
  pub number : ℕ
  pub place : List ℕ

-- a cause to refuse
abbrev pub refuse : ℕ → List ℕ → Option Refusal
refuse n at = Some (record { number = n; place = at })

abbrev pub numbered : Option Refusal → Option ℕ
numbered None = None
numbered (Some r) = Some r.number

-- What a call answers by its verdict: `Ok` exactly where there is no cause to refuse, else a fault that says that cause.
-- A fault that says none, as want of memory does, comes only where there is no cause either.
abbrev pub Answers : {X F : Type 0} → (F → Option Refusal) → Option Refusal → (X → Type 0) → Result X F → Type 0
Answers says verdict holds (Ok x) = (verdict ≡ None) × holds x
Answers says verdict holds (Err e) = verdict ≡ says e

-- the kind of a place in a lattice, beside the kinds of records
abbrev pub lattice_kind : ℕ
lattice_kind = 7

abbrev pub refusal : LatticeFault → Option Refusal
refusal ShortRows = refuse 2 (lattice_kind ∷ [])
refusal (CountOutOfRange count) = refuse 3 (lattice_kind ∷ count ∷ [])
refusal (OrderBroken row) = refuse 9 (row ∷ [])
refusal (NoBound a b) = refuse 10 (a ∷ b ∷ [])
refusal (TooWide sum) = refuse 11 (sum ∷ [])
