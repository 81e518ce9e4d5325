-- What it is to read one of many texts from the beginning of a text, and where such a reading stops. Assumes nothing.
use Rattle.std.specs.Prelude.{◌≡◌, ℕ, ◌+◌, ◌-◌, ◌*◌, ◌<◌, ◌≤◌, List, ◌++◌, length, get_or, take, Ok, Err, Result, slice_index, slice_index_or, nat_eq}
use Rattle.std.specs.Borrow.{Bor}
use Rattle.std.specs.List.{common_prefix_len}
use Rattle.std.specs.Str.Parse.{AllDigits, digits_value}

-- how many bytes two texts share from their beginnings
unfoldable pub shared : List ℕ → List ℕ → ℕ
shared = common_prefix_len nat_eq

-- Of the texts `text v`, where `ok v`: s shares k bytes with one of them, more with none, and has none of them whole.
pub record Stops {V : Type 0} (ok : V → Type 0) (text : V → List ℕ) (s : List ℕ) (k : ℕ) : Type 0 where
  pub some : (v : V) × ok v × (shared (text v) s ≡ k)
  pub most : (v : V) → ok v → shared (text v) s ≤ k
  pub none : (v : V) → ok v → shared (text v) s < length (text v)

-- the same, by how many bytes of s are left
abbrev pub Leaves : {V : Type 0} → (V → Type 0) → (V → List ℕ) → List ℕ → ℕ → Type 0
Leaves ok text s left = (k : ℕ) × (k + left ≡ length s) × Stops ok text s k

-- What a reader of such texts answers: a value whose text s begins with, and the rest of s; or how many bytes of s are
-- left where the reading stops.
abbrev pub Reads : {V : Type 0} → (V → Type 0) → (V → List ℕ) → List ℕ → Result (V × Bor (List ℕ)) ℕ → Type 0
Reads ok text s (Ok p) = ok p.0 × (s ≡ text p.0 ++ p.1.now)
Reads ok text s (Err left) = Leaves ok text s left

-- the same where only one text is due
abbrev pub Strips : List ℕ → List ℕ → Result (Bor (List ℕ)) ℕ → Type 0
Strips due s (Ok r) = s ≡ due ++ r.now
Strips due s (Err left) = (shared due s + left ≡ length s) × (shared due s < length due)

-- A number v, written in n digits so far (none, at the start), goes on with this byte: a digit, not after a leading 0, and
-- the number stays within the limit.
pub record Extends (v n byte limit : ℕ) : Type 0 where
  pub low : 48 ≤ byte
  pub high : byte ≤ 57
  pub lead : v ≡ 0 → n ≡ 0
  pub within : v * 10 + (byte - 48) ≤ limit

-- v is what the longest number at the beginning of s says, and n its length; both are 0 where s begins with no number
pub record Longest (s : List ℕ) (limit v n : ℕ) : Type 0 where
  pub inside : n ≤ length s
  pub digits : AllDigits 10 (take n s)
  pub says : digits_value 10 (take n s) ≡ v
  pub within : v ≤ limit
  pub start : n ≡ 0 → v ≡ 0
  pub lead : get_or s 0 0 ≡ 48 → (v ≡ 0) × (n ≤ 1)
  pub ends : n < length s → Extends v n (slice_index s n) limit → ⊥

-- a text that no number can be written into: it begins with a byte below the digits
pub record Parting (after : List ℕ) : Type 0 where
  pub some : 0 < length after
  pub first : get_or after 0 0 < 48

-- w is one of the list
abbrev pub Listed : {W : Type 0} → List W → W → Type 0
Listed all w = (i : ℕ) × (i < length all) × (slice_index_or all i w ≡ w)
