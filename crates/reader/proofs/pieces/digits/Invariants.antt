use Rattle.std.proofs.Common.{◌≡◌, ◌≤◌, get_or, take}
use Rattle.std.specs.Str.Parse.{AllDigits, digits_value}
use Rattle.reader.proofs.pieces.digits.Given as goal

abbrev pub invariant-loop-n : goal.invariant-loop-n
invariant-loop-n l =
    AllDigits 10 (take l.n l.text) × (digits_value 10 (take l.n l.text) ≡ l.value) × (l.value ≤ l.limit) × (l.n ≡ 0 → l.value ≡ 0)
    × (get_or l.text 0 0 ≡ 48 → (l.value ≡ 0) × (l.n ≤ 1))
