-- The cells of the registers, one register after the other. Assumes nothing.
use Rattle.std.proofs.Common.{◌≡◌, ℕ, zero, suc, ◌+◌, ◌-◌, ◌<◌, ◌≤◌, ltb, List, map, length, get_or, None, sym, refl, ap, ◌∙◌, ⊎_elim, arith}
use Rattle.std.specs.List.{range_with_len}
use Rattle.std.proofs.lemmas.List.FromFn.{fill_by_all, get_or-map-range_with_len}
use Rattle.std.proofs.lemmas.List.{get_or_past}
use Rattle.std.proofs.lemmas.Bool.{cases_lt, lt-ltb, le-ltb}
use Rattle.search.specs.Sum.{sum_below}
use Rattle.search.proofs.Firsts.{first_is}
use Rattle.rules.specs.Rules.{cells_below, sizes}
use Rattle.shape.specs.Shape.{Design, register_at, no_register}
use Rattle.design.specs.Facts.{register_of}
use Rattle.design.proofs.Kept.{few_cells}

pub cells_none : (d : Design) → cells_below d 0 ≡ 0
unfolding sum_below
cells_none d = refl

pub cells_more : (d : Design) (x : ℕ) → cells_below d (suc x) ≡ cells_below d x + (register_at d x).cells
unfolding sum_below
cells_more d x = refl

cells_on : (d : Design) (x k : ℕ) → cells_below d x ≤ cells_below d (x + k)
cells_on d x zero = let same : x + 0 ≡ x = omega arith in omega (arith, ap (cells_below d) same)
cells_on d x (suc k) = let next : x + suc k ≡ suc (x + k) = omega arith in omega (arith, ap (cells_below d) next, cells_more d (x + k), cells_on d x k)

-- later registers begin later
pub cells_grow : (d : Design) (x y : ℕ) → x ≤ y → cells_below d x ≤ cells_below d y
cells_grow d x y l = let there : x + (y - x) ≡ y = omega arith in omega (arith, ap (cells_below d) there, cells_on d x (y - x))

pub all_cells_few : (d : Design) → sizes d ≡ None → (x : ℕ) → x ≤ d.head.registers → cells_below d x ≤ 1024
all_cells_few d e zero l = omega (arith, cells_none d)
all_cells_few d e (suc x) l = omega (arith, cells_more d x, few_cells d e x (omega arith))

cells_past : (d : Design) → length d.registers ≡ d.head.registers → (k : ℕ) → cells_below d (d.head.registers + k) ≡ cells_below d d.head.registers
cells_past d e zero = let same : d.head.registers + 0 ≡ d.head.registers = omega arith in ap (cells_below d) same
cells_past d e (suc k) =
    let n : ℕ = d.head.registers in
    let next : n + suc k ≡ suc (n + k) = omega arith in
    let empty = ap (λ r. r.cells) (get_or_past d.registers (n + k) no_register (omega arith)) in
    omega (arith, ap (cells_below d) next, cells_more d (n + k), cells_past d e k, empty)

pub register_is : (d : Design) (x j : ℕ) → x < d.head.registers → cells_below d x ≤ j → j < cells_below d (suc x) → register_of d j ≡ x
register_is d x j l from to =
    first_is (λ y. ltb j (cells_below d (suc y))) d.head.registers x (omega arith)
    (λ y q. le-ltb j (cells_below d (suc y)) (omega (arith, cells_grow d (suc y) x (omega arith))))
    (λ _. lt-ltb j (cells_below d (suc x)) to)

pub register_past : (d : Design) (j : ℕ) → cells_below d d.head.registers ≤ j → register_of d j ≡ d.head.registers
register_past d j from =
    first_is (λ y. ltb j (cells_below d (suc y))) d.head.registers d.head.registers (omega arith)
    (λ y q. le-ltb j (cells_below d (suc y)) (omega (arith, cells_grow d (suc y) d.head.registers (omega arith))))
    (λ q. absurd (omega arith))

-- the cells up to register x, and then those of register x
pub cells_filled :
    (d : Design) (x : ℕ) (old new : List ℕ) → x < d.head.registers → old ≡ map (register_of d) (range_with_len 0 (cells_below d x))
    → length new ≡ cells_below d (suc x)
    → ((k : ℕ) → k < cells_below d x → get_or new k 0 ≡ get_or old k 0)
    → ((k : ℕ) → cells_below d x ≤ k → k < cells_below d (suc x) → get_or new k 0 ≡ x)
    → new ≡ map (register_of d) (range_with_len 0 (cells_below d (suc x)))
cells_filled d x old new l e long before here =
    fill_by_all (register_of d) new (cells_below d (suc x)) 0 long (λ k q. ⊎_elim (inside k) (λ p. here k p q ∙ sym (register_is d x k l p q)) (cases_lt k (cells_below d x)))
  where
    inside : (k : ℕ) → k < cells_below d x → get_or new k 0 ≡ register_of d k
    inside k p = before k p ∙ ap (λ xs. get_or xs k 0) e ∙ get_or-map-range_with_len (register_of d) 0 (cells_below d x) k k 0 p (omega arith)

-- past the last register there are no more cells
pub first_past : (d : Design) → length d.registers ≡ d.head.registers → (x : ℕ) → d.head.registers ≤ x → cells_below d x ≡ cells_below d d.head.registers
first_past d e x l =
    let there : d.head.registers + (x - d.head.registers) ≡ x = omega arith in
    sym (ap (cells_below d) there) ∙ cells_past d e (x - d.head.registers)
