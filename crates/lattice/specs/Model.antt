-- What a lattice of levels means, and its laws. Assumes nothing.
--
-- A level is named by a code, a number below 2 ^ 32. What needs joins alone (which codes are levels, the order, bottom,
-- join, width) is a record of its own, so that whatever is built on joins says nothing of top and meet.
use Rattle.std.specs.Prelude.{◌≡◌, ℕ, ◌^◌, ◌<◌, ◌≤◌, Bool, true, false, cond, ◌&&◌}

pub record Joins : Type 0 where
  -- the codes that are levels
  pub level : ℕ → Bool
  -- the bits that a level's code takes
  pub width : ℕ
  -- the first level flows to the second
  pub flows : ℕ → ℕ → Bool
  pub bottom : ℕ
  pub join : ℕ → ℕ → ℕ

pub record Model : Type 0 where
  pub joins : Joins
  pub top : ℕ
  pub meet : ℕ → ℕ → ℕ

-- a partial order on the levels; a code that is no level flows nowhere, and nothing flows to it
pub record Order (level : ℕ → Bool) (flows : ℕ → ℕ → Bool) : Type 0 where
  pub from_level : (a b : ℕ) → flows a b ≡ true → level a ≡ true
  pub to_level : (a b : ℕ) → flows a b ≡ true → level b ≡ true
  pub reflexive : (a : ℕ) → level a ≡ true → flows a a ≡ true
  pub antisymmetric : (a b : ℕ) → flows a b ≡ true → flows b a ≡ true → a ≡ b
  pub transitive : (a b c : ℕ) → flows a b ≡ true → flows b c ≡ true → flows a c ≡ true

-- the least level, and for each two levels the least one to which both flow
pub record Bounds (level : ℕ → Bool) (flows : ℕ → ℕ → Bool) (least : ℕ) (bound : ℕ → ℕ → ℕ) : Type 0 where
  pub least_level : level least ≡ true
  pub least_flows : (a : ℕ) → level a ≡ true → flows least a ≡ true
  pub left : (a b : ℕ) → level a ≡ true → level b ≡ true → flows a (bound a b) ≡ true
  pub right : (a b : ℕ) → level a ≡ true → level b ≡ true → flows b (bound a b) ≡ true
  pub below : (a b c : ℕ) → flows a c ≡ true → flows b c ≡ true → flows (bound a b) c ≡ true

-- an order turned round
abbrev pub turned : (ℕ → ℕ → Bool) → ℕ → ℕ → Bool
turned flows a b = flows b a

-- an operation on levels, which gives `other` where a code is no level
abbrev pub strict : (ℕ → Bool) → ℕ → (ℕ → ℕ → ℕ) → ℕ → ℕ → ℕ
strict level other op a b = cond (level a && level b) (op a b) other

pub record JoinLaws (m : Joins) : Type 0 where
  pub order : Order m.level m.flows
  pub bounds : Bounds m.level m.flows m.bottom m.join
  pub join_else : (a b : ℕ) → (m.level a && m.level b) ≡ false → m.join a b ≡ m.bottom
  pub fits : (a : ℕ) → m.level a ≡ true → a < 2 ^ m.width
  pub width_low : 1 ≤ m.width
  pub width_high : m.width ≤ 32

-- top and meet are bottom and join of the order turned round
pub record Lawful (m : Model) : Type 0 where
  pub joins : JoinLaws m.joins
  pub bounds : Bounds m.joins.level (turned m.joins.flows) m.top m.meet
  pub meet_else : (a b : ℕ) → (m.joins.level a && m.joins.level b) ≡ false → m.meet a b ≡ m.joins.bottom
