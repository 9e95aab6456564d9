-- A draw underway: what is left begins at a group, and no group before is admitted.
-- Assumes nothing.
use Rattle.std.proofs.Common.{◌≡◌, ℕ, ◌+◌, ◌-◌, ◌*◌, ◌/◌, ◌%◌, ◌^◌, ◌<◌, ◌≤◌, min, true, false, List, length, take, drop, sym, ap, ◌∙◌, ap₂, ⊎_elim, length-drop, mul-le-mul_right, add-mul, div-one, arith}
use Rattle.std.proofs.lemmas.Bool.{cases_lt, cases_eq}
use Rattle.std.proofs.lemmas.List.{drop-drop}
use Rattle.std.specs.List.{IsSplitAt}
use Rattle.bits.specs.Rows.{little, part}
use Rattle.salt.specs.Admitted.{admitted}
use Rattle.salt.specs.Draws.{group_size, group_start, Whole, candidate, group_admitted, First}

pub record Underway (m : ℕ) (mul : ℕ → ℕ → ℕ) (b : ℕ) (noise : List ℕ) (place : ℕ) (rest : List ℕ) : Type 0 where
  pub passed : ℕ
  pub inside : group_start m place passed ≤ length noise
  pub left : rest ≡ drop (group_start m place passed) noise
  pub none : (i : ℕ) → i < passed → group_admitted m mul b noise place i ≡ false

module _ (m : ℕ) (mul : ℕ → ℕ → ℕ) (b : ℕ) (noise : List ℕ) (place : ℕ) where
  -- one group further
  next_start : (k : ℕ) → group_start m place k + group_size m ≡ group_start m place (k + 1)
  next_start k = omega (arith, add-mul k 1 (group_size m))

  module _ (rest : List ℕ) (u : Underway m mul b noise place rest) where
    left_length : length rest ≡ length noise - group_start m place u.passed
    left_length = ap length u.left ∙ length-drop (group_start m place u.passed) noise

    -- where what is left has no whole group, none that is left is admitted
    pub underway_end : length rest < group_size m → (k : ℕ) → Whole m noise place k → group_admitted m mul b noise place k ≡ false
    underway_end short k whole =
        ⊎_elim (u.none k)
        (λ past. let far : (u.passed + 1) * group_size m ≤ (k + 1) * group_size m = mul-le-mul_right (group_size m) (omega arith) in
        absurd (omega (arith, next_start u.passed, left_length)))
        (cases_lt k u.passed)

    -- one turn: a group is cut off, and x is read from it
    module _ (group after : List ℕ) (split : IsSplitAt rest (group_size m) group after) (width x : ℕ) (fit : width ≡ m) (few : m ≤ 24)
        (read : x ≡ part (little group) 0 (min width 24)) where
      drawn : x ≡ candidate m noise (group_start m place u.passed)
      drawn =
          let count : min width 24 ≡ m = omega arith in
          let next : group ≡ take (group_size m) (drop (group_start m place u.passed) noise) = split.1 ∙ ap (take (group_size m)) u.left in
          read ∙ ap₂ (λ (g : List ℕ) (k : ℕ). little g / 1 % 2 ^ k) next count ∙ ap (λ (n : ℕ). n % 2 ^ m) (div-one _)

      whole : Whole m noise place u.passed
      whole = omega (arith, next_start u.passed, left_length, split.0)

      pub underway_on : false ≡ admitted m mul b x → Underway m mul b noise place after
      underway_on unfit =
          record {
            passed = u.passed + 1;
            inside = whole;
            left = split.2 ∙ ap (drop (group_size m)) u.left ∙ drop-drop (group_size m) (group_start m place u.passed) noise ∙ ap (λ (k : ℕ). drop k noise) (next_start u.passed);
            none = λ i l. ⊎_elim
                (λ s. ap (λ (k : ℕ). group_admitted m mul b noise place k) s ∙ ap (admitted m mul b) (sym drawn) ∙ sym unfit)
                (λ n. u.none i (omega (arith, n)))
                (cases_eq i u.passed);
          }

      pub underway_drawn : true ≡ admitted m mul b x
          → (k : ℕ) × First m mul b noise place k × (x ≡ candidate m noise (group_start m place k)) × (length noise - length after ≡ group_start m place (k + 1))
      underway_drawn found =
          let first : First m mul b noise place u.passed = record { whole = whole; found = ap (admitted m mul b) (sym drawn) ∙ sym found; before = u.none } in
          (u.passed, first, drawn, omega (arith, next_start u.passed, left_length, split.4))
