-- A polynomial has fewer different roots than coefficients, unless all of these are 0: a root x is taken out by dividing by X + x.
-- Assumes nothing.
use Rattle.std.proofs.Common.{◌≡◌, ℕ, suc, ◌^◌, ◌<◌, List, [], ◌∷◌, length, sym, refl, ap, ◌∙◌, ap₂, ⊎_elim, le_trans, le_of_eq, le_of_suc-le-suc, arith, pow_pos}
use lib.Bits.{bit_xor, xor_lt, xor_comm}
use Rattle.std.specs.List.{AllByRecursion}
use Rattle.bits.proofs.Digits.{xor_inner, xor_equal}
use Rattle.field.specs.Laws.{Laws}
use Rattle.field.specs.Polynomials.{value_at, Roots}
use Rattle.field.proofs.Powers.{mul_zero}

-- the values at x of a list and of what is left of it after each coefficient
abbrev tails : (ℕ → ℕ → ℕ) → ℕ → List ℕ → List ℕ
tails mul x [] = []
tails mul x (c ∷ cs) = value_at mul (c ∷ cs) x ∷ tails mul x cs

module _ (m : ℕ) (mul : ℕ → ℕ → ℕ) (laws : Laws m mul) where
  pub value_lt : (cs : List ℕ) (x : ℕ) → AllByRecursion (λ c. c < 2 ^ m) cs → x < 2 ^ m → value_at mul cs x < 2 ^ m
  value_lt [] x small hx = pow_pos m
  value_lt (c ∷ cs) x small hx = xor_lt m _ _ small.0 (laws.closed x _ hx (value_lt cs x small.1 hx))

  tails_lt : (x : ℕ) (cs : List ℕ) → x < 2 ^ m → AllByRecursion (λ c. c < 2 ^ m) cs → AllByRecursion (λ c. c < 2 ^ m) (tails mul x cs)
  tails_lt x [] hx small = tt
  tails_lt x (c ∷ cs) hx small = (value_lt (c ∷ cs) x small hx, tails_lt x cs hx small.1)

  tails_length : (x : ℕ) (cs : List ℕ) → length (tails mul x cs) ≡ length cs
  tails_length x [] = refl
  tails_length x (c ∷ cs) = ap suc (tails_length x cs)

  pub mul_left_xor : (x y z : ℕ) → x < 2 ^ m → y < 2 ^ m → z < 2 ^ m → mul (bit_xor x y) z ≡ bit_xor (mul x z) (mul y z)
  mul_left_xor x y z hx hy hz =
      laws.comm (bit_xor x y) z (xor_lt m x y hx hy) hz ∙ laws.distributes z x y hz hx hy
      ∙ ap₂ bit_xor (laws.comm z x hz hx) (laws.comm z y hz hy)

  mul_left_comm : (x y z : ℕ) → x < 2 ^ m → y < 2 ^ m → z < 2 ^ m → mul x (mul y z) ≡ mul y (mul x z)
  mul_left_comm x y z hx hy hz =
      sym (laws.assoc x y z hx hy hz) ∙ ap (λ (v : ℕ). mul v z) (laws.comm x y hx hy) ∙ laws.assoc y x z hy hx hz

  -- one step of the division: u and v are the values at x and at y, w the quotient's value so far
  division_step : (x y u v w : ℕ) → x < 2 ^ m → y < 2 ^ m → u < 2 ^ m → v < 2 ^ m → w < 2 ^ m → bit_xor v u ≡ mul (bit_xor y x) w
      → bit_xor (mul y v) (mul x u) ≡ mul (bit_xor y x) (bit_xor u (mul y w))
  division_step x y u v w hx hy hu hv hw before =
      let s = bit_xor y x in
      let hs = xor_lt m y x hy hx in
      sym
      (laws.distributes s u (mul y w) hs hu (laws.closed y w hy hw)
      ∙ ap₂ bit_xor
      (mul_left_xor y x u hy hx hu ∙ xor_comm (mul y u) (mul x u))
      (mul_left_comm s y w hs hy hw ∙ ap (mul y) (sym before) ∙ laws.distributes y v u hy hv hu ∙ xor_comm (mul y v) (mul y u))
      ∙ xor_inner (mul x u) (mul y v) (mul y u) ∙ xor_comm (mul x u) (mul y v))

  -- the difference of the values at y and at x is y + x times the quotient's value
  division : (x y : ℕ) (cs : List ℕ) → x < 2 ^ m → y < 2 ^ m → AllByRecursion (λ c. c < 2 ^ m) cs
      → bit_xor (mul y (value_at mul cs y)) (mul x (value_at mul cs x)) ≡ mul (bit_xor y x) (value_at mul (tails mul x cs) y)
  division x y [] hx hy small =
      ap₂ bit_xor (mul_zero m mul laws y hy) (mul_zero m mul laws x hx) ∙ sym (mul_zero m mul laws (bit_xor y x) (xor_lt m y x hy hx))
  division x y (c ∷ cs) hx hy small =
      division_step x y (value_at mul (c ∷ cs) x) (value_at mul (c ∷ cs) y) (value_at mul (tails mul x cs) y) hx hy
      (value_lt (c ∷ cs) x small hx) (value_lt (c ∷ cs) y small hy) (value_lt (tails mul x cs) y (tails_lt x cs hx small.1) hy)
      (ap (λ (v : ℕ). bit_xor v (value_at mul (c ∷ cs) x)) (xor_comm c (mul y (value_at mul cs y)))
      ∙ xor_inner (mul y (value_at mul cs y)) (mul x (value_at mul cs x)) c ∙ division x y cs hx hy small.1)

  -- another root is a root of the quotient
  other_root : (x y c : ℕ) (cs : List ℕ) → x < 2 ^ m → y < 2 ^ m → AllByRecursion (λ v. v < 2 ^ m) cs → (x ≡ y → ⊥)
      → value_at mul (c ∷ cs) x ≡ 0 → value_at mul (c ∷ cs) y ≡ 0 → value_at mul (tails mul x cs) y ≡ 0
  other_root x y c cs hx hy small apart at_x at_y =
      let none : mul (bit_xor y x) (value_at mul (tails mul x cs) y) ≡ 0 =
      sym (division x y cs hx hy small)
      ∙ sym (xor_inner (mul y (value_at mul cs y)) (mul x (value_at mul cs x)) c)
      ∙ ap₂ bit_xor (xor_comm (mul y (value_at mul cs y)) c ∙ at_y) at_x in
      ⊎_elim (λ e. absurd (apart (sym (xor_equal y x e)))) (λ e. e)
      (laws.integral (bit_xor y x) (value_at mul (tails mul x cs) y) (xor_lt m y x hy hx) (value_lt (tails mul x cs) y (tails_lt x cs hx small) hy) none)

  other_roots : (x c : ℕ) (cs ys : List ℕ) → x < 2 ^ m → AllByRecursion (λ v. v < 2 ^ m) cs → AllByRecursion (λ y. y < 2 ^ m) ys → AllByRecursion (λ y. x ≡ y → ⊥) ys
      → value_at mul (c ∷ cs) x ≡ 0 → AllByRecursion (λ y. value_at mul (c ∷ cs) y ≡ 0) ys → AllByRecursion (λ y. value_at mul (tails mul x cs) y ≡ 0) ys
  other_roots x c cs [] hx small hys apart at_x at-ys = tt
  other_roots x c cs (y ∷ ys) hx small hys apart at_x at-ys =
      (other_root x y c cs hx hys.0 small apart.0 at_x at-ys.0, other_roots x c cs ys hx small hys.1 apart.1 at_x at-ys.1)

  -- a coefficient is 0 where the values from it on and after it are
  coefficient : (x c v : ℕ) → x < 2 ^ m → bit_xor c (mul x v) ≡ 0 → v ≡ 0 → c ≡ 0
  coefficient x c v hx whole rest = xor_equal c (mul x v) whole ∙ ap (mul x) rest ∙ mul_zero m mul laws x hx

  all_zero : (x : ℕ) (cs : List ℕ) → x < 2 ^ m → AllByRecursion (λ c. c ≡ 0) (tails mul x cs) → AllByRecursion (λ c. c ≡ 0) cs
  all_zero x [] hx zeros = tt
  all_zero x (c ∷ []) hx zeros = (coefficient x c 0 hx zeros.0 refl, tt)
  all_zero x (c ∷ d ∷ cs) hx zeros = (coefficient x c (value_at mul (d ∷ cs) x) hx zeros.0 zeros.1.0, all_zero x (d ∷ cs) hx zeros.1)

  pub roots : Roots m mul
  roots [] xs hc hx apart at enough = tt
  roots (c ∷ cs) [] hc hx apart at enough = absurd (omega arith)
  roots (c ∷ cs) (x ∷ xs) hc hx apart at enough =
      let rest = roots (tails mul x cs) xs (tails_lt x cs hx.0 hc.1) hx.1 apart.1
      (other_roots x c cs xs hx.0 hc.1 hx.1 apart.0 at.0 at.1)
      (le_trans (le_of_eq (tails_length x cs)) (le_of_suc-le-suc enough)) in
      all_zero x (c ∷ cs) hx.0 (at.0, rest)
