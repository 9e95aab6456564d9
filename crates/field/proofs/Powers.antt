-- What the laws of a field give of products and powers.
-- Assumes nothing.
use Rattle.std.proofs.Common.{◌≡◌, ℕ, zero, suc, ◌+◌, ◌^◌, ◌<◌, sym, ap, ◌∙◌, ⊎_elim, suc-add, zero-add, arith, pow_pos}
use lib.Bits.{bit_xor, xor_self, xor_lt}
use Rattle.bits.proofs.Digits.{xor_equal}
use Rattle.field.specs.Laws.{Laws}
use Rattle.field.specs.Powers.{power}

module _ (m : ℕ) (mul : ℕ → ℕ → ℕ) (laws : Laws m mul) where
  pub mul_zero : (x : ℕ) → x < 2 ^ m → mul x 0 ≡ 0
  mul_zero x hx = laws.distributes x 0 0 hx (pow_pos m) (pow_pos m) ∙ xor_self (mul x 0)

  pub mul-one : (x : ℕ) → x < 2 ^ m → mul x 1 ≡ x
  mul-one x hx = laws.comm x 1 hx laws.one ∙ laws.neutral x hx

  -- a factor that is not 0 can be taken away
  pub cancel : (x y z : ℕ) → x < 2 ^ m → y < 2 ^ m → z < 2 ^ m → (x ≡ 0 → ⊥) → mul x y ≡ mul x z → y ≡ z
  cancel x y z hx hy hz nonzero same =
      let none : mul x (bit_xor y z) ≡ 0 = laws.distributes x y z hx hy hz ∙ ap (bit_xor (mul x y)) (sym same) ∙ xor_self (mul x y) in
      ⊎_elim (λ e. absurd (nonzero e)) (xor_equal y z) (laws.integral x (bit_xor y z) hx (xor_lt m y z hy hz) none)

  pub power_lt : (a k : ℕ) → a < 2 ^ m → power mul a k < 2 ^ m
  power_lt a zero ha = laws.one
  power_lt a (suc k) ha = laws.closed a (power mul a k) ha (power_lt a k ha)

  pub power_add : (a i j : ℕ) → a < 2 ^ m → power mul a (i + j) ≡ mul (power mul a i) (power mul a j)
  power_add a zero j ha = ap (power mul a) (zero-add j) ∙ sym (laws.neutral (power mul a j) (power_lt a j ha))
  power_add a (suc i) j ha =
      ap (power mul a) (suc-add i j) ∙ ap (mul a) (power_add a i j ha)
      ∙ sym (laws.assoc a (power mul a i) (power mul a j) ha (power_lt a i ha) (power_lt a j ha))

  -- the powers of what is not 0 are not 0
  pub power_nonzero : (a k : ℕ) → a < 2 ^ m → (a ≡ 0 → ⊥) → power mul a k ≡ 0 → ⊥
  power_nonzero a zero ha nonzero e = omega arith
  power_nonzero a (suc k) ha nonzero e =
      ⊎_elim nonzero (power_nonzero a k ha nonzero) (laws.integral a (power mul a k) ha (power_lt a k ha) e)

  -- where the powers of a come back after k steps, the k-th power is 1
  pub power_return : (a i k : ℕ) → a < 2 ^ m → (a ≡ 0 → ⊥) → power mul a i ≡ power mul a (i + k) → power mul a k ≡ 1
  power_return a i k ha nonzero same =
      let p : power mul a i < 2 ^ m = power_lt a i ha in
      cancel (power mul a i) (power mul a k) 1 p (power_lt a k ha) laws.one (power_nonzero a i ha nonzero)
      (sym (power_add a i k ha) ∙ sym same ∙ sym (mul-one (power mul a i) p))
