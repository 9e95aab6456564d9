-- The shifting product: a sum of shifted copies, reduced after.
-- Assumes nothing.
use Rattle.std.proofs.Common.{◌≡◌, ℕ, suc, ◌+◌, ◌-◌, ◌*◌, ◌/◌, ◌%◌, ◌^◌, ◌<◌, ◌≤◌, eqb, ltb, sym, refl, ap, ◌∙◌, ap₂, lt_of_le_of_lt, mul_assoc, le-mul_of_pos_right, mul_left_comm, one-add, arith, pow_pos, pow-add, shl_lt, shr-shr}
use lib.Bits.{bit_xor, bit_and, and_high, xor_mod, xor_shr}
use Rattle.std.proofs.lemmas.Bool.{eqb-true, ltb-true}
use Rattle.bits.proofs.Digits.{xor_middle, linear_agree, linear_lt}
use Rattle.field.specs.Ring.{xor_shl, times_z_linear, orbit_through}
use Rattle.field.specs.Computed.{all, all_at}
use Rattle.field.specs.Widths.{laws17}
use Rattle.field.specs.Products.{times_z, product, plain_product, fold}

-- digit i of y, in its place
one_digit : (y i : ℕ) → bit_and y (2 ^ i) ≡ y / 2 ^ i % 2 * 2 ^ i
one_digit y i = let bit : 2 ^ (1 + i) - 2 ^ i ≡ 2 ^ i = omega (arith, pow-add 2 1 i) in ap (bit_and y) (sym bit) ∙ and_high y 1 i

pub plain_done : (k i x y : ℕ) → k ≤ i → plain_product (k - i) x y ≡ 0
unfolding plain_product
plain_done k i x y h = let none : k - i ≡ 0 = omega arith in ap (λ (j : ℕ). plain_product j x y) none

-- the copy for digit i, and the rest
pub plain_step : (k i x y : ℕ) → i < k
    → plain_product (k - i) (x * 2 ^ i) (y / 2 ^ i) ≡ bit_xor (x * bit_and y (2 ^ i)) (plain_product (k - (i + 1)) (x * 2 ^ (i + 1)) (y / 2 ^ (i + 1)))
unfolding plain_product
plain_step k i x y h =
    let more : k - i ≡ suc (k - (i + 1)) = omega arith in
    let copy : y / 2 ^ i % 2 * (x * 2 ^ i) ≡ x * bit_and y (2 ^ i) = mul_left_comm (y / 2 ^ i % 2) x (2 ^ i) ∙ ap (λ (v : ℕ). x * v) (sym (one_digit y i)) in
    let doubled : x * 2 ^ i * 2 ≡ x * 2 ^ (i + 1) = mul_assoc x (2 ^ i) 2 ∙ ap (λ (v : ℕ). x * v) (sym (pow-add 2 i 1)) in
    ap (λ (j : ℕ). plain_product j (x * 2 ^ i) (y / 2 ^ i)) more
    ∙ ap₂ bit_xor copy (ap₂ (plain_product (k - (i + 1))) doubled (shr-shr y i 1))

pub fold_linear : (m k x y : ℕ) → fold m k (bit_xor x y) ≡ bit_xor (fold m k x) (fold m k y)
fold_linear m k x y =
    let high : ℕ → ℕ = λ v. v / 2 ^ m in
    ap₂ (λ (low up : ℕ). bit_xor (bit_xor low (up * 2 ^ k)) up) (xor_mod x y m) (xor_shr x y m)
    ∙ ap (λ (v : ℕ). bit_xor (bit_xor (bit_xor (x % 2 ^ m) (y % 2 ^ m)) v) (bit_xor (high x) (high y))) (xor_shl (high x) (high y) k)
    ∙ ap (λ (v : ℕ). bit_xor v (bit_xor (high x) (high y))) (xor_middle (x % 2 ^ m) (y % 2 ^ m) (high x * 2 ^ k) (high y * 2 ^ k))
    ∙ xor_middle (bit_xor (x % 2 ^ m) (high x * 2 ^ k)) (bit_xor (y % 2 ^ m) (high y * 2 ^ k)) (high x) (high y)

-- g reduces the powers of two below 2 ^ (d + 1): each next one is z times the one before
module _ (n p d : ℕ) (g : ℕ → ℕ) (linear : (x y : ℕ) → g (bit_xor x y) ≡ bit_xor (g x) (g y))
    (small : (i : ℕ) → i < d → g (2 ^ i) < 2 ^ suc n)
    (steps : (i : ℕ) → i < d → g (2 ^ i * 2) ≡ times_z n p (g (2 ^ i)))
    (same : (i : ℕ) → i < suc n → g (2 ^ i) ≡ 2 ^ i) where
  -- z goes through g
  through : (v : ℕ) → v < 2 ^ d → g (v * 2) ≡ times_z n p (g v)
  through =
      let reduced-lt = linear_lt d (suc n) g (λ a b ha hb. linear a b) small in
      linear_agree d (λ v. g (v * 2)) (λ v. times_z n p (g v))
      (λ a b ha hb. ap g (xor_shl a b 1) ∙ linear (a * 2) (b * 2))
      (λ a b ha hb. ap (times_z n p) (linear a b) ∙ times_z_linear n p (g a) (g b) (reduced-lt a ha) (reduced-lt b hb))
      steps

  pub reduced : (x y : ℕ) → x < 2 ^ suc n → x * 2 ^ suc n < 2 ^ d → g (plain_product (suc n) x y) ≡ product n p x y
  unfolding plain_product product
  reduced x y hx room =
      let whole : (k v : ℕ) → v * 2 ^ k < 2 ^ d → v < 2 ^ d = λ k v h. lt_of_le_of_lt (le-mul_of_pos_right v (pow_pos k)) h in
      orbit_through d (λ v. v * 2) (λ k v. v * 2 ^ k < 2 ^ d) whole
      (λ k v h. rw (mul_assoc v 2 (2 ^ k), ← pow-add 2 1 k, one-add k) h)
      g (times_z n p) (λ a b ha hb. linear a b) (λ k v h. through v (whole (suc k) v h)) (suc n) x y room
      ∙ ap (λ (v : ℕ). product n p v y) (linear_agree (suc n) g (λ v. v) (λ a b ha hb. linear a b) (λ a b ha hb. refl) same x hx)

-- two folds reduce a product of 17 digits by 17
twice17 : ℕ → ℕ
twice17 t = fold 17 3 (fold 17 3 t)

pub reduced17 : (x y : ℕ) → x < 2 ^ 17 → fold 17 3 (fold 17 3 (plain_product 17 x y)) ≡ product 16 131081 x y
unfolding all twice17
reduced17 x y hx =
    reduced 16 131081 34 twice17
    (λ a b. ap (fold 17 3) (fold_linear 17 3 a b) ∙ fold_linear 17 3 (fold 17 3 a) (fold 17 3 b))
    (λ i hi. ltb-true _ _ (all_at 34 (λ j. ltb (twice17 (2 ^ j)) (2 ^ 17)) refl i hi))
    (λ i hi. eqb-true _ _ (all_at 34 (λ j. eqb (twice17 (2 ^ j * 2)) (times_z 16 131081 (twice17 (2 ^ j)))) refl i hi))
    (λ i hi. eqb-true _ _ (all_at 17 (λ j. eqb (twice17 (2 ^ j)) (2 ^ j)) refl i hi))
    x y hx (shl_lt 17 17 hx)

pub reduced_lt17 : (x y : ℕ) → x < 2 ^ 17 → y < 2 ^ 17 → fold 17 3 (fold 17 3 (plain_product 17 x y)) < 2 ^ 17
reduced_lt17 x y hx hy = rw (reduced17 x y hx) (laws17.closed x y hx hy)
