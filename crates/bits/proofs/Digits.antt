-- Sums over binary digits are linear, and a linear map is settled by its values at the powers of two.
-- Assumes nothing.
use Rattle.std.proofs.Common.{◌≡◌, ℕ, zero, suc, ◌*◌, ◌/◌, ◌%◌, ◌^◌, ◌<◌, ◌≤◌, List, [], ◌∷◌, sym, refl, ap, ◌∙◌, subst, ap₂, lt_trans, le_refl, lt_of_lt_of_le, lt_of_le_of_lt, le_of_lt, mod-lt, one-mul, zero-mul, div-mul-le_self, one-add, arith, pow_pos, pow_mono, shr_lt}
use lib.Bits.{bit_xor, xor_assoc, xor_comm, xor_self, xor_zero_r, xor_shr, xor_mod, xor_lt, xor_shifted}
use lib.Arith.{lt-one}
use lib.Pow.{split, pow-lt}
use Rattle.std.specs.List.{AllByRecursion}
use Rattle.bits.specs.Digits.{pick, Linear}

-- the middle two of four are exchanged
pub xor_middle : (a b c d : ℕ) → bit_xor (bit_xor a b) (bit_xor c d) ≡ bit_xor (bit_xor a c) (bit_xor b d)
xor_middle a b c d =
    xor_assoc a b (bit_xor c d)
    ∙ ap (bit_xor a) (sym (xor_assoc b c d) ∙ ap (λ (x : ℕ). bit_xor x d) (xor_comm b c) ∙ xor_assoc c b d)
    ∙ sym (xor_assoc a c (bit_xor b d))

-- the middle two of four are equal, and go
pub xor_inner : (a b c : ℕ) → bit_xor (bit_xor a c) (bit_xor c b) ≡ bit_xor a b
xor_inner a b c =
    xor_assoc a c (bit_xor c b) ∙ ap (bit_xor a) (sym (xor_assoc c c b) ∙ ap (λ (x : ℕ). bit_xor x b) (xor_self c))

-- the exclusive-or of two numbers is 0 only where they are equal
pub xor_equal : (a b : ℕ) → bit_xor a b ≡ 0 → a ≡ b
xor_equal a b e = sym (xor_zero_r a) ∙ ap (bit_xor a) (sym (xor_self b)) ∙ sym (xor_assoc a b b) ∙ ap (λ (x : ℕ). bit_xor x b) e

-- a number taken or left by a digit
pub digit_times : (a b c : ℕ) → a < 2 → b < 2 → bit_xor a b * c ≡ bit_xor (a * c) (b * c)
digit_times zero b c ha hb = ap (λ (x : ℕ). bit_xor x (b * c)) (sym (zero-mul c))
digit_times (suc zero) zero c ha hb = sym (ap (bit_xor (1 * c)) (zero-mul c) ∙ xor_zero_r (1 * c))
digit_times (suc zero) (suc zero) c ha hb = zero-mul c ∙ sym (xor_self (1 * c))
digit_times (suc zero) (suc (suc b)) c ha hb = absurd (omega arith)
digit_times (suc (suc a)) b c ha hb = absurd (omega arith)

pub pick_linear : (cs : List ℕ) (x y : ℕ) → pick cs (bit_xor x y) ≡ bit_xor (pick cs x) (pick cs y)
pick_linear [] x y = refl
pick_linear (c ∷ cs) x y =
    ap₂ (λ (d r : ℕ). bit_xor (d * c) (pick cs r)) (xor_mod x y 1) (xor_shr x y 1)
    ∙ ap₂ bit_xor (digit_times (x % 2) (y % 2) c (mod-lt x (omega arith)) (mod-lt y (omega arith))) (pick_linear cs (x / 2) (y / 2))
    ∙ xor_middle (x % 2 * c) (y % 2 * c) (pick cs (x / 2)) (pick cs (y / 2))

pub digit_lt : (k c d : ℕ) → c < 2 ^ k → d < 2 → d * c < 2 ^ k
digit_lt k c zero hc hd = rw zero-mul (pow_pos k)
digit_lt k c (suc zero) hc hd = rw one-mul hc
digit_lt k c (suc (suc d)) hc hd = absurd (omega arith)

pub pick_lt : (k : ℕ) (cs : List ℕ) (x : ℕ) → AllByRecursion (λ c. c < 2 ^ k) cs → pick cs x < 2 ^ k
pick_lt k [] x small = pow_pos k
pick_lt k (c ∷ cs) x small =
    xor_lt k (x % 2 * c) (pick cs (x / 2)) (digit_lt k c (x % 2) small.0 (mod-lt x (omega arith))) (pick_lt k cs (x / 2) small.1)

-- a linear map sends 0 to 0
pub linear_zero : (k : ℕ) (f : ℕ → ℕ) → Linear k f → f 0 ≡ 0
linear_zero k f linear = linear 0 0 (pow_pos k) (pow_pos k) ∙ xor_self (f 0)

-- what holds of 0 and of each power of two below 2 ^ k, and of an exclusive-or if of both sides, holds below 2 ^ k
module _ (k : ℕ) (P : ℕ → Type 0) (none : P 0) (at : (i : ℕ) → i < k → P (2 ^ i))
    (joined : (x y : ℕ) → x < 2 ^ k → y < 2 ^ k → P x → P y → P (bit_xor x y)) where
  one_digit : (i d : ℕ) → i < k → d < 2 → P (d * 2 ^ i)
  one_digit i zero hi hd = rw zero-mul none
  one_digit i (suc zero) hi hd = rw one-mul (at i hi)
  one_digit i (suc (suc d)) hi hd = absurd (omega arith)

  some_digits : (j : ℕ) → j ≤ k → (x : ℕ) → x < 2 ^ j → P x
  some_digits zero hj x hx = rw (lt-one hx) none
  some_digits (suc j) hj x hx =
      let low : x % 2 ^ j < 2 ^ j = mod-lt x (pow_pos j) in
      let high : x / 2 ^ j * 2 ^ j < 2 ^ k = lt_of_le_of_lt (div-mul-le_self x (2 ^ j)) (lt_of_lt_of_le hx (pow_mono hj)) in
      let parts : bit_xor (x / 2 ^ j * 2 ^ j) (x % 2 ^ j) ≡ x = xor_shifted (x / 2 ^ j) j (x % 2 ^ j) low ∙ split x j in
      let top : P (x / 2 ^ j * 2 ^ j) = one_digit j (x / 2 ^ j) hj (shr_lt 1 j (rw one-add hx)) in
      let rest : P (x % 2 ^ j) = some_digits j (le_of_lt hj) (x % 2 ^ j) low in
      subst P parts (joined _ _ high (lt_trans low (pow-lt hj)) top rest)

  pub by_digits : (x : ℕ) → x < 2 ^ k → P x
  by_digits = some_digits k (le_refl k)

-- two linear maps that agree at 2 ^ i for each i below k agree below 2 ^ k
pub linear_agree : (k : ℕ) (f g : ℕ → ℕ) → Linear k f → Linear k g → ((i : ℕ) → i < k → f (2 ^ i) ≡ g (2 ^ i)) → (x : ℕ) → x < 2 ^ k → f x ≡ g x
linear_agree k f g lf lg at =
    by_digits k (λ x. f x ≡ g x) (linear_zero k f lf ∙ sym (linear_zero k g lg)) at
    (λ x y hx hy ex ey. lf x y hx hy ∙ ap₂ bit_xor ex ey ∙ sym (lg x y hx hy))

-- a linear map whose values at 2 ^ i, for each i below k, are below 2 ^ j, has each value below 2 ^ j
pub linear_lt : (k j : ℕ) (f : ℕ → ℕ) → Linear k f → ((i : ℕ) → i < k → f (2 ^ i) < 2 ^ j) → (x : ℕ) → x < 2 ^ k → f x < 2 ^ j
linear_lt k j f lf at =
    by_digits k (λ x. f x < 2 ^ j) (rw (linear_zero k f lf) (pow_pos j)) at
    (λ x y hx hy sx sy. rw (lf x y hx hy) (xor_lt j (f x) (f y) sx sy))
