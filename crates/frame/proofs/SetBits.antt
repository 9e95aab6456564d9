-- Set binary digits: a number with one of them and with two, and their count in an exclusive-or.
-- Assumes nothing.
use Rattle.std.proofs.Common.{◌≡◌, ℕ, zero, suc, ◌+◌, ◌-◌, ◌*◌, ◌/◌, ◌%◌, ◌^◌, ◌<◌, ◌≤◌, ◌⊎◌, List, [], ◌∷◌, length, get_or, sym, refl, ap, ◌∙◌, ap₂, inl, inr, ⊎_elim, add-zero, mod-lt, one-mul, pow-suc, zero-mul, mul-div_cancel, arith, pow_pos, pow-add}
use native.Mathlib.Nat.{zero-div, zero-mod, div-eq_of_lt, mul-mod_left}
use lib.Arith.{bin_ind, lt-one}
use lib.Bits.{bit_xor, xor_zero_l, xor_zero_r, xor_shr, xor_mod, xor_shifted}
use lib.Count.{ones, ones_cat, ones-ones, ones_step}
use lib.Pow.{pow-lt}
use Rattle.std.proofs.lemmas.Bool.{cases_lt, cases_order}
use Rattle.bits.specs.Digits.{pick}
use Rattle.bits.specs.Rows.{part}
use Rattle.bits.proofs.Digits.{pick_linear, linear_zero}
use Rattle.bits.proofs.Rows.{part_under, part_top, part_xor}

pub pow_same : (s t : ℕ) → 2 ^ s ≡ 2 ^ t → s ≡ t
pow_same s t e =
    ⊎_elim (λ same. same)
    (λ ways. absurd (⊎_elim (λ (l : s < t). let p : 2 ^ s < 2 ^ t = pow-lt l in omega arith) (λ (l : t < s). let p : 2 ^ t < 2 ^ s = pow-lt l in omega arith) ways))
    (cases_order s t)

-- one column is picked by a power of two, none by 0
pub pick_none : (cs : List ℕ) → pick cs 0 ≡ 0
pick_none cs = linear_zero 0 (pick cs) (λ x y hx hy. pick_linear cs x y)

pub pick_power : (cs : List ℕ) (t : ℕ) → t < length cs → pick cs (2 ^ t) ≡ get_or cs t 0
pick_power [] t h = absurd (omega arith)
pick_power (c ∷ cs) zero h = ap₂ bit_xor (one-mul c) (pick_none cs) ∙ xor_zero_r c
pick_power (c ∷ cs) (suc t) h =
    let two : 0 < 2 = omega arith in
    ap (pick (c ∷ cs)) (pow-suc 2 t)
    ∙ ap₂ (λ d x. bit_xor (d * c) (pick cs x)) (mul-mod_left (2 ^ t) 2) (mul-div_cancel (2 ^ t) two)
    ∙ ap (λ x. bit_xor x (pick cs (2 ^ t))) (zero-mul c) ∙ xor_zero_l (pick cs (2 ^ t)) ∙ pick_power cs t (omega arith)

-- a part of a number in which digit k is flipped: with the digit in it, and without
pub flip_in : (N k at t w : ℕ) → at + t ≡ k → t < w → part (bit_xor N (2 ^ k)) at w ≡ bit_xor (part N at w) (2 ^ t)
flip_in N k at t w e h =
    let up : 2 ^ k ≡ 2 ^ t * 2 ^ at + 0 = ap (λ n. 2 ^ n) {x = k} {y = t + at} (omega arith) ∙ pow-add 2 t at ∙ sym (add-zero (2 ^ t * 2 ^ at)) in
    part_xor N (2 ^ k) at w ∙ ap (bit_xor (part N at w)) (ap (λ n. part n at w) up ∙ part_top 0 (2 ^ t) at w (pow_pos at) (pow-lt h))

pub flip_out : (N k at w : ℕ) → (k < at) ⊎ (at + w ≤ k) → part (bit_xor N (2 ^ k)) at w ≡ part N at w
flip_out N k at w beside = part_xor N (2 ^ k) at w ∙ ap (bit_xor (part N at w)) (none beside) ∙ xor_zero_r (part N at w)
  where
    none : (k < at) ⊎ (at + w ≤ k) → part (2 ^ k) at w ≡ 0
    none (inl under) = ap (λ x. x % 2 ^ w) (div-eq_of_lt (pow-lt under)) ∙ zero-mod (2 ^ w)
    none (inr over) =
        let up : 2 ^ k ≡ 1 * 2 ^ k + 0 = omega arith in
        ap (λ n. part n at w) up ∙ part_under 0 1 k at w over ∙ ap (λ x. x % 2 ^ w) (zero-div (2 ^ at)) ∙ zero-mod (2 ^ w)

-- the ones of an exclusive-or are even or odd as those of both sides together
digits_xor : (p q : ℕ) → p < 2 → q < 2 → (bit_xor p q + (p + q)) % 2 ≡ 0
digits_xor zero zero hp hq = refl
digits_xor zero (suc zero) hp hq = refl
digits_xor (suc zero) zero hp hq = refl
digits_xor (suc zero) (suc zero) hp hq = refl
digits_xor zero (suc (suc q)) hp hq = absurd (omega arith)
digits_xor (suc zero) (suc (suc q)) hp hq = absurd (omega arith)
digits_xor (suc (suc p)) q hp hq = absurd (omega arith)

pub ones_xor : (x y : ℕ) → (ones (bit_xor x y) + (ones x + ones y)) % 2 ≡ 0
ones_xor = bin_ind (λ x. (y : ℕ) → (ones (bit_xor x y) + (ones x + ones y)) % 2 ≡ 0) none more
  where
    none : (y : ℕ) → (ones y + (ones 0 + ones y)) % 2 ≡ 0
    none y = let zero-ones : ones 0 ≡ 0 = ones-ones 0 in omega arith

    more : (n : ℕ) → ((y : ℕ) → (ones (bit_xor (n / 2) y) + (ones (n / 2) + ones y)) % 2 ≡ 0) → (y : ℕ) → (ones (bit_xor n y) + (ones n + ones y)) % 2 ≡ 0
    more n ih y =
        let whole : ones (bit_xor n y) ≡ bit_xor (n % 2) (y % 2) + ones (bit_xor (n / 2) (y / 2)) = ones_step (bit_xor n y) ∙ ap₂ (λ d x. d + ones x) (xor_mod n y 1) (xor_shr n y 1) in
        let digit = digits_xor (n % 2) (y % 2) (mod-lt n (omega arith)) (mod-lt y (omega arith)) in
        let left = ones_step n in
        let right = ones_step y in
        let rest = ih (y / 2) in
        omega arith

pub ones_power : (k : ℕ) → ones (2 ^ k) ≡ 1
ones_power k =
    let up : 2 ^ k ≡ 1 * 2 ^ k + 0 = omega arith in
    ap ones up ∙ ones_cat k 1 0 (pow_pos k) ∙ ap₂ ◌+◌ (ones-ones 1) (ones-ones 0)

-- the digit n of a number of n + 1 digits is set, or not
record Topped (n P : ℕ) : Type 0 where
  rest : ℕ
  small : rest < 2 ^ n
  is : P ≡ bit_xor (2 ^ n) rest
  count : ones P ≡ suc (ones rest)

top_digit : (n P : ℕ) → P < 2 ^ suc n → (P < 2 ^ n) ⊎ Topped n P
top_digit n P h = ⊎_elim inl (λ over. inr (topped over)) (cases_lt P (2 ^ n))
  where
    topped : 2 ^ n ≤ P → Topped n P
    topped over =
        let double : 2 ^ suc n ≡ 2 ^ n * 2 = pow-suc 2 n in
        let small : P - 2 ^ n < 2 ^ n = omega arith in
        let whole : P ≡ 1 * 2 ^ n + (P - 2 ^ n) = omega arith in
        let one : 1 * 2 ^ n ≡ 2 ^ n = one-mul (2 ^ n) in
        record {
          rest = P - 2 ^ n;
          small = small;
          is = whole ∙ sym (xor_shifted 1 n (P - 2 ^ n) small) ∙ ap (λ x. bit_xor x (P - 2 ^ n)) one;
          count = ap ones whole ∙ ones_cat n 1 (P - 2 ^ n) small ∙ ap (λ x. x + ones (P - 2 ^ n)) (ones-ones 1) ∙ omega arith;
        }

no_ones : (n P : ℕ) → P < 2 ^ n → ones P ≡ 0 → P ≡ 0
no_ones zero P h e = lt-one h
no_ones (suc n) P h e = ⊎_elim (λ under. no_ones n P under e) (λ (t : Topped n P). absurd (omega arith)) (top_digit n P h)

-- the highest set digit
record Top (n P c : ℕ) : Type 0 where
  place : ℕ
  inside : place < n
  rest : ℕ
  small : rest < 2 ^ place
  is : P ≡ bit_xor (2 ^ place) rest
  left : ones rest ≡ c

top : (n P c : ℕ) → P < 2 ^ n → ones P ≡ suc c → Top n P c
top zero P c h e =
    let none : ones P ≡ 0 = ap ones (lt-one h) ∙ ones-ones 0 in
    absurd (omega arith)
top (suc n) P c h e =
    ⊎_elim
    (λ under. let t = top n P c under e in record { place = t.place; inside = omega arith; rest = t.rest; small = t.small; is = t.is; left = t.left })
    (λ (t : Topped n P). record { place = n; inside = omega arith; rest = t.rest; small = t.small; is = t.is; left = omega arith })
    (top_digit n P h)

-- a number with two set digits
pub record Two (n P : ℕ) : Type 0 where
  pub low : ℕ
  pub high : ℕ
  pub ordered : low < high
  pub inside : high < n
  pub is : P ≡ bit_xor (2 ^ high) (2 ^ low)

pub two_digits : (n P : ℕ) → P < 2 ^ n → ones P ≡ 2 → Two n P
two_digits n P h e =
    let t = top n P 1 h e in
    let u = top t.place t.rest 0 t.small t.left in
    let none : u.rest ≡ 0 = no_ones u.place u.rest u.small u.left in
    record {
      low = u.place;
      high = t.place;
      ordered = u.inside;
      inside = t.inside;
      is = t.is ∙ ap (bit_xor (2 ^ t.place)) (u.is ∙ ap (bit_xor (2 ^ u.place)) none ∙ xor_zero_r (2 ^ u.place));
    }
