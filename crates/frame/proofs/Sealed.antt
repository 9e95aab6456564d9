-- The parts of a sealing, and of a sealing with a pattern exclusive-ored in.
-- Assumes nothing.
use Rattle.std.proofs.Common.{◌≡◌, ℕ, zero, suc, ◌+◌, ◌-◌, ◌*◌, ◌/◌, ◌%◌, ◌^◌, ◌<◌, ◌≤◌, List, [], ◌∷◌, length, get_or, sym, refl, ap, ◌∙◌, subst, ap₂, suc-mul, add-mul, zero-add, zero-mul, div-one, arith, pow_pos, shr-shr}
use lib.Bits.{bit_xor, xor_assoc, xor_self, xor_zero_l, xor_lt}
use lib.Count.{ones, ones_cat}
use lib.Pow.{high, low}
use Rattle.std.proofs.lemmas.List.FromFn.{fill_by_all}
use Rattle.std.proofs.ByRecursion.{All-from_get_or}
use Rattle.bits.specs.Digits.{pick}
use Rattle.bits.specs.Rows.{part, xored}
use Rattle.bits.proofs.Digits.{pick_lt}
use Rattle.bits.proofs.Rows.{part_under, part_top, part_xor, put_lt}
use Rattle.field.specs.Laws.{Laws}
use Rattle.field.specs.Powers.{power}
use Rattle.field.proofs.Powers.{power_lt}
use Rattle.salt.proofs.Admitted.{admitted_lt}
use Rattle.columns.specs.Columns as Columns
use Rattle.frame.specs.Code.{Code, frame_bits, word, mask, sum, check}
use Rattle.frame.specs.Checks.{Below, xor_all, weight, terms, check_value}
use Rattle.frame.specs.Opening.{raw_salt, syndrome}
use Rattle.frame.specs.Sealing.{stacked, body, sealing}
use Rattle.frame.specs.Promises.{Sealable}
use Rattle.frame.proofs.Counts.{ones_bit}
use Rattle.frame.proofs.Values.{horner, horner_terms}
use Rattle.frame.proofs.AnyFrame.{apart, word_xor, raw_xor, syndrome_xor}

-- digits above the a digits of n, and these
part_above : (v n a b w : ℕ) → n < 2 ^ a → part (v * 2 ^ a + n) (a + b) w ≡ part v b w
part_above v n a b w h = ap (λ x. x % 2 ^ w) (sym (shr-shr (v * 2 ^ a + n) a b) ∙ ap (λ x. x / 2 ^ b) (high v a h))

part_low : (v n a : ℕ) → n < 2 ^ a → part (v * 2 ^ a + n) 0 a ≡ n
part_low v n a h = ap (λ x. x % 2 ^ a) (div-one (v * 2 ^ a + n)) ∙ low v a h

-- blocks one above the other: what stands above them, each of them, and their bound
module _ (m : ℕ) where
  stacked_above : (ys : List ℕ) (top at w : ℕ) → Below m ys → part (stacked m ys top) (length ys * m + at) w ≡ part top at w
  stacked_above [] top at w h = ap (λ k. part top k w) (ap (λ z. z + at) (zero-mul m) ∙ zero-add at)
  stacked_above (y ∷ ys) top at w h =
      let e : suc (length ys) * m + at ≡ m + (length ys * m + at) = omega (arith, suc-mul (length ys) m) in
      ap (λ k. part (stacked m ys top * 2 ^ m + y) k w) e ∙ part_above (stacked m ys top) y m (length ys * m + at) w (h 0)
      ∙ stacked_above ys top at w (λ i. h (suc i))

  stacked_at : (ys : List ℕ) (top k : ℕ) → Below m ys → k < length ys → part (stacked m ys top) (k * m) m ≡ get_or ys k 0
  stacked_at [] top k h inside = absurd (omega arith)
  stacked_at (y ∷ ys) top zero h inside = ap (λ k. part (stacked m ys top * 2 ^ m + y) k m) (zero-mul m) ∙ part_low (stacked m ys top) y m (h 0)
  stacked_at (y ∷ ys) top (suc k) h inside =
      let e : suc k * m ≡ m + k * m = omega (arith, suc-mul k m) in
      ap (λ k. part (stacked m ys top * 2 ^ m + y) k m) e ∙ part_above (stacked m ys top) y m (k * m) m (h 0)
      ∙ stacked_at ys top k (λ i. h (suc i)) (omega arith)

  stacked_lt : (ys : List ℕ) (top w : ℕ) → Below m ys → top < 2 ^ w → stacked m ys top < 2 ^ (length ys * m + w)
  stacked_lt [] top w h small = subst (λ k. top < 2 ^ k) (sym (ap (λ z. z + w) (zero-mul m) ∙ zero-add w)) small
  stacked_lt (y ∷ ys) top w h small =
      let e : m + (length ys * m + w) ≡ suc (length ys) * m + w = omega (arith, suc-mul (length ys) m) in
      subst (λ k. stacked m (y ∷ ys) top < 2 ^ k) e (put_lt y (stacked m ys top) m (length ys * m + w) (h 0) (stacked_lt ys top w (λ i. h (suc i)) small))

  pub xor_all_lt : (ys : List ℕ) → Below m ys → xor_all ys < 2 ^ m
  xor_all_lt [] h = pow_pos m
  xor_all_lt (y ∷ ys) h = xor_lt m y (xor_all ys) (h 0) (xor_all_lt ys (λ i. h (suc i)))

  horner_lt : (mul : ℕ → ℕ → ℕ) → Laws m mul → (a : ℕ) (ys : List ℕ) (t : ℕ) → a < 2 ^ m → Below m ys → t < 2 ^ m → horner mul a ys t < 2 ^ m
  horner_lt mul laws a [] t ha h ht = ht
  horner_lt mul laws a (y ∷ ys) t ha h ht =
      laws.closed a _ ha (xor_lt m y (horner mul a ys t) (h 0) (horner_lt mul laws a ys t ha (λ i. h (suc i)) ht))

  pub value_lt : (mul : ℕ → ℕ → ℕ) → Laws m mul → (a : ℕ) (ys : List ℕ) → a < 2 ^ m → Below m ys → check_value mul ys a < 2 ^ m
  value_lt mul laws a ys ha h =
      let k : ℕ = weight (length ys) + 1 - length ys in
      let e : k + length ys ≡ weight (length ys) + 1 = omega arith in
      subst (λ x. x < 2 ^ m) (horner_terms m mul laws a ha ys k h ∙ ap (λ n. bit_xor (terms mul a 1 ys) (power mul a n)) e)
      (horner_lt mul laws a ys (power mul a k) ha h (power_lt m mul laws a k ha))

-- what was exclusive-ored in twice is gone
pub xor_back : (x y : ℕ) → bit_xor x (bit_xor x y) ≡ y
xor_back x y = sym (xor_assoc x x y) ∙ ap (λ z. bit_xor z y) (xor_self x) ∙ xor_zero_l y

-- the parts of the frame S are those of the sealing of ys with a
pub record PartsOf (K : Code) (ys : List ℕ) (a S : ℕ) : Type 0 where
  pub words : word K (length ys) S ≡ ys
  pub masked : mask K (length ys) S ≡ bit_xor (xor_all ys) a
  pub summed : sum K (length ys) S ≡ pick K.columns a
  pub checked : check K (length ys) S ≡ check_value K.mul ys a
  pub raw : raw_salt K (length ys) S ≡ a
  pub gap : syndrome K (length ys) S ≡ 0
  pub small : S < 2 ^ frame_bits K (length ys)
  pub even : ones S % 2 ≡ 0

module _ (K : Code) (laws : Laws K.m K.mul) (columns : Columns.Laws K.columns K.r) (ys : List ℕ) (a : ℕ) (ok : Sealable K ys a) where
  abbrev m : ℕ
  m = K.m

  abbrev r : ℕ
  r = K.r

  abbrev b : ℕ
  b = length ys

  abbrev c : ℕ
  c = check_value K.mul ys a

  abbrev s : ℕ
  s = pick K.columns a

  abbrev k : ℕ
  k = bit_xor (xor_all ys) a

  abbrev top : ℕ
  top = (c * 2 ^ r + s) * 2 ^ m + k

  abbrev S : ℕ
  S = sealing K ys a

  salt_lt : a < 2 ^ m
  salt_lt = admitted_lt m K.mul b a ok.salt

  k_lt : k < 2 ^ m
  k_lt = xor_lt m (xor_all ys) a (xor_all_lt m ys ok.word.small) salt_lt

  s_lt : s < 2 ^ r
  s_lt = pick_lt r K.columns a (All-from_get_or (λ x. x < 2 ^ r) K.columns 0 columns.small)

  c_lt : c < 2 ^ m
  c_lt = value_lt m K.mul laws a ys salt_lt ok.word.small

  body_lt : body K ys a < 2 ^ ((b + 2) * m + r)
  body_lt =
      let e : b * m + (m + (r + m)) ≡ (b + 2) * m + r = omega (arith, add-mul b 2 m) in
      subst (λ n. body K ys a < 2 ^ n) e
      (stacked_lt m ys top (m + (r + m)) ok.word.small (put_lt k (c * 2 ^ r + s) m (r + m) k_lt (put_lt s c r m s_lt c_lt)))

  -- the parts below the parity bit, and those above the blocks
  below_parity : (at w : ℕ) → at + w ≤ (b + 2) * m + r → part S at w ≡ part (body K ys a) at w
  below_parity at w h = part_under (body K ys a) (ones (body K ys a) % 2) ((b + 2) * m + r) at w h

  above_blocks : (at up w : ℕ) → at ≡ b * m + up → at + w ≤ (b + 2) * m + r → part S at w ≡ part top up w
  above_blocks at up w e h =
      below_parity at w h ∙ ap (λ n. part (body K ys a) n w) e ∙ stacked_above m ys top up w ok.word.small

  the_words : word K b S ≡ ys
  the_words =
      sym (fill_by_all (λ i. part S (i * m) m) ys b 0 refl (λ i h.
      sym (below_parity (i * m) m (omega (arith, apart m i b h, add-mul b 2 m)) ∙ stacked_at m ys top i ok.word.small h)))

  the_mask : mask K b S ≡ k
  the_mask = above_blocks (b * m) 0 m (omega arith) (omega (arith, add-mul b 2 m)) ∙ part_low (c * 2 ^ r + s) k m k_lt

  the_sum : sum K b S ≡ s
  the_sum =
      above_blocks ((b + 1) * m) (m + 0) r (omega (arith, add-mul b 1 m)) (omega (arith, add-mul b 1 m, add-mul b 2 m))
      ∙ part_above (c * 2 ^ r + s) k m 0 r k_lt ∙ part_low c s r s_lt

  the_check : check K b S ≡ c
  the_check =
      above_blocks ((b + 1) * m + r) (m + r) m (omega (arith, add-mul b 1 m)) (omega (arith, add-mul b 1 m, add-mul b 2 m))
      ∙ part_above (c * 2 ^ r + s) k m r m k_lt ∙ part_top s c r m s_lt c_lt

  the_raw : raw_salt K b S ≡ a
  the_raw = ap₂ (λ ws x. bit_xor (xor_all ws) x) the_words the_mask ∙ xor_back (xor_all ys) a

  pub sealing_parts : PartsOf K ys a S
  sealing_parts =
      let digit : ones (body K ys a) % 2 < 2 = omega arith in
      let counted = ones_cat ((b + 2) * m + r) (ones (body K ys a) % 2) (body K ys a) body_lt in
      let top_digit = ones_bit (ones (body K ys a) % 2) digit in
      record {
        words = the_words;
        masked = the_mask;
        summed = the_sum;
        checked = the_check;
        raw = the_raw;
        gap = ap₂ (λ x y. bit_xor (pick K.columns x) y) the_raw the_sum ∙ xor_self s;
        small = put_lt (body K ys a) (ones (body K ys a) % 2) ((b + 2) * m + r) 1 body_lt digit;
        even = ap (λ n. n % 2) (counted ∙ ap (λ n. n + ones (body K ys a)) top_digit) ∙ omega arith;
      }

-- the parts of a sealing with a pattern exclusive-ored in
pub record Struck (K : Code) (ys : List ℕ) (a P : ℕ) : Type 0 where
  pub words : word K (length ys) (bit_xor (sealing K ys a) P) ≡ xored ys (word K (length ys) P)
  pub raw : raw_salt K (length ys) (bit_xor (sealing K ys a) P) ≡ bit_xor a (raw_salt K (length ys) P)
  pub gap : syndrome K (length ys) (bit_xor (sealing K ys a) P) ≡ syndrome K (length ys) P
  pub checked : check K (length ys) (bit_xor (sealing K ys a) P) ≡ bit_xor (check_value K.mul ys a) (check K (length ys) P)

pub struck_parts : (K : Code) → Laws K.m K.mul → Columns.Laws K.columns K.r → (ys : List ℕ) (a : ℕ) → Sealable K ys a → (P : ℕ) → Struck K ys a P
struck_parts K laws columns ys a ok P =
    let is = sealing_parts K laws columns ys a ok in
    let b = length ys in
    let S = sealing K ys a in
    record {
      words = word_xor K b S P ∙ ap (λ ws. xored ws (word K b P)) is.words;
      raw = raw_xor K b S P ∙ ap (λ x. bit_xor x (raw_salt K b P)) is.raw;
      gap = syndrome_xor K b S P ∙ ap (λ x. bit_xor x (syndrome K b P)) is.gap ∙ xor_zero_l (syndrome K b P);
      checked = part_xor S P ((b + 1) * K.m + K.r) K.m ∙ ap (λ x. bit_xor x (check K b P)) is.checked;
    }
