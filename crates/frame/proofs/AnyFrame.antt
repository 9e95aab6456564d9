-- The parts of any frame: of an exclusive-or of two, and of the bits of one; the bits by the parts.
-- Assumes nothing.
use Rattle.std.proofs.Common.{◌≡◌, ℕ, zero, suc, ◌+◌, ◌*◌, ◌/◌, ◌%◌, ◌^◌, ◌<◌, ◌≤◌, cond, eqb, List, [], ◌∷◌, length, get_or, sym, refl, ap, ◌∙◌, subst, ap₂, mul-le-mul_right, suc-mul, add-mul, zero-mul, arith}
use native.Mathlib.Nat.{mod-mod, mod-one}
use lib.Bits.{bit_xor}
use lib.Count.{ones}
use lib.Pow.{split, mod-pow-add}
use Rattle.std.proofs.lemmas.List.FromFn.{length-map-range_with_len, get_or-map-range_with_len, fill_by_all}
use Rattle.bits.specs.Digits.{pick}
use Rattle.bits.specs.Rows.{part, xored}
use Rattle.bits.proofs.Digits.{xor_middle, pick_linear}
use Rattle.bits.proofs.Rows.{part_under, part_xor, length_xored, xored_at}
use Rattle.frame.specs.Code.{Code, frame_bits, word, mask, sum, check, parity}
use Rattle.frame.specs.Checks.{xor_all}
use Rattle.frame.specs.Opening.{raw_salt, syndrome, opening_even, opening_odd, opening}
use Rattle.frame.specs.Promises.{bits_of}

-- a part of the n lowest digits
part_mod : (N n at w : ℕ) → at + w ≤ n → part (N % 2 ^ n) at w ≡ part N at w
part_mod N n at w h = sym (part_under (N % 2 ^ n) (N / 2 ^ n) n at w h) ∙ ap (λ x. part x at w) (split N n)

-- the blocks of any frame, m digits each
pub apart : (m i j : ℕ) → i < j → i * m + m ≤ j * m
apart m i j h = subst (λ n. n ≤ j * m) (suc-mul i m) (mul-le-mul_right m h)

pub word_length : (K : Code) (b N : ℕ) → length (word K b N) ≡ b
word_length K b N = length-map-range_with_len (λ i. part N (i * K.m) K.m) 0 b

pub word_at : (K : Code) (b N i : ℕ) → i < b → get_or (word K b N) i 0 ≡ part N (i * K.m) K.m
word_at K b N i h = get_or-map-range_with_len (λ i. part N (i * K.m) K.m) 0 b i i 0 h (omega arith)

-- a list that has the blocks of a frame is its word
pub word_from : (K : Code) (b N : ℕ) (ws : List ℕ) → length ws ≡ b → ((i : ℕ) → i < b → get_or ws i 0 ≡ part N (i * K.m) K.m) → word K b N ≡ ws
word_from K b N ws long each = sym (fill_by_all (λ i. part N (i * K.m) K.m) ws b 0 long each)

xor_all_xored : (xs ys : List ℕ) → length xs ≡ length ys → xor_all (xored xs ys) ≡ bit_xor (xor_all xs) (xor_all ys)
xor_all_xored [] [] e = refl
xor_all_xored [] (y ∷ ys) e = absurd (omega arith)
xor_all_xored (x ∷ xs) [] e = absurd (omega arith)
xor_all_xored (x ∷ xs) (y ∷ ys) e = ap (bit_xor (bit_xor x y)) (xor_all_xored xs ys (omega arith)) ∙ xor_middle x y (xor_all xs) (xor_all ys)

-- the parts of an exclusive-or of two frames; those of one run of digits are by part_xor
module _ (K : Code) (b N P : ℕ) where
  pub word_xor : word K b (bit_xor N P) ≡ xored (word K b N) (word K b P)
  word_xor =
      word_from K b (bit_xor N P) (xored (word K b N) (word K b P)) (length_xored (word K b N) (word K b P) ∙ word_length K b N) (λ i h.
      xored_at (word K b N) (word K b P) i (omega (arith, word_length K b N)) ∙ ap₂ bit_xor (word_at K b N i h) (word_at K b P i h)
      ∙ sym (part_xor N P (i * K.m) K.m))

  pub raw_xor : raw_salt K b (bit_xor N P) ≡ bit_xor (raw_salt K b N) (raw_salt K b P)
  raw_xor =
      ap₂ bit_xor (ap xor_all word_xor ∙ xor_all_xored (word K b N) (word K b P) (word_length K b N ∙ sym (word_length K b P))) (part_xor N P (b * K.m) K.m)
      ∙ xor_middle (xor_all (word K b N)) (xor_all (word K b P)) (mask K b N) (mask K b P)

  pub syndrome_xor : syndrome K b (bit_xor N P) ≡ bit_xor (syndrome K b N) (syndrome K b P)
  syndrome_xor =
      ap₂ bit_xor (ap (pick K.columns) raw_xor ∙ pick_linear K.columns (raw_salt K b N) (raw_salt K b P)) (part_xor N P ((b + 1) * K.m) K.r)
      ∙ xor_middle (pick K.columns (raw_salt K b N)) (pick K.columns (raw_salt K b P)) (sum K b N) (sum K b P)

-- an opening depends on the bits of the frame alone
module _ (K : Code) (b N : ℕ) where
  pub opening_bits : opening K b N ≡ opening K b (bits_of K b N)
  opening_bits =
      let n = frame_bits K b in
      let once = add-mul b 1 K.m in
      let twice = add-mul b 2 K.m in
      let words : word K b N ≡ word K b (N % 2 ^ n) =
      word_from K b N (word K b (N % 2 ^ n)) (word_length K b (N % 2 ^ n)) (λ i h. word_at K b (N % 2 ^ n) i h ∙ part_mod N n (i * K.m) K.m (omega (arith, apart K.m i b h, add-mul b 2 K.m))) in
      let masked : mask K b N ≡ mask K b (N % 2 ^ n) = sym (part_mod N n (b * K.m) K.m (omega arith)) in
      let summed : sum K b N ≡ sum K b (N % 2 ^ n) = sym (part_mod N n ((b + 1) * K.m) K.r (omega arith)) in
      let checked : check K b N ≡ check K b (N % 2 ^ n) = sym (part_mod N n ((b + 1) * K.m + K.r) K.m (omega arith)) in
      let raw : raw_salt K b N ≡ raw_salt K b (N % 2 ^ n) = ap₂ (λ ws x. bit_xor (xor_all ws) x) words masked in
      let gap : syndrome K b N ≡ syndrome K b (N % 2 ^ n) = ap₂ (λ x y. bit_xor (pick K.columns x) y) raw summed in
      λ i. cond (eqb (ones (sym (mod-mod N (2 ^ n)) i) % 2) 0)
      (opening_even K.m K.mul (words i) (raw i) (checked i) (gap i))
      (opening_odd K (words i) (raw i) (checked i) (gap i))

-- the bits of a frame are settled by its parts
more_bits : (N M k w end : ℕ) → k + w ≡ end → N % 2 ^ k ≡ M % 2 ^ k → part N k w ≡ part M k w → N % 2 ^ end ≡ M % 2 ^ end
more_bits N M k w end e lows parts =
    let turn : end ≡ w + k = omega arith in
    ap (λ n. N % 2 ^ n) turn ∙ mod-pow-add N w k ∙ ap₂ (λ x y. x * 2 ^ k + y) parts lows ∙ sym (mod-pow-add M w k) ∙ ap (λ n. M % 2 ^ n) (sym turn)

word_bits : (m b N M : ℕ) → ((i : ℕ) → i < b → part N (i * m) m ≡ part M (i * m) m) → N % 2 ^ (b * m) ≡ M % 2 ^ (b * m)
word_bits m zero N M same =
    ap (λ k. N % 2 ^ k) (zero-mul m) ∙ mod-one N ∙ sym (ap (λ k. M % 2 ^ k) (zero-mul m) ∙ mod-one M)
word_bits m (suc b) N M same =
    more_bits N M (b * m) m (suc b * m) (sym (suc-mul b m)) (word_bits m b N M (λ i h. same i (omega arith))) (same b (omega arith))

pub same_bits : (K : Code) (b N M : ℕ) → word K b N ≡ word K b M → mask K b N ≡ mask K b M → sum K b N ≡ sum K b M → check K b N ≡ check K b M → parity K b N ≡ parity K b M → bits_of K b N ≡ bits_of K b M
same_bits K b N M words masks sums checks parities =
    let m = K.m in
    let r = K.r in
    let once = add-mul b 1 m in
    let twice = add-mul b 2 m in
    let blocks = word_bits m b N M (λ i h. sym (word_at K b N i h) ∙ ap (λ ws. get_or ws i 0) words ∙ word_at K b M i h) in
    let with_mask = more_bits N M (b * m) m ((b + 1) * m) (omega arith) blocks masks in
    let with_sum = more_bits N M ((b + 1) * m) r ((b + 1) * m + r) refl with_mask sums in
    let with_check = more_bits N M ((b + 1) * m + r) m ((b + 2) * m + r) (omega arith) with_sum checks in
    more_bits N M ((b + 2) * m + r) 1 ((b + 2) * m + r + 1) refl with_check parities
