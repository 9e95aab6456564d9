-- One flip of a sealed frame is mended, or refused in the check block.
-- Assumes nothing.
use Rattle.std.proofs.Common.{◌≡◌, ℕ, suc, ◌+◌, ◌-◌, ◌*◌, ◌/◌, ◌%◌, ◌^◌, ◌<◌, ◌≤◌, true, cond, eqb, ltb, ◌⊎◌, List, length, get_or, set, Some, None, sym, refl, ap, ◌∙◌, ap₂, inl, inr, ⊎_elim, mod-eq_of_lt, add-mul, arith, get_or-set_same, set-set}
use lib.Arith.{digits_div, digits_mod}
use lib.Bits.{bit_xor, xor_zero_r, xor_lt}
use lib.Count.{ones}
use lib.Pow.{pow-lt}
use lib.Seq.{set-get_or}
use Rattle.std.proofs.lemmas.Bool.{cond-true, cond-false, lt-ltb, le-ltb, eq-eqb, ne_eqb, cases_lt}
use Rattle.std.specs.Option.{option_map}
use Rattle.field.specs.Laws.{Laws}
use Rattle.salt.specs.Admitted.{admitted}
use Rattle.columns.specs.Columns as Columns
use Rattle.frame.specs.Code.{Code, frame_bits, word, check}
use Rattle.frame.specs.Checks.{check_value}
use Rattle.frame.specs.Opening.{Outcome, mended, refused, flipped, in_block, bit_hit, beside, beside_hit, by_column, opening_odd, opening}
use Rattle.frame.specs.Sealing.{sealing}
use Rattle.frame.specs.Promises.{Sealable, part_hit, OneFlip}
use Rattle.frame.specs.declared.verdict.Part.{Part}
use Rattle.frame.specs.declared.verdict.Part.TheVariants.{Block, Mask, Sum, Parity}
use Rattle.frame.specs.declared.verdict.OpenFault.TheVariants.{Salt, Unmended}
use Rattle.frame.proofs.AnyFrame.{apart, word_length, opening_bits}
use Rattle.frame.proofs.Decisions.{judged_part, judged_other, fitting, column_found, column_missing, opens_odd}
use Rattle.frame.proofs.First.{first_hit}
use Rattle.frame.proofs.Flips.{pow_nonzero, xor_twice, change, salt_lt, change_same, change_nonzero, full, wide, distance_none}
use Rattle.frame.proofs.Hits.{Hit, salt_bit, sum_bit, last_bit, hit, salt_change, gap_change, value_change, distance, word_kept, word_hit, flip_raw, flip_gap, flip_value}
use Rattle.frame.proofs.Sealed.{sealing_parts}
use Rattle.frame.proofs.SetBits.{pow_same, ones_xor, ones_power}
use Rattle.frame.proofs.Values.{places_below}

-- what was flipped twice stands again
flipped_twice : (ys : List ℕ) (i t : ℕ) → i < length ys → flipped (flipped ys i t) i t ≡ ys
flipped_twice ys i t h =
    let v = bit_xor (get_or ys i 0) (2 ^ t) in
    set-set ys i v (bit_xor (get_or (flipped ys i t) i 0) (2 ^ t))
    ∙ ap (λ x. set ys i (bit_xor x (2 ^ t))) (get_or-set_same ys i v 0 h) ∙ ap (set ys i) (xor_twice (get_or ys i 0) (2 ^ t)) ∙ set-get_or ys i 0

-- the part of the frame in which a bit lies, by the tests of its place
module _ (K : Code) (b k : ℕ) where
  past_blocks : b * K.m ≤ k → part_hit K b k ≡ cond (ltb k ((b + 1) * K.m)) (Some (Mask (k - b * K.m))) (cond (ltb k ((b + 1) * K.m + K.r)) (Some (Sum (k - (b + 1) * K.m))) (cond (ltb k ((b + 2) * K.m + K.r)) None (Some Parity)))
  past_blocks h = cond-false (ltb k (b * K.m)) _ _ (le-ltb k (b * K.m) h)

  past_sum : (b + 1) * K.m + K.r ≤ k → part_hit K b k ≡ cond (ltb k ((b + 2) * K.m + K.r)) None (Some Parity)
  past_sum h =
      past_blocks (omega (arith, add-mul b 1 K.m)) ∙ cond-false (ltb k ((b + 1) * K.m)) _ _ (le-ltb k _ (omega arith))
      ∙ cond-false (ltb k ((b + 1) * K.m + K.r)) _ _ (le-ltb k _ h)

  in_blocks : (i t : ℕ) → i < b → t < K.m → i * K.m + t ≡ k → part_hit K b k ≡ Some (Block (suc i) t)
  in_blocks i t hi ht is =
      cond-true (ltb k (b * K.m)) _ _ (lt-ltb k _ (omega (arith, apart K.m i b hi)))
      ∙ ap₂ (λ x y. Some (Block (suc x) y)) (ap (λ n. n / K.m) (sym is) ∙ digits_div i ht) (ap (λ n. n % K.m) (sym is) ∙ digits_mod i ht)

  in_mask : (t : ℕ) → t < K.m → b * K.m + t ≡ k → part_hit K b k ≡ Some (Mask t)
  in_mask t ht is =
      past_blocks (omega arith) ∙ cond-true (ltb k ((b + 1) * K.m)) _ _ (lt-ltb k _ (omega (arith, add-mul b 1 K.m))) ∙ ap (λ n. Some (Mask n)) {x = k - b * K.m} {y = t} (omega arith)

  in_sum : (t : ℕ) → t < K.r → (b + 1) * K.m + t ≡ k → part_hit K b k ≡ Some (Sum t)
  in_sum t ht is =
      past_blocks (omega (arith, add-mul b 1 K.m)) ∙ cond-false (ltb k ((b + 1) * K.m)) _ _ (le-ltb k _ (omega arith))
      ∙ cond-true (ltb k ((b + 1) * K.m + K.r)) _ _ (lt-ltb k _ (omega arith)) ∙ ap (λ n. Some (Sum n)) {x = k - (b + 1) * K.m} {y = t} (omega arith)

  in_check : (t : ℕ) → t < K.m → (b + 1) * K.m + K.r + t ≡ k → part_hit K b k ≡ None
  in_check t ht is =
      past_sum (omega arith) ∙ cond-true (ltb k ((b + 2) * K.m + K.r)) _ _ (lt-ltb k _ (omega (arith, add-mul b 1 K.m, add-mul b 2 K.m)))

  in_parity : (t : ℕ) → K.m ≤ t → (b + 1) * K.m + K.r + t ≡ k → part_hit K b k ≡ Some Parity
  in_parity t past is =
      past_sum (omega arith) ∙ cond-false (ltb k ((b + 2) * K.m + K.r)) _ _ (le-ltb k _ (omega (arith, add-mul b 1 K.m, add-mul b 2 K.m)))

-- a bit in that part: mended to ys and a, or refused in the check block
abbrev Fate : Code → List ℕ → ℕ → ℕ → Outcome → Type 0
Fate K ys a k o =
    ((part : Part) × (part_hit K (length ys) k ≡ Some part) × (o ≡ mended part ys a))
    ⊎ ((part_hit K (length ys) k ≡ None) × (o ≡ refused Unmended))

module _ (K : Code) (laws : Laws K.m K.mul) (columns : Columns.Laws K.columns K.r) (ys : List ℕ) (a : ℕ) (ok : Sealable K ys a) (k : ℕ) (inside : k < frame_bits K (length ys)) where
  abbrev b : ℕ
  b = length ys

  abbrev M : ℕ
  M = bit_xor (sealing K ys a) (2 ^ k)

  abbrev W : List ℕ
  W = word K b M

  abbrev c : ℕ
  c = check K b M

  few : length W ≡ b
  few = word_length K b M

  fit : admitted K.m K.mul (length W) a ≡ true
  fit = ap (λ n. admitted K.m K.mul n a) few ∙ ok.salt

  -- the frame is odd
  opens : (h : Hit K b k) → opening K b M ≡ opening_odd K W (bit_xor a (salt_change K b k h)) c (gap_change K b k h)
  opens h =
      let is = sealing_parts K laws columns ys a ok in
      let S = sealing K ys a in
      let raw = flip_raw K b k S h ∙ ap (λ x. bit_xor x (salt_change K b k h)) is.raw in
      let gap = flip_gap K b k S (full K laws columns ys a ok) h ∙ ap (λ x. bit_xor x (gap_change K b k h)) is.gap in
      let bound : 2 ^ k < 2 ^ frame_bits K b = pow-lt inside in
      let small = xor_lt (frame_bits K b) S (2 ^ k) is.small bound in
      let both = ones_xor S (2 ^ k) in
      let one = ones_power k in
      let even = is.even in
      sym (opens_odd K b M W (bit_xor a (salt_change K b k h)) c (gap_change K b k h) (ones M) refl (sym raw) refl (sym gap) (ap ones (sym (mod-eq_of_lt small))) (λ e. omega arith))

  valued : (h : Hit K b k) → value_change K a b k h ≡ distance K a b M
  valued h =
      sym (flip_value K b k (sealing K ys a) laws a (salt_lt K laws ys a ok) h
      ∙ ap (λ x. bit_xor x (value_change K a b k h)) (distance_none K laws columns ys a ok))

  same_word : b * K.m ≤ k → W ≡ ys
  same_word above = word_kept K b k (sealing K ys a) above ∙ (sealing_parts K laws columns ys a ok).words

  -- the syndrome is a column: the salt is put right
  by_bit : (t : ℕ) → t < K.m → opening_odd K W (bit_xor a (2 ^ t)) c (get_or K.columns t 0) ≡ bit_hit K.m K.mul W a c t
  by_bit t ht =
      ap (by_column K W (bit_xor a (2 ^ t)) c (get_or K.columns t 0)) (column_found K.columns K.r t _ columns (omega (arith, full K laws columns ys a ok)) refl)
      ∙ ap (λ x. bit_hit K.m K.mul W x c t) (xor_twice a (2 ^ t))

  -- it is none: the salt stands
  by_part : (s : ℕ) (part : Part) → ((t : ℕ) → (t < length K.columns) × (get_or K.columns t 0 ≡ s) → ⊥) → beside K.r s ≡ Some part → opening_odd K W (bit_xor a 0) c s ≡ beside_hit K.m K.mul W a c (Some part)
  by_part s part none is =
      ap (by_column K W (bit_xor a 0) c s) (column_missing K.columns s none)
      ∙ ap₂ (λ x p. beside_hit K.m K.mul W x c p) (xor_zero_r a) is

  found_block : (i t : ℕ) → i < b → t < K.m → i * K.m + t ≡ k → distance K a b M ≡ change K laws ys a ok t i → bit_hit K.m K.mul W a c t ≡ mended (Block (suc i) t) ys a
  found_block i t hi ht is far =
      let d = change K laws ys a ok t i in
      let small = salt_lt K laws ys a ok in
      judged_other K.m K.mul W a c (Mask t) _ d fit (sym far) (change_nonzero K laws ys a ok t ht i hi)
      ∙ ap (in_block W a t)
      (fitting K.m K.mul laws W a c t d small (places_below K.m b M) ht (sym far)
      ∙ first_hit (λ j. eqb (change K laws ys a ok t j) d) (length W) i (omega (arith, few)) (eq-eqb d d refl) (λ j l.
      ne_eqb (change K laws ys a ok t j) d (λ e. let same = change_same K laws ys a ok t ht j i (omega arith) hi e in omega arith)))
      ∙ ap (λ ws. mended (Block (suc i) t) ws a)
      (ap (λ ws. flipped ws i t) (word_hit K b k (sealing K ys a) i t hi ht is ∙ ap (λ ws. flipped ws i t) (sealing_parts K laws columns ys a ok).words) ∙ flipped_twice ys i t hi)

  found_part : (part : Part) (other : Outcome) → b * K.m ≤ k → distance K a b M ≡ 0 → cond (admitted K.m K.mul (length W) a) (cond (eqb (check_value K.mul W a) c) (mended part W a) other) (refused Salt) ≡ mended part ys a
  found_part part other above none =
      judged_part K.m K.mul W a c part other (distance K a b M) fit refl none ∙ ap (λ ws. mended part ws a) (same_word above)

  fate : Hit K b k → Fate K ys a k (opening K b M)
  fate (salt_bit i t fi ht is) = ⊎_elim block masked (cases_lt i b)
    where
      far : distance K a b M ≡ cond (ltb i b) (change K laws ys a ok t i) 0
      far = sym (valued (salt_bit i t fi ht is))

      opened : opening K b M ≡ bit_hit K.m K.mul W a c t
      opened = opens (salt_bit i t fi ht is) ∙ by_bit t ht

      block : i < b → Fate K ys a k (opening K b M)
      block hi = inl (Block (suc i) t, in_blocks K b k i t hi ht is, opened ∙ found_block i t hi ht is (far ∙ cond-true (ltb i b) _ _ (lt-ltb i b hi)))

      masked : b ≤ i → Fate K ys a k (opening K b M)
      masked hi =
          let at-mask : b * K.m + t ≡ k = ap (λ n. n * K.m + t) {x = b} {y = i} (omega arith) ∙ is in
          inl (Mask t, in_mask K b k t ht at-mask, opened ∙ found_part (Mask t) _ (omega arith) (far ∙ cond-false (ltb i b) _ _ (le-ltb i b hi)))
  fate (sum_bit t ht is) =
      let named : beside K.r (2 ^ t) ≡ Some (Sum t) =
      cond-false (eqb (2 ^ t) 0) _ _ (ne_eqb (2 ^ t) 0 (pow_nonzero t))
      ∙ ap (option_map Sum) (first_hit (λ u. eqb (2 ^ u) (2 ^ t)) K.r t ht (eq-eqb (2 ^ t) (2 ^ t) refl) (λ j l. ne_eqb (2 ^ j) (2 ^ t) (λ e. omega (arith, pow_same j t e)))) in
      inl (
        Sum t,
        in_sum K b k t ht is,
        opens (sum_bit t ht is) ∙ by_part (2 ^ t) (Sum t) (λ u h. columns.no_power u t h.0 h.1) named
            ∙ found_part (Sum t) (refused Unmended) (omega (arith, add-mul b 1 K.m)) (sym (valued (sum_bit t ht is))),
      )
  fate (last_bit t ht is) = ⊎_elim checked even (cases_lt t K.m)
    where
      far : distance K a b M ≡ cond (ltb t K.m) (2 ^ t) 0
      far = sym (valued (last_bit t ht is))

      opened : opening K b M ≡ beside_hit K.m K.mul W a c (Some Parity)
      opened = opens (last_bit t ht is) ∙ by_part 0 Parity (λ u h. columns.nonzero u h.0 h.1) refl

      checked : t < K.m → Fate K ys a k (opening K b M)
      checked inner =
          inr (
            in_check K b k t inner is,
            opened ∙ judged_other K.m K.mul W a c Parity (refused Unmended) (2 ^ t) fit (sym (far ∙ cond-true (ltb t K.m) _ _ (lt-ltb t K.m inner))) (pow_nonzero t),
          )

      even : K.m ≤ t → Fate K ys a k (opening K b M)
      even past =
          inl (
            Parity,
            in_parity K b k t past is,
            opened ∙ found_part Parity (refused Unmended) (omega (arith, add-mul b 1 K.m)) (far ∙ cond-false (ltb t K.m) _ _ (le-ltb t K.m past)),
          )

pub one_flip : (K : Code) → Laws K.m K.mul → Columns.Laws K.columns K.r → OneFlip K
one_flip K laws columns ys a N k ok inside bits =
    let b = length ys in
    let opened = opening_bits K b N ∙ ap (opening K b) bits in
    ⊎_elim (λ x. rw x.1 (opened ∙ x.2)) (λ x. rw x.0 (opened ∙ x.1))
    (fate K laws columns ys a ok k inside (hit K b k (wide K laws columns ys a ok) inside))
