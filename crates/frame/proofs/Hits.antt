-- In which part of a frame a bit lies, and what its flip does to the word, the raw salt, the syndrome and the check value.
-- Assumes nothing.
use Rattle.std.proofs.Common.{◌≡◌, ℕ, zero, suc, ◌+◌, ◌-◌, ◌*◌, ◌/◌, ◌%◌, ◌^◌, ◌<◌, ◌≤◌, cond, ltb, ◌⊎◌, List, [], ◌∷◌, length, get_or, sym, ap, ◌∙◌, ap₂, inl, inr, ⊎_elim, mod-lt, div-lt_iff_lt-mul, add-mul, div-add-mod', arith, length-set, get_or-set_other, get_or-set_same}
use lib.Bits.{bit_xor, xor_assoc, xor_zero_l, xor_zero_r}
use Rattle.std.proofs.lemmas.Bool.{cond-true, cond-false, lt-ltb, le-ltb, cases_lt, cases_eq, cases_order}
use Rattle.bits.specs.Digits.{pick}
use Rattle.bits.specs.Rows.{part}
use Rattle.bits.proofs.Digits.{xor_middle, pick_linear}
use Rattle.field.specs.Laws.{Laws}
use Rattle.field.specs.Powers.{power}
use Rattle.frame.specs.Code.{Code, frame_bits, word, mask, sum, check}
use Rattle.frame.specs.Checks.{xor_all, check_value}
use Rattle.frame.specs.Opening.{flipped, raw_salt, syndrome}
use Rattle.frame.proofs.AnyFrame.{apart, word_length, word_at, word_from}
use Rattle.frame.proofs.SetBits.{pick_none, pick_power, flip_in, flip_out}
use Rattle.frame.proofs.Values.{places_below, value_flipped, xor_right}

-- bit k of a frame of b blocks
pub data Hit (K : Code) (b k : ℕ) : Type 0 where
  -- bit t of the block at place i, or of the mask, at place b
  salt_bit : (i t : ℕ) → i ≤ b → t < K.m → i * K.m + t ≡ k → Hit K b k
  sum_bit : (t : ℕ) → t < K.r → (b + 1) * K.m + t ≡ k → Hit K b k
  -- bit t of the check block, or the parity bit, at place m
  last_bit : (t : ℕ) → t ≤ K.m → (b + 1) * K.m + K.r + t ≡ k → Hit K b k

pub hit : (K : Code) (b k : ℕ) → 0 < K.m → k < frame_bits K b → Hit K b k
hit K b k wide inside = ⊎_elim in_salt (λ over. ⊎_elim (in_sum over) in_last (cases_lt k ((b + 1) * K.m + K.r))) (cases_lt k ((b + 1) * K.m))
  where
    in_salt : k < (b + 1) * K.m → Hit K b k
    in_salt h =
        let few : k / K.m < b + 1 = (div-lt_iff_lt-mul wide).1 h in
        salt_bit (k / K.m) (k % K.m) (omega arith) (mod-lt k wide) (div-add-mod' k K.m)

    in_sum : (b + 1) * K.m ≤ k → k < (b + 1) * K.m + K.r → Hit K b k
    in_sum over under = sum_bit (k - (b + 1) * K.m) (omega arith) (omega arith)

    in_last : (b + 1) * K.m + K.r ≤ k → Hit K b k
    in_last over = last_bit (k - ((b + 1) * K.m + K.r)) (omega (arith, add-mul b 1 K.m, add-mul b 2 K.m)) (omega arith)

-- what a flip there changes in the raw salt, in the syndrome and in the check value against the check block
abbrev pub salt_change : (K : Code) (b k : ℕ) → Hit K b k → ℕ
salt_change K b k (salt_bit i t few inside is) = 2 ^ t
salt_change K b k (sum_bit t inside is) = 0
salt_change K b k (last_bit t inside is) = 0

abbrev pub gap_change : (K : Code) (b k : ℕ) → Hit K b k → ℕ
gap_change K b k (salt_bit i t few inside is) = get_or K.columns t 0
gap_change K b k (sum_bit t inside is) = 2 ^ t
gap_change K b k (last_bit t inside is) = 0

abbrev pub value_change : (K : Code) (a b k : ℕ) → Hit K b k → ℕ
value_change K a b k (salt_bit i t few inside is) = cond (ltb i b) (K.mul (2 ^ t) (power K.mul a (suc i))) 0
value_change K a b k (sum_bit t inside is) = 0
value_change K a b k (last_bit t inside is) = cond (ltb t K.m) (2 ^ t) 0

-- how the check value differs from the check block
abbrev pub distance : Code → ℕ → ℕ → ℕ → ℕ
distance K a b N = bit_xor (check_value K.mul (word K b N) a) (check K b N)

xor_all_flipped : (ws : List ℕ) (i t : ℕ) → i < length ws → xor_all (flipped ws i t) ≡ bit_xor (xor_all ws) (2 ^ t)
xor_all_flipped [] i t h = absurd (omega arith)
xor_all_flipped (w ∷ ws) zero t h = xor_right w (2 ^ t) (xor_all ws)
xor_all_flipped (w ∷ ws) (suc i) t h = ap (bit_xor w) (xor_all_flipped ws i t (omega arith)) ∙ sym (xor_assoc w (xor_all ws) (2 ^ t))

module _ (K : Code) (b k N : ℕ) where
  abbrev m : ℕ
  m = K.m

  abbrev M : ℕ
  M = bit_xor N (2 ^ k)

  -- a flip above the word leaves it, and a flip in it flips the bit of the block
  pub word_kept : b * m ≤ k → word K b M ≡ word K b N
  word_kept above =
      word_from K b M (word K b N) (word_length K b N) (λ i h.
      word_at K b N i h ∙ sym (flip_out N k (i * m) m (inr (omega (arith, apart m i b h)))))

  pub word_hit : (i t : ℕ) → i < b → t < m → i * m + t ≡ k → word K b M ≡ flipped (word K b N) i t
  word_hit i t hi ht is =
      let ws = word K b N in
      let v = bit_xor (get_or ws i 0) (2 ^ t) in
      let beside : (j : ℕ) → (j ≡ i → ⊥) → (k < j * m) ⊎ (j * m + m ≤ k) = λ j ne.
      ⊎_elim (λ same. absurd (ne same))
      (⊎_elim (λ (l : j < i). inr (omega (arith, apart m j i l))) (λ (l : i < j). inl (omega (arith, apart m i j l)))) (cases_order j i) in
      word_from K b M (flipped ws i t) (length-set ws i v ∙ word_length K b N) (λ j h.
      ⊎_elim
      (λ same. ap (λ n. get_or (flipped ws i t) n 0) same ∙ get_or-set_same ws i v 0 (omega (arith, word_length K b N))
      ∙ ap (λ x. bit_xor x (2 ^ t)) (word_at K b N i hi) ∙ sym (flip_in N k (i * m) t m is ht) ∙ ap (λ n. part M (n * m) m) (sym same))
      (λ ne. get_or-set_other ws i j v 0 ne ∙ word_at K b N j h ∙ sym (flip_out N k (j * m) m (beside j ne)))
      (cases_eq j i))

  check_kept : (k < (b + 1) * m + K.r) ⊎ ((b + 1) * m + K.r + m ≤ k) → check K b M ≡ check K b N
  check_kept = flip_out N k ((b + 1) * m + K.r) m

  -- by the raw salt and the sum
  gap_by : (d e s : ℕ) → raw_salt K b M ≡ bit_xor (raw_salt K b N) d → sum K b M ≡ bit_xor (sum K b N) e → bit_xor (pick K.columns d) e ≡ s → syndrome K b M ≡ bit_xor (syndrome K b N) s
  gap_by d e s raw sums is =
      ap₂ bit_xor (ap (pick K.columns) raw ∙ pick_linear K.columns (raw_salt K b N) d) sums
      ∙ xor_middle (pick K.columns (raw_salt K b N)) (pick K.columns d) (sum K b N) e ∙ ap (bit_xor (syndrome K b N)) is

  kept : (at w : ℕ) → (k < at) ⊎ (at + w ≤ k) → part M at w ≡ bit_xor (part N at w) 0
  kept at w beside = flip_out N k at w beside ∙ sym (xor_zero_r (part N at w))

  raw_kept : (b + 1) * m ≤ k → raw_salt K b M ≡ bit_xor (raw_salt K b N) 0
  raw_kept above =
      ap₂ bit_xor (ap xor_all (word_kept (omega (arith, add-mul b 1 m)))) (flip_out N k (b * m) m (inr (omega (arith, add-mul b 1 m))))
      ∙ sym (xor_zero_r (raw_salt K b N))

  raw_hit : (i t : ℕ) → i ≤ b → t < m → i * m + t ≡ k → raw_salt K b M ≡ bit_xor (raw_salt K b N) (2 ^ t)
  raw_hit i t few ht is = ⊎_elim in_word in_mask (cases_lt i b)
    where
      in_word : i < b → raw_salt K b M ≡ bit_xor (raw_salt K b N) (2 ^ t)
      in_word hi =
          ap₂ bit_xor (ap xor_all (word_hit i t hi ht is) ∙ xor_all_flipped (word K b N) i t (omega (arith, word_length K b N))) (flip_out N k (b * m) m (inl (omega (arith, apart m i b hi))))
          ∙ xor_right (xor_all (word K b N)) (2 ^ t) (mask K b N)

      in_mask : b ≤ i → raw_salt K b M ≡ bit_xor (raw_salt K b N) (2 ^ t)
      in_mask hi =
          let at-mask : b * m + t ≡ k = ap (λ n. n * m + t) {x = b} {y = i} (omega arith) ∙ is in
          ap₂ bit_xor (ap xor_all (word_kept (omega arith))) (flip_in N k (b * m) t m at-mask ht)
          ∙ sym (xor_assoc (xor_all (word K b N)) (mask K b N) (2 ^ t))

  -- bit t of a block or of the mask lies below the sum
  under_sum : (i t : ℕ) → i ≤ b → t < m → i * m + t ≡ k → k < (b + 1) * m
  under_sum i t few ht is = omega (arith, apart m i (b + 1) (omega arith))

  pub flip_raw : (h : Hit K b k) → raw_salt K b M ≡ bit_xor (raw_salt K b N) (salt_change K b k h)
  flip_raw (salt_bit i t few ht is) = raw_hit i t few ht is
  flip_raw (sum_bit t ht is) = raw_kept (omega arith)
  flip_raw (last_bit t ht is) = raw_kept (omega arith)

  pub flip_gap : length K.columns ≡ K.m → (h : Hit K b k) → syndrome K b M ≡ bit_xor (syndrome K b N) (gap_change K b k h)
  flip_gap full (salt_bit i t few ht is) =
      gap_by (2 ^ t) 0 (get_or K.columns t 0) (raw_hit i t few ht is) (kept ((b + 1) * m) K.r (inl (under_sum i t few ht is)))
      (xor_zero_r (pick K.columns (2 ^ t)) ∙ pick_power K.columns t (omega arith))
  flip_gap full (sum_bit t ht is) =
      gap_by 0 (2 ^ t) (2 ^ t) (raw_kept (omega arith)) (flip_in N k ((b + 1) * m) t K.r is ht)
      (ap (λ x. bit_xor x (2 ^ t)) (pick_none K.columns) ∙ xor_zero_l (2 ^ t))
  flip_gap full (last_bit t ht is) =
      gap_by 0 0 0 (raw_kept (omega arith)) (kept ((b + 1) * m) K.r (inr (omega arith)))
      (ap (λ x. bit_xor x 0) (pick_none K.columns) ∙ xor_zero_l 0)

  module _ (laws : Laws K.m K.mul) (a : ℕ) (small : a < 2 ^ K.m) where
    abbrev V : ℕ
    V = check_value K.mul (word K b N) a

    value_kept : b * m ≤ k → (k < (b + 1) * m + K.r) ⊎ ((b + 1) * m + K.r + m ≤ k) → distance K a b M ≡ bit_xor (distance K a b N) 0
    value_kept above beside =
        ap₂ bit_xor (ap (λ ws. check_value K.mul ws a) (word_kept above)) (check_kept beside) ∙ sym (xor_zero_r (distance K a b N))

    pub flip_value : (h : Hit K b k) → distance K a b M ≡ bit_xor (distance K a b N) (value_change K a b k h)
    flip_value (salt_bit i t few ht is) = ⊎_elim in_word in_mask (cases_lt i b)
      where
        low : k < (b + 1) * m + K.r
        low = omega (arith, under_sum i t few ht is)

        in_word : i < b → distance K a b M ≡ bit_xor (distance K a b N) (value_change K a b k (salt_bit i t few ht is))
        in_word hi =
            ap₂ bit_xor
            (ap (λ ws. check_value K.mul ws a) (word_hit i t hi ht is) ∙ value_flipped m K.mul laws a small (word K b N) i t (places_below m b N) ht (omega (arith, word_length K b N)))
            (check_kept (inl low))
            ∙ xor_right V (K.mul (2 ^ t) (power K.mul a (suc i))) (check K b N)
            ∙ ap (bit_xor (distance K a b N)) (sym (cond-true (ltb i b) _ _ (lt-ltb i b hi)))

        in_mask : b ≤ i → distance K a b M ≡ bit_xor (distance K a b N) (value_change K a b k (salt_bit i t few ht is))
        in_mask hi =
            let same : b * m ≡ i * m = ap (λ n. n * m) {x = b} {y = i} (omega arith) in
            value_kept (omega arith) (inl low) ∙ ap (bit_xor (distance K a b N)) (sym (cond-false (ltb i b) _ _ (le-ltb i b hi)))
    flip_value (sum_bit t ht is) = value_kept (omega (arith, add-mul b 1 m)) (inl (omega arith))
    flip_value (last_bit t ht is) = ⊎_elim in_check in_parity (cases_lt t m)
      where
        high : b * m ≤ k
        high = omega (arith, add-mul b 1 m)

        in_check : t < m → distance K a b M ≡ bit_xor (distance K a b N) (value_change K a b k (last_bit t ht is))
        in_check inside =
            ap₂ bit_xor (ap (λ ws. check_value K.mul ws a) (word_kept high)) (flip_in N k ((b + 1) * m + K.r) t m is inside)
            ∙ sym (xor_assoc V (check K b N) (2 ^ t)) ∙ ap (bit_xor (distance K a b N)) (sym (cond-true (ltb t m) _ _ (lt-ltb t m inside)))

        in_parity : m ≤ t → distance K a b M ≡ bit_xor (distance K a b N) (value_change K a b k (last_bit t ht is))
        in_parity past =
            value_kept high (inr (omega arith)) ∙ ap (bit_xor (distance K a b N)) (sym (cond-false (ltb t m) _ _ (le-ltb t m past)))
