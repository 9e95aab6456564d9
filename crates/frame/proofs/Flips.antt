-- Two flips of a sealed frame are refused, and at most one block fits a flip.
-- Assumes nothing.
use Rattle.std.proofs.Common.{◌≡◌, ℕ, suc, ◌+◌, ◌*◌, ◌%◌, ◌^◌, ◌<◌, ◌≤◌, cond, ltb, List, length, sym, refl, ap, ◌∙◌, ap₂, ⊎_elim, mod-lt, mod-eq_of_lt, arith, pow_pos}
use lib.Bits.{bit_xor, xor_assoc, xor_comm, xor_self, xor_zero_r, xor_lt}
use lib.Count.{ones}
use lib.Pow.{pow-lt}
use Rattle.std.proofs.lemmas.Bool.{cond-true, cond-false, lt-ltb, le-ltb, cases_lt, cases_eq, cases_order}
use Rattle.bits.proofs.Digits.{xor_equal}
use Rattle.field.specs.Laws.{Laws}
use Rattle.field.specs.Powers.{power}
use Rattle.field.proofs.Powers.{cancel, power_lt}
use Rattle.salt.specs.Admitted.{admitted}
use Rattle.salt.proofs.Admitted.{admitted_lt, admitted_nonzero, admitted_differ}
use Rattle.columns.specs.Columns as Columns
use Rattle.frame.specs.Code.{Code, frame_bits, word, check}
use Rattle.frame.specs.Checks.{check_value}
use Rattle.frame.specs.Opening.{refused, raw_salt, syndrome, opening}
use Rattle.frame.specs.Sealing.{sealing}
use Rattle.frame.specs.Promises.{Sealable, bits_of, TwoFlips, OneBlock}
use Rattle.frame.specs.declared.verdict.OpenFault.TheVariants.{Even}
use Rattle.frame.proofs.AnyFrame.{word_length, opening_bits}
use Rattle.frame.proofs.Decisions.{even_syndrome, even_differs, opens_even}
use Rattle.frame.proofs.Fits.{fit_parts}
use Rattle.frame.proofs.Hits.{Hit, salt_bit, sum_bit, last_bit, hit, salt_change, gap_change, value_change, distance, flip_raw, flip_gap, flip_value}
use Rattle.frame.proofs.Sealed.{xor_back, sealing_parts}
use Rattle.frame.proofs.SetBits.{pow_same, ones_xor, ones_power, two_digits}
use Rattle.frame.proofs.Values.{value_flipped}

-- what is told apart below n, and is not 0 there, is told apart up to n, where it is 0
upto_same : (f : ℕ → ℕ) (n : ℕ) → ((i j : ℕ) → i < n → j < n → f i ≡ f j → i ≡ j) → ((i : ℕ) → i < n → f i ≡ 0 → ⊥) → (i j : ℕ) → i ≤ n → j ≤ n → cond (ltb i n) (f i) 0 ≡ cond (ltb j n) (f j) 0 → i ≡ j
upto_same f n same nonzero i j hi hj e = ⊎_elim (λ li. ⊎_elim (both li) (left li) (cases_lt j n)) (λ pi. ⊎_elim (right pi) (neither pi) (cases_lt j n)) (cases_lt i n)
  where
    in_at : (i : ℕ) → i < n → cond (ltb i n) (f i) 0 ≡ f i
    in_at i l = cond-true (ltb i n) (f i) 0 (lt-ltb i n l)

    out_at : (i : ℕ) → n ≤ i → cond (ltb i n) (f i) 0 ≡ 0
    out_at i l = cond-false (ltb i n) (f i) 0 (le-ltb i n l)

    both : i < n → j < n → i ≡ j
    both li lj = same i j li lj (sym (in_at i li) ∙ e ∙ in_at j lj)

    left : i < n → n ≤ j → i ≡ j
    left li pj = absurd (nonzero i li (sym (in_at i li) ∙ e ∙ out_at j pj))

    right : n ≤ i → j < n → i ≡ j
    right pi lj = absurd (nonzero j lj (sym (in_at j lj) ∙ sym e ∙ out_at i pi))

    neither : n ≤ i → n ≤ j → i ≡ j
    neither pi pj = omega arith

pub pow_nonzero : (t : ℕ) → 2 ^ t ≡ 0 → ⊥
pow_nonzero t e = omega (arith, pow_pos t)

-- what was flipped twice stands again
pub xor_twice : (x e : ℕ) → bit_xor (bit_xor x e) e ≡ x
xor_twice x e = xor_assoc x e e ∙ ap (bit_xor x) (xor_self e) ∙ xor_zero_r x

-- the change that a flip of bit t in block i makes in the check value
module _ (K : Code) (laws : Laws K.m K.mul) (ys : List ℕ) (a : ℕ) (ok : Sealable K ys a) where
  abbrev pub change : ℕ → ℕ → ℕ
  change t i = K.mul (2 ^ t) (power K.mul a (suc i))

  pub salt_lt : a < 2 ^ K.m
  salt_lt = admitted_lt K.m K.mul (length ys) a ok.salt

  pub change_same : (t : ℕ) → t < K.m → (i j : ℕ) → i < length ys → j < length ys → change t i ≡ change t j → i ≡ j
  change_same t ht i j hi hj e =
      let p = λ (n : ℕ). power_lt K.m K.mul laws a (suc n) salt_lt in
      let powers = cancel K.m K.mul laws (2 ^ t) (power K.mul a (suc i)) (power K.mul a (suc j)) (pow-lt ht) (p i) (p j) (pow_nonzero t) e in
      let differ = admitted_differ K.m K.mul (length ys) a ok.salt in
      ⊎_elim (λ same. same)
      (λ ways. absurd (⊎_elim
      (λ (l : i < j). differ (suc i) (suc j) (omega arith) (omega arith) (omega arith) powers)
      (λ (l : j < i). differ (suc j) (suc i) (omega arith) (omega arith) (omega arith) (sym powers)) ways))
      (cases_order i j)

  pub change_nonzero : (t : ℕ) → t < K.m → (i : ℕ) → i < length ys → change t i ≡ 0 → ⊥
  change_nonzero t ht i hi e =
      ⊎_elim (pow_nonzero t) (admitted_nonzero K.m K.mul (length ys) a ok.salt (suc i) (omega arith) (omega arith))
      (laws.integral (2 ^ t) (power K.mul a (suc i)) (pow-lt ht) (power_lt K.m K.mul laws a (suc i) salt_lt) e)

pub one_block : (K : Code) → Laws K.m K.mul → OneBlock K
one_block K laws ys a c t i j ok ht hi hj is-i is-j =
    let v = check_value K.mul ys a in
    let small = salt_lt K laws ys a ok in
    let at = λ (n : ℕ) (h : n < length ys). value_flipped K.m K.mul laws a small ys n t ok.word.small ht h in
    let same : bit_xor v (change K laws ys a ok t i) ≡ bit_xor v (change K laws ys a ok t j) = sym (at i hi) ∙ is-i ∙ sym is-j ∙ at j hj in
    change_same K laws ys a ok t ht i j hi hj (sym (xor_back v _) ∙ ap (bit_xor v) same ∙ xor_back v _)

module _ (K : Code) (laws : Laws K.m K.mul) (columns : Columns.Laws K.columns K.r) (ys : List ℕ) (a : ℕ) (ok : Sealable K ys a) where
  abbrev b : ℕ
  b = length ys

  abbrev S : ℕ
  S = sealing K ys a

  pub full : length K.columns ≡ K.m
  full = (fit_parts K ok.word.fit).full

  pub wide : 0 < K.m
  wide = omega (arith, (fit_parts K ok.word.fit).wide)

  -- two flips that leave the same syndrome change the salt alike, and the check value differently
  alike : (j k : ℕ) (h : Hit K b j) (g : Hit K b k) → (j ≡ k → ⊥) → gap_change K b j h ≡ gap_change K b k g → (salt_change K b j h ≡ salt_change K b k g) × (value_change K a b j h ≡ value_change K a b k g → ⊥)
  alike j k (salt_bit i t fi ht is) (salt_bit n u fn hu are) ne same =
      let bit : t ≡ u = columns.differ t u (omega (arith, full)) (omega (arith, full)) same in
      let turned : value_change K a b k (salt_bit n u fn hu are) ≡ cond (ltb n b) (change K laws ys a ok t n) 0 = ap (λ x. cond (ltb n b) (change K laws ys a ok x n) 0) (sym bit) in (
        ap (λ x. 2 ^ x) bit,
        λ e.
            let place = upto_same (change K laws ys a ok t) b (change_same K laws ys a ok t ht) (change_nonzero K laws ys a ok t ht) i n fi fn (e ∙ turned) in
            ne (sym is ∙ ap₂ (λ x y. x * K.m + y) place bit ∙ are),
      )
  alike j k (salt_bit i t fi ht is) (sum_bit u hu are) ne same = absurd (columns.no_power t u (omega (arith, full)) same)
  alike j k (salt_bit i t fi ht is) (last_bit u hu are) ne same = absurd (columns.nonzero t (omega (arith, full)) same)
  alike j k (sum_bit t ht is) (salt_bit n u fn hu are) ne same = absurd (columns.no_power u t (omega (arith, full)) (sym same))
  alike j k (sum_bit t ht is) (sum_bit u hu are) ne same = absurd (ne (sym is ∙ ap (λ x. (b + 1) * K.m + x) (pow_same t u same) ∙ are))
  alike j k (sum_bit t ht is) (last_bit u hu are) ne same = absurd (pow_nonzero t same)
  alike j k (last_bit t ht is) (salt_bit n u fn hu are) ne same = absurd (columns.nonzero u (omega (arith, full)) (sym same))
  alike j k (last_bit t ht is) (sum_bit u hu are) ne same = absurd (pow_nonzero u (sym same))
  alike j k (last_bit t ht is) (last_bit u hu are) ne same = (
    refl,
    λ e.
        let place = upto_same (λ x. 2 ^ x) K.m (λ x y hx hy. pow_same x y) (λ x hx. pow_nonzero x) t u ht hu e in
        ne (sym is ∙ ap (λ x. (b + 1) * K.m + K.r + x) place ∙ are),
  )

  -- the sealing has the salt a, the syndrome 0, and the check value in its check block
  pub distance_none : distance K a b S ≡ 0
  distance_none =
      let is = sealing_parts K laws columns ys a ok in
      ap₂ (λ ws x. bit_xor (check_value K.mul ws a) x) is.words is.checked ∙ xor_self (check_value K.mul ys a)

  -- an even frame that keeps the length of the word is refused, if its syndrome is 0 only with the salt a and another check value
  refused_even : (M : ℕ) → M < 2 ^ frame_bits K b → ones M % 2 ≡ 0 → (syndrome K b M ≡ 0 → (raw_salt K b M ≡ a) × (distance K a b M ≡ 0 → ⊥)) → opening K b M ≡ refused Even
  refused_even M small even known =
      let W = word K b M in
      let x = raw_salt K b M in
      let c = check K b M in
      let s = syndrome K b M in
      sym (opens_even K b M W x c s (ones M) refl refl refl refl (ap ones (sym (mod-eq_of_lt small))) even)
      ∙ ⊎_elim
      (λ none. even_differs K.m K.mul W x c s (distance K a b M) none
      (ap₂ (λ n y. admitted K.m K.mul n y) (word_length K b M) (known none).0 ∙ ok.salt)
      (ap (λ y. bit_xor (check_value K.mul W y) c) (sym (known none).0)) (known none).1)
      (even_syndrome K.m K.mul W x c s) (cases_eq s 0)

  two_refused : (j k : ℕ) → k < j → j < frame_bits K b → opening K b (bit_xor (bit_xor S (2 ^ j)) (2 ^ k)) ≡ refused Even
  two_refused j k ordered inside =
      let is = sealing_parts K laws columns ys a ok in
      let h = hit K b j wide inside in
      let g = hit K b k wide (omega arith) in
      let N = bit_xor S (2 ^ j) in
      let M = bit_xor N (2 ^ k) in
      let raw : raw_salt K b M ≡ bit_xor (bit_xor a (salt_change K b j h)) (salt_change K b k g) =
      flip_raw K b k N g ∙ ap (λ x. bit_xor x (salt_change K b k g)) (flip_raw K b j S h ∙ ap (λ x. bit_xor x (salt_change K b j h)) is.raw) in
      let gap : syndrome K b M ≡ bit_xor (gap_change K b j h) (gap_change K b k g) =
      flip_gap K b k N full g ∙ ap (λ x. bit_xor x (gap_change K b k g)) (flip_gap K b j S full h ∙ ap (λ x. bit_xor x (gap_change K b j h)) is.gap) in
      let value : distance K a b M ≡ bit_xor (value_change K a b j h) (value_change K a b k g) =
      flip_value K b k N laws a (salt_lt K laws ys a ok) g
      ∙ ap (λ x. bit_xor x (value_change K a b k g)) (flip_value K b j S laws a (salt_lt K laws ys a ok) h ∙ ap (λ x. bit_xor x (value_change K a b j h)) distance_none) in
      let once = ones_xor S (2 ^ j) in
      let twice = ones_xor N (2 ^ k) in
      let one = ones_power j in
      let other = ones_power k in
      let even = is.even in
      let bound : (n : ℕ) → n < frame_bits K b → 2 ^ n < 2 ^ frame_bits K b = λ n l. pow-lt l in
      refused_even M (xor_lt (frame_bits K b) N (2 ^ k) (xor_lt (frame_bits K b) S (2 ^ j) is.small (bound j inside)) (bound k (omega arith))) (omega arith)
      (λ none.
      let told = alike j k h g (λ e. omega arith) (xor_equal (gap_change K b j h) (gap_change K b k g) (sym gap ∙ none)) in (
        raw ∙ ap (bit_xor (bit_xor a (salt_change K b j h))) (sym told.0) ∙ xor_twice a (salt_change K b j h),
        λ e. told.1 (xor_equal (value_change K a b j h) (value_change K a b k g) (sym value ∙ e)),
      ))

pub two_flips : (K : Code) → Laws K.m K.mul → Columns.Laws K.columns K.r → TwoFlips K
two_flips K laws columns ys a N ok two =
    let b = length ys in
    let S = sealing K ys a in
    let n = frame_bits K b in
    let B = bits_of K b N in
    let is = sealing_parts K laws columns ys a ok in
    let t = two_digits n (bit_xor B S) (xor_lt n B S (mod-lt N (pow_pos n)) is.small) two in
    let bits : B ≡ bit_xor (bit_xor S (2 ^ t.high)) (2 ^ t.low) =
    sym (xor_back S B) ∙ ap (bit_xor S) (xor_comm S B ∙ t.is) ∙ sym (xor_assoc S (2 ^ t.high) (2 ^ t.low)) in
    opening_bits K b N ∙ ap (opening K b) bits ∙ two_refused K laws columns ys a ok t.high t.low t.ordered t.inside
