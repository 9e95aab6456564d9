-- A frame opens clean just when its bits are those of a sealing.
-- Assumes nothing.
use Rattle.std.proofs.Common.{◌≡◌, ℕ, ◌+◌, ◌*◌, ◌/◌, ◌%◌, ◌^◌, ◌<◌, Bool, true, false, cond, eqb, List, length, get_or, Some, None, Option, sym, refl, ap, ◌∙◌, subst, ap₂, ⊎_elim, lt_of_lt_of_le, mod-lt, mod-eq_of_lt, arith, pow_mono}
use lib.Bits.{bit_xor, xor_self}
use lib.Count.{ones}
use Rattle.std.proofs.lemmas.Bool.{cond-true, cond-false, eqb-true, eq-eqb, ne_eqb, cases_eq}
use Rattle.bits.specs.Digits.{pick}
use Rattle.bits.specs.Rows.{part}
use Rattle.bits.proofs.Digits.{xor_equal}
use Rattle.field.specs.Laws.{Laws}
use Rattle.salt.specs.Admitted.{admitted}
use Rattle.columns.specs.Columns as Columns
use Rattle.frame.specs.Code.{Code, sized, frame_bits, frame_bytes, word, mask, sum, check, parity}
use Rattle.frame.specs.Checks.{xor_all, all_ones, check_value}
use Rattle.frame.specs.Opening.{Outcome, clean, mended, refused, raw_salt, syndrome, in_block, beside_hit, by_column, opening}
use Rattle.frame.specs.Sealing.{bytes_of, sealing}
use Rattle.frame.specs.Promises.{Sealable, SealedAs, bits_of, CleanMeansSealed, SealedOpens}
use Rattle.frame.specs.declared.verdict.Part.{Part}
use Rattle.frame.specs.declared.verdict.OpenFault.TheVariants.{Salt, Even, Unmended}
use Rattle.frame.proofs.AnyFrame.{word_length, opening_bits, same_bits}
use Rattle.frame.proofs.Counts.{ones_frame}
use Rattle.frame.proofs.Decisions.{even_clean, opens_even}
use Rattle.frame.proofs.Fits.{row_opens}
use Rattle.frame.proofs.Sealings.{bytes_of_long, little_bytes}
use Rattle.frame.proofs.Sealed.{xor_back, sealing_parts}
use Rattle.frame.proofs.Values.{places_below}

-- 1 for an outcome that is clean
abbrev cleans : Outcome → ℕ
cleans (clean ys a) = 1
cleans (mended part ys a) = 0
cleans (refused fault) = 0

-- an odd frame does not open clean
judged_mended : (fit same : Bool) (part : Part) (ys : List ℕ) (a : ℕ) (other : Outcome) → cleans other ≡ 0 → cleans (cond fit (cond same (mended part ys a) other) (refused Salt)) ≡ 0
judged_mended true true part ys a other h = refl
judged_mended true false part ys a other h = h
judged_mended false same part ys a other h = refl

block_mended : (ys : List ℕ) (a t : ℕ) (j : Option ℕ) → cleans (in_block ys a t j) ≡ 0
block_mended ys a t None = refl
block_mended ys a t (Some j) = refl

beside_mended : (m : ℕ) (mul : ℕ → ℕ → ℕ) (ys : List ℕ) (a c : ℕ) (part : Option Part) → cleans (beside_hit m mul ys a c part) ≡ 0
beside_mended m mul ys a c None = refl
beside_mended m mul ys a c (Some part) = judged_mended (admitted m mul (length ys) a) (eqb (check_value mul ys a) c) part ys a (refused Unmended) refl

odd_mended : (K : Code) (ys : List ℕ) (a c s : ℕ) (t : Option ℕ) → cleans (by_column K ys a c s t) ≡ 0
odd_mended K ys a c s None = beside_mended K.m K.mul ys a c _
odd_mended K ys a c s (Some t) =
    judged_mended (admitted K.m K.mul (length ys) (bit_xor a (2 ^ t))) (eqb (check_value K.mul ys (bit_xor a (2 ^ t))) c) _ ys (bit_xor a (2 ^ t)) _
    (block_mended ys (bit_xor a (2 ^ t)) t _)

-- and an even one by three tests
even_tests : (zero-gap fit same : Bool) (ws : List ℕ) (x : ℕ) (ys : List ℕ) (a : ℕ) → cond zero-gap (cond fit (cond same (clean ws x) (refused Even)) (refused Salt)) (refused Even) ≡ clean ys a → ((zero-gap ≡ true) × (fit ≡ true) × (same ≡ true)) × (ws ≡ ys) × (x ≡ a)
even_tests true true true ws x ys a is = ((refl, refl, refl), cc, cc)
even_tests true true false ws x ys a is = let z : ◌≡◌ {A = ℕ} 0 1 = cc in absurd (omega arith)
even_tests true false same ws x ys a is = let z : ◌≡◌ {A = ℕ} 0 1 = cc in absurd (omega arith)
even_tests false fit same ws x ys a is = let z : ◌≡◌ {A = ℕ} 0 1 = cc in absurd (omega arith)

-- what a clean opening tells
record Told (K : Code) (b N : ℕ) (ys : List ℕ) (a : ℕ) : Type 0 where
  words : word K b N ≡ ys
  raw : raw_salt K b N ≡ a
  gap : syndrome K b N ≡ 0
  salt : admitted K.m K.mul (length ys) a ≡ true
  value : check_value K.mul ys a ≡ check K b N
  even : ones (bits_of K b N) % 2 ≡ 0

told : (K : Code) (b N : ℕ) (ys : List ℕ) (a : ℕ) → opening K b N ≡ clean ys a → Told K b N ys a
told K b N ys a is = ⊎_elim evenly oddly (cases_eq (ones (bits_of K b N) % 2) 0)
  where
    evenly : ones (bits_of K b N) % 2 ≡ 0 → Told K b N ys a
    evenly even =
        let h = even_tests (eqb (syndrome K b N) 0) (admitted K.m K.mul (length (word K b N)) (raw_salt K b N)) (eqb (check_value K.mul (word K b N) (raw_salt K b N)) (check K b N))
        (word K b N) (raw_salt K b N) ys a (sym (cond-true _ _ _ (eq-eqb _ 0 even)) ∙ is) in
        record {
          words = h.1;
          raw = h.2;
          gap = eqb-true _ 0 h.0.0;
          salt = sym (ap₂ (λ ws x. admitted K.m K.mul (length ws) x) h.1 h.2) ∙ h.0.1;
          value = sym (ap₂ (check_value K.mul) h.1 h.2) ∙ eqb-true _ _ h.0.2;
          even = even;
        }

    oddly : (ones (bits_of K b N) % 2 ≡ 0 → ⊥) → Told K b N ys a
    oddly odd =
        let none : ◌≡◌ {A = ℕ} 1 0 =
        ap cleans (sym is ∙ cond-false _ _ _ (ne_eqb _ 0 odd)) ∙ odd_mended K (word K b N) (raw_salt K b N) (check K b N) (syndrome K b N) _ in
        absurd (omega arith)

module _ (K : Code) (laws : Laws K.m K.mul) (columns : Columns.Laws K.columns K.r) (ys : List ℕ) (a N : ℕ) where
  bits_sealed : Sealable K ys a → Told K (length ys) N ys a → bits_of K (length ys) N ≡ sealing K ys a
  bits_sealed ok h =
      let b = length ys in
      let S = sealing K ys a in
      let is = sealing_parts K laws columns ys a ok in
      let whole : bits_of K b S ≡ S = mod-eq_of_lt is.small in
      let words : word K b N ≡ word K b S = h.words ∙ sym is.words in
      let masks : mask K b N ≡ mask K b S = sym (xor_back (xor_all (word K b N)) (mask K b N)) ∙ ap₂ (λ ws x. bit_xor (xor_all ws) x) h.words h.raw ∙ sym is.masked in
      let sums : sum K b N ≡ sum K b S = sym (xor_equal (pick K.columns (raw_salt K b N)) (sum K b N) h.gap) ∙ ap (pick K.columns) h.raw ∙ sym is.summed in
      let checks : check K b N ≡ check K b S = sym h.value ∙ sym is.checked in
      let count-N = ones_frame K.m K.r b N in
      let count-S = ones_frame K.m K.r b S in
      let same_words = ap all_ones words in
      let same-masks = ap ones masks in
      let same-sums = ap ones sums in
      let same-checks = ap ones checks in
      let even-N : ones (bits_of K b N) % 2 ≡ 0 = h.even in
      let even-S : ones (bits_of K b S) % 2 ≡ 0 = ap (λ n. ones n % 2) whole ∙ is.even in
      let digit-N : parity K b N < 2 = mod-lt (N / 2 ^ ((b + 2) * K.m + K.r)) (omega arith) in
      let digit-S : parity K b S < 2 = mod-lt (S / 2 ^ ((b + 2) * K.m + K.r)) (omega arith) in
      let parities : parity K b N ≡ parity K b S = omega arith in
      same_bits K b N S words masks sums checks parities ∙ whole

  opens_clean : SealedAs K (length ys) N ys a → opening K (length ys) N ≡ clean ys a
  opens_clean h =
      let b = length ys in
      let S = sealing K ys a in
      let v = check_value K.mul ys a in
      let is = sealing_parts K laws columns ys a h.sealable in
      opening_bits K b N ∙ ap (opening K b) h.bits
      ∙ sym (opens_even K b S ys a v 0 (ones S) (sym is.words) (sym is.raw) (sym is.checked) (sym is.gap) (ap ones (sym (mod-eq_of_lt is.small))) is.even)
      ∙ even_clean K.m K.mul ys a v 0 0 refl h.sealable.salt (sym (xor_self v)) refl

pub clean_means_sealed : (K : Code) → Laws K.m K.mul → Columns.Laws K.columns K.r → CleanMeansSealed K
clean_means_sealed K laws columns b N ys a fit few = (sealed, opens)
  where
    sealed : opening K b N ≡ clean ys a → SealedAs K b N ys a
    sealed is =
        let h = told K b N ys a is in
        let blocks : length ys ≡ b = sym (ap length h.words) ∙ word_length K b N in
        let ok : Sealable K ys a = record {
          word = record {
            fit = fit;
            few = ap sized blocks ∙ few;
            small = λ i. subst (λ ws. get_or ws i 0 < 2 ^ K.m) h.words (places_below K.m b N i);
          };
          salt = h.salt;
        } in
        record {
          blocks = blocks;
          sealable = ok;
          bits = subst (λ n. bits_of K n N ≡ sealing K ys a) blocks (bits_sealed K laws columns ys a N ok (subst (λ n. Told K n N ys a) (sym blocks) h));
        }

    opens : SealedAs K b N ys a → opening K b N ≡ clean ys a
    opens h =
        subst (λ n. opening K n N ≡ clean ys a) h.blocks
        (opens_clean K laws columns ys a N (subst (λ n. SealedAs K n N ys a) (sym h.blocks) h))

-- a row of the sealing's bytes opens clean
pub sealed_opens : (K : Code) → Laws K.m K.mul → Columns.Laws K.columns K.r → SealedOpens K
sealed_opens K field columns ys a ok =
    let b = length ys in
    let S = sealing K ys a in
    let F = frame_bytes K b in
    let small : S < 2 ^ frame_bits K b = (sealing_parts K field columns ys a ok).small in
    let fits_in : S < 2 ^ (8 * F) = lt_of_lt_of_le small (pow_mono (omega arith)) in
    let few = ok.word.few in
    row_opens K b (bytes_of F S) ok.word.fit few (bytes_of_long F S) ∙ ap (opening K b) (little_bytes F S fits_in)
    ∙ (clean_means_sealed K field columns b S ys a ok.word.fit few).1 (record { blocks = refl; sealable = ok; bits = mod-eq_of_lt small })
