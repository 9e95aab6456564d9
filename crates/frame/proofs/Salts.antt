-- A chosen pattern: the words that it can make an opening hand out do not depend on the salt, and each passes for few salts.
-- Assumes nothing.
use Rattle.std.proofs.Common.{◌≡◌, ℕ, zero, suc, ◌+◌, ◌*◌, ◌/◌, ◌%◌, ◌^◌, ◌<◌, Bool, true, false, cond, eqb, ◌⊎◌, List, [], ◌∷◌, length, get_or, Some, None, Option, sym, refl, ◌∙◌, subst, inl, inr, ⊎_elim, mod-lt, arith, length-set, pow_pos, eqb-true}
use lib.Bits.{bit_xor, xor_assoc, xor_lt}
use lib.Count.{ones}
use lib.Pow.{pow-lt}
use Rattle.std.specs.List.{AllByRecursion}
use Rattle.std.proofs.ByRecursion.{All-from_get_or, All-set, All-weaker}
use Rattle.std.proofs.lemmas.Bool.{cases_Bool, cond-true, cond-false}
use Rattle.bits.specs.Rows.{xored}
use Rattle.bits.proofs.Rows.{length_xored}
use Rattle.field.specs.Laws.{Laws}
use Rattle.salt.specs.Admitted.{admitted}
use Rattle.salt.proofs.Admitted.{admitted_lt}
use Rattle.columns.specs.Columns as Columns
use Rattle.frame.specs.Checks.{Below, weight, check_value}
use Rattle.frame.specs.Code.{Code, frame_bits, word, check}
use Rattle.frame.specs.Opening.{Outcome, clean, mended, refused, raw_salt, syndrome, first, flipped, opening}
use Rattle.frame.specs.Opening.{judged, in_block, bit_hit, beside, beside_hit, by_column, opening_even, opening_odd}
use Rattle.frame.specs.Sealing.{sealing}
use Rattle.frame.specs.Promises.{Word, Sealable, OtherWord, FewSalts}
use Rattle.frame.specs.declared.verdict.Part.{Part}
use Rattle.frame.specs.declared.verdict.OpenFault.TheVariants.{Salt, Even, Unmended}
use Rattle.frame.proofs.AtMost.{AtMost, stronger, few_of}
use Rattle.frame.proofs.Candidates.{Passes, few_changed}
use Rattle.frame.proofs.Decisions.{even_syndrome}
use Rattle.frame.proofs.Differences.{small_xored}
use Rattle.frame.proofs.Fits.{fit_parts}
use Rattle.frame.proofs.Sealed.{xor_all_lt, struck_parts}
use Rattle.frame.proofs.Values.{places_below}

-- what is found first passes, and is one of those that were tried
first_passes : (test : ℕ → Bool) (i n k : ℕ) → first test i n ≡ Some k → (k < i + n) × (test k ≡ true)
first_passes test i zero k is = let z : ◌≡◌ {A = ℕ} 0 1 = cc in absurd (omega arith)
first_passes test i (suc n) k is =
    ⊎_elim
    (λ pass. let same : i ≡ k = here pass in (omega arith, subst (λ j. test j ≡ true) same pass))
    (λ fail. let later = first_passes test (suc i) n k (sym (cond-false (test i) (Some i) (first test (suc i) n) fail) ∙ is) in (omega (arith, later.0), later.1))
    (cases_Bool (test i))
  where
    here : test i ≡ true → i ≡ k
    here pass = let found : Some i ≡ Some k = sym (cond-true (test i) (Some i) (first test (suc i) n) pass) ∙ is in cc

-- the candidates: the stored word, and it with bit t of one block flipped
abbrev candidate : List ℕ → ℕ → ℕ → List ℕ
candidate us t zero = us
candidate us t (suc j) = flipped us j t

-- an outcome that hands out another word than ys hands out a candidate whose check value is the check block
module _ (m : ℕ) (mul : ℕ → ℕ → ℕ) (ys us : List ℕ) (t : ℕ) where
  abbrev Found : ℕ → ℕ → Type 0
  Found a c = (k : ℕ) × (k < length us + 1) × (candidate us t k ≡ ys → ⊥) × (check_value mul (candidate us t k) a ≡ c)

  stored : (a c : ℕ) → (us ≡ ys → ⊥) × (eqb (check_value mul us a) c ≡ true) → Found a c
  stored a c h = (0, omega arith, h.0, eqb-true (check_value mul us a) c h.1)

  even_found : (a c s : ℕ) → OtherWord ys (opening_even m mul us a c s) → Found a c
  even_found a c s h = stored a c (tested (eqb s 0) (admitted m mul (length us) a) (eqb (check_value mul us a) c) h)
    where
      tested : (x y z : Bool) → OtherWord ys (cond x (cond y (cond z (clean us a) (refused Even)) (refused Salt)) (refused Even)) → (us ≡ ys → ⊥) × (z ≡ true)
      tested true true true h = (h, refl)
      tested true true false h = absurd h
      tested true false z h = absurd h
      tested false y z h = absurd h

  judged_found : (a c : ℕ) (part : Part) (other : Outcome) → OtherWord ys (judged m mul us a c part other) → Found a c ⊎ OtherWord ys other
  judged_found a c part other h = ⊎_elim (λ f. inl (stored a c f)) inr (tested (admitted m mul (length us) a) (eqb (check_value mul us a) c) h)
    where
      tested : (x y : Bool) → OtherWord ys (cond x (cond y (mended part us a) other) (refused Salt)) → ((us ≡ ys → ⊥) × (y ≡ true)) ⊎ OtherWord ys other
      tested true true h = inl (h, refl)
      tested true false h = inr h
      tested false y h = absurd h

  block_found : (a c : ℕ) → OtherWord ys (in_block us a t (first (λ j. eqb (check_value mul (flipped us j t) a) c) 0 (length us))) → Found a c
  block_found a c h =
      let hit = which (first (λ j. eqb (check_value mul (flipped us j t) a) c) 0 (length us)) h in
      let passes = first_passes (λ j. eqb (check_value mul (flipped us j t) a) c) 0 (length us) hit.0 hit.1 in
      (suc hit.0, omega (arith, passes.0), hit.2, eqb-true (check_value mul (flipped us hit.0 t) a) c passes.1)
    where
      which : (o : Option ℕ) → OtherWord ys (in_block us a t o) → (j : ℕ) × (o ≡ Some j) × (flipped us j t ≡ ys → ⊥)
      which None h = absurd h
      which (Some j) h = (j, refl, h)

  bit_found : (a c : ℕ) → OtherWord ys (bit_hit m mul us a c t) → Found a c
  bit_found a c h = ⊎_elim (λ f. f) (block_found a c) (judged_found a c _ _ h)

  beside_found : (a c : ℕ) (part : Option Part) → OtherWord ys (beside_hit m mul us a c part) → Found a c
  beside_found a c None h = absurd h
  beside_found a c (Some part) h = ⊎_elim (λ f. f) (λ none. absurd none) (judged_found a c part (refused Unmended) h)

below_from : (m : ℕ) (xs : List ℕ) → AllByRecursion (λ x. x < 2 ^ m) xs → Below m xs
below_from m [] h i = pow_pos m
below_from m (x ∷ xs) h zero = h.0
below_from m (x ∷ xs) h (suc i) = below_from m xs h.1 i

module _ (K : Code) (laws : Laws K.m K.mul) (columns : Columns.Laws K.columns K.r) (ys : List ℕ) (P : ℕ) (ok : Word K ys) where
  abbrev m : ℕ
  m = K.m

  abbrev b : ℕ
  b = length ys

  abbrev w : ℕ
  w = weight b

  -- the stored word, the changes of the salt and of the check block, and the syndrome: all by the pattern alone
  abbrev us : List ℕ
  us = xored ys (word K b P)

  abbrev p : ℕ
  p = raw_salt K b P

  abbrev q : ℕ
  q = check K b P

  abbrev s : ℕ
  s = syndrome K b P

  -- the stored check block, where a was the salt
  abbrev c : ℕ → ℕ
  c a = bit_xor (check_value K.mul ys a) q

  us_long : length us ≡ b
  us_long = length_xored ys (word K b P)

  us_small : AllByRecursion (λ x. x < 2 ^ m) us
  us_small =
      small_xored m ys (word K b P) (All-from_get_or (λ x. x < 2 ^ m) ys 0 (λ i h. ok.small i))
      (All-from_get_or (λ x. x < 2 ^ m) (word K b P) 0 (λ i h. places_below m b P i))

  p_lt : p < 2 ^ m
  p_lt = xor_lt m _ _ (xor_all_lt m (word K b P) (places_below m b P)) (mod-lt (P / 2 ^ (b * m)) (pow_pos m))

  q_lt : q < 2 ^ m
  q_lt = mod-lt (P / 2 ^ ((b + 1) * m + K.r)) (pow_pos m)

  candidate_long : (t k : ℕ) → length (candidate us t k) ≡ b
  candidate_long t zero = us_long
  candidate_long t (suc j) = length-set us j (bit_xor (get_or us j 0) (2 ^ t)) ∙ us_long

  candidate_below : (t k : ℕ) → t < m → Below m (candidate us t k)
  candidate_below t zero ht = below_from m us us_small
  candidate_below t (suc j) ht =
      below_from m (flipped us j t) (All-set (λ x. x < 2 ^ m) us j (bit_xor (get_or us j 0) (2 ^ t)) (xor_lt m (get_or us j 0) (2 ^ t) (below_from m us us_small j) (pow-lt ht)) us_small)

  -- the candidate k is another word than ys, and passes with the salt a changed by d
  abbrev Deceives : ℕ → ℕ → ℕ → ℕ → Type 0
  Deceives d t k a = (candidate us t k ≡ ys → ⊥) × Passes m K.mul ys (candidate us t k) d q a

  few_deceived : (d t k : ℕ) → d < 2 ^ m → t < m → AtMost w (Deceives d t k)
  few_deceived d t k hd ht [] distinct each = omega arith
  few_deceived d t k hd ht (a ∷ more) distinct each =
      few_changed m K.mul laws ys (candidate us t k) d q (candidate_long t k) ok.small (candidate_below t k ht) hd q_lt (λ h. each.0.0 h.0) (a ∷ more) distinct
      (All-weaker (Deceives d t k) (Passes m K.mul ys (candidate us t k) d q) (λ x h. h.1) (a ∷ more) each)

  abbrev FoundBy : ℕ → ℕ → ℕ → Type 0
  FoundBy d t a = (a < 2 ^ m) × Found m K.mul ys us t (bit_xor a d) (c a)

  few_found : (d t : ℕ) → d < 2 ^ m → t < m → AtMost ((b + 1) * w) (FoundBy d t)
  few_found d t hd ht =
      stronger ((b + 1) * w) (FoundBy d t) (λ a. (k : ℕ) × (k < b + 1) × Deceives d t k a)
      (λ a h. let f = h.1 in (f.0, subst (λ n. f.0 < n + 1) us_long f.1, (f.2, (h.0, f.3))))
      (few_of (b + 1) w (Deceives d t) (λ k. few_deceived d t k hd ht))

  -- the outcome for the salt a, by the parity of the frame and the bit whose column is the syndrome
  abbrev outcome : Bool → Option ℕ → ℕ → Outcome
  outcome even o a = cond even (opening_even m K.mul us (bit_xor a p) (c a) s) (by_column K us (bit_xor a p) (c a) s o)

  -- where no bit has that column, only the stored word is handed out, whatever the parity
  no_bit : (a : ℕ) (even : Bool) → OtherWord ys (outcome even None a) → Found m K.mul ys us 0 (bit_xor a p) (c a)
  no_bit a true h = even_found m K.mul ys us 0 (bit_xor a p) (c a) s h
  no_bit a false h = beside_found m K.mul ys us 0 (bit_xor a p) (c a) (beside K.r s) h

  -- where bit t has it, the syndrome is not 0, and an even frame is refused
  one_bit : (a t : ℕ) → (s ≡ 0 → ⊥) → (even : Bool) → OtherWord ys (outcome even (Some t) a) → Found m K.mul ys us t (bit_xor a (bit_xor p (2 ^ t))) (c a)
  one_bit a t some true h = absurd (subst (OtherWord ys) (even_syndrome m K.mul us (bit_xor a p) (c a) s some) h)
  one_bit a t some false h =
      subst (λ x. Found m K.mul ys us t x (c a)) (xor_assoc a p (2 ^ t)) (bit_found m K.mul ys us t (bit_xor (bit_xor a p) (2 ^ t)) (c a) h)

  abbrev Misled : Option ℕ → ℕ → Type 0
  Misled o a = (a < 2 ^ m) × ((even : Bool) × OtherWord ys (outcome even o a))

  few_misled : (o : Option ℕ) → ((t : ℕ) → o ≡ Some t → (t < m) × (s ≡ 0 → ⊥)) → AtMost ((b + 1) * w) (Misled o)
  few_misled None known =
      stronger ((b + 1) * w) (Misled None) (FoundBy p 0) (λ a h. (h.0, no_bit a h.1.0 h.1.1))
      (few_found p 0 p_lt (omega (arith, (fit_parts K ok.fit).wide)))
  few_misled (Some t) known =
      let ht = (known t refl).0 in
      stronger ((b + 1) * w) (Misled (Some t)) (FoundBy (bit_xor p (2 ^ t)) t) (λ a h. (h.0, one_bit a t (known t refl).1 h.1.0 h.1.1))
      (few_found (bit_xor p (2 ^ t)) t (xor_lt m p (2 ^ t) p_lt (pow-lt ht)) ht)

  abbrev bit : Option ℕ
  bit = first (λ t. eqb (get_or K.columns t 0) s) 0 (length K.columns)

  bit_known : (t : ℕ) → bit ≡ Some t → (t < m) × (s ≡ 0 → ⊥)
  bit_known t is =
      let found = first_passes (λ t. eqb (get_or K.columns t 0) s) 0 (length K.columns) t is in
      let inside : t < length K.columns = omega (arith, found.0) in
      (omega (arith, (fit_parts K ok.fit).full), λ none. columns.nonzero t inside (eqb-true (get_or K.columns t 0) s found.1 ∙ none))

  -- the parity of the sealing of ys with a, the pattern exclusive-ored in
  abbrev even_with : ℕ → Bool
  even_with a = eqb (ones (bit_xor (sealing K ys a) P % 2 ^ frame_bits K b) % 2) 0

  opened : (a : ℕ) → Sealable K ys a → opening K b (bit_xor (sealing K ys a) P) ≡ outcome (even_with a) bit a
  opened a sealable =
      let struck = struck_parts K laws columns ys a sealable P in
      λ i. cond (even_with a)
      (opening_even m K.mul (struck.words i) (struck.raw i) (struck.checked i) (struck.gap i))
      (opening_odd K (struck.words i) (struck.raw i) (struck.checked i) (struck.gap i))

  few_opened : AtMost ((b + 1) * w) (λ a. Sealable K ys a × OtherWord ys (opening K b (bit_xor (sealing K ys a) P)))
  few_opened =
      stronger ((b + 1) * w) (λ a. Sealable K ys a × OtherWord ys (opening K b (bit_xor (sealing K ys a) P))) (Misled bit)
      (λ a h. (admitted_lt m K.mul b a h.0.salt, (even_with a, subst (OtherWord ys) (opened a h.0) h.1)))
      (few_misled bit bit_known)

-- of the admitted salts, few let a chosen pattern turn the sealing of a word into a frame of another
pub few_salts : (K : Code) → Laws K.m K.mul → Columns.Laws K.columns K.r → FewSalts K
few_salts K laws columns ys pattern ok inside = few_opened K laws columns ys pattern ok
