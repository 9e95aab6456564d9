-- The tests of an opening, one by one, and the outcome that they lead to.
-- Assumes nothing.
use Rattle.std.proofs.Common.{◌≡◌, ℕ, suc, ◌%◌, ◌^◌, ◌<◌, Bool, true, false, cond, eqb, List, length, get_or, Some, None, Ok, Err, sym, refl, ap, ◌∙◌, ⊎_elim, arith, eq-eqb, ne_eqb}
use lib.Bits.{bit_xor, xor_self, xor_assoc, xor_zero_l}
use lib.Count.{ones}
use Rattle.std.proofs.lemmas.Bool.{cond-true, cond-false, cases_eq}
use Rattle.bits.proofs.Digits.{xor_equal}
use Rattle.field.specs.Laws.{Laws}
use Rattle.field.specs.Powers.{power}
use Rattle.salt.specs.Admitted.{admitted}
use Rattle.columns.specs.Columns as Columns
use Rattle.frame.specs.Checks.{Below, check_value}
use Rattle.frame.specs.Code.{Code, frame_bits, word, check}
use Rattle.frame.specs.Opening.{Outcome, clean, mended, refused, first, flipped, raw_salt, syndrome, opening_even, opening_odd, opening, judged, answer, filled}
use Rattle.frame.proofs.First.{first_hit, first_miss, first_same}
use Rattle.frame.proofs.Values.{value_flipped}
use Rattle.frame.specs.declared.verdict.Part.{Part}
use Rattle.frame.specs.declared.verdict.OpenFault.{OpenFault}
use Rattle.frame.specs.declared.verdict.OpenFault.TheVariants.{Even}

-- a test that refuses
pub tested_ok : (t : Bool) (v d : ℕ) (e : OpenFault) → Ok d ≡ cond t (Ok v) (Err e) → (t ≡ true) × (d ≡ v)
tested_ok true v d e same = (refl, cc)
tested_ok false v d e same = let z : ◌≡◌ {A = ℕ} 0 1 = cc in absurd (omega arith)

module _ (m : ℕ) (mul : ℕ → ℕ → ℕ) (ys : List ℕ) (a c : ℕ) where
  abbrev v : ℕ
  v = check_value mul ys a

  -- the check value is the check block just when their difference is 0
  value_same : (d : ℕ) → d ≡ bit_xor v c → d ≡ 0 → eqb v c ≡ true
  value_same d is none = eq-eqb v c (xor_equal v c (sym is ∙ none))

  value_differs : (d : ℕ) → d ≡ bit_xor v c → (d ≡ 0 → ⊥) → eqb v c ≡ false
  value_differs d is some = ne_eqb v c (λ same. some (is ∙ ap (bit_xor v) (sym same) ∙ xor_self v))

  pub even_syndrome : (s : ℕ) → (s ≡ 0 → ⊥) → opening_even m mul ys a c s ≡ refused Even
  even_syndrome s some = cond-false (eqb s 0) _ _ (ne_eqb s 0 some)

  pub even_differs : (s d : ℕ) → s ≡ 0 → admitted m mul (length ys) a ≡ true → d ≡ bit_xor v c → (d ≡ 0 → ⊥) → opening_even m mul ys a c s ≡ refused Even
  even_differs s d none fit is some = cond-true (eqb s 0) _ _ (eq-eqb s 0 none) ∙ cond-true _ _ _ fit ∙ cond-false _ _ _ (value_differs d is some)

  pub even_clean : (s d : ℕ) → s ≡ 0 → admitted m mul (length ys) a ≡ true → d ≡ bit_xor v c → d ≡ 0 → opening_even m mul ys a c s ≡ clean ys a
  even_clean s d none fit is same = cond-true (eqb s 0) _ _ (eq-eqb s 0 none) ∙ cond-true _ _ _ fit ∙ cond-true _ _ _ (value_same d is same)

  pub judged_part : (part : Part) (other : Outcome) (d : ℕ) → admitted m mul (length ys) a ≡ true → d ≡ bit_xor v c → d ≡ 0 → judged m mul ys a c part other ≡ mended part ys a
  judged_part part other d fit is same = cond-true _ _ _ fit ∙ cond-true _ _ _ (value_same d is same)

  pub judged_other : (part : Part) (other : Outcome) (d : ℕ) → admitted m mul (length ys) a ≡ true → d ≡ bit_xor v c → (d ≡ 0 → ⊥) → judged m mul ys a c part other ≡ other
  judged_other part other d fit is some = cond-true _ _ _ fit ∙ cond-false _ _ _ (value_differs d is some)

-- a change e makes v into c just when it is their difference
xor_test : (v e c : ℕ) → eqb (bit_xor v e) c ≡ eqb e (bit_xor v c)
xor_test v e c =
    let back : (x y : ℕ) → bit_xor v (bit_xor v y) ≡ y = λ x y. sym (xor_assoc v v y) ∙ ap (λ z. bit_xor z y) (xor_self v) ∙ xor_zero_l y in
    ⊎_elim
    (λ same. eq-eqb _ c (ap (bit_xor v) same ∙ back 0 c) ∙ sym (eq-eqb e _ same))
    (λ apart. ne_eqb _ c (λ h. apart (sym (back 0 e) ∙ ap (bit_xor v) h)) ∙ sym (ne_eqb e _ apart))
    (cases_eq e (bit_xor v c))

-- the block that fits is found by the change that its flip makes
pub fitting : (m : ℕ) (mul : ℕ → ℕ → ℕ) (laws : Laws m mul) (ys : List ℕ) (a c t d : ℕ) → a < 2 ^ m → Below m ys → t < m → d ≡ bit_xor (check_value mul ys a) c → first (λ j. eqb (check_value mul (flipped ys j t) a) c) 0 (length ys) ≡ first (λ j. eqb (mul (2 ^ t) (power mul a (suc j))) d) 0 (length ys)
fitting m mul laws ys a c t d small blocks inside is =
    first_same _ _ (length ys) (λ j h.
    ap (λ x. eqb x c) (value_flipped m mul laws a small ys j t blocks inside h) ∙ xor_test (check_value mul ys a) (mul (2 ^ t) (power mul a (suc j))) c
    ∙ ap (eqb (mul (2 ^ t) (power mul a (suc j)))) (sym is))

-- the search among the columns, by the laws of the column set
pub column_found : (cs : List ℕ) (r t s : ℕ) → Columns.Laws cs r → t < length cs → get_or cs t 0 ≡ s → first (λ k. eqb (get_or cs k 0) s) 0 (length cs) ≡ Some t
column_found cs r t s laws inside is =
    first_hit (λ k. eqb (get_or cs k 0) s) (length cs) t inside (eq-eqb _ s is)
    (λ k before. ne_eqb _ s (λ same. let k≡t = laws.differ k t (omega arith) inside (same ∙ sym is) in absurd (omega arith)))

pub column_missing : (cs : List ℕ) (s : ℕ) → ((t : ℕ) → (t < length cs) × (get_or cs t 0 ≡ s) → ⊥) → first (λ k. eqb (get_or cs k 0) s) 0 (length cs) ≡ None
column_missing cs s none = first_miss (λ k. eqb (get_or cs k 0) s) (length cs) (λ k h. ne_eqb _ s (λ same. none k (h, same)))

module _ (K : Code) (b N : ℕ) (ys : List ℕ) (a c s n : ℕ) (blocks : ys ≡ word K b N) (raw : a ≡ raw_salt K b N) (stored : c ≡ check K b N) (gap : s ≡ syndrome K b N) (counted : n ≡ ones (N % 2 ^ frame_bits K b)) where
  pub opens_even : n % 2 ≡ 0 → opening_even K.m K.mul ys a c s ≡ opening K b N
  opens_even even = (λ i. opening_even K.m K.mul (blocks i) (raw i) (stored i) (gap i)) ∙ sym (cond-true _ _ _ (eq-eqb _ 0 (ap (λ x. x % 2) (sym counted) ∙ even)))

  pub opens_odd : (n % 2 ≡ 0 → ⊥) → opening_odd K ys a c s ≡ opening K b N
  opens_odd odd = (λ i. opening_odd K (blocks i) (raw i) (stored i) (gap i)) ∙ sym (cond-false _ _ _ (ne_eqb _ 0 (λ e. odd (ap (λ x. x % 2) counted ∙ e))))

-- a refused frame leaves the row as it was
pub filled_err : (o : Outcome) (f : OpenFault) (us : List ℕ) → Err f ≡ answer o → filled o us ≡ us
filled_err (clean ys a) f us is = let z : ◌≡◌ {A = ℕ} 0 1 = cc in absurd (omega arith)
filled_err (mended part ys a) f us is = let z : ◌≡◌ {A = ℕ} 0 1 = cc in absurd (omega arith)
filled_err (refused fault) f us is = refl
