-- What a verdict names is what was put right: an outcome's word is the stored one with that bit flipped.
-- Assumes nothing.
use Rattle.std.proofs.Common.{◌≡◌, ℕ, suc, ◌-◌, ◌%◌, ◌^◌, ◌<◌, Bool, true, false, cond, eqb, List, length, get_or, Some, None, Ok, Option, refl, ap, subst, arith}
use Rattle.std.specs.Option.{option_map}
use lib.Bits.{bit_xor}
use lib.Count.{ones}
use Rattle.std.proofs.lemmas.Bool.{cond_both}
use Rattle.salt.specs.Admitted.{admitted}
use Rattle.frame.specs.Checks.{check_value}
use Rattle.frame.specs.Code.{Code, fits, frame_bits, word, check}
use Rattle.frame.specs.Opening.{Outcome, clean, mended, refused, first, flipped, beside, opening_even, opening_odd, opening, in_block, beside_hit, judged, by_column, answer, filled, righted, Names, raw_salt, syndrome}
use Rattle.frame.proofs.First.{first_inside}
use Rattle.frame.proofs.Fits.{fit_parts}
use Rattle.frame.specs.declared.verdict.Part.{Part}
use Rattle.frame.specs.declared.verdict.Part.TheVariants.{Mask, Sum, Parity}
use Rattle.frame.specs.declared.verdict.Verdict.{Verdict}
use Rattle.frame.specs.declared.verdict.Verdict.TheVariants.{Clean, Mended}
use Rattle.frame.specs.declared.verdict.OpenFault.TheVariants.{Salt, Even, Unmended}

-- the word of an outcome, by its verdict and the stored word
abbrev Right : List ℕ → Outcome → Type 0
Right ys (clean zs a) = zs ≡ ys
Right ys (mended part zs a) = (zs ≡ righted (Mended part) ys) × Names (Mended part) (length ys)
Right ys (refused fault) = Unit {0}

judged_right : (m : ℕ) (mul : ℕ → ℕ → ℕ) (ys : List ℕ) (a c : ℕ) (part : Part) (other : Outcome) → Right ys (mended part ys a) → Right ys other → Right ys (judged m mul ys a c part other)
judged_right m mul ys a c part other here there =
    cond_both (admitted m mul (length ys) a) _ _ (Right ys) (λ _. cond_both (eqb (check_value mul ys a) c) _ _ (Right ys) (λ _. here) (λ _. there)) (λ _. tt)

block_right : (ys : List ℕ) (a t : ℕ) (o : Option ℕ) → t < 32 → ((j : ℕ) → o ≡ Some j → j < length ys) → Right ys (in_block ys a t o)
block_right ys a t None small inside = tt
block_right ys a t (Some j) small inside =
    let before : j ≡ suc j - 1 = omega arith in
    let below : j < length ys = inside j refl in
    (ap (λ k. flipped ys k t) before, (omega arith, below, small))

beside_part : (m : ℕ) (mul : ℕ → ℕ → ℕ) (ys : List ℕ) (a c r s : ℕ) → Right ys (beside_hit m mul ys a c (beside r s))
beside_part m mul ys a c r s =
    cond_both (eqb s 0) _ _ (λ o. Right ys (beside_hit m mul ys a c o)) (λ _. judged_right m mul ys a c Parity (refused Unmended) (refl, tt) tt)
    (λ _. by_sum (first (λ t. eqb (2 ^ t) s) 0 r))
  where
    by_sum : (o : Option ℕ) → Right ys (beside_hit m mul ys a c (option_map Sum o))
    by_sum None = tt
    by_sum (Some t) = judged_right m mul ys a c (Sum t) (refused Unmended) (refl, tt) tt

odd_right : (K : Code) (ys : List ℕ) (a c s : ℕ) → fits K ≡ true → Right ys (opening_odd K ys a c s)
odd_right K ys a c s fit = by (first (λ t. eqb (get_or K.columns t 0) s) 0 (length K.columns)) refl
  where
    by : (o : Option ℕ) → first (λ t. eqb (get_or K.columns t 0) s) 0 (length K.columns) ≡ o → Right ys (by_column K ys a c s o)
    by None is = beside_part K.m K.mul ys a c K.r s
    by (Some t) is =
        let inside = first_inside (λ t. eqb (get_or K.columns t 0) s) (length K.columns) t is in
        let parts = fit_parts K fit in
        let small : t < 32 = omega (arith, inside, parts.full, parts.narrow) in
        judged_right K.m K.mul ys (bit_xor a (2 ^ t)) c (Mask t) _ (refl, tt)
        (block_right ys (bit_xor a (2 ^ t)) t _ small (first_inside (λ j. eqb (check_value K.mul (flipped ys j t) (bit_xor a (2 ^ t))) c) (length ys)))

even_right : (gone fit same : Bool) (ys : List ℕ) (a : ℕ) → Right ys (cond gone (cond fit (cond same (clean ys a) (refused Even)) (refused Salt)) (refused Even))
even_right true true true ys a = refl
even_right true true false ys a = tt
even_right true false same ys a = tt
even_right false fit same ys a = tt

either : (ys : List ℕ) (t : Bool) (o other : Outcome) → Right ys o → Right ys other → Right ys (cond t o other)
either ys true o other here there = here
either ys false o other here there = there

opening_right : (K : Code) (b N : ℕ) → fits K ≡ true → Right (word K b N) (opening K b N)
opening_right K b N fit =
    let ys : List ℕ = word K b N in
    let a : ℕ = raw_salt K b N in
    let c : ℕ = check K b N in
    let s : ℕ = syndrome K b N in
    either ys (eqb (ones (N % 2 ^ frame_bits K b) % 2) 0) (opening_even K.m K.mul ys a c s) (opening_odd K ys a c s)
    (even_right (eqb s 0) (admitted K.m K.mul (length ys) a) (eqb (check_value K.mul ys a) c) ys a)
    (odd_right K ys a c s fit)

-- an outcome with a verdict fills a row with the stored word put right by it
of_verdict : (ys before : List ℕ) (o : Outcome) (v : Verdict) (a : ℕ) → Right ys o → Ok (v, a) ≡ answer o → (filled o before ≡ righted v ys) × Names v (length ys)
of_verdict ys before (clean zs b) v a right is = let both : ◌≡◌ {A = Verdict × ℕ} (Clean, b) (v, a) = cc in subst (λ w. (zs ≡ righted w ys) × Names w (length ys)) (ap (λ p. p.0) both) (right, tt)
of_verdict ys before (mended part zs b) v a right is = let both : ◌≡◌ {A = Verdict × ℕ} (Mended part, b) (v, a) = cc in subst (λ w. (zs ≡ righted w ys) × Names w (length ys)) (ap (λ p. p.0) both) right
of_verdict ys before (refused fault) v a right is = let z : ◌≡◌ {A = ℕ} 0 1 = cc in absurd (omega arith)

pub verdict_rights : (K : Code) (b N : ℕ) (before : List ℕ) (v : Verdict) (a : ℕ) → fits K ≡ true → Ok (v, a) ≡ answer (opening K b N) → (filled (opening K b N) before ≡ righted v (word K b N)) × Names v (length (word K b N))
verdict_rights K b N before v a fit is = of_verdict (word K b N) before (opening K b N) v a (opening_right K b N fit) is
