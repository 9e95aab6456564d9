-- What a frame is mended to can be sealed again: a word of b blocks, and an admitted salt.
-- Assumes nothing.
use Rattle.std.proofs.Common.{◌≡◌, ℕ, ◌*◌, ◌%◌, ◌^◌, ◌<◌, Bool, true, false, cond, ◌&&◌, eqb, List, length, get_or, set, Some, None, Ok, Err, Option, Result, sym, refl, ap, ◌∙◌, subst, ⊎_elim, arith, length-set, get_or-set_other, get_or-set_same, eqb-true}
use lib.Bits.{bit_xor, xor_lt}
use lib.Count.{ones}
use lib.Pow.{pow-lt}
use lib.Seq.{set_out}
use Rattle.std.proofs.lemmas.List.FromFn.{length-map-range_with_len}
use Rattle.std.proofs.lemmas.Bool.{and_parts, cond_both, cases_eq, cases_lt}
use Rattle.bits.specs.Rows.{little, part}
use Rattle.salt.specs.Admitted.{admitted}
use Rattle.frame.specs.Code.{Code, fits, sized, frame_bits, frame_bytes, word, check}
use Rattle.frame.specs.Checks.{Below, check_value}
use Rattle.frame.specs.Opening.{Outcome, clean, mended, refused, first, flipped, judged, in_block, beside, beside_hit, by_column, raw_salt, syndrome, opening_even, opening_odd, opening, row_opening, answer, filled}
use Rattle.frame.specs.Renewal.{renewed}
use Rattle.frame.specs.declared.verdict.Part.{Part}
use Rattle.frame.specs.declared.verdict.Part.TheVariants.{Mask}
use Rattle.frame.specs.declared.verdict.OpenFault.{OpenFault}
use Rattle.frame.specs.declared.verdict.OpenFault.TheVariants.{Unfit, Size, Salt, Even, Unmended}
use Rattle.frame.specs.declared.verdict.Verdict.{Verdict}
use Rattle.frame.specs.declared.verdict.Verdict.TheVariants.{Clean, Mended}
use Rattle.frame.proofs.First.{first_inside}
use Rattle.frame.proofs.Fits.{fit_parts}
use Rattle.frame.proofs.Values.{places_below}

-- a word of b blocks below 2 ^ m, and a salt that is admitted for it
pub record Good (m : ℕ) (mul : ℕ → ℕ → ℕ) (b : ℕ) (ys : List ℕ) (a : ℕ) : Type 0 where
  pub blocks : length ys ≡ b
  pub small : Below m ys
  pub salt : admitted m mul (length ys) a ≡ true

-- of an outcome: if it is mended, it is so to these
abbrev Mends : ℕ → (ℕ → ℕ → ℕ) → ℕ → Outcome → Type 0
Mends m mul b (clean ys a) = Unit {0}
Mends m mul b (mended part ys a) = Good m mul b ys a
Mends m mul b (refused fault) = Unit {0}

below_flipped : (m : ℕ) (ys : List ℕ) (j t : ℕ) → Below m ys → t < m → Below m (flipped ys j t)
below_flipped m ys j t h ht i =
    let y = bit_xor (get_or ys j 0) (2 ^ t) in
    let small : y < 2 ^ m = xor_lt m (get_or ys j 0) (2 ^ t) (h j) (pow-lt ht) in
    ⊎_elim
    (λ (inside : j < length ys).
    ⊎_elim (λ (same : i ≡ j). subst (λ k. get_or (set ys j y) k 0 < 2 ^ m) (sym same) (subst (λ x. x < 2 ^ m) (sym (get_or-set_same ys j y 0 inside)) small))
    (λ other. subst (λ x. x < 2 ^ m) (sym (get_or-set_other ys j i y 0 other)) (h i)) (cases_eq i j))
    (λ past. subst (λ l. get_or l i 0 < 2 ^ m) (sym (set_out ys j y past)) (h i))
    (cases_lt j (length ys))

module _ (m : ℕ) (mul : ℕ → ℕ → ℕ) (b : ℕ) (ys : List ℕ) (long : length ys ≡ b) (small : Below m ys) where
  mends_judged : (a c : ℕ) (part : Part) (other : Outcome) → (admitted m mul (length ys) a ≡ true → Mends m mul b other) → Mends m mul b (judged m mul ys a c part other)
  mends_judged a c part other h =
      cond_both (admitted m mul (length ys) a) (cond (eqb (check_value mul ys a) c) (mended part ys a) other) (refused Salt) (Mends m mul b)
      (λ fit. cond_both (eqb (check_value mul ys a) c) (mended part ys a) other (Mends m mul b) (λ _. record { blocks = long; small = small; salt = fit }) (λ _. h fit))
      (λ _. tt)

  mends_block : (a t : ℕ) → t < m → admitted m mul (length ys) a ≡ true → (found : Option ℕ) → Mends m mul b (in_block ys a t found)
  mends_block a t inside fit None = tt
  mends_block a t inside fit (Some j) =
      let same = length-set ys j (bit_xor (get_or ys j 0) (2 ^ t)) in
      record { blocks = same ∙ long; small = below_flipped m ys j t small inside; salt = ap (λ n. admitted m mul n a) same ∙ fit }

  mends_beside : (a c : ℕ) (found : Option Part) → Mends m mul b (beside_hit m mul ys a c found)
  mends_beside a c None = tt
  mends_beside a c (Some part) = mends_judged a c part (refused Unmended) (λ _. tt)

mends_column : (K : Code) (b : ℕ) (ys : List ℕ) → length ys ≡ b → Below K.m ys → (a c s : ℕ) (found : Option ℕ) → ((t : ℕ) → found ≡ Some t → t < K.m) → Mends K.m K.mul b (by_column K ys a c s found)
mends_column K b ys long small a c s None inside = mends_beside K.m K.mul b ys long small a c (beside K.r s)
mends_column K b ys long small a c s (Some t) inside =
    mends_judged K.m K.mul b ys long small (bit_xor a (2 ^ t)) c (Mask t) _
    (λ fit. mends_block K.m K.mul b ys long small (bit_xor a (2 ^ t)) t (inside t refl) fit (first (λ j. eqb (check_value K.mul (flipped ys j t) (bit_xor a (2 ^ t))) c) 0 (length ys)))

mends_even : (m : ℕ) (mul : ℕ → ℕ → ℕ) (b : ℕ) (ys : List ℕ) (a : ℕ) (zero-gap fit same : Bool) → Mends m mul b (cond zero-gap (cond fit (cond same (clean ys a) (refused Even)) (refused Salt)) (refused Even))
mends_even m mul b ys a true true true = tt
mends_even m mul b ys a true true false = tt
mends_even m mul b ys a true false same = tt
mends_even m mul b ys a false fit same = tt

mends : (K : Code) (b N : ℕ) → fits K ≡ true → Mends K.m K.mul b (opening K b N)
mends K b N fit =
    let ys = word K b N in
    let a = raw_salt K b N in
    let c = check K b N in
    let s = syndrome K b N in
    let long = length-map-range_with_len (λ i. part N (i * K.m) K.m) 0 b in
    cond_both (eqb (ones (N % 2 ^ frame_bits K b) % 2) 0) (opening_even K.m K.mul ys a c s) (opening_odd K ys a c s) (Mends K.m K.mul b)
    (λ _. mends_even K.m K.mul b ys a (eqb s 0) (admitted K.m K.mul (length ys) a) (eqb (check_value K.mul ys a) c))
    (λ _. mends_column K b ys long (places_below K.m b N) a c s (first (λ t. eqb (get_or K.columns t 0) s) 0 (length K.columns))
    (λ t is. let inside = first_inside (λ k. eqb (get_or K.columns k 0) s) (length K.columns) t is in omega (arith, (fit_parts K fit).full)))

-- what is known of a row of bytes that opens mended
pub record Mending (K : Code) (b : ℕ) (bytes : List ℕ) (ys : List ℕ) (a : ℕ) : Type 0 where
  pub fit : fits K ≡ true
  pub few : sized b ≡ true
  pub long : length bytes ≡ frame_bytes K b
  pub good : Good K.m K.mul b ys a

from_row : (K : Code) (b : ℕ) (bytes : List ℕ) (o : Outcome) (fit size : Bool) → fit ≡ fits K → size ≡ (sized b && eqb (length bytes) (frame_bytes K b)) → (fits K ≡ true → Mends K.m K.mul b o) → (part : Part) (ys : List ℕ) (a : ℕ) → cond fit (cond size o (refused Size)) (refused Unfit) ≡ mended part ys a → Mending K b bytes ys a
from_row K b bytes o true true fit size h part ys a is =
    let both = and_parts (sized b) (eqb (length bytes) (frame_bytes K b)) (sym size) in
    record { fit = sym fit; few = both.0; long = eqb-true _ _ both.1; good = subst (Mends K.m K.mul b) is (h (sym fit)) }
from_row K b bytes o true false fit size h part ys a is = let z : ◌≡◌ {A = ℕ} 0 1 = cc in absurd (omega arith)
from_row K b bytes o false s fit size h part ys a is = let z : ◌≡◌ {A = ℕ} 0 1 = cc in absurd (omega arith)

pub mending : (K : Code) (b : ℕ) (bytes : List ℕ) (part : Part) (ys : List ℕ) (a : ℕ) → row_opening K b bytes ≡ mended part ys a → Mending K b bytes ys a
mending K b bytes part ys a is = from_row K b bytes (opening K b (little bytes)) (fits K) (sized b && eqb (length bytes) (frame_bytes K b)) refl refl (mends K b (little bytes)) part ys a is

-- an answer tells its verdict and its salt
ok_same : (v w : Verdict) (a s : ℕ) → ◌≡◌ {A = Result (Verdict × ℕ) OpenFault} (Ok (v, a)) (Ok (w, s)) → (v ≡ w) × (a ≡ s)
ok_same v w a s is = let pair : ◌≡◌ {A = Verdict × ℕ} (v, a) (w, s) = cc in (ap (λ p. p.0) pair, ap (λ p. p.1) pair)

-- the outcome behind an answer, and what it fills the row with
pub mended_answer : (o : Outcome) (hit : Part) (a : ℕ) (row : List ℕ) → Ok (Mended hit, a) ≡ answer o → o ≡ mended hit (filled o row) a
mended_answer (clean ys s) hit a row is = let same = (ok_same (Mended hit) Clean a s is).0 in let z : ◌≡◌ {A = ℕ} 0 1 = cc in absurd (omega arith)
mended_answer (mended other ys s) hit a row is =
    let same = ok_same (Mended hit) (Mended other) a s is in
    let part_same : other ≡ hit = mended_same same.0 in
    (λ i. mended (part_same i) ys (sym same.1 i))
  where
    mended_same : Mended hit ≡ Mended other → other ≡ hit
    mended_same e = cc
mended_answer (refused fault) hit a row is = let z : ◌≡◌ {A = ℕ} 0 1 = cc in absurd (omega arith)

-- a frame that is not mended stays
pub clean_stays : (K : Code) (o : Outcome) (a : ℕ) (bytes : List ℕ) → Ok (Clean, a) ≡ answer o → renewed K bytes o ≡ bytes
clean_stays K (clean ys s) a bytes is = refl
clean_stays K (mended hit ys s) a bytes is = let same = (ok_same Clean (Mended hit) a s is).0 in let z : ◌≡◌ {A = ℕ} 0 1 = cc in absurd (omega arith)
clean_stays K (refused fault) a bytes is = refl

pub refused_stays : (K : Code) (o : Outcome) (fault : OpenFault) (bytes : List ℕ) → Err fault ≡ answer o → renewed K bytes o ≡ bytes
refused_stays K (clean ys s) fault bytes is = refl
refused_stays K (mended hit ys s) fault bytes is = let z : ◌≡◌ {A = ℕ} 0 1 = cc in absurd (omega arith)
refused_stays K (refused other) fault bytes is = refl
