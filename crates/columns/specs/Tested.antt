-- A test over a list of columns, and what a list that passes it keeps; both sets pass.
-- The proofs stand here since an implementation can name what its laws rest on only from this folder; a reader needs their
-- types alone. That such a list keeps the laws of a column set is in proofs/Tested.antt.
-- Assumes nothing.
use Rattle.std.specs.Prelude.{◌≡◌, ℕ, zero, suc, ◌^◌, ◌<◌, ◌≤◌, Bool, true, false, not, ◌&&◌, List, [], ◌∷◌, length, ◌==◌, ◌≢◌, nat_lt, slice_index, refl}
use Rattle.std.proofs.Common.{sym, ap, subst, ⊎_elim, le_of_suc-le-suc, not-suc-le-zero, arith, pow_mono}
use Rattle.std.specs.List.{AllByRecursion}
use Rattle.std.proofs.ByRecursion.{All-get_or}
use Rattle.std.proofs.lemmas.Bool.{and_parts, not-true, both_ways, ltb-true, eqb-false, eq-eqb, or_left, or_right, cases_order, cases_lt}
use Rattle.columns.specs.Rule.{is_power, non_powers}
use Rattle.columns.specs.Table.{listed}

-- c is none of xs
unfoldable pub absent : ℕ → List ℕ → Bool
absent c [] = true
absent c (x ∷ xs) = not (c == x) && absent c xs

-- c has at most h digits, and is neither 0 nor a power of two
unfoldable pub plain : ℕ → ℕ → Bool
plain h c = nat_lt c (2 ^ h) && (not (c == 0) && not (is_power h c))

-- each column is plain, and none comes twice
unfoldable pub lawful : ℕ → List ℕ → Bool
lawful h [] = true
lawful h (c ∷ cs) = plain h c && (absent c cs && lawful h cs)

-- what the test `plain` says
abbrev pub Plain : ℕ → ℕ → Type 0
Plain h c = (c < 2 ^ h) × (c ≢ 0) × ((k : ℕ) → c ≢ 2 ^ k)

-- the test finds each power of two
power_found : (h k : ℕ) → k < h → is_power h (2 ^ k) ≡ true
power_found zero k lt = absurd (not-suc-le-zero lt)
power_found (suc h) k lt =
    ⊎_elim
    (λ e. or_left (2 ^ k == 2 ^ h) (is_power h (2 ^ k)) (eq-eqb (2 ^ k) (2 ^ h) (ap (λ (x : ℕ). 2 ^ x) e)))
    (λ ways. or_right (2 ^ k == 2 ^ h) (is_power h (2 ^ k)) (power_found h k (⊎_elim (λ (l : k < h). l) (λ (l : h < k). absurd (omega arith)) ways)))
    (cases_order k h)

not_power : (h c : ℕ) → c < 2 ^ h → is_power h c ≡ false → (k : ℕ) → c ≢ 2 ^ k
not_power h c small test k e =
    let lt : k < h = ⊎_elim (λ (l : k < h). l) (λ (l : h ≤ k). absurd (omega (arith, pow_mono l))) (cases_lt k h) in
    both_ways (is_power h c) test (subst (λ (x : ℕ). is_power h x ≡ true) (sym e) (power_found h k lt))

plain_holds : (h c : ℕ) → plain h c ≡ true → Plain h c
unfolding plain
plain_holds h c test =
    let first = and_parts (nat_lt c (2 ^ h)) (not (c == 0) && not (is_power h c)) test in
    let rest = and_parts (not (c == 0)) (not (is_power h c)) first.1 in
    let small = ltb-true c (2 ^ h) first.0 in
    (small, eqb-false c 0 (not-true (c == 0) rest.0), not_power h c small (not-true (is_power h c) rest.1))

absent_holds : (c : ℕ) (xs : List ℕ) → absent c xs ≡ true → (t : ℕ) → t < length xs → c ≢ slice_index xs t
unfolding absent
absent_holds c [] test t lt e = not-suc-le-zero lt
absent_holds c (x ∷ xs) test zero lt e = eqb-false c x (not-true (c == x) (and_parts (not (c == x)) (absent c xs) test).0) e
absent_holds c (x ∷ xs) test (suc t) lt e = absent_holds c xs (and_parts (not (c == x)) (absent c xs) test).1 t (le_of_suc-le-suc lt) e

parts : (h c : ℕ) (cs : List ℕ) → lawful h (c ∷ cs) ≡ true → (plain h c ≡ true) × (absent c cs ≡ true) × (lawful h cs ≡ true)
unfolding lawful
parts h c cs test =
    let first = and_parts (plain h c) (absent c cs && lawful h cs) test in
    let rest = and_parts (absent c cs) (lawful h cs) first.1 in
    (first.0, rest.0, rest.1)

all_plain : (h : ℕ) (cs : List ℕ) → lawful h cs ≡ true → AllByRecursion (Plain h) cs
all_plain h [] test = tt
all_plain h (c ∷ cs) test = let p = parts h c cs test in (plain_holds h c p.0, all_plain h cs p.2)

pub differ : (h : ℕ) (cs : List ℕ) → lawful h cs ≡ true → (s t : ℕ) → s < length cs → t < length cs → slice_index cs s ≡ slice_index cs t → s ≡ t
differ h [] test s t hs ht e = absurd (not-suc-le-zero hs)
differ h (c ∷ cs) test zero zero hs ht e = refl
differ h (c ∷ cs) test zero (suc t) hs ht e = absurd (absent_holds c cs (parts h c cs test).1 t (le_of_suc-le-suc ht) e)
differ h (c ∷ cs) test (suc s) zero hs ht e = absurd (absent_holds c cs (parts h c cs test).1 s (le_of_suc-le-suc hs) (sym e))
differ h (c ∷ cs) test (suc s) (suc t) hs ht e = ap suc (differ h cs (parts h c cs test).2 s t (le_of_suc-le-suc hs) (le_of_suc-le-suc ht) e)

pub sound : (h : ℕ) (cs : List ℕ) → lawful h cs ≡ true → (t : ℕ) → t < length cs → Plain h (slice_index cs t)
sound h cs test t lt = All-get_or (Plain h) cs t 0 lt (all_plain h cs test)

pub table_passes : lawful 4 listed ≡ true
unfolding absent plain lawful
table_passes = refl

pub rule_passes : lawful 5 (non_powers 17) ≡ true
unfolding absent plain lawful non_powers
rule_passes = refl

pub rule_counted : length (non_powers 17) ≡ 17
unfolding non_powers
rule_counted = refl
