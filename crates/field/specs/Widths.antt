-- The fields of width 7 and 17: the tests that make the product modulo a polynomial a field, and that they pass.
-- They stand in this folder since an implementation can name its laws only from here; a reader needs the types of `laws7` and `laws17` alone.
-- Assumes nothing.
use Rattle.std.specs.Prelude.{◌≡◌, ℕ, suc, ◌*◌, ◌/◌, ◌^◌, ◌<◌, Bool, true, List, [], ◌∷◌, ◌==◌, bit_xor, nat_lt, refl}
use Rattle.std.proofs.lemmas.Bool.{eqb-true, ltb-true}
use Rattle.bits.specs.Digits.{pick}
use Rattle.field.specs.Laws.{Laws}
use Rattle.field.specs.Products.{times_z, product}
use Rattle.field.specs.Inverses.{squares, field_laws}
use Rattle.field.specs.Ring.{ring}
use Rattle.field.specs.Computed.{all, all_at}

-- times z keeps 2 ^ i below 2 ^ (n + 1)
abbrev small_test : ℕ → ℕ → ℕ → Bool
small_test n p i = nat_lt (times_z n p (2 ^ i)) (2 ^ suc n)

-- 2 ^ i and 2 ^ j commute
abbrev swap_test : ℕ → ℕ → ℕ → ℕ → Bool
swap_test n p i j = product n p (2 ^ i) (2 ^ j) == product n p (2 ^ j) (2 ^ i)

-- n + 1 squarings give 2 ^ i back
abbrev fixed_test : ℕ → ℕ → ℕ → Bool
fixed_test n p i = squares (product n p) (suc n) (2 ^ i) == 2 ^ i

-- the table finds 2 ^ i, but for its lowest digit, from its square and itself
abbrev found_test : ℕ → ℕ → List ℕ → ℕ → Bool
found_test n p table i = pick table (bit_xor (product n p (2 ^ i) (2 ^ i)) (2 ^ i)) == 2 ^ i / 2 * 2

laws_by : (n p : ℕ) (table : List ℕ) → all (suc n) (small_test n p) ≡ true → all (suc n) (λ i. all (suc n) (swap_test n p i)) ≡ true
    → all (suc n) (fixed_test n p) ≡ true → all (suc n) (found_test n p table) ≡ true → Laws (suc n) (product n p)
laws_by n p table small swap fixed found =
    let m = suc n in
    let swapped : (i j : ℕ) → i < m → j < m → product n p (2 ^ i) (2 ^ j) ≡ product n p (2 ^ j) (2 ^ i) =
    λ i j hi hj. eqb-true _ _ (all_at m (swap_test n p i) (all_at m (λ k. all m (swap_test n p k)) swap i hi) j hj) in
    field_laws n (product n p) (ring n p (λ i hi. ltb-true _ _ (all_at m (small_test n p) small i hi)) swapped) table
    (λ i hi. eqb-true _ _ (all_at m (fixed_test n p) fixed i hi))
    (λ i hi. eqb-true _ _ (all_at m (found_test n p table) found i hi))

pub laws7 : Laws 7 (product 6 137)
unfolding all product
laws7 = laws_by 6 137 (0 ∷ 16 ∷ 18 ∷ 102 ∷ 22 ∷ 40 ∷ 110 ∷ []) refl refl refl refl

pub laws17 : Laws 17 (product 16 131081)
unfolding all product
laws17 =
    laws_by 16 131081
    (0 ∷ 19518 ∷ 19516 ∷ 107080 ∷ 19512 ∷ 1064 ∷ 107072 ∷ 112136 ∷ 19496 ∷ 518 ∷ 1032 ∷ 16384 ∷ 107008 ∷ 98310 ∷ 112264 ∷ 85294 ∷ 19752 ∷ [])
    refl refl refl refl
