-- A table of powers, and a table of logarithms: one test over each says what all entries are.
-- Assumes nothing.
use Rattle.std.proofs.Common.{◌≡◌, ℕ, zero, suc, ◌+◌, ◌*◌, ◌/◌, ◌%◌, ◌^◌, ◌<◌, Bool, true, cond, ◌&&◌, eqb, ltb, List, [], ◌∷◌, map, get_or, sym, ap, ◌∙◌, add_assoc, suc-mul, add_comm, div-add-mod', zero-add, zero-mul, arith}
use Rattle.std.proofs.lemmas.Bool.{eqb-true, ltb-true, and_parts}
use Rattle.field.specs.Laws.{Laws}
use Rattle.field.specs.Powers.{power}
use Rattle.field.specs.Products.{orbit}
use Rattle.field.specs.Computed.{all, all_at}
use Rattle.field.proofs.Powers.{power_lt, power_add}

-- the first place of x in a list, and its length where there is none
abbrev place : ℕ → List ℕ → ℕ
place x [] = 0
place x (y ∷ ys) = cond (eqb x y) 0 (suc (place x ys))

-- the places in a list of 0, 1 and so on, n in all
abbrev pub places : ℕ → List ℕ → List ℕ
places n ys = map (λ x. place x ys) (orbit n suc 0)

-- entry i is the i-th power of a
abbrev power_test : (ℕ → ℕ → ℕ) → ℕ → List ℕ → ℕ → Bool
power_test mul a table i = eqb (get_or table i 0) (power mul a i)

-- entry x is below c, and is an exponent that gives x
abbrev log_test : (ℕ → ℕ → ℕ) → ℕ → ℕ → List ℕ → ℕ → Bool
log_test mul a c table x = ltb (get_or table x 0) c && eqb (power mul a (get_or table x 0)) x

pub powers_at : (mul : ℕ → ℕ → ℕ) (a c : ℕ) (table : List ℕ) → all c (power_test mul a table) ≡ true → (i : ℕ) → i < c → get_or table i 0 ≡ power mul a i
powers_at mul a c table passed i h = eqb-true _ _ (all_at c (power_test mul a table) passed i h)

pub logs_at : (mul : ℕ → ℕ → ℕ) (a c n : ℕ) (table : List ℕ) → all n (λ x. log_test mul a c table (suc x)) ≡ true
    → (x : ℕ) → 0 < x → x < suc n → (get_or table x 0 < c) × (power mul a (get_or table x 0) ≡ x)
logs_at mul a c n table passed zero pos h = absurd (omega arith)
logs_at mul a c n table passed (suc x) pos h =
    let parts = and_parts _ _ (all_at n (λ v. log_test mul a c table (suc v)) passed x (omega arith)) in
    (ltb-true _ _ parts.0, eqb-true _ _ parts.1)

-- where the c-th power of a is 1, exponents count modulo c
module _ (m : ℕ) (mul : ℕ → ℕ → ℕ) (laws : Laws m mul) (a c : ℕ) (small : a < 2 ^ m) (round : power mul a c ≡ 1) where
  rounds : (k r : ℕ) → power mul a (k * c + r) ≡ power mul a r
  rounds zero r = ap (power mul a) (ap (λ (v : ℕ). v + r) (zero-mul c) ∙ zero-add r)
  rounds (suc k) r =
      ap (power mul a) (ap (λ (v : ℕ). v + r) (suc-mul k c ∙ add_comm (k * c) c) ∙ add_assoc c (k * c) r)
      ∙ power_add m mul laws a c (k * c + r) small
      ∙ ap (λ (v : ℕ). mul v (power mul a (k * c + r))) round
      ∙ laws.neutral (power mul a (k * c + r)) (power_lt m mul laws a (k * c + r) small)
      ∙ rounds k r

  pub power_mod : (i : ℕ) → power mul a (i % c) ≡ power mul a i
  power_mod i = sym (rounds (i / c) (i % c)) ∙ ap (power mul a) (div-add-mod' i c)
