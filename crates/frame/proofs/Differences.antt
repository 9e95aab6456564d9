-- Polynomials in a salt: sums, products by a shifted salt, and the differences of powers and of words.
-- Assumes nothing.
use Rattle.std.proofs.Common.{◌≡◌, ℕ, zero, suc, ◌+◌, ◌*◌, ◌^◌, ◌<◌, ◌≤◌, List, [], ◌∷◌, ◌++◌, map, length, sym, refl, ap, ◌∙◌, subst, ap₂, le_refl, arith, pow_pos}
use lib.Bits.{bit_xor, xor_assoc, xor_comm, xor_self, xor_zero_l, xor_zero_r, xor_lt}
use lib.ListN.{length-map}
use Rattle.std.specs.List.{AllByRecursion}
use Rattle.bits.specs.Rows.{xored}
use Rattle.bits.proofs.Rows.{length_xored}
use Rattle.field.specs.Powers.{power}
use Rattle.field.specs.Polynomials.{value_at}
use Rattle.frame.specs.Checks.{terms}
use Rattle.frame.proofs.Sealed.{xor_back}
use Rattle.frame.proofs.Values.{horner}

-- a product that keeps the laws for all numbers, with values below 2 ^ m
pub record Ring (m : ℕ) (mul : ℕ → ℕ → ℕ) : Type 0 where
  pub closed : (x y : ℕ) → mul x y < 2 ^ m
  pub comm : (x y : ℕ) → mul x y ≡ mul y x
  pub assoc : (x y z : ℕ) → mul (mul x y) z ≡ mul x (mul y z)
  pub distributes : (x y z : ℕ) → mul x (bit_xor y z) ≡ bit_xor (mul x y) (mul x z)

-- f is a polynomial of n coefficients
pub record Poly (m : ℕ) (mul : ℕ → ℕ → ℕ) (n : ℕ) (f : ℕ → ℕ) : Type 0 where
  pub coefficients : List ℕ
  pub long : length coefficients ≡ n
  pub small : AllByRecursion (λ c. c < 2 ^ m) coefficients
  pub value : (x : ℕ) → value_at mul coefficients x ≡ f x

-- the first two of three are exchanged
pub xor_left : (x y z : ℕ) → bit_xor x (bit_xor y z) ≡ bit_xor y (bit_xor x z)
xor_left x y z = sym (xor_assoc x y z) ∙ ap (λ v. bit_xor v z) (xor_comm x y) ∙ xor_assoc y x z

pub small_xored : (m : ℕ) (cs ds : List ℕ) → AllByRecursion (λ c. c < 2 ^ m) cs → AllByRecursion (λ c. c < 2 ^ m) ds → AllByRecursion (λ c. c < 2 ^ m) (xored cs ds)
small_xored m [] ds hc hd = tt
small_xored m (c ∷ cs) [] hc hd = hc
small_xored m (c ∷ cs) (d ∷ ds) hc hd = (xor_lt m c d hc.0 hd.0, small_xored m cs ds hc.1 hd.1)

module _ (m : ℕ) (mul : ℕ → ℕ → ℕ) (ring : Ring m mul) where
  times_comm : (x y : ℕ) → mul x y ≡ mul y x
  times_comm = ring.comm

  times_assoc : (x y z : ℕ) → mul (mul x y) z ≡ mul x (mul y z)
  times_assoc = ring.assoc

  times_sum : (x y z : ℕ) → mul x (bit_xor y z) ≡ bit_xor (mul x y) (mul x z)
  times_sum = ring.distributes

  sum_times : (x y z : ℕ) → mul (bit_xor x y) z ≡ bit_xor (mul x z) (mul y z)
  sum_times x y z = ring.comm (bit_xor x y) z ∙ ring.distributes z x y ∙ ap₂ bit_xor (ring.comm z x) (ring.comm z y)

  times_left : (x y z : ℕ) → mul x (mul y z) ≡ mul y (mul x z)
  times_left x y z = sym (ring.assoc x y z) ∙ ap (λ v. mul v z) (ring.comm x y) ∙ ring.assoc y x z

  times_zero : (x : ℕ) → mul x 0 ≡ 0
  times_zero x = ring.distributes x 0 0 ∙ xor_self (mul x 0)

  ruleset algebra = (xor_zero_r, xor_zero_l, xor_self, xor_back, times_zero, times_sum, sum_times, times_assoc, times_left, times_comm, xor_assoc, xor_left, xor_comm)

  -- f given in another form
  same : (n : ℕ) (f g : ℕ → ℕ) → ((x : ℕ) → f x ≡ g x) → Poly m mul n f → Poly m mul n g
  same n f g agree p = record { coefficients = p.coefficients; long = p.long; small = p.small; value = λ x. p.value x ∙ agree x }

  -- sums
  value_sum : (c d x u v w : ℕ) → w ≡ bit_xor u v → bit_xor (bit_xor c d) (mul x w) ≡ bit_xor (bit_xor c (mul x u)) (bit_xor d (mul x v))
  value_sum c d x u v w is = ap (λ w. bit_xor (bit_xor c d) (mul x w)) is ∙ simp algebra

  value_xored : (cs ds : List ℕ) (x : ℕ) → length ds ≤ length cs → value_at mul (xored cs ds) x ≡ bit_xor (value_at mul cs x) (value_at mul ds x)
  value_xored [] [] x h = refl
  value_xored [] (d ∷ ds) x h = absurd (omega arith)
  value_xored (c ∷ cs) [] x h = sym (xor_zero_r _)
  value_xored (c ∷ cs) (d ∷ ds) x h = value_sum c d x (value_at mul cs x) (value_at mul ds x) _ (value_xored cs ds x (omega arith))

  pub plus : (n k : ℕ) (f g : ℕ → ℕ) → k ≤ n → Poly m mul n f → Poly m mul k g → Poly m mul n (λ x. bit_xor (f x) (g x))
  plus n k f g h p q =
      let fewer : length q.coefficients ≤ length p.coefficients = omega (arith, p.long, q.long) in
      record {
        coefficients = xored p.coefficients q.coefficients;
        long = length_xored p.coefficients q.coefficients ∙ p.long;
        small = small_xored m p.coefficients q.coefficients p.small q.small;
        value = λ x. value_xored p.coefficients q.coefficients x fewer ∙ ap₂ bit_xor (p.value x) (q.value x);
      }

  -- a constant
  pub constant : (c : ℕ) → c < 2 ^ m → Poly m mul 1 (λ x. c)
  constant c h = record { coefficients = c ∷ []; long = refl; small = (h, tt); value = λ x. simp algebra }

  -- the product by the salt
  raised : (n : ℕ) (f : ℕ → ℕ) → Poly m mul n f → Poly m mul (suc n) (λ x. mul x (f x))
  raised n f p =
      record {
        coefficients = 0 ∷ p.coefficients;
        long = ap suc p.long;
        small = (pow_pos m, p.small);
        value = λ x. xor_zero_l (mul x (value_at mul p.coefficients x)) ∙ ap (mul x) (p.value x);
      }

  -- 0 with any number of coefficients
  nought : (n : ℕ) → Poly m mul n (λ x. 0)
  nought zero = record { coefficients = []; long = refl; small = tt; value = λ x. refl }
  nought (suc n) = same (suc n) (λ x. mul x 0) (λ x. 0) times_zero (raised n (λ x. 0) (nought n))

  -- the product by a constant
  value_scaled : (d : ℕ) (cs : List ℕ) (x : ℕ) → value_at mul (map (mul d) cs) x ≡ mul d (value_at mul cs x)
  value_scaled d [] x = sym (times_zero d)
  value_scaled d (c ∷ cs) x = ap (λ v. bit_xor (mul d c) (mul x v)) (value_scaled d cs x) ∙ simp algebra

  small_scaled : (d : ℕ) (cs : List ℕ) → AllByRecursion (λ c. c < 2 ^ m) (map (mul d) cs)
  small_scaled d [] = tt
  small_scaled d (c ∷ cs) = (ring.closed d c, small_scaled d cs)

  scaled : (d n : ℕ) (f : ℕ → ℕ) → Poly m mul n f → Poly m mul n (λ x. mul d (f x))
  scaled d n f p =
      record {
        coefficients = map (mul d) p.coefficients;
        long = length-map p.coefficients (mul d) ∙ p.long;
        small = small_scaled d p.coefficients;
        value = λ x. value_scaled d p.coefficients x ∙ ap (mul d) (p.value x);
      }

  -- the product by the salt with d exclusive-ored in
  times_shifted : (d n : ℕ) (f : ℕ → ℕ) → Poly m mul n f → Poly m mul (suc n) (λ x. mul (bit_xor x d) (f x))
  times_shifted d n f p =
      same (suc n) (λ x. bit_xor (mul x (f x)) (mul d (f x))) (λ x. mul (bit_xor x d) (f x)) (λ x. sym (sum_times x d (f x)))
      (plus (suc n) n (λ x. mul x (f x)) (λ x. mul d (f x)) (omega arith) (raised n f p) (scaled d n f p))

  -- one term, and a sum of terms, of the shifted salt
  term : (d c i : ℕ) → Poly m mul (suc i) (λ x. mul c (power mul (bit_xor x d) i))
  term d c zero = constant (mul c 1) (ring.closed c 1)
  term d c (suc i) =
      same (suc (suc i)) (λ x. mul (bit_xor x d) (mul c (power mul (bit_xor x d) i))) (λ x. mul c (power mul (bit_xor x d) (suc i)))
      (λ x. times_left (bit_xor x d) c _) (times_shifted d (suc i) (λ x. mul c (power mul (bit_xor x d) i)) (term d c i))

  pub all_terms : (d n i : ℕ) (ys : List ℕ) → i + length ys ≤ n → Poly m mul n (λ x. terms mul (bit_xor x d) i ys)
  all_terms d n i [] h = nought n
  all_terms d n i (y ∷ ys) h =
      let others : ℕ → ℕ = λ x. terms mul (bit_xor x d) (suc i) ys in
      let this : ℕ → ℕ = λ x. mul y (power mul (bit_xor x d) i) in
      same n (λ x. bit_xor (others x) (this x)) (λ x. bit_xor (this x) (others x)) (λ x. xor_comm (others x) (this x))
      (plus n (suc i) others this (omega arith) (all_terms d n (suc i) ys (omega arith)) (term d y i))

  -- the power n + 1 of the shifted salt, less that of the salt and k times its power n
  abbrev pub lower : ℕ → ℕ → ℕ → ℕ → ℕ
  lower d k n x = bit_xor (power mul (bit_xor x d) (suc n)) (bit_xor (power mul x (suc n)) (mul k (power mul x n)))

  lower_step : (x d k e p : ℕ) → bit_xor (mul (bit_xor x d) (bit_xor e (bit_xor (mul x p) (mul k p)))) (mul (mul d k) p)
      ≡ bit_xor (mul (bit_xor x d) e) (bit_xor (mul x (mul x p)) (mul (bit_xor k d) (mul x p)))
  lower_step x d k e p = simp algebra

  lower_more : (d k n : ℕ) → Poly m mul n (lower d k n) → Poly m mul (suc n) (lower d (bit_xor k d) (suc n))
  lower_more d k n p =
      let product : ℕ → ℕ = λ x. mul (bit_xor x d) (lower d k n x) in
      let top : ℕ → ℕ = λ x. mul (mul d k) (power mul x n) in
      let top-term : Poly m mul (suc n) top =
      same (suc n) (λ x. top (bit_xor x 0)) top (λ x. ap top (xor_zero_r x)) (term 0 (mul d k) n) in
      same (suc n) (λ x. bit_xor (product x) (top x)) (lower d (bit_xor k d) (suc n)) (λ x. lower_step x d k (power mul (bit_xor x d) (suc n)) (power mul x n))
      (plus (suc n) (suc n) product top (le_refl (suc n)) (times_shifted d n (lower d k n) p) top-term)

  lower_none : (x d p : ℕ) → 0 ≡ bit_xor (mul (bit_xor x d) p) (bit_xor (mul x p) (mul d p))
  lower_none x d p = simp algebra

  -- for even n the factor k is d
  pub even_lower : (d h : ℕ) → Poly m mul (h * 2) (lower d d (h * 2))
  even_lower d zero = same 0 (λ x. 0) (lower d d 0) (λ x. lower_none x d 1) (nought 0)
  even_lower d (suc h) =
      let e : suc (suc (h * 2)) ≡ suc h * 2 = omega arith in
      let back : bit_xor (bit_xor d d) d ≡ d = ap (λ v. bit_xor v d) (xor_self d) ∙ xor_zero_l d in
      subst (λ n. Poly m mul n (lower d d n)) e
      (subst (λ k. Poly m mul (suc (suc (h * 2))) (lower d k (suc (suc (h * 2))))) back (lower_more d (bit_xor d d) (suc (h * 2)) (lower_more d d (h * 2) (even_lower d h))))

  -- a top term on a list of coefficients
  push_step : (c d x v p : ℕ) → bit_xor c (mul x (bit_xor v (mul d p))) ≡ bit_xor (bit_xor c (mul x v)) (mul d (mul x p))
  push_step c d x v p = simp algebra

  pub value_push : (cs : List ℕ) (d x : ℕ) → value_at mul (cs ++ mul d 1 ∷ []) x ≡ bit_xor (value_at mul cs x) (mul d (power mul x (length cs)))
  value_push [] d x = ap (bit_xor (mul d 1)) (times_zero x) ∙ xor_comm (mul d 1) 0
  value_push (c ∷ cs) d x = ap (λ v. bit_xor c (mul x v)) (value_push cs d x) ∙ push_step c d x (value_at mul cs x) (power mul x (length cs))

  -- the difference of two values by Horner's rule
  difference_step : (x c d u v w : ℕ) → bit_xor u v ≡ mul x w → bit_xor (mul x (bit_xor c u)) (mul x (bit_xor d v)) ≡ mul x (bit_xor (bit_xor c d) (mul x w))
  difference_step x c d u v w is = gather ∙ ap (λ q. mul x (bit_xor (bit_xor c d) q)) is
    where
      gather : bit_xor (mul x (bit_xor c u)) (mul x (bit_xor d v)) ≡ mul x (bit_xor (bit_xor c d) (bit_xor u v))
      gather = simp algebra

  pub difference : (cs ds : List ℕ) (x t : ℕ) → length cs ≡ length ds → bit_xor (horner mul x cs t) (horner mul x ds t) ≡ mul x (value_at mul (xored cs ds) x)
  difference [] [] x t h = xor_self t ∙ sym (times_zero x)
  difference [] (d ∷ ds) x t h = absurd (omega arith)
  difference (c ∷ cs) [] x t h = absurd (omega arith)
  difference (c ∷ cs) (d ∷ ds) x t h =
      difference_step x c d (horner mul x cs t) (horner mul x ds t) (value_at mul (xored cs ds) x) (difference cs ds x t (omega arith))
