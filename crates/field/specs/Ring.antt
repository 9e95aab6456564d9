-- The product modulo a polynomial keeps the laws of a ring, if two tests on powers of two pass.
-- Lemmas for `Widths`: no contract cites them.
-- Assumes nothing.
use Rattle.std.specs.Prelude.{◌≡◌, ℕ, zero, suc, ◌*◌, ◌/◌, ◌%◌, ◌^◌, ◌<◌, bit_xor, refl}
use Rattle.std.proofs.Common.{sym, ap, ◌∙◌, mod-lt, zero-mul, one-mul, add-zero, arith, one-add, pow_pos, shr_lt}
use Rattle.std.proofs.Math.Path.{ap₂}
use Rattle.std.specs.Int.Bits.{xor_zero_r}
use Rattle.std.proofs.lemmas.Nat.{xor_shr, xor_block}
use Rattle.std.proofs.Math.Pow.{pow-lt}
use Rattle.std.specs.List.{AllByRecursion}
use Rattle.bits.specs.Digits.{pick, Linear}
use Rattle.bits.proofs.Digits.{xor_middle, digit_times, digit_lt, pick_linear, pick_lt, linear_zero, linear_agree, linear_lt}
use Rattle.field.specs.Products.{times_z, orbit, product}

-- what a linear map does to a digit's multiple
digit_through : (m : ℕ) (g : ℕ → ℕ) → Linear m g → (d x : ℕ) → d < 2 → g (d * x) ≡ d * g x
digit_through m g linear zero x h = ap g (zero-mul x) ∙ linear_zero m g linear ∙ sym (zero-mul (g x))
digit_through m g linear (suc zero) x h = ap g (one-mul x) ∙ sym (one-mul (g x))
digit_through m g linear (suc (suc d)) x h = absurd (omega arith)

digit_linear : (d x y : ℕ) → d < 2 → d * bit_xor x y ≡ bit_xor (d * x) (d * y)
digit_linear zero x y h = zero-mul (bit_xor x y) ∙ sym (ap₂ bit_xor (zero-mul x) (zero-mul y))
digit_linear (suc zero) x y h = one-mul (bit_xor x y) ∙ sym (ap₂ bit_xor (one-mul x) (one-mul y))
digit_linear (suc (suc d)) x y h = absurd (omega arith)

-- picking from the orbit of f at an x from which k steps may be taken, D k x, so that all stays below 2 ^ m
module _ (m : ℕ) (f : ℕ → ℕ) (D : ℕ → ℕ → Type 0) (below : (k x : ℕ) → D k x → x < 2 ^ m) (next : (k x : ℕ) → D (suc k) x → D k (f x)) where
  orbit_lt : (k x : ℕ) → D k x → AllByRecursion (λ c. c < 2 ^ m) (orbit k f x)
  orbit_lt zero x hx = tt
  orbit_lt (suc k) x hx = (below (suc k) x hx, orbit_lt k (f x) (next k x hx))

  pub orbit_pick_lt : (k x y : ℕ) → D k x → pick (orbit k f x) y < 2 ^ m
  orbit_pick_lt k x y hx = pick_lt m (orbit k f x) y (orbit_lt k x hx)

  -- a linear map that turns a step of f into a step of h turns the orbit of f into that of h
  pub orbit_through : (g h : ℕ → ℕ) → Linear m g → ((k x : ℕ) → D (suc k) x → g (f x) ≡ h (g x))
      → (k x y : ℕ) → D k x → g (pick (orbit k f x) y) ≡ pick (orbit k h (g x)) y
  orbit_through g h lg through zero x y hx = linear_zero m g lg
  orbit_through g h lg through (suc k) x y hx =
      let digit : y % 2 < 2 = mod-lt y (omega arith) in
      lg _ _ (digit_lt m x (y % 2) (below (suc k) x hx) digit) (orbit_pick_lt k (f x) (y / 2) (next k x hx))
      ∙ ap₂ bit_xor (digit_through m g lg (y % 2) x digit)
      (orbit_through g h lg through k (f x) (y / 2) (next k x hx) ∙ ap (λ (v : ℕ). pick (orbit k h v) (y / 2)) (through k x hx))

orbit_linear : (m : ℕ) (f : ℕ → ℕ) → Linear m f → ((x : ℕ) → x < 2 ^ m → f x < 2 ^ m) → (k y : ℕ) → Linear m (λ x. pick (orbit k f x) y)
orbit_linear m f linear keeps zero y a b ha hb = refl
orbit_linear m f linear keeps (suc k) y a b ha hb =
    ap₂ bit_xor (digit_linear (y % 2) a b (mod-lt y (omega arith)))
    (ap (λ (v : ℕ). pick (orbit k f v) (y / 2)) (linear a b ha hb) ∙ orbit_linear m f linear keeps k (y / 2) (f a) (f b) (keeps a ha) (keeps b hb))
    ∙ xor_middle (y % 2 * a) (y % 2 * b) (pick (orbit k f (f a)) (y / 2)) (pick (orbit k f (f b)) (y / 2))

-- an exclusive-or, shifted
pub xor_shl : (x y k : ℕ) → bit_xor x y * 2 ^ k ≡ bit_xor (x * 2 ^ k) (y * 2 ^ k)
xor_shl x y k =
    sym (add-zero (bit_xor x y * 2 ^ k)) ∙ sym (xor_block k x y 0 0 (pow_pos k) (pow_pos k)) ∙ ap₂ bit_xor (add-zero (x * 2 ^ k)) (add-zero (y * 2 ^ k))

pub times_z_linear : (n p : ℕ) → Linear (suc n) (times_z n p)
times_z_linear n p x y hx hy =
    let top : (v : ℕ) → v < 2 ^ suc n → v / 2 ^ n < 2 = λ v hv. shr_lt 1 n (rw one-add hv) in
    ap₂ bit_xor (xor_shl x y 1)
    (ap (λ (v : ℕ). v * p) (xor_shr x y n) ∙ digit_times (x / 2 ^ n) (y / 2 ^ n) p (top x hx) (top y hy))
    ∙ xor_middle (x * 2) (y * 2) (x / 2 ^ n * p) (y / 2 ^ n * p)

-- the laws of a ring with 1
pub record Ring (m : ℕ) (mul : ℕ → ℕ → ℕ) : Type 0 where
  pub one : 1 < 2 ^ m
  pub closed : (x y : ℕ) → x < 2 ^ m → y < 2 ^ m → mul x y < 2 ^ m
  pub comm : (x y : ℕ) → x < 2 ^ m → y < 2 ^ m → mul x y ≡ mul y x
  pub assoc : (x y z : ℕ) → x < 2 ^ m → y < 2 ^ m → z < 2 ^ m → mul (mul x y) z ≡ mul x (mul y z)
  pub distributes : (x : ℕ) → x < 2 ^ m → Linear m (mul x)
  pub neutral : (x : ℕ) → x < 2 ^ m → mul 1 x ≡ x

-- times z keeps each power of two below 2 ^ (n + 1), and two powers of two commute
module _ (n p : ℕ) (small : (i : ℕ) → i < suc n → times_z n p (2 ^ i) < 2 ^ suc n)
    (swap : (i j : ℕ) → i < suc n → j < suc n → product n p (2 ^ i) (2 ^ j) ≡ product n p (2 ^ j) (2 ^ i)) where
  keeps : (x : ℕ) → x < 2 ^ suc n → times_z n p x < 2 ^ suc n
  keeps = linear_lt (suc n) (suc n) (times_z n p) (times_z_linear n p) small

  closed : (x y : ℕ) → x < 2 ^ suc n → product n p x y < 2 ^ suc n
  unfolding product
  closed x y hx = orbit_pick_lt (suc n) (times_z n p) (λ k v. v < 2 ^ suc n) (λ k v hv. hv) (λ k. keeps) (suc n) x y hx

  left_linear : (y : ℕ) → Linear (suc n) (λ x. product n p x y)
  unfolding product
  left_linear y = orbit_linear (suc n) (times_z n p) (times_z_linear n p) keeps (suc n) y

  right_linear : (x : ℕ) → Linear (suc n) (product n p x)
  unfolding product
  right_linear x y z hy hz = pick_linear (orbit (suc n) (times_z n p) x) y z

  right_one : (x : ℕ) → product n p x 1 ≡ x
  unfolding product
  right_one x =
      let rest = orbit n (times_z n p) (times_z n p x) in
      ap₂ bit_xor (one-mul x) (linear_zero 0 (pick rest) (λ y z hy hz. pick_linear rest y z)) ∙ xor_zero_r x

  comm : (x y : ℕ) → x < 2 ^ suc n → y < 2 ^ suc n → product n p x y ≡ product n p y x
  comm x y hx hy =
      linear_agree (suc n) (product n p x) (λ v. product n p v x) (right_linear x) (left_linear x)
      (λ j hj. linear_agree (suc n) (λ v. product n p v (2 ^ j)) (product n p (2 ^ j)) (left_linear (2 ^ j)) (right_linear (2 ^ j)) (λ i hi. swap i j hi hj) x hx)
      y hy

  -- a linear map that times z goes through goes through the product
  through : (g : ℕ → ℕ) → Linear (suc n) g → ((x : ℕ) → x < 2 ^ suc n → g (times_z n p x) ≡ times_z n p (g x))
      → (x y : ℕ) → x < 2 ^ suc n → g (product n p x y) ≡ product n p (g x) y
  unfolding product
  through g lg commutes x y hx =
      orbit_through (suc n) (times_z n p) (λ k v. v < 2 ^ suc n) (λ k v hv. hv) (λ k. keeps) g (times_z n p) lg (λ k. commutes) (suc n) x y hx

  -- a factor z can be taken out on the left
  left_z : (x y : ℕ) → x < 2 ^ suc n → product n p (times_z n p x) y ≡ times_z n p (product n p x y)
  left_z x y hx =
      sym (through (times_z n p) (times_z_linear n p) (λ v hv. refl) x y hx)

  right_z : (x y : ℕ) → x < 2 ^ suc n → y < 2 ^ suc n → product n p x (times_z n p y) ≡ times_z n p (product n p x y)
  right_z x y hx hy = comm x (times_z n p y) hx (keeps y hy) ∙ left_z y x hy ∙ ap (times_z n p) (comm y x hy hx)

  assoc : (x y z : ℕ) → x < 2 ^ suc n → y < 2 ^ suc n → product n p (product n p x y) z ≡ product n p x (product n p y z)
  assoc x y z hx hy =
      sym (through (product n p x) (right_linear x) (λ v hv. right_z x v hx hv) y z hy)

  pub ring : Ring (suc n) (product n p)
  ring = record {
    one = pow-lt {i = 0} (omega arith);
    closed = λ x y hx hy. closed x y hx;
    comm = comm;
    assoc = λ x y z hx hy hz. assoc x y z hx hy;
    distributes = λ x hx. right_linear x;
    neutral = λ x hx. comm 1 x (pow-lt {i = 0} (omega arith)) hx ∙ right_one x;
  }
