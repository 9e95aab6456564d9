-- A ring whose numbers have m digits is a field, if m squarings give each power of two back, and only 0 and 1 are their own squares.
-- Lemmas for `Widths`: no contract cites them.
-- Assumes nothing.
use Rattle.std.specs.Prelude.{◌≡◌, ℕ, zero, suc, ◌*◌, ◌/◌, ◌^◌, ◌<◌, ◌⊎◌, List, bit_xor, refl}
use Rattle.std.proofs.Math.Path.{sym, ap}
use Rattle.std.proofs.Common.{ap₂, ◌∙◌, arith}
use Rattle.std.proofs.Math.Logic.{inl, inr}
use Rattle.std.specs.Int.Bits.{xor_self}
use Rattle.std.proofs.lemmas.Nat.{xor_lt, xor_shr}
use Rattle.bits.specs.Digits.{pick, Linear}
use Rattle.bits.proofs.Digits.{xor_inner, xor_middle, pick_linear, linear_zero, linear_agree}
use Rattle.field.specs.Laws.{Laws}
use Rattle.field.specs.Ring.{Ring, xor_shl}

-- x squared k times
abbrev pub squares : (ℕ → ℕ → ℕ) → ℕ → ℕ → ℕ
squares mul zero x = x
squares mul (suc k) x = mul (squares mul k x) (squares mul k x)

-- the product of x squared once, twice, and so on up to k times
most : (ℕ → ℕ → ℕ) → ℕ → ℕ → ℕ
most mul zero x = 1
most mul (suc k) x = mul (most mul k x) (squares mul (suc k) x)

-- `table` finds e, but for its lowest digit, from the square of e and e
module _ (n : ℕ) (mul : ℕ → ℕ → ℕ) (ring : Ring (suc n) mul) (table : List ℕ)
    (fixed : (i : ℕ) → i < suc n → squares mul (suc n) (2 ^ i) ≡ 2 ^ i)
    (found : (i : ℕ) → i < suc n → pick table (bit_xor (mul (2 ^ i) (2 ^ i)) (2 ^ i)) ≡ 2 ^ i / 2 * 2) where
  left_linear : (y : ℕ) → y < 2 ^ suc n → Linear (suc n) (λ x. mul x y)
  left_linear y hy a b ha hb =
      ring.comm (bit_xor a b) y (xor_lt (suc n) a b ha hb) hy ∙ ring.distributes y hy a b ha hb
      ∙ ap₂ bit_xor (ring.comm y a hy ha) (ring.comm y b hy hb)

  square_linear : Linear (suc n) (λ x. mul x x)
  square_linear a b ha hb =
      let sum = xor_lt (suc n) a b ha hb in
      ring.distributes (bit_xor a b) sum a b ha hb
      ∙ ap₂ bit_xor (left_linear a ha a b ha hb) (left_linear b hb a b ha hb)
      ∙ ap (λ (v : ℕ). bit_xor (bit_xor (mul a a) v) (bit_xor (mul a b) (mul b b))) (ring.comm b a hb ha)
      ∙ xor_inner (mul a a) (mul b b) (mul a b)

  zero_right : (x : ℕ) → x < 2 ^ suc n → mul x 0 ≡ 0
  zero_right x hx = linear_zero (suc n) (mul x) (ring.distributes x hx)

  one_right : (x : ℕ) → x < 2 ^ suc n → mul x 1 ≡ x
  one_right x hx = ring.comm x 1 hx ring.one ∙ ring.neutral x hx

  squares_lt : (k x : ℕ) → x < 2 ^ suc n → squares mul k x < 2 ^ suc n
  squares_lt zero x hx = hx
  squares_lt (suc k) x hx = ring.closed _ _ (squares_lt k x hx) (squares_lt k x hx)

  squares_linear : (k : ℕ) → Linear (suc n) (squares mul k)
  squares_linear zero a b ha hb = refl
  squares_linear (suc k) a b ha hb =
      ap (λ (v : ℕ). mul v v) (squares_linear k a b ha hb) ∙ square_linear _ _ (squares_lt k a ha) (squares_lt k b hb)

  -- m squarings give every x back
  squares_all : (x : ℕ) → x < 2 ^ suc n → squares mul (suc n) x ≡ x
  squares_all = linear_agree (suc n) (squares mul (suc n)) (λ x. x) (squares_linear (suc n)) (λ a b ha hb. refl) fixed

  most_lt : (k x : ℕ) → x < 2 ^ suc n → most mul k x < 2 ^ suc n
  unfolding most
  most_lt zero x hx = ring.one
  most_lt (suc k) x hx = ring.closed _ _ (most_lt k x hx) (squares_lt (suc k) x hx)

  -- two factors more
  most_squares : (k x : ℕ) → x < 2 ^ suc n → mul x (mul x (most mul k x)) ≡ squares mul (suc k) x
  unfolding most
  most_squares zero x hx = ap (mul x) (one_right x hx)
  most_squares (suc k) x hx =
      let m = most_lt k x hx in
      let s = squares_lt (suc k) x hx in
      ap (mul x) (sym (ring.assoc x (most mul k x) (squares mul (suc k) x) hx m s))
      ∙ sym (ring.assoc x (mul x (most mul k x)) (squares mul (suc k) x) hx (ring.closed x (most mul k x) hx m) s)
      ∙ ap (λ (v : ℕ). mul v (squares mul (suc k) x)) (most_squares k x hx)

  -- e with x e = x and e e = e, as a product of x and another
  unit : ℕ → ℕ
  unit x = mul x (most mul n x)

  unit_lt : (x : ℕ) → x < 2 ^ suc n → unit x < 2 ^ suc n
  unfolding unit
  unit_lt x hx = ring.closed x (most mul n x) hx (most_lt n x hx)

  unit_keeps : (x : ℕ) → x < 2 ^ suc n → mul x (unit x) ≡ x
  unfolding unit
  unit_keeps x hx = most_squares n x hx ∙ squares_all x hx

  unit_square : (x : ℕ) → x < 2 ^ suc n → mul (unit x) (unit x) ≡ unit x
  unfolding unit
  unit_square x hx =
      let v = most mul n x in
      let hv = most_lt n x hx in
      let he = unit_lt x hx in
      ap (λ (w : ℕ). mul w (unit x)) (ring.comm x v hx hv) ∙ ring.assoc v x (unit x) hv hx he
      ∙ ap (mul v) (unit_keeps x hx) ∙ ring.comm v x hv hx

  -- what the table finds, for every e
  found_all : (e : ℕ) → e < 2 ^ suc n → pick table (bit_xor (mul e e) e) ≡ e / 2 * 2
  found_all =
      linear_agree (suc n) (λ e. pick table (bit_xor (mul e e) e)) (λ e. e / 2 * 2)
      (λ a b ha hb. ap (λ (v : ℕ). pick table (bit_xor v (bit_xor a b))) (square_linear a b ha hb)
      ∙ ap (pick table) (xor_middle (mul a a) (mul b b) a b) ∙ pick_linear table (bit_xor (mul a a) a) (bit_xor (mul b b) b))
      (λ a b ha hb. ap (λ (v : ℕ). v * 2) (xor_shr a b 1) ∙ xor_shl (a / 2) (b / 2) 1)
      found

  -- what is its own square is 0 or 1
  own_square : (e : ℕ) → e < 2 ^ suc n → mul e e ≡ e → e < 2
  own_square e he same =
      let none : e / 2 * 2 ≡ 0 =
      sym (found_all e he) ∙ ap (λ (v : ℕ). pick table (bit_xor v e)) same ∙ ap (pick table) (xor_self e)
      ∙ linear_zero 0 (pick table) (λ a b ha hb. pick_linear table a b) in
      omega arith

  integral_by : (x y e : ℕ) → x < 2 ^ suc n → y < 2 ^ suc n → unit x ≡ e → e < 2 → mul x y ≡ 0 → (x ≡ 0) ⊎ (y ≡ 0)
  unfolding unit
  integral_by x y zero hx hy is h none = inl (sym (unit_keeps x hx) ∙ ap (mul x) is ∙ zero_right x hx)
  integral_by x y (suc zero) hx hy is h none =
      let v = most mul n x in
      let hv = most_lt n x hx in
      inr
      (sym (ring.neutral y hy) ∙ ap (λ (w : ℕ). mul w y) (sym is ∙ ring.comm x v hx hv)
      ∙ ring.assoc v x y hv hx hy ∙ ap (mul v) none ∙ zero_right v hv)
  integral_by x y (suc (suc e)) hx hy is h none = absurd (omega arith)

  pub field_laws : Laws (suc n) mul
  field_laws = record {
    one = ring.one;
    closed = ring.closed;
    comm = ring.comm;
    assoc = ring.assoc;
    distributes = λ x y z hx hy hz. ring.distributes x hx y z hy hz;
    neutral = ring.neutral;
    integral = λ x y hx hy none. integral_by x y (unit x) hx hy refl (own_square (unit x) (unit_lt x hx) (unit_square x hx)) none;
  }
