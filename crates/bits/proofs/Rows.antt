-- Laws of rows of bytes as numbers, and of runs of binary digits.
-- Assumes nothing.
use Rattle.std.proofs.Common.{◌≡◌, ℕ, zero, suc, ◌+◌, ◌-◌, ◌*◌, ◌/◌, ◌%◌, ◌^◌, ◌<◌, ◌≤◌, List, [], ◌∷◌, length, get_or, set, sym, refl, ap, ◌∙◌, ap₂, suc-le-suc, zero-le, lt_of_lt_of_le, le_of_suc-le-suc, not-suc-le-zero, add-zero, mod-lt, mod-eq_of_lt, mul_assoc, mul_comm, add_comm, suc-ne-zero, div-one, arith, pow_pos, pow_mono, pow-add, shr-shr}
use native.Mathlib.Nat.{zero-div, zero-mod, add-mul-mod_self_right, suc_inj}
use lib.Arith.{digits_lt, digits_div, digits_mod}
use lib.Bits.{bit_or, bit_xor, or_block, or_zero_r, or_lt, or_shifted_r, xor_block, xor_zero_r, xor_lt, xor_shr, xor_mod}
use lib.Pow.{mod-pow-add, mod-mod-pow, field, split, low, high}
use Rattle.std.proofs.Math.ListN.{take}
use Rattle.std.specs.Int.{w64, to_le_bytes}
use Rattle.bits.specs.Rows.{Bytes, little, part, xored}

-- a run of a run
pub part_part : (n a w b v : ℕ) → b + v ≤ w → part (part n a w) b v ≡ part n (a + b) v
part_part n a w b v h =
    let e : w ≡ (w - b - v + v) + b = omega arith in
    let m : ℕ = n / 2 ^ a in
    ap (λ (k : ℕ). m % 2 ^ k / 2 ^ b % 2 ^ v) e ∙ ap (λ (x : ℕ). x % 2 ^ v) (field m (w - b - v + v) b) ∙ mod-mod-pow (m / 2 ^ b) (w - b - v) v
    ∙ ap (λ (x : ℕ). x % 2 ^ v) (shr-shr n a b)

-- a run is its upper digits and its lower w digits
pub part_cat : (n a v w : ℕ) → part n a (v + w) ≡ part n (a + w) v * 2 ^ w + part n a w
part_cat n a v w = mod-pow-add (n / 2 ^ a) v w ∙ ap (λ (x : ℕ). x % 2 ^ v * 2 ^ w + part n a w) (shr-shr n a w)

-- the byte at a place, and 0 past the end
pub byte_part : (xs : List ℕ) (i : ℕ) → Bytes xs → part (little xs) (8 * i) 8 ≡ get_or xs i 0
byte_part [] i h = ap (λ (x : ℕ). x % 256) (zero-div (2 ^ (8 * i))) ∙ zero-mod 256
byte_part (x ∷ xs) zero h = ap (λ (y : ℕ). y % 256) (div-one (little xs * 256 + x)) ∙ digits_mod (little xs) (h 0).fits
byte_part (x ∷ xs) (suc i) h =
    let e : 8 * suc i ≡ 8 + 8 * i = omega arith in
    ap (λ (k : ℕ). (little xs * 256 + x) / 2 ^ k % 256) e ∙ ap (λ (y : ℕ). y % 256) (sym (shr-shr (little xs * 256 + x) 8 (8 * i)))
    ∙ ap (λ (y : ℕ). y / 2 ^ (8 * i) % 256) (digits_div (little xs) (h 0).fits) ∙ byte_part xs i (λ k. h (suc k))

-- 2 to the digits of one byte more
pub pow_byte : (i : ℕ) → 2 ^ (8 * suc i) ≡ 2 ^ (8 * i) * 256
pow_byte i =
    let e : 8 * suc i ≡ 8 * i + 8 = omega arith in
    ap (λ (k : ℕ). 2 ^ k) e ∙ pow-add 2 (8 * i) 8

-- a row of n bytes is a number of 8 * n digits
pub little_lt : (xs : List ℕ) → Bytes xs → little xs < 2 ^ (8 * length xs)
little_lt [] h = suc-le-suc zero-le
little_lt (x ∷ xs) h = rw pow_byte (digits_lt (little_lt xs (λ k. h (suc k))) (h 0).fits)

-- a row with another byte at a place
pub bytes_set : (xs : List ℕ) (i v : ℕ) → Bytes xs → v < 256 → Bytes (set xs i v)
bytes_set [] i v h f k = h k
bytes_set (x ∷ xs) zero v h f zero = record { fits = f }
bytes_set (x ∷ xs) zero v h f (suc k) = h (suc k)
bytes_set (x ∷ xs) (suc i) v h f zero = h 0
bytes_set (x ∷ xs) (suc i) v h f (suc k) = bytes_set xs i v (λ j. h (suc j)) f k

-- the k lowest bytes of a number of at most 8 * k digits are all of it
pub little_low_bytes : (k n : ℕ) → k ≤ 8 → n < 2 ^ (8 * k) → little (take k (to_le_bytes w64 n)) ≡ n
little_low_bytes zero n f h = omega arith
little_low_bytes (suc zero) n f h = omega arith
little_low_bytes (suc (suc zero)) n f h = omega arith
little_low_bytes (suc (suc (suc zero))) n f h = omega arith
little_low_bytes (suc (suc (suc (suc zero)))) n f h = omega arith
little_low_bytes (suc (suc (suc (suc (suc zero))))) n f h = omega arith
little_low_bytes (suc (suc (suc (suc (suc (suc zero)))))) n f h = omega arith
little_low_bytes (suc (suc (suc (suc (suc (suc (suc zero))))))) n f h = omega arith
little_low_bytes (suc (suc (suc (suc (suc (suc (suc (suc zero)))))))) n f h = omega arith
little_low_bytes (suc (suc (suc (suc (suc (suc (suc (suc (suc k))))))))) n f h = omega arith

-- a byte ored into a row
pub little_or : (xs : List ℕ) (i v : ℕ) → Bytes xs → i < length xs → v < 256 → little (set xs i (bit_or (get_or xs i 0) v)) ≡ bit_or (little xs) (v * 2 ^ (8 * i))
little_or [] i v h l f = absurd (not-suc-le-zero l)
little_or (x ∷ xs) zero v h l f =
    let e : v * 1 ≡ 0 * 256 + v = omega arith in
    ap (λ (n : ℕ). n * 256 + bit_or x v) (sym (or_zero_r (little xs))) ∙ sym (or_block 8 (little xs) 0 x v (h 0).fits f)
    ∙ ap (bit_or (little xs * 256 + x)) (sym e)
little_or (x ∷ xs) (suc i) v h l f =
    let up : v * 2 ^ (8 * i) * 256 + 0 ≡ v * 2 ^ (8 * suc i) = add-zero _ ∙ mul_assoc v (2 ^ (8 * i)) 256 ∙ ap (λ (n : ℕ). v * n) (sym (pow_byte i)) in
    ap (λ (n : ℕ). n * 256 + x) (little_or xs i v (λ k. h (suc k)) (le_of_suc-le-suc l) f)
    ∙ ap (λ (n : ℕ). bit_or (little xs) (v * 2 ^ (8 * i)) * 256 + n) (sym (or_zero_r x))
    ∙ sym (or_block 8 (little xs) (v * 2 ^ (8 * i)) x 0 (h 0).fits (suc-le-suc zero-le))
    ∙ ap (bit_or (little xs * 256 + x)) up

-- digits ored in from digit k on leave the k digits below
pub or_above : (k q n : ℕ) → n < 2 ^ k → bit_or n (q * 2 ^ k) % 2 ^ k ≡ n
or_above k q n h = ap (λ (x : ℕ). x % 2 ^ k) (or_shifted_r q k n h) ∙ low q k h

-- a number ored in by its lower k digits, then by the others
pub or_in_two : (k n hi lo : ℕ) → lo < 2 ^ k → bit_or (bit_or n lo) (hi * 2 ^ k) ≡ bit_or n (hi * 2 ^ k + lo)
or_in_two k n hi lo h =
    let a : ℕ = n / 2 ^ k in
    let b : ℕ = n % 2 ^ k in
    let hb : b < 2 ^ k = mod-lt n (pow_pos k) in
    let nothing_above : lo ≡ 0 * 2 ^ k + lo = omega arith in
    let low_part : bit_or n lo ≡ a * 2 ^ k + bit_or b lo =
    ap₂ bit_or (sym (split n k)) nothing_above ∙ or_block k a 0 b lo hb h ∙ ap (λ (x : ℕ). x * 2 ^ k + bit_or b lo) (or_zero_r a) in
    ap (λ (x : ℕ). bit_or x (hi * 2 ^ k)) low_part ∙ ap (bit_or (a * 2 ^ k + bit_or b lo)) (sym (add-zero (hi * 2 ^ k)))
    ∙ or_block k a hi (bit_or b lo) 0 (or_lt k b lo hb h) (pow_pos k)
    ∙ ap (λ (x : ℕ). bit_or a hi * 2 ^ k + x) (or_zero_r (bit_or b lo))
    ∙ sym (or_block k a hi b lo hb h)
    ∙ ap (λ (x : ℕ). bit_or x (hi * 2 ^ k + lo)) (split n k)

-- a number of w digits put above the digits of n: what it is below, and what the or is
pub put_lt : (n v a w : ℕ) → n < 2 ^ a → v < 2 ^ w → v * 2 ^ a + n < 2 ^ (a + w)
put_lt n v a w hn hv =
    let e : 2 ^ (a + w) ≡ 2 ^ w * 2 ^ a = pow-add 2 a w ∙ mul_comm (2 ^ a) (2 ^ w) in
    rw e (digits_lt hv hn)

pub or_fresh : (n v a w k : ℕ) → n < 2 ^ a → v < 2 ^ w → a + w ≤ k → bit_or n (v * 2 ^ a) % 2 ^ k ≡ v * 2 ^ a + n
or_fresh n v a w k hn hv l =
    ap (λ (x : ℕ). x % 2 ^ k) (or_shifted_r v a n hn) ∙ mod-eq_of_lt (lt_of_lt_of_le (put_lt n v a w hn hv) (pow_mono l))

-- the digits of n below those put above them
pub part_under : (n v a b w : ℕ) → b + w ≤ a → part (v * 2 ^ a + n) b w ≡ part n b w
part_under n v a b w l =
    let k : ℕ = w + b in
    let e : a ≡ (a - k) + k = omega arith in
    let q : ℕ = v * 2 ^ (a - k) in
    let up : v * 2 ^ a ≡ q * 2 ^ k = ap (λ (x : ℕ). v * 2 ^ x) e ∙ ap (λ (x : ℕ). v * x) (pow-add 2 (a - k) k) ∙ sym (mul_assoc v (2 ^ (a - k)) (2 ^ k)) in
    let same : (v * 2 ^ a + n) % 2 ^ k ≡ n % 2 ^ k =
    ap (λ (x : ℕ). (x + n) % 2 ^ k) up ∙ ap (λ (x : ℕ). x % 2 ^ k) (add_comm (q * 2 ^ k) n) ∙ add-mul-mod_self_right n q (2 ^ k) in
    sym (field (v * 2 ^ a + n) w b) ∙ ap (λ (x : ℕ). x / 2 ^ b) same ∙ field n w b

-- the digits put above those of n
pub part_top : (n v a w : ℕ) → n < 2 ^ a → v < 2 ^ w → part (v * 2 ^ a + n) a w ≡ v
part_top n v a w hn hv = ap (λ (x : ℕ). x % 2 ^ w) (high v a hn) ∙ mod-eq_of_lt hv

-- a run of digits of an exclusive-or, and of an or
pub part_xor : (m n a w : ℕ) → part (bit_xor m n) a w ≡ bit_xor (part m a w) (part n a w)
part_xor m n a w = ap (λ (x : ℕ). x % 2 ^ w) (xor_shr m n a) ∙ xor_mod (m / 2 ^ a) (n / 2 ^ a) w

-- rows of bytes that are one number are one row
pub little_same : (xs ys : List ℕ) → Bytes xs → Bytes ys → length xs ≡ length ys → little xs ≡ little ys → xs ≡ ys
little_same [] [] hx hy l e = refl
little_same [] (y ∷ ys) hx hy l e = absurd (suc-ne-zero (length ys) (sym l))
little_same (x ∷ xs) [] hx hy l e = absurd (suc-ne-zero (length xs) l)
little_same (x ∷ xs) (y ∷ ys) hx hy l e =
    let first : x ≡ y = sym (digits_mod (little xs) (hx 0).fits) ∙ ap (λ (n : ℕ). n % 256) e ∙ digits_mod (little ys) (hy 0).fits in
    let others : little xs ≡ little ys = sym (digits_div (little xs) (hx 0).fits) ∙ ap (λ (n : ℕ). n / 256) e ∙ digits_div (little ys) (hy 0).fits in
    ap₂ ◌∷◌ first (little_same xs ys (λ k. hx (suc k)) (λ k. hy (suc k)) (suc_inj l) others)

-- the exclusive-or of two rows: its length, its bytes, its number
pub length_xored : (xs ys : List ℕ) → length (xored xs ys) ≡ length xs
length_xored [] ys = refl
length_xored (x ∷ xs) [] = refl
length_xored (x ∷ xs) (y ∷ ys) = ap suc (length_xored xs ys)

pub xored_at : (xs ys : List ℕ) (i : ℕ) → i < length xs → get_or (xored xs ys) i 0 ≡ bit_xor (get_or xs i 0) (get_or ys i 0)
xored_at [] ys i l = absurd (not-suc-le-zero l)
xored_at (x ∷ xs) [] i l = sym (xor_zero_r _)
xored_at (x ∷ xs) (y ∷ ys) zero l = refl
xored_at (x ∷ xs) (y ∷ ys) (suc i) l = xored_at xs ys i (le_of_suc-le-suc l)

pub bytes_xored : (xs ys : List ℕ) → Bytes xs → Bytes ys → Bytes (xored xs ys)
bytes_xored [] ys hx hy k = hx k
bytes_xored (x ∷ xs) [] hx hy k = hx k
bytes_xored (x ∷ xs) (y ∷ ys) hx hy zero = record { fits = xor_lt 8 x y (hx 0).fits (hy 0).fits }
bytes_xored (x ∷ xs) (y ∷ ys) hx hy (suc k) = bytes_xored xs ys (λ j. hx (suc j)) (λ j. hy (suc j)) k

pub little_xored : (xs ys : List ℕ) → Bytes xs → Bytes ys → length ys ≤ length xs → little (xored xs ys) ≡ bit_xor (little xs) (little ys)
little_xored [] [] hx hy l = refl
little_xored [] (y ∷ ys) hx hy l = absurd (not-suc-le-zero l)
little_xored (x ∷ xs) [] hx hy l = sym (xor_zero_r _)
little_xored (x ∷ xs) (y ∷ ys) hx hy l =
    ap (λ (n : ℕ). n * 256 + bit_xor x y) (little_xored xs ys (λ k. hx (suc k)) (λ k. hy (suc k)) (le_of_suc-le-suc l))
    ∙ sym (xor_block 8 (little xs) (little ys) x y (hx 0).fits (hy 0).fits)
