-- Each turn ors in one byte more; what is left past the end changes no digit of the row.
-- Assumes nothing.
use Rattle.std.proofs.Common.{◌≡◌, ℕ, suc, ◌+◌, ◌-◌, ◌*◌, ◌%◌, ◌^◌, ◌<◌, ◌≤◌, List, length, drop, get_or, set, bit_or, sym, ap, ◌∙◌, mul_assoc, mul_comm, add-mul, mul-lt-mul_of_pos_right, arith, pow_pos, pow-add, rules, subst, zero-mul}
use Rattle.std.proofs.lemmas.List.{drop_more, drop_all}
use lib.Bits.{or_lt}
use Rattle.bits.specs.Rows.{Bytes, little}
use Rattle.bits.proofs.Rows.{little_lt, bytes_set, little_or, or_above, or_in_two, pow_byte}
use Rattle.bits.proofs.or_bytes.Goals as goal
use Rattle.bits.proofs.or_bytes.Goals.{then-first-i, else-first-i}

-- a byte ored in at place i, and then q from the next place on
step : (xs : List ℕ) (i b q : ℕ) → Bytes xs → i < length xs → b < 256 → bit_or (little (set xs i (bit_or (get_or xs i 0) b))) (q * 2 ^ (8 * suc i)) ≡ bit_or (little xs) ((q * 256 + b) * 2 ^ (8 * i))
step xs i b q h l small =
    let p : ℕ = 2 ^ (8 * i) in
    let up : 2 ^ (8 * suc i) ≡ 256 * p = pow_byte i ∙ mul_comm p 256 in
    let fits : b * p < 2 ^ (8 * suc i) = rw up (mul-lt-mul_of_pos_right small (pow_pos (8 * i))) in
    let parts : q * 2 ^ (8 * suc i) + b * p ≡ (q * 256 + b) * p =
    ap (λ (x : ℕ). q * x + b * p) up ∙ ap (λ (x : ℕ). x + b * p) (sym (mul_assoc q 256 p)) ∙ sym (add-mul (q * 256) b p) in
    ap (λ (x : ℕ). bit_or x (q * 2 ^ (8 * suc i))) (little_or xs i b h l small)
    ∙ or_in_two (8 * suc i) (little xs) q (b * p) fits ∙ ap (bit_or (little xs)) parts

-- what is ored in past the end
past : (xs : List ℕ) (i q : ℕ) → Bytes xs → length xs ≤ i → bit_or (little xs) (q * 2 ^ (8 * i)) % 2 ^ (8 * length xs) ≡ little xs
past xs i q h l =
    let n : ℕ = 8 * length xs in
    let e : 8 * i ≡ (8 * i - n) + n = omega arith in
    let whole : q * 2 ^ (8 * i) ≡ q * 2 ^ (8 * i - n) * 2 ^ n =
    ap (λ (k : ℕ). q * 2 ^ k) e ∙ ap (λ (x : ℕ). q * x) (pow-add 2 (8 * i - n) n) ∙ sym (mul_assoc q (2 ^ (8 * i - n)) (2 ^ n)) in
    ap (λ (x : ℕ). bit_or (little xs) x % 2 ^ n) whole ∙ or_above n (q * 2 ^ (8 * i - n)) (little xs) (little_lt xs h)

-- two numbers ored in past the end
unchanged : (xs : List ℕ) (i j p q m : ℕ) → Bytes xs → length xs ≡ m → length xs ≤ i → length xs ≤ j → bit_or (little xs) (q * 2 ^ (8 * j)) % 2 ^ (8 * m) ≡ bit_or (little xs) (p * 2 ^ (8 * i)) % 2 ^ (8 * m)
unchanged xs i j p q m h e li lj = ap (λ (k : ℕ). bit_or (little xs) (q * 2 ^ (8 * j)) % 2 ^ (8 * k)) (sym e) ∙ past xs j q h lj ∙ sym (past xs i p h li) ∙ ap (λ (k : ℕ). bit_or (little xs) (p * 2 ^ (8 * i)) % 2 ^ (8 * k)) e

-- the bytes from place i on, as a number
rest : (bs : List ℕ) (i : ℕ) → i < length bs → little (drop (i + 1) bs) * 256 + get_or bs i 0 ≡ little (drop i bs)
rest bs i l = sym (ap little (drop_more bs i 0 l))

pub loop-i-init : goal.loop-i-init
loop-i-init c = (c.requires.known, search rules)

pub loop-i-preserved : goal.loop-i-preserved
loop-i-preserved c =
    let xs : List ℕ = c.loop-i.row in
    let bs : List ℕ = c.args.bytes.now in
    let i : ℕ = c.loop-i.i in
    let at : ℕ = c.args.first + i in
    let q : ℕ = little (drop (i + 1) bs) in
    let n : ℕ = 8 * length c.args.row.now in
    let next : c.args.first + (i + 1) ≡ suc at = omega arith in
    let before : bit_or (little xs) ((q * 256 + get_or bs i 0) * 2 ^ (8 * at)) % 2 ^ n ≡ bit_or (little c.args.row.now) (little bs * 2 ^ (8 * c.args.first)) % 2 ^ n =
    ap (λ (x : ℕ). bit_or (little xs) (x * 2 ^ (8 * at)) % 2 ^ n) (rest bs i c.loop-i-test.true) ∙ c.loop-i.invariant.1 in
    let known : Bytes xs = c.loop-i.invariant.0 in
    let byte : get_or bs i 0 < 256 = (c.type_inv.bytes i).fits in
    let Holds : List ℕ → Type 0 =
    λ (row : List ℕ). Bytes row × (bit_or (little row) (q * 2 ^ (8 * (c.args.first + (i + 1)))) % 2 ^ n ≡ bit_or (little c.args.row.now) (little bs * 2 ^ (8 * c.args.first)) % 2 ^ n) in
    elim c.if-first-i.branch [
      | then-first-i w ↦ subst Holds (sym w.row-is) (
        bytes_set xs at _ known (or_lt 8 (get_or xs at 0) (get_or bs i 0) (known at).fits byte),
        ap (λ (k : ℕ). bit_or (little (set xs at (bit_or (get_or xs at 0) (get_or bs i 0)))) (q * 2 ^ (8 * k)) % 2 ^ n) next
            ∙ ap (λ (x : ℕ). x % 2 ^ n) (step xs at (get_or bs i 0) q known w.if-first-i.true byte) ∙ before,
      )
      | else-first-i w ↦ subst Holds (sym w.row-is) (known, unchanged xs at (c.args.first + (i + 1)) _ q (length c.args.row.now) known c.loop-i.auto.row w.if-first-i.false (omega arith) ∙ before)
    ]

pub returns : goal.returns
returns c =
    let xs : List ℕ = c.loop-i.row in
    let m : ℕ = length c.args.row.now in
    let at : ℕ = c.args.first + c.loop-i.i in
    let none : little (drop c.loop-i.i c.args.bytes.now) ≡ 0 = ap little (drop_all c.loop-i.i c.args.bytes.now c.loop-i-test.false) in
    let whole : bit_or (little xs) (0 * 2 ^ (8 * at)) % 2 ^ (8 * m) ≡ little xs =
    ap (λ (x : ℕ). bit_or (little xs) x % 2 ^ (8 * m)) (zero-mul (2 ^ (8 * at)) ∙ sym (zero-mul (2 ^ (8 * length xs))))
    ∙ ap (λ (k : ℕ). bit_or (little xs) (0 * 2 ^ (8 * length xs)) % 2 ^ (8 * k)) (sym c.loop-i.auto.row) ∙ or_above (8 * length xs) 0 (little xs) (little_lt xs c.loop-i.invariant.0) in
    sym whole ∙ ap (λ (x : ℕ). bit_or (little xs) (x * 2 ^ (8 * at)) % 2 ^ (8 * m)) (sym none) ∙ c.loop-i.invariant.1
