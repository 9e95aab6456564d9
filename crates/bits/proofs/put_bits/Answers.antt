-- A shift by whole bytes and one by the digits that are left.
-- Assumes nothing.
use Rattle.std.proofs.Common.{◌≡◌, ℕ, ◌+◌, ◌*◌, ◌/◌, ◌%◌, ◌^◌, ◌<◌, List, length, sym, ap, ◌∙◌, ◌-◌, ◌≤◌, mul_assoc, arith, lt_of_lt_of_le, mod-lt, pow_pos, pow-add, pow_mono, shl_exact, zero-mul}
use lib.Bits.{bit_or}
use Rattle.std.proofs.Math.ListN.{take}
use Rattle.std.proofs.lemmas.Nat.{leading_length}
use Rattle.std.specs.Int.{w64, to_le_bytes, leading_zeros}
use Rattle.bits.specs.Rows.{little}
use Rattle.bits.proofs.Rows.{little_low_bytes, little_lt, or_above}
use Rattle.bits.proofs.put_bits.Goals as goal

shifted : (v at : ℕ) → v < 2 ^ 32 → v * 2 ^ (at % 8) % 2 ^ 64 * 2 ^ (8 * (at / 8)) ≡ v * 2 ^ at
shifted v at h =
    let e : at % 8 + 8 * (at / 8) ≡ at = omega arith in
    ap (λ (x : ℕ). x * 2 ^ (8 * (at / 8))) (shl_exact 32 (at % 8) 64 h (omega arith))
    ∙ mul_assoc v (2 ^ (at % 8)) (2 ^ (8 * (at / 8))) ∙ ap (λ (x : ℕ). v * x) (sym (pow-add 2 (at % 8) (8 * (at / 8)))) ∙ ap (λ (k : ℕ). v * 2 ^ k) e

-- the bytes up to the highest digit
cut : (n : ℕ) → n < 2 ^ 64 → little (take (8 - leading_zeros w64 n / 8) (to_le_bytes w64 n)) ≡ n
cut n h =
    let (m, e, lt, _) = leading_length 64 n h in
    let near : m ≤ 8 * (8 - leading_zeros w64 n / 8) = omega arith in
    let most : 8 - leading_zeros w64 n / 8 ≤ 8 = omega arith in
    little_low_bytes (8 - leading_zeros w64 n / 8) n most (lt_of_lt_of_le lt (pow_mono near))

pub returns-then-value-gt0 : goal.returns-then-value-gt0
returns-then-value-gt0 c =
    let n : ℕ = c.args.value * 2 ^ (c.args.at % 8) % 2 ^ 64 in
    let k : ℕ = 8 - leading_zeros w64 n / 8 in
    let whole : little (take k c.to_le_bytes.result) * 2 ^ (8 * (c.args.at / 8)) ≡ c.args.value * 2 ^ c.args.at =
    ap (λ (x : ℕ). x * 2 ^ (8 * (c.args.at / 8))) (ap (λ (bs : List ℕ). little (take k bs)) c.to_le_bytes.ensures ∙ cut n (mod-lt _ (pow_pos 64)))
    ∙ shifted c.args.value c.args.at c.ranges.value.fits in
    record {
      long = c.or_bytes.auto.row;
      ored = c.or_bytes.ensures ∙ ap (λ (x : ℕ). bit_or (little c.args.row.now) x % 2 ^ (8 * length c.args.row.now)) whole;
    }

pub returns-else-value-gt0-clause-ored : goal.returns-else-value-gt0-clause-ored
returns-else-value-gt0-clause-ored c =
    let xs : List ℕ = c.args.row.now in
    let k : ℕ = 8 * length xs in
    let zero_value : c.args.value ≡ 0 = omega (arith, c.if-value-gt0.false) in
    let none : 0 * 2 ^ k ≡ c.args.value * 2 ^ c.args.at =
    zero-mul (2 ^ k) ∙ sym (zero-mul (2 ^ c.args.at)) ∙ ap (λ (v : ℕ). v * 2 ^ c.args.at) (sym zero_value) in
    sym (or_above k 0 (little xs) (little_lt xs c.type_inv.row)) ∙ ap (λ (x : ℕ). bit_or (little xs) x % 2 ^ k) none
