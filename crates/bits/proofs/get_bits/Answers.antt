-- The digits of the window, shifted and masked.
-- Assumes nothing.
use Rattle.std.proofs.Common.{◌≡◌, ℕ, ◌+◌, ◌-◌, ◌*◌, ◌/◌, ◌%◌, ◌^◌, ◌≤◌, min, ap, ◌∙◌, arith}
use lib.Bits.{bit_and, and_mask}
use Rattle.std.proofs.lemmas.Nat.{one_shl}
use Rattle.bits.specs.Rows.{little, part}
use Rattle.bits.proofs.Rows.{part_part}
use Rattle.bits.proofs.get_bits.Goals as goal

-- a run of at most 24 digits lies in the window of its first byte
masked : (n at k x count : ℕ) → x ≡ part n (8 * (at / 8)) 32 → count ≡ min k 24 → bit_and (x / 2 ^ (at % 8)) (1 * 2 ^ count % 2 ^ 32 - 1) ≡ part n at (min k 24)
masked n at k x count e f =
    let few : count ≤ 24 = omega arith in
    let inside : at % 8 + count ≤ 32 = omega arith in
    let there : 8 * (at / 8) + at % 8 ≡ at = omega arith in
    ap (λ (y : ℕ). bit_and (x / 2 ^ (at % 8)) (y - 1)) (one_shl count 32 (omega arith)) ∙ and_mask (x / 2 ^ (at % 8)) count
    ∙ ap (λ (y : ℕ). part y (at % 8) count) e ∙ part_part n (8 * (at / 8)) 32 (at % 8) count inside
    ∙ ap (λ (y : ℕ). part n y count) there ∙ ap (part n at) f

pub returns : goal.returns
returns c = masked (little c.args.row.now) c.args.at c.args.width c.window.result c.min-count.result c.window.ensures c.min-count.ensures
