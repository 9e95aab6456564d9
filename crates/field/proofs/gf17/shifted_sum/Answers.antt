use Rattle.std.proofs.Common.{ℕ, ◌+◌, ◌-◌, ◌*◌, ◌/◌, ◌^◌, sym, ap, ◌∙◌, arith}
use lib.Bits.{bit_xor, bit_and, xor_assoc, xor_zero_r}
use Rattle.std.proofs.lemmas.Nat.{one_shl}
use Rattle.field.specs.Products.{plain_product}
use Rattle.field.proofs.Reduction.{plain_step, plain_done}
use Rattle.field.proofs.gf17.shifted_sum.Goals as goal

pub loop-i-preserved : goal.loop-i-preserved
loop-i-preserved c =
    let x = c.args.x in
    let y = c.args.y in
    let i = c.loop-i.i in
    let sum = c.loop-i.sum in
    let rest = plain_product (17 - (i + 1)) (x * 2 ^ (i + 1)) (y / 2 ^ (i + 1)) in
    ap (λ (b : ℕ). bit_xor (bit_xor sum (x * bit_and y b)) rest) (one_shl i 64 (omega arith))
    ∙ xor_assoc sum (x * bit_and y (2 ^ i)) rest ∙ ap (bit_xor sum) (sym (plain_step 17 i x y (omega arith))) ∙ c.loop-i.invariant

pub returns : goal.returns
returns c =
    let sum = c.loop-i.sum in
    sym (xor_zero_r sum) ∙ ap (bit_xor sum) (sym (plain_done 17 c.loop-i.i _ _ c.loop-i-test.false)) ∙ c.loop-i.invariant
