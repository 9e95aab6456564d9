use Rattle.std.proofs.Common.{◌≡◌, ◌-◌, ◌*◌, ◌/◌, ◌^◌}
use lib.Bits.{bit_xor}
use Rattle.field.specs.Products.{plain_product}
use Rattle.field.proofs.gf17.shifted_sum.Given as goal

-- what is still to be added completes the sum
abbrev pub invariant-loop-i : goal.invariant-loop-i
invariant-loop-i l = bit_xor l.sum (plain_product (17 - l.i) (l.x * 2 ^ l.i) (l.y / 2 ^ l.i)) ≡ plain_product 17 l.x l.y
