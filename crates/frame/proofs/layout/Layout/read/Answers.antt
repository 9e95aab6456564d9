use Rattle.std.proofs.Common.{◌≡◌, ◌≤◌, min, ap, ◌∙◌, ap₂, arith}
use lib.Count.{ones}
use Rattle.bits.specs.Rows.{little, part}
use Rattle.frame.specs.Checks.{all_ones}
use Rattle.frame.proofs.Counts.{ones_frame}
use Rattle.frame.proofs.layout.Layout.read.Goals as goal

pub returns : goal.returns
returns g c =
    let N = little c.args.frame.now in
    let b = c.args.self.now.blocks in
    let m = g.F.Field.WIDTH in
    let r = g.C.ColumnSet.height c.args.self.now.set.now in
    let narrow : c.width.result ≤ 24 = c.width.ensures.bound in
    let whole : min c.width.result 24 ≡ m = omega (arith, c.width.ensures.value, narrow) in
    let short : min c.sum_bits.result 24 ≡ r = omega (arith, c.sum_bits.ensures.value, c.sum_bits.ensures.bound) in
    let mask = c.get_bits.ensures ∙ ap₂ (part N) c.mask_at.ensures whole in
    let sum = c.get_bits-2.ensures ∙ ap₂ (part N) c.sum_at.ensures short in
    let whole-2 : min c.width-2.result 24 ≡ m = omega (arith, c.width-2.ensures.value, c.width-2.ensures.bound) in
    let check = c.get_bits-3.ensures ∙ ap₂ (part N) c.check_at.ensures whole-2 in
    let parity = c.get_bits-parity.ensures ∙ ap (λ k. part N k 1) c.parity_at.ensures.value in
    let counted = c.ones_above.ensures.value in
    let blocks = ap all_ones c.read_blocks.ensures in
    let all = ones_frame m r b N in
    let ones-mask = ap ones mask in
    let ones-sum = ap ones sum in
    let ones-check = ap ones check in
    record { blocks = c.read_blocks.ensures; mask = mask; sum = sum; check = check; ones = omega (arith, parity) }
