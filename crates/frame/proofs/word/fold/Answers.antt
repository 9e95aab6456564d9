use Rattle.std.proofs.Common.{get_or, drop, sym, ap, ◌∙◌}
use lib.Bits.{bit_xor, xor_assoc, xor_zero_r}
use Rattle.std.proofs.lemmas.List.{at_drop_more, at_drop_all}
use Rattle.frame.specs.Checks.{xor_all}
use Rattle.frame.proofs.word.fold.Goals as goal

pub loop-y-preserved : goal.loop-y-preserved
loop-y-preserved c =
    let ys = c.args.blocks.now in
    let i = c.loop-y.y-index in
    xor_assoc c.loop-y.all (get_or ys i 0) (xor_all (drop _ ys))
    ∙ ap (bit_xor c.loop-y.all) (sym (at_drop_more xor_all ys i 0 c.loop-y-test.true))
    ∙ c.loop-y.invariant

pub returns : goal.returns
returns c =
    let ys = c.args.blocks.now in
    sym (xor_zero_r c.loop-y.all) ∙ ap (bit_xor c.loop-y.all) (sym (at_drop_all xor_all ys c.loop-y.y-index c.loop-y-test.false)) ∙ c.loop-y.invariant
