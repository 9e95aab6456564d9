use Rattle.std.proofs.Common.{◌∙◌, ap, sym}
use Rattle.frame.specs.Sealing.{all_below}
use Rattle.frame.proofs.Sealings.{below}
use Rattle.frame.proofs.layout.Layout.word.Goals as goal

pub invariant_of-result-clause-elements : goal.invariant_of-result-clause-elements
invariant_of-result-clause-elements g c =
    below g.F.Field.WIDTH c.args.blocks.now (ap (λ m. all_below m c.args.blocks.now) (sym c.width.ensures.value) ∙ sym c.all_below.ensures ∙ c.if-not-all_below.false)
