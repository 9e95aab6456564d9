use Rattle.std.proofs.Common.{◌≡◌, Some, sym, ap, ◌∙◌, rules}
use Rattle.frame.specs.Opening.{answer, refused, beside_hit}
use Rattle.frame.specs.declared.verdict.OpenFault.TheVariants.{Unmended}
use Rattle.frame.proofs.Decisions.{tested_ok, judged_part}
use Rattle.frame.proofs.word.Word.beside_hit.Goals as goal

pub returns : goal.returns
returns g c =
    let f = g.F.Field in
    let told = tested_ok _ _ _ _ c.in_ok-change.ensures in
    let part : c.args.part ≡ Some c.in_ok-part.part = search rules in
    sym (ap answer (ap (beside_hit f.WIDTH f.mul c.args.self.now.blocks.now c.args.said.salt c.args.said.check) part ∙ judged_part f.WIDTH f.mul c.args.self.now.blocks.now c.args.said.salt c.args.said.check c.in_ok-part.part (refused Unmended) _ told.0 told.1 c.if-change-ne0.false))
