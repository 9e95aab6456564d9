use Rattle.std.proofs.Common.{sym, ap}
use Rattle.frame.specs.Opening.{answer}
use Rattle.frame.proofs.Decisions.{tested_ok, even_clean}
use Rattle.frame.proofs.word.Word.even.Goals as goal

pub returns : goal.returns
returns g c =
    let f = g.F.Field in
    let told = tested_ok _ _ _ _ c.in_ok-change.ensures in
    sym (ap answer (even_clean f.WIDTH f.mul c.args.self.now.blocks.now c.args.said.salt c.args.said.check c.args.said.syndrome _ c.if-said-ne0.false told.0 told.1 c.if-change-ne0.false))
