use Rattle.std.proofs.Common.{ap, sym, ◌∙◌}
use Rattle.frame.specs.Code.{Code, code_of}
use Rattle.frame.specs.Opening.{answer, beside_hit, by_column}
use Rattle.frame.proofs.Decisions.{column_found, column_missing}
use Rattle.frame.proofs.word.Word.odd.Goals as goal

pub returns-in-Some : goal.returns-in-Some
returns-in-Some g c =
    let s = g.C.ColumnSet in
    let set = c.args.self.now.layout.set.now in
    let K : Code = code_of g.F.Field s set in
    let hit = c.in-Some.ensures.answer in
    c.bit_hit.ensures
    ∙ ap (λ o. answer (by_column K c.args.self.now.blocks.now c.args.said.salt c.args.said.check c.args.said.syndrome o)) (sym (column_found (s.columns set) (s.height set) c.in-Some.bit c.args.said.syndrome (s.laws set) hit.0 hit.1))

pub returns-in-None : goal.returns-in-None
returns-in-None g c =
    let f = g.F.Field in
    let s = g.C.ColumnSet in
    let set = c.args.self.now.layout.set.now in
    let K : Code = code_of f s set in
    let ys = c.args.self.now.blocks.now in
    let part = c.beside.ensures in
    c.beside_hit.ensures
    ∙ ap (λ p. answer (beside_hit f.WIDTH f.mul ys c.args.said.salt c.args.said.check p)) part
    ∙ ap (λ o. answer (by_column K ys c.args.said.salt c.args.said.check c.args.said.syndrome o)) (sym (column_missing (s.columns set) c.args.said.syndrome c.in-None.ensures.answer))
