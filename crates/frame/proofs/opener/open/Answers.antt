use Rattle.std.proofs.Common.{◌≡◌, length, sym, ap, ◌∙◌, subst, ap₂}
use Rattle.bits.specs.Rows.{little}
use Rattle.frame.specs.Code.{Code, code_of, frame_bytes}
use Rattle.frame.specs.Opening.{opening, row_opening, answer, filled, righted, Names}
use Rattle.frame.proofs.Decisions.{filled_err}
use Rattle.frame.proofs.Fits.{row_opens}
use Rattle.frame.proofs.Righted.{verdict_rights}
use Rattle.frame.proofs.opener.open.Given as given
use Rattle.frame.proofs.opener.open.Goals as goal
use Rattle.frame.proofs.opener.open.Goals.{After-judge, In_ok-verdict}

-- the row has the right length, so it opens by its bits
opens : (g : given.Over) (c : After-judge g) → row_opening (code_of g.F.Field g.C.ColumnSet c.args.set.now) (length c.args.row.now) c.args.frame.now ≡ opening (code_of g.F.Field g.C.ColumnSet c.in_ok-layout.layout.set.now) c.in_ok-layout.layout.blocks (little c.args.frame.now)
opens g c =
    let layout = c.in_ok-layout.layout in
    let K : Code = code_of g.F.Field g.C.ColumnSet layout.set.now in
    let frame = c.args.frame.now in
    let told = c.in_ok-layout.ensures in
    let long : length frame ≡ frame_bytes K layout.blocks = told.2 ∙ ap₂ (λ s b. frame_bytes (code_of g.F.Field g.C.ColumnSet s) b) (sym told.0) (sym told.1) in
    ap₂ (λ s b. row_opening (code_of g.F.Field g.C.ColumnSet s) b frame) (sym told.0) (sym told.1) ∙ row_opens K layout.blocks frame layout.fit layout.few long

-- the verdict says what was put right, and names a block of the word
rights : (g : given.Over) (c : In_ok-verdict g)
    → (filled (opening (code_of g.F.Field g.C.ColumnSet c.in_ok-layout.layout.set.now) c.in_ok-layout.layout.blocks (little c.args.frame.now)) c.args.row.now ≡ righted c.in_ok-verdict.verdict c.judge.new.blocks)
    × Names c.in_ok-verdict.verdict (length c.judge.new.blocks)
rights g c =
    let layout = c.in_ok-layout.layout in
    let K : Code = code_of g.F.Field g.C.ColumnSet layout.set.now in
    let v = c.in_ok-verdict.verdict in
    let known = verdict_rights K layout.blocks (little c.args.frame.now) c.args.row.now v c.in_ok-verdict.salt layout.fit (sym c.in_ok-verdict.was ∙ c.judge.ensures.answer) in
    let stored = sym c.judge.ensures.stored in
    (known.0 ∙ ap (righted v) stored, subst (λ ys. Names v (length ys)) stored known.1)

pub put_right-requires : goal.put_right-requires
put_right-requires g c = (rights g (goal.at.put_right-requires g c).In_ok-verdict).1

pub returns-in_err-verdict-clause-row : goal.returns-in_err-verdict-clause-row
returns-in_err-verdict-clause-row g c =
    let told = sym c.in_err-verdict.was ∙ c.judge.ensures.answer ∙ ap answer (sym (opens g (goal.at.returns-in_err-verdict-clause-row g c).After-judge)) in
    sym (filled_err _ c.in_err-verdict.field-0.0 c.args.row.now told)

pub returns-clause-row : goal.returns-clause-row
returns-clause-row g c =
    let at = goal.at.returns-clause-row g c in
    c.copy_from_slice.ensures.after ∙ c.put_right.ensures ∙ sym (rights g at.In_ok-verdict).0 ∙ ap (λ o. filled o c.args.row.now) (sym (opens g at.After-judge))
