use Rattle.std.proofs.Common.{◌≡◌, length, Ok, sym, ap, ◌∙◌, ap₂, arith}
use Rattle.frame.specs.Code.{Code, code_of}
use Rattle.frame.specs.Opening.{row_opening, mended}
use Rattle.frame.specs.Renewal.{renewed}
use Rattle.frame.specs.Sealing.{bytes_of}
use Rattle.frame.proofs.Mendable.{Mending, mending, mended_answer, clean_stays, refused_stays}
use Rattle.frame.proofs.Sealings.{bytes_little}
use Rattle.frame.proofs.renewal.renew.Given as given
use Rattle.frame.proofs.renewal.renew.Goals as goal
use Rattle.frame.proofs.renewal.renew.Goals.{In-Mended}

pub returns-in_err-verdict-clause-frame : goal.returns-in_err-verdict-clause-frame
returns-in_err-verdict-clause-frame g c =
    let K : Code = code_of g.F.Field g.C.ColumnSet c.args.set.now in
    sym (refused_stays K (row_opening K (length c.args.row.now) c.args.frame.now) c.in_err-verdict.field-0.0 c.args.frame.now (sym c.in_err-verdict.was ∙ c.open.ensures.answer))

-- the frame was mended to the word in the row
is_mended : (g : given.Over) (c : In-Mended g) → row_opening (code_of g.F.Field g.C.ColumnSet c.args.set.now) (length c.args.row.now) c.args.frame.now ≡ mended c.in-Mended.field-0 c.open.new.row c.in_ok-verdict.salt
is_mended g c =
    let K : Code = code_of g.F.Field g.C.ColumnSet c.args.set.now in
    let told = c.in_ok-verdict.ensures in
    mended_answer (row_opening K (length c.args.row.now) c.args.frame.now) c.in-Mended.field-0 c.in_ok-verdict.salt c.args.row.now (ap (λ v. Ok (v, c.in_ok-verdict.salt)) (sym c.in-Mended.is) ∙ told.answer)
    ∙ ap (λ ys. mended c.in-Mended.field-0 ys c.in_ok-verdict.salt) (sym told.row)

known : (g : given.Over) (c : In-Mended g) → Mending (code_of g.F.Field g.C.ColumnSet c.args.set.now) (length c.args.row.now) c.args.frame.now c.open.new.row c.in_ok-verdict.salt
known g c = mending _ (length c.args.row.now) c.args.frame.now _ _ _ (is_mended g c)

pub invariant_of-word-clause-elements : goal.invariant_of-word-clause-elements
invariant_of-word-clause-elements g c = (known g (goal.at.invariant_of-word-clause-elements g c).In-Mended).good.small

pub assemble-requires-clause-salted : goal.assemble-requires-clause-salted
assemble-requires-clause-salted g c = (known g (goal.at.assemble-requires-clause-salted g c).In-Mended).good.salt

pub returns-in-Mended-clause-frame : goal.returns-in-Mended-clause-frame
returns-in-Mended-clause-frame g c =
    let K : Code = code_of g.F.Field g.C.ColumnSet c.args.set.now in
    let after = c.assemble.new.frame in
    let long : length after ≡ length c.args.frame.now = omega arith in
    sym (bytes_little after c.type_inv.frame) ∙ ap₂ bytes_of long c.assemble.ensures
    ∙ ap (renewed K c.args.frame.now) (sym (is_mended g (goal.at.returns-in-Mended-clause-frame g c).In-Mended))

pub returns-in_default-clause-frame : goal.returns-in_default-clause-frame
returns-in_default-clause-frame g c =
    let K : Code = code_of g.F.Field g.C.ColumnSet c.args.set.now in
    sym (clean_stays K _ c.in_ok-verdict.salt c.args.frame.now (ap (λ v. Ok (v, c.in_ok-verdict.salt)) (sym c.in_default.is) ∙ c.in_ok-verdict.ensures.answer))
