use Rattle.std.proofs.Common.{◌≡◌, length, Ok, sym, ap, ◌∙◌, ap₂, arith, rules}
use Rattle.bits.specs.Rows.{little}
use Rattle.salt.specs.Token.{salt_number}
use Rattle.frame.specs.Code.{Code, code_of}
use Rattle.frame.specs.Sealing.{sealing, row_sealing, seal_answer, sealed_row, bytes_of}
use Rattle.frame.proofs.Sealings.{sealing_passes, bytes_little}
use Rattle.frame.proofs.sealer.seal.Goals as goal

pub returns-clause-frame : goal.returns-clause-frame
returns-clause-frame g c =
    let K : Code = code_of g.F.Field g.C.ColumnSet c.args.set.now in
    let before = c.args.frame.now in
    let after = c.assemble.new.frame in
    let told : Ok tt ≡ seal_answer (row_sealing K c.args.word.now (salt_number c.args.salt) (length before)) = search rules in
    let long : length after ≡ length before = omega arith in
    let written : little after ≡ sealing K c.args.word.now (salt_number c.args.salt) = search rules in
    sym (bytes_little after c.type_inv.frame) ∙ ap₂ bytes_of long written
    ∙ ap (λ s. sealed_row s before) (sym (sealing_passes K c.args.word.now (salt_number c.args.salt) (length before) told).is)
