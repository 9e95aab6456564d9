use Rattle.std.proofs.Common.{take, replicate, sym, ◌∙◌}
use Rattle.std.proofs.lemmas.Result.{err_from_is_err_and}
use Rattle.salt.specs.Token.{salt_number}
use Rattle.vault.specs.Cells.{Vault}
use Rattle.vault.specs.Held.{vault_of}
use Rattle.vault.proofs.CallsDone.{write_refused, write_done}
use Rattle.vault.proofs.Shelf.{lent}
use Rattle.vault.proofs.parts.Vault.write.Goals as goal

pub returns-in_err-seal-clause-does : goal.returns-in_err-seal-clause-does
returns-in_err-seal-clause-does g c =
    let V : Vault = vault_of g.F.Field g.C.ColumnSet c.args.self.now in
    let told = err_from_is_err_and c.from_residual.result c.from_residual.ensures.1 in
    rw (told.1, told.2)
    (write_refused V (g.B.Bank.row c.args.self.now.bank) c.args.cell c.in-Some.ensures.told.0 (take c.in-Some.len (replicate 56 0)) (lent c.in-Some.len 56 c.in-Some.ensures.short ∙ c.in-Some.ensures.told.1) c.args.word.now (salt_number c.args.salt) c.if-word-self.false c.in_err-seal.field-0.0
    (sym c.seal.ensures.answer ∙ c.in_err-seal.was))

pub returns-clause-does : goal.returns-clause-does
returns-clause-does g c =
    let V : Vault = vault_of g.F.Field g.C.ColumnSet c.args.self.now in
    let row = g.B.Bank.row c.args.self.now.bank in
    let told = c.in-Some.ensures.told in
    write_done V row c.args.cell told.0 (take c.in-Some.len (replicate 56 0)) (lent c.in-Some.len 56 c.in-Some.ensures.short ∙ told.1) c.args.word.now (salt_number c.args.salt) c.if-word-self.false c.seal.new.frame (g.B.Bank.row c.store.new.self.bank)
    (sym c.seal.ensures.answer ∙ c.in_ok-seal.was) c.seal.ensures.frame c.store.ensures.stored
