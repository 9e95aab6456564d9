use Rattle.std.proofs.Common.{sym, ap, ◌∙◌}
use Rattle.vault.specs.Cells.{Vault, with_cell}
use Rattle.vault.specs.Held.{vault_of}
use Rattle.vault.specs.declared.answers.InjectFault.TheVariants.{Cell}
use Rattle.vault.proofs.CallsDone.{by_ok_or, inject_no_size, inject_done}
use Rattle.vault.proofs.parts.Vault.inject.Goals as goal

pub returns-then-pattern-len-clause-does : goal.returns-then-pattern-len-clause-does
returns-then-pattern-len-clause-does g c =
    let V : Vault = vault_of g.F.Field g.C.ColumnSet c.args.self.now in
    let row = g.B.Bank.row c.args.self.now.bank in
    let known = by_ok_or V row c.args.cell c.len_of.result c.in_ok-len.len c.len_of.ensures.told Cell (sym c.ok_or.ensures.value ∙ c.in_ok-len.was) in
    inject_no_size V row c.args.cell known.0 c.args.pattern.now (λ same. c.if-pattern-len.true (same ∙ sym known.1))

pub returns-clause-does : goal.returns-clause-does
returns-clause-does g c =
    let V : Vault = vault_of g.F.Field g.C.ColumnSet c.args.self.now in
    let row = g.B.Bank.row c.args.self.now.bank in
    let known = by_ok_or V row c.args.cell c.len_of.result c.in_ok-len.len c.len_of.ensures.told Cell (sym c.ok_or.ensures.value ∙ c.in_ok-len.was) in
    let pattern = c.args.pattern.now in
    inject_done V row c.args.cell known.0 pattern c.fetch.new.bytes (g.B.Bank.row c.store.new.self.bank) c.fetch.ensures (c.if-pattern-len.false ∙ known.1)
    (c.store.ensures.stored ∙ ap (λ xs. with_cell V c.args.cell xs row) c.xor_into.ensures)
