use Rattle.std.proofs.Common.{◌≡◌, ℕ, length, take, replicate, Ok, Err, sym, ap, ◌∙◌, ap₂, arith, length-take-le}
use lib.ListN.{length-replicate}
use Rattle.std.proofs.lemmas.Result.{err_from_is_err_and}
use Rattle.frame.specs.Opening.{answer, row_opening}
use Rattle.frame.specs.Renewal.{renewed}
use Rattle.frame.proofs.Fits.{sized_parts}
use Rattle.vault.specs.Cells.{Vault, with_cell}
use Rattle.vault.specs.Calls.{cell_opening, swept_cell}
use Rattle.vault.specs.Held.{vault_of}
use Rattle.vault.specs.Tally.{mended_found}
use Rattle.vault.proofs.CallsDone.{opens, found_ok, found_err, unmended}
use Rattle.vault.proofs.Shelf.{standing}
use Rattle.vault.proofs.parts.Vault.mend.Given as given
use Rattle.vault.proofs.parts.Vault.mend.Goals as goal
use Rattle.vault.proofs.parts.Vault.mend.Goals.{After-renew}

-- what opening answered, and the frame after it, by what the cell opens to
told : (g : given.Over) (c : After-renew g) → (c.renew.result ≡ answer (cell_opening (vault_of g.F.Field g.C.ColumnSet c.args.self.now) c.args.cell (g.B.Bank.row c.args.self.now.bank)))
    × (c.renew.new.frame ≡ swept_cell (vault_of g.F.Field g.C.ColumnSet c.args.self.now) c.args.cell (g.B.Bank.row c.args.self.now.bank))
told g c =
    let V : Vault = vault_of g.F.Field g.C.ColumnSet c.args.self.now in
    let row = g.B.Bank.row c.args.self.now.bank in
    let few = (sized_parts V.b (standing V row c.args.cell c.requires).few).1 in
    let n : ℕ = length {A = ℕ} (take V.b (replicate 16 0)) in
    let blocks : n ≡ V.b = length-take-le {A = ℕ} V.b (replicate 16 0) (omega (arith, few, length-replicate {A = ℕ} 16 0)) in
    let which = opens V row c.args.cell c.requires c.fetch.new.bytes c.fetch.ensures n blocks in
    (c.renew.ensures.answer ∙ ap answer which, c.renew.ensures.frame ∙ ap₂ (renewed V.K) c.fetch.ensures.is which)

pub returns-in_err-verdict-clause-swept : goal.returns-in_err-verdict-clause-swept
returns-in_err-verdict-clause-swept g c =
    let V : Vault = vault_of g.F.Field g.C.ColumnSet c.args.self.now in
    let row = g.B.Bank.row c.args.self.now.bank in
    let out = err_from_is_err_and c.from_residual.result c.from_residual.ensures.1 in
    let found = found_err (cell_opening V c.args.cell row) c.in_err-verdict.field-0.0 (sym (told g (goal.at.returns-in_err-verdict-clause-swept g c).After-renew).0 ∙ c.in_err-verdict.was) in
    (out.1 ∙ ap Err out.2 ∙ found, unmended V row c.args.cell (sym (ap mended_found found)))

pub returns-in-Mended-clause-swept : goal.returns-in-Mended-clause-swept
returns-in-Mended-clause-swept g c =
    let at = (goal.at.returns-in-Mended-clause-swept g c).After-renew in
    let V : Vault = vault_of g.F.Field g.C.ColumnSet c.args.self.now in
    let row = g.B.Bank.row c.args.self.now.bank in (
      found_ok (cell_opening V c.args.cell row) c.in_ok-verdict.verdict c.in_ok-verdict.field-0-1 (sym (told g at).0 ∙ c.in_ok-verdict.was),
      c.store.ensures.stored ∙ ap (λ xs. with_cell V c.args.cell xs row) (told g at).1,
    )

pub returns-in_default-clause-swept : goal.returns-in_default-clause-swept
returns-in_default-clause-swept g c =
    let V : Vault = vault_of g.F.Field g.C.ColumnSet c.args.self.now in
    let row = g.B.Bank.row c.args.self.now.bank in
    let at = (goal.at.returns-in_default-clause-swept g c).After-renew in
    let found = found_ok (cell_opening V c.args.cell row) c.in_ok-verdict.verdict c.in_ok-verdict.field-0-1 (sym (told g at).0 ∙ c.in_ok-verdict.was) in
    (found, unmended V row c.args.cell (sym (ap mended_found found) ∙ ap (λ v. mended_found (Ok v)) c.in_default.is))
