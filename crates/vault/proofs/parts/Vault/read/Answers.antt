use Rattle.std.proofs.Common.{◌≡◌, ◌<◌, length, Ok, Err, sym, ◌∙◌, rules}
use Rattle.std.specs.Result.{MatchResult, IsErrAnd}
use Rattle.std.proofs.lemmas.Result.{err_from_is_err_and}
use Rattle.frame.specs.Opening.{answer, filled}
use Rattle.vault.specs.Cells.{Vault, count}
use Rattle.vault.specs.Calls.{cell_opening}
use Rattle.vault.specs.Held.{vault_of}
use Rattle.vault.specs.declared.answers.ReadFault.TheVariants.{Cell, Frame}
use Rattle.vault.proofs.CallsDone.{by_ok_or, opens, opened_ok, opened_err, read_as}
use Rattle.vault.proofs.parts.Vault.read.Given as given
use Rattle.vault.proofs.parts.Vault.read.Goals as goal
use Rattle.vault.proofs.parts.Vault.read.Goals.{After-map_err}

-- the cell is below the count
inside : (g : given.Over) (c : After-map_err g) → c.args.cell < count (vault_of g.F.Field g.C.ColumnSet c.args.self.now) (g.B.Bank.row c.args.self.now.bank)
inside g c = (by_ok_or (vault_of g.F.Field g.C.ColumnSet c.args.self.now) (g.B.Bank.row c.args.self.now.bank) c.args.cell c.len_of.result c.in_ok-len.len c.len_of.ensures.told Cell (sym c.ok_or.ensures.value ∙ c.in_ok-len.was)).0

-- what opening answered, and the row after it, by what the cell opens to
told : (g : given.Over) (c : After-map_err g) → (c.open.result ≡ answer (cell_opening (vault_of g.F.Field g.C.ColumnSet c.args.self.now) c.args.cell (g.B.Bank.row c.args.self.now.bank)))
    × (c.open.new.row ≡ filled (cell_opening (vault_of g.F.Field g.C.ColumnSet c.args.self.now) c.args.cell (g.B.Bank.row c.args.self.now.bank)) c.args.places.now)
told g c =
    let V : Vault = vault_of g.F.Field g.C.ColumnSet c.args.self.now in
    let which = opens V (g.B.Bank.row c.args.self.now.bank) c.args.cell (inside g c) c.fetch.new.bytes c.fetch.ensures (length c.args.places.now) c.if-places-self.false in
    rw (← which) (c.open.ensures.answer, c.open.ensures.row)

-- a refusal is named by the cell
named : (g : given.Over) (c : After-map_err g) → MatchResult c.open.result (λ x. c.map_err.result ≡ Ok x) (λ fault. IsErrAnd c.map_err.result (λ n. n ≡ Frame c.args.cell fault))
named g c = search rules

pub returns-in_err-verdict : goal.returns-in_err-verdict
returns-in_err-verdict g c =
    let at = (goal.at.returns-in_err-verdict g c).After-map_err in
    let V : Vault = vault_of g.F.Field g.C.ColumnSet c.args.self.now in
    let row = g.B.Bank.row c.args.self.now.bank in
    let places = c.args.places.now in
    let fault = c.in_err-verdict.field-0.0 in
    let out = err_from_is_err_and c.from_residual-in_err-verdict.result c.from_residual-in_err-verdict.ensures.1 in
    let kept = opened_err c.args.cell c.open.result c.map_err.result (cell_opening V c.args.cell row) fault places (told g at).0 (named g at) c.in_err-verdict.was in
    rw (out.1, out.2) (record { does = read_as V row c.args.cell (inside g at) places c.if-places-self.false (Err fault) c.open.new.row kept.0 ((told g at).1 ∙ kept.1) })

pub returns : goal.returns
returns g c =
    let at = (goal.at.returns g c).After-map_err in
    let V : Vault = vault_of g.F.Field g.C.ColumnSet c.args.self.now in
    let row = g.B.Bank.row c.args.self.now.bank in
    let verdict = c.in_ok-verdict.verdict in
    let ok = opened_ok c.args.cell c.open.result c.map_err.result (cell_opening V c.args.cell row) verdict c.in_ok-verdict.field-0-1 (told g at).0 (named g at) c.in_ok-verdict.was in
    record { does = read_as V row c.args.cell (inside g at) c.args.places.now c.if-places-self.false (Ok verdict) c.open.new.row ok (told g at).1 }
