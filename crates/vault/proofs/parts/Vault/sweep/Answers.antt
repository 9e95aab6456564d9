use Rattle.std.proofs.Common.{◌≡◌, ℕ, ◌+◌, ◌<◌, List, length, refl, sym, ap, ◌∙◌, subst, arith}
use Rattle.vault.specs.Cells.{Vault, vault_fits, count, with_cell}
use Rattle.vault.specs.Calls.{cell_opening, swept_cell}
use Rattle.vault.specs.Held.{vault_of}
use Rattle.vault.specs.Tally.{found_of, mended_found}
use Rattle.vault.specs.declared.answers.Counts.{Counts}
use Rattle.vault.proofs.Held.{vault_kept, kept_twice}
use Rattle.vault.proofs.Rows.{count_fits}
use Rattle.vault.proofs.Shelf.{standing}
use Rattle.vault.proofs.Tally.{Swept, all_counted, one_more, with_one_mended}
use Rattle.vault.proofs.parts.Vault.sweep.Given as given
use Rattle.vault.proofs.parts.Vault.sweep.Goals as goal
use Rattle.vault.proofs.parts.Vault.sweep.Goals.{After-mend}

inside : (g : given.Over) (c : After-mend g) → c.loop-cell.cell < count (vault_of g.F.Field g.C.ColumnSet c.args.self.now) (g.B.Bank.row c.args.self.now.bank)
inside g c = subst (λ n. c.loop-cell.cell < n) c.cell_count-cell-end.ensures c.loop-cell-test.true

pub add-requires : goal.add-requires
add-requires g c =
    let V : Vault = vault_of g.F.Field g.C.ColumnSet c.args.self.now in
    let row : List ℕ = g.B.Bank.row c.args.self.now.bank in
    let i = c.loop-cell.cell in
    let here = inside g (goal.at.add-requires g c).After-mend in
    omega (arith, all_counted V row i c.loop-cell.counts (g.B.Bank.row c.loop-cell.self.bank) c.loop-cell.invariant.swept, (count_fits (vault_fits V (length row)) V.cells i here).1, (standing V row i here).cells)

pub loop-cell-preserved : goal.loop-cell-preserved
loop-cell-preserved g c =
    let first = c.args.self.now in
    let V : Vault = vault_of g.F.Field g.C.ColumnSet first in
    let row : List ℕ = g.B.Bank.row first.bank in
    let mid : List ℕ = g.B.Bank.row c.loop-cell.self.bank in
    let i = c.loop-cell.cell in
    let before = c.loop-cell.invariant in
    let same = vault_kept g.F.Field g.C.ColumnSet g.B.Bank first c.loop-cell.self before.kept in
    let cell = c.mend.ensures.swept in
    let more =
    one_more V row i c.loop-cell.counts mid before.swept (inside g (goal.at.loop-cell-preserved g c).After-mend) (g.B.Bank.row c.mend.new.self.bank)
    (cell.1 ∙ ap (λ X. with_cell X i (swept_cell X i mid) mid) same) c.mend.result (cell.0 ∙ ap (λ X. found_of (cell_opening X i mid)) same) in
    record {
      kept = kept_twice g.F.Field g.C.ColumnSet g.B.Bank first c.loop-cell.self c.mend.new.self c.mend.ensures.kept before.kept;
      swept = subst (λ (counts : Counts). Swept V row (i + 1) counts (g.B.Bank.row c.mend.new.self.bank)) (sym c.add.ensures) more;
      still = λ none.
          let mended : c.loop-cell.counts.mended + mended_found c.mend.result ≡ 0 = sym (with_one_mended c.loop-cell.counts c.mend.result) ∙ ap (λ (n : Counts). n.mended) (sym c.add.ensures) ∙ none in
          c.mend.ensures.still (omega arith) ∙ before.still (omega arith);
    }

pub returns-clause-does : goal.returns-clause-does
returns-clause-does g c =
    let V : Vault = vault_of g.F.Field g.C.ColumnSet c.args.self.now in
    let row : List ℕ = g.B.Bank.row c.args.self.now.bank in
    let counts = c.loop-cell.counts in
    let n : c.loop-cell.cell ≡ c.cell_count-cell-end.result = omega arith in
    let all = subst (λ k. Swept V row k counts (g.B.Bank.row c.loop-cell.self.bank)) (n ∙ c.cell_count-cell-end.ensures) c.loop-cell.invariant.swept in
    (counts, refl, record { long = all.long; each = all.each; rest = all.rest; clean = all.clean; mended = all.mended; refused = all.refused })
