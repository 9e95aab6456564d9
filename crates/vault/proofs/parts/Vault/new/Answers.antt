use Rattle.frame.specs.Code.{code_of}
use Rattle.vault.specs.Cells.{vault}
use Rattle.vault.proofs.Law.{law}
use Rattle.vault.proofs.parts.Vault.new.Goals as goal

pub returns-clause-law : goal.returns-clause-law
returns-clause-law g c = law (vault (code_of g.F.Field g.C.ColumnSet c.args.set) c.args.blocks c.args.cells) g.F.Field.laws (g.C.ColumnSet.laws c.args.set)
