use Rattle.std.proofs.Common.{◌≡◌, ◌^◌, ◌<◌, arith}
use Rattle.std.proofs.lemmas.Grind.{common_steps}
use Rattle.bits.specs.Digits.{pick}
use Rattle.bits.proofs.Digits.{pick_linear, pick_lt}
use Rattle.std.proofs.ByRecursion.{All-from_get_or}
use Rattle.columns.proofs.sum.column_sum.Goals as goal

pub returns-clause-small : goal.returns-clause-small
returns-clause-small g c =
    let cs = g.C.ColumnSet.columns c.args.set.now in
    let height = g.C.ColumnSet.height c.args.set.now in
    let laws = g.C.ColumnSet.laws c.args.set.now in
    let value : c.loop-bit.sum ≡ pick cs c.args.x = grind (arith, common_steps) in
    rw value (pick_lt height cs c.args.x (All-from_get_or (λ x. x < 2 ^ height) cs 0 laws.small))

pub returns-clause-linear : goal.returns-clause-linear
returns-clause-linear g c = pick_linear (g.C.ColumnSet.columns c.args.set.now)
