use Rattle.std.proofs.Common.{◌≡◌, ℕ, suc, ◌^◌, ◌<◌, false, eqb}
use Rattle.field.specs.Powers.{power}
use Rattle.frame.proofs.word.Word.fitting_block.Given as goal

abbrev pub invariant-loop-j : goal.invariant-loop-j
invariant-loop-j g l =
    let f = g.F.Field in
    (f.number l.change ≡ f.mul (2 ^ l.bit) (power f.mul l.salt l.j))
    × ((k : ℕ) → k < l.j → eqb (f.mul (2 ^ l.bit) (power f.mul l.salt (suc k))) l.difference ≡ false)
