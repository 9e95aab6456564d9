use Rattle.std.proofs.Common.{◌≡◌}
use Rattle.frame.proofs.Values.{horner}
use Rattle.frame.proofs.word.Word.check_value.Given as goal

-- what is still to be taken in, from the total on, makes the whole
abbrev pub invariant-loop-y : goal.invariant-loop-y
invariant-loop-y g l =
    let f = g.F.Field in
    horner f.mul (f.number l.a) l.y-iterator.iter.rest.now (f.number l.total) ≡ horner f.mul (f.number l.a) l.self.blocks.now (f.number l.initial.total)
