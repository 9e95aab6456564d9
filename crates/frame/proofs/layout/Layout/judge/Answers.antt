use Rattle.std.proofs.Common.{sym, subst}
use Rattle.bits.specs.Rows.{little}
use Rattle.frame.specs.Checks.{Below}
use Rattle.frame.proofs.Values.{places_below}
use Rattle.frame.proofs.layout.Layout.judge.Given as given
use Rattle.frame.proofs.layout.Layout.judge.Goals as goal
use Rattle.frame.proofs.layout.Layout.judge.Goals.{After-column_sum}

-- what was read are elements
elements : (g : given.Over) (c : After-column_sum g) → Below g.F.Field.WIDTH c.read-ones.new.blocks
elements g c = subst (Below g.F.Field.WIDTH) (sym c.read-ones.ensures.blocks) (places_below g.F.Field.WIDTH c.args.self.now.blocks (little c.args.frame.now))

pub invariant_of-word-clause-elements : goal.invariant_of-word-clause-elements
invariant_of-word-clause-elements g c = elements g (goal.at.invariant_of-word-clause-elements g c).After-column_sum

pub invariant_of-word-else-ones-eq0-clause-elements : goal.invariant_of-word-else-ones-eq0-clause-elements
invariant_of-word-else-ones-eq0-clause-elements g c = elements g (goal.at.invariant_of-word-else-ones-eq0-clause-elements g c).After-column_sum
