-- The draw is underway; each turn uses noise up.
-- Assumes nothing.
use Rattle.std.proofs.Common.{length}
use Rattle.salt.proofs.Draws.{Underway}
use Rattle.salt.proofs.source.Noise.draw.Given as goal

abbrev pub invariant-loop-group : goal.invariant-loop-group
invariant-loop-group g l = Underway g.F.Field.WIDTH g.F.Field.mul l.b l.self.bytes.now l.self.place l.rest

abbrev pub decreases-loop-group : goal.decreases-loop-group
decreases-loop-group g l = length l.rest
