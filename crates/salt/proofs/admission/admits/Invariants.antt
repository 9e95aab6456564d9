-- The power at the start of a turn, and that none before it was 1.
-- Assumes nothing.
use Rattle.std.proofs.Common.{◌≡◌, ℕ, ◌<◌, ◌≤◌}
use Rattle.field.specs.Powers.{power}
use Rattle.salt.proofs.admission.admits.Given as goal

abbrev pub invariant-loop : goal.invariant-loop
invariant-loop g l =
    (g.F.Field.number l.power ≡ power g.F.Field.mul l.a l.counter)
    × ((k : ℕ) → 1 ≤ k → k < l.counter → power g.F.Field.mul l.a k ≡ 1 → ⊥)
