use Rattle.std.proofs.Common.{◌≡◌, ℕ, ◌*◌, ◌<◌, get_or}
use Rattle.bits.specs.Rows.{little, part}
use Rattle.frame.proofs.layout.Layout.read_blocks.Given as goal

abbrev pub invariant-loop-i : goal.invariant-loop-i
invariant-loop-i g l = (k : ℕ) → k < l.i → get_or l.blocks k 0 ≡ part (little l.frame) (k * l.m) l.m
