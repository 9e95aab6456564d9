use Rattle.std.proofs.Common.{◌≡◌, vec_items}
use Rattle.report.specs.Text.{decoded}
use Rattle.report.proofs.Pairs.{bytes_from}
use Rattle.report.proofs.hex.decode.Given as goal

abbrev pub invariant-loop-high : goal.invariant-loop-high
invariant-loop-high l = bytes_from (vec_items l.bytes) l.pairs l.high-index ≡ decoded l.line
