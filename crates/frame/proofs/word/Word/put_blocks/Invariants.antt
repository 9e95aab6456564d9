use Rattle.std.proofs.Common.{◌≡◌, take}
use Rattle.bits.specs.Rows.{little}
use Rattle.frame.specs.Sealing.{stacked}
use Rattle.frame.proofs.word.Word.put_blocks.Given as goal

abbrev pub invariant-loop-i : goal.invariant-loop-i
invariant-loop-i g l = little l.frame ≡ stacked g.F.Field.WIDTH (take l.i l.self.blocks.now) 0
