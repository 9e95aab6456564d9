use Rattle.std.proofs.Common.{replicate, ◌∙◌, inl, arith, length-take-le}
use Rattle.std.specs.Iterator.Adapters.{enumerate_source}
use Rattle.frame.specs.Code.{code_of}
use Rattle.report.proofs.Cutting.{length_lines_le}
use Rattle.report.proofs.Wording.{frames_more}
use Rattle.report.proofs.frame_lines.report_frames.Goals as goal

pub loop-i-init-derived : goal.loop-i-init-derived
loop-i-init-derived g c =
    let short = length_lines_le c.args.frames.now in
    ((tt, tt, inl (rw (c.into_iter-i-iterator.ensures.into_iter_gives, c.enumerate-i-items.ensures.source, c.enumerate-i-items.ensures.count) (omega (arith, short)))), tt)

pub loop-i-preserved : goal.loop-i-preserved
loop-i-preserved g c =
    frames_more (code_of g.F.Field g.C.ColumnSet c.args.set.now) c.args.b _ _ _ _ (enumerate_source c.loop-i.i-iterator).0.now _ (enumerate_source c.next.new.self).0.now _ _ _ (length-take-le c.args.b (replicate 16 0) c.requires) c.in-Some.ensures.steps c.in_ok-answer.ensures c.in_ok-writeln.ensures.bytes
    ∙ c.loop-i.invariant
