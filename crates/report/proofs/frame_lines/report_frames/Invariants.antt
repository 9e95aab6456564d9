use Rattle.std.proofs.Common.{◌≡◌, ◌+◌, ◌++◌, string_bytes}
use Rattle.std.specs.Iterator.Adapters.{enumerate_count, enumerate_source}
use Rattle.frame.specs.Code.{code_of}
use Rattle.report.specs.Text.{lines, frames_text}
use Rattle.report.proofs.frame_lines.report_frames.Given as goal

abbrev pub invariant-loop-i : goal.invariant-loop-i
invariant-loop-i g l =
    let K = code_of g.F.Field g.C.ColumnSet l.set in
    let left = lines (enumerate_source l.i-iterator).0.now in
    string_bytes l.report ++ frames_text K l.b (enumerate_count l.i-iterator + 1) left ≡ frames_text K l.b 1 (lines l.frames)
