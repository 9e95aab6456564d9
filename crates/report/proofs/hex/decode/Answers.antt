use Rattle.std.proofs.Common.{vec_items, sym, ◌∙◌, arith, true-eqb, false-eqb}
use Rattle.report.proofs.Pairs.{none_odd, bytes_start, bytes_more}
use Rattle.report.proofs.hex.decode.Goals as goal

pub returns-then-not-is_empty : goal.returns-then-not-is_empty
returns-then-not-is_empty c = sym (none_odd c.args.line.now (omega (arith, c.as_chunks.ensures.back_len, false-eqb _ 0 c.if-not-is_empty.ensures)))

pub loop-high-init : goal.loop-high-init
loop-high-init c =
    bytes_start c.args.line.now _ c.as_chunks.result.0.now c.new-bytes.ensures.items c.as_chunks.ensures.front (omega (arith, c.as_chunks.ensures.back_len, true-eqb _ 0 c.if-not-is_empty.ensures))

pub loop-high-preserved : goal.loop-high-preserved
loop-high-preserved c =
    bytes_more (vec_items c.loop-high.bytes) _ c.as_chunks.result.0.now c.loop-high.high-index c.in-Some.byte c.loop-high-test.true c.in-Some.ensures c.in_ok-push.ensures.items
    ∙ c.loop-high.invariant
