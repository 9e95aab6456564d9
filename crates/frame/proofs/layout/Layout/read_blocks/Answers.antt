use Rattle.std.proofs.Common.{◌≡◌, ◌*◌, ◌<◌, min, ◌≢◌, length, ap, ◌∙◌, arith, get_or-set_other, get_or-set_same, below_more}
use Rattle.std.proofs.lemmas.List.FromFn.{fill_by_all}
use Rattle.bits.specs.Rows.{little, part}
use Rattle.frame.specs.Code.{places}
use Rattle.frame.proofs.layout.Layout.read_blocks.Goals as goal

pub loop-i-preserved : goal.loop-i-preserved
loop-i-preserved g c =
    let N = little c.args.frame.now in
    let m = c.width-m.result in
    let i = c.loop-i.i in
    let inside : i < length c.loop-i.blocks = omega arith in
    let whole : min m 24 ≡ m = omega (arith, c.width-m.ensures.bound) in
    below_more _ _
    (λ k h. let ne : k ≢ i = omega arith in get_or-set_other c.loop-i.blocks i k c.get_bits.result 0 ne ∙ c.loop-i.invariant k h)
    (get_or-set_same c.loop-i.blocks i c.get_bits.result 0 inside ∙ c.get_bits.ensures ∙ ap (part N (i * m)) whole)

pub returns : goal.returns
returns g c =
    let N = little c.args.frame.now in
    let m = c.width-m.result in
    let b = c.args.self.now.blocks in
    fill_by_all (λ i. part N (i * m) m) c.loop-i.blocks b 0 (omega arith) (λ k h. c.loop-i.invariant k (omega arith))
    ∙ ap (λ n. places n b N) c.width-m.ensures.value
