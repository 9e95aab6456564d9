use Rattle.std.proofs.Common.{◌≡◌, suc, ◌+◌, ◌*◌, ◌%◌, ◌^◌, ◌<◌, ◌≤◌, length, get_or, take, sym, ap, ◌∙◌, subst, mul-le-mul_right, suc-mul, arith, length-take-le, take_all}
use lib.Bits.{bit_or}
use Rattle.std.proofs.lemmas.List.{take_more}
use Rattle.bits.specs.Rows.{little}
use Rattle.bits.proofs.Rows.{or_fresh}
use Rattle.frame.specs.Sealing.{stacked}
use Rattle.frame.proofs.Stacked.{stacked_lt, stacked_push}
use Rattle.frame.proofs.Values.{below_take}
use Rattle.frame.proofs.word.Word.put_blocks.Goals as goal

pub loop-i-preserved : goal.loop-i-preserved
loop-i-preserved g c =
    let m = g.F.Field.WIDTH in
    let wide = c.width-m.ensures.value in
    let ys = c.args.self.now.blocks.now in
    let i = c.loop-i.i in
    let y = get_or ys i 0 in
    let long : length (take i ys) ≡ i = length-take-le i ys (omega arith) in
    let low = stacked m (take i ys) 0 in
    let small : low < 2 ^ (i * m) = subst (λ n. low < 2 ^ (n * m)) long (stacked_lt m (take i ys) (below_take m i ys c.args.self.now.elements)) in
    let next : suc i * m ≤ length ys * m = mul-le-mul_right m c.loop-i-test.true in
    let most : length ys * m ≤ 8 * length c.args.frame.now = subst (λ n. n * m ≤ 8 * length c.args.frame.now) (sym c.args.self.now.all) c.requires.room in
    let room : i * m + m ≤ 8 * length c.loop-i.frame = omega (arith, suc-mul i m, most, next) in
    c.put_bits.ensures.ored ∙ ap (λ k. bit_or (little c.loop-i.frame) (y * 2 ^ (i * k)) % 2 ^ (8 * length c.loop-i.frame)) wide
    ∙ ap (λ n. bit_or n (y * 2 ^ (i * m)) % 2 ^ (8 * length c.loop-i.frame)) c.loop-i.invariant
    ∙ or_fresh low y (i * m) m (8 * length c.loop-i.frame) small (c.args.self.now.elements i) room
    ∙ ap (λ n. y * 2 ^ (n * m) + low) (sym long) ∙ sym (stacked_push m (take i ys) y) ∙ ap (λ l. stacked m l 0) (sym (take_more ys i 0 c.loop-i-test.true))

pub returns : goal.returns
returns g c = c.loop-i.invariant ∙ ap (λ l. stacked g.F.Field.WIDTH l 0) (take_all c.loop-i.i c.args.self.now.blocks.now c.loop-i-test.false)
