use Rattle.std.proofs.Common.{◌≡◌, ℕ, zero, suc, ◌+◌, ◌*◌, ◌/◌, ◌%◌, ◌^◌, ◌≤◌, length, replicate, refl, sym, ap, ◌∙◌, subst, add-mul, arith, rules}
use Rattle.bits.specs.Rows.{little}
use lib.Bits.{bit_or}
use Rattle.frame.specs.Sealing.{stacked, with_parity}
use Rattle.frame.proofs.Stacked.{all_put}
use Rattle.frame.proofs.word.Word.put_parts.Given as given
use Rattle.frame.proofs.word.Word.put_parts.Goals as goal
use Rattle.frame.proofs.word.Word.put_parts.Goals.{After-fill}

-- in whole bytes there is room for the bits
in_bytes : (bits bytes : ℕ) → bytes ≡ (bits + 7) / 8 → bits ≤ 8 * bytes
in_bytes bits bytes is = omega arith

zeros : (n : ℕ) → little (replicate n 0) ≡ 0
zeros zero = refl
zeros (suc n) = ap (λ x. x * 256 + 0) (zeros n)

room : (g : given.Over) (c : After-fill g) → (c.args.self.now.layout.blocks + 2) * g.F.Field.WIDTH + g.C.ColumnSet.height c.args.self.now.layout.set.now + 1 ≤ 8 * length c.args.frame.now
room g c = in_bytes _ (length c.args.frame.now) c.requires.long

pub put_blocks-requires : goal.put_blocks-requires
put_blocks-requires g c =
    let emptied : c.fill.new.self ≡ replicate (length c.args.frame.now) 0 = search rules in
    record {
      room = omega (arith, room g (goal.at.put_blocks-requires g c).After-fill, add-mul c.args.self.now.layout.blocks 2 g.F.Field.WIDTH);
      empty = ap little emptied ∙ zeros (length c.args.frame.now);
    }

pub returns : goal.returns
returns g c =
    let m = g.F.Field.WIDTH in
    let r = g.C.ColumnSet.height c.args.self.now.layout.set.now in
    let ys = c.args.self.now.blocks.now in
    let tail = c.args.tail in
    let b : c.args.self.now.layout.blocks ≡ length ys = sym c.args.self.now.all in
    let most : (length ys + 2) * m + r + 1 ≤ 8 * length c.args.frame.now = subst (λ n. (n + 2) * m + r + 1 ≤ 8 * length c.args.frame.now) b (room g (goal.at.returns g c).After-fill) in
    let placed : (row v at k n : ℕ) → at ≡ k → bit_or row (v * 2 ^ at) % 2 ^ n ≡ bit_or row (v * 2 ^ k) % 2 ^ n = λ row v at k n is. ap (λ e. bit_or row (v * 2 ^ e) % 2 ^ n) is in
    all_put m r ys tail.mask tail.sum tail.check c.args.self.now.elements c.requires.parts.0 c.requires.parts.1 c.requires.parts.2 _ _ _ _ _ _ _ _ _ _
    c.put_blocks.ensures
    (c.put_bits.ensures.ored ∙ placed _ _ _ _ _ (c.mask_at.ensures ∙ ap (λ n. n * m) b))
    (c.put_bits-2.ensures.ored ∙ placed _ _ _ _ _ (c.sum_at.ensures ∙ ap (λ n. (n + 1) * m) b))
    (c.put_bits-3.ensures.ored ∙ placed _ _ _ _ _ (c.check_at.ensures ∙ ap (λ n. (n + 1) * m + r) b))
    (c.put_bits-4.ensures.ored ∙ placed _ _ _ _ _ (c.parity_at.ensures.value ∙ ap (λ n. (n + 2) * m + r) b))
    (omega (arith, most)) (omega (arith, most)) (omega (arith, most)) (omega (arith, most)) (ap (λ n. n % 2) c.ones_above.ensures.value)
    ∙ ap (λ n. with_parity ((n + 2) * m + r) (stacked m ys ((tail.check * 2 ^ r + tail.sum) * 2 ^ m + tail.mask))) (sym b)
