use Rattle.std.proofs.Common.{◌+◌, ◌*◌, ◌^◌, ◌<◌, sym, ap, ◌∙◌, subst, ap₂}
use lib.Bits.{bit_xor, xor_lt}
use Rattle.salt.proofs.Admitted.{admitted_lt}
use Rattle.frame.specs.Checks.{check_value}
use Rattle.frame.specs.Code.{Code, code_of}
use Rattle.frame.specs.Sealing.{stacked, with_parity}
use Rattle.frame.proofs.Sealed.{xor_all_lt}
use Rattle.frame.proofs.word.Word.assemble.Goals as goal

pub put_parts-requires : goal.put_parts-requires
put_parts-requires g c =
    let f = g.F.Field in
    let word = c.args.self.now in
    let folded : c.fold.result < 2 ^ f.WIDTH = subst (λ x. x < 2 ^ f.WIDTH) (sym c.fold.ensures) (xor_all_lt f.WIDTH word.blocks.now word.elements) in
    record {
      parts = (
        xor_lt f.WIDTH c.fold.result c.args.salt folded (admitted_lt f.WIDTH f.mul _ c.args.salt c.requires.salted),
        c.column_sum.ensures.small,
        subst (λ x. x < 2 ^ f.WIDTH) (sym c.number_of.ensures) (g.met.F.Field.small c.check_value.result),
      );
      long = c.requires.long;
    }

pub returns : goal.returns
returns g c =
    let f = g.F.Field in
    let K : Code = code_of f g.C.ColumnSet c.args.self.now.layout.set.now in
    let ys = c.args.self.now.blocks.now in
    c.put_parts.ensures
    ∙ ap₂ (λ n N. with_parity ((n + 2) * K.m + K.r) N) (sym c.args.self.now.all)
    (λ i. stacked K.m ys (((c.number_of.ensures ∙ c.check_value.ensures ∙ ap (check_value f.mul ys) c.block.ensures) i * 2 ^ K.r + c.column_sum.ensures.value i) * 2 ^ K.m + bit_xor (c.fold.ensures i) c.args.salt))
