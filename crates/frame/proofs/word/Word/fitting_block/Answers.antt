use Rattle.std.proofs.Common.{◌≡◌, ℕ, suc, ◌^◌, ◌<◌, Bool, eqb, length, sym, ap, ◌∙◌, subst, ap₂, add-one, arith, below_more, eq-eqb, ne_eqb}
use lib.Pow.{pow-lt}
use Rattle.std.proofs.lemmas.Nat.{one_shl}
use Rattle.field.specs.Powers.{power}
use Rattle.field.proofs.Powers.{mul-one}
use Rattle.frame.specs.Code.{code_of}
use Rattle.frame.proofs.Fits.{fit_parts}
use Rattle.frame.proofs.First.{first_hit, first_miss}
use Rattle.frame.proofs.Values.{past}
use Rattle.frame.proofs.word.Word.fitting_block.Given as given
use Rattle.frame.proofs.word.Word.fitting_block.Goals as goal
use Rattle.frame.proofs.word.Word.fitting_block.Goals.{After-multiply-change}

pub block-change-requires : goal.block-change-requires
block-change-requires g c = subst (λ n. n < 2 ^ g.F.Field.WIDTH) (sym (one_shl c.args.bit 32 (omega (arith, (fit_parts (code_of g.F.Field g.C.ColumnSet c.args.self.now.layout.set.now) c.args.self.now.layout.fit).narrow)))) (pow-lt c.requires.inside)

pub loop-j-init : goal.loop-j-init
loop-j-init g c =
    let f = g.F.Field in
    let bit = c.args.bit in
    (c.block-change.ensures ∙ one_shl bit 32 (omega (arith, (fit_parts (code_of f g.C.ColumnSet c.args.self.now.layout.set.now) c.args.self.now.layout.fit).narrow)) ∙ sym (mul-one f.WIDTH f.mul f.laws (2 ^ bit) (pow-lt c.requires.inside)), λ k h. absurd (omega arith))

-- one power more
change_more : (g : given.Over) (c : After-multiply-change g) → g.F.Field.number c.multiply-change.result ≡ g.F.Field.mul (2 ^ c.args.bit) (power g.F.Field.mul c.args.salt (suc c.loop-j.j))
change_more g c =
    let f = g.F.Field in
    c.multiply-change.ensures ∙ ap₂ f.mul c.block-a.ensures c.loop-j.invariant.0
    ∙ past f.WIDTH f.mul f.laws c.args.salt c.requires.small (2 ^ c.args.bit) c.loop-j.j (pow-lt c.requires.inside)

pub returns-then-number_of-difference : goal.returns-then-number_of-difference
returns-then-number_of-difference g c =
    let f = g.F.Field in
    let test : ℕ → Bool = λ j. eqb (f.mul (2 ^ c.args.bit) (power f.mul c.args.salt (suc j))) c.args.difference in
    let changed = change_more g (goal.at.returns-then-number_of-difference g c).After-multiply-change in
    record { within = c.loop-j-test.true; value = sym (first_hit test (length c.args.self.now.blocks.now) c.loop-j.j c.loop-j-test.true (eq-eqb _ c.args.difference (sym changed ∙ sym c.number_of.ensures ∙ c.if-number_of-difference.true)) c.loop-j.invariant.1) }

pub loop-j-preserved : goal.loop-j-preserved
loop-j-preserved g c =
    let f = g.F.Field in
    let changed = change_more g (goal.at.loop-j-preserved g c).After-multiply-change in (
      changed ∙ ap (λ k. f.mul (2 ^ c.args.bit) (power f.mul c.args.salt k)) (sym (add-one c.loop-j.j)),
      below_more _ _ c.loop-j.invariant.1 (ne_eqb _ c.args.difference (λ same. c.if-number_of-difference.false (c.number_of.ensures ∙ changed ∙ same))),
    )

pub returns : goal.returns
returns g c =
    let f = g.F.Field in
    let test : ℕ → Bool = λ j. eqb (f.mul (2 ^ c.args.bit) (power f.mul c.args.salt (suc j))) c.args.difference in
    record { within = tt; value = sym (first_miss test (length c.args.self.now.blocks.now) (λ k h. c.loop-j.invariant.1 k (omega arith))) }
