use Rattle.std.proofs.Common.{◌≡◌, ℕ, ◌*◌, ◌%◌, ◌^◌, Ok, Err, Some, None, rules, sym, ap, ◌∙◌, add-one, arith}
use lib.Bits.{bit_xor}
use Rattle.std.proofs.lemmas.Nat.{one_shl}
use Rattle.salt.proofs.Admitted.{admitted_lt}
use Rattle.frame.specs.Opening.{Outcome, answer, bit_hit, in_block}
use Rattle.frame.specs.declared.verdict.Part.TheVariants.{Block}
use Rattle.frame.specs.declared.verdict.OpenFault.TheVariants.{Unmended}
use Rattle.frame.specs.declared.verdict.Verdict.TheVariants.{Mended}
use Rattle.frame.specs.Code.{code_of}
use Rattle.frame.proofs.Fits.{fit_parts}
use Rattle.frame.proofs.Decisions.{tested_ok, judged_part, judged_other, fitting}
use Rattle.frame.proofs.word.Word.bit_hit.Given as given
use Rattle.frame.proofs.word.Word.bit_hit.Goals as goal
use Rattle.frame.proofs.word.Word.bit_hit.Goals.{In_ok-change, After-fitting_block}

-- the salt with the bit put right, as the code works it out
abbrev mended_salt : ℕ → ℕ → ℕ
mended_salt salt bit = bit_xor salt (1 * 2 ^ bit % 2 ^ 32)

-- with that salt the outcome is o, so it is what was asked for
as_asked : (g : given.Over) (c : In_ok-change g) (o : Outcome) → bit_hit g.F.Field.WIDTH g.F.Field.mul c.args.self.now.blocks.now (mended_salt c.args.said.salt c.args.bit) c.args.said.check c.args.bit ≡ o → answer o ≡ answer (bit_hit g.F.Field.WIDTH g.F.Field.mul c.args.self.now.blocks.now (bit_xor c.args.said.salt (2 ^ c.args.bit)) c.args.said.check c.args.bit)
as_asked g c o is =
    let f = g.F.Field in
    sym (ap answer is) ∙ ap (λ e. answer (bit_hit f.WIDTH f.mul c.args.self.now.blocks.now (bit_xor c.args.said.salt e) c.args.said.check c.args.bit)) (one_shl c.args.bit 32 (omega (arith, (fit_parts (code_of g.F.Field g.C.ColumnSet c.args.self.now.layout.set.now) c.args.self.now.layout.fit).narrow)))

pub returns-then-change-eq0 : goal.returns-then-change-eq0
returns-then-change-eq0 g c =
    let f = g.F.Field in
    let told = tested_ok _ _ _ _ c.in_ok-change.ensures in
    as_asked g (goal.at.returns-then-change-eq0 g c).In_ok-change _ (judged_part f.WIDTH f.mul c.args.self.now.blocks.now (mended_salt c.args.said.salt c.args.bit) c.args.said.check _ _ _ told.0 told.1 c.if-change-eq0.true)

-- the check value differs, so the outcome is that of the block that was found
by_block : (g : given.Over) (c : After-fitting_block g) → bit_hit g.F.Field.WIDTH g.F.Field.mul c.args.self.now.blocks.now (mended_salt c.args.said.salt c.args.bit) c.args.said.check c.args.bit ≡ in_block c.args.self.now.blocks.now (mended_salt c.args.said.salt c.args.bit) c.args.bit c.fitting_block.result
by_block g c =
    let f = g.F.Field in
    let ys = c.args.self.now.blocks.now in
    let a = mended_salt c.args.said.salt c.args.bit in
    let told = tested_ok _ _ _ _ c.in_ok-change.ensures in
    judged_other f.WIDTH f.mul ys a c.args.said.check _ _ _ told.0 told.1 c.if-change-eq0.false
    ∙ ap (in_block ys a c.args.bit) (fitting f.WIDTH f.mul f.laws ys a c.args.said.check c.args.bit _ (admitted_lt f.WIDTH f.mul _ a told.0) c.args.self.now.elements c.requires told.1 ∙ sym c.fitting_block.ensures.value)

pub returns-in_err-j : goal.returns-in_err-j
returns-in_err-j g c =
    let at = goal.at.returns-in_err-j g c in
    let none : c.fitting_block.result ≡ None = search rules in
    let told : c.from_residual-in_err-j.result ≡ Err Unmended = search rules in
    told ∙ as_asked g at.In_ok-change _ (by_block g at.After-fitting_block ∙ ap (in_block _ _ c.args.bit) none)

pub returns : goal.returns
returns g c =
    let at = goal.at.returns g c in
    let found : c.fitting_block.result ≡ Some c.in_ok-j.j = search rules in
    ap (λ k. Ok (Mended (Block k c.args.bit), mended_salt c.args.said.salt c.args.bit)) (add-one c.in_ok-j.j)
    ∙ as_asked g at.In_ok-change _ (by_block g at.After-fitting_block ∙ ap (in_block _ _ c.args.bit) found)
