use Rattle.std.proofs.Common.{◌≡◌, ℕ, ◌+◌, ◌*◌, ◌/◌, ◌^◌, ◌<◌, SomeIff, Option, Some, None, sym, ⊎_elim, zero-mul, zero-add, arith, pow_mono, pow_pos}
use native.Mathlib.Nat.{div-eq_of_lt}
use Rattle.std.proofs.Math.Nat.{lt-div-mul-add}
use Rattle.std.proofs.lemmas.Bool.{cases_lt}
use Rattle.std.specs.Option.{unwrap_or}
use Rattle.field.proofs.binary.AnyField.element.Goals as goal

-- a shift by the whole width or more leaves nothing
shifted : (w n : ℕ) (o : Option ℕ) → n < 2 ^ 32 → SomeIff o (w < 32) (n / 2 ^ w) → unwrap_or o 0 ≡ n / 2 ^ w
shifted w n None h wide =
    let small : n < 2 ^ w = ⊎_elim (λ (l : w < 32). absurd (wide l)) (λ l. omega (arith, pow_mono l)) (cases_lt w 32) in
    sym (div-eq_of_lt small)
shifted w n (Some x) h is = is.1

pub invariant_of-result : goal.invariant_of-result
invariant_of-result g c =
    let w = g.row.W in
    let n = c.args.n in
    let whole : unwrap_or c.checked_shr.result 0 ≡ n / 2 ^ w = shifted w n c.checked_shr.result c.ranges.n.fits c.checked_shr.ensures in
    let none : n / 2 ^ w ≡ 0 = cc in
    let near : n < n / 2 ^ w * 2 ^ w + 2 ^ w = lt-div-mul-add (pow_pos w) in
    record { small = rw (none, zero-mul, zero-add) at near }

pub returns-else-unwrap_or-eq0 : goal.returns-else-unwrap_or-eq0
returns-else-unwrap_or-eq0 g c =
    let w = g.row.W in
    let n = c.args.n in
    let whole : unwrap_or c.checked_shr.result 0 ≡ n / 2 ^ w = shifted w n c.checked_shr.result c.ranges.n.fits c.checked_shr.ensures in
    ⊎_elim (λ below. let none : n / 2 ^ w ≡ 0 = div-eq_of_lt below in absurd (c.if-unwrap_or-eq0.false (cc))) (λ past. past) (cases_lt n (2 ^ w))
