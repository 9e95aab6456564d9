use Rattle.std.proofs.Common.{◌≡◌, ℕ, ◌%◌, get_or, refl, ◌∙◌, mod-lt, lit<}
use Rattle.field.specs.Powers.{power}
use Rattle.field.specs.Products.{times_z, orbit, product}
use Rattle.field.specs.Computed.{all}
use Rattle.field.specs.Widths.{laws7}
use Rattle.field.proofs.Powers.{power_lt}
use Rattle.field.proofs.Tables.{powers_at, power_mod}
use Rattle.field.proofs.gf7.power_of_z.Goals as goal

-- the table has the powers of z, each z times the one before, and the 127th is 1
value : (i : ℕ) → get_or (orbit 127 (times_z 6 137) 1) (i % 127) 0 ≡ power (product 6 137) 2 i
unfolding all product
value i =
    powers_at (product 6 137) 2 127 (orbit 127 (times_z 6 137) 1) refl (i % 127) (mod-lt i (lit< tt))
    ∙ power_mod 7 (product 6 137) laws7 2 127 (lit< tt) refl i

pub invariant_of-result : goal.invariant_of-result
invariant_of-result c =
    let i = c.args.i in
    record { small = rw (value i) (power_lt 7 (product 6 137) laws7 2 i (lit< tt)) }

pub returns : goal.returns
returns c = value c.args.i
