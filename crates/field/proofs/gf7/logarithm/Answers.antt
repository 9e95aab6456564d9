use Rattle.std.proofs.Common.{◌≡◌, ℕ, zero, suc, ◌<◌, List, get_or, ⊎_elim, refl, arith}
use Rattle.std.proofs.lemmas.Bool.{cases_eq}
use Rattle.field.specs.Powers.{power}
use Rattle.field.specs.Products.{times_z, orbit, product}
use Rattle.field.specs.Computed.{all}
use Rattle.field.proofs.Tables.{places, logs_at}
use Rattle.field.proofs.gf7.logarithm.Goals as goal

-- the table has the places of the numbers among the powers of z, and 127 for 0, which is none
abbrev logs : List ℕ
logs = places 128 (orbit 127 (times_z 6 137) 1)

at : (x : ℕ) → 0 < x → x < 128 → (get_or logs x 0 < 127) × (power (product 6 137) 2 (get_or logs x 0) ≡ x)
unfolding all product
at = logs_at (product 6 137) 2 127 127 logs refl

some : (x : ℕ) → x < 128 → get_or logs x 0 < 127 → (get_or logs x 0 < 127) × (power (product 6 137) 2 (get_or logs x 0) ≡ x)
some zero small h = let none : 127 < 127 = h in absurd (omega arith)
some (suc x) small h = at (suc x) (omega arith) small

pub returns-then-i-lt127 : goal.returns-then-i-lt127
returns-then-i-lt127 c = some c.args.x.value c.args.x.small c.if-i-lt127.true

pub returns-else-i-lt127 : goal.returns-else-i-lt127
returns-else-i-lt127 c =
    let x = c.args.x.value in
    ⊎_elim (λ e. e) (λ n. absurd (omega (arith, (at x (omega (arith, n)) c.args.x.small).0, c.if-i-lt127.false))) (cases_eq x 0)
