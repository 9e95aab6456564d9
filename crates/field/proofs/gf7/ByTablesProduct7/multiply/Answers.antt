use Rattle.std.proofs.Common.{◌≡◌, sym, ap, ◌∙◌, ap₂, lit<}
use Rattle.field.specs.Products.{product}
use Rattle.field.specs.Widths.{laws7}
use Rattle.field.proofs.Powers.{mul_zero, power_add}
use Rattle.field.proofs.gf7.ByTablesProduct7.multiply.Goals.{in_default-via-in-Some+in_default, in_default-via-in_default}
use Rattle.field.proofs.gf7.ByTablesProduct7.multiply.Goals as goal

pub returns-in_default : goal.returns-in_default
returns-in_default c =
    let x = c.args.x in
    let y = c.args.y in
    let right : y.value ≡ 0 → 0 ≡ product 6 137 x.value y.value = λ e. sym (ap (product 6 137 x.value) e ∙ mul_zero 7 (product 6 137) laws7 x.value x.small) in
    let left : x.value ≡ 0 → 0 ≡ product 6 137 x.value y.value =
    λ e. sym (laws7.comm x.value y.value x.small y.small ∙ ap (product 6 137 y.value) e ∙ mul_zero 7 (product 6 137) laws7 y.value y.small) in
    elim c.in_default.branch [
      | in_default-via-in-Some+in_default w ↦ right w.in_default.ensures'
      | in_default-via-in_default w ↦ left (rw w.in_default.is-0 at c.logarithm.ensures)
    ]

pub returns : goal.returns
returns c =
    let i = c.in-Some-Some.i in
    let j = c.in-Some-Some.j in
    c.power_of_z.ensures ∙ power_add 7 (product 6 137) laws7 2 i j (lit< tt)
    ∙ ap₂ (product 6 137) c.in-Some-Some.ensures.1 c.in-Some-Some.ensures'.1
