-- Elements as numbers.
-- Assumes nothing.
use Rattle.std.specs.Prelude.{◌≡◌, ℕ, ◌^◌, ◌<◌}
use mathlib.Core.HLevel.{is_prop→PathP}
use Rattle.std.proofs.Math.Bridge.{le_prop}
use Rattle.field.specs.declared.elem.Elem.{Elem}

-- elements with one number are one element
pub same_value : (w : ℕ) (x y : Elem w) → x.value ≡ y.value → x ≡ y
same_value w x y e = λ i. record { value = e i; small = is_prop→PathP (λ j. e j < 2 ^ w) (λ j. le_prop) x.small y.small i }
