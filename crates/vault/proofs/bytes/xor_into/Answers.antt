use Rattle.std.proofs.Common.{◌≡◌, ℕ, zero, suc, ◌<◌, List, [], ◌∷◌, length, get_or, take, set, sym, refl, ap, ◌∙◌, le_of_suc-le-suc, add-one, arith}
use lib.Bits.{bit_xor}
use Rattle.bits.specs.Rows.{xored}
use Rattle.vault.proofs.bytes.xor_into.Goals as goal

none : (xs : List ℕ) → xs ≡ xored xs []
none [] = refl
none (x ∷ xs) = refl

-- one byte more
step : (xs ys : List ℕ) (i : ℕ) → i < length xs → i < length ys → set (xored xs (take i ys)) i (bit_xor (get_or (xored xs (take i ys)) i 0) (get_or ys i 0)) ≡ xored xs (take (suc i) ys)
step [] ys i inside near = absurd (omega arith)
step (x ∷ xs) [] i inside near = absurd (omega arith)
step (x ∷ xs) (y ∷ ys) zero inside near = ap (λ zs. bit_xor x y ∷ zs) (none xs)
step (x ∷ xs) (y ∷ ys) (suc i) inside near = ap (λ zs. bit_xor x y ∷ zs) (step xs ys i (le_of_suc-le-suc inside) (le_of_suc-le-suc near))

pub loop-i-init : goal.loop-i-init
loop-i-init c = none c.args.bytes.now

pub loop-i-preserved : goal.loop-i-preserved
loop-i-preserved c =
    let i = c.loop-i.i in
    let bytes = c.args.bytes.now in
    let pattern = c.args.pattern.now in
    ap (λ xs. set xs i (bit_xor (get_or xs i 0) (get_or pattern i 0))) c.loop-i.invariant
    ∙ step bytes pattern i (omega arith) (omega arith) ∙ ap (λ n. xored bytes (take n pattern)) (sym (add-one i))
