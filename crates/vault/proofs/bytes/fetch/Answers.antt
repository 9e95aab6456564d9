use Rattle.std.proofs.Common.{◌≡◌, ℕ, ◌+◌, ◌<◌, ◌≤◌, List, [], ◌∷◌, ◌++◌, length, get_or, take, drop, set, Ok, Err, Result, sym, ap, ◌∙◌, ap₂, add-one, arith, length-drop, get_or-drop, take-suc, take-suc-set}
use lib.Seq.{take-length}
use Rattle.bank.specs.declared.BankFault.{BankFault}
use Rattle.bank.specs.Calls.{Gives}
use Rattle.vault.proofs.bytes.fetch.Goals as goal

-- one byte more
step : (bytes row : List ℕ) (start i v : ℕ) → i < length bytes → start + length bytes ≤ length row → v ≡ get_or row (start + i) 0 → take i bytes ≡ take i (drop start row) → take (i + 1) (set bytes i v) ≡ take (i + 1) (drop start row)
step bytes row start i v inside room is before =
    let near : i < length (drop start row) = omega (arith, length-drop start row) in
    ap (λ n. take n (set bytes i v)) (add-one i) ∙ take-suc-set bytes i v inside
    ∙ ap₂ (λ xs x. xs ++ (x ∷ [])) before (is ∙ sym (get_or-drop start row i 0))
    ∙ sym (take-suc (drop start row) i 0 near) ∙ ap (λ n. take n (drop start row)) (sym (add-one i))

-- a get that is not refused gives the byte at its place
given : (row : List ℕ) (place v : ℕ) (r : Result ℕ BankFault) → Gives row place r → r ≡ Ok v → v ≡ get_or row place 0
given row place v (Ok x) gives is = let same : x ≡ v = cc in sym same ∙ gives.1
given row place v (Err fault) gives is = cc

pub loop-i-preserved : goal.loop-i-preserved
loop-i-preserved g c =
    step c.loop-i.bytes (g.B.Bank.row c.args.bank.now) c.args.start c.loop-i.i c.unwrap.result (omega arith) (omega arith)
    (given (g.B.Bank.row c.args.bank.now) (c.args.start + c.loop-i.i) c.unwrap.result c.get.result c.get.ensures c.unwrap.ensures) c.loop-i.invariant

pub returns : goal.returns
returns g c =
    let all : length c.loop-i.bytes ≡ length c.args.bytes.now = omega arith in
    let i : c.loop-i.i ≡ length c.args.bytes.now = omega arith in
    sym (take-length c.loop-i.bytes) ∙ ap (λ n. take n c.loop-i.bytes) (all ∙ sym i) ∙ c.loop-i.invariant
    ∙ ap (λ n. take n (drop c.args.start (g.B.Bank.row c.args.bank.now))) i
