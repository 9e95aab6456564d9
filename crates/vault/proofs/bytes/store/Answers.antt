use Rattle.std.proofs.Common.{◌≡◌, ℕ, ◌+◌, ◌<◌, List, length, get_or, set, Ok, Err, Result, sym, ap, ◌∙◌, add-one, arith}
use lib.Seq.{paste, paste-suc, length-paste}
use Rattle.bank.specs.declared.BankFault.{BankFault}
use Rattle.bank.specs.Calls.{Puts}
use Rattle.vault.proofs.bytes.store.Goals as goal

-- a put at a place inside is not refused
stored : (row after : List ℕ) (place byte : ℕ) (r : Result (Unit {0}) BankFault) → place < length row → Puts row place byte r after → after ≡ set row place byte
stored row after place byte (Ok u) inside puts = puts.1
stored row after place byte (Err fault) inside puts = absurd (omega arith)

pub loop-i-preserved : goal.loop-i-preserved
loop-i-preserved g c =
    let row = g.B.Bank.row c.args.bank.now in
    let at = c.args.start in
    let bytes = c.args.bytes.now in
    let i = c.loop-i.i in
    let inside : at + i < length (g.B.Bank.row c.loop-i.bank) = omega (arith, ap length c.loop-i.invariant.0, length-paste row at bytes i (omega arith) (omega arith)) in (
      stored (g.B.Bank.row c.loop-i.bank) _ (at + i) _ c.put.result inside c.put.ensures.answer
          ∙ ap (λ xs. set xs (at + i) (get_or bytes i 0)) c.loop-i.invariant.0
          ∙ paste-suc row at bytes i 0 (omega arith) (omega arith) ∙ ap (paste row at bytes) (sym (add-one i)),
      c.put.ensures.kept ∙ c.loop-i.invariant.1,
    )
