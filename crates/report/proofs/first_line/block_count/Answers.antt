use Rattle.std.proofs.Common.{◌∙◌, rules}
use Rattle.std.proofs.lemmas.Bool.Decides.{Decides-eqb}
use Rattle.std.proofs.lemmas.Slice.Eq.{strip_prefix_is}
use Rattle.report.proofs.Counting.{named}
use Rattle.report.proofs.first_line.block_count.Goals as goal

pub returns-clause-value : goal.returns-clause-value
returns-clause-value c =
    named c.args.width c.as_bytes.result.now c.args.line.now (c.as_bytes.ensures.value ∙ c.in_ok-start.ensures.ok) c.strip_prefix.result c.and_then.result (strip_prefix_is Decides-eqb c.args.line.now _ _ c.strip_prefix.ensures.cases) (search rules)
