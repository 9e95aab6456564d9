use Rattle.std.proofs.Common.{rules}
use Rattle.columns.specs.Columns as Columns
use Rattle.field.specs.Laws.{Laws}
use Rattle.frame.specs.Code.{Code}
use Rattle.frame.specs.Promises.{Promises}
use Rattle.frame.proofs.AnyFrame.{opening_bits}
use Rattle.frame.proofs.Clean.{clean_means_sealed, sealed_opens}
use Rattle.frame.proofs.Flips.{one_block, two_flips}
use Rattle.frame.proofs.OneFlip.{one_flip}
use Rattle.frame.proofs.Salts.{few_salts}
use Rattle.frame.proofs.Sealed.{sealing_parts}
use Rattle.frame.proofs.layout.fit.Goals as goal

promises : (K : Code) → Laws K.m K.mul → Columns.Laws K.columns K.r → Promises K
promises K field columns = record {
  clean = clean_means_sealed K field columns;
  opens = sealed_opens K field columns;
  one_flip = one_flip K field columns;
  two_flips = two_flips K field columns;
  few_salts = few_salts K field columns;
  one_block = one_block K field;
  leftover = record { unset = λ ys a ok. (sealing_parts K field columns ys a ok).small; unseen = opening_bits K };
}

pub returns-then-is_fit : goal.returns-then-is_fit
returns-then-is_fit g c = record { answer = search rules; promises = promises _ g.F.Field.laws (g.C.ColumnSet.laws c.args.set.now) }

pub returns-else-is_fit : goal.returns-else-is_fit
returns-else-is_fit g c = record { answer = search rules; promises = promises _ g.F.Field.laws (g.C.ColumnSet.laws c.args.set.now) }
