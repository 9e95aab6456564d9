-- The columns as they are computed, for all 17 bits at once, are those of the rule.
-- Assumes nothing.
use Rattle.std.proofs.Common.{◌≡◌, ℕ, ◌+◌, leb, map, sym, refl, zero-add}
use lib.ListN.{get_or-eq_default}
use mir.Val.{bool_byte}
use Rattle.std.specs.List.{range_with_len}
use Rattle.std.proofs.lemmas.List.FromFn.{get_or-map-range_with_len}
use Rattle.columns.specs.Rule.{non_powers}
use Rattle.columns.proofs.rule.RuleSetListed.column_of.Goals as goal

abbrev computed : ℕ → ℕ
computed bit = bit + 3 + bool_byte (leb 1 bit) + bool_byte (leb 4 bit) + bool_byte (leb 11 bit)

all_bits : non_powers 17 ≡ map computed (range_with_len 0 17)
unfolding non_powers
all_bits = refl

pub returns-then-bit-lt17 : goal.returns-then-bit-lt17
returns-then-bit-lt17 c =
    rw all_bits (sym (get_or-map-range_with_len computed 0 17 c.args.bit c.args.bit 0 c.if-bit-lt17.true (zero-add c.args.bit)))

pub returns-else-bit-lt17 : goal.returns-else-bit-lt17
unfolding non_powers
returns-else-bit-lt17 c = sym (get_or-eq_default (non_powers 17) 0 c.if-bit-lt17.false)
