-- A list that passes the test keeps the laws of a column set, and both sets do.
-- Assumes nothing.
use Rattle.std.proofs.Common.{◌≡◌, ℕ, List, true}
use Rattle.columns.specs.Columns.{Laws}
use Rattle.columns.specs.Rule.{non_powers}
use Rattle.columns.specs.Table.{listed}
use Rattle.columns.specs.Tested.{lawful, sound, differ, table_passes, rule_passes}

-- a list that passes the test keeps the laws
pub laws_by_test : (h : ℕ) (cs : List ℕ) → lawful h cs ≡ true → Laws cs h
laws_by_test h cs test = record {
  small = λ t lt. (sound h cs test t lt).0;
  nonzero = λ t lt. (sound h cs test t lt).1;
  no_power = λ t k lt. (sound h cs test t lt).2 k;
  differ = differ h cs test;
}

pub table_laws : Laws listed 4
table_laws = laws_by_test 4 listed table_passes

pub rule_laws : Laws (non_powers 17) 5
rule_laws = laws_by_test 5 (non_powers 17) rule_passes
