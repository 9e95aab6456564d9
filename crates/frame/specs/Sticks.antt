-- The codes of the two kinds of stick: width 7 with the table of columns, and width 17 with the columns by rule.
-- Assumes nothing.
use Rattle.columns.specs.Rule.{non_powers}
use Rattle.columns.specs.Table.{listed}
use Rattle.field.specs.Products.{product}
use Rattle.frame.specs.Code.{Code, code}

abbrev pub code7 : Code
code7 = code 7 (product 6 137) listed 4

abbrev pub code17 : Code
code17 = code 17 (product 16 131081) (non_powers 17) 5
