use Rattle.std.proofs.Common.{arith}
use Rattle.report.proofs.Enough.{enough}
use Rattle.report.proofs.reading.enough_bytes.Goals as goal

pub returns : goal.returns
returns c = enough 65537 (omega arith)
