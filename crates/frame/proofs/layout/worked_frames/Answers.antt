use Rattle.frame.proofs.Worked.{worked}
use Rattle.frame.proofs.layout.worked_frames.Goals as goal

pub returns : goal.returns
returns c = worked
