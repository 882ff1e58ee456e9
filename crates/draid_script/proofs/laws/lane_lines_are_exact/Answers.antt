use Rattle.draid_script.proofs.Read.{lane_inv}
use Rattle.draid_script.proofs.WrittenLanes.{lane_spelled}
use Rattle.draid_script.proofs.laws.lane_lines_are_exact.Goals as goal

pub returns : goal.returns
returns c lanes text line few = (lane_inv lanes text line, lane_spelled lanes text line few)
