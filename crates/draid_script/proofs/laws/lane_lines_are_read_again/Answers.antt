use Rattle.draid_script.proofs.WrittenLanes.{lane_line_again}
use Rattle.draid_script.proofs.laws.lane_lines_are_read_again.Goals as goal

pub returns : goal.returns
returns c = lane_line_again
