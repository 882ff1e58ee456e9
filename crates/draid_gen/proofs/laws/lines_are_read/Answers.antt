use Rattle.std.proofs.Common.{arith}
use Rattle.draid_gen.proofs.Read.{all_read}
use Rattle.draid_gen.proofs.laws.lines_are_read.Goals as goal

pub returns : goal.returns
returns c number small =
    all_read
    c.lines_are_read_again.ensures
    (λ text command spelled. (c.lines_are_exact.ensures text command).1 spelled)
    (λ lane command below may is. c.lane_lines_are_read_again.ensures 4 lane command below (omega arith) may is)
    (λ text line spelled. (c.lane_lines_are_exact.ensures 4 text line (omega arith)).1 spelled)
    number small
