use Rattle.std.proofs.Common.{◌+◌, ◌≤◌, [], length, arith}
use Rattle.draid_session.proofs.Bearing.{all_go, stays_readable}
use Rattle.draid_session.proofs.Certain.{reads_by}
use Rattle.draid_session.proofs.laws.whole_slots_bear_failures.Goals as goal

pub returns : goal.returns
returns g c object reply slots leaves x old new w whole go unhurt few carries written calm =
    let gone = all_go (g.D.Decides.choices c.args.decider.now) slots [] leaves x old go whole in
    let many = gone.are in
    let parity = gone.parity in
    let enough : length slots + length gone.leaves ≤ old.geometry.spec.parity = omega (arith, few, many, parity) in
    reads_by (g.D.Decides.choices c.args.decider.now) object old carries.mid new w written carries.store carries.made
    (stays_readable slots gone.leaves old gone.whole enough unhurt new w calm) reply carries.holds carries.follows carries.does
