use Rattle.std.proofs.Common.{◌≡◌, ◌+◌, ◌≤◌, [], length, arith, refl}
use Rattle.draid_session.proofs.Bearing.{all_go, stays_readable}
use Rattle.draid_session.proofs.Certain.{reads_by}
use Rattle.draid_session.proofs.Using.{all_outlived, fresh_whole, uses_whole}
use Rattle.draid_session.proofs.laws.rebuilt_failures_are_borne.Goals as goal

pub returns-clause-made : goal.returns-clause-made
returns-clause-made g c = fresh_whole

pub returns-clause-whole : goal.returns-clause-whole
returns-clause-whole g c failures x z outlives whole = all_outlived (g.D.Decides.choices c.args.decider.now) failures x z outlives whole

pub returns-clause-used : goal.returns-clause-used
returns-clause-used g c done x z uses idle whole = uses_whole (g.D.Decides.choices c.args.decider.now) x.geometry x.perms whole.slots.layout done x z uses whole refl refl idle

pub returns-clause-read : goal.returns-clause-read
returns-clause-read g c object reply failures done leaves x mid later old new w outlives whole uses idle go unhurt few carries written calm =
    let is = all_outlived (g.D.Decides.choices c.args.decider.now) failures x mid outlives whole in
    let still = uses_whole (g.D.Decides.choices c.args.decider.now) mid.geometry mid.perms is.slots.layout done mid later uses is refl refl idle in
    let gone = all_go (g.D.Decides.choices c.args.decider.now) [] [] leaves later old go still.slots in
    let many : length gone.leaves ≡ 0 + length leaves = gone.are in
    let parity = gone.parity in
    let enough : 0 + length gone.leaves ≤ old.geometry.spec.parity = omega (arith, few, many, parity) in
    reads_by (g.D.Decides.choices c.args.decider.now) object old carries.mid new w written carries.store carries.made
    (stays_readable [] gone.leaves old gone.whole enough unhurt new w calm) reply carries.holds carries.follows carries.does
