use Rattle.draid_session.proofs.Fetched.{reads_own}
use Rattle.draid_session.proofs.lanes.readable_fetches_give_bytes.Goals as goal

pub returns : goal.returns
returns g c geometry perms object reply old new holds w does written readable =
    reads_own geometry perms (g.D.Decides.choices c.args.decider.now) object old w written reply holds new does readable
