use Rattle.std.proofs.Common.{◌∙◌, ◌<◌, ℕ, Bool, true, ap, sym, subst, length}
use Rattle.std.specs.Prelude.{slice_get}
use Rattle.draid_uber.specs.Uber as ubers
use Rattle.draid_pool.specs.Drifts.{groups_number}
use Rattle.draid_lanes.specs.Governing.{lane_last}
use Rattle.draid_lanes.specs.Locks.{owned_by}
use Rattle.draid_lanes.specs.Waits.{LaneWent, SyncsThrough}
use Rattle.draid_lanes.proofs.SyncArms.{through_arms}
use Rattle.draid_lanes.proofs.SyncThrough.{through_layout, through_whole}
use Rattle.draid_lanes.proofs.UberLater.{through_later}
use Rattle.draid_lanes.proofs.syncing.SyncWorkGoverns.govern.Goals as goal

pub sync_through-came-requires : goal.sync_through-came-requires
sync_through-came-requires g c =
    let is = c.requires.governor in
    record { fits = is.fits; some = is.some; few = is.few; own = is.own; valid = is.valid; ready = is.ready; beyond = is.beyond }

pub returns : goal.returns
returns g c =
    let is = c.requires.governor in
    let e = c.sync_through-came.ensures in
    let old = c.args.metaslabs.now in
    let new = c.sync_through-came.new.metaslabs in
    let u = c.args.uber.now in
    let v = c.sync_through-came.new.uber in
    let came = c.sync_through-came.result in
    let owns = owned_by old.passes.items in
    let went = LaneWent g.R.Rack g.A.Area in
    let arms = through_arms g.R.Rack g.A.Area lane_last went true owns is.own c.args.count (ubers.next_leaf_of u) old new u v came e.syncs (record { alike = is.alike; leaves = is.leaves; beyond = is.beyond }) in
    record {
      governor = record {
        all = is.all ∙ ap length (sym e.locks);
        some = is.some;
        few = is.few;
        fits = e.fits;
        own = ap (λ (f : ℕ → Bool). f groups_number) e.owns ∙ is.own;
        valid = e.valid;
        ready = e.ready;
        beyond = e.beyond;
        leaves = λ m shard at leaf there. subst (λ n. leaf < n) (sym arms.1.next_leaf) (arms.0.leaves m shard at leaf there);
        alike = arms.0.alike;
        layout = λ m lock at. arms.1.layout lock.first.shard.geometry.props.version ∙ is.layout m lock (sym (ap (λ ls. slice_get ls m) e.locks) ∙ at);
      };
      turns = e.locks;
      owns = e.owns;
      layout = through_layout g.R.Rack g.A.Area lane_last went true owns is.own c.args.count old new u v came is.ready is.beyond e.syncs;
      keeps = λ some no inside. through_whole g.R.Rack g.A.Area lane_last went true owns is.own c.args.count old new u v came is.ready is.beyond e.syncs some inside is.some no;
      later = through_later g.R.Rack g.A.Area lane_last went true owns c.args.count old new u v came e.syncs;
      point = arms.1.point;
      related = subst (λ n. SyncsThrough g.R.Rack g.A.Area lane_last went true owns n old u came new v) is.all e.syncs;
    }
