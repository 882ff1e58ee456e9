use Rattle.std.proofs.Common.{◌∙◌, ◌<◌, ℕ, Bool, true, ap, sym, subst, length}
use Rattle.std.specs.Prelude.{slice_get}
use Rattle.draid_uber.specs.Uber as ubers
use Rattle.draid_pool.specs.Drifts.{groups_number}
use Rattle.draid_changes.specs.Switching.{LeafIsIn}
use Rattle.draid_lanes.specs.Governing.{lane_last}
use Rattle.draid_lanes.specs.Locks.{owned_by}
use Rattle.draid_lanes.specs.Waits.{LaneWent}
use Rattle.draid_works.specs.Switched.{SwitchesThrough}
use Rattle.draid_works.proofs.SwitchArms.{switched_arms}
use Rattle.draid_works.proofs.SwitchLater.{switched_later}
use Rattle.draid_works.proofs.SwitchThrough.{switched_layout, switched_whole}
use Rattle.draid_works.proofs.switching.SwitchWorkGoverns.govern.Goals as goal

pub switch_through-came-requires : goal.switch_through-came-requires
switch_through-came-requires g c =
    let is = c.requires.governor in
    record {
      fits = is.fits;
      some = is.some;
      few = is.few;
      own = is.own;
      valid = is.valid;
      ready = is.ready;
      beyond = is.beyond;
      alike = λ m n x y at there. (let same = is.alike m n x y at there in same.arms);
    }

pub returns : goal.returns
returns g c =
    let is = c.requires.governor in
    let e = c.switch_through-came.ensures in
    let old = c.args.metaslabs.now in
    let new = c.switch_through-came.new.metaslabs in
    let u = c.args.uber.now in
    let v = c.switch_through-came.new.uber in
    let came = c.switch_through-came.result in
    let leaf = c.args.self.now.leaf in
    let offline = c.args.self.now.offline in
    let owns = owned_by old.passes.items in
    let went = LaneWent g.R.Rack g.A.Area in
    let arms = switched_arms g.R.Rack g.A.Area lane_last went true owns is.own c.args.count (ubers.next_leaf_of u) is.some leaf offline old new u v came e.switches (record { alike = is.alike; leaves = is.leaves; beyond = is.beyond }) in
    record {
      governor = record {
        all = is.all ∙ ap length (sym e.locks);
        some = is.some;
        few = is.few;
        fits = e.fits;
        own = ap (λ (f : ℕ → Bool). f groups_number) e.owns ∙ is.own;
        valid = e.valid;
        ready = e.ready;
        beyond = e.beyond;
        leaves = λ m shard at other there. subst (λ n. other < n) (sym arms.1.next_leaf) (arms.0.leaves m shard at other there);
        alike = arms.0.alike;
        layout = λ m lock at. arms.1.layout lock.first.shard.geometry.props.version ∙ is.layout m lock (sym (ap (λ ls. slice_get ls m) e.locks) ∙ at);
      };
      turns = e.locks;
      owns = e.owns;
      layout = switched_layout g.R.Rack g.A.Area lane_last went true owns is.own c.args.count is.some leaf offline old new u v came is.ready is.beyond e.switches;
      keeps = λ some no inside. switched_whole g.R.Rack g.A.Area lane_last went true owns is.own c.args.count is.some leaf offline old new u v came is.ready is.beyond e.switches some inside no;
      later = switched_later g.R.Rack g.A.Area lane_last went true owns c.args.count leaf offline old new u v came e.switches;
      point = arms.1.point;
      related = (
        subst (λ n. SwitchesThrough g.R.Rack g.A.Area lane_last went true owns n leaf offline old u came new v) is.all e.switches,
        subst (λ n. LeafIsIn n leaf offline came (lane_last new)) is.all e.leaf,
      );
    }
