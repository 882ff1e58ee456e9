use Rattle.std.proofs.Common.{◌∙◌, ◌<◌, ℕ, Bool, true, ap, sym, subst, length}
use Rattle.std.specs.Prelude.{slice_get}
use Rattle.draid_uber.specs.Uber as ubers
use Rattle.draid_pool.specs.Drifts.{groups_number}
use Rattle.draid_lanes.specs.Governing.{IsGovernor, lane_last}
use Rattle.draid_lanes.specs.Locks.{owned_by}
use Rattle.draid_lanes.specs.Waits.{LaneWent}
use Rattle.draid_works.proofs.MendArms.{mended_arms}
use Rattle.draid_works.proofs.MendLater.{mended_later}
use Rattle.draid_works.proofs.MendThrough.{mended_layout, mended_whole}
use Rattle.draid_works.proofs.Mended.{governor_mends, governs_all}
use Rattle.draid_works.proofs.mending.MendWorkGoverns.govern.Goals as goal

pub mend_through-came-requires : goal.mend_through-came-requires
mend_through-came-requires g c =
    let work = c.args.self.now in
    let old = c.args.metaslabs.now in
    let u = c.args.uber.now in
    let is = governs_all g.R.Rack g.A.Area work.geometry c.args._count old u c.requires.needs c.requires.governor in
    record { fits = is.fits; own = is.own; passes = c.requires.needs.passes; may = governor_mends g.R.Rack g.A.Area work.geometry old u c.requires.needs is }

pub returns : goal.returns
returns g c =
    let work = c.args.self.now in
    let e = c.mend_through-came.ensures in
    let old = c.args.metaslabs.now in
    let new = c.mend_through-came.new.metaslabs in
    let u = c.args.uber.now in
    let v = c.mend_through-came.new.uber in
    let came = c.mend_through-came.result in
    let was = c.requires.governor in
    let is = governs_all g.R.Rack g.A.Area work.geometry c.args._count old u c.requires.needs was in
    let owns = owned_by old.passes.items in
    let went = LaneWent g.R.Rack g.A.Area in
    let arms = mended_arms g.R.Rack g.A.Area lane_last went true owns is.own work.geometry (ubers.next_leaf_of u) work.kind work.limit came old new u v e.mends (record { alike = is.alike; leaves = is.leaves; beyond = is.beyond }) in
    record {
      governor = subst (λ n. IsGovernor g.R.Rack g.A.Area n new.turns.now new.passes.items v) (sym (was.all ∙ c.requires.needs.many)) (record {
        all = is.all ∙ ap length (sym e.locks);
        some = is.some;
        few = is.few;
        fits = e.fits;
        own = ap (λ (f : ℕ → Bool). f groups_number) e.owns ∙ is.own;
        valid = e.may.valid;
        ready = e.may.ready;
        beyond = e.may.beyond;
        leaves = λ m shard at other there. subst (λ n. other < n) (sym arms.1.next_leaf) (arms.0.leaves m shard at other there);
        alike = arms.0.alike;
        layout = λ m lock at. arms.1.layout lock.first.shard.geometry.props.version ∙ is.layout m lock (sym (ap (λ ls. slice_get ls m) e.locks) ∙ at);
      });
      turns = e.locks;
      owns = e.owns;
      layout = mended_layout g.R.Rack g.A.Area lane_last went true owns is.own work.geometry work.kind work.limit came old new u v is.ready is.beyond e.mends;
      keeps = λ some no inside. mended_whole g.R.Rack g.A.Area lane_last went true owns is.own work.geometry work.kind work.limit came old new u v is.ready is.beyond e.mends is.some some inside no;
      later = mended_later g.R.Rack g.A.Area lane_last went true owns work.geometry work.kind work.limit came old new u v e.mends;
      point = arms.1.point;
      related = (e.mends, e.within);
    }
