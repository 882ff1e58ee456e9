-- A lane is whole behind a command of its metaslabs.
use Rattle.std.proofs.Common.{◌≡◌, ◌∙◌, ℕ, Bool, Some, arith, sym, ap, subst, length, nat_eq}
use Rattle.std.specs.HashMap.{get}
use Rattle.draid_rack.specs.declared.Rack as racks
use Rattle.draid_area.specs.declared.Area as areas
use Rattle.draid_pool.specs.Drifts.{groups_number}
use Rattle.draid_pool.specs.Looking.{HasMany}
use Rattle.draid_pool.specs.Threads.{AllStay, IsWholeBy}
use Rattle.draid_pool.specs.declared.own.Own.{Own}
use Rattle.draid_pool.proofs.Lists.{present}
use Rattle.draid_pool.proofs.QuietWhole.{layout_stays}
use Rattle.draid_lanes.specs.Governing.{lane_last}
use Rattle.draid_lanes.specs.Lanes.{IsWholeLane}
use Rattle.draid_lanes.specs.Locks.{AreOf, last_in, last_of, left_in, owned_by}
use Rattle.draid_lanes.specs.Ubers.{IsLane}
use Rattle.draid_lanes.specs.declared.lane.Lane.{Lane}
use Rattle.draid_lanes.specs.declared.locked.Locked.{Locked}

module _ {R A G W : Type 0} (rack : racks.Ghosts R) (area : areas.Ghosts A) (old : Lane R A G W) (new : Locked R A G W) (is : IsWholeLane rack area old)
    (turns : new.turns.now ≡ old.metaslabs.turns.now) (owns : owned_by new.passes.items ≡ owned_by old.metaslabs.passes.items) where
  -- the passes are a lane's where each is of its lock
  lane_fits : AreOf rack new.turns.now new.passes.items → IsLane rack new.turns.now new.passes.items
  lane_fits fits =
      let was = is.lane_is in
      let same = λ (n : ℕ). ap (λ (f : ℕ → Bool). f n) owns in
      record {
        some = rw (ap length turns) was.some;
        few = rw (ap length turns) was.few;
        fits = fits;
        number = was.number;
        other = was.other;
        own = same was.number ∙ was.own;
        no_groups = same groups_number ∙ was.no_groups;
      }

  -- so is the lane where its metaslabs changed as what is its own did
  pub lane_goes : (own : Own) → AreOf rack new.turns.now new.passes.items → AllStay (owned_by old.metaslabs.passes.items) (lane_last old.metaslabs) (lane_last new)
      → IsWholeBy rack (owned_by old.metaslabs.passes.items) (lane_last new) (λ object. get nat_eq own.objects object) own.seq own.floor → IsWholeLane rack area (record old { metaslabs = new; own = own })
  lane_goes own fits stay whole = record {
    lane_is = lane_fits fits;
    uber = is.uber;
    same = is.same ∙ sym turns;
    first = is.first;
    many = ap length turns ∙ is.many;
    layout = layout_stays (owned_by old.metaslabs.passes.items) (lane_last old.metaslabs) (lane_last new) old.geometry stay is.layout;
    whole = subst (λ (f : ℕ → Bool). IsWholeBy rack f (lane_last new) (λ object. get nat_eq own.objects object) own.seq own.floor) (sym owns) whole;
  }

-- a lane has all metaslabs of its layout
module _ {R A G W : Type 0} (rack : racks.Ghosts R) (area : areas.Ghosts A) (lane : Lane R A G W) (is : IsWholeLane rack area lane) where
  pub lane_many : HasMany rack lane.geometry.props.metaslabs (lane_last lane.metaslabs)
  lane_many m below =
      let locks = lane.metaslabs.turns.now in
      let passes = lane.metaslabs.passes.items in
      let lock = present locks m (let many = is.many in omega (arith, below, many)) in
      let pass = present passes m (let many = is.many in let each = is.lane_is.fits.many in omega (arith, below, many, each)) in
      let there : last_in locks passes m ≡ Some (left_in lock.0 pass.0.seen) = (λ i. last_of (lock.1 i) (pass.1 i)) in
      (left_in lock.0 pass.0.seen, there, (is.whole.shards m (left_in lock.0 pass.0.seen) there).valid)
