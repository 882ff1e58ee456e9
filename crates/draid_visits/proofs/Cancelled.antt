-- One metaslab of a pool as its pass is cancelled, or as it has none.
use Rattle.std.proofs.Common.{◌≡◌, ◌≤◌, ◌+◌, ◌++◌, ◌∙◌, [], ◌∷◌, ℕ, suc, List, Some, None, arith, refl, sym, ap, subst, length, slice_set}
use Rattle.std.specs.Prelude.{option_map, slice_get}
use Rattle.draid_rack.specs.declared.Rack as racks
use Rattle.draid_area.specs.declared.Area as areas
use Rattle.draid_spec.specs.declared.layout.Geometry.{Geometry}
use Rattle.draid_machine.specs.declared.event.Event.TheVariants as event
use Rattle.draid_machine.specs.Images.{IsImage}
use Rattle.draid_machine.specs.State as machine
use Rattle.draid_machine.specs.Step.{CancelStep}
use Rattle.draid_segments.specs.Segments.{Pieces}
use Rattle.draid_slots.specs.States.{pass_in}
use Rattle.draid_shard.specs.Calls.{ActsOn, SameKit, SameReserve}
use Rattle.draid_shard.specs.Fits.{Valid}
use Rattle.draid_shard.specs.Part.{Part, layout_in}
use Rattle.draid_shard.specs.States.{Does}
use Rattle.draid_shard.specs.declared.shard.Shard.{Shard}
use Rattle.draid_session.specs.Follows.{CountsRise}
use Rattle.draid_session.specs.Holds.{Did, Looked}
use Rattle.draid_session.specs.Passes as passes
use Rattle.draid_session.specs.Phases.{Walk, Went}
use Rattle.draid_session.specs.State.{Metaslab, State}
use Rattle.draid_pool.specs.Carries.{CarriesOut}
use Rattle.draid_pool.specs.Importable.{IsAlike}
use Rattle.draid_pool.specs.Metaslabs.{IsMetaslab, counts_of}
use Rattle.draid_pool.specs.Records.{LeavesAreBelow}
use Rattle.draid_pool.specs.Syncing.{KeepsCommitted, Turns}
use Rattle.draid_pool.specs.declared.pool.Pool.{Pool}
use Rattle.draid_pool.proofs.Lifted.{SetsShard}
use Rattle.draid_pool.proofs.Steps.{carried, follows_on, own_of, same_layout}
use Rattle.draid_pool.proofs.SyncSteps.{Below, Came, OneMore, below_all, below_set, turned}
use Rattle.draid_pool.proofs.Walks.{Walked, walk_went, walked_more}
use Rattle.draid_visits.specs.Cancelling.{CancelDoes}
use Rattle.draid_visits.specs.Visiting.{NoPasses}
use Rattle.draid_pool.proofs.Dids.{Done, did_with, records_same}
use Rattle.draid_pool.proofs.Finds.{looks}

-- ---- states

keeps_cancelled : (w v : machine.State) → CancelStep w v → KeepsCommitted w v
keeps_cancelled w v step = record {
  held = ap (λ (s : machine.State). s.core.held) step.made;
  committed = ap (λ (s : machine.State). s.committed) step.made;
  images = λ image own. subst (λ (s : machine.State). IsImage s image) (sym step.made) own;
  leaves = λ kept_leaf next_leaf below. subst (LeavesAreBelow kept_leaf next_leaf) (sym step.made) (record { kept = below.kept; sealed = below.sealed; now = below.now });
  alike = λ shared is. subst (IsAlike shared) (sym step.made) (record {
    versions = record { asked = is.versions.asked; kept = is.versions.kept; sealed = is.versions.sealed };
    same = record { order = is.same.order; now = is.same.now; kept = is.same.kept; sealed = is.same.sealed };
  });
  opens = (let same = ap (λ (s : machine.State). s.open_group) step.made in omega (arith, same));
}

keeps_same : (w : machine.State) → KeepsCommitted w w
keeps_same w = record { held = refl; committed = refl; images = λ image own. own; leaves = λ kept_leaf next_leaf below. below; alike = λ shared is. is; opens = omega arith }

-- ---- the metaslab

module _ {R A : Type 0} (rack : racks.Ghosts R) (area : areas.Ghosts A) (part : Part) (pieces : Pieces) (y : Metaslab) where
  -- a hold that cancelled so many passes
  abbrev CancelsOne : Shard R A → ℕ → Type 0
  CancelsOne new ended = Turns rack area part pieces y new (λ hold z. passes.CancelsAt part.geometry part.perms part.number hold ended × KeepsCommitted y.world z.world)

  counts_stay : (old new : Shard R A) (w v : machine.State) → SameKit old new → CountsRise w v [] (counts_of rack area old) (counts_of rack area new)
  counts_stay old new w v kit = record {
    rack = (let e = ap (λ r. rack.faults r None) kit.rack in omega (arith, e));
    even = (let e = ap area.faults kit.areas.even in omega (arith, e));
    odd = (let e = ap area.faults kit.areas.odd in omega (arith, e));
    leaves = λ leaf stays. (let e = ap (λ r. rack.faults r (Some leaf)) kit.rack in omega (arith, e));
  }

  pub pass_ended : (old new : Shard R A) → IsMetaslab rack area part pieces old y → Valid rack new → Does old new event.Cancel → ActsOn rack old new event.Cancel pieces → SameKit old new
      → SameReserve old new → CancelsOne new 1
  pass_ended old new is valid does acts kit reserve =
      let d : Done rack area part pieces new event.Cancel y
      = did_with rack area part pieces old new event.Cancel y is valid does acts (λ v step. refl) reserve.limit (let same = reserve.reserved in omega (arith, same))
      (λ v step is_in. counts_stay old new y.world v kit)
      (λ v step image now. records_same rack area part y.world old new kit.areas is.records image (subst (λ (s : machine.State). IsImage s image) step.made now)) tt in
      record { act = Did event.Cancel d.reached.world; reached = d.reached; acts = d.acts; done = ((refl, refl), keeps_cancelled y.world d.reached.world d.step); is = d.is }

  -- it had none
  pub none_ended : (shard : Shard R A) → IsMetaslab rack area part pieces shard y → shard.pass ≡ None → CancelsOne shard 0
  none_ended shard is none = record {
    act = Looked;
    reached = y;
    acts = looks (layout_in part) y;
    done = ((refl, is_none, refl), keeps_same y.world);
    is = is;
  }
    where
      is_none : y.world.core.pass ≡ None
      is_none = is.stands.is_in.pass ∙ ap (option_map (pass_in shard.slots)) none

-- ---- all metaslabs

-- the first so many have no pass
abbrev pub EndedBelow : {R A : Type 0} → List (Shard R A) → ℕ → Type 0
EndedBelow {R} {A} shards m = Below (λ (shard : Shard R A). shard.pass ≡ None) shards m

pub ended_more : {R A : Type 0} (shards : List (Shard R A)) (m : ℕ) (shard shard' : Shard R A) → slice_get shards m ≡ Some shard → shard'.pass ≡ None → EndedBelow shards m → EndedBelow (slice_set shards m shard') (m + 1)
ended_more {R} {A} shards m shard shard' there none below = below_set (λ (s : Shard R A). s.pass ≡ None) shards m shard shard' there none below

pub all_ended : {R A : Type 0} (pool : Pool R A) (m : ℕ) → length pool.metaslabs.shards.items ≤ m → EndedBelow pool.metaslabs.shards.items m → NoPasses pool
all_ended {R} {A} pool m end below = below_all (λ (s : Shard R A). s.pass ≡ None) pool.metaslabs.shards.items m end below

module _ {R A : Type 0} (rack : racks.Ghosts R) (area : areas.Ghosts A) where
  -- the next one has its hold
  pub cancel_more : (m sum n : ℕ) (mid new : Pool R A) (shard shard' : Shard R A) (x : State) → Came rack area (passes.CancelsAt x.geometry x.perms) m sum mid x → SetsShard rack area m mid new shard shard'
      → ((part : Part) (pieces : Pieces) (y : Metaslab) → IsMetaslab rack area part pieces shard y → CancelsOne rack area part pieces y shard' n)
      → Came rack area (passes.CancelsAt x.geometry x.perms) (m + 1) (sum + n) new x
  cancel_more m sum n mid new shard shard' x c set turns =
      let o : OneMore rack area new c.reached (λ hold. passes.CancelsAt c.reached.geometry c.reached.perms m hold n)
      = turned rack area m mid new shard shard' c.reached (λ part hold. passes.CancelsAt part.geometry part.perms part.number hold n) c.represents set turns in
      record {
        holds = c.holds ++ o.hold ∷ [];
        reached = o.reached;
        follows = follows_on c.holds (o.hold ∷ []) x c.reached o.reached c.follows (o.reached, o.holds, refl);
        walked = subst (λ k. Walked (passes.CancelsAt x.geometry x.perms) 0 k (c.holds ++ o.hold ∷ []) (sum + n)) (let on : suc m ≡ m + 1 = omega arith in on)
            (walked_more (passes.CancelsAt x.geometry x.perms) 0 m c.holds sum o.hold n c.walked (subst (λ k. passes.CancelsAt x.geometry x.perms k o.hold n) (let same : m ≡ 0 + m = omega arith in same)
            (own_of x c.reached (λ g p store. passes.CancelsAt g p m o.hold n) (same_layout c.holds x c.reached c.follows) o.done)));
        represents = o.represents;
      }

  -- all had theirs
  pub all_cancelled : (m sum : ℕ) (new : Pool R A) (x : State) → Came rack area (passes.CancelsAt x.geometry x.perms) m sum new x → m ≡ new.geometry.props.metaslabs
      → CarriesOut rack area new x (CancelDoes x sum)
  all_cancelled m sum new x c all =
      let P = passes.CancelsAt x.geometry x.perms in
      let S = passes.NeverStops x.geometry x.perms in
      carried rack area new x c.holds c.reached (CancelDoes x sum) c.follows c.represents
      (refl, subst (λ n. Walk P S 0 n c.holds Went sum) (all ∙ ap (λ (g : Geometry). g.props.metaslabs) (sym c.represents.stands.geometry ∙ (same_layout c.holds x c.reached c.follows).geometry)) (walk_went P S 0 m c.holds sum c.walked))
