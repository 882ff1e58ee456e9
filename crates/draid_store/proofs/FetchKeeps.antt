-- The fetching of a block in a hold keeps to what every hold keeps to.
use Rattle.std.proofs.Common.{◌≡◌, ◌∙◌, arith, inl, ℕ, Bool, Option, Some, None, MatchOption, Result, Ok, Err, refl, ap, subst}
use Rattle.std.specs.Prelude.{IfOk}
use Rattle.draid_names.specs.declared.pointer.Pointer.{Pointer}
use Rattle.draid_names.specs.declared.refusal.ObjectFault.{ObjectFault}
use Rattle.draid_names.specs.declared.refusal.ObjectFault.TheVariants as object
use Rattle.draid_rack.specs.declared.Rack as racks
use Rattle.draid_area.specs.declared.Area as areas
use Rattle.draid_spec.specs.declared.layout.Geometry.{Geometry}
use Rattle.draid_block.specs.Blocks.{cut_of}
use Rattle.draid_block.specs.Solving.{IsFetched}
use Rattle.draid_block.specs.declared.solve.Fetched.{Fetched}
use Rattle.draid_segments.specs.Segments.{Pieces}
use Rattle.draid_shard.specs.Alike.{KeepsArms}
use Rattle.draid_shard.specs.Calls.{SameAreas, SameReserve}
use Rattle.draid_shard.specs.Changes.{KeepsBlocks}
use Rattle.draid_shard.specs.Part.{Part, layout_in}
use Rattle.draid_shard.specs.States.{part_of}
use Rattle.draid_shard.specs.declared.shard.Shard.{Shard}
use Rattle.draid_session.specs.State.{Metaslab}
use Rattle.draid_pool.specs.Drifts.{Drifts, GoesOn, KeepsGroups, KeepsTo, is_other}
use Rattle.draid_pool.specs.Metaslabs.{IsMetaslab}
use Rattle.draid_pool.specs.Threads.{HasPointer}
use Rattle.draid_pool.proofs.Dids.{none_here}
use Rattle.draid_pool.proofs.Drifting.{groups_by, same_pass}
use Rattle.draid_pool.proofs.Imaged.{keeps_same}
use Rattle.draid_pool.proofs.Rises.{records_same}
use Rattle.draid_pool.proofs.ShardSteps.{follows_since, live_on}
use Rattle.draid_pool.proofs.Since.{since_self}
use Rattle.draid_store.specs.Fetching.{FetchesNone, FetchesShard, MayFetchIn}
use Rattle.draid_store.specs.Pointers.{FetchFinds}
use Rattle.draid_store.proofs.Fetched.{fetches}
use Rattle.draid_store.proofs.Pointed.{fetch_block, fetch_starved, fetch_worn}

module _ {R A : Type 0} (rack : racks.Ghosts R) (area : areas.Ghosts A) where
  -- ---- all blocks, groups, arms and areas are as they were

  pub fetch_blocks : (x y : Shard R A) (p : Pointer) (result : Result Fetched ObjectFault) → FetchesShard rack x p result y → KeepsBlocks x y
  fetch_blocks x y p (Ok fetched) f = f.did.fetches.keeps
  fetch_blocks x y p (Err object.NoObject) f = absurd f.did
  fetch_blocks x y p (Err (object.Unreadable absent tried)) f = absurd f.did
  fetch_blocks x y p (Err object.Worn) f = f.did.0.nothing.keeps
  fetch_blocks x y p (Err object.NoMemory) f = f.did.nothing.keeps

  fetch_arms : (x y : Shard R A) (p : Pointer) (result : Result Fetched ObjectFault) → FetchesShard rack x p result y → KeepsArms x.slots y.slots
  fetch_arms x y p (Ok fetched) f = f.did.fetches.slots
  fetch_arms x y p (Err object.NoObject) f = absurd f.did
  fetch_arms x y p (Err (object.Unreadable absent tried)) f = absurd f.did
  fetch_arms x y p (Err object.Worn) f = f.did.0.nothing.slots
  fetch_arms x y p (Err object.NoMemory) f = f.did.nothing.slots

  fetch_areas : (x y : Shard R A) (p : Pointer) (result : Result Fetched ObjectFault) → FetchesShard rack x p result y → SameAreas x y
  fetch_areas x y p (Ok fetched) f = f.did.areas_are
  fetch_areas x y p (Err object.NoObject) f = absurd f.did
  fetch_areas x y p (Err (object.Unreadable absent tried)) f = absurd f.did
  fetch_areas x y p (Err object.Worn) f = f.did.0.kit.areas
  fetch_areas x y p (Err object.NoMemory) f = f.did.kit.areas

  fetch_reserve : (x y : Shard R A) (p : Pointer) (result : Result Fetched ObjectFault) → FetchesShard rack x p result y → SameReserve x y
  fetch_reserve x y p (Ok fetched) f = f.did.reserve
  fetch_reserve x y p (Err object.NoObject) f = absurd f.did
  fetch_reserve x y p (Err (object.Unreadable absent tried)) f = absurd f.did
  fetch_reserve x y p (Err object.Worn) f = f.did.0.reserve
  fetch_reserve x y p (Err object.NoMemory) f = f.did.reserve

  pub fetch_groups : (x y : Shard R A) (p : Pointer) (result : Result Fetched ObjectFault) → FetchesShard rack x p result y → KeepsGroups x y
  fetch_groups x y p result f = groups_by x y (fetch_blocks x y p result f).groups (fetch_arms x y p result f) (fetch_reserve x y p result f).reserved

  -- ---- states

  none_goes : (of : ℕ → Bool) (x y : Shard R A) → FetchesNone rack x y → (part : Part) (pieces : Pieces) (u : Metaslab) → IsMetaslab rack area part pieces y u → GoesOn rack area of part pieces u y
  none_goes of x y n part pieces u is = record { reached = u; now = pieces; is = is; since = since_self (layout_in part) u; images = λ mine. keeps_same u.world; same = λ k mine. inl refl }

  pub none_stands : (x y : Shard R A) (p : Pointer) (why : ObjectFault) → FetchesShard rack x p (Err why) y → FetchesNone rack x y → (part : Part) (pieces : Pieces) (u : Metaslab) → IsMetaslab rack area part pieces x u → IsMetaslab rack area part pieces y u
  none_stands x y p why f n part pieces u is = none_here rack area part pieces x y u is f.valid n.nothing.none n.kit.rack n.kit.areas n.reserve.limit n.reserve.reserved

  state_on : (of : ℕ → Bool) (x y : Shard R A) (p : Pointer) (result : Result Fetched ObjectFault) → FetchesShard rack x p result y → (part : Part) (pieces : Pieces) (u : Metaslab) → IsMetaslab rack area part pieces x u
      → GoesOn rack area of part pieces u y
  state_on of x y p (Ok fetched) f part pieces u is =
      let d = f.did in
      let g = fetches rack area part x y p fetched d.fetches f.valid d.areas_are d.told d.reserve d.not_worn pieces u is in
      record { reached = g.reached; now = pieces; is = g.is; since = follows_since (layout_in part) part.number g.holds u g.reached g.follows; images = λ mine. g.images; same = λ k mine. inl refl }
  state_on of x y p (Err object.NoObject) f part pieces u is = absurd f.did
  state_on of x y p (Err (object.Unreadable absent tried)) f part pieces u is = absurd f.did
  state_on of x y p (Err object.Worn) f part pieces u is = none_goes of x y f.did.0 part pieces u (none_stands x y p object.Worn f f.did.0 part pieces u is)
  state_on of x y p (Err object.NoMemory) f part pieces u is = none_goes of x y f.did part pieces u (none_stands x y p object.NoMemory f f.did part pieces u is)

  pub fetch_keeps : (x y : Shard R A) (p : Pointer) (result : Result Fetched ObjectFault) → FetchesShard rack x p result y → KeepsTo rack area x y None
  fetch_keeps x y p result f = record {
    valid = f.valid;
    part = f.part;
    later = (let same = (fetch_blocks x y p result f).groups.committed in omega (arith, same));
    opens = (let same = (fetch_blocks x y p result f).groups.open_group_is in omega (arith, same));
    groups = λ other. fetch_groups x y p result f;
    passes = λ other. same_pass x.pass y.pass f.pass;
    others = record { each = λ key other. inl ((fetch_blocks x y p result f).entries.held key) };
    areas = records_same area.faults x y (fetch_areas x y p result f);
    state = state_on (is_other None) x y p result f;
  }

  -- ---- it may be run

  pub may_fetch : (shared : Bool) (owns : ℕ → Bool) (last : ℕ → Option (Shard R A)) (object : ℕ) (p : Pointer) → (has : HasPointer last rack owns object p) → (x : Shard R A) → Drifts rack area shared owns has.shard x → MayFetchIn rack x p
  may_fetch shared owns last object p has x d = record {
    valid = d.valid;
    live = live_on rack area owns x.committed has.shard x p has.valid d.valid d.part d.own (ap owns has.object_is ∙ has.own) has.live;
  }

  -- ---- what the hold's answer says

  pub did_fetch : (x y : Shard R A) (p : Pointer) (out : Option (Result Fetched ObjectFault)) (result : Result Fetched ObjectFault) → MatchOption out ⊥ (λ r. FetchesShard rack x p r y) → out ≡ Some result → FetchesShard rack x p result y
  did_fetch x y p None result f is = absurd f
  did_fetch x y p (Some r) result f is = (let same : r ≡ result = cc in subst (λ t. FetchesShard rack x p t y) same f)

  pub keeps_fetch : (x y : Shard R A) (p : Pointer) (out : Option (Result Fetched ObjectFault)) → MatchOption out ⊥ (λ r. FetchesShard rack x p r y) → KeepsTo rack area x y None
  keeps_fetch x y p None f = absurd f
  keeps_fetch x y p (Some r) f = fetch_keeps x y p r f

  -- the columns are those of the object's block, as its metaslab is laid out
  pub fetch_finds : (x y : Shard R A) (p : Pointer) (found : Option Pointer) (result : Result Fetched ObjectFault) → FetchesShard rack x p result y → found ≡ Some p → FetchFinds found result
  fetch_finds x y p found (Ok fetched) f is = fetch_block found p fetched is f.did.fetches.pointer_is
  fetch_finds x y p found (Err object.NoObject) f is = absurd f.did
  fetch_finds x y p found (Err (object.Unreadable absent tried)) f is = absurd f.did
  fetch_finds x y p found (Err object.Worn) f is = fetch_worn found p is
  fetch_finds x y p found (Err object.NoMemory) f is = fetch_starved found p is

  pub fetched_as : (shard x y : Shard R A) (p : Pointer) (result : Result Fetched ObjectFault) (geometry : Geometry) → FetchesShard rack x p result y → part_of x ≡ part_of shard → shard.geometry ≡ geometry → IfOk result (IsFetched (cut_of geometry))
  fetched_as shard x y p (Ok fetched) geometry f part have = subst (λ (g : Geometry). IsFetched (cut_of g) fetched) (ap (λ (q : Part). q.geometry) part ∙ have) f.did.fetches.fetched_is
  fetched_as shard x y p (Err why) geometry f part have = tt
