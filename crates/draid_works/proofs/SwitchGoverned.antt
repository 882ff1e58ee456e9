-- A leaf that goes offline in a lane's metaslabs or comes back, whatever state of the whole pool stood.
use Rattle.std.proofs.Common.{◌≡◌, ◌<◌, ◌≤◌, ◌∙◌, [], inl, inr, ℕ, zero, suc, Bool, true, false, Option, Some, None, arith, refl, sym, ap, subst, length, if◌then◌else◌, eq-eqb, ne_eqb}
use mathlib.Core.Logic.{dite}
use native.Mathlib.Decide.{ℕ_discrete}
use Rattle.std.specs.Prelude.{Result, is_some, slice_get}
use Rattle.std.proofs.lemmas.Bool.{cases_lt}
use Rattle.std.proofs.lemmas.Option.{slice_get_within}
use Rattle.draid_rack.specs.declared.Rack as racks
use Rattle.draid_area.specs.declared.Area as areas
use Rattle.draid_machine.specs.declared.names.ArmName.TheVariants.{Leaf}
use Rattle.draid_machine.specs.Names.{name_eq}
use Rattle.draid_machine.specs.State as machine
use Rattle.draid_machine.specs.Step.{Step, SwitchStep}
use Rattle.draid_machine.proofs.Small.{absurd_test}
use Rattle.draid_segments.specs.Segments.{Pieces}
use Rattle.draid_session.specs.Lanes.{SwitchesAgree}
use Rattle.draid_session.specs.Opening.{MayFind}
use Rattle.draid_session.specs.Holds.{Did}
use Rattle.draid_session.specs.State.{Metaslab, State}
use Rattle.draid_entries.specs.History.{reserved_of}
use Rattle.draid_shard.specs.Fits.{AreGroups}
use Rattle.draid_shard.specs.Part.{layout_in}
use Rattle.draid_shard.specs.declared.shard.Shard.{Shard}
use Rattle.draid_uber.specs.declared.uber.Uber.{Uber}
use Rattle.draid_pool.specs.Drifts.{groups_number}
use Rattle.draid_pool.specs.Importable.{IsAlike, Shared}
use Rattle.draid_pool.specs.Metaslabs.{IsMetaslab}
use Rattle.draid_pool.specs.Pools.{part_in}
use Rattle.draid_pool.specs.Records.{HasImage, LeavesAreBelow}
use Rattle.draid_pool.specs.Rounds.{EachIs}
use Rattle.draid_pool.proofs.Holding.{some_same}
use Rattle.draid_pool.proofs.Imaged.{alike_stays, image_kept, leaves_kept}
use Rattle.draid_pool.proofs.Lists.{present}
use Rattle.draid_pool.proofs.OneHold.{reserved_here, with_reserved}
use Rattle.draid_pool.proofs.ShardSteps.{acts_since}
use Rattle.draid_pool.proofs.Since.{nothing_more}
use Rattle.draid_entries.specs.declared.history.ReserveFault.{ReserveFault}
use Rattle.draid_changes.specs.Switching.{ReservesOne, SeesLeaf}
use Rattle.draid_changes.specs.Walks.{Switches, switch_event}
use Rattle.draid_changes.proofs.Switched.{changed_state, switch_did, switched_shared}
use Rattle.draid_lanes.specs.Governing.{lane_last}
use Rattle.draid_lanes.specs.declared.locked.Locked.{Locked}
use Rattle.draid_lanes.proofs.DriftGoverned.{KeepsGoverned}
use Rattle.draid_lanes.proofs.GovernedGroup.{GovernsFrom}
use Rattle.draid_lanes.proofs.GovernedHolds.{GoesTo, IsGood, Knowing, QuietAt, good_governed, held_knows, quiet_same, quiet_self}
use Rattle.draid_lanes.proofs.MeetWords.{Listed, list_of}
use Rattle.draid_lanes.proofs.OneTurn.{CameTo, came_is}
use Rattle.draid_lanes.proofs.RoundWords.{Each}
use Rattle.draid_lanes.proofs.Switches.{KeepsSwitches, switches_arms, switches_self}

-- ---- holds that leave a whole pool

module _ {R A : Type 0} (rack : racks.Ghosts R) (area : areas.Ghosts A) (x : State) where
  pub quiet_seen : (leaf : ℕ) (there : Bool) (m : ℕ) (before after : Shard R A) → SeesLeaf leaf there before after → QuietAt rack area x m before after
  quiet_seen leaf there m before after sees = quiet_same rack area x m before after sees.same

  pub quiet_reserves : (result : Result Unit ReserveFault) (m : ℕ) (before after : Shard R A) → ReservesOne rack before result after → QuietAt rack area x m before after
  quiet_reserves result m before after r pieces y is = record {
    reached = with_reserved y (reserved_of after.history);
    pieces = pieces;
    is = reserved_here rack area (part_in x m) pieces before after y is r.valid r.none r.kit r.limit;
    since = record { opened = refl; more = []; stored = nothing_more y.events; run = refl };
    so = quiet_self y.world;
  }

-- ---- a leaf is switched in a metaslab

-- who is offline, but for a leaf that went so
pub record SwitchesBut (leaf : ℕ) (offline : Bool) (old new : machine.State) : Type 0 where
  pub here : (a : machine.Arm) → new.core.arm (Leaf leaf) ≡ Some a → a.offline ≡ offline
  pub others : (n : ℕ) (a : machine.Arm) → (n ≡ leaf → ⊥) → new.core.arm (Leaf n) ≡ Some a → (b : machine.Arm) × (old.core.arm (Leaf n) ≡ Some b) × (b.offline ≡ a.offline)

step_is : (l : machine.Layout) (w v : machine.State) (leaf : ℕ) (offline : Bool) → Step l w (switch_event leaf offline) v → SwitchStep w leaf offline v
step_is l w v leaf true step = step
step_is l w v leaf false step = step

same_leaf : (n leaf : ℕ) → n ≡ leaf → name_eq (Leaf leaf) (Leaf n) ≡ true
same_leaf n leaf same = eq-eqb leaf n (sym same)

other_leaf : (n leaf : ℕ) → (n ≡ leaf → ⊥) → name_eq (Leaf leaf) (Leaf n) ≡ false
other_leaf n leaf not = ne_eqb leaf n (λ same. not (sym same))

step_switches : (w v : machine.State) (leaf : ℕ) (offline : Bool) → SwitchStep w leaf offline v → SwitchesBut leaf offline w v
step_switches w v leaf offline step = subst (SwitchesBut leaf offline w) (sym step.made) (record {
  here = λ a there.
      (let at : (if name_eq (Leaf leaf) (Leaf leaf) then Some (record step.a { offline = offline }) else w.core.arm (Leaf leaf)) ≡ Some a = there in
      let is : Some (record step.a { offline = offline }) ≡ Some a = sym (ap (λ b. if b then Some (record step.a { offline = offline }) else w.core.arm (Leaf leaf)) (same_leaf leaf leaf refl)) ∙ at in
      sym (ap (λ (c : machine.Arm). c.offline) (some_same (record step.a { offline = offline }) a is)));
  others = λ n a not there. (a, sym (ap (λ b. if b then Some (record step.a { offline = offline }) else w.core.arm (Leaf n)) (other_leaf n leaf not)) ∙ there, refl);
})

-- it has what all have in common then; its blocks, its group and its images are as they were
pub record IsSwitched (z : State) (shared : Shared) (leaf : ℕ) (offline : Bool) (m : ℕ) (y : Metaslab) : Type 0 where
  pub committed : y.world.committed ≡ z.committed
  pub alike : IsAlike (switched_shared shared leaf offline) y.world
  pub images : (group : ℕ) → MayFind z group → 0 < group → HasImage group y
  pub leaves : LeavesAreBelow z.kept_leaf z.next_leaf y.world
  pub first : Metaslab
  pub first_is : slice_get z.metaslabs m ≡ Some first
  pub switches : SwitchesBut leaf offline first.world y.world

-- and before, where no group is sealed
pub record IsUnswitched (z : State) (shared : Shared) (m : ℕ) (y : Metaslab) : Type 0 where
  pub good : IsGood z z shared m y
  pub unsealed : y.world.sealed ≡ None

-- so those before a number, and those behind it
pub record IsHalf (z : State) (shared : Shared) (leaf : ℕ) (offline : Bool) (n m : ℕ) (y : Metaslab) : Type 0 where
  pub before : m < n → IsSwitched z shared leaf offline m y
  pub behind : n ≤ m → IsUnswitched z shared m y

but_then : (leaf : ℕ) (offline : Bool) (u v w : machine.State) → SwitchesBut leaf offline u v → KeepsSwitches v w → SwitchesBut leaf offline u w
but_then leaf offline u v w but keeps = record {
  here = λ a there. (let b = keeps leaf a there in sym b.2 ∙ but.here b.0 b.1);
  others = λ n a not there. (let b = keeps n a there in let c = but.others n b.0 not b.1 in (c.0, c.1, c.2 ∙ b.2));
}

then_but : (leaf : ℕ) (offline : Bool) (u v w : machine.State) → KeepsSwitches u v → SwitchesBut leaf offline v w → SwitchesBut leaf offline u w
then_but leaf offline u v w keeps but = record {
  here = but.here;
  others = λ n a not there. (let b = but.others n a not there in let c = keeps n b.0 b.1 in (c.0, c.1, c.2 ∙ b.2));
}

half_steady : (z : State) (shared : Shared) (leaf : ℕ) (offline : Bool) (n m : ℕ) (y v : Metaslab) → KeepsGoverned y.world v.world → IsHalf z shared leaf offline n m y → IsHalf z shared leaf offline n m v
half_steady z shared leaf offline n m y v k h = record {
  before = λ less.
      (let s = h.before less in
      record {
        committed = k.committed ∙ s.committed;
        alike = alike_stays (switched_shared shared leaf offline) y.world v.world k.images s.alike;
        images = λ group may some. image_kept group y v k.images (s.images group may some);
        leaves = leaves_kept z.kept_leaf z.next_leaf y.world v.world k.images s.leaves;
        first = s.first;
        first_is = s.first_is;
        switches = but_then leaf offline s.first.world y.world v.world s.switches (switches_arms y.world v.world k.images.arms);
      });
  behind = λ from. (let d = h.behind from in record { good = good_governed z z shared m y v k d.good; unsealed = k.images.sealed ∙ d.unsealed });
}

module _ {R A : Type 0} (rack : racks.Ghosts R) (area : areas.Ghosts A) (x z : State) (shared : Shared) (leaf : ℕ) (offline : Bool) where
  switch_one : (n : ℕ) (before after : Shard R A) → Switches rack leaf offline before after → (pieces : Pieces) (y : Metaslab) → IsMetaslab rack area (part_in x n) pieces before y → IsHalf z shared leaf offline n n y → GoesTo rack area x n after y (IsHalf z shared leaf offline (suc n) n)
  switch_one n before after s pieces y is h =
      let d = switch_did rack area leaf offline before after s (part_in x n) pieces y is in
      let was = h.behind (omega arith) in
      let step = step_is (layout_in (part_in x n)) y.world d.reached.world leaf offline d.step in
      let c = changed_state z shared leaf offline y d.reached step was.unsealed was.good.alike in
      record {
        reached = d.reached;
        pieces = pieces;
        is = d.is;
        since = acts_since (layout_in (part_in x n)) (Did (switch_event leaf offline) d.reached.world) y d.reached d.acts;
        so = record {
          before = λ less. record {
            committed = c.committed ∙ was.good.committed;
            alike = c.alike;
            images = λ group may some. (let has = was.good.images group may some in record { image = has.image; is = c.images has.image has.is; of = has.of });
            leaves = c.leaves was.good.leaves;
            first = was.good.first;
            first_is = was.good.first_is;
            switches = then_but leaf offline was.good.first.world y.world d.reached.world was.good.switches (step_switches y.world d.reached.world leaf offline step);
          };
          behind = λ from. absurd (omega (arith, from));
        };
      }

module _ {R A G W : Type 0} (rack : racks.Ghosts R) (area : areas.Ghosts A) (x z : State) (owns : ℕ → Bool) (own : owns groups_number ≡ true) (shared : Shared) (leaf : ℕ) (offline : Bool) where
  pub switch_all : (n none : ℕ) (a b : Locked R A G W) → Each rack area x owns (λ k before after. Switches rack leaf offline before after) n a none b → Knowing rack area x a (IsHalf z shared leaf offline 0) → Knowing rack area x b (IsHalf z shared leaf offline n)
  switch_all zero none a b each knows = subst (λ s. Knowing rack area x s (IsHalf z shared leaf offline 0)) (sym each.0) knows
  switch_all (suc n) none a b (mid, some, more, each, once, adds) knows =
      held_knows rack area x owns own (λ before after. Switches rack leaf offline before after) mid n b once (IsHalf z shared leaf offline n) (IsHalf z shared leaf offline (suc n)) (λ k y v keeps h. half_steady z shared leaf offline n k y v keeps h)
      (switch_all n some a mid each knows) (switch_one rack area x z shared leaf offline n once.before once.after once.did)
      (λ k y not h. record { before = λ less. h.before (omega (arith, less, not)); behind = λ from. h.behind (omega (arith, from)) })

-- ---- all of it

none_sealed : (o : Option machine.Image) → is_some o ≡ false → o ≡ None
none_sealed None none = refl
none_sealed (Some image) none = absurd_test (is_some (Some image)) refl none

idle_unsealed : (open_group committed : ℕ) (closing : Option ℕ) (sealed : Bool) → AreGroups open_group closing committed sealed → closing ≡ None → sealed ≡ false
idle_unsealed open_group committed closing sealed are idle = (let a = subst (λ o. AreGroups open_group o committed sealed) idle are in a.1)

module _ {R A G W : Type 0} (rack : racks.Ghosts R) (area : areas.Ghosts A) (x z : State) (owns : ℕ → Bool) (own : owns groups_number ≡ true) (count : ℕ) (many : length z.metaslabs ≡ count) (leaf : ℕ) (offline : Bool) where
  -- as an event is reserved in each, and no group is closing
  half_none : (a : Locked R A G W) (shared : Shared) → EachIs count (λ (s : Shard R A). s.closing ≡ None) (lane_last a) → Knowing rack area x a (IsGood z z shared) → Knowing rack area x a (IsHalf z shared leaf offline 0)
  half_none a shared idle knows m shard at =
      let k = knows m shard at in
      let within = slice_get_within z.metaslabs m k.2.first k.2.first_is in
      let s = idle m (omega (arith, within, many)) in
      let is = came_is rack area x m shard k.0 k.1 in
      let closing : shard.closing ≡ None = subst (λ (t : Shard R A). t.closing ≡ None) (some_same s.0 shard (sym s.1 ∙ at)) s.2 in (
        k.0,
        k.1,
        record {
          before = λ less. absurd (omega (arith, less));
          behind = λ from. record { good = k.2; unsealed = none_sealed k.0.world.sealed (is.stands.is_in.sealed ∙ idle_unsealed shard.open_group shard.committed shard.closing shard.sealed is.valid.groups closing) };
        },
      )

  -- what one has come to
  record IsAllSwitched (b : Locked R A G W) (shared : Shared) (m : ℕ) (y : Metaslab) : Type 0 where
    pub shard : Shard R A
    pub at : lane_last b m ≡ Some shard
    pub came : CameTo rack area x m shard y
    pub so : IsSwitched z shared leaf offline m y

  all_of : (b : Locked R A G W) (shared : Shared) → Knowing rack area x b (IsHalf z shared leaf offline count) → (m : ℕ) (shard : Shard R A) → lane_last b m ≡ Some shard → (y : Metaslab) × CameTo rack area x m shard y × IsSwitched z shared leaf offline m y
  all_of b shared knows m shard at =
      let k = knows m shard at in (
        k.0,
        k.1,
        elim (cases_lt m count) [
          | inl less ↦ k.2.before less
          | inr from ↦ (let d = k.2.behind from in let within = slice_get_within z.metaslabs m d.good.first d.good.first_is in absurd (omega (arith, within, many, from)))
        ],
      )

  -- the state behind it, and a whole pool of which it is told
  pub record Switched (b : Locked R A G W) (v : Uber A) : Type 0 where
    pub base : State
    pub is : base ≡ record z { metaslabs = base.metaslabs }
    pub many_base : length base.metaslabs ≡ count
    pub agrees : SwitchesAgree z → SwitchesAgree base
    pub governs : GovernsFrom rack area x base b v base

  module _ (a b : Locked R A G W) (u : Uber A) (none : ℕ) (each : Each rack area x owns (λ k before after. Switches rack leaf offline before after) count a none b) (idle : EachIs count (λ (s : Shard R A). s.closing ≡ None) (lane_last a)) (g : GovernsFrom rack area x z a u z)
      (there : (m : ℕ) → m < count → (shard : Shard R A) × (lane_last b m ≡ Some shard)) where
    half : Knowing rack area x b (IsHalf z g.shared leaf offline count)
    half = switch_all rack area x z owns own g.shared leaf offline count none a b each (half_none a g.shared idle g.knows)

    listed : Listed count (IsAllSwitched b g.shared)
    listed = list_of count (IsAllSwitched b g.shared) (λ m less. (let s = there m less in let k = all_of b g.shared half m s.0 s.1 in (k.0, record { shard = s.0; at = s.1; came = k.1; so = k.2 })))

    state_then : State
    state_then = record z { metaslabs = listed.list }

    agrees_then : SwitchesAgree z → SwitchesAgree state_then
    unfolding state_then
    agrees_then was l m n y v p q at here arm other = dite (ℕ_discrete l leaf)
        (λ same. (let one = (listed.each m y at).so.switches in let two = (listed.each n v here).so.switches in one.here p (ap (λ k. y.world.core.arm (Leaf k)) (sym same) ∙ arm) ∙ sym (two.here q (ap (λ k. v.world.core.arm (Leaf k)) (sym same) ∙ other))))
        (λ not.
        let one = (listed.each m y at).so in
        let two = (listed.each n v here).so in
        let c = one.switches.others l p not arm in
        let d = two.switches.others l q not other in
        sym c.2 ∙ (was l m n one.first two.first c.0 d.0 one.first_is two.first_is c.1 d.1 ∙ d.2))

    governs_then : GovernsFrom rack area x state_then b u state_then
    unfolding state_then
    governs_then = record {
      rest = record { geometry = refl; perms = refl; metaslabs = refl; store = refl; told = refl };
      shared = switched_shared g.shared leaf offline;
      knows = λ m shard at.
          (let k = all_of b g.shared half m shard at in
          let within = slice_get_within z.metaslabs m k.2.first k.2.first_is in
          let long = listed.many in
          let y = present listed.list m (omega (arith, within, many, long)) in
          let c = listed.each m y.0 y.1 in
          let same : c.shard ≡ shard = some_same c.shard shard (sym c.at ∙ at) in (
            y.0,
            subst (λ s. CameTo rack area x m s y.0) same c.came,
            record { committed = c.so.committed; alike = c.so.alike; images = c.so.images; leaves = c.so.leaves; first = y.0; first_is = y.1; switches = switches_self y.0.world },
          ));
      uber = record {
        valid = g.uber.valid;
        layout = g.uber.layout;
        version = g.uber.version;
        kept = g.uber.kept;
        next_leaf = g.uber.next_leaf;
        point = g.uber.point;
        late = g.uber.late;
        count = g.uber.count;
        stands = record { pending = g.uber.stands.pending; are = g.uber.stands.are; stands = g.uber.stands.stands };
      };
      versions = record { kept = g.versions.kept; now = g.versions.now };
      order = g.order;
    }

    pub switched : Switched b u
    unfolding state_then
    switched = record { base = state_then; is = refl; many_base = listed.many; agrees = agrees_then; governs = governs_then }
