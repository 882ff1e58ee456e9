-- A group that a governor commits, or that is stopped, whatever state of the whole pool stood.
use Rattle.std.proofs.Common.{◌≡◌, ◌==◌, ◌<◌, ◌≤◌, ◌+◌, ◌∙◌, ◌∷◌, [], inl, inr, ℕ, zero, suc, Bool, true, false, List, Option, Some, None, Ok, Err, arith, refl, sym, ap, subst, if◌then◌else◌}
use Rattle.std.specs.Prelude.{length, slice_get, is_some}
use Rattle.std.proofs.lemmas.Bool.{cases_lt}
use Rattle.std.proofs.lemmas.Option.{slice_get_within}
use Rattle.draid_names.specs.Faults.{Rose}
use Rattle.draid_rack.specs.declared.Rack as racks
use Rattle.draid_area.specs.declared.Area as areas
use Rattle.draid_spec.specs.declared.layout.Geometry.{Geometry}
use Rattle.draid_machine.specs.State as machine
use Rattle.draid_machine.proofs.Small.{absurd_test, bool_cases, is_equal, none_some, some_injective}
use Rattle.draid_segments.specs.Segments.{Pieces}
use Rattle.draid_session.specs.Follows.{Follows}
use Rattle.draid_session.specs.Holds.{Hold, view_of}
use Rattle.draid_session.specs.Lanes.{SwitchesAgree}
use Rattle.draid_session.specs.State.{Metaslab, State}
use Rattle.draid_shard.specs.Part.{layout_in}
use Rattle.draid_shard.specs.declared.shard.Shard.{Shard}
use Rattle.draid_uber.specs.Slots.{group_of}
use Rattle.draid_uber.specs.Uber as ubers
use Rattle.draid_uber.specs.declared.uber.Uber.{Uber}
use Rattle.draid_pool.specs.Drifts.{groups_number}
use Rattle.draid_pool.specs.Grouping.{CommitsNext, UberNames}
use Rattle.draid_pool.specs.Importable.{HasPoolVersions, IsAlike, Shared, keep_shared}
use Rattle.draid_pool.specs.Metaslabs.{IsMetaslab}
use Rattle.draid_pool.specs.Pools.{part_in}
use Rattle.draid_pool.specs.Records.{HasImage, LeavesAreBelow}
use Rattle.draid_pool.specs.Rounds.{EachIs}
use Rattle.draid_pool.specs.Syncing.{Commits}
use Rattle.draid_pool.specs.Ubers.{IsUber, Refuses, body_of}
use Rattle.draid_pool.specs.declared.fault.SyncFault.{SyncFault}
use Rattle.draid_pool.specs.declared.fault.SyncFault.TheVariants as sync
use Rattle.draid_pool.proofs.Imaged.{alike_stays, leaves_kept}
use Rattle.draid_pool.proofs.Holding.{some_same}
use Rattle.draid_pool.proofs.Naming.{named_state, refused_state, uber_named, uber_refused}
use Rattle.draid_pool.proofs.ShardSteps.{acts_since}
use Rattle.draid_pool.proofs.Turns.{commit_turns, state_sound}
use Rattle.draid_lanes.specs.Governing.{lane_last}
use Rattle.draid_lanes.specs.declared.locked.Locked.{Locked}
use Rattle.draid_lanes.proofs.DriftGoverned.{KeepsGoverned}
use Rattle.draid_lanes.proofs.GovernedHolds.{GoesTo, IsGood, Knowing, good_governed, held_knows}
use Rattle.draid_lanes.proofs.GroupWords.{name_hold, uber_view}
use Rattle.draid_lanes.proofs.OneTurn.{CameTo, came_is}
use Rattle.draid_lanes.proofs.RoundWords.{Each}
use Rattle.draid_lanes.proofs.Switches.{KeepsSwitches, commit_switches, switches_arms, switches_then}

-- ---- the uberblock

kept_group : (n version next_leaf : ℕ) (geometry : Geometry) → group_of (if n == 0 then None else Some (body_of geometry version n next_leaf)) ≡ n
kept_group n version next_leaf geometry = elim (bool_cases (n == 0)) [
  | inl none ↦ ap (λ b. group_of (if b then None else Some (body_of geometry version n next_leaf))) none ∙ sym (is_equal n 0 none)
  | inr other ↦ ap (λ b. group_of (if b then None else Some (body_of geometry version n next_leaf))) other
]

pub uber_group : {A : Type 0} (area : areas.Ghosts A) (u : Uber A) (w : State) → IsUber area u w → group_of (ubers.kept_of u) ≡ w.committed
uber_group area u w is = ap group_of is.kept ∙ kept_group w.committed w.kept_version w.kept_leaf w.geometry

-- what a hold of it sees
pub uber_sees : {A : Type 0} (area : areas.Ghosts A) (u : Uber A) (w : State) → IsUber area u w → uber_view u ≡ record { committed = w.committed; next_leaf = w.next_leaf }
uber_sees area u w is = λ i. record { committed = uber_group area u w is i; next_leaf = is.next_leaf i }

-- what no hold of it changes
pub record SameRest (z w : State) : Type 0 where
  pub geometry : w.geometry ≡ z.geometry
  pub perms : w.perms ≡ z.perms
  pub metaslabs : w.metaslabs ≡ z.metaslabs
  pub store : w.store ≡ z.store
  pub told : w.told ≡ z.told

pub same_self : (z : State) → SameRest z z
same_self z = record { geometry = refl; perms = refl; metaslabs = refl; store = refl; told = refl }

pub same_rest : (z w v : State) → SameRest z w → SameRest w v → SameRest z v
same_rest z w v a b = record { geometry = b.geometry ∙ a.geometry; perms = b.perms ∙ a.perms; metaslabs = b.metaslabs ∙ a.metaslabs; store = b.store ∙ a.store; told = b.told ∙ a.told }

some_sealed : (o : Option machine.Image) → is_some o ≡ true → (image : machine.Image) × (o ≡ Some image)
some_sealed None some = absurd_test false some refl
some_sealed (Some image) some = (image, refl)

-- ---- one metaslab commits

-- what is so of those that haven't committed it yet
pub record IsDue (z w : State) (shared : Shared) (m : ℕ) (y : Metaslab) : Type 0 where
  pub alike : IsAlike shared y.world
  pub leaves : LeavesAreBelow w.kept_leaf w.next_leaf y.world
  pub first : Metaslab
  pub first_is : slice_get z.metaslabs m ≡ Some first
  pub switches : KeepsSwitches first.world y.world

-- those before a number have committed it
pub record IsPartly (z w : State) (shared : Shared) (n m : ℕ) (y : Metaslab) : Type 0 where
  pub before : m < n → IsGood z w (keep_shared shared) m y
  pub behind : n ≤ m → IsDue z w shared m y

due_steady : (z w : State) (shared : Shared) (m : ℕ) (y v : Metaslab) → KeepsGoverned y.world v.world → IsDue z w shared m y → IsDue z w shared m v
due_steady z w shared m y v k d = record {
  alike = alike_stays shared y.world v.world k.images d.alike;
  leaves = leaves_kept w.kept_leaf w.next_leaf y.world v.world k.images d.leaves;
  first = d.first;
  first_is = d.first_is;
  switches = switches_then d.first.world y.world v.world d.switches (switches_arms y.world v.world k.images.arms);
}

partly_steady : (z w : State) (shared : Shared) (n m : ℕ) (y v : Metaslab) → KeepsGoverned y.world v.world → IsPartly z w shared n m y → IsPartly z w shared n m v
partly_steady z w shared n m y v k p = record {
  before = λ less. good_governed z w (keep_shared shared) m y v k (p.before less);
  behind = λ from. due_steady z w shared m y v k (p.behind from);
}

-- those that have still to commit it
due_of : (group : ℕ) (z w : State) (n : ℕ) (shared : Shared) (m : ℕ) (y : Metaslab) → w.kept_leaf ≤ w.next_leaf → IsGood z w shared m y → IsPartly z (named_state w group n) shared 0 m y
due_of group z w n shared m y order good = record {
  before = λ less. absurd (omega (arith, less));
  behind = λ from. record {
    alike = good.alike;
    leaves = record { kept = λ leaf some. (let low = good.leaves.kept leaf some in omega (arith, low, order)); sealed = good.leaves.sealed; now = good.leaves.now };
    first = good.first;
    first_is = good.first_is;
    switches = good.switches;
  };
}

module _ {R A : Type 0} (rack : racks.Ghosts R) (area : areas.Ghosts A) (x z : State) (group : ℕ) where
  commit_one : (w : State) (shared : Shared) (n : ℕ) → w.committed ≡ group → w.pending ≡ false → w.kept_leaf ≡ w.next_leaf → (before after : Shard R A) → Commits rack group before after → (pieces : Pieces) (y : Metaslab) → IsMetaslab rack area (part_in x n) pieces before y → IsPartly z w shared n n y
      → GoesTo rack area x n after y (IsPartly z w shared (suc n) n)
  commit_one w shared n committed idle one_leaf before after c pieces y is p =
      let t = commit_turns rack area (part_in x n) pieces before after group y is c in
      let d = p.behind (omega arith) in
      let done = t.done.1 in
      record {
        reached = t.reached;
        pieces = pieces;
        is = t.is;
        since = acts_since (layout_in (part_in x n)) t.act y t.reached t.acts;
        so = record {
          before = λ less. record {
            committed = done.committed ∙ sym committed;
            alike = done.alike shared d.alike;
            images = λ g may some. elim may [
              | inl here ↦ record { image = t.reached.world.image; is = inl refl; of = done.of ∙ (sym committed ∙ sym here) }
              | inr here ↦ absurd_test w.pending here.0 idle
            ];
            leaves = record {
              kept = λ leaf some. (let low = d.leaves.sealed t.reached.world.image done.sealed leaf some in omega (arith, low, one_leaf));
              sealed = λ image there. absurd (none_some t.reached.world.sealed image done.none there);
              now = λ leaf some. d.leaves.now leaf (done.leaves leaf some);
            };
            first = d.first;
            first_is = d.first_is;
            switches = switches_then d.first.world y.world t.reached.world d.switches (commit_switches x.geometry x.perms group n (layout_in (part_in x n)) (view_of n y) y t.reached t.act t.acts t.done.0);
          };
          behind = λ from. absurd (omega (arith, from));
        };
      }

-- ---- a whole pool under its governor

module _ {R A G W : Type 0} (rack : racks.Ghosts R) (area : areas.Ghosts A) (x z : State) where
  -- Each metaslab of the state in which the turn began came to what the lane left; of the uberblock the state has what is the value now.
  pub record GovernsFrom (a : Locked R A G W) (u : Uber A) (w : State) : Type 0 where
    pub rest : SameRest z w
    pub shared : Shared
    pub knows : Knowing rack area x a (IsGood z w shared)
    pub uber : IsUber area u w
    pub versions : HasPoolVersions w.kept_version w.next_version shared
    pub order : w.kept_leaf ≤ w.next_leaf

module _ {R A G W : Type 0} (rack : racks.Ghosts R) (area : areas.Ghosts A) (x z : State) where
  abbrev pub Governs : Locked R A G W → Uber A → State → Type 0
  Governs a u w = GovernsFrom rack area x z a u w

  -- Holds of the uberblock led there.
  pub record LeadsUber (w : State) (us : List Hold) (b : Locked R A G W) (v : Uber A) : Type 0 where
    pub reached : State
    pub follows : Follows us w reached
    pub governs : Governs b v reached

  -- Holds of the uberblock led there, and to metaslabs of which is told from a state between.
  pub record LeadsBase (us : List Hold) (b : Locked R A G W) (v : Uber A) : Type 0 where
    pub reached : State
    pub follows : Follows us z reached
    pub rest : SameRest z reached
    pub base : State
    pub many : length base.metaslabs ≡ length z.metaslabs
    pub agrees : SwitchesAgree z → SwitchesAgree base
    pub governs : GovernsFrom rack area x base b v (record reached { metaslabs = base.metaslabs })

  pub leads_self : (w : State) (b : Locked R A G W) (v : Uber A) → Governs b v w → LeadsUber w [] b v
  leads_self w b v g = record { reached = w; follows = refl; governs = g }

  -- where none stands between
  pub leads_base : (us : List Hold) (b : Locked R A G W) (v : Uber A) → LeadsUber z us b v → LeadsBase us b v
  leads_base us b v l = record {
    reached = l.reached;
    follows = l.follows;
    rest = l.governs.rest;
    base = z;
    many = refl;
    agrees = λ was. was;
    governs = subst (λ w. GovernsFrom rack area x z b v w) (λ i. record l.reached { metaslabs = l.governs.rest.metaslabs i }) l.governs;
  }

  pub governs_on : (a b : Locked R A G W) (u v : Uber A) (w : State) → v ≡ u → ((shared : Shared) → Knowing rack area x a (IsGood z w shared) → Knowing rack area x b (IsGood z w shared)) → Governs a u w → Governs b v w
  governs_on a b u v w same on g = record { rest = g.rest; shared = g.shared; knows = on g.shared g.knows; uber = subst (λ t. IsUber area t w) (sym same) g.uber; versions = g.versions; order = g.order }

  module _ (owns : ℕ → Bool) (own : owns groups_number ≡ true) (count : ℕ) (group : ℕ) where
    -- ---- it is committed in one after another

    pub commit_all : (w : State) (shared : Shared) → w.committed ≡ group → w.pending ≡ false → w.kept_leaf ≡ w.next_leaf → (n none : ℕ) (a b : Locked R A G W) → Each rack area x owns (λ k before after. Commits rack group before after) n a none b
        → Knowing rack area x a (IsPartly z w shared 0) → Knowing rack area x b (IsPartly z w shared n)
    commit_all w shared committed idle one_leaf zero none a b each knows = subst (λ s. Knowing rack area x s (IsPartly z w shared 0)) (sym each.0) knows
    commit_all w shared committed idle one_leaf (suc n) none a b (mid, some, more, each, once, adds) knows =
        held_knows rack area x owns own (λ before after. Commits rack group before after) mid n b once (IsPartly z w shared n) (IsPartly z w shared (suc n)) (λ k y v keeps p. partly_steady z w shared n k y v keeps p)
        (commit_all w shared committed idle one_leaf n some a mid each knows) (commit_one rack area x z group w shared n committed idle one_leaf once.before once.after once.did)
        (λ k y not p. record { before = λ less. p.before (omega (arith, less, not)); behind = λ from. p.behind (omega (arith, from)) })

  -- ---- the uberblock names it, or is refused it

  module _ (owns : ℕ → Bool) (own : owns groups_number ≡ true) (count : ℕ) (many : length z.metaslabs ≡ count) (group : ℕ) where
    all_of : (w : State) (shared : Shared) (b : Locked R A G W) → Knowing rack area x b (IsPartly z w shared count) → Knowing rack area x b (IsGood z w (keep_shared shared))
    all_of w shared b knows m shard at =
        let k = knows m shard at in (
          k.0,
          k.1,
          elim (cases_lt m count) [
            | inl less ↦ k.2.before less
            | inr from ↦ (let d = k.2.behind from in let within = slice_get_within z.metaslabs m d.first d.first_is in absurd (omega (arith, within, many, from)))
          ],
        )

    pub named_governs : (late b : Locked R A G W) (none : ℕ) (u v : Uber A) (w : State) → group ≡ group_of (ubers.kept_of u) + 1 → UberNames area group u (Ok tt) v → Each rack area x owns (λ k before after. Commits rack group before after) count late none b → Governs late u w
        → LeadsUber w (name_hold u group (Ok tt) ∷ []) b v
    named_governs late b none u v w next names commits g =
        let n = ubers.count_of area.faults v in
        let after = named_state w group n in
        let behind : group ≡ w.committed + 1 = next ∙ ap (λ k. k + 1) (uber_group area u w g.uber) in
        record {
          reached = after;
          follows = (after, record { sees = uber_sees area u w g.uber; acts = (n, (let is = g.uber.count in let later = names.1 in omega (arith, is, later)), refl) }, refl);
          governs = record {
            rest = record { geometry = g.rest.geometry; perms = g.rest.perms; metaslabs = g.rest.metaslabs; store = g.rest.store; told = g.rest.told };
            shared = keep_shared g.shared;
            knows = all_of after g.shared b (commit_all owns own count group after g.shared refl refl refl count none late b commits (λ m shard at. (let k = g.knows m shard at in (k.0, k.1, due_of group z w n g.shared m k.0 g.order k.2))));
            uber = uber_named area u v group w g.uber names.0 (omega (arith, behind));
            versions = record { kept = g.versions.now; now = g.versions.now };
            order = omega arith;
          };
        }

    -- each metaslab has an image of the sealed group
    sealed_image : (b : Locked R A G W) (m : ℕ) (shard : Shard R A) (y : Metaslab) → CameTo rack area x m shard y → CommitsNext rack group shard → HasImage group y
    sealed_image b m shard y came next =
        let is = came_is rack area x m shard y came in
        let image = some_sealed y.world.sealed (is.stands.is_in.sealed ∙ next.sealed) in
        let sound = state_sound rack area (part_in x m) came.came.pieces shard y is in
        record {
          image = image.0;
          is = inr image.1;
          of = some_injective image.0.group group (sym (sound.groups.sealed_is image.0 image.1) ∙ (is.stands.is_in.closing ∙ next.closing));
        }

    refused_knows : (b : Locked R A G W) (w : State) (n : ℕ) (shared : Shared) → group ≡ w.committed + 1 → EachIs count (CommitsNext rack group) (lane_last b) → Knowing rack area x b (IsGood z w shared) → Knowing rack area x b (IsGood z (refused_state w n) shared)
    refused_knows b w n shared behind sealed knows m shard at =
        let k = knows m shard at in
        let good = k.2 in
        let within = slice_get_within z.metaslabs m good.first good.first_is in
        let c = sealed m (omega (arith, within, many)) in
        let next = subst (CommitsNext rack group) (some_same c.0 shard (sym c.1 ∙ at)) c.2 in (
          k.0,
          k.1,
          record {
            committed = good.committed;
            alike = good.alike;
            images = λ g may some. elim may [
              | inl is ↦ good.images g (inl is) some
              | inr is ↦ subst (λ j. HasImage j k.0) (behind ∙ sym is.1) (sealed_image b m shard k.0 k.1 next)
            ];
            leaves = good.leaves;
            first = good.first;
            first_is = good.first_is;
            switches = good.switches;
          },
        )

    refused_governs : (b : Locked R A G W) (u v : Uber A) (w : State) → group ≡ w.committed + 1 → Refuses area u v group → EachIs count (CommitsNext rack group) (lane_last b) → Governs b u w → Governs b v (refused_state w (ubers.count_of area.faults v))
    refused_governs b u v w behind refuses sealed g = record {
      rest = record { geometry = g.rest.geometry; perms = g.rest.perms; metaslabs = g.rest.metaslabs; store = g.rest.store; told = g.rest.told };
      shared = g.shared;
      knows = refused_knows b w (ubers.count_of area.faults v) g.shared behind sealed g.knows;
      uber = uber_refused area u v group w g.uber refuses behind;
      versions = g.versions;
      order = g.order;
    }

    pub not_named_governs : (b : Locked R A G W) (u v : Uber A) (why : SyncFault) (w : State) → group ≡ group_of (ubers.kept_of u) + 1 → UberNames area group u (Err why) v → EachIs count (CommitsNext rack group) (lane_last b) → Governs b u w
        → LeadsUber w (name_hold u group (Err why) ∷ []) b v
    not_named_governs b u v sync.Shelf w next names sealed g =
        let n = ubers.count_of area.faults v in
        record {
          reached = refused_state w n;
          follows = (refused_state w n, record { sees = uber_sees area u w g.uber; acts = (n, subst (λ k. Rose k n) (sym g.uber.count) names.2, refl) }, refl);
          governs = refused_governs b u v w (next ∙ ap (λ k. k + 1) (uber_group area u w g.uber)) names.0 sealed g;
        }
    not_named_governs b u v sync.NoMemory w next names sealed g =
        let n = ubers.count_of area.faults v in
        record {
          reached = refused_state w n;
          follows = (refused_state w n, record { sees = uber_sees area u w g.uber; acts = (n, (let is = g.uber.count in let later = names.1 in omega (arith, is, later)), refl) }, refl);
          governs = refused_governs b u v w (next ∙ ap (λ k. k + 1) (uber_group area u w g.uber)) names.0 sealed g;
        }
    not_named_governs b u v sync.Worn w next names sealed g = absurd names
    not_named_governs b u v sync.Last w next names sealed g = absurd names
