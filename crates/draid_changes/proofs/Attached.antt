-- One metaslab of a pool as an arm comes to a slot there.
use Rattle.std.proofs.Common.{◌≡◌, ◌<◌, ◌+◌, ◌∙◌, ◌++◌, ◌==◌, ◌⊎◌, inl, inr, [], ◌∷◌, ℕ, Bool, true, false, Option, Some, None, IsSome, arith, refl, sym, ap, subst, if◌then◌else◌}
use Rattle.std.specs.Prelude.{option_map}
use Rattle.draid_names.specs.declared.arm.ArmKind.{ArmKind}
use Rattle.draid_names.specs.declared.pass_kind.PassKind.{PassKind}
use Rattle.draid_names.specs.declared.pass_kind.PassKind.TheVariants.{Rebuild, Heal}
use Rattle.draid_machine.specs.declared.names.ArmName.{ArmName}
use Rattle.draid_machine.specs.declared.names.ArmName.TheVariants.{Leaf}
use Rattle.draid_machine.specs.After.{attach_state, attached_core, fill_if, map_arm, rearranged_state, renew_if, replan, replan_kind, seal_arm, set_order}
use Rattle.draid_machine.specs.Arms.{has_moved}
use Rattle.draid_machine.specs.Images.{IsImage}
use Rattle.draid_machine.specs.Names.{name_eq, named, up_to}
use Rattle.draid_machine.specs.State as machine
use Rattle.draid_machine.specs.Step.{AttachStep}
use Rattle.draid_machine.proofs.Small.{name_true, none_some}
use Rattle.draid_rack.specs.declared.Rack as racks
use Rattle.draid_area.specs.declared.Area as areas
use Rattle.draid_machine.specs.declared.event.Event.TheVariants.{Attach}
use Rattle.draid_segments.specs.Segments.{Pieces}
use Rattle.draid_entries.specs.History.{reserved_of}
use Rattle.draid_shard.specs.Calls.{SameKit}
use Rattle.draid_shard.specs.Part.{Part, layout_in}
use Rattle.draid_shard.specs.declared.shard.Shard.{Shard}
use Rattle.draid_session.specs.Arms as arms
use Rattle.draid_session.specs.Follows.{CountsRise, replans}
use Rattle.draid_session.specs.Holds.{Did, On, view_of}
use Rattle.draid_session.specs.State.{Metaslab, State}
use Rattle.draid_pool.specs.Importable.{IsAlike, SameArms, Shared, bare}
use Rattle.draid_pool.specs.Metaslabs.{IsMetaslab, counts_of}
use Rattle.draid_pool.specs.Syncing.{Turns}
use Rattle.draid_pool.proofs.Dids.{Done, did_with, records_same}
use Rattle.draid_changes.specs.Attaching.{Attaches}
use Rattle.draid_changes.proofs.Reserved.{same_events}
use Rattle.draid_changes.proofs.Walk.{IsChanged}

-- an arm as it comes, without what passes make good
abbrev pub coming : machine.Arm
coming = record { offline = false; fresh = false; log = λ group. false; gone = None }

-- what all metaslabs have in common then
abbrev pub attached_shared : Shared → ℕ → ArmName → Shared
attached_shared shared slot n =
    record shared {
      arms = record shared.arms {
        arm = λ m. if name_eq n m then Some coming else shared.arms.arm m;
        order = set_order shared.arms.order slot (shared.arms.order slot ++ n ∷ []);
      };
    }

-- ---- what is planned again leaves arms as they are, but for their logs

pub bare_renewed : (b : Bool) (last : ℕ) (o : Option machine.Arm) → option_map bare (seal_arm (map_arm (renew_if b last) o)) ≡ option_map bare (seal_arm o)
bare_renewed b last None = refl
bare_renewed b last (Some a) = by a.gone
  where
    by : (gone : Option machine.Gone) → option_map bare (seal_arm (Some (renew_if b last (record a { gone = gone })))) ≡ option_map bare (seal_arm (Some (record a { gone = gone })))
    by None = refl
    by (Some gone) = refl

bare_filled : (b : Bool) (last : ℕ) (o : Option machine.Arm) → option_map bare (seal_arm (map_arm (fill_if b last) o)) ≡ option_map bare (seal_arm o)
bare_filled b last None = refl
bare_filled b last (Some a) = by a.gone
  where
    by : (gone : Option machine.Gone) → option_map bare (seal_arm (Some (fill_if b last (record a { gone = gone })))) ≡ option_map bare (seal_arm (Some (record a { gone = gone })))
    by None = refl
    by (Some gone) = refl

-- what a pass that is planned again leaves as it is
record Replanned (s new : machine.State) : Type 0 where
  held : new.core.held ≡ s.core.held
  order : new.core.order ≡ s.core.order
  committed : new.committed ≡ s.committed
  image : new.image ≡ s.image
  sealed : new.sealed ≡ s.sealed
  asked : new.asked ≡ s.asked
  open_group_is : new.open_group ≡ s.open_group
  arms : (n : ArmName) → option_map bare (seal_arm (new.core.arm n)) ≡ option_map bare (seal_arm (s.core.arm n))
  there : (n : ArmName) → IsSome (new.core.arm n) → IsSome (s.core.arm n)

pub was_there : (f : machine.Arm → machine.Arm) (o : Option machine.Arm) → IsSome (map_arm f o) → IsSome o
was_there f None is = is
was_there f (Some a) is = refl

replanned : (l : machine.Layout) (s : machine.State) (test : ArmName → Bool) (o : Option machine.Pass) → Replanned s (replan l s test o)
replanned l s test None = record { held = refl; order = refl; committed = refl; image = refl; sealed = refl; asked = refl; open_group_is = refl; arms = λ n. refl; there = λ n some. some }
replanned l s test (Some p) = by p.kind
  where
    by : (k : PassKind) → Replanned s (replan_kind l s test p k)
    by Rebuild = record {
      held = refl;
      order = refl;
      committed = refl;
      image = refl;
      sealed = refl;
      asked = refl;
      open_group_is = refl;
      arms = λ n. bare_filled _ (s.open_group + 1) (s.core.arm n);
      there = λ n some. was_there _ (s.core.arm n) some;
    }
    by Heal = record { held = refl; order = refl; committed = refl; image = refl; sealed = refl; asked = refl; open_group_is = refl; arms = λ n. refl; there = λ n some. some }

-- ---- the arm that comes

-- what an attachment leaves, by what the arms and the order are behind it
record Arranged (w : machine.State) (slot : ℕ) (n : ArmName) (new : machine.State) : Type 0 where
  held : new.core.held ≡ w.core.held
  order : (other : ℕ) → new.core.order other ≡ set_order w.core.order slot (w.core.order slot ++ n ∷ []) other
  committed : new.committed ≡ w.committed
  image : new.image ≡ w.image
  sealed : new.sealed ≡ w.sealed
  asked : new.asked ≡ w.asked
  open_group_is : new.open_group ≡ w.open_group
  arms : (m : ArmName) → option_map bare (seal_arm (new.core.arm m)) ≡ (if name_eq n m then Some coming else option_map bare (seal_arm (w.core.arm m)))
  there : (m : ArmName) → IsSome (new.core.arm m) → (n ≡ m) ⊎ IsSome (w.core.arm m)

abbrev newly : ℕ → machine.Arm
newly last = record { offline = false; fresh = true; log = up_to last; gone = None }

arranged : (l : machine.Layout) (w : machine.State) (slot : ℕ) (n : ArmName) (last : ℕ) → Arranged w slot n (attach_state l w slot n last)
arranged l w slot n last =
    let q = attached_core w.core slot n last in
    let r = replanned l (rearranged_state l w last q) (has_moved l w.core q) w.core.pass in
    record {
      held = r.held;
      order = λ other. ap (λ order. order other) r.order;
      committed = r.committed;
      image = r.image;
      sealed = r.sealed;
      asked = r.asked;
      open_group_is = r.open_group_is;
      arms = λ m. r.arms m ∙ (bare_renewed (has_moved l w.core q m) last (q.arm m) ∙ here m (name_eq n m));
      there = λ m some. came m (name_eq n m) refl (was_there (renew_if (has_moved l w.core q m) last) (q.arm m) (r.there m some));
    }
  where
    here : (m : ArmName) (b : Bool) → option_map bare (seal_arm (if b then Some (newly last) else w.core.arm m)) ≡ (if b then Some coming else option_map bare (seal_arm (w.core.arm m)))
    here m true = refl
    here m false = refl

    came : (m : ArmName) (b : Bool) → name_eq n m ≡ b → IsSome (if b then Some (newly last) else w.core.arm m) → (n ≡ m) ⊎ IsSome (w.core.arm m)
    came m true same some = inl (name_true n m same)
    came m false other some = inr some

bare_if : (b : Bool) (o : Option machine.Arm) → option_map bare (if b then Some coming else o) ≡ (if b then Some coming else option_map bare o)
bare_if true o = refl
bare_if false o = refl

-- where no group is sealed, the committed image has the arms that it had, and the others are those of now
alike_attached : (shared : Shared) (l : machine.Layout) (w v : machine.State) (slot : ℕ) (n : ArmName) → AttachStep l w slot n v → w.sealed ≡ None → IsAlike shared w → IsAlike (attached_shared shared slot n) v
alike_attached shared l w v slot n step unsealed is =
    let r : Arranged w slot n v = subst (Arranged w slot n) (sym step.made) (arranged l w slot n step.last) in
    record {
      versions = record {
        asked = r.asked ∙ is.versions.asked;
        kept = ap (λ (image : machine.Image). image.version) r.image ∙ is.versions.kept;
        sealed = λ image of. absurd (none_some w.sealed image unsealed (sym r.sealed ∙ of));
      };
      same = record {
        order = λ other. r.order other ∙ orders other (slot == other);
        now = λ m. r.arms m ∙ arms m (name_eq n m);
        kept = subst (λ (image : machine.Image). SameArms image.core shared.kept_arms) (sym r.image) is.same.kept;
        sealed = λ image of. absurd (none_some w.sealed image unsealed (sym r.sealed ∙ of));
      };
    }
  where
    orders : (other : ℕ) (b : Bool) → (if b then w.core.order slot ++ n ∷ [] else w.core.order other) ≡ (if b then shared.arms.order slot ++ n ∷ [] else shared.arms.order other)
    orders other true = ap (λ ns. ns ++ n ∷ []) (is.same.order slot)
    orders other false = is.same.order other

    arms : (m : ArmName) (b : Bool) → (if b then Some coming else option_map bare (seal_arm (w.core.arm m))) ≡ option_map bare (if b then Some coming else shared.arms.arm m)
    arms m true = refl
    arms m false = is.same.now m

pub changed_state : (x : State) (shared : Shared) (l : machine.Layout) (slot : ℕ) (n : ArmName) (y v : Metaslab) → AttachStep l y.world slot n v.world → y.world.sealed ≡ None → IsAlike shared y.world
    → ((leaf : ℕ) → n ≡ Leaf leaf → leaf < x.next_leaf) → IsChanged x (attached_shared shared slot n) y v
changed_state x shared l slot n y v step unsealed is low =
    let r : Arranged y.world slot n v.world = subst (Arranged y.world slot n) (sym step.made) (arranged l y.world slot n step.last) in
    record {
      held = r.held;
      committed = r.committed;
      images = λ image own. elim own [
        | inl of ↦ inl (r.image ∙ of)
        | inr of ↦ inr (r.sealed ∙ of)
      ];
      leaves = λ below. record {
        kept = λ leaf some. below.kept leaf (subst (λ (image : machine.Image). IsSome (image.core.arm (Leaf leaf))) r.image some);
        sealed = λ image own. below.sealed image (sym r.sealed ∙ own);
        now = λ other some. elim (r.there (Leaf other) some) [
          | inl same ↦ low other same
          | inr was ↦ below.now other was
        ];
      };
      alike = alike_attached shared l y.world v.world slot n step unsealed is;
      opens = (let same = r.open_group_is in omega (arith, same));
    }

-- ---- the metaslab

happens : (part : Part) (slot : ℕ) (n : ArmName) (x : Metaslab) (w : machine.State) → arms.Happens part.geometry part.perms (Attach slot n) part.number (On (view_of part.number x) (Did (Attach slot n) w))
happens part slot n x w = (refl, refl)

-- an image that stands behind it stood before it
image_was : (l : machine.Layout) (w v : machine.State) (slot : ℕ) (n : ArmName) (image : machine.Image) → AttachStep l w slot n v → IsImage v image → IsImage w image
image_was l w v slot n image step own =
    let r : Arranged w slot n v = subst (Arranged w slot n) (sym step.made) (arranged l w slot n step.last) in
    elim own [
      | inl of ↦ inl (sym r.image ∙ of)
      | inr of ↦ inr (sym r.sealed ∙ of)
    ]

module _ {R A : Type 0} (rack : racks.Ghosts R) (area : areas.Ghosts A) where
  counts_stay : (old new : Shard R A) (w v : machine.State) → SameKit old new → CountsRise w v [] (counts_of rack area old) (counts_of rack area new)
  counts_stay old new w v kit = record {
    rack = (let e = ap (λ r. rack.faults r None) kit.rack in omega (arith, e));
    even = (let e = ap area.faults kit.areas.even in omega (arith, e));
    odd = (let e = ap area.faults kit.areas.odd in omega (arith, e));
    leaves = λ leaf stays. (let e = ap (λ r. rack.faults r (Some leaf)) kit.rack in omega (arith, e));
  }

  -- an arm comes in one hold, and then the metaslab has what all come to have in common
  pub attach_turns : (x : State) (shared : Shared) (slot : ℕ) (k : ArmKind) (number : ℕ) (old new : Shard R A) → Attaches rack slot k number old new → (part : Part) (pieces : Pieces) (y : Metaslab)
      → IsMetaslab rack area part pieces old y → y.world.sealed ≡ None → IsAlike shared y.world → ((leaf : ℕ) → named k number ≡ Leaf leaf → leaf < x.next_leaf)
      → Turns rack area part pieces y new (λ hold v. arms.Happens part.geometry part.perms (Attach slot (named k number)) part.number hold × IsChanged x (attached_shared shared slot (named k number)) y v)
  attach_turns x shared slot k number old new s part pieces y is unsealed alike low =
      let n = named k number in
      let d : Done rack area part pieces new (Attach slot n) y
      = did_with rack area part pieces old new (Attach slot n) y is s.valid s.does (s.acts pieces) (λ v step. refl) s.reserve.limit
      (subst (λ (o : Option machine.Pass). reserved_of new.history + replans o ≡ reserved_of old.history) (sym is.stands.is_in.pass)
      (subst (λ events. reserved_of new.history + events ≡ reserved_of old.history) (sym (same_events old.slots old.pass)) s.reserve.reserved))
      (λ v step is_in. counts_stay old new y.world v s.kit)
      (λ v step image now. records_same rack area part y.world old new s.kit.areas is.records image (image_was (layout_in part) y.world v slot n image step now)) tt in
      record {
        act = Did (Attach slot n) d.reached.world;
        reached = d.reached;
        acts = d.acts;
        done = (happens part slot n y d.reached.world, changed_state x shared (layout_in part) slot n y d.reached d.step unsealed alike low);
        is = d.is;
      }
