-- An arm leaves its slot in a metaslab of a pool.
use Rattle.std.proofs.Common.{◌≡◌, ◌∙◌, inl, inr, ℕ, Bool, true, false, List, Some, None, IsSome, filter, not, refl, sym, ap, subst, if◌then◌else◌, ◌==◌, arith}
use Rattle.std.specs.Prelude.{option_map}
use Rattle.draid_names.specs.declared.arm.ArmAt.{ArmAt}
use Rattle.draid_rack.specs.declared.Rack as racks
use Rattle.draid_area.specs.declared.Area as areas
use Rattle.draid_machine.specs.declared.event.Event.TheVariants.{Detach}
use Rattle.draid_machine.specs.declared.names.ArmName.{ArmName}
use Rattle.draid_machine.specs.declared.names.ArmName.TheVariants.{Leaf}
use Rattle.draid_machine.specs.After.{detach_state, detached_core, renew_if, seal_arm, set_order}
use Rattle.draid_machine.specs.Arms.{has_moved}
use Rattle.draid_machine.specs.Images.{IsImage}
use Rattle.draid_machine.specs.Names.{name_eq}
use Rattle.draid_machine.specs.State as machine
use Rattle.draid_machine.specs.Step.{DetachStep}
use Rattle.draid_machine.proofs.Small.{name_true, none_some}
use Rattle.draid_segments.specs.Segments.{Pieces}
use Rattle.draid_shard.specs.Part.{Part, layout_in}
use Rattle.draid_shard.specs.declared.shard.Shard.{Shard}
use Rattle.draid_session.specs.Arms as arms
use Rattle.draid_session.specs.Holds.{Did}
use Rattle.draid_session.specs.State.{Metaslab, State}
use Rattle.draid_pool.specs.Importable.{IsAlike, SameArms, Shared, bare}
use Rattle.draid_pool.specs.Metaslabs.{IsMetaslab}
use Rattle.draid_pool.specs.Syncing.{Turns}
use Rattle.draid_pool.proofs.Dids.{Done, did_with, records_same}
use Rattle.draid_changes.specs.Detaching.{Leaves}
use Rattle.draid_changes.proofs.Attached.{bare_renewed, was_there}
use Rattle.draid_changes.proofs.Switched.{counts_stay}
use Rattle.draid_changes.proofs.Walk.{IsChanged}

-- ---- states

abbrev without : ArmName → List ArmName → List ArmName
without n names = filter (λ m. not (name_eq n m)) names

-- what all metaslabs have in common then
abbrev pub left_shared : Shared → ℕ → ArmName → Shared
left_shared shared slot n =
    record shared {
      arms = record shared.arms {
        arm = λ m. if name_eq n m then None else shared.arms.arm m;
        order = set_order shared.arms.order slot (without n (shared.arms.order slot));
      };
    }

-- what a detachment leaves, by what the arms and the order are behind it
record Rearranged (w : machine.State) (slot : ℕ) (n : ArmName) (new : machine.State) : Type 0 where
  held : new.core.held ≡ w.core.held
  order : (other : ℕ) → new.core.order other ≡ set_order w.core.order slot (without n (w.core.order slot)) other
  committed : new.committed ≡ w.committed
  image : new.image ≡ w.image
  sealed : new.sealed ≡ w.sealed
  asked : new.asked ≡ w.asked
  open_group_is : new.open_group ≡ w.open_group
  arms : (m : ArmName) → option_map bare (seal_arm (new.core.arm m)) ≡ (if name_eq n m then None else option_map bare (seal_arm (w.core.arm m)))
  there : (m : ArmName) → IsSome (new.core.arm m) → IsSome (w.core.arm m)

rearranged : (l : machine.Layout) (w : machine.State) (slot : ℕ) (n : ArmName) (a : machine.Arm) (last : ℕ) → w.core.arm n ≡ Some a → Rearranged w slot n (detach_state l w slot n a last)
rearranged l w slot n a last found =
    let q = detached_core w.core slot n a w.open_group in
    record {
      held = refl;
      order = λ other. refl;
      committed = refl;
      image = refl;
      sealed = refl;
      asked = refl;
      open_group_is = refl;
      arms = λ m. bare_renewed (has_moved l w.core q m) last (q.arm m) ∙ here m (name_eq n m);
      there = λ m some. stood m (name_eq n m) refl (was_there (renew_if (has_moved l w.core q m) last) (q.arm m) some);
    }
  where
    here : (m : ArmName) (b : Bool) → option_map bare (seal_arm (if b then Some (record a { gone = Some (record { slot = slot; group = w.open_group }) }) else w.core.arm m)) ≡ (if b then None else option_map bare (seal_arm (w.core.arm m)))
    here m true = refl
    here m false = refl

    stood : (m : ArmName) (b : Bool) → name_eq n m ≡ b → IsSome (if b then Some (record a { gone = Some (record { slot = slot; group = w.open_group }) }) else w.core.arm m) → IsSome (w.core.arm m)
    stood m true same some = subst (λ k. IsSome (w.core.arm k)) (name_true n m same) (subst IsSome (sym found) refl)
    stood m false other some = some

rearranged_by : (l : machine.Layout) (w v : machine.State) (slot : ℕ) (n : ArmName) → DetachStep l w slot n v → Rearranged w slot n v
rearranged_by l w v slot n step = subst (Rearranged w slot n) (sym step.made) (rearranged l w slot n step.a step.last step.found)

-- where no group is sealed, the committed image has the arms that it had, and the others are those of now
alike_left : (shared : Shared) (w v : machine.State) (slot : ℕ) (n : ArmName) → Rearranged w slot n v → w.sealed ≡ None → IsAlike shared w → IsAlike (left_shared shared slot n) v
alike_left shared w v slot n r unsealed is = record {
  versions = record {
    asked = r.asked ∙ is.versions.asked;
    kept = ap (λ (image : machine.Image). image.version) r.image ∙ is.versions.kept;
    sealed = λ image of. absurd (none_some w.sealed image unsealed (sym r.sealed ∙ of));
  };
  same = record {
    order = λ other. r.order other ∙ orders other (slot == other);
    now = λ m. r.arms m ∙ left m (name_eq n m);
    kept = subst (λ (image : machine.Image). SameArms image.core shared.kept_arms) (sym r.image) is.same.kept;
    sealed = λ image of. absurd (none_some w.sealed image unsealed (sym r.sealed ∙ of));
  };
}
  where
    orders : (other : ℕ) (b : Bool) → (if b then without n (w.core.order slot) else w.core.order other) ≡ (if b then without n (shared.arms.order slot) else shared.arms.order other)
    orders other true = ap (without n) (is.same.order slot)
    orders other false = is.same.order other

    left : (m : ArmName) (b : Bool) → (if b then None else option_map bare (seal_arm (w.core.arm m))) ≡ option_map bare (if b then None else shared.arms.arm m)
    left m true = refl
    left m false = is.same.now m

changed_state : (x : State) (shared : Shared) (slot : ℕ) (n : ArmName) (y v : Metaslab) → Rearranged y.world slot n v.world → y.world.sealed ≡ None → IsAlike shared y.world → IsChanged x (left_shared shared slot n) y v
changed_state x shared slot n y v r unsealed is = record {
  held = r.held;
  committed = r.committed;
  images = λ image own. elim own [
    | inl of ↦ inl (r.image ∙ of)
    | inr of ↦ inr (r.sealed ∙ of)
  ];
  leaves = λ below. record {
    kept = λ leaf some. below.kept leaf (subst (λ (image : machine.Image). IsSome (image.core.arm (Leaf leaf))) r.image some);
    sealed = λ image own. below.sealed image (sym r.sealed ∙ own);
    now = λ other some. below.now other (r.there (Leaf other) some);
  };
  alike = alike_left shared y.world v.world slot n r unsealed is;
  opens = (let same = r.open_group_is in omega (arith, same));
}

-- an image that stands behind it stood before it
image_was : (w v : machine.State) (slot : ℕ) (n : ArmName) (image : machine.Image) → Rearranged w slot n v → IsImage v image → IsImage w image
image_was w v slot n image r own = elim own [
  | inl of ↦ inl (sym r.image ∙ of)
  | inr of ↦ inr (sym r.sealed ∙ of)
]

-- ---- the metaslab

module _ {R A : Type 0} (rack : racks.Ghosts R) (area : areas.Ghosts A) where
  -- an arm goes in one hold, and then the metaslab has what all come to have in common
  pub leave_turns : (x : State) (shared : Shared) (at : ArmAt) (n : ArmName) (old new : Shard R A) → Leaves rack at n old new → (part : Part) (pieces : Pieces) (y : Metaslab)
      → IsMetaslab rack area part pieces old y → y.world.sealed ≡ None → IsAlike shared y.world
      → Turns rack area part pieces y new (λ hold v. arms.Happens part.geometry part.perms (Detach at.slot n) part.number hold × IsChanged x (left_shared shared at.slot n) y v)
  leave_turns x shared at n old new s part pieces y is unsealed alike =
      let d : Done rack area part pieces new (Detach at.slot n) y
      = did_with rack area part pieces old new (Detach at.slot n) y is s.valid s.does (s.acts pieces) (λ v step. refl) s.reserve.limit s.reserve.reserved
      (λ v step is_in. counts_stay rack area old new y.world v s.kit)
      (λ v step image now. records_same rack area part y.world old new s.kit.areas is.records image (image_was y.world v at.slot n image (rearranged_by (layout_in part) y.world v at.slot n step) now)) tt in
      record {
        act = Did (Detach at.slot n) d.reached.world;
        reached = d.reached;
        acts = d.acts;
        done = ((refl, refl), changed_state x shared at.slot n y d.reached (rearranged_by (layout_in part) y.world d.reached.world at.slot n d.step) unsealed alike);
        is = d.is;
      }
