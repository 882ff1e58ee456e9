-- One metaslab of a pool as a leaf goes offline there, or comes back.
use Rattle.std.proofs.Common.{◌≡◌, ◌+◌, ◌∙◌, [], ℕ, Bool, true, false, Option, Some, None, IsSome, arith, refl, sym, ap, subst, if◌then◌else◌}
use Rattle.std.specs.Prelude.{option_map}
use Rattle.draid_rack.specs.declared.Rack as racks
use Rattle.draid_area.specs.declared.Area as areas
use Rattle.draid_machine.specs.declared.event.Event.{Event}
use Rattle.draid_machine.specs.declared.names.ArmName.{ArmName}
use Rattle.draid_machine.specs.declared.names.ArmName.TheVariants.{Leaf}
use Rattle.draid_machine.specs.After.{seal_arm, set_arm}
use Rattle.draid_machine.specs.Images.{IsImage}
use Rattle.draid_machine.specs.Names.{name_eq}
use Rattle.draid_machine.specs.State as machine
use Rattle.draid_machine.specs.Step.{Step, SwitchStep}
use Rattle.draid_machine.proofs.Small.{name_true, none_some}
use Rattle.draid_segments.specs.Acts as segments
use Rattle.draid_segments.specs.Segments.{Pieces}
use Rattle.draid_entries.specs.History.{reserved_of}
use Rattle.draid_shard.specs.Calls.{SameKit}
use Rattle.draid_shard.specs.Part.{Part, layout_in}
use Rattle.draid_shard.specs.States.{layout_by}
use Rattle.draid_shard.specs.declared.shard.Shard.{Shard}
use Rattle.draid_session.specs.Arms as arms
use Rattle.draid_session.specs.Follows.{CountsRise, failed_in, uses}
use Rattle.draid_session.specs.Holds.{Did, On, view_of}
use Rattle.draid_session.specs.State.{Metaslab, State}
use Rattle.draid_pool.specs.Importable.{IsAlike, Shared, bare}
use Rattle.draid_pool.specs.Metaslabs.{IsMetaslab, counts_of}
use Rattle.draid_pool.specs.Syncing.{Turns}
use Rattle.draid_pool.proofs.Dids.{Done, did_with, records_same}
use Rattle.draid_changes.specs.Walks.{Switches, switch_event}
use Rattle.draid_changes.proofs.Walk.{IsChanged}
use Rattle.draid_pool.specs.Bytes.{KnowsFinished}

-- ---- states

-- an arm of a leaf that went offline or came back
abbrev pub set_offline : Bool → Option machine.Arm → Option machine.Arm
set_offline offline None = None
set_offline offline (Some a) = Some (record a { offline = offline })

abbrev pub arm_if : Bool → Bool → Option machine.Arm → Option machine.Arm
arm_if here offline o = if here then set_offline offline o else o

-- what all metaslabs have in common then
abbrev pub switched_shared : Shared → ℕ → Bool → Shared
switched_shared shared leaf offline = record shared { arms = record shared.arms { arm = λ n. arm_if (name_eq (Leaf leaf) n) offline (shared.arms.arm n) } }

-- by what is bare of an arm and of another one
sealed_set : (offline : Bool) (a : machine.Arm) (gone : Option machine.Gone) (q : Option machine.Arm) → option_map bare (seal_arm (Some (record a { gone = gone }))) ≡ option_map bare q
    → option_map bare (seal_arm (Some (record a { gone = gone; offline = offline }))) ≡ option_map bare (set_offline offline q)
sealed_set offline a None None same = absurd (cc)
sealed_set offline a None (Some b) same = ap (option_map (λ (c : machine.Arm). record c { offline = offline })) same
sealed_set offline a (Some gone) None same = refl
sealed_set offline a (Some gone) (Some b) same = absurd (cc)

step_is : (l : machine.Layout) (w v : machine.State) (leaf : ℕ) (offline : Bool) → Step l w (switch_event leaf offline) v → SwitchStep w leaf offline v
step_is l w v leaf true step = step
step_is l w v leaf false step = step

pub used_one : (w : machine.State) (leaf : ℕ) (offline : Bool) → uses w (switch_event leaf offline) ≡ 1
used_one w leaf true = refl
used_one w leaf false = refl

none_ends : (part : Part) (pieces : Pieces) (y : Metaslab) (leaf : ℕ) (offline : Bool) → KnowsFinished part.geometry pieces y.world.core.held (switch_event leaf offline)
none_ends part pieces y leaf true = tt
none_ends part pieces y leaf false = tt

none_failed : (leaf : ℕ) (offline : Bool) → failed_in (switch_event leaf offline) ≡ []
none_failed leaf true = refl
none_failed leaf false = refl

same_pieces : (l : machine.Layout) (w v : machine.State) (leaf : ℕ) (offline : Bool) (step : Step l w (switch_event leaf offline) v) (pieces : Pieces)
    → segments.pieces_after l w (switch_event leaf offline) v step pieces pieces ≡ pieces
same_pieces l w v leaf true step pieces = refl
same_pieces l w v leaf false step pieces = refl

-- an image that stands behind it stood before it, and one that stood stands
image_was : (w v : machine.State) (leaf : ℕ) (offline : Bool) (image : machine.Image) → SwitchStep w leaf offline v → IsImage v image → IsImage w image
image_was w v leaf offline image step is = subst (λ (s : machine.State). IsImage s image) step.made is

-- where no group is sealed, the committed image has the arms that it had, and the others are those of now
alike_switched : (shared : Shared) (w v : machine.State) (leaf : ℕ) (offline : Bool) → SwitchStep w leaf offline v → w.sealed ≡ None → IsAlike shared w → IsAlike (switched_shared shared leaf offline) v
alike_switched shared w v leaf offline step unsealed is = subst (IsAlike (switched_shared shared leaf offline)) (sym step.made) (record {
  versions = record { asked = is.versions.asked; kept = is.versions.kept; sealed = is.versions.sealed };
  same = record {
    order = is.same.order;
    now = now;
    kept = is.same.kept;
    sealed = λ image of. absurd (none_some w.sealed image unsealed of);
  };
})
  where
    here : (n : ArmName) → Leaf leaf ≡ n → option_map bare (seal_arm (Some (record step.a { offline = offline }))) ≡ option_map bare (set_offline offline (shared.arms.arm n))
    here n same =
        sealed_set offline step.a step.a.gone (shared.arms.arm n)
        (ap (λ (o : Option machine.Arm). option_map bare (seal_arm o)) (sym step.there.found) ∙ (ap (λ m. option_map bare (seal_arm (w.core.arm m))) same ∙ is.same.now n))

    now : (n : ArmName) → option_map bare (seal_arm (set_arm w.core.arm (Leaf leaf) (Some (record step.a { offline = offline })) n))
        ≡ option_map bare (arm_if (name_eq (Leaf leaf) n) offline (shared.arms.arm n))
    now n = by (name_eq (Leaf leaf) n) refl
      where
        by : (b : Bool) → name_eq (Leaf leaf) n ≡ b → option_map bare (seal_arm (if b then Some (record step.a { offline = offline }) else w.core.arm n)) ≡ option_map bare (arm_if b offline (shared.arms.arm n))
        by true is_it = here n (name_true (Leaf leaf) n is_it)
        by false other = is.same.now n

-- each leaf that is an arm then was one
was_arm : (w v : machine.State) (leaf : ℕ) (offline : Bool) (other : ℕ) → SwitchStep w leaf offline v → IsSome (v.core.arm (Leaf other)) → IsSome (w.core.arm (Leaf other))
was_arm w v leaf offline other step some = by (name_eq (Leaf leaf) (Leaf other)) refl (subst (λ (s : machine.State). IsSome (s.core.arm (Leaf other))) step.made some)
  where
    by : (b : Bool) → name_eq (Leaf leaf) (Leaf other) ≡ b → IsSome (if b then Some (record step.a { offline = offline }) else w.core.arm (Leaf other)) → IsSome (w.core.arm (Leaf other))
    by true same some = subst (λ n. IsSome (w.core.arm n)) (name_true (Leaf leaf) (Leaf other) same) (subst IsSome (sym step.there.found) refl)
    by false other some = some

pub changed_state : (x : State) (shared : Shared) (leaf : ℕ) (offline : Bool) (y v : Metaslab) → SwitchStep y.world leaf offline v.world → y.world.sealed ≡ None → IsAlike shared y.world
    → IsChanged x (switched_shared shared leaf offline) y v
changed_state x shared leaf offline y v step unsealed is = record {
  held = ap (λ (s : machine.State). s.core.held) step.made;
  committed = ap (λ (s : machine.State). s.committed) step.made;
  images = λ image own. subst (λ (s : machine.State). IsImage s image) (sym step.made) own;
  leaves = λ below. record {
    kept = λ leaf some. below.kept leaf (subst (λ (image : machine.Image). IsSome (image.core.arm (Leaf leaf))) (ap (λ (s : machine.State). s.image) step.made) some);
    sealed = λ image own. below.sealed image (sym (ap (λ (s : machine.State). s.sealed) step.made) ∙ own);
    now = λ other some. below.now other (was_arm y.world v.world leaf offline other step some);
  };
  alike = alike_switched shared y.world v.world leaf offline step unsealed is;
  opens = (let same = ap (λ (s : machine.State). s.open_group) step.made in omega (arith, same));
}

-- ---- the metaslab

happens : (part : Part) (leaf : ℕ) (offline : Bool) (x : Metaslab) (w : machine.State)
    → arms.Happens part.geometry part.perms (switch_event leaf offline) part.number (On (view_of part.number x) (Did (switch_event leaf offline) w))
happens part leaf offline x w = (refl, refl)

module _ {R A : Type 0} (rack : racks.Ghosts R) (area : areas.Ghosts A) where
  pub counts_stay : (old new : Shard R A) (w v : machine.State) → SameKit old new → CountsRise w v [] (counts_of rack area old) (counts_of rack area new)
  counts_stay old new w v kit = record {
    rack = (let e = ap (λ r. rack.faults r None) kit.rack in omega (arith, e));
    even = (let e = ap area.faults kit.areas.even in omega (arith, e));
    odd = (let e = ap area.faults kit.areas.odd in omega (arith, e));
    leaves = λ leaf stays. (let e = ap (λ r. rack.faults r (Some leaf)) kit.rack in omega (arith, e));
  }

  -- the event comes, whatever the groups
  pub switch_did : (leaf : ℕ) (offline : Bool) (old new : Shard R A) → Switches rack leaf offline old new → (part : Part) (pieces : Pieces) (y : Metaslab) → IsMetaslab rack area part pieces old y
      → Done rack area part pieces new (switch_event leaf offline) y
  switch_did leaf offline old new s part pieces y is =
      did_with rack area part pieces old new (switch_event leaf offline) y is s.valid s.does (s.acts pieces) (λ v step. same_pieces (layout_by old) y.world v leaf offline step pieces) s.reserve.limit
      (subst (λ n. reserved_of new.history + n ≡ reserved_of old.history) (sym (used_one y.world leaf offline)) s.reserve.reserved)
      (λ v step is_in. subst (λ f. CountsRise y.world v f (counts_of rack area old) (counts_of rack area new)) (sym (none_failed leaf offline)) (counts_stay old new y.world v s.kit))
      (λ v step image now. records_same rack area part y.world old new s.kit.areas is.records image (image_was y.world v leaf offline image (step_is (layout_in part) y.world v leaf offline step) now)) (none_ends part pieces y leaf offline)

  pub switch_turns : (x : State) (shared : Shared) (leaf : ℕ) (offline : Bool) (old new : Shard R A) → Switches rack leaf offline old new → (part : Part) (pieces : Pieces) (y : Metaslab)
      → IsMetaslab rack area part pieces old y → y.world.sealed ≡ None → IsAlike shared y.world
      → Turns rack area part pieces y new (λ hold v. arms.Happens part.geometry part.perms (switch_event leaf offline) part.number hold × IsChanged x (switched_shared shared leaf offline) y v)
  switch_turns x shared leaf offline old new s part pieces y is unsealed alike =
      let e : Event = switch_event leaf offline in
      let d = switch_did leaf offline old new s part pieces y is in
      record {
        act = Did e d.reached.world;
        reached = d.reached;
        acts = d.acts;
        done = (happens part leaf offline y d.reached.world, changed_state x shared leaf offline y d.reached (step_is (layout_in part) y.world d.reached.world leaf offline d.step) unsealed alike);
        is = d.is;
      }
