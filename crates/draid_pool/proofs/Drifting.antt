-- What becomes of a metaslab's table while others hold it.
use Rattle.std.proofs.Common.{◌≡◌, ◌∙◌, ◌≤◌, ◌⊎◌, inl, inr, arith, ℕ, Bool, true, false, Option, Some, None, subst, refl, sym}
use Rattle.draid_rack.specs.declared.Rack as racks
use Rattle.draid_area.specs.declared.Area as areas
use Rattle.draid_entries.specs.declared.entries.Entries.{Entries}
use Rattle.draid_entries.specs.Entries.{held_in}
use Rattle.draid_machine.specs.declared.names.Key.{Key}
use Rattle.draid_machine.specs.declared.names.Held.{Held}
use Rattle.draid_machine.specs.declared.names.Stage.{Stage}
use Rattle.draid_machine.specs.declared.names.Stage.TheVariants as stage
use Rattle.draid_machine.specs.After.{is_freed_block}
use Rattle.draid_machine.specs.Names.{is_freed_by}
use Rattle.draid_machine.proofs.Small.{is_low, low, none_some}
use Rattle.draid_segments.specs.Segments.{Pieces}
use Rattle.draid_entries.specs.History.{reserved_of}
use Rattle.draid_shard.specs.Alike.{KeepsArms}
use Rattle.draid_shard.specs.Changes.{SameGroups}
use Rattle.draid_shard.specs.Fits.{Valid}
use Rattle.draid_shard.specs.Part.{Part, layout_in}
use Rattle.draid_shard.specs.declared.shard.Shard.{Shard}
use Rattle.draid_pass.specs.declared.pass.Pass.{Pass}
use Rattle.draid_shard.proofs.Changed.{same_arms}
use Rattle.draid_session.specs.State.{Metaslab}
use Rattle.draid_pool.specs.Drifts.{Drifts, KeepsGroups, KeepsOf, StateStep}
use Rattle.draid_pool.specs.Metaslabs.{IsMetaslab}
use Rattle.draid_pool.specs.Passes.{KeepsPass}
use Rattle.draid_pool.proofs.Arms.{leaf_kept, shares_kept}
use Rattle.draid_pool.proofs.Contents.{same_then}
use Rattle.draid_pool.proofs.Imaged.{keeps_then as images_then}
use Rattle.draid_pool.proofs.Since.{since_then, state_self}

pub keeps_self : (of : ℕ → Bool) (group : ℕ) (t : Entries) → KeepsOf of group t t
keeps_self of group t = record { each = λ key own. inl refl }

pub freed_later : (group later : ℕ) (o : Option Held) → group ≤ later → is_freed_block group o ≡ true → is_freed_block later o ≡ true
freed_later group later None less is = is
freed_later group later (Some h) less is = by h.stage is
  where
    by : (s : Stage) → is_freed_by group s ≡ true → is_freed_by later s ≡ true
    by stage.Live e = e
    by (stage.Writing p m) e = e
    by (stage.Freed g) e = (let a = is_low g group e in low g later (omega (arith, a, less)))

pub keeps_then : (of : ℕ → Bool) (group later : ℕ) (a b c : Entries) → group ≤ later → KeepsOf of group a b → KeepsOf of later b c → KeepsOf of later a c
keeps_then of group later a b c less x y = record { each = λ key own. by key (x.each key own) (y.each key own) }
  where
    by : (key : Key) → (held_in b key ≡ held_in a key) ⊎ ((is_freed_block group (held_in a key) ≡ true) × (held_in b key ≡ None))
        → (held_in c key ≡ held_in b key) ⊎ ((is_freed_block later (held_in b key) ≡ true) × (held_in c key ≡ None))
        → (held_in c key ≡ held_in a key) ⊎ ((is_freed_block later (held_in a key) ≡ true) × (held_in c key ≡ None))
    by key (inl e) (inl f) = inl (f ∙ e)
    by key (inl e) (inr f) = inr (subst (λ o. is_freed_block later o ≡ true) e f.0, f.1)
    by key (inr e) (inl f) = inr (freed_later group later (held_in a key) less e.0, f ∙ e.1)
    by key (inr e) (inr f) = inr (freed_later group later (held_in a key) less e.0, f.1)

pub keeps_some : (of some : ℕ → Bool) (group : ℕ) (a b : Entries) → ((n : ℕ) → some n ≡ true → of n ≡ true) → KeepsOf of group a b → KeepsOf some group a b
keeps_some of some group a b inside x = record { each = λ key own. x.each key (inside key.object own) }

-- where the very same arms are left
pub groups_by : {R A : Type 0} (old new : Shard R A) → SameGroups old new → KeepsArms old.slots new.slots → reserved_of new.history ≡ reserved_of old.history → KeepsGroups old new
groups_by old new groups arms reserve = record { groups = groups; arms = shares_kept old.slots new.slots arms; leaves = λ leaf is. leaf_kept old.slots new.slots leaf arms is; reserve = reserve }

pub groups_kept : {R A : Type 0} (shard : Shard R A) → KeepsGroups shard shard
groups_kept shard = groups_by shard shard (record { open_group_is = refl; closing = refl; sealed = refl; committed = refl }) (same_arms shard.slots) refl

-- a pass that is as it was is the one that it was
pass_still : (o : Option Pass) → KeepsPass o o
pass_still None = tt
pass_still (Some p) = record { number_is = refl; kind_is = refl; max_is = refl; at_is = refl; running_is = refl }

pub same_pass : (old new : Option Pass) → new ≡ old → KeepsPass old new
same_pass old new same = subst (KeepsPass old) (sym same) (pass_still old)

-- what no one else holds is as it was
pub drifts_not : {R A : Type 0} (rack : racks.Ghosts R) (area : areas.Ghosts A) (owns : ℕ → Bool) (shard : Shard R A) → Valid rack shard → Drifts rack area false owns shard shard
drifts_not rack area owns shard v = record {
  valid = v;
  part = refl;
  later = (omega arith);
  opens = (omega arith);
  groups = λ own. groups_kept shard;
  passes = λ own. pass_still shard.pass;
  own = keeps_self owns shard.committed shard.entries;
  state = state_self rack area owns shard;
  still = λ alone. refl;
}

pub same_groups : {R A : Type 0} (old new : Shard R A) → new ≡ old → KeepsGroups old new
same_groups old new same = subst (KeepsGroups old) (sym same) (groups_kept old)

-- one step of the state behind another
module _ {R A : Type 0} (rack : racks.Ghosts R) (area : areas.Ghosts A) (of : ℕ → Bool) (group : ℕ) (old mid new : Shard R A) (keeps : KeepsOf of group old.entries mid.entries) where
  held_then : (part : Part) (pieces now : Pieces) (x y : Metaslab) → IsMetaslab rack area part pieces old x → IsMetaslab rack area part now mid y
      → (key : Key) → of key.object ≡ true → (h : Held) → y.world.core.held key ≡ Some h → x.world.core.held key ≡ Some h
  held_then part pieces now x y is it key own h there = elim (keeps.each key own) [
    | inl same ↦ is.stands.is_in.held key ∙ (sym same ∙ (sym (it.stands.is_in.held key) ∙ there))
    | inr gone ↦ absurd (none_some (held_in mid.entries key) h gone.1 (sym (it.stands.is_in.held key) ∙ there))
  ]

  pub state_then : StateStep rack area of old mid → StateStep rack area of mid new → StateStep rack area of old new
  state_then a b part pieces x is =
      let one = a part pieces x is in
      let two = b part one.now one.reached one.is in
      record {
        reached = two.reached;
        now = two.now;
        is = two.is;
        since = since_then (layout_in part) x one.reached two.reached one.since two.since;
        images = λ mine. images_then x.world one.reached.world two.reached.world (one.images mine) (two.images mine);
        same = λ key own. same_then part x one.reached pieces one.now two.now key (held_then part pieces one.now x one.reached is one.is key own) (one.same key own) (two.same key own);
      }
