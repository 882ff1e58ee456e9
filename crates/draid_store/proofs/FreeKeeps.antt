-- The freeing of a block in a hold keeps to what every hold keeps to.
use Rattle.std.proofs.Common.{◌≡◌, arith, ℕ, Bool, Option, Some, None, MatchOption, sym, ap, subst}
use Rattle.draid_names.specs.declared.pointer.Pointer.{Pointer}
use Rattle.draid_rack.specs.declared.Rack as racks
use Rattle.draid_area.specs.declared.Area as areas
use Rattle.draid_machine.specs.declared.names.Stage.TheVariants as stage
use Rattle.draid_objects.specs.Changes as changes
use Rattle.draid_objects.specs.Changes.{Write}
use Rattle.draid_entries.specs.Maps.{key_of, staged}
use Rattle.draid_entries.specs.declared.entry.Entry.{Entry}
use Rattle.draid_shard.specs.Calls.{SameReserve}
use Rattle.draid_shard.specs.Changes.{DoesNothing, SetsBlock}
use Rattle.draid_shard.specs.declared.shard.Shard.{Shard}
use Rattle.draid_pool.specs.Drifts.{KeepsGroups, KeepsOf, KeepsTo, StateStep, is_other}
use Rattle.draid_store.specs.Frees.{FreesBlock, FreesShard, IsEarly}
use Rattle.draid_pool.proofs.Drifting.{groups_by, keeps_self, same_groups, same_pass}
use Rattle.draid_pool.proofs.Rises.{records_as, records_same}
use Rattle.draid_pool.proofs.ShardSteps.{sets_others, state_goes}
use Rattle.draid_pool.proofs.Since.{state_self}

-- the same key by both names
pub same_key : (p : Pointer) (w : Write) → p.object ≡ w.object → p.seq ≡ w.seq → key_of p ≡ changes.key_of w
same_key p w object seq = λ i. record { object = object i; seq = seq i }

-- a block that is set leaves the groups and the arms, and so does what does nothing, where as many events are reserved
pub sets_groups : {R A : Type 0} (old new : Shard R A) (p : Pointer) (entry : Option Entry) → SetsBlock old new p entry → SameReserve old new → KeepsGroups old new
sets_groups old new p entry sets reserve = groups_by old new sets.groups sets.slots reserve.reserved

pub nothing_groups : {R A : Type 0} (old new : Shard R A) → DoesNothing old new → SameReserve old new → KeepsGroups old new
nothing_groups old new none reserve = groups_by old new none.keeps.groups none.slots reserve.reserved

module _ {R A : Type 0} (rack : racks.Ghosts R) (area : areas.Ghosts A) where
  pub free_groups : (x y : Shard R A) (p : Pointer) (floor : ℕ) (out : Option ℕ) → FreesShard rack area x p floor out y → KeepsGroups x y
  free_groups x y p floor None f = same_groups x y f.did.same
  free_groups x y p floor (Some group) f = sets_groups x y p (Some (staged (stage.Freed group) p)) f.did.sets f.did.reserve

  pub free_keeps : (x y : Shard R A) (p : Pointer) (floor : ℕ) (out : Option ℕ) → FreesShard rack area x p floor out y → KeepsTo rack area x y (Some p.object)
  free_keeps x y p floor out f = by out f.did
    where
      of : ℕ → Bool
      of = is_other (Some p.object)

      by : (o : Option ℕ) → MatchOption o (IsEarly rack area x floor y) (λ group. FreesBlock rack area x p floor group y) → KeepsTo rack area x y (Some p.object)
      by None e = record {
        valid = f.valid;
        part = f.part;
        later = (let same = ap (λ (s : Shard R A). s.committed) e.same in omega (arith, same));
        opens = (let same = ap (λ (s : Shard R A). s.open_group) e.same in omega (arith, same));
        groups = λ other. same_groups x y e.same;
        passes = λ other. same_pass x.pass y.pass (ap (λ (s : Shard R A). s.pass) e.same);
        others = subst (λ (s : Shard R A). KeepsOf of s.committed x.entries s.entries) (sym e.same) (keeps_self of x.committed x.entries);
        areas = records_as area.faults x y e.same;
        state = subst (StateStep rack area of x) (sym e.same) (state_self rack area of x);
      }
      by (Some group) b = record {
        valid = f.valid;
        part = f.part;
        later = (let same = b.sets.groups.committed in omega (arith, same));
        opens = (let same = b.sets.groups.open_group_is in omega (arith, same));
        groups = λ other. sets_groups x y p (Some (staged (stage.Freed group) p)) b.sets b.reserve;
        passes = λ other. same_pass x.pass y.pass b.pass;
        others = sets_others y.committed x.entries y.entries p (Some (staged (stage.Freed group) p)) b.sets.entry;
        areas = records_same area.faults x y b.areas_are;
        state = state_goes rack area of x y _ b.frees;
      }
