-- A look at the room of a metaslab keeps to what every hold keeps to.
use Rattle.std.proofs.Common.{◌≡◌, arith, Option, Some, None, MatchOption, ap, subst, sym, refl}
use Rattle.draid_rack.specs.declared.Rack as racks
use Rattle.draid_area.specs.declared.Area as areas
use Rattle.draid_shard.specs.Changes.{KeepsBlocks}
use Rattle.draid_shard.specs.Fits.{Valid}
use Rattle.draid_shard.specs.States.{part_of}
use Rattle.draid_shard.specs.declared.shard.Shard.{Shard}
use Rattle.draid_pool.specs.Drifts.{KeepsOf, KeepsTo, StateStep, is_other}
use Rattle.draid_pool.proofs.Drifting.{keeps_self}
use Rattle.draid_pool.proofs.Rises.{records_as}
use Rattle.draid_pool.proofs.Since.{state_self}
use Rattle.draid_pool.specs.Looking.{SeesShard}
use Rattle.draid_pool.specs.declared.room.Seen.{Seen}
use Rattle.draid_pool.proofs.Drifting.{same_groups, same_pass}

module _ {R A : Type 0} (rack : racks.Ghosts R) (area : areas.Ghosts A) where
  pub same_keeps : (x y : Shard R A) → Valid rack x → y ≡ x → KeepsTo rack area x y None
  same_keeps x y valid same = record {
    valid = subst (Valid rack) (sym same) valid;
    part = ap (λ s. part_of s) same;
    later = (let c = ap (λ (s : Shard R A). s.committed) same in omega (arith, c));
    opens = (let o = ap (λ (s : Shard R A). s.open_group) same in omega (arith, o));
    groups = λ other. same_groups x y same;
    passes = λ other. same_pass x.pass y.pass (ap (λ (s : Shard R A). s.pass) same);
    others = subst (λ (s : Shard R A). KeepsOf (is_other None) s.committed x.entries s.entries) (sym same) (keeps_self (is_other None) x.committed x.entries);
    areas = records_as area.faults x y same;
    state = subst (StateStep rack area (is_other None) x) (sym same) (state_self rack area (is_other None) x);
  }

  pub look_keeps : (x y : Shard R A) (need : _) (out : Option Seen) → Valid rack x → MatchOption out ⊥ (λ seen. SeesShard need x seen y) → KeepsTo rack area x y None
  look_keeps x y need None valid saw = absurd saw
  look_keeps x y need (Some seen) valid saw = same_keeps x y valid saw.same

pub same_blocks : {R A : Type 0} (old new : Shard R A) → new ≡ old → KeepsBlocks old new
same_blocks old new same = subst (KeepsBlocks old) (sym same) (record {
  entries = record { at = λ first. refl; held = λ key. refl; count = refl; owed = λ columns. refl };
  groups = record { open_group_is = refl; closing = refl; sealed = refl; committed = refl };
})

pub did_see : {R A : Type 0} (x y : Shard R A) (need : _) (out : Option Seen) (seen : Seen) → MatchOption out ⊥ (λ s. SeesShard need x s y) → out ≡ Some seen → SeesShard need x seen y
did_see x y need None seen saw is = absurd saw
did_see x y need (Some s) seen saw is = (let same : s ≡ seen = cc in subst (λ t. SeesShard need x t y) same saw)
