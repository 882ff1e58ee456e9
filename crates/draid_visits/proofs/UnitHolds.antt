-- The next stripe or block of a pass, in a hold, keeps to what every hold keeps to, and a thread that has the passes may lend it.
use Rattle.std.proofs.Common.{◌≡◌, arith, inl, ℕ, Bool, true, Option, Some, None, MatchOption}
use Rattle.draid_names.specs.declared.pass_kind.PassKind.{PassKind}
use Rattle.draid_rack.specs.declared.Rack as racks
use Rattle.draid_area.specs.declared.Area as areas
use Rattle.draid_shard.specs.declared.shard.Shard.{Shard}
use Rattle.draid_pool.specs.Drifts.{Drifts, KeepsTo, is_other, passes_number}
use Rattle.draid_pool.proofs.Rises.{records_same}
use Rattle.draid_pool.proofs.ShardSteps.{state_goes_later}
use Rattle.draid_visits.specs.Units.{MayLendIn, UnitIn}
use Rattle.draid_visits.specs.declared.steps.Next.{Next}
use Rattle.draid_visits.proofs.CancelHolds.{pass_may_go}
use Rattle.draid_visits.proofs.ToLend.{to_lend_kept}

module _ {R A : Type 0} (rack : racks.Ghosts R) (area : areas.Ghosts A) where
  pub unit_keeps : (x y : Shard R A) (kind : PassKind) (used : Bool) (came : Next) → UnitIn rack area kind used came x y → KeepsTo rack area x y (Some passes_number)
  unit_keeps x y kind used came u = record {
    valid = u.valid;
    part = u.table.part;
    later = (let same = u.table.committed in omega (arith, same));
    opens = u.table.opens;
    groups = λ other. u.groups;
    passes = λ is. pass_may_go is;
    others = record { each = λ key own. inl (u.table.entries.held key) };
    areas = records_same area.faults x y u.areas_are;
    state = state_goes_later rack area (is_other (Some passes_number)) x y u.moves;
  }

  -- as it answers
  pub unit_keeps_by : (x y : Shard R A) (kind : PassKind) (used : Bool) (out : Option Next) → MatchOption out ⊥ (λ came. UnitIn rack area kind used came x y) → KeepsTo rack area x y (Some passes_number)
  unit_keeps_by x y kind used None did = absurd did
  unit_keeps_by x y kind used (Some came) did = unit_keeps x y kind used came did

  pub unit_ready : (shared : Bool) (owns : ℕ → Bool) → owns passes_number ≡ true → (kind : PassKind) (shard x : Shard R A) → Drifts rack area shared owns shard x → MayLendIn rack kind shard → MayLendIn rack kind x
  unit_ready shared owns own kind shard x d may = record { valid = d.valid; pass = to_lend_kept kind shard.pass x.pass (d.passes own) may.pass }
