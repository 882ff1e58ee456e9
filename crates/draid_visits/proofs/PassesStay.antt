-- Each metaslab has the pass that it had, through the holds of a sync by a thread that alone changes passes.
use Rattle.std.proofs.Common.{◌≡◌, ◌∙◌, ℕ, Bool, true, Option, refl}
use Rattle.std.specs.Prelude.{Result}
use Rattle.draid_rack.specs.declared.Rack as racks
use Rattle.draid_area.specs.declared.Area as areas
use Rattle.draid_shard.specs.declared.shard.Shard.{Shard}
use Rattle.draid_uber.specs.declared.uber.Uber.{Uber}
use Rattle.draid_pool.specs.Drifts.{passes_number}
use Rattle.draid_pool.specs.Grouping.{SyncsIn}
use Rattle.draid_pool.specs.Passes.{KeepsPass}
use Rattle.draid_pool.specs.Rounds.{HeldOnce}
use Rattle.draid_pool.specs.declared.fault.SyncFault.{SyncFault}
use Rattle.draid_pool.specs.declared.fault.Synced.{Synced}
use Rattle.draid_visits.specs.Readies.{KeepsPart, KeepsParts}
use Rattle.draid_visits.proofs.Kept.{pass_on, pass_same}
use Rattle.draid_visits.proofs.SyncStays.{AllKept, IsKept, all_on, once_kept, sync_kept}

-- one has the pass of the other
abbrev HasPassOf : {R A : Type 0} → Shard R A → Shard R A → Type 0
HasPassOf old new = KeepsPass old.pass new.pass

module _ {R A S : Type 0} (rack : racks.Ghosts R) (area : areas.Ghosts A) (last : S → ℕ → Option (Shard R A)) (went : S → ℕ → Shard R A → Shard R A → S → Type 0) (shared : Bool) (owns : ℕ → Bool) (own : owns passes_number ≡ true) where
  -- each metaslab has the pass that it had
  abbrev pub PassesAreThere : S → S → Type 0
  PassesAreThere a b = AllKept {R = R} {A = A} last HasPassOf a b

  law : IsKept {R = R} {A = A} rack area shared owns HasPassOf
  law = record { same = λ x. pass_same x.pass; on = λ x y z first second. pass_on x.pass y.pass z.pass first second; drift = λ x y d. d.passes own; step = λ x y part pass. pass }

  pub there_then : (a b c : S) → PassesAreThere a b → PassesAreThere b c → PassesAreThere a c
  there_then a b c first second = all_on rack area last went shared owns HasPassOf law a b c first second

  pub once_there : (does : Shard R A → Shard R A → Type 0) (a : S) (m : ℕ) (b : S) (h : HeldOnce rack area last went shared owns does a m b) → KeepsPass h.before.pass h.after.pass → PassesAreThere a b
  once_there does a m b h stay = once_kept rack area last went shared owns HasPassOf law does a m b h stay

  -- behind a sync each has its part too
  pub parts_law : IsKept {R = R} {A = A} rack area shared owns KeepsPart
  parts_law = record {
    same = λ x. record { part = refl; pass = pass_same x.pass };
    on = λ x y z first second. record { part = second.part ∙ first.part; pass = pass_on x.pass y.pass z.pass first.pass second.pass };
    drift = λ x y d. record { part = d.part; pass = d.passes own };
    step = λ x y part pass. record { part = part; pass = pass };
  }

  pub sync_parts : (count : ℕ) (a b : S) (u v : Uber A) (out : Option (Result Synced SyncFault)) → SyncsIn rack area last went shared owns count a u out b v → KeepsParts {R = R} {A = A} (last a) (last b)
  sync_parts count a b u v out syncs = sync_kept rack area last went shared owns KeepsPart parts_law count a b u v out syncs

  pub parts_there : (a b : S) → KeepsParts {R = R} {A = A} (last a) (last b) → PassesAreThere a b
  parts_there a b keeps m y at = (let z = keeps m y at in (z.0, z.1, z.2.pass))
