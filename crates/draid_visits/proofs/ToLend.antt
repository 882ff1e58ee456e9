-- Which passes may lend, and the kind of the pass that a metaslab is left with.
use Rattle.std.proofs.Common.{◌≡◌, ◌∙◌, ℕ, true, Option, Some, None, ap, refl, sym, subst}
use Rattle.std.specs.Prelude.{IfSome, IsSomeAnd, option_map}
use Rattle.draid_names.specs.declared.pass_kind.PassKind.{PassKind}
use Rattle.draid_names.specs.declared.pass_kind.PassKind.TheVariants.{Heal, Rebuild}
use Rattle.draid_rack.specs.declared.Rack as racks
use Rattle.draid_area.specs.declared.Area as areas
use Rattle.draid_pass.specs.declared.pass.Pass.{Pass}
use Rattle.draid_segments.specs.Segments.{Pieces}
use Rattle.draid_shard.specs.Part.{Part}
use Rattle.draid_shard.specs.Scrubs.{IsRunningScrub}
use Rattle.draid_shard.specs.declared.shard.Shard.{Shard}
use Rattle.draid_mend.specs.Loans.{IsRunningRebuild}
use Rattle.draid_restore.specs.Loans.{counted}
use Rattle.draid_session.specs.State.{Metaslab}
use Rattle.draid_pool.specs.Metaslabs.{IsMetaslab}
use Rattle.draid_pool.specs.Passes.{KeepsPass}
use Rattle.draid_visits.specs.Steps.{IsRunningOf, IsToLend, MovesOn}
use Rattle.draid_visits.specs.Visiting.{IsOnly}
use Rattle.draid_visits.proofs.Readied.{heal_runs}

-- ---- a pass that may lend

pub to_lend_only : (kind : PassKind) (o : Option Pass) → IsSomeAnd o (IsToLend kind) → IfSome o (λ (p : Pass). p.kind ≡ kind)
to_lend_only kind None lends = tt
to_lend_only kind (Some p) lends = lends.kind_is

-- and runs
pub to_lend_runs : (kind : PassKind) (o : Option Pass) → IsSomeAnd o (IsToLend kind) → IsSomeAnd o (λ (p : Pass). p.running ≡ true) → IsSomeAnd o (IsRunningOf kind)
to_lend_runs kind None lends runs = absurd lends
to_lend_runs kind (Some p) lends runs = record { kind_is = lends.kind_is; running = runs }

-- what was left of it
pub to_lend_kept : (kind : PassKind) (a b : Option Pass) → KeepsPass a b → IsSomeAnd a (IsToLend kind) → IsSomeAnd b (IsToLend kind)
to_lend_kept kind None b keeps lends = absurd lends
to_lend_kept kind (Some p) None keeps lends = absurd keeps
to_lend_kept kind (Some p) (Some q) keeps lends = record { kind_is = keeps.kind_is ∙ lends.kind_is; runs = λ is. keeps.running_is ∙ lends.runs is }

-- in no state is there one that doesn't run
pub to_lend_does : {R A : Type 0} (rack : racks.Ghosts R) (area : areas.Ghosts A) (part : Part) (pieces : Pieces) (shard : Shard R A) (x : Metaslab) → IsMetaslab rack area part pieces shard x
    → (kind : PassKind) → IsSomeAnd shard.pass (IsToLend kind) → IsSomeAnd shard.pass (λ (p : Pass). p.running ≡ true)
to_lend_does rack area part pieces shard x is Rebuild lends = by shard.pass lends
  where
    by : (o : Option Pass) → IsSomeAnd o (IsToLend Rebuild) → IsSomeAnd o (λ (p : Pass). p.running ≡ true)
    by None lends = absurd lends
    by (Some p) lends = lends.runs refl
to_lend_does rack area part pieces shard x is Heal lends = heal_runs rack area part pieces shard x is (by shard.pass lends)
  where
    by : (o : Option Pass) → IsSomeAnd o (IsToLend Heal) → IsSomeAnd o (λ (p : Pass). p.kind ≡ Heal)
    by None lends = absurd lends
    by (Some p) lends = lends.kind_is

-- ---- no other pass

pub only_none : {R A : Type 0} (kind : PassKind) (shard : Shard R A) → shard.pass ≡ None → IsOnly kind shard
only_none kind shard none = subst (λ o. IfSome o (λ (p : Pass). p.kind ≡ kind)) (sym none) tt

pub only_moved : {R A : Type 0} (kind : PassKind) (old new : Shard R A) → MovesOn kind old new → IsOnly kind new
only_moved kind old new moves = subst (λ o. IfSome o (λ (p : Pass). p.kind ≡ kind)) (sym moves.new_pass) moves.runs.kind_is

pub only_running : {R A : Type 0} (kind : PassKind) (shard : Shard R A) → IsSomeAnd shard.pass (IsRunningOf kind) → IsOnly kind shard
only_running kind shard running = by shard.pass running
  where
    by : (o : Option Pass) → IsSomeAnd o (IsRunningOf kind) → IfSome o (λ (p : Pass). p.kind ≡ kind)
    by None running = tt
    by (Some p) running = running.kind_is

-- a rebuild that runs
pub only_rebuild : {R A : Type 0} (old new : Shard R A) → IsSomeAnd old.pass IsRunningRebuild → new.pass ≡ old.pass → IsOnly Rebuild new
only_rebuild old new running same = subst (λ o. IfSome o (λ (p : Pass). p.kind ≡ Rebuild)) (sym same) (by old.pass running)
  where
    by : (o : Option Pass) → IsSomeAnd o IsRunningRebuild → IfSome o (λ (p : Pass). p.kind ≡ Rebuild)
    by None running = tt
    by (Some p) running = running.rebuild

-- a scrub that runs
scrub_in : (o : Option Pass) → IsSomeAnd o IsRunningScrub → IfSome o (λ (p : Pass). p.kind ≡ Heal)
scrub_in None running = tt
scrub_in (Some p) running = running.scrub

pub only_scrub : {R A : Type 0} (old new : Shard R A) → IsSomeAnd old.pass IsRunningScrub → new.pass ≡ old.pass → IsOnly Heal new
only_scrub old new running same = subst (λ o. IfSome o (λ (p : Pass). p.kind ≡ Heal)) (sym same) (scrub_in old.pass running)

-- so too where it counts more errors, and a block stays lent
pub only_counted : {R A : Type 0} (old lent solved : Shard R A) (more : ℕ) → IsSomeAnd old.pass IsRunningScrub → lent.pass ≡ option_map (counted more) old.pass → solved ≡ record lent { kept = solved.kept } → IsOnly Heal solved
only_counted {R} {A} old lent solved more running counts only =
    subst (λ o. IfSome o (λ (p : Pass). p.kind ≡ Heal)) (sym (ap (λ (s : Shard R A). s.pass) only ∙ counts)) (by old.pass running)
  where
    by : (o : Option Pass) → IsSomeAnd o IsRunningScrub → IfSome (option_map (counted more) o) (λ (p : Pass). p.kind ≡ Heal)
    by None running = tt
    by (Some p) running = running.scrub
