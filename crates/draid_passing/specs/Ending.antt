-- How a pass ends.
use Rattle.std.specs.Prelude.{◌≡◌, ◌==◌, ℕ, Bool, List, [], Some, Vec, length, min, if◌then◌else◌}
use Rattle.std.specs.declared.alloc.Global.{Global}
use Rattle.draid_names.specs.declared.numbers.TheConstants.{LAST_NUMBER}
use Rattle.draid_names.specs.declared.pass_kind.PassKind.{PassKind}
use Rattle.draid_names.specs.declared.pass_kind.PassKind.TheVariants.{Rebuild, Heal}
use Rattle.draid_rack.specs.Rack.{OnBothTold}
use Rattle.draid_rack.specs.declared.Rack.{Ghosts}
use Rattle.draid_columns.specs.Flushes as flushes
use Rattle.draid_columns.specs.Flushes.{FlushesBut}
use Rattle.draid_machine.specs.declared.event.Event.TheVariants.{Done}
use Rattle.draid_machine.specs.After.{ended_pass}
use Rattle.draid_machine.specs.Created.{IsReached}
use Rattle.draid_machine.specs.State as machine
use Rattle.draid_marks.specs.Silent.{AreSilent}
use Rattle.draid_pass.specs.declared.pass.Pass.{Pass}
use Rattle.draid_plans.specs.Ends.{Loses, LosesAll}
use Rattle.draid_segments.specs.Segments.{Pieces}
use Rattle.draid_slots.specs.Table.{SlotTable}
use Rattle.draid_shard.specs.Calls.{ActsOn, CountsFailed}
use Rattle.draid_shard.specs.States.{Does, IsIn, layout_by}
use Rattle.draid_shard.specs.declared.shard.Shard.{Shard}
use Rattle.draid_passing.specs.Flushing.{due_leaves}
use Rattle.draid_passing.specs.declared.ending.Ended.{Ended}

-- what it answers of a pass: its errors, and without any how many targets it has
abbrev pub IsEnded : Pass → Ended → Type 0
IsEnded pass ended = (ended.errors ≡ pass.errors) × (ended.excised ≡ (if pass.errors == 0 then length pass.targets.items else 0))

-- The pass ended, as the machine's Done says, with the leaves on which flushes failed, and the answer is of what it was then.
pub record Ends {R A : Type 0} (rack : Ghosts R) (old new : Shard R A) (ended : Ended) : Type 0 where
  pub failed : Vec ℕ Global
  pub does : Does old new (Done failed)
  pub acts : (pieces : Pieces) → ActsOn rack old new (Done failed) pieces
  pub counts : CountsFailed failed.items (rack.faults old.rack) (rack.faults new.rack)
  pub errors : (w : machine.State) (p : machine.Pass) → IsReached (layout_by old) w → IsIn old w → w.core.pass ≡ Some p → ended.errors ≡ (ended_pass (layout_by old) w.core p failed.items).errors
  pub excised : (w : machine.State) (p : machine.Pass) → IsReached (layout_by old) w → IsIn old w → w.core.pass ≡ Some p
      → ended.excised ≡ (let q = ended_pass (layout_by old) w.core p failed.items in if q.errors == 0 then length q.targets else 0)

-- ---- a rebuild's targets

-- the last group that a pass makes good, whose number has 48 bits, and which isn't behind the committed one for a scrub
abbrev pub last_good : Pass → ℕ → ℕ
last_good pass committed = min pass.max (elim pass.kind as (λ k. ℕ) [ Rebuild ↦ LAST_NUMBER | Heal ↦ committed ])

-- the leaves on which they lie were flushed, and the pass lost those on a silent one
pub record FirmsTargets {R : Type 0} (rack : Ghosts R) (slots : SlotTable) (old new : Pass) (failed : List ℕ) (x y : R) : Type 0 where
  pub told : OnBothTold (rack.told x) (rack.told y) (FlushesBut (due_leaves slots old.targets.items) failed)
  pub cause : flushes.CountsFailed (due_leaves slots old.targets.items) failed (rack.faults x) (rack.faults y)
  pub shape : rack.shape y ≡ rack.shape x
  pub marks : List (List Bool)
  pub silent : AreSilent slots failed marks
  pub loses : Loses marks old new
  pub loses_all : LosesAll marks old new

-- a scrub does nothing of that
abbrev pub FirmsBy : {R : Type 0} → PassKind → Ghosts R → SlotTable → Pass → Pass → List ℕ → R → R → Type 0
FirmsBy Rebuild rack slots old new failed x y = FirmsTargets rack slots old new failed x y
FirmsBy Heal rack slots old new failed x y = (new ≡ old) × (failed ≡ []) × (y ≡ x)
