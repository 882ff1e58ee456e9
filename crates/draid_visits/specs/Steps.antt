-- What becomes of one metaslab as a rebuild or a scrub of a pool comes to it, hold by hold.
use Rattle.std.specs.Prelude.{◌≡◌, ◌<◌, ◌≤◌, ◌⊎◌, ◌++◌, ◌∷◌, ⊤, ℕ, Bool, true, false, List, [], None, Option, Some, is_none, IsSomeAnd, Result, Ok, Err}
use Rattle.std.specs.declared.alloc.Global.{Global}
use Rattle.std.specs.declared.vec.Vec.{Vec}
use Rattle.draid_names.specs.declared.pass_kind.PassKind.{PassKind}
use Rattle.draid_names.specs.declared.pass_kind.PassKind.TheVariants.{Rebuild}
use Rattle.draid_rack.specs.declared.Rack as racks
use Rattle.draid_area.specs.declared.Area as areas
use Rattle.draid_spec.specs.Geometry.{metaslab_stripes}
use Rattle.draid_block.specs.Blocks.{BlockValue}
use Rattle.draid_machine.specs.Names.{is_block}
use Rattle.draid_machine.specs.declared.event.Event.TheVariants.{LandBlock}
use Rattle.draid_machine.specs.declared.event.Patched.{Patched}
use Rattle.draid_machine.specs.declared.names.Held.{Held}
use Rattle.draid_machine.specs.declared.names.Key.{Key}
use Rattle.draid_entries.specs.Entries.{SameEntries}
use Rattle.draid_pass.specs.declared.pass.Pass.{Pass}
use Rattle.draid_segments.specs.Segments.{Pieces}
use Rattle.draid_shard.specs.Alike.{ShareArms}
use Rattle.draid_shard.specs.Fits.{IsLeaf}
use Rattle.draid_shard.specs.Part.{Part}
use Rattle.draid_shard.specs.States.{part_of, stored_in}
use Rattle.draid_shard.specs.declared.shard.Shard.{Shard}
use Rattle.draid_restore.specs.Loans.{LendsBlock}
use Rattle.draid_restore.specs.Restoring.{AnswersBlock, fetched_of}
use Rattle.draid_passing.specs.Passing.{LacksTarget}
use Rattle.draid_passing.specs.declared.fault.PlanFault.{PlanFault}
use Rattle.draid_passing.specs.declared.fault.PlanFault.TheVariants as plan
use Rattle.draid_session.specs.Holds.{Hold}
use Rattle.draid_session.specs.Passes as passes
use Rattle.draid_session.specs.Phases.{Went, WasWorn, WasLast, Starved}
use Rattle.draid_session.specs.State.{Metaslab}
use Rattle.draid_pool.specs.Bytes.{HasBytes}
use Rattle.draid_pool.specs.Metaslabs.{IsMetaslab}
use Rattle.draid_visits.specs.declared.steps.Next.{Next}
use Rattle.draid_visits.specs.declared.steps.Next.TheVariants as next

-- ---- shards

-- the shard has a rebuild, or an arm that one would make good
abbrev pub IsRebuiltIn : {R A : Type 0} → Shard R A → Type 0
IsRebuiltIn shard = IsSomeAnd shard.pass (λ (p : Pass). p.kind ≡ Rebuild) ⊎ (LacksTarget shard.slots Rebuild → ⊥)

-- All blocks, tickets, the committed group and the closing one are as they were, and so are the arms, but for whether a pass has made them good. No leaf came.
pub record SharesTable {R A : Type 0} (old new : Shard R A) : Type 0 where
  pub part : part_of new ≡ part_of old
  pub entries : SameEntries old.entries new.entries
  pub committed : new.committed ≡ old.committed
  pub closing : new.closing ≡ old.closing
  pub opens : old.open_group ≤ new.open_group
  pub slots : ShareArms old.slots new.slots
  pub leaves : (leaf : ℕ) → IsLeaf new.slots leaf → IsLeaf old.slots leaf

-- a pass of a kind that runs
pub record IsRunningOf (kind : PassKind) (pass : Pass) : Type 0 where
  pub kind_is : pass.kind ≡ kind
  pub running : pass.running ≡ true

-- a pass of a kind that may lend: a rebuild has to run. (In each state a scrub runs; one that doesn't lends nothing.)
pub record IsToLend (kind : PassKind) (pass : Pass) : Type 0 where
  pub kind_is : pass.kind ≡ kind
  pub runs : kind ≡ Rebuild → pass.running ≡ true

-- the pass runs still, and stands behind where it stood, within the metaslab
pub record MovesOn {R A : Type 0} (kind : PassKind) (old new : Shard R A) : Type 0 where
  pub was : Pass
  pub pass : Pass
  pub old_pass : old.pass ≡ Some was
  pub new_pass : new.pass ≡ Some pass
  pub runs : IsRunningOf kind pass
  pub behind : was.at < pass.at
  pub inside : pass.at ≤ metaslab_stripes new.geometry

-- A block of a scrub was lent, and landed. The event of the landing tells that it is unreadable exactly where what was read of it has no answer.
pub record TellsLanding {R A : Type 0} (rack : racks.Ghosts R) (old new : Shard R A) : Type 0 where
  pub mid : Shard R A
  pub lends : LendsBlock rack old mid
  pub block : Option BlockValue
  pub answers : AnswersBlock old.geometry (fetched_of lends.lent) block
  pub pass : ℕ
  pub failed : Vec ℕ Global
  pub patched : Vec Patched Global
  pub told : stored_in new ≡ stored_in mid ++ LandBlock pass lends.lent.serial failed patched (is_none block) ∷ []

-- ---- holds

-- a pass goes on or is planned, or why none is
abbrev pub StartIs : Part → PassKind → Result ℕ PlanFault → List Hold → Type 0
StartIs part kind (Ok at) holds = passes.Starts part.geometry part.perms kind part.number at holds Went
StartIs part kind (Err plan.Nothing) holds = (kind ≡ Rebuild) × passes.PassesOver part.geometry part.perms part.number holds
StartIs part kind (Err (plan.PassRunning number)) holds = ⊥
StartIs part kind (Err (plan.Worn events)) holds = passes.PlansNone part.geometry part.perms kind part.number holds WasWorn
StartIs part kind (Err plan.Last) holds = passes.PlansNone part.geometry part.perms kind part.number holds WasLast
StartIs part kind (Err plan.NoMemory) holds = passes.PlansNone part.geometry part.perms kind part.number holds Starved

-- a rebuild runs already or begins to, or it may not run yet
abbrev pub ReadyIs : Part → Bool → List Hold → Type 0
ReadyIs part true holds = passes.RunsNow part.geometry part.perms part.number holds
ReadyIs part false holds = passes.Waits part.geometry part.perms part.number holds []

-- A stripe or a block was lent and landed, the pass ended, or something is left that isn't lent. Of a block that was lent memory may be wanting then.
abbrev pub NextIs : Part → PassKind → Bool → Next → List Hold → Type 0
NextIs part kind used (next.Landed repaired) holds = (used ≡ false) × passes.LendsOne part.geometry part.perms kind part.number repaired holds []
NextIs part kind used (next.Ended errors) holds = passes.EndsPass part.geometry part.perms part.number errors holds
NextIs part kind used next.Paused holds = (used ≡ true) × passes.KeepsBack part.geometry part.perms part.number holds (λ v. ⊤)
NextIs part kind used next.Worn holds = (used ≡ false) × passes.KeepsBack part.geometry part.perms part.number holds (passes.LendIsWorn part.geometry part.perms)
NextIs part kind used next.NoMemory holds =
    (used ≡ false) × (passes.KeepsBack part.geometry part.perms part.number holds (λ v. ⊤) ⊎ passes.StaysOut part.geometry part.perms part.number None holds)

-- the pieces of each block are those of bytes that have its length and digest; nothing is said of tickets
abbrev pub HasContents : Part → Pieces → Metaslab → Type 0
HasContents part pieces x = (k : Key) (h : Held) → x.world.core.held k ≡ Some h → is_block h.stage ≡ true → HasBytes part.geometry h k pieces

-- so it is of some pieces with which the shard stands for the metaslab
abbrev pub HadContents : {R A : Type 0} → racks.Ghosts R → areas.Ghosts A → Part → Shard R A → Metaslab → Type 0
HadContents rack area part shard x = (pieces : Pieces) × IsMetaslab rack area part pieces shard x × HasContents part pieces x
