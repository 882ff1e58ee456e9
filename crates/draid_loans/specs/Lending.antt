use Rattle.std.specs.Prelude.{◌≡◌, ◌+◌, ◌<◌, ◌≤◌, ℕ, true, false, List, [], Option, Some, None, Vec, length}
use Rattle.std.specs.Global.{Global}
use Rattle.draid_machine.specs.declared.names.ArmName.{ArmName}
use Rattle.draid_machine.specs.declared.names.Held.{Held}
use Rattle.draid_machine.specs.Names.{has_name, has_number, is_heal, takes}
use Rattle.draid_machine.specs.State.{Layout, Core, Pass, Loan, State}
use Rattle.draid_machine.specs.Arms.{HasEmptyLog, IsSource, answers, leaf_at, reading}
use Rattle.draid_world.specs.World.{name_at, names_at}
use Rattle.draid_machine.specs.Step.{IsChosen, IsNext, ReadsThere, arms_read, is_lent}

-- an arm that answers at a stripe and whose log is empty
abbrev pub IsReady : Layout → Core → ℕ → ArmName → Type 0
IsReady l q x n = (answers l q n x ≡ true) × HasEmptyLog q n

-- the arm from which a pass takes a column
pub record IsFrom (l : Layout) (q : Core) (p : Pass) (h : Held) (x c : ℕ) (from : Option ArmName) : Type 0 where
  pub rebuild : is_heal p.kind ≡ false → IsSource l q x c from
  pub heal : is_heal p.kind ≡ true → from ≡ reading l q h c

-- a leaf from which a loan reads a column
pub record ReadsAt (l : Layout) (q : Core) (p : Pass) (h : Held) (x c leaf : ℕ) : Type 0 where
  pub n : ArmName
  pub rebuild : is_heal p.kind ≡ false → IsSource l q x c (Some n)
  pub heal : is_heal p.kind ≡ true → (has_name (q.order (l.slot_of h.first c)) n ≡ true) × (answers l q n x ≡ true)
  pub lies : leaf_at l q.order n x ≡ Some leaf

-- calls may fail on the leaves that a loan reads
abbrev pub AllRead : Layout → Core → Pass → Held → ℕ → List ℕ → Type 0
AllRead l q p h x failed = (leaf : ℕ) → has_number failed leaf ≡ true → ReadsThere l q p h x leaf

-- a block that has a stripe, and from which a pass may read it
pub record MayLend (l : Layout) (q : Core) (p : Pass) (x : ℕ) (failed : List ℕ) (h : Held) : Type 0 where
  pub lent : is_lent p h ≡ true
  pub taken : takes h x ≡ true
  pub fail : AllRead l q p h x failed

-- the readings of so many columns
pub record AreReadings (l : Layout) (q : Core) (p : Pass) (h : Held) (x : ℕ) (failed : List ℕ) (columns : ℕ) (read : List (Vec ArmName Global)) (chosen : List (Option ArmName)) : Type 0 where
  pub read_len : length read ≡ columns
  pub chosen_len : length chosen ≡ columns
  pub chosen_is : (c : ℕ) → c < columns → IsChosen l q p h x failed c (name_at chosen c)
  pub read_is : (c : ℕ) → c < columns → names_at read c ≡ arms_read l q p h x failed c (name_at chosen c)

-- the next loan of a pass
pub record IsLoan (l : Layout) (w : State) (failed : List ℕ) (n : Loan) : Type 0 where
  pub p : Pass
  pub h : Held
  pub pass : w.core.pass ≡ Some p
  pub running : p.running ≡ true
  pub next : IsNext w.core p n.key h n.stripe
  pub serial : n.serial ≡ w.serial + 1
  pub chosen : (c : ℕ) → c < l.columns → IsChosen l w.core p h n.stripe failed c (n.chosen c)
  pub no_more : (c : ℕ) → l.columns ≤ c → n.chosen c ≡ None
  pub read : (c : ℕ) → c < l.columns → n.read c ≡ arms_read l w.core p h n.stripe failed c (n.chosen c)
  pub read_none : (c : ℕ) → l.columns ≤ c → n.read c ≡ []
  pub fail : AllRead l w.core p h n.stripe failed
