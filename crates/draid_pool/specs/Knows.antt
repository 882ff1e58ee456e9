-- What is known of a pool's objects, by the table of their pointers.
use Rattle.std.specs.Prelude.{◌≡◌, ⊤, ℕ, List, Option, Some, None}
use Rattle.draid_names.specs.declared.pointer.Pointer.{Pointer}
use Rattle.draid_script.specs.Line.{Command}
use Rattle.draid_reply.specs.declared.reply.Reply.{Reply}
use Rattle.draid_session.specs.Known.{Known, Learns}
use Rattle.draid_pool.specs.Pointers.{FitsPointer, pointer_in}
use Rattle.draid_pool.specs.declared.pool.Pool.{Pool}

-- An object that is known to have no bytes has no pointer; one that is known to have some has a pointer that they fit.
abbrev pub FitsKnown : Option (Option (List ℕ)) → Option Pointer → Type 0
FitsKnown None pointer = ⊤
FitsKnown (Some None) pointer = pointer ≡ None
FitsKnown (Some (Some bytes)) pointer = (p : Pointer) × (pointer ≡ Some p) × FitsPointer p bytes

-- so it is of each object
abbrev pub KnowsTable : (ℕ → Option Pointer) → Known → Type 0
KnowsTable table known = (object : ℕ) → FitsKnown (known object) (table object)

abbrev pub KnowsPointers : {R A : Type 0} → Pool R A → Known → Type 0
KnowsPointers pool known = KnowsTable (pointer_in pool) known

-- what is known behind a reply is so of the pool
pub record KnowsBehind {R A : Type 0} (command : Command) (reply : Reply) (old : Known) (pool : Pool R A) : Type 0 where
  pub new : Known
  pub learns : Learns command reply old new
  pub fits : KnowsPointers pool new

-- A reply says of the objects what is allowed by whatever was known of them, and what it adds is so.
abbrev pub Teaches : {R A : Type 0} → Command → Reply → Pool R A → Pool R A → Type 0
Teaches command reply old new = (known : Known) → KnowsPointers old known → KnowsBehind command reply known new
