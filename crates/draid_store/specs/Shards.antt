-- What becomes of one metaslab as a sector is damaged there; and what the shards of a pool say of their room.
use Rattle.std.specs.Prelude.{◌≡◌, ℕ, Bool, true, false, List, [], ◌∷◌, Result, Ok, Err}
use Rattle.draid_machine.specs.declared.names.Key.{Key}
use Rattle.draid_machine.specs.declared.event.Event.TheVariants as event
use Rattle.draid_machine.specs.Names.{key_eq}
use Rattle.draid_machine.specs.State as machine
use Rattle.draid_segments.specs.Segments.{Pieces}
use Rattle.draid_shard.specs.Part.{Part}
use Rattle.draid_session.specs.Damage.{HasLeaf}
use Rattle.draid_session.specs.Holds.{Did, Hold, Looked, On, Reserved, view_of}
use Rattle.draid_session.specs.State.{Metaslab}
use Rattle.draid_session.specs.Worn.{ReservesWorn}
use Rattle.draid_store.specs.declared.fault.DamageFault.{DamageFault}
use Rattle.draid_store.specs.declared.fault.DamageFault.TheVariants as damage

-- pieces of other keys are as they were
abbrev pub SamePieces : Key → Pieces → Pieces → Type 0
SamePieces key old new = (k : Key) → key_eq key k ≡ false → new k ≡ old k

-- an event was reserved, and then the sector was damaged, or the leaf failed
pub record DamagesIn (part : Part) (leaf sector : ℕ) (failed : Bool) (x : Metaslab) (holds : List Hold) : Type 0 where
  pub mid : Metaslab
  pub after : machine.State
  pub are : holds ≡ On (view_of part.number x) (Reserved 1) ∷ (On (view_of part.number mid) (Did (event.Damage leaf sector failed) after) ∷ [])
  pub not_worn : ReservesWorn part.geometry (view_of part.number x) 1 → ⊥

abbrev pub SectorDoes : Part → (leaf sector : ℕ) → Metaslab → Result Unit DamageFault → List Hold → Type 0
SectorDoes part leaf sector x (Ok done) holds = DamagesIn part leaf sector false x holds
SectorDoes part leaf sector x (Err damage.Failed) holds = DamagesIn part leaf sector true x holds
SectorDoes part leaf sector x (Err damage.NoSuch) holds = (holds ≡ On (view_of part.number x) Looked ∷ []) × (HasLeaf (view_of part.number x) leaf → ⊥)
SectorDoes part leaf sector x (Err damage.Worn) holds =
    (holds ≡ On (view_of part.number x) Looked ∷ []) × HasLeaf (view_of part.number x) leaf × ReservesWorn part.geometry (view_of part.number x) 1
SectorDoes part leaf sector x (Err damage.NoMemory) holds = holds ≡ []
