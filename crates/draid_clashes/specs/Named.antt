-- The objects that the lanes of a section name.
use Rattle.std.specs.Prelude.{◌≢◌, ◌+◌, ◌<◌, ◌≤◌, ◌==◌, ℕ, List, [], ◌∷◌, ◌++◌, Contains, if◌then◌else◌}
use Rattle.draid_script.specs.Line.{Command}
use Rattle.draid_session.specs.Lanes.{objects_in}
use Rattle.draid_clashes.specs.declared.objects.Named.{Named}

-- ---- one after another

-- so many from one on, in the lane at this place; none where it is no object
abbrev pub named_by : ℕ → ℕ → ℕ → List Named
named_by lane first count = if count == 0 then [] else record { lane = lane; first = first; count = count } ∷ []

-- those of a lane's commands
abbrev pub named_in : ℕ → List Command → List Named
named_in lane [] = []
named_in lane (command ∷ commands) = named_by lane (objects_in command).0 (objects_in command).1 ++ named_in lane commands

-- those of all lanes from this place on
abbrev pub named_from : ℕ → List (List Command) → List Named
named_from lane [] = []
named_from lane (commands ∷ lanes) = named_in lane commands ++ named_from (lane + 1) lanes

-- ---- those that two lanes name

abbrev pub HasObject : Named → ℕ → Type 0
HasObject named object = (named.first ≤ object) × (object < named.first + named.count)

pub record IsShared (list : List Named) (object : ℕ) : Type 0 where
  pub one : Named
  pub other : Named
  pub one_in : Contains list one
  pub other_in : Contains list other
  pub lanes : one.lane ≢ other.lane
  pub one_has : HasObject one object
  pub other_has : HasObject other object

abbrev pub IsLeastShared : List Named → ℕ → Type 0
IsLeastShared list object = IsShared list object × ((other : ℕ) → IsShared list other → object ≤ other)
