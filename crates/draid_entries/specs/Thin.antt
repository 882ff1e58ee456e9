-- The blocks of a group of which a seal counts a loss: a column of theirs has no arm that answers and is clean for them.
use Rattle.std.specs.Prelude.{◌≡◌, ◌<◌, ⊤, ℕ, true, false, List, [], ◌∷◌, Some, Contains, length}
use Rattle.draid_machine.specs.declared.names.ArmName.{ArmName}
use Rattle.draid_machine.specs.declared.names.Held.{Held}
use Rattle.draid_machine.specs.declared.names.Key.{Key}
use Rattle.draid_machine.specs.Arms.{answers, is_clean}
use Rattle.draid_machine.specs.Names.{has_name, is_block, is_freed_by}
use Rattle.draid_machine.specs.State.{Core, Layout}

-- no arm of the column's slot both answers and is clean for the block
abbrev pub IsUncertain : Layout → Core → Held → ℕ → Type 0
IsUncertain l q h c =
    (n : ArmName) → has_name (q.order (l.slot_of h.first c)) n ≡ true → answers l q n h.first ≡ true → is_clean q h.birth n ≡ false

-- a block that was born in a group and isn't freed up to it has such a column
pub record IsThin (l : Layout) (q : Core) (group : ℕ) (key : Key) : Type 0 where
  pub h : Held
  pub found : q.held key ≡ Some h
  pub block : is_block h.stage ≡ true
  pub born : h.birth ≡ group
  pub stays : is_freed_by group h.stage ≡ false
  pub column : ℕ
  pub there : column < l.columns
  pub uncertain : IsUncertain l q h column

-- no element stands twice
abbrev pub Distinct : {A : Type 0} → List A → Type 0
Distinct [] = ⊤
Distinct {A} (x ∷ xs) = (Contains xs x → ⊥) × Distinct xs

-- there are so many of them
pub record ThinIs (l : Layout) (q : Core) (group thin : ℕ) : Type 0 where
  pub keys : List Key
  pub once : Distinct keys
  pub each : (key : Key) → Contains keys key → IsThin l q group key
  pub all : (key : Key) → IsThin l q group key → Contains keys key
  pub many : thin ≡ length keys
