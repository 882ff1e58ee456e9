-- The history of a lock: the values as its holds left them, oldest first.
use Rattle.std.specs.Prelude.{◌≡◌, ⊤, ℕ, List, [], ◌∷◌, Option}
use Rattle.draid_turn.specs.declared.past.Past.{Past}

-- the number that a hold concerned, if any
abbrev pub number_of : {T : Type 0} → Past T → Option ℕ
number_of past = past.concerned

-- the value behind some holds, which began with the first value
abbrev pub left_by : {T : Type 0} → T → List (Past T) → T
left_by first [] = first
left_by first (past ∷ log) = left_by past.left log

module _ {T : Type 0} (step : T → Past T → Type 0) where
  -- each hold found what the one before it left, and kept to what every hold keeps to
  abbrev pub Steps : T → List (Past T) → Type 0
  Steps first [] = ⊤
  Steps first (past ∷ log) = step first past × Steps past.left log

  -- the value is what the last hold left, and each hold kept to what every hold keeps to
  pub record Stood (first : T) (log : List (Past T)) (value : T) : Type 0 where
    pub is : value ≡ left_by first log
    pub steps : Steps first log
