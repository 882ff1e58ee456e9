-- Holds, one after another: of one lock, and of several.
use Rattle.std.specs.Prelude.{◌≡◌, ◌++◌, ⊤, ℕ, nat_eq, List, [], ◌∷◌, Some, All, length, map, slice_get, slice_set, if◌then◌else◌}
use Rattle.draid_turn.specs.declared.past.Past.{Past}
use Rattle.draid_turn.specs.Calls.{Caller, Follows}
use Rattle.draid_turn.specs.History.{number_of}
use Rattle.draid_turn.specs.Lists.{StartsWith}
use Rattle.draid_turn.specs.Numbers.{IsOwn}

-- a hold: the history before it, and how it left the value
pub record Hold (T : Type 0) : Type 0 where
  pub before : List (Past T)
  pub past : Past T

-- a hold of the lock of one of several turns
pub record HoldIn (T : Type 0) : Type 0 where
  pub turn : ℕ
  pub hold : Hold T

module _ {T : Type 0} where
  -- its place in the history
  abbrev pub place_of : Hold T → ℕ
  place_of hold = length hold.before

  -- the history after it
  abbrev pub after : Hold T → List (Past T)
  after hold = hold.before ++ hold.past ∷ []

  -- the history after the last hold
  abbrev pub seen_after : List (Past T) → List (Hold T) → List (Past T)
  seen_after seen [] = seen
  seen_after seen (hold ∷ holds) = seen_after (after hold) holds

  -- each hold begins with all that stood after the one before it, and the first one with what was seen
  abbrev pub InOrder : List (Past T) → List (Hold T) → Type 0
  InOrder seen [] = ⊤
  InOrder seen (hold ∷ holds) = StartsWith hold.before seen × InOrder (after hold) holds

  -- the holds of one of several turns
  abbrev pub holds_in : ℕ → List (HoldIn T) → List (Hold T)
  holds_in turn [] = []
  holds_in turn (made ∷ holds) = if nat_eq made.turn turn then made.hold ∷ holds_in turn holds else holds_in turn holds

  -- The caller's next hold: of a number that it holds, or of none. It has then seen all of the history, and the hold's
  -- place is its own
  pub record IsHold (old : Caller (Past T)) (hold : Hold T) (new : Caller (Past T)) : Type 0 where
    pub follows : Follows number_of old.numbers hold.before old.seen
    pub number : IsOwn number_of old.numbers hold.past
    pub seen : new.seen ≡ after hold
    pub own : new.own ≡ old.own ++ place_of hold ∷ []
    pub numbers : new.numbers ≡ old.numbers
    pub table : new.table ≡ old.table

  -- a caller's holds, one after another
  abbrev pub Went : Caller (Past T) → List (Hold T) → Caller (Past T) → Type 0
  Went old [] new = new ≡ old
  Went old (hold ∷ holds) new = (mid : Caller (Past T)) × IsHold old hold mid × Went mid holds new

  -- what a caller's holds come to: they stand in order in what it has seen at the end, and their places are its own
  pub record Comes (old : Caller (Past T)) (holds : List (Hold T)) (new : Caller (Past T)) : Type 0 where
    pub order : InOrder old.seen holds
    pub seen : new.seen ≡ seen_after old.seen holds
    pub stands : All (λ (hold : Hold T). StartsWith new.seen (after hold)) holds
    pub own : new.own ≡ old.own ++ map place_of holds
    pub numbers : new.numbers ≡ old.numbers
    pub table : new.table ≡ old.table

  -- of a lane's passes, one for each turn, one made a hold
  pub record MadeHold (old : List (Caller (Past T))) (made : HoldIn T) (new : List (Caller (Past T))) : Type 0 where
    pub pass : Caller (Past T)
    pub next : Caller (Past T)
    pub there : slice_get old made.turn ≡ Some pass
    pub is : new ≡ slice_set old made.turn next
    pub was : IsHold pass made.hold next

  -- and several, one after another
  abbrev pub LaneWent : List (Caller (Past T)) → List (HoldIn T) → List (Caller (Past T)) → Type 0
  LaneWent old [] new = new ≡ old
  LaneWent old (made ∷ holds) new = (mid : List (Caller (Past T))) × MadeHold old made mid × LaneWent mid holds new

  -- what that is for the pass of one turn
  pub record WentAt (turn : ℕ) (pass : Caller (Past T)) (holds : List (HoldIn T)) (new : List (Caller (Past T))) : Type 0 where
    pub next : Caller (Past T)
    pub there : slice_get new turn ≡ Some next
    pub went : Went pass (holds_in turn holds) next
