-- What a caller knows, and what a call tells it.
use Rattle.std.specs.Prelude.{◌≡◌, ◌++◌, ◌∷◌, ℕ, true, List, [], Option, Some, All, length}
use Rattle.atomic_table.specs.Seated.{TableId}
use Rattle.atomic_table.specs.Table.{Me}
use Rattle.draid_turn.specs.declared.past.Past.{Past}
use Rattle.draid_turn.specs.declared.view.SeatView.{SeatView}
use Rattle.draid_turn.specs.declared.span.Span.{Span}
use Rattle.draid_turn.specs.History.{Stood, number_of}
use Rattle.draid_turn.specs.Lists.{places}
use Rattle.draid_turn.specs.Numbers.{HoldsAll, HoldsSome, IsForeign, holds}
use Rattle.draid_turn.specs.Views.{idle_view}

-- a caller: its lock, what it has seen of the history, the places in it of its own holds, and the numbers that it holds
pub record Caller (E : Type 0) : Type 0 where
  pub table : TableId
  pub seen : List E
  pub own : List ℕ
  pub numbers : List Span

-- a lock: which it is, and the value that it was made with
pub record Lock (T : Type 0) : Type 0 where
  pub table : TableId
  pub first : T

-- a caller that made nothing yet
abbrev pub newcomer : {E : Type 0} → TableId → List E → List Span → Caller E
newcomer table seen numbers = record { table = table; seen = seen; own = []; numbers = numbers }

abbrev pub caller_of : {E : Type 0} → TableId → SeatView E → Caller E
caller_of table view = record { table = table; seen = view.seen; own = view.own; numbers = view.numbers }

-- a seat between two calls: it has no ticket, holds no value, knows that it has seen what it heard, and has a number
pub record IsBetweenCalls {T E : Type 0} (me : Me T (SeatView E)) : Type 0 where
  pub idle : me ≡ (idle_view me.0.seen me.0.own me.0.numbers, [])
  pub some : HoldsSome me.0.numbers

-- the history begins with what was seen, and no hold behind that concerns a number that is held
pub record Follows {E : Type 0} (number : E → Option ℕ) (numbers : List Span) (log seen : List E) : Type 0 where
  pub unseen : List E
  pub begins : log ≡ seen ++ unseen
  pub foreign : All (IsForeign number numbers) unseen

-- The conditions of a call: the pass is of this lock; what the operation needs follows from what is known of the value
-- in this turn; it keeps to what every hold keeps to; and it concerns a number that the pass holds, or none
pub record MayCall {O T : Type 0} (step : T → Past T → Type 0) (needs : O → T → Type 0)
    (relates : O → T → O → T → Type 0) (concerns : O → Option ℕ) (op : O) (lock : Lock T) (pass : Caller (Past T)) : Type 0 where
  pub own : pass.table ≡ lock.table
  pub ready : (log : List (Past T)) (x : T) → Stood step lock.first log x → Follows number_of pass.numbers log pass.seen
      → needs op x
  pub keeps : (x y : T) (after : O) → needs op x → relates op x after y
      → step x (record { left = y; concerned = concerns op })
  pub number : (n : ℕ) → concerns op ≡ Some n → holds n pass.numbers ≡ true

-- One hold took the operation from op to done, and the value, behind the history, to what is left. The history is then
-- longer by this hold; the caller has seen all of it, and the hold's place is its own
pub record Did {O T : Type 0} (step : T → Past T → Type 0) (relates : O → T → O → T → Type 0) (concerns : O → Option ℕ)
    (first : T) (op done : O) (old new : Caller (Past T)) : Type 0 where
  pub log : List (Past T)
  pub value : T
  pub left : T
  pub stood : Stood step first log value
  pub follows : Follows number_of old.numbers log old.seen
  pub related : relates op value done left
  pub number : (n : ℕ) → concerns op ≡ Some n → holds n old.numbers ≡ true
  pub seen : new.seen ≡ log ++ record { left = left; concerned = concerns op } ∷ []
  pub own : new.own ≡ old.own ++ length log ∷ []
  pub numbers : new.numbers ≡ old.numbers
  pub table : new.table ≡ old.table

-- The value was taken out in a last turn, behind the history. Where the pass holds all numbers, all holds are its own
pub record Closes {T : Type 0} (step : T → Past T → Type 0) (first : T) (pass : Caller (Past T)) (value : T) : Type 0 where
  pub log : List (Past T)
  pub stood : Stood step first log value
  pub follows : Follows number_of pass.numbers log pass.seen
  pub whole : HoldsAll pass.numbers → pass.own ≡ places 0 (length log)
