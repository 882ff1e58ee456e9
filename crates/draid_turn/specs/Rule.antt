-- The rule of the lock's table, in three parts. Word 0 is the next ticket, and word 1 the one that is served.
use Rattle.std.specs.Prelude.{◌≡◌, ◌≤◌, ◌<◌, ◌+◌, ◌⊎◌, ◌^◌, ◌++◌, ⊤, ℕ, Bool, true, false, List, [], length, nat_eq, slice_index, Option, Some, All, count_by, sum_by}
use mathlib.Core.Option.{some}
use lib.ListN.{get_elem?}
use Rattle.atomic_table.specs.Table.{State}
use Rattle.draid_turn.specs.declared.view.SeatStage.{SeatStage}
use Rattle.draid_turn.specs.declared.view.SeatStage.TheVariants.{Idle, Waiting, Holding}
use Rattle.draid_turn.specs.declared.view.SeatView.{SeatView}
use Rattle.draid_turn.specs.Lists.{Each, StartsWith, Ascends, one_within, times}
use Rattle.draid_turn.specs.Numbers.{HoldsNone, IsForeign, holds, number_limit}

abbrev pub has_ticket : SeatStage → Bool
has_ticket Idle = false
has_ticket (Waiting ticket) = true
has_ticket (Holding ticket) = true

-- whether this is its ticket
abbrev pub is_ticket : ℕ → SeatStage → Bool
is_ticket n Idle = false
is_ticket n (Waiting ticket) = nat_eq ticket n
is_ticket n (Holding ticket) = nat_eq ticket n

-- who has its turn has the ticket that is served
abbrev pub IsServed : ℕ → SeatStage → Type 0
IsServed serving Idle = ⊤
IsServed serving (Waiting ticket) = ⊤
IsServed serving (Holding ticket) = ticket ≡ serving

abbrev pub HoldsNothing : SeatStage → Type 0
HoldsNothing Idle = ⊤
HoldsNothing (Waiting ticket) = ⊤
HoldsNothing (Holding ticket) = ⊥

pub record IsHolding (stage : SeatStage) : Type 0 where
  pub ticket : ℕ
  pub is : stage ≡ Holding ticket

module _ {T E : Type 0} (fact : List E → T → Type 0) where
  -- the slot has a value with the fact of this history, and no seat has it
  pub record AtHome (log : List E) (s : State (Option T) (SeatView E)) : Type 0 where
    pub value : T
    pub there : get_elem? s.homes 0 ≡ some (some (Some value))
    pub kept : fact log value
    pub nobody : Each (λ (view : SeatView E). HoldsNothing view.stage) s.views

  -- a seat has the value, and has seen the whole history
  pub record Away (log : List E) (s : State (Option T) (SeatView E)) : Type 0 where
    pub seat : ℕ
    pub ticket : ℕ
    pub who : SeatView E
    pub there : get_elem? s.views seat ≡ some who
    pub holding : who.stage ≡ Holding ticket
    pub whole : who.seen ≡ log

  -- Part one, the tickets and where the value is. Each ticket from the served one to the last one drawn is just one
  -- seat's, the seat that has its turn has the served one, and the log begins with what each seat has seen
  pub record TurnsInOrder (log : List E) (s : State (Option T) (SeatView E)) : Type 0 where
    pub wide : length s.words ≡ 2
    pub deep : length s.homes ≡ 1
    pub fits : slice_index s.words 0 < 2 ^ 64
    pub ordered : slice_index s.words 1 ≤ slice_index s.words 0
    pub drawn : count_by (λ (view : SeatView E). has_ticket view.stage) s.views + slice_index s.words 1 ≡ slice_index s.words 0
    pub tickets : (n : ℕ) → count_by (λ (view : SeatView E). is_ticket n view.stage) s.views ≡ one_within (slice_index s.words 1) (slice_index s.words 0) n
    pub served : Each (λ (view : SeatView E). IsServed (slice_index s.words 1) view.stage) s.views
    pub behind : Each (λ (view : SeatView E). StartsWith log view.seen) s.views
    pub heard : Each (λ (view : SeatView E). StartsWith log view.heard) s.views
    pub slot : AtHome log s ⊎ Away log s

-- Part two, the places. Each place of the log is just one seat's, and each seat lists its own in ascending order
pub record PlacesOnce {E : Type 0} (log : List E) (views : List (SeatView E)) : Type 0 where
  pub single : (x : ℕ) → sum_by (λ (view : SeatView E). times x view.own) views ≡ one_within 0 (length log) x
  pub ascending : Each (λ (view : SeatView E). Ascends view.own) views

-- Part three, the numbers. None is held by two seats, a seat that holds none made nothing, and no hold that a seat
-- hasn't seen concerns a number that it holds. So it is of what a seat heard, by the numbers of the one that told it
pub record NumbersOnce {E : Type 0} (number : E → Option ℕ) (log : List E) (views : List (SeatView E)) : Type 0 where
  pub apart : (n : ℕ) → count_by (λ (view : SeatView E). holds n view.numbers) views ≤ one_within 0 number_limit n
  pub made_none : Each (λ (view : SeatView E). HoldsNone view.numbers → view.own ≡ []) views
  pub unseen : Each (λ (view : SeatView E). (rest : List E) → log ≡ view.seen ++ rest → All (IsForeign number view.numbers) rest) views
  pub within : Each (λ (view : SeatView E). (n : ℕ) → holds n view.heard_by ≡ true → holds n view.numbers ≡ true) views
  pub unheard : Each (λ (view : SeatView E). (rest : List E) → log ≡ view.heard ++ rest → All (IsForeign number view.heard_by) rest) views

pub record Rule {T E : Type 0} (fact : List E → T → Type 0) (number : E → Option ℕ) (s : State (Option T) (SeatView E)) : Type 0 where
  pub log : List E
  pub turns : TurnsInOrder fact log s
  pub places : PlacesOnce log s.views
  pub numbers : NumbersOnce number log s.views
