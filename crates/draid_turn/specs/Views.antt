-- What a seat knows, and what it knows after each kind of step.
use Rattle.std.specs.Prelude.{◌++◌, ℕ, List, [], length, nat_lt, if◌then◌else◌}
use Rattle.draid_turn.specs.declared.view.SeatStage.TheVariants.{Idle, Waiting, Holding}
use Rattle.draid_turn.specs.declared.view.SeatView.{SeatView}
use Rattle.draid_turn.specs.declared.span.Span.{Span}
use Rattle.draid_turn.specs.Lists.{longer, merge, places, shorter}
use Rattle.draid_turn.specs.Numbers.{all_numbers, without}

module _ {E : Type 0} where
  -- a seat between two calls
  abbrev pub idle_view : List E → List ℕ → List Span → SeatView E
  idle_view seen own numbers = record { stage = Idle; seen = seen; heard = []; heard_by = []; own = own; numbers = numbers }

  -- the first seat of a table
  abbrev pub first_view : SeatView E
  first_view = idle_view [] [] all_numbers

  -- the seat drew a ticket
  abbrev pub waiting_view : ℕ → SeatView E → SeatView E
  waiting_view ticket view = record { stage = Waiting ticket; seen = view.seen; heard = view.heard; heard_by = view.heard_by; own = view.own; numbers = view.numbers }

  -- it has its turn and the value, and has seen the whole history
  abbrev pub holding_view : ℕ → List E → SeatView E → SeatView E
  holding_view ticket log view = record { stage = Holding ticket; seen = log; heard = view.heard; heard_by = view.heard_by; own = view.own; numbers = view.numbers }

  -- it added to the history, and what it added is its own
  abbrev pub told_view : List E → SeatView E → SeatView E
  told_view added view = record {
    stage = view.stage;
    seen = view.seen ++ added;
    heard = view.heard;
    heard_by = [];
    own = view.own ++ places (length view.seen) (length added);
    numbers = view.numbers;
  }

  -- it has given the value back
  abbrev pub served_view : SeatView E → SeatView E
  served_view view = record { stage = Idle; seen = view.seen; heard = view.heard; heard_by = view.heard_by; own = view.own; numbers = view.numbers }

  -- a seat that gave numbers up, and the new seat that has them
  abbrev pub giver_view : List Span → SeatView E → SeatView E
  giver_view given view = record { stage = view.stage; seen = view.seen; heard = view.heard; heard_by = []; own = view.own; numbers = without view.numbers given }

  abbrev pub new_view : List Span → SeatView E → SeatView E
  new_view given view = idle_view view.seen [] given

  -- two seats as one, and the other one, which is spent
  abbrev pub united_view : SeatView E → SeatView E → SeatView E
  united_view view other = record {
    stage = Idle;
    seen = longer view.seen other.seen;
    heard = shorter view.seen other.seen;
    heard_by = if nat_lt (length view.seen) (length other.seen) then view.numbers else other.numbers;
    own = merge view.own other.own;
    numbers = view.numbers ++ other.numbers;
  }

  abbrev pub spent_view : SeatView E
  spent_view = idle_view [] [] []

  -- it knows that it has seen what it heard
  abbrev pub learned_view : SeatView E → SeatView E
  learned_view view = record { stage = view.stage; seen = view.seen; heard = []; heard_by = []; own = view.own; numbers = view.numbers }
