-- What each kind of step tells the caller that makes it.
use Rattle.std.specs.Prelude.{◌≡◌, ◌∷◌, ℕ, List, [], Option, Some, length}
use Rattle.atomic_table.specs.Table.{Me, Step, rest}
use Rattle.draid_turn.specs.declared.view.SeatStage.TheVariants.{Waiting}
use Rattle.draid_turn.specs.declared.view.SeatView.{SeatView}
use Rattle.draid_turn.specs.Calls.{Follows}
use Rattle.draid_turn.specs.Lists.{places}
use Rattle.draid_turn.specs.Numbers.{HoldsAll}
use Rattle.draid_turn.specs.Views.{holding_view, learned_view, served_view, told_view, waiting_view}

module _ {T E : Type 0} where
  abbrev pub looked : Step (Option T) → Me (Option T) (SeatView E) → ℕ → Me (Option T) (SeatView E) → Type 0
  looked step old found new = new ≡ old

  -- where the word was as expected, it is the seat's ticket
  abbrev pub drew : Step (Option T) → Me (Option T) (SeatView E) → ℕ → Me (Option T) (SeatView E) → Type 0
  drew step old found new = (new.1 ≡ old.1) × (found ≡ step.first → new.0 ≡ waiting_view found old.0) × ((found ≡ step.first → ⊥) → new.0 ≡ old.0)

  -- the history has so much more
  abbrev pub told : List E → Step (Option T) → Me (Option T) (SeatView E) → ℕ → Me (Option T) (SeatView E) → Type 0
  told added step old found new = new ≡ (told_view added old.0, old.1)

  abbrev pub served : Step (Option T) → Me (Option T) (SeatView E) → ℕ → Me (Option T) (SeatView E) → Type 0
  served step old found new = new ≡ (served_view old.0, rest old.1)

  abbrev pub learned : (E → Option ℕ) → Step (Option T) → Me (Option T) (SeatView E) → ℕ → Me (Option T) (SeatView E) → Type 0
  learned number step old found new = (new ≡ (learned_view old.0, old.1)) × Follows number old.0.heard_by old.0.seen old.0.heard

module _ {T E : Type 0} (fact : List E → T → Type 0) (number : E → Option ℕ) where
  -- the seat's ticket is served, and it has the value
  pub record Takes (old : Me (Option T) (SeatView E)) (ticket : ℕ) (new : Me (Option T) (SeatView E)) : Type 0 where
    pub value : T
    pub log : List E
    pub kept : fact log value
    pub follows : Follows number old.0.numbers log old.0.seen
    pub made_all : HoldsAll old.0.numbers → old.0.own ≡ places 0 (length log)
    pub view_is : new.0 ≡ holding_view ticket log old.0
    pub slot_is : new.1 ≡ (0, Some value) ∷ old.1

  -- where the word is the seat's ticket, it has the value; else nothing changes
  abbrev pub took : Step (Option T) → Me (Option T) (SeatView E) → ℕ → Me (Option T) (SeatView E) → Type 0
  took step old found new = (ticket : ℕ) → old.0.stage ≡ Waiting ticket → (ticket ≡ found → Takes old ticket new) × ((ticket ≡ found → ⊥) → new ≡ old)

-- the seat has the slot, and the value in it is so
pub record HasValue {T : Type 0} (carried : List (ℕ × Option T)) (fact : T → Type 0) : Type 0 where
  pub value : T
  pub is : carried ≡ (0, Some value) ∷ []
  pub so : fact value
