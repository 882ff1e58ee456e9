use Rattle.std.proofs.Common.{refl, subst, ◌≡◌, ℕ, List, Bool, true, [], ◌∷◌, ◌++◌, Option, Some, None, Ok}
use Rattle.std.specs.Prelude.{IsSomeAnd, is_some}
use Rattle.draid_names.specs.declared.journal.Entry.{Entry}
use Rattle.draid_rack.specs.declared.Rack as racks
use Rattle.draid_area.specs.declared.Area as areas
use Rattle.draid_script.specs.Grammar.{line_of}
use Rattle.draid_script.specs.Line.{Command, RunAgent, ShowJournal}
use Rattle.draid_script.specs.declared.name.CommandName.{CommandName}
use Rattle.draid_session.specs.Said.{Said}
use Rattle.draid_session.specs.Choices.{Choices}
use Rattle.draid_session.specs.Session.{Agrees, Desk, Finding, Untouched, Bare, Made, Open, Shut, Foreign, Unknown, Notes, Runs, Sitting, SittingTurns, TurnsBy}
use Rattle.draid_pool.specs.declared.pool.Pool.{Pool}
use Rattle.draid_run.specs.Desks.{IsDesk, asked_in}
use Rattle.draid_pool.specs.Shelves.{OnShelf}
use Rattle.draid_run.specs.Shelves.{HoldsDesk, TellsAsBefore}

-- what is asked of the open pool alone adds nothing to the journal
pub ask_notes : (choices : Choices) (finds : Finding → Type 0) (past : List Entry) (command : Command) (called : CommandName) → asked_in command ≡ Some called → (old : Desk) (saids : List Said) (new : Desk)
    (turns : TurnsBy choices finds (Ok command) old saids new) → Notes choices finds past (Ok command) old saids new turns []
ask_notes choices finds past (RunAgent least) called is old saids new turns = absurd (cc is)
ask_notes choices finds past ShowJournal called is old saids new turns = absurd (cc is)
ask_notes choices finds past command called is old saids new turns = refl

-- one more line is answered
pub runs_more : (choices : Choices) (finds : Finding → Type 0) (tells : Bool) (start : Sitting) (lines : List (List ℕ)) (replies : List (List Said)) (mid : Sitting) (line : List ℕ) (saids : List Said) (new : Sitting)
    → Runs choices finds tells start lines replies mid → SittingTurns choices finds (line_of line) mid saids new → Agrees tells new.desk
    → Runs choices finds tells start (lines ++ line ∷ []) (replies ++ saids ∷ []) new
runs_more choices finds tells start [] [] mid line saids new runs turns agrees = (new, subst (λ s. SittingTurns choices finds (line_of line) s saids new) runs turns, agrees, refl)
runs_more choices finds tells start [] (r ∷ rs) mid line saids new runs turns agrees = absurd runs
runs_more choices finds tells start (l ∷ ls) [] mid line saids new runs turns agrees = absurd runs
runs_more choices finds tells start (l ∷ ls) (r ∷ rs) mid line saids new runs turns agrees = (runs.0, runs.1, runs.2, runs_more choices finds tells runs.0 ls rs mid line saids new runs.3 turns agrees)

-- ---- whether the shelf tells

some_told : {T : Type 0} (o : Option T) (P : T → Type 0) → IsSomeAnd o P → true ≡ is_some o
some_told None P p = absurd p
some_told (Some t) P p = refl

desk_tells : {R A : Type 0} (rack : racks.Ghosts R) (area : areas.Ghosts A) (entry now : OnShelf) (pool : Option (Pool R A)) (x : Desk) → IsDesk rack area entry now pool x → Agrees (is_some now.held) x
desk_tells rack area entry now pool Untouched is = tt
desk_tells rack area entry now pool Bare is = some_told now.held _ is.shelf.1
desk_tells rack area entry now pool (Made told failed geometry) is = is.shelf.told_is
desk_tells rack area entry now pool (Open x) is = is.shelf.told
desk_tells rack area entry now pool (Shut crash x) is = is.shelf.told
desk_tells rack area entry now pool (Foreign known) is = tt
desk_tells rack area entry now pool Unknown is = tt

-- a desk says of the shelf what it does, as it did at the entry
pub desk_agrees : {R A : Type 0} (rack : racks.Ghosts R) (area : areas.Ghosts A) (entry now : OnShelf) (pool : Option (Pool R A)) (x : Desk) → TellsAsBefore entry now → IsDesk rack area entry now pool x
    → Agrees (is_some entry.held) x
desk_agrees rack area entry now pool x tells is = subst (λ b. Agrees b x) tells (desk_tells rack area entry now pool x is)

-- so does one without a pool
pub shelf_agrees : (x : Desk) (entry now : OnShelf) → HoldsDesk x entry now → Agrees (is_some now.held) x
shelf_agrees Untouched entry now is = tt
shelf_agrees Bare entry now is = some_told now.held _ is.1
shelf_agrees (Made told failed geometry) entry now is = is.told_is
shelf_agrees (Open x) entry now is = absurd is
shelf_agrees (Shut crash x) entry now is = is.told
shelf_agrees (Foreign known) entry now is = absurd is
shelf_agrees Unknown entry now is = tt
