-- Legal histories give the states of a pool's metaslabs at the end of a run, where they did at its beginning.
use Rattle.std.proofs.Common.{refl, ℕ, Bool, true, false, List, [], ◌∷◌, Option, Some, None, Global, sym, subst}
use Rattle.std.specs.Prelude.{⊤}
use Rattle.draid_session.specs.Choices.{Choices}
use Rattle.draid_session.specs.Places.{Outside, Place}
use Rattle.draid_session.specs.Sections.{RunsOn}
use Rattle.draid_session.specs.Present.{DeskReached}
use Rattle.draid_session.specs.Said.{Said}
use Rattle.draid_session.specs.Session.{Bare, Cause, Desk, Finding, Foreign, Made, Open, RecordFails, ShelfFails, Shut, Sitting, Unknown, Untouched}
use Rattle.draid_session.proofs.Reaching.{breaks_reached, run_reached}
use Rattle.draid_session.proofs.LanesCalm.{section_reached}
use Rattle.draid_run.proofs.Sectioned.{all_any, on_keeps}
use Rattle.draid_run.specs.Next.{next_desk}
use Rattle.draid_run.specs.Script.{BreaksAt, BreaksOff}
use Rattle.draid_exits.specs.declared.status.Status.{Status}
use Rattle.draid_exits.specs.declared.status.Status.TheVariants.{NoMemory, Record, ShelfFault}

at_reached : (alloc : Global) (cause : Cause) (lines : List (List ℕ)) (text : List ℕ) (saids : List Said) (mid last : Desk) → BreaksAt cause lines text saids mid last → DeskReached mid → DeskReached last
at_reached alloc cause lines text saids mid last b r = breaks_reached alloc cause mid last b.command b.breaks r

pub off_reached : (alloc : Global) (lines : List (List ℕ)) (ended : Status) (broken : Option (List ℕ)) (saids : List Said) (mid last : Desk) → BreaksOff lines ended broken saids mid last → DeskReached mid → DeskReached last
off_reached alloc lines ShelfFault None saids mid last b r = subst DeskReached (sym b.1) r
off_reached alloc lines ShelfFault (Some text) saids mid last b r = at_reached alloc ShelfFails lines text saids mid last b r
off_reached alloc lines (Record which at kind) None saids mid last b r = absurd b
off_reached alloc lines (Record which at kind) (Some text) saids mid last b r = at_reached alloc RecordFails lines text saids mid last b r
off_reached alloc lines NoMemory (Some text) saids mid last b r = at_reached alloc RecordFails lines text saids mid last b r
off_reached alloc lines ended None saids mid last b r = subst DeskReached (sym b.1) r
off_reached alloc lines ended (Some text) saids mid last b r = absurd b

-- so along lines, whatever these are
pub on_reached : (alloc : Global) (choices : Choices) (finds : Finding → Type 0) (tells : Bool) (lines : List (List ℕ)) (replies : List (List Said)) (to : Place) (old new : Sitting) → RunsOn choices finds tells Outside old lines replies to new
    → DeskReached old.desk → DeskReached new.desk
on_reached alloc choices finds tells lines replies to old new runs r =
    on_keeps choices finds tells DeskReached (λ (line : List ℕ). ⊤)
    (λ line a b saids any turns agrees p. run_reached alloc finds choices tells (line ∷ []) (saids ∷ []) a b (b, turns, agrees, refl) p)
    (λ x y lanes said section p. section_reached x choices lanes said y section p)
    (λ known later p. tt)
    Outside lines replies to old new (all_any lines) runs r

-- and so they do at the beginning of the next run
pub next_reached : (crash : Bool) (desk : Desk) → DeskReached desk → DeskReached (next_desk crash desk)
next_reached crash Untouched r = tt
next_reached crash Bare r = tt
next_reached crash (Made told failed geometry) r = tt
next_reached crash (Open x) r = r
next_reached true (Shut crashed x) r = r
next_reached false (Shut crashed x) r = r
next_reached crash (Foreign known) r = tt
next_reached crash Unknown r = tt
