-- A crash among the lines of a run, and what it leaves on the shelf.
use Rattle.std.proofs.Common.{◌≡◌, ◌∙◌, refl, sym, subst, ℕ, Bool, false, true, List, [], ◌∷◌, ◌++◌, Option, None, Result, Ok, Err}
use Rattle.draid_script.specs.Grammar.{line_of}
use Rattle.draid_script.specs.Line.{Command, CrashPool, Silent}
use Rattle.draid_script.specs.declared.fault.LineFault.{LineFault}
use Rattle.draid_reply.specs.declared.reply.Reply.{Reply}
use Rattle.draid_reply.specs.declared.reply.Reply.TheVariants.{Crashed}
use Rattle.draid_rack.specs.declared.Rack as racks
use Rattle.draid_area.specs.declared.Area as areas
use Rattle.draid_shelf.specs.Kits.{OnHeld}
use Rattle.draid_session.specs.Places.{Ended, Inside, Outside, Place, place_after, place_behind}
use Rattle.draid_session.specs.Sections.{RunsOn}
use Rattle.draid_session.specs.Said.{Said}
use Rattle.draid_session.specs.Choices.{Choices}
use Rattle.draid_session.specs.Session.{Desk, Finding, Untouched, Bare, Made, Open, Shut, Foreign, Unknown, Sitting}
use Rattle.draid_pool.specs.Returning.{IsFirm}
use Rattle.draid_pool.specs.Shelves.{OnShelf}
use Rattle.draid_pool.specs.declared.pool.Pool.{Pool}
use Rattle.draid_run.specs.Crashes.{IsFirmShut, LeavesFirm, LeavesFirmAt, crash_at, crash_behind, crash_came_last, is_crash}
use Rattle.draid_run.specs.Desks.{IsPool}
use Rattle.draid_run.specs.Shelves.{IsClosed}

-- where a reply says that a crash came, the shelf is firm
pub crash_firm : {R A : Type 0} (now : OnShelf) (pool : Option (Pool R A)) (reply : Reply) → (reply ≡ Crashed → IsFirmShut now pool) → is_crash reply ≡ true → IsFirmShut now pool
crash_firm now pool Crashed firm is = firm refl
crash_firm now pool reply firm is = absurd (cc is)

-- whether a crash came last, behind one more line
crash_more : (choices : Choices) (finds : Finding → Type 0) (tells : Bool) (here : Place) (start : Sitting) (from : Place) (came : Bool) (lines : List (List ℕ)) (replies : List (List Said)) (to : Place) (mid : Sitting) (line : List ℕ) (saids : List Said)
    → RunsOn choices finds tells here start lines replies to mid → crash_came_last from came (lines ++ line ∷ []) (replies ++ saids ∷ []) ≡ crash_at (place_after from lines) (crash_came_last from came lines replies) line saids
crash_more choices finds tells here start from came [] [] to mid line saids runs = refl
crash_more choices finds tells here start from came [] (r ∷ rs) to mid line saids runs = absurd runs
crash_more choices finds tells here start from came (l ∷ ls) [] to mid line saids runs = absurd runs
crash_more choices finds tells here start from came (l ∷ ls) (r ∷ rs) to mid line saids runs = crash_more choices finds tells runs.1 runs.0 (place_behind from l) (crash_at from came l r) ls rs to mid line saids runs.4

-- the shelf is firm where it was, and an empty line came, or where the line is a crash
module _ {R A : Type 0} (before now : OnShelf) (pool pool' : Option (Pool R A)) (saids : List Said) (came : Bool) (firm : came ≡ true → IsFirmShut before pool) where
  firm_behind : (command : Result Command LineFault) → LeavesFirm command saids before pool now pool' → crash_behind came command saids ≡ true → IsFirmShut now pool'
  firm_behind (Ok Silent) leaves is = (let was = firm is in (subst (λ (s : OnShelf). OnHeld s.held IsFirm) (sym leaves.0) was.0, leaves.1 ∙ was.1))
  firm_behind (Ok CrashPool) leaves is = leaves is
  firm_behind (Ok command) leaves is = absurd (cc is)
  firm_behind (Err fault) leaves is = absurd (cc is)

  firm_place : (place : Place) (line : List ℕ) → LeavesFirmAt place line saids before pool now pool' → crash_at place came line saids ≡ true → IsFirmShut now pool'
  firm_place Outside line leaves is = firm_behind (line_of line) leaves is
  firm_place (Inside lanes) line leaves is = absurd (cc is)
  firm_place Ended line leaves is = absurd (cc is)

pub firm_more : {R A : Type 0} (choices : Choices) (finds : Finding → Type 0) (tells : Bool) (start : Sitting) (lines : List (List ℕ)) (replies : List (List Said)) (here : Place) (mid : Sitting) (line : List ℕ) (saids : List Said)
    (before now : OnShelf) (pool pool' : Option (Pool R A)) → RunsOn choices finds tells Outside start lines replies here mid → place_after Outside lines ≡ here → (crash_came_last Outside false lines replies ≡ true → IsFirmShut before pool)
    → LeavesFirmAt here line saids before pool now pool' → crash_came_last Outside false (lines ++ line ∷ []) (replies ++ saids ∷ []) ≡ true → IsFirmShut now pool'
firm_more choices finds tells start lines replies here mid line saids before now pool pool' runs stands firm leaves is =
    firm_place before now pool pool' saids (crash_came_last Outside false lines replies) firm (place_after Outside lines) line (subst (λ p. LeavesFirmAt p line saids before pool now pool') (sym stands) leaves)
    (sym (crash_more choices finds tells Outside start Outside false lines replies here mid line saids runs) ∙ is)

-- no pool is open then
closed_none : {R A : Type 0} (rack : racks.Ghosts R) (area : areas.Ghosts A) (x : Desk) → IsPool rack area None x → IsClosed x
closed_none rack area Untouched is = tt
closed_none rack area Bare is = tt
closed_none rack area (Made told failed geometry) is = tt
closed_none rack area (Open y) is = absurd is
closed_none rack area (Shut crash y) is = tt
closed_none rack area (Foreign known) is = absurd is
closed_none rack area Unknown is = tt

-- so the shelf is firm as the run ends
pub firm_left : {R A : Type 0} (rack : racks.Ghosts R) (area : areas.Ghosts A) (x : Desk) (before now : OnShelf) (pool : Option (Pool R A)) → IsPool rack area pool x → (IsClosed x → now ≡ before) → IsFirmShut before pool
    → OnHeld now.held IsFirm
firm_left rack area x before now pool stands same firm =
    let closed = closed_none rack area x (subst (λ p. IsPool rack area p x) firm.1 stands) in
    subst (λ (s : OnShelf). OnHeld s.held IsFirm) (sym (same closed)) firm.0
