-- Which runs end by a crash, and what that leaves on the shelf.
use Rattle.std.specs.Prelude.{◌≡◌, ⊤, ℕ, Bool, true, false, List, [], ◌∷◌, Option, None, Result, Ok}
use Rattle.draid_script.specs.Grammar.{line_of}
use Rattle.draid_script.specs.Line.{Command, CrashPool, Silent}
use Rattle.draid_script.specs.declared.fault.LineFault.{LineFault}
use Rattle.draid_reply.specs.declared.reply.Reply.{Reply}
use Rattle.draid_reply.specs.declared.reply.Reply.TheVariants.{Crashed}
use Rattle.draid_shelf.specs.Kits.{OnHeld}
use Rattle.draid_session.specs.Places.{Outside, Place, place_behind}
use Rattle.draid_session.specs.Said.{Said}
use Rattle.draid_pool.specs.Returning.{IsFirm}
use Rattle.draid_pool.specs.Shelves.{OnShelf}
use Rattle.draid_pool.specs.declared.pool.Pool.{Pool}

-- ---- lines

-- a reply says that a crash came
abbrev pub is_crash : Reply → Bool
is_crash Crashed = true
is_crash reply = false

-- that to a line does
abbrev pub say_crash : List Said → Bool
say_crash [] = false
say_crash (said ∷ saids) = is_crash said.reply

-- whether a crash came last, behind a line and its replies, by whether it did before: empty lines and comments don't count
abbrev pub crash_behind : Bool → Result Command LineFault → List Said → Bool
crash_behind before (Ok Silent) saids = before
crash_behind before (Ok CrashPool) saids = say_crash saids
crash_behind before command saids = false

-- so by where the run stands: in a section none comes
abbrev pub crash_at : Place → Bool → List ℕ → List Said → Bool
crash_at Outside before line saids = crash_behind before (line_of line) saids
crash_at place before line saids = false

-- so behind some lines, from a place on
abbrev pub crash_came_last : Place → Bool → List (List ℕ) → List (List Said) → Bool
crash_came_last place before [] [] = before
crash_came_last place before (line ∷ lines) (saids ∷ replies) = crash_came_last (place_behind place line) (crash_at place before line saids) lines replies
crash_came_last place before lines replies = false

-- ---- the shelf

-- the pool is back on the shelf, and nothing that this tells is soft
abbrev pub IsFirmShut : {R A : Type 0} → OnShelf → Option (Pool R A) → Type 0
IsFirmShut now pool = OnHeld now.held IsFirm × (pool ≡ None)

-- What a line leaves of the shelf and the open pool: an empty line leaves them alone, and behind a crash the shelf is firm.
abbrev pub LeavesFirm : {R A : Type 0} → Result Command LineFault → List Said → OnShelf → Option (Pool R A) → OnShelf → Option (Pool R A) → Type 0
LeavesFirm (Ok Silent) saids before pool now pool' = (now ≡ before) × (pool' ≡ pool)
LeavesFirm (Ok CrashPool) saids before pool now pool' = say_crash saids ≡ true → IsFirmShut now pool'
LeavesFirm command saids before pool now pool' = ⊤

-- so by where the run stands, since a section has no crash
abbrev pub LeavesFirmAt : {R A : Type 0} → Place → List ℕ → List Said → OnShelf → Option (Pool R A) → OnShelf → Option (Pool R A) → Type 0
LeavesFirmAt Outside line saids before pool now pool' = LeavesFirm (line_of line) saids before pool now pool'
LeavesFirmAt place line saids before pool now pool' = ⊤
