-- An event leaves the tickets and live blocks of the objects that it doesn't concern.
use mathlib.Core.Bool.{true≢false}
use Rattle.std.proofs.Common.{◌≡◌, ◌+◌, ℕ, Bool, true, false, Option, Some, None, refl, ◌∙◌, ap, nat_lt, if◌then◌else◌, ⊎_elim}
use Rattle.draid_machine.specs.declared.names.Key.{Key}
use Rattle.draid_machine.specs.declared.names.Stage.{Stage}
use Rattle.draid_machine.specs.declared.names.Stage.TheVariants.{Writing, Live, Freed}
use Rattle.draid_machine.specs.declared.names.Held.{Held}
use Rattle.draid_machine.specs.declared.event.Event.{Event}
use Rattle.draid_machine.specs.declared.event.Event.TheVariants.{Begin, Put, Finish, Abort, Free, Fetch, Damage, Offline, Online, Attach, Detach, Upgrade, Close, Seal, Commit, Plan, Ready, Lend, LandStripe, LandBlock, Done, Cancel, Reopen}
use Rattle.draid_machine.specs.Concerns.{is_freed, is_freed_stage, is_opening, object_of}
use Rattle.draid_machine.specs.Names.{is_freed_by, key_eq}
use Rattle.draid_machine.specs.State.{Layout, State}
use Rattle.draid_machine.specs.Arms.{has_moved}
use Rattle.draid_machine.specs.After.{attached_core, rearranged_state, gone_state, live_state, is_freed_block, pass_over, mend_state, heal_state, unsourced}
use Rattle.draid_machine.specs.Step.{Step}
use Rattle.draid_machine.proofs.Small.{bool_cases, held_other, key_true}
use Rattle.draid_machine.proofs.Moves.{replan_cases}

-- a key of another object is another key
other_key : (mine key : Key) → (Some mine.object ≡ Some key.object → ⊥) → key_eq mine key ≡ false
other_key mine key apart =
    ⊎_elim (λ (same : key_eq mine key ≡ true). absurd (apart (ap (λ (k : Key). Some k.object) (key_true mine key same))))
    (λ (other : key_eq mine key ≡ false). other) (bool_cases (key_eq mine key))

held_in : (key : Key) {new made : State} → new ≡ made → new.core.held key ≡ made.core.held key
held_in key e = ap (λ (w : State). w.core.held key) e

-- both ways in which an event may end leave it
either : (key : Key) (kept : Option Held) (first : Bool) (one two : State) → one.core.held key ≡ kept → two.core.held key ≡ kept
    → (if first then one else two).core.held key ≡ kept
either key kept true one two e f = e
either key kept false one two e f = f

not_freed_by : (group : ℕ) (stage : Stage) → is_freed_stage stage ≡ false → is_freed_by group stage ≡ false
not_freed_by group (Writing columns missed) e = refl
not_freed_by group Live e = refl
not_freed_by group (Freed freed) e = absurd (true≢false e)

stays_at_commit : (group : ℕ) (held : Option Held) → is_freed held ≡ false → (if is_freed_block group held then None else held) ≡ held
stays_at_commit group None e = refl
stays_at_commit group (Some h) e = ap (λ (gone : Bool). if gone then None else Some h) (not_freed_by group h.stage e)

pub others_stay : (l : Layout) (w new : State) (event : Event) (key : Key) → Step l w event new → is_opening event ≡ false
    → (object_of event ≡ Some key.object → ⊥) → is_freed (w.core.held key) ≡ false → new.core.held key ≡ w.core.held key
others_stay l w new (Begin mine first stripes len birth digest) key s o n f = held_in key s.made ∙ held_other w.core.held mine key _ (other_key mine key n)
others_stay l w new (Put mine landed failed) key s o n f = held_in key s.made ∙ held_other w.core.held mine key _ (other_key mine key n)
others_stay l w new (Finish mine) key s o n f = held_in key s.made
    ∙ either key (w.core.held key) (nat_lt l.parity s.m) (gone_state w mine) (live_state w mine s.h)
    (held_other w.core.held mine key _ (other_key mine key n)) (held_other w.core.held mine key _ (other_key mine key n))
others_stay l w new (Abort mine) key s o n f = held_in key s.made ∙ held_other w.core.held mine key _ (other_key mine key n)
others_stay l w new (Free mine group) key s o n f = held_in key s.made ∙ held_other w.core.held mine key _ (other_key mine key n)
others_stay l w new (Fetch mine failed) key s o n f = held_in key s.made
others_stay l w new (Damage leaf sector failed) key s o n f = held_in key s.made
others_stay l w new (Offline leaf) key s o n f = held_in key s.made
others_stay l w new (Online leaf) key s o n f = held_in key s.made
others_stay l w new (Attach slot arm) key s o n f = held_in key s.made
    ∙ replan_cases l (λ v. v.core.held key ≡ w.core.held key) (rearranged_state l w s.last (attached_core w.core slot arm s.last)) (has_moved l w.core (attached_core w.core slot arm s.last)) w.core.pass
    (λ none. refl) (λ p pass kind. refl) (λ p pass kind. refl)
others_stay l w new (Detach slot arm) key s o n f = held_in key s.made
others_stay l w new Upgrade key s o n f = held_in key s.made
others_stay l w new (Close group) key s o n f = held_in key s.made
others_stay l w new (Seal group failed) key s o n f = held_in key s.made
others_stay l w new (Commit group) key s o n f = held_in key s.made ∙ stays_at_commit group (w.core.held key) f
others_stay l w new (Plan kind) key s o n f = held_in key s.made
others_stay l w new Ready key s o n f = held_in key s.made
others_stay l w new (Lend failed) key s o n f = held_in key s.made
others_stay l w new (LandStripe pass serial failed) key s o n f = held_in key s.made
    ∙ either key (w.core.held key) (nat_lt l.parity (unsourced l s.n)) (pass_over w s.p 1 (s.n.stripe + 1)) (mend_state l w s.p s.n s.h failed.items) refl refl
others_stay l w new (LandBlock pass serial failed patched unreadable) key s o n f = held_in key s.made
    ∙ either key (w.core.held key) unreadable (pass_over w s.p 1 (s.h.first + s.h.stripes)) (heal_state l w s.p s.n s.h failed.items patched.items s.whole) refl refl
others_stay l w new (Done failed) key s o n f = held_in key s.made
others_stay l w new Cancel key s o n f = held_in key s.made
others_stay l w new (Reopen group doubtful) key s o n f = absurd (true≢false o)
