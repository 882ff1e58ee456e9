-- A shard that stood for a state stands for the one behind an event.
use Rattle.std.proofs.Common.{◌≡◌, ◌++◌, [], ◌∷◌, List, Option, Some, None, refl, sym, subst}
use Rattle.draid_rack.specs.Rack.{OnTold, Told, OnBothTold}
use Rattle.draid_rack.specs.declared.Rack.{Ghosts}
use Rattle.draid_machine.specs.declared.event.Event.{Event}
use Rattle.draid_machine.specs.Created.{IsReached, created}
use Rattle.draid_machine.specs.State.{IsLayout, Layout, State}
use Rattle.draid_machine.specs.Step.{Run, Step}
use Rattle.draid_layouts.proofs.Layouts.{layout_is}
use Rattle.draid_segments.specs.Acts.{Acts, WritesPieces, pieces_after}
use Rattle.draid_segments.specs.Segments.{Backed, Pieces}
use Rattle.draid_segments.proofs.Whole.{event_backed}
use Rattle.draid_shard.specs.declared.shard.Shard.{Shard}
use Rattle.draid_shard.specs.Calls.{ActsOn}
use Rattle.draid_shard.specs.Part.{IsPart, Part, layout_in}
use Rattle.draid_shard.specs.Stands.{StandsFor}
use Rattle.draid_shard.specs.States.{Does, DoesNone, Leads, layout_by, part_of}

run_push : (l : Layout) (w mid new : State) (es : List Event) (e : Event) → Run l w es mid → Step l mid e new → Run l w (es ++ e ∷ []) new
run_push l w mid new [] e run step = (new, subst (λ x. Step l x e new) run step, refl)
run_push l w mid new (x ∷ xs) e run step = (run.0, run.1, run_push l run.0 mid new xs e run.2 step)

-- a state behind one that was reached is reached
pub reached_more : (l : Layout) (w new : State) (e : Event) → IsReached l w → Step l w e new → IsReached l new
reached_more l w new e reached step = record {
  version = reached.version;
  one = reached.one;
  events = reached.events ++ e ∷ [];
  run = run_push l (created l reached.version) w new reached.events e reached.run step;
}

-- what is told stays told
told_on : (o p : Option Told) (P : Told → Told → Type 0) (A B : Told → Type 0) → ((x y : Told) → P x y → A x → B y) → OnBothTold o p P → OnTold o A → OnTold p B
told_on None p P A B f h a = rw h tt
told_on (Some x) None P A B f h a = absurd h
told_on (Some x) (Some y) P A B f h a = f x y h a

pub has_layout : (part : Part) → IsPart part → IsLayout (layout_in part)
has_layout part is = layout_is part.geometry part.perms part.number is.layout

-- the state, the step and what stands behind an event
abbrev pub StandsAfter : {R A : Type 0} → Ghosts R → Shard R A → Shard R A → State → Event → Pieces → Pieces → Type 0
StandsAfter rack old new w e pieces written = (v : State) × (step : Step (layout_by old) w e v) × StandsFor rack new v (pieces_after (layout_by old) w e v step pieces written)

pub event_stands : {R A : Type 0} (rack : Ghosts R) (old new : Shard R A) (e : Event) (w : State) (pieces written : Pieces) → IsPart (part_of old) → Does old new e → ActsOn rack old new e written
    → StandsFor rack old w pieces → ((v : State) (step : Step (layout_by old) w e v) → WritesPieces (layout_by old) w e v step pieces written)
    → StandsAfter rack old new w e pieces written
event_stands rack old new e w pieces written is does acts stands same = (
  next.state,
  next.step,
  record {
    is_in = next.is_in;
    reached = subst (λ part. IsReached (layout_in part) next.state) (sym does.part) (reached_more l w next.state e stands.reached next.step);
    segments = subst (λ part. OnTold (rack.told new.rack) (Backed (layout_in part) after next.state)) (sym does.part)
        (told_on (rack.told old.rack) (rack.told new.rack) (Acts l w e next.state next.step written) (Backed l pieces w) (Backed l after next.state) backed
        (acts w next.state next.step stands.reached stands.is_in) stands.segments);
  },
)
  where
    l : Layout
    l = layout_by old

    next : Leads l w e new
    next = does.leads w stands.reached stands.is_in

    after : Pieces
    after = pieces_after l w e next.state next.step pieces written

    backed : (x y : Told) → Acts l w e next.state next.step written x y → Backed l pieces w x → Backed l after next.state y
    backed x y a b = event_backed l (has_layout (part_of old) is) w stands.reached written x y pieces b e next.state next.step a (same next.state next.step)

pub none_stands : {R A : Type 0} (rack : Ghosts R) (old new : Shard R A) (w : State) (pieces : Pieces) → DoesNone old new → rack.told new.rack ≡ rack.told old.rack → StandsFor rack old w pieces
    → StandsFor rack new w pieces
none_stands rack old new w pieces none told stands = record {
  is_in = none.stays w stands.is_in;
  reached = subst (λ part. IsReached (layout_in part) w) (sym none.part) stands.reached;
  segments = subst (λ part. OnTold (rack.told new.rack) (Backed (layout_in part) pieces w)) (sym none.part)
      (subst (λ told. OnTold told (Backed (layout_by old) pieces w)) (sym told) stands.segments);
}
