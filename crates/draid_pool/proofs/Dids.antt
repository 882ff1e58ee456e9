-- A shard that stands for a metaslab stands for the one behind a call's event, or behind a call without one.
use Rattle.std.proofs.Common.{◌≡◌, ◌≤◌, ◌+◌, ◌-◌, ◌^◌, ◌==◌, ◌++◌, ◌∙◌, [], ◌∷◌, ℕ, List, Option, Some, None, arith, refl, sym, ap, subst, min}
use Rattle.std.specs.Prelude.{count_by}
use Rattle.draid_rack.specs.Rack.{Told, OnBothTold}
use Rattle.draid_rack.specs.declared.Rack as racks
use Rattle.draid_area.specs.declared.Area as areas
use Rattle.draid_machine.specs.declared.event.Event.{Event}
use Rattle.draid_machine.specs.State as machine
use Rattle.draid_machine.specs.Step.{Run, Step}
use Rattle.draid_segments.specs.Acts as segments
use Rattle.draid_segments.specs.Segments.{Pieces}
use Rattle.draid_entries.specs.History.{limit_in, reserved_of}
use Rattle.draid_shard.specs.Calls.{ActsOn, SameAreas, SameKit, SameReserve}
use Rattle.draid_shard.specs.Fits.{Valid}
use Rattle.draid_shard.specs.Part.{Part, layout_in}
use Rattle.draid_shard.specs.Stands.{StandsFor}
use Rattle.draid_shard.specs.States.{Does, DoesNone, IsIn, layout_by, part_of}
use Rattle.draid_shard.specs.declared.shard.Shard.{Shard}
use Rattle.draid_shard.proofs.Standing.{event_stands, none_stands}
use Rattle.draid_session.specs.Follows.{MetaslabActs, CountsRise, HarmBoth, HarmBy, failed_in, uses}
use Rattle.draid_session.specs.Holds.{Did}
use Rattle.draid_session.specs.State.{Metaslab}
use Rattle.draid_objects.proofs.Moving.{blocks_moved}
use Rattle.draid_pool.specs.Bytes.{KnowsFinished}
use Rattle.draid_pool.specs.Metaslabs.{IsMetaslab, counts_of, harm_of}
use Rattle.draid_pool.specs.Records.{HasRecords}
use Rattle.draid_pool.proofs.Bytes.{moved_known}
use Rattle.draid_pool.proofs.Imaged.{LeavesImages, records_kept, step_keeps}
use Rattle.draid_shard.proofs.Standing.{has_layout}

pub run_push : (l : machine.Layout) (w mid new : machine.State) (es : List Event) (e : Event) → Run l w es mid → Step l mid e new → Run l w (es ++ e ∷ []) new
run_push l w mid new [] e run step = (new, subst (λ x. Step l x e new) run step, refl)
run_push l w mid new (x ∷ xs) e run step = (run.0, run.1, run_push l run.0 mid new xs e run.2 step)

harm_by : (l : machine.Layout) (w v : machine.State) (e : Event) (step : Step l w e v) (pieces : Pieces) (o p : Option Told)
    → OnBothTold o p (segments.Acts l w e v step pieces) → HarmBoth (harm_of o) (harm_of p) (HarmBy l w e v)
harm_by l w v e step pieces None p h = ap harm_of h
harm_by l w v e step pieces (Some x) None h = absurd h
harm_by l w v e step pieces (Some x) (Some y) h = record {
  step = step;
  pieces = pieces;
  before = x;
  after = y;
  acts = h;
  harm_before = λ leaf sector. refl;
  harm_after = λ leaf sector. refl;
}

-- the counts of devices that a call may have raised which leaves the areas
pub record Raises {R A : Type 0} (rack : racks.Ghosts R) (area : areas.Ghosts A) (failed : List ℕ) (old new : Shard R A) : Type 0 where
  pub areas_are : SameAreas old new
  pub later : (who : Option ℕ) → rack.faults old.rack who ≤ rack.faults new.rack who
  pub cause : (leaf : ℕ) → min (rack.faults old.rack (Some leaf) + count_by (λ l. l == leaf) failed) (2 ^ 64 - 1) ≤ rack.faults new.rack (Some leaf)

-- the metaslab behind an event
pub record Done {R A : Type 0} (rack : racks.Ghosts R) (area : areas.Ghosts A) (part : Part) (pieces : Pieces) (new : Shard R A) (e : Event) (x : Metaslab) : Type 0 where
  pub reached : Metaslab
  pub step : Step (layout_in part) x.world e reached.world
  pub acts : MetaslabActs (layout_in part) (Did e reached.world) x reached
  pub is : IsMetaslab rack area part pieces new reached

module _ {R A : Type 0} (rack : racks.Ghosts R) (area : areas.Ghosts A) where
  rises : (failed : List ℕ) (old new : Shard R A) (w v : machine.State) → Raises rack area failed old new → CountsRise w v failed (counts_of rack area old) (counts_of rack area new)
  rises failed old new w v r = record {
    rack = r.later None;
    even = (let e = ap area.faults r.areas_are.even in omega (arith, e));
    odd = (let e = ap area.faults r.areas_are.odd in omega (arith, e));
    leaves = λ leaf stays. r.cause leaf;
  }

  -- the areas have the records that they had
  pub records_same : (part : Part) (w : machine.State) (old new : Shard R A) → SameAreas old new → HasRecords part w (area.told old.even) (area.told old.odd)
      → HasRecords part w (area.told new.even) (area.told new.odd)
  records_same part w old new same has =
      subst (λ a. HasRecords part w (area.told a) (area.told new.odd)) (sym same.even) (subst (λ a. HasRecords part w (area.told old.even) (area.told a)) (sym same.odd) has)

  did_here : (pieces : Pieces) (old new : Shard R A) (e : Event) (x : Metaslab) → IsMetaslab rack area (part_of old) pieces old x → Valid rack new → Does old new e → ActsOn rack old new e pieces
      → ((v : machine.State) (step : Step (layout_by old) x.world e v) → segments.pieces_after (layout_by old) x.world e v step pieces pieces ≡ pieces)
      → limit_in new.history ≡ limit_in old.history → reserved_of new.history + uses x.world e ≡ reserved_of old.history
      → ((v : machine.State) → Step (layout_by old) x.world e v → IsIn new v → CountsRise x.world v (failed_in e) (counts_of rack area old) (counts_of rack area new))
      → ((v : machine.State) → Step (layout_by old) x.world e v → HasRecords (part_of old) v (area.told new.even) (area.told new.odd))
      → KnowsFinished old.geometry pieces x.world.core.held e → Done rack area (part_of old) pieces new e x
  did_here pieces old new e x is valid does acts same limit reserved counts records ends =
      let z = event_stands rack old new e x.world pieces pieces is.valid.part does acts is.stands (λ v step key none. refl) in
      let l = layout_by old in
      let reached : Metaslab = record {
        opened = x.opened;
        events = x.events ++ e ∷ [];
        world = z.0;
        reserved = reserved_of new.history;
        counts = counts_of rack area new;
        harm = harm_of (rack.told new.rack);
      } in
      record {
        reached = reached;
        step = z.1;
        acts = record {
          opened = refl;
          stored = refl;
          legal = z.1;
          world = refl;
          reserved = reserved ∙ sym is.reserved;
          counts = subst (λ n. CountsRise x.world z.0 (failed_in e) n (counts_of rack area new)) (sym is.counts) (counts z.0 z.1 z.2.is_in);
          harm = subst (λ h. HarmBoth h (harm_of (rack.told new.rack)) (HarmBy l x.world e z.0)) (sym is.harm)
              (harm_by l x.world z.0 e z.1 pieces (rack.told old.rack) (rack.told new.rack) (acts x.world z.0 z.1 is.stands.reached is.stands.is_in));
        };
        is = record {
          valid = valid;
          part_is = does.part;
          stands = subst (λ q. StandsFor rack new z.0 q) (same z.0 z.1) z.2;
          run = run_push l x.opened x.world z.0 x.events e is.run z.1;
          events = ap (λ es. es ++ e ∷ []) is.events ∙ sym does.stored;
          limit = limit ∙ is.limit;
          reserved = refl;
          counts = refl;
          harm = refl;
          records = records z.0 z.1;
          bytes = moved_known old.geometry pieces x.world.core.held z.0.core.held e (blocks_moved l x.world z.0 e (has_layout (part_of old) is.valid.part) is.stands.reached z.1) ends is.bytes;
        };
      }

  -- an event, where the counts rise as it says and its images' records stand then
  pub did_with : (part : Part) (pieces : Pieces) (old new : Shard R A) (e : Event) (x : Metaslab) → IsMetaslab rack area part pieces old x → Valid rack new → Does old new e → ActsOn rack old new e pieces
      → ((v : machine.State) (step : Step (layout_by old) x.world e v) → segments.pieces_after (layout_by old) x.world e v step pieces pieces ≡ pieces)
      → limit_in new.history ≡ limit_in old.history → reserved_of new.history + uses x.world e ≡ reserved_of old.history
      → ((v : machine.State) → Step (layout_in part) x.world e v → IsIn new v → CountsRise x.world v (failed_in e) (counts_of rack area old) (counts_of rack area new))
      → ((v : machine.State) → Step (layout_in part) x.world e v → HasRecords part v (area.told new.even) (area.told new.odd))
      → KnowsFinished part.geometry pieces x.world.core.held e → Done rack area part pieces new e x
  did_with part pieces old new e x is valid does acts same limit reserved =
      subst (λ (p : Part). IsMetaslab rack area p pieces old x
      → ((v : machine.State) → Step (layout_in p) x.world e v → IsIn new v → CountsRise x.world v (failed_in e) (counts_of rack area old) (counts_of rack area new))
      → ((v : machine.State) → Step (layout_in p) x.world e v → HasRecords p v (area.told new.even) (area.told new.odd))
      → KnowsFinished p.geometry pieces x.world.core.held e → Done rack area p pieces new e x) is.part_is
      (λ here counts records ends. did_here pieces old new e x here valid does acts same limit reserved counts records ends) is

  -- one that leaves the images
  pub did : (part : Part) (pieces : Pieces) (old new : Shard R A) (e : Event) (x : Metaslab) → IsMetaslab rack area part pieces old x → Valid rack new → Does old new e → ActsOn rack old new e pieces
      → ((v : machine.State) (step : Step (layout_by old) x.world e v) → segments.pieces_after (layout_by old) x.world e v step pieces pieces ≡ pieces)
      → limit_in new.history ≡ limit_in old.history → reserved_of new.history + uses x.world e ≡ reserved_of old.history → Raises rack area (failed_in e) old new
      → LeavesImages e → KnowsFinished part.geometry pieces x.world.core.held e → Done rack area part pieces new e x
  did part pieces old new e x is valid does acts same limit reserved raises leaves ends =
      did_with part pieces old new e x is valid does acts same limit reserved (λ v step is_in. rises (failed_in e) old new x.world v raises)
      (λ v step. records_kept part x.world v (area.told new.even) (area.told new.odd) (step_keeps (layout_in part) x.world v e step leaves)
      (records_same part x.world old new raises.areas_are is.records)) ends

  -- a call that changed nothing of what is told
  pub none_here : (part : Part) (pieces : Pieces) (old new : Shard R A) (x : Metaslab) → IsMetaslab rack area part pieces old x → Valid rack new → DoesNone old new
      → new.rack ≡ old.rack → SameAreas old new → limit_in new.history ≡ limit_in old.history → reserved_of new.history ≡ reserved_of old.history
      → IsMetaslab rack area part pieces new x
  none_here part pieces old new x is valid none rack_is areas_are limit reserved = record {
    valid = valid;
    part_is = none.part ∙ is.part_is;
    stands = none_stands rack old new x.world pieces none (ap rack.told rack_is) is.stands;
    run = is.run;
    events = is.events ∙ sym none.stored;
    limit = limit ∙ is.limit;
    reserved = is.reserved ∙ sym reserved;
    counts = is.counts ∙ sym (λ i. record { rack = rack.faults (rack_is i); even = area.faults (areas_are.even i); odd = area.faults (areas_are.odd i) });
    harm = is.harm ∙ ap (λ r. harm_of (rack.told r)) (sym rack_is);
    records = records_same part x.world old new areas_are is.records;
    bytes = is.bytes;
  }

-- ---- calls of which the rack knows nothing

pub told_same : (o p : Option Told) → p ≡ o → OnBothTold o p (λ x y. y ≡ x)
told_same None p same = same
told_same (Some x) p same = subst (λ q. OnBothTold (Some x) q (λ x y. y ≡ x)) (sym same) refl

pub raises_none : {R A : Type 0} (rack : racks.Ghosts R) (area : areas.Ghosts A) (old new : Shard R A) → SameKit old new → Raises rack area [] old new
raises_none rack area old new kit = record {
  areas_are = kit.areas;
  later = λ who. (let same = ap (λ r. rack.faults r who) kit.rack in omega (arith, same));
  cause = λ leaf. (let same = ap (λ r. rack.faults r (Some leaf)) kit.rack in omega (arith, same));
}

-- an event that does nothing to the rack
pub did_quiet : {R A : Type 0} (rack : racks.Ghosts R) (area : areas.Ghosts A) (part : Part) (pieces : Pieces) (old new : Shard R A) (e : Event) (x : Metaslab)
    → IsMetaslab rack area part pieces old x → Valid rack new → Does old new e → SameKit old new → SameReserve old new
    → ((w after : machine.State) (step : Step (layout_by old) w e after) → (a b : Told) → b ≡ a → segments.Acts (layout_by old) w e after step pieces a b)
    → ((v : machine.State) (step : Step (layout_by old) x.world e v) → segments.pieces_after (layout_by old) x.world e v step pieces pieces ≡ pieces)
    → uses x.world e ≡ 0 → failed_in e ≡ [] → LeavesImages e → KnowsFinished part.geometry pieces x.world.core.held e → Done rack area part pieces new e x
did_quiet rack area part pieces old new e x is valid does kit reserve quiet same used failed leaves ends =
    did rack area part pieces old new e x is valid does acts same reserve.limit (let r = reserve.reserved in omega (arith, r, used))
    (subst (λ f. Raises rack area f old new) (sym failed) (raises_none rack area old new kit)) leaves ends
  where
    on : (w after : machine.State) (step : Step (layout_by old) w e after) (o p : Option Told) → p ≡ o → OnBothTold o p (segments.Acts (layout_by old) w e after step pieces)
    on w after step None p is = is
    on w after step (Some a) p is = subst (λ q. OnBothTold (Some a) q (segments.Acts (layout_by old) w e after step pieces)) (sym is) (quiet w after step a a refl)

    acts : ActsOn rack old new e pieces
    acts w after step reached is_in = on w after step (rack.told old.rack) (rack.told new.rack) (ap rack.told kit.rack)
