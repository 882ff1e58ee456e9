-- The landing of a loan in a pool's metaslab, where the rack did what its event says in the state that the shard stands for.
use Rattle.std.proofs.Common.{◌≡◌, ◌++◌, ◌∙◌, [], ◌∷◌, Option, Some, None, arith, refl, sym, ap, subst}
use Rattle.draid_rack.specs.Rack.{OnBothTold, OnTold, Told}
use Rattle.draid_rack.specs.declared.Rack as racks
use Rattle.draid_area.specs.declared.Area as areas
use Rattle.draid_machine.specs.declared.event.Event.{Event}
use Rattle.draid_machine.specs.Created.{IsReached}
use Rattle.draid_machine.specs.State as machine
use Rattle.draid_machine.specs.Step.{Step}
use Rattle.draid_segments.specs.Acts as segments
use Rattle.draid_segments.specs.Segments.{Backed, Pieces}
use Rattle.draid_segments.proofs.Whole.{event_backed}
use Rattle.draid_entries.specs.History.{reserved_of}
use Rattle.draid_shard.specs.Calls.{SameReserve}
use Rattle.draid_shard.specs.Fits.{Valid}
use Rattle.draid_shard.specs.Part.{Part, layout_in}
use Rattle.draid_shard.specs.Stands.{StandsFor}
use Rattle.draid_shard.specs.States.{Does, Leads, layout_by, part_of}
use Rattle.draid_shard.specs.declared.shard.Shard.{Shard}
use Rattle.draid_shard.proofs.Standing.{has_layout, reached_more}
use Rattle.draid_session.specs.Follows.{CountsRise, HarmBoth, HarmBy, failed_in, uses}
use Rattle.draid_session.specs.State.{Metaslab}
use Rattle.draid_objects.proofs.Moving.{blocks_moved}
use Rattle.draid_pool.specs.Bytes.{KnowsBlocks}
use Rattle.draid_pool.specs.Metaslabs.{IsMetaslab, counts_of, harm_of}
use Rattle.draid_pool.proofs.Bytes.{moved_known}
use Rattle.draid_pool.specs.Shards.{KeepsImages}
use Rattle.draid_pool.proofs.Dids as dids
use Rattle.draid_pool.proofs.Dids.{Raises, records_same, run_push}
use Rattle.draid_pool.proofs.Imaged.{records_kept}
use Rattle.draid_visits.proofs.PassSteps.{IsOfRebuild, no_uses, none_ends, rebuild_leaves, rises, same_pieces}

-- what is told stays told
pub told_on : (o p : Option Told) (P : Told → Told → Type 0) (A B : Told → Type 0) → ((x y : Told) → P x y → A x → B y) → OnBothTold o p P → OnTold o A → OnTold p B
told_on None p P A B f h a = rw h tt
told_on (Some x) None P A B f h a = absurd h
told_on (Some x) (Some y) P A B f h a = f x y h a

harm_by : (l : machine.Layout) (w v : machine.State) (e : Event) (step : Step l w e v) (pieces : Pieces) (o p : Option Told)
    → OnBothTold o p (segments.Acts l w e v step pieces) → HarmBoth (harm_of o) (harm_of p) (HarmBy l w e v)
harm_by l w v e step pieces None p h = ap harm_of h
harm_by l w v e step pieces (Some x) None h = absurd h
harm_by l w v e step pieces (Some x) (Some y) h = record {
  step = step;
  pieces = pieces;
  before = x;
  after = y;
  acts = h;
  harm_before = λ leaf sector. refl;
  harm_after = λ leaf sector. refl;
}

module _ {R A : Type 0} (rack : racks.Ghosts R) (area : areas.Ghosts A) where
  -- what the rack did in a state
  abbrev pub ActsAt : Shard R A → Shard R A → Event → machine.State → Pieces → Type 0
  ActsAt old new e w written =
      (after : machine.State) (step : Step (layout_by old) w e after) → OnBothTold (rack.told old.rack) (rack.told new.rack) (segments.Acts (layout_by old) w e after step written)

  -- it wrote the pieces of the blocks that there are, but for that of a scrub
  abbrev pub WritesAt : Shard R A → Event → machine.State → Pieces → Pieces → Type 0
  WritesAt old e w pieces written = (after : machine.State) (step : Step (layout_by old) w e after) → segments.WritesPieces (layout_by old) w e after step pieces written

  -- and what is known of the blocks' bytes then
  abbrev pub KnowsThen : Shard R A → Event → machine.State → Pieces → Pieces → Type 0
  KnowsThen old e w pieces written =
      (after : machine.State) (step : Step (layout_by old) w e after) → KnowsBlocks old.geometry (segments.pieces_after (layout_by old) w e after step pieces written) after.core.held

  -- the metaslab behind it, with the pieces that its blocks have then
  pub record Lands (part : Part) (pieces written : Pieces) (new : Shard R A) (e : Event) (x : Metaslab) : Type 0 where
    pub later : Pieces
    pub after : machine.State
    pub step : Step (layout_in part) x.world e after
    pub is : later ≡ segments.pieces_after (layout_in part) x.world e after step pieces written
    pub done : dids.Done rack area part later new e x

  stands_on : (pieces written : Pieces) (old new : Shard R A) (e : Event) (w : machine.State) → StandsFor rack old w pieces → Valid rack old → (does : Does old new e) (next : Leads (layout_by old) w e new) → ActsAt old new e w written
      → WritesAt old e w pieces written → StandsFor rack new next.state (segments.pieces_after (layout_by old) w e next.state next.step pieces written)
  stands_on pieces written old new e w stands valid does next acts writes =
      let l = layout_by old in
      record {
        is_in = next.is_in;
        reached = subst (λ part. IsReached (layout_in part) next.state) (sym does.part) (reached_more l w next.state e stands.reached next.step);
        segments = subst (λ part. OnTold (rack.told new.rack) (Backed (layout_in part) (segments.pieces_after l w e next.state next.step pieces written) next.state)) (sym does.part)
            (told_on (rack.told old.rack) (rack.told new.rack) (segments.Acts l w e next.state next.step written) (Backed l pieces w) (Backed l (segments.pieces_after l w e next.state next.step pieces written) next.state)
            (λ a b act backed. event_backed l (has_layout (part_of old) valid.part) w stands.reached written a b pieces backed e next.state next.step act (writes next.state next.step)) (acts next.state next.step) stands.segments);
      }

  landed_here : (pieces written : Pieces) (old new : Shard R A) (e : Event) (x : Metaslab) → IsMetaslab rack area (part_of old) pieces old x → Valid rack new → Does old new e → SameReserve old new
      → Raises rack area (failed_in e) old new → uses x.world e ≡ 0 → ((v : machine.State) → Step (layout_by old) x.world e v → KeepsImages x.world v) → ActsAt old new e x.world written
      → WritesAt old e x.world pieces written → KnowsThen old e x.world pieces written → Lands (part_of old) pieces written new e x
  landed_here pieces written old new e x is valid does reserve raises none keeps acts writes known =
      let l = layout_by old in
      let next : Leads l x.world e new = does.leads x.world is.stands.reached is.stands.is_in in
      let v = next.state in
      let reached : Metaslab = record {
        opened = x.opened;
        events = x.events ++ e ∷ [];
        world = v;
        reserved = reserved_of new.history;
        counts = counts_of rack area new;
        harm = harm_of (rack.told new.rack);
      } in
      record {
        later = segments.pieces_after l x.world e v next.step pieces written;
        after = v;
        step = next.step;
        is = refl;
        done = record {
          reached = reached;
          step = next.step;
          acts = record {
            opened = refl;
            stored = refl;
            legal = next.step;
            world = refl;
            reserved = (let same = reserve.reserved in let was = is.reserved in omega (arith, same, none, was));
            counts = subst (λ n. CountsRise x.world v (failed_in e) n (counts_of rack area new)) (sym is.counts) (rises rack area (failed_in e) old new x.world v raises);
            harm = subst (λ h. HarmBoth h (harm_of (rack.told new.rack)) (HarmBy l x.world e v)) (sym is.harm) (harm_by l x.world v e next.step written (rack.told old.rack) (rack.told new.rack) (acts v next.step));
          };
          is = record {
            valid = valid;
            part_is = does.part;
            stands = stands_on pieces written old new e x.world is.stands is.valid does next acts writes;
            run = run_push l x.opened x.world v x.events e is.run next.step;
            events = ap (λ es. es ++ e ∷ []) is.events ∙ sym does.stored;
            limit = reserve.limit ∙ is.limit;
            reserved = refl;
            counts = refl;
            harm = refl;
            records = records_kept (part_of old) x.world v (area.told new.even) (area.told new.odd) (keeps v next.step) (records_same rack area (part_of old) x.world old new raises.areas_are is.records);
            bytes = known v next.step;
          };
        };
      }

  -- the metaslab behind a landing
  pub landed_to : (part : Part) (pieces written : Pieces) (old new : Shard R A) (e : Event) (x : Metaslab) → IsMetaslab rack area part pieces old x → Valid rack new → Does old new e → SameReserve old new
      → Raises rack area (failed_in e) old new → uses x.world e ≡ 0 → ((v : machine.State) → Step (layout_by old) x.world e v → KeepsImages x.world v) → ActsAt old new e x.world written
      → WritesAt old e x.world pieces written → KnowsThen old e x.world pieces written → Lands part pieces written new e x
  landed_to part pieces written old new e x is valid does reserve raises none keeps acts writes known =
      subst (λ p. IsMetaslab rack area p pieces old x → Lands p pieces written new e x) is.part_is (λ here. landed_here pieces written old new e x here valid does reserve raises none keeps acts writes known) is

  -- one that leaves the pieces
  pub landed_at : (part : Part) (pieces : Pieces) (old new : Shard R A) (e : Event) (x : Metaslab) → IsMetaslab rack area part pieces old x → Valid rack new → Does old new e → SameReserve old new
      → Raises rack area (failed_in e) old new → IsOfRebuild e → ActsAt old new e x.world pieces → dids.Done rack area part pieces new e x
  landed_at part pieces old new e x is valid does reserve raises of acts =
      let z : Lands part pieces pieces new e x
      = landed_to part pieces pieces old new e x is valid does reserve raises (no_uses x.world e of) (λ v step. (rebuild_leaves (layout_by old) x.world v e step of).images) acts (λ after step key other. refl) (λ v step.
      subst (λ q. KnowsBlocks old.geometry q v.core.held) (sym (same_pieces (layout_by old) x.world v e step pieces of))
      (moved_known old.geometry pieces x.world.core.held v.core.held e (blocks_moved (layout_by old) x.world v e (has_layout (part_of old) is.valid.part) is.stands.reached step) (none_ends old.geometry pieces x.world.core.held e of)
      (subst (λ (q : Part). KnowsBlocks q.geometry pieces x.world.core.held) (sym is.part_is) is.bytes))) in
      subst (λ q. dids.Done rack area part q new e x) (z.is ∙ same_pieces (layout_in part) x.world z.after e z.step pieces of) z.done
