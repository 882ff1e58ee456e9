-- A block is freed in its shard.
use Rattle.std.proofs.Common.{◌≡◌, ◌≤◌, ◌∙◌, [], ◌∷◌, ℕ, refl, sym, ap, max}
use Rattle.draid_names.specs.declared.numbers.TheConstants.{LAST_NUMBER}
use Rattle.draid_names.specs.declared.pointer.Pointer.{Pointer}
use Rattle.draid_rack.specs.declared.Rack as racks
use Rattle.draid_area.specs.declared.Area as areas
use Rattle.draid_machine.specs.declared.event.Event.TheVariants.{Free}
use Rattle.draid_machine.specs.State as machine
use Rattle.draid_segments.specs.Segments.{Pieces}
use Rattle.draid_entries.specs.Maps.{held_at, key_of, staged}
use Rattle.draid_machine.specs.declared.names.Held.{Held}
use Rattle.draid_machine.specs.declared.names.Stage.TheVariants.{Live}
use Rattle.draid_shard.specs.Looks.{IsLive}
use Rattle.draid_pool.proofs.Lists.{some_of}
use Rattle.draid_pool.proofs.Lives.{held_by}
use Rattle.draid_shard.specs.Calls.{SameKit, SameReserve}
use Rattle.draid_shard.specs.Fits.{Valid}
use Rattle.draid_shard.specs.Part.{Part, layout_in}
use Rattle.draid_shard.specs.States.{Does}
use Rattle.draid_shard.specs.declared.shard.Shard.{Shard}
use Rattle.draid_session.specs.Holds.{Did, On, view_of}
use Rattle.draid_session.specs.State.{Metaslab}
use Rattle.draid_pool.specs.Metaslabs.{IsMetaslab}
use Rattle.draid_pool.specs.Shards.{FreesIn, Goes}
use Rattle.draid_pool.proofs.Dids.{Done, did_quiet}
use Rattle.draid_pool.proofs.Imaged.{step_keeps}

pub frees : {R A : Type 0} (rack : racks.Ghosts R) (area : areas.Ghosts A) (old new : Shard R A) (pointer : Pointer) (floor group : ℕ) → Valid rack new → SameKit old new → SameReserve old new
    → group ≡ max old.open_group floor → Does old new (Free (key_of pointer) group) → group ≤ LAST_NUMBER → IsLive old pointer
    → (part : Part) (pieces : Pieces) (x : Metaslab) → IsMetaslab rack area part pieces old x → Goes rack area part pieces x new (FreesIn part.number pointer floor group x)
frees rack area old new pointer floor group valid kit reserve group_is does low live part pieces x is =
    let z : Done rack area part pieces new (Free (key_of pointer) group) x
    = did_quiet rack area part pieces old new (Free (key_of pointer) group) x is valid does kit reserve (λ w after step a b same. same) (λ v step. refl) refl refl tt tt in
    record {
      holds = On (view_of part.number x) (Did (Free (key_of pointer) group) z.reached.world) ∷ [];
      reached = z.reached;
      follows = (Did (Free (key_of pointer) group) z.reached.world, z.reached, refl, z.acts, refl);
      images = step_keeps (layout_in part) x.world z.reached.world (Free (key_of pointer) group) z.step tt;
      done = record {
        are = refl;
        group_is = group_is ∙ ap (λ g. max g floor) (sym is.stands.is_in.open_group_is);
        low = low;
        held = z.step.h;
        found = z.step.found;
        live = z.step.live;
        made = ap (λ (w : machine.State). w.core.held) z.step.made;
        birth = ap (λ (h : Held). h.birth) (some_of (x.world.core.held (key_of pointer)) z.step.h (held_at (staged Live pointer)) z.step.found (held_by old x.world pointer is.stands.is_in live));
        committed = ap (λ (w : machine.State). w.committed) z.step.made;
        open_group_is = ap (λ (w : machine.State). w.open_group) z.step.made;
      };
      is = z.is;
    }
