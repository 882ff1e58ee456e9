-- A block is fetched from its shard.
use Rattle.std.proofs.Common.{◌≡◌, ◌<◌, ◌⊎◌, [], ◌∷◌, ℕ, Bool, List, Option, Some, None, Vec, Global, arith, refl, sym, ap, subst}
use Rattle.std.specs.Prelude.{◌↔◌, ⊤, MatchOption, slice_get}
use Rattle.draid_names.specs.declared.pointer.Pointer.{Pointer}
use Rattle.draid_rack.specs.Rack.{OnTold, Told}
use Rattle.draid_rack.specs.declared.Rack as racks
use Rattle.draid_area.specs.declared.Area as areas
use Rattle.draid_block.specs.Blocks.{AreColumns, IsContent, cut_of}
use Rattle.draid_block.specs.Solving.{IsFetched, IsReadable}
use Rattle.draid_block.specs.declared.solve.Fetched.{Fetched}
use Rattle.draid_machine.specs.declared.names.Held.{Held}
use Rattle.draid_machine.specs.declared.event.Event.TheVariants.{Fetch}
use Rattle.draid_machine.specs.State as machine
use Rattle.draid_segments.specs.Reads.{IsAbsent, MoreBad}
use Rattle.draid_segments.specs.Segments.{Pieces}
use Rattle.draid_entries.specs.Maps.{key_of}
use Rattle.draid_shard.specs.Calls.{ActsOn, SameAreas, SameReserve}
use Rattle.draid_blocks.specs.Fetching.{Fetches}
use Rattle.draid_shard.specs.Rooms.{IsWornFor}
use Rattle.draid_shard.specs.Columns.{ArePieces}
use Rattle.draid_shard.specs.Fits.{Valid}
use Rattle.draid_shard.specs.Part.{Part, layout_in}
use Rattle.draid_shard.specs.States.{layout_by, part_of}
use Rattle.draid_shard.specs.declared.shard.Shard.{Shard}
use Rattle.draid_blocks.proofs.Readable.{readable}
use Rattle.draid_session.specs.Holds.{Did, Hold, On, view_of}
use Rattle.draid_session.specs.State.{Metaslab}
use Rattle.draid_session.specs.Worn.{IsWorn}
use Rattle.draid_pool.specs.Metaslabs.{IsMetaslab, harm_of}
use Rattle.draid_pool.specs.Shards.{Goes, SameBlocks}
use Rattle.draid_pool.proofs.Dids.{Done, did, told_same}
use Rattle.draid_pool.proofs.Imaged.{step_keeps}
use Rattle.draid_pool.proofs.OneHold.{passes_is}

-- The block of a pointer was fetched in one hold. These columns are absent; and for bytes of which its pieces are, it is readable, or more columns are bad than
-- there are parity columns.
pub record FetchesIn (part : Part) (pieces : Pieces) (pointer : Pointer) (fetched : Fetched) (x : Metaslab) (holds : List Hold) (y : Metaslab) : Type 0 where
  pub failed : Vec ℕ Global
  pub h : Held
  pub are : holds ≡ On (view_of part.number x) (Did (Fetch (key_of pointer) failed) y.world) ∷ []
  pub not_worn : IsWorn part.geometry (view_of part.number x) 1 → ⊥
  pub found : x.world.core.held (key_of pointer) ≡ Some h
  pub pointer_is : fetched.pointer ≡ pointer
  pub block : IsFetched (cut_of part.geometry) fetched
  pub absent : (c : ℕ) → c < part.geometry.g → ((slice_get fetched.columns.items c ≡ Some None) ↔ IsAbsent (layout_in part) x.world.core h failed.items c)
  pub either : (bytes : List ℕ) (columns : List (List ℕ)) → IsContent pointer bytes → AreColumns (cut_of part.geometry) bytes columns
      → ArePieces part.geometry.props.sector part.geometry.g pointer.stripes columns (key_of pointer) pieces
      → MatchOption x.harm ⊤ (λ harm. ((bad : List ℕ) × IsReadable (cut_of part.geometry) fetched bytes bad) ⊎ MoreBad (layout_in part) x.world harm (key_of pointer) h failed.items)
  pub same : SameBlocks x y

on_harm : (told : Option Told) (P : (ℕ → ℕ → Bool) → Type 0) → OnTold told (λ x. P x.harmed) → MatchOption (harm_of told) ⊤ P
on_harm None P is = tt
on_harm (Some x) P is = is

module _ {R A : Type 0} (rack : racks.Ghosts R) (area : areas.Ghosts A) where
  fetches_here : (old new : Shard R A) (pointer : Pointer) (fetched : Fetched) → Fetches rack old new pointer fetched → Valid rack new → SameAreas old new → rack.told new.rack ≡ rack.told old.rack
      → SameReserve old new → (IsWornFor old 1 → ⊥) → (pieces : Pieces) (x : Metaslab) → IsMetaslab rack area (part_of old) pieces old x
      → Goes rack area (part_of old) pieces x new (FetchesIn (part_of old) pieces pointer fetched x)
  fetches_here old new pointer fetched f valid same told reserve never pieces x is =
      let acts : ActsOn rack old new (Fetch (key_of pointer) f.failed) pieces = λ w after step reached is_in. told_same (rack.told old.rack) (rack.told new.rack) told in
      let z : Done rack area (part_of old) pieces new (Fetch (key_of pointer) f.failed) x
      = did rack area (part_of old) pieces old new (Fetch (key_of pointer) f.failed) x is valid f.does acts (λ v step. refl) reserve.limit (let r = reserve.reserved in omega (arith, r))
      (record { areas_are = same; later = f.counts.later; cause = f.counts.cause }) tt tt in
      let stands = is.stands in
      record {
        holds = On (view_of old.number x) (Did (Fetch (key_of pointer) f.failed) z.reached.world) ∷ [];
        reached = z.reached;
        follows = (Did (Fetch (key_of pointer) f.failed) z.reached.world, z.reached, refl, z.acts, refl);
        images = step_keeps (layout_by old) x.world z.reached.world (Fetch (key_of pointer) f.failed) z.step tt;
        done = record {
          failed = f.failed;
          h = z.step.h;
          are = refl;
          not_worn = λ worn. never (passes_is rack area (part_of old) pieces old x 1 _ is worn);
          found = z.step.found;
          pointer_is = f.pointer_is;
          block = f.fetched_is;
          absent = λ c less. (f.are x.world z.step.h stands.reached stands.is_in z.step.found).absent c less;
          either = λ bytes columns content are pieces_are.
              subst (λ harm. MatchOption harm ⊤ (λ harm. ((bad : List ℕ) × IsReadable (cut_of old.geometry) fetched bytes bad) ⊎ MoreBad (layout_by old) x.world harm (key_of pointer) z.step.h f.failed.items)) (sym is.harm)
              (on_harm (rack.told old.rack) (λ harm. ((bad : List ℕ) × IsReadable (cut_of old.geometry) fetched bytes bad) ⊎ MoreBad (layout_by old) x.world harm (key_of pointer) z.step.h f.failed.items)
              (readable rack old new pointer fetched x.world z.step.h pieces bytes columns f is.valid stands z.step.found content are pieces_are));
          same = record { held = ap (λ (w : machine.State). w.core.held) z.step.made; committed = ap (λ (w : machine.State). w.committed) z.step.made };
        };
        is = z.is;
      }

  pub fetches : (part : Part) (old new : Shard R A) (pointer : Pointer) (fetched : Fetched) → Fetches rack old new pointer fetched → Valid rack new → SameAreas old new
      → rack.told new.rack ≡ rack.told old.rack → SameReserve old new → (IsWornFor old 1 → ⊥) → (pieces : Pieces) (x : Metaslab) → IsMetaslab rack area part pieces old x
      → Goes rack area part pieces x new (FetchesIn part pieces pointer fetched x)
  fetches part old new pointer fetched f valid same told reserve never pieces x is =
      subst (λ p. IsMetaslab rack area p pieces old x → Goes rack area p pieces x new (FetchesIn p pieces pointer fetched x)) is.part_is
      (λ here. fetches_here old new pointer fetched f valid same told reserve never pieces x here) is
