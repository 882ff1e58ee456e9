-- A block that was fetched is readable but for its bad columns, or more of them are bad than there are parity columns.
use Rattle.std.proofs.Common.{◌≡◌, ◌⊎◌, ◌∙◌, ℕ, List, Some, arith, refl, sym, ap, subst}
use Rattle.draid_names.specs.declared.pointer.Pointer.{Pointer}
use Rattle.draid_rack.specs.Rack.{OnTold}
use Rattle.draid_rack.specs.declared.Rack.{Ghosts}
use Rattle.draid_block.specs.Blocks.{AreColumns, IsContent, cut_of}
use Rattle.draid_block.specs.Solving.{IsReadable}
use Rattle.draid_block.specs.declared.solve.Fetched.{Fetched}
use Rattle.draid_machine.specs.declared.names.Held.{Held}
use Rattle.draid_machine.specs.declared.names.Stage.TheVariants.{Live}
use Rattle.draid_machine.specs.Names.{is_block}
use Rattle.draid_machine.specs.State.{State}
use Rattle.draid_machine.proofs.Small.{some_same}
use Rattle.draid_segments.specs.Reads.{MoreBad}
use Rattle.draid_segments.specs.Segments.{Pieces}
use Rattle.draid_readable.specs.Fetched.{IsFetchedOf}
use Rattle.draid_readable.proofs.Readable as read
use Rattle.draid_entries.specs.Maps.{held_at, key_of, staged}
use Rattle.draid_shard.specs.Columns.{ArePieces}
use Rattle.draid_shard.specs.Fits.{Valid}
use Rattle.draid_shard.specs.Stands.{StandsFor}
use Rattle.draid_shard.specs.States.{layout_by, part_of}
use Rattle.draid_shard.specs.declared.shard.Shard.{Shard}
use Rattle.draid_shard.proofs.Held.{key_leads}
use Rattle.draid_shard.proofs.Homes.{geometry_is, lays}
use Rattle.draid_blocks.specs.Fetching.{Fetches}

module _ {R A : Type 0} (rack : Ghosts R) (old new : Shard R A) (pointer : Pointer) (fetched : Fetched) (w : State) (h : Held) (pieces : Pieces) (bytes : List ℕ) (columns : List (List ℕ)) (fetches : Fetches rack old new pointer fetched)
    (valid : Valid rack old) (stands : StandsFor rack old w pieces) (held : w.core.held (key_of pointer) ≡ Some h) (content : IsContent pointer bytes) (are_columns : AreColumns (cut_of old.geometry) bytes columns)
    (are_pieces : ArePieces old.geometry.props.sector old.geometry.g pointer.stripes columns (key_of pointer) pieces) where
  is_held : h ≡ held_at (staged Live pointer)
  is_held = some_same (w.core.held (key_of pointer)) h (held_at (staged Live pointer)) held (stands.is_in.held (key_of pointer) ∙ key_leads old.entries pointer.first (staged Live pointer) fetches.live)

  stripes_is : h.stripes ≡ pointer.stripes
  stripes_is = ap (λ (k : Held). k.stripes) is_held

  of : IsFetchedOf (layout_by old) (cut_of old.geometry) h (key_of pointer) pieces fetched bytes
  of = record {
    width = (geometry_is (part_of old) valid.part).columns;
    parity = refl;
    stripes = stripes_is ∙ sym (ap (λ (p : Pointer). p.stripes) fetches.pointer_is);
    fetched_is = fetches.fetched_is;
    content = subst (λ (p : Pointer). IsContent p bytes) (sym fetches.pointer_is) content;
    columns = columns;
    are = are_columns;
    rows = λ c row less within. are_pieces c row less (let same = stripes_is in omega (arith, within, same));
  }

  pub readable : OnTold (rack.told old.rack) (λ x. ((bad : List ℕ) × IsReadable (cut_of old.geometry) fetched bytes bad) ⊎ MoreBad (layout_by old) w x.harmed (key_of pointer) h fetches.failed.items)
  readable =
      read.readable (layout_by old) (cut_of old.geometry) w (key_of pointer) h pieces fetched bytes fetches.failed.items (rack.told old.rack) (lays (part_of old) valid.part) stands.reached held
      (ap (λ (k : Held). is_block k.stage) is_held) of (fetches.are w h stands.reached stands.is_in held) stands.segments
