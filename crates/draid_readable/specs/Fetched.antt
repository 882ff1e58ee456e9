-- What was read of a block.
use Rattle.std.specs.Prelude.{◌≡◌, ◌<◌, ◌+◌, ◌*◌, ◌↔◌, ℕ, List, Option, Some, None, drop, slice_get, take}
use Rattle.std.specs.declared.vec.Vec.{Vec}
use Rattle.std.specs.declared.alloc.Global.{Global}
use Rattle.draid_parity.specs.Columns.{column_at}
use Rattle.draid_block.specs.Blocks.{AreColumns, IsContent}
use Rattle.draid_block.specs.Columns.{Cut}
use Rattle.draid_block.specs.Solving.{IsFetched}
use Rattle.draid_block.specs.declared.solve.Fetched.{Fetched}
use Rattle.draid_rack.specs.Rack.{OnTold, Told}
use Rattle.draid_machine.specs.declared.names.ArmName.{ArmName}
use Rattle.draid_machine.specs.declared.names.Held.{Held}
use Rattle.draid_machine.specs.declared.names.Key.{Key}
use Rattle.draid_machine.specs.Arms.{leaf_at, reading}
use Rattle.draid_machine.specs.State.{Layout, State}
use Rattle.draid_segments.specs.Reads.{IsAbsent}
use Rattle.draid_segments.specs.Segments.{Pieces}

-- what a state says of the columns that were read of a block: just those are absent that it says are, and each of the others is what the arm reads that it names
pub record AreFetched (l : Layout) (w : State) (h : Held) (size : ℕ) (failed : List ℕ) (columns : List (Option (Vec ℕ Global))) (told : Option Told) : Type 0 where
  pub absent : (c : ℕ) → c < l.columns → ((slice_get columns c ≡ Some None) ↔ IsAbsent l w.core h failed c)
  pub reads : (c row leaf : ℕ) (n : ArmName) (bytes : Vec ℕ Global) → slice_get columns c ≡ Some (Some bytes) → reading l w.core h c ≡ Some n → row < h.stripes
      → leaf_at l w.core.order n (h.first + row) ≡ Some leaf → OnTold told (λ x. x.reads leaf (l.sector_of (h.first + row) c) ≡ Some (take size (drop (row * size) bytes.items)))

-- The columns that were read are those of a block of a layout. These are its bytes, and its pieces are known, the rows of their columns.
pub record IsFetchedOf (l : Layout) (cut : Cut) (h : Held) (key : Key) (pieces : Pieces) (fetched : Fetched) (bytes : List ℕ) : Type 0 where
  pub width : l.columns ≡ cut.parity + cut.ndata
  pub parity : l.parity ≡ cut.parity
  pub stripes : h.stripes ≡ fetched.pointer.stripes
  pub fetched_is : IsFetched cut fetched
  pub content : IsContent fetched.pointer bytes
  pub columns : List (List ℕ)
  pub are : AreColumns cut bytes columns
  pub rows : (c row : ℕ) → c < l.columns → row < h.stripes → pieces key c row ≡ Some (take cut.sector (drop (row * cut.sector) (column_at columns c)))
