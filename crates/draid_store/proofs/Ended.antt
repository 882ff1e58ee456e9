-- The answer of the operation that ends a write.
use Rattle.std.proofs.Common.{◌≡◌, Option, Some, None, MatchOption, Result, Ok, Err, subst}
use Rattle.std.specs.Prelude.{IfOk}
use Rattle.draid_names.specs.declared.pointer.Pointer.{Pointer}
use Rattle.draid_rack.specs.declared.Rack as racks
use Rattle.draid_area.specs.declared.Area as areas
use Rattle.draid_block.specs.Blocks.{BlockValue}
use Rattle.draid_blocks.specs.declared.fault.Missed.{Missed}
use Rattle.draid_blocks.specs.declared.ticket.Ticket.{Ticket}
use Rattle.draid_shard.specs.declared.shard.Shard.{Shard}
use Rattle.draid_pool.specs.Drifts.{KeepsTo}
use Rattle.draid_store.specs.Writing.{FinishesShard}
use Rattle.draid_store.proofs.OpenKeeps.{finishes_keep}

pub some_ended : {R A : Type 0} (rack : racks.Ghosts R) (old : Shard R A) (ticket : Ticket) (block : BlockValue) (new : Shard R A) (out : Option (Result Pointer Missed)) (result : Result Pointer Missed)
    → MatchOption out ⊥ (λ r. FinishesShard rack old ticket block r new) → out ≡ Some result → FinishesShard rack old ticket block result new
some_ended rack old ticket block new None result d is = absurd d
some_ended rack old ticket block new (Some r) result d is = (let same : r ≡ result = cc in subst (λ t. FinishesShard rack old ticket block t new) same d)

pub keeps_ended : {R A : Type 0} (rack : racks.Ghosts R) (area : areas.Ghosts A) (x y : Shard R A) (ticket : Ticket) (block : BlockValue) (out : Option (Result Pointer Missed))
    → MatchOption out ⊥ (λ r. FinishesShard rack x ticket block r y) → KeepsTo rack area x y (Some ticket.pointer.object)
keeps_ended rack area x y ticket block None d = absurd d
keeps_ended rack area x y ticket block (Some r) d = finishes_keep rack area x y ticket block r d

-- a block that is live has its ticket's pointer
pub ended_pointer : {R A : Type 0} (rack : racks.Ghosts R) (old new : Shard R A) (ticket : Ticket) (block : BlockValue) (result : Result Pointer Missed) → FinishesShard rack old ticket block result new → IfOk result (λ p. p ≡ ticket.pointer)
ended_pointer rack old new ticket block (Ok pointer) d = d.ends.0
ended_pointer rack old new ticket block (Err missed) d = tt
