-- Why no write is begun in a metaslab, and that want of memory alone is why where there is room.
use Rattle.std.proofs.Common.{◌≡◌, ◌∙◌, ℕ, Bool, false, Option, Some, arith, refl, sym, subst, length}
use Rattle.draid_rack.specs.declared.Rack as racks
use Rattle.draid_area.specs.declared.Area as areas
use Rattle.draid_block.specs.Blocks.{BlockValue, cut_of}
use Rattle.draid_block.specs.Columns.{stripes_of}
use Rattle.draid_machine.specs.State as machine
use Rattle.draid_blocks.specs.Tickets.{BeginRefused}
use Rattle.draid_shard.specs.Fits.{Valid}
use Rattle.draid_shard.specs.States.{IsIn}
use Rattle.draid_shard.proofs.Shown.{state_shown}
use Rattle.draid_blocks.specs.declared.fault.BeginFault.{BeginFault}
use Rattle.draid_blocks.specs.declared.fault.BeginFault.TheVariants as begin
use Rattle.draid_shard.specs.declared.shard.Shard.{Shard}
use Rattle.draid_store.specs.Putting.{RefusesAt}
use Rattle.draid_pool.specs.Shards.{HasRoom}
use Rattle.draid_pool.proofs.Lists.{some_of}

-- a block for which there is room is refused for want of memory alone
pub never_refused : {R A : Type 0} (shard : Shard R A) (need : ℕ) (w : machine.State) → HasRoom need shard w → (why : BeginFault) → BeginRefused shard need w why → why ≡ begin.NoMemory
never_refused shard need w room (begin.Disabled pass) r = (let both = sym r.2 ∙ room.takes.enabled r.0 r.1 in absurd (cc))
never_refused shard need w room (begin.Entries held) r = absurd (r.1 room.takes.fewer)
never_refused shard need w room (begin.NoRoom largest) r = (let less = r.3 in let most = r.2.longest room.first need (omega (arith, less)) room.fits in absurd (omega (arith, less, most)))
never_refused shard need w room (begin.Worn events) r = absurd (room.takes.events r.3)
never_refused shard need w room begin.NoMemory r = refl

-- where nobody comes between, no write is begun in a metaslab that has room for it for want of memory alone
pub refused_memory : {R A : Type 0} (rack : racks.Ghosts R) (area : areas.Ghosts A) (shared : Bool) (owns : ℕ → Bool) (last : ℕ → Option (Shard R A)) (m : ℕ) (block : BlockValue) (why : BeginFault) (shard : Shard R A) → shared ≡ false → RefusesAt rack area shared owns last m block why
    → last m ≡ Some shard → Valid rack shard → ((w : machine.State) → IsIn shard w → HasRoom (stripes_of (cut_of shard.geometry) (length block.bytes)) shard w) → why ≡ begin.NoMemory
refused_memory {R} {A} rack area shared owns last m block why shard alone r there valid room =
    let same : r.found ≡ shard = r.drifts.still alone ∙ some_of (last m) r.shard shard r.there there in
    let z = state_shown rack shard valid in
    let refused = subst (λ (s : Shard R A). (w : machine.State) → IsIn s w → BeginRefused s (stripes_of (cut_of s.geometry) (length block.bytes)) w why) same r.why in
    never_refused shard (stripes_of (cut_of shard.geometry) (length block.bytes)) z.0 (room z.0 z.1) why (refused z.0 z.1)
