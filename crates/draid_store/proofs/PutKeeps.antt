-- A put keeps to what every hold keeps to, on both sides.
use Rattle.std.proofs.Common.{◌≡◌, inl, [], ◌∷◌, Some, arith, refl}
use Rattle.draid_rack.specs.declared.Rack as racks
use Rattle.draid_area.specs.declared.Area as areas
use Rattle.draid_block.specs.Blocks.{BlockValue}
use Rattle.draid_machine.specs.declared.event.Event.TheVariants.{Put}
use Rattle.draid_entries.specs.Maps.{key_of}
use Rattle.draid_shard.specs.Calls.{SameAreas, SameReserve}
use Rattle.draid_blocks.specs.Tickets.{Carries, Puts}
use Rattle.draid_shard.specs.Fits.{Valid}
use Rattle.draid_shard.specs.Part.{layout_in}
use Rattle.draid_blocks.specs.declared.ticket.Ticket.{Ticket}
use Rattle.draid_store.proofs.Column.{column_for, others_same, put_column}
use Rattle.draid_pool.specs.Drifts.{KeepsTo}
use Rattle.draid_shard.specs.declared.shard.Shard.{Shard}
use Rattle.draid_pool.proofs.Drifting.{same_pass}
use Rattle.draid_pool.proofs.Imaged.{step_keeps}
use Rattle.draid_pool.proofs.Rises.{records_same}
use Rattle.draid_pool.proofs.ShardSteps.{other_key, sets_others}
use Rattle.draid_store.proofs.FreeKeeps.{sets_groups}

pub put_keeps : {R A : Type 0} (rack : racks.Ghosts R) (area : areas.Ghosts A) (x y : Shard R A) (before now : Ticket) (block : BlockValue) → Valid rack y → SameAreas x y → SameReserve x y → y.pass ≡ x.pass
    → Puts rack x y before now block → Carries x before block → KeepsTo rack area x y (Some before.pointer.object)
put_keeps rack area x y before now block valid areas_are reserve pass put carries = record {
  valid = valid;
  part = put.does.part;
  later = (let same = put.sets.groups.committed in omega (arith, same));
  opens = (let same = put.sets.groups.open_group_is in omega (arith, same));
  groups = λ other. sets_groups x y before.pointer _ put.sets reserve;
  passes = λ other. same_pass x.pass y.pass pass;
  others = sets_others y.committed x.entries y.entries before.pointer _ put.sets.entry;
  areas = records_same area.faults x y areas_are;
  state = λ part pieces u is.
      let d = put_column rack area x y before now block valid areas_are reserve put carries part pieces u is in
      record {
        reached = d.reached;
        now = column_for (key_of before.pointer) before.next x.geometry.props.sector block.columns pieces;
        is = d.is;
        since = record { opened = d.acts.opened; more = Put (key_of before.pointer) put.landed put.failed ∷ []; stored = d.acts.stored; run = (d.reached.world, d.step, refl) };
        images = λ mine. step_keeps (layout_in part) u.world d.reached.world (Put (key_of before.pointer) put.landed put.failed) d.step tt;
        same = λ k mine. inl (others_same (key_of before.pointer) before.next x.geometry.props.sector block.columns pieces k (other_key before.pointer k mine));
      };
}
