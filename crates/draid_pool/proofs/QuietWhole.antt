-- What a thread needs, behind a hold that leaves all blocks and groups of a metaslab.
use Rattle.std.proofs.Common.{◌≡◌, ◌==◌, ◌∙◌, inl, arith, ℕ, Bool, Option, Some, None, refl, sym, ap, if◌then◌else◌}
use Rattle.draid_names.specs.declared.pointer.Pointer.{Pointer}
use Rattle.draid_rack.specs.declared.Rack as racks
use Rattle.draid_area.specs.declared.Area as areas
use Rattle.draid_entries.specs.Maps.{key_of}
use Rattle.draid_spec.specs.declared.layout.Geometry.{Geometry}
use Rattle.draid_machine.proofs.Small.{none_some}
use Rattle.draid_shard.specs.Changes.{KeepsBlocks}
use Rattle.draid_shard.specs.Fits.{Valid}
use Rattle.draid_shard.specs.Part.{Part}
use Rattle.draid_shard.specs.States.{part_of}
use Rattle.draid_shard.specs.declared.shard.Shard.{Shard}
use Rattle.draid_pool.specs.Drifts.{Drifts, KeepsGroups}
use Rattle.draid_pool.specs.Threads.{AllStay, IsHeldBy, IsWholeBy, all_of}
use Rattle.draid_pool.proofs.HeldBy.{held_drifts, whole_on}
use Rattle.draid_pool.proofs.HoldStep.{live_key}
use Rattle.draid_pool.proofs.Lists.{some_of}
use Rattle.draid_pool.specs.Threads.{HaveLayout}

module _ {R A : Type 0} (rack : racks.Ghosts R) (area : areas.Ghosts A) (shared : Bool) (owns : ℕ → Bool) (last new : ℕ → Option (Shard R A)) (m : ℕ) (shard before after : Shard R A) (there : last m ≡ Some shard)
    (drifts : Drifts rack area shared owns shard before) (valid : Valid rack after) (part : part_of after ≡ part_of before) (groups : KeepsGroups before after) (blocks : KeepsBlocks before after)
    (is : (k : ℕ) → new k ≡ (if k == m then Some after else last k)) (table : ℕ → Option Pointer) (seq floor : ℕ) (whole : IsWholeBy rack owns last table seq floor) where
  held_before : IsHeldBy rack (all_of owns m) seq before
  held_before = held_drifts rack (all_of owns m) seq shard before drifts.valid (whole.shards m shard there) owns before.committed (λ k mine. mine) drifts.own

  held_after : IsHeldBy rack (all_of owns m) seq after
  held_after = held_drifts rack (all_of owns m) seq before after valid held_before owns after.committed (λ k mine. mine) (record { each = λ key own. inl (blocks.entries.held key) })

  pub quiet_whole : IsWholeBy rack owns new table seq floor
  quiet_whole = whole_on owns rack area shared last new m shard before after there drifts part groups is valid (all_of owns) (all_of owns) table table seq floor seq floor whole held_after (λ n k not seen. seen) (omega arith)
      (inl (omega arith)) whole.low
      (λ q r r_is. (whole.pointers q r r_is, λ live. live_key rack before after r drifts.valid valid part (blocks.entries.held (key_of r)) live))

-- metaslabs that have a layout have it then
pub layout_stays : {R A : Type 0} (owns : ℕ → Bool) (last now : ℕ → Option (Shard R A)) (geometry : Geometry) → AllStay owns last now → HaveLayout geometry last → HaveLayout geometry now
layout_stays {R} {A} owns last now geometry stay have m shard at = by (last m) refl
  where
    by : (o : Option (Shard R A)) → last m ≡ o → shard.geometry ≡ geometry
    by None is = absurd (none_some (now m) shard (stay.absent m is) at)
    by (Some was) is =
        let z = stay.each m was is in
        let same : z.0 ≡ shard = some_of (now m) z.0 shard z.1 at in
        ap (λ (s : Shard R A). s.geometry) (sym same) ∙ (ap (λ (p : Part). p.geometry) z.2.part ∙ have m was is)
