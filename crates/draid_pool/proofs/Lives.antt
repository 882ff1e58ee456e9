-- The pointer of a live block is known by what a state holds.
use Rattle.std.proofs.Common.{◌≡◌, ◌∙◌, Some, sym, ap}
use Rattle.draid_names.specs.declared.pointer.Pointer.{Pointer}
use Rattle.draid_rack.specs.declared.Rack as racks
use Rattle.draid_machine.specs.declared.names.Stage.TheVariants.{Live}
use Rattle.draid_machine.specs.State as machine
use Rattle.draid_entries.specs.declared.entry.Entry.{Entry}
use Rattle.draid_entries.specs.Maps.{held_at, key_of, staged}
use Rattle.draid_shard.specs.Looks.{IsLive}
use Rattle.draid_shard.specs.Fits.{Valid}
use Rattle.draid_shard.specs.States.{IsIn}
use Rattle.draid_shard.specs.declared.shard.Shard.{Shard}
use Rattle.draid_shard.proofs.Held.{held_entry, key_leads}

pub held_by : {R A : Type 0} (shard : Shard R A) (w : machine.State) (p : Pointer) → IsIn shard w → IsLive shard p → w.core.held (key_of p) ≡ Some (held_at (staged Live p))
held_by shard w p is live = is.held (key_of p) ∙ key_leads shard.entries p.first (staged Live p) live

-- an entry that says as much as a live block's, in the same metaslab, is that
same_entry : (e : Entry) (p : Pointer) → key_of e.pointer ≡ key_of p → held_at e ≡ held_at (staged Live p) → e.pointer.metaslab ≡ p.metaslab → e ≡ staged Live p
same_entry e p key held metaslab = λ i. record {
  pointer = record {
    object = (key i).object;
    seq = (key i).seq;
    metaslab = metaslab i;
    first = (held i).first;
    stripes = (held i).stripes;
    len = (held i).len;
    birth = (held i).birth;
    digest = (held i).digest;
  };
  stage = (held i).stage;
}

pub live_by : {R A : Type 0} (rack : racks.Ghosts R) (shard : Shard R A) (w : machine.State) (p : Pointer) → Valid rack shard → IsIn shard w
    → w.core.held (key_of p) ≡ Some (held_at (staged Live p)) → p.metaslab ≡ shard.number → IsLive shard p
live_by rack shard w p valid is there here =
    let z = held_entry shard.entries (key_of p) (held_at (staged Live p)) (sym (is.held (key_of p)) ∙ there) in
    z.there ∙ ap Some (same_entry z.e p z.key_is z.held_is (valid.here.each p.first z.e z.there ∙ sym here))
