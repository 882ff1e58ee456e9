-- What the begin and the end of a write say, each in a hold.
use Rattle.std.proofs.Common.{arith, ◌≡◌, ◌==◌, ◌+◌, ◌∙◌, ℕ, Bool, true, Option, Some, None, Result, Ok, Err, refl, sym, ap, subst, if◌then◌else◌}
use Rattle.draid_names.specs.declared.pointer.Pointer.{Pointer}
use Rattle.draid_rack.specs.declared.Rack as racks
use Rattle.draid_area.specs.declared.Area as areas
use Rattle.draid_block.specs.Blocks.{BlockValue}
use Rattle.draid_blocks.specs.declared.fault.BeginFault.{BeginFault}
use Rattle.draid_blocks.specs.declared.fault.Missed.{Missed}
use Rattle.draid_blocks.specs.declared.ticket.Ticket.{Ticket}
use Rattle.draid_shard.specs.Fits.{Valid}
use Rattle.draid_shard.specs.Part.{Part}
use Rattle.draid_pool.proofs.Lists.{some_of}
use Rattle.draid_pool.specs.Drifts.{Drifts}
use Rattle.draid_store.specs.Putting.{BeginSays, EndSays, MayStart}
use Rattle.draid_store.specs.Writing.{BeginsShard, FinishesShard}
use Rattle.draid_shard.specs.declared.shard.Shard.{Shard}
use Rattle.draid_store.proofs.Ending.{missed_step, stored_step}
use Rattle.draid_pool.proofs.ShardSteps.{at_here}
use Rattle.draid_pool.proofs.Glances.{early_still, look_step}
use Rattle.draid_store.proofs.OpenKeeps.{refused_still}
use Rattle.draid_store.proofs.Opening.{begin_step}

module _ {R A S : Type 0} (rack : racks.Ghosts R) (area : areas.Ghosts A) (went : S → ℕ → Shard R A → Shard R A → S → Type 0) (shared : Bool) (owns : ℕ → Bool) (last new : ℕ → Option (Shard R A)) (a b : S) (m : ℕ)
    (shard before after : Shard R A) (there : last m ≡ Some shard) (drifts : Drifts rack area shared owns shard before) (is : (k : ℕ) → new k ≡ (if k == m then Some after else last k)) (goes : went a m before after b) where
  pub begin_says : (columns object seq floor : ℕ) (block : BlockValue) → owns object ≡ true → MayStart rack owns last m columns object seq floor block → (out : Option (Result Ticket BeginFault))
      → BeginsShard rack before object (seq + 1) floor block out after → BeginSays rack area went shared owns owns last new a b m columns object seq floor block out
  begin_says columns object seq floor block own may None s =
      λ table x knows. look_step rack area went shared owns a b last new m shard before after there drifts is goes table seq floor x knows (early_still rack area before after s.valid (s.early refl))
  begin_says columns object seq floor block own may (Some (Err fault)) s =
      λ table x knows. look_step rack area went shared owns a b last new m shard before after there drifts is goes table seq floor x knows (refused_still rack area before after object (seq + 1) floor block fault s)
  begin_says columns object seq floor block own may (Some (Ok ticket)) s =
      let same = some_of (last m) may.shard shard may.there there in
      record {
        carries = record {
          shard = after;
          there = at_here rack area shared owns last new m shard before after there drifts (subst (λ (c : Shard R A). Valid rack c) same may.valid) s.valid is;
          valid = s.valid;
          carries = s.did.1.opens.carries;
          columns_are = ap (λ (q : Part). q.geometry.g) (s.part ∙ drifts.part) ∙ (ap (λ (c : Shard R A). c.geometry.g) (sym same) ∙ may.columns_are);
        };
        fresh = s.did.1.opens.named.fresh.0;
        object_is = s.did.1.opens.named.object_is;
        seq_is = s.did.1.opens.named.seq_is;
        at = s.did.1.opens.named.metaslab_is ∙ (ap (λ (q : Part). q.number) drifts.part ∙ (ap (λ (c : Shard R A). c.number) (sym same) ∙ may.number));
        low = (let birth = s.did.1.opens.named.birth_is in let low = s.did.1.low in omega (arith, birth, low));
        late = λ was at. (
            let opens = drifts.opens in
            let birth = s.did.1.opens.named.birth_is in
            let is_it = ap (λ (c : Shard R A). c.open_group) (some_of (last m) shard was there at) in
            omega (arith, opens, birth, is_it)
            );
        step = λ table x knows. begin_step rack area went shared owns a b last new m shard before after there drifts s.valid is goes table seq floor x knows object block ticket own s.did.1 s.kit s.reserve;
      }

  pub end_says : (ticket : Ticket) (block : BlockValue) (result : Result Pointer Missed) → FinishesShard rack before ticket block result after → EndSays rack area went shared owns owns last new a b m ticket block result
  end_says ticket block (Ok pointer) d =
      λ table then_table seq floor x sets whole knows. stored_step rack area went shared owns a b last new m shard before after there drifts d.valid is goes table seq floor x ticket block knows pointer d then_table sets whole
  end_says ticket block (Err missed) d = (
    d.ends.0,
    λ table seq floor x knows. missed_step rack area went shared owns a b last new m shard before after there drifts d.valid is goes table seq floor x ticket block knows missed d,
  )
