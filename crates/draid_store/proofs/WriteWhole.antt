-- What a thread has stays whole through a write of its own, hold by hold.
use Rattle.std.proofs.Common.{◌≡◌, ◌==◌, ◌≤◌, ◌+◌, ◌∙◌, ◌⊎◌, inl, arith, ℕ, Bool, true, Option, Some, None, Result, Ok, Err, refl, sym, ap, subst, if◌then◌else◌}
use Rattle.std.proofs.lemmas.Bool.{true≢false}
use Rattle.draid_names.specs.declared.numbers.TheConstants.{LAST_NUMBER}
use Rattle.draid_names.specs.declared.pointer.Pointer.{Pointer}
use Rattle.draid_rack.specs.declared.Rack as racks
use Rattle.draid_area.specs.declared.Area as areas
use Rattle.draid_block.specs.Blocks.{BlockValue}
use Rattle.draid_machine.specs.declared.names.Key.{Key}
use Rattle.draid_machine.specs.declared.names.Stage.TheVariants as stage
use Rattle.draid_machine.specs.Names.{is_block, key_eq}
use Rattle.draid_machine.proofs.Small.{equal, key_refl}
use Rattle.draid_entries.specs.declared.entry.Entry.{Entry}
use Rattle.draid_entries.specs.Entries.{SetsEntry, begun, entry_at}
use Rattle.draid_entries.specs.Maps.{key_of, staged}
use Rattle.draid_blocks.specs.declared.fault.BeginFault.{BeginFault}
use Rattle.draid_blocks.specs.declared.fault.Missed.{Missed}
use Rattle.draid_blocks.specs.declared.ticket.Ticket.{Ticket}
use Rattle.draid_shard.specs.Fits.{Valid}
use Rattle.draid_shard.specs.Looks.{IsLive}
use Rattle.draid_shard.specs.States.{part_of}
use Rattle.draid_shard.specs.declared.shard.Shard.{Shard}
use Rattle.draid_pool.specs.Drifts.{Drifts, groups_number, KeepsGroups}
use Rattle.draid_pool.specs.Threads.{AllStay, HasPointer, IsHeldBy, IsWholeBut, IsWholeBy, all_of, but}
use Rattle.draid_store.specs.Putting.{BeginRefusedBy, BeginsWhole, EndsWhole}
use Rattle.draid_store.specs.Writing.{BeginsShard, FinishesShard, PutsShard}
use Rattle.draid_pool.proofs.HeldBy.{held_drifts, held_set, stay_held, whole_on}
use Rattle.draid_pool.proofs.Hiding.{but_away, but_here, but_inside}
use Rattle.draid_pool.proofs.Lists.{some_of}
use Rattle.draid_pool.proofs.ShardSteps.{at_here}
use Rattle.draid_pool.proofs.Wholes.{open_high, open_low}
use Rattle.draid_store.proofs.FreeKeeps.{sets_groups, nothing_groups}
use Rattle.draid_store.proofs.FreeWhole.{near_open}
use Rattle.draid_pool.proofs.Drifting.{same_groups}
use Rattle.draid_store.proofs.Lively.{live_begin, live_end, live_put}

-- a place that isn't seen
hidden : (owns : ℕ → Bool) (m : ℕ) (key : Key) → but m key (all_of owns) m key ≡ true → ⊥
hidden owns m key seen = true≢false (sym (key_refl key) ∙ but_here (all_of owns) m key key seen)

module _ {R A : Type 0} (rack : racks.Ghosts R) (area : areas.Ghosts A) (shared : Bool) (owns : ℕ → Bool) (last new : ℕ → Option (Shard R A)) (m : ℕ) (shard before after : Shard R A) (there : last m ≡ Some shard)
    (drifts : Drifts rack area shared owns shard before) (is : (k : ℕ) → new k ≡ (if k == m then Some after else last k)) where
  module _ (valid : Valid rack after) (part : part_of after ≡ part_of before) (groups : KeepsGroups before after) (mine then_mine : ℕ → Key → Bool) (table : ℕ → Option Pointer) (seq floor then_seq then_floor : ℕ)
      (inside : (k : Key) → mine m k ≡ true → owns k.object ≡ true) (whole : IsWholeBut rack owns mine last table seq floor) where
    held_found : IsHeldBy rack (mine m) seq before
    held_found = held_drifts rack (mine m) seq shard before drifts.valid (whole.shards m shard there) owns before.committed inside drifts.own

    pub whole_then : IsHeldBy rack (then_mine m) then_seq after → ((n : ℕ) (k : Key) → (n ≡ m → ⊥) → then_mine n k ≡ true → mine n k ≡ true) → seq ≤ then_seq → (then_floor ≤ floor) ⊎ (then_floor ≤ after.open_group) → then_floor ≤ LAST_NUMBER
        → ((q : Pointer) → IsLive before q → IsLive after q) → IsWholeBut rack owns then_mine new table then_seq then_floor
    whole_then held others later near low live = whole_on owns rack area shared last new m shard before after there drifts part groups is valid mine then_mine table table seq floor then_seq then_floor whole held others later near low
        (λ o q at. (whole.pointers o q at, live q))

  -- ---- the begin

  pub begin_groups : (object seq floor : ℕ) (block : BlockValue) (out : Option (Result Ticket BeginFault)) → BeginsShard rack before object seq floor block out after → KeepsGroups before after
  begin_groups object seq floor block None b = same_groups before after (b.early refl)
  begin_groups object seq floor block (Some (Ok ticket)) b = sets_groups before after ticket.pointer (Some (begun ticket.pointer)) b.did.1.opens.enters b.reserve
  begin_groups object seq floor block (Some (Err fault)) b = nothing_groups before after b.did.1.nothing b.reserve

  pub begin_stays : (object seq floor : ℕ) (block : BlockValue) (out : Option (Result Ticket BeginFault)) → BeginsShard rack before object seq floor block out after → AllStay owns last new
  begin_stays object seq floor block out b = stay_held owns rack area shared last new m shard before after there drifts b.part (begin_groups object seq floor block out b) is

  pub begin_whole : (object seq floor : ℕ) (block : BlockValue) (table : ℕ → Option Pointer) (out : Option (Result Ticket BeginFault)) → BeginsShard rack before object (seq + 1) floor block out after → IsWholeBy rack owns last table seq floor
      → BeginsWhole rack owns new table seq floor m out
  begin_whole object seq floor block table None b whole =
      whole_then b.valid b.part (begin_groups object (seq + 1) floor block None b) (all_of owns) (all_of owns) table seq floor seq floor (λ k mine. mine) whole
      (subst (λ (s : Shard R A). IsHeldBy rack (all_of owns m) seq s) (sym (b.early refl)) (held_found b.valid b.part (begin_groups object (seq + 1) floor block None b) (all_of owns) (all_of owns) table seq floor seq floor (λ k mine. mine) whole))
      (λ n k not seen. seen) (omega arith)
      (inl (omega arith)) whole.low
      (λ q live. live_begin rack area before after object (seq + 1) floor block None q drifts.valid b live)
  begin_whole object seq floor block table (Some (Err fault)) b whole =
      whole_then b.valid b.part (begin_groups object (seq + 1) floor block (Some (Err fault)) b) (all_of owns) (all_of owns) table seq floor seq floor (λ k mine. mine) whole
      (held_drifts rack (all_of owns m) seq before after b.valid (held_found b.valid b.part (begin_groups object (seq + 1) floor block (Some (Err fault)) b) (all_of owns) (all_of owns) table seq floor seq floor (λ k mine. mine) whole) owns after.committed (λ k mine. mine)
      (record { each = λ k own. inl (b.did.1.nothing.keeps.entries.held k) }))
      (λ n k not seen. seen) (omega arith)
      (inl (omega arith)) whole.low
      (λ q live. live_begin rack area before after object (seq + 1) floor block (Some (Err fault)) q drifts.valid b live)
  begin_whole object seq floor block table (Some (Ok ticket)) b whole =
      whole_then b.valid b.part g (all_of owns) mine table seq floor seq ticket.pointer.birth (λ k own. own) whole
      (held_set rack (all_of owns m) (mine m) seq seq before after b.valid (held_found b.valid b.part g (all_of owns) mine table seq floor seq ticket.pointer.birth (λ k own. own) whole) (omega arith) ticket.pointer (Some (begun ticket.pointer))
      b.did.1.opens.enters.entry (λ k other seen. but_inside (all_of owns) m (key_of ticket.pointer) m k seen)
      (record { numbered = λ e e_is seen. absurd (hidden owns m (key_of ticket.pointer) seen); settled = λ e e_is seen. absurd (hidden owns m (key_of ticket.pointer) seen) }))
      (λ n k not seen. but_inside (all_of owns) m (key_of ticket.pointer) n k seen) (omega arith)
      (near_open ticket.pointer.birth before.open_group floor after.open_group b.did.1.opens.named.birth_is (let same = g.groups.open_group_is in omega (arith, same)))
      (let birth = b.did.1.opens.named.birth_is in let low = b.did.1.low in omega (arith, birth, low))
      (λ q live. live_begin rack area before after object (seq + 1) floor block (Some (Ok ticket)) q drifts.valid b live)
    where
      mine : ℕ → Key → Bool
      mine = but m (key_of ticket.pointer) (all_of owns)

      g : KeepsGroups before after
      g = begin_groups object (seq + 1) floor block (Some (Ok ticket)) b

  -- it is always the turn of who alone closes groups
  pub begin_served : (object seq floor : ℕ) (block : BlockValue) (out : Option (Result Ticket BeginFault)) → BeginsShard rack before object seq floor block out after → (owns groups_number ≡ true → floor ≤ shard.committed + 2) → owns groups_number ≡ true → out ≡ None → ⊥
  begin_served object seq floor block None b next own none =
      let up = next own in
      let drift = (drifts.groups own).groups.committed in
      let high = open_high before.open_group before.closing before.committed before.sealed drifts.valid.groups in
      let late = b.did in
      omega (arith, up, drift, high, late)
  begin_served object seq floor block (Some r) b next own none = absurd (cc)

  -- why none was begun
  pub begin_refused : (object seq floor : ℕ) (block : BlockValue) (out : Option (Result Ticket BeginFault)) → BeginsShard rack before object seq floor block out after → BeginRefusedBy rack area shared owns last m block out
  begin_refused object seq floor block None b = tt
  begin_refused object seq floor block (Some (Ok ticket)) b = tt
  begin_refused object seq floor block (Some (Err fault)) b = record { shard = shard; there = there; found = before; drifts = drifts; why = b.did.1.refused }

  -- ---- a column

  put_groups : (ticket now : Ticket) (block : BlockValue) → PutsShard rack before ticket block now after → KeepsGroups before after
  put_groups ticket now block put = sets_groups before after ticket.pointer (Some (staged (stage.Writing now.next now.missed) ticket.pointer)) put.puts.sets put.reserve

  pub put_stays : (ticket now : Ticket) (block : BlockValue) → PutsShard rack before ticket block now after → AllStay owns last new
  put_stays ticket now block put = stay_held owns rack area shared last new m shard before after there drifts put.puts.does.part (put_groups ticket now block put) is

  pub put_whole : (ticket now : Ticket) (block : BlockValue) (key : Key) (table : ℕ → Option Pointer) (seq floor : ℕ) → key_of ticket.pointer ≡ key → PutsShard rack before ticket block now after
      → IsWholeBut rack owns (but m key (all_of owns)) last table seq floor → IsWholeBut rack owns (but m key (all_of owns)) new table seq floor
  put_whole ticket now block key table seq floor key_is put whole =
      whole_then put.valid put.puts.does.part (put_groups ticket now block put) mine mine table seq floor seq floor inside whole
      (held_set rack (mine m) (mine m) seq seq before after put.valid (held_found put.valid put.puts.does.part (put_groups ticket now block put) mine mine table seq floor seq floor inside whole) (omega arith) ticket.pointer
      (Some (staged (stage.Writing now.next now.missed) ticket.pointer)) put.puts.sets.entry (λ k other seen. seen)
      (record { numbered = λ e e_is seen. absurd (hidden owns m key (ap (mine m) (sym key_is) ∙ seen)); settled = λ e e_is seen. absurd (hidden owns m key (ap (mine m) (sym key_is) ∙ seen)) }))
      (λ n k not seen. seen) (omega arith)
      (inl (omega arith)) whole.low
      (λ q live. live_put rack area before after ticket now block q drifts.valid put live)
    where
      mine : ℕ → Key → Bool
      mine = but m key (all_of owns)

      inside : (k : Key) → mine m k ≡ true → owns k.object ≡ true
      inside k seen = but_inside (all_of owns) m key m k seen

  -- ---- the end

  pub end_groups : (ticket : Ticket) (block : BlockValue) (result : Result Pointer Missed) → FinishesShard rack before ticket block result after → KeepsGroups before after
  end_groups ticket block (Ok pointer) d = sets_groups before after ticket.pointer (Some (staged stage.Live ticket.pointer)) d.ends.2 d.reserve
  end_groups ticket block (Err missed) d = sets_groups before after ticket.pointer None d.ends.2 d.reserve

  pub end_stays : (ticket : Ticket) (block : BlockValue) (result : Result Pointer Missed) → FinishesShard rack before ticket block result after → AllStay owns last new
  end_stays ticket block result d = stay_held owns rack area shared last new m shard before after there drifts d.does.part (end_groups ticket block result d) is

  module _ (ticket : Ticket) (block : BlockValue) (table : ℕ → Option Pointer) (seq floor : ℕ) (number : ticket.pointer.seq ≡ seq + 1) (at : ticket.pointer.metaslab ≡ m) (own_object : owns ticket.pointer.object ≡ true)
      (whole : IsWholeBut rack owns (but m (key_of ticket.pointer) (all_of owns)) last table seq floor) where
    abbrev key : Key
    key = key_of ticket.pointer

    abbrev mine : ℕ → Key → Bool
    mine = but m (key_of ticket.pointer) (all_of owns)

    inside : (k : Key) → mine m k ≡ true → owns k.object ≡ true
    inside k seen = but_inside (all_of owns) m key m k seen

    ended : (result : Result Pointer Missed) (entry : Option Entry) → (d : FinishesShard rack before ticket block result after) → SetsEntry before.entries after.entries ticket.pointer entry
        → ((e : Entry) → entry ≡ Some e → is_block e.stage ≡ true) → IsWholeBy rack owns new table (seq + 1) floor
    ended result entry d sets settled =
        whole_then d.valid d.does.part g mine (all_of owns) table seq floor (seq + 1) floor inside whole
        (held_set rack (mine m) (all_of owns m) seq (seq + 1) before after d.valid (held_found d.valid d.does.part g mine (all_of owns) table seq floor (seq + 1) floor inside whole) (omega arith) ticket.pointer entry sets
        (λ k other seen. but_away (all_of owns) m key m k (λ same_m same_k. true≢false (sym (subst (λ j. key_eq key j ≡ true) same_k (key_refl key)) ∙ other)) ∙ seen)
        (record { numbered = λ e e_is seen. (omega (arith, number)); settled = λ e e_is seen. settled e e_is }))
        (λ n k not seen. but_away (all_of owns) m key n k (λ same_m same_k. not (sym same_m)) ∙ seen) (omega arith)
        (inl (omega arith)) whole.low
        (λ q live. live_end rack area before after ticket block result q drifts.valid d live)
      where
        g : KeepsGroups before after
        g = end_groups ticket block result d

    pub end_whole : (result : Result Pointer Missed) → FinishesShard rack before ticket block result after → EndsWhole rack owns new table seq floor ticket.pointer.object result
    end_whole (Ok pointer) d = (
      ended (Ok pointer) (Some (staged stage.Live ticket.pointer)) d d.ends.2.entry (λ e e_is. ap (λ (i : Entry). is_block i.stage) (some_of (Some (staged stage.Live ticket.pointer)) e (staged stage.Live ticket.pointer) e_is refl)),
      subst (λ (p : Pointer). HasPointer new rack owns ticket.pointer.object p) (sym d.ends.0) (record {
        object_is = refl;
        own = own_object;
        shard = after;
        there = ap new at ∙ at_here rack area shared owns last new m shard before after there drifts (whole.shards m shard there).valid d.valid is;
        valid = d.valid;
        live = d.ends.2.entry.at ticket.pointer.first ∙ ap (λ b. if b then Some (staged stage.Live ticket.pointer) else entry_at before.entries ticket.pointer.first) (equal ticket.pointer.first ticket.pointer.first refl);
      }),
    )
    end_whole (Err missed) d = ended (Err missed) None d d.ends.2.entry (λ e e_is. absurd (cc))
