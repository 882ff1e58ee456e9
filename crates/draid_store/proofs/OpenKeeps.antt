-- The operations of a write keep to what every hold keeps to, and may be run whatever others did since.
use Rattle.std.proofs.Common.{◌≡◌, ◌≤◌, ◌<◌, ◌+◌, ◌∙◌, inl, inr, arith, ℕ, Bool, true, false, Option, Some, None, MatchOption, Result, Ok, Err, refl, sym, ap, subst}
use Rattle.std.proofs.lemmas.Bool.{true≢false}
use Rattle.draid_names.specs.declared.numbers.TheConstants.{LAST_NUMBER}
use Rattle.draid_names.specs.declared.pointer.Pointer.{Pointer}
use Rattle.draid_rack.specs.declared.Rack as racks
use Rattle.draid_area.specs.declared.Area as areas
use Rattle.draid_block.specs.Blocks.{BlockValue, cut_of}
use Rattle.draid_machine.specs.declared.names.Stage.{Stage}
use Rattle.draid_machine.specs.declared.names.Stage.TheVariants as stage
use Rattle.draid_machine.specs.After.{is_freed_block}
use Rattle.draid_entries.specs.declared.entry.Entry.{Entry}
use Rattle.draid_entries.specs.Entries.{begun, entry_at, held_in}
use Rattle.draid_entries.specs.Maps.{held_at, key_of, staged}
use Rattle.draid_blocks.specs.Tickets.{Carries, IsNewWrite}
use Rattle.draid_blocks.specs.declared.fault.BeginFault.{BeginFault}
use Rattle.draid_blocks.specs.declared.fault.Missed.{Missed}
use Rattle.draid_blocks.specs.declared.ticket.Ticket.{Ticket}
use Rattle.draid_shard.specs.Fits.{Valid}
use Rattle.draid_shard.specs.Part.{Part, layout_in}
use Rattle.draid_shard.specs.declared.shard.Shard.{Shard}
use Rattle.draid_shard.proofs.Held.{held_entry, key_leads}
use Rattle.draid_pool.proofs.Dids.{none_here}
use Rattle.draid_pool.proofs.Glances.{IsStill}
use Rattle.draid_pool.proofs.Imaged.{keeps_same}
use Rattle.draid_pool.specs.Drifts.{Drifts, KeepsOf, KeepsTo, is_other, StateStep}
use Rattle.draid_store.specs.Writing.{BeginsAs, BeginsShard, FinishesShard, MayBeginIn, MayFinishIn, MayPutIn, PutsShard}
use Rattle.draid_pool.proofs.Drifting.{keeps_self}
use Rattle.draid_store.proofs.FreeKeeps.{nothing_groups}
use Rattle.draid_pool.proofs.Drifting.{same_groups, same_pass}
use Rattle.draid_store.proofs.PutKeeps.{put_keeps}
use Rattle.draid_store.proofs.QuietKeeps.{begin_keeps, finish_keeps}
use Rattle.draid_pool.proofs.Rises.{records_as, records_same}
use Rattle.draid_pool.proofs.Since.{since_self, state_self}

-- an entry is what its key, its metaslab and what a state has of it say
entry_is : (e : Entry) (s : Stage) (p : Pointer) → key_of e.pointer ≡ key_of p → held_at e ≡ held_at (staged s p) → e.pointer.metaslab ≡ p.metaslab → e ≡ staged s p
entry_is e s p key held metaslab = λ i. record {
  pointer = record {
    object = (key i).object;
    seq = (key i).seq;
    metaslab = metaslab i;
    first = (held i).first;
    stripes = (held i).stripes;
    len = (held i).len;
    birth = (held i).birth;
    digest = (held i).digest;
  };
  stage = (held i).stage;
}

module _ {R A : Type 0} (rack : racks.Ghosts R) (area : areas.Ghosts A) where
  -- ---- they keep to it

  pub begins_keep : (x y : Shard R A) (object seq floor : ℕ) (block : BlockValue) (out : Option (Result Ticket BeginFault)) → BeginsShard rack x object seq floor block out y
      → KeepsTo rack area x y (Some object)
  begins_keep x y object seq floor block out b = by out b.did b.early
    where
      of : ℕ → Bool
      of = is_other (Some object)

      by : (o : Option (Result Ticket BeginFault)) → MatchOption o (x.open_group + 1 < floor) (λ result. (floor ≤ x.open_group + 1) × BeginsAs rack x object seq floor block result y) → (o ≡ None → y ≡ x)
          → KeepsTo rack area x y (Some object)
      by None did early =
          let same = early refl in
          record {
            valid = b.valid;
            part = b.part;
            later = (let c = ap (λ (s : Shard R A). s.committed) same in omega (arith, c));
            opens = (let o = ap (λ (s : Shard R A). s.open_group) same in omega (arith, o));
            groups = λ other. same_groups x y same;
            passes = λ other. same_pass x.pass y.pass b.pass;
            others = subst (λ (s : Shard R A). KeepsOf of s.committed x.entries s.entries) (sym same) (keeps_self of x.committed x.entries);
            areas = records_as area.faults x y same;
            state = subst (StateStep rack area of x) (sym same) (state_self rack area of x);
          }
      by (Some (Ok ticket)) did early =
          subst (λ n. KeepsTo rack area x y (Some n)) did.1.opens.named.object_is
          (begin_keeps rack area x y ticket.pointer (Some (begun ticket.pointer)) b.valid did.1.does b.kit b.reserve b.pass did.1.opens.enters)
      by (Some (Err fault)) did early =
          let none = did.1.nothing in
          record {
            valid = b.valid;
            part = b.part;
            later = (let c = none.keeps.groups.committed in omega (arith, c));
            opens = (let o = none.keeps.groups.open_group_is in omega (arith, o));
            groups = λ other. nothing_groups x y none b.reserve;
            passes = λ other. same_pass x.pass y.pass b.pass;
            others = record { each = λ key other. inl (none.keeps.entries.held key) };
            areas = records_same area.faults x y b.kit.areas;
            state = λ part pieces u is. record {
              reached = u;
              now = pieces;
              is = none_here rack area part pieces x y u is b.valid none.none b.kit.rack b.kit.areas b.reserve.limit b.reserve.reserved;
              since = since_self (layout_in part) u;
              images = λ mine. keeps_same u.world;
              same = λ k mine. inl refl;
            };
          }

  pub puts_keep : (x y : Shard R A) (ticket now : Ticket) (block : BlockValue) → PutsShard rack x ticket block now y → KeepsTo rack area x y (Some ticket.pointer.object)
  puts_keep x y ticket now block p = put_keeps rack area x y ticket now block p.valid p.areas_are p.reserve p.pass p.puts p.carried

  pub finishes_keep : (x y : Shard R A) (ticket : Ticket) (block : BlockValue) (result : Result Pointer Missed) → FinishesShard rack x ticket block result y → KeepsTo rack area x y (Some ticket.pointer.object)
  finishes_keep x y ticket block (Ok pointer) d = finish_keeps rack area x y ticket.pointer (Some (staged stage.Live ticket.pointer)) d.valid d.does d.kit d.reserve d.pass d.ends.2
  finishes_keep x y ticket block (Err missed) d = finish_keeps rack area x y ticket.pointer None d.valid d.does d.kit d.reserve d.pass d.ends.2

  -- ---- they may be run

  module _ (shared : Bool) (owns : ℕ → Bool) (shard x : Shard R A) (valid : Valid rack shard) (d : Drifts rack area shared owns shard x) where
    -- a ticket of a thread's own stays
    entry_on : (put missed : ℕ) (p : Pointer) → owns p.object ≡ true → entry_at shard.entries p.first ≡ Some (staged (stage.Writing put missed) p) → entry_at x.entries p.first ≡ Some (staged (stage.Writing put missed) p)
    entry_on put missed p own there =
        let led = key_leads shard.entries p.first (staged (stage.Writing put missed) p) there in
        let stays : held_in x.entries (key_of p) ≡ Some (held_at (staged (stage.Writing put missed) p)) = elim (d.own.each (key_of p) own) [
          | inl e ↦ e ∙ led
          | inr e ↦ absurd (let z : false ≡ true = sym (ap (is_freed_block x.committed) led) ∙ e.0 in true≢false (sym z))
        ] in
        let z = held_entry x.entries (key_of p) (held_at (staged (stage.Writing put missed) p)) stays in
        let number : x.number ≡ shard.number = ap (λ (q : Part). q.number) d.part in
        z.there ∙ ap Some (entry_is z.e (stage.Writing put missed) p z.key_is z.held_is (d.valid.here.each p.first z.e z.there ∙ (number ∙ sym (valid.here.each p.first (staged (stage.Writing put missed) p) there))))

    pub carries_on : (ticket : Ticket) (block : BlockValue) → owns ticket.pointer.object ≡ true → Carries shard ticket block → Carries x ticket block
    carries_on ticket block own c = record {
      is_open = entry_on ticket.next ticket.missed ticket.pointer own c.is_open;
      cut = c.cut ∙ ap (λ (q : Part). cut_of q.geometry) (sym d.part);
      content = c.content;
      columns = c.columns;
      count = subst (λ n. ticket.next ≤ n) (ap (λ (q : Part). q.geometry.g) (sym d.part)) c.count;
      few = c.few;
    }

    pub may_begin : (object seq floor : ℕ) (block : BlockValue) → owns object ≡ true → IsNewWrite shard object seq → floor ≤ LAST_NUMBER → block.cut ≡ cut_of shard.geometry → MayBeginIn rack x object seq floor block
    may_begin object seq floor block own new low cut = record {
      valid = d.valid;
      new = record {
        object_small = new.object_small;
        some_seq = new.some_seq;
        seq_small = new.seq_small;
        unused = elim (d.own.each (record { object = object; seq = seq }) own) [ inl e ↦ e ∙ new.unused | inr e ↦ e.1 ];
      };
      low = low;
      cut = cut ∙ ap (λ (q : Part). cut_of q.geometry) (sym d.part);
    }

    pub may_put : (ticket : Ticket) (block : BlockValue) → owns ticket.pointer.object ≡ true → Carries shard ticket block → ticket.next < shard.geometry.g → MayPutIn rack x ticket block
    may_put ticket block own c left = record { valid = d.valid; carries = carries_on ticket block own c; left = subst (λ n. ticket.next < n) (ap (λ (q : Part). q.geometry.g) (sym d.part)) left }

    pub may_finish : (ticket : Ticket) (block : BlockValue) → owns ticket.pointer.object ≡ true → Carries shard ticket block → ticket.next ≡ shard.geometry.g → MayFinishIn rack x ticket block
    may_finish ticket block own c all = record { valid = d.valid; carries = carries_on ticket block own c; all = all ∙ ap (λ (q : Part). q.geometry.g) (sym d.part) }

-- a refusal changes nothing
pub refused_still : {R A : Type 0} (rack : racks.Ghosts R) (area : areas.Ghosts A) (old new : Shard R A) (object seq floor : ℕ) (block : BlockValue) (fault : BeginFault) → BeginsShard rack old object seq floor block (Some (Err fault)) new → IsStill rack area old new
refused_still rack area old new object seq floor block fault b = record {
  valid = b.valid;
  part_is = b.part;
  held = b.did.1.nothing.keeps.entries.held;
  stands = λ part pieces u is. none_here rack area part pieces old new u is b.valid b.did.1.nothing.none b.kit.rack b.kit.areas b.reserve.limit b.reserve.reserved;
}
