-- Blocks that are live as a metaslab was left, and as it is left then.
use Rattle.std.proofs.Common.{inl, inr, ◌≡◌, ◌∙◌, ℕ, Option, Some, None, Result, Ok, Err, refl, sym, ap, subst}
use Rattle.draid_names.specs.declared.pointer.Pointer.{Pointer}
use Rattle.draid_rack.specs.declared.Rack as racks
use Rattle.draid_area.specs.declared.Area as areas
use Rattle.draid_block.specs.Blocks.{BlockValue}
use Rattle.draid_machine.specs.declared.names.Held.{Held}
use Rattle.draid_machine.specs.declared.names.Stage.TheVariants as stage
use Rattle.draid_machine.specs.Names.{key_eq}
use Rattle.draid_machine.proofs.Small.{bool_cases, held_other, key_true, none_some}
use Rattle.std.specs.Prelude.{option_map}
use Rattle.draid_entries.specs.declared.entry.Entry.{Entry}
use Rattle.draid_entries.specs.Entries.{begun, held_in}
use Rattle.draid_entries.specs.Maps.{held_at, key_of, staged}
use Rattle.draid_blocks.specs.declared.fault.BeginFault.{BeginFault}
use Rattle.draid_blocks.specs.declared.fault.Missed.{Missed}
use Rattle.draid_blocks.specs.declared.ticket.Ticket.{Ticket}
use Rattle.draid_shard.specs.Changes.{SetsBlock}
use Rattle.draid_shard.specs.Fits.{Valid}
use Rattle.draid_shard.specs.Looks.{IsLive}
use Rattle.draid_shard.specs.States.{part_of}
use Rattle.draid_shard.specs.declared.shard.Shard.{Shard}
use Rattle.draid_shard.proofs.Held.{key_leads}
use Rattle.draid_pool.proofs.Lists.{some_of}
use Rattle.draid_store.specs.Writing.{BeginsShard, FinishesAs, FinishesShard, PutsShard}
use Rattle.draid_pool.proofs.HoldStep.{live_key}

writing_live : (c m : ℕ) → stage.Writing c m ≡ stage.Live → ⊥
writing_live c m e = cc

module _ {R A : Type 0} (rack : racks.Ghosts R) (area : areas.Ghosts A) where
  -- what is live stays, as a ticket's entry is set
  pub live_beside : (old new : Shard R A) (p q : Pointer) (entry : Option Entry) → Valid rack old → Valid rack new → part_of new ≡ part_of old → SetsBlock old new p entry
      → ((h : Held) → held_in old.entries (key_of p) ≡ Some h → h.stage ≡ stage.Live → ⊥) → IsLive old q → IsLive new q
  live_beside old new p q entry vo vn part sets not_live live = elim (bool_cases (key_eq (key_of p) (key_of q))) [
    | inr other ↦ live_key rack old new q vo vn part (sets.entry.held (key_of q) ∙ held_other (held_in old.entries) (key_of p) (key_of q) (option_map held_at entry) other) live
    | inl one ↦ absurd (not_live (held_at (staged stage.Live q)) (ap (held_in old.entries) (key_true (key_of p) (key_of q) one) ∙ key_leads old.entries q.first (staged stage.Live q) live) refl)
  ]

  pub live_put : (old new : Shard R A) (ticket now : Ticket) (block : BlockValue) (q : Pointer) → Valid rack old → PutsShard rack old ticket block now new → IsLive old q → IsLive new q
  live_put old new ticket now block q valid put live =
      live_beside old new ticket.pointer q (Some (staged (stage.Writing now.next now.missed) ticket.pointer)) valid put.valid put.puts.does.part put.puts.sets
      (λ h there is_live. writing_live ticket.next ticket.missed (ap (λ (i : Held). i.stage) (some_of (held_in old.entries (key_of ticket.pointer)) (held_at (staged (stage.Writing ticket.next ticket.missed) ticket.pointer)) h
      (key_leads old.entries ticket.pointer.first (staged (stage.Writing ticket.next ticket.missed) ticket.pointer) put.carried.is_open) there) ∙ is_live)) live

  pub live_end : (old new : Shard R A) (ticket : Ticket) (block : BlockValue) (result : Result Pointer Missed) (q : Pointer) → Valid rack old → FinishesShard rack old ticket block result new → IsLive old q → IsLive new q
  live_end old new ticket block result q valid d live = by result d.ends
    where
      not_live : (h : Held) → held_in old.entries (key_of ticket.pointer) ≡ Some h → h.stage ≡ stage.Live → ⊥
      not_live h there is_live = writing_live ticket.next ticket.missed (ap (λ (i : Held). i.stage) (some_of (held_in old.entries (key_of ticket.pointer)) (held_at (staged (stage.Writing ticket.next ticket.missed) ticket.pointer)) h
          (key_leads old.entries ticket.pointer.first (staged (stage.Writing ticket.next ticket.missed) ticket.pointer) d.carried.is_open) there) ∙ is_live)

      by : (r : Result Pointer Missed) → FinishesAs rack old ticket r new → IsLive new q
      by (Ok pointer) e = live_beside old new ticket.pointer q (Some (staged stage.Live ticket.pointer)) valid d.valid d.does.part e.2 not_live live
      by (Err missed) e = live_beside old new ticket.pointer q None valid d.valid d.does.part e.2 not_live live

  pub live_begin : (old new : Shard R A) (object seq floor : ℕ) (block : BlockValue) (out : Option (Result Ticket BeginFault)) (q : Pointer) → Valid rack old → BeginsShard rack old object seq floor block out new → IsLive old q → IsLive new q
  live_begin old new object seq floor block None q valid b live = subst (λ (s : Shard R A). IsLive s q) (sym (b.early refl)) live
  live_begin old new object seq floor block (Some (Err fault)) q valid b live = live_key rack old new q valid b.valid b.part (b.did.1.nothing.keeps.entries.held (key_of q)) live
  live_begin old new object seq floor block (Some (Ok ticket)) q valid b live =
      live_beside old new ticket.pointer q (Some (begun ticket.pointer)) valid b.valid b.part b.did.1.opens.enters
      (λ h there is_live. none_some (held_in old.entries (key_of ticket.pointer)) h
      (ap (held_in old.entries) (λ i. record { object = b.did.1.opens.named.object_is i; seq = b.did.1.opens.named.seq_is i }) ∙ b.did.1.unused) there) live
