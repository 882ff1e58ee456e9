-- A write by one thread of which too many columns landed nowhere, of its parts.
use Rattle.std.proofs.Common.{◌≡◌, ◌<◌, ◌+◌, ◌++◌, ◌∙◌, ℕ, Bool, List, Option, Err, sym, ap, subst}
use Rattle.draid_names.specs.declared.pointer.Pointer.{Pointer}
use Rattle.draid_names.specs.declared.refusal.WriteFault.TheVariants as fault
use Rattle.draid_spec.specs.declared.layout.Geometry.{Geometry}
use Rattle.draid_rack.specs.declared.Rack as racks
use Rattle.draid_area.specs.declared.Area as areas
use Rattle.draid_block.specs.Blocks.{BlockValue}
use Rattle.draid_entries.specs.Maps.{key_of}
use Rattle.draid_blocks.specs.declared.ticket.Ticket.{Ticket}
use Rattle.draid_session.specs.Holds.{Hold}
use Rattle.draid_session.specs.State.{State, Store}
use Rattle.draid_session.specs.Writes.{PutsColumns, WritesBlock}
use Rattle.draid_store.specs.Answers.{WriteInDoes}
use Rattle.draid_store.specs.Putting.{PutsBy, PutsSome}
use Rattle.draid_pool.specs.Threads.{Knows, LeadsBy}
use Rattle.draid_store.specs.Open.{KnowsOpen}
use Rattle.draid_store.specs.Writing.{BeginsIn, EndsIn}
use Rattle.draid_shard.specs.declared.shard.Shard.{Shard}
use Rattle.draid_pool.proofs.Joining.{Both, leads_then}
use Rattle.draid_pool.proofs.Joining.{leads_as}
use Rattle.draid_store.proofs.WholeWrite.{writes_block}

-- the store as the write is given up
abbrev pub store_without : Store → ℕ → Store
store_without store birth = record { changes = store.changes; marks = store.marks; seq = store.seq + 1; floor = birth }

module _ {R A S : Type 0} (rack : racks.Ghosts R) (area : areas.Ghosts A) (went : S → ℕ → Shard R A → Shard R A → S → Type 0) (shared : Bool) (owns : ℕ → Bool) (l1 l2 l3 : ℕ → Option (Shard R A)) (s0 s1 s2 s3 : S) (m object : ℕ)
    (first ticket : Ticket) (block : BlockValue) (table : ℕ → Option Pointer) (seq floor : ℕ) (x : State) (same : ticket.pointer ≡ first.pointer) (object_is : first.pointer.object ≡ object) (seq_is : first.pointer.seq ≡ seq + 1)
    (x_seq : x.store.seq ≡ seq) (x_floor : x.store.floor ≡ floor)
    (one : LeadsBy rack area went shared s0 s1 x (λ holds store. (store ≡ x.store) × BeginsIn x.geometry m floor first.pointer block.bytes holds) (KnowsOpen rack area owns l1 table seq floor m first block))
    (two : PutsBy rack area went shared owns owns l1 l2 s1 s2 m first ticket block x.geometry.g)
    (three : (y : State) → KnowsOpen rack area owns l2 table seq floor m ticket block y
    → LeadsBy rack area went shared s2 s3 y (λ holds store. EndsIn m (key_of ticket.pointer) ticket.missed holds × (y.geometry.spec.parity < ticket.missed) × (store ≡ store_without y.store ticket.pointer.birth))
    (Knows rack area owns l3 table (seq + 1) ticket.pointer.birth)) where
  abbrev BeginsAlone : List Hold → Store → Type 0
  BeginsAlone holds store = (store ≡ x.store) × BeginsIn x.geometry m floor first.pointer block.bytes holds

  abbrev Ends : List Hold → Store → Type 0
  Ends holds store = EndsIn m (key_of ticket.pointer) ticket.missed holds × (x.geometry.spec.parity < ticket.missed) × (store ≡ store_without x.store ticket.pointer.birth)

  abbrev Behind : State → Type 0
  Behind = Knows rack area owns l3 table (seq + 1) ticket.pointer.birth

  abbrev Carried : State → Type 0
  Carried = KnowsOpen rack area owns l2 table seq floor m ticket block

  pub record RestDoes (holds : List Hold) (store : Store) : Type 0 where
    pub puts : List Hold
    pub end : List Hold
    pub are : holds ≡ puts ++ end
    pub columns : PutsColumns (key_of first.pointer) m x.geometry.g puts
    pub ends : Ends end store

  rest : (y : State) → y.geometry ≡ x.geometry → y.store ≡ x.store → KnowsOpen rack area owns l1 table seq floor m first block y
      → LeadsBy rack area went shared s1 s3 y (Both rack area went shared s1 s2 s3 y (PutsSome first m x.geometry.g y) Carried Ends Behind) Behind
  rest y layout store_is known =
      leads_then rack area went shared s1 s2 s3 y (PutsSome first m x.geometry.g y) Carried Ends Behind (two table seq floor y known)
      (λ u u_layout perms front done carried.
      subst (λ (t : Geometry × Store). LeadsBy rack area went shared s2 s3 u (λ holds store. EndsIn m (key_of ticket.pointer) ticket.missed holds × (t.0.spec.parity < ticket.missed) × (store ≡ store_without t.1 ticket.pointer.birth)) Behind)
      (λ i. ((u_layout ∙ layout) i, (done.0 ∙ store_is) i)) (three u carried))

  pub lost : LeadsBy rack area went shared s0 s3 x (WriteInDoes x m object block.bytes (Err (fault.Missed ticket.missed))) (Knows rack area owns l3 table (seq + 1) ticket.pointer.birth)
  lost = leads_as rack area went shared s0 s3 x (Both rack area went shared s0 s1 s3 x BeginsAlone (KnowsOpen rack area owns l1 table seq floor m first block) RestDoes Behind) (WriteInDoes x m object block.bytes (Err (fault.Missed ticket.missed))) Behind
      (λ holds store d. record {
        birth = ticket.pointer.birth;
        writes = subst (λ hs. WritesBlock x.geometry object (x.store.seq + 1) block.bytes x.store.floor m ticket.pointer.birth ticket.missed hs) (sym (d.are ∙ ap (λ l. d.front ++ l) d.second.are))
            (subst (λ n. WritesBlock x.geometry object (x.store.seq + 1) block.bytes x.store.floor m n ticket.missed (d.front ++ (d.second.puts ++ d.second.end))) (sym (ap (λ (p : Pointer). p.birth) same))
            (writes_block x.geometry object (x.store.seq + 1) block.bytes x.store.floor m ticket.missed first.pointer ticket.pointer d.front d.second.puts d.second.end key_is same
            (subst (λ n. BeginsIn x.geometry m n first.pointer block.bytes d.front) (sym x_floor) d.first.1) d.second.columns d.second.ends.0));
        over = d.second.ends.1;
        made = d.second.ends.2;
      })
      (leads_then rack area went shared s0 s1 s3 x BeginsAlone (KnowsOpen rack area owns l1 table seq floor m first block) RestDoes Behind one
      (λ y layout perms front done known. leads_as rack area went shared s1 s3 y (Both rack area went shared s1 s2 s3 y (PutsSome first m x.geometry.g y) Carried Ends Behind) RestDoes Behind
      (λ holds store d. record { puts = d.front; end = d.back; are = d.are; columns = d.first.1; ends = d.second }) (rest y layout done.0 known)))
    where
      key_is : key_of first.pointer ≡ record { object = object; seq = x.store.seq + 1 }
      key_is = λ i. record { object = object_is i; seq = (seq_is ∙ ap (λ n. n + 1) (sym x_seq)) i }
