-- A whole write by one thread, of its parts.
use Rattle.std.proofs.Common.{◌≡◌, ◌≤◌, ◌+◌, ◌++◌, ◌∙◌, ℕ, Bool, List, [], ◌∷◌, Option, Some, refl, sym, ap, subst}
use Rattle.draid_names.specs.declared.pointer.Pointer.{Pointer}
use Rattle.draid_spec.specs.declared.layout.Geometry.{Geometry}
use Rattle.draid_rack.specs.declared.Rack as racks
use Rattle.draid_area.specs.declared.Area as areas
use Rattle.draid_block.specs.Blocks.{BlockValue}
use Rattle.draid_machine.specs.declared.event.Event.TheVariants as event
use Rattle.draid_objects.specs.Changes.{write_of}
use Rattle.draid_entries.specs.Maps.{key_of}
use Rattle.draid_blocks.specs.declared.ticket.Ticket.{Ticket}
use Rattle.draid_session.specs.Holds.{Did, Hold, On}
use Rattle.draid_session.specs.State.{State, Store}
use Rattle.draid_session.specs.Writes.{PutsColumns, WritesBlock}
use Rattle.draid_store.specs.Storing.{StoresIn, store_with}
use Rattle.draid_store.specs.Putting.{PutsBy, PutsSome}
use Rattle.draid_pool.specs.Threads.{LeadsBy}
use Rattle.draid_store.specs.Open.{KnowsOpen, KnowsReplaced}
use Rattle.draid_store.specs.Writing.{BeginsIn, EndsIn}
use Rattle.draid_shard.specs.declared.shard.Shard.{Shard}
use Rattle.draid_pool.proofs.Joining.{Both, leads_then}
use Rattle.draid_pool.proofs.Joining.{leads_as}

joined : {A : Type 0} (a b c : List A) → (a ++ b) ++ c ≡ a ++ (b ++ c)
joined [] b c = refl
joined (x ∷ a) b c = ap (λ l. x ∷ l) (joined a b c)

-- its holds are those of a write
pub writes_block : (geometry : Geometry) (object seq : ℕ) (bytes : List ℕ) (floor m columns : ℕ) (p q : Pointer) (front puts last : List Hold) → key_of p ≡ record { object = object; seq = seq } → q ≡ p
    → BeginsIn geometry m floor p bytes front → PutsColumns (key_of p) m geometry.g puts → EndsIn m (key_of q) columns last → WritesBlock geometry object seq bytes floor m p.birth columns (front ++ (puts ++ last))
writes_block geometry object seq bytes floor m columns p q front puts last key_is same b some e = record {
  puts = puts;
  v = b.v;
  begun = b.begun;
  first = p.first;
  last = e.v;
  ended = e.ended;
  key = record { object = object; seq = seq };
  key_is = refl;
  are = (λ i. b.are i ++ (puts ++ e.are i))
      ∙ (λ i. On b.v (Did (event.Begin (key_is i) p.first (b.stripes_are i) (b.len_is i) p.birth (b.digest_is i)) b.begun) ∷ (puts ++ On e.v (Did (event.Finish (key_last i)) e.ended) ∷ []));
  there = (b.there, e.there);
  takes_blocks = b.takes_blocks;
  birth_is = b.birth_is;
  all_put = subst (λ k. PutsColumns k m geometry.g puts) key_is some;
  missed = record { h = e.missed.h; put = e.missed.put; found = subst (λ k. e.v.world.core.held k ≡ Some e.missed.h) key_last e.missed.found; stage = e.missed.stage };
}
  where
    key_last : key_of q ≡ record { object = object; seq = seq }
    key_last = ap key_of same ∙ key_is

module _ {R A S : Type 0} (rack : racks.Ghosts R) (area : areas.Ghosts A) (went : S → ℕ → Shard R A → Shard R A → S → Type 0) (shared : Bool) (owns : ℕ → Bool) (l1 l2 l3 l4 : ℕ → Option (Shard R A)) (s0 s1 s2 s3 s4 : S) (m object : ℕ)
    (first ticket : Ticket) (block : BlockValue) (table then_table : ℕ → Option Pointer) (seq floor group : ℕ) (x : State) (same : ticket.pointer ≡ first.pointer) (object_is : first.pointer.object ≡ object) (seq_is : first.pointer.seq ≡ seq + 1)
    (x_seq : x.store.seq ≡ seq) (x_floor : x.store.floor ≡ floor)
    (one : LeadsBy rack area went shared s0 s1 x (λ holds store. (store ≡ x.store) × BeginsIn x.geometry m floor first.pointer block.bytes holds) (KnowsOpen rack area owns l1 table seq floor m first block))
    (two : PutsBy rack area went shared owns owns l1 l2 s1 s2 m first ticket block x.geometry.g)
    (three : (y : State) → y.geometry ≡ x.geometry → KnowsOpen rack area owns l2 table seq floor m ticket block y
    → LeadsBy rack area went shared s2 s3 y (λ holds store. EndsIn m (key_of ticket.pointer) ticket.missed holds × (ticket.missed ≤ y.geometry.spec.parity) × (store ≡ store_with y.store ticket.pointer.object m ticket.pointer.birth block.bytes))
    (KnowsReplaced rack area owns l3 then_table (seq + 1) ticket.pointer.birth (table ticket.pointer.object) (write_of y.store.changes ticket.pointer.object))) where
  abbrev BeginsAlone : List Hold → Store → Type 0
  BeginsAlone holds store = (store ≡ x.store) × BeginsIn x.geometry m floor first.pointer block.bytes holds

  abbrev Ends : Store → List Hold → Store → Type 0
  Ends s holds store = EndsIn m (key_of ticket.pointer) ticket.missed holds × (ticket.missed ≤ x.geometry.spec.parity) × (store ≡ store_with s ticket.pointer.object m ticket.pointer.birth block.bytes)

  abbrev Replaced : Store → State → Type 0
  Replaced s = KnowsReplaced rack area owns l3 then_table (seq + 1) ticket.pointer.birth (table ticket.pointer.object) (write_of s.changes ticket.pointer.object)

  abbrev Carried : State → Type 0
  Carried = KnowsOpen rack area owns l2 table seq floor m ticket block

  pub record RestDoes (holds : List Hold) (store : Store) : Type 0 where
    pub puts : List Hold
    pub end : List Hold
    pub are : holds ≡ puts ++ end
    pub columns : PutsColumns (key_of first.pointer) m x.geometry.g puts
    pub ends : Ends x.store end store

  -- the columns, and the end
  rest : (y : State) → y.geometry ≡ x.geometry → y.store ≡ x.store → KnowsOpen rack area owns l1 table seq floor m first block y
      → LeadsBy rack area went shared s1 s3 y (Both rack area went shared s1 s2 s3 y (PutsSome first m x.geometry.g y) Carried (Ends x.store) (Replaced x.store)) (Replaced x.store)
  rest y layout store_is known =
      leads_then rack area went shared s1 s2 s3 y (PutsSome first m x.geometry.g y) Carried (Ends x.store) (Replaced x.store) (two table seq floor y known)
      (λ u u_layout perms front done carried.
      subst (λ (t : Geometry × Store). LeadsBy rack area went shared s2 s3 u (λ holds store. EndsIn m (key_of ticket.pointer) ticket.missed holds × (ticket.missed ≤ t.0.spec.parity) × (store ≡ store_with t.1 ticket.pointer.object m ticket.pointer.birth block.bytes)) (Replaced t.1))
      (λ i. ((u_layout ∙ layout) i, (done.0 ∙ store_is) i)) (three u (u_layout ∙ layout) carried))

  pub stored : LeadsBy rack area went shared s0 s3 x (StoresIn x m object first.pointer.birth block.bytes) (Replaced x.store)
  stored = leads_as rack area went shared s0 s3 x (Both rack area went shared s0 s1 s3 x BeginsAlone (KnowsOpen rack area owns l1 table seq floor m first block) RestDoes (Replaced x.store)) (StoresIn x m object first.pointer.birth block.bytes) (Replaced x.store)
      (λ holds store done. made done.front done.back done.mid holds store done.are done.first done.second)
      (leads_then rack area went shared s0 s1 s3 x BeginsAlone (KnowsOpen rack area owns l1 table seq floor m first block) RestDoes (Replaced x.store) one
      (λ y layout perms front done known. leads_as rack area went shared s1 s3 y (Both rack area went shared s1 s2 s3 y (PutsSome first m x.geometry.g y) Carried (Ends x.store) (Replaced x.store)) RestDoes (Replaced x.store)
      (λ holds store d. record { puts = d.front; end = d.back; are = d.are; columns = d.first.1; ends = d.second }) (rest y layout done.0 known)))
    where
      made : (front back : List Hold) (mid : Store) (holds : List Hold) (store : Store) → holds ≡ front ++ back → BeginsAlone front mid → RestDoes back store → StoresIn x m object first.pointer.birth block.bytes holds store
      made front back mid holds store are b r = record {
        writes = subst (λ hs. WritesBlock x.geometry object (x.store.seq + 1) block.bytes x.store.floor m first.pointer.birth ticket.missed hs) (sym (are ∙ ap (λ l. front ++ l) r.are))
            (writes_block x.geometry object (x.store.seq + 1) block.bytes x.store.floor m ticket.missed first.pointer ticket.pointer front r.puts r.end key_is same
            (subst (λ n. BeginsIn x.geometry m n first.pointer block.bytes front) (sym x_floor) b.1) r.columns r.ends.0);
        columns = ticket.missed;
        few = r.ends.1;
        made = r.ends.2 ∙ (λ i. store_with x.store (object_at i) m (birth_at i) block.bytes);
      }
        where
          key_is : key_of first.pointer ≡ record { object = object; seq = x.store.seq + 1 }
          key_is = λ i. record { object = object_is i; seq = (seq_is ∙ ap (λ n. n + 1) (sym x_seq)) i }

          object_at : ticket.pointer.object ≡ object
          object_at = ap (λ (p : Pointer). p.object) same ∙ object_is

          birth_at : ticket.pointer.birth ≡ first.pointer.birth
          birth_at = ap (λ (p : Pointer). p.birth) same
