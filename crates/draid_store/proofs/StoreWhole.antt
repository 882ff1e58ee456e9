-- What a thread has stays whole as it stores a block, of its parts.
use Rattle.std.proofs.Common.{◌≡◌, ◌≤◌, ◌<◌, ◌+◌, ◌∙◌, inl, inr, arith, ℕ, Bool, true, Option, Some, None, Result, Ok, Err, refl, sym, ap, subst, cond}
use mathlib.Core.Logic.{dite}
use native.Mathlib.Decide.{ℕ_discrete}
use Rattle.std.specs.Prelude.{nat_eq}
use Rattle.draid_names.specs.declared.numbers.TheConstants.{NUMBERS, OBJECTS}
use Rattle.draid_names.specs.declared.pointer.Pointer.{Pointer}
use Rattle.draid_rack.specs.declared.Rack as racks
use Rattle.draid_block.specs.Blocks.{BlockValue}
use Rattle.draid_blocks.specs.declared.fault.Missed.{Missed}
use Rattle.draid_blocks.specs.declared.ticket.Ticket.{Ticket}
use Rattle.draid_machine.specs.declared.names.Key.{Key}
use Rattle.draid_machine.specs.declared.names.Held.{Held}
use Rattle.draid_machine.specs.declared.names.Stage.TheVariants as stage
use Rattle.draid_machine.specs.Names.{key_eq}
use Rattle.draid_machine.proofs.Small.{bool_cases, key_true}
use Rattle.draid_entries.specs.Entries.{held_in}
use Rattle.draid_entries.specs.Maps.{held_at, key_of, staged}
use Rattle.draid_shard.specs.declared.shard.Shard.{Shard}
use Rattle.draid_shard.proofs.Held.{key_leads}
use Rattle.draid_pool.specs.Threads.{HasPointer, IsWholeBut, IsWholeBy, all_of, but}
use Rattle.draid_store.specs.Freeing.{IsApart}
use Rattle.draid_store.specs.Putting.{EndsWhole, MayStart, Takes}
use Rattle.draid_pool.specs.Threads.{KeepsWhole}
use Rattle.draid_store.specs.Storing.{ComesBack}
use Rattle.draid_pool.proofs.Lists.{some_of}
use Rattle.draid_pool.proofs.Wholes.{put_elsewhere, put_here}

module _ {R A : Type 0} (rack : racks.Ghosts R) (owns : ℕ → Bool) where
  -- the next write may be begun
  pub may_start : (last : ℕ → Option (Shard R A)) (m columns object seq floor : ℕ) (block : BlockValue) (table : ℕ → Option Pointer) → owns object ≡ true → object < OBJECTS → seq + 1 < NUMBERS → Takes last m columns block → IsWholeBy rack owns last table seq floor
      → MayStart rack owns last m columns object seq floor block
  may_start last m columns object seq floor block table own small number takes whole = record {
    shard = takes.shard;
    there = takes.there;
    valid = (whole.shards m takes.shard takes.there).valid;
    number = whole.placed m takes.shard takes.there;
    new = record { object_small = small; some_seq = (omega arith); seq_small = number; unused = unused (held_in takes.shard.entries key) refl };
    low = whole.low;
    next = λ mine. whole.next m takes.shard mine takes.there;
    cut = takes.cut;
    columns_are = takes.columns_are;
  }
    where
      key : Key
      key = record { object = object; seq = seq + 1 }

      unused : (o : Option Held) → held_in takes.shard.entries key ≡ o → held_in takes.shard.entries key ≡ None
      unused None is = is
      unused (Some h) is = absurd (let low = (whole.shards m takes.shard takes.there).numbered key h own is in omega (arith, low))

  -- the number of a live block's write
  live_number : (last : ℕ → Option (Shard R A)) (table : ℕ → Option Pointer) (seq floor object : ℕ) (q : Pointer) → IsWholeBy rack owns last table seq floor → HasPointer last rack owns object q → q.seq ≤ seq
  live_number last table seq floor object q whole has =
      (whole.shards q.metaslab has.shard has.there).numbered (key_of q) (held_at (staged stage.Live q)) (ap owns has.object_is ∙ has.own) (key_leads has.shard.entries q.first (staged stage.Live q) has.live)

  module _ (o1 o2 : ℕ → Bool) (e1 : o1 ≡ owns) (e2 : o2 ≡ o1) (last l1 l2 l3 : ℕ → Option (Shard R A)) (m object : ℕ) (first ticket : Ticket) (same : ticket.pointer ≡ first.pointer) (table : ℕ → Option Pointer) (seq floor : ℕ) (named : first.pointer.object ≡ object)
      (number : first.pointer.seq ≡ seq + 1) (at : first.pointer.metaslab ≡ m) (was : IsWholeBy rack owns last table seq floor)
      (begins : IsWholeBut rack owns (but m (key_of first.pointer) (all_of owns)) l1 table seq first.pointer.birth) (puts : KeepsWhole rack o1 (but m (key_of first.pointer) (all_of o1)) l1 l2) (result : Result Pointer Missed)
      (ends : (t : ℕ → Option Pointer) (n f : ℕ) → ticket.pointer.seq ≡ n + 1 → ticket.pointer.metaslab ≡ m → IsWholeBut rack o2 (but m (key_of ticket.pointer) (all_of o2)) l2 t n f → EndsWhole rack o2 l3 t n f ticket.pointer.object result) where
    ended : EndsWhole rack owns l3 table seq first.pointer.birth object result
    ended =
        subst (λ n. EndsWhole rack owns l3 table seq first.pointer.birth n result) (ap (λ (p : Pointer). p.object) same ∙ named)
        (subst (λ o. IsWholeBut rack o (but m (key_of ticket.pointer) (all_of o)) l2 table seq first.pointer.birth → EndsWhole rack o l3 table seq first.pointer.birth ticket.pointer.object result) (e2 ∙ e1)
        (ends table seq first.pointer.birth (ap (λ (p : Pointer). p.seq) same ∙ number) (ap (λ (p : Pointer). p.metaslab) same ∙ at))
        (subst (λ (p : Pointer). IsWholeBut rack owns (but m (key_of p) (all_of owns)) l2 table seq first.pointer.birth) (sym same)
        (subst (λ o. KeepsWhole rack o (but m (key_of first.pointer) (all_of o)) l1 l2) e1 puts table seq first.pointer.birth begins)))

    -- too many columns landed nowhere
    pub missed_whole : (missed : Missed) → result ≡ Err missed → IsWholeBy rack owns l3 table (seq + 1) first.pointer.birth
    missed_whole missed is = subst (EndsWhole rack owns l3 table seq first.pointer.birth object) is ended

    -- the block is live, and its pointer comes into the table
    module _ (pointer : Pointer) (is : result ≡ Ok pointer) (own_pointer : pointer ≡ ticket.pointer) (table' : ℕ → Option Pointer) (sets : (q : ℕ) → table' q ≡ cond (nat_eq object q) (Some pointer) (table q)) where
      both : IsWholeBy rack owns l3 table (seq + 1) first.pointer.birth × HasPointer l3 rack owns object pointer
      both = subst (EndsWhole rack owns l3 table seq first.pointer.birth object) is ended

      pub stored_whole : IsWholeBy rack owns l3 table' (seq + 1) first.pointer.birth
      stored_whole = record {
        shards = both.0.shards;
        placed = both.0.placed;
        together = both.0.together;
        next = both.0.next;
        pointers = λ q r r_is. by q r r_is;
        low = both.0.low;
        reached = both.0.reached;
      }
        where
          by : (q : ℕ) (r : Pointer) → table' q ≡ Some r → HasPointer l3 rack owns q r
          by q r r_is = dite (ℕ_discrete object q)
              (λ same. subst (λ n. HasPointer l3 rack owns n r) same (subst (λ (p : Pointer). HasPointer l3 rack owns object p) (some_of (table' q) pointer r (put_here (table' q) (table q) object q (Some pointer) (sets q) same) r_is) both.1))
              (λ not. both.0.pointers q r (sym (put_elsewhere (table' q) (table q) object q (Some pointer) (sets q) not) ∙ r_is))

      -- the pointer that the object had
      pub comes_back : (p : Pointer) → table object ≡ Some p → ComesBack rack owns l3 table' object p
      comes_back p had = record { has = both.0.pointers object p had; apart = apart }
        where
          low : p.seq ≤ seq
          low = live_number last table seq floor object p was (was.pointers object p had)

          high : pointer.seq ≡ seq + 1
          high = ap (λ (q : Pointer). q.seq) (own_pointer ∙ same) ∙ number

          apart : IsApart table' p
          apart q r r_is = elim (bool_cases (key_eq (key_of p) (key_of r))) [
            | inr other ↦ other
            | inl one ↦
                let keys = key_true (key_of p) (key_of r) one in
                let seqs : p.seq ≡ r.seq = ap (λ (k : Key). k.seq) keys in
                let objects : p.object ≡ r.object = ap (λ (k : Key). k.object) keys in
                dite (ℕ_discrete object q)
                (λ here.
                let r_of : pointer ≡ r = some_of (table' q) pointer r (put_here (table' q) (table q) object q (Some pointer) (sets q) here) r_is in
                let r_seq : pointer.seq ≡ r.seq = ap (λ (z : Pointer). z.seq) r_of in
                absurd (omega (arith, low, high, seqs, r_seq)))
                (λ not.
                let h = both.0.pointers q r (sym (put_elsewhere (table' q) (table q) object q (Some pointer) (sets q) not) ∙ r_is) in
                absurd (not (sym (both.0.pointers object p had).object_is ∙ (objects ∙ h.object_is))))
          ]
