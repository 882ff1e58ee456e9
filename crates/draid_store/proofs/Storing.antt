-- A block of an object is stored, of its parts as calls say them.
use Rattle.std.proofs.Common.{◌≡◌, ◌+◌, ◌∙◌, ℕ, Bool, true, Option, Some, None, Result, Ok, Err, arith, refl, sym, ap, subst, cond}
use Rattle.std.specs.Prelude.{nat_eq}
use Rattle.draid_names.specs.declared.pointer.Pointer.{Pointer}
use Rattle.draid_names.specs.declared.refusal.WriteFault.TheVariants as fault
use Rattle.draid_spec.specs.declared.layout.Geometry.{Geometry}
use Rattle.draid_rack.specs.declared.Rack as racks
use Rattle.draid_area.specs.declared.Area as areas
use Rattle.draid_block.specs.Blocks.{BlockValue}
use Rattle.draid_objects.specs.Changes.{write_of}
use Rattle.draid_blocks.specs.declared.fault.BeginFault.{BeginFault}
use Rattle.draid_blocks.specs.declared.fault.Missed.{Missed}
use Rattle.draid_blocks.specs.declared.ticket.Ticket.{Ticket}
use Rattle.draid_store.specs.declared.fault.StoreFault.{StoreFault}
use Rattle.draid_store.specs.declared.fault.StoreFault.TheVariants as why
use Rattle.draid_store.specs.Answers.{WriteInDoes}
use Rattle.draid_entries.specs.Maps.{key_of}
use Rattle.draid_store.specs.Putting.{BeginRefusedBy, BeginSays, BeginsWhole, EndSays, PutsBy, RefusesAt, StartsBy}
use Rattle.draid_store.specs.Storing.{IsNewPointer, StoreSays, StoresIn, StoresNew}
use Rattle.draid_pool.specs.Threads.{AllStay, IsWholeBut, IsWholeBy, Knows, LeadsBy, all_of, but}
use Rattle.draid_machine.proofs.Small.{none_some}
use Rattle.draid_pool.specs.Drifts.{groups_number}
use Rattle.draid_pool.proofs.HeldBy.{stay_then}
use Rattle.draid_pool.proofs.Lists.{some_of}
use Rattle.draid_store.specs.Open.{KnowsReplaced}
use Rattle.draid_shard.specs.declared.shard.Shard.{Shard}
use Rattle.draid_store.proofs.WholeMissed.{lost}
use Rattle.draid_store.proofs.WholeWrite.{stored}

abbrev pub answer_of : Option Pointer → Option (Result (Option Pointer) StoreFault)
answer_of o = Some (Ok o)

pub same_earlier : (o : Option Pointer) (p : Pointer) → answer_of o ≡ answer_of (Some p) → o ≡ Some p
same_earlier o p is = cc

pub started : {R A S : Type 0} (rack : racks.Ghosts R) (area : areas.Ghosts A) (went : S → ℕ → Shard R A → Shard R A → S → Type 0) (shared : Bool) (owns now_owns : ℕ → Bool) (last now : ℕ → Option (Shard R A)) (a b : S) (m columns object seq floor : ℕ) (block : BlockValue)
    (r : Result Ticket BeginFault) (ticket : Ticket) → r ≡ Ok ticket → BeginSays rack area went shared owns now_owns last now a b m columns object seq floor block (Some r)
    → StartsBy rack area went shared owns now_owns last now a b m columns object seq floor block ticket
started rack area went shared owns now_owns last now a b m columns object seq floor block (Ok t) ticket is says = (let same : t ≡ ticket = cc in subst (StartsBy rack area went shared owns now_owns last now a b m columns object seq floor block) same says)
started rack area went shared owns now_owns last now a b m columns object seq floor block (Err fault) ticket is says = absurd (cc)

module _ {R A S : Type 0} (rack : racks.Ghosts R) (area : areas.Ghosts A) (went : S → ℕ → Shard R A → Shard R A → S → Type 0) (shared : Bool) (owns o1 o2 o3 : ℕ → Bool) (e1 : o1 ≡ owns) (e2 : o2 ≡ o1) (e3 : o3 ≡ o2)
    (last l1 l2 l3 : ℕ → Option (Shard R A)) (s0 s1 s2 s3 : S) (m columns object : ℕ) (table : ℕ → Option Pointer) (seq floor : ℕ) (block : BlockValue) (first ticket : Ticket) (same : ticket.pointer ≡ first.pointer) (all : ticket.next ≡ columns)
    (starts : StartsBy rack area went shared owns o1 last l1 s0 s1 m columns object seq floor block first) (puts : PutsBy rack area went shared o1 o2 l1 l2 s1 s2 m first ticket block columns) where
  starts_own : StartsBy rack area went shared owns owns last l1 s0 s1 m columns object seq floor block first
  starts_own = subst (λ o. StartsBy rack area went shared owns o last l1 s0 s1 m columns object seq floor block first) e1 starts

  puts_own : PutsBy rack area went shared owns owns l1 l2 s1 s2 m first ticket block columns
  puts_own = subst (λ o. PutsBy rack area went shared owns o l1 l2 s1 s2 m first ticket block columns) (e2 ∙ e1) (subst (λ o. PutsBy rack area went shared o o2 l1 l2 s1 s2 m first ticket block columns) e1 puts)

  ends_own : (result : Result Pointer Missed) → EndSays rack area went shared o2 o3 l2 l3 s2 s3 m ticket block result → EndSays rack area went shared owns owns l2 l3 s2 s3 m ticket block result
  ends_own result ends = subst (λ o. EndSays rack area went shared owns o l2 l3 s2 s3 m ticket block result) (e3 ∙ (e2 ∙ e1)) (subst (λ o. EndSays rack area went shared o o3 l2 l3 s2 s3 m ticket block result) (e2 ∙ e1) ends)

  of_object : ticket.pointer.object ≡ object
  of_object = ap (λ (p : Pointer). p.object) same ∙ starts.object_is

  pub ok_says : (pointer : Pointer) (earlier : Option Pointer) (then_table : ℕ → Option Pointer) → earlier ≡ table object → ((q : ℕ) → then_table q ≡ cond (nat_eq object q) (Some pointer) (table q))
      → EndSays rack area went shared o2 o3 l2 l3 s2 s3 m ticket block (Ok pointer) → StoreSays rack area went shared owns o3 last l3 s0 s3 m columns object table then_table seq floor (seq + 1) first.pointer.birth block (Some (Ok earlier))
  ok_says pointer earlier then_table earlier_is sets ends =
      subst (λ o. StoreSays rack area went shared owns o last l3 s0 s3 m columns object table then_table seq floor (seq + 1) first.pointer.birth block (Some (Ok earlier))) (sym (e3 ∙ (e2 ∙ e1)))
      (λ x columns_are knows.
      let says : EndSays rack area went shared owns owns l2 l3 s2 s3 m ticket block (Ok pointer) = ends_own (Ok pointer) ends in
      subst (λ (t : ℕ × Option Pointer × ℕ). LeadsBy rack area went shared s0 s3 x (StoresIn x m object first.pointer.birth block.bytes) (KnowsReplaced rack area owns l3 then_table (seq + 1) t.0 t.1 (write_of x.store.changes t.2)))
      (λ i. (ap (λ (p : Pointer). p.birth) same i, (ap table of_object ∙ sym earlier_is) i, of_object i))
      (stored rack area went shared owns l1 l2 l3 l3 s0 s1 s2 s3 s3 m object first ticket block table then_table seq floor 0 x same starts.object_is starts.seq_is knows.but_it.seq knows.but_it.floor
      (starts_own.step table x knows) (subst (λ n. PutsBy rack area went shared owns owns l1 l2 s1 s2 m first ticket block n) (sym columns_are) puts_own)
      (λ y layout known. says table then_table seq floor y (λ q. subst (λ n. then_table q ≡ cond (nat_eq n q) (Some pointer) (table q)) (sym of_object) (sets q)) (all ∙ (sym columns_are ∙ ap (λ (g : Geometry). g.g) (sym layout))) known)))

  pub missed_says : (missed : Missed) → EndSays rack area went shared o2 o3 l2 l3 s2 s3 m ticket block (Err missed)
      → StoreSays rack area went shared owns o3 last l3 s0 s3 m columns object table table seq floor (seq + 1) first.pointer.birth block (Some (Err (why.Missed missed)))
  missed_says missed ends =
      subst (λ o. StoreSays rack area went shared owns o last l3 s0 s3 m columns object table table seq floor (seq + 1) first.pointer.birth block (Some (Err (why.Missed missed)))) (sym (e3 ∙ (e2 ∙ e1)))
      (λ x columns_are knows.
      let says : EndSays rack area went shared owns owns l2 l3 s2 s3 m ticket block (Err missed) = ends_own (Err missed) ends in
      subst (λ (t : ℕ × ℕ). LeadsBy rack area went shared s0 s3 x (WriteInDoes x m object block.bytes (Err (fault.Missed t.0))) (Knows rack area owns l3 table (seq + 1) t.1))
      (λ i. (sym says.0 i, ap (λ (p : Pointer). p.birth) same i))
      (lost rack area went shared owns l1 l2 l3 s0 s1 s2 s3 m object first ticket block table seq floor x same starts.object_is starts.seq_is knows.but_it.seq knows.but_it.floor
      (starts_own.step table x knows) (subst (λ n. PutsBy rack area went shared owns owns l1 l2 s1 s2 m first ticket block n) (sym columns_are) puts_own)
      (λ y known. says.1 table seq floor y known)))

-- ---- no write was begun

module _ {R A S : Type 0} (rack : racks.Ghosts R) (area : areas.Ghosts A) (went : S → ℕ → Shard R A → Shard R A → S → Type 0) (shared : Bool) (owns now_owns : ℕ → Bool) (last now : ℕ → Option (Shard R A)) (a b : S) (m columns object : ℕ) (table : ℕ → Option Pointer) (seq floor : ℕ)
    (block : BlockValue) where
  pub unbegun : (out : Option (Result Ticket BeginFault)) → out ≡ None → BeginSays rack area went shared owns now_owns last now a b m columns object seq floor block out
      → StoreSays rack area went shared owns now_owns last now a b m columns object table table seq floor seq floor block None
  unbegun None is says = says table
  unbegun (Some r) is says = absurd (cc)

  pub refused_says : (out : Option (Result Ticket BeginFault)) (fault : BeginFault) → out ≡ Some (Err fault) → BeginSays rack area went shared owns now_owns last now a b m columns object seq floor block out
      → StoreSays rack area went shared owns now_owns last now a b m columns object table table seq floor seq floor block (Some (Err (why.Refused fault)))
  refused_says None fault is says = absurd (cc)
  refused_says (Some (Ok ticket)) fault is says = absurd (cc)
  refused_says (Some (Err f)) fault is says = says table

  pub refused_by : (out : Option (Result Ticket BeginFault)) (fault : BeginFault) → out ≡ Some (Err fault) → BeginRefusedBy rack area shared owns last m block out → RefusesAt rack area shared owns last m block fault
  refused_by None fault is r = absurd (cc)
  refused_by (Some (Ok ticket)) fault is r = absurd (cc)
  refused_by (Some (Err f)) fault is r = (let same : f ≡ fault = cc in subst (RefusesAt rack area shared owns last m block) same r)

module _ {R A : Type 0} (rack : racks.Ghosts R) (owns : ℕ → Bool) (now : ℕ → Option (Shard R A)) (table : ℕ → Option Pointer) (seq floor m : ℕ) where
  pub none_whole : (out : Option (Result Ticket BeginFault)) → out ≡ None → BeginsWhole rack owns now table seq floor m out → IsWholeBy rack owns now table seq floor
  none_whole None is w = w
  none_whole (Some r) is w = absurd (cc)

  pub refused_whole : (out : Option (Result Ticket BeginFault)) (fault : BeginFault) → out ≡ Some (Err fault) → BeginsWhole rack owns now table seq floor m out → IsWholeBy rack owns now table seq floor
  refused_whole None fault is w = absurd (cc)
  refused_whole (Some (Ok ticket)) fault is w = absurd (cc)
  refused_whole (Some (Err f)) fault is w = w

  pub begun_whole : (out : Option (Result Ticket BeginFault)) (ticket : Ticket) → out ≡ Some (Ok ticket) → BeginsWhole rack owns now table seq floor m out → IsWholeBut rack owns (but m (key_of ticket.pointer) (all_of owns)) now table seq ticket.pointer.birth
  begun_whole None ticket is w = absurd (cc)
  begun_whole (Some (Ok t)) ticket is w = (let same : t ≡ ticket = cc in subst (λ (u : Ticket). IsWholeBut rack owns (but m (key_of u.pointer) (all_of owns)) now table seq u.pointer.birth) same w)
  begun_whole (Some (Err f)) ticket is w = absurd (cc)

-- ---- the new pointer

module _ {R A : Type 0} (E : Type 0) (last : ℕ → Option (Shard R A)) (object seq : ℕ) (table now : ℕ → Option Pointer) where
  pub stores_new : (earlier : Option Pointer) (pointer : Pointer) → earlier ≡ table object → now object ≡ Some pointer → IsNewPointer last seq pointer → StoresNew {E = E} last object seq table now (Some (Ok earlier))
  stores_new None pointer had at new = (pointer, at, new)
  stores_new (Some e) pointer had at new = (pointer, at, new, sym had)

  -- where the earlier block is freed behind it
  pub new_alone : (earlier : Pointer) → StoresNew {E = E} last object seq table now (Some (Ok (Some earlier))) → StoresNew {E = E} last object seq table now (Some (Ok None))
  new_alone earlier new = (new.0, new.1, new.2)

-- as its metaslab was left before
pub new_pointer_on : {R A : Type 0} (owns : ℕ → Bool) (last mid : ℕ → Option (Shard R A)) → AllStay owns last mid → owns groups_number ≡ true → (seq : ℕ) (pointer : Pointer) → IsNewPointer mid seq pointer → IsNewPointer last seq pointer
new_pointer_on {R} {A} owns last mid stay own seq pointer new = by (last pointer.metaslab) refl
  where
    by : (o : Option (Shard R A)) → last pointer.metaslab ≡ o → IsNewPointer last seq pointer
    by None is = absurd (none_some (mid pointer.metaslab) new.shard (stay.absent pointer.metaslab is) new.there)
    by (Some shard) is =
        let z = stay.each pointer.metaslab shard is in
        let same : z.0 ≡ new.shard = some_of (mid pointer.metaslab) z.0 new.shard z.1 new.there in
        let open_is = (z.2.groups own).groups.open_group_is in
        let here : z.0.open_group ≡ new.shard.open_group = ap (λ (s : Shard R A). s.open_group) same in
        let late = new.late in
        record { seq_is = new.seq_is; shard = shard; there = is; late = omega (arith, open_is, here, late) }

pub new_on : {R A E : Type 0} (owns : ℕ → Bool) (last mid : ℕ → Option (Shard R A)) → AllStay owns last mid → owns groups_number ≡ true → (object seq : ℕ) (table now : ℕ → Option Pointer) (r : Option (Result (Option Pointer) E))
    → StoresNew mid object seq table now r → StoresNew last object seq table now r
new_on owns last mid stay own object seq table now None new = tt
new_on owns last mid stay own object seq table now (Some (Ok None)) new = (new.0, new.1, new_pointer_on owns last mid stay own seq new.0 new.2)
new_on owns last mid stay own object seq table now (Some (Ok (Some e))) new = (new.0, new.1, new_pointer_on owns last mid stay own seq new.0 new.2, new.3)
new_on owns last mid stay own object seq table now (Some (Err why)) new = tt

-- three calls, one after the other
pub stay_three : {R A : Type 0} (owns o1 o2 : ℕ → Bool) (e1 : o1 ≡ owns) (e2 : o2 ≡ o1) (last l1 l2 l3 : ℕ → Option (Shard R A)) → AllStay owns last l1 → AllStay o1 l1 l2 → AllStay o2 l2 l3 → AllStay owns last l3
stay_three owns o1 o2 e1 e2 last l1 l2 l3 a b c = stay_then owns last l1 l3 a (stay_then owns l1 l2 l3 (subst (λ o. AllStay o l1 l2) e1 b) (subst (λ o. AllStay o l2 l3) (e2 ∙ e1) c))
