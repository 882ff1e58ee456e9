-- What becomes of a write as the earlier block of its object is freed behind it, or there was none.
use Rattle.std.proofs.Common.{◌≡◌, ◌+◌, ◌∙◌, ℕ, Bool, false, List, [], Option, Some, None, Result, Ok, Err, refl, sym, ap, subst, inl}
use Rattle.std.proofs.lemmas.Bool.{true≢false}
use Rattle.std.proofs.lemmas.List.{append-nil}
use Rattle.draid_names.specs.declared.pointer.Pointer.{Pointer}
use Rattle.draid_rack.specs.declared.Rack as racks
use Rattle.draid_area.specs.declared.Area as areas
use Rattle.draid_block.specs.Blocks.{BlockValue}
use Rattle.draid_checkpoint.specs.Check.{holds_birth}
use Rattle.draid_objects.specs.Changes.{Write, write_of}
use Rattle.draid_objects.specs.Marks.{Mark}
use Rattle.draid_session.specs.Holds.{Hold}
use Rattle.draid_session.specs.Looks.{OnlyLooks}
use Rattle.draid_session.specs.Points.{IsPointOf, KeepsBirth}
use Rattle.draid_session.specs.State.{State, Store}
use Rattle.draid_session.specs.Writes.{LeavesEarlier}
use Rattle.draid_session.specs.Writes as written
use Rattle.draid_store.specs.declared.fault.StoreFault.{StoreFault}
use Rattle.draid_store.specs.declared.fault.StoreFault.TheVariants as why
use Rattle.draid_store.specs.Answers.{WriteInDoes}
use Rattle.draid_store.specs.Freeing.{EarlierSays}
use Rattle.draid_store.specs.Storing.{AwaitsIn, StoreSays, StoresIn, WriteSays, store_with}
use Rattle.draid_pool.specs.Threads.{Knows, LeadsBy}
use Rattle.draid_store.specs.Open.{KnowsEarlier, KnowsReplaced}
use Rattle.draid_shard.specs.declared.shard.Shard.{Shard}
use Rattle.draid_pool.proofs.Joining.{Both, leads_then}
use Rattle.draid_pool.proofs.Joining.{leads_as}
use Rattle.draid_store.proofs.Storing.{answer_of}
use Rattle.draid_store.proofs.Points.{point_loose}

pub answered : (r : Option (Result (Option Pointer) StoreFault)) (s : Result (Option Pointer) StoreFault) (e o : Option Pointer) → r ≡ Some s → s ≡ Ok e → e ≡ o → r ≡ answer_of o
answered r s e o a b d = cc

module _ {R A S : Type 0} (rack : racks.Ghosts R) (area : areas.Ghosts A) (went : S → ℕ → Shard R A → Shard R A → S → Type 0) (shared : Bool) (owns o3 : ℕ → Bool) (last l3 : ℕ → Option (Shard R A)) (s0 s3 : S) (m columns : ℕ) (point : Option ℕ) (object : ℕ)
    (table then_table : ℕ → Option Pointer) (seq floor then_seq birth : ℕ) (block : BlockValue) where
  -- the answer as it was matched
  pub said : (r : Option (Result (Option Pointer) StoreFault)) (s : Result (Option Pointer) StoreFault) (e o : Option Pointer) → r ≡ Some s → s ≡ Ok e → e ≡ o → StoreSays rack area went shared owns o3 last l3 s0 s3 m columns object table then_table seq floor then_seq birth block r
      → StoreSays rack area went shared owns o3 last l3 s0 s3 m columns object table then_table seq floor then_seq birth block (Some (Ok o))
  said r s e o a b d says = subst (StoreSays rack area went shared owns o3 last l3 s0 s3 m columns object table then_table seq floor then_seq birth block) (answered r s e o a b d) says

  -- it had none
  pub no_earlier : StoreSays rack area went shared owns o3 last l3 s0 s3 m columns object table then_table seq floor then_seq birth block (Some (Ok None))
      → WriteSays rack area went shared owns o3 last l3 s0 s3 m columns point object table then_table seq floor then_seq birth block (Some (Ok None))
  no_earlier says x columns_are is knows =
      let s = says x columns_are knows in
      record {
        holds = s.holds;
        reached = s.reached;
        store = s.store;
        follows = s.follows;
        done = (
          record {
            birth = birth;
            columns = s.done.columns;
            group = birth;
            front = s.holds;
            back = [];
            are = sym (append-nil s.holds);
            writes = s.done.writes;
            few = s.done.few;
            marks = x.store.marks;
            leaves = subst (λ w. LeavesEarlier x.store.marks w birth birth [] x.store.marks) (sym s.knows.0) (refl, refl, refl);
            made = s.done.made;
          },
          ap (λ (t : Store). t.marks) s.done.made,
        );
        knows = s.knows.1;
      }

  -- what the freeing does, and the looks
  pub record FreesDoes (before : Option Write) (old : Store) (group : ℕ) (holds : List Hold) (store : Store) : Type 0 where
    pub we : Write
    pub before_is : before ≡ Some we
    pub isnt : KeepsBirth old.marks we.birth → ⊥
    pub frees_it : written.FreesBlock we birth group holds
    pub made : store ≡ record { changes = (store_with old object m birth block.bytes).changes; marks = old.marks; seq = old.seq + 1; floor = group }

  pub record LooksDoes (old : Store) (holds : List Hold) (store : Store) : Type 0 where
    pub looks : OnlyLooks holds
    pub made : store ≡ store_with old object m birth block.bytes

  module _ (o4 : ℕ → Bool) (same : o4 ≡ o3) (l4 : ℕ → Option (Shard R A)) (s4 : S) (e : Pointer) (stored : StoreSays rack area went shared owns o3 last l3 s0 s3 m columns object table then_table seq floor then_seq birth block (Some (Ok (Some e))))
      (loose : holds_birth point e.birth ≡ false) (out : Option ℕ) (frees : (t : ℕ → Option Pointer) (n : ℕ) (y : State) (we : Write) → (KeepsBirth y.store.marks we.birth → ⊥) → KnowsEarlier rack area o3 l3 t n birth e we y → EarlierSays rack area went shared o3 o4 l3 l4 s3 s4 e t t n birth y we out) where
    -- the checkpoint doesn't keep it
    is_loose : (x : State) (marks : List Mark) (we : Write) → IsPointOf x.store.marks point → marks ≡ x.store.marks → e.birth ≡ we.birth → KeepsBirth marks we.birth → ⊥
    is_loose x marks we is same birth_is kept = point_loose x.store.marks point e.birth is loose (subst (λ n. KeepsBirth x.store.marks n) (sym birth_is) (subst (λ ms. KeepsBirth ms we.birth) same kept))

    -- it is freed
    pub earlier_freed : (group : ℕ) → out ≡ Some group → WriteSays rack area went shared owns o4 last l4 s0 s4 m columns point object table then_table seq floor then_seq group block (Some (Ok None))
    earlier_freed group out_is x columns_are is knows =
        leads_as rack area went shared s0 s4 x (Both rack area went shared s0 s3 s4 x (StoresIn x m object birth block.bytes) (KnowsReplaced rack area o3 l3 then_table then_seq birth (Some e) (write_of x.store.changes object)) (FreesDoes (write_of x.store.changes object) x.store group) (Knows rack area o4 l4 then_table then_seq group))
        (λ holds store. WriteInDoes x m object block.bytes (Ok tt) holds store × (store.marks ≡ x.store.marks)) (Knows rack area o4 l4 then_table then_seq group)
        (λ holds store d. (
          record {
            birth = birth;
            columns = d.first.columns;
            group = group;
            front = d.front;
            back = d.back;
            are = d.are;
            writes = d.first.writes;
            few = d.first.few;
            marks = x.store.marks;
            leaves = subst (λ w. LeavesEarlier x.store.marks w birth group d.back x.store.marks) (sym d.second.before_is)
                (inl (d.second.isnt, d.second.frees_it, refl));
            made = d.second.made;
          },
          ap (λ (t : Store). t.marks) d.second.made,
        ))
        (leads_then rack area went shared s0 s3 s4 x (StoresIn x m object birth block.bytes) (KnowsReplaced rack area o3 l3 then_table then_seq birth (Some e) (write_of x.store.changes object)) (FreesDoes (write_of x.store.changes object) x.store group) (Knows rack area o4 l4 then_table then_seq group)
        (stored x columns_are knows)
        (λ y layout perms front done k.
        leads_as rack area went shared s3 s4 y (λ holds store. written.FreesBlock k.0 birth group holds × (store ≡ record y.store { floor = group })) (FreesDoes (write_of x.store.changes object) x.store group) (Knows rack area o4 l4 then_table then_seq group)
        (λ holds store d. record { we = k.0; before_is = k.1; isnt = is_loose x x.store.marks k.0 is refl k.2.had.birth_is; frees_it = d.0; made = d.1 ∙ ap (λ (s : Store). record s { floor = group }) done.made })
        (subst (λ o. EarlierSays rack area went shared o3 o4 l3 l4 s3 s4 e then_table then_table then_seq birth y k.0 o) out_is (frees then_table then_seq y k.0 (is_loose x y.store.marks k.0 is (ap (λ (s : Store). s.marks) done.made) k.2.had.birth_is) k.2))))

    -- or it is to be tried again
    pub earlier_awaits : out ≡ None → WriteSays rack area went shared owns o4 last l4 s0 s4 m columns point object table then_table seq floor then_seq birth block (Some (Ok (Some e)))
    earlier_awaits out_is x columns_are is knows =
        leads_as rack area went shared s0 s4 x (Both rack area went shared s0 s3 s4 x (StoresIn x m object birth block.bytes) (KnowsReplaced rack area o3 l3 then_table then_seq birth (Some e) (write_of x.store.changes object)) (LooksDoes x.store) (KnowsReplaced rack area o4 l4 then_table then_seq birth (Some e) (write_of x.store.changes object)))
        (AwaitsIn x m object birth block.bytes point e) (KnowsReplaced rack area o4 l4 then_table then_seq birth (Some e) (write_of x.store.changes object))
        (λ holds store d. record { front = d.front; back = d.back; are = d.are; looks = d.second.looks; kept = λ held. absurd (true≢false (sym held ∙ loose)); stores = record { columns = d.first.columns; writes = d.first.writes; few = d.first.few; made = d.second.made } })
        (leads_then rack area went shared s0 s3 s4 x (StoresIn x m object birth block.bytes) (KnowsReplaced rack area o3 l3 then_table then_seq birth (Some e) (write_of x.store.changes object)) (LooksDoes x.store) (KnowsReplaced rack area o4 l4 then_table then_seq birth (Some e) (write_of x.store.changes object))
        (stored x columns_are knows) (λ y layout perms front done k.
        leads_as rack area went shared s3 s4 y (λ holds store. (store ≡ y.store) × OnlyLooks holds) (LooksDoes x.store) (KnowsReplaced rack area o4 l4 then_table then_seq birth (Some e) (write_of x.store.changes object))
        (λ holds store d. record { looks = d.1; made = d.0 ∙ done.made })
        (known_as y k.0 k.1
        (subst (λ o. EarlierSays rack area went shared o3 o4 l3 l4 s3 s4 e then_table then_table then_seq birth y k.0 o) out_is (frees then_table then_seq y k.0 (is_loose x y.store.marks k.0 is (ap (λ (s : Store). s.marks) done.made) k.2.had.birth_is) k.2)))))
      where
        known_as : (y : State) (we : Write) → write_of x.store.changes object ≡ Some we → LeadsBy rack area went shared s3 s4 y (λ holds store. (store ≡ y.store) × OnlyLooks holds) (KnowsEarlier rack area o4 l4 then_table then_seq birth e we)
            → LeadsBy rack area went shared s3 s4 y (λ holds store. (store ≡ y.store) × OnlyLooks holds) (KnowsReplaced rack area o4 l4 then_table then_seq birth (Some e) (write_of x.store.changes object))
        known_as y we before_is one = record { holds = one.holds; reached = one.reached; store = one.store; follows = one.follows; done = one.done; knows = (we, before_is, one.knows) }

  -- the checkpoint keeps it, so that it is to be dropped
  pub earlier_kept : (e : Pointer) → StoreSays rack area went shared owns o3 last l3 s0 s3 m columns object table then_table seq floor then_seq birth block (Some (Ok (Some e)))
      → WriteSays rack area went shared owns o3 last l3 s0 s3 m columns point object table then_table seq floor then_seq birth block (Some (Ok (Some e)))
  earlier_kept e says x columns_are is knows =
      leads_as rack area went shared s0 s3 x (StoresIn x m object birth block.bytes) (AwaitsIn x m object birth block.bytes point e) (KnowsReplaced rack area o3 l3 then_table then_seq birth (Some e) (write_of x.store.changes object))
      (λ holds store d. record { front = holds; back = []; are = sym (append-nil holds); looks = tt; kept = λ held. refl; stores = d }) (says x columns_are knows)

  -- it is as the block was stored, where none is to be freed
  pub same_none : (r : Option (Result (Option Pointer) StoreFault)) → r ≡ None → StoreSays rack area went shared owns o3 last l3 s0 s3 m columns object table then_table seq floor then_seq birth block r
      → WriteSays rack area went shared owns o3 last l3 s0 s3 m columns point object table then_table seq floor then_seq birth block None
  same_none None is says = says
  same_none (Some s) is says = absurd (cc)

  pub same_first : (r : Option (Result (Option Pointer) StoreFault)) → r ≡ Some (Ok None) → StoreSays rack area went shared owns o3 last l3 s0 s3 m columns object table then_table seq floor then_seq birth block r
      → WriteSays rack area went shared owns o3 last l3 s0 s3 m columns point object table then_table seq floor then_seq birth block (Some (Ok None))
  same_first r is says = no_earlier (subst (StoreSays rack area went shared owns o3 last l3 s0 s3 m columns object table then_table seq floor then_seq birth block) is says)

  pub same_err : (r : Option (Result (Option Pointer) StoreFault)) (fault : StoreFault) → r ≡ Some (Err fault) → StoreSays rack area went shared owns o3 last l3 s0 s3 m columns object table then_table seq floor then_seq birth block r
      → WriteSays rack area went shared owns o3 last l3 s0 s3 m columns point object table then_table seq floor then_seq birth block (Some (Err fault))
  same_err r (why.Refused f) is says = subst (StoreSays rack area went shared owns o3 last l3 s0 s3 m columns object table then_table seq floor then_seq birth block) is says
  same_err r (why.Missed missed) is says = subst (StoreSays rack area went shared owns o3 last l3 s0 s3 m columns object table then_table seq floor then_seq birth block) is says

-- a fault as it was matched
pub faulted : (r : Option (Result (Option Pointer) StoreFault)) (s : Result (Option Pointer) StoreFault) (f g : StoreFault) → r ≡ Some s → s ≡ Err f → f ≡ g → r ≡ Some (Err g)
faulted r s f g a b d = cc
