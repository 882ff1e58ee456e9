-- One column more of a write that is under way.
use Rattle.std.proofs.Common.{◌≡◌, ◌==◌, ◌+◌, ◌++◌, ◌∙◌, ℕ, suc, Bool, List, [], ◌∷◌, Option, Some, refl, sym, ap, subst, if◌then◌else◌}
use Rattle.draid_names.specs.declared.pointer.Pointer.{Pointer}
use Rattle.draid_rack.specs.declared.Rack as racks
use Rattle.draid_area.specs.declared.Area as areas
use Rattle.draid_block.specs.Blocks.{BlockValue}
use Rattle.draid_entries.specs.Maps.{key_of}
use Rattle.draid_blocks.specs.declared.ticket.Ticket.{Ticket}
use Rattle.draid_shard.specs.Fits.{Valid}
use Rattle.draid_shard.specs.Part.{Part}
use Rattle.draid_session.specs.Holds.{Hold}
use Rattle.draid_session.specs.State.{State, Store}
use Rattle.draid_session.specs.Writes.{PutsColumn, PutsColumns}
use Rattle.draid_pool.proofs.Lists.{some_of}
use Rattle.draid_store.proofs.PutSteps.{one_more, puts_more}
use Rattle.draid_pool.specs.Drifts.{Drifts}
use Rattle.draid_store.specs.Putting.{CarriesAt, PutsBy, PutsSome}
use Rattle.draid_pool.specs.Threads.{LeadsBy}
use Rattle.draid_store.specs.Open.{KnowsOpen}
use Rattle.draid_store.specs.Writing.{PutsShard}
use Rattle.draid_shard.specs.declared.shard.Shard.{Shard}
use Rattle.draid_pool.proofs.ShardSteps.{at_here}
use Rattle.draid_pool.proofs.Joining.{Both, leads_as, leads_then}
use Rattle.draid_store.proofs.Opening.{put_step}

module _ {R A S : Type 0} (rack : racks.Ghosts R) (area : areas.Ghosts A) (went : S → ℕ → Shard R A → Shard R A → S → Type 0) (shared : Bool) where
  -- one column is put
  abbrev pub PutsOne : Ticket → ℕ → State → List Hold → Store → Type 0
  PutsOne ticket m x holds store = (store ≡ x.store) × ((hold : Hold) × (holds ≡ hold ∷ []) × PutsColumn (key_of ticket.pointer) m hold)

  -- none was put yet
  pub puts_none : (owns : ℕ → Bool) (last : ℕ → Option (Shard R A)) (a : S) (m : ℕ) (ticket : Ticket) (block : BlockValue) → PutsBy rack area went shared owns owns last last a a m ticket ticket block 0
  puts_none owns last a m ticket block table seq floor x knows = record { holds = []; reached = x; store = x.store; follows = (refl, refl); done = (refl, refl); knows = knows }

  module _ (owns now_owns : ℕ → Bool) (same : now_owns ≡ owns) (last now new : ℕ → Option (Shard R A)) (a b c : S) (m : ℕ) (first ticket after_ticket : Ticket) (block : BlockValue) (n : ℕ) (pointer : ticket.pointer ≡ first.pointer)
      (some : PutsBy rack area went shared owns now_owns last now a b m first ticket block n) (shard before after : Shard R A) (there : now m ≡ Some shard) (drifts : Drifts rack area shared now_owns shard before)
      (is : (k : ℕ) → new k ≡ (if k == m then Some after else now k)) (goes : went b m before after c) (put : PutsShard rack before ticket block after_ticket after) where
    pub puts_one : PutsBy rack area went shared owns now_owns last new a c m first after_ticket block (n + 1)
    puts_one table seq floor x knows =
        leads_as rack area went shared a c x (Both rack area went shared a b c x (PutsSome first m n x) (KnowsOpen rack area now_owns now table seq floor m ticket block) (PutsOne ticket m x) (KnowsOpen rack area now_owns new table seq floor m after_ticket block))
        (PutsSome first m (n + 1) x) (KnowsOpen rack area now_owns new table seq floor m after_ticket block) (λ holds store done. joined done.front done.back done.mid holds store done.are done.first done.second)
        (leads_then rack area went shared a b c x (PutsSome first m n x) (KnowsOpen rack area now_owns now table seq floor m ticket block) (PutsOne ticket m x) (KnowsOpen rack area now_owns new table seq floor m after_ticket block)
        (some table seq floor x knows)
        (λ y layout perms front done known.
        subst (λ (s : Store). LeadsBy rack area went shared b c y (λ holds store. (store ≡ s) × ((hold : Hold) × (holds ≡ hold ∷ []) × PutsColumn (key_of ticket.pointer) m hold)) (KnowsOpen rack area now_owns new table seq floor m after_ticket block)) done.0
        (put_step rack area went shared now_owns b c now new m shard before after there drifts put.valid is goes table seq floor y ticket after_ticket block known put)))
      where
        joined : (front back : List Hold) (mid : Store) (holds : List Hold) (store : Store) → holds ≡ front ++ back → PutsSome first m n x front mid → (store ≡ x.store) × ((hold : Hold) × (back ≡ hold ∷ []) × PutsColumn (key_of ticket.pointer) m hold) → PutsSome first m (n + 1) x holds store
        joined front back mid holds store are before_ now_ = (
          now_.0,
          subst (λ k. PutsColumns (key_of first.pointer) m k holds) (one_more n)
              (subst (λ hs. PutsColumns (key_of first.pointer) m (suc n) hs) (sym (are ∙ ap (λ bs. front ++ bs) now_.1.1))
              (puts_more (key_of first.pointer) m n front now_.1.0 before_.1 (subst (λ (p : Pointer). PutsColumn (key_of p) m now_.1.0) pointer now_.1.2))),
        )

    pub carries_one : (columns : ℕ) → CarriesAt rack now m columns ticket block → CarriesAt rack new m columns after_ticket block
    carries_one columns carried = record {
      shard = after;
      there = at_here rack area shared now_owns now new m shard before after there drifts (subst (λ (x : Shard R A). Valid rack x) (some_of (now m) carried.shard shard carried.there there) carried.valid) put.valid is;
      valid = put.valid;
      carries = put.carries;
      columns_are =
          ap (λ (q : Part). q.geometry.g) (put.puts.does.part ∙ drifts.part)
          ∙ (ap (λ (x : Shard R A). x.geometry.g) (sym (some_of (now m) carried.shard shard carried.there there)) ∙ carried.columns_are);
    }
