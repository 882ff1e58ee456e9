-- A sector of a shard is damaged.
use Rattle.std.proofs.Common.{◌≡◌, ◌≢◌, ◌<◌, ◌+◌, ◌-◌, ◌∙◌, [], ◌∷◌, ℕ, Bool, Some, None, arith, refl, sym, ap, subst, max}
use Rattle.std.specs.Prelude.{Result, Ok, Err, is_err}
use Rattle.draid_names.specs.declared.fault.Failed.{Failed}
use Rattle.draid_rack.specs.Rack.{Counts}
use Rattle.draid_rack.specs.declared.Rack as racks
use Rattle.draid_area.specs.declared.Area as areas
use Rattle.draid_machine.specs.declared.names.ArmName.TheVariants.{Leaf}
use Rattle.draid_machine.specs.declared.event.Event.TheVariants.{Damage}
use Rattle.draid_machine.specs.State as machine
use Rattle.draid_machine.proofs.Small.{none_some}
use Rattle.draid_segments.specs.Segments.{Pieces}
use Rattle.draid_entries.specs.declared.history.ReserveFault.{ReserveFault}
use Rattle.draid_entries.specs.declared.history.ReserveFault.TheVariants as reserve
use Rattle.draid_entries.specs.History.{IsReserved, Passes, left_for_groups, limit_in, reserved_of}
use Rattle.draid_slots.specs.Table.{SlotTable}
use Rattle.draid_shard.specs.Calls.{ActsOn, SameAreas, SameKit}
use Rattle.draid_shard.specs.Fits.{IsLeaf, Valid}
use Rattle.draid_shard.specs.Part.{Part, layout_in}
use Rattle.draid_slots.specs.States.{HasSlots}
use Rattle.draid_shard.specs.States.{Does, DoesNone, IsIn}
use Rattle.draid_shard.specs.declared.shard.Shard.{Shard}
use Rattle.draid_shard.proofs.Leaves.{leaf_found}
use Rattle.draid_shard.proofs.Counts.{counts_kept, counts_more, counts_none}
use Rattle.draid_session.specs.Damage.{HasLeaf}
use Rattle.draid_session.specs.Follows.{failed_in}
use Rattle.draid_session.specs.Holds.{Did, Looked, On, Reserved, view_of}
use Rattle.draid_session.specs.State.{Metaslab}
use Rattle.draid_session.specs.Worn.{ReservesWorn}
use Rattle.draid_pool.specs.Metaslabs.{IsMetaslab}
use Rattle.draid_store.specs.Shards.{DamagesIn}
use Rattle.draid_pool.specs.Shards.{Goes, SameBlocks}
use Rattle.draid_pool.proofs.Dids.{Done, Raises, did, none_here}
use Rattle.draid_pool.proofs.Imaged.{keeps_same, step_keeps, leaf_in}
use Rattle.draid_pool.proofs.OneHold.{looked, passes_is, reserved_here, reserves, with_reserved, worn_is}

-- ---- leaves

pub has_leaf : (slots : SlotTable) (q : machine.Core) (leaf : ℕ) → HasSlots slots q → IsLeaf slots leaf → q.arm (Leaf leaf) ≢ None
has_leaf slots q leaf has is none = (let a = leaf_found slots q leaf has is in none_some (q.arm (Leaf leaf)) a.0 none a.1)

-- ---- counts

module _ {R A : Type 0} (rack : racks.Ghosts R) (area : areas.Ghosts A) where
  pub raises_damage : (old new : Shard R A) (leaf sector : ℕ) (r : Result Unit Failed) → SameAreas old new → Counts (Some leaf) r (rack.faults old.rack) (rack.faults new.rack)
      → Raises rack area (failed_in (Damage leaf sector (is_err r))) old new
  raises_damage old new leaf sector (Ok done) same counts =
      let z = counts_kept [] (rack.faults old.rack) (rack.faults old.rack) (rack.faults new.rack) (counts_none (rack.faults old.rack)) counts.later in
      record { areas_are = same; later = z.later; cause = z.cause }
  raises_damage old new leaf sector (Err e) same counts =
      let z = counts_more [] leaf (rack.faults old.rack) (rack.faults old.rack) (rack.faults new.rack) (counts_none (rack.faults old.rack)) counts.later counts.cause in
      record { areas_are = same; later = z.later; cause = z.cause }

  -- ---- damage

  -- what the reserving of one event says
  pub record Reserves (old new : Shard R A) : Type 0 where
    pub valid : Valid rack new
    pub none : DoesNone old new
    pub kit : SameKit old new
    pub limit : limit_in new.history ≡ limit_in old.history

  pub reserves_worn : (part : Part) (pieces : Pieces) (old : Shard R A) (x : Metaslab) → IsMetaslab rack area part pieces old x
      → (reserved_of old.history < 1) → Passes old.history (1 - reserved_of old.history) left_for_groups → ReservesWorn part.geometry (view_of part.number x) 1
  reserves_worn part pieces old x is more passes = record {
    more = (let r = is.reserved in omega (arith, r, more));
    worn = worn_is rack area part pieces old x (1 - x.reserved) left_for_groups is (subst (λ n. Passes old.history (1 - n) left_for_groups) (sym is.reserved) passes);
  }

  not_worn : (part : Part) (pieces : Pieces) (old : Shard R A) (x : Metaslab) → IsMetaslab rack area part pieces old x
      → (reserved_of old.history < 1 → Passes old.history (1 - reserved_of old.history) left_for_groups → ⊥) → ReservesWorn part.geometry (view_of part.number x) 1 → ⊥
  not_worn part pieces old x is never z =
      never (let r = is.reserved in let more = z.more in omega (arith, r, more))
      (subst (λ n. Passes old.history (1 - n) left_for_groups) is.reserved (passes_is rack area part pieces old x (1 - x.reserved) left_for_groups is z.worn))

  pub damages : (old mid new : Shard R A) (leaf sector : ℕ) (failed : Bool) → Reserves old mid → reserved_of mid.history ≡ max 1 (reserved_of old.history)
      → (reserved_of old.history < 1 → Passes old.history (1 - reserved_of old.history) left_for_groups → ⊥) → Valid rack new → Does mid new (Damage leaf sector failed)
      → ((pieces : Pieces) → ActsOn rack mid new (Damage leaf sector failed) pieces) → Raises rack area (failed_in (Damage leaf sector failed)) mid new
      → reserved_of new.history + 1 ≡ reserved_of mid.history → limit_in new.history ≡ limit_in mid.history
      → (part : Part) (pieces : Pieces) (x : Metaslab) → IsMetaslab rack area part pieces old x
      → Goes rack area part pieces x new (λ holds y. DamagesIn part leaf sector failed x holds × SameBlocks x y)
  damages old mid new leaf sector failed r reserved never valid does acts raises used limit part pieces x is =
      let y : Metaslab = with_reserved x (reserved_of mid.history) in
      let here : IsMetaslab rack area part pieces mid y = reserved_here rack area part pieces old mid x is r.valid r.none r.kit r.limit in
      let z : Done rack area part pieces new (Damage leaf sector failed) y = did rack area part pieces mid new (Damage leaf sector failed) y here valid does (acts pieces) (λ v step. refl) limit used raises tt tt in
      record {
        holds = On (view_of part.number x) (Reserved 1) ∷ (On (view_of part.number y) (Did (Damage leaf sector failed) z.reached.world) ∷ []);
        reached = z.reached;
        follows = (
          Reserved 1,
          y,
          refl,
          reserves (layout_in part) 1 (reserved_of mid.history) x (reserved ∙ ap (max 1) (sym is.reserved)),
          (Did (Damage leaf sector failed) z.reached.world, z.reached, refl, z.acts, refl),
        );
        images = step_keeps (layout_in part) y.world z.reached.world (Damage leaf sector failed) z.step tt;
        done = (
          record { mid = y; after = z.reached.world; are = refl; not_worn = not_worn part pieces old x is never },
          record { held = ap (λ (w : machine.State). w.core.held) z.step.made; committed = ap (λ (w : machine.State). w.committed) z.step.made },
        );
        is = z.is;
      }

  -- there is no such leaf
  pub damages_nowhere : (shard : Shard R A) (leaf : ℕ) → (IsLeaf shard.slots leaf → ⊥) → (part : Part) (pieces : Pieces) (x : Metaslab) → IsMetaslab rack area part pieces shard x
      → Goes rack area part pieces x shard (λ holds y. ((holds ≡ On (view_of part.number x) Looked ∷ []) × (HasLeaf (view_of part.number x) leaf → ⊥)) × SameBlocks x y)
  damages_nowhere shard leaf none part pieces x is =
      looked rack area part pieces shard x (λ holds y. ((holds ≡ On (view_of part.number x) Looked ∷ []) × (HasLeaf (view_of part.number x) leaf → ⊥)) × SameBlocks x y) is
      ((refl, λ has. none (leaf_in shard.slots x.world.core leaf is.stands.is_in.slots has)), record { held = refl; committed = refl })

  -- memory was wanting
  pub damages_starved : (old new : Shard R A) → Reserves old new → reserved_of new.history ≡ reserved_of old.history → (part : Part) (pieces : Pieces) (x : Metaslab) → IsMetaslab rack area part pieces old x
      → Goes rack area part pieces x new (λ holds y. (holds ≡ []) × SameBlocks x y)
  damages_starved old new r reserved part pieces x is = record {
    holds = [];
    reached = x;
    follows = refl;
    images = keeps_same x.world;
    done = (refl, record { held = refl; committed = refl });
    is = none_here rack area part pieces old new x is r.valid r.none r.kit.rack r.kit.areas r.limit reserved;
  }

  -- no event could be reserved
  pub damages_worn : (old new : Shard R A) (leaf : ℕ) → Reserves old new → reserved_of new.history ≡ reserved_of old.history → IsLeaf old.slots leaf
      → (fault : ReserveFault) (used : ℕ) → fault ≡ reserve.Worn used → IsReserved old.history 1 (Err fault) → (part : Part) (pieces : Pieces) (x : Metaslab) → IsMetaslab rack area part pieces old x
      → Goes rack area part pieces x new
      (λ holds y. ((holds ≡ On (view_of part.number x) Looked ∷ []) × HasLeaf (view_of part.number x) leaf × ReservesWorn part.geometry (view_of part.number x) 1) × SameBlocks x y)
  damages_worn old new leaf r reserved there fault used fault_is answer part pieces x is =
      let worn : IsReserved old.history 1 (Err (reserve.Worn used)) = subst (λ f. IsReserved old.history 1 (Err f)) fault_is answer in
      looked rack area part pieces new x
      (λ holds y. ((holds ≡ On (view_of part.number x) Looked ∷ []) × HasLeaf (view_of part.number x) leaf × ReservesWorn part.geometry (view_of part.number x) 1) × SameBlocks x y)
      (none_here rack area part pieces old new x is r.valid r.none r.kit.rack r.kit.areas r.limit reserved)
      ((refl, has_leaf old.slots x.world.core leaf is.stands.is_in.slots there, reserves_worn part pieces old x is worn.0 worn.1), record { held = refl; committed = refl })

  -- a leaf is there after a call without an event
  pub leaf_stays : (old new : Shard R A) (w : machine.State) (leaf : ℕ) → IsIn old w → DoesNone old new → IsLeaf old.slots leaf → IsLeaf new.slots leaf
  leaf_stays old new w leaf is none there = leaf_in new.slots w.core leaf (none.stays w is).slots (has_leaf old.slots w.core leaf is.slots there)
