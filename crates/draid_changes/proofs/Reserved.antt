-- One metaslab of a pool as events are reserved there.
use Rattle.std.proofs.Common.{◌≡◌, ◌≢◌, ◌<◌, ◌-◌, ◌∙◌, ℕ, Bool, Option, Some, None, Ok, Err, arith, refl, sym, ap, subst, max}
use Rattle.std.specs.Prelude.{option_map}
use Rattle.draid_names.specs.declared.pass_kind.PassKind.{PassKind}
use Rattle.draid_names.specs.declared.pass_kind.PassKind.TheVariants.{Rebuild, Heal}
use Rattle.draid_rack.specs.declared.Rack as racks
use Rattle.draid_area.specs.declared.Area as areas
use Rattle.draid_machine.specs.State as machine
use Rattle.draid_segments.specs.Segments.{Pieces}
use Rattle.draid_entries.specs.History.{Passes, left_for_groups, limit_in, reserved_of}
use Rattle.draid_entries.specs.declared.history.ReserveFault.{ReserveFault}
use Rattle.draid_entries.specs.declared.history.ReserveFault.TheVariants as reserve
use Rattle.draid_shard.specs.Calls.{SameKit}
use Rattle.draid_shard.specs.Fits.{Valid}
use Rattle.draid_shard.specs.Part.{Part, layout_in}
use Rattle.draid_shard.specs.States.{DoesNone}
use Rattle.draid_shard.specs.declared.shard.Shard.{Shard}
use Rattle.draid_pass.specs.declared.pass.Pass.{Pass}
use Rattle.draid_slots.specs.States.{pass_in}
use Rattle.draid_slots.specs.Table.{SlotTable}
use Rattle.draid_disks.specs.Disks.{IsReservedFor, SamePass}
use Rattle.draid_disks.specs.Replanning.{attach_events}
use Rattle.draid_session.specs.Arms as arms
use Rattle.draid_session.specs.Follows.{replans}
use Rattle.draid_session.specs.Holds.{Looked, On, Reserved, View, view_of}
use Rattle.draid_session.specs.Phases.{Went}
use Rattle.draid_session.specs.State.{Metaslab}
use Rattle.draid_session.specs.Worn.{ReservesWorn}
use Rattle.draid_pool.specs.Metaslabs.{IsMetaslab}
use Rattle.draid_pool.specs.Passes.{KeepsPass, KeepsPasses}
use Rattle.draid_pool.specs.Syncing.{KeepsCommitted, Turns}
use Rattle.draid_pool.specs.declared.pool.Pool.{Pool}
use Rattle.draid_pool.proofs.Dids.{none_here}
use Rattle.draid_pool.proofs.Keeping.{each_same, each_set, pass_still, passes_on}
use Rattle.draid_pool.proofs.Lifted.{SetsShard}
use Rattle.draid_pool.proofs.OneHold.{passes_is, reserved_here, reserves, with_reserved, worn_is}
use Rattle.draid_changes.specs.declared.need.Need.{Need}
use Rattle.draid_changes.specs.declared.need.Need.TheVariants as needs
use Rattle.draid_changes.specs.Walks.{end_of_reserving, events_at, events_in}

pub kept_here : (w : machine.State) → KeepsCommitted w w
kept_here w = record { held = refl; committed = refl; images = λ image is. is; leaves = λ kept_leaf next_leaf below. below; alike = λ shared is. is; opens = omega arith }

-- a refusal is no way through
pub not_through : (why : ReserveFault) → end_of_reserving (Err why) ≢ Went
not_through (reserve.Worn events) is = absurd (cc)
not_through reserve.NoMemory is = absurd (cc)

-- what an attachment uses of what is reserved, by the pass of the metaslab
pub same_events : (slots : SlotTable) (p : Option Pass) → replans (option_map (pass_in slots) p) ≡ attach_events p
same_events slots None = refl
same_events slots (Some p) = by p.kind p.running
  where
    by : (k : PassKind) (running : Bool) → replans (Some (record (pass_in slots p) { kind = k; running = running })) ≡ attach_events (Some (record p { kind = k; running = running }))
    by Rebuild running = refl
    by Heal running = refl

-- it asks for as many where a pass is as it was, but for room
same_attach : (old new : Option Pass) → SamePass old new → attach_events new ≡ attach_events old
same_attach None None same = refl
same_attach None (Some q) same = absurd same
same_attach (Some p) None same = absurd same
same_attach (Some p) (Some q) same = λ i. attach_events (Some (record q { kind = same.kind_is i; running = same.running_is i }))

pub same_need : {R A : Type 0} (need : Need) (old new : Shard R A) → SamePass old.pass new.pass → events_in need new ≡ events_in need old
same_need needs.Event old new same = refl
same_need needs.Attachment old new same = same_attach old.pass new.pass same
same_need (needs.Spares count) old new same = refl

-- ---- passes

pub pass_kept : (old new : Option Pass) → SamePass old new → KeepsPass old new
pass_kept None None same = tt
pass_kept None (Some new) same = absurd same
pass_kept (Some old) None same = absurd same
pass_kept (Some old) (Some new) same = record { number_is = same.number_is; kind_is = same.kind_is; max_is = same.max_is; at_is = same.place_is; running_is = same.running_is }

pub passes_still : {R A : Type 0} (pool : Pool R A) → KeepsPasses pool pool
passes_still {R} {A} pool = each_same (λ (before : Shard R A) after. KeepsPass before.pass after.pass) (λ shard. pass_still shard.pass) pool pool refl

pub passes_set : {R A : Type 0} (rack : racks.Ghosts R) (area : areas.Ghosts A) (m : ℕ) (old mid new : Pool R A) (shard after : Shard R A) → KeepsPasses old mid → SetsShard rack area m mid new shard after → SamePass shard.pass after.pass
    → KeepsPasses old new
passes_set {R} {A} rack area m old mid new shard after kept set same =
    passes_on old mid new kept (each_set (λ (before : Shard R A) now. KeepsPass before.pass now.pass) (λ z. pass_still z.pass) rack area m mid new shard after set (pass_kept shard.pass after.pass same))

module _ {R A : Type 0} (rack : racks.Ghosts R) (area : areas.Ghosts A) where
  -- what the call says of a shard
  pub record Reserving (events : ℕ) (old new : Shard R A) : Type 0 where
    pub valid : Valid rack new
    pub none : DoesNone old new
    pub kit : SameKit old new
    pub limit : limit_in new.history ≡ limit_in old.history

  -- a change asks for so many events in a metaslab for which a shard stands
  abbrev pub AsksFor : (View → ℕ) → Shard R A → ℕ → Type 0
  AsksFor need old events = (part : Part) (pieces : Pieces) (x : Metaslab) → IsMetaslab rack area part pieces old x → need (view_of part.number x) ≡ events

  pub asks_for : (need : Need) (old : Shard R A) → AsksFor (events_at need) old (events_in need old)
  asks_for needs.Event old part pieces x is = refl
  asks_for (needs.Spares count) old part pieces x is = refl
  asks_for needs.Attachment old part pieces x is = ap replans is.stands.is_in.pass ∙ same_events old.slots old.pass

  worn_there : (events : ℕ) (part : Part) (pieces : Pieces) (old : Shard R A) (x : Metaslab) → IsMetaslab rack area part pieces old x → reserved_of old.history < events
      → Passes old.history (events - reserved_of old.history) left_for_groups → ReservesWorn part.geometry (view_of part.number x) events
  worn_there events part pieces old x is more passes = record {
    more = (let r = is.reserved in omega (arith, r, more));
    worn = worn_is rack area part pieces old x (events - x.reserved) left_for_groups is (subst (λ n. Passes old.history (events - n) left_for_groups) (sym is.reserved) passes);
  }

  not_worn : (events : ℕ) (part : Part) (pieces : Pieces) (old : Shard R A) (x : Metaslab) → IsMetaslab rack area part pieces old x
      → (reserved_of old.history < events → Passes old.history (events - reserved_of old.history) left_for_groups → ⊥) → ReservesWorn part.geometry (view_of part.number x) events → ⊥
  not_worn events part pieces old x is never z =
      never (let r = is.reserved in let more = z.more in omega (arith, r, more))
      (subst (λ n. Passes old.history (events - n) left_for_groups) is.reserved (passes_is rack area part pieces old x (events - x.reserved) left_for_groups is z.worn))

  pub reserve_turns : (need : View → ℕ) (events : ℕ) (old new : Shard R A) → AsksFor need old events → Reserving events old new → IsReservedFor old.history events (Ok tt)
      → reserved_of new.history ≡ max events (reserved_of old.history) → (part : Part) (pieces : Pieces) (x : Metaslab) → IsMetaslab rack area part pieces old x
      → Turns rack area part pieces x new (λ hold y. arms.Reserves part.geometry part.perms need part.number hold 0 × KeepsCommitted x.world y.world)
  reserve_turns need events old new asks r never reserved part pieces x is =
      let same = asks part pieces x is in
      record {
        act = Reserved events;
        reached = with_reserved x (reserved_of new.history);
        acts = reserves (layout_in part) events (reserved_of new.history) x (reserved ∙ ap (max events) (sym is.reserved));
        done = ((refl, sym same, subst (λ n. ReservesWorn part.geometry (view_of part.number x) n → ⊥) (sym same) (not_worn events part pieces old x is never), refl), kept_here x.world);
        is = reserved_here rack area part pieces old new x is r.valid r.none r.kit r.limit;
      }

  stops : (need : View → ℕ) (events : ℕ) (part : Part) (pieces : Pieces) (old : Shard R A) (x : Metaslab) (why : ReserveFault) → need (view_of part.number x) ≡ events → IsMetaslab rack area part pieces old x
      → IsReservedFor old.history events (Err why) → arms.ReserveStops part.geometry part.perms need part.number (On (view_of part.number x) Looked) (end_of_reserving (Err why))
  stops need events part pieces old x (reserve.Worn used) same is answer =
      (refl, subst (λ n. ReservesWorn part.geometry (view_of part.number x) n) (sym same) (worn_there events part pieces old x is answer.0 answer.1))
  stops need events part pieces old x reserve.NoMemory same is answer = refl

  pub reserve_stops : (need : View → ℕ) (events : ℕ) (old new : Shard R A) (why : ReserveFault) → AsksFor need old events → Reserving events old new → IsReservedFor old.history events (Err why)
      → reserved_of new.history ≡ reserved_of old.history → (part : Part) (pieces : Pieces) (x : Metaslab) → IsMetaslab rack area part pieces old x
      → Turns rack area part pieces x new (λ hold y. arms.ReserveStops part.geometry part.perms need part.number hold (end_of_reserving (Err why)) × KeepsCommitted x.world y.world)
  reserve_stops need events old new why asks r answer reserved part pieces x is = record {
    act = Looked;
    reached = x;
    acts = refl;
    done = (stops need events part pieces old x why (asks part pieces x is) is answer, kept_here x.world);
    is = none_here rack area part pieces old new x is r.valid r.none r.kit.rack r.kit.areas r.limit reserved;
  }
