-- A hold of a metaslab that adds no event, and one of which the rack tells nothing new.
use Rattle.std.proofs.Common.{◌≡◌, ◌+◌, ◌∙◌, [], ◌∷◌, ℕ, List, arith, refl, sym, ap, subst, max, length}
use Rattle.std.proofs.Math.Nat.{max_comm}
use Rattle.draid_rack.specs.declared.Rack as racks
use Rattle.draid_area.specs.declared.Area as areas
use Rattle.draid_machine.specs.State as machine
use Rattle.draid_segments.specs.Segments.{Pieces}
use Rattle.draid_entries.specs.Entries.{owed_by}
use Rattle.draid_entries.specs.History as history
use Rattle.draid_entries.specs.History.{limit_in, owed_of, reserved_of, stored_of}
use Rattle.draid_shard.specs.Calls.{SameKit}
use Rattle.draid_shard.specs.Fits.{Valid, owed_for_group, owed_for_pass}
use Rattle.draid_shard.specs.Part.{Part, layout_in}
use Rattle.draid_shard.specs.States.{DoesNone, part_of}
use Rattle.draid_shard.specs.declared.shard.Shard.{Shard}
use Rattle.draid_shard.specs.Loans.{owed_for_loan}
use Rattle.draid_shard.proofs.OwedAll.{owed_is}
use Rattle.draid_shard.proofs.Standing.{none_stands}
use Rattle.draid_session.specs.Follows.{MetaslabActs}
use Rattle.draid_session.specs.Holds.{Hold, Looked, On, Reserved, view_of}
use Rattle.draid_session.specs.State.{Metaslab}
use Rattle.draid_session.specs.Worn as worn
use Rattle.draid_pool.specs.Metaslabs.{IsMetaslab, harm_of}
use Rattle.draid_pool.specs.Shards.{FollowsIn, Goes}
use Rattle.draid_pool.proofs.Dids.{records_same}
use Rattle.draid_pool.proofs.Imaged.{keeps_same}

-- a metaslab in which so many events are reserved
abbrev pub with_reserved : Metaslab → ℕ → Metaslab
with_reserved x reserved = record x { reserved = reserved }

pub looks_in : (l : machine.Layout) (m : ℕ) (x : Metaslab) → FollowsIn l m (On (view_of m x) Looked ∷ []) x x
looks_in l m x = (Looked, x, refl, refl, refl)

-- events come to be reserved
pub reserves : (l : machine.Layout) (events now : ℕ) (x : Metaslab) → now ≡ max events x.reserved → MetaslabActs l (Reserved events) x (with_reserved x now)
reserves l events now x is = ap (with_reserved x) (is ∙ max_comm events x.reserved)

module _ {R A : Type 0} (rack : racks.Ghosts R) (area : areas.Ghosts A) where
  pub reserved_here : (part : Part) (pieces : Pieces) (old new : Shard R A) (x : Metaslab) → IsMetaslab rack area part pieces old x → Valid rack new → DoesNone old new → SameKit old new
      → limit_in new.history ≡ limit_in old.history → IsMetaslab rack area part pieces new (with_reserved x (reserved_of new.history))
  reserved_here part pieces old new x is valid none kit limit =
      record {
        valid = valid;
        part_is = none.part ∙ is.part_is;
        stands = none_stands rack old new x.world pieces none (ap rack.told kit.rack) is.stands;
        run = is.run;
        events = is.events ∙ sym none.stored;
        limit = limit ∙ is.limit;
        reserved = refl;
        counts = is.counts ∙ sym (λ i. record { rack = rack.faults (kit.rack i); even = area.faults (kit.areas.even i); odd = area.faults (kit.areas.odd i) });
        harm = is.harm ∙ ap (λ r. harm_of (rack.told r)) (sym kit.rack);
        records = records_same rack area part x.world old new kit.areas is.records;
        bytes = is.bytes;
      }

  -- ---- what is worn

  worn_here : (pieces : Pieces) (shard : Shard R A) (x : Metaslab) (asked left : ℕ) → IsMetaslab rack area (part_of shard) pieces shard x → history.Passes shard.history asked left
      → worn.Passes shard.geometry (view_of shard.number x) asked left
  worn_here pieces shard x asked left is passes =
      let all = is.valid.owed in
      let owed : ℕ = owed_by shard.geometry.g shard.entries + owed_for_pass shard.pass + owed_for_loan shard.kept + owed_for_group shard.closing shard.sealed in
      let same : owed + reserved_of shard.history ≡ owed_of shard.history = omega (arith, all) in
      let limit = is.limit in
      let stored : length x.events ≡ stored_of shard.history = ap length is.events ∙ sym shard.history.events.ok.0 in
      let reserved = is.reserved in
      record {
        owed = owed;
        is = (owed_is rack shard x.world owed is.valid is.stands.is_in).1 same;
        over = omega (arith, passes, same, limit, stored, reserved);
      }

  passes_here : (pieces : Pieces) (shard : Shard R A) (x : Metaslab) (asked left : ℕ) → IsMetaslab rack area (part_of shard) pieces shard x
      → worn.Passes shard.geometry (view_of shard.number x) asked left → history.Passes shard.history asked left
  passes_here pieces shard x asked left is z =
      let same = (owed_is rack shard x.world z.owed is.valid is.stands.is_in).0 z.is in
      let limit = is.limit in
      let stored : length x.events ≡ stored_of shard.history = ap length is.events ∙ sym shard.history.events.ok.0 in
      let reserved = is.reserved in
      let over = z.over in
      omega (arith, over, same, limit, stored, reserved)

  -- so many events more pass the shard's limit just where they pass that of what it stands for
  pub worn_is : (part : Part) (pieces : Pieces) (shard : Shard R A) (x : Metaslab) (asked left : ℕ) → IsMetaslab rack area part pieces shard x → history.Passes shard.history asked left
      → worn.Passes part.geometry (view_of part.number x) asked left
  worn_is part pieces shard x asked left is passes =
      subst (λ p. IsMetaslab rack area p pieces shard x → worn.Passes p.geometry (view_of p.number x) asked left) is.part_is (λ here. worn_here pieces shard x asked left here passes) is

  pub passes_is : (part : Part) (pieces : Pieces) (shard : Shard R A) (x : Metaslab) (asked left : ℕ) → IsMetaslab rack area part pieces shard x
      → worn.Passes part.geometry (view_of part.number x) asked left → history.Passes shard.history asked left
  passes_is part pieces shard x asked left is =
      subst (λ p. IsMetaslab rack area p pieces shard x → worn.Passes p.geometry (view_of p.number x) asked left → history.Passes shard.history asked left) is.part_is
      (λ here passes. passes_here pieces shard x asked left here passes) is

  -- ---- a look

  -- the shard was looked at, and stands for what it stood for
  pub looked : (part : Part) (pieces : Pieces) (new : Shard R A) (x : Metaslab) (does : List Hold → Metaslab → Type 0) → IsMetaslab rack area part pieces new x
      → does (On (view_of part.number x) Looked ∷ []) x → Goes rack area part pieces x new does
  looked part pieces new x does is done = record { holds = On (view_of part.number x) Looked ∷ []; reached = x; follows = looks_in (layout_in part) part.number x; images = keeps_same x.world; done = done; is = is }
