-- What a look at a metaslab says of its room.
use Rattle.std.proofs.Common.{◌≡◌, ◌+◌, ◌∙◌, inl, inr, ℕ, Option, Some, None, arith, refl, sym, ap, subst, length}
use Rattle.draid_names.specs.declared.room.Room.{Room}
use Rattle.draid_rack.specs.declared.Rack as racks
use Rattle.draid_area.specs.declared.Area as areas
use Rattle.draid_spec.specs.declared.layout.Geometry.{Geometry}
use Rattle.draid_perm.specs.declared.perms.Perms.{Perms}
use Rattle.draid_machine.specs.State as machine
use Rattle.draid_machine.specs.Step.{IsLongest}
use Rattle.draid_segments.specs.Segments.{Pieces}
use Rattle.draid_entries.specs.Entries.{owed_by}
use Rattle.draid_entries.specs.History.{stored_of}
use Rattle.draid_entries.specs.Owed.{IsOwed}
use Rattle.draid_shard.specs.Rooms.{IsWornFor, TakesBlocks}
use Rattle.draid_shard.specs.Fits.{owed_for_group, owed_for_pass}
use Rattle.draid_shard.specs.Loans.{owed_for_loan}
use Rattle.draid_shard.specs.Part.{Part, layout_in}
use Rattle.draid_shard.specs.declared.fault.Shut.{Shut}
use Rattle.draid_shard.specs.declared.fault.Shut.TheVariants as shut
use Rattle.draid_shard.specs.declared.shard.Shard.{Shard}
use Rattle.draid_shard.proofs.OwedAll.{owed_is}
use Rattle.draid_session.specs.Holds.{view_of}
use Rattle.draid_session.specs.Rooms.{IsDisabled, IsFull, IsRoomOf, IsShut, IsWornForBlock}
use Rattle.draid_session.specs.State.{Metaslab}
use Rattle.draid_session.specs.Worn.{IsWorn}
use Rattle.draid_pool.specs.Metaslabs.{IsMetaslab}
use Rattle.draid_pool.specs.Looking.{RoomIs, ShutIs}

-- what a session calls worn is what the shard does
pub worn_for : {R A : Type 0} (rack : racks.Ghosts R) (area : areas.Ghosts A) (part : Part) (pieces : Pieces) (shard : Shard R A) (x : Metaslab) (m asked : ℕ) → IsMetaslab rack area part pieces shard x
    → IsWorn part.geometry (view_of m x) asked → IsWornFor shard asked
worn_for rack area part pieces shard x m asked is worn =
    let columns : shard.geometry.g ≡ part.geometry.g = ap (λ (p : Part). p.geometry.g) is.part_is in
    let all = (owed_is rack shard x.world worn.owed is.valid is.stands.is_in).0 (subst (λ n. IsOwed n x.world worn.owed) (sym columns) worn.is) in
    let over = worn.over in
    let limit = is.limit in
    let stored : length x.events ≡ stored_of shard.history = ap (λ es. length es) is.events ∙ sym shard.history.events.ok.0 in
    let reserved = is.reserved in
    omega (arith, all, over, limit, stored, reserved)

module _ {R A : Type 0} (rack : racks.Ghosts R) (area : areas.Ghosts A) where
  -- what the shard does is what a session calls worn
  for_worn : (part : Part) (pieces : Pieces) (shard : Shard R A) (y : Metaslab) (m asked : ℕ) → IsMetaslab rack area part pieces shard y → IsWornFor shard asked → IsWorn part.geometry (view_of m y) asked
  for_worn part pieces shard y m asked is worn =
      let owed : ℕ = owed_by shard.geometry.g shard.entries + owed_for_pass shard.pass + owed_for_loan shard.kept + owed_for_group shard.closing shard.sealed in
      let all = is.valid.owed in
      let limit = is.limit in
      let stored : length y.events ≡ stored_of shard.history = ap (λ es. length es) is.events ∙ sym shard.history.events.ok.0 in
      let reserved = is.reserved in
      record {
        owed = owed;
        is = subst (λ n. IsOwed n y.world owed) (ap (λ (p : Part). p.geometry.g) is.part_is) ((owed_is rack shard y.world owed is.valid is.stands.is_in).1 (omega (arith, all)));
        over = omega (arith, worn, all, limit, stored, reserved);
      }

  -- a metaslab is shut just where its shard takes no block
  takes : (part : Part) (pieces : Pieces) (shard : Shard R A) (y : Metaslab) (m : ℕ) → IsMetaslab rack area part pieces shard y → TakesBlocks shard y.world → IsShut part.geometry (view_of m y) → ⊥
  takes part pieces shard y m is may is_shut = elim is_shut [
    | inl disabled ↦ disabled may.enabled
    | inr rest ↦ elim rest [
      | inl full ↦ full.full may.fewer
      | inr worn ↦ may.events (subst (IsWornFor shard) (ap (λ (q : Part). q.geometry.g + 3) (sym is.part_is)) (worn_for rack area part pieces shard y m (part.geometry.g + 3) is worn.worn))
    ]
  ]

  takes_none : (part : Part) (pieces : Pieces) (shard : Shard R A) (y : Metaslab) (m : ℕ) → IsMetaslab rack area part pieces shard y → (TakesBlocks shard y.world → ⊥) → (IsShut part.geometry (view_of m y) → ⊥) → ⊥
  takes_none part pieces shard y m is none open_ =
      open_ (inl (λ enabled. open_ (inr (inl (record {
        enabled = enabled;
        full = λ fewer. none (record {
          enabled = enabled;
          fewer = fewer;
          events = λ worn. open_ (inr (inr (record {
            enabled = enabled;
            fewer = fewer;
            worn = for_worn part pieces shard y m (part.geometry.g + 3) is (subst (IsWornFor shard) (ap (λ (q : Part). q.geometry.g + 3) is.part_is) worn);
          })));
        });
      })))))

  pub room_of : (geometry : Geometry) (perms : Perms) (m need : ℕ) (pieces : Pieces) (shard : Shard R A) (y : Metaslab) (room : Room) → IsMetaslab rack area (record { geometry = geometry; perms = perms; number = m }) pieces shard y
      → RoomIs need shard room → IsRoomOf geometry perms need (view_of m y) room
  room_of geometry perms m need pieces shard y room is of = record {
    metaslab = of.metaslab ∙ ap (λ (p : Part). p.number) is.part_is;
    wanted = of.wanted;
    none = λ is_shut. elim (of.run y.world is.stands.is_in) [
      | inl z ↦ z.1
      | inr z ↦ absurd (takes part pieces shard y m is z.0 is_shut)
    ];
    run = λ is_open. elim (of.run y.world is.stands.is_in) [
      | inl z ↦ absurd (takes_none part pieces shard y m is z.0 is_open)
      | inr z ↦ subst (λ (l : machine.Layout). IsLongest l y.world.core room.run) (ap layout_in is.part_is) z.1
    ];
  }
    where
      part : Part
      part = record { geometry = geometry; perms = perms; number = m }

  -- ---- why it takes no block

  pub by_disabled : (part : Part) (p : Pieces) (shard : Shard R A) (y : Metaslab) (m : ℕ) (s : Option Shut) → IsMetaslab rack area part p shard y → ShutIs shard s
      → (s ≡ Some shut.Disabled → IsDisabled (view_of m y)) × ((s ≡ Some shut.Disabled → ⊥) → IsDisabled (view_of m y) → ⊥)
  by_disabled part p shard y m None is says = (λ same. absurd (cc), λ other disabled. disabled (says y.world is.stands.is_in).enabled)
  by_disabled part p shard y m (Some shut.Disabled) is says = (λ same. says y.world is.stands.is_in, λ other disabled. other refl)
  by_disabled part p shard y m (Some shut.Full) is says = (λ same. absurd (cc), λ other disabled. disabled (says y.world is.stands.is_in).0)
  by_disabled part p shard y m (Some shut.Worn) is says = (λ same. absurd (cc), λ other disabled. disabled (says y.world is.stands.is_in).0)

  pub by_full : (part : Part) (p : Pieces) (shard : Shard R A) (y : Metaslab) (m : ℕ) (s : Option Shut) → IsMetaslab rack area part p shard y → ShutIs shard s
      → (s ≡ Some shut.Full → IsFull (view_of m y)) × ((s ≡ Some shut.Full → ⊥) → IsFull (view_of m y) → ⊥)
  by_full part p shard y m None is says = (λ same. absurd (cc), λ other full. full.full (says y.world is.stands.is_in).fewer)
  by_full part p shard y m (Some shut.Disabled) is says = (λ same. absurd (cc), λ other full. says y.world is.stands.is_in full.enabled)
  by_full part p shard y m (Some shut.Full) is says = (λ same. (let z = says y.world is.stands.is_in in record { enabled = z.0; full = z.1 }), λ other full. other refl)
  by_full part p shard y m (Some shut.Worn) is says = (λ same. absurd (cc), λ other full. full.full (says y.world is.stands.is_in).1)

  pub by_worn : (part : Part) (p : Pieces) (shard : Shard R A) (y : Metaslab) (m : ℕ) (s : Option Shut) → IsMetaslab rack area part p shard y → ShutIs shard s
      → (s ≡ Some shut.Worn → IsWornForBlock part.geometry (view_of m y)) × ((s ≡ Some shut.Worn → ⊥) → IsWornForBlock part.geometry (view_of m y) → ⊥)
  by_worn part p shard y m None is says = (λ same. absurd (cc), λ other worn. takes part p shard y m is (says y.world is.stands.is_in) (inr (inr worn)))
  by_worn part p shard y m (Some shut.Disabled) is says = (λ same. absurd (cc), λ other worn. says y.world is.stands.is_in worn.enabled)
  by_worn part p shard y m (Some shut.Full) is says = (λ same. absurd (cc), λ other worn. (says y.world is.stands.is_in).1 worn.fewer)
  by_worn part p shard y m (Some shut.Worn) is says = (
    λ same. (let z = says y.world is.stands.is_in in record { enabled = z.0; fewer = z.1; worn = for_worn part p shard y m (part.geometry.g + 3) is (subst (IsWornFor shard) (ap (λ (q : Part). q.geometry.g + 3) is.part_is) z.2) }),
    λ other worn. other refl,
  )
