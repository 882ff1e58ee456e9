-- What is kept where there is more room.
use Rattle.std.proofs.Common.{◌≡◌, ◌≤◌, ℕ, List, length, map, refl}
use Rattle.std.specs.Prelude.{All, slice_index_or}
use Rattle.draid_perm.specs.declared.perms.Perms.{Perms}
use Rattle.draid_spec.specs.declared.layout.Geometry.{Geometry}
use Rattle.draid_slots.specs.Changes.{AreAllGrown, IsRoomier, Keeps}
use Rattle.draid_slots.specs.declared.slot.Detached.{Detached}
use Rattle.draid_slots.specs.declared.slot.Slot.{Slot}
use Rattle.draid_slots.specs.Table.{AreKept, IsPaired, arms_in, logs_in, table_of}

pub kept_same : (geometry : Geometry) (perms : Perms) (metaslab : ℕ) (slots new : List Slot) (detached gone : List Detached) → map arms_in new ≡ map arms_in slots → All IsPaired new → gone ≡ detached
    → AreKept geometry perms metaslab slots detached → AreKept geometry perms metaslab new gone
kept_same geometry perms metaslab slots new detached gone arms paired same kept = record { paired = paired; sound = rw (arms, same) kept.sound }

pub keeps_same : (geometry : Geometry) (perms : Perms) (metaslab : ℕ) (slots new : List Slot) (detached gone : List Detached) (rooms next : List ℕ) (places left : ℕ) → map arms_in new ≡ map arms_in slots
    → AreAllGrown (map logs_in slots) (map logs_in new) → gone ≡ detached → Keeps (table_of geometry perms metaslab slots detached rooms places) (table_of geometry perms metaslab new gone next left)
keeps_same geometry perms metaslab slots new detached gone rooms next places left arms grown same = record {
  same = record { geometry_is = refl; perms_are = refl; metaslab_is = refl };
  arms_stay = arms;
  logs_stay = λ at group. (grown.each at.slot).members at.arm group;
  detached_stay = same;
}

pub roomier_by : (geometry : Geometry) (perms : Perms) (metaslab : ℕ) (slots new : List Slot) (detached gone : List Detached) (rooms next : List ℕ) (places left : ℕ)
    → AreAllGrown (map logs_in slots) (map logs_in new) → length rooms ≤ length next → ((k : ℕ) → slice_index_or rooms k 0 ≤ slice_index_or next k 0) → places ≤ left
    → IsRoomier (table_of geometry perms metaslab slots detached rooms places) (table_of geometry perms metaslab new gone next left)
roomier_by geometry perms metaslab slots new detached gone rooms next places left grown count kept more = record {
  logs = λ at. (grown.each at.slot).kept at.arm;
  count = count;
  next = kept;
  places = more;
}
