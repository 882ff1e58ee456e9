-- What a look at a metaslab says of its room, and which metaslab is chosen.
use Rattle.std.proofs.Common.{◌≡◌, ◌≤◌, ◌<◌, ◌+◌, ◌-◌, ◌/◌, inl, inr, ℕ, suc, List, [], ◌∷◌, Option, Some, arith, refl}
use Rattle.std.specs.Prelude.{All}
use Rattle.std.specs.List.{AllZip}
use Rattle.draid_names.specs.declared.room.Room.{Room}
use Rattle.draid_rack.specs.declared.Rack as racks
use Rattle.draid_area.specs.declared.Area as areas
use Rattle.draid_spec.specs.declared.layout.Geometry.{Geometry}
use Rattle.draid_perm.specs.declared.perms.Perms.{Perms}
use Rattle.draid_choose.specs.Rooms.{Picks}
use Rattle.draid_machine.specs.State as machine
use Rattle.draid_machine.specs.Step.{Fits}
use Rattle.draid_shard.specs.Rooms as shard_rooms
use Rattle.draid_shard.specs.Rooms.{IsWornFor, TakesBlocks}
use Rattle.draid_shard.specs.Fits.{Valid}
use Rattle.draid_shard.specs.States.{IsIn, layout_by, part_of}
use Rattle.draid_shard.proofs.Standing.{has_layout}
use Rattle.std.proofs.lemmas.Nat.{div-add-mod', le-div}
use Rattle.draid_shard.specs.declared.shard.Shard.{Shard}
use Rattle.draid_session.specs.Holds.{View}
use Rattle.draid_session.specs.Rooms.{IsRoomOf, longest}
use Rattle.draid_pool.specs.Shards.{HasRoom}
use Rattle.draid_pool.specs.Looking.{RoomsAre}

-- ---- rooms

-- where a run fits, a shorter one does
div_mono : (a b k : ℕ) → 0 < k → a ≤ b → a / k ≤ b / k
div_mono a b k some less = le-div (a / k) b k some (let whole = div-add-mod' a k in omega (arith, whole, less))

fits_less : (l : machine.Layout) (q : machine.Core) (first stripes more : ℕ) → 0 < l.height → 1 ≤ stripes → stripes ≤ more → Fits l q first more → Fits l q first stripes
fits_less l q first stripes more tall some less fits = record {
  inside = (let inside = fits.inside in omega (arith, inside, less));
  group = between_group;
  free = λ x from to. fits.free x from (omega (arith, to, less));
}
  where
    between_group : (first + stripes - 1) / l.height ≡ first / l.height
    between_group =
        let low = div_mono first (first + stripes - 1) l.height tall (omega (arith, some)) in
        let high = div_mono (first + stripes - 1) (first + more - 1) l.height tall (omega (arith, some, less)) in
        let group = fits.group in
        omega (arith, low, high, group)

module _ {R A : Type 0} (rack : racks.Ghosts R) (area : areas.Ghosts A) where
  -- ---- the metaslab that was named

  room_in : (need : ℕ) (shard : Shard R A) (w : machine.State) (room : Room) → 1 ≤ need → 0 < (layout_by shard).height → shard_rooms.IsRoom shard w room.run → room.need ≡ need → room.need ≤ room.run → HasRoom need shard w
  room_in need shard w room some tall run wanted large = elim run [
    | inl z ↦ absurd (let none = z.1 in omega (arith, none, wanted, large, some))
    | inr z ↦ elim (z.1.fits) [
      | inl none ↦ absurd (omega (arith, none, wanted, large, some))
      | inr fits ↦ record { takes = z.0; first = fits.0; fits = fits_less (layout_by shard) w.core fits.0 need room.run tall some (omega (arith, wanted, large)) fits.1 }
    ]
  ]

  pub has_room : (need : ℕ) (now : ℕ → Option (Shard R A)) (rooms : List Room) (m : ℕ) → 1 ≤ need → RoomsAre need now rooms → Picks rooms (Some m) → ((shard : Shard R A) → now m ≡ Some shard → Valid rack shard)
      → (shard : Shard R A) × (now m ≡ Some shard) × ((w : machine.State) → IsIn shard w → HasRoom need shard w)
  has_room need now rooms m some are picks valid =
      let fit = picks.some m refl in
      let at = are m fit.0 fit.1 in
      (at.shard, at.there, λ w in_. room_in need at.shard w fit.0 some (has_layout (part_of at.shard) (valid at.shard at.there).part).tall (at.is.run w in_) at.is.wanted fit.2)

-- where none is large enough, the longest run is too short
pub short_all : (geometry : Geometry) (perms : Perms) (need : ℕ) (views : List View) (rooms : List Room) → 0 < need → AllZip (IsRoomOf geometry perms need) views rooms → All (λ (r : Room). r.run < r.need) rooms → longest rooms < need
short_all geometry perms need [] [] some z each = some
short_all geometry perms need [] (r ∷ rs) some z each = absurd z
short_all geometry perms need (v ∷ vs) [] some z each = absurd z
short_all geometry perms need (v ∷ vs) (r ∷ rs) some z each =
    let here = each 0 r (omega arith) in
    let wanted = z.0.wanted in
    let rest = short_all geometry perms need vs rs some z.1 (λ k d below. each (suc k) d (omega (arith, below))) in
    omega (arith, here, wanted, rest)
