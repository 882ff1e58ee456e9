-- The pool that is open is given back to the shelf.
use Rattle.std.proofs.Common.{◌≡◌, ◌∙◌, inl, inr, arith, refl, sym, ap, subst, ℕ, Bool, false, Option, Some, None}
use Rattle.std.specs.Prelude.{IsSomeAnd}
use Rattle.draid_rack.specs.declared.Rack as racks
use Rattle.draid_area.specs.declared.Area as areas
use Rattle.draid_spec.specs.declared.layout.Geometry.{Geometry}
use Rattle.draid_segments.specs.Segments.{Pieces}
use Rattle.draid_shelf.specs.Kits.{CheckCounts, Held, KitTold, OnHeld}
use Rattle.draid_session.specs.Session.{Desk, Untouched, Bare, Made, Open, Shut, Foreign, Unknown}
use Rattle.draid_session.specs.State.{Metaslab, State}
use Rattle.draid_pool.specs.Returning.{GivesBack, HoldsPool, Rests, RestsOn, SameCounts, AreaFailed, RackFailed, areas_told, own_count}
use Rattle.draid_pool.specs.Failing.{AreaFails, RackFails}
use Rattle.draid_pool.specs.Importable.{IsFindable, IsImportable}
use Rattle.draid_pool.specs.Pools.{Represents}
use Rattle.draid_pool.specs.Records.{HasLeafNumbers}
use Rattle.draid_uber.specs.Checks.{AreasTold}
use Rattle.draid_pool.specs.Ubers.{UberStands}
use Rattle.draid_pool.specs.declared.pool.Pool.{Pool}
use Rattle.draid_create.specs.Opening.{StaysMade}
use Rattle.draid_run.specs.Desks.{IsDesk, LeavesDesk}
use Rattle.draid_pool.specs.Shelves.{OnShelf}
use Rattle.draid_run.specs.Shelves.{AreaHasFailed, HoldsShut, IsOut, RackFailedOn, RackHasFailed, StaysAs, TellsAsBefore}

-- what stays as it was, and then again
pub stays_on : (a b c : OnShelf) → StaysAs a b → StaysAs b c → StaysAs a c
stays_on a b c x y = record { held = y.held ∙ x.held; counts = λ m. y.counts m ∙ x.counts m; uber = y.uber ∙ x.uber; checks = y.checks ∙ x.checks }

-- the counts of a pool's own areas
pub own_same : (a b : OnShelf) → b.own.uber ≡ a.own.uber → b.own.checks ≡ a.own.checks → own_count b.own ≡ own_count a.own
own_same a b uber checks = λ i. own_count (record { uber = uber i; checks = checks i })

-- no call has failed on those of a new pool but on that of the uberblock
pub new_count : (failed : ℕ) (geometry : Geometry) (now : OnShelf) → StaysMade geometry failed now.held now.counts now.own → own_count now.own ≡ failed
new_count failed geometry now made =
    let is = made.uber in
    let even = ap (λ (c : CheckCounts). c.even) made.checks in
    let odd = ap (λ (c : CheckCounts). c.odd) made.checks in
    omega (arith, is, even, odd)

-- ---- whether the shelf tells makes no other difference to what it holds

pub some_and : {T : Type 0} (o : Option T) (P Q : T → Type 0) → ((t : T) → P t → Q t) → IsSomeAnd o P → IsSomeAnd o Q
some_and None P Q f p = absurd p
some_and (Some t) P Q f p = f t p

pub on_held : (held : Option Held) (P Q : Held → Type 0) → ((h : Held) → P h → Q h) → OnHeld held P → OnHeld held Q
on_held None P Q f p = tt
on_held (Some h) P Q f p = f h p

module _ (x : State) (b : Bool) where
  -- the state, told so
  abbrev pub told_as : State
  told_as = record x { told = b }

  uber_as : (told : AreasTold) → UberStands x told → UberStands told_as told
  uber_as told u = record { pending = u.pending; are = u.are; stands = u.stands }

  rests_on : (m : ℕ) (pieces : Pieces) (y : Metaslab) (kit : KitTold) → RestsOn x m pieces y kit → RestsOn told_as m pieces y kit
  rests_on m pieces y kit r = record { reached = r.reached; images = r.images; harm = r.harm; bytes = r.bytes }

  leaves_as : HasLeafNumbers x → HasLeafNumbers told_as
  leaves_as l = record { order = l.order; each = l.each }

  pub rests_as : (pieces : ℕ → Pieces) (held : Held) → Rests x pieces held → Rests told_as pieces held
  rests_as pieces held r = record {
    layout = r.layout;
    uber = some_and held.uber (λ c. IsSomeAnd held.checks (λ checks. UberStands x (areas_told c checks))) (λ c. IsSomeAnd held.checks (λ checks. UberStands told_as (areas_told c checks)))
        (λ c all. some_and held.checks (λ checks. UberStands x (areas_told c checks)) (λ checks. UberStands told_as (areas_told c checks)) (λ checks stands. uber_as (areas_told c checks) stands) all) r.uber;
    many = r.many;
    kits = λ m y there. some_and (held.kits m) (RestsOn x m (pieces m) y) (RestsOn told_as m (pieces m) y) (rests_on m (pieces m) y) (r.kits m y there);
    images = r.images;
    leaves = leaves_as r.leaves;
    objects = r.objects;
  }

  pub holds_as : (crash : Bool) (held : Held) → HoldsPool x crash held → HoldsPool told_as crash held
  holds_as crash held h = record { pieces = h.pieces; rests = rests_as h.pieces held h.rests; backed = h.backed }

  pub importable_as : (now : OnShelf) (held : Held) → IsImportable x held now.leaves → IsImportable told_as held now.leaves
  importable_as now held i =
      let f : IsFindable x = i.findable in
      record { findable = record { committed = f.committed; versions = f.versions }; alike = i.alike; once = i.once; there = i.there }

pub not_some : {T : Type 0} (o : Option T) → ((t : T) → o ≡ Some t → ⊥) → o ≡ None
not_some None other = refl
not_some (Some t) other = absurd (other t refl)

-- ---- a pool that was given back

-- with its devices the shelf has the pool, and tells as before
pub shelf_has : (x : State) (crash : Bool) (before now : OnShelf) → GivesBack x crash now.held now.leaves now.counts now.own → TellsAsBefore before now → IsOut x before
    → HoldsShut crash x now
shelf_has x crash before now gives tells out = record {
  held = gives.held;
  importable = gives.importable;
  told = out.told ∙ sym tells;
  counts = gives.counted;
  uber = gives.uber;
}

-- what has failed on an area of the pool shows there
area_shows : (crash : Bool) (x : State) (now : OnShelf) → HoldsShut crash x now → AreaHasFailed x → AreaFailed now.counts now.own
area_shows crash x now holds failed = elim failed [
  | inl at ↦
      let same : SameCounts at.1.counts (now.counts at.0) = holds.counts at.0 at.1 at.2 in
      let even = same.even in
      let odd = same.odd in
      let some = at.3 in
      inl (at.0, omega (arith, even, odd, some))
  | inr some ↦ (let same = holds.uber in inr (omega (arith, same, some)))
]

-- so what has failed on a rack as a whole
racks_show : (crash : Bool) (x : State) (now : OnShelf) → HoldsShut crash x now → RackHasFailed x → RackFailedOn now
racks_show crash x now holds at =
    let same : SameCounts at.1.counts (now.counts at.0) = holds.counts at.0 at.1 at.2 in
    let count = same.rack None in
    let some = at.3 in
    (at.0, omega (arith, count, some))

module _ {R A : Type 0} (rack : racks.Ghosts R) (area : areas.Ghosts A) (entry before now : OnShelf) (desk : Option (Pool R A)) where
  pub leaves_shut : desk ≡ None → now ≡ before → (x : Desk) → IsDesk rack area entry before desk x → LeavesDesk rack area entry before now desk x
  leaves_shut none same x =
      subst (λ d. IsDesk rack area entry before d x → LeavesDesk rack area entry before now d x) (sym none)
      (subst (λ n. IsDesk rack area entry before None x → LeavesDesk rack area entry before n None x) (sym same) (by x))
    where
      by : (x : Desk) → IsDesk rack area entry before None x → LeavesDesk rack area entry before before None x
      by Untouched is = record { shelf = is.shelf; failed = λ failed. failed; racks = λ fault. absurd fault; same = λ closed. refl }
      by Bare is = record { shelf = is.shelf; failed = λ failed. failed; racks = λ fault. absurd fault; same = λ closed. refl }
      by (Made tells count geometry) is = record { shelf = is.shelf; failed = λ failed. failed; racks = λ fault. absurd fault; same = λ closed. refl }
      by (Shut crash y) is = record { shelf = is.shelf; failed = λ failed. failed; racks = λ fault. absurd fault; same = λ closed. refl }
      by Unknown is = record { shelf = is.shelf; failed = λ failed. failed; racks = λ fault. absurd fault; same = λ closed. refl }
      by (Open y) is = absurd is.stands
      by (Foreign known) is = absurd is.stands

  pub leaves_open : (pool : Pool R A) → desk ≡ Some pool → ((x : State) → Represents rack area pool x → GivesBack x false now.held now.leaves now.counts now.own) → TellsAsBefore before now
      → (AreaFails area.faults pool → AreaFailed now.counts now.own) → (RackFails rack.faults pool → RackFailed now.counts) → (x : Desk) → IsDesk rack area entry before desk x → LeavesDesk rack area entry before now desk x
  leaves_open pool some back tells shows whole x = subst (λ d. IsDesk rack area entry before d x → LeavesDesk rack area entry before now d x) (sym some) (by x) where
    by : (x : Desk) → IsDesk rack area entry before (Some pool) x → LeavesDesk rack area entry before now (Some pool) x
    by Untouched is = absurd is.stands
    by Bare is = absurd is.stands
    by (Made told count geometry) is = absurd is.stands
    by (Shut crash y) is = absurd is.stands
    by Unknown is = absurd is.stands
    by (Foreign known) is = record { shelf = tt; failed = λ failed. inr (shows failed); racks = whole; same = λ closed. absurd closed }
    by (Open y) is =
        let holds = shelf_has y false before now (back y is.stands.1) tells is.shelf in
        record {
          shelf = holds;
          failed = λ failed. inr (area_shows false y now holds failed);
          racks = racks_show false y now holds;
          same = λ closed. absurd closed;
        }
