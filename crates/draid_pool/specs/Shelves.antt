-- What is told of a shelf between the calls of pools.
use Rattle.std.specs.Prelude.{ℕ, Option}
use Rattle.draid_rack.specs.Rack.{Shape}
use Rattle.draid_shelf.specs.Kits.{Held, KitCounts}
use Rattle.draid_shelf.specs.declared.Shelf as shelves
use Rattle.draid_pool.specs.Returning.{OwnCounts, own_count}

-- What a shelf tells that it holds, the leaves of each metaslab's rack where they are known, and how often calls have failed: on the devices of each metaslab, on the
-- areas that aren't of a metaslab, and on itself.
pub record OnShelf : Type 0 where
  pub held : Option Held
  pub leaves : ℕ → Option Shape
  pub counts : ℕ → KitCounts
  pub own : OwnCounts
  pub faults : ℕ

abbrev pub own_on : {H R A : Type 0} → shelves.Ghosts H R A → H → OwnCounts
own_on shelf x = record { uber = shelf.uber_count x; checks = shelf.check_counts x }

-- how often calls on a pool's own areas have failed
abbrev pub count_on : {H R A : Type 0} → shelves.Ghosts H R A → H → ℕ
count_on shelf x = own_count (own_on shelf x)

abbrev pub on_shelf : {H R A : Type 0} → shelves.Ghosts H R A → H → OnShelf
on_shelf shelf x = record {
  held = shelf.told x;
  leaves = shelf.leaves x;
  counts = shelf.counts x;
  own = own_on shelf x;
  faults = shelf.faults x;
}
