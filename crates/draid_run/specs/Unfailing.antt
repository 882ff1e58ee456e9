-- A run in which no device failed.
use Rattle.std.specs.Prelude.{◌≢◌, ℕ, None}
use Rattle.draid_names.specs.Faults.{Rose}
use Rattle.draid_pool.specs.Returning.{own_count}
use Rattle.draid_pool.specs.Shelves.{OnShelf}
use Rattle.draid_exits.specs.declared.status.Status.{Status}
use Rattle.draid_exits.specs.declared.status.Status.TheVariants.{SourceFault, SinkFault, ShelfFault}

-- No count of a shelf rose: neither that of the shelf itself nor that of a pool's own areas, nor those of a metaslab's areas and of its rack as a whole.
pub record NothingRose (entry now : OnShelf) : Type 0 where
  pub shelf : Rose entry.faults now.faults → ⊥
  pub uber : Rose (own_count entry.own) (own_count now.own) → ⊥
  pub even : (m : ℕ) → Rose (entry.counts m).even (now.counts m).even → ⊥
  pub odd : (m : ℕ) → Rose (entry.counts m).odd (now.counts m).odd → ⊥
  pub racks : (m : ℕ) → Rose ((entry.counts m).rack None) ((now.counts m).rack None) → ⊥

-- the run didn't end for a failing source, sink or shelf
pub record EndsUnfailing (status : Status) : Type 0 where
  pub source : status ≢ SourceFault
  pub sink : status ≢ SinkFault
  pub shelf : status ≢ ShelfFault
