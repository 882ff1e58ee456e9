-- What has failed on an area of a pool, or on a rack as a whole, shows on the shelf to which its devices were given.
use Rattle.std.proofs.Common.{◌≡◌, ◌∙◌, inl, inr, arith, ap, ℕ, Option, None}
use Rattle.draid_rack.specs.declared.Rack as racks
use Rattle.draid_area.specs.declared.Area as areas
use Rattle.draid_shelf.specs.Kits.{CheckCounts, Held, KitCounts}
use Rattle.draid_uber.specs.Checks.{count_in}
use Rattle.draid_uber.specs.declared.areas.Areas.{Areas}
use Rattle.draid_uber.specs.Uber.{count_of}
use Rattle.draid_pool.specs.Returning.{OwnCounts, Returns, AreaFailed, RackFailed, own_count}
use Rattle.draid_pool.specs.Failing.{AreaFails, RackFails}
use Rattle.draid_pool.specs.declared.pool.Pool.{Pool}

-- the counts of areas that were given
pub own_given : {A : Type 0} (faults : A → ℕ) (areas : Areas A) (uber : ℕ) (checks : CheckCounts) → uber ≡ faults areas.uber → checks ≡ record { even = faults areas.even; odd = faults areas.odd }
    → own_count (record { uber = uber; checks = checks }) ≡ count_in faults areas
own_given faults areas uber checks is are = λ i. own_count (record { uber = is i; checks = are i })

pub shows_there : {R A : Type 0} (rack : racks.Ghosts R) (area : areas.Ghosts A) (pool : Pool R A) (told mid : Option Held) (before after new : ℕ → KitCounts) (own : OwnCounts) → Returns rack area pool.metaslabs.shards.items told mid before after
    → ((m : ℕ) → new m ≡ after m) → own_count own ≡ count_of area.faults pool.uber → AreaFails area.faults pool → AreaFailed new own
shows_there rack area pool told mid before after new own returns same uber failed = elim failed [
  | inl some ↦ inr (omega (arith, uber, some))
  | inr at ↦
      let even = ap (λ (k : KitCounts). k.even) (same at.0) ∙ returns.even_count at.0 at.1 at.2 in
      let odd = ap (λ (k : KitCounts). k.odd) (same at.0) ∙ returns.odd_count at.0 at.1 at.2 in
      let some = at.3 in
      inl (at.0, omega (arith, even, odd, some))
]

pub racks_there : {R A : Type 0} (rack : racks.Ghosts R) (area : areas.Ghosts A) (pool : Pool R A) (told mid : Option Held) (before after new : ℕ → KitCounts) → Returns rack area pool.metaslabs.shards.items told mid before after
    → ((m : ℕ) → new m ≡ after m) → RackFails rack.faults pool → RackFailed new
racks_there rack area pool told mid before after new returns same at =
    let count = ap (λ (k : KitCounts). k.rack None) (same at.0) ∙ returns.rack_count at.0 at.1 None at.2 in
    let some = at.3 in
    (at.0, omega (arith, count, some))
