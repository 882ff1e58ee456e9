use Rattle.std.proofs.Common.{◌≡◌, ◌||◌, ℕ, true, false, refl, subst}
use Rattle.draid_ranges.specs.Runs.{in_run}
use Rattle.draid_spacemap.specs.Records.{Records, is_allocated, is_allocated_by}
use Rattle.draid_spacemap.proofs.Applied.{allocated_more}
use Rattle.draid_spacemap.proofs.map.SpaceMap.alloc.Goals as goal

pub returns-clause-ok : goal.returns-clause-ok
returns-clause-ok c =
    let P : Records → Type 0 = λ m. (x : ℕ) → is_allocated_by false c.push.new.self.items x ≡ (is_allocated m x || in_run c.args.run x) in
    subst P c.self.view_is (allocated_more c.self.inside.records.items c.push.new.self.items (record { run = c.args.run; allocates = true }) refl c.in_ok-push.ensures.items)
