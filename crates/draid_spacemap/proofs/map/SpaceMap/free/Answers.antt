use Rattle.std.proofs.Common.{◌≡◌, ◌&&◌, not, ℕ, false, refl, subst}
use Rattle.draid_ranges.specs.Runs.{in_run}
use Rattle.draid_spacemap.specs.Records.{Records, is_allocated, is_allocated_by}
use Rattle.draid_spacemap.proofs.Applied.{freed_more}
use Rattle.draid_spacemap.proofs.map.SpaceMap.free.Goals as goal

pub returns-clause-ok : goal.returns-clause-ok
returns-clause-ok c =
    let P : Records → Type 0 = λ m. (x : ℕ) → is_allocated_by false c.push.new.self.items x ≡ (is_allocated m x && not (in_run c.args.run x)) in
    subst P c.self.view_is (freed_more c.self.inside.records.items c.push.new.self.items (record { run = c.args.run; allocates = false }) refl c.in_ok-push.ensures.items)
