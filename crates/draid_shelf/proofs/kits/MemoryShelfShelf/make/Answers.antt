use Rattle.std.proofs.Common.{◌≡◌, Some, inl, option_map, ap, refl}
use Rattle.draid_area.specs.Memory.{size_of_memory}
use Rattle.draid_shelf.specs.Memory.{area_count, check_counts, held_by, kit_counts, shape_at}
use Rattle.draid_shelf.specs.declared.devices.Devices.{Devices}
use Rattle.draid_shelf.proofs.Holdings.{new_check_counts, new_counts, new_leaves, new_pool, new_uber_count, new_uber_size}
use Rattle.draid_shelf.proofs.Taken.{count_kept, count_risen, just_risen, lists_kept, plan_kept, refuses, same_count, succeeds}
use Rattle.draid_shelf.proofs.kits.MemoryShelfShelf.make.Goals as goal

pub returns-clause-told : goal.returns-clause-told
returns-clause-told c = new_pool c.args.geometry.now _ _ _ _ _ _ _ c.in_ok-devices.devices c.in_ok-devices.ensures

pub returns-clause-leaves : goal.returns-clause-leaves
returns-clause-leaves c = new_leaves c.args.geometry.now _ _ _ _ _ _ _ c.in_ok-devices.devices c.in_ok-devices.ensures

pub returns-clause-counts : goal.returns-clause-counts
returns-clause-counts c = new_counts c.args.geometry.now _ _ _ _ _ _ _ c.in_ok-devices.devices c.in_ok-devices.ensures

pub returns-clause-check_counts : goal.returns-clause-check_counts
returns-clause-check_counts c = new_check_counts c.args.geometry.now _ _ _ _ _ _ _ c.in_ok-devices.devices c.in_ok-devices.ensures

pub returns-clause-uber_count : goal.returns-clause-uber_count
returns-clause-uber_count c = new_uber_count c.args.geometry.now _ _ _ _ _ _ _ c.in_ok-devices.devices c.in_ok-devices.ensures

pub returns-clause-uber : goal.returns-clause-uber
returns-clause-uber c = new_uber_size c.args.geometry.now _ _ _ _ _ _ _ c.in_ok-devices.devices c.in_ok-devices.ensures

pub returns-clause-all : goal.returns-clause-all
returns-clause-all c = c.in_ok-devices.ensures

pub returns-clause-plan : goal.returns-clause-plan
returns-clause-plan c = record { rule = refl; lists = lists_kept c.args.self.now.calls c.fails.new.self c.args.self.now.plan c.fails.ensures.failing; fuse = refl }

pub returns-clause-cause : goal.returns-clause-cause
returns-clause-cause c = count_kept _ _

pub returns-clause-risen : goal.returns-clause-risen
returns-clause-risen c = same_count _ _

pub returns-clause-exact : goal.returns-clause-exact
returns-clause-exact c = succeeds _ _ _ _ c.if-fails.ensures tt

pub returns-then-fails : goal.returns-then-fails
returns-then-fails c =
    let e = c.failed.ensures in
    let same : c.failed.new.self.devices ≡ c.args.self.now.devices = e.devices in
    record {
      told = tt;
      leaves = tt;
      uber = tt;
      counts = tt;
      check_counts = tt;
      uber_count = tt;
      err = ap (λ (d : Devices). Some (held_by d)) same;
      err_leaves = λ m. ap (λ (d : Devices). shape_at d.racks m) same;
      err_uber = ap (λ (d : Devices). option_map size_of_memory d.uber) same;
      err_counts = λ m. ap (λ (d : Devices). kit_counts d m) same;
      err_check_counts = ap (λ (d : Devices). check_counts d) same;
      err_uber_count = ap (λ (d : Devices). area_count d.uber) same;
      all = tt;
      kept = same;
      plan = plan_kept c.args.self.now c.failed.new.self c.fails.new.self e.rule e.plan e.calls c.fails.ensures.failing;
      cause = count_risen _ _ _ _ refl e.rose e.later;
      risen = just_risen _ _ _ _ e.fault refl e.risen;
      exact = refuses _ c.failed.result c.fails.result c.args.self.now.calls c.fails.new.self c.failed.new.self.calls e.fault c.args.self.now.unfused c.fails.ensures e.calls (inl c.if-fails.true);
    }
