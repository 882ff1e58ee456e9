use Rattle.std.proofs.Common.{rules, ◌≡◌}
use Rattle.std.specs.Prelude.{replicate}
use Rattle.draid_tests_devices.proofs.Areas.{zeros_new}
use Rattle.draid_tests_devices.proofs.uber.zeros.Goals as goal

pub returns-clause-new : goal.returns-clause-new
returns-clause-new c =
    let zeros : c.in_ok-bytes.bytes.items ≡ replicate 1024 0 = search rules in
    zeros_new _ c.in_ok-bytes.bytes.items c.in_ok-new.ensures.told zeros
