use Rattle.draid_tests_devices.proofs.Sample.{sample_ranged}
use Rattle.draid_tests_devices.proofs.record.uber.Goals as goal

pub write_uber-requires : goal.write_uber-requires
write_uber-requires c = sample_ranged c.body.result c.body.ensures
