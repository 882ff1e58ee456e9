use Rattle.std.proofs.Common.{◌<◌, arith}
use Rattle.draid_spec.proofs.Readings.{next_digit_fits}
use Rattle.draid_spec.proofs.text.Digits.with.Goals as goal

pub overflow_mul-result : goal.overflow_mul-result
overflow_mul-result c =
    let small : c.args.self.value < 100000000 = next_digit_fits _ _ c.requires.count c.requires.value in
    omega arith

pub overflow_add-result-2 : goal.overflow_add-result-2
overflow_add-result-2 c =
    let small : c.args.self.value < 100000000 = next_digit_fits _ _ c.requires.count c.requires.value in
    omega arith
