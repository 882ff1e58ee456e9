use Rattle.std.proofs.Common.{◌≤◌, ◌*◌, arith}
use Rattle.std.proofs.Math.Nat.{mul-le-mul}
use Rattle.draid_spec.proofs.numbers.total_sectors.Goals as goal

pub overflow_mul-result-3 : goal.overflow_mul-result-3
overflow_mul-result-3 c =
    let metaslabs : c.from.result ≤ 64 = omega arith in
    let slices : c.from-2.result ≤ 1024 = omega arith in
    let rows : c.from-3.result ≤ 64 = omega arith in
    let height : c.from-4.result ≤ 4096 = omega arith in
    let all : c.from.result * c.from-2.result * c.from-3.result * c.from-4.result ≤ 64 * 1024 * 64 * 4096
    = mul-le-mul (mul-le-mul (mul-le-mul metaslabs slices) rows) height in
    omega arith
