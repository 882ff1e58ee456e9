use Rattle.std.proofs.Common.{◌<◌, ◌^◌, ℕ, subst, sym, arith}
use Rattle.byteorder.specs.Numbers.{big_from-lt}
use Rattle.draid_record.proofs.reader.first_number.Goals as goal

pub returns-clause-small : goal.returns-clause-small
returns-clause-small c =
    let P : ℕ → Type 0 = λ n. n < 256 ^ c.args.width in
    subst P (sym c.read_uint.ensures) (big_from-lt 0 c.args.width c.args.bytes.now (λ i. omega (arith, c.type_inv.bytes i)))
