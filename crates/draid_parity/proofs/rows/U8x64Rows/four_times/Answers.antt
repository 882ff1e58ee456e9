use Rattle.std.proofs.Common.{◌∙◌}
use Rattle.draid_gf.specs.Field.{field_product}
use Rattle.draid_parity.proofs.RowLemmas.{halves_mapped}
use Rattle.draid_parity.proofs.rows.U8x64Rows.four_times.Goals as goal

pub returns : goal.returns
returns c =
    c.joined.ensures
    ∙ halves_mapped (field_product 4) c.args.self c.first_half.result c.second_half.result c.four_times.result c.four_times-2.result
    c.fits-self.0 c.first_half.ensures c.second_half.ensures c.four_times.ensures c.four_times-2.ensures
