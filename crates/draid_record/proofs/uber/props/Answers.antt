use Rattle.std.proofs.Common.{refl}
use Rattle.draid_spec.specs.Spec.{IsSpec}
use Rattle.draid_record.proofs.Steps.{check_if, check_then, done, kept, number_then}
use Rattle.draid_record.proofs.uber.props.Goals as goal

pub is_layout-requires : goal.is_layout-requires
is_layout-requires c =
    let S = IsSpec c.args.version c.args.spec in
    kept S _ _ _ _ c.number-slices.ensures.reads (kept S _ _ _ _ c.number-metaslabs.ensures.reads (kept S _ _ _ _ c.check-2.ensures (kept S _ _ _ _ c.number-height.ensures.reads
    (kept S _ _ _ _ c.check.ensures (kept S _ _ _ _ c.number-sector.ensures.reads c.requires)))))

pub returns : goal.returns
returns c =
    number_then 4 _ _ _ _ _ _ _ _ _ _ refl refl c.number-sector.ensures.reads
    (check_then _ _ 4 _ _ _ _ _ c.is_sector.ensures c.check.ensures
    (number_then 4 _ _ _ _ _ _ _ _ _ _ refl refl c.number-height.ensures.reads
    (check_then _ _ 4 _ _ _ _ _ c.is_power_of_two.ensures c.check-2.ensures
    (number_then 4 _ _ _ _ _ _ _ _ _ _ refl refl c.number-metaslabs.ensures.reads
    (number_then 4 _ _ _ _ _ _ _ _ _ _ refl refl c.number-slices.ensures.reads
    (check_if _ _ 4 _ _ _ _ _ c.is_layout.ensures c.check-3.ensures
    (number_then 8 _ _ _ _ _ _ _ _ _ _ refl refl c.number.ensures.reads (done _ _))))))))
