-- The columns for which a lend has room.
use Rattle.std.specs.Prelude.{◌≡◌, ◌+◌, length}
use Rattle.draid_parity.specs.Columns.{StripeValue}
use Rattle.draid_spec.specs.declared.layout.Geometry.{Geometry}

-- one sector of each column of a layout
pub record HasColumnsFor (geometry : Geometry) (columns : StripeValue) : Type 0 where
  pub parity : columns.parity ≡ geometry.spec.parity
  pub ndata : columns.ndata ≡ geometry.spec.ndata
  pub len : columns.len ≡ geometry.props.sector
  pub count : length columns.columns ≡ geometry.spec.parity + geometry.spec.ndata
