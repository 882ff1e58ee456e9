use Rattle.std.specs.Prelude.{◌≡◌, ◌==◌, ◌+◌, ◌-◌, ◌≤◌, ℕ, nat_lt, Result, Ok, Err, if◌then◌else◌}
use Rattle.draid_spec.specs.declared.spec.Spec.{Spec}
use Rattle.draid_spec.specs.declared.spec.SpecFault.{SpecFault}
use Rattle.draid_spec.specs.declared.spec.SpecFault.TheVariants.{Width}

-- the columns of a stripe
abbrev pub need_of : Spec → ℕ
need_of spec = spec.parity + spec.ndata

-- the children that are there for them
abbrev pub have_of : Spec → ℕ
have_of spec = spec.children - spec.spares

-- the most children of a pool, by the version of its format
abbrev pub most_children : ℕ → ℕ
most_children version = if version == 1 then 32 else 64

-- a spec's numbers, apart from the width, are in range for a version: in version 1 there are at most 32 children
pub record IsSpec (version : ℕ) (spec : Spec) : Type 0 where
  pub some_parity : 1 ≤ spec.parity
  pub most_parity : spec.parity ≤ 3
  pub some_data : 1 ≤ spec.ndata
  pub most_data : spec.ndata ≤ 999999999
  pub some_children : 2 ≤ spec.children
  pub most_children : spec.children ≤ 64
  pub first_children : version ≡ 1 → spec.children ≤ 32
  pub most_spares : spec.spares ≤ 4

-- a stripe has at most a column for each child beside the spares
abbrev pub checked_width : Spec → Result Unit SpecFault
checked_width spec =
    if nat_lt (have_of spec) (need_of spec) then Err (Width (need_of spec) (have_of spec)) else Ok tt
