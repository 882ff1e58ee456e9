-- The layout that an uberblock has, but for its version.
use Rattle.std.proofs.Common.{◌≡◌, ◌∙◌, ap, sym}
use Rattle.draid_spec.specs.declared.layout.Geometry.{Geometry}
use Rattle.draid_uber.specs.Uber as ubers
use Rattle.draid_uber.specs.declared.uber.Uber.{Uber}

pub layout_again : (old new pool after : Geometry) → new ≡ old → after ≡ pool → ubers.layout_in old pool.props.version ≡ pool → ubers.layout_in new after.props.version ≡ after
layout_again old new pool after same geometry is = (λ i. ubers.layout_in (same i) (geometry i).props.version) ∙ (is ∙ sym geometry)

pub same_uber_layout : {A : Type 0} (old new : Uber A) (pool after : Geometry) → new ≡ old → after ≡ pool → ubers.layout_in (ubers.layout_of old) pool.props.version ≡ pool
    → ubers.layout_in (ubers.layout_of new) after.props.version ≡ after
same_uber_layout old new pool after same geometry is = layout_again (ubers.layout_of old) (ubers.layout_of new) pool after (ap (λ u. ubers.layout_of u) same) geometry is
