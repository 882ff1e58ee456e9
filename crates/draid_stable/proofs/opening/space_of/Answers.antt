use Rattle.std.proofs.Common.{◌≡◌, ◌∙◌, All, map, subst, sym}
use Rattle.draid_spec.specs.Geometry.{metaslab_stripes}
use Rattle.draid_metaslab.specs.Spaces.{IsSpan}
use Rattle.draid_ranges.specs.declared.run.Run.{Run}
use Rattle.draid_stable.specs.Opening.{run_of}
use Rattle.draid_stable.proofs.Cut.{space_is, spans}
use Rattle.draid_stable.proofs.opening.space_of.Goals as goal

pub new-requires-clause-taken : goal.new-requires-clause-taken
new-requires-clause-taken c =
    let are : c.deref.result.now ≡ map run_of c.args.blocks.now = c.deref.ensures.value ∙ c.in_ok-runs.ensures in
    subst (All (λ (r : Run). IsSpan (metaslab_stripes c.args.geometry.now) r.first r.len)) (sym are) (spans (metaslab_stripes c.args.geometry.now) c.args.blocks.now c.requires.inside)

pub returns : goal.returns
returns c = space_is c.args.geometry.now c.args.blocks.now c.deref.result.now c.in_ok-new.field-0 (c.deref.ensures.value ∙ c.in_ok-runs.ensures) c.in_ok-new.ensures.free c.in_ok-new.ensures.sizes
    c.in_ok-new.ensures.held c.in_ok-new.ensures.enabled
