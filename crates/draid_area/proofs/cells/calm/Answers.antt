use Rattle.std.proofs.Common.{◌∙◌, ap, rules, ◌≡◌, false, length, slice_index_or, if◌then◌else◌}
use Rattle.draid_area.specs.Area.{within}
use Rattle.draid_area.proofs.Clocks.{calmed}
use Rattle.draid_area.proofs.cells.calm.Goals as goal

pub returns-clause-none : goal.returns-clause-none
returns-clause-none c =
    let torn = c.args.torn.now.items in
    let size : c.len-len.result ≡ length torn = search rules in
    λ i. c.mark.ensures.here i false ∙ (ap (λ n. if within 0 n i then false else slice_index_or torn i false) size ∙ calmed torn i)
