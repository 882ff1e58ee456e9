use Rattle.std.proofs.Common.{arith}
use Rattle.draid_visits.proofs.VisitEnds.{stripe_fits}
use Rattle.draid_visits.proofs.visits.stripe_of.Goals as goal

pub overflow_mul-result : goal.overflow_mul-result
overflow_mul-result c =
    let inside = c.requires.below in
    let most = c.requires.layout_is.props.most_metaslabs in
    let same = c.from.ensures in
    let fits = stripe_fits c.from.result c.metaslab_stripes.result 0 (omega (arith, inside, most, same)) c.metaslab_stripes.ensures.most (omega arith) in
    omega (arith, fits)

pub overflow_add-result : goal.overflow_add-result
overflow_add-result c =
    let inside = c.requires.below in
    let most = c.requires.layout_is.props.most_metaslabs in
    let same = c.from.ensures in
    let value = c.metaslab_stripes.ensures.value in
    let low = c.requires.inside in
    let fits = stripe_fits c.from.result c.metaslab_stripes.result c.args.stripe (omega (arith, inside, most, same)) c.metaslab_stripes.ensures.most (omega (arith, low, value)) in
    omega (arith, fits)
