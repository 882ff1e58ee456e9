use Rattle.std.proofs.Common.{◌∙◌, ap, map, ◌∷◌, []}
use Rattle.std.proofs.lemmas.List.{map-append}
use Rattle.serde_json.specs.View.{items_of, view}
use Rattle.serde_json.specs.Data.{array}
use Rattle.serde_json.proofs.Views.{view-Array}
use Rattle.draid_report.specs.Tree.{metaslabs_tree}
use Rattle.draid_report.proofs.Enumerated.{value_more, whole}
use Rattle.draid_report.proofs.json.metaslab_values.Goals as goal

pub loop-number-preserved : goal.loop-number-preserved
loop-number-preserved c =
    value_more _ _ _ _ _ _ _ c.loop-number-test.true c.loop-number.invariant c.in_ok-metaslab_value.ensures
    (ap (λ values. map view values) c.in_ok-push.ensures.items ∙ map-append view c.loop-number.values.items (c.in_ok-metaslab_value.field-0 ∷ []))

pub returns : goal.returns
returns c =
    view-Array c.loop-number.values
    ∙ ap (λ values. array (items_of values)) c.loop-number.invariant
    ∙ ap metaslabs_tree (whole _ _ c.loop-number-test.false)
