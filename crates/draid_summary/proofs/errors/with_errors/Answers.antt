use Rattle.std.proofs.Common.{◌+◌, ◌∙◌, rules}
use Rattle.std.proofs.lemmas.Iterator.Consumers.{YieldsList-at, YieldsList-from_filter_map, fold_from_yields_List}
use Rattle.std.proofs.lemmas.Iterator.Splits.{YieldsList-from_slice_split}
use Rattle.draid_script.specs.Word.{is_space}
use Rattle.draid_summary.specs.Summary.{capped, error_count, error_counts}
use Rattle.draid_summary.proofs.Tallying.{added_up}
use Rattle.draid_summary.proofs.errors.with_errors.Goals as goal

pub returns : goal.returns
returns c =
    fold_from_yields_List _ (λ a n. capped (a + n)) c.args.before _ c.fold.ensures.ran
    (YieldsList-from_filter_map _ error_count (YieldsList-at c.filter_map.ensures.source (YieldsList-from_slice_split _ is_space c.args.line.now c.split.ensures.rest c.split.ensures.done c.split.ensures.closure (λ x b q k. search rules)))
    c.filter_map.ensures.closure (λ x r q k. search rules))
    (λ a x b q k. search rules)
    ∙ added_up (error_counts c.args.line.now) c.args.before c.ranges.before.fits
