use Rattle.std.proofs.Common.{◌∙◌, ap, not, rules}
use Rattle.std.proofs.lemmas.Fn.{filter_same}
use Rattle.draid_machine.specs.declared.names.Segment.{Segment}
use Rattle.draid_machine.specs.Names.{key_eq, has_segment}
use Rattle.draid_world.proofs.Maps.{kept_segments, same_keys}
use Rattle.draid_world.proofs.tables.forget_segments.Goals as goal

pub returns : goal.returns
returns c = λ s. (ap (λ ks. has_segment ks s) (filter_same _ (λ (t : Segment). not (key_eq c.args.key t.key)) _ (λ x b f' k. search rules) _ _ c.retain.ensures.filtered)
    ∙ kept_segments (λ (t : Segment). not (key_eq c.args.key t.key)) c.args.segments.now.keys s (λ t e. same_keys c.args.key t s e))
