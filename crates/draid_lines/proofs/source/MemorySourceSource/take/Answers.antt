use Rattle.std.proofs.Common.{ap, drop, ◌∙◌}
use Rattle.draid_lines.specs.Source.{SourceState}
use Rattle.draid_lines.proofs.Copies.{front_copied}
use Rattle.draid_lines.proofs.source.MemorySourceSource.take.Goals as goal

pub returns-clause-bytes : goal.returns-clause-bytes
returns-clause-bytes c =
    front_copied c.self.inside.bytes.items c.args.self.now.left _ _ _ c.self.inside.start _
    (ap (λ (state : SourceState). state.left) c.self.view_is)
    (c.split_at.ensures.back ∙ ap (drop c.self.inside.start) c.deref-2.ensures.value)
    c.copy_front-taken.ensures.count c.copy_front-taken.ensures.copied
