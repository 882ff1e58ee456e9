use Rattle.std.proofs.lemmas.Bool.{true≢false}
use Rattle.std.proofs.Common.{◌∙◌, ◌||◌, Bool, ap, sym}
use Rattle.std.specs.List.{list_any}
use Rattle.draid_machine.specs.declared.names.Key.{Key}
use Rattle.draid_machine.specs.declared.names.Held.{Held}
use Rattle.draid_steps.proofs.Entries.{ordered_apart}
use Rattle.draid_images.specs.Seals.{is_written}
use Rattle.draid_images.proofs.Anyone.{any_held, no_held}
use Rattle.draid_images.proofs.seals.has_written.Goals as goal

pub returns-then-is_written_block-clause-yes : goal.returns-then-is_written_block-clause-yes
returns-then-is_written_block-clause-yes c = λ e.
    let test : Key × Held → Bool = λ x. is_written c.args.group x.1 in
    any_held (is_written c.args.group) c.args.held.now.entries (ordered_apart c.args.held.now.entries c.iter-found-items.ensures.ordered)
    (c.loop-found.invariant ∙ ap (list_any test) c.in-Some.ensures.steps ∙ ap (λ b. b || list_any test c.next.new.self) (sym c.is_written_block.ensures ∙ c.if-is_written_block.true))

pub returns-clause-no : goal.returns-clause-no
returns-clause-no c = λ e.
    let test : Key × Held → Bool = λ x. is_written c.args.group x.1 in
    no_held (is_written c.args.group) c.args.held.now.entries (c.loop-found.invariant ∙ ap (list_any test) c.in-None.ensures.steps.0)

pub returns-then-is_written_block-clause-no : goal.returns-then-is_written_block-clause-no
returns-then-is_written_block-clause-no c = λ e. absurd (true≢false e)

pub returns-clause-yes : goal.returns-clause-yes
returns-clause-yes c = λ e. absurd (true≢false (sym e))
