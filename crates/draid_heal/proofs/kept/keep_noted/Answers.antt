use Rattle.std.proofs.Common.{rules, ◌∙◌, List, ap, sym}
use Rattle.std.specs.List.{list_any}
use Rattle.std.proofs.lemmas.Fn.{filter_same}
use Rattle.draid_machine.specs.declared.event.Patched.{Patched}
use Rattle.draid_heal.specs.Lands.{is_noted}
use Rattle.draid_heal.proofs.Noted.{none_noted}
use Rattle.draid_heal.proofs.kept.keep_noted.Goals as goal

pub returns-then-has_noted : goal.returns-then-has_noted
returns-then-has_noted c = filter_same _ is_noted _ (λ x b f' k. search rules) _ _ c.retain.ensures.filtered

pub returns : goal.returns
returns c = c.clear.ensures.items ∙ sym (none_noted c.args.patched.now.items (ap (λ (xs : List Patched). list_any is_noted xs) (sym c.deref.ensures.value) ∙ sym c.has_noted.ensures ∙ c.if-has_noted.false))
