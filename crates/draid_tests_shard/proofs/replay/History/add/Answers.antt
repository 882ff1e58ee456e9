use Rattle.std.proofs.Common.{All, List, sym, subst}
use Rattle.std.proofs.lemmas.List.Elements.{All-push}
use Rattle.draid_machine.specs.declared.event.Event.{Event}
use Rattle.draid_replay.specs.Within.{IsSmallEvent}
use Rattle.draid_tests_shard.proofs.replay.History.add.Goals as goal

abbrev are_small : List Event → Type 0
are_small events = All IsSmallEvent events

pub invariant_of-self : goal.invariant_of-self
invariant_of-self c = subst are_small (sym c.in_err-push.ensures.items) c.self.invariant

pub invariant_of-self-2 : goal.invariant_of-self-2
invariant_of-self-2 c = subst are_small (sym c.in_ok-push.ensures.items) (All-push IsSmallEvent c.self.inside.events.items c.args.event c.self.invariant c.requires)
