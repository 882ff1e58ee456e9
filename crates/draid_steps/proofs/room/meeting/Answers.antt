use Rattle.std.proofs.Common.{◌≡◌, ◌∙◌, ◌∷◌, ap, sym, subst}
use Rattle.draid_machine.specs.declared.names.Key.{Key}
use Rattle.draid_machine.specs.declared.names.Held.{Held}
use Rattle.draid_steps.specs.Room.{first_meeting}
use Rattle.draid_steps.proofs.Entries.{AreApart, AllLow, ordered_apart, head_low, tail_low, meeting_found, meeting_none, meeting_head, meeting_tail}
use Rattle.draid_steps.proofs.room.meeting.Goals as goal

pub loop-found-init : goal.loop-found-init
loop-found-init c =
    let at : c.into_iter-found-iterator.result ≡ c.args.held.now.entries = c.into_iter-found-iterator.ensures.into_iter_gives ∙ c.iter-found-items.ensures.rest in (
      ap (first_meeting c.args.first c.args.stripes) (sym at),
      subst AreApart (sym at) (ordered_apart c.args.held.now.entries c.iter-found-items.ensures.ordered),
      subst AllLow (sym at) c.requires.low,
    )

pub is_meeting-requires-clause-held : goal.is_meeting-requires-clause-held
is_meeting-requires-clause-held c = head_low (c.in-Some.field-0-0.now, c.in-Some.found.now) c.next.new.self (subst AllLow c.in-Some.ensures.steps c.loop-found.invariant.2)

pub returns-then-is_meeting-clause-some : goal.returns-then-is_meeting-clause-some
returns-then-is_meeting-clause-some c =
    meeting_found c.args.first c.args.stripes c.args.held.now.entries c.in-Some.found.now (ordered_apart c.args.held.now.entries c.iter-found-items.ensures.ordered)
    (c.loop-found.invariant.0 ∙ ap (first_meeting c.args.first c.args.stripes) c.in-Some.ensures.steps
    ∙ meeting_head c.args.first c.args.stripes (c.in-Some.field-0-0.now, c.in-Some.found.now) c.next.new.self (sym c.is_meeting.ensures ∙ c.if-is_meeting.true))

pub loop-found-preserved : goal.loop-found-preserved
loop-found-preserved c =
    let e : Key × Held = (c.in-Some.field-0-0.now, c.in-Some.found.now) in
    let apart : AreApart (e ∷ c.next.new.self) = subst AreApart c.in-Some.ensures.steps c.loop-found.invariant.1 in (
      c.loop-found.invariant.0 ∙ ap (first_meeting c.args.first c.args.stripes) c.in-Some.ensures.steps
          ∙ meeting_tail c.args.first c.args.stripes e c.next.new.self (sym c.is_meeting.ensures ∙ c.if-is_meeting.false),
      apart.1,
      tail_low e c.next.new.self apart (subst AllLow c.in-Some.ensures.steps c.loop-found.invariant.2),
    )

pub returns-clause-none : goal.returns-clause-none
returns-clause-none c = meeting_none c.args.first c.args.stripes c.args.held.now.entries (c.loop-found.invariant.0 ∙ ap (first_meeting c.args.first c.args.stripes) c.in-None.ensures.steps.0)
