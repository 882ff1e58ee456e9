use Rattle.std.proofs.Common.{◌∙◌, ap, arith, subst}
use Rattle.draid_section.specs.Opening.{AreRooms}
use Rattle.draid_tables.specs.Owns.{AreDealtOut, most_objects}
use Rattle.draid_section.proofs.lanes.make_plan.Goals as goal

pub returns-clause-planned : goal.returns-clause-planned
returns-clause-planned g c = record {
  groups = c.in_ok-groups_list.field-0;
  alone = c.in_ok-groups_list.ensures;
  lists_are = c.in_ok-push.ensures.items;
  rooms_are = subst (λ n. AreRooms n c.args.metaslabs c.in_ok-rooms.rooms.items) (c.len.ensures ∙ c.push.new.self.ok.0) c.in_ok-rooms.ensures;
  dealt = subst (λ ls. AreDealtOut c.args.own.now ls c.in_ok-owns.owns.items) c.deref.ensures.value c.in_ok-owns.ensures;
  room =
      let most = c.room_of.ensures ∙ ap (λ ls. most_objects ls c.args.metaslabs) c.deref-2.ensures.value in
      let enough = c.in_ok-reserve.ensures.ok in omega (arith, most, enough);
}
