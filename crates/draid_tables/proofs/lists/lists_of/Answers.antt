use Rattle.std.proofs.Common.{◌∙◌, Some, ap, arith, subst, sym}
use Rattle.std.proofs.lemmas.Option.{slice_get-get_or}
use Rattle.draid_tables.specs.Lists.{ListsNumbers, commands_of}
use Rattle.draid_tables.proofs.Listing.{lane_lists, lists_end, lists_next}
use Rattle.draid_tables.proofs.lists.lists_of.Goals as goal

pub loop-lane-preserved : goal.loop-lane-preserved
loop-lane-preserved c =
    let lanes = c.args.lanes.now in
    let lane = c.loop-lane.lane in
    let lines = c.index-lanes-lane.result in
    let list = c.in_ok-list_of.field-0 in
    record {
      lists = lists_next lanes lane c.loop-lane.lists.items lines list c.loop-lane.invariant.lists
          (slice_get-get_or lanes lane lines c.loop-lane-test.true ∙ ap Some (sym c.index-lanes-lane.is))
          (subst (λ ls. ListsNumbers lane (commands_of ls) list.items) c.deref.ensures.value c.in_ok-list_of.ensures) c.push_reserved.new.self.items c.push_reserved.ensures.items;
      room = (let room = c.loop-lane.invariant.room in let same = c.push_reserved.ensures.capacity in omega (arith, room, same));
    }

pub returns-clause-lists : goal.returns-clause-lists
returns-clause-lists c =
    let end = c.loop-lane.auto.lane-end in
    let out = c.loop-lane-test.false in
    lane_lists c.args.lanes.now c.loop-lane.lists.items c.requires.few c.requires.range c.requires.apart c.requires.one
    (lists_end c.args.lanes.now c.loop-lane.lane c.loop-lane.lists.items c.loop-lane.invariant.lists (omega (arith, end, out)))
