use Rattle.std.proofs.Common.{◌∙◌, ap, length}
use Rattle.std.specs.Option.{is_some}
use Rattle.draid_section.proofs.Sitting.{front_last, is_left, rising_more}
use Rattle.draid_section.proofs.seats.rise_each.Goals as goal

pub unwrap-metaslabs-requires : goal.unwrap-metaslabs-requires
unwrap-metaslabs-requires g c =
    let left = is_left c.seats.seats.items c.pop.new.self.items c.in-Some.seat c.in-Some.ensures.items in
    let lane = c.requires.taken (length c.pop.new.self.items) c.in-Some.seat (front_last c.args.seats.items c.seats.seats.items c.pop.new.self.items c.in-Some.seat c.seats.invariant.rising.front left) in ap is_some lane.1

pub seats-preserved : goal.seats-preserved
seats-preserved g c =
    let i = c.seats.invariant in
    let left = is_left c.seats.seats.items c.pop.new.self.items c.in-Some.seat c.in-Some.ensures.items in
    record {
      rising = rising_more c.args.seats.items c.seats.seats.items c.pop.new.self.items c.seats.shares _ c.seats.passes.items _ i.rising c.in-Some.seat left c.unwrap-metaslabs.result c.unwrap-metaslabs.ensures c.push_reserved.ensures.items c.push_reserved-in-Some.ensures.items
          c.push_reserved-in-Some-2.ensures.items c.push_reserved-in-Some-3.ensures.items;
      capacity = c.push_reserved.ensures.capacity ∙ i.capacity;
      owns = c.push_reserved-in-Some.ensures.capacity ∙ i.owns;
      jobs = c.push_reserved-in-Some-2.ensures.capacity ∙ i.jobs;
      ubers = c.push_reserved-in-Some-3.ensures.capacity ∙ i.ubers;
    }
