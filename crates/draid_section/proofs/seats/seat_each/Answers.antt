use Rattle.std.proofs.Common.{◌∙◌, ◌++◌, ◌≡◌, arith, ap, length, refl, rules}
use Rattle.std.proofs.lemmas.List.{length_push}
use Rattle.std.specs.Prelude.{option_to_list}
use Rattle.draid_section.proofs.Sitting.{is_left, room_left, seating_at, seating_done, seating_more, seating_start}
use Rattle.draid_section.proofs.seats.seat_each.Goals as goal

pub lanes-init : goal.lanes-init
lanes-init g c = record {
  seating = seating_start c.args.turns.now c.args.uber.now c.args.geometry c.args.shares.now c.args.passes.now.items c.args.seats.items c.requires.even c.requires.none;
  capacity = refl;
  owns = refl;
  jobs = refl;
  ubers = refl;
  room = refl;
}

pub unwrap-own-requires : goal.unwrap-own-requires
unwrap-own-requires g c =
    let some = ap length c.in-Some.ensures.items ∙ length_push c.pop.new.self.items c.in-Some.held in
    let even = c.lanes.invariant.seating.even.owns in
    let is = c.lanes.shares.owns.ok.0 in c.pop-in-Some.ensures.variant.1 (omega (arith, some, even, is))

pub unwrap-job-requires : goal.unwrap-job-requires
unwrap-job-requires g c =
    let some = ap length c.in-Some.ensures.items ∙ length_push c.pop.new.self.items c.in-Some.held in
    let even = c.lanes.invariant.seating.even.jobs in
    let is = c.lanes.shares.jobs.ok.0 in c.pop-in-Some-2.ensures.variant.1 (omega (arith, some, even, is))

pub unwrap-pass-requires : goal.unwrap-pass-requires
unwrap-pass-requires g c =
    let some = ap length c.in-Some.ensures.items ∙ length_push c.pop.new.self.items c.in-Some.held in
    let even = c.lanes.invariant.seating.even.ubers in
    let is = c.lanes.passes.ok.0 in c.pop-in-Some-3.ensures.variant.1 (omega (arith, some, even, is))

pub overflow_cast-metaslabs : goal.overflow_cast-metaslabs
overflow_cast-metaslabs g c =
    let some = ap length c.in-Some.ensures.items ∙ length_push c.pop.new.self.items c.in-Some.held in
    let many = c.lanes.invariant.seating.many in
    let few = c.requires.few in
    let long = c.len.ensures in
    let is = c.pop.new.self.ok.0 in omega (arith, some, many, few, long, is)

pub push_reserved-requires : goal.push_reserved-requires
push_reserved-requires g c =
    let some = ap length c.in-Some.ensures.items ∙ length_push c.pop.new.self.items c.in-Some.held in
    let many = c.lanes.invariant.seating.many in
    let room = c.requires.room in
    let same = c.lanes.invariant.room in
    let is = c.lanes.seats.ok.0 in omega (arith, some, many, room, same, is)

pub lanes-preserved : goal.lanes-preserved
lanes-preserved g c =
    let i = c.lanes.invariant in
    let owns = is_left c.lanes.shares.owns.items c.pop-in-Some.new.self.items c.unwrap-own.result (c.pop-in-Some.ensures.items ∙ ap (λ o. c.pop-in-Some.new.self.items ++ option_to_list o) c.unwrap-own.ensures) in
    let jobs = is_left c.lanes.shares.jobs.items c.pop-in-Some-2.new.self.items c.unwrap-job.result (c.pop-in-Some-2.ensures.items ∙ ap (λ o. c.pop-in-Some-2.new.self.items ++ option_to_list o) c.unwrap-job.ensures) in
    let ubers = is_left c.lanes.passes.items c.pop-in-Some-3.new.self.items c.unwrap-pass.result (c.pop-in-Some-3.ensures.items ∙ ap (λ o. c.pop-in-Some-3.new.self.items ++ option_to_list o) c.unwrap-pass.ensures) in
    let number : c.len.result ≡ length c.pop.new.self.items = (let long = c.len.ensures in let is = c.pop.new.self.ok.0 in omega (arith, long, is)) in
    let held = is_left c.lanes.shares.passes.items c.pop.new.self.items c.in-Some.held c.in-Some.ensures.items in
    record {
      seating = seating_more c.args.turns.now c.args.uber.now c.args.geometry c.args.shares.now c.args.passes.now.items c.lanes.shares _ c.lanes.passes.items c.pop-in-Some-3.new.self.items c.lanes.seats.items i.seating c.unwrap-job.result _ held owns jobs ubers
          (record { turns = refl; uber_is = refl; geometry_is = refl }) number c.push_reserved.new.self.items c.push_reserved.ensures.items;
      capacity = c.pop.ensures.capacity ∙ i.capacity;
      owns = c.pop-in-Some.ensures.capacity ∙ i.owns;
      jobs = c.pop-in-Some-2.ensures.capacity ∙ i.jobs;
      ubers = c.pop-in-Some-3.ensures.capacity ∙ i.ubers;
      room = c.push_reserved.ensures.capacity ∙ i.room;
    }

pub returns-clause-seated : goal.returns-clause-seated
returns-clause-seated g c = seating_done c.args.turns.now c.args.uber.now c.args.geometry c.args.shares.now c.args.passes.now.items c.lanes.shares c.lanes.passes.items c.lanes.seats.items c.lanes.invariant.seating (search rules)

pub returns-clause-at : goal.returns-clause-at
returns-clause-at g c = seating_at c.args.turns.now c.args.uber.now c.args.geometry c.args.shares.now c.args.passes.now.items c.lanes.shares c.lanes.passes.items c.lanes.seats.items c.lanes.invariant.seating (search rules)

pub returns-clause-room : goal.returns-clause-room
returns-clause-room g c =
    let i = c.lanes.invariant in
    room_left c.args.turns.now c.args.uber.now c.args.geometry c.args.shares.now c.args.passes.now.items c.args.passes.now c.lanes.shares c.pop.new.self c.lanes.passes c.lanes.seats.items refl i.seating (search rules) (search rules) c.requires.even (c.pop.ensures.capacity ∙ i.capacity) i.owns i.jobs i.ubers
