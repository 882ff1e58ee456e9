use Rattle.std.proofs.Common.{◌∙◌, ◌++◌, ◌∷◌, ◌≤◌, ◌+◌, [], All, IfOk, ap, arith, length, refl, subst, sym}
use Rattle.std.specs.Prelude.{option_to_list}
use Rattle.std.proofs.lemmas.List.{length_push}
use Rattle.draid_turn.specs.Lists.{one_if}
use Rattle.draid_turn.specs.Numbers.{holds}
use Rattle.draid_holds.specs.Passes.{holders}
use Rattle.draid_lanes.specs.Ubers.{IsUberOf}
use Rattle.draid_section.specs.Opening.{AreDealt, AreUnlocked, BelongTo, passes_at}
use Rattle.draid_section.specs.Section.{MayRunUnder, RunsUnder}
use Rattle.draid_section.proofs.Idle.{err_map, ok_map}
use Rattle.draid_section.proofs.Kept.{all_belong, all_held, dealt_groups, groups_room, have_behind, same_shards}
use Rattle.draid_section.proofs.section.run_locked.Goals as goal

pub run_under-uber-requires-clause-uber : goal.run_under-uber-requires-clause-uber
run_under-uber-requires-clause-uber g c κs within =
    let turns = c.deref.ensures.value in
    let deals = subst (λ ls. AreDealt ls c.args.numbers.now c.deal_each-passes.result.items c.deal_each-passes.new.firsts.items) turns c.deal_each-passes.ensures in
    let shared = c.pop.ensures.items ∙ ap (λ o. c.pop.new.self.items ++ option_to_list o) c.unwrap-groups.ensures in
    subst (λ ls. IsUberOf g.R.Rack g.A.Area ls c.args.uber c.unwrap-groups.result) (sym c.deref-2.ensures.value)
    (c.requires.governs c.unwrap-groups.result (dealt_groups c.args.made.turns.items c.args.numbers.now c.deal_each-passes.result.items c.deal_each-passes.new.firsts.items c.unwrap-groups.result (record { passes = c.pop.new.self; owns = c.args.owns; jobs = c.args.jobs }) deals shared (length c.args.owns.items) c.requires.groups) (groups_room c.args.made.turns.items c.args.numbers.now c.deal_each-passes.result.items c.deal_each-passes.new.firsts.items c.unwrap-groups.result (record { passes = c.pop.new.self; owns = c.args.owns; jobs = c.args.jobs }) deals shared (length c.args.owns.items) c.requires.groups))

pub run_under-uber-requires-clause-may : goal.run_under-uber-requires-clause-may
run_under-uber-requires-clause-may g c κs within =
    let turns = c.deref.ensures.value in
    let deals = subst (λ ls. AreDealt ls c.args.numbers.now c.deal_each-passes.result.items c.deal_each-passes.new.firsts.items) turns c.deal_each-passes.ensures in
    let shared = c.pop.ensures.items ∙ ap (λ o. c.pop.new.self.items ++ option_to_list o) c.unwrap-groups.ensures in
    subst (λ ls. MayRunUnder g.R.Rack g.A.Area g.J.LaneJob.needs c.args.geometry ls c.args.uber c.unwrap-groups.result (record { passes = c.pop.new.self; owns = c.args.owns; jobs = c.args.jobs })) (sym c.deref-2.ensures.value)
    (c.requires.may c.deal_each-passes.result.items c.deal_each-passes.new.firsts.items c.unwrap-groups.result (record { passes = c.pop.new.self; owns = c.args.owns; jobs = c.args.jobs }) deals shared refl refl)

pub push_reserved-requires : goal.push_reserved-requires
push_reserved-requires g c =
    let turns = c.deref.ensures.value in
    let deals = subst (λ ls. AreDealt ls c.args.numbers.now c.deal_each-passes.result.items c.deal_each-passes.new.firsts.items) turns c.deal_each-passes.ensures in
    let shared = c.pop.ensures.items ∙ ap (λ o. c.pop.new.self.items ++ option_to_list o) c.unwrap-groups.ensures in
    let turns_then = c.deref-2.ensures.value in
    let may = c.requires.may c.deal_each-passes.result.items c.deal_each-passes.new.firsts.items c.unwrap-groups.result (record { passes = c.pop.new.self; owns = c.args.owns; jobs = c.args.jobs }) deals shared refl refl in
    let ran = subst (λ ls. IfOk c.run_under-uber.result.2 (λ _. RunsUnder g.R.Rack g.A.Area g.J.LaneJob.relates c.args.geometry ls c.args.uber c.unwrap-groups.result (record { passes = c.pop.new.self; owns = c.args.owns; jobs = c.args.jobs }) c.run_under-uber.new.shares c.run_under-uber.result.0 c.run_under-uber.result.1)) turns_then c.run_under-uber.ensures.ran in
    let have = have_behind g.R.Rack g.A.Area g.J.LaneJob.needs g.J.LaneJob.relates c.args.geometry c.args.made.turns.items c.args.uber c.args.numbers.now c.deal_each-passes.result.items c.deal_each-passes.new.firsts.items c.unwrap-groups.result (record { passes = c.pop.new.self; owns = c.args.owns; jobs = c.args.jobs }) deals shared may c.requires.keeps c.run_under-uber.new.shares c.run_under-uber.result.0
    c.run_under-uber.result.1 c.run_under-uber.result.2 (length c.args.owns.items) c.requires.groups ran c.run_under-uber.ensures.refused in
    let many = have.many in
    let pushed = length_push c.run_under-uber.new.shares.passes.items c.run_under-uber.result.1 in
    let is = c.run_under-uber.new.shares.passes.ok.0 in
    let room = c.run_under-uber.ensures.room in
    let same = c.pop.ensures.capacity in
    let all = deals.many in
    let long = c.deal_each-passes.result.ok.0 in
    let most = c.deal_each-passes.result.ok.1 in omega (arith, many, pushed, is, room, same, all, long, most)

pub unlock_each-shards-requires-clause-fits_lanes : goal.unlock_each-shards-requires-clause-fits_lanes
unlock_each-shards-requires-clause-fits_lanes g c =
    let turns = c.deref.ensures.value in
    let deals = subst (λ ls. AreDealt ls c.args.numbers.now c.deal_each-passes.result.items c.deal_each-passes.new.firsts.items) turns c.deal_each-passes.ensures in
    let shared = c.pop.ensures.items ∙ ap (λ o. c.pop.new.self.items ++ option_to_list o) c.unwrap-groups.ensures in
    let turns_then = c.deref-2.ensures.value in
    let may = c.requires.may c.deal_each-passes.result.items c.deal_each-passes.new.firsts.items c.unwrap-groups.result (record { passes = c.pop.new.self; owns = c.args.owns; jobs = c.args.jobs }) deals shared refl refl in
    let ran = subst (λ ls. IfOk c.run_under-uber.result.2 (λ _. RunsUnder g.R.Rack g.A.Area g.J.LaneJob.relates c.args.geometry ls c.args.uber c.unwrap-groups.result (record { passes = c.pop.new.self; owns = c.args.owns; jobs = c.args.jobs }) c.run_under-uber.new.shares c.run_under-uber.result.0 c.run_under-uber.result.1)) turns_then c.run_under-uber.ensures.ran in
    let have = have_behind g.R.Rack g.A.Area g.J.LaneJob.needs g.J.LaneJob.relates c.args.geometry c.args.made.turns.items c.args.uber c.args.numbers.now c.deal_each-passes.result.items c.deal_each-passes.new.firsts.items c.unwrap-groups.result (record { passes = c.pop.new.self; owns = c.args.owns; jobs = c.args.jobs }) deals shared may c.requires.keeps c.run_under-uber.new.shares c.run_under-uber.result.0
    c.run_under-uber.result.1 c.run_under-uber.result.2 (length c.args.owns.items) c.requires.groups ran c.run_under-uber.ensures.refused in
    subst (λ ls. All (λ lane. BelongTo c.args.made.turns.items lane.items) ls) (sym c.push_reserved.ensures.items) (all_belong c.args.made.turns.items c.args.numbers.now (c.run_under-uber.new.shares.passes.items ++ c.run_under-uber.result.1 ∷ []) have)

pub unlock_each-shards-requires-clause-all : goal.unlock_each-shards-requires-clause-all
unlock_each-shards-requires-clause-all g c m first at n below =
    let turns = c.deref.ensures.value in
    let deals = subst (λ ls. AreDealt ls c.args.numbers.now c.deal_each-passes.result.items c.deal_each-passes.new.firsts.items) turns c.deal_each-passes.ensures in
    let shared = c.pop.ensures.items ∙ ap (λ o. c.pop.new.self.items ++ option_to_list o) c.unwrap-groups.ensures in
    let turns_then = c.deref-2.ensures.value in
    let may = c.requires.may c.deal_each-passes.result.items c.deal_each-passes.new.firsts.items c.unwrap-groups.result (record { passes = c.pop.new.self; owns = c.args.owns; jobs = c.args.jobs }) deals shared refl refl in
    let ran = subst (λ ls. IfOk c.run_under-uber.result.2 (λ _. RunsUnder g.R.Rack g.A.Area g.J.LaneJob.relates c.args.geometry ls c.args.uber c.unwrap-groups.result (record { passes = c.pop.new.self; owns = c.args.owns; jobs = c.args.jobs }) c.run_under-uber.new.shares c.run_under-uber.result.0 c.run_under-uber.result.1)) turns_then c.run_under-uber.ensures.ran in
    let have = have_behind g.R.Rack g.A.Area g.J.LaneJob.needs g.J.LaneJob.relates c.args.geometry c.args.made.turns.items c.args.uber c.args.numbers.now c.deal_each-passes.result.items c.deal_each-passes.new.firsts.items c.unwrap-groups.result (record { passes = c.pop.new.self; owns = c.args.owns; jobs = c.args.jobs }) deals shared may c.requires.keeps c.run_under-uber.new.shares c.run_under-uber.result.0
    c.run_under-uber.result.1 c.run_under-uber.result.2 (length c.args.owns.items) c.requires.groups ran c.run_under-uber.ensures.refused in
    subst (λ ls. 1 ≤ one_if (holds n first.numbers) + holders n (passes_at m ls)) (sym c.push_reserved.ensures.items)
    (all_held c.args.made.turns.items c.args.numbers.now c.deal_each-passes.result.items (c.run_under-uber.new.shares.passes.items ++ c.run_under-uber.result.1 ∷ []) c.deal_each-passes.new.firsts.items deals have m first at n below)

pub returns-clause-ran : goal.returns-clause-ran
returns-clause-ran g c =
    let turns = c.deref.ensures.value in
    let deals = subst (λ ls. AreDealt ls c.args.numbers.now c.deal_each-passes.result.items c.deal_each-passes.new.firsts.items) turns c.deal_each-passes.ensures in
    let shared = c.pop.ensures.items ∙ ap (λ o. c.pop.new.self.items ++ option_to_list o) c.unwrap-groups.ensures in
    let turns_then = c.deref-2.ensures.value in
    let ran = subst (λ ls. IfOk c.run_under-uber.result.2 (λ _. RunsUnder g.R.Rack g.A.Area g.J.LaneJob.relates c.args.geometry ls c.args.uber c.unwrap-groups.result (record { passes = c.pop.new.self; owns = c.args.owns; jobs = c.args.jobs }) c.run_under-uber.new.shares c.run_under-uber.result.0 c.run_under-uber.result.1)) turns_then c.run_under-uber.ensures.ran in
    let unlocked = subst (λ ls. AreUnlocked g.R.Rack g.A.Area c.args.made.turns.items c.deal_each-passes.new.firsts.items ls c.unlock_each-shards.result.items) c.push_reserved.ensures.items c.unlock_each-shards.ensures in
    ok_map c.run_under-uber.result.2
    (λ under. record {
      dealt = c.deal_each-passes.result.items;
      rests = c.deal_each-passes.new.firsts.items;
      deals = deals;
      old = record { passes = c.pop.new.self; owns = c.args.owns; jobs = c.args.jobs };
      owns_are = refl;
      jobs_are = refl;
      groups = c.unwrap-groups.result;
      shared = shared;
      new = c.run_under-uber.new.shares;
      owns_then = refl;
      jobs_then = refl;
      groups' = c.run_under-uber.result.1;
      under = under;
      unlocked = unlocked;
    })
    ran

pub returns-clause-refused : goal.returns-clause-refused
returns-clause-refused g c =
    let turns = c.deref.ensures.value in
    let deals = subst (λ ls. AreDealt ls c.args.numbers.now c.deal_each-passes.result.items c.deal_each-passes.new.firsts.items) turns c.deal_each-passes.ensures in
    let shared = c.pop.ensures.items ∙ ap (λ o. c.pop.new.self.items ++ option_to_list o) c.unwrap-groups.ensures in
    let unlocked = subst (λ ls. AreUnlocked g.R.Rack g.A.Area c.args.made.turns.items c.deal_each-passes.new.firsts.items ls c.unlock_each-shards.result.items) c.push_reserved.ensures.items c.unlock_each-shards.ensures in
    err_map c.run_under-uber.result.2
    (λ same. (
      same.1,
      same_shards c.args.made.turns.items g.R.Rack g.A.Area c.args.numbers.now c.deal_each-passes.result.items c.deal_each-passes.new.firsts.items c.unlock_each-shards.result.items deals
          (subst (λ ls. AreUnlocked g.R.Rack g.A.Area c.args.made.turns.items c.deal_each-passes.new.firsts.items ls c.unlock_each-shards.result.items) ((λ k. (same.0 k).passes.items ++ same.2 k ∷ []) ∙ sym shared) unlocked),
    ))
    c.run_under-uber.ensures.refused
