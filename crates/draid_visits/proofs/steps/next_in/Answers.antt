use Rattle.std.proofs.Common.{◌≡◌, ◌∙◌, false, true, sym}
use Rattle.std.proofs.lemmas.Bool.{true≢false}
use Rattle.draid_names.specs.declared.pass_kind.PassKind.TheVariants.{Heal}
use Rattle.draid_pool.specs.Shards.{SameBlocks}
use Rattle.draid_pool.proofs.Drifting.{groups_kept}
use Rattle.draid_visits.specs.Steps.{HadContents, NextIs}
use Rattle.draid_visits.proofs.Blocks.{never_landed}
use Rattle.draid_visits.proofs.ToLend.{to_lend_does, to_lend_only, to_lend_runs}
use Rattle.draid_visits.proofs.Lifting.{goes_later, goes_to, goes_under}
use Rattle.draid_visits.proofs.Over.{used_so}
use Rattle.draid_visits.proofs.Tables.{shares_same}
use Rattle.draid_visits.proofs.steps.next_in.Goals as goal

-- ---- a pass that doesn't run

pub returns-then-not-is_running-clause-table : goal.returns-then-not-is_running-clause-table
returns-then-not-is_running-clause-table g c = shares_same c.args.shard.now

pub returns-then-not-is_running-clause-groups : goal.returns-then-not-is_running-clause-groups
returns-then-not-is_running-clause-groups g c = groups_kept c.args.shard.now

pub returns-then-not-is_running-clause-only : goal.returns-then-not-is_running-clause-only
returns-then-not-is_running-clause-only g c = to_lend_only c.args.kind c.args.shard.now.pass c.requires.lends

pub returns-then-not-is_running-clause-moves : goal.returns-then-not-is_running-clause-moves
returns-then-not-is_running-clause-moves g c = λ part pieces x at.
    absurd (true≢false (sym (c.is_running.ensures.1 (to_lend_does g.R.Rack g.A.Area part pieces c.args.shard.now x at c.args.kind c.requires.lends)) ∙ c.if-not-is_running.true))

pub returns-then-not-is_running-clause-goes : goal.returns-then-not-is_running-clause-goes
returns-then-not-is_running-clause-goes g c = λ part pieces x at.
    absurd (true≢false (sym (c.is_running.ensures.1 (to_lend_does g.R.Rack g.A.Area part pieces c.args.shard.now x at c.args.kind c.requires.lends)) ∙ c.if-not-is_running.true))

-- ---- one that runs

pub rest_in-requires : goal.rest_in-requires
rest_in-requires g c = record {
  valid = c.requires.valid;
  running = to_lend_runs c.args.kind c.args.shard.now.pass c.requires.lends (c.is_running.ensures.0 c.if-not-is_running.false);
}

pub unit_in-requires : goal.unit_in-requires
unit_in-requires g c = record {
  valid = c.requires.valid;
  running = to_lend_runs c.args.kind c.args.shard.now.pass c.requires.lends (c.is_running.ensures.0 c.if-not-is_running.false);
}

pub returns-then-used_up-clause-paused : goal.returns-then-used_up-clause-paused
returns-then-used_up-clause-paused g c = λ is. (c.if-used_up.true, c.rest_in.ensures.paused is)

pub returns-then-used_up-clause-tells : goal.returns-then-used_up-clause-tells
returns-then-used_up-clause-tells g c = λ repaired heal came. absurd (never_landed c.rest_in.result repaired c.rest_in.ensures.others came)

pub returns-then-used_up-clause-moves : goal.returns-then-used_up-clause-moves
returns-then-used_up-clause-moves g c = λ part pieces x at.
    goes_later g.R.Rack g.A.Area part pieces x c.rest_in.new.shard (λ holds y. NextIs part c.args.kind true c.rest_in.result holds × SameBlocks x y) (c.rest_in.ensures.goes part pieces x at)

pub returns-then-used_up-clause-goes : goal.returns-then-used_up-clause-goes
returns-then-used_up-clause-goes g c = λ part pieces x at.
    (let new = c.rest_in.new.shard in
    let P = c.args.kind ≡ Heal → HadContents g.R.Rack g.A.Area part c.args.shard.now x in
    used_so g.R.Rack g.A.Area part pieces x new P c.args.kind c.args.used_up true c.rest_in.result c.if-used_up.true
    (goes_under g.R.Rack g.A.Area part pieces x new P (NextIs part c.args.kind true c.rest_in.result)
    (goes_to g.R.Rack g.A.Area part pieces x new (λ holds y. NextIs part c.args.kind true c.rest_in.result holds × SameBlocks x y) (c.rest_in.ensures.goes part pieces x at))))

pub returns-clause-landed : goal.returns-clause-landed
returns-clause-landed g c = λ repaired is. (let e = c.unit_in.ensures.landed repaired is in (c.if-used_up.false, e.0, e.1))

pub returns-clause-goes : goal.returns-clause-goes
returns-clause-goes g c = λ part pieces x at.
    used_so g.R.Rack g.A.Area part pieces x c.unit_in.new.shard (c.args.kind ≡ Heal → HadContents g.R.Rack g.A.Area part c.args.shard.now x) c.args.kind c.args.used_up false c.unit_in.result c.if-used_up.false
    (c.unit_in.ensures.goes part pieces x at)
