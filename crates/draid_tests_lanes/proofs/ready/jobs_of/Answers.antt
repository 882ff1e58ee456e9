use Rattle.std.proofs.Common.{List, length, refl, subst}
use Rattle.std.proofs.lemmas.Option.{slice_get_read}
use Rattle.draid_turn.specs.declared.span.Span.{Span}
use Rattle.draid_tests_lanes.specs.Ready.{IsReady}
use Rattle.draid_tests_lanes.proofs.Given.{many_more, ready_more}
use Rattle.draid_tests_lanes.proofs.ready.jobs_of.Goals as goal

pub loop-lane-preserved : goal.loop-lane-preserved
loop-lane-preserved g c =
    let job = c.in_ok-job.job in
    let list = c.index-numbers-lane.result in
    let i = c.loop-lane.invariant in
    let more = c.in-Ok.ensures.items in
    record {
      many = many_more c.loop-lane.jobs.items c.push.new.self.items job c.loop-lane.lane i.many more;
      ready = ready_more g.F.Fn c.args.numbers.now c.loop-lane.jobs.items c.push.new.self.items c.loop-lane.lane list job i.ready i.many
          (slice_get_read c.args.numbers.now (length c.args.numbers.now) c.loop-lane.lane list refl c.loop-lane-test.true c.index-numbers-lane.is) (subst (λ (spans : List Span). IsReady g.F.Fn spans job) c.deref.ensures.value c.in_ok-job.ensures) more;
    }
