use Rattle.std.proofs.Common.{◌∙◌, ◌+◌, Some, subst, sym, take, drop}
use Rattle.std.specs.Io.KnownBytes.{Appends}
use Rattle.draid_session.specs.Sections.{to_lane}
use Rattle.draid_print.specs.Printing.{texts_of}
use Rattle.draid_print.proofs.Lining.{later_on, rose_from, same_later}
use Rattle.draid_print.proofs.Appending.{appends_none}
use Rattle.draid_print.proofs.Lining.{cut_at, lane_here, lane_next, said_on, take_whole}
use Rattle.draid_print.proofs.printing.print_lane.Goals as goal

pub loop-k-init : goal.loop-k-init
loop-k-init g c = record { printed = appends_none (g.K.Sink.held c.args.sink.now); later = same_later (g.K.Sink.faults c.args.sink.now) }

pub returns-in-Err-clause-prints : goal.returns-in-Err-clause-prints
returns-in-Err-clause-prints g c =
    cut_at (to_lane c.args.lane c.args.replies.now) (g.K.Sink.held c.args.sink.now) (g.K.Sink.held c.loop-k.sink) (g.K.Sink.held c.print_said.new.sink) (to_lane c.args.lane (take c.loop-k.k c.args.replies.now))
    (record { lane = Some c.args.lane; reply = c.index-replies-k.result }) (to_lane c.args.lane (drop (c.loop-k.k + 1) c.args.replies.now))
    (lane_here c.args.lane c.args.replies.now c.loop-k.k c.index-replies-k.result c.loop-k-test.true c.index-replies-k.is) c.loop-k.invariant.printed c.in-Err.status c.in-Err.ensures.prints

pub returns-in-Err-clause-later : goal.returns-in-Err-clause-later
returns-in-Err-clause-later g c = later_on _ _ _ c.loop-k.invariant.later c.print_said.ensures.later

pub returns-in-Err-clause-cause : goal.returns-in-Err-clause-cause
returns-in-Err-clause-cause g c is = rose_from _ _ _ c.loop-k.invariant.later (c.print_said.ensures.cause (c.in-Err.is ∙ is))

pub loop-k-preserved : goal.loop-k-preserved
loop-k-preserved g c = record {
  printed = subst (λ saids. Appends (g.K.Sink.held c.args.sink.now) (g.K.Sink.held c.print_said.new.sink) (texts_of saids))
      (sym (lane_next c.args.lane c.args.replies.now c.loop-k.k c.index-replies-k.result c.loop-k-test.true c.index-replies-k.is))
      (said_on (to_lane c.args.lane (take c.loop-k.k c.args.replies.now)) (record { lane = Some c.args.lane; reply = c.index-replies-k.result }) (g.K.Sink.held c.args.sink.now) (g.K.Sink.held c.loop-k.sink) (g.K.Sink.held c.print_said.new.sink) c.loop-k.invariant.printed c.in-Ok.ensures.prints);
  later = later_on _ _ _ c.loop-k.invariant.later c.print_said.ensures.later;
}

pub returns-clause-prints : goal.returns-clause-prints
returns-clause-prints g c = subst (λ replies. Appends (g.K.Sink.held c.args.sink.now) (g.K.Sink.held c.loop-k.sink) (texts_of (to_lane c.args.lane replies))) (take_whole c.args.replies.now c.loop-k.k c.loop-k-test.false) c.loop-k.invariant.printed

pub returns-clause-later : goal.returns-clause-later
returns-clause-later g c = c.loop-k.invariant.later
