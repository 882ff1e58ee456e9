use Rattle.std.proofs.Common.{◌∙◌, ◌+◌, Err, ap, suc, subst, sym, take, drop}
use Rattle.std.specs.Io.KnownBytes.{Appends}
use Rattle.draid_session.specs.Sections.{to_lane, to_lanes}
use Rattle.draid_print.specs.Printing.{texts_of}
use Rattle.draid_print.specs.Printing.{PrintsAre, replies_in}
use Rattle.draid_print.specs.declared.printing.LaneReplies.{LaneReplies}
use Rattle.draid_print.proofs.Lining.{later_on, rose_from, same_later}
use Rattle.draid_print.proofs.Appending.{appends_none}
use Rattle.draid_print.proofs.Lining.{cut_in, lanes_here, lanes_next, take_whole, texts_on}
use Rattle.draid_print.proofs.printing.print_lanes.Goals as goal

pub loop-k-init : goal.loop-k-init
loop-k-init g c = record { printed = appends_none (g.K.Sink.held c.args.sink.now); later = same_later (g.K.Sink.faults c.args.sink.now) }

pub loop-k-preserved : goal.loop-k-preserved
loop-k-preserved g c = record {
  printed = subst (λ saids. Appends (g.K.Sink.held c.args.sink.now) (g.K.Sink.held c.print_lane.new.sink) (texts_of saids))
      (sym (lanes_next c.args.ran.now c.loop-k.k c.index-ran-k.result c.loop-k-test.true c.index-ran-k.is))
      (texts_on (to_lanes 0 (replies_in (take c.loop-k.k c.args.ran.now))) (to_lane c.loop-k.k c.index-ran-k.result.replies.items) (g.K.Sink.held c.args.sink.now) (g.K.Sink.held c.loop-k.sink) (g.K.Sink.held c.print_lane.new.sink) c.loop-k.invariant.printed
      (subst (λ replies. Appends (g.K.Sink.held c.loop-k.sink) (g.K.Sink.held c.print_lane.new.sink) (texts_of (to_lane c.loop-k.k replies))) (c.deref.ensures.value ∙ ap (λ (l : LaneReplies). l.replies.items) (sym c.index-ran-k.is)) c.in-Ok.ensures.prints));
  later = later_on _ _ _ c.loop-k.invariant.later c.print_lane.ensures.later;
}

pub returns-in-Err-clause-prints : goal.returns-in-Err-clause-prints
returns-in-Err-clause-prints g c =
    cut_in (to_lanes 0 (replies_in c.args.ran.now)) (g.K.Sink.held c.args.sink.now) (g.K.Sink.held c.loop-k.sink) (g.K.Sink.held c.print_lane.new.sink) (to_lanes 0 (replies_in (take c.loop-k.k c.args.ran.now))) (to_lane c.loop-k.k c.index-ran-k.result.replies.items)
    (to_lanes (c.loop-k.k + 1) (replies_in (drop (suc c.loop-k.k) c.args.ran.now))) (lanes_here c.args.ran.now c.loop-k.k c.index-ran-k.result c.loop-k-test.true c.index-ran-k.is) c.loop-k.invariant.printed c.in-Err.status
    (subst (λ replies. PrintsAre (to_lane c.loop-k.k replies) (g.K.Sink.held c.loop-k.sink) (g.K.Sink.held c.print_lane.new.sink) (Err c.in-Err.status)) (c.deref.ensures.value ∙ ap (λ (l : LaneReplies). l.replies.items) (sym c.index-ran-k.is)) c.in-Err.ensures.prints)

pub returns-in-Err-clause-later : goal.returns-in-Err-clause-later
returns-in-Err-clause-later g c = later_on _ _ _ c.loop-k.invariant.later c.print_lane.ensures.later

pub returns-in-Err-clause-cause : goal.returns-in-Err-clause-cause
returns-in-Err-clause-cause g c is = rose_from _ _ _ c.loop-k.invariant.later (c.print_lane.ensures.cause (c.in-Err.is ∙ is))

pub returns-clause-prints : goal.returns-clause-prints
returns-clause-prints g c = subst (λ ran. Appends (g.K.Sink.held c.args.sink.now) (g.K.Sink.held c.loop-k.sink) (texts_of (to_lanes 0 (replies_in ran)))) (take_whole c.args.ran.now c.loop-k.k c.loop-k-test.false) c.loop-k.invariant.printed

pub returns-clause-later : goal.returns-clause-later
returns-clause-later g c = c.loop-k.invariant.later
