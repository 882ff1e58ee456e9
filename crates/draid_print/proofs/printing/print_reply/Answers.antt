use Rattle.std.proofs.Common.{◌∙◌, refl, subst}
use Rattle.draid_print.specs.Printing.{PrintIs}
use Rattle.draid_print.proofs.Lining.{same_later}
use Rattle.draid_print.proofs.printing.print_reply.Goals as goal

pub returns-in_default : goal.returns-in_default
returns-in_default g c = record {
  prints = refl;
  later = same_later (g.K.Sink.faults c.args.sink.now);
  cause = λ is. absurd (cc is);
}

pub returns : goal.returns
returns g c = record {
  prints = subst (λ text. PrintIs text (g.K.Sink.held c.args.sink.now) (g.K.Sink.held c.put_text.new.sink) c.put_text.result) (c.deref.ensures.value ∙ c.in-Ok.ensures) c.put_text.ensures.prints;
  later = c.put_text.ensures.later;
  cause = c.put_text.ensures.cause;
}
