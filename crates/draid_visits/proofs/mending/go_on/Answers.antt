use Rattle.std.proofs.Common.{None, Some, ap, refl}
use Rattle.draid_visits.proofs.Answered.{mended_within}
use Rattle.draid_visits.proofs.mending.go_on.Goals as goal

pub visit_rest-requires : goal.visit_rest-requires
visit_rest-requires g c = record { fits = c.requires.fits; own = c.requires.own; passes = c.requires.passes; may = c.requires.may; long = c.requires.long; low = c.requires.low }

pub answer-requires : goal.answer-requires
answer-requires g c = λ is. c.in-Some.ensures.from (ap Some is)

pub returns-in_default : goal.returns-in_default
returns-in_default g c =
    let e = c.in_default.ensures in
    record {
      fits = e.fits;
      locks = e.locks;
      owns = e.owns;
      may = e.may;
      whole = e.whole;
      low = λ is. e.low refl;
      left = e.left;
      within = λ limit is. tt;
      mends = record { result = None; same = e.same; visits = e.visits; answers = tt };
    }

pub returns : goal.returns
returns g c =
    let e = c.in-Some.ensures in
    record {
      fits = e.fits;
      locks = e.locks;
      owns = e.owns;
      may = e.may;
      whole = e.whole;
      low = λ is. absurd (cc is);
      left = e.left;
      within = λ limit is. mended_within limit c.in-Some.end c.visit_rest.new.mending.progress c.answer.result (e.left limit is) e.paused c.answer.ensures;
      mends = record { result = Some c.in-Some.end; same = e.same; visits = e.visits; answers = c.answer.ensures };
    }
