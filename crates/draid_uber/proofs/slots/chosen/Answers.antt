use Rattle.std.proofs.Common.{rules, ◌≤◌, ◌∙◌, arith, inl, inr}
use Rattle.draid_uber.proofs.Recovers.{body_taken, choice_taken, done_is, slots_found}
use Rattle.std.proofs.lemmas.Result.{IfOk-from_err}
use Rattle.draid_uber.proofs.Passed.{leaves, no_answer, no_fault, passed}
use Rattle.draid_uber.proofs.slots.chosen.Goals as goal

pub returns-in_err-flush : goal.returns-in_err-flush
returns-in_err-flush g c = record {
  chosen = IfOk-from_err c.from_residual.result _ c.from_residual.ensures.0;
  ranges = λ body is. absurd (no_answer c.from_residual.result _ c.from_residual.ensures.0 is);
  long = λ body is. absurd (no_answer c.from_residual.result _ c.from_residual.ensures.0 is);
  stands = λ body is. absurd (no_answer c.from_residual.result _ c.from_residual.ensures.0 is);
  flushed = IfOk-from_err c.from_residual.result _ c.from_residual.ensures.0;
  err = leaves c.from_residual.result _ (inl c.in_err-flush.ensures.err);
  size = c.in_err-flush.ensures.size;
  later = c.in_err-flush.ensures.cause.later;
  cause = λ failed. c.in_err-flush.ensures.cause.cause (passed c.from_residual.result c.in_err-flush.field-0.0 _ c.from_residual.ensures.1 failed);
}

pub returns-in_err-read : goal.returns-in_err-read
returns-in_err-read g c = record {
  chosen = IfOk-from_err c.from_residual-in_err-read.result _ c.from_residual-in_err-read.ensures.0;
  ranges = λ body is. absurd (no_answer c.from_residual-in_err-read.result _ c.from_residual-in_err-read.ensures.0 is);
  long = λ body is. absurd (no_answer c.from_residual-in_err-read.result _ c.from_residual-in_err-read.ensures.0 is);
  stands = λ body is. absurd (no_answer c.from_residual-in_err-read.result _ c.from_residual-in_err-read.ensures.0 is);
  flushed = IfOk-from_err c.from_residual-in_err-read.result _ c.from_residual-in_err-read.ensures.0;
  err = leaves c.from_residual-in_err-read.result _ (inr (c.in_err-read.ensures.told ∙ c.in_ok-flush.ensures.ok));
  size = c.in_err-read.ensures.size ∙ c.in_ok-flush.ensures.size;
  later = (let first = c.in_ok-flush.ensures.cause.later in let second = c.in_err-read.ensures.cause.later in omega (arith, first, second));
  cause = λ failed. (let first = c.in_ok-flush.ensures.cause.later in let rose = c.in_err-read.ensures.cause.cause (passed c.from_residual-in_err-read.result c.in_err-read.field-0.0 _ c.from_residual-in_err-read.ensures.1 failed) in omega (arith, first, rose));
}

pub returns-in_err-read-2 : goal.returns-in_err-read-2
returns-in_err-read-2 g c = record {
  chosen = IfOk-from_err c.from_residual-in_err-read-2.result _ c.from_residual-in_err-read-2.ensures.0;
  ranges = λ body is. absurd (no_answer c.from_residual-in_err-read-2.result _ c.from_residual-in_err-read-2.ensures.0 is);
  long = λ body is. absurd (no_answer c.from_residual-in_err-read-2.result _ c.from_residual-in_err-read-2.ensures.0 is);
  stands = λ body is. absurd (no_answer c.from_residual-in_err-read-2.result _ c.from_residual-in_err-read-2.ensures.0 is);
  flushed = IfOk-from_err c.from_residual-in_err-read-2.result _ c.from_residual-in_err-read-2.ensures.0;
  err = leaves c.from_residual-in_err-read-2.result _ (inr (c.in_err-read-2.ensures.told ∙ (c.in_ok-read.ensures.told ∙ c.in_ok-flush.ensures.ok)));
  size = c.in_err-read-2.ensures.size ∙ (c.in_ok-read.ensures.size ∙ c.in_ok-flush.ensures.size);
  later = (let first = c.in_ok-flush.ensures.cause.later in let second = c.in_ok-read.ensures.cause.later in let third = c.in_err-read-2.ensures.cause.later in omega (arith, first, second, third));
  cause = λ failed. (let first = c.in_ok-flush.ensures.cause.later in let second = c.in_ok-read.ensures.cause.later in let rose = c.in_err-read-2.ensures.cause.cause (passed c.from_residual-in_err-read-2.result c.in_err-read-2.field-0.0 _ c.from_residual-in_err-read-2.ensures.1 failed) in omega (arith, first, second, rose));
}

pub returns : goal.returns
returns g c =
    record {
      chosen = (let long : 1024 ≤ g.A.Area.size c.args.area.now = search rules in
          choice_taken c.read.new.into c.read-2.new.into _ _ (slots_found _ _ _ (g.A.Area.size c.args.area.now) c.base.result c.base-2.result _ _ _ c.choice.ensures.choice
          (g.met.A.Area.counted c.args.area.now) long c.in_ok-flush.ensures.ok c.in_ok-read.ensures.told c.base.ensures c.base-2.ensures
          c.in_ok-read.ensures.whole c.in_ok-read-2.ensures.whole c.in_ok-read.ensures.read c.in_ok-read-2.ensures.read));
      ranges = λ body e. c.choice.ensures.ranges body (done_is _ _ e);
      long = λ body is. (let long = c.if-length-lt-AREA.false in
          let length = c.length.ensures in
          let same = c.in_ok-read-2.ensures.size ∙ c.in_ok-read.ensures.size in
          omega (arith, long, length, same));
      stands = λ body e. (let long : 1024 ≤ g.A.Area.size c.args.area.now = search rules in
          let found = slots_found c.read.new.into c.read-2.new.into c.choice.result (g.A.Area.size c.args.area.now) c.base.result c.base-2.result _ _ _ c.choice.ensures.choice
          (g.met.A.Area.counted c.args.area.now) long c.in_ok-flush.ensures.ok c.in_ok-read.ensures.told c.base.ensures c.base-2.ensures
          c.in_ok-read.ensures.whole c.in_ok-read-2.ensures.whole c.in_ok-read.ensures.read c.in_ok-read-2.ensures.read in
          let is = done_is c.choice.result _ e in
          body_taken _ _ _ body _ _ found is (c.choice.ensures.stands body is) (c.in_ok-read-2.ensures.told ∙ c.in_ok-read.ensures.told ∙ c.in_ok-flush.ensures.ok));
      flushed = c.in_ok-read-2.ensures.told ∙ c.in_ok-read.ensures.told ∙ c.in_ok-flush.ensures.ok;
      err = tt;
      size = c.in_ok-read-2.ensures.size ∙ (c.in_ok-read.ensures.size ∙ c.in_ok-flush.ensures.size);
      later = (let first = c.in_ok-flush.ensures.cause.later in
          let second = c.in_ok-read.ensures.cause.later in
          let third = c.in_ok-read-2.ensures.cause.later in
          omega (arith, first, second, third));
      cause = λ is. absurd (no_fault is);
    }
