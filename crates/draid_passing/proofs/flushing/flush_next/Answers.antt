use Rattle.std.proofs.Common.{◌≡◌, ◌++◌, ◌∷◌, [], ◌∙◌, true, false, sym, subst}
use Rattle.std.specs.Result.{is_err}
use Rattle.draid_rack.specs.Rack.{OnBothTold}
use Rattle.draid_columns.specs.Flushes.{CountsFailed, FlushesBut}
use Rattle.draid_columns.proofs.Flushing.{counts_failed, counts_flushed, err_of, failed_more, flushed_more, ok_of}
use Rattle.draid_passing.specs.Flushing.{due_below, place_no}
use Rattle.draid_passing.proofs.Flushed.{due_there, none_more, some_more}
use Rattle.draid_passing.proofs.flushing.flush_next.Goals as goal

pub returns-in_default-clause-told : goal.returns-in_default-clause-told
returns-in_default-clause-told g c = λ start was.
    subst (λ all. OnBothTold start (g.R.Rack.told c.args.rack.now) (FlushesBut all c.args.failed.now.items))
    (sym (none_more c.args.slots.now c.args.targets.now c.args.place (sym c.due_leaf.ensures ∙ c.in_default.is))) was

pub returns-in_default-clause-cause : goal.returns-in_default-clause-cause
returns-in_default-clause-cause g c = λ start was.
    subst (λ all. CountsFailed all c.args.failed.now.items start (g.R.Rack.faults c.args.rack.now))
    (sym (none_more c.args.slots.now c.args.targets.now c.args.place (sym c.due_leaf.ensures ∙ c.in_default.is))) was

pub flush-requires : goal.flush-requires
flush-requires g c = record {
  place = due_there c.args.slots.now c.args.targets.now (g.R.Rack.shape c.args.rack.now) (place_no c.args.place) c.in-Some.leaf c.requires.leaves (sym c.due_leaf.ensures ∙ c.in-Some.is);
}

pub returns-then-is_err-clause-told : goal.returns-then-is_err-clause-told
returns-then-is_err-clause-told g c = λ start was.
    let rack = g.R.Rack in
    let all = due_below c.args.slots.now c.args.targets.now c.args.place in
    let leaf = c.in-Some.leaf in
    let fails : is_err c.flush.result ≡ true = sym c.is_err.ensures.value ∙ c.if-is_err.true in
    subst (λ xs. OnBothTold start (rack.told c.flush.new.self) (FlushesBut xs c.push_reserved.new.self.items)) (sym (some_more c.args.slots.now c.args.targets.now c.args.place leaf (sym c.due_leaf.ensures ∙ c.in-Some.is)))
    (subst (λ xs. OnBothTold start (rack.told c.flush.new.self) (FlushesBut (all ++ leaf ∷ []) xs)) (sym c.push_reserved.ensures.items)
    (failed_more all c.args.failed.now.items leaf start (rack.told c.args.rack.now) (rack.told c.flush.new.self) was (err_of c.flush.result fails c.flush.ensures.err)))

pub returns-then-is_err-clause-cause : goal.returns-then-is_err-clause-cause
returns-then-is_err-clause-cause g c = λ start was.
    let rack = g.R.Rack in
    let all = due_below c.args.slots.now c.args.targets.now c.args.place in
    let leaf = c.in-Some.leaf in
    let fails : is_err c.flush.result ≡ true = sym c.is_err.ensures.value ∙ c.if-is_err.true in
    subst (λ xs. CountsFailed xs c.push_reserved.new.self.items start (rack.faults c.flush.new.self)) (sym (some_more c.args.slots.now c.args.targets.now c.args.place leaf (sym c.due_leaf.ensures ∙ c.in-Some.is)))
    (subst (λ xs. CountsFailed (all ++ leaf ∷ []) xs start (rack.faults c.flush.new.self)) (sym c.push_reserved.ensures.items)
    (counts_failed all c.args.failed.now.items leaf start (rack.faults c.args.rack.now) (rack.faults c.flush.new.self) was c.flush.ensures.cause.later (err_of c.flush.result fails c.flush.ensures.cause.cause)))

pub returns-else-is_err-clause-told : goal.returns-else-is_err-clause-told
returns-else-is_err-clause-told g c = λ start was.
    let rack = g.R.Rack in
    let all = due_below c.args.slots.now c.args.targets.now c.args.place in
    let leaf = c.in-Some.leaf in
    let fine : is_err c.flush.result ≡ false = sym c.is_err.ensures.value ∙ c.if-is_err.false in
    subst (λ xs. OnBothTold start (rack.told c.flush.new.self) (FlushesBut xs c.args.failed.now.items)) (sym (some_more c.args.slots.now c.args.targets.now c.args.place leaf (sym c.due_leaf.ensures ∙ c.in-Some.is)))
    (flushed_more all c.args.failed.now.items leaf start (rack.told c.args.rack.now) (rack.told c.flush.new.self) was (ok_of c.flush.result fine c.flush.ensures.ok))

pub returns-else-is_err-clause-cause : goal.returns-else-is_err-clause-cause
returns-else-is_err-clause-cause g c = λ start was.
    let rack = g.R.Rack in
    let all = due_below c.args.slots.now c.args.targets.now c.args.place in
    let leaf = c.in-Some.leaf in
    subst (λ xs. CountsFailed xs c.args.failed.now.items start (rack.faults c.flush.new.self)) (sym (some_more c.args.slots.now c.args.targets.now c.args.place leaf (sym c.due_leaf.ensures ∙ c.in-Some.is)))
    (counts_flushed all c.args.failed.now.items leaf start (rack.faults c.args.rack.now) (rack.faults c.flush.new.self) was c.flush.ensures.cause.later)
