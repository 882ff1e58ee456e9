use Rattle.std.proofs.Common.{◌≡◌, ◌∙◌, ℕ, List, Option, Result, Err, ap, refl, subst, sym}
use Rattle.std.specs.List.{Contains}
use Rattle.std.specs.Option.{IfSome}
use Rattle.std.specs.declared.vec.Vec.{Vec}
use Rattle.std.specs.declared.alloc.Global.{Global}
use Rattle.draid_lines.specs.declared.lines.ReadFault.{ReadFault}
use Rattle.draid_lines.specs.Lines.{Rest}
use Rattle.draid_lines.proofs.Apart.{err_no_ok, some_no_none}
use Rattle.draid_lines.proofs.lines.Lines.next.Goals as goal

pub returns-in-Some-clause-answer : goal.returns-in-Some-clause-answer
returns-in-Some-clause-answer g c none = absurd (some_no_none (sym (sym (ap (λ (rest : Rest). rest.fault) c.self.view_is) ∙ c.in-Some.is) ∙ none))

pub returns-in-Some-clause-line : goal.returns-in-Some-clause-line
returns-in-Some-clause-line g c = tt

pub returns-in-Some-clause-end : goal.returns-in-Some-clause-end
returns-in-Some-clause-end g c is = absurd (err_no_ok is)

pub returns-in-Some-clause-count : goal.returns-in-Some-clause-count
returns-in-Some-clause-count g c = refl

pub returns-in-Some-clause-too_long : goal.returns-in-Some-clause-too_long
returns-in-Some-clause-too_long g c _ none = absurd (some_no_none (sym (sym (ap (λ (rest : Rest). rest.fault) c.self.view_is) ∙ c.in-Some.is) ∙ none))

pub returns-in-Some-clause-waits : goal.returns-in-Some-clause-waits
returns-in-Some-clause-waits g c _ = refl

pub returns-in-Some-clause-again : goal.returns-in-Some-clause-again
returns-in-Some-clause-again g c =
    let same : ReadFault → Result (Option (Vec ℕ Global)) ReadFault = λ fault. Err fault in
    subst (λ fault. IfSome fault (λ (f : ReadFault). (same c.in-Some.fault ≡ same f) × (c.args.self.now ≡ c.args.self.now) × (c.args.source.now ≡ c.args.source.now))) (sym (sym (ap (λ (rest : Rest). rest.fault) c.self.view_is) ∙ c.in-Some.is)) (refl, refl, refl)

pub returns-in-Some-clause-fault : goal.returns-in-Some-clause-fault
returns-in-Some-clause-fault g c = sym (ap (λ (rest : Rest). rest.fault) c.self.view_is) ∙ c.in-Some.is

pub next_line-next-requires-clause-start : goal.next_line-next-requires-clause-start
next_line-next-requires-clause-start g c = c.self.invariant.0

pub returns-in-Ok-Some-clause-waits : goal.returns-in-Ok-Some-clause-waits
returns-in-Ok-Some-clause-waits g c has = c.next_line-next.ensures.waits (subst (λ (held : List ℕ). Contains held 10) (sym (ap (λ (rest : Rest). rest.held) c.self.view_is)) has)

pub returns-in-Ok-Some-clause-later : goal.returns-in-Ok-Some-clause-later
returns-in-Ok-Some-clause-later g c = c.next_line-next.ensures.later

pub returns-in-Ok-None-clause-waits : goal.returns-in-Ok-None-clause-waits
returns-in-Ok-None-clause-waits g c has = c.next_line-next.ensures.waits (subst (λ (held : List ℕ). Contains held 10) (sym (ap (λ (rest : Rest). rest.held) c.self.view_is)) has)

pub returns-in-Ok-None-clause-later : goal.returns-in-Ok-None-clause-later
returns-in-Ok-None-clause-later g c = c.next_line-next.ensures.later

pub returns-in-Err-clause-waits : goal.returns-in-Err-clause-waits
returns-in-Err-clause-waits g c has = c.next_line-next.ensures.waits (subst (λ (held : List ℕ). Contains held 10) (sym (ap (λ (rest : Rest). rest.held) c.self.view_is)) has)

pub returns-in-Err-clause-later : goal.returns-in-Err-clause-later
returns-in-Err-clause-later g c = c.next_line-next.ensures.later
