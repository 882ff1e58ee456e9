use Rattle.std.proofs.Common.{refl, subst, List, ℕ}
use Rattle.draid_lines.specs.Lines.{Takes}
use Rattle.draid_lines.proofs.Apart.{ok_no_err}
use Rattle.draid_lines.proofs.lines.find_end.Goals as goal

pub returns-in-Some-clause-start : goal.returns-in-Some-clause-start
returns-in-Some-clause-start g c = c.requires

pub returns-in-Some-clause-waits : goal.returns-in-Some-clause-waits
returns-in-Some-clause-waits g c _ = refl

pub returns-in-Some-clause-cause : goal.returns-in-Some-clause-cause
returns-in-Some-clause-cause g c is = absurd (ok_no_err is)

pub returns-in-Some-clause-read : goal.returns-in-Some-clause-read
returns-in-Some-clause-read g c _ is = absurd (ok_no_err is)

pub drop_front-requires : goal.drop_front-requires
drop_front-requires g c = c.requires

pub returns-clause-takes : goal.returns-clause-takes
returns-clause-takes g c = subst (λ (items : List ℕ). Takes items c.fill.new.held.items (g.S.Source.left c.args.source.now) (g.S.Source.left c.fill.new.source)) c.drop_front.ensures c.fill.ensures.takes

pub returns-clause-found : goal.returns-clause-found
returns-clause-found g c = c.fill.ensures.found

pub returns-clause-later : goal.returns-clause-later
returns-clause-later g c = c.fill.ensures.later

pub returns-clause-cause : goal.returns-clause-cause
returns-clause-cause g c = c.fill.ensures.cause

pub returns-clause-read : goal.returns-clause-read
returns-clause-read g c = c.fill.ensures.read
