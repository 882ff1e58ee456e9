use Rattle.std.proofs.Common.{◌∙◌}
use Rattle.draid_record.specs.Checks.{told_check}
use Rattle.draid_uber.proofs.Recorded.{on_even, on_odd, told_stands}
use Rattle.draid_uber.proofs.Ends.{ok_map}
use Rattle.draid_uber.proofs.checks.put_check.Goals as goal

pub returns-then-group-eq0-clause-written : goal.returns-then-group-eq0-clause-written
returns-then-group-eq0-clause-written g c =
    let value = told_check c.args.body.now in
    ok_map c.put_front.result
    (λ is. on_even g.A.Area.told (record c.args.areas.now { even = c.put_front.new.area }) value c.args.group c.if-group-eq0.true
    (told_stands value c.args.group c.requires.range c.deref.result.now (c.deref.ensures.value ∙ c.in_ok-bytes.ensures.bytes) (g.A.Area.told c.args.areas.now.even) (g.A.Area.told c.put_front.new.area) is))
    c.put_front.ensures.told

pub returns-clause-written : goal.returns-clause-written
returns-clause-written g c =
    let value = told_check c.args.body.now in
    ok_map c.put_front-else-group-eq0.result
    (λ is. on_odd g.A.Area.told (record c.args.areas.now { odd = c.put_front-else-group-eq0.new.area }) value c.args.group c.if-group-eq0.false
    (told_stands value c.args.group c.requires.range c.deref-else-group-eq0.result.now (c.deref-else-group-eq0.ensures.value ∙ c.in_ok-bytes.ensures.bytes) (g.A.Area.told c.args.areas.now.odd) (g.A.Area.told c.put_front-else-group-eq0.new.area) is))
    c.put_front-else-group-eq0.ensures.told
