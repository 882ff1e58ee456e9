use Rattle.std.proofs.Common.{◌∷◌, ◌∙◌, [], Some, subst, sym}
use Rattle.draid_area.specs.Area.{OnTold}
use Rattle.draid_record.specs.Checks.{CheckTold}
use Rattle.draid_record.specs.declared.uber.UberBody.{UberBody}
use Rattle.draid_uber.specs.Checks.{CheckStands, check_area, told_by}
use Rattle.draid_uber.specs.Slots.{StandsTold}
use Rattle.draid_uber.specs.Uber.{next_of}
use Rattle.draid_uber.proofs.Recorded.{check_put, leaves_none, leaves_pending, named, next_same, refused, shut_done, shut_refused}
use Rattle.draid_uber.proofs.Ends.{err_map, ok_map, on_err}
use Rattle.draid_uber.proofs.uber.Uber.commit_with_check.Goals as goal

pub returns-in_err-shut-clause-refused : goal.returns-in_err-shut-clause-refused
returns-in_err-shut-clause-refused g c = λ check pending is_check stands.
    let e = c.in_err-shut.ensures in
    let old = c.args.self.now in
    let new = c.shut.new.self in
    on_err c.from_residual-in_err-shut.result (leaves_pending check old.kept (next_of old c.args.group) pending (told_by g.A.Area.told new.areas)
    (shut_refused check g.A.Area.told old.kept pending old.areas new.areas e.others stands (e.refused pending stands.uber_is)))

pub returns-in_err-body-clause-refused : goal.returns-in_err-body-clause-refused
returns-in_err-body-clause-refused g c = λ check pending is_check stands.
    let old = c.args.self.now in
    on_err c.from_residual.result (leaves_pending check old.kept (next_of old c.args.group) pending (told_by g.A.Area.told old.areas) stands)

pub returns-in_err-put_check-clause-refused : goal.returns-in_err-put_check-clause-refused
returns-in_err-put_check-clause-refused g c = λ check pending is_check stands.
    let e = c.in_ok-shut.ensures in
    let p = c.in_err-put_check.ensures in
    let old = c.args.self.now in
    let mid = c.shut.new.self in
    let body = next_of old c.args.group in
    on_err c.from_residual-in_err-put_check.result (leaves_none check old.kept (body ∷ pending) (told_by g.A.Area.told c.put_check.new.areas)
    (check_put check g.A.Area.told old.kept body c.requires.next.behind mid.areas c.put_check.new.areas p.uber p.other (shut_done check g.A.Area.told old.kept pending old.areas mid.areas e.others stands (e.shut pending stands.uber_is))))

pub returns-clause-refused : goal.returns-clause-refused
returns-clause-refused g c = λ check pending is_check stands.
    let e = c.in_ok-shut.ensures in
    let p = c.in_ok-put_check.ensures in
    let d = c.commit.ensures in
    let told = g.A.Area.told in
    let old = c.args.self.now in
    let mid = c.shut.new.self in
    let new = c.commit.new.self in
    let late = c.put_check.new.areas in
    let body = next_of old c.args.group in
    let behind = c.requires.next.behind in
    let clear = shut_done check told old.kept pending old.areas mid.areas e.others stands (e.shut pending stands.uber_is) in
    let put = check_put check told old.kept body behind mid.areas late p.uber p.other clear in
    let same = next_same old mid c.args.group e.layout e.version e.leaf in
    err_map c.commit.result
    (λ is. refused check told old.kept body behind late new.areas d.others (subst (λ (v : CheckTold). OnTold (told (check_area late c.args.group)) (CheckStands v c.args.group)) (c.in_ok-body.ensures.body ∙ sym is_check) p.written) pending put
    (subst (λ (b : UberBody). StandsTold old.kept (b ∷ []) (told new.areas.uber)) same (subst (λ kept. StandsTold kept (next_of mid c.args.group ∷ []) (told new.areas.uber)) e.kept is)))
    (d.refused [] (subst (λ kept. StandsTold kept [] (told late.uber)) (sym e.kept) put.uber_is))

pub returns-clause-committed : goal.returns-clause-committed
returns-clause-committed g c = λ check pending is_check stands.
    let e = c.in_ok-shut.ensures in
    let p = c.in_ok-put_check.ensures in
    let d = c.commit.ensures in
    let told = g.A.Area.told in
    let old = c.args.self.now in
    let mid = c.shut.new.self in
    let new = c.commit.new.self in
    let late = c.put_check.new.areas in
    let body = next_of old c.args.group in
    let behind = c.requires.next.behind in
    let clear = shut_done check told old.kept pending old.areas mid.areas e.others stands (e.shut pending stands.uber_is) in
    let put = check_put check told old.kept body behind mid.areas late p.uber p.other clear in
    let same = next_same old mid c.args.group e.layout e.version e.leaf in
    ok_map c.commit.result
    (λ is. named check told old.kept body behind late new.areas d.others (subst (λ (v : CheckTold). OnTold (told (check_area late c.args.group)) (CheckStands v c.args.group)) (c.in_ok-body.ensures.body ∙ sym is_check) p.written) (subst (λ (b : UberBody). StandsTold (Some b) [] (told new.areas.uber)) same is))
    (d.committed [] (subst (λ kept. StandsTold kept [] (told late.uber)) (sym e.kept) put.uber_is))
