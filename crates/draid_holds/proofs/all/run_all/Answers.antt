use Rattle.std.proofs.Common.{refl, sym, ap, subst, ◌∙◌, ◌≤◌, ℕ}
use Rattle.std.specs.Vec.{vec_capacity}
use Rattle.draid_holds.specs.All.{RanAll}
use Rattle.draid_holds.proofs.all.run_all.Goals as goal

pub returns-in_default-clause-ran : goal.returns-in_default-clause-ran
returns-in_default-clause-ran g c = tt

pub returns-in_default-clause-refused : goal.returns-in_default-clause-refused
returns-in_default-clause-refused g c = (refl, refl)

pub run_split-requires-clause-first : goal.run_split-requires-clause-first
run_split-requires-clause-first g c _ _ = c.in-Ok-new.ensures.pass

pub run_split-requires-clause-count : goal.run_split-requires-clause-count
run_split-requires-clause-count g c _ _ = c.requires.count

pub run_split-requires-clause-some : goal.run_split-requires-clause-some
run_split-requires-clause-some g c _ _ = c.requires.some

pub run_split-requires-clause-apart : goal.run_split-requires-clause-apart
run_split-requires-clause-apart g c _ _ = c.requires.apart

pub run_split-requires-clause-may : goal.run_split-requires-clause-may
run_split-requires-clause-may g c _ _ = c.requires.may c.in-Ok-new.turn c.in-Ok-new.ensures.lock

pub run_split-requires-clause-none : goal.run_split-requires-clause-none
run_split-requires-clause-none g c _ _ = c.in-Ok.ensures.none

pub run_split-requires-clause-room : goal.run_split-requires-clause-room
run_split-requires-clause-room g c _ _ =
    subst (λ (n : ℕ). (n ≤ vec_capacity c.in-Ok.rooms.0) × (n ≤ vec_capacity c.in-Ok.rooms.1) × (n ≤ vec_capacity c.in-Ok.rooms.2)) (c.len.ensures ∙ c.args.works.ok.0) c.in-Ok.ensures.room

pub returns-in-Ok-new-clause-ran : goal.returns-in-Ok-new-clause-ran
returns-in-Ok-new-clause-ran g c =
    subst (λ value. RanAll g.T.Stand.step g.W.Work.relates value c.args.numbers.now c.args.works.items c.run_split.result.0 c.run_split.result.1.items) c.in-Ok-new.ensures.lock c.run_split.ensures

pub returns-in-Ok-new-clause-refused : goal.returns-in-Ok-new-clause-refused
returns-in-Ok-new-clause-refused g c = tt

pub returns-in-Err-clause-ran : goal.returns-in-Err-clause-ran
returns-in-Err-clause-ran g c = tt

pub returns-in-Err-clause-refused : goal.returns-in-Err-clause-refused
returns-in-Err-clause-refused g c = (ap (λ refused. refused.value) (sym c.in-Err.refused-is) ∙ c.in-Err.ensures.refused, refl)
