use Rattle.std.proofs.Common.{◌≡◌, ◌==◌, ◌∙◌, ◌&&◌, ap, sym, refl, subst, false, true, Option}
use Rattle.draid_machine.specs.Names.{has_name}
use Rattle.draid_machine.specs.Step.{DoneStep}
use Rattle.draid_machine.specs.After.{ended_pass, excise_if, map_arm}
use Rattle.draid_world.specs.declared.world.WorldPass.{WorldPass}
use Rattle.draid_world.specs.World.{arm_in, core_of, pass_of, site_layout, state_of}
use Rattle.draid_passes.proofs.Endings.{clean_end, done_made, ended_max, not_excised}
use Rattle.draid_passes.proofs.ends.done.Goals as goal

pub returns-then-ends_clean-clause-legal : goal.returns-then-ends_clean-clause-legal
returns-then-ends_clean-clause-legal c = λ e.
    let l = site_layout c.args.site.now in
    let w = c.args.world.now in
    let q = core_of w.tables in
    let pass = c.in-Some.pass in
    let failed = c.args.failed.now in
    let p = ended_pass l q (pass_of pass) failed in
    let clean : (p.errors == 0) ≡ true = sym c.ends_clean.ensures ∙ c.if-ends_clean.true in
    subst (λ (o : Option WorldPass). DoneStep l (state_of w) failed (state_of (record w { tables = record w.tables { arms = c.excise_logs.new.arms; pass = o } }))) (sym c.take.ensures.after)
    (done_made l w pass failed c.excise_logs.new.arms (sym c.take.ensures.value ∙ c.in-Some.is) (c.if-not-may_end.ensures.yes refl)
    (λ n.
    c.excise_logs.ensures n
    ∙ ap (λ names. map_arm (excise_if (has_name names n) pass.max) (arm_in w.tables.arms.entries n)) c.deref.ensures.value
    ∙ sym (λ i. map_arm (excise_if (clean_end l q (pass_of pass) failed pass.kind clean n i) (ended_max l q (pass_of pass) failed pass.kind i)) (arm_in w.tables.arms.entries n))))

pub returns-clause-legal : goal.returns-clause-legal
returns-clause-legal c = λ e.
    let l = site_layout c.args.site.now in
    let w = c.args.world.now in
    let p = ended_pass l (core_of w.tables) (pass_of c.in-Some.pass) c.args.failed.now in
    let unclean : (p.errors == 0) ≡ false = sym c.ends_clean.ensures ∙ c.if-ends_clean.false in
    subst (λ (o : Option WorldPass). DoneStep l (state_of w) c.args.failed.now (state_of (record w { tables = record w.tables { pass = o } }))) (sym c.take.ensures.after)
    (done_made l w c.in-Some.pass c.args.failed.now w.tables.arms (sym c.take.ensures.value ∙ c.in-Some.is) (c.if-not-may_end.ensures.yes refl)
    (λ n. not_excised ((p.errors == 0) && has_name p.targets n) p.max (arm_in w.tables.arms.entries n) (ap (λ b. b && has_name p.targets n) unclean)))
