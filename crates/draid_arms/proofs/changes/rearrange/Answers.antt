use Rattle.std.proofs.Common.{◌≡◌, ◌&&◌, ◌||◌, ◌∙◌, not, Bool, true, false, Some, None, is_some, if◌then◌else◌, refl, ap}
use Rattle.draid_machine.specs.After.{aside_left, each_arm, kept_after, map_arm, renew_if}
use Rattle.draid_machine.specs.Arms.{has_moved}
use Rattle.draid_machine.specs.Claims.{is_at}
use Rattle.draid_machine.specs.Names.{has_name, has_segment}
use Rattle.draid_machine.specs.State.{Core, State}
use Rattle.draid_machine.specs.declared.names.ArmName.{ArmName}
use Rattle.draid_machine.specs.declared.names.Segment.{Segment}
use Rattle.draid_world.specs.World.{arm_in, core_of, kept_in, site_layout, state_of}
use Rattle.draid_arms.specs.Moves.{core_before}
use Rattle.draid_arms.proofs.changes.rearrange.Goals as goal

and_assoc : (a b c : Bool) → (a && (b && c)) ≡ ((a && b) && c)
and_assoc true b c = refl
and_assoc false b c = refl

pub returns-clause-moved : goal.returns-clause-moved
returns-clause-moved c = c.in_ok-moved.ensures

pub returns-clause-made : goal.returns-clause-made
returns-clause-made c =
    let l = site_layout c.args.site.now in
    let old = c.args.world.now in
    let q : Core = core_of old.tables in
    let was : Core = core_before old.tables c.args.before.now in
    let w : State = record (state_of old) { core = was } in
    let arms : (n : ArmName) → arm_in c.renew_arms.new.arms.entries n ≡ each_arm (λ m. renew_if (has_moved l was q m) c.args.last) q.arm n =
    λ n. c.in_ok-renew_arms.ensures n ∙ ap (λ b. map_arm (renew_if b c.args.last) (q.arm n)) (ap (λ ms. has_name ms n) c.deref.ensures.value ∙ c.in_ok-moved.ensures n) in
    let kept : (s : Segment) → kept_in c.keep_lost.new.kept.entries s ≡ kept_after l w q s =
    λ s. c.in_ok-keep_lost.ensures s ∙ ap (λ b. if b then Some old.open_group else kept_in old.kept.entries s) (and_assoc (has_segment old.present.keys s) (is_at l was s) (not (is_at l q s))) in
    let aside : (s : Segment) → has_segment c.in_ok-aside.aside.keys s ≡ aside_left l w q s =
    λ s. c.in_ok-aside.ensures s ∙ ap (λ o. has_segment old.aside.keys s && (is_at l q s || is_some o)) (kept s) in
    λ i. record w { core = record q { arm = λ n. arms n i }; loan = None; kept = λ s. kept s i; aside = λ s. aside s i }
