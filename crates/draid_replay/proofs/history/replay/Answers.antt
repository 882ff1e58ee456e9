use Rattle.std.proofs.Common.{rules, ◌≡◌, ◌∙◌, Ok, true, false, sym, subst}
use Rattle.draid_machine.specs.declared.event.Event.{Event}
use Rattle.draid_machine.specs.Step.{Step}
use Rattle.draid_world.specs.World.{site_layout, state_of}
use Rattle.draid_replay.specs.History.{IsFirstIllegal}
use Rattle.draid_replay.proofs.Histories.{any_default, ends, goes_on, reached_more, same_place, stripes_few}
use Rattle.draid_replay.proofs.history.replay.Goals as goal

pub returns-in-Ok-false-clause-not_legal : goal.returns-in-Ok-false-clause-not_legal
returns-in-Ok-false-clause-not_legal c = λ at e.
    let l = site_layout c.args.site.now in
    let now = state_of c.loop-at.world in
    let no : c.advance.result ≡ Ok false = search rules in
    subst (IsFirstIllegal l (state_of c.args.start) c.args.events.now) (same_place c.loop-at.at at e) (
      now,
      c.loop-at-test.true,
      c.loop-at.invariant.run,
      (λ d new step. c.advance.ensures.illegal no new
          (subst (λ (x : Event). Step l now x new) (any_default c.args.events.now c.loop-at.at d _ c.loop-at-test.true ∙ sym c.index-events-at.is) step)),
    )

pub loop-at-preserved : goal.loop-at-preserved
loop-at-preserved c =
    let l = site_layout c.args.site.now in
    let now = state_of c.loop-at.world in
    let new = state_of c.advance.new.world in
    let yes_it_is : c.advance.result ≡ Ok true = search rules in
    goes_on l (state_of c.args.start) now new c.args.events.now c.loop-at.at _ (stripes_few c.args.site.now.geometry c.args.site.now.laid.geometry_is) c.loop-at-test.true
    (c.requires.small c.loop-at.at _ c.loop-at-test.true) c.loop-at.invariant
    (subst (λ (x : Event). Step l now x new) c.index-events-at.is (c.advance.ensures.legal yes_it_is))

pub returns-clause-reached : goal.returns-clause-reached
returns-clause-reached c =
    let l = site_layout c.args.site.now in
    let w = state_of c.args.start in
    let now = state_of c.loop-at.world in
    reached_more l w now c.args.events.now (ends l w now c.args.events.now c.loop-at.at c.loop-at-test.false c.loop-at.invariant)
