-- One metaslab of a pool where a pass is to run.
use Rattle.std.proofs.Common.{◌≡◌, ◌∙◌, inl, inr, Bool, true, false, Option, Some, None, refl, sym, ap, subst}
use Rattle.std.specs.Prelude.{IsSomeAnd, OnErr, OnOk, Result, Ok, Err, is_ok, option_map}
use Rattle.draid_names.specs.declared.pass_kind.PassKind.TheVariants.{Heal}
use Rattle.draid_rack.specs.declared.Rack as racks
use Rattle.draid_area.specs.declared.Area as areas
use Rattle.draid_machine.specs.declared.event.Event.TheVariants.{Ready}
use Rattle.draid_machine.specs.Sound.{Sound}
use Rattle.draid_machine.specs.State as machine
use Rattle.draid_machine.proofs.Rows.{reached_sound}
use Rattle.draid_segments.specs.Segments.{Pieces}
use Rattle.draid_pass.specs.declared.pass.Pass.{Pass}
use Rattle.draid_slots.specs.States.{pass_in}
use Rattle.draid_shard.specs.Calls.{ActsOn, SameKit, SameReserve}
use Rattle.draid_shard.specs.Fits.{Valid}
use Rattle.draid_shard.specs.Part.{Part}
use Rattle.draid_shard.specs.States.{Does, layout_by, part_of}
use Rattle.draid_shard.specs.declared.shard.Shard.{Shard}
use Rattle.draid_shard.proofs.Standing.{has_layout}
use Rattle.draid_passing.specs.Passing.{MustWait}
use Rattle.draid_passing.specs.declared.fault.NotYet.{NotYet}
use Rattle.draid_session.specs.Holds.{view_of}
use Rattle.draid_session.specs.Passes as passes
use Rattle.draid_session.specs.State.{Metaslab}
use Rattle.draid_pool.specs.Metaslabs.{IsMetaslab}
use Rattle.draid_pool.specs.Shards.{Goes, SameBlocks}
use Rattle.draid_pool.proofs.Dids as dids
use Rattle.draid_pool.proofs.Dids.{raises_none}
use Rattle.draid_pool.proofs.OneHold.{looked}
use Rattle.draid_visits.specs.Steps.{IsRunningOf, ReadyIs}
use Rattle.draid_visits.proofs.PassSteps.{rebuild_did, rebuild_goes}
use Rattle.draid_visits.proofs.Started.{same_world}

module _ {R A : Type 0} (rack : racks.Ghosts R) (area : areas.Ghosts A) (part : Part) (pieces : Pieces) (shard : Shard R A) (x : Metaslab) (is : IsMetaslab rack area part pieces shard x) where
  abbrev Readies : Shard R A → Bool → Type 0
  Readies new r = Goes rack area part pieces x new (λ holds y. ReadyIs part r holds × SameBlocks x y)

  running_told : (o : Option Pass) → x.world.core.pass ≡ option_map (pass_in shard.slots) o → IsSomeAnd o (λ (p : Pass). p.running ≡ true) → passes.IsRunning (view_of part.number x)
  running_told None told runs = absurd runs
  running_told (Some p) told runs = (pass_in shard.slots p, told, runs)

  told_running : (o : Option Pass) → x.world.core.pass ≡ option_map (pass_in shard.slots) o → passes.IsRunning (view_of part.number x) → IsSomeAnd o (λ (p : Pass). p.running ≡ true)
  told_running None told has = absurd (let e = sym told ∙ has.1 in cc)
  told_running (Some p) told has = ap (λ (q : machine.Pass). q.running) (one (pass_in shard.slots p) has.0 (sym told ∙ has.1)) ∙ has.2
    where
      one : (a b : machine.Pass) → Some a ≡ Some b → a ≡ b
      one a b e = cc

  sound : Sound (layout_by shard) x.world
  sound = reached_sound (layout_by shard) (has_layout (part_of shard) is.valid.part) x.world is.stands.reached

  -- a scrub does
  pub heal_runs : IsSomeAnd shard.pass (λ (p : Pass). p.kind ≡ Heal) → IsSomeAnd shard.pass (λ (p : Pass). p.running ≡ true)
  heal_runs heal = by shard.pass is.stands.is_in.pass heal
    where
      never : (p : Pass) → x.world.core.pass ≡ Some (pass_in shard.slots p) → p.kind ≡ Heal → p.running ≡ false → p.running ≡ true
      never p told kind waits = absurd (let same = sym kind ∙ (sound.core.planned (pass_in shard.slots p) told waits).0 in cc)

      one : (p : Pass) (b : Bool) → p.running ≡ b → x.world.core.pass ≡ Some (pass_in shard.slots p) → p.kind ≡ Heal → p.running ≡ true
      one p true runs told kind = runs
      one p false waits told kind = never p told kind waits

      by : (o : Option Pass) → x.world.core.pass ≡ option_map (pass_in shard.slots) o → IsSomeAnd o (λ (p : Pass). p.kind ≡ Heal) → IsSomeAnd o (λ (p : Pass). p.running ≡ true)
      by None told heal = absurd heal
      by (Some p) told heal = one p p.running refl told heal

  -- it runs already
  pub runs_here : IsSomeAnd shard.pass (λ (p : Pass). p.running ≡ true) → Readies shard true
  runs_here runs =
      looked rack area part pieces shard x (λ holds y. ReadyIs part true holds × SameBlocks x y) is
      (record { v = view_of part.number x; there = refl; how = inl (refl, running_told shard.pass is.stands.is_in.pass runs) }, same_world x)

  -- it begins to
  pub readied : (new : Shard R A) → Valid rack new → Does shard new Ready → ActsOn rack shard new Ready pieces → SameKit shard new → SameReserve shard new → Readies new true
  readied new valid does acts kit reserve =
      let d : dids.Done rack area part pieces new Ready x = rebuild_did rack area part pieces shard new Ready x is valid does acts reserve (raises_none rack area shard new kit) tt in
      rebuild_goes rack area part pieces new Ready x (ReadyIs part true) tt d (record { v = view_of part.number x; there = refl; how = inr (d.reached.world, refl) })

  -- it may not yet
  pub waits_here : (IsSomeAnd shard.pass (λ (p : Pass). p.running ≡ true) → ⊥) → MustWait shard → Readies shard false
  waits_here not must =
      looked rack area part pieces shard x (λ holds y. ReadyIs part false holds × SameBlocks x y) is (
        record {
          v = view_of part.number x;
          are = refl;
          there = refl;
          planned = λ runs. not (told_running shard.pass is.stands.is_in.pass runs);
          not_yet = λ may. must x.world may.0 is.stands.is_in may.1;
        },
        same_world x,
      )

  -- as it answers
  pub ready_goes : (new : Shard R A) (r : Result Unit NotYet) (b : Bool) → b ≡ is_ok r → (IsSomeAnd shard.pass (λ (p : Pass). p.running ≡ true) → ⊥) → Valid rack new → OnOk r (Does shard new Ready)
      → OnOk r ((pieces : Pieces) → ActsOn rack shard new Ready pieces) → SameKit shard new → SameReserve shard new → OnErr r (MustWait shard) → OnErr r (new ≡ shard) → Readies new b
  ready_goes new (Ok done) b told not valid does acts kit reserve must same = subst (Readies new) (sym told) (readied new valid does (acts pieces) kit reserve)
  ready_goes new (Err why) b told not valid does acts kit reserve must same = subst (Readies new) (sym told) (subst (λ s. Readies s false) (sym same) (waits_here not must))

-- a scrub that is there and runs
pub runs_of_heal : (o : Option Pass) → IsSomeAnd o (λ (p : Pass). p.kind ≡ Heal) → IsSomeAnd o (λ (p : Pass). p.running ≡ true) → IsSomeAnd o (IsRunningOf Heal)
runs_of_heal None heal runs = absurd heal
runs_of_heal (Some p) heal runs = record { kind_is = heal; running = runs }
