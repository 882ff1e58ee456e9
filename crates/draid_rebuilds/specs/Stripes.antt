use Rattle.std.specs.Prelude.{◌≡◌, ◌+◌, ◌&&◌, not, ℕ, true, List, count_by, if◌then◌else◌}
use Rattle.draid_names.specs.declared.pass_kind.PassKind.TheVariants.{Rebuild}
use Rattle.draid_machine.specs.declared.names.Held.{Held}
use Rattle.draid_machine.specs.Names.{has_number}
use Rattle.draid_machine.specs.State.{Layout, Core, Pass, Loan, State}
use Rattle.draid_machine.specs.After.{is_mended, is_source_aside, lose_targets, misses_stripe}
use Rattle.draid_machine.specs.Arms.{fails}
use Rattle.draid_machine.specs.Step.{Counts}
use Rattle.draid_rebuilds.specs.Landings.{MayMend}

-- a loan of a rebuild that may land while calls fail on some leaves
pub record MayLandStripe (l : Layout) (w : State) (pass serial : ℕ) (failed : List ℕ) (h : Held) : Type 0 where
  pub p : Pass
  pub n : Loan
  pub counts : Counts w pass serial p n h
  pub rebuild : p.kind ≡ Rebuild
  pub fail : (leaf : ℕ) → has_number failed leaf ≡ true → MayMend l w.core p n leaf

-- the state with a loan's stripe written, and the pass behind it
abbrev pub mended_state : Layout → State → Pass → Loan → Held → List ℕ → State
mended_state l w p n h failed = record w {
  present = (λ s. if is_mended l w.core p n h s then not (fails l w.core failed s.arm n.stripe) else w.present s);
  aside = (λ s. if is_mended l w.core p n h s then is_source_aside l w n s && not (fails l w.core failed s.arm n.stripe) else w.aside s);
}

abbrev pub mended_pass : Layout → Core → Pass → ℕ → List ℕ → Pass
mended_pass l q p x failed =
    let bad = misses_stripe l q x failed in
    record (lose_targets bad (count_by bad p.targets) p) { next = x + 1 }
