use Rattle.std.specs.Prelude.{◌≡◌, ◌+◌, ◌||◌, ℕ, Bool, List, length}
use Rattle.draid_names.specs.declared.pass_kind.PassKind.TheVariants.{Heal}
use Rattle.draid_machine.specs.declared.names.Held.{Held}
use Rattle.draid_machine.specs.declared.event.Patched.{Patched}
use Rattle.draid_machine.specs.State.{Layout, Core, Pass, Loan, State}
use Rattle.draid_machine.specs.After.{aside_after, has_healed, lose_targets, misses_block}
use Rattle.draid_machine.specs.Step.{Counts, LandsBlock}

-- a loan of a scrub that may land so
pub record MayLandBlock (l : Layout) (w : State) (pass serial : ℕ) (failed : List ℕ) (patched : List Patched) (unreadable : Bool) (h : Held) : Type 0 where
  pub p : Pass
  pub n : Loan
  pub counts : Counts w pass serial p n h
  pub heal : p.kind ≡ Heal
  pub lands : LandsBlock l w.core h failed patched unreadable

-- the state with a block's segments written, and the pass behind it
abbrev pub healed_state : Layout → State → Loan → Held → List Patched → Bool → State
healed_state l w n h patched whole = record w {
  present = (λ s. w.present s || has_healed l w.core n h patched s);
  aside = aside_after l w n h patched whole;
}

abbrev pub healed_pass : Layout → Core → Pass → Held → List ℕ → Pass
healed_pass l q p h failed = record (lose_targets (misses_block l q h failed) (length failed) p) { next = h.first + h.stripes }
