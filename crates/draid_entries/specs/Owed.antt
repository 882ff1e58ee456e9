-- How many events the blocks and tickets, the pass, the loan and the closing group of a metaslab may still add.
use Rattle.std.specs.Prelude.{◌≡◌, ◌+◌, ◌-◌, ℕ, List, [], ◌∷◌, Option, Some, None, Contains, if◌then◌else◌}
use Rattle.draid_names.specs.declared.pass_kind.PassKind.TheVariants.{Rebuild, Heal}
use Rattle.draid_machine.specs.declared.names.Key.{Key}
use Rattle.draid_machine.specs.declared.names.Held.{Held}
use Rattle.draid_machine.specs.declared.names.Stage.{Stage}
use Rattle.draid_machine.specs.declared.names.Stage.TheVariants.{Writing, Live, Freed}
use Rattle.draid_machine.specs.State.{Core, Image, Loan, Pass, State}

-- a ticket owes one for each column that isn't put, one for its end and one for the freeing of its block; a live block owes one for that
abbrev pub owed_in : ℕ → Stage → ℕ
owed_in columns (Writing put missed) = columns - put + 2
owed_in columns Live = 1
owed_in columns (Freed group) = 0

-- what the blocks and tickets of these keys owe, each key once
abbrev pub OwedByKeys : ℕ → Core → List Key → ℕ → Type 0
OwedByKeys columns q [] owed = owed ≡ 0
OwedByKeys columns q (key ∷ keys) owed =
    (h : Held) × (more : ℕ) × (q.held key ≡ Some h) × (Contains keys key → ⊥) × OwedByKeys columns q keys more × (owed ≡ owed_in columns h.stage + more)

-- what all blocks and tickets owe
pub record OwedByBlocks (columns : ℕ) (q : Core) (owed : ℕ) : Type 0 where
  pub keys : List Key
  pub all : (key : Key) (h : Held) → q.held key ≡ Some h → Contains keys key
  pub are : OwedByKeys columns q keys owed

-- a rebuild that runs owes its end, and every other pass one event besides
abbrev pub owed_by_pass : Option Pass → ℕ
owed_by_pass None = 0
owed_by_pass (Some p) = elim p.kind as (λ k. ℕ) [ Rebuild ↦ if p.running then 1 else 2 | Heal ↦ 2 ]

abbrev pub owed_by_loan : Option Loan → ℕ
owed_by_loan None = 0
owed_by_loan (Some n) = 1

-- a closing group owes its commit, and before that its sealing
abbrev pub owed_by_group : Option ℕ → Option Image → ℕ
owed_by_group None sealed = 0
owed_by_group (Some t) None = 2
owed_by_group (Some t) (Some image) = 1

-- so many events are owed in a state
pub record IsOwed (columns : ℕ) (w : State) (owed : ℕ) : Type 0 where
  pub blocks : ℕ
  pub by_blocks : OwedByBlocks columns w.core blocks
  pub is : owed ≡ blocks + owed_by_pass w.core.pass + owed_by_loan w.loan + owed_by_group w.closing w.sealed
