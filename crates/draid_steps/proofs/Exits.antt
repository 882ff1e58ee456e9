-- What a ticket's step says of the ticket that was found.
use Rattle.std.proofs.Common.{◌≡◌, ◌<◌, ◌≤◌, ◌∙◌, ℕ, Bool, true, false, nat_lt, List, Option, Some, if◌then◌else◌, ap, arith, subst, sym}
use Rattle.std.proofs.lemmas.Bool.Decides.{nat_tests}
use Rattle.draid_machine.specs.After.{finish_state, gone_state, live_state}
use Rattle.draid_machine.specs.State.{Layout, State}
use Rattle.draid_machine.specs.Step.{PutStep}
use Rattle.draid_machine.specs.declared.names.ArmName.{ArmName}
use Rattle.draid_machine.specs.declared.names.Held.{Held}
use Rattle.draid_machine.specs.declared.names.Key.{Key}
use Rattle.draid_machine.specs.declared.names.Stage.{Stage}
use Rattle.draid_machine.specs.declared.names.Stage.TheVariants.{Freed, Live, Writing}
use Rattle.draid_machine.proofs.Small.{some_same}
use Rattle.draid_steps.specs.Columns.{MayLand}

abbrev columns_of : Stage → ℕ
columns_of (Writing c m) = c
columns_of Live = 0
columns_of (Freed g) = 0

-- a key has one ticket, with so many columns put
pub one_ticket : (o : Option Held) (h i : Held) (c m d n : ℕ) → o ≡ Some h → h.stage ≡ Writing c m → o ≡ Some i → i.stage ≡ Writing d n → c ≡ d
one_ticket o h i c m d n a x b y = ap columns_of (sym x ∙ ap (λ (k : Held). k.stage) (some_same o h i a b) ∙ y)

pub past_last : (o : Option Held) (h i : Held) (c m d n g : ℕ) → o ≡ Some h → h.stage ≡ Writing c m → g ≤ c → o ≡ Some i → i.stage ≡ Writing d n → d < g → ⊥
past_last o h i c m d n g a x past b y less = let same = one_ticket o h i c m d n a x b y in omega (arith, same, past, less)

pub may_step : (l : Layout) (w : State) (key : Key) (landed : List ArmName) (failed : List ℕ) (new : State) (step : PutStep l w key landed failed new) (h : Held) (c m : ℕ)
    → w.core.held key ≡ Some h → h.stage ≡ Writing c m → MayLand l w.core h c landed failed
may_step l w key landed failed new step h c m found stage =
    let base : MayLand l w.core step.h step.c landed failed = record { listed = step.listed; lands = step.lands; fail = step.fail } in
    subst (λ x. MayLand l w.core x c landed failed) (some_same (w.core.held key) step.h h step.found found)
    (subst (λ x. MayLand l w.core step.h x landed failed) (one_ticket (w.core.held key) step.h h step.c step.m c m step.found step.stage found stage) base)

-- with more columns missed than the parity a ticket goes, else it is a block
below : (x y : ℕ) → x < y → nat_lt x y ≡ true
below x y less = grind (arith, nat_tests)

not_below : (x y : ℕ) → y ≤ x → nat_lt x y ≡ false
not_below x y least = grind (arith, nat_tests)

pub finish_gone : (l : Layout) (w : State) (k : Key) (h : Held) (m : ℕ) → l.parity < m → gone_state w k ≡ finish_state l w k h m
finish_gone l w k h m less = sym (ap (λ b. if b then gone_state w k else live_state w k h) (below l.parity m less))

pub finish_live : (l : Layout) (w : State) (k : Key) (h : Held) (m : ℕ) → m ≤ l.parity → live_state w k h ≡ finish_state l w k h m
finish_live l w k h m least = sym (ap (λ b. if b then gone_state w k else live_state w k h) (not_below l.parity m least))
