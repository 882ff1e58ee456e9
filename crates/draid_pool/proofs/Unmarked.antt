-- Where there is no checkpoint no group has one.
use Rattle.std.proofs.Common.{◌≡◌, ◌≤◌, ℕ, List, [], None, ap, refl, subst, sym}
use Rattle.std.specs.Prelude.{All}
use Rattle.std.proofs.lemmas.List.Elements.{All-contains, All-nil}
use Rattle.draid_machine.specs.declared.names.Held.{Held}
use Rattle.draid_machine.proofs.Small.{none_some}
use Rattle.draid_objects.specs.Marks.{Mark, check_by, mark_group}
use Rattle.draid_objects.specs.Stores.{AreMarkedUpto, IsBehindChecks, IsSpare}
use Rattle.draid_session.specs.Opening.{IsPointed}
use Rattle.draid_session.specs.Points.{HasLateMark, KeepsBirth}

pub all_spare : (group birth : ℕ) → IsSpare group [] birth
all_spare group birth t check less is = absurd (none_some None check refl is)

pub all_behind : (committed group : ℕ) → IsBehindChecks committed [] group
all_behind committed group t check less is = absurd (none_some None check refl is)

pub none_marked : (group : ℕ) → AreMarkedUpto group []
none_marked group = All-nil (λ m. mark_group m ≤ group)

-- nothing is kept by a checkpoint that isn't there
pub no_check : (marks : List Mark) (held : Held) → check_by marks ≡ None → IsPointed marks held → ⊥
no_check marks held none (check, there, low) = none_some (check_by marks) check none there

pub not_pointed : (marks : List Mark) (held : Held) → marks ≡ [] → IsPointed marks held → ⊥
not_pointed marks held none = no_check marks held (ap check_by none)

pub not_kept : (marks : List Mark) (birth : ℕ) → marks ≡ [] → KeepsBirth marks birth → ⊥
not_kept marks birth none (check, there, low) = none_some (check_by marks) check (ap check_by none) there

-- nothing befell it later
pub not_late : (committed : ℕ) (marks : List Mark) → marks ≡ [] → HasLateMark committed marks → ⊥
not_late committed marks none late = All-contains (λ (m : Mark). ⊥) marks late.mark (subst (All (λ (m : Mark). ⊥)) (sym none) (All-nil (λ (m : Mark). ⊥))) late.there
