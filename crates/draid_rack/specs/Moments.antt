use Rattle.std.specs.Prelude.{◌≡◌, ◌<◌, ◌≤◌, ⊤, ℕ, Bool, false, List, Option, Some, None, MatchOption, IsTrue, option_map, length}
use Rattle.draid_rack.specs.Rack.{Told}
use Rattle.draid_names.specs.Clocks.{last_clock}

-- a sector that wasn't changed between two states
pub record Stays (x y : Told) (l s : ℕ) (bytes : List ℕ) : Type 0 where
  pub reads : x.reads l s ≡ Some bytes
  pub soft : IsTrue (y.soft l s) → IsTrue (x.soft l s)
  pub harmed : IsTrue (y.harmed l s) → IsTrue (x.harmed l s)
  pub since : x.since l s ≡ y.since l s

-- What time does: x is at one moment, y at the same or a later one. A sector whose clock isn't later than
-- x's has stayed as it was.
pub record Goes (x y : Told) : Type 0 where
  pub later : x.clock ≤ y.clock
  pub same : (l s : ℕ) (bytes : List ℕ) → y.reads l s ≡ Some bytes
      → y.since l s ≤ x.clock → y.since l s < last_clock → Stays x y l s bytes

-- what the rack may have told at a moment between two
pub record Between (x m y : Told) : Type 0 where
  pub after : Goes x m
  pub before : Goes m y

pub record Keeps (x m : Told) (l s : ℕ) (bytes : List ℕ) : Type 0 where
  pub reads : m.reads l s ≡ Some bytes
  pub soft : IsTrue (m.soft l s) → IsTrue (x.soft l s)
  pub harmed : IsTrue (m.harmed l s) → IsTrue (x.harmed l s)

-- At each moment between two, each sector that isn't named read what it read before, and was soft or harmed
-- only if it was so before.
abbrev pub KeptOthers : (ℕ → ℕ → Bool) → Told → Told → Type 0
KeptOthers named x y =
    x.clock < last_clock → (m : Told) → Between x m y → (l s : ℕ) (bytes : List ℕ)
    → named l s ≡ false → x.reads l s ≡ Some bytes → Keeps x m l s bytes

-- At each moment between two, each sector that wasn't changed since the first read what it reads at the second,
-- and was soft or harmed only if it was so at the first.
abbrev pub KeptSince : Told → Told → Type 0
KeptSince x y =
    x.clock < last_clock → (m : Told) → Between x m y → (l s : ℕ) (bytes : List ℕ)
    → y.reads l s ≡ Some bytes → y.since l s ≤ x.clock → Keeps x m l s bytes

-- Time went from x to y, and this is known of the moments between them.
pub record Elapses (x y : Told) : Type 0 where
  pub goes : Goes x y
  pub kept : KeptSince x y

-- Another state, in which only the sectors named were changed. Harm and softness may have ended elsewhere.
pub record ChangesOnly (named : ℕ → ℕ → Bool) (x y : Told) : Type 0 where
  pub later : x.clock ≤ y.clock
  pub reads : (l s : ℕ) → named l s ≡ false → y.reads l s ≡ x.reads l s
  pub since : (l s : ℕ) → named l s ≡ false → y.since l s ≡ x.since l s
  pub soft : (l s : ℕ) → named l s ≡ false → IsTrue (y.soft l s) → IsTrue (x.soft l s)
  pub harmed : (l s : ℕ) → named l s ≡ false → IsTrue (y.harmed l s) → IsTrue (x.harmed l s)

-- Another state, in which only the sectors named were changed, and harm elsewhere is as it was. Softness may have ended
-- elsewhere.
pub record Leaves (named : ℕ → ℕ → Bool) (x y : Told) : Type 0 where
  pub only : ChangesOnly named x y
  pub harm : (l s : ℕ) → named l s ≡ false → y.harmed l s ≡ x.harmed l s

-- what was told is told, and this is known of it
abbrev pub LeavesTold : (ℕ → ℕ → Bool) → Option Told → Option Told → Type 0
LeavesTold named old new = MatchOption old (new ≡ None) (λ x. MatchOption new ⊥ (λ y. Leaves named x y))

-- before and after, where they are told
abbrev pub OnBoth : Option Told → Option Told → (Told → Told → Type 0) → Type 0
OnBoth old new P = MatchOption old ⊤ (λ x. MatchOption new ⊤ (λ y. P x y))

-- what was told is told, and only the sectors named were changed
abbrev pub ChangesOnlyTold : (ℕ → ℕ → Bool) → Option Told → Option Told → Type 0
ChangesOnlyTold named old new = MatchOption old (new ≡ None) (λ x. MatchOption new ⊥ (λ y. ChangesOnly named x y))

-- What a crash may leave of what a rack told: what isn't soft stays; what is soft reads any bytes of the
-- same length; harm stays, nothing is soft, and the clocks stand where they stood.
pub record IsCrashOutcome (x y : Told) : Type 0 where
  pub firm : (l s : ℕ) → x.soft l s ≡ false → y.reads l s ≡ x.reads l s
  pub long : (l s : ℕ) → option_map length (y.reads l s) ≡ option_map length (x.reads l s)
  pub harmed : (l s : ℕ) → y.harmed l s ≡ x.harmed l s
  pub soft : (l s : ℕ) → y.soft l s ≡ false
  pub since : (l s : ℕ) → y.since l s ≡ x.since l s
  pub clock : y.clock ≡ x.clock

-- what was told is told, after a crash
abbrev pub CrashesTold : Option Told → Option Told → Type 0
CrashesTold old new = MatchOption old (new ≡ None) (λ x. MatchOption new ⊥ (λ y. IsCrashOutcome x y))

-- After a crash at any moment between two, each sector that isn't named, and wasn't soft before, reads what
-- it read before, and is harmed only if it was so before.
abbrev pub CrashKeepsOthers : (ℕ → ℕ → Bool) → Told → Told → Type 0
CrashKeepsOthers named x y =
    x.clock < last_clock → (m : Told) → Between x m y → (left : Told) → IsCrashOutcome m left
    → (l s : ℕ) (bytes : List ℕ) → named l s ≡ false → x.soft l s ≡ false → x.reads l s ≡ Some bytes
    → (left.reads l s ≡ Some bytes) × (IsTrue (left.harmed l s) → IsTrue (x.harmed l s))

-- what was told is told, and this is known of the moments between
abbrev pub ElapsesTold : Option Told → Option Told → Type 0
ElapsesTold old new = MatchOption old (new ≡ None) (λ x. MatchOption new ⊥ (λ y. Elapses x y))
