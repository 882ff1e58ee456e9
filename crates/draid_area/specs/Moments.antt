use Rattle.std.specs.Prelude.{◌≡◌, ◌<◌, ◌≤◌, ◌+◌, ⊤, ℕ, Bool, false, nat_lt, List, Option, None, MatchOption, IsTrue, length, slice_index_or}
use Rattle.std.specs.List.{splice}
use Rattle.draid_area.specs.Area.{Content, MayLeave}
use Rattle.draid_names.specs.Clocks.{last_clock}

-- an offset that wasn't written between two states
pub record Stays (x y : Content) (i : ℕ) : Type 0 where
  pub byte : (d : ℕ) → slice_index_or x.bytes i d ≡ slice_index_or y.bytes i d
  pub soft : IsTrue (y.soft i) → IsTrue (x.soft i)
  pub since : x.since i ≡ y.since i

-- What time does: x is at one moment, y at the same or a later one. An offset whose clock isn't later than
-- x's has stayed as it was.
pub record Goes (x y : Content) : Type 0 where
  pub later : x.clock ≤ y.clock
  pub firm : x.firm ≤ y.firm
  pub grown : length x.bytes ≤ length y.bytes
  pub same : (i : ℕ) → y.since i ≤ x.clock → y.since i < last_clock → Stays x y i

-- what the area may have told at a moment between two
pub record Between (x m y : Content) : Type 0 where
  pub after : Goes x m
  pub before : Goes m y

-- What is left has each offset that isn't named, and wasn't soft, as it was.
pub record Keeps (named : ℕ → Bool) (x y : Content) (left : List ℕ) : Type 0 where
  pub same : (i d : ℕ) → named i ≡ false → x.soft i ≡ false
      → slice_index_or left i d ≡ slice_index_or x.bytes i d
  pub least : x.firm ≤ length left
  pub most : length left ≤ length y.bytes

-- Whatever a crash at some moment between two leaves keeps the offsets that aren't named.
abbrev pub CrashKeeps : (ℕ → Bool) → Content → Content → Type 0
CrashKeeps named x y =
    x.clock < last_clock → (m : Content) → Between x m y
    → (left : List ℕ) → MayLeave m left → Keeps named x y left

-- At each moment between two, a crash leaves each offset that wasn't written since the first, and wasn't soft then, as
-- it was; no fewer bytes than outlast a crash at the first, and no more than there are at the second.
abbrev pub KeptSince : Content → Content → Type 0
KeptSince x y =
    x.clock < last_clock → (m : Content) → Between x m y → (left : List ℕ) → MayLeave m left
    → Keeps (λ i. nat_lt x.clock (y.since i)) x y left

-- Time went from x to y, and this is known of the moments between them.
pub record Elapses (x y : Content) : Type 0 where
  pub goes : Goes x y
  pub kept : KeptSince x y

-- what was told is told, and this is known of the moments between
abbrev pub ElapsesTold : Option Content → Option Content → Type 0
ElapsesTold old new = MatchOption old (new ≡ None) (λ x. MatchOption new ⊥ (λ y. Elapses x y))

-- whatever a crash at y leaves is what a write of these bytes from here on made of x
abbrev pub LeavesWritten : ℕ → List ℕ → Content → Content → Type 0
LeavesWritten at bytes x y =
    (left : List ℕ) → MayLeave y left → left ≡ splice x.bytes at (at + length bytes) bytes

-- Another state, in which only the offsets named were written. Softness may have ended elsewhere.
pub record ChangesOnly (named : ℕ → Bool) (x y : Content) : Type 0 where
  pub later : x.clock ≤ y.clock
  pub bytes : (i d : ℕ) → named i ≡ false → slice_index_or y.bytes i d ≡ slice_index_or x.bytes i d
  pub since : (i : ℕ) → named i ≡ false → y.since i ≡ x.since i
  pub soft : (i : ℕ) → named i ≡ false → IsTrue (y.soft i) → IsTrue (x.soft i)

-- before and after, where they are told
abbrev pub OnBoth : Option Content → Option Content → (Content → Content → Type 0) → Type 0
OnBoth old new P = MatchOption old ⊤ (λ x. MatchOption new ⊤ (λ y. P x y))

-- what was told is told, and only the offsets named were written
abbrev pub ChangesOnlyTold : (ℕ → Bool) → Option Content → Option Content → Type 0
ChangesOnlyTold named old new = MatchOption old (new ≡ None) (λ x. MatchOption new ⊥ (λ y. ChangesOnly named x y))

-- an area after a crash: it reads what the crash left, all of it outlasts a further one, and the clocks stand where they
-- stood
pub record IsCrashOutcome (x y : Content) : Type 0 where
  pub left : MayLeave x y.bytes
  pub firm : y.firm ≡ length y.bytes
  pub soft : (i : ℕ) → y.soft i ≡ false
  pub since : (i : ℕ) → y.since i ≡ x.since i
  pub clock : y.clock ≡ x.clock

-- what was told is told, after a crash
abbrev pub CrashesTold : Option Content → Option Content → Type 0
CrashesTold old new = MatchOption old (new ≡ None) (λ x. MatchOption new ⊥ (λ y. IsCrashOutcome x y))
