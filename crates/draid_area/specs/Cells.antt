use Rattle.std.specs.Prelude.{◌≡◌, ◌≤◌, ◌<◌, ◌+◌, ℕ, Bool, true, false, List, All, length, slice_index_or, ◌⊎◌, ◌-◌, if◌then◌else◌}
use Rattle.std.specs.List.{list_any}
use Rattle.draid_faults.specs.declared.crash.CrashRule.{CrashRule}
use Rattle.draid_faults.specs.declared.crash.CrashRule.TheVariants.{Old, New, Torn, Half}
use Rattle.draid_area.specs.declared.cells.Span.{Span}
use Rattle.draid_area.specs.Area.{Content, within}

-- some span has this offset
abbrev pub covers : List Span → ℕ → Bool
covers spans i = list_any (λ (span : Span). within span.start span.len i) spans

-- each span lies within so many offsets
abbrev pub AreInside : ℕ → List Span → Type 0
AreInside len spans = All (λ (span : Span). span.start + span.len ≤ len) spans

-- the clock of an offset. One that was never written has 0
abbrev pub clock_at : List ℕ → ℕ → ℕ
clock_at since i = slice_index_or since i 0

abbrev pub AreUpTo : ℕ → List ℕ → Type 0
AreUpTo clock since = (i : ℕ) → clock_at since i ≤ clock

-- a write failed at this offset
abbrev pub is_torn : List Bool → ℕ → Bool
is_torn torn i = slice_index_or torn i false

-- it was written since the last flush, or a write failed there
abbrev pub is_soft : List Span → List Bool → ℕ → Bool
is_soft spans torn i = if covers spans i then true else is_torn torn i

-- what an area of these parts tells
abbrev pub told_by : List ℕ → ℕ → List Span → List Bool → List ℕ → ℕ → Content
told_by bytes firm unflushed torn since clock = record {
  bytes = bytes;
  firm = firm;
  soft = is_soft unflushed torn;
  since = clock_at since;
  clock = clock;
}

-- the byte at an offset, 0 where there is none
abbrev pub byte_at : List ℕ → ℕ → ℕ
byte_at bytes i = slice_index_or bytes i 0

-- The parts of an area fit together: what wasn't written since the last flush is as it was then; what came
-- since was written; and what was written lies within.
pub record IsSound (bytes flushed : List ℕ) (firm : ℕ) (unflushed : List Span) : Type 0 where
  pub kept : firm ≤ length bytes
  pub long : length bytes ≤ length flushed
  pub same : (i : ℕ) → covers unflushed i ≡ false → byte_at flushed i ≡ byte_at bytes i
  pub grown : (i : ℕ) → firm ≤ i → i < length bytes → covers unflushed i ≡ true
  pub inside : AreInside (length bytes) unflushed

-- there is a mark and a clock for each byte
pub record HasMarks (bytes : List ℕ) (torn : List Bool) (since : List ℕ) : Type 0 where
  pub marks : length bytes ≤ length torn
  pub clocks : length bytes ≤ length since

-- how long an area is after a crash, which was so long at the last flush and is so long
abbrev pub length_by : CrashRule → ℕ → ℕ → ℕ
length_by Old firm len = firm
length_by rule firm len = len

-- what a crash by this rule leaves of a byte that was written since the last flush, in place of the one that
-- stood there
abbrev pub LeavesByte : CrashRule → ℕ → ℕ → ℕ → Type 0
LeavesByte Old was written left = left ≡ was
LeavesByte New was written left = left ≡ written
LeavesByte Torn was written left = left ≡ 255 - written
LeavesByte Half was written left = (left ≡ was) ⊎ (left ≡ written)

-- what a crash by this rule makes of the byte that a failed write left, in place of the one that comes of the writes before it
abbrev pub torn_by : CrashRule → ℕ → ℕ → ℕ
torn_by Torn written mid = 255 - written
torn_by rule written mid = mid
