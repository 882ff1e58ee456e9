use Rattle.std.specs.Prelude.{ℕ, Option, Some, length, ◌≡◌, ◌<◌, true}
use Rattle.draid_faults.specs.declared.calls.Calls.{Calls}
use Rattle.draid_faults.specs.declared.crash.CrashRule.{CrashRule}
use Rattle.draid_area.specs.Area.{Content}
use Rattle.draid_area.specs.Cells.{LeavesByte, byte_at, is_soft, length_by, told_by}
use Rattle.draid_area.specs.declared.memory.MemoryArea.{MemoryArea}

-- its calls that can fail, and which of them do
abbrev pub calls_of : MemoryArea → Calls
calls_of area = area.calls

abbrev pub size_of_memory : MemoryArea → ℕ
size_of_memory area = length area.bytes.items

abbrev pub faults_of_memory : MemoryArea → ℕ
faults_of_memory area = area.faults

abbrev pub told_by_memory : MemoryArea → Option Content
told_by_memory area = Some (told_by area.bytes.items area.firm area.unflushed.items area.torn.items area.since.items area.clock)

-- the byte that stood at an offset at the last flush
abbrev pub kept_of : MemoryArea → ℕ → ℕ
kept_of area i = byte_at area.flushed.items i

-- what was flushed stays
abbrev pub KeepsFlushed : MemoryArea → MemoryArea → Type 0
KeepsFlushed old new = (i : ℕ) → kept_of new i ≡ kept_of old i

-- all that it reads is flushed
abbrev pub Flushes : MemoryArea → MemoryArea → Type 0
Flushes old new = (i : ℕ) → kept_of new i ≡ byte_at old.bytes.items i

-- what it reads after a crash by this rule
pub record LeavesByRule (rule : CrashRule) (old new : MemoryArea) : Type 0 where
  pub long : size_of_memory new ≡ length_by rule old.firm (size_of_memory old)
  pub left : (i : ℕ) → i < size_of_memory new → is_soft old.unflushed.items old.torn.items i ≡ true
      → LeavesByte rule (kept_of old i) (byte_at old.bytes.items i) (byte_at new.bytes.items i)
