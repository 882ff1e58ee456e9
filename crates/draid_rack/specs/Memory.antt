use Rattle.std.specs.Prelude.{◌≡◌, ◌==◌, ℕ, List, Option, Some, option_map, if◌then◌else◌}
use Rattle.draid_faults.specs.declared.calls.Calls.{Calls}
use Rattle.draid_faults.specs.declared.crash.CrashRule.{CrashRule}
use Rattle.draid_rack.specs.declared.memory.MemoryRack.{MemoryRack}
use Rattle.draid_rack.specs.Leaves.{bytes_of, faults_by, shape_by, told_of, view_at}
use Rattle.draid_rack.specs.Sectors.{View, left_of}
use Rattle.draid_rack.specs.Rack.{Shape, Told, complement, put}

-- its calls that can fail, and which of them do
abbrev pub calls_of : MemoryRack → Calls
calls_of rack = rack.calls

abbrev pub shape_of_memory : MemoryRack → Shape
shape_of_memory rack = shape_by rack.bytes rack.leaves

abbrev pub told_by_memory : MemoryRack → Option Told
told_by_memory rack = Some (told_of (view_at rack.leaves) rack.clock)

abbrev pub faults_of_memory : MemoryRack → Option ℕ → ℕ
faults_of_memory rack = faults_by rack.leaves rack.own_faults

abbrev pub reads_of : MemoryRack → ℕ → ℕ → Option (List ℕ)
reads_of rack l s = bytes_of (view_at rack.leaves l s)

-- what each sector read at its leaf's last flush
abbrev pub kept_of : MemoryRack → ℕ → ℕ → Option (List ℕ)
kept_of rack l s = option_map (λ (x : View). x.kept) (view_at rack.leaves l s)

-- what was flushed stays
abbrev pub KeepsFlushed : MemoryRack → MemoryRack → Type 0
KeepsFlushed old new = (l s : ℕ) → kept_of new l s ≡ kept_of old l s

-- what was flushed on the other leaves stays
abbrev pub KeepsFlushedBut : ℕ → MemoryRack → MemoryRack → Type 0
KeepsFlushedBut leaf old new = (l s : ℕ) → (l ≡ leaf → ⊥) → kept_of new l s ≡ kept_of old l s

-- what the sectors of a leaf read is flushed
abbrev pub Flushes : ℕ → MemoryRack → MemoryRack → Type 0
Flushes leaf old new = (l s : ℕ) → kept_of new l s ≡ (if l == leaf then reads_of old l s else kept_of old l s)

-- what a sector read at its leaf's last flush is its complement
abbrev pub DamagesFlushed : ℕ → ℕ → MemoryRack → MemoryRack → Type 0
DamagesFlushed leaf sector old new =
    (l s : ℕ) → kept_of new l s ≡ put leaf sector (complement (kept_of old leaf sector)) (kept_of old) l s

-- what a sector reads after a crash by this rule, of which this is known
abbrev pub LeavesByRule : CrashRule → MemoryRack → MemoryRack → Type 0
LeavesByRule rule old new =
    (l s : ℕ) → reads_of new l s ≡ option_map (left_of rule) (view_at old.leaves l s)
