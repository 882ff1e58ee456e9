-- The steps of a commit, each one write and one flush.
use Rattle.std.specs.Prelude.{◌≡◌, ◌≤◌, ◌<◌, ◌+◌, ◌⊎◌, ℕ, false, List, Option, None, MatchOption, Result, OnOk, length, option_map, slice_index_or}
use Rattle.std.specs.List.{splice}
use Rattle.draid_area.specs.Area.{Content, MayLeave, flushes, within}
use Rattle.draid_record.specs.declared.uber.UberBody.{UberBody}
use Rattle.draid_uber.specs.Slots.{HasKept, area_bytes, base_of, is_open, slot_bytes, slot_in}

abbrev pub byte : List ℕ → ℕ → ℕ
byte bytes i = slice_index_or bytes i 0

-- all of it outlasts a crash
pub record IsFirm (x : Content) : Type 0 where
  pub soft : (i : ℕ) → x.soft i ≡ false
  pub firm : x.firm ≡ length x.bytes

-- bytes that differ from these only in n bytes from a place on, and are no fewer
pub record IsBeside (at n : ℕ) (bytes left : List ℕ) : Type 0 where
  pub same : (i : ℕ) → within at n i ≡ false → byte left i ≡ byte bytes i
  pub long : length bytes ≤ length left

-- Bytes were written over firm ones and flushed. Whatever a crash leaves differs there alone; on Ok it has the bytes.
pub record Puts {E : Type 0} (at : ℕ) (bytes : List ℕ) (result : Result Unit E) (x y : Content) : Type 0 where
  pub beside : (left : List ℕ) → MayLeave y left → IsBeside at (length bytes) x.bytes left
  pub firm : OnOk result (IsFirm y)
  pub whole : OnOk result (y.bytes ≡ splice x.bytes at (at + length bytes) bytes)

abbrev pub PutsTold : {E : Type 0} → ℕ → List ℕ → Result Unit E → Option Content → Option Content → Type 0
PutsTold at bytes result old new =
    MatchOption old (new ≡ None) (λ x. IsFirm x → MatchOption new ⊥ (λ y. Puts at bytes result x y))

-- the committed body is in its slot, and this one is shut
pub record IsShut (kept : Option UberBody) (slot : ℕ) (x : Content) : Type 0 where
  pub firm : IsFirm x
  pub long : area_bytes ≤ length x.bytes
  pub kept_is : HasKept kept x.bytes
  pub shut : is_open (slot_in slot x.bytes) ≡ false

-- besides, these bytes stand behind the gate
pub record IsFilled (kept : Option UberBody) (slot : ℕ) (bytes : List ℕ) (x : Content) : Type 0 where
  pub shut : IsShut kept slot x
  pub behind : (i : ℕ) → 1 ≤ i → i < slot_bytes → byte x.bytes (base_of slot + i) ≡ byte bytes i

-- an area was left alone, or flushed
abbrev pub IsSameOrFlushed : Option Content → Option Content → Type 0
IsSameOrFlushed old new = (new ≡ old) ⊎ (new ≡ option_map flushes old)
