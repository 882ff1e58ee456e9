use Rattle.std.specs.Prelude.{◌≡◌, ◌≤◌, ⊤, ◌+◌, ◌-◌, ◌^◌, ◌&&◌, ℕ, Bool, true, false, List, Option, Result, MatchOption, OnOk, IsErrOf, option_map, nat_le, nat_lt, length, slice_range, slice_index_or, if◌then◌else◌}
use Rattle.std.specs.List.{splice}
use Rattle.draid_names.specs.Clocks.{tick}
use Rattle.draid_names.specs.Faults.{Rose}
use Rattle.draid_names.specs.declared.fault.DeviceFault.{DeviceFault}

-- What an area tells: its bytes, how many it had at the last flush, and, by offset, what is soft (written
-- since the last flush) and the clock at the last write there.
pub record Content : Type 0 where
  pub bytes : List ℕ
  pub firm : ℕ
  pub soft : ℕ → Bool
  pub since : ℕ → ℕ
  pub clock : ℕ

-- the offset is one of n from here on
abbrev pub within : ℕ → ℕ → ℕ → Bool
within at n i = nat_le at i && nat_lt i (at + n)

-- these bytes were written from here on
abbrev pub writes : ℕ → List ℕ → Content → Content
writes at bytes x = record {
  bytes = splice x.bytes at (at + length bytes) bytes;
  firm = x.firm;
  soft = λ i. if within at (length bytes) i then true else x.soft i;
  since = λ i. if within at (length bytes) i then tick x.clock else x.since i;
  clock = tick x.clock;
}

-- a write of n bytes from here on failed, and left those that stand there
abbrev pub tears : ℕ → ℕ → Content → Content
tears at n x = writes at (slice_range x.bytes at (at + n)) x

-- a write found no memory: nothing changed but the clock
abbrev pub waits : Content → Content
waits x = record { bytes = x.bytes; firm = x.firm; soft = x.soft; since = x.since; clock = tick x.clock }

abbrev pub flushes : Content → Content
flushes x = record {
  bytes = x.bytes;
  firm = length x.bytes;
  soft = λ _. false;
  since = x.since;
  clock = tick x.clock;
}

-- an area of these bytes that nothing was done to
abbrev pub begins : List ℕ → Content
begins bytes = record {
  bytes = bytes;
  firm = length bytes;
  soft = λ _. false;
  since = λ _. 0;
  clock = 0;
}

-- where it is told
abbrev pub OnTold : Option Content → (Content → Type 0) → Type 0
OnTold told P = MatchOption told ⊤ P

-- where it is told, these bytes stand from here on
abbrev pub Reads : Option Content → ℕ → List ℕ → Type 0
Reads told at bytes = OnTold told (λ x. bytes ≡ slice_range x.bytes at (at + length bytes))

-- A write that answered so, from within the area or its end on: at Ok of these bytes, else of any, and of
-- no more.
pub record Writes {E : Type 0} (at : ℕ) (bytes : List ℕ) (result : Result Unit E)
    (old new : Option Content) : Type 0 where
  pub stands : List ℕ
  pub whole : OnOk result (stands ≡ bytes)
  pub no_more : length stands ≤ length bytes
  pub inside : OnTold old (λ x. at ≤ length x.bytes)
  pub told : new ≡ option_map (writes at stands) old

-- The count of faults doesn't fall, and where the answer is that the device failed, it rose.
pub record Counts (result : Result Unit DeviceFault) (before now : ℕ) : Type 0 where
  pub later : before ≤ now
  pub cause : IsErrOf result DeviceFault.Failed → Rose before now

abbrev pub IsOrderly : Content → Type 0
IsOrderly x = (i : ℕ) → x.since i ≤ x.clock

pub record IsOfSize (size : ℕ) (x : Content) : Type 0 where
  pub bytes : length x.bytes ≡ size
  pub firm : x.firm ≤ length x.bytes

-- What a crash may leave: each byte that isn't soft, no fewer bytes than there were at the last flush, and
-- no more than there are.
pub record MayLeave (x : Content) (left : List ℕ) : Type 0 where
  pub same : (i d : ℕ) → x.soft i ≡ false → slice_index_or left i d ≡ slice_index_or x.bytes i d
  pub least : x.firm ≤ length left
  pub most : length left ≤ length x.bytes
