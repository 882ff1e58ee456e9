-- Reading from left to right, with the first fault that is met.
use Rattle.std.specs.Prelude.{◌≡◌, ◌+◌, ◌-◌, ◌&&◌, ℕ, nat_le, nat_lt, List, length, take, drop, Result, Ok, Err, if◌then◌else◌}
use Rattle.byteorder.specs.Endian.{big_number}
use Rattle.draid_record.specs.declared.fault.Fault.{Fault}
use Rattle.draid_record.specs.declared.fault.RecordFault.{RecordFault}
use Rattle.draid_record.specs.declared.fault.RecordFaultKind.TheVariants as why
use Rattle.draid_record.specs.declared.fault.RecordFault.TheVariants as faults
use Rattle.draid_record.specs.Grammar.{Grammar, Done, Number, Bytes, Check}

-- a field that is cut, and one that is out of its range, by how many bytes are left from it on
abbrev pub cut : ℕ → Fault
cut left = record { left = left; kind = why.Cut }

abbrev pub range : ℕ → Fault
range left = record { left = left; kind = why.Range }

-- more bytes than are spelled
abbrev pub goes_on : ℕ → Fault
goes_on left = record { left = left; kind = why.Trailing }

-- what is read behind something that was read
abbrev pub then_read : {A B : Type 0} → Result A Fault → (A → Result B Fault) → Result B Fault
then_read (Ok x) f = f x
then_read (Err e) f = Err e

-- a number and the bytes behind it
abbrev pub number_at : ℕ → ℕ → ℕ → List ℕ → Result (ℕ × List ℕ) Fault
number_at width low high bytes =
    if nat_lt (length bytes) width then Err (cut (length bytes))
    else if nat_le low (big_number width bytes) && nat_le (big_number width bytes) high then Ok (big_number width bytes, drop width bytes)
    else Err (range (length bytes))

abbrev pub bytes_at : ℕ → List ℕ → Result (List ℕ × List ℕ) Fault
bytes_at width bytes = if nat_lt (length bytes) width then Err (cut (length bytes)) else Ok (take width bytes, drop width bytes)

-- what a grammar finds at the front of bytes, with the bytes behind it, or the first fault
unfoldable pub read : {A : Type 0} → Grammar A → List ℕ → Result (A × List ℕ) Fault
read (Done x) bytes = Ok (x, bytes)
read (Number width low high next) bytes = then_read (number_at width low high bytes) (λ n. read (next n.0) n.1)
read (Bytes width next) bytes = then_read (bytes_at width bytes) (λ front. read (next front.0) front.1)
read (Check holds back next) bytes = if holds then read next bytes else Err (range (length bytes + back))

-- What a function returned, seen by view, is what reading gives.
abbrev pub Tells : {X Y : Type 0} → (X → Y) → Result X Fault → Result Y Fault → Type 0
Tells view (Ok x) found = found ≡ Ok (view x)
Tells view (Err f) found = found ≡ Err f

-- a fault by its place in a text of so many bytes
abbrev pub placed : ℕ → Fault → RecordFault
placed len fault = faults.Bad (len - fault.left) fault.kind
