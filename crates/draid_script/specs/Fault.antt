use Rattle.std.specs.Prelude.{◌≡◌, ℕ, Result, Ok, Err}
use Rattle.draid_script.specs.declared.fault.LineFault.{LineFault}
use Rattle.draid_script.specs.declared.fault.LineFaultKind.{LineFaultKind}
use Rattle.draid_script.specs.declared.fault.LineFaultKind.TheVariants as why
use Rattle.draid_script.specs.declared.fault.ParseFault.{ParseFault}
use Rattle.draid_script.specs.declared.fault.ParseFault.TheVariants as refused

-- the number by which a kind of fault is printed
abbrev pub kind_number : LineFaultKind → ℕ
kind_number why.Unknown = 1
kind_number why.Count = 2
kind_number why.Number = 3
kind_number why.Hex = 4
kind_number why.Range = 5
kind_number why.Lane = 6

-- a fault of a kind, at a place of the line
abbrev pub fault : LineFaultKind → ℕ → LineFault
fault kind at = record { kind = kind; at = at }

-- the second step, where the first gave a value
infixl 10 ◌>>=◌
abbrev pub ◌>>=◌ : {A B : Type 0} → Result A LineFault → (A → Result B LineFault) → Result B LineFault
(Ok x) >>= f = f x
(Err e) >>= f = Err e

-- What a function refused is the fault that reading gives, unless memory ran out.
abbrev pub Refuses : {Y : Type 0} → ParseFault → Result Y LineFault → Type 0
Refuses refused.NoMemory read = Unit {0}
Refuses (refused.Line line_fault) read = read ≡ Err line_fault

-- What a function returned, seen by view, is what reading gives, unless memory ran out.
abbrev pub Gives : {X Y : Type 0} → (X → Y) → Result X ParseFault → Result Y LineFault → Type 0
Gives view (Ok x) read = read ≡ Ok (view x)
Gives view (Err e) read = Refuses e read
