-- A reader, which goes on to read up to the first fault.
use Rattle.std.specs.Prelude.{◌≡◌, ◌+◌, ⊤, ℕ, List, length, Option, Some, None, Result, Ok, Err}
use Rattle.draid_record.specs.declared.fault.Fault.{Fault}
use Rattle.draid_record.specs.declared.reader.Reader.{Reader}
use Rattle.draid_record.specs.Grammar.{Grammar}
use Rattle.draid_record.specs.Reading.{read, then_read}

-- the bytes that are still to be read, or the first fault
abbrev pub State : Type 0
State = Result (List ℕ) Fault

abbrev pub state_by : Option Fault → List ℕ → State
state_by None bytes = Ok bytes
state_by (Some fault) bytes = Err fault

abbrev pub state_of : Reader → State
state_of reader = state_by reader.fault reader.bytes.now

-- From one state to another a value was read by a grammar, or its first fault was met. Behind a fault the value says nothing.
pub record Reads {A : Type 0} (old new : State) (value : A) (grammar : Grammar A) : Type 0 where
  pub is : then_read old (read grammar) ≡ then_read new (λ rest. Ok (value, rest))

-- so many bytes were taken, unless there is a fault
abbrev pub Took : ℕ → State → State → Type 0
Took width old (Err fault) = ⊤
Took width (Ok bytes) (Ok rest) = length rest + width ≡ length bytes
Took width (Err fault) (Ok rest) = ⊥
