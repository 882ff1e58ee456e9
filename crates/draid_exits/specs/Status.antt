use Rattle.std.specs.Prelude.{ℕ, ⊤, List, [], ◌++◌, codes}
use Rattle.std.specs.Fmt.{decimal}
use Rattle.draid_record.specs.Kind.{kind_number}
use Rattle.draid_script.specs.Fault as lines
use Rattle.draid_exits.specs.declared.status.RecordName.{RecordName}
use Rattle.draid_exits.specs.declared.status.RecordName.TheVariants.{Uber, Metaslab, Check}
use Rattle.draid_exits.specs.declared.status.Status.{Status}
use Rattle.draid_exits.specs.declared.status.Status.TheVariants.{Done, Usage, Line, SourceFault, SinkFault, NoMemory, TooLong, ShelfFault, Record}

-- the program's exit status
abbrev pub code_of : Status → ℕ
code_of Done = 0
code_of Usage = 1
code_of (Line line kind at) = 2
code_of SourceFault = 3
code_of SinkFault = 4
code_of NoMemory = 5
code_of (TooLong line) = 6
code_of ShelfFault = 7
code_of (Record name at kind) = 8

-- the status's line names a number
abbrev pub HasNumber : Status → Type 0
HasNumber (Line line kind at) = ⊤
HasNumber (TooLong line) = ⊤
HasNumber (Record name at kind) = ⊤
HasNumber status = ⊥

-- the line that is printed last where it names no number, its end included
abbrev pub fixed_text : Status → List ℕ
fixed_text Usage = codes "usage: dzpool session [--dir DIR] or dzpool workload NUMBER\n"
fixed_text SourceFault = codes "source fault\n"
fixed_text NoMemory = codes "no memory\n"
fixed_text ShelfFault = codes "shelf fault\n"
fixed_text status = []

-- which record it is
abbrev pub record_name : RecordName → List ℕ
record_name Uber = codes "uber"
record_name (Metaslab metaslab) = codes "metaslab=" ++ decimal metaslab
record_name Check = codes "check"

-- the line that is printed last, its end included
abbrev pub last_text : Status → List ℕ
last_text (Line line kind at) = codes "line " ++ (decimal line ++ (codes " fault=" ++ (decimal (lines.kind_number kind) ++ (codes " at=" ++ (decimal at ++ codes "\n")))))
last_text (TooLong line) = codes "line " ++ (decimal line ++ codes " too long\n")
last_text (Record name at kind) = codes "record " ++ (record_name name ++ (codes " at=" ++ (decimal at ++ (codes " kind=" ++ (decimal (kind_number kind) ++ codes "\n")))))
last_text status = fixed_text status
