-- The texts of the repair agent.
use Rattle.std.specs.Prelude.{ℕ, List, [], ◌++◌, codes, Option, None, Some}
use Rattle.std.specs.Fmt.{decimal}
use Rattle.std.specs.List.{flat_map}
use Rattle.draid_names.specs.declared.journal.Cause.{Cause}
use Rattle.draid_names.specs.declared.journal.Cause.TheVariants.{Offline, Logged}
use Rattle.draid_names.specs.declared.journal.Did.{Did}
use Rattle.draid_names.specs.declared.journal.Did.TheVariants.{Spared, NoneFree}
use Rattle.draid_names.specs.declared.journal.Entry.{Entry}
use Rattle.draid_reply.specs.declared.reply.AgentErrors.{AgentErrors}

-- the name of a spare
abbrev spare_of : ℕ → ℕ → List ℕ
spare_of parity spare = codes "draid" ++ (decimal parity ++ (codes "-0-" ++ decimal spare))

-- what a slot got
abbrev pub given_of : ℕ → Did → List ℕ
given_of parity (Spared spare) = spare_of parity spare
given_of parity NoneFree = codes "none"

-- a slot, and what it got
abbrev pub act_of : ℕ → Entry → List ℕ
act_of parity entry = codes " " ++ (decimal entry.slot ++ (codes "=" ++ given_of parity entry.did))

-- the errors of the passes, where they were made
abbrev pub errors_of : Option AgentErrors → List ℕ
errors_of None = []
errors_of (Some errors) = codes " rebuild errors=" ++ (decimal errors.rebuild ++ (codes " scrub errors=" ++ decimal errors.scrub))

-- the slots that were due with what each of them got, and the errors of the passes
abbrev pub acted_of : ℕ → List Entry → Option AgentErrors → List ℕ
acted_of parity entries passes = codes "agent" ++ (flat_map (act_of parity) entries ++ (errors_of passes ++ codes "\n"))

-- why a slot was due, and what was done for it
abbrev pub cause_of : Cause → List ℕ
cause_of Offline = codes "offline"
cause_of (Logged groups) = codes "logged=" ++ decimal groups

abbrev pub did_of : ℕ → Did → List ℕ
did_of parity (Spared spare) = codes "spared " ++ spare_of parity spare
did_of parity NoneFree = codes "none"

-- the line of an entry, and those of a journal
abbrev pub line_of : ℕ → Entry → List ℕ
line_of parity entry =
    codes "agent " ++ (decimal entry.number ++ (codes " slot " ++ (decimal entry.slot ++ (codes " "
    ++ (cause_of entry.cause ++ (codes " " ++ (did_of parity entry.did ++ codes "\n")))))))

abbrev pub journal_of : ℕ → List Entry → List ℕ
journal_of parity entries = flat_map (line_of parity) entries ++ codes "end\n"
