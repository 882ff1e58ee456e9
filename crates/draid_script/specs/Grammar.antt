use Rattle.std.specs.Prelude.{ℕ, ◌^◌, ◌+◌, ◌==◌, Bool, true, List, [], ◌∷◌, length, codes, Option, None, Some, Result, Ok, Err, if◌then◌else◌}
use Rattle.std.specs.Option.{ok_or}
use Rattle.std.specs.Str.{bytes_eq}
use Rattle.draid_names.specs.declared.numbers.TheConstants.{LONGEST_BLOCK, NUMBERS, OBJECTS}
use Rattle.draid_script.specs.declared.fault.LineFault.{LineFault}
use Rattle.draid_script.specs.declared.fault.LineFaultKind.TheVariants as why
use Rattle.draid_script.specs.declared.line.StatusFormat.TheVariants.{Text}
use Rattle.draid_script.specs.declared.name.CommandName.{CommandName}
use Rattle.draid_script.specs.declared.name.CommandName.TheVariants as name
use Rattle.draid_script.specs.Line.{Command, Silent, CreatePool, ImportPool, ExportPool, SyncPool, CancelPasses, CrashPool, WriteObject, FillObjects, ReadObject, FreeObject, SumObjects, TakeOffline, TakeOnline, DamageSector, AttachSpare, ReplaceDisk, DetachArm, RebuildPool, ScrubPool, RebalanceSlot, ShowStatus, OpenLanes, UpgradePool, RunAgent, ShowJournal, TakeCheckpoint, RewindPool, DiscardCheckpoint, LaneCommand, SectionEnd, SilentLane, InLane, most_lanes}
use Rattle.draid_script.specs.Fault.{fault, ◌>>=◌}
use Rattle.draid_script.specs.Field.{arm_at, block_at, count_at, format_at, number_at, number_in, object_at}
use Rattle.draid_script.specs.Keys.{keys_at}
use Rattle.draid_script.specs.Name.{is_for_lanes, name_of}
use Rattle.draid_script.specs.Word.{Placed, words_of}

-- Below, `end` is the length of the line, where a wrong count of words is said to be. The words of a command are
-- those behind its first.

-- `create SPEC N [key=value ..]`
abbrev pub create_of : ℕ → List Placed → Result Command LineFault
create_of end (spec ∷ children ∷ words) = do
  number ← number_in 0 (2 ^ 32) children
  keys ← keys_at words
  Ok (CreatePool spec.text number keys)
create_of end _ = Err (fault why.Count end)

-- a command without further words
abbrev pub alone : Command → ℕ → List Placed → Result Command LineFault
alone command end [] = Ok command
alone command end _ = Err (fault why.Count end)

-- one number below a limit
abbrev pub one_number : ℕ → ℕ → List Placed → Result ℕ LineFault
one_number limit end (word ∷ []) = number_in 0 limit word
one_number limit end _ = Err (fault why.Count end)

-- two numbers, each below a limit
abbrev pub two_numbers : ℕ → ℕ → ℕ → List Placed → Result (ℕ × ℕ) LineFault
two_numbers limit limit' end (word ∷ word' ∷ []) = do
  m ← number_in 0 limit word
  n ← number_in 0 limit' word'
  Ok (m, n)
two_numbers limit limit' end _ = Err (fault why.Count end)

-- at most one number, from 1 to 2^48 - 1
abbrev pub limit_at : ℕ → List Placed → Result (Option ℕ) LineFault
limit_at end [] = Ok None
limit_at end (word ∷ []) = number_in 1 NUMBERS word >>= λ n. Ok (Some n)
limit_at end _ = Err (fault why.Count end)

-- `write O HEX`
abbrev pub write_of : ℕ → List Placed → Result Command LineFault
write_of end (object ∷ hex ∷ []) = do
  number ← object_at object
  bytes ← block_at end hex
  Ok (WriteObject number bytes)
write_of end _ = Err (fault why.Count end)

-- `fill F C L X`
abbrev pub fill_of : ℕ → List Placed → Result Command LineFault
fill_of end (first ∷ count ∷ len ∷ seed ∷ []) = do
  f ← object_at first
  c ← count_at f count
  l ← number_in 1 (LONGEST_BLOCK + 1) len
  x ← number_at seed
  Ok (FillObjects f c l x)
fill_of end _ = Err (fault why.Count end)

-- `sum F C`
abbrev pub sum_of : ℕ → List Placed → Result Command LineFault
sum_of end (first ∷ count ∷ []) = do
  f ← object_at first
  c ← count_at f count
  Ok (SumObjects f c)
sum_of end _ = Err (fault why.Count end)

-- `replace S [X]`
abbrev pub replace_of : ℕ → List Placed → Result Command LineFault
replace_of end (slot ∷ []) = do
  s ← number_in 0 (2 ^ 32) slot
  Ok (ReplaceDisk s None)
replace_of end (slot ∷ sectors ∷ []) = do
  s ← number_in 0 (2 ^ 32) slot
  n ← number_in 0 NUMBERS sectors
  Ok (ReplaceDisk s (Some n))
replace_of end _ = Err (fault why.Count end)

-- `detach A`
abbrev pub detach_of : ℕ → List Placed → Result Command LineFault
detach_of end (word ∷ []) = do
  arm ← arm_at word
  Ok (DetachArm arm)
detach_of end _ = Err (fault why.Count end)

-- `status` and `status json`
abbrev pub status_of : ℕ → List Placed → Result Command LineFault
status_of end [] = Ok (ShowStatus Text)
status_of end (word ∷ []) = do
  format ← format_at word
  Ok (ShowStatus format)
status_of end _ = Err (fault why.Count end)

-- `lanes K`
abbrev pub lanes_of : ℕ → List Placed → Result Command LineFault
lanes_of end (word ∷ []) = do
  count ← number_in 1 (most_lanes + 1) word
  Ok (OpenLanes count)
lanes_of end _ = Err (fault why.Count end)

-- `agent N` and `agent log`
abbrev pub agent_of : ℕ → List Placed → Result Command LineFault
agent_of end (word ∷ []) =
    if bytes_eq word.text (codes "log") then Ok ShowJournal
    else (number_in 1 (2 ^ 32) word >>= λ least. Ok (RunAgent least))
agent_of end _ = Err (fault why.Count end)

-- `read O`
abbrev pub read_of : ℕ → List Placed → Result Command LineFault
read_of end words = one_number OBJECTS end words >>= λ object. Ok (ReadObject object)

-- `free O`
abbrev pub free_of : ℕ → List Placed → Result Command LineFault
free_of end words = one_number OBJECTS end words >>= λ object. Ok (FreeObject object)

-- `offline L`
abbrev pub offline_of : ℕ → List Placed → Result Command LineFault
offline_of end words = one_number NUMBERS end words >>= λ leaf. Ok (TakeOffline leaf)

-- `online L`
abbrev pub online_of : ℕ → List Placed → Result Command LineFault
online_of end words = one_number NUMBERS end words >>= λ leaf. Ok (TakeOnline leaf)

-- `damage L X`
abbrev pub damage_of : ℕ → List Placed → Result Command LineFault
damage_of end words = two_numbers NUMBERS (2 ^ 26) end words >>= λ p. Ok (DamageSector p.0 p.1)

-- `spare S T`
abbrev pub spare_of : ℕ → List Placed → Result Command LineFault
spare_of end words = two_numbers (2 ^ 32) (2 ^ 32) end words >>= λ p. Ok (AttachSpare p.0 p.1)

-- `rebuild [N]`
abbrev pub rebuild_of : ℕ → List Placed → Result Command LineFault
rebuild_of end words = limit_at end words >>= λ limit. Ok (RebuildPool limit)

-- `scrub [N]`
abbrev pub scrub_of : ℕ → List Placed → Result Command LineFault
scrub_of end words = limit_at end words >>= λ limit. Ok (ScrubPool limit)

-- `rebalance S`
abbrev pub rebalance_of : ℕ → List Placed → Result Command LineFault
rebalance_of end words = one_number (2 ^ 32) end words >>= λ slot. Ok (RebalanceSlot slot)

-- a command by its first word and the words behind it
unfoldable pub command_of : CommandName → ℕ → List Placed → Result Command LineFault
command_of name.Create end words = create_of end words
command_of name.Import end words = alone ImportPool end words
command_of name.Export end words = alone ExportPool end words
command_of name.Sync end words = alone SyncPool end words
command_of name.Cancel end words = alone CancelPasses end words
command_of name.Crash end words = alone CrashPool end words
command_of name.Write end words = write_of end words
command_of name.Fill end words = fill_of end words
command_of name.Read end words = read_of end words
command_of name.Free end words = free_of end words
command_of name.Sum end words = sum_of end words
command_of name.Offline end words = offline_of end words
command_of name.Online end words = online_of end words
command_of name.Damage end words = damage_of end words
command_of name.Spare end words = spare_of end words
command_of name.Replace end words = replace_of end words
command_of name.Detach end words = detach_of end words
command_of name.Rebuild end words = rebuild_of end words
command_of name.Scrub end words = scrub_of end words
command_of name.Rebalance end words = rebalance_of end words
command_of name.Status end words = status_of end words
command_of name.Lanes end words = lanes_of end words
command_of name.Upgrade end words = alone UpgradePool end words
command_of name.Agent end words = agent_of end words
command_of name.Checkpoint end words = alone TakeCheckpoint end words
command_of name.Rewind end words = alone RewindPool end words
command_of name.Discard end words = alone DiscardCheckpoint end words

-- the command whose first word it is
abbrev pub name_at : Placed → Result CommandName LineFault
name_at word = ok_or (name_of word.text) (fault why.Unknown word.at)

-- `end` stands in a section alone
abbrev pub is_end_word : Placed → Bool
is_end_word word = bytes_eq word.text (codes "end")

-- a line outside a section, by its words
abbrev pub outside : ℕ → List Placed → Result Command LineFault
outside end [] = Err (fault why.Unknown 0)
outside end (first ∷ words) =
    if is_end_word first then Err (fault why.Lane first.at)
    else (name_at first >>= λ name. command_of name end words)

-- an empty line, and a comment
abbrev pub is_silent : List ℕ → Bool
is_silent [] = true
is_silent (byte ∷ bytes) = byte == 35

-- what a line outside a section asks for, or its first fault
unfoldable pub line_of : List ℕ → Result Command LineFault
line_of text = if is_silent text then Ok Silent else outside (length text) (words_of text)

-- a command that may stand in a section
abbrev pub lane_name_at : Placed → Result CommandName LineFault
lane_name_at word =
    if is_end_word word then Err (fault why.Lane word.at)
    else (name_at word >>= λ name. if is_for_lanes name then Ok name else Err (fault why.Lane word.at))

abbrev pub lane_command_of : ℕ → ℕ → Placed → List Placed → Result LaneCommand LineFault
lane_command_of lane end first words = do
  name ← lane_name_at first
  command ← command_of name end words
  Ok (InLane lane command)

-- a line of a section by its words, of which the first is the lane's number
abbrev pub inside : ℕ → ℕ → List Placed → Result LaneCommand LineFault
inside lanes end [] = Err (fault why.Number 0)
inside lanes end (number ∷ []) = number_in 0 lanes number >>= λ lane. Err (fault why.Count end)
inside lanes end (number ∷ first ∷ words) = number_in 0 lanes number >>= λ lane. lane_command_of lane end first words

-- what a line of a section of so many lanes asks for, or its first fault
unfoldable pub lane_of : ℕ → List ℕ → Result LaneCommand LineFault
lane_of lanes text =
    if is_silent text then Ok SilentLane
    else if bytes_eq text (codes "end") then Ok SectionEnd
    else inside lanes (length text) (words_of text)
