-- The steps of the commands that read more than two words.
use Rattle.std.proofs.Common.{ℕ, ◌+◌, List, None, Some, Result, Ok}
use Rattle.draid_names.specs.declared.numbers.TheConstants.{LONGEST_BLOCK, NUMBERS}
use Rattle.draid_script.specs.declared.fault.LineFault.{LineFault}
use Rattle.draid_script.specs.declared.line.PoolKeys.{PoolKeys}
use Rattle.draid_script.specs.Fault.{◌>>=◌}
use Rattle.draid_script.specs.Field.{count_at, number_at, number_in}
use Rattle.draid_script.specs.Keys.{keys_at}
use Rattle.draid_script.specs.Line.{Command, CreatePool, FillObjects, ReplaceDisk, SumObjects}
use Rattle.draid_script.specs.Word.{Placed}

-- `fill`, by what was read already
abbrev pub fill_seeded : ℕ → ℕ → ℕ → ℕ → Result Command LineFault
fill_seeded first count len seed = Ok (FillObjects first count len seed)

abbrev pub fill_long : Placed → ℕ → ℕ → ℕ → Result Command LineFault
fill_long seed first count len = number_at seed >>= fill_seeded first count len

abbrev pub fill_counted : Placed → Placed → ℕ → ℕ → Result Command LineFault
fill_counted len seed first count = number_in 1 (LONGEST_BLOCK + 1) len >>= fill_long seed first count

abbrev pub fill_from : Placed → Placed → Placed → ℕ → Result Command LineFault
fill_from count len seed first = count_at first count >>= fill_counted len seed first

-- `create`, by what was read already
abbrev pub create_keyed : List ℕ → ℕ → PoolKeys → Result Command LineFault
create_keyed spec children keys = Ok (CreatePool spec children keys)

abbrev pub create_counted : List ℕ → List Placed → ℕ → Result Command LineFault
create_counted spec words children = keys_at words >>= create_keyed spec children

-- `replace`, by what was read already
abbrev pub replace_alone : ℕ → Result Command LineFault
replace_alone slot = Ok (ReplaceDisk slot None)

abbrev pub replace_sized : ℕ → ℕ → Result Command LineFault
replace_sized slot sectors = Ok (ReplaceDisk slot (Some sectors))

abbrev pub replace_slot : Placed → ℕ → Result Command LineFault
replace_slot sectors slot = number_in 0 NUMBERS sectors >>= replace_sized slot

-- `sum`, by what was read already
abbrev pub sum_counted : ℕ → ℕ → Result Command LineFault
sum_counted first count = Ok (SumObjects first count)

abbrev pub sum_from : Placed → ℕ → Result Command LineFault
sum_from count first = count_at first count >>= sum_counted first
