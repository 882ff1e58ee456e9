use Rattle.std.specs.Prelude.{Some, true, codes}
use Rattle.clap.specs.Words.{App, Rule, new_app, new_rule, with_rule}

-- what the run is to do
abbrev pub mode : Rule
mode = record (new_rule (codes "mode")) { required = true }

-- the number of a workload
abbrev pub number : Rule
number = new_rule (codes "number")

-- the folder that a pool's files are in
abbrev pub dir : Rule
dir = record (new_rule (codes "dir")) { long = Some (codes "dir") }

-- the words behind the program's name, with no help and no version
abbrev pub bare : App
bare =
    let plain = new_app (codes "dzpool") in
    record plain { top = record (plain.top) { no_binary_name = true; disable_help_flag = true; disable_version_flag = true } }

-- the command line: `MODE [NUMBER] [--dir DIR]`
abbrev pub command_line : App
command_line = with_rule (with_rule (with_rule bare mode) number) dir
