-- How the files of a pool are named.
use Rattle.std.specs.Prelude.{◌++◌, ℕ, List, codes}
use Rattle.std.specs.Fmt.{decimal}
use Rattle.draid_files.specs.declared.name.Groups.{Groups}
use Rattle.draid_files.specs.declared.name.Groups.TheVariants.{Even, Odd}
use Rattle.draid_files.specs.declared.name.FileName.{FileName}
use Rattle.draid_files.specs.declared.name.FileName.TheVariants.{Uber, UberCopy, Check, Records, Leaf}

abbrev pub groups_text : Groups → List ℕ
groups_text Even = codes "even"
groups_text Odd = codes "odd"

abbrev pub name_text : FileName → List ℕ
name_text Uber = codes "uber"
name_text UberCopy = codes "uber-copy"
name_text (Check groups) = codes "check-" ++ groups_text groups
name_text (Records metaslab groups) = codes "m" ++ (decimal metaslab ++ (codes "-" ++ groups_text groups))
name_text (Leaf metaslab leaf) = codes "m" ++ (decimal metaslab ++ (codes "-leaf-" ++ decimal leaf))
