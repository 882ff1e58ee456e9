use Rattle.draid_files.specs.Shelves.{AreMade}
use Rattle.draid_files.proofs.making.make_kits.Given as goal

abbrev pub invariant-loop-metaslab : goal.invariant-loop-metaslab
invariant-loop-metaslab l = AreMade l.geometry l.metaslab l.kits
