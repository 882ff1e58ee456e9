use Rattle.std.proofs.Common.{◌≡◌, Bool}
use Rattle.std.specs.List.{list_any}
use Rattle.draid_machine.specs.declared.names.Key.{Key}
use Rattle.draid_machine.specs.declared.names.Held.{Held}
use Rattle.draid_images.specs.Seals.{is_written}
use Rattle.draid_images.proofs.seals.has_written.Given as goal

abbrev pub invariant-loop-found : goal.invariant-loop-found
invariant-loop-found l =
    let test : Key × Held → Bool = λ e. is_written l.group e.1 in
    list_any test l.held.entries ≡ list_any test l.found-iterator
