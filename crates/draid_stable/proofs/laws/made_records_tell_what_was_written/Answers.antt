use Rattle.draid_stable.proofs.Born.{born_written, none_written}
use Rattle.draid_stable.proofs.laws.made_records_tell_what_was_written.Goals as goal

pub returns : goal.returns
returns c = record {
  yes = λ head entries table pass last it q made are any. born_written entries head.group it.blocks.items made.blocks_are q are.held any;
  no = λ head entries table pass last it q made are none written. none_written entries head.group it.blocks.items made.blocks_are q are.held none written;
}
