use Rattle.draid_stable.proofs.Logs.{copied_small, settled_fits}
use Rattle.draid_stable.proofs.laws.written_logs_are_in_range.Goals as goal

pub returns : goal.returns
returns c = record {
  logs = λ head entries table pass last it new marks wrote made settled some clean short. settled_fits head entries table pass last it new marks wrote made settled some clean short;
  small = λ head entries table pass last it at arm made there. copied_small table it.slots.items made.slots_are at arm there;
}
