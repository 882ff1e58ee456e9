use Rattle.draid_stable.proofs.Ranged.{made_ranged, settled_ranged}
use Rattle.draid_stable.proofs.laws.made_records_are_in_range.Goals as goal

pub returns : goal.returns
returns c = record {
  made = λ limits head entries table pass last it made of fit logs. made_ranged limits head entries table pass last it made of fit logs;
  settled = λ limits head entries table pass last it new marks wrote made of fit settled logs. settled_ranged limits head entries table pass last it made of fit new marks wrote settled logs;
}
