use Rattle.draid_import.proofs.Flushed.{bad_before, fault_before, none_before, pool_before}
use Rattle.draid_import.proofs.laws.finds_the_same_before_a_flush.Goals as goal

pub returns : goal.returns
returns g c = record {
  none = none_before;
  fault = λ x y leaves counts metaslab place kind same. fault_before g.R.Rack g.A.Area x y leaves counts same metaslab place kind;
  check = λ x y leaves counts place kind same. bad_before g.R.Rack g.A.Area x y leaves counts same place kind;
  pool = λ x y leaves counts group name objects same. pool_before g.R.Rack g.A.Area x y leaves counts same group name objects;
}
