use Rattle.draid_import.proofs.OneAnswer.{none_no_fault, none_no_pool, pool_no_fault, same_fault, same_pool}
use Rattle.draid_import.proofs.OneCheck.{fault_no_check, none_no_check, pool_no_check, same_check}
use Rattle.draid_import.proofs.laws.imports_find_one_thing.Goals as goal

pub returns : goal.returns
returns g c = record {
  none_no_fault = λ x leaves counts. none_no_fault g.R.Rack g.A.Area x leaves counts;
  none_no_check = λ x leaves counts. none_no_check g.R.Rack g.A.Area x leaves counts;
  none_no_pool = λ x leaves counts. none_no_pool g.R.Rack g.A.Area x leaves counts;
  pool_no_fault = λ x leaves counts group name objects metaslab place kind known. pool_no_fault g.R.Rack g.A.Area x leaves counts known group name objects metaslab place kind;
  pool_no_check = λ x leaves counts group name objects place kind known. pool_no_check g.R.Rack g.A.Area x leaves counts known group name objects place kind;
  fault_no_check = λ x leaves counts metaslab «at» which place kind known. fault_no_check g.R.Rack g.A.Area x leaves counts known metaslab «at» which place kind;
  one_fault = λ x leaves counts metaslab also place kind «at» which known. same_fault g.R.Rack g.A.Area x leaves counts known metaslab also place kind «at» which;
  one_check = λ x leaves counts place kind «at» which known. same_check g.R.Rack g.A.Area x leaves counts known place «at» kind which;
  one_pool = λ x leaves counts group other name called objects many known. same_pool g.R.Rack g.A.Area x leaves counts known group other name called objects many;
}
