use Rattle.std.proofs.Common.{◌∙◌, ap}
use Rattle.draid_script.specs.Word.{number_of}
use Rattle.draid_script.proofs.Joined.{number_again}
use Rattle.draid_script.proofs.Numbers.{decimal_of_number}
use Rattle.draid_script.proofs.laws.numbers_are_decimal.Goals as goal

pub returns : goal.returns
returns c word n = (decimal_of_number word n, λ said. ap number_of said.1 ∙ number_again n said.0)
