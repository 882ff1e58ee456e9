use Rattle.draid_words.proofs.Samples.{nothing, no_number, no_such_number, two_numbers, number_of_session, folder_of_workload, two_folders, no_folder, help}
use Rattle.draid_words.proofs.laws.other_words_are_refused.Goals as goal

pub returns : goal.returns
returns c = record {
  nothing = nothing;
  no_number = no_number;
  no_such_number = no_such_number;
  two_numbers = two_numbers;
  number_of_session = number_of_session;
  folder_of_workload = folder_of_workload;
  two_folders = two_folders;
  no_folder = no_folder;
  help = help;
}
