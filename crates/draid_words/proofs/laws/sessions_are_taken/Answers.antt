use Rattle.draid_words.proofs.Samples.{apart, apart_before, folder, folder_before, memory}
use Rattle.draid_words.proofs.laws.sessions_are_taken.Goals as goal

pub returns : goal.returns
returns c = record {
  memory = memory;
  folder = folder;
  apart = apart;
  apart_before = apart_before;
  before = folder_before;
}
