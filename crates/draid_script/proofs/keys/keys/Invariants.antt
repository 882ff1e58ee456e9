use Rattle.std.proofs.Common.{◌≡◌, drop, map}
use Rattle.draid_script.specs.Keys.{given_by, nothing_given}
use Rattle.draid_script.specs.Word.{placed}
use Rattle.draid_script.proofs.keys.keys.Given as goal

-- the keys so far, and with the words that are left, are all of them
abbrev pub invariant-loop-word : goal.invariant-loop-word
invariant-loop-word l = given_by l.given (map placed (drop l.word-index l.words)) ≡ given_by nothing_given (map placed l.words)
