use Rattle.std.proofs.Common.{◌≡◌, ℕ, List, [], ◌∷◌, map, ap}
use Rattle.draid_script.specs.declared.word.Word.{Word}
use Rattle.draid_script.specs.Fault.{◌>>=◌}
use Rattle.draid_script.specs.Field.{count_at, object_at}
use Rattle.draid_script.specs.Grammar.{sum_of}
use Rattle.draid_script.specs.Line.{command_in}
use Rattle.draid_script.specs.Word.{placed}
use Rattle.draid_script.proofs.CommandSteps.{sum_counted, sum_from}
use Rattle.draid_script.proofs.Steps.{then_err, then_ok, two_of}
use Rattle.draid_script.proofs.commands.sum.Goals as goal

steps_of : (end : ℕ) (words : List Word) (first many : Word) → words ≡ first ∷ many ∷ [] → sum_of end (map placed words) ≡ (object_at (placed first) >>= sum_from (placed many))
steps_of end words first many are = ap (λ ws. sum_of end (map placed ws)) are

pub returns-in_err-first-in-len2-clause-value : goal.returns-in_err-first-in-len2-clause-value
returns-in_err-first-in-len2-clause-value c =
    let words = c.args.words.now in
    let first = c.first-item.result in
    let many = c.many-item.result in
    let steps = steps_of c.args.end words first many (two_of words first many c.in-len2.len_at_least c.in-len2.len_below c.first-item.is c.many-item.is) in
    then_err command_in c.from_residual.result c.in_err-first-in-len2.field-0.0 _ (object_at (placed first)) (sum_from (placed many)) steps c.from_residual.ensures.1 c.in_err-first-in-len2.ensures.value

pub returns-in_err-count-in-len2-clause-value : goal.returns-in_err-count-in-len2-clause-value
returns-in_err-count-in-len2-clause-value c =
    let words = c.args.words.now in
    let first = c.first-item.result in
    let many = c.many-item.result in
    let f = c.in_ok-first-in-len2.first in
    let steps = steps_of c.args.end words first many (two_of words first many c.in-len2.len_at_least c.in-len2.len_below c.first-item.is c.many-item.is) in
    let more = then_ok _ (object_at (placed first)) (sum_from (placed many)) f steps c.in_ok-first-in-len2.ensures.value in
    then_err command_in c.from_residual-in_err-count-in-len2.result c.in_err-count-in-len2.field-0.0 _ (count_at f (placed many)) (sum_counted f) more c.from_residual-in_err-count-in-len2.ensures.1 c.in_err-count-in-len2.ensures.value

pub returns-in_ok-count-in-len2-clause-value : goal.returns-in_ok-count-in-len2-clause-value
returns-in_ok-count-in-len2-clause-value c =
    let words = c.args.words.now in
    let first = c.first-item.result in
    let many = c.many-item.result in
    let f = c.in_ok-first-in-len2.first in
    let steps = steps_of c.args.end words first many (two_of words first many c.in-len2.len_at_least c.in-len2.len_below c.first-item.is c.many-item.is) in
    let more = then_ok _ (object_at (placed first)) (sum_from (placed many)) f steps c.in_ok-first-in-len2.ensures.value in
    then_ok _ (count_at f (placed many)) (sum_counted f) c.in_ok-count-in-len2.count more c.in_ok-count-in-len2.ensures.value
