use Rattle.std.proofs.Common.{◌≡◌, ℕ, ◌+◌, List, [], ◌∷◌, map, ap, Result, Ok}
use Rattle.draid_names.specs.declared.numbers.TheConstants.{LONGEST_BLOCK}
use Rattle.draid_script.specs.declared.fault.LineFault.{LineFault}
use Rattle.draid_script.specs.declared.word.Word.{Word}
use Rattle.draid_script.specs.Fault.{◌>>=◌}
use Rattle.draid_script.specs.Field.{count_at, number_at, number_in, object_at}
use Rattle.draid_script.specs.Grammar.{fill_of}
use Rattle.draid_script.specs.Line.{Command, command_in}
use Rattle.draid_script.specs.Word.{placed}
use Rattle.draid_script.proofs.CommandSteps.{fill_counted, fill_from, fill_long, fill_seeded}
use Rattle.draid_script.proofs.Steps.{four_of, then_err, then_ok}
use Rattle.draid_script.proofs.commands.fill.Goals as goal

steps_of : (end : ℕ) (words : List Word) (first many len seed : Word) → words ≡ first ∷ many ∷ len ∷ seed ∷ [] → fill_of end (map placed words) ≡ (object_at (placed first) >>= fill_from (placed many) (placed len) (placed seed))
steps_of end words first many len seed are = ap (λ ws. fill_of end (map placed ws)) are

counted : (read : Result Command LineFault) (first many len seed : Word) (f : ℕ) → read ≡ (object_at (placed first) >>= fill_from (placed many) (placed len) (placed seed)) → object_at (placed first) ≡ Ok f → read ≡ (count_at f (placed many) >>= fill_counted (placed len) (placed seed) f)
counted read first many len seed f steps gave = then_ok read (object_at (placed first)) (fill_from (placed many) (placed len) (placed seed)) f steps gave

long : (read : Result Command LineFault) (many len seed : Word) (f n : ℕ) → read ≡ (count_at f (placed many) >>= fill_counted (placed len) (placed seed) f) → count_at f (placed many) ≡ Ok n → read ≡ (number_in 1 (LONGEST_BLOCK + 1) (placed len) >>= fill_long (placed seed) f n)
long read many len seed f n steps gave = then_ok read (count_at f (placed many)) (fill_counted (placed len) (placed seed) f) n steps gave

seeded : (read : Result Command LineFault) (len seed : Word) (f n l : ℕ) → read ≡ (number_in 1 (LONGEST_BLOCK + 1) (placed len) >>= fill_long (placed seed) f n) → number_in 1 (LONGEST_BLOCK + 1) (placed len) ≡ Ok l → read ≡ (number_at (placed seed) >>= fill_seeded f n l)
seeded read len seed f n l steps gave = then_ok read (number_in 1 (LONGEST_BLOCK + 1) (placed len)) (fill_long (placed seed) f n) l steps gave

pub returns-in_err-first-in-len4-clause-value : goal.returns-in_err-first-in-len4-clause-value
returns-in_err-first-in-len4-clause-value c =
    let words = c.args.words.now in
    let first = c.first-item.result in
    let many = c.many-item.result in
    let len = c.len-item.result in
    let seed = c.seed-item.result in
    let steps = steps_of c.args.end words first many len seed (four_of words first many len seed c.in-len4.len_at_least c.in-len4.len_below c.first-item.is c.many-item.is c.len-item.is c.seed-item.is) in
    then_err command_in c.from_residual.result c.in_err-first-in-len4.field-0.0 _ (object_at (placed first)) (fill_from (placed many) (placed len) (placed seed)) steps c.from_residual.ensures.1 c.in_err-first-in-len4.ensures.value

pub returns-in_err-count-in-len4-clause-value : goal.returns-in_err-count-in-len4-clause-value
returns-in_err-count-in-len4-clause-value c =
    let words = c.args.words.now in
    let first = c.first-item.result in
    let many = c.many-item.result in
    let len = c.len-item.result in
    let seed = c.seed-item.result in
    let f = c.in_ok-first-in-len4.first in
    let steps = steps_of c.args.end words first many len seed (four_of words first many len seed c.in-len4.len_at_least c.in-len4.len_below c.first-item.is c.many-item.is c.len-item.is c.seed-item.is) in
    let more = counted _ first many len seed f steps c.in_ok-first-in-len4.ensures.value in
    then_err command_in c.from_residual-in_err-count-in-len4.result c.in_err-count-in-len4.field-0.0 _ (count_at f (placed many)) (fill_counted (placed len) (placed seed) f) more c.from_residual-in_err-count-in-len4.ensures.1 c.in_err-count-in-len4.ensures.value

pub returns-in_err-len-in-len4-clause-value : goal.returns-in_err-len-in-len4-clause-value
returns-in_err-len-in-len4-clause-value c =
    let words = c.args.words.now in
    let first = c.first-item.result in
    let many = c.many-item.result in
    let len = c.len-item.result in
    let seed = c.seed-item.result in
    let f = c.in_ok-first-in-len4.first in
    let n = c.in_ok-count-in-len4.count in
    let steps = steps_of c.args.end words first many len seed (four_of words first many len seed c.in-len4.len_at_least c.in-len4.len_below c.first-item.is c.many-item.is c.len-item.is c.seed-item.is) in
    let more = long _ many len seed f n (counted _ first many len seed f steps c.in_ok-first-in-len4.ensures.value) c.in_ok-count-in-len4.ensures.value in
    then_err command_in c.from_residual-in_err-len-in-len4.result c.in_err-len-in-len4.field-0.0 _ (number_in 1 (LONGEST_BLOCK + 1) (placed len)) (fill_long (placed seed) f n) more c.from_residual-in_err-len-in-len4.ensures.1 c.in_err-len-in-len4.ensures.value

pub returns-in_err-seed-in-len4-clause-value : goal.returns-in_err-seed-in-len4-clause-value
returns-in_err-seed-in-len4-clause-value c =
    let words = c.args.words.now in
    let first = c.first-item.result in
    let many = c.many-item.result in
    let len = c.len-item.result in
    let seed = c.seed-item.result in
    let f = c.in_ok-first-in-len4.first in
    let n = c.in_ok-count-in-len4.count in
    let l = c.in_ok-len-in-len4.field-0 in
    let steps = steps_of c.args.end words first many len seed (four_of words first many len seed c.in-len4.len_at_least c.in-len4.len_below c.first-item.is c.many-item.is c.len-item.is c.seed-item.is) in
    let more = seeded _ len seed f n l (long _ many len seed f n (counted _ first many len seed f steps c.in_ok-first-in-len4.ensures.value) c.in_ok-count-in-len4.ensures.value) c.in_ok-len-in-len4.ensures.value in
    then_err command_in c.from_residual-in_err-seed-in-len4.result c.in_err-seed-in-len4.field-0.0 _ (number_at (placed seed)) (fill_seeded f n l) more c.from_residual-in_err-seed-in-len4.ensures.1 c.in_err-seed-in-len4.ensures

pub returns-in_ok-seed-in-len4-clause-value : goal.returns-in_ok-seed-in-len4-clause-value
returns-in_ok-seed-in-len4-clause-value c =
    let words = c.args.words.now in
    let first = c.first-item.result in
    let many = c.many-item.result in
    let len = c.len-item.result in
    let seed = c.seed-item.result in
    let f = c.in_ok-first-in-len4.first in
    let n = c.in_ok-count-in-len4.count in
    let l = c.in_ok-len-in-len4.field-0 in
    let steps = steps_of c.args.end words first many len seed (four_of words first many len seed c.in-len4.len_at_least c.in-len4.len_below c.first-item.is c.many-item.is c.len-item.is c.seed-item.is) in
    let more = seeded _ len seed f n l (long _ many len seed f n (counted _ first many len seed f steps c.in_ok-first-in-len4.ensures.value) c.in_ok-count-in-len4.ensures.value) c.in_ok-len-in-len4.ensures.value in
    then_ok _ (number_at (placed seed)) (fill_seeded f n l) c.in_ok-seed-in-len4.seed more c.in_ok-seed-in-len4.ensures
