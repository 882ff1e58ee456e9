use Rattle.std.proofs.Common.{◌≡◌, ℕ, List, [], ◌∷◌, map, ap}
use Rattle.draid_names.specs.declared.numbers.TheConstants.{NUMBERS}
use Rattle.draid_script.specs.declared.word.Word.{Word}
use Rattle.draid_script.specs.Fault.{◌>>=◌}
use Rattle.draid_script.specs.Field.{number_in, short_at}
use Rattle.draid_script.specs.Grammar.{replace_of}
use Rattle.draid_script.specs.Line.{command_in}
use Rattle.draid_script.specs.Word.{placed}
use Rattle.draid_script.proofs.CommandSteps.{replace_alone, replace_sized, replace_slot}
use Rattle.draid_script.proofs.Steps.{one_of, then_err, then_ok, two_of}
use Rattle.draid_script.proofs.commands.replace.Goals as goal

step_of : (end : ℕ) (words : List Word) (slot : Word) → words ≡ slot ∷ [] → replace_of end (map placed words) ≡ (short_at (placed slot) >>= replace_alone)
step_of end words slot are = ap (λ ws. replace_of end (map placed ws)) are

steps_of : (end : ℕ) (words : List Word) (slot sectors : Word) → words ≡ slot ∷ sectors ∷ [] → replace_of end (map placed words) ≡ (short_at (placed slot) >>= replace_slot (placed sectors))
steps_of end words slot sectors are = ap (λ ws. replace_of end (map placed ws)) are

pub returns-in_ok-slot-in-len1-clause-value : goal.returns-in_ok-slot-in-len1-clause-value
returns-in_ok-slot-in-len1-clause-value c =
    let words = c.args.words.now in
    let slot = c.slot-item.result in
    let step = step_of c.args.end words slot (one_of words slot c.in-len1.len_at_least c.in-len1.len_below c.slot-item.is) in
    then_ok _ (short_at (placed slot)) replace_alone c.in_ok-slot-in-len1.slot step c.in_ok-slot-in-len1.ensures

pub returns-in_err-slot-in-len1-clause-value : goal.returns-in_err-slot-in-len1-clause-value
returns-in_err-slot-in-len1-clause-value c =
    let words = c.args.words.now in
    let slot = c.slot-item.result in
    let step = step_of c.args.end words slot (one_of words slot c.in-len1.len_at_least c.in-len1.len_below c.slot-item.is) in
    then_err command_in c.from_residual.result c.in_err-slot-in-len1.field-0.0 _ (short_at (placed slot)) replace_alone step c.from_residual.ensures.1 c.in_err-slot-in-len1.ensures

pub returns-in_err-slot-in-len2-clause-value : goal.returns-in_err-slot-in-len2-clause-value
returns-in_err-slot-in-len2-clause-value c =
    let words = c.args.words.now in
    let slot = c.slot-item-then-words-lt3.result in
    let sectors = c.sectors-item.result in
    let steps = steps_of c.args.end words slot sectors (two_of words slot sectors c.in-len2.len_at_least c.in-len2.len_below c.slot-item-then-words-lt3.is c.sectors-item.is) in
    then_err command_in c.from_residual-in_err-slot-in-len2.result c.in_err-slot-in-len2.field-0.0 _ (short_at (placed slot)) (replace_slot (placed sectors)) steps c.from_residual-in_err-slot-in-len2.ensures.1 c.in_err-slot-in-len2.ensures

pub returns-in_err-sectors-in-len2-clause-value : goal.returns-in_err-sectors-in-len2-clause-value
returns-in_err-sectors-in-len2-clause-value c =
    let words = c.args.words.now in
    let slot = c.slot-item-then-words-lt3.result in
    let sectors = c.sectors-item.result in
    let s = c.in_ok-slot-in-len2.slot in
    let steps = steps_of c.args.end words slot sectors (two_of words slot sectors c.in-len2.len_at_least c.in-len2.len_below c.slot-item-then-words-lt3.is c.sectors-item.is) in
    let more = then_ok _ (short_at (placed slot)) (replace_slot (placed sectors)) s steps c.in_ok-slot-in-len2.ensures in
    then_err command_in c.from_residual-in_err-sectors-in-len2.result c.in_err-sectors-in-len2.field-0.0 _ (number_in 0 NUMBERS (placed sectors)) (replace_sized s) more c.from_residual-in_err-sectors-in-len2.ensures.1 c.in_err-sectors-in-len2.ensures.value

pub returns-in_ok-sectors-in-len2-clause-value : goal.returns-in_ok-sectors-in-len2-clause-value
returns-in_ok-sectors-in-len2-clause-value c =
    let words = c.args.words.now in
    let slot = c.slot-item-then-words-lt3.result in
    let sectors = c.sectors-item.result in
    let s = c.in_ok-slot-in-len2.slot in
    let steps = steps_of c.args.end words slot sectors (two_of words slot sectors c.in-len2.len_at_least c.in-len2.len_below c.slot-item-then-words-lt3.is c.sectors-item.is) in
    let more = then_ok _ (short_at (placed slot)) (replace_slot (placed sectors)) s steps c.in_ok-slot-in-len2.ensures in
    then_ok _ (number_in 0 NUMBERS (placed sectors)) (replace_sized s) c.in_ok-sectors-in-len2.sectors more c.in_ok-sectors-in-len2.ensures.value
