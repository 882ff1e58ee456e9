use Rattle.std.proofs.Common.{◌≡◌, ◌-◌, ◌<◌, ℕ, List, [], ◌∷◌, length, drop, take, map, refl, sym, ap, ◌∙◌, arith, Err}
use Rattle.draid_script.specs.declared.word.Word.{Word}
use Rattle.draid_script.specs.declared.fault.LineFaultKind.TheVariants as why
use Rattle.draid_script.specs.Fault.{fault, ◌>>=◌}
use Rattle.draid_script.specs.Field.{short_at}
use Rattle.draid_script.specs.Grammar.{create_of}
use Rattle.draid_script.specs.Keys.{keys_at}
use Rattle.draid_script.specs.Line.{command_in}
use Rattle.draid_script.specs.Word.{placed}
use Rattle.draid_script.proofs.CommandSteps.{create_counted, create_keyed}
use Rattle.draid_script.proofs.Steps.{front_of, no_memory, refuses_all, then_err, then_ok}
use Rattle.draid_script.proofs.commands.create.Goals as goal

-- the words behind the first two
abbrev rest : List Word → List Word
rest words = take (length words - 2) (drop 2 words)

steps_of : (end : ℕ) (words : List Word) (spec children : Word) → words ≡ spec ∷ children ∷ rest words → create_of end (map placed words) ≡ (short_at (placed children) >>= create_counted spec.text.now (map placed (rest words)))
steps_of end words spec children are = ap (λ ws. create_of end (map placed ws)) are

too_few : (end : ℕ) (words : List Word) → length words < 2 → create_of end (map placed words) ≡ Err (fault why.Count end)
too_few end [] few = refl
too_few end (spec ∷ []) few = refl
too_few end (spec ∷ children ∷ words) few = absurd (omega (arith, few))

pub returns-in_default-clause-value : goal.returns-in_default-clause-value
returns-in_default-clause-value c = refuses_all c.line.result _ _ c.line.ensures (too_few c.args.end c.args.words.now c.in_default.len_below)

pub returns-in_err-children-in-len2-up-clause-value : goal.returns-in_err-children-in-len2-up-clause-value
returns-in_err-children-in-len2-up-clause-value c =
    let words = c.args.words.now in
    let spec = c.spec-item.result in
    let children = c.children-item.result in
    let steps = steps_of c.args.end words spec children (front_of words spec children c.in-len2-up.len_at_least c.spec-item.is c.children-item.is) in
    then_err command_in c.from_residual.result c.in_err-children-in-len2-up.field-0.0 _ (short_at (placed children)) (create_counted spec.text.now (map placed (rest words))) steps c.from_residual.ensures.1 c.in_err-children-in-len2-up.ensures

pub returns-in_err-keys-in-len2-up-clause-value : goal.returns-in_err-keys-in-len2-up-clause-value
returns-in_err-keys-in-len2-up-clause-value c =
    let words = c.args.words.now in
    let spec = c.spec-item.result in
    let children = c.children-item.result in
    let n = c.in_ok-children-in-len2-up.children in
    let behind = map placed (rest words) in
    let steps = steps_of c.args.end words spec children (front_of words spec children c.in-len2-up.len_at_least c.spec-item.is c.children-item.is) in
    let more = then_ok _ (short_at (placed children)) (create_counted spec.text.now behind) n steps c.in_ok-children-in-len2-up.ensures in
    then_err command_in c.from_residual-in_err-keys-in-len2-up.result c.in_err-keys-in-len2-up.field-0.0 _ (keys_at behind) (create_keyed spec.text.now n) more c.from_residual-in_err-keys-in-len2-up.ensures.1 c.in_err-keys-in-len2-up.ensures

pub returns-in_err-spec-in-len2-up-clause-value : goal.returns-in_err-spec-in-len2-up-clause-value
returns-in_err-spec-in-len2-up-clause-value c = no_memory command_in c.from_residual-in_err-spec-in-len2-up.result _ c.from_residual-in_err-spec-in-len2-up.ensures.1

pub returns-in_ok-spec-in-len2-up-clause-value : goal.returns-in_ok-spec-in-len2-up-clause-value
returns-in_ok-spec-in-len2-up-clause-value c =
    let words = c.args.words.now in
    let spec = c.spec-item.result in
    let children = c.children-item.result in
    let n = c.in_ok-children-in-len2-up.children in
    let keys = c.in_ok-keys-in-len2-up.keys in
    let behind = map placed (rest words) in
    let steps = steps_of c.args.end words spec children (front_of words spec children c.in-len2-up.len_at_least c.spec-item.is c.children-item.is) in
    let more = then_ok _ (short_at (placed children)) (create_counted spec.text.now behind) n steps c.in_ok-children-in-len2-up.ensures in
    then_ok _ (keys_at behind) (create_keyed spec.text.now n) keys more c.in_ok-keys-in-len2-up.ensures
    ∙ ap (λ (text : List ℕ). create_keyed text n keys) (sym c.in_ok-spec-in-len2-up.ensures.items)
