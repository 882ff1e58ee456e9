use Rattle.std.proofs.Common.{◌≡◌, ◌∙◌, ap, sym, inl, inr, map, string_bytes, option_map, subst}
use Rattle.std.proofs.lemmas.Result.{IfOk-weaker}
use Rattle.std.specs.Prelude.{unwrap_or}
use Rattle.std.specs.Result.{result_err}
use Rattle.clap.specs.Words.{App, IsAmong, fault_of, found_of, is_simple, is_simple_and_free, kind_of, matches_of}
use Rattle.draid_words.specs.declared.mode.WordsFault.TheVariants as fault
use Rattle.draid_words.specs.Mode.{asked, asked_by}
use Rattle.draid_words.proofs.Rows.{asked_found, asked_nothing, is_known, is_known_to_fail}
use Rattle.draid_words.proofs.read.read_words.Goals as goal

found_as : (c : goal.Joined-found)
    → asked (map string_bytes c.args.words.now)
    ≡ asked_by (option_map (λ s. s.now) c.get_str.result) (option_map (λ s. s.now) c.get_str-in-Ok.result) (option_map (λ s. s.now) c.get_str-in-Ok-2.result)
found_as c =
    let is = c.in_ok-command.ensures in
    let words = map string_bytes c.args.words.now in
    let none = sym (ap (λ (app : App). fault_of app words) is) ∙ c.in-Ok.ensures.kinds (ap is_simple_and_free is ∙ is_known_to_fail) in
    let rows = (c.in-Ok.ensures.matches (ap is_simple is ∙ is_known)).0 ∙ ap (λ (app : App). matches_of app words) is in
    asked_found words (found_of c.in-Ok.found) _ _ _ none rows c.get_str.ensures c.get_str-in-Ok.ensures c.get_str-in-Ok-2.ensures

pub returns-in-Ok-clause-mode : goal.returns-in-Ok-clause-mode
returns-in-Ok-clause-mode c = IfOk-weaker c.mode_by.result _ _ (λ mode is. found_as c ∙ is) c.mode_by.ensures.mode

pub returns-in-Ok-clause-usage : goal.returns-in-Ok-clause-usage
returns-in-Ok-clause-usage c usage = found_as c ∙ c.mode_by.ensures.usage usage

pub returns-in-Err-clause-usage : goal.returns-in-Err-clause-usage
returns-in-Err-clause-usage c usage =
    let is = c.in_ok-command.ensures in
    let words = map string_bytes c.args.words.now in
    let said = ap (λ r. unwrap_or (result_err r) fault.NoMemory) usage in
    elim (c.in-Err.ensures.kinds (ap is_simple_and_free is ∙ is_known_to_fail)) [
      | inl memory ↦ absurd (c.fault_by.ensures said (c.kind.ensures ∙ memory))
      | inr among ↦ asked_nothing words (kind_of c.in-Err.error) (subst (λ (app : App). IsAmong (kind_of c.in-Err.error) (fault_of app words)) is among)
    ]
