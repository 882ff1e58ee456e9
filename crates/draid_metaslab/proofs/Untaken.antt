use Rattle.std.proofs.Common.{◌≡◌, ◌+◌, ◌-◌, ◌<◌, ◌∷◌, [], ℕ, Bool, false, ◌||◌, ◌&&◌, not, List, length, take, get_or, arith, sym, ◌∙◌, ap, ap₂}
use Rattle.std.proofs.lemmas.List.{take_more}
use Rattle.draid_ranges.specs.declared.run.Run.{Run}
use Rattle.draid_ranges.specs.Runs.{has_in, in_run, is_between}
use Rattle.draid_ranges.proofs.Within.{has-append}

without : (all t r : Bool) → ((all && not t) && not r) ≡ (all && not (t || (r || false)))
without all t r = grind arith

-- the stripes that are left once one more run is taken out
pub untaken_more : (taken : List Run) (k x : ℕ) (d : Run) (all old new : Bool) → k < length taken → 0 < (get_or taken k d).len
    → new ≡ (old && not (is_between (get_or taken k d).first ((get_or taken k d).first + (get_or taken k d).len - 1 + 1) x))
    → old ≡ (all && not (has_in (take k taken) x)) → new ≡ (all && not (has_in (take (k + 1) taken) x))
untaken_more taken k x d all old new l some is was =
    let r = get_or taken k d in
    let end : r.first + r.len - 1 + 1 ≡ r.first + r.len = omega arith in
    is
    ∙ ap₂ (λ o e. o && not (is_between r.first e x)) was end
    ∙ without all (has_in (take k taken) x) (in_run r x)
    ∙ ap (λ v. all && not v) (sym (ap (λ ys. has_in ys x) (take_more taken k d l) ∙ has-append (take k taken) (r ∷ []) x))
