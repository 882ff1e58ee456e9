-- What no sync has made safe, found in one pass over a metaslab's events.
use Rattle.std.proofs.Common.{◌≡◌, ◌<◌, ◌+◌, ◌||◌, ◌&&◌, ◌∙◌, not, ℕ, suc, Bool, true, false, List, ◌∷◌, arith, refl, sym, ap, length, drop, slice_index_or, if◌then◌else◌}
use Rattle.std.proofs.Math.Seq.{drop-cons}
use Rattle.draid_machine.specs.declared.event.Event.{Event}
use Rattle.draid_session.specs.Groups.{behind_close, ends_group, has_commit, has_other, is_close_of, is_commit}

-- what the events that are left say, before and behind the closing
abbrev pub left_others : Bool → ℕ → List Event → Bool
left_others closed committed events = if closed then has_other committed events else has_other committed (behind_close committed events)

-- what was found, before the events from a place on
pub record Found (committed : ℕ) (events : List Event) (k : ℕ) (closed others commits : Bool) : Type 0 where
  pub commits_is : has_commit events ≡ (commits || has_commit (drop k events))
  pub others_is : has_other committed (behind_close committed events) ≡ (others || left_others closed committed (drop k events))

pub found_none : (committed : ℕ) (events : List Event) → Found committed events 0 false false false
found_none committed events = record { commits_is = refl; others_is = refl }

or_or : (a b c : Bool) → (a || (b || c)) ≡ ((a || b) || c)
or_or true b c = refl
or_or false b c = refl

others_step : (others closed ends closes : Bool) (committed : ℕ) (e : Event) (events : List Event) → ends ≡ ends_group committed e → closes ≡ is_close_of committed e
    → (others || left_others closed committed (e ∷ events)) ≡ ((others || (closed && not ends)) || left_others (closed || closes) committed events)
others_step others true ends closes committed e events ends_is closes_is =
    ap (λ b. others || (not b || has_other committed events)) (sym ends_is) ∙ or_or others (not ends) (has_other committed events)
others_step true false ends closes committed e events ends_is closes_is = refl
others_step false false ends true committed e events ends_is closes_is = ap (λ b. has_other committed (if b then events else behind_close committed events)) (sym closes_is)
others_step false false ends false committed e events ends_is closes_is = ap (λ b. has_other committed (if b then events else behind_close committed events)) (sym closes_is)

pub found_more : (committed : ℕ) (events : List Event) (k : ℕ) (closed others commits ends closes commit : Bool) (e : Event) → k < length events → e ≡ slice_index_or events k e
    → ends ≡ ends_group committed e → closes ≡ is_close_of committed e → commit ≡ is_commit e → Found committed events k closed others commits
    → Found committed events (k + 1) (closed || closes) (others || (closed && not ends)) (commits || commit)
found_more committed events k closed others commits ends closes commit e below here ends_is closes_is commit_is f = record {
  commits_is = f.commits_is ∙ (ap (λ es. commits || has_commit es) next ∙ (ap (λ b. commits || (b || has_commit (drop (k + 1) events))) (sym commit_is) ∙ or_or commits commit (has_commit (drop (k + 1) events))));
  others_is = f.others_is ∙ (ap (λ es. others || left_others closed committed es) next ∙ others_step others closed ends closes committed e (drop (k + 1) events) ends_is closes_is);
}
  where
    next : drop k events ≡ e ∷ drop (k + 1) events
    next =
        let step : suc k ≡ k + 1 = omega arith in
        drop-cons events k e below ∙ (ap (λ (x : Event). x ∷ drop (suc k) events) (sym here) ∙ ap (λ (n : ℕ). e ∷ drop n events) step)
