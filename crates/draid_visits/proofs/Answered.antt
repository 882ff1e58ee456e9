-- What was lent within a limit, by the answer of a rebuild or a scrub.
use Rattle.std.proofs.Common.{◌≡◌, ◌∙◌, ℕ, true, false, Option, Some, None, Result, Ok, Err, arith, refl, sym, subst}
use Rattle.std.specs.Prelude.{IfOk}
use Rattle.draid_session.specs.Replies.{IsWithin}
use Rattle.draid_visits.specs.Rebuilding.{IsAnswer}
use Rattle.draid_visits.specs.Visiting.{IsLeft, PausesAt}
use Rattle.draid_visits.specs.declared.progress.Progress.{Progress}
use Rattle.draid_visits.specs.declared.progress.Visit.{Visit}
use Rattle.draid_visits.specs.declared.progress.Visit.TheVariants as visit
use Rattle.draid_visits.specs.declared.rebuilding.MendFault.{MendFault}
use Rattle.draid_visits.specs.declared.rebuilding.Mended.{Mended}

-- what is left of it says what was lent
within_paused : (limit : Option ℕ) (p : Progress) → IsLeft limit p → p.left ≡ Some 0 → IsWithin limit p.stripes true
within_paused None p left up = absurd (let no : None ≡ Some 0 = sym left ∙ up in cc)
within_paused (Some n) p (k, own, all) up =
    (let none : k ≡ 0 = (let same : Some k ≡ Some 0 = sym own ∙ up in cc) in omega (arith, none, all))

within_over : (limit : Option ℕ) (p : Progress) → IsLeft limit p → IsWithin limit p.stripes false
within_over None p left = refl
within_over (Some n) p (k, own, all) = omega (arith, all)

pub mended_within : (limit : Option ℕ) (end : Visit) (p : Progress) (result : Result Mended MendFault) → IsLeft limit p → PausesAt end p → IsAnswer end p result → IfOk result (λ it. IsWithin limit it.units it.paused)
mended_within limit visit.Over p (Ok it) left pauses is =
    subst (λ b. IsWithin limit it.units b) (sym is.paused_is) (subst (λ n. IsWithin limit n false) (sym is.units) (within_over limit p left))
mended_within limit visit.Paused p (Ok it) left pauses is =
    subst (λ b. IsWithin limit it.units b) (sym is.paused_is) (subst (λ n. IsWithin limit n true) (sym is.units) (within_paused limit p left pauses))
mended_within limit (visit.Stopped why) p (Ok it) left pauses is = absurd is
mended_within limit end p (Err why) left pauses is = tt
