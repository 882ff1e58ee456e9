use Rattle.std.proofs.Common.{◌≡◌, ◌∙◌, ap, refl, sym, subst}
use Rattle.draid_spec.specs.declared.layout.Geometry.{Geometry}
use Rattle.draid_perm.specs.declared.perms.Perms.{Perms}
use Rattle.draid_session.specs.Passes as passes
use Rattle.draid_session.specs.State.{State}
use Rattle.draid_session.proofs.Reaching.{same_reached}
use Rattle.draid_session.proofs.Sparing.{Stands, follows_stands, scrub_none}
use Rattle.draid_session.proofs.Twice.{twice_sound}
use Rattle.draid_session.proofs.scrubs.second_scrubs_repair_nothing.Goals as goal

pub returns : goal.returns
returns g c first limit from blocks mended again units repaired errors paused old mid new may one two =
    let began = one.does.1 in
    let then = two.does.1 in
    let was : Stands old.geometry old.perms one.mid = follows_stands old.geometry old.perms one.holds old one.mid one.follows (record { layout = refl; children = refl; reached = may.reached }) in
    let geometry : mid.geometry ≡ old.geometry = ap (λ (s : State). s.geometry) one.made ∙ was.layout in
    let perms : mid.perms ≡ old.perms = ap (λ (s : State). s.perms) one.made ∙ was.children in
    let same : mid.metaslabs ≡ one.mid.metaslabs = ap (λ (s : State). s.metaslabs) one.made in
    let stands : Stands old.geometry old.perms mid = record { layout = geometry; children = perms; reached = same_reached one.mid mid (ap (λ (s : State). s.geometry) one.made) (ap (λ (s : State). s.perms) one.made) same was.reached } in
    let scrubs : passes.Scrubs old.geometry old.perms limit two.holds (passes.outcome_of paused) then.0
    = subst (λ (g : Geometry). passes.Scrubs g old.perms limit two.holds (passes.outcome_of paused) then.0) geometry (subst (λ (p : Perms). passes.Scrubs mid.geometry p limit two.holds (passes.outcome_of paused) then.0) perms then.1) in
    sym then.4 ∙ scrub_none old.geometry old.perms limit two.holds (passes.outcome_of paused) then.0 mid two.mid geometry perms scrubs
    (twice_sound old.geometry old.perms first limit one.holds two.holds began.0 (passes.outcome_of paused) then.0 old one.mid two.mid refl refl may began.1 began.5 one.follows mid same stands scrubs two.follows)
    two.follows stands.reached
