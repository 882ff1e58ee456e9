use Rattle.std.proofs.Common.{◌∙◌, refl, subst, sym}
use Rattle.draid_names.specs.declared.pass_kind.PassKind.TheVariants.{Heal, Rebuild}
use Rattle.draid_pool.specs.Threads.{AllStay}
use Rattle.draid_pool.proofs.HeldBy.{stay_then}
use Rattle.draid_visits.specs.Looks.{FindsPass}
use Rattle.draid_visits.specs.Visits.{FirstIs}
use Rattle.draid_visits.proofs.MendHolds.{beyond_stays, found_alone, none_found}
use Rattle.draid_visits.proofs.VisitsStay.{whole_then}
use Rattle.draid_visits.proofs.mending.begin_scrub.Goals.{in-None, in-Some-find_pass}
use Rattle.draid_visits.proofs.mending.begin_scrub.Goals as goal

pub find_pass-requires : goal.find_pass-requires
find_pass-requires g c = record { fits = c.requires.fits; valid = c.requires.valid }

pub find_pass-requires-2 : goal.find_pass-requires-2
find_pass-requires-2 g c = (let e = c.in_default.ensures in record { fits = e.fits; valid = e.valid })

pub returns-in-Some : goal.returns-in-Some
returns-in-Some g c =
    let e = c.in-Some.ensures in
    record { fits = e.fits; locks = e.locks; owns = e.owns; stay = e.stay; valid = e.valid; whole = e.whole; alone = tt; long = tt; begins = e.finds }

pub returns : goal.returns
returns g c =
    let m = g.M.Metaslabs in
    let owns = m.owns c.args.metaslabs.now in
    let e = c.in_default.ensures in
    let f = c.find_pass-2.ensures in
    let found = c.find_pass-2.result in
    let first = c.match-find_pass-2.first in
    let old = c.args.metaslabs.now in
    let mid = c.find_pass.new.metaslabs in
    let new = c.find_pass-2.new.metaslabs in
    let finds = subst (λ o. FindsPass g.R.Rack g.A.Area m.last m.went m.shared o c.args.count Heal mid found new) e.owns f.finds in
    let from : FirstIs g.R.Rack g.A.Area m.last m.went m.shared owns first found = elim c.match-find_pass-2.branch [
      | in-Some-find_pass w ↦ subst (λ one. FirstIs g.R.Rack g.A.Area m.last m.went m.shared owns first one) (sym w.in-Some-find_pass.is) w.first-is
      | in-None w ↦ subst (λ one. FirstIs g.R.Rack g.A.Area m.last m.went m.shared owns first one) (sym w.in-None.is) w.first-is
    ] in
    record {
      fits = f.fits;
      locks = f.locks ∙ e.locks;
      owns = f.owns ∙ e.owns;
      stay = stay_then owns (m.last old) (m.last mid) (m.last new) e.stay (subst (λ o. AllStay o (m.last mid) (m.last new)) e.owns f.stay);
      valid = f.valid;
      whole = whole_then g.R.Rack owns (m.owns mid) e.owns (m.last old) (m.last mid) (m.last new) e.whole f.whole;
      alone = found_alone g.R.Rack g.A.Area m.last m.went m.shared owns c.requires.passes Heal Heal c.args.count mid new found finds
          (none_found g.R.Rack g.A.Area m.last m.went m.shared owns Rebuild c.args.count old mid e.finds (beyond_stays owns (m.last old) (m.last mid) c.args.count e.stay c.requires.beyond));
      long = c.marks_from.ensures.long;
      begins = (mid, found, first, e.finds, finds, from, c.marks_from.ensures.marks, refl, refl, c.within.ensures);
    }
