use Rattle.std.proofs.Common.{◌∙◌, None, Some, refl, subst}
use Rattle.draid_names.specs.declared.pass_kind.PassKind.TheVariants.{Heal, Rebuild}
use Rattle.draid_pool.proofs.HeldBy.{stay_then}
use Rattle.draid_pool.specs.Threads.{AllStay}
use Rattle.draid_visits.specs.Looks.{FindsMarks}
use Rattle.draid_visits.proofs.MendHolds.{beyond_stays, marked_alone, none_found}
use Rattle.draid_visits.proofs.VisitsStay.{whole_then}
use Rattle.draid_visits.proofs.mending.begin_rebuild.Goals as goal

pub find_pass-requires : goal.find_pass-requires
find_pass-requires g c = record { fits = c.requires.fits; valid = c.requires.valid }

pub find_marks-requires : goal.find_marks-requires
find_marks-requires g c = (let e = c.in_default.ensures in record { fits = e.fits; few = c.requires.few; valid = e.valid })

pub returns-in-Some : goal.returns-in-Some
returns-in-Some g c =
    let e = c.in-Some.ensures in
    record { fits = e.fits; locks = e.locks; owns = e.owns; stay = e.stay; valid = e.valid; whole = e.whole; alone = tt; long = tt; some = tt; begins = e.finds }

pub returns-in_default-find_marks : goal.returns-in_default-find_marks
returns-in_default-find_marks g c =
    let m = g.M.Metaslabs in
    let owns = m.owns c.args.metaslabs.now in
    let e = c.in_default.ensures in
    let f = c.in_default-find_marks.ensures in
    let old = c.args.metaslabs.now in
    let mid = c.find_pass.new.metaslabs in
    let new = c.find_marks.new.metaslabs in
    record {
      fits = f.fits;
      locks = f.locks ∙ e.locks;
      owns = f.owns ∙ e.owns;
      stay = stay_then owns (m.last old) (m.last mid) (m.last new) e.stay (subst (λ o. AllStay o (m.last mid) (m.last new)) e.owns f.stay);
      valid = f.valid;
      whole = whole_then g.R.Rack owns (m.owns mid) e.owns (m.last old) (m.last mid) (m.last new) e.whole f.whole;
      alone = tt;
      long = tt;
      some = tt;
      begins = (mid, e.finds, subst (λ o. FindsMarks g.R.Rack g.A.Area m.last m.went m.shared o c.args.count mid None new) e.owns f.finds);
    }

pub returns : goal.returns
returns g c =
    let m = g.M.Metaslabs in
    let owns = m.owns c.args.metaslabs.now in
    let e = c.in_default.ensures in
    let f = c.in-Some-find_marks.ensures in
    let marks = c.in-Some-find_marks.marks in
    let old = c.args.metaslabs.now in
    let mid = c.find_pass.new.metaslabs in
    let new = c.find_marks.new.metaslabs in
    let stay = e.stay in
    let sees = subst (λ o. FindsMarks g.R.Rack g.A.Area m.last m.went m.shared o c.args.count mid (Some marks) new) e.owns f.finds in
    record {
      fits = f.fits;
      locks = f.locks ∙ e.locks;
      owns = f.owns ∙ e.owns;
      stay = stay_then owns (m.last old) (m.last mid) (m.last new) e.stay (subst (λ o. AllStay o (m.last mid) (m.last new)) e.owns f.stay);
      valid = f.valid;
      whole = whole_then g.R.Rack owns (m.owns mid) e.owns (m.last old) (m.last mid) (m.last new) e.whole f.whole;
      alone = marked_alone g.R.Rack g.A.Area m.last m.went m.shared owns c.requires.passes Rebuild c.args.count mid new marks sees
          (none_found g.R.Rack g.A.Area m.last m.went m.shared owns Heal c.args.count old mid e.finds (beyond_stays owns (m.last old) (m.last mid) c.args.count e.stay c.requires.beyond));
      long = f.long;
      some = f.some;
      begins = (mid, e.finds, sees, refl, refl, c.within.ensures);
    }
