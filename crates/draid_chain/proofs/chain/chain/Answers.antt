use Rattle.std.proofs.Common.{◌≡◌, ◌∙◌, ◌+◌, ◌<◌, ◌≤◌, None, arith, refl, sym, subst}
use Rattle.draid_chain.specs.Used.{first_in}
use Rattle.draid_chain.proofs.Ends.{not_some}
use Rattle.draid_chain.proofs.Holders.{holder_alone, links_alone}
use Rattle.draid_chain.proofs.Walks.{begun, come_below, come_by_links, come_to_holder, gone_on, links_most}
use Rattle.draid_chain.proofs.chain.chain.Goals as goal

pub links-preserved : goal.links-preserved
links-preserved c =
    let come = gone_on c.args.perms.now c.args.geometry.now.spec.children c.args.geometry.now.spec.spares c.args.slice c.args.spare
    c.links.holder c.links.links c.in-Some.next c.at_spare-holder-in-Some.result (first_in c.args.used.now)
    c.requires.children c.requires.used c.links.invariant.come c.in-Some.is c.at_spare-holder-in-Some.ensures.slot in
    record {
      come = come;
      most = links_most c.args.perms.now c.args.geometry.now.spec.children c.args.geometry.now.spec.spares c.args.slice
          c.args.slot c.args.spare c.at_spare-holder-in-Some.result (c.links.links + 1) (first_in c.args.used.now)
          c.requires.children c.requires.used (c.if-not-has_column.ensures.column.0 refl) c.requires.arm come;
    }

pub links-smaller : goal.links-smaller
links-smaller c =
    let more : c.links.links + 1 ≤ c.args.geometry.now.spec.spares = (links-preserved c).most in
    omega arith

pub returns-clause-holder : goal.returns-clause-holder
returns-clause-holder c =
    let none : first_in c.args.used.now c.links.holder ≡ None = not_some _ c.in_default.not-Some in
    come_to_holder c.args.perms.now c.args.geometry.now.spec.children c.args.geometry.now.spec.spares c.args.slice
    c.args.slot c.args.spare c.links.holder c.links.links (first_in c.args.used.now)
    c.requires.children c.requires.used (c.if-not-has_column.ensures.column.0 refl) c.requires.arm c.links.invariant.come none

pub returns-clause-links : goal.returns-clause-links
returns-clause-links c =
    let none : first_in c.args.used.now c.links.holder ≡ None = not_some _ c.in_default.not-Some in
    come_by_links c.args.perms.now c.args.geometry.now.spec.children c.args.geometry.now.spec.spares c.args.slice
    c.args.slot c.args.spare c.links.holder c.links.links (first_in c.args.used.now)
    c.requires.children c.requires.used (c.if-not-has_column.ensures.column.0 refl) c.requires.arm c.links.invariant.come none

pub returns-then-not-has_column-clause-holder : goal.returns-then-not-has_column-clause-holder
returns-then-not-has_column-clause-holder c =
    c.at_spare-holder.ensures.slot
    ∙ sym (holder_alone c.args.perms.now c.args.geometry.now.spec.spares c.args.slice c.args.slot c.args.spare (first_in c.args.used.now)
    (λ column. let test = c.if-not-has_column.ensures.column.1 column in cc))

pub returns-then-not-has_column-clause-links : goal.returns-then-not-has_column-clause-links
returns-then-not-has_column-clause-links c =
    sym (links_alone c.args.perms.now c.args.geometry.now.spec.spares c.args.slice c.args.slot c.args.spare (first_in c.args.used.now)
    (λ column. let test = c.if-not-has_column.ensures.column.1 column in cc))

pub links-init : goal.links-init
links-init c =
    let low = c.requires.arm.spare_is in
    record {
      come = begun c.args.perms.now c.args.geometry.now.spec.spares c.args.slice c.args.spare c.at_spare-holder.result (first_in c.args.used.now) low c.at_spare-holder.ensures.slot;
      most = omega (arith, low);
    }

pub bounds : goal.bounds
bounds c =
    subst (λ n. c.links.holder < n) (sym c.requires.all)
    (come_below c.args.perms.now c.args.geometry.now.spec.children c.args.geometry.now.spec.spares c.args.slice c.args.spare c.links.holder c.links.links
    (first_in c.args.used.now) c.requires.children c.links.invariant.come)

pub bounds-used-holder : goal.bounds-used-holder
bounds-used-holder c =
    subst (λ n. c.links.holder < n) (sym c.requires.all)
    (come_below c.args.perms.now c.args.geometry.now.spec.children c.args.geometry.now.spec.spares c.args.slice c.args.spare c.links.holder c.links.links
    (first_in c.args.used.now) c.requires.children c.links.invariant.come)

pub at_spare-holder-requires-in-Some-clause-spare : goal.at_spare-holder-requires-in-Some-clause-spare
at_spare-holder-requires-in-Some-clause-spare c =
    c.requires.used.below c.links.holder c.in-Some.next
    (come_below c.args.perms.now c.args.geometry.now.spec.children c.args.geometry.now.spec.spares c.args.slice c.args.spare c.links.holder c.links.links
    (first_in c.args.used.now) c.requires.children c.links.invariant.come) c.in-Some.is

pub returns-clause-below : goal.returns-clause-below
returns-clause-below c =
    come_below c.args.perms.now c.args.geometry.now.spec.children c.args.geometry.now.spec.spares c.args.slice c.args.spare c.links.holder c.links.links
    (first_in c.args.used.now) c.requires.children c.links.invariant.come
