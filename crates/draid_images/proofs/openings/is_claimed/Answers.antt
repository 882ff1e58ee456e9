use Rattle.std.proofs.Common.{◌≡◌, ◌∙◌, ap, sym, subst, true, false, Some, None, option_copied, ◌&&◌}
use Rattle.draid_machine.specs.Claims.{claimed, is_on, passed}
use Rattle.draid_world.specs.World.{arm_of, core_of, names_at, site_layout}
use Rattle.draid_world.proofs.Maps.{arm_found}
use Rattle.draid_images.proofs.Claiming.{claim_clean, claim_none, claim_off, claim_passed, claim_unput}
use Rattle.draid_images.proofs.openings.is_claimed.Goals as goal

pub returns-in_default : goal.returns-in_default
returns-in_default c =
    let l = site_layout c.args.site.now in
    let q = core_of c.args.tables.now in
    let s = c.args.segment.now in
    sym (ap (λ o. claimed l q s o (q.arm s.arm)) (sym c.find.ensures ∙ c.in_default.is))

pub is_on-requires : goal.is_on-requires
is_on-requires c = record { first = c.requires.low c.args.segment.now.key c.in-Some.held (sym c.find.ensures ∙ c.in-Some.is) }

pub is_passed-requires : goal.is_passed-requires
is_passed-requires c = record { first = c.requires.low c.args.segment.now.key c.in-Some.held (sym c.find.ensures ∙ c.in-Some.is) }

pub returns-then-not-is_on : goal.returns-then-not-is_on
returns-then-not-is_on c =
    claim_off (site_layout c.args.site.now) (core_of c.args.tables.now) c.args.segment.now c.in-Some.held (arm_of c.in-Some-get.arm.now) (sym c.find.ensures ∙ c.in-Some.is)
    (arm_found c.args.tables.now.arms.entries c.args.segment.now.arm (Some c.in-Some-get.arm.now) (sym c.get.ensures.value ∙ ap option_copied c.in-Some-get.is))
    (subst (λ vs. is_on (site_layout c.args.site.now) (names_at vs) c.args.segment.now c.in-Some.held ≡ false) c.deref.ensures.value (c.is_on.ensures.no c.if-not-is_on.true))

pub returns-then-not-is_put : goal.returns-then-not-is_put
returns-then-not-is_put c =
    claim_unput (site_layout c.args.site.now) (core_of c.args.tables.now) c.args.segment.now c.in-Some.held (arm_of c.in-Some-get.arm.now) (sym c.find.ensures ∙ c.in-Some.is)
    (arm_found c.args.tables.now.arms.entries c.args.segment.now.arm (Some c.in-Some-get.arm.now) (sym c.get.ensures.value ∙ ap option_copied c.in-Some-get.is))
    (subst (λ vs. is_on (site_layout c.args.site.now) (names_at vs) c.args.segment.now c.in-Some.held ≡ true) c.deref.ensures.value (c.is_on.ensures.yes c.if-not-is_on.false))
    (sym c.is_put.ensures ∙ c.if-not-is_put.true)

pub returns-in_default-get : goal.returns-in_default-get
returns-in_default-get c =
    claim_none (site_layout c.args.site.now) (core_of c.args.tables.now) c.args.segment.now c.in-Some.held (sym c.find.ensures ∙ c.in-Some.is)
    (arm_found c.args.tables.now.arms.entries c.args.segment.now.arm None (sym c.get.ensures.value ∙ ap option_copied c.in_default-get.is))

pub returns-then-not-contains : goal.returns-then-not-contains
returns-then-not-contains c =
    claim_clean (site_layout c.args.site.now) (core_of c.args.tables.now) c.args.segment.now c.in-Some.held (arm_of c.in-Some-get.arm.now) (sym c.find.ensures ∙ c.in-Some.is)
    (arm_found c.args.tables.now.arms.entries c.args.segment.now.arm (Some c.in-Some-get.arm.now) (sym c.get.ensures.value ∙ ap option_copied c.in-Some-get.is))
    (subst (λ vs. is_on (site_layout c.args.site.now) (names_at vs) c.args.segment.now c.in-Some.held ≡ true) c.deref.ensures.value (c.is_on.ensures.yes c.if-not-is_on.false))
    (sym c.is_put.ensures ∙ c.if-not-is_put.false) (sym c.contains.ensures ∙ c.if-not-contains.true)

pub returns-then-is_block : goal.returns-then-is_block
returns-then-is_block c =
    c.is_passed.ensures
    ∙ ap (λ b. b && passed (core_of c.args.tables.now).pass c.args.segment.now.arm c.in-Some.held c.args.segment.now.row) (sym (sym c.is_block.ensures ∙ c.if-is_block.true))
    ∙ claim_passed (site_layout c.args.site.now) (core_of c.args.tables.now) c.args.segment.now c.in-Some.held (arm_of c.in-Some-get.arm.now) (sym c.find.ensures ∙ c.in-Some.is)
    (arm_found c.args.tables.now.arms.entries c.args.segment.now.arm (Some c.in-Some-get.arm.now) (sym c.get.ensures.value ∙ ap option_copied c.in-Some-get.is))
    (subst (λ vs. is_on (site_layout c.args.site.now) (names_at vs) c.args.segment.now c.in-Some.held ≡ true) c.deref.ensures.value (c.is_on.ensures.yes c.if-not-is_on.false))
    (sym c.is_put.ensures ∙ c.if-not-is_put.false) (sym c.contains.ensures ∙ c.if-not-contains.false)

pub returns-else-is_block : goal.returns-else-is_block
returns-else-is_block c =
    c.if-is_block.false
    ∙ ap (λ b. b && passed (core_of c.args.tables.now).pass c.args.segment.now.arm c.in-Some.held c.args.segment.now.row) (sym (sym c.is_block.ensures ∙ c.if-is_block.false))
    ∙ claim_passed (site_layout c.args.site.now) (core_of c.args.tables.now) c.args.segment.now c.in-Some.held (arm_of c.in-Some-get.arm.now) (sym c.find.ensures ∙ c.in-Some.is)
    (arm_found c.args.tables.now.arms.entries c.args.segment.now.arm (Some c.in-Some-get.arm.now) (sym c.get.ensures.value ∙ ap option_copied c.in-Some-get.is))
    (subst (λ vs. is_on (site_layout c.args.site.now) (names_at vs) c.args.segment.now c.in-Some.held ≡ true) c.deref.ensures.value (c.is_on.ensures.yes c.if-not-is_on.false))
    (sym c.is_put.ensures ∙ c.if-not-is_put.false) (sym c.contains.ensures ∙ c.if-not-contains.false)
