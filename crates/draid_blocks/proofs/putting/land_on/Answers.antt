use Rattle.std.proofs.Common.{◌≡◌, ◌∙◌, not, true, false, ap, subst, sym}
use Rattle.std.proofs.lemmas.Bool.{true≢false}
use Rattle.draid_shard.specs.Rows.{MissesAt, arm_no}
use Rattle.draid_blocks.specs.Landings.{is_done}
use Rattle.draid_blocks.proofs.Landings.{misses_none, not_done}
use Rattle.draid_blocks.proofs.putting.land_on.Goals as goal
use Rattle.draid_blocks.proofs.putting.land_on.Goals.{in-Done, in_default}

pub write_to-outcome-requires : goal.write_to-outcome-requires
write_to-outcome-requires g c = record { fits = c.requires.fits; there = c.requires.there; long = c.requires.long }

pub miss-requires : goal.miss-requires
miss-requires g c = record { there = c.requires.there; birth = c.requires.birth; room = c.requires.room }

pub returns-then-not-matches-clause-lands : goal.returns-then-not-matches-clause-lands
returns-then-not-matches-clause-lands g c = c.write_to-outcome.ensures.lands

pub returns-then-not-matches-clause-shape : goal.returns-then-not-matches-clause-shape
returns-then-not-matches-clause-shape g c = c.write_to-outcome.ensures.shape

pub returns-else-not-matches-clause-lands : goal.returns-else-not-matches-clause-lands
returns-else-not-matches-clause-lands g c = c.write_to-outcome.ensures.lands

pub returns-else-not-matches-clause-shape : goal.returns-else-not-matches-clause-shape
returns-else-not-matches-clause-shape g c = c.write_to-outcome.ensures.shape

pub returns-then-not-matches-clause-counts : goal.returns-then-not-matches-clause-counts
returns-then-not-matches-clause-counts g c = c.write_to-outcome.ensures.counts

pub returns-else-not-matches-clause-counts : goal.returns-else-not-matches-clause-counts
returns-else-not-matches-clause-counts g c = c.write_to-outcome.ensures.counts

pub returns-then-not-matches-clause-misses : goal.returns-then-not-matches-clause-misses
returns-then-not-matches-clause-misses g c =
    let outcome = c.write_to-outcome.result in
    let missed : not (is_done outcome) ≡ true = elim c.match-matches.branch [
      | in-Done w ↦ absurd (true≢false (sym w.matches-is ∙ c.if-not-matches.true))
      | in_default w ↦ not_done outcome w.in_default.not-Done
    ] in
    subst (MissesAt c.args.slots.now c.miss.new.slots (arm_no c.args.rows c.args.arm) c.args.rows.birth) (sym missed) c.miss.ensures

pub returns-else-not-matches-clause-misses : goal.returns-else-not-matches-clause-misses
returns-else-not-matches-clause-misses g c =
    let outcome = c.write_to-outcome.result in
    let done : not (is_done outcome) ≡ false = elim c.match-matches.branch [
      | in-Done w ↦ ap (λ o. not (is_done o)) w.in-Done.is
      | in_default w ↦ absurd (true≢false (sym c.if-not-matches.false ∙ w.matches-is))
    ] in
    subst (MissesAt c.args.slots.now c.args.slots.now (arm_no c.args.rows c.args.arm) c.args.rows.birth) (sym done)
    (misses_none c.args.slots.now (arm_no c.args.rows c.args.arm) c.args.rows.birth)
