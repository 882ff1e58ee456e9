use Rattle.std.proofs.Common.{◌∙◌, [], ◌∷◌, List, sym}
use Rattle.draid_names.specs.declared.arm.At.{At}
use Rattle.draid_shard.specs.States.{part_of}
use Rattle.draid_shard.proofs.Fitted.{fits_rows}
use Rattle.draid_mend.specs.Stripes.{rows_at}
use Rattle.draid_mend.proofs.Aimed.{unaimed}
use Rattle.draid_mend.proofs.Columned.{all_sources, answer_next, fails_next, fails_past, lands_next, lands_past, none_answers, own_source, rows_own}
use Rattle.draid_mend.proofs.columns.land_next.Goals as goal

pub returns-then-not-aimed-column-clause-lands : goal.returns-then-not-aimed-column-clause-lands
returns-then-not-aimed-column-clause-lands g c start was =
    let part = part_of c.args.shard.now in
    lands_past part c.args.shard.now.slots c.args.pointer.now c.args.targets.now c.args.column (rows_at part c.args.pointer.now c.args.column) (rows_own part c.args.pointer.now c.args.column)
    (unaimed part c.args.pointer.now.first c.args.targets.now c.args.aimed.now c.args.column c.requires.aimed c.requires.less c.if-not-aimed-column.true)
    c.args.columns.now.columns c.args.chosen.now c.args.failed.now.items c.requires.less start (g.R.Rack.told c.args.shard.now.rack) was

pub returns-then-not-aimed-column-clause-fails : goal.returns-then-not-aimed-column-clause-fails
returns-then-not-aimed-column-clause-fails g c first was =
    let part = part_of c.args.shard.now in
    fails_past part c.args.shard.now.slots c.args.pointer.now c.args.targets.now c.args.column (rows_at part c.args.pointer.now c.args.column) (rows_own part c.args.pointer.now c.args.column)
    (unaimed part c.args.pointer.now.first c.args.targets.now c.args.aimed.now c.args.column c.requires.aimed c.requires.less c.if-not-aimed-column.true) first c.args.failed.now.items was

pub returns-then-not-aimed-column-clause-answered : goal.returns-then-not-aimed-column-clause-answered
returns-then-not-aimed-column-clause-answered g c is was =
    let part = part_of c.args.shard.now in
    let rows = rows_at part c.args.pointer.now c.args.column in
    let own = rows_own part c.args.pointer.now c.args.column in
    answer_next part c.args.shard.now.slots c.args.pointer.now c.args.targets.now c.args.column rows own
    (none_answers part c.args.shard.now.slots c.args.pointer.now c.args.targets.now c.args.column rows own
    (unaimed part c.args.pointer.now.first c.args.targets.now c.args.aimed.now c.args.column c.requires.aimed c.requires.less c.if-not-aimed-column.true)) was

pub mend_targets-requires-clause-fits : goal.mend_targets-requires-clause-fits
mend_targets-requires-clause-fits g c =
    let v = c.requires.laid in
    fits_rows (part_of c.args.shard.now) v.part c.args.shard.now.slots v.slots (g.R.Rack.shape c.args.shard.now.rack) c.args.pointer.now c.requires.run c.args.column c.requires.less c.rows_at-rows.result c.rows_at-rows.ensures v.leaves

pub returns-in-Some-clause-lands : goal.returns-in-Some-clause-lands
returns-in-Some-clause-lands g c start was =
    let chosen = c.args.chosen.now in
    let own : List At = record { leaf = c.in-Some.source.leaf; sector = c.rows_at-rows.result.first } ∷ [] in
    lands_next (part_of c.args.shard.now) c.args.shard.now.slots c.args.pointer.now c.args.targets.now c.args.columns.now.columns chosen c.args.column c.requires.less c.args.failed.now.items c.mend_targets.new.failed.items
    c.rows_at-rows.result c.rows_at-rows.ensures c.mend_targets.ensures.fails c.column-bytes.result.now own start (g.R.Rack.told c.args.shard.now.rack) (g.R.Rack.told c.mend_targets.new.rack) c.column-bytes.ensures.value
    (own_source (part_of c.args.shard.now) c.args.pointer.now chosen c.args.column c.rows_at-rows.result.first c.in-Some.source c.in-Some.is c.rows_at-rows.ensures.first_is) c.mend_targets.ensures.mends was

pub returns-in-Some-clause-fails : goal.returns-in-Some-clause-fails
returns-in-Some-clause-fails g c first was =
    fails_next (part_of c.args.shard.now) c.args.shard.now.slots c.args.pointer.now c.args.targets.now c.args.columns.now.columns c.args.chosen.now c.args.column c.requires.less c.args.failed.now.items c.mend_targets.new.failed.items
    c.rows_at-rows.result c.rows_at-rows.ensures c.mend_targets.ensures.fails first was

pub returns-in-Some-clause-answered : goal.returns-in-Some-clause-answered
returns-in-Some-clause-answered g c is was =
    answer_next (part_of c.args.shard.now) c.args.shard.now.slots c.args.pointer.now c.args.targets.now c.args.column c.rows_at-rows.result c.rows_at-rows.ensures (c.mend_targets.ensures.answered is) was

pub land_missing-requires : goal.land_missing-requires
land_missing-requires g c =
    let v = c.requires.laid in
    record {
      part = v.part;
      run = c.requires.run;
      place = c.stripe_place-place.ensures;
      chosen = c.requires.chosen;
      fits = fits_rows (part_of c.args.shard.now) v.part c.args.shard.now.slots v.slots (g.R.Rack.shape c.args.shard.now.rack) c.args.pointer.now c.requires.run c.args.column c.requires.less c.rows_at-rows.result c.rows_at-rows.ensures v.leaves;
      there = c.requires.there;
      one = c.rows_at-rows.ensures.count_is ∙ c.requires.one;
      long = c.column-bytes.ensures.len ∙ c.requires.shape.len ∙ sym c.rows_at-rows.ensures.size_is;
      room = c.requires.room;
    }

pub returns : goal.returns
returns g c =
    let chosen = c.args.chosen.now in
    let e = c.land_missing.ensures in
    record {
      rack = e.rack;
      shape = e.shape;
      lands = λ start was. lands_next (part_of c.args.shard.now) c.args.shard.now.slots c.args.pointer.now c.args.targets.now c.args.columns.now.columns chosen c.args.column c.requires.less c.args.failed.now.items
          c.land_missing.new.failed.items c.rows_at-rows.result c.rows_at-rows.ensures e.fails c.column-bytes.result.now _ start (g.R.Rack.told c.args.shard.now.rack)
          (g.R.Rack.told c.land_missing.new.shard.rack) c.column-bytes.ensures.value (all_sources (part_of c.args.shard.now) c.args.pointer.now chosen c.args.column c.in_default.is) e.mends was;
      fails = λ first was. fails_next (part_of c.args.shard.now) c.args.shard.now.slots c.args.pointer.now c.args.targets.now c.args.columns.now.columns chosen c.args.column c.requires.less c.args.failed.now.items
          c.land_missing.new.failed.items c.rows_at-rows.result c.rows_at-rows.ensures e.fails first was;
      counts = e.counts;
      room = e.room;
      few = e.few;
      answered = λ is was. answer_next (part_of c.args.shard.now) c.args.shard.now.slots c.args.pointer.now c.args.targets.now c.args.column c.rows_at-rows.result c.rows_at-rows.ensures (e.answered is) was;
    }
