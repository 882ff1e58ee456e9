use Rattle.std.proofs.Common.{arith, ◌∙◌, ◌++◌, [], ◌∷◌, List, ap, length, refl, slice_index_or, subst, sym}
use Rattle.std.specs.Prelude.{All, map}
use Rattle.std.proofs.lemmas.List.{append-nil, get_or_default, length-append, take_all}
use Rattle.draid_checkpoint.specs.declared.check.DroppedIn.{DroppedIn}
use Rattle.std.proofs.lemmas.List.Elements.{Contains-get_or}
use Rattle.std.proofs.lemmas.Option.{slice_get-get_or}
use Rattle.draid_record.specs.declared.checks.Dropped.{Dropped}
use Rattle.draid_uber.specs.Points.{IsOther, dropped_in}
use Rattle.draid_uber.specs.Uber.{changed_of, point_of}
use Rattle.draid_import.specs.Points.{changed_by}
use Rattle.draid_import.proofs.PointDrops.{changed_more, more_dropped, other_then}
use Rattle.draid_import.proofs.pointing.drop_all.Goals as goal

pub loop-block-init : goal.loop-block-init
loop-block-init g c = record {
  valid = c.requires.valid;
  group = refl;
  drops = sym (append-nil (point_of c.args.uber.now).drops);
  room = omega arith;
  many = omega arith;
  changed = refl;
  areas = refl;
  kept = refl;
  layout = refl;
  version = refl;
  leaf = refl;
  bound = omega arith;
}

pub drop_block-requires : goal.drop_block-requires
drop_block-requires g c =
    let i = c.loop-block.invariant in
    let below = c.loop-block-test.true in
    let d : Dropped = slice_index_or c.args.blocks.now c.loop-block.block-index (record { object = 0; seq = 0 }) in
    record {
      room = (let room = i.room in let enough = c.requires.room in omega (arith, room, enough, below));
      few = (let many = i.many in let few = c.requires.few in omega (arith, many, few, below));
      other = subst (λ (ds : List DroppedIn). All (λ e. IsOther d.object d.seq e) ds) (sym i.drops)
          (other_then (point_of c.args.uber.now).drops c.args.blocks.now c.args.group c.loop-block.block-index d c.requires.other
          (slice_get-get_or c.args.blocks.now c.loop-block.block-index (record { object = 0; seq = 0 }) below) (Contains-get_or c.args.blocks.now c.loop-block.block-index (record { object = 0; seq = 0 }) below));
      valid = i.valid;
    }

pub loop-block-preserved : goal.loop-block-preserved
loop-block-preserved g c =
    let i = c.loop-block.invariant in
    let below = c.loop-block-test.true in
    let d : Dropped = slice_index_or c.args.blocks.now c.loop-block.block-index (record { object = 0; seq = 0 }) in
    let e = c.drop_block.ensures in
    let now = (point_of c.loop-block.uber).drops in
    record {
      valid = e.valid;
      group = e.drops.group_is ∙ i.group;
      drops = e.drops.drops ∙ more_dropped (point_of c.args.uber.now).drops now c.args.blocks.now c.args.group c.loop-block.block-index d below (get_or_default c.args.blocks.now c.loop-block.block-index (record { object = 0; seq = 0 }) (slice_index_or c.args.blocks.now c.loop-block.block-index (record { object = 0; seq = 0 })) below) i.drops;
      room = (let room = i.room in let more = e.drops.room in omega (arith, room, more));
      many = (let many = i.many in let all = ap length e.drops.drops ∙ length-append now (dropped_in c.args.group d ∷ []) in omega (arith, many, all));
      changed = e.changed ∙ changed_more c.args.blocks.now c.args.group (changed_of c.args.uber.now) c.loop-block.block-index d below;
      areas = e.areas ∙ i.areas;
      kept = e.kept ∙ i.kept;
      layout = e.layout ∙ i.layout;
      version = e.version ∙ i.version;
      leaf = e.leaf ∙ i.leaf;
      bound = omega (arith, below);
    }

pub returns : goal.returns
returns g c =
    let i = c.loop-block.invariant in
    let end = c.loop-block-test.false in
    let n = c.loop-block.block-index in
    let all = take_all n c.args.blocks.now (let bound = i.bound in omega (arith, end)) in
    record {
      valid = i.valid;
      group = i.group;
      drops = i.drops ∙ ap (λ ds. (point_of c.args.uber.now).drops ++ map (dropped_in c.args.group) ds) all;
      room = (let room = i.room in let bound = i.bound in omega (arith, room, bound));
      changed = i.changed ∙ ap (λ ds. changed_by ds c.args.group (changed_of c.args.uber.now)) all;
      areas = i.areas;
      kept = i.kept;
      layout = i.layout;
      version = i.version;
      leaf = i.leaf;
    }
