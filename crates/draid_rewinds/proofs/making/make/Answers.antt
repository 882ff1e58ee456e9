use Rattle.std.proofs.Common.{◌∙◌, ap, refl, sym}
use Rattle.std.specs.Prelude.{Some}
use Rattle.draid_rewinds.proofs.Made.{MakesIt, areas_made, makes_point, next_is, next_made, whole_made}
use Rattle.draid_rewinds.proofs.making.make.Goals as goal

pub make_point-requires : goal.make_point-requires
make_point-requires g c = record {
  next = next_is g.R.Rack g.A.Area c.args.pool.now c.args.group c.requires.whole c.requires.closing c.requires.next;
  made = c.requires.room.group_is ∙ ap Some (sym c.requires.next);
  new = c.requires.room.new;
  valid = c.requires.whole.uber;
}

pub returns : goal.returns
returns g c =
    let old = c.args.pool.now in
    let group = c.args.group in
    let v = c.make_point.new.self in
    let e = c.make_point.ensures in
    let m : MakesIt g.R.Rack g.A.Area old group c.args.point v = record { sets = record { valid = e.valid; changed = e.changed; areas_are = e.areas; kept = e.kept; layout = e.layout; version = e.version; leaf = e.leaf }; point_is = e.point; told = e.told } in
    record {
      whole = whole_made g.R.Rack g.A.Area old group c.args.point v c.requires.whole c.requires.next c.requires.closing c.requires.room m;
      own = refl;
      later = areas_made g.R.Rack g.A.Area old group c.args.point v c.requires.whole c.requires.next c.requires.closing c.requires.room m;
      closing = c.requires.closing;
      next = next_made g.R.Rack g.A.Area old group c.args.point v c.requires.whole c.requires.next c.requires.closing c.requires.room m;
      makes = λ x r low settled. makes_point g.R.Rack g.A.Area old group c.args.point v c.requires.whole c.requires.next c.requires.closing c.requires.room m c.requires.none x r low settled;
    }
