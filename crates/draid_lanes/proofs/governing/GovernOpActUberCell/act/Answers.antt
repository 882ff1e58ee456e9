use Rattle.std.proofs.Common.{◌∙◌, sym, refl, subst}
use Rattle.draid_lanes.specs.Ubers.{IsUberOf}
use Rattle.draid_lanes.proofs.governing.GovernOpActUberCell.act.Goals as goal

pub govern_under-requires : goal.govern_under-requires
govern_under-requires g c = record { may = c.requires.0; uber = subst (λ ls. IsUberOf g.R.Rack g.A.Area ls c.args.cell.now.uber c.args.cell.now.groups) c.requires.1 c.requires.2 }

pub returns : goal.returns
returns g c =
    let e = c.govern_under.ensures in
    record {
      step = record { same = refl; is = subst (λ ls. IsUberOf g.R.Rack g.A.Area ls c.govern_under.new.uber c.govern_under.new.groups) (e.turns ∙ sym c.requires.1) e.uber; count = e.later; point = e.point };
      turns = e.turns;
      owns = e.owns;
      lane = e.lane;
      layout = e.layout;
      whole = e.whole;
      governed = e.governed;
    }
