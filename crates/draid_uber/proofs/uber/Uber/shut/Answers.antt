use Rattle.std.proofs.Common.{arith, refl}
use Rattle.draid_uber.proofs.uber.Uber.shut.Goals as goal

pub returns : goal.returns
returns g c =
    record {
      valid = (let long = c.requires.valid.long in
          let grown = c.clear.ensures.grown in
          record { held = c.requires.valid.held; long = omega (arith, long, grown); spelled = c.requires.valid.spelled; positive = c.requires.valid.positive });
      refused = λ pending stands. c.clear.ensures.refused c.args.self.now.kept pending c.requires.next.behind stands;
      shut = λ pending stands. c.clear.ensures.shut c.args.self.now.kept pending c.requires.next.behind stands;
      moments = c.clear.ensures.moments;
      kept = refl;
      layout = refl;
      version = refl;
      leaf = refl;
      point = refl;
      changed = refl;
      others = refl;
      cause = c.clear.ensures.cause;
    }
