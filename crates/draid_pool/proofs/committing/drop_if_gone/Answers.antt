use Rattle.std.proofs.Common.{◌==◌, true, rules, refl, ap}
use Rattle.draid_rack.proofs.Moments.{left_drops}
use Rattle.draid_rack.specs.Rack.{Shape}
use Rattle.draid_machine.proofs.Small.{absurd_test, equal}
use Rattle.draid_pool.proofs.committing.drop_if_gone.Goals as goal

pub returns-then-not-stays : goal.returns-then-not-stays
returns-then-not-stays g c =
    let e = c.drop_leaf.ensures in
    let number = c.args.gone.now.number in
    record {
      went = true;
      only = λ went. search rules;
      all = λ kind_is upto stays. refl;
      drops = record {
        bytes = ap (λ (s : Shape). s.bytes) e.shape;
        leaves = λ leaf. ap (λ (s : Shape). s.leaves leaf) e.shape;
        told = left_drops (λ leaf sector. leaf == number) number (g.R.Rack.told c.args.rack.now) (g.R.Rack.told c.drop_leaf.new.self) (λ sector. equal number number refl) e.told;
        counts = λ who stays. e.later who (λ is. absurd_test (number == number) (equal number number refl) (stays number is));
      };
    }
