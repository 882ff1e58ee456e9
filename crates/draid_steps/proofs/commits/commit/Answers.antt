use Rattle.std.proofs.Common.{rules, ap, sym, None, option_map, ◌∙◌}
use Rattle.draid_world.specs.World.{core_of, image_of, state_of}
use Rattle.draid_steps.proofs.commits.commit.Goals as goal

pub returns-clause-legal : goal.returns-clause-legal
returns-clause-legal c = λ e.
    let w = c.args.world.now in
    let img = c.in-Some.image in
    record {
      image = image_of img;
      closing = search rules;
      sealed = ap (option_map image_of) (sym c.take.ensures.value ∙ c.in-Some.is);
      made = λ i. record (state_of w) {
        committed = c.args.group;
        version = img.version;
        closing = None;
        sealed = option_map image_of (c.take.ensures.after i);
        image = image_of img;
        core = record (core_of w.tables) { held = λ k. c.drop_freed.ensures k i; arm = λ n. c.drop_gone.ensures n i };
        loan = c.end_loan.ensures i;
        present = λ s. c.in_ok-present.ensures s i;
        aside = λ s. c.in_ok-aside.ensures s i;
        kept = λ s. c.drop_kept.ensures s i;
      };
    }
