use Rattle.std.proofs.Common.{◌≡◌, ℕ, List, true, arith, sym, subst}
use Rattle.std.specs.Prelude.{Contains}
use Rattle.draid_block.specs.Blocks.{cut_of}
use Rattle.draid_block.specs.Order.{covers}
use Rattle.draid_block.proofs.Sets.{covers_contains, tries_one}
use Rattle.draid_block.proofs.search.try_candidate.Goals as goal

pub try_set-requires-clause-set : goal.try_set-requires-clause-set
try_set-requires-clause-set c =
    let all : covers c.args.search.now.absent.now c.args.set.now ≡ true = cc (c.has_all.ensures, c.if-not-has_all.false) in
    record {
      few = (let few = c.requires.set.few in omega (arith, few));
      ascending = c.requires.set.ascending;
      in_range = c.requires.set.below;
      absent = λ i there. covers_contains c.args.search.now.absent.now c.args.set.now all i (subst (λ (l : List ℕ). Contains l i) (sym c.requires.search.absent_is) there);
    }

pub returns : goal.returns
returns c =
    let all : covers c.args.search.now.absent.now c.args.set.now ≡ true = cc (c.has_all.ensures, c.if-not-has_all.false) in
    tries_one (cut_of c.args.search.now.geometry.now) c.args.search.now.fetched.now c.args.set.now c.args.search.now.absent.now c.try_set.new.attempts c.args.attempts.now.tried c.try_set.new.attempts.tried c.try_set.result all
    c.try_set.ensures.tried c.try_set.ensures.tries
