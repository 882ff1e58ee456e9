use Rattle.std.proofs.Common.{◌∙◌, sym, length}
use Rattle.draid_turn.specs.Lists.{StartsWith}
use Rattle.draid_turn.specs.Numbers.{HoldsAll}
use Rattle.std.proofs.lemmas.List.Elements.{All-weaker}
use Rattle.draid_turn.proofs.Beginnings.{starts_further}
use Rattle.draid_turn.specs.History.{number_of}
use Rattle.draid_turn.proofs.Joined.{follows_then}
use Rattle.draid_holds.proofs.Joins.{follows_all, made_once}
use Rattle.draid_holds.proofs.passes.close_each.Goals as goal

pub returns : goal.returns
returns g c =
    let closed = c.close.ensures in
    let last = c.join_each.new.first.seen in
    let more : StartsWith closed.log last = (closed.follows.unseen, closed.follows.begins) in
    let all : HoldsAll c.join_each.new.first.numbers = λ n lt. c.join_each.ensures.numbers n (c.requires.all n lt) in
    record {
      log = closed.log;
      stood = closed.stood;
      seen = All-weaker (λ pass. StartsWith last pass.seen) (λ pass. StartsWith closed.log pass.seen) (λ pass h. starts_further pass.seen last closed.log h more) c.args.passes.items c.join_each.ensures.seen;
      follows = follows_all c.args.passes.items c.join_each.new.first closed.log closed.follows c.join_each.ensures.inside c.join_each.ensures.follows;
      first_follows = follows_then number_of c.args.first.numbers c.join_each.new.first.numbers c.args.first.seen last closed.log c.join_each.ensures.first_inside c.join_each.ensures.first_follows closed.follows;
      single = λ x. sym (c.join_each.ensures.made x) ∙ made_once c.join_each.new.first.own (length closed.log) x (closed.whole all);
    }

pub join_each-requires-clause-own : goal.join_each-requires-clause-own
join_each-requires-clause-own g c = c.requires.own

pub join_each-requires-clause-each : goal.join_each-requires-clause-each
join_each-requires-clause-each g c = c.requires.each

pub close-requires : goal.close-requires
close-requires g c = record { own = c.join_each.ensures.own ∙ c.requires.own }
