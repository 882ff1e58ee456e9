use Rattle.std.proofs.Common.{rules, subst, ◌≡◌, ◌∙◌, []}
use Rattle.draid_holds.proofs.Joins.{Joining, all_follow, all_held, all_inside, all_made, all_seen, joining_more, joining_own, joining_start}
use Rattle.draid_holds.proofs.passes.join_each.Goals as goal

pub passes-init : goal.passes-init
passes-init g c = joining_start c.args.first.now c.args.passes.items

pub join-requires : goal.join-requires
join-requires g c =
    let r = subst (λ ps. Joining c.args.first.now c.args.passes.items ps c.passes.first) c.in-Some.ensures.items c.passes.invariant in
    record { own = (r.table ∙ c.requires.own, joining_own c.args.first.now c.args.passes.items (λ pass. pass.table ≡ c.args.turn.now.table) c.pop.new.self.items c.in-Some.pass c.passes.first r c.requires.each) }

pub passes-preserved : goal.passes-preserved
passes-preserved g c =
    let r = subst (λ ps. Joining c.args.first.now c.args.passes.items ps c.passes.first) c.in-Some.ensures.items c.passes.invariant in
    let e = c.join.ensures in
    joining_more c.args.first.now c.args.passes.items c.pop.new.self.items c.in-Some.pass c.passes.first c.join.new.pass r e.own e.begins.0 e.begins.1 e.made e.numbers e.follows e.follows_other

pub returns-clause-seen : goal.returns-clause-seen
returns-clause-seen g c = let none : c.passes.passes.items ≡ [] = search rules in all_seen c.args.first.now c.args.passes.items c.passes.passes.items c.passes.first c.passes.invariant none

pub returns-clause-made : goal.returns-clause-made
returns-clause-made g c = let none : c.passes.passes.items ≡ [] = search rules in all_made c.args.first.now c.args.passes.items c.passes.passes.items c.passes.first c.passes.invariant none

pub returns-clause-numbers : goal.returns-clause-numbers
returns-clause-numbers g c = let none : c.passes.passes.items ≡ [] = search rules in all_held c.args.first.now c.args.passes.items c.passes.passes.items c.passes.first c.passes.invariant none

pub returns-clause-own : goal.returns-clause-own
returns-clause-own g c = c.passes.invariant.table

pub returns-clause-begins : goal.returns-clause-begins
returns-clause-begins g c = c.passes.invariant.begins

pub returns-clause-inside : goal.returns-clause-inside
returns-clause-inside g c = let none : c.passes.passes.items ≡ [] = search rules in all_inside c.args.first.now c.args.passes.items c.passes.passes.items c.passes.first c.passes.invariant none

pub returns-clause-follows : goal.returns-clause-follows
returns-clause-follows g c = let none : c.passes.passes.items ≡ [] = search rules in all_follow c.args.first.now c.args.passes.items c.passes.passes.items c.passes.first c.passes.invariant none

pub returns-clause-first_inside : goal.returns-clause-first_inside
returns-clause-first_inside g c = c.passes.invariant.start_inside

pub returns-clause-first_follows : goal.returns-clause-first_follows
returns-clause-first_follows g c = c.passes.invariant.start_follows
