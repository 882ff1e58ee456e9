use Rattle.std.proofs.Common.{◌≡◌, ◌∙◌, ◌↔◌, ℕ, List, Some, ap, sym, subst, nat_eq}
use Rattle.std.proofs.lemmas.Bool.{eqb-true}
use Rattle.std.proofs.lemmas.Cmp.{nat_eq_equiv}
use Rattle.std.proofs.lemmas.Map.Views.{hash_map_get_iff}
use Rattle.std.specs.HashMap.{get}
use Rattle.std.specs.Map.{lookup}
use Rattle.std.specs.List.{Contains}
use Rattle.draid_names.specs.declared.pointer.Pointer.{Pointer}
use Rattle.draid_tables.specs.Tables.{IsDealt}
use Rattle.draid_tables.proofs.Dealing.{Deals, deals_all, deals_more, deals_none, deals_skip}
use Rattle.draid_tables.proofs.Spans.{any_holds}
use Rattle.draid_tables.proofs.tables.deal_objects.Goals as goal

pub loop-object-init : goal.loop-object-init
loop-object-init c =
    let table = get nat_eq c.args.objects.now in
    deals_none c.args.numbers.now table (get nat_eq c.new-dealt.result) c.into_iter-object-iterator.result (λ o. ap (lookup (nat_eq o)) c.new-dealt.ensures.empty)
    (λ o p. subst (λ (es : List (ℕ × Pointer)). (table o ≡ Some p) ↔ Contains es (o, p)) (sym (c.into_iter-object-iterator.ensures.into_iter_gives ∙ c.iter-object-items.ensures.rest))
    (hash_map_get_iff nat_eq_equiv eqb-true c.args.objects.now c.iter-object-items.ensures.unique o p))

pub loop-object-preserved-in_ok-insert : goal.loop-object-preserved-in_ok-insert
loop-object-preserved-in_ok-insert c =
    let numbers = c.args.numbers.now in
    let table = get nat_eq c.args.objects.now in
    let k = c.in-Some.object.now in
    let d = subst (Deals numbers table (get nat_eq c.loop-object.dealt)) c.in-Some.ensures.steps c.loop-object.invariant in
    deals_more numbers table (get nat_eq c.loop-object.dealt) k c.in-Some.pointer.now c.next.new.self d (sym (any_holds k numbers) ∙ (sym c.is_held.ensures ∙ c.if-is_held.true))
    (get nat_eq c.insert.new.self) c.in_ok-insert.ensures.updates.0

pub loop-object-preserved : goal.loop-object-preserved
loop-object-preserved c =
    let numbers = c.args.numbers.now in
    let table = get nat_eq c.args.objects.now in
    let k = c.in-Some.object.now in
    let d = subst (Deals numbers table (get nat_eq c.loop-object.dealt)) c.in-Some.ensures.steps c.loop-object.invariant in
    deals_skip numbers table (get nat_eq c.loop-object.dealt) k c.in-Some.pointer.now c.next.new.self d (sym (any_holds k numbers) ∙ (sym c.is_held.ensures ∙ c.if-is_held.false))

pub returns-clause-dealt : goal.returns-clause-dealt
returns-clause-dealt c =
    let numbers = c.args.numbers.now in
    let table = get nat_eq c.args.objects.now in
    let all : IsDealt numbers table (get nat_eq c.loop-object.dealt) = deals_all numbers table (get nat_eq c.loop-object.dealt) (subst (Deals numbers table (get nat_eq c.loop-object.dealt)) c.in-None.ensures.steps.0 c.loop-object.invariant) in
    λ o. c.reserve.ensures.entries.2 o ∙ all o
