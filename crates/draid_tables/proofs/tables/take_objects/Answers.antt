use Rattle.std.proofs.Common.{not, ◌≡◌, ◌∙◌, ◌↔◌, ℕ, List, Some, ap, sym, subst, nat_eq, rules, length, arith}
use Rattle.std.proofs.lemmas.Bool.{eqb-true, true≢false}
use Rattle.std.proofs.lemmas.Cmp.{nat_eq_equiv}
use Rattle.std.proofs.lemmas.Map.Made.{filter_same_pairs}
use Rattle.std.proofs.lemmas.Map.Views.{hash_map_get_iff}
use Rattle.std.specs.HashMap.{get, hash_map_len}
use Rattle.std.specs.List.{Contains, list_any}
use Rattle.draid_names.specs.declared.pointer.Pointer.{Pointer}
use Rattle.draid_turn.specs.Numbers.{in_span}
use Rattle.draid_tables.proofs.Dealing.{Puts, left_out, puts_all, puts_more, puts_none}
use Rattle.draid_tables.proofs.tables.take_objects.Goals as goal

pub loop-object-init : goal.loop-object-init
loop-object-init c =
    let numbers = c.args.numbers.now in
    let dealt = get nat_eq c.args.dealt.now in
    let old = get nat_eq c.args.objects.now in
    let comes = c.into_iter-object-iterator.ensures.into_iter_gives ∙ c.iter-object-items.ensures.rest in
    record {
      puts = puts_none numbers dealt old (get nat_eq c.retain.new.self) c.into_iter-object-iterator.result
          (left_out numbers c.args.objects.now.entries c.retain.new.self.entries
          (filter_same_pairs _ (λ e. not (list_any (in_span e.0) numbers)) _ (λ k v b w g t. (search rules, search rules, search rules)) _ _ c.retain.ensures.filtered))
          (λ o p. subst (λ (es : List (ℕ × Pointer)). (dealt o ≡ Some p) ↔ Contains es (o, p)) (sym comes) (hash_map_get_iff nat_eq_equiv eqb-true c.args.dealt.now c.iter-object-items.ensures.unique o p));
      room = (let some : length c.into_iter-object-iterator.result ≡ hash_map_len c.args.dealt.now = ap length comes in let more = c.retain.ensures.spare in omega (arith, some, more));
    }

pub loop-object-preserved : goal.loop-object-preserved
loop-object-preserved c =
    let numbers = c.args.numbers.now in
    let dealt = get nat_eq c.args.dealt.now in
    let old = get nat_eq c.args.objects.now in
    let now = get nat_eq c.loop-object.objects in
    record {
      puts = puts_more numbers dealt old now (get nat_eq c.insert.new.self) c.in-Some.object.now c.in-Some.pointer.now c.next.new.self c.requires.within c.in-Ok.ensures.updates.0
          (subst (Puts numbers dealt old now) c.in-Some.ensures.steps c.loop-object.invariant.puts);
      room = (let room = c.loop-object.invariant.room in let longer = ap length c.in-Some.ensures.steps in let used = c.in-Ok.ensures.spare in omega (arith, room, longer, used));
    }

pub unreachable-requires : goal.unreachable-requires
unreachable-requires c =
    let room = c.loop-object.invariant.room in
    let longer = ap length c.in-Some.ensures.steps in
    let enough = c.requires.room c.iter-object-items.ensures.unique in
    true≢false (sym (c.in_default.ensures.succeeds (omega (arith, room, longer, enough))))

pub returns-clause-takes : goal.returns-clause-takes
returns-clause-takes c =
    let numbers = c.args.numbers.now in
    let dealt = get nat_eq c.args.dealt.now in
    let old = get nat_eq c.args.objects.now in
    let now = get nat_eq c.loop-object.objects in
    puts_all numbers dealt old now (subst (Puts numbers dealt old now) c.in-None.ensures.steps.0 c.loop-object.invariant.puts)

pub returns-clause-room : goal.returns-clause-room
returns-clause-room c = (let room = c.loop-object.invariant.room in omega (arith, room))
