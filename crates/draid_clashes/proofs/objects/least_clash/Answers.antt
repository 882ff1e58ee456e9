use Rattle.std.proofs.Common.{sym, subst}
use Rattle.draid_clashes.specs.Lanes.{lanes_in}
use Rattle.std.specs.List.Sorted.{IsPermutation}
use Rattle.draid_clashes.proofs.Naming.{found_least, found_none, some_sorted}
use Rattle.draid_clashes.proofs.objects.least_clash.Goals as goal

pub first_shared-requires-clause-some : goal.first_shared-requires-clause-some
first_shared-requires-clause-some c = some_sorted (lanes_in c.args.lanes.now) c.in_ok-named.named.items c.deref.result.now c.in_ok-named.ensures (subst (IsPermutation c.in_ok-named.named.items) (sym c.deref.ensures.value) c.sort.ensures.same)

pub returns-clause-some : goal.returns-clause-some
returns-clause-some c = found_least (lanes_in c.args.lanes.now) c.in_ok-named.named.items c.deref.result.now c.in_ok-named.ensures (subst (IsPermutation c.in_ok-named.named.items) (sym c.deref.ensures.value) c.sort.ensures.same)
    c.first_shared.result c.first_shared.ensures.some

pub returns-clause-none : goal.returns-clause-none
returns-clause-none c = found_none (lanes_in c.args.lanes.now) c.in_ok-named.named.items c.deref.result.now c.in_ok-named.ensures (subst (IsPermutation c.in_ok-named.named.items) (sym c.deref.ensures.value) c.sort.ensures.same)
    c.first_shared.result c.first_shared.ensures.none
