use Rattle.std.proofs.Common.{◌≡◌, ◌≤◌, ℕ, None, Option, Some, IsSome, false, nat_cmp, arith, refl, subst, sym}
use Rattle.std.specs.Ordering.{is_gt}
use Rattle.std.proofs.lemmas.Bool.Decides.{nat_tests}
use Rattle.std.proofs.lemmas.Map.Keys.{ge_from_not_lt}
use Rattle.draid_entries.specs.Maps.{entry_in}
use Rattle.draid_entries.specs.declared.entry.Entry.{Entry}
use Rattle.draid_entries.proofs.table.last_upto.Goals as goal

not_past : (x stripe : ℕ) → x ≤ stripe → is_gt (nat_cmp x stripe) ≡ false
not_past x stripe upto = grind (arith, nat_tests)

pub returns-in-Some-clause-last : goal.returns-in-Some-clause-last
returns-in-Some-clause-last c x past upto = by (entry_in c.args.firsts.now x) refl
  where
    by : (o : Option Entry) → entry_in c.args.firsts.now x ≡ o → o ≡ None
    by None is = refl
    by (Some e) is =
        let before = (c.range.ensures.in_range tt).4 _ _ c.in-Some.ensures.steps x (tt, not_past x c.args.stripe upto) (subst IsSome (sym is) refl) in
        let upto_it = ge_from_not_lt c.in-Some.first.now x before in
        absurd (omega (arith, past, upto_it))
