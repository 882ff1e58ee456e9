use Rattle.std.proofs.Common.{arith, ◌≡◌, ◌==◌, ◌&&◌, ◌<◌, nat_lt, true, ℕ, Bool, Result, Option, List, OnOk, OnErr, option_map, false}
use Rattle.std.proofs.lemmas.Bool.Decides.{nat_tests}
use Rattle.draid_rack.specs.Rack.{Lands, Told, flushes}
use Rattle.draid_rack.specs.Moments.{ChangesOnlyTold}
use Rattle.draid_rack.proofs.Moments.{kept, kept_by_crash, told_flushed, told_lands, told_on}
use Rattle.draid_tests_devices.proofs.rack.write_three.Goals as goal

abbrev named : ℕ → ℕ → ℕ → Bool
named leaf l s = l == leaf && nat_lt s 3

is_named : (leaf s : ℕ) → s < 3 → named leaf leaf s ≡ true
is_named leaf s low = grind (arith, nat_tests)

one : {E : Type 0} (leaf s : ℕ) (bytes : List ℕ) (r : Result Unit E) (o p : Option Told) → s < 3 → Lands leaf s bytes (λ _. false) r o p → ChangesOnlyTold (named leaf) o p
one leaf s bytes r o p low w = told_lands (named leaf) leaf s bytes (λ _. false) r o p (is_named leaf s low) w

two : {E : Type 0} (leaf : ℕ) (bytes : List ℕ) (r s : Result Unit E) (o p q : Option Told) → Lands leaf 0 bytes (λ _. false) r o p → Lands leaf 1 bytes (λ _. false) s p q → ChangesOnlyTold (named leaf) o q
two leaf bytes r s o p q a b = told_on (named leaf) o p q (one leaf 0 bytes r o p (omega arith) a) (one leaf 1 bytes s p q (omega arith) b)

three : {E : Type 0} (leaf : ℕ) (bytes : List ℕ) (r s t : Result Unit E) (o p q u : Option Told) → Lands leaf 0 bytes (λ _. false) r o p → Lands leaf 1 bytes (λ _. false) s p q → Lands leaf 2 bytes (λ _. false) t q u → ChangesOnlyTold (named leaf) o u
three leaf bytes r s t o p q u a b d = told_on (named leaf) o q u (two leaf bytes r s o p q a b) (one leaf 2 bytes t q u (omega arith) d)

all : {E : Type 0} (leaf : ℕ) (bytes : List ℕ) (r s t f : Result Unit E) (o p q u v : Option Told) → Lands leaf 0 bytes (λ _. false) r o p → Lands leaf 1 bytes (λ _. false) s p q → Lands leaf 2 bytes (λ _. false) t q u → OnOk f (v ≡ option_map (flushes leaf) u) → OnErr f (v ≡ u) → ChangesOnlyTold (named leaf) o v
all leaf bytes r s t f o p q u v a b d ok err = told_on (named leaf) o u v (three leaf bytes r s t o p q u a b d) (told_flushed (named leaf) leaf f u v ok err)

pub returns-in_err-write-clause-others : goal.returns-in_err-write-clause-others
returns-in_err-write-clause-others g c = kept (named c.args.leaf) _ _ (g.met.R.Rack.orderly c.args.rack.now) (one _ _ _ _ _ _ (omega arith) c.write.ensures.told)

pub returns-in_err-write-clause-crash : goal.returns-in_err-write-clause-crash
returns-in_err-write-clause-crash g c = kept_by_crash (named c.args.leaf) _ _ (returns-in_err-write-clause-others g c)

pub returns-in_err-write-2-clause-others : goal.returns-in_err-write-2-clause-others
returns-in_err-write-2-clause-others g c = kept (named c.args.leaf) _ _ (g.met.R.Rack.orderly c.args.rack.now) (two _ _ _ _ _ _ _ c.write.ensures.told c.write-2.ensures.told)

pub returns-in_err-write-2-clause-crash : goal.returns-in_err-write-2-clause-crash
returns-in_err-write-2-clause-crash g c = kept_by_crash (named c.args.leaf) _ _ (returns-in_err-write-2-clause-others g c)

pub returns-in_err-write-3-clause-others : goal.returns-in_err-write-3-clause-others
returns-in_err-write-3-clause-others g c =
    kept (named c.args.leaf) _ _ (g.met.R.Rack.orderly c.args.rack.now) (three _ _ _ _ _ _ _ _ _ c.write.ensures.told c.write-2.ensures.told c.write-3.ensures.told)

pub returns-in_err-write-3-clause-crash : goal.returns-in_err-write-3-clause-crash
returns-in_err-write-3-clause-crash g c = kept_by_crash (named c.args.leaf) _ _ (returns-in_err-write-3-clause-others g c)

pub returns-clause-others : goal.returns-clause-others
returns-clause-others g c =
    kept (named c.args.leaf) _ _ (g.met.R.Rack.orderly c.args.rack.now)
    (all _ _ _ _ _ _ _ _ _ _ _ c.write.ensures.told c.write-2.ensures.told c.write-3.ensures.told c.flush.ensures.ok c.flush.ensures.err)

pub returns-clause-crash : goal.returns-clause-crash
returns-clause-crash g c = kept_by_crash (named c.args.leaf) _ _ (returns-clause-others g c)
