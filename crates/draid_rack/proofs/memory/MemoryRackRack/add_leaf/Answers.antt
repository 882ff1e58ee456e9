use Rattle.std.proofs.Common.{◌≡◌, ◌≤◌, ◌==◌, ℕ, Bool, true, false, Option, Some, None, Result, Ok, Err, option_map, if◌then◌else◌, arith, ap, refl, ◌∙◌}
use Rattle.std.specs.BTreeMap.{BTreeMap}
use Rattle.std.proofs.lemmas.Bool.{ne_eqb}
use Rattle.std.proofs.lemmas.Result.{err_from_is_err_and}
use Rattle.draid_names.specs.declared.fault.DeviceFault.{DeviceFault}
use Rattle.draid_names.specs.declared.fault.DeviceFault.TheVariants.{Failed, NoMemory}
use Rattle.draid_rack.proofs.Counted.{on_err}
use Rattle.draid_rack.specs.declared.leaf.Leaf.{Leaf}
use Rattle.draid_rack.specs.Leaves.{faults_by, faults_in, leaf_at, sectors_in, told_of, view_at, view_in}
use Rattle.draid_rack.specs.Rack.{adds}
use Rattle.draid_rack.specs.Sectors.{View}
use Rattle.draid_rack.proofs.Sound.{long_added, long_kept, tick_later, up_to_added, up_to_kept}
use Rattle.draid_rack.proofs.Tells.{shape_added, shape_same, told_added, told_same}
use Rattle.draid_rack.proofs.Moments.{goes_adds, elapsed_change, elapsed_same}
use Rattle.draid_rack.proofs.memory.MemoryRackRack.add_leaf.Goals as goal

own_rises : (leaves : BTreeMap ℕ Leaf) (own new : ℕ) → own ≤ new → (w : Option ℕ) → faults_by leaves own w ≤ faults_by leaves new w
own_rises leaves own new up None = up
own_rises leaves own new up (Some m) = omega arith

counts_kept : (own : ℕ) (old new : BTreeMap ℕ Leaf) → ((l : ℕ) → leaf_at new l ≡ leaf_at old l) → (w : Option ℕ) → faults_by old own w ≤ faults_by new own w
counts_kept own old new same None = omega arith
counts_kept own old new same (Some m) = (let e = ap faults_in (same m) in omega (arith, e))

-- want of memory is no failure of the device
no_failure : (r : Result Unit DeviceFault) (f : DeviceFault) → r ≡ Err f → f ≡ NoMemory → r ≡ Err Failed → ⊥
no_failure r f is want failed = cc

no_failure_at_ok : (r : Result Unit DeviceFault) → r ≡ Ok tt → r ≡ Err Failed → ⊥
no_failure_at_ok r is failed = cc

-- ---- one leaf came
module _ (leaf : ℕ) (new : Leaf) (old now : BTreeMap ℕ Leaf) (is : (l : ℕ) → leaf_at now l ≡ (if l == leaf then Some new else leaf_at old l)) where
  beside : (l : ℕ) → (l ≡ leaf → ⊥) → leaf_at now l ≡ leaf_at old l
  beside l other = is l ∙ ap (λ b. if b then Some new else leaf_at old l) (ne_eqb l leaf other)

  came_later : (own : ℕ) (w : Option ℕ) → (w ≡ Some leaf → ⊥) → faults_by old own w ≤ faults_by now own w
  came_later own None other = omega arith
  came_later own (Some m) other = (let e = ap faults_in (beside m (λ same. other (ap Some same))) in omega (arith, e))

  came_counts : faults_in (Some new) ≡ 0 → (l : ℕ) → faults_in (leaf_at now l) ≡ (if l == leaf then 0 else faults_in (leaf_at old l))
  came_counts none l = ap faults_in (is l) ∙ at (l == leaf)
    where
      at : (b : Bool) → faults_in (if b then Some new else leaf_at old l) ≡ (if b then 0 else faults_in (leaf_at old l))
      at true = none
      at false = refl

  came_kept : (l s : ℕ) → (l ≡ leaf → ⊥) → option_map (λ (x : View). x.kept) (view_at now l s) ≡ option_map (λ (x : View). x.kept) (view_at old l s)
  came_kept l s other = ap (λ o. option_map (λ (x : View). x.kept) (view_in o s)) (beside l other)

pub invariant_of-self-in-Break-branch-2 : goal.invariant_of-self-in-Break-branch-2
invariant_of-self-in-Break-branch-2 c = record {
  whole = long_kept _ c.args.self.now.leaves c.insert_leaf.new.leaves c.in_err-insert_leaf.ensures.err c.args.self.now.whole;
  orderly = up_to_kept _ c.args.self.now.leaves c.insert_leaf.new.leaves c.in_err-insert_leaf.ensures.err c.args.self.now.orderly;
}

pub invariant_of-self-2 : goal.invariant_of-self-2
invariant_of-self-2 c = record {
  whole = long_added _ c.args.leaf _ _ c.in_ok-new.new c.args.self.now.leaves c.insert_leaf.new.leaves c.args.self.now.whole c.in_ok-new.ensures c.in_ok-insert_leaf.ensures.ok;
  orderly = up_to_added _ c.args.leaf _ c.args.self.now.clock _ c.in_ok-new.new c.args.self.now.leaves c.insert_leaf.new.leaves (tick_later _ _ c.later-clock.ensures)
      c.args.self.now.orderly c.in_ok-new.ensures c.in_ok-insert_leaf.ensures.ok;
}

pub returns-clause-ok : goal.returns-clause-ok
returns-clause-ok c =
    told_added c.args.self.now.bytes c.args.leaf c.args.sectors c.args.self.now.clock c.later-clock.result c.in_ok-new.new c.args.self.now.leaves c.insert_leaf.new.leaves
    c.in_ok-new.ensures c.in_ok-insert_leaf.ensures.ok c.later-clock.ensures

pub returns-clause-shape : goal.returns-clause-shape
returns-clause-shape c =
    shape_added c.args.self.now.bytes c.args.leaf c.args.sectors c.args.self.now.clock c.later-clock.result c.in_ok-new.new c.args.self.now.leaves c.insert_leaf.new.leaves
    c.in_ok-new.ensures c.in_ok-insert_leaf.ensures.ok

pub returns-clause-moments : goal.returns-clause-moments
returns-clause-moments c = elapsed_change (adds c.args.self.now.bytes c.args.leaf c.args.sectors) (goes_adds c.args.self.now.bytes c.args.leaf c.args.sectors) (told_of (view_at c.args.self.now.leaves) c.args.self.now.clock) _ (returns-clause-ok c)

pub returns-in_err-insert_leaf-clause-kept : goal.returns-in_err-insert_leaf-clause-kept
returns-in_err-insert_leaf-clause-kept c =
    let same = ap (λ o. faults_in o) (c.in_err-insert_leaf.ensures.err c.args.leaf) in
    let kept : faults_in (leaf_at c.args.self.now.leaves c.args.leaf) ≤ faults_in (leaf_at c.insert_leaf.new.leaves c.args.leaf) = omega (arith, same) in
    on_err c.from_residual-in_err-insert_leaf.result _ kept

pub returns-then-fails-clause-ok : goal.returns-then-fails-clause-ok
returns-then-fails-clause-ok c = tt

pub returns-then-fails-clause-err : goal.returns-then-fails-clause-err
returns-then-fails-clause-err c = refl

pub returns-then-fails-clause-moments : goal.returns-then-fails-clause-moments
returns-then-fails-clause-moments c = elapsed_same (told_of (view_at c.args.self.now.leaves) c.args.self.now.clock) _ refl

pub returns-then-fails-clause-shape : goal.returns-then-fails-clause-shape
returns-then-fails-clause-shape c = tt

pub returns-then-fails-clause-same : goal.returns-then-fails-clause-same
returns-then-fails-clause-same c = refl

pub returns-then-fails-clause-later : goal.returns-then-fails-clause-later
returns-then-fails-clause-later c = λ w other. own_rises c.args.self.now.leaves _ _ (let up = c.saturating_add-self.ensures in omega (arith, up)) w

pub returns-then-fails-clause-kept : goal.returns-then-fails-clause-kept
returns-then-fails-clause-kept c = omega arith

pub returns-then-fails-clause-cause : goal.returns-then-fails-clause-cause
returns-then-fails-clause-cause c = λ failed. (let up = c.saturating_add-self.ensures in omega (arith, up))

pub returns-then-fails-clause-exact : goal.returns-then-fails-clause-exact
returns-then-fails-clause-exact c = record { risen = λ failed. c.saturating_add-self.ensures; same = λ other. absurd (other refl) }

pub returns-then-fails-clause-begun : goal.returns-then-fails-clause-begun
returns-then-fails-clause-begun c = tt

pub returns-then-fails-clause-same_counts : goal.returns-then-fails-clause-same_counts
returns-then-fails-clause-same_counts c = λ l. refl

pub returns-then-fails-clause-flushed : goal.returns-then-fails-clause-flushed
returns-then-fails-clause-flushed c = λ l s other. refl

pub returns-then-fails-clause-unflushed : goal.returns-then-fails-clause-unflushed
returns-then-fails-clause-unflushed c = λ l s. refl

pub returns-in_err-new-clause-ok : goal.returns-in_err-new-clause-ok
returns-in_err-new-clause-ok c = rw (err_from_is_err_and c.from_residual.result c.from_residual.ensures.1).1 tt

pub returns-in_err-new-clause-err : goal.returns-in_err-new-clause-err
returns-in_err-new-clause-err c = on_err c.from_residual.result _ refl

pub returns-in_err-new-clause-moments : goal.returns-in_err-new-clause-moments
returns-in_err-new-clause-moments c = elapsed_same (told_of (view_at c.args.self.now.leaves) c.args.self.now.clock) _ refl

pub returns-in_err-new-clause-shape : goal.returns-in_err-new-clause-shape
returns-in_err-new-clause-shape c = rw (err_from_is_err_and c.from_residual.result c.from_residual.ensures.1).1 tt

pub returns-in_err-new-clause-same : goal.returns-in_err-new-clause-same
returns-in_err-new-clause-same c = on_err c.from_residual.result _ refl

pub returns-in_err-new-clause-later : goal.returns-in_err-new-clause-later
returns-in_err-new-clause-later c = λ w other. omega arith

pub returns-in_err-new-clause-kept : goal.returns-in_err-new-clause-kept
returns-in_err-new-clause-kept c =
    let kept : faults_in (leaf_at c.args.self.now.leaves c.args.leaf) ≤ faults_in (leaf_at c.args.self.now.leaves c.args.leaf) = omega arith in
    on_err c.from_residual.result _ kept

pub returns-in_err-new-clause-cause : goal.returns-in_err-new-clause-cause
returns-in_err-new-clause-cause c = λ failed. absurd (no_failure c.from_residual.result (err_from_is_err_and c.from_residual.result c.from_residual.ensures.1).0 (err_from_is_err_and c.from_residual.result c.from_residual.ensures.1).1 (err_from_is_err_and c.from_residual.result c.from_residual.ensures.1).2 failed)

pub returns-in_err-new-clause-exact : goal.returns-in_err-new-clause-exact
returns-in_err-new-clause-exact c = record { risen = λ failed. absurd (no_failure c.from_residual.result (err_from_is_err_and c.from_residual.result c.from_residual.ensures.1).0 (err_from_is_err_and c.from_residual.result c.from_residual.ensures.1).1 (err_from_is_err_and c.from_residual.result c.from_residual.ensures.1).2 failed); same = λ other. refl }

pub returns-in_err-new-clause-begun : goal.returns-in_err-new-clause-begun
returns-in_err-new-clause-begun c = rw (err_from_is_err_and c.from_residual.result c.from_residual.ensures.1).1 tt

pub returns-in_err-new-clause-same_counts : goal.returns-in_err-new-clause-same_counts
returns-in_err-new-clause-same_counts c = on_err c.from_residual.result _ (λ l. refl)

pub returns-in_err-new-clause-flushed : goal.returns-in_err-new-clause-flushed
returns-in_err-new-clause-flushed c = λ l s other. refl

pub returns-in_err-new-clause-unflushed : goal.returns-in_err-new-clause-unflushed
returns-in_err-new-clause-unflushed c = on_err c.from_residual.result _ (λ l s. refl)

pub returns-in_err-insert_leaf-clause-ok : goal.returns-in_err-insert_leaf-clause-ok
returns-in_err-insert_leaf-clause-ok c = rw (err_from_is_err_and c.from_residual-in_err-insert_leaf.result c.from_residual-in_err-insert_leaf.ensures.1).1 tt

pub returns-in_err-insert_leaf-clause-err : goal.returns-in_err-insert_leaf-clause-err
returns-in_err-insert_leaf-clause-err c = on_err c.from_residual-in_err-insert_leaf.result _ (told_same c.args.self.now.clock c.args.self.now.leaves c.insert_leaf.new.leaves (λ m q. ap (λ o. view_in o q) (c.in_err-insert_leaf.ensures.err m)))

pub returns-in_err-insert_leaf-clause-moments : goal.returns-in_err-insert_leaf-clause-moments
returns-in_err-insert_leaf-clause-moments c = elapsed_same (told_of (view_at c.args.self.now.leaves) c.args.self.now.clock) _ (told_same c.args.self.now.clock c.args.self.now.leaves c.insert_leaf.new.leaves (λ m q. ap (λ o. view_in o q) (c.in_err-insert_leaf.ensures.err m)))

pub returns-in_err-insert_leaf-clause-shape : goal.returns-in_err-insert_leaf-clause-shape
returns-in_err-insert_leaf-clause-shape c = rw (err_from_is_err_and c.from_residual-in_err-insert_leaf.result c.from_residual-in_err-insert_leaf.ensures.1).1 tt

pub returns-in_err-insert_leaf-clause-same : goal.returns-in_err-insert_leaf-clause-same
returns-in_err-insert_leaf-clause-same c = on_err c.from_residual-in_err-insert_leaf.result _ (shape_same c.args.self.now.bytes c.args.self.now.leaves c.insert_leaf.new.leaves (λ l. ap sectors_in (c.in_err-insert_leaf.ensures.err l)))

pub returns-in_err-insert_leaf-clause-later : goal.returns-in_err-insert_leaf-clause-later
returns-in_err-insert_leaf-clause-later c = λ w other. counts_kept c.args.self.now.own_faults c.args.self.now.leaves c.insert_leaf.new.leaves c.in_err-insert_leaf.ensures.err w

pub returns-in_err-insert_leaf-clause-cause : goal.returns-in_err-insert_leaf-clause-cause
returns-in_err-insert_leaf-clause-cause c = λ failed. absurd (no_failure c.from_residual-in_err-insert_leaf.result (err_from_is_err_and c.from_residual-in_err-insert_leaf.result c.from_residual-in_err-insert_leaf.ensures.1).0 (err_from_is_err_and c.from_residual-in_err-insert_leaf.result c.from_residual-in_err-insert_leaf.ensures.1).1 (err_from_is_err_and c.from_residual-in_err-insert_leaf.result c.from_residual-in_err-insert_leaf.ensures.1).2 failed)

pub returns-in_err-insert_leaf-clause-exact : goal.returns-in_err-insert_leaf-clause-exact
returns-in_err-insert_leaf-clause-exact c = record { risen = λ failed. absurd (no_failure c.from_residual-in_err-insert_leaf.result (err_from_is_err_and c.from_residual-in_err-insert_leaf.result c.from_residual-in_err-insert_leaf.ensures.1).0 (err_from_is_err_and c.from_residual-in_err-insert_leaf.result c.from_residual-in_err-insert_leaf.ensures.1).1 (err_from_is_err_and c.from_residual-in_err-insert_leaf.result c.from_residual-in_err-insert_leaf.ensures.1).2 failed); same = λ other. refl }

pub returns-in_err-insert_leaf-clause-begun : goal.returns-in_err-insert_leaf-clause-begun
returns-in_err-insert_leaf-clause-begun c = rw (err_from_is_err_and c.from_residual-in_err-insert_leaf.result c.from_residual-in_err-insert_leaf.ensures.1).1 tt

pub returns-in_err-insert_leaf-clause-same_counts : goal.returns-in_err-insert_leaf-clause-same_counts
returns-in_err-insert_leaf-clause-same_counts c = on_err c.from_residual-in_err-insert_leaf.result _ (λ l. ap faults_in (c.in_err-insert_leaf.ensures.err l))

pub returns-in_err-insert_leaf-clause-flushed : goal.returns-in_err-insert_leaf-clause-flushed
returns-in_err-insert_leaf-clause-flushed c = λ l s other. ap (λ o. option_map (λ (x : View). x.kept) (view_in o s)) (c.in_err-insert_leaf.ensures.err l)

pub returns-in_err-insert_leaf-clause-unflushed : goal.returns-in_err-insert_leaf-clause-unflushed
returns-in_err-insert_leaf-clause-unflushed c = on_err c.from_residual-in_err-insert_leaf.result _ (λ l s. ap (λ o. option_map (λ (x : View). x.kept) (view_in o s)) (c.in_err-insert_leaf.ensures.err l))

pub returns-clause-err : goal.returns-clause-err
returns-clause-err c = tt

pub returns-clause-same : goal.returns-clause-same
returns-clause-same c = tt

pub returns-clause-kept : goal.returns-clause-kept
returns-clause-kept c = tt

pub returns-clause-later : goal.returns-clause-later
returns-clause-later c = λ w other. came_later c.args.leaf c.in_ok-new.new c.args.self.now.leaves c.insert_leaf.new.leaves c.in_ok-insert_leaf.ensures.ok c.args.self.now.own_faults w other

pub returns-clause-cause : goal.returns-clause-cause
returns-clause-cause c = λ failed. absurd (no_failure_at_ok _ refl failed)

pub returns-clause-exact : goal.returns-clause-exact
returns-clause-exact c = record { risen = λ failed. absurd (no_failure_at_ok _ refl failed); same = λ other. refl }

pub returns-clause-begun : goal.returns-clause-begun
returns-clause-begun c = came_counts c.args.leaf c.in_ok-new.new c.args.self.now.leaves c.insert_leaf.new.leaves c.in_ok-insert_leaf.ensures.ok c.in_ok-new.ensures.faults

pub returns-clause-same_counts : goal.returns-clause-same_counts
returns-clause-same_counts c = tt

pub returns-clause-flushed : goal.returns-clause-flushed
returns-clause-flushed c = λ l s other. came_kept c.args.leaf c.in_ok-new.new c.args.self.now.leaves c.insert_leaf.new.leaves c.in_ok-insert_leaf.ensures.ok l s other

pub returns-clause-unflushed : goal.returns-clause-unflushed
returns-clause-unflushed c = tt
