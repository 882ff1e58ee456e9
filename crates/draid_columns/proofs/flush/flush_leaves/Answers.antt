use Rattle.std.proofs.Common.{◌≡◌, ◌≤◌, ◌+◌, ◌++◌, ◌∷◌, [], ◌∙◌, ℕ, List, Vec, Global, true, false, arith, ap, sym, subst, length, take, slice_index_or, vec_capacity}
use Rattle.std.specs.Result.{is_err}
use Rattle.std.proofs.lemmas.List.{take_more}
use Rattle.draid_rack.specs.Rack.{OnBothTold}
use Rattle.draid_columns.specs.Flushes.{CountsFailed, FlushesBut}
use Rattle.draid_columns.proofs.Flushing.{counts_failed, counts_flushed, err_of, failed_more, flushed_more, longer, ok_of}
use Rattle.draid_columns.proofs.flush.flush_leaves.Goals.{then-is_err, else-is_err}
use Rattle.draid_columns.proofs.flush.flush_leaves.Goals as goal

pub loop-leaf-preserved : goal.loop-leaf-preserved
loop-leaf-preserved g c =
    let rack = g.R.Rack in
    let leaf : ℕ = slice_index_or c.args.leaves.now c.loop-leaf.leaf-index 0 in
    let all : List ℕ = take c.loop-leaf.leaf-index c.args.leaves.now in
    let was : List ℕ = c.loop-leaf.failed.items in
    let more : take (c.loop-leaf.leaf-index + 1) c.args.leaves.now ≡ all ++ leaf ∷ [] = take_more c.args.leaves.now c.loop-leaf.leaf-index 0 c.loop-leaf-test.true in
    let before = c.loop-leaf.invariant in
    elim c.if-is_err.branch [
      | then-is_err w ↦
          let items : c.if-is_err.failed.items ≡ was ++ leaf ∷ [] = ap (λ (v : Vec ℕ Global). v.items) w.failed-is ∙ w.push_reserved.ensures.items in
          let fails : is_err c.flush.result ≡ true = sym c.is_err.ensures.value ∙ w.if-is_err.true in
          record {
            shape = c.flush.ensures.shape ∙ before.shape;
            few = subst (λ xs. length xs ≤ c.loop-leaf.leaf-index + 1) (sym items) (longer was leaf c.loop-leaf.leaf-index before.few);
            room = subst (λ (v : Vec ℕ Global). length c.args.leaves.now ≤ vec_capacity v) (sym w.failed-is) (let a = w.push_reserved.ensures.capacity in let b = before.room in omega (arith, a, b));
            told = subst (λ xs. OnBothTold (rack.told c.args.rack.now) (rack.told c.flush.new.self) (FlushesBut xs c.if-is_err.failed.items)) (sym more)
                (subst (λ xs. OnBothTold (rack.told c.args.rack.now) (rack.told c.flush.new.self) (FlushesBut (all ++ leaf ∷ []) xs)) (sym items)
                (failed_more all was leaf (rack.told c.args.rack.now) (rack.told c.loop-leaf.rack) (rack.told c.flush.new.self) before.told (err_of c.flush.result fails c.flush.ensures.err)));
            cause = subst (λ xs. CountsFailed xs c.if-is_err.failed.items (rack.faults c.args.rack.now) (rack.faults c.flush.new.self)) (sym more)
                (subst (λ xs. CountsFailed (all ++ leaf ∷ []) xs (rack.faults c.args.rack.now) (rack.faults c.flush.new.self)) (sym items)
                (counts_failed all was leaf (rack.faults c.args.rack.now) (rack.faults c.loop-leaf.rack) (rack.faults c.flush.new.self) before.cause c.flush.ensures.cause.later
                (err_of c.flush.result fails c.flush.ensures.cause.cause)));
          }
      | else-is_err w ↦
          let items : c.if-is_err.failed.items ≡ was = ap (λ (v : Vec ℕ Global). v.items) w.failed-is in
          let fine : is_err c.flush.result ≡ false = sym c.is_err.ensures.value ∙ w.if-is_err.false in
          record {
            shape = c.flush.ensures.shape ∙ before.shape;
            few = subst (λ xs. length xs ≤ c.loop-leaf.leaf-index + 1) (sym items) (let a = before.few in omega (arith, a));
            room = subst (λ (v : Vec ℕ Global). length c.args.leaves.now ≤ vec_capacity v) (sym w.failed-is) before.room;
            told = subst (λ xs. OnBothTold (rack.told c.args.rack.now) (rack.told c.flush.new.self) (FlushesBut xs c.if-is_err.failed.items)) (sym more)
                (subst (λ xs. OnBothTold (rack.told c.args.rack.now) (rack.told c.flush.new.self) (FlushesBut (all ++ leaf ∷ []) xs)) (sym items)
                (flushed_more all was leaf (rack.told c.args.rack.now) (rack.told c.loop-leaf.rack) (rack.told c.flush.new.self) before.told (ok_of c.flush.result fine c.flush.ensures.ok)));
            cause = subst (λ xs. CountsFailed xs c.if-is_err.failed.items (rack.faults c.args.rack.now) (rack.faults c.flush.new.self)) (sym more)
                (subst (λ xs. CountsFailed (all ++ leaf ∷ []) xs (rack.faults c.args.rack.now) (rack.faults c.flush.new.self)) (sym items)
                (counts_flushed all was leaf (rack.faults c.args.rack.now) (rack.faults c.loop-leaf.rack) (rack.faults c.flush.new.self) before.cause c.flush.ensures.cause.later));
          }
    ]
