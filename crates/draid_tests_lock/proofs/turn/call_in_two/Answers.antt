use Rattle.std.proofs.Common.{List, [], ◌∷◌, subst, sym}
use Rattle.draid_turn.specs.declared.past.Past.{Past}
use Rattle.draid_turn.specs.Calls.{Caller}
use Rattle.draid_holds.specs.Calls.{AllMayCall}
use Rattle.draid_tests_lock.specs.declared.log.Log.{Log}
use Rattle.draid_tests_lock.specs.declared.log.Put.{Put}
use Rattle.draid_tests_lock.proofs.Moves.{Grows, NeedsNothing, Puts, may_put, no_number}
use Rattle.draid_tests_lock.proofs.TwoTurns.{two_may}
use Rattle.draid_tests_lock.proofs.turn.call_in_two.Goals as goal

pub make_calls-requires : goal.make_calls-requires
make_calls-requires g c =
    let l = c.in_ok-left.left in
    let r = c.in_ok-right.right in
    let p = c.in_ok-left.left_pass in
    let q = c.in_ok-right.right_pass in
    subst (λ (z : List (Caller (Past Log))). AllMayCall (Grows (λ (l : Log). l.entries.items) (λ (p : Put). p.entry) (λ (p : Put). p.is_in)) NeedsNothing (Puts (λ (l : Log). l.entries.items) (λ (p : Put). p.entry) (λ (p : Put). p.is_in)) no_number (l ∷ r ∷ []) z c.args.calls.now.items) (sym c.in_ok-passes.ensures.items)
    (two_may (Grows (λ (l : Log). l.entries.items) (λ (p : Put). p.entry) (λ (p : Put). p.is_in)) NeedsNothing (Puts (λ (l : Log). l.entries.items) (λ (p : Put). p.entry) (λ (p : Put). p.is_in)) no_number (may_put (λ (l : Log). l.entries.items) (λ (p : Put). p.entry) (λ (p : Put). p.is_in)) l r p q c.args.calls.now.items c.in_ok-left.ensures.own c.in_ok-right.ensures.own c.requires)
