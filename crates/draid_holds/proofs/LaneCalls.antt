-- Laws of a lane's calls.
use Rattle.std.proofs.Common.{◌≡◌, ℕ, ◌+◌, ◌<◌, ◌≤◌, List, [], ◌∷◌, ◌++◌, length, get_or, set, take, sym, refl, ap, ◌∙◌, subst, arith, Option, All, length-set, get_or-set_other}
use Rattle.std.proofs.lemmas.List.{take_all, take_more, take_more_set}
use Rattle.std.specs.List.{slice_get}
use mathlib.Core.Logic.{dite}
use native.Mathlib.Decide.{ℕ_discrete}
use Rattle.draid_turn.specs.declared.past.Past.{Past}
use Rattle.draid_turn.specs.Calls.{Caller, Lock}
use Rattle.draid_turn.specs.Lists.{StartsWith}
use Rattle.draid_turn.proofs.Beginnings.{starts_further, starts_self}
use Rattle.draid_holds.specs.Calls.{AreHolds, CallsMade, DidIn, MayCallIn, MayCallLater}
use Rattle.draid_holds.specs.declared.calls.Call.{Call}
use Rattle.draid_holds.proofs.Holds.{did_hold, hold_later}
use Rattle.draid_holds.proofs.Lookups.{get_set, get_set_other, some_same}

module _ {O T : Type 0} (step : T → Past T → Type 0) (needs : O → T → Type 0) (relates : O → T → O → T → Type 0) (concerns : O → Option ℕ) (locks : List (Lock T)) where
  -- a call that may be made later may still be made after another one
  may_still : (op : O) (turn : ℕ) (at : ℕ) (other done : O) (old new : List (Caller (Past T))) → MayCallLater step needs relates concerns op turn locks old → DidIn step relates concerns locks at other done old new
      → MayCallLater step needs relates concerns op turn locks new
  may_still op turn at other done old new m d = dite (ℕ_discrete turn at)
      (λ same.
      let was : d.pass ≡ m.pass = some_same d.pass m.pass (sym d.pass_is ∙ (ap (slice_get old) (sym same) ∙ m.pass_is)) in
      let hold = did_hold step relates concerns d.lock.first other done d.pass d.next d.did in
      record {
        lock = m.lock;
        pass = d.next;
        lock_is = m.lock_is;
        pass_is = ap (λ l. slice_get l turn) d.is ∙ (ap (slice_get (set old at d.next)) same ∙ get_set old at d.next d.pass d.pass_is);
        may = λ later table numbers seen. m.may later (table ∙ (hold.table ∙ ap (λ (c : Caller (Past T)). c.table) was)) (numbers ∙ (hold.numbers ∙ ap (λ (c : Caller (Past T)). c.numbers) was))
            (starts_further m.pass.seen d.next.seen later.seen (subst (λ (c : Caller (Past T)). StartsWith d.next.seen c.seen) was (hold_later d.pass d.next _ hold)) seen);
      })
      (λ apart. record {
        lock = m.lock;
        pass = m.pass;
        lock_is = m.lock_is;
        pass_is = ap (λ l. slice_get l turn) d.is ∙ get_set_other old at turn d.next m.pass apart m.pass_is;
        may = m.may;
      })

  may_after : (op : O) (turn : ℕ) (calls dones : List (Call O)) (old new : List (Caller (Past T))) → CallsMade step relates concerns locks calls dones old new → MayCallLater step needs relates concerns op turn locks old
      → MayCallLater step needs relates concerns op turn locks new
  may_after op turn [] [] old new made m = subst (MayCallLater step needs relates concerns op turn locks) (sym made) m
  may_after op turn (call ∷ calls) (done ∷ dones) old new made m = may_after op turn calls dones made.0 new made.3 (may_still op turn call.turn call.op done.op old made.0 m made.2)
  may_after op turn [] (done ∷ dones) old new made m = absurd made
  may_after op turn (call ∷ calls) [] old new made m = absurd made

  may_now : (op : O) (turn : ℕ) (passes : List (Caller (Past T))) → MayCallLater step needs relates concerns op turn locks passes → MayCallIn step needs relates concerns op turn locks passes
  may_now op turn passes m = record { lock = m.lock; pass = m.pass; lock_is = m.lock_is; pass_is = m.pass_is; may = m.may m.pass refl refl (starts_self m.pass.seen) }

  made_more : (calls dones : List (Call O)) (old mid new : List (Caller (Past T))) (call done : Call O) → CallsMade step relates concerns locks calls dones old mid → done.turn ≡ call.turn
      → DidIn step relates concerns locks call.turn call.op done.op mid new → CallsMade step relates concerns locks (calls ++ call ∷ []) (dones ++ done ∷ []) old new
  made_more [] [] old mid new call done made turn did = (new, turn, subst (λ l. DidIn step relates concerns locks call.turn call.op done.op l new) made did, refl)
  made_more (c ∷ calls) (d ∷ dones) old mid new call done made turn did = (made.0, made.1, made.2, made_more calls dones made.0 mid new call done made.3 turn did)
  made_more [] (d ∷ dones) old mid new call done made turn did = absurd made
  made_more (c ∷ calls) [] old mid new call done made turn did = absurd made

  -- the first calls were made
  pub record Calling (old : List (Caller (Past T))) (calls : List (Call O)) (i : ℕ) (dones : List (Call O)) (new : List (Caller (Past T))) : Type 0 where
    pub count : length dones ≡ length calls
    pub rest : (k : ℕ) (d : Call O) → i ≤ k → get_or dones k d ≡ get_or calls k d
    pub made : CallsMade step relates concerns locks (take i calls) (take i dones) old new

  module _ (old : List (Caller (Past T))) (calls : List (Call O)) where
    pub calling_start : Calling old calls 0 calls old
    calling_start = record { count = refl; rest = λ k d h. refl; made = refl }

    pub calling_may : (i : ℕ) (dones : List (Call O)) (new : List (Caller (Past T))) (call : Call O) → Calling old calls i dones new
        → All (λ (c : Call O). MayCallLater step needs relates concerns c.op c.turn locks old) calls → i < length calls → call ≡ get_or dones i call
        → MayCallIn step needs relates concerns call.op call.turn locks new
    calling_may i dones new call r may lt is =
        let was : call ≡ get_or calls i call = is ∙ r.rest i call (omega arith) in
        may_now call.op call.turn new (may_after call.op call.turn (take i calls) (take i dones) old new r.made
        (subst (λ (c : Call O). MayCallLater step needs relates concerns c.op c.turn locks old) (sym was) (may i call lt)))

    pub calling_more : (i : ℕ) (dones : List (Call O)) (mid new : List (Caller (Past T))) (call done : Call O) → Calling old calls i dones mid → i < length calls → call ≡ get_or dones i call → done.turn ≡ call.turn
        → DidIn step relates concerns locks call.turn call.op done.op mid new → Calling old calls (i + 1) (set dones i done) new
    calling_more i dones mid new call done r lt is turn did =
        let count = r.count in
        let was : get_or calls i call ≡ call = sym (is ∙ r.rest i call (omega arith)) in
        record {
          count = length-set dones i done ∙ r.count;
          rest = λ k d le. get_or-set_other dones i k done d (λ e. omega (arith, le, e)) ∙ r.rest k d (omega (arith, le));
          made = subst (λ (l : List (Call O) × List (Call O)). CallsMade step relates concerns locks l.0 l.1 old new)
              (λ k. (sym (take_more calls i call lt ∙ ap (λ c. take i calls ++ c ∷ []) was) k, sym (take_more_set dones i done (omega (arith, lt, count))) k))
              (made_more (take i calls) (take i dones) old mid new call done r.made turn did);
        }

    pub calling_end : (i : ℕ) (dones : List (Call O)) (new : List (Caller (Past T))) → Calling old calls i dones new → length calls ≤ i → CallsMade step relates concerns locks calls dones old new
    calling_end i dones new r le =
        let count = r.count in
        subst (λ (l : List (Call O) × List (Call O)). CallsMade step relates concerns locks l.0 l.1 old new) (λ k. (take_all i calls le k, take_all i dones (omega (arith, le, count)) k)) r.made

module _ {O T : Type 0} (step : T → Past T → Type 0) (relates : O → T → O → T → Type 0) (concerns : O → Option ℕ) where
  pub calls_hold : (locks : List (Lock T)) (calls dones : List (Call O)) (old new : List (Caller (Past T))) → CallsMade step relates concerns locks calls dones old new → AreHolds calls old new
  calls_hold locks [] [] old new made = record { holds = []; turns = refl; went = made }
  calls_hold locks (call ∷ calls) (done ∷ dones) old new made =
      let rest = calls_hold locks calls dones made.0 new made.3 in
      let did = made.2 in
      record {
        holds = record { turn = call.turn; hold = record { before = did.did.log; past = record { left = did.did.left; concerned = concerns call.op } } } ∷ rest.holds;
        turns = λ k. call.turn ∷ rest.turns k;
        went = (made.0, record { pass = did.pass; next = did.next; there = did.pass_is; is = did.is; was = did_hold step relates concerns did.lock.first call.op done.op did.pass did.next did.did }, rest.went);
      }
  calls_hold locks [] (done ∷ dones) old new made = absurd made
  calls_hold locks (call ∷ calls) [] old new made = absurd made
