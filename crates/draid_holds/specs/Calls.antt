-- Calls by a lane's passes, one for each of several turns.
use Rattle.std.specs.Prelude.{◌≡◌, All, ℕ, List, [], ◌∷◌, Option, Some, map, slice_get, slice_set}
use Rattle.draid_turn.specs.declared.past.Past.{Past}
use Rattle.draid_turn.specs.Calls.{Caller, Did, Lock, MayCall}
use Rattle.draid_turn.specs.Lists.{StartsWith}
use Rattle.draid_holds.specs.Holds.{HoldIn, LaneWent}
use Rattle.draid_holds.specs.declared.calls.Call.{Call}

module _ {O T : Type 0} (step : T → Past T → Type 0) (needs : O → T → Type 0) (relates : O → T → O → T → Type 0) (concerns : O → Option ℕ) where
  -- the operation may be called at one of several turns
  pub record MayCallIn (op : O) (turn : ℕ) (locks : List (Lock T)) (passes : List (Caller (Past T))) : Type 0 where
    pub lock : Lock T
    pub pass : Caller (Past T)
    pub lock_is : slice_get locks turn ≡ Some lock
    pub pass_is : slice_get passes turn ≡ Some pass
    pub may : MayCall step needs relates concerns op lock pass

  -- it may be called there, whatever the pass has seen by then
  pub record MayCallLater (op : O) (turn : ℕ) (locks : List (Lock T)) (passes : List (Caller (Past T))) : Type 0 where
    pub lock : Lock T
    pub pass : Caller (Past T)
    pub lock_is : slice_get locks turn ≡ Some lock
    pub pass_is : slice_get passes turn ≡ Some pass
    pub may : (later : Caller (Past T)) → later.table ≡ pass.table → later.numbers ≡ pass.numbers → StartsWith later.seen pass.seen
        → MayCall step needs relates concerns op lock later

  -- each of the calls may be made, whatever the lane has seen by then
  abbrev pub AllMayCall : List (Lock T) → List (Caller (Past T)) → List (Call O) → Type 0
  AllMayCall locks passes calls = All (λ (call : Call O). MayCallLater call.op call.turn locks passes) calls

module _ {O T : Type 0} (step : T → Past T → Type 0) (relates : O → T → O → T → Type 0) (concerns : O → Option ℕ) (locks : List (Lock T)) where
  -- the operation was called at one of the turns; the other passes are as they were
  pub record DidIn (turn : ℕ) (op done : O) (old new : List (Caller (Past T))) : Type 0 where
    pub lock : Lock T
    pub pass : Caller (Past T)
    pub next : Caller (Past T)
    pub lock_is : slice_get locks turn ≡ Some lock
    pub pass_is : slice_get old turn ≡ Some pass
    pub is : new ≡ slice_set old turn next
    pub did : Did step relates concerns lock.first op done pass next

  -- the calls were made one after another
  abbrev pub CallsMade : List (Call O) → List (Call O) → List (Caller (Past T)) → List (Caller (Past T)) → Type 0
  CallsMade [] [] old new = new ≡ old
  CallsMade (call ∷ calls) (done ∷ dones) old new = (mid : List (Caller (Past T))) × (done.turn ≡ call.turn) × DidIn call.turn call.op done.op old mid × CallsMade calls dones mid new
  CallsMade calls dones old new = ⊥

-- the calls are holds of the lane, one for each, in the same turn
pub record AreHolds {O T : Type 0} (calls : List (Call O)) (old new : List (Caller (Past T))) : Type 0 where
  pub holds : List (HoldIn T)
  pub turns : map (λ (made : HoldIn T). made.turn) holds ≡ map (λ (call : Call O). call.turn) calls
  pub went : LaneWent old holds new
