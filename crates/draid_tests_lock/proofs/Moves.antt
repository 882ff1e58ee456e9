-- Holds of a pass of a log, which concern no number.
use Rattle.std.proofs.Common.{◌≡◌, ℕ, Bool, true, false, List, [], ◌∷◌, ◌++◌, sym, refl, ◌∙◌, Option, Some, None, if◌then◌else◌}
use Rattle.std.specs.Prelude.{⊤}
use Rattle.std.proofs.lemmas.List.{append-nil}
use Rattle.draid_turn.specs.declared.past.Past.{Past}
use Rattle.draid_turn.specs.Calls.{Caller, Lock, MayCall}
use Rattle.draid_turn.specs.Lists.{StartsWith}
use Rattle.draid_holds.specs.Holds.{Hold, IsHold, Went}
use Rattle.draid_holds.proofs.Holds.{went_more}

pub record Moved {L : Type 0} (old new : Caller (Past L)) : Type 0 where
  pub holds : List (Hold L)
  pub went : Went old holds new

pub moved_start : {L : Type 0} (old : Caller (Past L)) → Moved old old
moved_start old = record { holds = []; went = refl }

pub moved_more : {L : Type 0} (old mid new : Caller (Past L)) (hold : Hold L) → Moved old mid → IsHold mid hold new → Moved old new
moved_more old mid new hold moved is = record { holds = moved.holds ++ hold ∷ []; went = went_more old mid new moved.holds hold moved.went is }

abbrev pub NeedsNothing : {L P : Type 0} → P → L → Type 0
NeedsNothing put log = ⊤

abbrev pub no_number : {P : Type 0} → P → Option ℕ
no_number put = None

put_grows : (is_in : Bool) (entry : ℕ) (old new : List ℕ) → new ≡ (if is_in then old ++ entry ∷ [] else old) → StartsWith new old
put_grows true entry old new is = (entry ∷ [], is)
put_grows false entry old new is = ([], is ∙ sym (append-nil old))

-- a log with its entries, and what puts one there and says whether it is in
module _ {L P : Type 0} (entries : L → List ℕ) (entry : P → ℕ) (is_in : P → Bool) where
  abbrev pub Grows : L → Past L → Type 0
  Grows log past = StartsWith (entries past.left) (entries log)

  abbrev pub Puts : P → L → P → L → Type 0
  Puts put old after new = entries new ≡ (if is_in after then entries old ++ entry put ∷ [] else entries old)

  -- a number may be put in each turn
  pub may_put : (op : P) (lock : Lock L) (pass : Caller (Past L)) → pass.table ≡ lock.table → MayCall Grows NeedsNothing Puts no_number op lock pass
  may_put op lock pass own = record {
    own = own;
    ready = λ log x stood follows. tt;
    keeps = λ x y after needed related. put_grows (is_in after) (entry op) (entries x) (entries y) related;
    number = λ n is. let clash : None ≡ Some n = is in cc;
  }
