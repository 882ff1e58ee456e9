-- Laws of holds, one after another.
use Rattle.std.proofs.Common.{◌≡◌, ◌≢◌, ℕ, true, false, nat_eq, List, [], ◌∷◌, ◌++◌, map, sym, refl, ap, ◌∙◌, subst, arith, Option, Some, if◌then◌else◌}
use Rattle.std.proofs.lemmas.Bool.Decides.{nat_tests}
use Rattle.std.proofs.lemmas.List.{append_assoc, append-nil}
use Rattle.std.proofs.lemmas.List.Elements.{All-cons, All-nil}
use Rattle.std.specs.List.{slice_get}
use mathlib.Core.Logic.{dite}
use native.Mathlib.Decide.{ℕ_discrete}
use Rattle.draid_turn.specs.declared.past.Past.{Past}
use Rattle.draid_turn.specs.Calls.{Caller, Did}
use Rattle.draid_turn.specs.Lists.{StartsWith}
use Rattle.draid_turn.proofs.Beginnings.{starts_further, starts_self}
use Rattle.draid_holds.specs.Holds.{Comes, Hold, HoldIn, InOrder, IsHold, LaneWent, MadeHold, Went, WentAt, after, holds_in, place_of, seen_after}
use Rattle.draid_holds.proofs.Lookups.{get_set, get_set_other, some_same}

test : (a b : ℕ) → a ≡ b → nat_eq a b ≡ true
test a b e = grind (arith, nat_tests)

test_not : (a b : ℕ) → a ≢ b → nat_eq a b ≡ false
test_not a b e = grind (arith, nat_tests)

later_seen : {T : Type 0} (seen : List (Past T)) (holds : List (Hold T)) → InOrder seen holds → StartsWith (seen_after seen holds) seen
later_seen seen [] order = starts_self seen
later_seen seen (hold ∷ holds) order = starts_further seen hold.before (seen_after (after hold) holds) order.0
    (starts_further hold.before (after hold) (seen_after (after hold) holds) (hold.past ∷ [], refl) (later_seen (after hold) holds order.1))

-- a call is a hold
pub did_hold : {O T : Type 0} (step : T → Past T → Type 0) (relates : O → T → O → T → Type 0) (concerns : O → Option ℕ) (first : T) (op done : O) (old new : Caller (Past T)) (did : Did step relates concerns first op done old new)
    → IsHold old record { before = did.log; past = record { left = did.left; concerned = concerns op } } new
did_hold step relates concerns first op done old new did = record { follows = did.follows; number = did.number; seen = did.seen; own = did.own; numbers = did.numbers; table = did.table }

-- after its hold a caller has seen all that it had seen, and perhaps more
pub hold_later : {T : Type 0} (old new : Caller (Past T)) (hold : Hold T) → IsHold old hold new → StartsWith new.seen old.seen
hold_later old new hold is = subst (λ s. StartsWith s old.seen) (sym is.seen) (starts_further old.seen hold.before (after hold) (is.follows.unseen, is.follows.begins) (hold.past ∷ [], refl))

module _ {T : Type 0} where
  pub went_comes : (old new : Caller (Past T)) (holds : List (Hold T)) → Went old holds new → Comes old holds new
  went_comes old new [] is = record {
    order = tt;
    seen = ap (λ (c : Caller (Past T)). c.seen) is;
    stands = All-nil (λ (hold : Hold T). StartsWith new.seen (after hold));
    own = ap (λ (c : Caller (Past T)). c.own) is ∙ sym (append-nil old.own);
    numbers = ap (λ (c : Caller (Past T)). c.numbers) is;
    table = ap (λ (c : Caller (Past T)). c.table) is;
  }
  went_comes old new (hold ∷ holds) went =
      let mid : Caller (Past T) = went.0 in
      let is : IsHold old hold mid = went.1 in
      let rest : Comes mid holds new = went_comes mid new holds went.2 in
      let order : InOrder (after hold) holds = subst (λ s. InOrder s holds) is.seen rest.order in
      let seen : new.seen ≡ seen_after (after hold) holds = rest.seen ∙ ap (λ s. seen_after s holds) is.seen in
      record {
        order = ((is.follows.unseen, is.follows.begins), order);
        seen = seen;
        stands = All-cons (λ (h : Hold T). StartsWith new.seen (after h)) hold holds (subst (λ s. StartsWith s (after hold)) (sym seen) (later_seen (after hold) holds order)) rest.stands;
        own = rest.own ∙ (ap (λ o. o ++ map place_of holds) is.own ∙ append_assoc old.own (place_of hold ∷ []) (map place_of holds));
        numbers = rest.numbers ∙ is.numbers;
        table = rest.table ∙ is.table;
      }

  -- one hold more
  pub went_more : (old mid new : Caller (Past T)) (holds : List (Hold T)) (hold : Hold T) → Went old holds mid → IsHold mid hold new → Went old (holds ++ hold ∷ []) new
  went_more old mid new [] hold is next = (new, subst (λ c. IsHold c hold new) is next, refl)
  went_more old mid new (first ∷ holds) hold went next = (went.0, went.1, went_more went.0 mid new holds hold went.2 next)

  pub went_on : (old mid new : List (Caller (Past T))) (front back : List (HoldIn T)) → LaneWent old front mid → LaneWent mid back new → LaneWent old (front ++ back) new
  went_on old mid new [] back is went = subst (λ c. LaneWent c back new) is went
  went_on old mid new (made ∷ front) back before went = (before.0, before.1, went_on before.0 mid new front back before.2 went)

  at_turn : (turn : ℕ) (pass : Caller (Past T)) (made : HoldIn T) (holds : List (HoldIn T)) (old mid new : List (Caller (Past T))) → slice_get old turn ≡ Some pass → MadeHold old made mid
      → ((next : Caller (Past T)) → slice_get mid turn ≡ Some next → WentAt turn next holds new) → WentAt turn pass (made ∷ holds) new
  at_turn turn pass made holds old mid new there hold rest = dite (ℕ_discrete made.turn turn)
      (λ same.
      let pass_is : hold.pass ≡ pass = some_same hold.pass pass (sym hold.there ∙ (ap (slice_get old) same ∙ there)) in
      let r = rest hold.next (ap (λ l. slice_get l turn) hold.is ∙ (ap (slice_get _) (sym same) ∙ get_set old made.turn hold.next hold.pass hold.there)) in
      record {
        next = r.next;
        there = r.there;
        went = subst (λ b. Went pass (if b then made.hold ∷ holds_in turn holds else holds_in turn holds) r.next) (sym (test made.turn turn same))
            (hold.next, subst (λ c. IsHold c made.hold hold.next) pass_is hold.was, r.went);
      })
      (λ other.
      let r = rest pass (ap (λ l. slice_get l turn) hold.is ∙ get_set_other old made.turn turn hold.next pass (λ e. other (sym e)) there) in
      record {
        next = r.next;
        there = r.there;
        went = subst (λ b. Went pass (if b then made.hold ∷ holds_in turn holds else holds_in turn holds) r.next) (sym (test_not made.turn turn other)) r.went;
      })

  pub went_at : (old new : List (Caller (Past T))) (holds : List (HoldIn T)) (turn : ℕ) (pass : Caller (Past T)) → slice_get old turn ≡ Some pass → LaneWent old holds new → WentAt turn pass holds new
  went_at old new [] turn pass there is = record { next = pass; there = ap (λ l. slice_get l turn) is ∙ there; went = refl }
  went_at old new (made ∷ holds) turn pass there went = at_turn turn pass made holds old went.0 new there went.1 (λ next at. went_at went.0 new holds turn next at went.2)
