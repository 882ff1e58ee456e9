-- Each kind of step keeps the rule.
use Rattle.std.proofs.Common.{◌≡◌, ℕ, eqb, ◌+◌, ◌%◌, ◌^◌, ◌<◌, ◌≤◌, List, [], ◌∷◌, ◌++◌, length, get_or, set, sym, refl, ap, ◌∙◌, subst, arith, true, eq-eqb, ne_eqb, All, Option, Some, None}
use Rattle.std.proofs.Math.Nat.{mod-eq_of_lt}
use mathlib.Core.Logic.{dite}
use mathlib.Core.Option.{none, some}
use native.Mathlib.Decide.{ℕ_discrete}
use lib.ListN.{get_elem?}
use lib.Seq.{set-get_or}
use prog.Atomic.{either}
use Rattle.atomic_table.specs.Table.{State, Me, step, keeps, takes, gives, stepped, opening, Allows, Splits, Joins, rest}
use Rattle.atomic_table.proofs.Lists.{set_again, set_else}
use Rattle.draid_turn.specs.declared.view.SeatStage.TheVariants.{Idle, Waiting, Holding}
use Rattle.draid_turn.specs.declared.view.SeatView.{SeatView}
use Rattle.draid_turn.specs.declared.span.Span.{Span}
use Rattle.draid_turn.specs.declared.past.Past.{Past}
use Rattle.draid_turn.specs.Calls.{Follows}
use Rattle.draid_turn.specs.History.{Stood, number_of}
use Rattle.draid_turn.specs.Lists.{StartsWith, one_if, one_within}
use Rattle.draid_turn.specs.Numbers.{HoldsOther, HoldsSome, IsForeign, IsOwn, all_numbers, holds, number_limit}
use Rattle.draid_turn.specs.Steps.{drew, learned, looked, served, told, took}
use Rattle.draid_turn.specs.Rule.{IsHolding, NumbersOnce, PlacesOnce, Rule, TurnsInOrder}
use Rattle.draid_turn.specs.Views.{united_view, first_view, served_view, holding_view, learned_view, giver_view, told_view, waiting_view, new_view, spent_view}
use Rattle.draid_turn.proofs.KeepsTurns.{added_turns, at_home, counted_turns, drawn_turns, given_turns, holder_whole, opens_turns, taken_turns, ticket_of, touched_turns, under_next}
use Rattle.draid_turn.proofs.KeepsPlaces.{added_places, counted_places, joined_places, opens_places, touched_places, whole_places}
use Rattle.draid_turn.proofs.Beginnings.{all_between, longer_of, nested, shorter_of}
use Rattle.draid_turn.proofs.KeepsNumbers.{counted_numbers, joined_numbers, none_unheard, none_within, opens_numbers, seen_all, split_numbers, touched_numbers, whole_numbers}
use Rattle.draid_turn.proofs.Spans.{all_within}

first_few : (n : ℕ) → one_if (holds n all_numbers) ≤ one_within 0 number_limit n
first_few n = let e = all_within n in omega (arith, e)

module _ {T E : Type 0} (fact : List E → T → Type 0) (number : E → Option ℕ) where
  abbrev V : Type 0
  V = SeatView E

  abbrev St : Type 0
  St = State (Option T) V

  abbrev M : Type 0
  M = Me (Option T) V

  abbrev R : St → Type 0
  R = Rule fact number

  -- nothing changed
  same : (s : St) (r : R s) (i id : ℕ) (c : List (ℕ × Option T)) (v : V) → get_elem? s.views id ≡ some v → R (stepped s i (get_or s.words i 0) id c v keeps)
  same s r i id c v at = subst (λ (z : List ℕ × List V). R record { words = z.0; homes = s.homes; views = z.1 }) (λ k. (sym (set-get_or s.words i 0) k, sym (set_again s.views id v at) k)) r

  pub looks_keep : (slots id : ℕ) (me : M) → Allows R slots id me 0 (λ n. n) (looked (step slots 0 0 0 none) me)
  looks_keep slots id me s r _ at _ = (me.0, keeps, tt, same s r 0 id me.1 me.0 at, refl)

  -- Drawing a ticket.
  pub draws_keep : (slots id : ℕ) (me : M) (old new : ℕ) → me.0.stage ≡ Idle → new ≡ old + 1 → new < 2 ^ 64
      → Allows R slots id me 0 (λ n. either (eqb n old) new n) (drew (step slots 0 old new none) me)
  draws_keep slots id me old new idle up small s r _ at _ =
      let x : ℕ = get_or s.words 0 0 in
      let v : V = me.0 in
      let w : V = waiting_view x v in
      dite (ℕ_discrete x old)
      (λ hit. (
        w,
        keeps,
        tt,
        subst (λ b. R (stepped s 0 (either b new x) id me.1 w keeps)) (sym (eq-eqb x old hit)) record {
          log = r.log;
          turns = drawn_turns fact r.log s r.turns id new v at idle (omega (arith, up, hit)) small;
          places = touched_places r.log s.views r.places id v w at refl;
          numbers = touched_numbers number r.log s.views r.numbers id v w at refl refl (r.numbers.unseen id v at) (r.numbers.within id v at) (r.numbers.unheard id v at);
        },
        (refl, (λ _. refl), λ not. absurd (not hit)),
      ))
      (λ miss. (
        v,
        keeps,
        tt,
        subst (λ b. R (stepped s 0 (either b new x) id me.1 v keeps)) (sym (ne_eqb x old miss)) (same s r 0 id me.1 v at),
        (refl, (λ hit. absurd (miss hit)), λ _. refl),
      ))

  -- Waiting, and taking the value.
  pub takes_keep : (kept : List E → T → Type 0) → ((log : List E) (x : T) → fact log x → kept log x) → (slots id : ℕ) (me : M) (t : ℕ) → me.0.stage ≡ Waiting t
      → Allows R slots id me 1 (λ n. n) (took kept number (step slots 1 0 0 none) me)
  takes_keep kept weaker slots id me t on s r _ at _ =
      let x : ℕ = get_or s.words 1 0 in
      let v : V = me.0 in
      dite (ℕ_discrete t x)
      (λ hit.
      let h = at_home fact r.log s r.turns id t v at on hit in
      let b = r.turns.behind id v at in
      let w : V = holding_view t r.log v in
      let keeps_rule : R (stepped s 1 x id me.1 w (takes 0 (Some h.value))) = record {
        log = r.log;
        turns = taken_turns fact r.log s r.turns id t v at on hit (Some h.value);
        places = touched_places r.log s.views r.places id v w at refl;
        numbers = touched_numbers number r.log s.views r.numbers id v w at refl refl (seen_all number r.log w refl) (r.numbers.within id v at) (r.numbers.unheard id v at);
      } in
      let follows : Follows number v.numbers r.log v.seen = record { unseen = b.0; begins = b.1; foreign = r.numbers.unseen id v at b.0 b.1 } in (
        holding_view t r.log v,
        takes 0 (Some h.value),
        h.there,
        keeps_rule,
        λ u is. (
          (λ _. record {
            value = h.value;
            log = r.log;
            kept = weaker r.log h.value h.kept;
            follows = follows;
            made_all = λ all. whole_places r.log s.views r.places id v at (whole_numbers number r.log s.views r.numbers id v at all);
            view_is = ap (λ z. holding_view z r.log v) (ap ticket_of (sym on ∙ is));
            slot_is = refl;
          }),
          λ not. absurd (not (sym (ap ticket_of (sym on ∙ is)) ∙ hit)),
        ),
      ))
      (λ miss. (
        v,
        keeps,
        tt,
        same s r 1 id me.1 v at,
        λ u is. ((λ hit. absurd (miss (ap ticket_of (sym on ∙ is) ∙ hit))), λ _. refl),
      ))

  -- Adding to the history.
  pub tells_keep : (slots id : ℕ) (me : M) (added : List E) → IsHolding me.0.stage → All (IsOwn number me.0.numbers) added → HoldsSome me.0.numbers
      → Allows R slots id me 1 (λ n. n) (told added (step slots 1 0 0 none) me)
  tells_keep slots id me added on own has s r _ at _ =
      let v : V = me.0 in
      let whole : v.seen ≡ r.log = holder_whole fact r.log s r.turns id on.ticket v at on.is in
      let turns : TurnsInOrder fact v.seen s = subst (λ l. TurnsInOrder fact l s) (sym whole) r.turns in
      let places : PlacesOnce v.seen s.views = subst (λ l. PlacesOnce l s.views) (sym whole) r.places in
      let numbers : NumbersOnce number v.seen s.views = subst (λ l. NumbersOnce number l s.views) (sym whole) r.numbers in (
        told_view added v,
        keeps,
        tt,
        record {
          log = v.seen ++ added;
          turns = counted_turns fact s id on.ticket me.1 v added turns at on.is;
          places = counted_places s.views id v added places at;
          numbers = counted_numbers number s.views id v added numbers turns.behind turns.heard at own has;
        },
        refl,
      )

  -- Giving the value back, and serving the next.
  pub gives_keep : (slots id : ℕ) (me : M) (x : T) → IsHolding me.0.stage → me.1 ≡ (0, Some x) ∷ [] → fact me.0.seen x → Allows R slots id me 1 (λ n. (n + 1) % 2 ^ 64) (served (step slots 1 1 0 none) me)
  gives_keep slots id me x on out kept s r _ at _ =
      let v : V = me.0 in
      let w : V = served_view v in
      let under = under_next fact r.log s r.turns id on.ticket v at on.is in
      let f = r.turns.fits in
      let up : (get_or s.words 1 0 + 1) % 2 ^ 64 ≡ get_or s.words 1 0 + 1 = mod-eq_of_lt (omega (arith, under, f)) in (
        w,
        gives,
        tt,
        subst (λ c. R (stepped s 1 ((get_or s.words 1 0 + 1) % 2 ^ 64) id c w gives)) (sym out) record {
          log = r.log;
          turns = given_turns fact r.log s r.turns id on.ticket ((get_or s.words 1 0 + 1) % 2 ^ 64) v x at on.is kept up;
          places = touched_places r.log s.views r.places id v w at refl;
          numbers = touched_numbers number r.log s.views r.numbers id v w at refl refl (r.numbers.unseen id v at) (r.numbers.within id v at) (r.numbers.unheard id v at);
        },
        refl,
      )

  -- Splitting.
  pub splits_keep : (id : ℕ) (v : V) (given : List Span) → ((n : ℕ) → holds n given ≡ true → holds n v.numbers ≡ true) → HoldsOther v.numbers given
      → Splits R id v (giver_view given v) (new_view given v)
  splits_keep id v given inside other s r at =
      let left : V = giver_view given v in
      let right : V = new_view given v in
      let b = r.turns.behind id v at in
      record {
        log = r.log;
        turns = added_turns fact r.log (record { words = s.words; homes = s.homes; views = set s.views id left }) (touched_turns fact r.log s r.turns id v left at refl b (r.turns.heard id v at) (λ _ _ e. e))
            right refl b (r.log, refl);
        places = added_places r.log (set s.views id left) (touched_places r.log s.views r.places id v left at refl) right refl;
        numbers = split_numbers number r.log s.views r.numbers id v given at inside other;
      }

  idle_holding : (v : V) (t : ℕ) → v.stage ≡ Idle → v.stage ≡ Holding t → ⊥
  idle_holding v t a b = let e : Idle ≡ Holding t = sym a ∙ b in cc

  -- Joining a seat.
  pub joins_keep : (id : ℕ) (v : V) (other : ℕ) (w : V) → v.stage ≡ Idle → w.stage ≡ Idle → Joins R id v other w (united_view v w) spent_view
  joins_keep id v other w idle idle' s r at apart there =
      let both : V = united_view v w in
      let vs : List V = set s.views id both in
      let at' : get_elem? s.views other ≡ some w = sym (set_else s.views id other both apart) ∙ there in
      let a = r.turns.behind id v at in
      let b = r.turns.behind other w at' in
      let first = touched_turns fact r.log s r.turns id v both at (sym idle) (longer_of (StartsWith r.log) v.seen w.seen a b) (shorter_of (StartsWith r.log) v.seen w.seen a b)
      (λ t on _. absurd (idle_holding v t idle on)) in
      record {
        log = r.log;
        turns = touched_turns fact r.log (record { words = s.words; homes = s.homes; views = vs }) first other w spent_view there (sym idle') (r.log, refl) (r.log, refl)
            (λ t on _. absurd (idle_holding w t idle' on));
        places = joined_places r.log s.views r.places id v other w at apart at';
        numbers = joined_numbers number r.log s.views r.numbers r.turns.behind id v other w at apart at';
      }

  pub learns_keep : (slots id : ℕ) (me : M) → length me.0.heard ≤ length me.0.seen → Allows R slots id me 0 (λ n. n) (learned number (step slots 0 0 0 none) me)
  learns_keep slots id me le s r _ at _ =
      let v : V = me.0 in
      let w : V = learned_view v in
      let a = r.turns.behind id v at in
      let b = r.turns.heard id v at in
      let c : StartsWith v.seen v.heard = nested v.heard v.seen b.0 a.0 (sym b.1 ∙ a.1) le in
      let follows : Follows number v.heard_by v.seen v.heard = record { unseen = c.0; begins = c.1; foreign = all_between (IsForeign number v.heard_by) r.log v.heard v.seen a c (r.numbers.unheard id v at) } in (
        w,
        keeps,
        tt,
        subst (λ ws. R record { words = ws; homes = s.homes; views = set s.views id w }) (sym (set-get_or s.words 0 0)) record {
          log = r.log;
          turns = touched_turns fact r.log s r.turns id v w at refl a (r.log, refl) (λ _ _ e. e);
          places = touched_places r.log s.views r.places id v w at refl;
          numbers = touched_numbers number r.log s.views r.numbers id v w at refl refl (r.numbers.unseen id v at) (none_within number w refl) (none_unheard number r.log w refl);
        },
        (refl, follows),
      )

module _ {T E : Type 0} (fact : List E → T → Type 0) (number : E → Option ℕ) where
  -- the first seat
  opens_from : (x : T) → fact [] x → Rule fact number (opening (0 ∷ 0 ∷ []) (Some x ∷ []) first_view)
  opens_from x kept =
      record {
        log = [];
        turns = opens_turns fact x first_view kept refl refl refl;
        places = opens_places first_view refl;
        numbers = opens_numbers number [] first_view refl refl refl first_few;
      }

-- the first seat, where nothing was held yet
pub opens_at : {T : Type 0} (step : T → Past T → Type 0) (x known : T) (slots : List (Option T)) → slots ≡ Some x ∷ [] → known ≡ x → Rule (Stood step known) number_of (opening (0 ∷ 0 ∷ []) slots first_view)
opens_at {T} step x known slots one same = subst (λ (z : List (Option T) × T). Rule (Stood step z.1) number_of (opening (0 ∷ 0 ∷ []) z.0 first_view)) (λ k. (sym one k, sym same k))
    (opens_from (Stood step x) number_of x record { is = refl; steps = tt })

module _ {T : Type 0} where
  abbrev item_of : T → List (ℕ × T) → T
  item_of d [] = d
  item_of d (x ∷ xs) = x.1

  -- the value in a slot
  pub slot_value : (c : List (ℕ × T)) (x y : T) → c ≡ (0, x) ∷ rest c → c ≡ (0, y) ∷ [] → x ≡ y
  slot_value c x y e f = ap (item_of x) (sym e ∙ f)

abbrev value_of : {T : Type 0} → T → Option T → T
value_of d None = d
value_of d (Some x) = x

-- what was in the slot, and what was taken out of it
pub value_is : {T : Type 0} (c : List (ℕ × Option T)) (slot : Option T) (x y : T) → c ≡ (0, slot) ∷ rest c → c ≡ (0, Some x) ∷ [] → slot ≡ Some y → x ≡ y
value_is c slot x y e f g = ap (value_of x) (sym (slot_value c slot (Some x) e f) ∙ g)

-- a slot has one value
pub one_value : {T : Type 0} (c : List (ℕ × Option T)) (x y : T) → c ≡ (0, Some x) ∷ [] → c ≡ (0, Some y) ∷ [] → x ≡ y
one_value c x y e f = ap (λ l. value_of x (item_of None l)) (sym e ∙ f)
