-- Passes that are split off the first ones of all metaslabs, for one list of numbers after another.
use Rattle.std.proofs.Common.{◌≡◌, ◌∙◌, ◌++◌, ◌∷◌, ◌<◌, ◌≤◌, ◌+◌, ◌⊎◌, arith, inl, inr, ℕ, zero, suc, List, [], Some, get_or, length, map, sym, ap, subst, refl, slice_set, take, vec_capacity, ⊎_elim}
use mathlib.Core.Logic.{dite}
use native.Mathlib.Decide.{ℕ_discrete}
use Rattle.std.specs.Prelude.{slice_get}
use Rattle.std.specs.declared.vec.Vec.{Vec}
use Rattle.std.specs.declared.alloc.Global.{Global}
use Rattle.std.proofs.lemmas.List.{length-set, length_push}
use Rattle.std.proofs.lemmas.Option.{slice_get-get_or, slice_get_within}
use Rattle.draid_turn.specs.Calls.{Caller, Lock, newcomer}
use Rattle.draid_turn.specs.Lists.{one_if}
use Rattle.draid_turn.specs.Numbers.{all_numbers, holds}
use Rattle.draid_turn.specs.declared.past.Past.{Past}
use Rattle.draid_turn.specs.declared.span.Span.{Span}
use Rattle.draid_holds.specs.Passes.{KeepsOne, shares}
use Rattle.draid_holds.proofs.Splits.{Splitting, all_left, newcomer_of, splitting_held, splitting_more, splitting_other, splitting_start}
use Rattle.draid_holds.proofs.Started.{all_held}
use Rattle.draid_pool.specs.declared.cell.Cell.{Cell}
use Rattle.draid_pool.proofs.Lists.{get_set_other, get_set_same, present, some_of}
use Rattle.draid_section.specs.Opening.{AreDealt, AreFirst, AreRooms, BelongTo, EachSplits, GivesUp, IsDealt, MaySplit}
use Rattle.draid_section.proofs.Locking.{first_at, first_own}

get_push_last : {X : Type 0} (xs : List X) (x : X) → slice_get (xs ++ x ∷ []) (length xs) ≡ Some x
get_push_last [] x = refl
get_push_last (z ∷ xs) x = get_push_last xs x

get_push_first : {X : Type 0} (xs : List X) (x : X) (m : ℕ) → m < length xs → slice_get (xs ++ x ∷ []) m ≡ slice_get xs m
get_push_first [] x m lt = absurd (omega (arith, lt))
get_push_first (z ∷ xs) x zero lt = refl
get_push_first (z ∷ xs) x (suc m) lt = get_push_first xs x m (omega (arith, lt))

push_cases : {X : Type 0} (xs : List X) (x y : X) (m : ℕ) → slice_get (xs ++ x ∷ []) m ≡ Some y → (slice_get xs m ≡ Some y) ⊎ (x ≡ y)
push_cases [] x y zero is = inr (cc)
push_cases [] x y (suc m) is = absurd (cc)
push_cases (z ∷ xs) x y zero is = inl is
push_cases (z ∷ xs) x y (suc m) is = push_cases xs x y m is

module _ {R A : Type 0} where
  pub rooms_none : (metaslabs : ℕ) → AreRooms {R = R} {A = A} 0 metaslabs []
  rooms_none metaslabs = record { many = refl; each = λ i lane is. absurd (cc) }

  pub rooms_more : (lists metaslabs : ℕ) (lanes : List (Vec (Caller (Past (Cell R A))) Global)) (lane : Vec (Caller (Past (Cell R A))) Global) → AreRooms lists metaslabs lanes → lane.items ≡ [] → metaslabs ≤ vec_capacity lane → AreRooms (lists + 1) metaslabs (lanes ++ lane ∷ [])
  rooms_more lists metaslabs lanes lane r none room = record {
    many = length_push lanes lane ∙ ap (λ n. n + 1) r.many;
    each = λ i x is. ⊎_elim
        (λ (t : slice_get lanes i ≡ Some x). r.each i x t)
        (λ (t : lane ≡ x). subst (λ (v : Vec (Caller (Past (Cell R A))) Global). (v.items ≡ []) × (metaslabs ≤ vec_capacity v)) t (none, room))
        (push_cases lanes lane x i is);
  }

  -- those of the first metaslabs gave the numbers up
  pub record Splits (numbers : List Span) (at : ℕ) (old now made : List (Caller (Past (Cell R A)))) : Type 0 where
    pub within : at ≤ length old
    pub many : length now ≡ length old
    pub many_made : length made ≡ at
    pub before : (m : ℕ) (pass : Caller (Past (Cell R A))) → m < at → slice_get old m ≡ Some pass
        → (next : Caller (Past (Cell R A))) × (slice_get now m ≡ Some next) × (slice_get made m ≡ Some (newcomer pass.table pass.seen numbers)) × GivesUp numbers pass next
    pub behind : (m : ℕ) → at ≤ m → slice_get now m ≡ slice_get old m

  module _ (numbers : List Span) (old : List (Caller (Past (Cell R A)))) where
    pub splits_start : Splits numbers 0 old old []
    splits_start = record { within = omega arith; many = refl; many_made = refl; before = λ m pass lt. absurd (omega (arith, lt)); behind = λ m from. refl }

    pub splits_more : (at : ℕ) (now made : List (Caller (Past (Cell R A)))) (pass next new : Caller (Past (Cell R A))) → Splits numbers at old now made → slice_get old at ≡ Some pass → new ≡ newcomer pass.table pass.seen numbers → GivesUp numbers pass next
        → Splits numbers (at + 1) old (slice_set now at next) (made ++ new ∷ [])
    splits_more at now made pass next new r there new_is gives = record {
      within = (let lt = slice_get_within old at pass there in omega (arith, lt));
      many = length-set now at next ∙ r.many;
      many_made = length_push made new ∙ ap (λ n. n + 1) r.many_made;
      before = λ m p lt is. dite (ℕ_discrete m at)
          (λ same.
          let pass_is : pass ≡ p = some_of (slice_get old m) pass p (ap (slice_get old) same ∙ there) is in (
            next,
            ap (slice_get (slice_set now at next)) same ∙ get_set_same now at pass next (r.behind at (omega arith) ∙ there),
            ap (slice_get (made ++ new ∷ [])) (same ∙ sym r.many_made) ∙ (get_push_last made new ∙ ap Some (new_is ∙ ap (λ (c : Caller (Past (Cell R A))). newcomer c.table c.seen numbers) pass_is)),
            subst (λ q. GivesUp numbers q next) pass_is gives,
          ))
          (λ not.
          let z = r.before m p (omega (arith, lt, not)) is in
          let many = r.many_made in
          (z.0, get_set_other now at m next not ∙ z.1, get_push_first made new m (omega (arith, lt, not, many)) ∙ z.2, z.3));
      behind = λ m from. get_set_other now at m next (λ same. omega (arith, from, same)) ∙ r.behind m (omega (arith, from));
    }

    pub splits_done : (at : ℕ) (now made : List (Caller (Past (Cell R A)))) → length old ≤ at → Splits numbers at old now made → EachSplits numbers old now made
    splits_done at now made all r = record {
      many = r.many;
      many_made = r.many_made ∙ (let within = r.within in omega (arith, all, within));
      each = λ m pass is. r.before m pass (let within = slice_get_within old m pass is in omega (arith, within, all)) is;
    }

  module _ (locks : List (Lock (Cell R A))) (numbers : List (Vec Span Global)) where
    abbrev fresh : Caller (Past (Cell R A)) → Caller (Past (Cell R A))
    fresh pass = newcomer pass.table [] all_numbers

    abbrev SplitsOf : ℕ → Caller (Past (Cell R A)) → Type 0
    SplitsOf i pass = Splitting (fresh pass) numbers i (map (newcomer_of (fresh pass)) (take i numbers)) pass

    -- the first lists' numbers were dealt
    pub record Dealing (i : ℕ) (lanes : List (Vec (Caller (Past (Cell R A))) Global)) (firsts : List (Caller (Past (Cell R A)))) : Type 0 where
      pub fits : BelongTo locks firsts
      pub parts : (m : ℕ) (first : Caller (Past (Cell R A))) → slice_get firsts m ≡ Some first → SplitsOf i first
      pub many : length lanes ≡ length numbers
      pub done : (k : ℕ) (list : Vec Span Global) (lane : Vec (Caller (Past (Cell R A))) Global) → k < i → slice_get numbers k ≡ Some list → slice_get lanes k ≡ Some lane → IsDealt locks list.items lane.items
      pub left : (k : ℕ) (lane : Vec (Caller (Past (Cell R A))) Global) → i ≤ k → slice_get lanes k ≡ Some lane → (lane.items ≡ []) × (length locks ≤ vec_capacity lane)

    pub dealing_start : (lanes : List (Vec (Caller (Past (Cell R A))) Global)) (firsts : List (Caller (Past (Cell R A)))) → AreFirst locks firsts → AreRooms (length numbers) (length locks) lanes → Dealing 0 lanes firsts
    dealing_start lanes firsts first rooms = record {
      fits = first_own locks firsts first;
      parts = λ m pass is.
          let within = slice_get_within firsts m pass is in
          let fits = first_own locks firsts first in
          let many = fits.many in
          let lock = present locks m (omega (arith, within, many)) in
          let same : newcomer lock.0.table [] all_numbers ≡ pass = some_of (slice_get firsts m) (newcomer lock.0.table [] all_numbers) pass (first_at locks firsts first m lock.0 lock.1) is in
          subst (SplitsOf 0) same (splitting_start (newcomer lock.0.table [] all_numbers) numbers);
      many = rooms.many;
      done = λ k list lane lt. absurd (omega (arith, lt));
      left = λ k lane from is. rooms.each k lane is;
    }

    module _ (i : ℕ) (lanes : List (Vec (Caller (Past (Cell R A))) Global)) (firsts : List (Caller (Past (Cell R A)))) (r : Dealing i lanes firsts) (list : Vec Span Global) (lt : i < length numbers) (is : list ≡ get_or numbers i list)
        (apart : (n : ℕ) → shares n numbers ≤ one_if (holds n all_numbers)) where
      pub dealing_may : KeepsOne all_numbers numbers → MaySplit list.items locks firsts
      dealing_may keeps = record {
        fits = r.fits;
        held = λ m pass there n h. splitting_held (fresh pass) numbers i (map (newcomer_of (fresh pass)) (take i numbers)) pass (r.parts m pass there) list lt is apart n h;
        other = λ m pass there. splitting_other (fresh pass) numbers i (map (newcomer_of (fresh pass)) (take i numbers)) pass (r.parts m pass there) list lt is keeps;
      }

      -- a first pass gave the next list's numbers up
      part_more : (pass next : Caller (Past (Cell R A))) → SplitsOf i pass → GivesUp list.items pass next → SplitsOf (i + 1) next
      part_more pass next old gives =
          let more = splitting_more (fresh pass) numbers i (map (newcomer_of (fresh pass)) (take i numbers)) pass old list lt is apart next (newcomer pass.table pass.seen list.items) gives.same.0 gives.same.1 gives.same.2 gives.left refl in
          subst (λ table. let start = newcomer table [] all_numbers in Splitting start numbers (i + 1) (map (newcomer_of start) (take (i + 1) numbers)) next) (sym gives.same.0)
          (subst (λ ps. Splitting (fresh pass) numbers (i + 1) ps next) more.passes_are more)

      module _ (new : List (Caller (Past (Cell R A)))) (lane : Vec (Caller (Past (Cell R A))) Global) (splits : EachSplits list.items firsts new lane.items) where
        dealt : IsDealt locks list.items lane.items
        dealt = record {
          many = splits.many_made ∙ r.fits.many;
          each = λ m lock there.
              let within = slice_get_within locks m lock there in
              let many = r.fits.many in
              let pass = present firsts m (omega (arith, within, many)) in
              (splits.each m pass.0 pass.1).2 ∙ ap Some (λ j. newcomer (r.fits.each m lock pass.0 there pass.1 j) ((r.parts m pass.0 pass.1).seen j) list.items);
        }

        -- what a first pass was before
        was : (m : ℕ) (next : Caller (Past (Cell R A))) → slice_get new m ≡ Some next → (pass : Caller (Past (Cell R A))) × (slice_get firsts m ≡ Some pass) × GivesUp list.items pass next
        was m next there =
            let within = slice_get_within new m next there in
            let many = splits.many in
            let pass = present firsts m (omega (arith, within, many)) in
            let z = splits.each m pass.0 pass.1 in
            (pass.0, pass.1, subst (GivesUp list.items pass.0) (some_of (slice_get new m) z.0 next z.1 there) z.3)

        pub dealing_more : Dealing (i + 1) (slice_set lanes i lane) new
        dealing_more = record {
          fits = record {
            many = splits.many ∙ r.fits.many;
            each = λ m lock next l n. (let z = was m next n in z.2.same.0 ∙ r.fits.each m lock z.0 l z.1);
          };
          parts = λ m next there. (let z = was m next there in part_more z.0 next (r.parts m z.0 z.1) z.2);
          many = length-set lanes i lane ∙ r.many;
          done = λ k l x below l_is x_is. dite (ℕ_discrete k i)
              (λ same.
              let many = r.many in
              let at = present lanes i (omega (arith, many, lt)) in
              let lane_is : lane ≡ x = some_of (slice_get (slice_set lanes i lane) i) lane x (get_set_same lanes i at.0 lane at.1) (ap (slice_get (slice_set lanes i lane)) (sym same) ∙ x_is) in
              let list_is : list ≡ l = some_of (slice_get numbers i) list l (slice_get-get_or numbers i list lt ∙ ap Some (sym is)) (ap (slice_get numbers) (sym same) ∙ l_is) in
              subst (λ (z : Vec Span Global × Vec (Caller (Past (Cell R A))) Global). IsDealt locks z.0.items z.1.items) (λ j. (list_is j, lane_is j)) dealt)
              (λ not. r.done k l x (omega (arith, below, not)) l_is (sym (get_set_other lanes i k lane not) ∙ x_is));
          left = λ k x from x_is. r.left k x (omega (arith, from)) (sym (get_set_other lanes i k lane (λ same. omega (arith, from, same))) ∙ x_is);
        }

    pub dealing_done : (i : ℕ) (lanes : List (Vec (Caller (Past (Cell R A))) Global)) (firsts : List (Caller (Past (Cell R A)))) → length numbers ≤ i → Dealing i lanes firsts → AreDealt locks numbers lanes firsts
    dealing_done i lanes firsts all r = record {
      many = r.many;
      each = λ k list lane l x. r.done k list lane (let within = slice_get_within numbers k list l in omega (arith, within, all)) l x;
      fits = r.fits;
      fresh = λ m first is. ((r.parts m first is).seen, (r.parts m first is).own);
      left = λ m first is n below.
          let left = all_left (fresh first) numbers i (map (newcomer_of (fresh first)) (take i numbers)) first (r.parts m first is) all n in
          let one = all_held n below in omega (arith, left, one);
    }
