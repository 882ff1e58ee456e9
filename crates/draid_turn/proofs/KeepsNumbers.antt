-- Each kind of step keeps the third part of the rule: the numbers.
use Rattle.std.proofs.Common.{◌≡◌, ◌≢◌, ℕ, ◌≤◌, ◌||◌, ◌&&◌, not, Bool, true, false, List, [], ◌∷◌, ◌++◌, set, sym, refl, ap, ◌∙◌, subst, arith, Option, All, nat_lt, length, if◌then◌else◌}
use Rattle.std.proofs.lemmas.List.{append_assoc, append_cancel_left}
use Rattle.std.proofs.lemmas.List.Elements.{All-append, All-weaker}
use mathlib.Core.Option.{some, some-ne-none}
use mathlib.Core.Bool.{true≢false}
use lib.ListN.{get_elem?}
use Rattle.atomic_table.proofs.Lists.{set_else}
use Rattle.draid_turn.specs.declared.view.SeatView.{SeatView}
use Rattle.draid_turn.specs.declared.span.Span.{Span}
use Rattle.draid_turn.specs.Lists.{Each, StartsWith, longer, merge, one_if, one_within}
use Rattle.draid_turn.specs.Numbers.{HoldsAll, HoldsNone, HoldsOther, HoldsSome, IsForeign, IsOwn, holds, number_limit, without}
use Rattle.draid_turn.specs.Rule.{NumbersOnce}
use Rattle.draid_turn.specs.Views.{giver_view, new_view, spent_view, told_view, united_view}
use Rattle.draid_turn.proofs.Beginnings.{all_later, all_none, longer_first, longer_second}
use Rattle.draid_turn.proofs.Spans.{holds_append, holds_without, not_true, one_if_true, ones_join, ones_split, some_left}
use Rattle.draid_turn.proofs.Sums.{count_at, count_one, count_push, count_set, count_two, each_push, each_set, within_bounds, within_most}

or_false : (a b : Bool) → (a || b) ≡ false → (a ≡ false) × (b ≡ false)
or_false true b e = absurd (true≢false e)
or_false false b e = (refl, e)

false_or : (a b : Bool) → a ≡ false → b ≡ false → (a || b) ≡ false
false_or true b e f = absurd (true≢false e)
false_or false b e f = f

or_true : (a b : Bool) → b ≡ true → (a || b) ≡ true
or_true true b e = refl
or_true false b e = e

-- a number that isn't held isn't in what is left
part_false : (a b : Bool) → a ≡ false → (a && not b) ≡ false
part_false true b e = absurd (true≢false e)
part_false false b e = refl

module _ {E : Type 0} (number : E → Option ℕ) where
  abbrev V : Type 0
  V = SeatView E

  abbrev Unseen : List E → V → Type 0
  Unseen log d = (rest : List E) → log ≡ d.seen ++ rest → All (IsForeign number d.numbers) rest

  abbrev Within : V → Type 0
  Within d = (n : ℕ) → holds n d.heard_by ≡ true → holds n d.numbers ≡ true

  abbrev Unheard : List E → V → Type 0
  Unheard log d = (rest : List E) → log ≡ d.heard ++ rest → All (IsForeign number d.heard_by) rest

  -- who heard of nobody's numbers
  pub none_within : (w : V) → w.heard_by ≡ [] → Within w
  none_within w nobody n e = absurd (true≢false (sym e ∙ ap (holds n) nobody))

  pub none_unheard : (log : List E) (w : V) → w.heard_by ≡ [] → Unheard log w
  none_unheard log w nobody rest is = subst (λ b. All (IsForeign number b) rest) (sym nobody) (λ k d lt n is_n. refl)

  -- no number is held by two
  clash : (log : List E) (vs : List V) (r : NumbersOnce number log vs) (i j n : ℕ) (a b : V) → i ≢ j → get_elem? vs i ≡ some a → get_elem? vs j ≡ some b → holds n a.numbers ≡ true → holds n b.numbers ≡ true → ⊥
  clash log vs r i j n a b not e e' p q =
      let two = count_two (λ (d : V). holds n d.numbers) vs i j a b not e e' in
      let has = one_if_true (holds n a.numbers) p in
      let has' = one_if_true (holds n b.numbers) q in
      let is = r.apart n in
      let most = within_most 0 number_limit n in
      absurd (omega (arith, two, has, has', is, most))

  -- a view was changed, but for its numbers and its places
  pub touched_numbers : (log : List E) (vs : List V) (r : NumbersOnce number log vs) (id : ℕ) (v w : V) → get_elem? vs id ≡ some v → w.numbers ≡ v.numbers → w.own ≡ v.own → Unseen log w → Within w → Unheard log w → NumbersOnce number log (set vs id w)
  touched_numbers log vs r id v w at same own new inside told = record {
    apart = λ n.
        let t = count_set (λ (d : V). holds n d.numbers) vs id v w at in
        let e : one_if (holds n w.numbers) ≡ one_if (holds n v.numbers) = ap (λ z. one_if (holds n z)) same in
        let was = r.apart n in omega (arith, t, e, was);
    made_none = each_set (λ (d : V). HoldsNone d.numbers → d.own ≡ []) (λ (d : V). HoldsNone d.numbers → d.own ≡ []) vs id w r.made_none (λ j d n e h. h)
        (λ none. own ∙ r.made_none id v at (subst HoldsNone same none));
    unseen = each_set (Unseen log) (Unseen log) vs id w r.unseen (λ j d n e h. h) new;
    within = each_set Within Within vs id w r.within (λ j d n e h. h) inside;
    unheard = each_set (Unheard log) (Unheard log) vs id w r.unheard (λ j d n e h. h) told;
  }

  -- who has seen all has nothing before it
  pub seen_all : (log : List E) (w : V) → w.seen ≡ log → Unseen log w
  seen_all log w e rest is = all_none (IsForeign number w.numbers) log rest (is ∙ ap (λ l. l ++ rest) e)

  -- What was added concerns numbers of the seat that has the value, or none.
  pub counted_numbers : (vs : List V) (id : ℕ) (v : V) (added : List E) (r : NumbersOnce number v.seen vs) → Each (λ (d : V). StartsWith v.seen d.seen) vs → Each (λ (d : V). StartsWith v.seen d.heard) vs → get_elem? vs id ≡ some v
      → All (IsOwn number v.numbers) added → HoldsSome v.numbers → NumbersOnce number (v.seen ++ added) (set vs id (told_view added v))
  counted_numbers vs id v added r behind heard at own has =
      let log : List E = v.seen in
      let w : V = told_view added v in
      record {
        apart = λ n. let t = count_set (λ (d : V). holds n d.numbers) vs id v w at in let was = r.apart n in omega (arith, t, was);
        made_none = each_set (λ (d : V). HoldsNone d.numbers → d.own ≡ []) (λ (d : V). HoldsNone d.numbers → d.own ≡ []) vs id w r.made_none (λ j d n e h. h)
            (λ none. absurd (true≢false (sym has.held ∙ none has.number)));
        unseen = each_set (Unseen log) (Unseen (log ++ added)) vs id w r.unseen
            (λ j d not e h rest is.
            let b = behind j d e in
            let rest_is : b.0 ++ added ≡ rest = append_cancel_left d.seen (b.0 ++ added) rest (sym (append_assoc d.seen b.0 added) ∙ (ap (λ l. l ++ added) (sym b.1) ∙ is)) in
            subst (All (IsForeign number d.numbers)) rest_is (All-append (IsForeign number d.numbers) b.0 added (h b.0 b.1)
            (All-weaker (IsOwn number v.numbers) (IsForeign number d.numbers)
            (λ x mine n is_n. not_true (holds n d.numbers) (λ yes. clash log vs r j id n d v not e at yes (mine n is_n)))
            added own)))
            (seen_all (log ++ added) w refl);
        within = each_set Within Within vs id w r.within (λ j d n e h. h) (none_within w refl);
        unheard = each_set (Unheard log) (Unheard (log ++ added)) vs id w r.unheard
            (λ j d not e h rest is.
            let b = heard j d e in
            let rest_is : b.0 ++ added ≡ rest = append_cancel_left d.heard (b.0 ++ added) rest (sym (append_assoc d.heard b.0 added) ∙ (ap (λ l. l ++ added) (sym b.1) ∙ is)) in
            subst (All (IsForeign number d.heard_by)) rest_is (All-append (IsForeign number d.heard_by) b.0 added (h b.0 b.1)
            (All-weaker (IsOwn number v.numbers) (IsForeign number d.heard_by)
            (λ x mine n is_n. not_true (holds n d.heard_by) (λ yes. clash log vs r j id n d v not e at (r.within j d e n yes) (mine n is_n)))
            added own)))
            (none_unheard (log ++ added) w refl);
      }

  -- Numbers go to a new seat.
  pub split_numbers : (log : List E) (vs : List V) (r : NumbersOnce number log vs) (id : ℕ) (v : V) (given : List Span) → get_elem? vs id ≡ some v → ((n : ℕ) → holds n given ≡ true → holds n v.numbers ≡ true)
      → HoldsOther v.numbers given → NumbersOnce number log (set vs id (giver_view given v) ++ new_view given v ∷ [])
  split_numbers log vs r id v given at inside other =
      let left : V = giver_view given v in
      let right : V = new_view given v in
      record {
        apart = λ n.
            let t = count_set (λ (d : V). holds n d.numbers) vs id v left at in
            let u = count_push (λ (d : V). holds n d.numbers) (set vs id left) right in
            let b = ones_split (holds n v.numbers) (holds n given) (inside n) in
            let e : one_if (holds n (without v.numbers given)) ≡ one_if (holds n v.numbers && not (holds n given)) = ap one_if (holds_without n v.numbers given) in
            let was = r.apart n in omega (arith, t, u, b, e, was);
        made_none = each_push (λ (d : V). HoldsNone d.numbers → d.own ≡ []) (set vs id left) right
            (each_set (λ (d : V). HoldsNone d.numbers → d.own ≡ []) (λ (d : V). HoldsNone d.numbers → d.own ≡ []) vs id left r.made_none (λ j d n e h. h)
            (λ none. let left_some = some_left v.numbers given other in absurd (true≢false (sym left_some.held ∙ none left_some.number))))
            (λ _. refl);
        unseen = each_push (Unseen log) (set vs id left) right
            (each_set (Unseen log) (Unseen log) vs id left r.unseen (λ j d n e h. h)
            (λ rest is. All-weaker (IsForeign number v.numbers) (IsForeign number left.numbers)
            (λ x h n is_n. holds_without n v.numbers given ∙ part_false (holds n v.numbers) (holds n given) (h n is_n)) rest (r.unseen id v at rest is)))
            (λ rest is. All-weaker (IsForeign number v.numbers) (IsForeign number given)
            (λ x h n is_n. not_true (holds n given) (λ yes. true≢false (sym (inside n yes) ∙ h n is_n))) rest (r.unseen id v at rest is));
        within = each_push Within (set vs id left) right (each_set Within Within vs id left r.within (λ j d n e h. h) (none_within left refl)) (none_within right refl);
        unheard = each_push (Unheard log) (set vs id left) right (each_set (Unheard log) (Unheard log) vs id left r.unheard (λ j d n e h. h) (none_unheard log left refl)) (none_unheard log right refl);
      }

  -- of two seats the one that has seen less, and its numbers
  less_within : (b : Bool) (v w : V) → (n : ℕ) → holds n (if b then v.numbers else w.numbers) ≡ true → holds n (v.numbers ++ w.numbers) ≡ true
  less_within true v w n e = holds_append n v.numbers w.numbers ∙ ap (λ z. z || holds n w.numbers) e
  less_within false v w n e = holds_append n v.numbers w.numbers ∙ or_true (holds n v.numbers) (holds n w.numbers) e

  less_unheard : (b : Bool) (log : List E) (v w : V) → Unseen log v → Unseen log w → (rest : List E) → log ≡ (if b then v.seen else w.seen) ++ rest → All (IsForeign number (if b then v.numbers else w.numbers)) rest
  less_unheard true log v w one two rest is = one rest is
  less_unheard false log v w one two rest is = two rest is

  -- Two seats' numbers are one's.
  pub joined_numbers : (log : List E) (vs : List V) (r : NumbersOnce number log vs) → Each (λ (d : V). StartsWith log d.seen) vs → (id : ℕ) (v : V) (other : ℕ) (w : V) → get_elem? vs id ≡ some v → other ≢ id
      → get_elem? vs other ≡ some w → NumbersOnce number log (set (set vs id (united_view v w)) other spent_view)
  joined_numbers log vs r behind id v other w at apart at' =
      let both : V = united_view v w in
      let there : get_elem? (set vs id both) other ≡ some w = set_else vs id other both apart ∙ at' in
      let a = behind id v at in
      let b = behind other w at' in
      record {
        apart = λ n.
            let t = count_set (λ (d : V). holds n d.numbers) vs id v both at in
            let u = count_set (λ (d : V). holds n d.numbers) (set vs id both) other w spent_view there in
            let e : one_if (holds n (v.numbers ++ w.numbers)) ≡ one_if (holds n v.numbers || holds n w.numbers) = ap one_if (holds_append n v.numbers w.numbers) in
            let j = ones_join (holds n v.numbers) (holds n w.numbers) in
            let was = r.apart n in omega (arith, t, u, e, j, was);
        made_none = each_set (λ (d : V). HoldsNone d.numbers → d.own ≡ []) (λ (d : V). HoldsNone d.numbers → d.own ≡ []) (set vs id both) other spent_view
            (each_set (λ (d : V). HoldsNone d.numbers → d.own ≡ []) (λ (d : V). HoldsNone d.numbers → d.own ≡ []) vs id both r.made_none (λ j d n e h. h)
            (λ none.
            let each : (n : ℕ) → (holds n v.numbers ≡ false) × (holds n w.numbers ≡ false) = λ n. or_false (holds n v.numbers) (holds n w.numbers) (sym (holds_append n v.numbers w.numbers) ∙ none n) in
            ap (λ (z : List ℕ × List ℕ). merge z.0 z.1) (λ k. (r.made_none id v at (λ n. (each n).0) k, r.made_none other w at' (λ n. (each n).1) k))))
            (λ j d n e h. h) (λ _. refl);
        unseen = each_set (Unseen log) (Unseen log) (set vs id both) other spent_view
            (each_set (Unseen log) (Unseen log) vs id both r.unseen (λ j d n e h. h)
            (λ rest is.
            let one = all_later (IsForeign number v.numbers) log v.seen (longer v.seen w.seen) rest (longer_first log v.seen w.seen a b) is (r.unseen id v at) in
            let two = all_later (IsForeign number w.numbers) log w.seen (longer v.seen w.seen) rest (longer_second log v.seen w.seen a b) is (r.unseen other w at') in
            λ k d lt n is_n. holds_append n v.numbers w.numbers ∙ false_or (holds n v.numbers) (holds n w.numbers) (one k d lt n is_n) (two k d lt n is_n)))
            (λ j d n e h. h) (λ rest is k d lt n is_n. refl);
        within = each_set Within Within (set vs id both) other spent_view (each_set Within Within vs id both r.within (λ j d n e h. h) (less_within (nat_lt (length v.seen) (length w.seen)) v w))
            (λ j d n e h. h) (none_within spent_view refl);
        unheard = each_set (Unheard log) (Unheard log) (set vs id both) other spent_view
            (each_set (Unheard log) (Unheard log) vs id both r.unheard (λ j d n e h. h) (less_unheard (nat_lt (length v.seen) (length w.seen)) log v w (r.unseen id v at) (r.unseen other w at')))
            (λ j d n e h. h) (none_unheard log spent_view refl);
      }

  -- the first seat
  pub opens_numbers : (log : List E) (w : V) → w.seen ≡ log → w.own ≡ [] → w.heard_by ≡ [] → ((n : ℕ) → one_if (holds n w.numbers) ≤ one_within 0 number_limit n) → NumbersOnce number log (w ∷ [])
  opens_numbers log w seen none nobody few = record {
    apart = λ n. let one = count_one (λ (d : V). holds n d.numbers) w in let f = few n in omega (arith, one, f);
    made_none = each_push (λ (d : V). HoldsNone d.numbers → d.own ≡ []) [] w (λ j d e. absurd (some-ne-none d (sym e))) (λ _. none);
    unseen = each_push (Unseen log) [] w (λ j d e. absurd (some-ne-none d (sym e))) (seen_all log w seen);
    within = each_push Within [] w (λ j d e. absurd (some-ne-none d (sym e))) (none_within w nobody);
    unheard = each_push (Unheard log) [] w (λ j d e. absurd (some-ne-none d (sym e))) (none_unheard log w nobody);
  }

  -- who holds all numbers has made all
  pub whole_numbers : (log : List E) (vs : List V) (r : NumbersOnce number log vs) (id : ℕ) (v : V) → get_elem? vs id ≡ some v → HoldsAll v.numbers → (j : ℕ) (d : V) → j ≢ id → get_elem? vs j ≡ some d → d.own ≡ []
  whole_numbers log vs r id v at all j d not e = r.made_none j d e
      (λ n. not_true (holds n d.numbers)
      (λ yes.
      let t = count_at (λ (z : V). holds n z.numbers) vs j d e in
      let one = one_if_true (holds n d.numbers) yes in
      let is = r.apart n in
      clash log vs r j id n d v not e at yes (all n (within_bounds 0 number_limit n (omega (arith, t, one, is))).1)))
