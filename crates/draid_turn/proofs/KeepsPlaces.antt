-- Each kind of step keeps the second part of the rule: the places.
use Rattle.std.proofs.Common.{◌≡◌, ◌≢◌, ℕ, ◌+◌, ◌<◌, ◌≤◌, List, [], ◌∷◌, ◌++◌, length, length-append, set, sym, ap, ◌∙◌, subst, arith}
use mathlib.Core.Option.{some, some-ne-none}
use lib.ListN.{get_elem?}
use Rattle.atomic_table.proofs.Lists.{set_else}
use Rattle.draid_turn.specs.declared.view.SeatView.{SeatView}
use Rattle.draid_turn.specs.Lists.{Ascends, one_within, places, times}
use Rattle.draid_turn.specs.Rule.{PlacesOnce}
use Rattle.draid_turn.specs.Views.{united_view, told_view, spent_view}
use Rattle.draid_turn.proofs.Ascending.{all_places, ascends_merge, ascends_more, times_append, times_merge, times_places}
use Rattle.draid_turn.proofs.Sums.{each_push, each_set, sum_at, sum_only, sum_set, sum_two, within_bounds, within_empty, within_more, within_most}
use Rattle.std.proofs.lemmas.List.Sums.{sum_by_push}

module _ {E : Type 0} where
  -- a view was changed, but for its places
  pub touched_places : (log : List E) (vs : List (SeatView E)) (r : PlacesOnce log vs) (id : ℕ) (v w : SeatView E) → get_elem? vs id ≡ some v → w.own ≡ v.own → PlacesOnce log (set vs id w)
  touched_places log vs r id v w at same = record {
    single = λ x.
        let t = sum_set (λ (d : SeatView E). times x d.own) vs id v w at in
        let e : times x w.own ≡ times x v.own = ap (times x) same in
        let was = r.single x in omega (arith, t, e, was);
    ascending = each_set (λ (d : SeatView E). Ascends d.own) (λ (d : SeatView E). Ascends d.own) vs id w r.ascending (λ j d n e h. h) (subst Ascends (sym same) (r.ascending id v at));
  }

  -- one more seat, which made nothing
  pub added_places : (log : List E) (vs : List (SeatView E)) (r : PlacesOnce log vs) (w : SeatView E) → w.own ≡ [] → PlacesOnce log (vs ++ w ∷ [])
  added_places log vs r w none = record {
    single = λ x.
        let t = sum_by_push (λ (d : SeatView E). times x d.own) vs w in
        let e : times x w.own ≡ 0 = ap (times x) none in
        let was = r.single x in omega (arith, t, e, was);
    ascending = each_push (λ (d : SeatView E). Ascends d.own) vs w r.ascending (subst Ascends (sym none) tt);
  }

  -- The places of what was added are those of the seat that has the value.
  pub counted_places : (vs : List (SeatView E)) (id : ℕ) (v : SeatView E) (added : List E) (r : PlacesOnce v.seen vs) → get_elem? vs id ≡ some v → PlacesOnce (v.seen ++ added) (set vs id (told_view added v))
  counted_places vs id v added r at =
      let w : SeatView E = told_view added v in
      let from = length v.seen in
      let n = length added in
      let long : length (v.seen ++ added) ≡ from + n = length-append v.seen added in
      let low : (x : ℕ) → 1 ≤ times x v.own → x < from = λ x h.
      let t = sum_at (λ (d : SeatView E). times x d.own) vs id v at in
      let is = r.single x in (within_bounds 0 from x (omega (arith, h, t, is))).1 in
      record {
        single = λ x.
            let t = sum_set (λ (d : SeatView E). times x d.own) vs id v w at in
            let a = times_append x v.own (places from n) in
            let p = times_places x from n in
            let m = within_more 0 from (from + n) x (omega arith) (omega arith) in
            let e : one_within 0 (length (v.seen ++ added)) x ≡ one_within 0 (from + n) x = ap (λ k. one_within 0 k x) long in
            let was = r.single x in omega (arith, t, a, p, m, e, was);
        ascending = each_set (λ (d : SeatView E). Ascends d.own) (λ (d : SeatView E). Ascends d.own) vs id w r.ascending (λ j d k e h. h) (ascends_more v.own from n low (r.ascending id v at));
      }

  -- Two seats' places are one's.
  pub joined_places : (log : List E) (vs : List (SeatView E)) (r : PlacesOnce log vs) (id : ℕ) (v : SeatView E) (other : ℕ) (w : SeatView E) → get_elem? vs id ≡ some v → other ≢ id → get_elem? vs other ≡ some w
      → PlacesOnce log (set (set vs id (united_view v w)) other spent_view)
  joined_places log vs r id v other w at apart at' =
      let both : SeatView E = united_view v w in
      let there : get_elem? (set vs id both) other ≡ some w = set_else vs id other both apart ∙ at' in
      record {
        single = λ x.
            let t = sum_set (λ (d : SeatView E). times x d.own) vs id v both at in
            let u = sum_set (λ (d : SeatView E). times x d.own) (set vs id both) other w spent_view there in
            let m = times_merge x v.own w.own in
            let was = r.single x in omega (arith, t, u, m, was);
        ascending = each_set (λ (d : SeatView E). Ascends d.own) (λ (d : SeatView E). Ascends d.own) (set vs id both) other spent_view
            (each_set (λ (d : SeatView E). Ascends d.own) (λ (d : SeatView E). Ascends d.own) vs id both r.ascending (λ j d k e h. h)
            (ascends_merge v.own w.own
            (λ x.
            let t = sum_two (λ (d : SeatView E). times x d.own) vs id other v w (λ e. apart (sym e)) at at' in
            let was = r.single x in
            let most = within_most 0 (length log) x in omega (arith, t, was, most))
            (r.ascending id v at) (r.ascending other w at')))
            (λ j d k e h. h) tt;
      }

  -- the first seat
  pub opens_places : (w : SeatView E) → w.own ≡ [] → PlacesOnce {E = E} [] (w ∷ [])
  opens_places w none = record {
    single = λ x.
        let one = sum_by_push (λ (d : SeatView E). times x d.own) [] w in
        let e : times x w.own ≡ 0 = ap (times x) none in
        let z : one_within 0 0 x ≡ 0 = within_empty 0 x in omega (arith, one, e, z);
    ascending = each_push (λ (d : SeatView E). Ascends d.own) [] w (λ j d e. absurd (some-ne-none d (sym e))) (subst Ascends (sym none) tt);
  }

  -- where no other seat made anything, the places are all one's
  pub whole_places : (log : List E) (vs : List (SeatView E)) (r : PlacesOnce log vs) (id : ℕ) (v : SeatView E) → get_elem? vs id ≡ some v
      → ((j : ℕ) (d : SeatView E) → j ≢ id → get_elem? vs j ≡ some d → d.own ≡ []) → v.own ≡ places 0 (length log)
  whole_places log vs r id v at none = all_places v.own 0 (length log) (r.ascending id v at)
      (λ x.
      let t = sum_only (λ (d : SeatView E). times x d.own) vs id v at (λ j d n e. ap (times x) (none j d n e)) in
      let was = r.single x in
      let q : one_within 0 (0 + length log) x ≡ one_within 0 (length log) x = ap (λ k. one_within 0 k x) (omega arith) in
      omega (arith, t, was, q))
