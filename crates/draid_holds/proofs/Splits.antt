-- Passes that are split off one after another.
use Rattle.std.proofs.Common.{◌≡◌, ℕ, ◌+◌, ◌<◌, ◌≤◌, ◌&&◌, not, true, List, [], ◌∷◌, ◌++◌, length, get_or, map, take, sym, refl, ap, ◌∙◌, arith}
use Rattle.std.proofs.lemmas.List.{map_push, take_all, take_more}
use Rattle.std.proofs.lemmas.List.Sums.{sum_by-take-le}
use Rattle.std.specs.declared.vec.Vec.{Vec}
use Rattle.std.specs.declared.alloc.Global.{Global}
use Rattle.draid_turn.specs.declared.span.Span.{Span}
use Rattle.draid_turn.specs.Calls.{Caller, newcomer}
use Rattle.draid_turn.specs.Lists.{one_if}
use Rattle.draid_turn.specs.Numbers.{HoldsOther, holds}
use Rattle.draid_turn.proofs.Spans.{not_true, one_if_true, ones_split, true_if_one}
use Rattle.draid_turn.proofs.Sums.{count_push}
use Rattle.draid_holds.specs.Passes.{KeepsOne, shares}

abbrev Numbers : Type 0
Numbers = Vec Span Global

abbrev pub newcomer_of : {E : Type 0} → Caller E → Numbers → Caller E
newcomer_of start list = newcomer start.table start.seen list.items

-- the passes of the first lists are split off
pub record Splitting {E : Type 0} (start : Caller E) (lists : List (Vec Span Global)) (i : ℕ) (passes : List (Caller E)) (first : Caller E) : Type 0 where
  pub table : first.table ≡ start.table
  pub seen : first.seen ≡ start.seen
  pub own : first.own ≡ start.own
  pub passes_are : passes ≡ map (newcomer_of start) (take i lists)
  pub left : (n : ℕ) → one_if (holds n first.numbers) + shares n (take i lists) ≡ one_if (holds n start.numbers)

module _ {E : Type 0} (start : Caller E) (lists : List (Vec Span Global)) where
  pub splitting_start : Splitting start lists 0 [] start
  splitting_start = record { table = refl; seen = refl; own = refl; passes_are = refl; left = λ n. let none : shares n (take 0 lists) ≡ 0 = refl in omega (arith, none) }

  share_more : (n i : ℕ) (x : Numbers) → i < length lists → x ≡ get_or lists i x → shares n (take (i + 1) lists) ≡ shares n (take i lists) + one_if (holds n x.items)
  share_more n i x lt is = ap (shares n) (take_more lists i x lt) ∙ (count_push (λ (l : Numbers). holds n l.items) (take i lists) (get_or lists i x) ∙ ap (λ (l : Numbers). shares n (take i lists) + one_if (holds n l.items)) (sym is))

  share_few : (n i : ℕ) → shares n (take i lists) ≤ shares n lists
  share_few n i = sum_by-take-le (λ (l : Numbers). one_if (holds n l.items)) lists i

  module _ (i : ℕ) (passes : List (Caller E)) (first : Caller E) (r : Splitting start lists i passes first) (x : Numbers) (lt : i < length lists) (is : x ≡ get_or lists i x) where
    -- the numbers of the next list are the first pass's
    pub splitting_held : ((n : ℕ) → shares n lists ≤ one_if (holds n start.numbers)) → (n : ℕ) → holds n x.items ≡ true → holds n first.numbers ≡ true
    splitting_held apart n h =
        let left = r.left n in
        let more = share_more n i x lt is in
        let few = share_few n (i + 1) in
        let all = apart n in
        let one = one_if_true (holds n x.items) h in
        true_if_one (holds n first.numbers) (omega (arith, left, more, few, all, one))

    -- and it has one that is in no list
    pub splitting_other : KeepsOne start.numbers lists → HoldsOther first.numbers x.items
    splitting_other keeps =
        let n = keeps.number in
        let left = r.left n in
        let more = share_more n i x lt is in
        let few = share_few n (i + 1) in
        let none = keeps.kept in
        let one = one_if_true (holds n start.numbers) keeps.there in
        record {
          number = n;
          held = true_if_one (holds n first.numbers) (omega (arith, left, more, few, none, one));
          kept = not_true (holds n x.items) (λ h. let has = one_if_true (holds n x.items) h in absurd (omega (arith, more, few, none, has)));
        }

    pub splitting_more : ((n : ℕ) → shares n lists ≤ one_if (holds n start.numbers)) → (first' new : Caller E) → first'.table ≡ first.table → first'.seen ≡ first.seen → first'.own ≡ first.own
        → ((n : ℕ) → holds n first'.numbers ≡ (holds n first.numbers && not (holds n x.items))) → new ≡ newcomer first.table first.seen x.items
        → Splitting start lists (i + 1) (passes ++ new ∷ []) first'
    splitting_more apart first' new table seen own left new_is = record {
      table = table ∙ r.table;
      seen = seen ∙ r.seen;
      own = own ∙ r.own;
      passes_are =
          let next : new ≡ newcomer_of start (get_or lists i x) = new_is ∙ ((λ k. newcomer (r.table k) (r.seen k) (is k).items)) in
          ap (λ ps. ps ++ new ∷ []) r.passes_are
          ∙ (ap (λ p. map (newcomer_of start) (take i lists) ++ p ∷ []) next
          ∙ (sym (map_push (newcomer_of start) (take i lists) (get_or lists i x)) ∙ ap (map (newcomer_of start)) (sym (take_more lists i x lt))));
      left = λ n.
          let was = r.left n in
          let more = share_more n i x lt is in
          let split = ones_split (holds n first.numbers) (holds n x.items) (splitting_held apart n) in
          let now_is : one_if (holds n first'.numbers) ≡ one_if (holds n first.numbers && not (holds n x.items)) = ap one_if (left n) in
          omega (arith, was, more, split, now_is);
    }

  pub all_split : (i : ℕ) (passes : List (Caller E)) (first : Caller E) → Splitting start lists i passes first → length lists ≤ i → passes ≡ map (newcomer_of start) lists
  all_split i passes first r le = r.passes_are ∙ ap (map (newcomer_of start)) (take_all i lists le)

  pub all_left : (i : ℕ) (passes : List (Caller E)) (first : Caller E) → Splitting start lists i passes first → length lists ≤ i → (n : ℕ) → one_if (holds n first.numbers) + shares n lists ≡ one_if (holds n start.numbers)
  all_left i passes first r le n = ap (λ ls. one_if (holds n first.numbers) + shares n ls) (sym (take_all i lists le)) ∙ r.left n
