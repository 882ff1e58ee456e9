-- Metaslabs that are put under locks, and that are taken out again, the last one first.
use Rattle.std.proofs.Common.{◌≡◌, ◌∙◌, ◌++◌, ◌∷◌, ◌+◌, arith, ℕ, zero, suc, List, [], Some, length, map, reverse, sym, ap, subst, refl}
use Rattle.std.specs.Prelude.{slice_get}
use Rattle.std.proofs.lemmas.List.{append-nil, append_assoc, length-append, length-map, length-reverse, length_push, map_push, nil_from_length, reverse-append}
use Rattle.draid_rack.specs.declared.Rack as racks
use Rattle.draid_area.specs.declared.Area as areas
use Rattle.draid_shard.specs.declared.shard.Shard.{Shard}
use Rattle.draid_turn.specs.Calls.{Caller, Lock, newcomer}
use Rattle.draid_turn.specs.History.{left_by}
use Rattle.draid_turn.specs.Lists.{places}
use Rattle.draid_turn.specs.Numbers.{HoldsAll, all_numbers, holds}
use Rattle.draid_turn.specs.declared.past.Past.{Past}
use Rattle.draid_turn.proofs.Spans.{true_if_one}
use Rattle.draid_holds.proofs.Started.{all_held}
use Rattle.draid_pool.specs.declared.cell.Cell.{Cell}
use Rattle.draid_section.specs.Opening.{AllClosed, AreClosed, AreFirst, AreLocked, BelongTo, IsClosed, shard_under, shards_under}

module _ {X : Type 0} where
  pub get_mid : (xs : List X) (x : X) (ys : List X) → slice_get (xs ++ x ∷ ys) (length xs) ≡ Some x
  get_mid [] x ys = refl
  get_mid (z ∷ xs) x ys = get_mid xs x ys

  pub reverse_push : (xs : List X) (x : X) → reverse (xs ++ x ∷ []) ≡ x ∷ reverse xs
  reverse_push xs x = reverse-append xs (x ∷ [])

  pub reverse_cons : (x : X) (xs : List X) → reverse (x ∷ xs) ≡ reverse xs ++ x ∷ []
  reverse_cons x xs = reverse-append (x ∷ []) xs

  pub push_append : (xs : List X) (x : X) (ys : List X) → (xs ++ x ∷ []) ++ ys ≡ xs ++ x ∷ ys
  push_append xs x ys = append_assoc xs (x ∷ []) ys

reverse_map : {X Y : Type 0} (f : X → Y) (xs : List X) → reverse (map f xs) ≡ map f (reverse xs)
reverse_map f [] = refl
reverse_map f (x ∷ xs) = reverse_cons (f x) (map f xs) ∙ (ap (λ ys. ys ++ f x ∷ []) (reverse_map f xs) ∙ (sym (map_push f (reverse xs) x) ∙ ap (map f) (sym (reverse_cons x xs))))

all_true : HoldsAll all_numbers
all_true n lt = true_if_one (holds n all_numbers) (let h = all_held n lt in omega (arith, h))

none_made : {E : Type 0} (log : List E) → [] ≡ places 0 (length log) → log ≡ []
none_made [] e = refl
none_made (x ∷ log) e = absurd (let h : 0 ≡ length (places 0 (length (x ∷ log))) = ap (λ (ns : List ℕ). length ns) e in omega (arith, h))

module _ {R A : Type 0} where
  pub first_append : (locks : List (Lock (Cell R A))) (firsts : List (Caller (Past (Cell R A)))) (more : List (Lock (Cell R A))) (others : List (Caller (Past (Cell R A)))) → AreFirst locks firsts → AreFirst more others → AreFirst (locks ++ more) (firsts ++ others)
  first_append [] [] more others a b = b
  first_append [] (y ∷ ys) more others a b = absurd a
  first_append (x ∷ xs) [] more others a b = absurd a
  first_append (x ∷ xs) (y ∷ ys) more others a b = (a.0, first_append xs ys more others a.1 b)

  pub first_push : (locks : List (Lock (Cell R A))) (firsts : List (Caller (Past (Cell R A)))) (lock : Lock (Cell R A)) (first : Caller (Past (Cell R A))) → AreFirst locks firsts → first ≡ newcomer lock.table [] all_numbers → AreFirst (locks ++ lock ∷ []) (firsts ++ first ∷ [])
  first_push locks firsts lock first a is = first_append locks firsts (lock ∷ []) (first ∷ []) a (is, tt)

  pub first_reverse : (locks : List (Lock (Cell R A))) (firsts : List (Caller (Past (Cell R A)))) → AreFirst locks firsts → AreFirst (reverse locks) (reverse firsts)
  first_reverse [] [] a = tt
  first_reverse [] (y ∷ ys) a = absurd a
  first_reverse (x ∷ xs) [] a = absurd a
  first_reverse (x ∷ xs) (y ∷ ys) a =
      subst (λ (z : List (Lock (Cell R A)) × List (Caller (Past (Cell R A)))). AreFirst z.0 z.1) (λ i. (sym (reverse_cons x xs) i, sym (reverse_cons y ys) i)) (first_push (reverse xs) (reverse ys) x y (first_reverse xs ys a.1) a.0)

  pub first_long : (locks : List (Lock (Cell R A))) (firsts : List (Caller (Past (Cell R A)))) → AreFirst locks firsts → length firsts ≡ length locks
  first_long [] [] a = refl
  first_long [] (y ∷ ys) a = absurd a
  first_long (x ∷ xs) [] a = absurd a
  first_long (x ∷ xs) (y ∷ ys) a = ap suc (first_long xs ys a.1)

  -- what that is at each place
  pub first_at : (locks : List (Lock (Cell R A))) (firsts : List (Caller (Past (Cell R A)))) → AreFirst locks firsts → (m : ℕ) (lock : Lock (Cell R A)) → slice_get locks m ≡ Some lock → slice_get firsts m ≡ Some (newcomer lock.table [] all_numbers)
  first_at [] firsts a m lock is = absurd (cc)
  first_at (x ∷ xs) [] a m lock is = absurd a
  first_at (x ∷ xs) (y ∷ ys) a zero lock is = (let same : x ≡ lock = cc in ap Some (a.0 ∙ ap (λ (l : Lock (Cell R A)). newcomer l.table [] all_numbers) same))
  first_at (x ∷ xs) (y ∷ ys) a (suc m) lock is = first_at xs ys a.1 m lock is

  pub first_own : (locks : List (Lock (Cell R A))) (firsts : List (Caller (Past (Cell R A)))) → AreFirst locks firsts → BelongTo locks firsts
  first_own locks firsts a = record {
    many = first_long locks firsts a;
    each = λ m lock pass l p. (let is = sym (first_at locks firsts a m lock l) ∙ p in ap (λ (c : Caller (Past (Cell R A))). c.table) (let same : newcomer lock.table [] all_numbers ≡ pass = cc in sym same));
  }

  -- the next metaslab lies under its lock
  pub lock_more : (start left : List (Shard R A)) (shard : Shard R A) (locks : List (Lock (Cell R A))) (lock : Lock (Cell R A)) → start ≡ (left ++ shard ∷ []) ++ reverse (shards_under locks) → lock.first.shard ≡ shard → start ≡ left ++ reverse (shards_under (locks ++ lock ∷ []))
  lock_more start left shard locks lock is under =
      is
      ∙ (push_append left shard (reverse (shards_under locks))
      ∙ (ap (λ s. left ++ s ∷ reverse (shards_under locks)) (sym under)
      ∙ ap (λ ss. left ++ ss) (sym (ap (λ ss. reverse ss) (map_push shard_under locks lock) ∙ reverse_push (shards_under locks) (shard_under lock)))))

  -- how many they were
  pub locked_long : (start left : List (Shard R A)) (locks : List (Lock (Cell R A))) → start ≡ left ++ reverse (shards_under locks) → length start ≡ length left + length locks
  locked_long start left locks is =
      ap (λ ss. length ss) is ∙ (length-append left (reverse (shards_under locks)) ∙ ap (λ n. length left + n) (length-reverse (shards_under locks) ∙ length-map locks shard_under))

  under_at : (locks : List (Lock (Cell R A))) (m : ℕ) (shard : Shard R A) → slice_get (shards_under locks) m ≡ Some shard → (lock : Lock (Cell R A)) × (slice_get locks m ≡ Some lock) × (lock.first.shard ≡ shard)
  under_at [] m shard is = absurd (cc)
  under_at (x ∷ xs) zero shard is = (x, refl, cc)
  under_at (x ∷ xs) (suc m) shard is = under_at xs m shard is

  -- all metaslabs lie under locks, of which the last was made first
  pub locked_all : (shards : List (Shard R A)) (locks : List (Lock (Cell R A))) (firsts : List (Caller (Past (Cell R A)))) → shards ≡ reverse (shards_under locks) → AreFirst locks firsts → AreLocked shards (reverse locks) (reverse firsts)
  locked_all shards locks firsts is a =
      let under : shards ≡ shards_under (reverse locks) = is ∙ reverse_map shard_under locks in
      let long : length shards ≡ length (reverse locks) = ap length under ∙ length-map (reverse locks) shard_under in
      let each = first_reverse locks firsts a in
      record {
        many = sym long;
        many_firsts = first_long (reverse locks) (reverse firsts) each ∙ sym long;
        each = λ m shard there. (let l = under_at (reverse locks) m shard (ap (λ ss. slice_get ss m) (sym under) ∙ there) in
            (l.0, l.1, l.2, first_at (reverse locks) (reverse firsts) each m l.0 l.1));
      }

module _ {R A : Type 0} (rack : racks.Ghosts R) (area : areas.Ghosts A) where
  -- the last metaslabs were taken out of their locks
  pub record Closing (locks : List (Lock (Cell R A))) (passes : List (Caller (Past (Cell R A)))) (old : List (Shard R A)) (left : List (Lock (Cell R A))) (left_passes : List (Caller (Past (Cell R A)))) (now : List (Shard R A)) : Type 0 where
    pub done : List (Lock (Cell R A))
    pub done_passes : List (Caller (Past (Cell R A)))
    pub shards : List (Shard R A)
    pub locks_are : locks ≡ left ++ done
    pub passes_are : passes ≡ left_passes ++ done_passes
    pub many : length left_passes ≡ length left
    pub closed : AllClosed rack area done done_passes shards
    pub behind : now ≡ old ++ reverse shards

  module _ (locks : List (Lock (Cell R A))) (passes : List (Caller (Past (Cell R A)))) (old : List (Shard R A)) where
    pub closing_start : length passes ≡ length locks → Closing locks passes old locks passes old
    closing_start many = record { done = []; done_passes = []; shards = []; locks_are = sym (append-nil locks); passes_are = sym (append-nil passes); many = many; closed = tt; behind = sym (append-nil old) }

    module _ (left : List (Lock (Cell R A))) (lock : Lock (Cell R A)) (left_passes : List (Caller (Past (Cell R A)))) (pass : Caller (Past (Cell R A))) (now : List (Shard R A)) (r : Closing locks passes old (left ++ lock ∷ []) (left_passes ++ pass ∷ []) now) where
      as_many : length left_passes ≡ length left
      as_many = (let many = r.many in let a = length_push left_passes pass in let b = length_push left lock in omega (arith, many, a, b))

      -- the pass is of the lock
      pub closing_own : BelongTo locks passes → pass.table ≡ lock.table
      closing_own own = own.each (length left) lock pass
          (ap (λ ls. slice_get ls (length left)) (r.locks_are ∙ push_append left lock r.done) ∙ get_mid left lock r.done)
          (ap (λ ps. slice_get ps (length left)) (r.passes_are ∙ push_append left_passes pass r.done_passes) ∙ (ap (slice_get (left_passes ++ pass ∷ r.done_passes)) (sym as_many) ∙ get_mid left_passes pass r.done_passes))

      pub closing_more : (shard : Shard R A) → IsClosed rack area lock pass shard → Closing locks passes old left left_passes (now ++ shard ∷ [])
      closing_more shard is = record {
        done = lock ∷ r.done;
        done_passes = pass ∷ r.done_passes;
        shards = shard ∷ r.shards;
        locks_are = r.locks_are ∙ push_append left lock r.done;
        passes_are = r.passes_are ∙ push_append left_passes pass r.done_passes;
        many = as_many;
        closed = (is, r.closed);
        behind = ap (λ ss. ss ++ shard ∷ []) r.behind ∙ (append_assoc old (reverse r.shards) (shard ∷ []) ∙ ap (λ ss. old ++ ss) (sym (reverse_cons shard r.shards)));
      }

    pub closing_done : (left : List (Lock (Cell R A))) (left_passes : List (Caller (Past (Cell R A)))) (now : List (Shard R A)) → left ≡ [] → Closing locks passes old left left_passes now → AreClosed rack area locks passes old now
    closing_done left left_passes now none r =
        let none_passes : left_passes ≡ [] = nil_from_length left_passes (r.many ∙ ap length none) in
        record {
          shards = r.shards;
          closed = subst (λ (z : List (Lock (Cell R A)) × List (Caller (Past (Cell R A)))). AllClosed rack area z.0 z.1 r.shards)
              (λ i. (sym (r.locks_are ∙ ap (λ ls. ls ++ r.done) none) i, sym (r.passes_are ∙ ap (λ ps. ps ++ r.done_passes) none_passes) i)) r.closed;
          behind = r.behind;
        }

  -- where no hold was made, the metaslab is the one that was put under the lock
  closed_same : (lock : Lock (Cell R A)) (pass : Caller (Past (Cell R A))) (shard : Shard R A) → pass ≡ newcomer lock.table [] all_numbers → IsClosed rack area lock pass shard → shard ≡ lock.first.shard
  closed_same lock pass shard first r =
      let made = subst (λ (p : Caller (Past (Cell R A))). HoldsAll p.numbers → p.own ≡ places 0 (length r.closes.log)) first r.closes.whole all_true in
      let none : r.closes.log ≡ [] = none_made r.closes.log made in
      r.is ∙ ap (λ (c : Cell R A). c.shard) (r.closes.stood.is ∙ ap (left_by lock.first) none)

  pub closed_under : (locks : List (Lock (Cell R A))) (passes : List (Caller (Past (Cell R A)))) (shards : List (Shard R A)) → AreFirst locks passes → AllClosed rack area locks passes shards → shards ≡ shards_under locks
  closed_under [] [] [] a r = refl
  closed_under [] [] (z ∷ zs) a r = absurd r
  closed_under [] (y ∷ ys) shards a r = absurd a
  closed_under (x ∷ xs) [] shards a r = absurd a
  closed_under (x ∷ xs) (y ∷ ys) [] a r = absurd r
  closed_under (x ∷ xs) (y ∷ ys) (z ∷ zs) a r = (let one = closed_same x y z a.0 r.0 in let rest = closed_under xs ys zs a.1 r.1 in λ i. one i ∷ rest i)

  -- what was put under locks, and then taken out, is what was there
  pub closed_back : (start old new : List (Shard R A)) (locks : List (Lock (Cell R A))) (passes : List (Caller (Past (Cell R A)))) → start ≡ old ++ reverse (shards_under locks) → AreFirst locks passes → AreClosed rack area locks passes old new → new ≡ start
  closed_back start old new locks passes is a r = r.behind ∙ (ap (λ ss. old ++ reverse ss) (closed_under locks passes r.shards a r.closed) ∙ sym is)

  -- with the last lock and the last pass apart
  pub closing_at : (locks : List (Lock (Cell R A))) (passes : List (Caller (Past (Cell R A)))) (old : List (Shard R A)) (all left : List (Lock (Cell R A))) (lock : Lock (Cell R A)) (all_passes left_passes : List (Caller (Past (Cell R A)))) (pass : Caller (Past (Cell R A))) (now : List (Shard R A))
      → all ≡ left ++ lock ∷ [] → all_passes ≡ left_passes ++ pass ∷ [] → Closing locks passes old all all_passes now → Closing locks passes old (left ++ lock ∷ []) (left_passes ++ pass ∷ []) now
  closing_at locks passes old all left lock all_passes left_passes pass now is passes_are r =
      subst (λ (z : List (Lock (Cell R A)) × List (Caller (Past (Cell R A)))). Closing locks passes old z.0 z.1 now) (λ i. (is i, passes_are i)) r
