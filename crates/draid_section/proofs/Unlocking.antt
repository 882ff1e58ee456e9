-- Passes of all lanes that are joined to the first ones, and metaslabs that are taken out of their locks behind that.
use Rattle.std.proofs.Common.{◌≡◌, ◌∙◌, ◌++◌, ◌∷◌, ◌<◌, ◌≤◌, ◌+◌, arith, ℕ, zero, suc, All, List, [], Option, Some, None, get_or, length, reverse, sym, ap, subst, refl, slice_set}
use mathlib.Core.Logic.{dite}
use native.Mathlib.Decide.{ℕ_discrete}
use Rattle.std.specs.Prelude.{slice_get}
use Rattle.std.specs.declared.vec.Vec.{Vec}
use Rattle.std.specs.declared.alloc.Global.{Global}
use Rattle.std.proofs.lemmas.List.{append-nil, length-set, length_push, reverse-reverse}
use Rattle.std.proofs.lemmas.List.Elements.{All-weaker}
use Rattle.std.proofs.lemmas.Option.{get_or_from_slice_get, slice_get-get_or, slice_get_within}
use Rattle.draid_rack.specs.declared.Rack as racks
use Rattle.draid_area.specs.declared.Area as areas
use Rattle.draid_shard.specs.declared.shard.Shard.{Shard}
use Rattle.draid_turn.specs.Calls.{Caller, Lock}
use Rattle.draid_turn.specs.History.{number_of}
use Rattle.draid_turn.specs.Lists.{StartsWith, one_if}
use Rattle.draid_turn.specs.Numbers.{HoldsAll, holds, number_limit}
use Rattle.draid_turn.specs.declared.past.Past.{Past}
use Rattle.draid_turn.proofs.Beginnings.{starts_further}
use Rattle.draid_turn.proofs.Joined.{follows_then}
use Rattle.draid_holds.specs.Passes.{ClosesEach, holders}
use Rattle.draid_holds.proofs.Joins.{Joining, all_follow, all_held, all_inside, all_made, all_seen, follows_all, joining_more, joining_start, made_once}
use Rattle.draid_pool.specs.declared.cell.Cell.{Cell}
use Rattle.draid_pool.proofs.Lists.{get_set_other, get_set_same, present, some_of}
use Rattle.draid_lanes.specs.Locks.{Step}
use Rattle.draid_section.specs.Opening.{AllClosed, AreClosed, AreJoined, AreUnlocked, BelongTo, EachTakes, IsClosed, JoinsAll, Takes, passes_at, with_pass}
use Rattle.draid_section.proofs.Locking.{get_mid, push_append}

module _ {R A : Type 0} where
  -- those of the last metaslabs took theirs in
  pub record Taking (old others left now : List (Caller (Past (Cell R A)))) : Type 0 where
    pub done : List (Caller (Past (Cell R A)))
    pub all_are : others ≡ left ++ done
    pub many : length now ≡ length old
    pub before : (m : ℕ) → m < length left → slice_get now m ≡ slice_get old m
    pub behind : (m : ℕ) (pass other : Caller (Past (Cell R A))) → length left ≤ m → slice_get old m ≡ Some pass → slice_get others m ≡ Some other
        → (next : Caller (Past (Cell R A))) × (slice_get now m ≡ Some next) × Takes pass other next

  module _ (old others : List (Caller (Past (Cell R A)))) where
    pub taking_start : Taking old others others old
    taking_start = record {
      done = [];
      all_are = sym (append-nil others);
      many = refl;
      before = λ m lt. refl;
      behind = λ m pass other from p o. (let within = slice_get_within others m other o in absurd (omega (arith, from, within)));
    }

    module _ (left now : List (Caller (Past (Cell R A)))) (other : Caller (Past (Cell R A))) (r : Taking old others (left ++ other ∷ []) now) where
      -- it is the pass of that metaslab
      pub taking_at : slice_get others (length left) ≡ Some other
      taking_at = ap (λ l. slice_get l (length left)) (r.all_are ∙ push_append left other r.done) ∙ get_mid left other r.done

      pub taking_now : slice_get now (length left) ≡ slice_get old (length left)
      taking_now = r.before (length left) (let e = length_push left other in omega (arith, e))

      pub taking_more : (pass next : Caller (Past (Cell R A))) → slice_get old (length left) ≡ Some pass → Takes pass other next → Taking old others left (slice_set now (length left) next)
      taking_more pass next there takes = record {
        done = other ∷ r.done;
        all_are = r.all_are ∙ push_append left other r.done;
        many = length-set now (length left) next ∙ r.many;
        before = λ m lt. get_set_other now (length left) m next (λ same. omega (arith, lt, same)) ∙ r.before m (let e = length_push left other in omega (arith, lt, e));
        behind = λ m p o from p_is o_is. dite (ℕ_discrete m (length left))
            (λ same. (
              next,
              ap (slice_get (slice_set now (length left) next)) same ∙ get_set_same now (length left) pass next (taking_now ∙ there),
              subst (λ (z : Caller (Past (Cell R A)) × Caller (Past (Cell R A))). Takes z.0 z.1 next)
                  (λ i. (some_of (slice_get old m) pass p (ap (slice_get old) same ∙ there) p_is i, some_of (slice_get others m) other o (ap (slice_get others) same ∙ taking_at) o_is i)) takes,
            ))
            (λ not.
            let z = r.behind m p o (let e = length_push left other in omega (arith, from, not, e)) p_is o_is in
            (z.0, get_set_other now (length left) m next not ∙ z.1, z.2));
      }

    -- which lock and which passes are at the next place
    pub taking_places : (locks : List (Lock (Cell R A))) (all left now : List (Caller (Past (Cell R A)))) (other : Caller (Past (Cell R A))) (at : ℕ) (lock : Lock (Cell R A)) (pass : Caller (Past (Cell R A))) → BelongTo locks old → BelongTo locks others → Taking old others all now → all ≡ left ++ other ∷ [] → at ≡ length left
        → lock ≡ get_or locks at lock → pass ≡ get_or now at pass → Taking old others (left ++ other ∷ []) now × (slice_get locks at ≡ Some lock) × (slice_get old at ≡ Some pass) × (slice_get others at ≡ Some other)
    taking_places locks all left now other at lock pass own own_others taking is at_is lock_is pass_is =
        let r = subst (λ ps. Taking old others ps now) is taking in
        let there = ap (slice_get others) at_is ∙ taking_at left now other r in
        let within = slice_get_within others at other there in
        let many = own.many in
        let many_others = own_others.many in
        let many_now = r.many in (
          r,
          slice_get-get_or locks at lock (omega (arith, within, many_others)) ∙ ap Some (sym lock_is),
          ap (slice_get old) at_is ∙ (sym (taking_now left now other r) ∙ (ap (slice_get now) (sym at_is) ∙ (slice_get-get_or now at pass (omega (arith, within, many, many_others, many_now)) ∙ ap Some (sym pass_is)))),
          there,
        )

    pub taking_done : (left now : List (Caller (Past (Cell R A)))) → left ≡ [] → Taking old others left now → EachTakes old others now
    taking_done left now none r = record {
      many = r.many;
      each = λ m pass other p o. r.behind m pass other (let no_more : length left ≡ 0 = ap length none in omega (arith, no_more)) p o;
    }

  with_append : (o : Option (Caller (Past (Cell R A)))) (ps qs : List (Caller (Past (Cell R A)))) → with_pass o (ps ++ qs) ≡ with_pass o ps ++ qs
  with_append None ps qs = refl
  with_append (Some p) ps qs = refl

  with_push : (m : ℕ) (pass : Caller (Past (Cell R A))) (lanes : List (Vec (Caller (Past (Cell R A))) Global)) (lane : Vec (Caller (Past (Cell R A))) Global) → slice_get lane.items m ≡ Some pass → passes_at m (lanes ++ lane ∷ []) ≡ passes_at m lanes ++ pass ∷ []
  with_push m pass [] lane is = ap (λ o. with_pass o []) is
  with_push m pass (x ∷ lanes) lane is = ap (with_pass (slice_get x.items m)) (with_push m pass lanes lane is) ∙ with_append (slice_get x.items m) (passes_at m lanes) (pass ∷ [])

  -- the passes of the last lanes were joined to the first ones
  pub record JoinsLanes (old : List (Caller (Past (Cell R A)))) (lanes left : List (Vec (Caller (Past (Cell R A))) Global)) (now : List (Caller (Past (Cell R A)))) : Type 0 where
    pub done : List (Vec (Caller (Past (Cell R A))) Global)
    pub all_are : lanes ≡ left ++ done
    pub many : length now ≡ length old
    pub each : (m : ℕ) (first next : Caller (Past (Cell R A))) → slice_get old m ≡ Some first → slice_get now m ≡ Some next → Joining first (passes_at m lanes) (passes_at m left) next

  module _ (old : List (Caller (Past (Cell R A)))) (lanes : List (Vec (Caller (Past (Cell R A))) Global)) where
    pub lanes_start : JoinsLanes old lanes lanes old
    lanes_start = record {
      done = [];
      all_are = sym (append-nil lanes);
      many = refl;
      each = λ m first next f n. subst (Joining first (passes_at m lanes) (passes_at m lanes)) (some_of (slice_get old m) first next f n) (joining_start first (passes_at m lanes));
    }

    -- the first passes are of the same locks as before
    pub lanes_own : (locks : List (Lock (Cell R A))) (left : List (Vec (Caller (Past (Cell R A))) Global)) (now : List (Caller (Past (Cell R A)))) → BelongTo locks old → JoinsLanes old lanes left now → BelongTo locks now
    lanes_own locks left now own r = record {
      many = r.many ∙ own.many;
      each = λ m lock next l n.
          let within = slice_get_within now m next n in
          let many = r.many in
          let first = present old m (omega (arith, within, many)) in
          (r.each m first.0 next first.1 n).table ∙ own.each m lock first.0 l first.1;
    }

    module _ (locks : List (Lock (Cell R A))) (left : List (Vec (Caller (Past (Cell R A))) Global)) (lane : Vec (Caller (Past (Cell R A))) Global) (now : List (Caller (Past (Cell R A)))) (r : JoinsLanes old lanes (left ++ lane ∷ []) now) where
      -- the next lane's passes are of the locks
      pub lane_own : All (λ (l : Vec (Caller (Past (Cell R A))) Global). BelongTo locks l.items) lanes → BelongTo locks lane.items
      lane_own all =
          let at = ap (λ ls. slice_get ls (length left)) (r.all_are ∙ push_append left lane r.done) ∙ get_mid left lane r.done in
          subst (λ (l : Vec (Caller (Past (Cell R A))) Global). BelongTo locks l.items) (get_or_from_slice_get lanes (length left) lane lane at) (all (length left) lane (slice_get_within lanes (length left) lane at))

      pub lanes_more : (new : List (Caller (Past (Cell R A)))) → BelongTo locks old → BelongTo locks lane.items → EachTakes now lane.items new → JoinsLanes old lanes left new
      lanes_more new own own_lane takes = record {
        done = lane ∷ r.done;
        all_are = r.all_are ∙ push_append left lane r.done;
        many = takes.many ∙ r.many;
        each = λ m first next f n.
            let within = slice_get_within old m first f in
            let many = r.many in
            let many_own = own.many in
            let many_lane = own_lane.many in
            let pass = present now m (omega (arith, within, many)) in
            let other = present lane.items m (omega (arith, within, many_own, many_lane)) in
            let z = takes.each m pass.0 other.0 pass.1 other.1 in
            let was = subst (λ ps. Joining first (passes_at m lanes) ps pass.0) (with_push m other.0 left lane other.1) (r.each m first pass.0 f pass.1) in
            let t = z.2 in
            subst (Joining first (passes_at m lanes) (passes_at m left)) (some_of (slice_get new m) z.0 next z.1 n)
            (joining_more first (passes_at m lanes) (passes_at m left) other.0 pass.0 z.0 was t.table t.begins t.begins_other t.own t.numbers t.follows t.follows_other);
      }

    pub lanes_done : (left : List (Vec (Caller (Past (Cell R A))) Global)) (now : List (Caller (Past (Cell R A)))) → left ≡ [] → JoinsLanes old lanes left now → AreJoined old lanes now
    lanes_done left now none r = record {
      many = r.many;
      each = λ m first next f n.
          let j = r.each m first next f n in
          let no_more : passes_at m left ≡ [] = ap (passes_at m) none in
          let all = passes_at m lanes in
          record {
            table = j.table;
            seen = all_seen first all (passes_at m left) next j no_more;
            made = all_made first all (passes_at m left) next j no_more;
            numbers = all_held first all (passes_at m left) next j no_more;
            inside = all_inside first all (passes_at m left) next j no_more;
            follows = all_follow first all (passes_at m left) next j no_more;
            first_inside = j.start_inside;
            first_follows = j.start_follows;
          };
    }

  -- the first passes are of the same locks as before
  pub joined_own : (locks : List (Lock (Cell R A))) (old : List (Caller (Past (Cell R A)))) (lanes : List (Vec (Caller (Past (Cell R A))) Global)) (new : List (Caller (Past (Cell R A)))) → BelongTo locks old → AreJoined old lanes new → BelongTo locks new
  joined_own locks old lanes new own r = record {
    many = r.many ∙ own.many;
    each = λ m lock next l n.
        let within = slice_get_within new m next n in
        let many = r.many in
        let first = present old m (omega (arith, within, many)) in
        (r.each m first.0 next first.1 n).table ∙ own.each m lock first.0 l first.1;
  }

module _ {R A : Type 0} (rack : racks.Ghosts R) (area : areas.Ghosts A) where
  closed_long : (locks : List (Lock (Cell R A))) (passes : List (Caller (Past (Cell R A)))) (shards : List (Shard R A)) → AllClosed rack area locks passes shards → length shards ≡ length locks
  closed_long [] [] [] r = refl
  closed_long [] [] (z ∷ zs) r = absurd r
  closed_long [] (y ∷ ys) shards r = absurd r
  closed_long (x ∷ xs) [] shards r = absurd r
  closed_long (x ∷ xs) (y ∷ ys) [] r = absurd r
  closed_long (x ∷ xs) (y ∷ ys) (z ∷ zs) r = ap suc (closed_long xs ys zs r.1)

  closed_at : (locks : List (Lock (Cell R A))) (passes : List (Caller (Past (Cell R A)))) (shards : List (Shard R A)) → AllClosed rack area locks passes shards → (m : ℕ) (lock : Lock (Cell R A)) (pass : Caller (Past (Cell R A))) → slice_get locks m ≡ Some lock → slice_get passes m ≡ Some pass
      → (shard : Shard R A) × (slice_get shards m ≡ Some shard) × IsClosed rack area lock pass shard
  closed_at [] passes shards r m lock pass l p = absurd (cc)
  closed_at (x ∷ xs) [] shards r m lock pass l p = absurd (cc)
  closed_at (x ∷ xs) (y ∷ ys) [] r m lock pass l p = absurd r
  closed_at (x ∷ xs) (y ∷ ys) (z ∷ zs) r zero lock pass l p =
      let one : x ≡ lock = cc in
      let two : y ≡ pass = cc in
      (z, refl, subst (λ (w : Lock (Cell R A) × Caller (Past (Cell R A))). IsClosed rack area w.0 w.1 z) (λ i. (one i, two i)) r.0)
  closed_at (x ∷ xs) (y ∷ ys) (z ∷ zs) r (suc m) lock pass l p = closed_at xs ys zs r.1 m lock pass l p

  -- a metaslab was taken out by a pass to which the lanes' passes had been joined
  closes : (lock : Lock (Cell R A)) (first next : Caller (Past (Cell R A))) (passes : List (Caller (Past (Cell R A)))) (shard : Shard R A) → ((n : ℕ) → n < number_limit → 1 ≤ one_if (holds n first.numbers) + holders n passes) → JoinsAll first passes next → (r : IsClosed rack area lock next shard)
      → ClosesEach (Step rack area) lock.first first passes r.value
  closes lock first next passes shard all j r =
      let c = r.closes in
      let more : StartsWith c.log next.seen = (c.follows.unseen, c.follows.begins) in
      let whole : HoldsAll next.numbers = λ n lt. j.numbers n (all n lt) in
      record {
        log = c.log;
        stood = c.stood;
        seen = All-weaker (λ (p : Caller (Past (Cell R A))). StartsWith next.seen p.seen) (λ (p : Caller (Past (Cell R A))). StartsWith c.log p.seen) (λ p h. starts_further p.seen next.seen c.log h more) passes j.seen;
        follows = follows_all passes next c.log c.follows j.inside j.follows;
        first_follows = follows_then number_of first.numbers next.numbers first.seen next.seen c.log j.first_inside j.first_follows c.follows;
        single = λ x. sym (j.made x) ∙ made_once next.own (length c.log) x (c.whole whole);
      }

  pub unlocked : (locks : List (Lock (Cell R A))) (firsts new : List (Caller (Past (Cell R A)))) (lanes : List (Vec (Caller (Past (Cell R A))) Global)) (old back shards : List (Shard R A)) → BelongTo locks firsts
      → ((m : ℕ) (first : Caller (Past (Cell R A))) → slice_get firsts m ≡ Some first → (n : ℕ) → n < number_limit → 1 ≤ one_if (holds n first.numbers) + holders n (passes_at m lanes))
      → AreJoined firsts lanes new → old ≡ [] → AreClosed rack area locks new old back → shards ≡ reverse back → AreUnlocked rack area locks firsts lanes shards
  unlocked locks firsts new lanes old back shards own all j none r is =
      let same : shards ≡ r.shards = is ∙ (ap (λ ss. reverse ss) (r.behind ∙ ap (λ ss. ss ++ reverse r.shards) none) ∙ reverse-reverse r.shards) in
      record {
        many = ap (λ ss. length ss) same ∙ closed_long locks new r.shards r.closed;
        each = λ m lock first l f.
            let within = slice_get_within firsts m first f in
            let many = j.many in
            let next = present new m (omega (arith, within, many)) in
            let z = closed_at locks new r.shards r.closed m lock next.0 l next.1 in
            (z.2.value, ap (λ ss. slice_get ss m) same ∙ (z.1 ∙ ap Some z.2.is), closes lock first next.0 (passes_at m lanes) z.0 (all m first f) (j.each m first next.0 f next.1) z.2);
      }
