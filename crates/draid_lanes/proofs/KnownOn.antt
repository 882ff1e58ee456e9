-- What a thread knows of a state it knows of a later one, behind whatever leaves its own objects.
use Rattle.std.proofs.Common.{◌≡◌, ◌==◌, ◌<◌, ◌≤◌, ◌∙◌, ◌⊎◌, inl, inr, arith, ℕ, zero, suc, Bool, true, false, Option, Some, refl, sym, ap, subst, slice_set, if◌then◌else◌, eq-eqb, ne_eqb}
use mathlib.Core.Logic.{dite}
use native.Mathlib.Decide.{ℕ_discrete}
use Rattle.std.specs.Prelude.{slice_get}
use Rattle.std.proofs.lemmas.Bool.{cases_lt}
use Rattle.std.proofs.lemmas.List.{length-set}
use Rattle.draid_names.specs.declared.pointer.Pointer.{Pointer}
use Rattle.draid_rack.specs.declared.Rack as racks
use Rattle.draid_area.specs.declared.Area as areas
use Rattle.draid_machine.specs.declared.names.Key.{Key}
use Rattle.draid_machine.specs.After.{is_freed_block}
use Rattle.draid_objects.specs.Changes.{Write, write_of}
use Rattle.draid_shard.specs.Looks.{IsLive}
use Rattle.draid_shard.specs.Part.{layout_in}
use Rattle.draid_shard.specs.declared.shard.Shard.{Shard}
use Rattle.draid_session.specs.State.{Metaslab, State}
use Rattle.draid_pool.specs.Drifts.{GoesOn, Since, groups_number}
use Rattle.draid_pool.specs.Metaslabs.{IsMetaslab}
use Rattle.draid_pool.specs.Pools.{part_in}
use Rattle.draid_pool.specs.Rounds.{NoneBeyond}
use Rattle.draid_pool.specs.Threads.{IsPointerAt, Knows}
use Rattle.draid_pool.proofs.Contents.{all_long}
use Rattle.draid_pool.proofs.Finds.{points_at_on}
use Rattle.draid_pool.proofs.Holding.{some_same}
use Rattle.draid_pool.proofs.Lastly.{write_object}
use Rattle.draid_pool.proofs.Lists.{get_set_other, get_set_same}
use Rattle.draid_pool.proofs.Moved.{turn, turn_here, turn_other, with_metaslab}
use Rattle.draid_pool.proofs.Owning.{StaysAt, own_drifts}
use Rattle.draid_pool.proofs.ShardSteps.{live_on}
use Rattle.draid_pool.proofs.Since.{since_self, since_then}
use Rattle.draid_lanes.specs.Knowing.{KnowsLater}
use Rattle.draid_lanes.proofs.OwnGoes.{EachGoes, OwnGoes}

module _ {R A : Type 0} (rack : racks.Ghosts R) (area : areas.Ghosts A) (owns : ℕ → Bool) (no_groups : owns groups_number ≡ false) (table : ℕ → Option Pointer) (seq floor : ℕ) where
  -- ---- one metaslab goes

  module _ (last new : ℕ → Option (Shard R A)) (m : ℕ) (shard after : Shard R A) (there : last m ≡ Some shard) (here : new m ≡ Some after) (other : (k : ℕ) → (k ≡ m → ⊥) → new k ≡ last k) (goes : OwnGoes rack area owns shard after)
      (x : State) (knows : Knows rack area owns last table seq floor x) where
    abbrev pub was : (y : Metaslab) × (slice_get x.metaslabs m ≡ Some y) × IsMetaslab rack area (part_in x m) (knows.pieces m) shard y
    was = knows.but_it.each m shard there

    pub g : GoesOn rack area owns (part_in x m) (knows.pieces m) was.0 after
    g = goes.state no_groups (part_in x m) (knows.pieces m) was.0 was.2

    drops : (k : Key) → owns k.object ≡ true → StaysAt was.0 g.reached k
    drops k own =
        let old = was.2.stands.is_in.held k in
        let held = g.is.stands.is_in.held k in
        elim (goes.own.each k own) [
          | inl e ↦ inl (held ∙ (e ∙ sym old))
          | inr e ↦ inr (ap (λ n. is_freed_block n (was.0.world.core.held k)) g.is.stands.is_in.committed ∙ (ap (is_freed_block after.committed) old ∙ e.0), held ∙ e.1)
        ]

    later : was.0.world.committed ≤ g.reached.world.committed
    later =
        let a = was.2.stands.is_in.committed in
        let b = g.is.stands.is_in.committed in
        let c = goes.later in
        omega (arith, a, b, c)

    opens : was.0.world.open_group ≤ g.reached.world.open_group
    opens =
        let a = was.2.stands.is_in.open_group_is in
        let b = g.is.stands.is_in.open_group_is in
        let c = goes.opens in
        omega (arith, a, b, c)

    each_on : (k : ℕ) (c : Shard R A) → new k ≡ Some c → (y : Metaslab) × (slice_get (slice_set x.metaslabs m g.reached) k ≡ Some y) × IsMetaslab rack area (part_in x k) (turn m g.now knows.pieces k) c y
    each_on k c at = dite (ℕ_discrete k m)
        (λ same.
        let c_is : after ≡ c = some_same after c (sym here ∙ (ap new (sym same) ∙ at)) in (
          g.reached,
          ap (slice_get (slice_set x.metaslabs m g.reached)) same ∙ get_set_same x.metaslabs m was.0 g.reached was.1,
          subst (λ j. IsMetaslab rack area (part_in x j) (turn m g.now knows.pieces j) c g.reached) (sym same)
              (subst (λ (d : Shard R A). IsMetaslab rack area (part_in x m) (turn m g.now knows.pieces m) d g.reached) c_is (subst (λ q. IsMetaslab rack area (part_in x m) q after g.reached) (sym (turn_here m g.now knows.pieces)) g.is)),
        ))
        (λ not.
        let z = knows.but_it.each k c (sym (other k not) ∙ at) in (
          z.0,
          get_set_other x.metaslabs m k g.reached not ∙ z.1,
          subst (λ q. IsMetaslab rack area (part_in x k) q c z.0) (sym (turn_other m k g.now knows.pieces not)) z.2,
        ))

    pointer_on : (q : ℕ) (r : Pointer) (w : Write) → owns q ≡ true → r.object ≡ q → IsPointerAt last r w → IsPointerAt new r w
    pointer_on q r w own object_q pt = dite (ℕ_discrete r.metaslab m)
        (λ same.
        let c : pt.shard ≡ shard = some_same pt.shard shard (sym pt.there ∙ (ap last same ∙ there)) in
        record {
          object_is = pt.object_is;
          seq_is = pt.seq_is;
          metaslab_is = pt.metaslab_is;
          birth_is = pt.birth_is;
          len_is = pt.len_is;
          digest_is = pt.digest_is;
          shard = after;
          there = ap new same ∙ here;
          live = live_on rack area owns after.committed shard after r was.2.valid (goes.valid was.2.valid) goes.part goes.own (ap owns object_q ∙ own) (subst (λ (z : Shard R A). IsLive z r) c pt.live);
        })
        (λ not. record {
          object_is = pt.object_is;
          seq_is = pt.seq_is;
          metaslab_is = pt.metaslab_is;
          birth_is = pt.birth_is;
          len_is = pt.len_is;
          digest_is = pt.digest_is;
          shard = pt.shard;
          there = other r.metaslab not ∙ pt.there;
          live = pt.live;
        })

    pub knows_on : Knows rack area owns new table seq floor (with_metaslab x m g.reached)
    knows_on = record {
      pieces = turn m g.now knows.pieces;
      but_it = record {
        each = each_on;
        holds = own_drifts owns x m was.0 g.reached knows.pieces g.now was.1 later opens drops (all_long rack area (part_in x m) (knows.pieces m) shard was.0 was.2) g.same knows.but_it.holds;
        objects = λ q own. points_at_on last new (table q) (write_of x.store.changes q) (λ t w t_is w_is pt. pointer_on q t w own (pt.object_is ∙ write_object x.store.changes q w w_is) pt) (knows.but_it.objects q own);
        seq = knows.but_it.seq;
        floor = knows.but_it.floor;
      };
    }

    pub since_on : (k : ℕ) (y : Metaslab) → slice_get x.metaslabs k ≡ Some y → (z : Metaslab) × (slice_get (slice_set x.metaslabs m g.reached) k ≡ Some z) × Since (layout_in (part_in x k)) y z
    since_on k y at = dite (ℕ_discrete k m)
        (λ same.
        let y_is : was.0 ≡ y = some_same was.0 y (sym was.1 ∙ (ap (slice_get x.metaslabs) (sym same) ∙ at)) in (
          g.reached,
          ap (slice_get (slice_set x.metaslabs m g.reached)) same ∙ get_set_same x.metaslabs m was.0 g.reached was.1,
          subst (λ j. Since (layout_in (part_in x j)) y g.reached) (sym same) (subst (λ (v : Metaslab). Since (layout_in (part_in x m)) v g.reached) y_is g.since),
        ))
        (λ not. (y, get_set_other x.metaslabs m k g.reached not ∙ at, since_self (layout_in (part_in x k)) y))

  -- ---- all of them, one after another

  module _ (last now : ℕ → Option (Shard R A)) where
    -- the first so many as they are now, and the others as they were left
    abbrev mixed : ℕ → ℕ → Option (Shard R A)
    mixed zero k = last k
    mixed (suc n) k = if k == n then now k else mixed n k

    mixed_here : (n : ℕ) → mixed (suc n) n ≡ now n
    mixed_here n = ap (λ t. if t then now n else mixed n n) (eq-eqb n n refl)

    mixed_other : (n k : ℕ) → (k ≡ n → ⊥) → mixed (suc n) k ≡ mixed n k
    mixed_other n k not = ap (λ t. if t then now k else mixed n k) (ne_eqb k n not)

    mixed_behind : (n k : ℕ) → n ≤ k → mixed n k ≡ last k
    mixed_behind zero k from = refl
    mixed_behind (suc n) k from = mixed_other n k (λ same. omega (arith, same, from)) ∙ mixed_behind n k (omega (arith, from))

    mixed_before : (n k : ℕ) → k < n → mixed n k ≡ now k
    mixed_before zero k less = absurd (omega (arith, less))
    mixed_before (suc n) k less = dite (ℕ_discrete k n)
        (λ same. ap (mixed (suc n)) same ∙ (mixed_here n ∙ ap now (sym same)))
        (λ not. mixed_other n k not ∙ mixed_before n k (omega (arith, less, not)))

    module _ (count : ℕ) (all : (m : ℕ) → m < count → (shard : Shard R A) × (last m ≡ Some shard)) (beyond_last : NoneBeyond count last) (beyond_now : NoneBeyond count now) (goes : EachGoes rack area owns last now) (x : State)
        (knows : Knows rack area owns last table seq floor x) where
      mixed_all : mixed count ≡ now
      mixed_all = λ i. λ k. each k i
        where
          each : (k : ℕ) → mixed count k ≡ now k
          each k = by (cases_lt k count)
            where
              by : (k < count) ⊎ (count ≤ k) → mixed count k ≡ now k
              by (inl less) = mixed_before count k less
              by (inr from) = mixed_behind count k from ∙ (beyond_last k from ∙ sym (beyond_now k from))

      upto : (n : ℕ) → n ≤ count → KnowsLater rack area owns (mixed n) table seq floor x
      upto zero below = record { reached = x; same = refl; many = refl; since = λ m y at. (y, at, since_self (layout_in (part_in x m)) y); knows = knows }
      upto (suc n) below = more (upto n (omega (arith, below)))
        where
          was : (shard : Shard R A) × (last n ≡ Some shard)
          was = all n (omega (arith, below))

          went : (y : Shard R A) × (now n ≡ Some y) × OwnGoes rack area owns was.0 y
          went = goes n was.0 was.1

          more : KnowsLater rack area owns (mixed n) table seq floor x → KnowsLater rack area owns (mixed (suc n)) table seq floor x
          more k =
              let there = mixed_behind n n (omega arith) ∙ was.1 in
              let here = mixed_here n ∙ went.1 in
              let z = g (mixed n) (mixed (suc n)) n was.0 went.0 there here (mixed_other n) went.2 k.reached k.knows in
              record {
                reached = with_metaslab k.reached n z.reached;
                same = ap (λ (s : State). record s { metaslabs = slice_set k.reached.metaslabs n z.reached }) k.same;
                many = length-set k.reached.metaslabs n z.reached ∙ k.many;
                since = λ m y at.
                    (let one = k.since m y at in
                    let two = since_on (mixed n) (mixed (suc n)) n was.0 went.0 there here (mixed_other n) went.2 k.reached k.knows m one.0 one.1 in
                    (two.0, two.1, since_then (layout_in (part_in x m)) y one.0 two.0 one.2 (subst (λ (s : State). Since (layout_in (part_in s m)) one.0 two.0) k.same two.2)));
                knows = knows_on (mixed n) (mixed (suc n)) n was.0 went.0 there here (mixed_other n) went.2 k.reached k.knows;
              }

      pub knows_later : KnowsLater rack area owns now table seq floor x
      knows_later = subst (λ f. KnowsLater rack area owns f table seq floor x) mixed_all (upto count (omega arith))
