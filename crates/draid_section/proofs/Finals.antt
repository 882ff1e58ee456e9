-- What a thread knew of its metaslabs is so of those that come back in the end.
use Rattle.std.proofs.Common.{◌≡◌, ◌∙◌, ◌<◌, arith, ℕ, Bool, true, false, List, Option, Some, None, length, ap, sym, subst, refl}
use Rattle.std.specs.Prelude.{slice_get}
use Rattle.std.proofs.lemmas.Option.{slice_get_past, slice_get_within}
use Rattle.draid_names.specs.declared.pointer.Pointer.{Pointer}
use Rattle.draid_rack.specs.declared.Rack as racks
use Rattle.draid_area.specs.declared.Area as areas
use Rattle.draid_shard.specs.Part.{layout_in}
use Rattle.draid_shard.specs.declared.shard.Shard.{Shard}
use Rattle.draid_turn.specs.Calls.{Caller, Lock}
use Rattle.draid_turn.specs.declared.past.Past.{Past}
use Rattle.draid_session.specs.State.{Metaslab, State}
use Rattle.draid_pool.specs.Drifts.{Drifts, Since, groups_number}
use Rattle.draid_pool.specs.Metaslabs.{IsMetaslab}
use Rattle.draid_pool.specs.Pools.{part_in}
use Rattle.draid_pool.specs.Rounds.{NoneBeyond}
use Rattle.draid_pool.specs.Threads.{Knows}
use Rattle.draid_pool.specs.declared.cell.Cell.{Cell}
use Rattle.draid_pool.proofs.Lists.{present, some_of}
use Rattle.draid_pool.proofs.Since.{since_then}
use Rattle.draid_lanes.specs.Knowing.{KnowsLater}
use Rattle.draid_lanes.specs.Locks.{last_in, last_of, left_in}
use Rattle.draid_lanes.specs.Traces.{CameAt}
use Rattle.draid_lanes.proofs.KnownOn.{knows_later}
use Rattle.draid_lanes.proofs.OwnGoes.{EachGoes, own_drifts}
use Rattle.draid_section.proofs.Kept.{list_same}

module _ {R A : Type 0} (rack : racks.Ghosts R) (area : areas.Ghosts A) (x : State) (locks : List (Lock (Cell R A))) (shards : List (Shard R A)) where
  -- a metaslab behind all turns of its lock, and the one that it is then
  pub record FinalAt (m : ℕ) (z : Metaslab) : Type 0 where
    pub lock : Lock (Cell R A)
    pub lock_is : slice_get locks m ≡ Some lock
    pub shard : Shard R A
    pub shard_is : slice_get shards m ≡ Some shard
    pub log : List (Past (Cell R A))
    pub left : left_in lock log ≡ shard
    pub at : CameAt rack area x lock log m z

  module _ (zs : List Metaslab) (zs_many : length zs ≡ length locks) (shards_many : length shards ≡ length locks) (final : (m : ℕ) (z : Metaslab) → slice_get zs m ≡ Some z → FinalAt m z)
      (single : (lock : Lock (Cell R A)) (m : ℕ) (seen : List (Past (Cell R A))) (y z : Metaslab) → CameAt rack area x lock seen m y → CameAt rack area x lock seen m z → y ≡ z) where
    final_of : (m : ℕ) → m < length locks → (z : Metaslab) × (slice_get zs m ≡ Some z) × FinalAt m z
    final_of m inside = (let z = present zs m (omega (arith, inside, zs_many)) in (z.0, z.1, final m z.0 z.1))

    -- what the metaslab is of which an earlier one is known
    pub came_on : (m : ℕ) (z : Metaslab) (f : FinalAt m z) (lock : Lock (Cell R A)) (seen : List (Past (Cell R A))) (y : Metaslab) → CameAt rack area x lock seen m y → (reached : Metaslab) (pieces : _) → IsMetaslab rack area (part_in x m) pieces f.shard reached → Since (layout_in (part_in x m)) y reached → reached ≡ z
    came_on m z f lock seen y at reached pieces is since =
        single f.lock m f.log reached z (record {
          first = at.first;
          there = at.there;
          came = record {
            reached = reached;
            pieces = pieces;
            began = at.came.began;
            is = subst (λ (s : Shard R A). IsMetaslab rack area (part_in x m) pieces s reached) (sym f.left) is;
            since = since_then (layout_in (part_in x m)) at.first y reached (subst (Since (layout_in (part_in x m)) at.first) at.is at.came.since) since;
          };
          is = refl;
        }) f.at

    module _ (owns : ℕ → Bool) (no_groups : owns groups_number ≡ false) (passes : List (Caller (Past (Cell R A)))) (table : ℕ → Option Pointer) (seq floor : ℕ) (many : length passes ≡ length locks)
        (drifts : (m : ℕ) (lock : Lock (Cell R A)) (pass : Caller (Past (Cell R A))) (shard : Shard R A) → slice_get locks m ≡ Some lock → slice_get passes m ≡ Some pass → slice_get shards m ≡ Some shard → Drifts rack area true owns (left_in lock pass.seen) shard)
        (y : State) (same : y ≡ record x { metaslabs = y.metaslabs; store = y.store }) (y_many : length y.metaslabs ≡ length locks)
        (each : (m : ℕ) (lock : Lock (Cell R A)) (pass : Caller (Past (Cell R A))) → slice_get locks m ≡ Some lock → slice_get passes m ≡ Some pass → (z : Metaslab) × (slice_get y.metaslabs m ≡ Some z) × CameAt rack area x lock pass.seen m z)
        (knows : Knows rack area owns (last_in locks passes) table seq floor y) where
      all : (m : ℕ) → m < length locks → (shard : Shard R A) × (last_in locks passes m ≡ Some shard)
      all m inside =
          let lock = present locks m inside in
          let pass = present passes m (omega (arith, inside, many)) in
          (left_in lock.0 pass.0.seen, (λ i. last_of (lock.1 i) (pass.1 i)))

      beyond : NoneBeyond (length locks) (last_in locks passes)
      beyond m from = ap (λ o. last_of o (slice_get passes m)) (slice_get_past locks m from)

      beyond_now : NoneBeyond (length locks) (λ m. slice_get shards m)
      beyond_now m from = slice_get_past shards m (omega (arith, from, shards_many))

      within : (m : ℕ) (shard : Shard R A) → last_in locks passes m ≡ Some shard → m < length locks
      within m shard at = by (slice_get locks m) refl at
        where
          by : (o : Option (Lock (Cell R A))) → slice_get locks m ≡ o → last_of o (slice_get passes m) ≡ Some shard → m < length locks
          by None none is = absurd (cc)
          by (Some lock) there is = slice_get_within locks m lock there

      goes : EachGoes rack area owns (last_in locks passes) (λ m. slice_get shards m)
      goes m shard at =
          let inside = within m shard at in
          let lock = present locks m inside in
          let pass = present passes m (omega (arith, inside, many)) in
          let final_shard = present shards m (omega (arith, inside, shards_many)) in
          let is : left_in lock.0 pass.0.seen ≡ shard = some_of (last_in locks passes m) (left_in lock.0 pass.0.seen) shard (λ i. last_of (lock.1 i) (pass.1 i)) at in (
            final_shard.0,
            final_shard.1,
            own_drifts rack area owns true owns (λ n mine. mine) shard final_shard.0 (subst (λ (s : Shard R A). Drifts rack area true owns s final_shard.0) is (drifts m lock.0 pass.0 final_shard.0 lock.1 pass.1 final_shard.1)),
          )

      later : KnowsLater rack area owns (λ m. slice_get shards m) table seq floor y
      later = knows_later rack area owns no_groups table seq floor (last_in locks passes) (λ m. slice_get shards m) (length locks) all beyond beyond_now goes y knows

      -- the state that is known then is as the metaslabs are
      geometry_same : later.reached ≡ record x { metaslabs = later.reached.metaslabs; store = y.store }
      geometry_same = later.same ∙ ap (λ (s : State). record s { metaslabs = later.reached.metaslabs }) same

      metaslabs_same : later.reached.metaslabs ≡ zs
      metaslabs_same = list_same later.reached.metaslabs zs (let as_many = later.many in omega (arith, as_many, y_many, zs_many)) (λ m w at.
          let inside = slice_get_within later.reached.metaslabs m w at in
          let as_many = later.many in
          let f = final_of m (omega (arith, inside, as_many, y_many)) in
          let lock = present locks m (omega (arith, inside, as_many, y_many)) in
          let pass = present passes m (omega (arith, inside, as_many, y_many, many)) in
          let e = each m lock.0 pass.0 lock.1 pass.1 in
          let s = later.since m e.0 e.1 in
          let known = later.knows.but_it.each m f.2.shard f.2.shard_is in
          let w_is : known.0 ≡ w = some_of (slice_get later.reached.metaslabs m) known.0 w known.1 at in
          let s_is : s.0 ≡ w = some_of (slice_get later.reached.metaslabs m) s.0 w s.1 at in
          let is = subst (λ (v : State). IsMetaslab rack area (part_in v m) (later.knows.pieces m) f.2.shard w) geometry_same (subst (λ (v : Metaslab). IsMetaslab rack area (part_in later.reached m) (later.knows.pieces m) f.2.shard v) w_is known.2) in
          let since = subst (λ (v : State). Since (layout_in (part_in v m)) e.0 w) same (subst (λ (v : Metaslab). Since (layout_in (part_in y m)) e.0 v) s_is s.2) in
          f.1 ∙ ap Some (sym (came_on m f.0 f.2 lock.0 pass.0.seen e.0 e.2 w (later.knows.pieces m) is since)))

      -- so the thread's objects are what it knows them to be in that state
      pub knows_final : Knows rack area owns (λ m. slice_get shards m) table seq floor (record x { metaslabs = zs; store = y.store })
      knows_final = subst (λ ms. Knows rack area owns (λ m. slice_get shards m) table seq floor (record x { metaslabs = ms; store = y.store })) metaslabs_same (subst (Knows rack area owns (λ m. slice_get shards m) table seq floor) geometry_same later.knows)
