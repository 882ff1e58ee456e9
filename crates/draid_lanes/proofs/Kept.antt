-- What a thread knows of its own metaslabs, behind what others did to each.
use Rattle.std.proofs.Common.{◌≡◌, ◌∙◌, arith, ℕ, Bool, true, false, Option, Some, None, refl, sym, ap, subst}
use Rattle.std.proofs.lemmas.Bool.{true≢false}
use Rattle.draid_rack.specs.declared.Rack as racks
use Rattle.draid_area.specs.declared.Area as areas
use Rattle.draid_spec.specs.declared.layout.Geometry.{Geometry}
use Rattle.draid_machine.proofs.Small.{none_some}
use Rattle.draid_shard.specs.Part.{Part}
use Rattle.draid_shard.specs.declared.shard.Shard.{Shard}
use Rattle.draid_pool.specs.Drifts.{Drifts, groups_number}
use Rattle.draid_pool.specs.Threads.{HaveLayout, IsNear, IsWholeBy, KeepsWhole, all_of}
use Rattle.draid_pool.proofs.Drifting.{keeps_some}
use Rattle.draid_pool.proofs.HeldBy.{held_drifts}
use Rattle.draid_pool.proofs.Lists.{some_of}
use Rattle.draid_pool.proofs.ShardSteps.{live_on}
use Rattle.draid_lanes.specs.Governing.{EachDrifts}
use Rattle.draid_lanes.proofs.Drifted.{state_some}

module _ {R A : Type 0} (rack : racks.Ghosts R) (area : areas.Ghosts A) where
  -- what is left to a thread is left to who owns less
  pub drifts_some : (shared : Bool) (owns some : ℕ → Bool) (a b : Shard R A) → ((n : ℕ) → some n ≡ true → owns n ≡ true) → Drifts rack area shared owns a b → Drifts rack area shared some a b
  drifts_some shared owns some a b inside d = record {
    valid = d.valid;
    part = d.part;
    later = d.later;
    opens = d.opens;
    groups = λ mine. d.groups (inside groups_number mine);
    passes = λ mine. d.passes (inside _ mine);
    own = keeps_some owns some b.committed a.entries b.entries inside d.own;
    state = state_some rack area owns some a b inside d.state;
    still = d.still;
  }

  module _ (owns : ℕ → Bool) (last now : ℕ → Option (Shard R A)) (d : EachDrifts rack area owns last now) where
    -- how it was
    was_at : (m : ℕ) (s : Shard R A) → now m ≡ Some s → (was : Shard R A) × (last m ≡ Some was) × Drifts rack area true owns was s
    was_at m s at = by (last m) refl
      where
        by : (o : Option (Shard R A)) → last m ≡ o → (was : Shard R A) × (last m ≡ Some was) × Drifts rack area true owns was s
        by None is = absurd (none_some (now m) s (d.absent m is) at)
        by (Some was) is = (let z = d.each m was is in (was, is, subst (Drifts rack area true owns was) (some_of (now m) z.0 s z.1 at) z.2))

    pub layout_drifts : (geometry : Geometry) → HaveLayout geometry last → HaveLayout geometry now
    layout_drifts geometry has m s at = (let z = was_at m s at in ap (λ (q : Part). q.geometry) z.2.part ∙ has m z.0 z.1)

    near_drifts : (floor : ℕ) → IsNear floor last → IsNear floor now
    near_drifts floor is =
        let z = d.each is.metaslab is.shard is.there in
        record { metaslab = is.metaslab; shard = z.0; there = z.1; near = (let near = is.near in let opens = z.2.opens in omega (arith, near, opens)) }

    -- what was whole is so, where the groups aren't its own
    pub whole_drifts : owns groups_number ≡ false → KeepsWhole rack owns (all_of owns) last now
    whole_drifts without table seq floor w = record {
      shards = λ m s at. (let z = was_at m s at in held_drifts rack (all_of owns m) seq z.0 s z.2.valid (w.shards m z.0 z.1) owns s.committed (λ k mine. mine) z.2.own);
      placed = λ m s at. (let z = was_at m s at in ap (λ (q : Part). q.number) z.2.part ∙ w.placed m z.0 z.1);
      together = λ m n s other mine. absurd (true≢false (sym mine ∙ without));
      next = λ m s mine. absurd (true≢false (sym mine ∙ without));
      pointers = λ o p at.
          (let h = w.pointers o p at in
          let z = d.each p.metaslab h.shard h.there in
          record {
            object_is = h.object_is;
            own = h.own;
            shard = z.0;
            there = z.1;
            valid = z.2.valid;
            live = live_on rack area owns z.0.committed h.shard z.0 p h.valid z.2.valid z.2.part z.2.own (ap owns h.object_is ∙ h.own) h.live;
          });
      low = w.low;
      reached = near_drifts floor w.reached;
    }

  -- so where each is as it was left
  pub whole_same : (owns : ℕ → Bool) (last now : ℕ → Option (Shard R A)) → ((m : ℕ) → now m ≡ last m) → KeepsWhole rack owns (all_of owns) last now
  whole_same owns last now same table seq floor w =
      let are : last ≡ now = (λ i. λ m. sym (same m) i) in
      subst (λ f. IsWholeBy rack owns f table seq floor) are w

  pub layout_same : (last now : ℕ → Option (Shard R A)) → ((m : ℕ) → now m ≡ last m) → (geometry : Geometry) → HaveLayout geometry last → HaveLayout geometry now
  layout_same last now same geometry has m s at = has m s (sym (same m) ∙ at)
