-- What a thread has of its own behind a hold that leaves blocks, groups and arms, and what looks at metaslabs find.
use Rattle.std.proofs.Common.{◌≡◌, ◌<◌, ◌≤◌, ◌+◌, ◌∙◌, ℕ, zero, suc, Bool, true, false, List, Option, arith, refl, sym, ap, subst, length, replicate, slice_index_or, slice_set}
use Rattle.std.proofs.lemmas.Bool.{true≢false}
use Rattle.std.proofs.lemmas.List.{length-set}
use Rattle.draid_rack.specs.declared.Rack as racks
use Rattle.draid_area.specs.declared.Area as areas
use Rattle.draid_shard.specs.Changes.{KeepsBlocks}
use Rattle.draid_shard.specs.Fits.{Valid}
use Rattle.draid_shard.specs.States.{part_of}
use Rattle.draid_shard.specs.declared.shard.Shard.{Shard}
use Rattle.draid_pool.specs.Drifts.{KeepsGroups}
use Rattle.draid_pool.specs.Rounds.{EachIs, HeldEach, HeldOnce}
use Rattle.draid_pool.specs.Threads.{AllStay, KeepsWhole, all_of}
use Rattle.draid_pool.proofs.Drifting.{same_groups}
use Rattle.draid_pool.proofs.HeldBy.{stay_held}
use Rattle.draid_pool.proofs.LookKeeps.{same_blocks}
use Rattle.draid_pool.proofs.QuietWhole.{quiet_whole}
use Rattle.draid_pool.proofs.RoundSteps.{each_stays, round_more}
use Rattle.draid_visits.specs.Looks.{SeesEach, SeesRebuilt}
use Rattle.draid_visits.proofs.Marking.{mark_elsewhere, mark_here, unmarked}

module _ {R A S : Type 0} (rack : racks.Ghosts R) (area : areas.Ghosts A) (last : S → ℕ → Option (Shard R A)) (went : S → ℕ → Shard R A → Shard R A → S → Type 0) (shared : Bool) (owns : ℕ → Bool) where
  module _ (does : Shard R A → Shard R A → Type 0) (a : S) (m : ℕ) (b : S) (h : HeldOnce rack area last went shared owns does a m b) where
    -- a hold that leaves groups and arms
    module _ (part : (x y : Shard R A) → does x y → part_of y ≡ part_of x) (groups : (x y : Shard R A) → does x y → KeepsGroups x y) where
      pub once_stays : AllStay owns (last a) (last b)
      once_stays = stay_held owns rack area shared (last a) (last b) m h.shard h.before h.after h.there h.drifts (part h.before h.after h.did) (groups h.before h.after h.did) h.is

      -- and blocks
      pub once_whole : ((x y : Shard R A) → Valid rack x → does x y → Valid rack y) → ((x y : Shard R A) → does x y → KeepsBlocks x y) → KeepsWhole rack owns (all_of owns) (last a) (last b)
      once_whole valid blocks table seq floor whole =
          quiet_whole rack area shared owns (last a) (last b) m h.shard h.before h.after h.there h.drifts (valid h.before h.after h.drifts.valid h.did) (part h.before h.after h.did) (groups h.before h.after h.did) (blocks h.before h.after h.did) h.is table seq floor whole

    -- one that looks
    module _ (same : (x y : Shard R A) → does x y → y ≡ x) where
      still_valid : (x y : Shard R A) → Valid rack x → does x y → Valid rack y
      still_valid x y valid did = subst (Valid rack) (sym (same x y did)) valid

      still_part : (x y : Shard R A) → does x y → part_of y ≡ part_of x
      still_part x y did = ap (λ (s : Shard R A). part_of s) (same x y did)

      still_groups : (x y : Shard R A) → does x y → KeepsGroups x y
      still_groups x y did = same_groups x y (same x y did)

      pub look_stays : AllStay owns (last a) (last b)
      look_stays = once_stays still_part still_groups

      pub look_whole : KeepsWhole rack owns (all_of owns) (last a) (last b)
      look_whole = once_whole still_part still_groups still_valid (λ x y did. same_blocks x y (same x y did))

      pub look_each : (count : ℕ) → EachIs count (Valid rack) (last a) → EachIs count (Valid rack) (last b)
      look_each count each = each_stays (Valid rack) (last a) (last b) m h.after h.is (still_valid h.before h.after h.drifts.valid h.did) count each

  -- what is marked behind the metaslabs that were looked at doesn't count
  pub sees_set : (marks : List Bool) (m n : ℕ) (a b : S) → n ≤ m → SeesEach rack area last went shared owns marks n a b → SeesEach rack area last went shared owns (slice_set marks m true) n a b
  sees_set marks m zero a b low each = each
  sees_set marks m (suc n) a b low (mid, each, once) = (
    mid,
    sees_set marks m n a mid (omega (arith, low)) each,
    subst (λ mark. HeldOnce rack area last went shared owns (SeesRebuilt rack area mark) mid n b) (sym (mark_elsewhere marks m n (λ same. omega (arith, low, same)))) once,
  )

  -- what the marks say once the first so many were looked at
  pub record MarksAt (first : S) (marks : List Bool) (some : Bool) (m : ℕ) (now : S) : Type 0 where
    pub long : length marks ≡ 64
    pub above : (k : ℕ) → m ≤ k → slice_index_or marks k false ≡ false
    pub sees : SeesEach rack area last went shared owns marks m first now
    pub none : some ≡ false → HeldEach rack area last went shared owns (λ none x y. SeesRebuilt rack area false x y) m first 0 now
    pub one : some ≡ true → (k : ℕ) × (k < m) × (slice_index_or marks k false ≡ true)

  sees_more : (marks : List Bool) (m : ℕ) (first mid now : S) → SeesEach rack area last went shared owns marks m first mid → HeldOnce rack area last went shared owns (SeesRebuilt rack area (slice_index_or marks m false)) mid m now
      → SeesEach rack area last went shared owns marks (m + 1) first now
  sees_more marks m first mid now each once = subst (λ n. SeesEach rack area last went shared owns marks n first now) (let same : suc m ≡ m + 1 = omega arith in same) (mid, each, once)

  pub sees_all : (marks : List Bool) (n count : ℕ) (a b : S) → n ≤ count → count ≤ n → SeesEach rack area last went shared owns marks n a b → SeesEach rack area last went shared owns marks count a b
  sees_all marks n count a b low high each = subst (λ k. SeesEach rack area last went shared owns marks k a b) (let same : n ≡ count = omega (arith, low, high) in same) each

  pub marks_none : (first : S) → MarksAt first (replicate 64 false) false 0 first
  marks_none first = record {
    long = refl;
    above = λ k low. unmarked 64 k;
    sees = refl;
    none = λ is. (refl, refl);
    one = λ is. absurd (true≢false (sym is));
  }

  -- the next one is marked, or isn't
  pub marks_then : (first : S) (marks : List Bool) (some : Bool) (m : ℕ) (mid now : S) → m < 64 → MarksAt first marks some m mid → HeldOnce rack area last went shared owns (SeesRebuilt rack area true) mid m now
      → MarksAt first (slice_set marks m true) true (m + 1) now
  marks_then first marks some m mid now inside i once =
      let here = mark_here marks m (let long = i.long in omega (arith, long, inside)) in
      record {
        long = length-set marks m true ∙ i.long;
        above = λ k low. mark_elsewhere marks m k (λ same. omega (arith, low, same)) ∙ i.above k (omega (arith, low));
        sees = sees_more (slice_set marks m true) m first mid now (sees_set marks m m first mid (omega arith) i.sees) (subst (λ mark. HeldOnce rack area last went shared owns (SeesRebuilt rack area mark) mid m now) (sym here) once);
        none = λ is. absurd (true≢false is);
        one = λ is. (m, omega arith, here);
      }

  pub marks_else : (first : S) (marks : List Bool) (some : Bool) (m : ℕ) (mid now : S) → MarksAt first marks some m mid → HeldOnce rack area last went shared owns (SeesRebuilt rack area false) mid m now → MarksAt first marks some (m + 1) now
  marks_else first marks some m mid now i once = record {
    long = i.long;
    above = λ k low. i.above k (omega (arith, low));
    sees = sees_more marks m first mid now i.sees (subst (λ mark. HeldOnce rack area last went shared owns (SeesRebuilt rack area mark) mid m now) (sym (i.above m (omega arith))) once);
    none = λ is. round_more rack area last went shared owns (λ none x y. SeesRebuilt rack area false x y) m 0 0 first mid now (i.none is) once;
    one = λ is. (let z = i.one is in let less = z.1 in (z.0, omega (arith, less), z.2));
  }
