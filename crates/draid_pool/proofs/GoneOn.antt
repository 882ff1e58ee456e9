-- A sync that is under way, as its loop goes on.
use Rattle.std.proofs.Common.{◌≡◌, ◌==◌, ◌≤◌, ◌<◌, ◌+◌, ◌*◌, ◌∙◌, ℕ, zero, suc, Bool, false, Option, Some, None, Ok, arith, refl, sym, ap, subst, if◌then◌else◌, ne_eqb}
use Rattle.std.specs.Prelude.{Result}
use Rattle.draid_names.specs.declared.numbers.TheConstants.{NUMBERS}
use Rattle.draid_rack.specs.declared.Rack as racks
use Rattle.draid_area.specs.declared.Area as areas
use Rattle.draid_shard.specs.declared.shard.Shard.{Shard}
use Rattle.draid_uber.specs.Slots.{group_of}
use Rattle.draid_uber.specs.Uber.{kept_of}
use Rattle.draid_uber.specs.declared.uber.Uber.{Uber}
use Rattle.draid_pool.specs.GoingOn.{GoesOnIn, IsFirst, SealsFrom, SealsUntil, StandsIn}
use Rattle.draid_pool.specs.Grouping.{ClosesNext, CommitsNext, SealsBy, SealsNext}
use Rattle.draid_pool.specs.Rounds.{EachIs, HeldEach, HeldFrom, HeldOnce, StoppedBy}
use Rattle.draid_pool.specs.declared.fault.SyncFault.{SyncFault}
use Rattle.draid_pool.specs.declared.fault.Synced.{Synced}
use Rattle.draid_pool.specs.declared.fault.Syncing.{Syncing}
use Rattle.draid_pool.proofs.GroupKeeps.{closing_behind, sealed_again, sealed_commits}
use Rattle.draid_pool.proofs.RoundSteps.{each_more, each_stays}

module _ {R A S : Type 0} (rack : racks.Ghosts R) (area : areas.Ghosts A) (last : S → ℕ → Option (Shard R A)) (went : S → ℕ → Shard R A → Shard R A → S → Type 0) (shared : Bool) (owns : ℕ → Bool) where
  -- nothing was done yet
  pub seals_none : (a : S) (old : Syncing) → SealsFrom rack area last went shared owns a old a old
  seals_none a old = record { held = 0; sum = 0; group = refl; next = omega arith; thin = omega arith; each = (refl, refl) }

  from_more : (does : ℕ → Shard R A → Shard R A → Type 0) (first held place sum more : ℕ) (a mid b : S) → place ≡ first + held → HeldFrom rack area last went shared owns does first held a sum mid
      → HeldOnce rack area last went shared owns (does more) mid place b → HeldFrom rack area last went shared owns does first (held + 1) a (sum + more) b
  from_more does first held place sum more a mid b is each once =
      subst (λ n. HeldFrom rack area last went shared owns does first n a (sum + more) b) (let same : suc held ≡ held + 1 = omega arith in same)
      (mid, sum, more, each, subst (λ m. HeldOnce rack area last went shared owns (does more) mid m b) is once, refl)

  -- one more
  pub seals_more : (a mid b : S) (old now new : Syncing) (more : ℕ) → SealsFrom rack area last went shared owns a old mid now → new.group ≡ now.group → new.next ≡ now.next + 1 → new.thin ≡ now.thin + more
      → HeldOnce rack area last went shared owns (λ x y. SealsBy rack area old.group x (Ok more) y) mid now.next b → SealsFrom rack area last went shared owns a old b new
  seals_more a mid b old now new more s group next thin once =
      let n = s.next in
      let t = s.thin in
      record {
        held = s.held + 1;
        sum = s.sum + more;
        group = group ∙ s.group;
        next = omega (arith, n, next);
        thin = omega (arith, t, thin);
        each = from_more (λ thin x y. SealsBy rack area old.group x (Ok thin) y) old.next s.held now.next s.sum more a mid b s.next s.each once;
      }

  -- from the first one on
  from_start : (does : ℕ → Shard R A → Shard R A → Type 0) (held sum : ℕ) (a b : S) → HeldFrom rack area last went shared owns does 0 held a sum b → HeldEach rack area last went shared owns does held a sum b
  from_start does zero sum a b each = each
  from_start does (suc n) sum a b (mid, some, more, each, once, adds) =
      (mid, some, more, from_start does n some a mid each, subst (λ m. HeldOnce rack area last went shared owns (does more) mid m b) (let same : 0 + n ≡ n = omega arith in same) once, adds)

  -- what was held in each of the first so many, and what in so many from there on
  pub each_further : (does : ℕ → Shard R A → Shard R A → Type 0) (first held sum more : ℕ) (a mid b : S) → HeldEach rack area last went shared owns does first a sum mid → HeldFrom rack area last went shared owns does first held mid more b
      → HeldEach rack area last went shared owns does (first + held) a (sum + more) b
  each_further does first zero sum more a mid b each (same, none) =
      subst (λ n. HeldEach rack area last went shared owns does n a (sum + more) b) (let is : first ≡ first + 0 = omega arith in is)
      (subst (λ k. HeldEach rack area last went shared owns does first a k b) (let is : sum ≡ sum + more = omega (arith, none) in is) (subst (λ s. HeldEach rack area last went shared owns does first a sum s) (sym same) each))
  each_further does first (suc n) sum more a mid b each (late, some, last_one, from, once, adds) =
      subst (λ k. HeldEach rack area last went shared owns does k a (sum + more) b) (let is : suc (first + n) ≡ first + suc n = omega arith in is)
      (late, sum + some, last_one, each_further does first n sum some a mid late each from, once, (let is : sum + more ≡ sum + some + last_one = omega (arith, adds) in is))

  module _ (group count : ℕ) (a b : S) (old new : Syncing) (first : old.next ≡ 0) (none : old.thin ≡ 0) (group_is : old.group ≡ group) where
    begun_each : (mid : S) → SealsFrom rack area last went shared owns a old mid new → HeldEach rack area last went shared owns (λ thin x y. SealsBy rack area group x (Ok thin) y) new.next a new.thin mid
    begun_each mid s =
        let n = s.next in
        let t = s.thin in
        subst (λ k. HeldEach rack area last went shared owns (λ thin x y. SealsBy rack area group x (Ok thin) y) k a new.thin mid) (let is : s.held ≡ new.next = omega (arith, n, first) in is)
        (subst (λ k. HeldEach rack area last went shared owns (λ thin x y. SealsBy rack area group x (Ok thin) y) s.held a k mid) (let is : s.sum ≡ new.thin = omega (arith, t, none) in is)
        (from_start (λ thin x y. SealsBy rack area group x (Ok thin) y) s.held s.sum a mid
        (subst (λ f. HeldFrom rack area last went shared owns (λ thin x y. SealsBy rack area group x (Ok thin) y) f s.held a s.sum mid) first
        (subst (λ g. HeldFrom rack area last went shared owns (λ thin x y. SealsBy rack area g x (Ok thin) y) old.next s.held a s.sum mid) group_is s.each))))

    -- where it began with no metaslab sealed, it was sealed in each
    pub begun_all : SealsFrom rack area last went shared owns a old b new → new.next ≡ count → HeldEach rack area last went shared owns (λ thin x y. SealsBy rack area group x (Ok thin) y) count a new.thin b
    begun_all s all = subst (λ k. HeldEach rack area last went shared owns (λ thin x y. SealsBy rack area group x (Ok thin) y) k a new.thin b) all (begun_each b s)

    -- or one stopped it
    pub begun_until : (stops : Shard R A → Shard R A → Type 0) → SealsUntil rack area last went shared owns stops count a old b new
        → StoppedBy rack area last went shared owns (λ thin x y. SealsBy rack area group x (Ok thin) y) stops count a b
    begun_until stops s = record { place = new.next; below = s.below; sum = new.thin; mid = s.mid; front = begun_each s.mid s.front; stop = s.stop }

module _ {R A : Type 0} (rack : racks.Ghosts R) (area : areas.Ghosts A) where
  -- where it stands behind one more
  pub stands_more : (count : ℕ) (now new : Syncing) (last after_last : ℕ → Option (Shard R A)) (before after : Shard R A) (more : ℕ) → StandsIn rack count now last → now.next < count → new.group ≡ now.group → new.next ≡ now.next + 1 → new.thin ≡ now.thin + more
      → ((k : ℕ) → after_last k ≡ (if k == now.next then Some after else last k)) → SealsBy rack area now.group before (Ok more) after → StandsIn rack count new after_last
  stands_more count now new last after_last before after more s below group next thin sets did =
      let low = s.thin in
      let own = did.low in
      record {
        low = omega (arith, next, below);
        thin = subst (λ n. new.thin ≤ n * NUMBERS) (sym next) (omega (arith, low, own, thin));
        closing = subst (λ g. EachIs count (SealsNext rack g) after_last) (sym group) (each_stays (SealsNext rack now.group) last after_last now.next after sets (sealed_again rack area now.group more before after did) count s.closing);
        sealed = subst (λ n. EachIs n (CommitsNext rack new.group) after_last) (sym next)
            (subst (λ g. EachIs (now.next + 1) (CommitsNext rack g) after_last) (sym group) (each_more (CommitsNext rack now.group) last after_last now.next after sets (sealed_commits rack area now.group more before after did) s.sealed));
      }

  -- and where its hold changed nothing
  pub stands_still : (count : ℕ) (now : Syncing) (last after_last : ℕ → Option (Shard R A)) (place : ℕ) (after : Shard R A) → StandsIn rack count now last → place ≡ now.next
      → ((k : ℕ) → after_last k ≡ (if k == place then Some after else last k)) → SealsNext rack now.group after → StandsIn rack count now after_last
  stands_still count now last after_last place after s is sets ready = record {
    low = s.low;
    thin = s.thin;
    closing = each_stays (SealsNext rack now.group) last after_last place after sets ready count s.closing;
    sealed = λ m less. (let z = s.sealed m less in (z.0, sets m ∙ (ap (λ b. if b then Some after else last m) (other m less) ∙ z.1), z.2));
  }
    where
      other : (m : ℕ) → m < now.next → (m == place) ≡ false
      other m less = ne_eqb m place (λ same. omega (arith, same, is, less))

  -- where it begins
  pub stands_first : (count group : ℕ) (begun : Syncing) (last : ℕ → Option (Shard R A)) → IsFirst group begun → EachIs count (SealsNext rack group) last → StandsIn rack count begun last
  stands_first count group begun last first each =
      let n = first.next in
      let t = first.thin in
      record {
        low = omega (arith, n);
        thin = omega (arith, t);
        closing = subst (λ g. EachIs count (SealsNext rack g) last) (sym first.group_is) each;
        sealed = λ m less. absurd (omega (arith, less, n));
      }

  -- the group is the next one everywhere
  pub stands_next : (count : ℕ) (now : Syncing) (last : ℕ → Option (Shard R A)) → StandsIn rack count now last → EachIs count (ClosesNext rack now.group) last
  stands_next count now last s m less = (let z = s.closing m less in (z.0, z.1, record { valid = z.2.valid; next = closing_behind rack area z.0 now.group z.2.valid z.2.closing }))

module _ {R A S : Type 0} (rack : racks.Ghosts R) (area : areas.Ghosts A) (last : S → ℕ → Option (Shard R A)) (went : S → ℕ → Shard R A → Shard R A → S → Type 0) (shared : Bool) (owns : ℕ → Bool) (count : ℕ) where
  -- where it waits, its group is still the next one of the uberblock
  pub goes_waits : (a b : S) (old new : Syncing) (u v : Uber A) (out : Option (Result Synced SyncFault)) → out ≡ None → GoesOnIn rack area last went shared owns count a old u out b new v → old.group ≡ group_of (kept_of u) + 1 → new.group ≡ group_of (kept_of v) + 1
  goes_waits a b old new u v (Some it) none goes is = absurd (cc none)
  goes_waits a b old new u v None none (seals, same) is = seals.front.group ∙ (is ∙ ap (λ (w : Uber A). group_of (kept_of w) + 1) (sym same))
