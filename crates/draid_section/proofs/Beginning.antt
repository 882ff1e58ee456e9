-- Lanes of a whole pool begin whole.
use Rattle.std.proofs.Common.{◌≡◌, ◌<◌, ◌≤◌, ◌+◌, ◌∙◌, ◌⊎◌, inl, inr, arith, ℕ, suc, Bool, true, false, cond, List, [], ◌∷◌, Option, Some, None, length, refl, sym, ap, subst}
use Rattle.std.specs.Prelude.{slice_get, vec_capacity}
use Rattle.std.specs.declared.vec.Vec.{Vec}
use Rattle.std.specs.declared.alloc.Global.{Global}
use Rattle.std.proofs.lemmas.Bool.{true≢false}
use Rattle.std.proofs.lemmas.List.Sums.{sum_by-cons}
use Rattle.std.proofs.lemmas.Option.{slice_get_within}
use Rattle.draid_names.specs.declared.pointer.Pointer.{Pointer}
use Rattle.draid_rack.specs.declared.Rack as racks
use Rattle.draid_area.specs.declared.Area as areas
use Rattle.draid_spec.specs.declared.layout.Geometry.{Geometry}
use Rattle.draid_machine.proofs.Small.{bool_cases, none_some}
use Rattle.draid_shard.specs.Alike.{ShareArms}
use Rattle.draid_shard.specs.Fits.{IsLeaf}
use Rattle.draid_shard.specs.Part.{Part}
use Rattle.draid_shard.specs.declared.shard.Shard.{Shard}
use Rattle.draid_turn.specs.Calls.{Caller, Lock, newcomer}
use Rattle.draid_turn.specs.Lists.{one_if}
use Rattle.draid_turn.specs.Numbers.{holds, number_limit}
use Rattle.draid_turn.specs.declared.past.Past.{Past}
use Rattle.draid_turn.specs.declared.span.Span.{Span}
use Rattle.draid_turn.proofs.Spans.{true_if_one}
use Rattle.draid_holds.specs.Passes.{shares}
use Rattle.draid_uber.specs.Slots.{group_of}
use Rattle.draid_uber.specs.Uber as ubers
use Rattle.draid_pool.specs.Drifts.{groups_number}
use Rattle.draid_pool.specs.Grouping.{ClosesNext}
use Rattle.draid_pool.specs.Looking.{HasMany}
use Rattle.draid_pool.specs.Threads.{HaveLayout, IsWholeBy}
use Rattle.draid_pool.specs.Whole.{IsShardOf, IsWhole}
use Rattle.draid_pool.specs.declared.cell.Cell.{Cell}
use Rattle.draid_pool.specs.declared.pool.Pool.{Pool}
use Rattle.draid_pool.proofs.Lists.{ext, present, some_of}
use Rattle.draid_pool.proofs.OwnedKnows.{all, whole_by}
use Rattle.draid_lanes.specs.Locks.{AreOf, last_in, last_of, left_in, owned_by}
use Rattle.draid_lanes.specs.Meeting.{groups_alone}
use Rattle.draid_section.specs.Opening.{AreLocked, IsDealt}
use Rattle.draid_lanes.specs.Ubers.{IsUberOf}
use Rattle.draid_section.specs.Whole.{AreLaneNumbers, LaneBegins, pointer_in}
use Rattle.draid_lanes.proofs.SyncUnder.{owned_all, owned_none}

-- ---- numbers that are dealt

-- one of the lists that have a number
abbrev pub HasList : ℕ → List (Vec Span Global) → Type 0
HasList n lists = (i : ℕ) × (list : Vec Span Global) × (slice_get lists i ≡ Some list) × (holds n list.items ≡ true)

none_more : (all one rest : ℕ) → all ≡ one + rest → one ≡ 0 → rest ≡ 0 → all ≡ 0
none_more all one rest is first none = omega (arith, is, first, none)

pub shared_by : (n : ℕ) (lists : List (Vec Span Global)) → (shares n lists ≡ 0) ⊎ HasList n lists
shared_by n [] = inl refl
shared_by n (list ∷ lists) = elim (bool_cases (holds n list.items)) [
  | inl held ↦ inr (0, list, refl, held)
  | inr not ↦ elim (shared_by n lists) [
    | inl none ↦ inl (none_more (shares n (list ∷ lists)) (cond (holds n list.items) 1 0) (shares n lists) (sum_by-cons (λ (l : Vec Span Global). cond (holds n l.items) 1 0) list lists) (ap (λ b. cond b 1 0) not) none)
    | inr z ↦ inr (suc z.0, z.1, z.2, z.3)
  ]
]

-- who got none of a list's numbers has what no list has
pub held_dealt : {R A : Type 0} (lists : List (Vec Span Global)) (firsts : List (Caller (Past (Cell R A)))) → ((m : ℕ) (first : Caller (Past (Cell R A))) → slice_get firsts m ≡ Some first → (n : ℕ) → n < number_limit → one_if (holds n first.numbers) + shares n lists ≡ 1) → (n : ℕ)
    → n < number_limit → (owned_by firsts n ≡ true) ⊎ HasList n lists
held_dealt lists firsts left n below = elim (shared_by n lists) [
  | inl none ↦ inl (owned_all firsts n (λ m first at. true_if_one (holds n first.numbers) (let one = left m first at n below in omega (arith, one, none))))
  | inr some ↦ inr some
]

-- ---- objects that are dealt

-- what is whole by all objects is so by some, with some of the pointers
pub whole_some : {R A : Type 0} (rack : racks.Ghosts R) (owns : ℕ → Bool) (last : ℕ → Option (Shard R A)) (table some : ℕ → Option Pointer) (seq floor : ℕ) → IsWholeBy rack all last table seq floor
    → ((object : ℕ) (pointer : Pointer) → some object ≡ Some pointer → (table object ≡ Some pointer) × (owns object ≡ true)) → IsWholeBy rack owns last some seq floor
whole_some rack owns last table some seq floor w inside = record {
  shards = λ m shard at. (let is = w.shards m shard at in record { valid = is.valid; numbered = λ key h own. is.numbered key h refl; settled = λ key h own. is.settled key h refl });
  placed = w.placed;
  together = λ m n shard other own at there. w.together m n shard other refl at there;
  next = λ m shard own at. w.next m shard refl at;
  pointers = λ object pointer at. (let z = inside object pointer at in
      let has = w.pointers object pointer z.0 in
      record { object_is = has.object_is; own = z.1; shard = has.shard; there = has.there; valid = has.valid; live = has.live });
  low = w.low;
  reached = w.reached;
}

-- ---- metaslabs as they were put under their locks

module _ {R A : Type 0} (shards : List (Shard R A)) (locks : List (Lock (Cell R A))) (firsts : List (Caller (Past (Cell R A)))) (locked : AreLocked shards locks firsts) where
  pub first_of : (m : ℕ) (lock : Lock (Cell R A)) → slice_get locks m ≡ Some lock → slice_get shards m ≡ Some lock.first.shard
  first_of m lock lock_is =
      let shard = present shards m (let inside = slice_get_within locks m lock lock_is in let many = locked.many in omega (arith, inside, many)) in
      let z = locked.each m shard.0 shard.1 in
      let same : z.0 ≡ lock = some_of (slice_get locks m) z.0 lock z.1 lock_is in
      shard.1 ∙ ap (λ (s : Shard R A). Some s) (sym z.2 ∙ ap (λ (l : Lock (Cell R A)). l.first.shard) same)

  module _ (numbers : List Span) (passes : List (Caller (Past (Cell R A)))) (new : IsDealt locks numbers passes) where
    pub pass_new : (m : ℕ) (lock : Lock (Cell R A)) (pass : Caller (Past (Cell R A))) → slice_get locks m ≡ Some lock → slice_get passes m ≡ Some pass → pass ≡ newcomer lock.table [] numbers
    pass_new m lock pass lock_is pass_is = some_of (slice_get passes m) pass (newcomer lock.table [] numbers) pass_is (new.each m lock lock_is)

    pub left_new : (m : ℕ) (lock : Lock (Cell R A)) (pass : Caller (Past (Cell R A))) → slice_get locks m ≡ Some lock → slice_get passes m ≡ Some pass → left_in lock pass.seen ≡ lock.first.shard
    left_new m lock pass lock_is pass_is = ap (λ (p : Caller (Past (Cell R A))). left_in lock p.seen) (pass_new m lock pass lock_is pass_is)

    lasts_are : (m : ℕ) → last_in locks passes m ≡ slice_get shards m
    lasts_are m = by (slice_get locks m) refl (slice_get shards m) refl
      where
        by : (l : Option (Lock (Cell R A))) → slice_get locks m ≡ l → (s : Option (Shard R A)) → slice_get shards m ≡ s → last_in locks passes m ≡ slice_get shards m
        by (Some lock) lock_is s s_is = (λ i. last_of (lock_is i) (new.each m lock lock_is i)) ∙ sym (first_of m lock lock_is)
        by None none None s_is = ap (λ l. last_of l (slice_get passes m)) none ∙ sym s_is
        by None none (Some shard) s_is = absurd (let z = locked.each m shard s_is in none_some (slice_get locks m) z.0 none z.1)

    pub lasts : last_in locks passes ≡ (λ m. slice_get shards m)
    lasts = ext (last_in locks passes) (λ m. slice_get shards m) lasts_are

    -- the lock of a pass
    pub lock_of : (m : ℕ) (pass : Caller (Past (Cell R A))) → slice_get passes m ≡ Some pass → (lock : Lock (Cell R A)) × (slice_get locks m ≡ Some lock)
    lock_of m pass pass_is = present locks m (let inside = slice_get_within passes m pass pass_is in let many = new.many in omega (arith, inside, many))

    -- the numbers of a pass
    numbers_of : (n m : ℕ) (pass : Caller (Past (Cell R A))) → slice_get passes m ≡ Some pass → holds n pass.numbers ≡ holds n numbers
    numbers_of n m pass pass_is = (let l = lock_of m pass pass_is in ap (λ (p : Caller (Past (Cell R A))). holds n p.numbers) (pass_new m l.0 pass l.1 pass_is))

    pub owned_new : (n : ℕ) → holds n numbers ≡ true → owned_by passes n ≡ true
    owned_new n held = owned_all passes n (λ m pass pass_is. numbers_of n m pass pass_is ∙ held)

    pub not_owned : (n : ℕ) → 0 < length locks → holds n numbers ≡ false → owned_by passes n ≡ false
    not_owned n some held = owned_none passes n (let many = new.many in omega (arith, some, many)) (λ m pass pass_is. numbers_of n m pass pass_is ∙ held)

-- ---- a whole pool's

module _ {R A : Type 0} (rack : racks.Ghosts R) (area : areas.Ghosts A) (pool : Pool R A) (w : IsWhole rack area pool) (locks : List (Lock (Cell R A))) (firsts : List (Caller (Past (Cell R A))))
    (locked : AreLocked pool.metaslabs.shards.items locks firsts) where
  pub first_is : (m : ℕ) (lock : Lock (Cell R A)) → slice_get locks m ≡ Some lock → IsShardOf rack w.perms pool m lock.first.shard
  first_is m lock lock_is = w.shards m lock.first.shard (first_of pool.metaslabs.shards.items locks firsts locked m lock lock_is)

  pub first_geometry : (m : ℕ) (lock : Lock (Cell R A)) → slice_get locks m ≡ Some lock → lock.first.shard.geometry ≡ pool.geometry
  first_geometry m lock lock_is = ap (λ (p : Part). p.geometry) (first_is m lock lock_is).part

  pub some_locks : 0 < length locks
  some_locks = (let many = locked.many in let are = w.many in let some = w.layout.geometry_is.props.some_metaslabs in omega (arith, many, are, some))

  few_locks : length locks ≤ 64
  few_locks = (let many = locked.many in let are = w.many in let few = w.layout.geometry_is.props.most_metaslabs in omega (arith, many, are, few))

  module _ (numbers : List Span) (passes : List (Caller (Past (Cell R A)))) (new : IsDealt locks numbers passes) where
    fits : AreOf rack locks passes
    fits = record {
      many = new.many;
      each = λ m lock pass lock_is pass_is. ap (λ (p : Caller (Past (Cell R A))). p.table) (pass_new pool.metaslabs.shards.items locks firsts locked numbers passes new m lock pass lock_is pass_is);
      valid = λ m lock lock_is. (first_is m lock lock_is).valid;
    }

    -- a lane
    pub lane_begins : AreLaneNumbers numbers → LaneBegins rack pool locks numbers passes
    lane_begins are = record {
      lane = record {
        some = some_locks;
        few = few_locks;
        fits = fits;
        number = are.some.number;
        other = λ same. true≢false (sym are.some.held ∙ (ap (λ n. holds n numbers) same ∙ are.no_groups));
        own = owned_new pool.metaslabs.shards.items locks firsts locked numbers passes new are.some.number are.some.held;
        no_groups = not_owned pool.metaslabs.shards.items locks firsts locked numbers passes new groups_number some_locks are.no_groups;
      };
      whole = λ table some. subst (λ (last : ℕ → Option (Shard R A)). IsWholeBy rack (owned_by passes) last table pool.own.seq pool.own.floor) (sym lasts_are)
          (whole_some rack (owned_by passes) (λ m. slice_get pool.metaslabs.shards.items m) (pointer_in pool) table pool.own.seq pool.own.floor (whole_by rack area pool w)
          (λ object pointer at. (let z = some object pointer at in (z.0, owned_new pool.metaslabs.shards.items locks firsts locked numbers passes new object z.1))));
      layout = subst (λ (last : ℕ → Option (Shard R A)). HaveLayout pool.geometry last) (sym lasts_are) (λ m shard at. ap (λ (p : Part). p.geometry) (w.shards m shard at).part);
      many = subst (λ (last : ℕ → Option (Shard R A)). HasMany rack (length locks) last) (sym lasts_are)
          (λ m below. (let shard = present pool.metaslabs.shards.items m (let many = locked.many in omega (arith, below, many)) in (shard.0, shard.1, (w.shards m shard.0 shard.1).valid)));
    }
      where
        lasts_are : last_in locks passes ≡ (λ m. slice_get pool.metaslabs.shards.items m)
        lasts_are = lasts pool.metaslabs.shards.items locks firsts locked numbers passes new

  -- the uberblock, with the passes of the groups
  module _ (groups : Vec (Caller (Past (Cell R A))) Global) (new : IsDealt locks groups_alone groups.items) where
    left : (m : ℕ) (lock : Lock (Cell R A)) (pass : Caller (Past (Cell R A))) → slice_get locks m ≡ Some lock → slice_get groups.items m ≡ Some pass → left_in lock pass.seen ≡ lock.first.shard
    left = left_new pool.metaslabs.shards.items locks firsts locked groups_alone groups.items new

    pub uber_begins : length locks ≤ vec_capacity groups → IsUberOf rack area locks pool.uber groups
    uber_begins room = record {
      valid = w.uber;
      room = room;
      fits = fits groups_alone groups.items new;
      alone = λ m pass pass_is.
          (let l = lock_of pool.metaslabs.shards.items locks firsts locked groups_alone groups.items new m pass pass_is in
          let is = pass_new pool.metaslabs.shards.items locks firsts locked groups_alone groups.items new m l.0 pass l.1 pass_is in
          (ap (λ (p : Caller (Past (Cell R A))). p.numbers) is, ap (λ (p : Caller (Past (Cell R A))). p.own) is));
      next = λ m lock pass lock_is pass_is. subst (λ (s : Shard R A). ClosesNext rack (group_of (ubers.kept_of pool.uber) + 1) s) (sym (left m lock pass lock_is pass_is))
          (let is = first_is m lock lock_is in record { valid = is.valid; next = ap (λ c. c + 1) (sym is.committed) });
      leaves = λ m lock pass lock_is pass_is leaf is. (first_is m lock lock_is).leaves leaf (subst (λ (s : Shard R A). IsLeaf s.slots leaf) (left m lock pass lock_is pass_is) is);
      alike = λ m n lock other pass more lock_is pass_is other_is more_is.
          subst (λ (s : Shard R A). ShareArms s.slots (left_in other more.seen).slots) (sym (left m lock pass lock_is pass_is))
          (subst (λ (s : Shard R A). ShareArms lock.first.shard.slots s.slots) (sym (left n other more other_is more_is))
          (w.alike m n lock.first.shard other.first.shard (first_of pool.metaslabs.shards.items locks firsts locked m lock lock_is) (first_of pool.metaslabs.shards.items locks firsts locked n other other_is)));
      layout = λ m lock lock_is. subst (λ (g : Geometry). ubers.layout_in (ubers.layout_of pool.uber) g.props.version ≡ g) (sym (first_geometry m lock lock_is)) w.uber_layout;
    }
