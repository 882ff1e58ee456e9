-- All metaslabs of a pool are changed, one after another, each in one hold.
use Rattle.std.proofs.Common.{◌≡◌, ◌<◌, ◌≤◌, ◌+◌, ◌++◌, ◌⊎◌, ◌∙◌, [], ◌∷◌, inl, inr, ℕ, zero, suc, List, Option, Some, arith, refl, sym, ap, subst, slice_index_or, slice_set, length}
use Rattle.std.specs.Prelude.{slice_get}
use Rattle.std.proofs.lemmas.Bool.{cases_eq}
use Rattle.std.proofs.lemmas.List.{length-set}
use Rattle.std.proofs.lemmas.Option.{slice_get_within}
use Rattle.draid_names.specs.declared.pointer.Pointer.{Pointer}
use Rattle.draid_rack.specs.declared.Rack as racks
use Rattle.draid_area.specs.declared.Area as areas
use Rattle.draid_machine.specs.Images.{IsImage}
use Rattle.draid_machine.specs.State as machine
use Rattle.draid_segments.specs.Segments.{Pieces}
use Rattle.draid_shard.specs.declared.shard.Shard.{Shard}
use Rattle.draid_session.specs.Follows.{Follows}
use Rattle.draid_session.specs.Holds.{Hold, On, view_of}
use Rattle.draid_session.specs.Phases.{Each}
use Rattle.draid_session.specs.State.{Metaslab, State}
use Rattle.draid_pool.specs.Importable.{IsAlike, Shared}
use Rattle.draid_pool.specs.Metaslabs.{IsMetaslab}
use Rattle.draid_pool.specs.Pools.{part_in}
use Rattle.draid_pool.specs.Records.{LeavesAreBelow}
use Rattle.draid_pool.specs.Syncing.{Turns}
use Rattle.draid_pool.proofs.Commits.{same_list}
use Rattle.draid_pool.proofs.Lists.{get_set_other, get_set_same, present, some_of}
use Rattle.draid_pool.proofs.Moved.{with_metaslab}
use Rattle.draid_pool.proofs.Steps.{follows_on}
use Rattle.draid_pool.proofs.Stood.{IsOneOf, Moves, Stood, stood_moved}
use Rattle.draid_pool.proofs.SyncSteps.{borrowed_at}
use Rattle.draid_pool.proofs.Walks.{Walked, walk_each, walked_more}
use Rattle.draid_changes.specs.Walks.{ChangedBelow}

-- ---- lists

-- the next one is changed
pub changed_more : {S : Type 0} (Changes : S → S → Type 0) (m : ℕ) (old now : List S) (x y : S) → ChangedBelow Changes m old now → slice_get now m ≡ Some x → Changes x y
    → ChangedBelow Changes (m + 1) old (slice_set now m y)
changed_more Changes m old now x y b there changes = record {
  many = length-set now m y ∙ b.many;
  below = λ k z less at. elim (cases_eq k m) [
    | inl same ↦
        let was = some_of (slice_get old m) z x (subst (λ j. slice_get old j ≡ Some z) same at) (sym (b.others m (omega arith)) ∙ there) in
        (y, ap (slice_get (slice_set now m y)) same ∙ get_set_same now m x y there, subst (λ q. Changes q y) (sym was) changes)
    | inr other ↦
        let before = b.below k z (omega (arith, less, other)) at in
        (before.0, get_set_other now m k y (λ same. omega (arith, same, other)) ∙ before.1, before.2)
  ];
  others = λ k from. get_set_other now m k y (λ same. omega (arith, same, from)) ∙ b.others k (omega (arith, from));
}

pub changed_none : {S : Type 0} (Changes : S → S → Type 0) (old : List S) → ChangedBelow Changes 0 old old
changed_none Changes old = record { many = refl; below = λ k x less at. absurd (omega (arith, less)); others = λ k from. refl }

-- what was borrowed at the place that a walk has come to was there before
pub was_borrowed : {S : Type 0} (Changes : S → S → Type 0) (m : ℕ) (old now : List S) (x : S) → ChangedBelow Changes m old now → m < length old → x ≡ slice_index_or now m x → slice_get old m ≡ Some x
was_borrowed Changes m old now x b below is = (let many = b.many in sym (b.others m (omega arith)) ∙ borrowed_at now m x (omega (arith, below, many)) is)

-- and it is changed
pub walk_more : {S : Type 0} (Changes : S → S → Type 0) (m : ℕ) (old now : List S) (x y : S) → ChangedBelow Changes m old now → m < length old → x ≡ slice_index_or now m x → Changes x y
    → ChangedBelow Changes (m + 1) old (slice_set now m y)
walk_more Changes m old now x y b below is changes = (let many = b.many in changed_more Changes m old now x y b (borrowed_at now m x (omega (arith, below, many)) is) changes)

-- it has come to the end
pub walk_ends : {S : Type 0} (Changes : S → S → Type 0) (m : ℕ) (old now : List S) → ChangedBelow Changes m old now → m ≡ length old → ChangedBelow Changes (length old) old now
walk_ends Changes m old now b all = subst (λ n. ChangedBelow Changes n old now) all b

-- what stood at a place before
pub changed_at : {S : Type 0} (Changes : S → S → Type 0) (old new : List S) → ChangedBelow Changes (length old) old new → (k : ℕ) (y : S) → slice_get new k ≡ Some y
    → (x : S) × (slice_get old k ≡ Some x) × Changes x y
changed_at Changes old new c k y at =
    let inside = slice_get_within new k y at in
    let many = c.many in
    let was = present old k (omega (arith, inside, many)) in
    let after = c.below k was.0 (omega (arith, inside, many)) was.1 in
    (was.0, was.1, subst (Changes was.0) (some_of (slice_get new k) after.0 y after.1 at) after.2)

-- ---- metaslabs

-- A metaslab was changed, but for what it holds, its groups, its images and that leaves have low numbers. It has then what all come to have in common.
pub record IsChanged (x : State) (after : Shared) (y v : Metaslab) : Type 0 where
  pub held : v.world.core.held ≡ y.world.core.held
  pub committed : v.world.committed ≡ y.world.committed
  pub images : (image : machine.Image) → IsImage y.world image → IsImage v.world image
  pub leaves : LeavesAreBelow x.kept_leaf x.next_leaf y.world → LeavesAreBelow x.kept_leaf x.next_leaf v.world
  pub alike : IsAlike after v.world
  pub opens : y.world.open_group ≤ v.world.open_group

-- those below a number have by then what all come to have in common, and the others have what they had
abbrev pub ChangedUpto : State → Shared → Shared → ℕ → ℕ → Metaslab → Type 0
ChangedUpto x before after m k y = (y.world.committed ≡ x.committed) × (k < m → IsAlike after y.world) × (m ≤ k → IsAlike before y.world)

module _ {R A : Type 0} (rack : racks.Ghosts R) (area : areas.Ghosts A) (old new : List (Shard R A)) (table : ℕ → Option Pointer) (x : State) (before after : Shared) (P : ℕ → Hold → Type 0)
    (Changes : Shard R A → Shard R A → Type 0) (changes : ChangedBelow Changes (length old) old new)
    (turn : (m : ℕ) (pieces : Pieces) (shard z : Shard R A) (y : Metaslab) → slice_get old m ≡ Some shard → IsMetaslab rack area (part_in x m) pieces shard y → Changes shard z → IsAlike before y.world
    → Turns rack area (part_in x m) pieces y z (λ hold v. P m hold × IsChanged x after y v)) where
  -- So many metaslabs were changed, each in one hold.
  pub record CameTo (m : ℕ) : Type 0 where
    pub now : List (Shard R A)
    pub below : (k : ℕ) → k < m → slice_get now k ≡ slice_get new k
    pub others : (k : ℕ) → m ≤ k → slice_get now k ≡ slice_get old k
    pub metaslabs : List Metaslab
    pub holds : List Hold
    pub follows : Follows holds x (record x { metaslabs = metaslabs })
    pub walked : Walked (λ k hold n. P k hold × (n ≡ 0)) 0 m holds 0
    pub stood : Stood rack area now table (record x { metaslabs = metaslabs }) (ChangedUpto x before after m)

  came_none : Stood rack area old table x (ChangedUpto x before after 0) → CameTo 0
  came_none s = record { now = old; below = λ k less. absurd (omega (arith, less)); others = λ k from. refl; metaslabs = x.metaslabs; holds = []; follows = refl; walked = (refl, refl); stood = s }

  module _ (m : ℕ) (less : m < length old) (c : CameTo m) where
    mid : State
    mid = record x { metaslabs = c.metaslabs }

    shard : (z : Shard R A) × (slice_get old m ≡ Some z)
    shard = present old m less

    there : slice_get c.now m ≡ Some shard.0
    there = c.others m (omega arith) ∙ shard.1

    next : (z : Shard R A) × (slice_get new m ≡ Some z) × Changes shard.0 z
    next = changes.below m shard.0 less shard.1

    own : (y : Metaslab) × (slice_get c.metaslabs m ≡ Some y)
    own = (let long = c.stood.shards_are in let inside = slice_get_within c.now m shard.0 there in present c.metaslabs m (omega (arith, long, inside)))

    said : ChangedUpto x before after m m own.0
    said = c.stood.said m own.0 own.1

    turns : Turns rack area (part_in x m) (c.stood.pieces m) own.0 next.0 (λ hold v. P m hold × IsChanged x after own.0 v)
    turns = turn m (c.stood.pieces m) shard.0 next.0 own.0 shard.1 (c.stood.each m shard.0 own.0 there own.1) next.2 (said.2 (omega arith))

    moves : Moves rack area m c.now shard.0 next.0 mid own.0 turns.reached (c.stood.pieces m)
    unfolding mid
    moves = record {
      there = there;
      at = own.1;
      is = turns.is;
      held = λ key. inl (ap (λ held. held key) turns.done.1.held);
      images = λ group may some has. record { image = has.image; is = turns.done.1.images has.image has.is; of = has.of };
      leaves = turns.done.1.leaves;
      opens = turns.done.1.opens;
    }

    came_on : CameTo (m + 1)
    unfolding mid
    came_on = record {
      now = slice_set c.now m next.0;
      below = λ k under. elim (cases_eq k m) [
        | inl same ↦ ap (slice_get (slice_set c.now m next.0)) same ∙ (get_set_same c.now m shard.0 next.0 there ∙ (sym next.1 ∙ ap (slice_get new) (sym same)))
        | inr other ↦ get_set_other c.now m k next.0 (λ same. omega (arith, same, other)) ∙ c.below k (omega (arith, under, other))
      ];
      others = λ k from. get_set_other c.now m k next.0 (λ same. omega (arith, same, from)) ∙ c.others k (omega (arith, from));
      metaslabs = slice_set c.metaslabs m turns.reached;
      holds = c.holds ++ On (view_of m own.0) turns.act ∷ [];
      follows = follows_on c.holds (On (view_of m own.0) turns.act ∷ []) x mid (with_metaslab mid m turns.reached) c.follows (
        with_metaslab mid m turns.reached,
        record { before = own.0; after = turns.reached; there = own.1; sees = refl; acts = turns.acts; made = refl },
        refl,
      );
      walked = subst (λ k. Walked (λ j hold n. P j hold × (n ≡ 0)) 0 k (c.holds ++ On (view_of m own.0) turns.act ∷ []) 0) (let on : suc m ≡ m + 1 = omega arith in on)
          (walked_more (λ j hold n. P j hold × (n ≡ 0)) 0 m c.holds 0 (On (view_of m own.0) turns.act) 0 c.walked
          (subst (λ k. P k (On (view_of m own.0) turns.act)) (let same : m ≡ 0 + m = omega arith in same) turns.done.0, refl));
      stood = stood_moved rack area m c.now shard.0 next.0 table mid own.0 turns.reached (ChangedUpto x before after m) (ChangedUpto x before after (m + 1)) c.stood moves said_on;
    } where
      said_on : (k : ℕ) (u : Metaslab) → slice_get (slice_set c.metaslabs m turns.reached) k ≡ Some u → ChangedUpto x before after (m + 1) k u
      said_on k u at = elim (cases_eq k m) [
        | inl same ↦
            let is : turns.reached ≡ u = some_of (slice_get (slice_set c.metaslabs m turns.reached) m) turns.reached u (get_set_same c.metaslabs m own.0 turns.reached own.1)
            (subst (λ j. slice_get (slice_set c.metaslabs m turns.reached) j ≡ Some u) same at) in
            subst (ChangedUpto x before after (m + 1) k) is (turns.done.1.committed ∙ said.0, λ under. turns.done.1.alike, λ from. absurd (omega (arith, same, from)))
        | inr other ↦
            let was = c.stood.said k u (sym (get_set_other c.metaslabs m k turns.reached (λ same. omega (arith, same, other))) ∙ at) in
            (was.0, λ under. was.1 (omega (arith, under, other)), λ from. was.2 (omega (arith, from)))
      ]

  came_to : (m : ℕ) → m ≤ length old → Stood rack area old table x (ChangedUpto x before after 0) → CameTo m
  came_to zero less s = came_none s
  came_to (suc m) less s = subst CameTo (let on : m + 1 ≡ suc m = omega arith in on) (came_on m (omega (arith, less)) (came_to m (omega (arith, less)) s))

  -- all metaslabs were changed
  pub record ChangesAll : Type 0 where
    pub metaslabs : List Metaslab
    pub holds : List Hold
    pub follows : Follows holds x (record x { metaslabs = metaslabs })
    pub each : Each P 0 x.geometry.props.metaslabs holds
    pub stood : Stood rack area new table (record x { metaslabs = metaslabs }) (IsOneOf x.committed after)

  pub changes_all : Stood rack area old table x (IsOneOf x.committed before) → ChangesAll
  changes_all s = record {
    metaslabs = c.metaslabs;
    holds = c.holds;
    follows = c.follows;
    each = subst (λ n. Each P 0 n c.holds) (s.shards_are ∙ s.many) (walk_each P 0 (length old) c.holds 0 c.walked);
    stood = subst (λ zs. Stood rack area zs table (record x { metaslabs = c.metaslabs }) (IsOneOf x.committed after)) same (record {
      layout = c.stood.layout;
      many = c.stood.many;
      shards_are = c.stood.shards_are;
      pieces = c.stood.pieces;
      each = c.stood.each;
      holds = c.stood.holds;
      only = c.stood.only;
      checks = c.stood.checks;
      marked = c.stood.marked;
      objects = c.stood.objects;
      images = c.stood.images;
      leaves = c.stood.leaves;
      said = λ k y at. (let was = c.stood.said k y at in (was.0, was.1 (let inside = slice_get_within c.metaslabs k y at in omega (arith, inside, long))));
    });
  } where
    below_or : (k n : ℕ) → (k < n) ⊎ (n ≤ k)
    below_or k zero = inr (omega arith)
    below_or zero (suc n) = inl (omega arith)
    below_or (suc k) (suc n) = elim (below_or k n) [ inl less ↦ inl (omega (arith, less)) | inr from ↦ inr (omega (arith, from)) ]

    first : Stood rack area old table x (ChangedUpto x before after 0)
    first = record {
      layout = s.layout;
      many = s.many;
      shards_are = s.shards_are;
      pieces = s.pieces;
      each = s.each;
      holds = s.holds;
      only = s.only;
      checks = s.checks;
      marked = s.marked;
      objects = s.objects;
      images = s.images;
      leaves = s.leaves;
      said = λ k y at. (let was = s.said k y at in (was.0, λ less. absurd (omega (arith, less)), λ from. was.1));
    }

    c : CameTo (length old)
    c = came_to (length old) (omega arith) first

    long : length c.metaslabs ≡ length old
    long = c.stood.many ∙ sym (s.shards_are ∙ s.many)

    same : c.now ≡ new
    same = same_list c.now new by
      where
        by : (k : ℕ) → slice_get c.now k ≡ slice_get new k
        by k = elim (below_or k (length old)) [ inl less ↦ c.below k less | inr from ↦ c.others k from ∙ sym (changes.others k from) ]
