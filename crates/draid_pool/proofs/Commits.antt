-- A group that the uberblock names is committed in one metaslab of a pool after another.
use Rattle.std.proofs.Common.{◌≡◌, ◌<◌, ◌≤◌, ◌+◌, ◌++◌, ◌⊎◌, ◌∙◌, [], ◌∷◌, inl, inr, ℕ, zero, suc, Bool, true, false, List, Option, Some, None, arith, refl, sym, ap, subst, slice_set, length, if◌then◌else◌}
use Rattle.std.specs.Prelude.{slice_get}
use Rattle.std.proofs.lemmas.Bool.{cases_eq}
use Rattle.std.proofs.lemmas.List.{length-set}
use Rattle.std.proofs.lemmas.Option.{slice_get_within}
use Rattle.draid_names.specs.declared.pointer.Pointer.{Pointer}
use Rattle.draid_rack.specs.declared.Rack as racks
use Rattle.draid_area.specs.declared.Area as areas
use Rattle.draid_machine.specs.declared.names.Key.{Key}
use Rattle.draid_machine.specs.After.{is_freed_block}
use Rattle.draid_machine.proofs.Small.{absurd_test, none_some}
use Rattle.draid_shard.specs.declared.shard.Shard.{Shard}
use Rattle.draid_session.specs.Follows.{Follows}
use Rattle.draid_session.specs.Groups as groups
use Rattle.draid_session.specs.Holds.{Hold, On, view_of}
use Rattle.draid_session.specs.Phases.{Each}
use Rattle.draid_session.specs.State.{Metaslab, State}
use Rattle.draid_pool.specs.Importable.{Shared, keep_shared}
use Rattle.draid_pool.specs.Pools.{part_in}
use Rattle.draid_pool.specs.Records.{LeavesAreBelow}
use Rattle.draid_pool.specs.Syncing.{Commits, CommitsBelow, Turns}
use Rattle.draid_pool.proofs.Lists.{get_set_other, get_set_same, present, some_of}
use Rattle.draid_pool.proofs.Moved.{with_metaslab}
use Rattle.draid_pool.proofs.Steps.{follows_on}
use Rattle.draid_pool.proofs.Stood.{CommittedBelow, IsOneOf, Moves, Stood, stood_moved}
use Rattle.draid_pool.proofs.Turns.{CommitsState, commit_turns}
use Rattle.draid_pool.proofs.Walks.{Walked, walk_each, walked_more}

-- ---- lists

-- lists that have the same at each place
pub same_list : {A : Type 0} (xs ys : List A) → ((k : ℕ) → slice_get xs k ≡ slice_get ys k) → xs ≡ ys
same_list [] [] same = refl
same_list [] (y ∷ ys) same = absurd (none_some None y refl (same 0))
same_list (x ∷ xs) [] same = absurd (none_some None x refl (sym (same 0)))
same_list (x ∷ xs) (y ∷ ys) same =
    (let head : x ≡ y = some_of (Some x) x y refl (same 0) in ap (λ z. z ∷ xs) head ∙ ap (λ zs. y ∷ zs) (same_list xs ys (λ k. same (suc k))))

-- ---- the shards

module _ {R A : Type 0} (rack : racks.Ghosts R) where
  -- the next one commits
  pub below_more : (group m : ℕ) (old now : List (Shard R A)) (shard after : Shard R A) → CommitsBelow rack group m old now → slice_get now m ≡ Some shard → Commits rack group shard after
      → CommitsBelow rack group (m + 1) old (slice_set now m after)
  below_more group m old now shard after b there commits = record {
    many = length-set now m after ∙ b.many;
    below = λ k z less at. elim (cases_eq k m) [
      | inl same ↦
          let was : z ≡ shard = some_of (slice_get old m) z shard (subst (λ j. slice_get old j ≡ Some z) same at) (sym (b.others m (omega arith)) ∙ there) in
          (after, ap (slice_get (slice_set now m after)) same ∙ get_set_same now m shard after there, subst (λ q. Commits rack group q after) (sym was) commits)
      | inr other ↦
          let before = b.below k z (omega (arith, less, other)) at in
          (before.0, get_set_other now m k after (λ same. omega (arith, same, other)) ∙ before.1, before.2)
    ];
    others = λ k from. get_set_other now m k after (λ same. omega (arith, same, from)) ∙ b.others k (omega (arith, from));
  }

-- ---- the metaslabs

module _ {R A : Type 0} (rack : racks.Ghosts R) (area : areas.Ghosts A) (old new : List (Shard R A)) (table : ℕ → Option Pointer) (x : State) (group : ℕ) (shared : Shared)
    (commits : CommitsBelow rack group (length old) old new) (committed : x.committed ≡ group) (idle : x.pending ≡ false) (one_leaf : x.kept_leaf ≡ x.next_leaf) where
  -- So many metaslabs have committed the group, each in one hold.
  pub record CameTo (m : ℕ) : Type 0 where
    pub now : List (Shard R A)
    pub below : (k : ℕ) → k < m → slice_get now k ≡ slice_get new k
    pub others : (k : ℕ) → m ≤ k → slice_get now k ≡ slice_get old k
    pub metaslabs : List Metaslab
    pub holds : List Hold
    pub follows : Follows holds x (record x { metaslabs = metaslabs })
    pub walked : Walked (λ k hold n. groups.Commits x.geometry x.perms group k hold × (n ≡ 0)) 0 m holds 0
    pub stood : Stood rack area now table (record x { metaslabs = metaslabs }) (CommittedBelow group shared m)

  came_none : Stood rack area old table x (CommittedBelow group shared 0) → CameTo 0
  came_none s = record { now = old; below = λ k less. absurd (omega (arith, less)); others = λ k from. refl; metaslabs = x.metaslabs; holds = []; follows = refl; walked = (refl, refl); stood = s }

  module _ (m : ℕ) (less : m < length old) (c : CameTo m) where
    mid : State
    mid = record x { metaslabs = c.metaslabs }

    shard : (z : Shard R A) × (slice_get old m ≡ Some z)
    shard = present old m less

    there : slice_get c.now m ≡ Some shard.0
    there = c.others m (omega arith) ∙ shard.1

    after : (z : Shard R A) × (slice_get new m ≡ Some z) × Commits rack group shard.0 z
    after = commits.below m shard.0 less shard.1

    own : (y : Metaslab) × (slice_get c.metaslabs m ≡ Some y)
    own = (let long = c.stood.shards_are in let inside = slice_get_within c.now m shard.0 there in present c.metaslabs m (omega (arith, long, inside)))

    turns : Turns rack area (part_in x m) (c.stood.pieces m) own.0 after.0 (λ hold z. groups.Commits x.geometry x.perms group m hold × CommitsState group own.0.world z.world)
    turns = commit_turns rack area (part_in x m) (c.stood.pieces m) shard.0 after.0 group own.0 (c.stood.each m shard.0 own.0 there own.1) after.2

    dropped : (key : Key) → (turns.reached.world.core.held key ≡ own.0.world.core.held key)
        ⊎ ((is_freed_block x.committed (own.0.world.core.held key) ≡ true) × (turns.reached.world.core.held key ≡ None))
    dropped key = by (is_freed_block group (own.0.world.core.held key)) refl
      where
        made : turns.reached.world.core.held key ≡ (if is_freed_block group (own.0.world.core.held key) then None else own.0.world.core.held key)
        made = ap (λ held. held key) turns.done.1.held

        by : (b : Bool) → is_freed_block group (own.0.world.core.held key) ≡ b → (turns.reached.world.core.held key ≡ own.0.world.core.held key)
            ⊎ ((is_freed_block x.committed (own.0.world.core.held key) ≡ true) × (turns.reached.world.core.held key ≡ None))
        by true freed = inr (
          ap (λ g. is_freed_block g (own.0.world.core.held key)) committed ∙ freed,
          made ∙ ap (λ b. if b then None else own.0.world.core.held key) freed,
        )
        by false stays = inl (made ∙ ap (λ b. if b then None else own.0.world.core.held key) stays)

    leaves : LeavesAreBelow x.kept_leaf x.next_leaf own.0.world → LeavesAreBelow x.kept_leaf x.next_leaf turns.reached.world
    leaves below = (let done = turns.done.1 in record {
      kept = λ leaf some. (let low = below.sealed turns.reached.world.image done.sealed leaf some in omega (arith, low, one_leaf));
      sealed = λ image is. absurd (none_some turns.reached.world.sealed image done.none is);
      now = λ leaf some. below.now leaf (done.leaves leaf some);
    })

    moves : Moves rack area m c.now shard.0 after.0 mid own.0 turns.reached (c.stood.pieces m)
    unfolding mid
    moves = record {
      there = there;
      at = own.1;
      is = turns.is;
      held = dropped;
      images = λ g may some has. elim may [
        | inl is ↦ record { image = turns.reached.world.image; is = inl refl; of = turns.done.1.of ∙ (sym committed ∙ sym is) }
        | inr is ↦ absurd_test x.pending is.0 idle
      ];
      leaves = leaves;
      opens = (
          let before = (c.stood.each m shard.0 own.0 there own.1).stands.is_in.open_group_is in
          let behind = turns.is.stands.is_in.open_group_is in
          let same = after.2.commits.open_group_is in
          omega (arith, before, behind, same)
          );
    }

    pub came_on : CameTo (m + 1)
    unfolding mid
    came_on = record {
      now = slice_set c.now m after.0;
      below = λ k under. elim (cases_eq k m) [
        | inl same ↦ ap (slice_get (slice_set c.now m after.0)) same ∙ (get_set_same c.now m shard.0 after.0 there ∙ (sym after.1 ∙ ap (slice_get new) (sym same)))
        | inr other ↦ get_set_other c.now m k after.0 (λ same. omega (arith, same, other)) ∙ c.below k (omega (arith, under, other))
      ];
      others = λ k from. get_set_other c.now m k after.0 (λ same. omega (arith, same, from)) ∙ c.others k (omega (arith, from));
      metaslabs = slice_set c.metaslabs m turns.reached;
      holds = c.holds ++ On (view_of m own.0) turns.act ∷ [];
      follows = follows_on c.holds (On (view_of m own.0) turns.act ∷ []) x mid (with_metaslab mid m turns.reached) c.follows (
        with_metaslab mid m turns.reached,
        record { before = own.0; after = turns.reached; there = own.1; sees = refl; acts = turns.acts; made = refl },
        refl,
      );
      walked = subst (λ k. Walked (λ j hold n. groups.Commits x.geometry x.perms group j hold × (n ≡ 0)) 0 k (c.holds ++ On (view_of m own.0) turns.act ∷ []) 0) (let on : suc m ≡ m + 1 = omega arith in on)
          (walked_more (λ j hold n. groups.Commits x.geometry x.perms group j hold × (n ≡ 0)) 0 m c.holds 0 (On (view_of m own.0) turns.act) 0 c.walked
          (subst (λ k. groups.Commits x.geometry x.perms group k (On (view_of m own.0) turns.act)) (let same : m ≡ 0 + m = omega arith in same) turns.done.0, refl));
      stood = stood_moved rack area m c.now shard.0 after.0 table mid own.0 turns.reached (CommittedBelow group shared m) (CommittedBelow group shared (m + 1)) c.stood moves said_on;
    } where
      said_on : (k : ℕ) (u : Metaslab) → slice_get (slice_set c.metaslabs m turns.reached) k ≡ Some u → CommittedBelow group shared (m + 1) k u
      said_on k u at = elim (cases_eq k m) [
        | inl same ↦
            let is : turns.reached ≡ u = some_of (slice_get (slice_set c.metaslabs m turns.reached) m) turns.reached u (get_set_same c.metaslabs m own.0 turns.reached own.1)
            (subst (λ j. slice_get (slice_set c.metaslabs m turns.reached) j ≡ Some u) same at) in
            let before = (c.stood.said m own.0 own.1).1 (omega arith) in
            (λ under. subst (IsOneOf group (keep_shared shared) k) is (turns.done.1.committed, turns.done.1.alike shared before), λ from. absurd (omega (arith, same, from)))
        | inr other ↦
            let before = c.stood.said k u (sym (get_set_other c.metaslabs m k turns.reached (λ same. omega (arith, same, other))) ∙ at) in
            (λ under. before.0 (omega (arith, under, other)), λ from. before.1 (omega (arith, from)))
      ]

  came_to : (m : ℕ) → m ≤ length old → Stood rack area old table x (CommittedBelow group shared 0) → CameTo m
  came_to zero less s = came_none s
  came_to (suc m) less s = subst CameTo (let on : m + 1 ≡ suc m = omega arith in on) (came_on m (omega (arith, less)) (came_to m (omega (arith, less)) s))

  -- all metaslabs have committed the group
  pub record CommitsAll : Type 0 where
    pub metaslabs : List Metaslab
    pub holds : List Hold
    pub follows : Follows holds x (record x { metaslabs = metaslabs })
    pub each : Each (groups.Commits x.geometry x.perms group) 0 x.geometry.props.metaslabs holds
    pub stood : Stood rack area new table (record x { metaslabs = metaslabs }) (IsOneOf group (keep_shared shared))

  pub commits_all : Stood rack area old table x (CommittedBelow group shared 0) → CommitsAll
  commits_all s = record {
    metaslabs = c.metaslabs;
    holds = c.holds;
    follows = c.follows;
    each = subst (λ n. Each (groups.Commits x.geometry x.perms group) 0 n c.holds) (s.shards_are ∙ s.many) (walk_each (groups.Commits x.geometry x.perms group) 0 (length old) c.holds 0 c.walked);
    stood = subst (λ zs. Stood rack area zs table (record x { metaslabs = c.metaslabs }) (IsOneOf group (keep_shared shared))) same (record {
      layout = c.stood.layout;
      many = c.stood.many;
      shards_are = c.stood.shards_are;
      pieces = c.stood.pieces;
      each = c.stood.each;
      holds = c.stood.holds;
      only = c.stood.only;
      checks = c.stood.checks;
      marked = c.stood.marked;
      objects = c.stood.objects;
      images = c.stood.images;
      leaves = c.stood.leaves;
      said = λ k y at. (c.stood.said k y at).0 (let inside = slice_get_within c.metaslabs k y at in omega (arith, inside, long));
    });
  } where
    below_or : (k n : ℕ) → (k < n) ⊎ (n ≤ k)
    below_or k zero = inr (omega arith)
    below_or zero (suc n) = inl (omega arith)
    below_or (suc k) (suc n) = elim (below_or k n) [ inl less ↦ inl (omega (arith, less)) | inr from ↦ inr (omega (arith, from)) ]

    c : CameTo (length old)
    c = came_to (length old) (omega arith) s

    long : length c.metaslabs ≡ length old
    long = c.stood.many ∙ sym (s.shards_are ∙ s.many)

    same : c.now ≡ new
    same = same_list c.now new by
      where
        by : (k : ℕ) → slice_get c.now k ≡ slice_get new k
        by k = elim (below_or k (length old)) [ inl less ↦ c.below k less | inr from ↦ c.others k from ∙ sym (commits.others k from) ]
