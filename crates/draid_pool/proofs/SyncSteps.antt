-- The closing and the sealing of a group in all metaslabs of a pool, one after another.
use Rattle.std.proofs.Common.{◌≡◌, ◌≢◌, ◌<◌, ◌≤◌, ◌+◌, ◌++◌, ◌∙◌, [], ◌∷◌, inl, inr, ℕ, suc, true, List, Some, None, Ok, Err, arith, refl, sym, ap, subst, slice_index_or, slice_set, length}
use Rattle.std.specs.Prelude.{nat_eq, slice_get}
use Rattle.std.specs.HashMap.{get}
use Rattle.std.proofs.lemmas.Bool.{cases_eq}
use Rattle.std.proofs.lemmas.Option.{slice_get-get_or, slice_get_within}
use Rattle.draid_rack.specs.declared.Rack as racks
use Rattle.draid_area.specs.declared.Area as areas
use Rattle.draid_spec.specs.declared.layout.Geometry.{Geometry}
use Rattle.draid_segments.specs.Segments.{Pieces}
use Rattle.draid_shard.specs.Fits.{Valid}
use Rattle.draid_shard.specs.Part.{Part}
use Rattle.draid_shard.specs.declared.shard.Shard.{Shard}
use Rattle.draid_session.specs.Follows as follows
use Rattle.draid_session.specs.Follows.{Follows}
use Rattle.draid_session.specs.Groups as groups
use Rattle.draid_session.specs.Holds.{Hold, On, view_of}
use Rattle.draid_session.specs.Phases.{End, Walk, Went}
use Rattle.draid_session.specs.State.{Metaslab, State}
use Rattle.draid_pool.specs.Carries.{CarriesOut}
use Rattle.draid_pool.specs.Metaslabs.{IsMetaslab}
use Rattle.draid_pool.specs.Pools.{Represents, part_in}
use Rattle.draid_pool.specs.Syncing.{CloseIs, KeepsCommitted, KeepsTable, Phase, SealDoes, SealIs, Turns, end_of}
use Rattle.draid_pool.specs.Whole.{IsWhole}
use Rattle.draid_pool.specs.declared.fault.SyncFault.{SyncFault}
use Rattle.draid_pool.specs.declared.fault.SyncFault.TheVariants as sync
use Rattle.draid_pool.specs.declared.pool.Pool.{Pool}
use Rattle.draid_pool.proofs.Lifted.{HasMetaslab, SetsShard, metaslab_of}
use Rattle.draid_pool.proofs.Lists.{get_set_other, get_set_same, some_of}
use Rattle.draid_pool.proofs.Moved.{each_set, uber_stays, with_metaslab}
use Rattle.draid_pool.proofs.Steps.{carried, follows_on, own_of, same_layout}
use Rattle.draid_pool.proofs.Stood.{IsOneOf, Moves, Rest, Stood, represents_of, stood_moved, stood_of}
use Rattle.draid_pool.proofs.Wholes.{whole_same}
use Rattle.draid_pool.proofs.Walks.{Walked, walk_stops, walk_went, walked_more}

-- ---- shards

-- each of those below a number is so
abbrev pub Below : {S : Type 0} → (S → Type 0) → List S → ℕ → Type 0
Below {S} P shards m = (k : ℕ) (shard : S) → k < m → slice_get shards k ≡ Some shard → P shard

abbrev pub ClosingBelow : {R A : Type 0} → List (Shard R A) → ℕ → ℕ → Type 0
ClosingBelow {R} {A} shards group m = Below (λ (shard : Shard R A). shard.closing ≡ Some group) shards m

abbrev pub SealedBelow : {R A : Type 0} → List (Shard R A) → ℕ → ℕ → Type 0
SealedBelow {R} {A} shards group m = Below (λ (shard : Shard R A). (shard.closing ≡ Some group) × (shard.sealed ≡ true)) shards m

abbrev pub IdleBelow : {R A : Type 0} → List (Shard R A) → ℕ → Type 0
IdleBelow {R} {A} shards m = Below (λ (shard : Shard R A). shard.closing ≡ None) shards m

-- what was borrowed stands there
pub borrowed_at : {S : Type 0} (shards : List S) (m : ℕ) (shard : S) → m < length shards → shard ≡ slice_index_or shards m shard → slice_get shards m ≡ Some shard
borrowed_at shards m shard below is = slice_get-get_or shards m shard below ∙ ap Some (sym is)

-- another one comes to its place, and is so too
pub below_set : {S : Type 0} (P : S → Type 0) (shards : List S) (m : ℕ) (shard shard' : S) → slice_get shards m ≡ Some shard → P shard' → Below P shards m → Below P (slice_set shards m shard') (m + 1)
below_set P shards m shard shard' there is below k z less at = elim (cases_eq k m) [
  | inl same ↦ subst P (some_of (slice_get (slice_set shards m shard') m) shard' z (get_set_same shards m shard shard' there) (subst (λ j. slice_get (slice_set shards m shard') j ≡ Some z) same at)) is
  | inr other ↦ below k z (omega (arith, less, other)) (sym (get_set_other shards m k shard' (λ same. omega (arith, same, other))) ∙ at)
]

-- none stands before the first
pub below_none : {S : Type 0} (P : S → Type 0) (shards : List S) → Below P shards 0
below_none P shards k shard less at = absurd (omega (arith, less))

-- the next one is so
pub below_more : {S : Type 0} (P : S → Type 0) (shards : List S) (m : ℕ) (shard : S) → slice_get shards m ≡ Some shard → P shard → Below P shards m → Below P shards (m + 1)
below_more P shards m shard there is below k z less at = elim (cases_eq k m) [
  | inl same ↦ subst P (some_of (slice_get shards m) shard z there (subst (λ j. slice_get shards j ≡ Some z) same at)) is
  | inr other ↦ below k z (omega (arith, less, other)) at
]

-- and so are all in the end
pub below_all : {S : Type 0} (P : S → Type 0) (shards : List S) (m : ℕ) → length shards ≤ m → Below P shards m → (k : ℕ) (shard : S) → slice_get shards k ≡ Some shard → P shard
below_all P shards m end below k shard at = below k shard (let inside = slice_get_within shards k shard at in omega (arith, inside, end)) at

-- ---- ends

-- a refusal is no way through
pub not_went : (T : Type 0) (why : SyncFault) → end_of {T = T} (Err why) ≢ Went
not_went T sync.Worn is = absurd (cc)
not_went T sync.Last is = absurd (cc)
not_went T sync.Shelf is = absurd (cc)
not_went T sync.NoMemory is = absurd (cc)

-- all are so, and another one too
pub all_set : {S : Type 0} (P : S → Type 0) (shards : List S) (m : ℕ) (shard shard' : S) → slice_get shards m ≡ Some shard → P shard' → ((k : ℕ) (z : S) → slice_get shards k ≡ Some z → P z)
    → (k : ℕ) (z : S) → slice_get (slice_set shards m shard') k ≡ Some z → P z
all_set P shards m shard shard' there is all k z at = elim (cases_eq k m) [
  | inl same ↦ subst P (some_of (slice_get (slice_set shards m shard') m) shard' z (get_set_same shards m shard shard' there) (subst (λ j. slice_get (slice_set shards m shard') j ≡ Some z) same at)) is
  | inr other ↦ all k z (sym (get_set_other shards m k shard' (λ same. omega (arith, same, other))) ∙ at)
]

module _ {R A : Type 0} (rack : racks.Ghosts R) (area : areas.Ghosts A) where
  -- one shard of a whole pool is another one that kept its blocks
  pub whole_on : (m : ℕ) (pool new : Pool R A) (shard shard' : Shard R A) → IsWhole rack area pool → SetsShard rack area m pool new shard shard' → Valid rack shard' → KeepsTable shard shard' → IsWhole rack area new
  whole_on m pool new shard shard' w set valid table =
      whole_same rack area m pool new shard shard' w
      (record { there = set.there; sets = set.sets; geometry = set.geometry; uber = set.uber; valid = valid; part = table.part; committed = table.committed; opens = table.opens; slots = table.slots }) table.entries set.seq set.floor
      (λ q. ap (λ os. get nat_eq os q) set.objects)

  -- ---- one metaslab

  -- one hold more led to a state for which the pool stands
  pub record OneMore (new : Pool R A) (x : State) (does : Hold → Type 0) : Type 0 where
    pub hold : Hold
    pub reached : State
    pub holds : follows.Holds hold x reached
    pub done : does hold
    pub represents : Represents rack area new reached

  pub turned : (m : ℕ) (pool new : Pool R A) (shard shard' : Shard R A) (x : State) (does : Part → Hold → Type 0) → Represents rack area pool x → SetsShard rack area m pool new shard shard'
      → ((part : Part) (pieces : Pieces) (y : Metaslab) → IsMetaslab rack area part pieces shard y → Turns rack area part pieces y shard' (λ hold z. does part hold × KeepsCommitted y.world z.world))
      → OneMore new x (does (part_in x m))
  unfolding stood_of
  turned m pool new shard shard' x does r set turns = record {
    hold = On (view_of m z.y) t.act;
    reached = after;
    holds = record { before = z.y; after = t.reached; there = z.at; sees = refl; acts = t.acts; made = refl };
    done = t.done.0;
    represents = represents_of rack area new r.stands.shared after stood rest;
  }
    where
      z : HasMetaslab rack area pool x r.stands m shard
      z = metaslab_of rack area pool x r.stands m shard set.there

      t : Turns rack area (part_in x m) (r.stands.pieces m) z.y shard' (λ hold v. does (part_in x m) hold × KeepsCommitted z.y.world v.world)
      t = turns (part_in x m) (r.stands.pieces m) z.y z.is

      after : State
      after = with_metaslab x m t.reached

      moves : Moves rack area m pool.metaslabs.shards.items shard shard' x z.y t.reached (r.stands.pieces m)
      moves = record {
        there = set.there;
        at = z.at;
        is = t.is;
        held = λ key. inl (ap (λ held. held key) t.done.1.held);
        images = λ group may some has. record { image = has.image; is = t.done.1.images has.image has.is; of = has.of };
        leaves = t.done.1.leaves x.kept_leaf x.next_leaf;
        opens = t.done.1.opens;
      }

      stood : Stood rack area new.metaslabs.shards.items (λ object. get nat_eq new.own.objects object) after (IsOneOf x.committed r.stands.shared)
      stood = subst (λ zs. Stood rack area zs (λ object. get nat_eq new.own.objects object) after (IsOneOf x.committed r.stands.shared)) (sym set.sets)
          (subst (λ objects. Stood rack area (slice_set pool.metaslabs.shards.items m shard') (λ object. get nat_eq objects object) after (IsOneOf x.committed r.stands.shared)) (sym set.objects)
          (stood_moved rack area m pool.metaslabs.shards.items shard shard' (λ object. get nat_eq pool.own.objects object) x z.y t.reached (IsOneOf x.committed r.stands.shared) (IsOneOf x.committed r.stands.shared) (stood_of rack area pool x r) moves
          (each_set x.metaslabs m z.y t.reached (IsOneOf x.committed r.stands.shared m) z.at (t.done.1.committed ∙ r.stands.groups.committed m z.y z.at, t.done.1.alike r.stands.shared (r.stands.alike m z.y z.at))
          (λ k v at. (r.stands.groups.committed k v at, r.stands.alike k v at)))))

      rest : Rest rack area new r.stands.shared after
      rest = record {
        geometry = r.stands.geometry ∙ sym set.geometry;
        versions = r.stands.versions;
        next = r.stands.groups.next;
        last = r.stands.groups.last;
        seq = r.stands.seq ∙ sym set.seq;
        floor = r.stands.floor ∙ sym set.floor;
        uber = uber_stays rack area pool new x (slice_set x.metaslabs m t.reached) x.store refl set.uber r.stands.uber;
      }

  -- ---- some metaslabs

  -- So many metaslabs were gone through, and the pool stands for the state to which the holds led.
  pub record Came (P : ℕ → Hold → ℕ → Type 0) (m sum : ℕ) (new : Pool R A) (x : State) : Type 0 where
    pub holds : List Hold
    pub reached : State
    pub follows : Follows holds x reached
    pub walked : Walked P 0 m holds sum
    pub represents : Represents rack area new reached

  pub came_none : (P : ℕ → Hold → ℕ → Type 0) (pool : Pool R A) (x : State) → Represents rack area pool x → Came P 0 0 pool x
  came_none P pool x r = record { holds = []; reached = x; follows = refl; walked = (refl, refl); represents = r }

  one_on : (m : ℕ) → suc m ≡ m + 1
  one_on m = omega arith

  none_before : (m : ℕ) → m ≡ 0 + m
  none_before m = omega arith

  came_more : (P : ℕ → Hold → ℕ → Type 0) (m sum n : ℕ) (mid new : Pool R A) (x : State) (c : Came P m sum mid x) → OneMore new c.reached (λ hold. P m hold n) → Came P (m + 1) (sum + n) new x
  came_more P m sum n mid new x c o = record {
    holds = c.holds ++ o.hold ∷ [];
    reached = o.reached;
    follows = follows_on c.holds (o.hold ∷ []) x c.reached o.reached c.follows (o.reached, o.holds, refl);
    walked = subst (λ k. Walked P 0 k (c.holds ++ o.hold ∷ []) (sum + n)) (one_on m) (walked_more P 0 m c.holds sum o.hold n c.walked (subst (λ k. P k o.hold n) (none_before m) o.done));
    represents = o.represents;
  }

  -- one was reached, of which something is said as of the first
  one_so : (new : Pool R A) (x y : State) (does says : Hold → Type 0) → OneMore new y does → ((hold : Hold) → does hold → says hold) → OneMore new y says
  one_so new x y does says o how = record { hold = o.hold; reached = o.reached; holds = o.holds; done = how o.hold o.done; represents = o.represents }

  few : (P : ℕ → Hold → ℕ → Type 0) (m sum : ℕ) (new : Pool R A) (x : State) → (c : Came P m sum new x) → m < new.geometry.props.metaslabs → m < x.geometry.props.metaslabs
  few P m sum new x c below =
      subst (λ (g : Geometry). m < g.props.metaslabs) (sym c.represents.stands.geometry ∙ (same_layout c.holds x c.reached c.follows).geometry) below

  -- ---- closing

  pub close_more : (group m : ℕ) (mid new : Pool R A) (shard shard' : Shard R A) (x : State) → Came (groups.Closes x.geometry x.perms group) m 0 mid x → SetsShard rack area m mid new shard shard'
      → ((part : Part) (pieces : Pieces) (y : Metaslab) → IsMetaslab rack area part pieces shard y → Turns rack area part pieces y shard' (λ hold z. CloseIs part group (Ok tt) hold × KeepsCommitted y.world z.world))
      → Came (groups.Closes x.geometry x.perms group) (m + 1) 0 new x
  close_more group m mid new shard shard' x c set turns =
      came_more (groups.Closes x.geometry x.perms group) m 0 0 mid new x c
      (one_so new x c.reached (CloseIs (part_in c.reached m) group (Ok tt)) (λ hold. groups.Closes x.geometry x.perms group m hold 0)
      (turned m mid new shard shard' c.reached (λ part. CloseIs part group (Ok tt)) c.represents set turns)
      (λ hold done. own_of x c.reached (λ g p store. groups.Closes g p group m hold 0) (same_layout c.holds x c.reached c.follows) done))

  -- as many as the layout has
  all_of : (P : ℕ → Hold → ℕ → Type 0) (m sum : ℕ) (new : Pool R A) (x : State) → (c : Came P m sum new x) → m ≡ new.geometry.props.metaslabs → m ≡ x.geometry.props.metaslabs
  all_of P m sum new x c all = all ∙ ap (λ (g : Geometry). g.props.metaslabs) (sym c.represents.stands.geometry ∙ (same_layout c.holds x c.reached c.follows).geometry)

  pub close_all_went : (group m : ℕ) (new : Pool R A) (x : State) → Came (groups.Closes x.geometry x.perms group) m 0 new x → m ≡ new.geometry.props.metaslabs
      → CarriesOut rack area new x (Phase x (groups.ClosePhase x.geometry x.perms group) Went)
  close_all_went group m new x c all =
      let P = groups.Closes x.geometry x.perms group in
      let S = groups.CloseStops x.geometry x.perms group in
      carried rack area new x c.holds c.reached (Phase x (groups.ClosePhase x.geometry x.perms group) Went) c.follows c.represents
      (refl, subst (λ n. Walk P S 0 n c.holds Went 0) (all_of P m 0 new x c all) (walk_went P S 0 m c.holds 0 c.walked))

  -- the next metaslab stopped it
  pub close_all_stops : (group m : ℕ) (mid new : Pool R A) (shard shard' : Shard R A) (x : State) (why : SyncFault) → Came (groups.Closes x.geometry x.perms group) m 0 mid x
      → SetsShard rack area m mid new shard shard' → m < mid.geometry.props.metaslabs
      → ((part : Part) (pieces : Pieces) (y : Metaslab) → IsMetaslab rack area part pieces shard y → Turns rack area part pieces y shard' (λ hold z. CloseIs part group (Err why) hold × KeepsCommitted y.world z.world))
      → CarriesOut rack area new x (Phase x (groups.ClosePhase x.geometry x.perms group) (end_of {T = Unit} (Err why)))
  close_all_stops group m mid new shard shard' x why c set below turns =
      let P = groups.Closes x.geometry x.perms group in
      let S = groups.CloseStops x.geometry x.perms group in
      let end : End = end_of {T = Unit} (Err why) in
      let o : OneMore new c.reached (λ hold. S m hold end) = one_so new x c.reached (CloseIs (part_in c.reached m) group (Err why)) (λ hold. S m hold end)
      (turned m mid new shard shard' c.reached (λ part. CloseIs part group (Err why)) c.represents set turns)
      (λ hold done. own_of x c.reached (λ g p store. groups.CloseStops g p group m hold end) (same_layout c.holds x c.reached c.follows) done) in
      carried rack area new x (c.holds ++ o.hold ∷ []) o.reached (Phase x (groups.ClosePhase x.geometry x.perms group) end)
      (follows_on c.holds (o.hold ∷ []) x c.reached o.reached c.follows (o.reached, o.holds, refl)) o.represents
      (refl, walk_stops P S 0 m x.geometry.props.metaslabs c.holds 0 o.hold end (few P m 0 mid x c below) c.walked (not_went Unit why) (subst (λ k. S k o.hold end) (none_before m) o.done))

  -- ---- sealing

  pub seal_more : (group m sum thin : ℕ) (mid new : Pool R A) (shard shard' : Shard R A) (x : State) → Came (groups.Seals x.geometry x.perms group) m sum mid x → SetsShard rack area m mid new shard shard'
      → ((part : Part) (pieces : Pieces) (y : Metaslab) → IsMetaslab rack area part pieces shard y → Turns rack area part pieces y shard' (λ hold z. SealIs part group (Ok thin) hold × KeepsCommitted y.world z.world))
      → Came (groups.Seals x.geometry x.perms group) (m + 1) (sum + thin) new x
  seal_more group m sum thin mid new shard shard' x c set turns =
      came_more (groups.Seals x.geometry x.perms group) m sum thin mid new x c
      (one_so new x c.reached (SealIs (part_in c.reached m) group (Ok thin)) (λ hold. groups.Seals x.geometry x.perms group m hold thin)
      (turned m mid new shard shard' c.reached (λ part. SealIs part group (Ok thin)) c.represents set turns)
      (λ hold done. own_of x c.reached (λ g p store. groups.Seals g p group m hold thin) (same_layout c.holds x c.reached c.follows) done))

  pub seal_all_went : (group m sum : ℕ) (new : Pool R A) (x : State) → Came (groups.Seals x.geometry x.perms group) m sum new x → m ≡ new.geometry.props.metaslabs
      → CarriesOut rack area new x (SealDoes x group (Ok sum))
  seal_all_went group m sum new x c all =
      let P = groups.Seals x.geometry x.perms group in
      let S = groups.SealStops x.geometry x.perms group in
      carried rack area new x c.holds c.reached (SealDoes x group (Ok sum)) c.follows c.represents
      (refl, (sum, subst (λ n. Walk P S 0 n c.holds Went sum) (all_of P m sum new x c all) (walk_went P S 0 m c.holds sum c.walked), λ went. refl))

  pub seal_all_stops : (group m sum : ℕ) (mid new : Pool R A) (shard shard' : Shard R A) (x : State) (why : SyncFault) → Came (groups.Seals x.geometry x.perms group) m sum mid x
      → SetsShard rack area m mid new shard shard' → m < mid.geometry.props.metaslabs
      → ((part : Part) (pieces : Pieces) (y : Metaslab) → IsMetaslab rack area part pieces shard y → Turns rack area part pieces y shard' (λ hold z. SealIs part group (Err why) hold × KeepsCommitted y.world z.world))
      → CarriesOut rack area new x (SealDoes x group (Err why))
  seal_all_stops group m sum mid new shard shard' x why c set below turns =
      let P = groups.Seals x.geometry x.perms group in
      let S = groups.SealStops x.geometry x.perms group in
      let end : End = end_of {T = ℕ} (Err why) in
      let o : OneMore new c.reached (λ hold. S m hold end) = one_so new x c.reached (SealIs (part_in c.reached m) group (Err why)) (λ hold. S m hold end)
      (turned m mid new shard shard' c.reached (λ part. SealIs part group (Err why)) c.represents set turns)
      (λ hold done. own_of x c.reached (λ g p store. groups.SealStops g p group m hold end) (same_layout c.holds x c.reached c.follows) done) in
      carried rack area new x (c.holds ++ o.hold ∷ []) o.reached (SealDoes x group (Err why))
      (follows_on c.holds (o.hold ∷ []) x c.reached o.reached c.follows (o.reached, o.holds, refl)) o.represents (
        refl,
        (
          0,
          (
            sum,
            walk_stops P S 0 m x.geometry.props.metaslabs c.holds sum o.hold end (few P m sum mid x c below) c.walked (not_went ℕ why) (subst (λ k. S k o.hold end) (none_before m) o.done),
            λ went. absurd (not_went ℕ why went),
          ),
        ),
      )
