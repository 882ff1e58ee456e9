-- A group that a lane commits, or that is stopped, in the session's words, however often the lane waited before.
use Rattle.std.proofs.Common.{◌≡◌, ◌<◌, ◌+◌, ◌++◌, ◌∷◌, [], inl, inr, ℕ, zero, suc, Bool, true, List, Ok, Err, arith, refl, sym, ap, subst}
use Rattle.std.specs.Prelude.{Result}
use Rattle.std.proofs.lemmas.List.{append_assoc}
use Rattle.draid_rack.specs.declared.Rack as racks
use Rattle.draid_area.specs.declared.Area as areas
use Rattle.draid_session.specs.Groups as groups
use Rattle.draid_session.specs.Holds.{CommitFailed, CommitStarved, Committed, Hold, OnUber, UberView}
use Rattle.draid_session.specs.Lanes.{LeavesLooks}
use Rattle.draid_session.specs.Phases.{Broke, Chain, End, Starved, Walk, Went}
use Rattle.draid_session.specs.Phases as phases
use Rattle.draid_session.specs.State.{State}
use Rattle.draid_shard.specs.declared.shard.Shard.{Shard}
use Rattle.draid_uber.specs.Slots.{group_of}
use Rattle.draid_uber.specs.Uber as ubers
use Rattle.draid_uber.specs.declared.uber.Uber.{Uber}
use Rattle.draid_pool.specs.Drifts.{groups_number}
use Rattle.draid_pool.specs.Grouping.{ClosesIn, SealsBy, UberNames}
use Rattle.draid_pool.specs.Pools.{part_in}
use Rattle.draid_pool.specs.Syncing.{Commits, end_of}
use Rattle.draid_pool.specs.declared.fault.SyncFault.{SyncFault}
use Rattle.draid_pool.specs.declared.fault.SyncFault.TheVariants as sync
use Rattle.draid_pool.proofs.SyncSteps.{not_went}
use Rattle.draid_pool.proofs.Turns.{commit_turns}
use Rattle.draid_pool.proofs.Walks.{Walked, walk_stops, walk_went}
use Rattle.draid_lanes.specs.declared.locked.Locked.{Locked}
use Rattle.draid_lanes.proofs.OneTurn.{HasCame, Once}
use Rattle.draid_lanes.proofs.RoundWords.{Each, EndsNone, IsOneOf, Says, TellsAt, round_said, said_as, said_on, said_one, said_uber}
use Rattle.draid_lanes.proofs.SealWords.{SealedUpto, Sealing, leaves_self, leaves_then, walked_zero}

-- ---- walks

-- nothing of a walk gives a number
pub each_of : (P : ℕ → Hold → Type 0) (m n : ℕ) (hs : List Hold) (sum : ℕ) → Walked (λ k h none. P k h) m n hs sum → phases.Each P m n hs
each_of P m zero hs sum w = w.0
each_of P m (suc n) hs sum w = (w.0, w.1, w.4, w.6, each_of P (m + 1) n w.1 w.3 w.7)

-- memory was wanting before the next one
pub walk_starves : (P : ℕ → Hold → ℕ → Type 0) (S : ℕ → Hold → End → Type 0) (m n all : ℕ) (hs : List Hold) (sum : ℕ) → n < all → Walked P m n hs sum → Walk P S m all hs Starved sum
walk_starves P S m n zero hs sum less w = absurd (omega (arith, less))
walk_starves P S m zero (suc all) hs sum less w = inr (inr (w.0, refl, w.1))
walk_starves P S m (suc n) (suc all) hs sum less w = inl (w.0, w.1, w.2, w.3, w.4, w.5, w.6, walk_starves P S (m + 1) n all w.1 w.3 (omega (arith, less)) w.7)

-- ---- the uberblock

-- what a hold of the uberblock sees
abbrev pub uber_view : {A : Type 0} → Uber A → UberView
uber_view u = record { committed = group_of (ubers.kept_of u); next_leaf = ubers.next_leaf_of u }

-- the hold in which it names a group, or is refused it
abbrev pub name_hold : {A : Type 0} → Uber A → ℕ → Result Unit SyncFault → Hold
name_hold u group (Ok done) = OnUber (uber_view u) (Committed group)
name_hold u group (Err sync.Shelf) = OnUber (uber_view u) (CommitFailed group)
name_hold u group (Err sync.NoMemory) = OnUber (uber_view u) (CommitStarved group)
name_hold u group (Err sync.Worn) = OnUber (uber_view u) (CommitStarved group)
name_hold u group (Err sync.Last) = OnUber (uber_view u) (CommitStarved group)

-- what stops a group ends no ticket
unsealed_ends : (x : State) (group k : ℕ) (why : SyncFault) → EndsNone (λ hold. groups.SealStops x.geometry x.perms group k hold (end_of {T = ℕ} (Err why)))
unsealed_ends x group k sync.Worn v key w is = is
unsealed_ends x group k sync.Last v key w is = is
unsealed_ends x group k sync.Shelf v key w is = is
unsealed_ends x group k sync.NoMemory v key w is = is

unclosed_ends : (x : State) (group k : ℕ) (why : SyncFault) → EndsNone (λ hold. groups.CloseStops x.geometry x.perms group k hold (end_of {T = Unit} (Err why)))
unclosed_ends x group k sync.Worn v key w is = is
unclosed_ends x group k sync.Last v key w is = is
unclosed_ends x group k sync.Shelf v key w is = is
unclosed_ends x group k sync.NoMemory v key w is = is

-- but for looks it is a group, so far
pub record GroupBut (x : State) (group thin : ℕ) (end : End) (hs : List Hold) : Type 0 where
  pub left : List Hold
  pub leaves : LeavesLooks hs left
  pub does : groups.Group x.geometry x.perms group thin left end

module _ {R A : Type 0} (rack : racks.Ghosts R) (area : areas.Ghosts A) (x : State) (count : ℕ) (all : count ≡ x.geometry.props.metaslabs) (group : ℕ) where
  named_is : (u v : Uber A) (result : Result Unit SyncFault) → group ≡ group_of (ubers.kept_of u) + 1 → UberNames area group u result v → groups.Names x.geometry x.perms group (name_hold u group result ∷ []) (end_of result)
  named_is u v (Ok done) next names = (refl, next)
  named_is u v (Err sync.Shelf) next names = (refl, next)
  named_is u v (Err sync.NoMemory) next names = (refl, next)
  named_is u v (Err sync.Worn) next names = absurd names
  named_is u v (Err sync.Last) next names = absurd names

  closed_phase : (hs : List Hold) → Walked (groups.Closes x.geometry x.perms group) 0 count hs 0 → groups.ClosePhase x.geometry x.perms group hs Went
  closed_phase hs w =
      subst (λ n. Walk (groups.Closes x.geometry x.perms group) (groups.CloseStops x.geometry x.perms group) 0 n hs Went 0) all (walk_went (groups.Closes x.geometry x.perms group) (groups.CloseStops x.geometry x.perms group) 0 count hs 0 w)

  sealed_phase : (hs : List Hold) (sum : ℕ) → Walked (groups.Seals x.geometry x.perms group) 0 count hs sum → groups.SealPhase x.geometry x.perms group sum hs Went
  sealed_phase hs sum w = (
    sum,
    subst (λ n. Walk (groups.Seals x.geometry x.perms group) (groups.SealStops x.geometry x.perms group) 0 n hs Went sum) all (walk_went (groups.Seals x.geometry x.perms group) (groups.SealStops x.geometry x.perms group) 0 count hs sum w),
    λ went. refl,
  )

  tells_commit : (n m : ℕ) (before after : Shard R A) → Commits rack group before after → TellsAt rack area x m (λ hold. groups.Commits x.geometry x.perms group m hold) before after
  tells_commit n m before after c pieces y is =
      let t = commit_turns rack area (part_in x m) pieces before after group y is c in
      record { act = t.act; reached = t.reached; acts = t.acts; done = t.done.0; is = t.is }

  went_is : (sum : ℕ) (u v : Uber A) → group ≡ group_of (ubers.kept_of u) + 1 → UberNames area group u (Ok tt) v → (hs : List Hold) → SealedUpto x count group count sum hs → (ks : List Hold) → phases.Each (groups.Commits x.geometry x.perms group) 0 count ks
      → GroupBut x group sum Went (hs ++ name_hold u group (Ok tt) ∷ ks)
  went_is sum u v next names hs d ks each = record {
    left = (d.closes ++ d.seals) ++ name_hold u group (Ok tt) ∷ ks;
    leaves = leaves_then hs (d.closes ++ d.seals) (name_hold u group (Ok tt) ∷ ks) (name_hold u group (Ok tt) ∷ ks) d.leaves (leaves_self (name_hold u group (Ok tt) ∷ ks));
    does = inl (
      d.closes,
      d.seals ++ name_hold u group (Ok tt) ∷ ks,
      append_assoc d.closes d.seals (name_hold u group (Ok tt) ∷ ks),
      closed_phase d.closes d.closed,
      inl (
        d.seals,
        name_hold u group (Ok tt) ∷ ks,
        refl,
        sealed_phase d.seals sum d.sealed,
        inl (name_hold u group (Ok tt) ∷ [], ks, refl, named_is u v (Ok tt) next names, (subst (λ n. phases.Each (groups.Commits x.geometry x.perms group) 0 n ks) all each, refl)),
      ),
    );
  }

  refused_is : (sum : ℕ) (why : SyncFault) (u v : Uber A) → group ≡ group_of (ubers.kept_of u) + 1 → UberNames area group u (Err why) v → (hs : List Hold) → SealedUpto x count group count sum hs → GroupBut x group sum (end_of {T = Unit} (Err why)) (hs ++ name_hold u group (Err why) ∷ [])
  refused_is sum why u v next names hs d = record {
    left = (d.closes ++ d.seals) ++ name_hold u group (Err why) ∷ [];
    leaves = leaves_then hs (d.closes ++ d.seals) (name_hold u group (Err why) ∷ []) (name_hold u group (Err why) ∷ []) d.leaves (leaves_self (name_hold u group (Err why) ∷ []));
    does = inl (
      d.closes,
      d.seals ++ name_hold u group (Err why) ∷ [],
      append_assoc d.closes d.seals (name_hold u group (Err why) ∷ []),
      closed_phase d.closes d.closed,
      inl (d.seals, name_hold u group (Err why) ∷ [], refl, sealed_phase d.seals sum d.sealed, inr (not_went Unit why, named_is u v (Err why) next names)),
    );
  }

  tells_unsealed : (why : SyncFault) (m : ℕ) (before after : Shard R A) → SealsBy rack area group before (Err why) after → TellsAt rack area x m (λ hold. groups.SealStops x.geometry x.perms group m hold (end_of {T = ℕ} (Err why))) before after
  tells_unsealed why m before after s pieces y is = (let t = s.seals (part_in x m) pieces y is in record { act = t.act; reached = t.reached; acts = t.acts; done = t.done.0; is = t.is })

  unsealed_is : (k sum : ℕ) (why : SyncFault) → k < count → (hs : List Hold) → SealedUpto x count group k sum hs → (hold : Hold) → groups.SealStops x.geometry x.perms group k hold (end_of {T = ℕ} (Err why))
      → GroupBut x group 0 (end_of {T = ℕ} (Err why)) (hs ++ hold ∷ [])
  unsealed_is k sum why less hs d hold is = record {
    left = (d.closes ++ d.seals) ++ hold ∷ [];
    leaves = leaves_then hs (d.closes ++ d.seals) (hold ∷ []) (hold ∷ []) d.leaves (leaves_self (hold ∷ []));
    does = inl (
      d.closes,
      d.seals ++ hold ∷ [],
      append_assoc d.closes d.seals (hold ∷ []),
      closed_phase d.closes d.closed,
      inr (
        not_went ℕ why,
        (
          sum,
          walk_stops (groups.Seals x.geometry x.perms group) (groups.SealStops x.geometry x.perms group) 0 k x.geometry.props.metaslabs d.seals sum hold (end_of {T = ℕ} (Err why)) (subst (λ n. k < n) all less) d.sealed (not_went ℕ why)
              (subst (λ m. groups.SealStops x.geometry x.perms group m hold (end_of {T = ℕ} (Err why))) (let same : k ≡ 0 + k = omega arith in same) is),
          λ went. absurd (not_went ℕ why went),
        ),
      ),
    );
  }

  starved_is : (k sum : ℕ) → k < count → (hs : List Hold) → SealedUpto x count group k sum hs → GroupBut x group 0 Starved hs
  starved_is k sum less hs d = record {
    left = d.closes ++ d.seals;
    leaves = d.leaves;
    does = inl (
      d.closes,
      d.seals,
      refl,
      closed_phase d.closes d.closed,
      inr (
        starved_not,
        (
          sum,
          walk_starves (groups.Seals x.geometry x.perms group) (groups.SealStops x.geometry x.perms group) 0 k x.geometry.props.metaslabs d.seals sum (subst (λ n. k < n) all less) d.sealed,
          λ went. absurd (starved_not went),
        ),
      ),
    );
  } where
    starved_not : Starved ≡ Went → ⊥
    starved_not is = absurd (cc)

  tells_unclosed : (why : SyncFault) (m : ℕ) (before after : Shard R A) → ClosesIn rack area group before (Err why) after → TellsAt rack area x m (λ hold. groups.CloseStops x.geometry x.perms group m hold (end_of {T = Unit} (Err why))) before after
  tells_unclosed why m before after c pieces y is = (let t = c.closes (part_in x m) pieces y is in record { act = t.act; reached = t.reached; acts = t.acts; done = t.done.0; is = t.is })

  tells_closed : (n m : ℕ) (before after : Shard R A) → ClosesIn rack area group before (Ok tt) after → TellsAt rack area x m (λ hold. groups.Closes x.geometry x.perms group m hold 0) before after
  tells_closed n m before after c pieces y is = (let t = c.closes (part_in x m) pieces y is in record { act = t.act; reached = t.reached; acts = t.acts; done = t.done.0; is = t.is })

module _ {R A G W : Type 0} (rack : racks.Ghosts R) (area : areas.Ghosts A) (x : State) (owns : ℕ → Bool) (own : owns groups_number ≡ true) (count : ℕ) (all : count ≡ x.geometry.props.metaslabs) (group : ℕ) where
  -- the hold that names it is made
  name_said : (a : Locked R A G W) (u : Uber A) (result : Result Unit SyncFault) → HasCame rack area x a → Says rack area x a a (name_hold u group result ∷ []) (λ hs. hs ≡ name_hold u group result ∷ [])
  name_said a u (Ok done) came = said_uber rack area x a (uber_view u) (Committed group) came
  name_said a u (Err sync.Shelf) came = said_uber rack area x a (uber_view u) (CommitFailed group) came
  name_said a u (Err sync.NoMemory) came = said_uber rack area x a (uber_view u) (CommitStarved group) came
  name_said a u (Err sync.Worn) came = said_uber rack area x a (uber_view u) (CommitStarved group) came
  name_said a u (Err sync.Last) came = said_uber rack area x a (uber_view u) (CommitStarved group) came

  -- ---- it is committed

  pub group_went : (a late b : Locked R A G W) (sum none : ℕ) (u v : Uber A) → group ≡ group_of (ubers.kept_of u) + 1 → Sealing rack area x owns own count group a late count sum → UberNames area group u (Ok tt) v
      → Each rack area x owns (λ n before after. Commits rack group before after) count late none b → Says rack area x a b (name_hold u group (Ok tt) ∷ []) (GroupBut x group sum Went)
  group_went a late b sum none u v next s names commits =
      let named = name_said late u (Ok tt) s.said.came in
      let each = round_said rack area x owns (λ n before after. Commits rack group before after) (λ m hold n. groups.Commits x.geometry x.perms group m hold) (tells_commit rack area x count all group) (λ n m v key w is. is) count none late b commits s.said.came in
      said_on rack area x a late b [] (name_hold u group (Ok tt) ∷ []) (SealedUpto x count group count sum) (λ hs. (ks : List Hold) × (hs ≡ name_hold u group (Ok tt) ∷ ks) × phases.Each (groups.Commits x.geometry x.perms group) 0 count ks) (GroupBut x group sum Went) s.said
      (said_on rack area x late late b (name_hold u group (Ok tt) ∷ []) [] (λ hs. hs ≡ name_hold u group (Ok tt) ∷ []) (λ hs. Walked (λ m hold n. groups.Commits x.geometry x.perms group m hold) 0 count hs none)
      (λ hs. (ks : List Hold) × (hs ≡ name_hold u group (Ok tt) ∷ ks) × phases.Each (groups.Commits x.geometry x.perms group) 0 count ks) named each
      (λ hs ks is w. (ks, ap (λ l. l ++ ks) is, each_of (groups.Commits x.geometry x.perms group) 0 count ks none w)))
      (λ hs ks d z. subst (λ l. GroupBut x group sum Went (hs ++ l)) (sym z.1) (went_is rack area x count all group sum u v next names hs d z.0 z.2))

  -- ---- the uberblock is refused it

  pub group_refused : (a b : Locked R A G W) (sum : ℕ) (why : SyncFault) (u v : Uber A) → group ≡ group_of (ubers.kept_of u) + 1 → Sealing rack area x owns own count group a b count sum → UberNames area group u (Err why) v
      → Says rack area x a b (name_hold u group (Err why) ∷ []) (GroupBut x group sum (end_of {T = Unit} (Err why)))
  group_refused a b sum why u v next s names =
      said_on rack area x a b b [] (name_hold u group (Err why) ∷ []) (SealedUpto x count group count sum) (λ hs. hs ≡ name_hold u group (Err why) ∷ []) (GroupBut x group sum (end_of {T = Unit} (Err why))) s.said (name_said b u (Err why) s.said.came)
      (λ hs ks d is. subst (λ l. GroupBut x group sum (end_of {T = Unit} (Err why)) (hs ++ l)) (sym is) (refused_is rack area x count all group sum why u v next names hs d))

  -- ---- the next metaslab stops it

  pub group_unsealed : (a b c : Locked R A G W) (k sum : ℕ) (why : SyncFault) → k < count → Sealing rack area x owns own count group a b k sum → Once rack area x owns (λ before after. SealsBy rack area group before (Err why) after) b k c
      → Says rack area x a c [] (GroupBut x group 0 (end_of {T = ℕ} (Err why)))
  group_unsealed a b c k sum why less s once =
      said_on rack area x a b c [] [] (SealedUpto x count group k sum) (IsOneOf (λ hold. groups.SealStops x.geometry x.perms group k hold (end_of {T = ℕ} (Err why)))) (GroupBut x group 0 (end_of {T = ℕ} (Err why))) s.said
      (said_one rack area x owns (λ before after. SealsBy rack area group before (Err why) after) (λ hold. groups.SealStops x.geometry x.perms group k hold (end_of {T = ℕ} (Err why))) b k c once s.said.came
      (tells_unsealed rack area x count all group why k once.before once.after once.did) (unsealed_ends x group k why)) (λ hs ks d one. subst (λ l. GroupBut x group 0 (end_of {T = ℕ} (Err why)) (hs ++ l)) (sym one.are) (unsealed_is rack area x count all group k sum why less hs d one.hold one.is))

  -- ---- memory is wanting as it is closed again

  pub group_starved : (a b : Locked R A G W) (k sum : ℕ) → k < count → Sealing rack area x owns own count group a b k sum → Says rack area x a b [] (GroupBut x group 0 Starved)
  group_starved a b k sum less s = said_as rack area x a b [] (SealedUpto x count group k sum) (GroupBut x group 0 Starved) s.said (starved_is rack area x count all group k sum less)

  -- ---- the first metaslab that isn't closed stops it

  pub group_unclosed : (a b c : Locked R A G W) (k none : ℕ) (why : SyncFault) → k < count → HasCame rack area x a → Each rack area x owns (λ n before after. ClosesIn rack area group before (Ok tt) after) k a none b
      → Once rack area x owns (λ before after. ClosesIn rack area group before (Err why) after) b k c → Says rack area x a c [] (GroupBut x group 0 (end_of {T = Unit} (Err why)))
  group_unclosed a b c k none why less came each once =
      let front = round_said rack area x owns (λ n before after. ClosesIn rack area group before (Ok tt) after) (λ m hold n. groups.Closes x.geometry x.perms group m hold 0) (tells_closed rack area x count all group) (λ n m v key w is. is) k none a b each came in
      let one = said_one rack area x owns (λ before after. ClosesIn rack area group before (Err why) after) (λ hold. groups.CloseStops x.geometry x.perms group k hold (end_of {T = Unit} (Err why))) b k c once front.came
      (tells_unclosed rack area x count all group why k once.before once.after once.did) (unclosed_ends x group k why) in
      said_on rack area x a b c [] [] (λ hs. Walked (λ m hold n. groups.Closes x.geometry x.perms group m hold 0) 0 k hs none) (IsOneOf (λ hold. groups.CloseStops x.geometry x.perms group k hold (end_of {T = Unit} (Err why)))) (GroupBut x group 0 (end_of {T = Unit} (Err why))) front one
      (λ hs ks w o. record {
        left = hs ++ ks;
        leaves = leaves_self (hs ++ ks);
        does = inr (
          not_went Unit why,
          subst (λ l. groups.ClosePhase x.geometry x.perms group (hs ++ l) (end_of {T = Unit} (Err why))) (sym o.are)
              (walk_stops (groups.Closes x.geometry x.perms group) (groups.CloseStops x.geometry x.perms group) 0 k x.geometry.props.metaslabs hs 0 o.hold (end_of {T = Unit} (Err why)) (subst (λ n. k < n) all less)
              (walked_zero (λ m hold. groups.Closes x.geometry x.perms group m hold 0) 0 k hs none (groups.Closes x.geometry x.perms group) (λ m hold is. is) w) (not_went Unit why)
              (subst (λ m. groups.CloseStops x.geometry x.perms group m o.hold (end_of {T = Unit} (Err why))) (let same : k ≡ 0 + k = omega arith in same) o.is)),
        );
      })
