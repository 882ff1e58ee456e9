-- A change of a pool's arms: what is closing is finished, all is looked at, and then it is refused, or goes on to its end.
use Rattle.std.proofs.Common.{◌≡◌, ◌≢◌, ◌++◌, ◌∙◌, [], ◌∷◌, inl, inr, List, Some, None, Err, refl, sym, ap, subst, slice_index_or}
use Rattle.std.specs.Prelude.{IsErrOf, slice_get}
use Rattle.std.proofs.lemmas.Option.{slice_get_within}
use Rattle.draid_names.specs.declared.refusal.SlotFault.{SlotFault}
use Rattle.draid_rack.specs.declared.Rack as racks
use Rattle.draid_area.specs.declared.Area as areas
use Rattle.draid_spec.specs.declared.layout.Geometry.{Geometry}
use Rattle.draid_perm.specs.declared.perms.Perms.{Perms}
use Rattle.draid_machine.proofs.Small.{none_some}
use Rattle.draid_shard.specs.declared.shard.Shard.{Shard}
use Rattle.draid_session.specs.Arms as arms
use Rattle.draid_session.specs.Follows.{Follows}
use Rattle.draid_session.specs.Groups as groups
use Rattle.draid_session.specs.Holds.{Hold, LookedUber, OnUber, UberView, View, view_of}
use Rattle.draid_session.specs.Looks.{LooksFrom}
use Rattle.draid_session.specs.Phases.{Broke, Chain, End, Starved, WasWorn, Went}
use Rattle.draid_session.specs.State.{Metaslab, State, Store}
use Rattle.draid_pool.specs.Carries.{CarriesOut}
use Rattle.draid_pool.specs.Pools.{Represents}
use Rattle.draid_pool.specs.Syncing.{Phase, end_of}
use Rattle.draid_pool.specs.declared.fault.SyncFault.{SyncFault}
use Rattle.draid_pool.specs.declared.fault.SyncFault.TheVariants as sync
use Rattle.draid_pool.specs.Views.{seen_at}
use Rattle.draid_pool.specs.Whole.{IsWhole}
use Rattle.draid_pool.specs.declared.pool.Pool.{Pool}
use Rattle.draid_pool.proofs.Lifted.{HasMetaslab, metaslab_of}
use Rattle.draid_pool.proofs.Looking.{changes_none, looked, looks_at}
use Rattle.draid_pool.proofs.SyncSteps.{borrowed_at, not_went}
use Rattle.draid_pool.proofs.WholeGroups.{first_shard}
use Rattle.draid_pool.proofs.Steps.{carried, carries_so, follows_on, own_of, same_layout, settled}
use Rattle.draid_changes.specs.Answers.{ChangeStops, EndsIn, IsFor}
use Rattle.draid_changes.specs.declared.fault.ArmFault.{ArmFault}
use Rattle.draid_changes.specs.declared.fault.ArmFault.TheVariants as armed

-- ---- answers

-- a shelf that failed is that which failed first
pub shelf_first : (why : SyncFault) (fault : ArmFault) → IsFor why fault → fault ≡ armed.Shelf → why ≡ sync.Shelf
shelf_first sync.Worn fault is own = absurd (let both : armed.Worn ≡ armed.Shelf = sym is ∙ own in cc)
shelf_first sync.Last fault is own = absurd is
shelf_first sync.Shelf fault is own = refl
shelf_first sync.NoMemory fault is own = absurd (let both : armed.NoMemory ≡ armed.Shelf = sym is ∙ own in cc)

pub err_of : (T : Type 0) (a b : ArmFault) → IsErrOf {T = T} (Err a) b → a ≡ b
err_of T a b is = cc

pub err_same : {T : Type 0} (a b : ArmFault) → IsErrOf {T = T} (Err a) b → a ≡ b
err_same a b is = cc

pub worn_no_way : WasWorn ≢ Went
worn_no_way is = cc

pub broke_no_way : Broke ≢ Went
broke_no_way is = cc

pub starved_no_way : Starved ≢ Went
starved_no_way is = cc

-- ---- what is seen

-- which rule is broken, by what is seen; what a change does then; a phase of it
abbrev pub BreaksIs : Type 1
BreaksIs = Geometry → Perms → List View → UberView → SlotFault → Type 0

abbrev pub DoesIs : Type 1
DoesIs = Geometry → Perms → List View → UberView → List Hold → End → Type 0

abbrev pub PhaseIs : Type 1
PhaseIs = Geometry → Perms → List Hold → End → Type 0

abbrev pub uber_of : State → UberView
uber_of y = record { committed = y.committed; next_leaf = y.next_leaf }

-- the first metaslab is so just where its view is
pub first_seen : (P : View → Type 0) (ys : List Metaslab) (y : Metaslab) → slice_get ys 0 ≡ Some y → arms.OnFirst P (seen_at 0 ys) → P (view_of 0 y)
unfolding seen_at
first_seen P [] y there on = absurd on
first_seen P (z ∷ ys) y there on = (let same : z ≡ y = cc in subst (λ v. P (view_of 0 v)) same on)

pub seen_first : (P : View → Type 0) (ys : List Metaslab) (y : Metaslab) → slice_get ys 0 ≡ Some y → P (view_of 0 y) → arms.OnFirst P (seen_at 0 ys)
unfolding seen_at
seen_first P [] y there is = absurd (none_some None y refl there)
seen_first P (z ∷ ys) y there is = (let same : z ≡ y = cc in subst (λ v. P (view_of 0 v)) (sym same) is)

pub follow : (x y z : State) (finish rest : List Hold) → Follows finish x y → Follows rest y z → Follows (finish ++ (looks_at 0 y.metaslabs ++ OnUber (uber_of y) LookedUber ∷ rest)) x z
follow x y z finish rest a b =
    follows_on finish (looks_at 0 y.metaslabs ++ OnUber (uber_of y) LookedUber ∷ rest) x y z a
    (follows_on (looks_at 0 y.metaslabs) (OnUber (uber_of y) LookedUber ∷ rest) y y z (changes_none y [] y.metaslabs 0 refl refl) (y, record { sees = refl; acts = refl }, b))

module _ {R A : Type 0} (rack : racks.Ghosts R) (area : areas.Ghosts A) where
  -- a closing group was finished, if there was one
  abbrev pub Finished : Pool R A → State → Type 0
  Finished mid x = CarriesOut rack area mid x (Phase x (groups.Finishes x.geometry x.perms) Went)

  pub begun : (mid : Pool R A) (x : State) (c : Finished mid x) (rest : List Hold)
      → arms.Begins x.geometry x.perms (c.holds ++ (looks_at 0 c.reached.metaslabs ++ OnUber (uber_of c.reached) LookedUber ∷ rest)) (seen_at 0 c.reached.metaslabs) (uber_of c.reached) rest
  begun mid x c rest = record {
    finish = c.holds;
    looks = looks_at 0 c.reached.metaslabs;
    are = refl;
    finishes = c.done.1;
    looked = subst (λ n. LooksFrom 0 n (looks_at 0 c.reached.metaslabs) (seen_at 0 c.reached.metaslabs))
        (c.represents.stands.many ∙ ap (λ (g : Geometry). g.props.metaslabs) (same_layout c.holds x c.reached c.follows).geometry) (looked 0 c.reached.metaslabs);
  }

  -- the first metaslab
  pub first_of : (mid : Pool R A) (y : State) (first : Shard R A) (r : Represents rack area mid y) → slice_get mid.metaslabs.shards.items 0 ≡ Some first → HasMetaslab rack area mid y r.stands 0 first
  first_of mid y first r there = metaslab_of rack area mid y r.stands 0 first there

  -- it was borrowed
  pub first_borrowed : (mid : Pool R A) (first : Shard R A) → IsWhole rack area mid → first ≡ slice_index_or mid.metaslabs.shards.items 0 first → slice_get mid.metaslabs.shards.items 0 ≡ Some first
  first_borrowed mid first w is = (let one = first_shard rack area mid w in borrowed_at mid.metaslabs.shards.items 0 first (slice_get_within mid.metaslabs.shards.items 0 one.0 one.1) is)

  -- ---- by the rules and by what is done

  module _ (Breaks : BreaksIs) where
    -- a rule is broken
    pub refused : (mid : Pool R A) (x : State) (why : SlotFault) → Finished mid x → ((y : State) → Represents rack area mid y → Breaks y.geometry y.perms (seen_at 0 y.metaslabs) (uber_of y) why)
        → CarriesOut rack area mid x (λ holds store. (store ≡ x.store) × arms.Refuses x.geometry x.perms (Breaks x.geometry x.perms) why holds)
    refused mid x why c broken =
        let y = c.reached in
        let same = same_layout c.holds x y c.follows in
        let r = settled rack area mid x (Phase x (groups.Finishes x.geometry x.perms) Went) c c.done.0 in
        carried rack area mid x (c.holds ++ (looks_at 0 y.metaslabs ++ OnUber (uber_of y) LookedUber ∷ [])) y
        (λ holds store. (store ≡ x.store) × arms.Refuses x.geometry x.perms (Breaks x.geometry x.perms) why holds) (follow x y y c.holds [] c.follows refl) r (
          refl,
          record {
            views = seen_at 0 y.metaslabs;
            u = uber_of y;
            begins = begun mid x c [];
            broken = own_of x y (λ g p store. Breaks g p (seen_at 0 y.metaslabs) (uber_of y) why) same (broken y r);
          },
        )

    module _ (Does : DoesIs) where
      abbrev pub ComesTo : State → End → List Hold → Type 0
      ComesTo x end holds = arms.Comes x.geometry x.perms (Breaks x.geometry x.perms) (Does x.geometry x.perms) holds end

      -- none is, and what is done then comes to this end
      pub goes : (mid new : Pool R A) (x : State) (end : End) → Finished mid x → ((y : State) → Represents rack area mid y → (why : SlotFault) → Breaks y.geometry y.perms (seen_at 0 y.metaslabs) (uber_of y) why → ⊥)
          → ((y : State) → Represents rack area mid y → CarriesOut rack area new y (Phase y (Does y.geometry y.perms (seen_at 0 y.metaslabs) (uber_of y)) end))
          → CarriesOut rack area new x (λ holds store. (store ≡ x.store) × ComesTo x end holds)
      goes mid new x end c none next =
          let y = c.reached in
          let same = same_layout c.holds x y c.follows in
          let r = settled rack area mid x (Phase x (groups.Finishes x.geometry x.perms) Went) c c.done.0 in
          let d = next y r in
          carried rack area new x (c.holds ++ (looks_at 0 y.metaslabs ++ OnUber (uber_of y) LookedUber ∷ d.holds)) d.reached (λ holds store. (store ≡ x.store) × ComesTo x end holds)
          (follow x y d.reached c.holds d.holds c.follows d.follows)
          (settled rack area new y (Phase y (Does y.geometry y.perms (seen_at 0 y.metaslabs) (uber_of y)) end) d d.done.0) (
            refl,
            inl (record {
              views = seen_at 0 y.metaslabs;
              u = uber_of y;
              rest = d.holds;
              begins = begun mid x c d.holds;
              none = own_of x y (λ g p store. (why : SlotFault) → Breaks g p (seen_at 0 y.metaslabs) (uber_of y) why → ⊥) same (none y r);
              does = own_of x y (λ g p store. Does g p (seen_at 0 y.metaslabs) (uber_of y) d.holds end) same d.done.1;
            }),
          )

      -- an answer that is this end
      pub stops_so : (new : Pool R A) (x : State) (fault : ArmFault) (end : End) → EndsIn fault end → CarriesOut rack area new x (λ holds store. (store ≡ x.store) × ComesTo x end holds)
          → CarriesOut rack area new x (ChangeStops x (Breaks x.geometry x.perms) (Does x.geometry x.perms) fault)
      stops_so new x fault end is c =
          carries_so rack area new x (λ holds store. (store ≡ x.store) × ComesTo x end holds) (ChangeStops x (Breaks x.geometry x.perms) (Does x.geometry x.perms) fault) c (λ holds store done. by fault is holds store done.0 done.1)
        where
          by : (f : ArmFault) → EndsIn f end → (holds : List Hold) (store : Store) → store ≡ x.store → ComesTo x end holds → ChangeStops x (Breaks x.geometry x.perms) (Does x.geometry x.perms) f holds store
          by (armed.Slot why) is holds store kept comes = absurd is
          by armed.Worn is holds store kept comes = (kept, subst (λ e. ComesTo x e holds) is comes)
          by armed.Shelf is holds store kept comes = (kept, subst (λ e. ComesTo x e holds) is comes)
          by armed.NoMemory is holds store kept comes = (kept, inl (subst (λ e. ComesTo x e holds) is comes))

      -- a closing group couldn't be committed first
      pub unfinished : (mid : Pool R A) (x : State) (why : SyncFault) (fault : ArmFault) → IsFor why fault → CarriesOut rack area mid x (Phase x (groups.Finishes x.geometry x.perms) (end_of {T = Unit} (Err why)))
          → CarriesOut rack area mid x (ChangeStops x (Breaks x.geometry x.perms) (Does x.geometry x.perms) fault)
      unfinished mid x sync.Worn fault is c =
          subst (λ f. CarriesOut rack area mid x (ChangeStops x (Breaks x.geometry x.perms) (Does x.geometry x.perms) f)) (sym is)
          (carries_so rack area mid x (Phase x (groups.Finishes x.geometry x.perms) WasWorn) (ChangeStops x (Breaks x.geometry x.perms) (Does x.geometry x.perms) armed.Worn) c (λ holds store done. (done.0, inr (not_went Unit sync.Worn, λ is. absurd (cc), done.1))))
      unfinished mid x sync.Last fault is c = absurd is
      unfinished mid x sync.Shelf fault is c =
          subst (λ f. CarriesOut rack area mid x (ChangeStops x (Breaks x.geometry x.perms) (Does x.geometry x.perms) f)) (sym is)
          (carries_so rack area mid x (Phase x (groups.Finishes x.geometry x.perms) Broke) (ChangeStops x (Breaks x.geometry x.perms) (Does x.geometry x.perms) armed.Shelf) c (λ holds store done. (done.0, inr (not_went Unit sync.Shelf, λ is. absurd (cc), done.1))))
      unfinished mid x sync.NoMemory fault is c =
          subst (λ f. CarriesOut rack area mid x (ChangeStops x (Breaks x.geometry x.perms) (Does x.geometry x.perms) f)) (sym is)
          (carries_so rack area mid x (Phase x (groups.Finishes x.geometry x.perms) Starved) (ChangeStops x (Breaks x.geometry x.perms) (Does x.geometry x.perms) armed.NoMemory) c
          (λ holds store done. (done.0, inl (inr (not_went Unit sync.NoMemory, λ is. absurd (cc), done.1)))))

  -- a phase stopped, and another one would have followed it
  pub chain_stops : (P Q : PhaseIs) (new : Pool R A) (y : State) (end : End) → end ≢ Went → CarriesOut rack area new y (Phase y (P y.geometry y.perms) end)
      → CarriesOut rack area new y (Phase y (Chain (P y.geometry y.perms) (Q y.geometry y.perms)) end)
  chain_stops P Q new y end stopped c =
      carries_so rack area new y (Phase y (P y.geometry y.perms) end) (Phase y (Chain (P y.geometry y.perms) (Q y.geometry y.perms)) end) c (λ holds store done. (done.0, inr (stopped, done.1)))
