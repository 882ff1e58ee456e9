-- What is so of a pool in which no group is closing, and of holds of metaslabs alone.
use Rattle.std.proofs.Common.{arith, ◌≡◌, ◌+◌, ◌≤◌, ◌∙◌, inl, inr, ℕ, zero, suc, true, false, List, [], ◌∷◌, Option, Some, None, refl, sym, ap, subst}
use Rattle.std.specs.Prelude.{⊤, is_some, slice_get}
use Rattle.std.proofs.lemmas.Option.{slice_get_within}
use Rattle.draid_rack.specs.declared.Rack as racks
use Rattle.draid_area.specs.declared.Area as areas
use Rattle.draid_spec.specs.declared.layout.Geometry.{Geometry}
use Rattle.draid_perm.specs.declared.perms.Perms.{Perms}
use Rattle.draid_machine.specs.State as machine
use Rattle.draid_machine.proofs.Small.{bool_cases, none_some}
use Rattle.draid_segments.specs.Segments.{Pieces}
use Rattle.draid_shard.specs.Fits.{AreGroups}
use Rattle.draid_shard.specs.Part.{Part}
use Rattle.draid_shard.specs.declared.shard.Shard.{Shard}
use Rattle.draid_session.specs.Follows.{Follows}
use Rattle.draid_session.specs.Groups as groups
use Rattle.draid_session.specs.Holds.{Hold, On, OnUber}
use Rattle.draid_session.specs.Looks.{AllOf}
use Rattle.draid_session.specs.Phases.{End, Walk}
use Rattle.draid_session.specs.State.{Metaslab, State}
use Rattle.draid_pool.specs.Metaslabs.{IsMetaslab}
use Rattle.draid_pool.specs.Pools.{Represents, part_in}
use Rattle.draid_pool.specs.Syncing.{AreIdle}
use Rattle.draid_pool.specs.Whole.{IsWhole}
use Rattle.draid_pool.specs.declared.pool.Pool.{Pool}
use Rattle.draid_pool.proofs.Lists.{present}
use Rattle.draid_pool.proofs.SyncCalls.{pool_group}
use Rattle.draid_pool.proofs.Turns.{state_sound}

-- ---- holds of metaslabs

abbrev pub IsOn : Hold → Type 0
IsOn (On v act) = ⊤
IsOn (OnUber u act) = ⊥

-- what they leave of the rest of a pool
pub record StaysBeside (x y : State) : Type 0 where
  pub committed : y.committed ≡ x.committed
  pub pending : y.pending ≡ x.pending

stays_same : (x y : State) → y ≡ x → StaysBeside x y
stays_same x y is = record { committed = ap (λ (s : State). s.committed) is; pending = ap (λ (s : State). s.pending) is }

stays_then : (x y z : State) → StaysBeside x y → StaysBeside y z → StaysBeside x z
stays_then x y z a b = record { committed = b.committed ∙ a.committed; pending = b.pending ∙ a.pending }

pub on_stays : (holds : List Hold) (x y : State) → AllOf IsOn holds → Follows holds x y → StaysBeside x y
on_stays [] x y all follows = stays_same x y follows
on_stays (On v act ∷ holds) x y all (mid, one, rest) =
    let made = one.made in
    stays_then x mid y (record { committed = ap (λ (s : State). s.committed) made; pending = ap (λ (s : State). s.pending) made }) (on_stays holds mid y all.1 rest)
on_stays (OnUber u act ∷ holds) x y all follows = absurd all.0

walk_on : (P : ℕ → Hold → ℕ → Type 0) (S : ℕ → Hold → End → Type 0) → ((m k : ℕ) (hold : Hold) → P m hold k → IsOn hold) → ((m : ℕ) (hold : Hold) (end : End) → S m hold end → IsOn hold) → (m n : ℕ) (holds : List Hold) (end : End) (sum : ℕ)
    → Walk P S m n holds end sum → AllOf IsOn holds
walk_on P S p s m zero holds end sum w = subst (AllOf IsOn) (sym w.0) tt
walk_on P S p s m (suc n) holds end sum (inl (hold, rest, k, more, are, sums, one, next)) = subst (AllOf IsOn) (sym are) (p m k hold one, walk_on P S p s (m + 1) n rest end more next)
walk_on P S p s m (suc n) holds end sum (inr (inl (hold, are, stopped, zero_is, one))) = subst (AllOf IsOn) (sym are) (s m hold end one, tt)
walk_on P S p s m (suc n) holds end sum (inr (inr (are, starved, zero_is))) = subst (AllOf IsOn) (sym are) tt

module _ (geometry : Geometry) (perms : Perms) (group : ℕ) where
  closes_on : (m k : ℕ) (hold : Hold) → groups.Closes geometry perms group m hold k → IsOn hold
  closes_on m k (On v act) is = tt
  closes_on m k (OnUber u act) is = is

  close_stops_on : (m : ℕ) (hold : Hold) (end : End) → groups.CloseStops geometry perms group m hold end → IsOn hold
  close_stops_on m (On v act) end is = tt
  close_stops_on m (OnUber u act) end is = is

  pub close_on : (holds : List Hold) (end : End) → groups.ClosePhase geometry perms group holds end → AllOf IsOn holds
  close_on holds end w = walk_on (groups.Closes geometry perms group) (groups.CloseStops geometry perms group) closes_on close_stops_on 0 geometry.props.metaslabs holds end 0 w

module _ {R A : Type 0} (rack : racks.Ghosts R) (area : areas.Ghosts A) where
  -- ---- no group is closing

  sealed_not : (part : Part) (pieces : Pieces) (shard : Shard R A) (y : Metaslab) → IsMetaslab rack area part pieces shard y → shard.closing ≡ None → y.world.sealed ≡ None
  sealed_not part pieces shard y is idle =
      let groups : (shard.open_group ≡ shard.committed + 1) × (shard.sealed ≡ false) = subst (λ o. AreGroups shard.open_group o shard.committed shard.sealed) idle is.valid.groups in
      by y.world.sealed (is.stands.is_in.sealed ∙ groups.1)
    where
      by : (o : Option machine.Image) → is_some o ≡ false → o ≡ None
      by None none = refl
      by (Some image) none = absurd (cc)

  -- no commit was refused
  pub idle_settled : (pool : Pool R A) (x : State) → Represents rack area pool x → AreIdle pool.metaslabs.shards.items → x.pending ≡ false
  idle_settled pool x r idle = elim (bool_cases x.pending) [
    | inl pending ↦ absurd (refused pending)
    | inr none ↦ none
  ]
    where
      some : (y : Metaslab) × (slice_get x.metaslabs 0 ≡ Some y)
      some = present x.metaslabs 0 (let many = r.stands.many in let one = r.stands.layout.geometry_is.props.some_metaslabs in omega (arith, many, one))

      shard : (z : Shard R A) × (slice_get pool.metaslabs.shards.items 0 ≡ Some z)
      shard = present pool.metaslabs.shards.items 0 (let long = r.stands.shards in let within = slice_get_within x.metaslabs 0 some.0 some.1 in omega (arith, long, within))

      refused : x.pending ≡ true → ⊥
      refused pending =
          let is = r.stands.each 0 shard.0 some.0 shard.1 some.1 in
          let has = r.stands.images (x.committed + 1) 0 some.0 (inr (pending, refl)) (omega arith) some.1 in
          let sound = state_sound rack area (part_in x 0) (r.stands.pieces 0) shard.0 some.0 is in
          let committed = r.stands.groups.committed 0 some.0 some.1 in
          elim has.is [
            | inl own ↦
                let of = has.of in
                let group : has.image.group ≡ some.0.world.committed = ap (λ (i : machine.Image). i.group) (sym own) ∙ sound.groups.image_is in
                absurd (omega (arith, of, group, committed))
            | inr sealed ↦ absurd (none_some some.0.world.sealed has.image (sealed_not (part_in x 0) (r.stands.pieces 0) shard.0 some.0 is (idle 0 shard.0 shard.1)) sealed)
          ]

  -- a metaslab has just one group open
  pub idle_open : (pool : Pool R A) (x : State) → (r : Represents rack area pool x) → AreIdle pool.metaslabs.shards.items → (m : ℕ) (y : Metaslab) → slice_get x.metaslabs m ≡ Some y → y.world.open_group ≡ x.committed + 1
  idle_open pool x r idle m y at =
      let within = slice_get_within x.metaslabs m y at in
      let same = r.stands.shards in
      let shard = present pool.metaslabs.shards.items m (omega (arith, within, same)) in
      let is = r.stands.each m shard.0 y shard.1 at in
      let groups : (shard.0.open_group ≡ shard.0.committed + 1) × (shard.0.sealed ≡ false) = subst (λ o. AreGroups shard.0.open_group o shard.0.committed shard.0.sealed) (idle m shard.0 shard.1) is.valid.groups in
      is.stands.is_in.open_group_is ∙ (groups.0 ∙ ap (λ n. n + 1) (sym is.stands.is_in.committed ∙ r.stands.groups.committed m y at))

  -- where no group is closing no call has used a group behind the next one
  pub low_idle : (pool : Pool R A) (x : State) → IsWhole rack area pool → AreIdle pool.metaslabs.shards.items → Represents rack area pool x → x.store.floor ≤ x.committed + 1
  low_idle pool x w idle r =
      let near = w.near in
      let is = w.shards near.metaslab near.shard near.there in
      let groups : (near.shard.open_group ≡ near.shard.committed + 1) × (near.shard.sealed ≡ false)
      = subst (λ o. AreGroups near.shard.open_group o near.shard.committed near.shard.sealed) (idle near.metaslab near.shard near.there) is.valid.groups in
      let up = near.near in
      let open_is = groups.0 in
      let own = is.committed in
      let group = pool_group rack area pool x r in
      let floor = r.stands.floor in
      omega (arith, up, open_is, own, group, floor)
