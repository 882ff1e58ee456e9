-- All metaslabs of a pool are looked at, and the other arms of a slot go, or all stay.
use Rattle.std.proofs.Common.{◌≡◌, ◌<◌, ◌+◌, ◌++◌, ◌∙◌, [], ◌∷◌, inl, inr, ℕ, zero, suc, List, Option, Some, None, Ok, Err, arith, refl, sym, ap, subst, length}
use Rattle.std.specs.Prelude.{slice_get, slice_index_or}
use Rattle.std.proofs.lemmas.Option.{slice_get_within}
use Rattle.draid_names.specs.declared.arm.Arm.{Arm}
use Rattle.draid_rack.specs.declared.Rack as racks
use Rattle.draid_area.specs.declared.Area as areas
use Rattle.draid_machine.specs.Arms.{HasEmptyLog, logged}
use Rattle.draid_machine.specs.State as machine
use Rattle.draid_machine.specs.declared.names.ArmName.{ArmName}
use Rattle.draid_machine.proofs.Small.{none_some}
use Rattle.draid_slots.specs.States.{arm_in}
use Rattle.draid_slots.specs.Table.{arms_of}
use Rattle.draid_pass.specs.declared.pass.Pass.{Pass}
use Rattle.draid_shard.specs.Part.{Part}
use Rattle.draid_shard.specs.declared.shard.Shard.{Shard}
use Rattle.draid_disks.specs.Checks.{Each}
use Rattle.draid_session.specs.Balance as balance
use Rattle.draid_session.specs.Looks.{AllOf, LooksFrom}
use Rattle.draid_session.specs.Phases.{Went}
use Rattle.draid_session.specs.State.{Metaslab, State}
use Rattle.draid_pool.specs.Carries.{CarriesOut}
use Rattle.draid_pool.specs.Keeping.{AllArmsStay}
use Rattle.draid_pool.specs.Passes.{KeepsPass, KeepsPasses}
use Rattle.draid_pool.specs.Pools.{Represents}
use Rattle.draid_pool.specs.Syncing.{end_of}
use Rattle.draid_pool.specs.Views.{seen_at}
use Rattle.draid_pool.specs.Whole.{IsWhole}
use Rattle.draid_pool.specs.declared.fault.SyncFault.{SyncFault}
use Rattle.draid_pool.specs.declared.pool.Pool.{Pool}
use Rattle.draid_pool.proofs.Lifted.{metaslab_of}
use Rattle.draid_pool.proofs.Lists.{present}
use Rattle.draid_pool.proofs.Looking.{changes_none, looked, looks_at}
use Rattle.draid_pool.proofs.Steps.{carried, follows_on, settled}
use Rattle.draid_pool.proofs.SyncSteps.{not_went}
use Rattle.draid_pool.proofs.WholeGroups.{first_shard}
use Rattle.draid_changes.specs.Balancing.{AllAlone, AllMayLose, GoDoes, HasNoPass, HasOthers, OthersDo, SomeGo, StayTogether}
use Rattle.draid_changes.proofs.Begun.{first_seen, seen_first}
use Rattle.draid_changes.proofs.Others.{has_them, last_named, lose_none, loses, names_alike, number_of, some_of_them}

-- ---- what is seen of all metaslabs

all_seen : (P : machine.State → Type 0) (n : ℕ) (ys : List Metaslab) → ((m : ℕ) (y : Metaslab) → slice_get ys m ≡ Some y → P y.world) → AllOf (λ v. P v.world) (seen_at n ys)
unfolding seen_at
all_seen P n [] each = tt
all_seen P n (y ∷ ys) each = (each 0 y refl, all_seen P (n + 1) ys (λ m z at. each (suc m) z at))

seen_all : (P : machine.State → Type 0) (n : ℕ) (ys : List Metaslab) → AllOf (λ v. P v.world) (seen_at n ys) → (m : ℕ) (y : Metaslab) → slice_get ys m ≡ Some y → P y.world
unfolding seen_at
seen_all P n [] all m y at = absurd (none_some None y refl at)
seen_all P n (z ∷ ys) all zero y at = (let same : z ≡ y = cc in subst (λ (v : Metaslab). P v.world) same all.0)
seen_all P n (z ∷ ys) all (suc m) y at = seen_all P (n + 1) ys all.1 m y at

-- ---- passes

no_pass_on : (old new : Option Pass) → KeepsPass old new → old ≡ None → new ≡ None
no_pass_on None None keeps is = refl
no_pass_on None (Some new) keeps is = absurd keeps
no_pass_on (Some old) None keeps is = refl
no_pass_on (Some old) (Some new) keeps is = absurd (none_some None old refl (sym is))

pub no_passes_on : {R A : Type 0} (old new : Pool R A) → KeepsPasses old new → HasNoPass old → HasNoPass new
no_passes_on old new keeps none m z there =
    let inside = slice_get_within new.metaslabs.shards.items m z there in
    let many = keeps.many in
    let was = present old.metaslabs.shards.items m (omega (arith, inside, many)) in
    no_pass_on was.0.pass z.pass (keeps.each m was.0 z was.1 there) (none m was.0 was.1)

-- ---- the last alone

pub all_alone : {R A : Type 0} (rack : racks.Ghosts R) (slot : ℕ) (last : ArmName) (pool : Pool R A) → AllMayLose slot [] last pool → AllAlone slot pool
all_alone rack slot last pool may = (number_of last, λ m z there. lose_none rack slot last z (may m z there))

-- a sync leaves it
pub alone_on : {R A : Type 0} (slot : ℕ) (mid new : Pool R A) → AllArmsStay mid new → AllAlone slot mid → AllAlone slot new
alone_on slot mid new stay (leaf, alone) = (
  leaf,
  λ m z there.
      (let inside = slice_get_within new.metaslabs.shards.items m z there in
      let many = stay.many in
      let was = present mid.metaslabs.shards.items m (omega (arith, inside, many)) in
      let one = alone m was.0 was.1 in
      (one.0, ap (λ (arms : List (List Arm)). slice_index_or arms slot []) (stay.each m was.0 z was.1 there).arms_stay ∙ one.1, one.2, one.3)),
)

-- ---- the pool

module _ {R A : Type 0} (rack : racks.Ghosts R) (area : areas.Ghosts A) (pool : Pool R A) (w : IsWhole rack area pool) (slot : ℕ) (low : slot < pool.geometry.spec.children) where
  pub low_there : Each (λ (shard : Shard R A). slot < shard.slots.geometry.spec.children) pool.metaslabs.shards.items
  low_there m shard there =
      let is = w.shards m shard there in
      subst (λ g. slot < g.spec.children) (sym (is.valid.slots.geometry_is ∙ ap (λ (p : Part). p.geometry) is.part)) low

  -- some may go where the last has others in each metaslab
  pub some_may_go : HasNoPass pool → Each (λ (shard : Shard R A). HasOthers shard.slots slot) pool.metaslabs.shards.items → SomeGo slot pool
  some_may_go none each =
      let first = first_shard rack area pool w in
      let z = some_of_them (arms_of first.0.slots slot) (each 0 first.0 first.1).others in (
        z.0,
        z.1,
        z.2,
        λ m shard there.
            loses rack slot z.0 z.1 z.2 first.0 shard z.3 (w.alike 0 m first.0 shard first.1 there).arms (low_there 0 first.0 first.1) (none m shard there) (each m shard there),
      )

  module _ (x : State) (r : Represents rack area pool x) where
    -- and so it is seen
    pub may_be : (errors : ℕ) (n : ArmName) (others : List ArmName) (last : ArmName) → errors ≡ 0 → AllMayLose slot (n ∷ others) last pool → balance.MayGo slot errors (seen_at 0 x.metaslabs) (n ∷ others)
    may_be errors n others last calm all =
        let first = first_shard rack area pool w in
        let z = metaslab_of rack area pool x r.stands 0 first.0 first.1 in
        let m = all 0 first.0 first.1 in
        record {
          last = last;
          order = seen_first (λ v. v.world.core.order slot ≡ (n ∷ others) ++ last ∷ []) x.metaslabs z.y z.at (z.is.stands.is_in.slots.order slot ∙ m.names);
          calm = calm;
          leaf = m.leaf;
          empty = all_seen (λ (v : machine.State). HasEmptyLog v.core last) 0 x.metaslabs empty;
          some = λ is. absurd (cc);
        }
      where
        empty : (m : ℕ) (y : Metaslab) → slice_get x.metaslabs m ≡ Some y → HasEmptyLog y.world.core last
        empty m y at g =
            let inside = slice_get_within x.metaslabs m y at in
            let long = r.stands.shards in
            let s = present pool.metaslabs.shards.items m (omega (arith, inside, long)) in
            let may = all m s.0 s.1 in
            let l = last_named (arms_of s.0.slots slot) (n ∷ others) last may.names in
            let has = (r.stands.each m s.0 y s.1 at).stands.is_in.slots.arms (record { slot = slot; arm = suc (length others) }) l.0 l.1 in
            ap (λ o. logged o g) (subst (λ q. y.world.core.arm q ≡ Some (arm_in s.0.slots (record { slot = slot; arm = suc (length others) }) l.0)) l.2 has) ∙ may.empty g

    -- it is so only where it is seen so
    pub only_then : (errors : ℕ) (others : List ArmName) → balance.MayGo slot errors (seen_at 0 x.metaslabs) others → Each (λ (shard : Shard R A). HasOthers shard.slots slot) pool.metaslabs.shards.items
    only_then errors others may m shard there =
        let first = first_shard rack area pool w in
        let z = metaslab_of rack area pool x r.stands 0 first.0 first.1 in
        let y = metaslab_of rack area pool x r.stands m shard there in
        let order = first_seen (λ v. v.world.core.order slot ≡ others ++ may.last ∷ []) x.metaslabs z.y z.at may.order in
        let names = names_alike (arms_of first.0.slots slot) (arms_of shard.slots slot) ((w.alike 0 m first.0 shard first.1 there).arms.slots slot (low_there 0 first.0 first.1)) ∙ (sym (z.is.stands.is_in.slots.order slot) ∙ order) in
        let l = last_named (arms_of shard.slots slot) others may.last names in
        let has = subst (λ q. y.y.world.core.arm q ≡ Some (arm_in shard.slots (record { slot = slot; arm = length others }) l.0)) l.2 (y.is.stands.is_in.slots.arms (record { slot = slot; arm = length others }) l.0 l.1) in
        has_them slot others may.last shard.slots names may.some may.leaf
        (λ g. ap (λ o. logged o g) (sym has) ∙ seen_all (λ (v : machine.State). HasEmptyLog v.core may.last) 0 x.metaslabs may.empty m y.y y.at g)

    -- none may go where there was an error, or a metaslab keeps them
    pub none_may_go : (errors : ℕ) → StayTogether slot errors pool → (others : List ArmName) → balance.MayGo slot errors (seen_at 0 x.metaslabs) others → ⊥
    none_may_go errors (inl some) others may = some may.calm
    none_may_go errors (inr (m, shard, there, none)) others may = none (only_then errors others may m shard there)

    -- ---- what becomes of them

    -- all metaslabs are looked at
    looking : LooksFrom 0 x.geometry.props.metaslabs (looks_at 0 x.metaslabs) (seen_at 0 x.metaslabs)
    looking = subst (λ n. LooksFrom 0 n (looks_at 0 x.metaslabs) (seen_at 0 x.metaslabs)) r.stands.many (looked 0 x.metaslabs)

    pub all_stay : (errors : ℕ) → ((others : List ArmName) → balance.MayGo slot errors (seen_at 0 x.metaslabs) others → ⊥) → CarriesOut rack area pool x (OthersDo x slot errors (Ok None))
    all_stay errors none =
        carried rack area pool x (looks_at 0 x.metaslabs ++ []) x (OthersDo x slot errors (Ok None)) (follows_on (looks_at 0 x.metaslabs) [] x x x (changes_none x [] x.metaslabs 0 refl refl) refl) r
        (refl, record { views = seen_at 0 x.metaslabs; looks = looks_at 0 x.metaslabs; rest = []; are = refl; looked = looking; does = inl (none, refl, refl) })

    module _ (new : Pool R A) (errors : ℕ) (n : ArmName) (others : List ArmName) (last : ArmName) (calm : errors ≡ 0) (all : AllMayLose slot (n ∷ others) last pool) where
      pub all_go : (group : ℕ) → CarriesOut rack area new x (GoDoes x slot (n ∷ others) (Ok group)) → CarriesOut rack area new x (OthersDo x slot errors (Ok (Some group)))
      all_go group c =
          carried rack area new x (looks_at 0 x.metaslabs ++ c.holds) c.reached (OthersDo x slot errors (Ok (Some group))) (follows_on (looks_at 0 x.metaslabs) c.holds x x c.reached (changes_none x [] x.metaslabs 0 refl refl) c.follows)
          (settled rack area new x (GoDoes x slot (n ∷ others) (Ok group)) c c.done.0) (
            refl,
            record {
              views = seen_at 0 x.metaslabs;
              looks = looks_at 0 x.metaslabs;
              rest = c.holds;
              are = refl;
              looked = looking;
              does = inr (n ∷ others, group, c.done.1.0, Went, may_be errors n others last calm all, c.done.1.1, inl (refl, refl));
            },
          )

      pub some_stop : (why : SyncFault) → CarriesOut rack area new x (GoDoes x slot (n ∷ others) (Err why)) → CarriesOut rack area new x (OthersDo x slot errors (Err why))
      some_stop why c =
          carried rack area new x (looks_at 0 x.metaslabs ++ c.holds) c.reached (OthersDo x slot errors (Err why)) (follows_on (looks_at 0 x.metaslabs) c.holds x x c.reached (changes_none x [] x.metaslabs 0 refl refl) c.follows)
          (settled rack area new x (GoDoes x slot (n ∷ others) (Err why)) c c.done.0) (
            refl,
            record {
              views = seen_at 0 x.metaslabs;
              looks = looks_at 0 x.metaslabs;
              rest = c.holds;
              are = refl;
              looked = looking;
              does = inr (n ∷ others, c.done.1.0, c.done.1.1, end_of {T = ℕ} (Err why), may_be errors n others last calm all, c.done.1.2, inr (not_went ℕ why, refl));
            },
          )
