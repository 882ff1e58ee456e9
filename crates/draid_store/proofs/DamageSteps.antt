-- A sector of a pool is damaged: what its shard did, as a call of the pool.
use Rattle.std.proofs.Common.{◌≡◌, ◌≤◌, ◌<◌, ◌/◌, ◌%◌, ◌∙◌, [], ◌∷◌, ℕ, false, true, List, Some, Ok, Err, arith, refl, sym, ap, subst, inl, inr, slice_index_or}
use Rattle.std.specs.Prelude.{Result, slice_get}
use Rattle.std.proofs.Math.Nat.{mod-lt}
use Rattle.draid_rack.specs.declared.Rack as racks
use Rattle.draid_area.specs.declared.Area as areas
use Rattle.draid_spec.specs.declared.layout.Geometry.{Geometry}
use Rattle.draid_spec.specs.Geometry.{metaslab_sectors}
use Rattle.draid_machine.specs.declared.event.Event.TheVariants as event
use Rattle.draid_segments.specs.Segments.{Pieces}
use Rattle.draid_shard.specs.Part.{Part}
use Rattle.draid_shard.specs.declared.shard.Shard.{Shard}
use Rattle.draid_session.specs.Damage.{metaslab_at, sector_within}
use Rattle.draid_session.specs.Holds.{Did, Hold, Looked, On, Reserved, view_of}
use Rattle.draid_session.specs.Looks.{OnlyLooks}
use Rattle.draid_session.specs.State.{Metaslab, State}
use Rattle.draid_store.specs.Answers.{DamageDoes}
use Rattle.draid_pool.specs.Carries.{CarriesOut}
use Rattle.draid_pool.specs.Metaslabs.{IsMetaslab}
use Rattle.draid_pool.specs.Pools.{Represents, part_in}
use Rattle.draid_pool.specs.Shards.{Goes, SameBlocks}
use Rattle.draid_store.specs.Shards.{SectorDoes}
use Rattle.draid_pool.specs.Whole.{IsWhole}
use Rattle.draid_store.specs.declared.fault.DamageFault.{DamageFault}
use Rattle.draid_store.specs.declared.fault.DamageFault.TheVariants as fault
use Rattle.draid_pool.specs.declared.pool.Pool.{Pool}
use Rattle.draid_pool.proofs.Lifted.{HasMetaslab, SetsShard, carries, carries_none, metaslab_of, shard_at}
use Rattle.draid_pool.proofs.Lists.{present}
use Rattle.draid_pool.proofs.Wholes.{whole_geometry}

-- what was done to the sector of a metaslab was done to that of the pool
damage_does : (x : State) (leaf sector k within : ℕ) (y : Metaslab) → k ≡ metaslab_at x.geometry sector → within ≡ sector_within x.geometry sector → k < x.geometry.props.metaslabs
    → (r : Result Unit DamageFault) (holds : List Hold) → SectorDoes (part_in x k) leaf within y r holds → DamageDoes x leaf sector r holds x.store
damage_does x leaf sector k within y at in_it below (Ok done) holds s = (
  refl,
  record {
    v = view_of k y;
    u = view_of k s.mid;
    after = s.after;
    are = s.are ∙ ap (λ n. On (view_of k y) (Reserved 1) ∷ (On (view_of k s.mid) (Did (event.Damage leaf n false) s.after) ∷ [])) in_it;
    there = (at, at);
    not_worn = s.not_worn;
  },
)
damage_does x leaf sector k within y at in_it below (Err fault.Failed) holds s = (
  refl,
  record {
    v = view_of k y;
    u = view_of k s.mid;
    after = s.after;
    are = s.are ∙ ap (λ n. On (view_of k y) (Reserved 1) ∷ (On (view_of k s.mid) (Did (event.Damage leaf n true) s.after) ∷ [])) in_it;
    there = (at, at);
    not_worn = s.not_worn;
  },
)
damage_does x leaf sector k within y at in_it below (Err fault.NoSuch) holds s = (
  refl,
  inr (record {
    hold = On (view_of k y) Looked;
    v = view_of k y;
    are = s.0;
    looked = record { looked = refl; there = at };
    inside = subst (λ n. n < x.geometry.props.metaslabs) at below;
    lacks = s.1;
  }),
)
damage_does x leaf sector k within y at in_it below (Err fault.Worn) holds s =
    (refl, record { hold = On (view_of k y) Looked; v = view_of k y; are = s.0; looked = record { looked = refl; there = at }; has = s.1; worn = s.2 })
damage_does x leaf sector k within y at in_it below (Err fault.NoMemory) holds s = (refl, subst OnlyLooks (sym s) tt)

module _ {R A : Type 0} (rack : racks.Ghosts R) (area : areas.Ghosts A) where
  -- the shard of a metaslab below their number
  pub damage_shard : (pool : Pool R A) (k metaslabs : ℕ) (shard : Shard R A) → IsWhole rack area pool → metaslabs ≡ pool.geometry.props.metaslabs → k < metaslabs
      → shard ≡ slice_index_or pool.metaslabs.shards.items k shard → slice_get pool.metaslabs.shards.items k ≡ Some shard
  damage_shard pool k metaslabs shard w are below value =
      let many = w.many in
      let z = present pool.metaslabs.shards.items k (omega (arith, many, are, below)) in
      shard_at pool.metaslabs.shards.items k z.0 shard z.1 value

  pub sector_below : (pool : Pool R A) (k sector sectors : ℕ) (shard : Shard R A) → IsWhole rack area pool → slice_get pool.metaslabs.shards.items k ≡ Some shard
      → sectors ≡ metaslab_sectors pool.geometry → 0 < sectors → sector % sectors < metaslab_sectors shard.geometry
  sector_below pool k sector sectors shard w there is some =
      let same = is ∙ ap metaslab_sectors (sym (whole_geometry rack area pool k shard w there)) in
      subst (λ n. sector % sectors < n) same (mod-lt sector some)

  pub damage_none : (pool : Pool R A) (x : State) (leaf sector sectors metaslabs : ℕ) → Represents rack area pool x → sectors ≡ metaslab_sectors pool.geometry → metaslabs ≡ pool.geometry.props.metaslabs
      → metaslabs ≤ sector / sectors → CarriesOut rack area pool x (DamageDoes x leaf sector (Err fault.NoSuch))
  damage_none pool x leaf sector sectors metaslabs r is are past =
      let same = is ∙ ap metaslab_sectors (sym r.stands.geometry) in
      let count = are ∙ ap (λ (g : Geometry). g.props.metaslabs) (sym r.stands.geometry) in
      carries_none rack area pool x (DamageDoes x leaf sector (Err fault.NoSuch)) r
      (refl, inl (subst (λ n. n ≤ metaslab_at x.geometry sector) count (subst (λ n. metaslabs ≤ sector / n) same past), refl))

  pub damage_done : (pool new : Pool R A) (shard shard' : Shard R A) (x : State) (leaf sector sectors metaslabs : ℕ) (result : Result Unit DamageFault) → Represents rack area pool x
      → SetsShard rack area (sector / sectors) pool new shard shard' → sectors ≡ metaslab_sectors pool.geometry → metaslabs ≡ pool.geometry.props.metaslabs → sector / sectors < metaslabs
      → ((part : Part) (pieces : Pieces) (y : Metaslab) → IsMetaslab rack area part pieces shard y
      → Goes rack area part pieces y shard' (λ holds y'. SectorDoes part leaf (sector % sectors) y result holds × SameBlocks y y'))
      → CarriesOut rack area new x (DamageDoes x leaf sector result)
  damage_done pool new shard shard' x leaf sector sectors metaslabs result r set is are below goes =
      let k : ℕ = sector / sectors in
      let z : HasMetaslab rack area pool x r.stands k shard = metaslab_of rack area pool x r.stands k shard set.there in
      let same = is ∙ ap metaslab_sectors (sym r.stands.geometry) in
      let count = are ∙ ap (λ (g : Geometry). g.props.metaslabs) (sym r.stands.geometry) in
      carries rack area k pool new shard shard' x z.y (λ holds y'. SectorDoes (part_in x k) leaf (sector % sectors) z.y result holds × SameBlocks z.y y') (DamageDoes x leaf sector result) r set z.at
      (goes (part_in x k) (r.stands.pieces k) z.y z.is)
      (λ holds y' did. (did.1, damage_does x leaf sector k (sector % sectors) z.y (ap (λ n. sector / n) same) (ap (λ n. sector % n) same) (subst (λ n. k < n) count below) result holds did.0))
