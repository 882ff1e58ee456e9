-- The metaslabs of a pool that rests on a shelf have the same arms, and no block twice, as an import opens them.
use Rattle.std.proofs.Common.{arith, ◌≡◌, ◌∙◌, inl, inr, ℕ, List, Option, Some, None, Err, refl, sym, ap, subst}
use Rattle.std.specs.declared.alloc.Global.{Global}
use Rattle.std.specs.Prelude.{IsErrOf, slice_get}
use Rattle.std.proofs.lemmas.Option.{slice_get_within}
use Rattle.draid_record.specs.declared.fault.RecordFaultKind.{RecordFaultKind}
use Rattle.draid_area.specs.declared.Area as areas
use Rattle.draid_rack.specs.Rack.{Shape}
use Rattle.draid_rack.specs.declared.Rack as racks
use Rattle.draid_spec.specs.declared.layout.Geometry.{Geometry}
use Rattle.draid_machine.specs.declared.names.Key.{Key}
use Rattle.draid_machine.specs.After.{seal_held}
use Rattle.draid_machine.specs.Created.{IsReached}
use Rattle.draid_machine.specs.State as machine
use Rattle.draid_machine.proofs.Standing.{every_image}
use Rattle.draid_layouts.specs.Layout.{layout_of as metaslab_layout}
use Rattle.draid_entries.specs.Entries.{held_in}
use Rattle.draid_entries.specs.Maps.{held_at}
use Rattle.draid_objects.specs.Blocks.{sealed_at}
use Rattle.draid_segments.specs.Segments.{Pieces}
use Rattle.draid_shelf.specs.Kits.{Held, KitCounts}
use Rattle.draid_pool.specs.Taking.{takes_areas}
use Rattle.draid_shard.specs.Part.{Part}
use Rattle.draid_shard.specs.declared.shard.Shard.{Shard}
use Rattle.draid_shard.proofs.Held.{key_leads}
use Rattle.draid_shard.proofs.Standing.{has_layout}
use Rattle.draid_uber.specs.Slots.{group_of}
use Rattle.draid_uber.specs.Uber.{kept_of, layout_of, next_leaf_of}
use Rattle.draid_uber.specs.declared.uber.Uber.{Uber}
use Rattle.draid_session.specs.Opening.{Reopens}
use Rattle.draid_session.specs.State.{Metaslab, State, limit_of}
use Rattle.draid_import.specs.Found.{AreReopened, IsFoundUber, IsRecovered, NoRecord, OpensAllOver}
use Rattle.draid_pool.specs.Importable.{SameArms}
use Rattle.draid_import.specs.Imported.{OpensFound}
use Rattle.draid_import.specs.Importing.{RestsThere}
use Rattle.draid_pool.specs.Objects.{blocks_of}
use Rattle.draid_pool.specs.Pools.{part_in}
use Rattle.draid_found.specs.Together.{AreApart, HasBlock}
use Rattle.draid_shard.specs.Alike.{HaveSameArms}
use Rattle.draid_import.specs.declared.fault.ImportFault.{ImportFault}
use Rattle.draid_import.specs.declared.fault.ImportFault.TheVariants as fault
use Rattle.draid_pool.proofs.Arms.{have_same}
use Rattle.draid_import.proofs.ImportAlike.{found_alike, found_once}
use Rattle.draid_import.proofs.ImportFound.{part_there}
use Rattle.draid_import.proofs.ImportOpened.{all_reached}
use Rattle.draid_import.proofs.ImportPool.{FoundBody, as_many_found, body_found, each_found}
use Rattle.draid_import.proofs.ImportVersion.{found_at}
use Rattle.draid_pool.proofs.Lists.{present}
use Rattle.draid_pool.proofs.Moved.{blocks_at}

-- what a metaslab holds that was opened from its image of a group
reopened_held : (x : State) (group m : ℕ) (y z : Metaslab) (k : Key) → machine.IsLayout (metaslab_layout x.geometry x.perms m) → IsReached (metaslab_layout x.geometry x.perms m) y.world
    → Reopens x.geometry x.perms group m y z → z.world.core.held k ≡ seal_held group (y.world.core.held k)
reopened_held x group m y z k lay reached r =
    ap (λ (w : machine.State). w.core.held k) (r.world ∙ r.opened)
    ∙ (((every_image (metaslab_layout x.geometry x.perms m) y.world lay reached).each r.image r.is).blocks k ∙ ap (λ g. seal_held g (y.world.core.held k)) r.of)

module _ {R A : Type 0} (rack : racks.Ghosts R) (area : areas.Ghosts A) (x : State) (pieces : ℕ → Pieces) (held : Held) (leaves : ℕ → Option Shape) (counts : ℕ → KitCounts) (count : ℕ)
    (there : RestsThere x pieces (Some held) leaves counts count) (uber : Uber A) (found : IsFoundUber area uber) (r : IsRecovered area (Some held) count uber) (b : FoundBody area x uber)
    (alloc : Global) (known : ℕ → Option Shape) (now : ℕ → KitCounts) (shards : List (Shard R A)) (counted : (k : ℕ) → now k ≡ counts k) (re : AreReopened rack (layout_of uber) (group_of (kept_of uber)) shards)
    (over : OpensAllOver rack area (limit_of (layout_of uber)) (group_of (kept_of uber)) (next_leaf_of uber) (takes_areas (Some held)) known now shards) where
  -- a shard with the metaslab of the state that it was
  record Pair (m : ℕ) (shard : Shard R A) : Type 0 where
    y : Metaslab
    at : slice_get x.metaslabs m ≡ Some y
    opens : OpensFound rack area x b.body.group m (pieces m) y shard

  pair : (m : ℕ) (shard : Shard R A) → slice_get shards m ≡ Some shard → Pair m shard
  pair m shard here =
      let within = slice_get_within shards m shard here in
      let many = as_many_found rack area x pieces held leaves counts count there uber found r b shards re in
      let y = present x.metaslabs m (omega (arith, within, many)) in
      record { y = y.0; at = y.1; opens = each_found rack area x pieces held leaves counts count there uber found r b alloc known now shards counted re over m shard y.0 here y.1 }

  layout_is : (m : ℕ) (shard : Shard R A) → slice_get shards m ≡ Some shard → shard.slots.geometry ≡ layout_of uber
  layout_is m shard here = (let is = re.each m shard here in is.valid.slots.geometry_is ∙ ap (λ (p : Part). p.geometry) is.part_is)

  -- two of them have the same arms
  all_same : (m n : ℕ) (first shard : Shard R A) → slice_get shards m ≡ Some first → slice_get shards n ≡ Some shard → HaveSameArms first.slots shard.slots
  all_same m n first shard here at =
      have_same first.slots shard.slots p.opens.z.world.core q.opens.z.world.core p.opens.is.stands.is_in.slots q.opens.is.stands.is_in.slots same
      (ap (λ (g : Geometry). g.spec.children) (layout_is n shard at ∙ sym (layout_is m first here)))
    where
      p : Pair m first
      p = pair m first here

      q : Pair n shard
      q = pair n shard at

      same : SameArms p.opens.z.world.core q.opens.z.world.core
      same = found_alike x b.body.group m n p.y q.y p.opens.z q.opens.z there.importable.alike b.finds.may p.at q.at p.opens.reopens q.opens.reopens

  -- a block of one of them was there
  was_there : (m : ℕ) (shard : Shard R A) (key : Key) → slice_get shards m ≡ Some shard → (h : HasBlock shard key) → sealed_at b.body.group (blocks_of x.metaslabs) m key ≡ Some (held_at h.e)
  was_there m shard key here h =
      let p = pair m shard here in
      let part = part_there x there.held.layout there.held.many there.held.images there.held.leaves there.importable.findable m p.y p.at in
      ap (seal_held b.body.group) (blocks_at x.metaslabs m p.y key p.at)
      ∙ (sym (reopened_held x b.body.group m p.y p.opens.z key (has_layout (part_in x m) part) (all_reached x pieces held there.held m p.y p.at) p.opens.reopens)
      ∙ (p.opens.is.stands.is_in.held key ∙ (ap (held_in shard.entries) (sym h.key_is) ∙ key_leads shard.entries h.first h.e h.there)))

  -- so that their records are those of one pool
  pub not_apart : (metaslab : Option ℕ) (place : ℕ) (kind : RecordFaultKind) → AreApart shards metaslab place kind → ⊥
  not_apart metaslab place kind (inl h) = h.differ (all_same 0 h.m h.first h.shard h.begins h.there)
  not_apart metaslab place kind (inr h) =
      let one = found_once x b.body.group pieces (sealed_at b.body.group (blocks_of x.metaslabs)) there.held.objects (λ m k. refl) h.m h.earlier h.key (held_at h.block.e) (held_at h.twice.e)
      (was_there h.m h.shard h.key h.there h.block) (was_there h.earlier h.other h.key h.other_there h.twice) in
      let before = h.before in
      absurd (omega (arith, one, before))

-- and no fault of them is an answer
pub no_fault_apart : {R A T : Type 0} (alloc : Global) (rack : racks.Ghosts R) (area : areas.Ghosts A) (x : State) (pieces : ℕ → Pieces) (o mid : Option Held) (leaves known : ℕ → Option Shape) (counts now : ℕ → KitCounts) (count : ℕ) (uber : Uber A)
    (shards : List (Shard R A)) (f : ImportFault) → RestsThere x pieces o leaves counts count → IsFoundUber area uber → IsRecovered area o count uber
    → ((k : ℕ) → now k ≡ counts k) → mid ≡ takes_areas o → AreReopened rack (layout_of uber) (group_of (kept_of uber)) shards
    → OpensAllOver rack area (limit_of (layout_of uber)) (group_of (kept_of uber)) (next_leaf_of uber) mid known now shards
    → ((metaslab : Option ℕ) (place : ℕ) (kind : RecordFaultKind) → IsErrOf {T = T} (Err f) (fault.Record metaslab place kind) → AreApart shards metaslab place kind) → NoRecord {T = T} (Err f)
no_fault_apart alloc rack area x pieces None mid leaves known counts now count uber shards f there found r counted taken re over faulty metaslab place kind err = absurd there.held
no_fault_apart alloc rack area x pieces (Some held) mid leaves known counts now count uber shards f there found r counted taken re over faulty metaslab place kind err =
    let f = body_found area x pieces held leaves counts count uber there found r in
    not_apart rack area (found_at x f.version) pieces held leaves counts count f.there uber found r f.b alloc known now shards counted re
    (subst (λ o. OpensAllOver rack area (limit_of (layout_of uber)) (group_of (kept_of uber)) (next_leaf_of uber) o known now shards) taken over) metaslab place kind
    (faulty metaslab place kind err)
