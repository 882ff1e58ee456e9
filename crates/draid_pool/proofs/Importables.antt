-- A pool that is given back to a shelf is one of which no record has a fault to an import.
use Rattle.std.proofs.Common.{arith, ◌≡◌, ◌==◌, ◌%◌, ◌<◌, ◌≤◌, ◌∙◌, inl, inr, ap, ℕ, Bool, true, false, List, Option, Some, None, length, take, sym, subst, if◌then◌else◌}
use Rattle.std.proofs.lemmas.List.{places, same_lists}
use Rattle.std.specs.Prelude.{⊤, IsSomeAnd, MatchOption, slice_get}
use Rattle.std.proofs.lemmas.Option.{slice_get_within}
use Rattle.draid_area.specs.Area.{Content, MayLeave}
use Rattle.draid_area.specs.Moments.{IsCrashOutcome}
use Rattle.draid_area.specs.declared.Area as areas
use Rattle.draid_rack.specs.Rack.{Shape}
use Rattle.draid_rack.specs.declared.Rack as racks
use Rattle.draid_machine.specs.Images.{IsImage}
use Rattle.draid_machine.specs.State as machine
use Rattle.draid_spec.specs.declared.layout.Geometry.{Geometry}
use Rattle.draid_record.specs.Written.{record_bytes}
use Rattle.draid_segments.specs.Segments.{Pieces}
use Rattle.draid_shelf.specs.Kits.{Both, ChecksTold, CrashedChecks, CrashedHeld, CrashedKit, Held, KitCounts, KitTold, OnHeld, puts_checks, puts_uber}
use Rattle.draid_stable.specs.Stable as stable
use Rattle.draid_uber.specs.Checks.{AreasTold}
use Rattle.draid_shard.specs.declared.shard.Shard.{Shard}
use Rattle.draid_session.specs.Opening.{VersionIn}
use Rattle.draid_session.specs.State.{Metaslab, State}
use Rattle.draid_pool.specs.Returning.{IsFirm, IsFirmArea, IsFirmKit, Returns, TakesBack}
use Rattle.draid_pool.specs.Groups.{ListsOnce}
use Rattle.draid_pool.specs.Importable.{AllAlike, HasImageLeaves, HasPoolVersions, IsImportable, Shared}
use Rattle.draid_pool.specs.Metaslabs.{IsMetaslab}
use Rattle.draid_pool.specs.Pools.{part_in}
use Rattle.draid_pool.specs.Taking.{gives_areas}
use Rattle.draid_pool.proofs.Alike.{GroupsStand, images_alike}
use Rattle.draid_pool.proofs.Returned.{area_told, kit_is}
use Rattle.draid_pool.proofs.ImageLeaves.{leaves_there}
use Rattle.draid_pool.proofs.Lists.{present}
use Rattle.draid_pool.proofs.Turns.{state_sound}

module _ {R A : Type 0} (rack : racks.Ghosts R) (area : areas.Ghosts A) (shards : List (Shard R A)) (x : State) (pieces : ℕ → Pieces) (many : length shards ≡ length x.metaslabs)
    (each : (m : ℕ) (shard : Shard R A) (y : Metaslab) → slice_get shards m ≡ Some shard → slice_get x.metaslabs m ≡ Some y → IsMetaslab rack area (part_in x m) (pieces m) shard y) where
  shard_there : (m : ℕ) (y : Metaslab) → slice_get x.metaslabs m ≡ Some y → (shard : Shard R A) × (slice_get shards m ≡ Some shard)
  shard_there m y at = (let within = slice_get_within x.metaslabs m y at in present shards m (omega (arith, within, many)))

  groups_at : (m : ℕ) (y : Metaslab) → slice_get x.metaslabs m ≡ Some y → GroupsStand y.world
  groups_at m y at = (let s = shard_there m y at in (state_sound rack area (part_in x m) (pieces m) s.0 y (each m s.0 y s.1 at)).groups)

  -- the images of an open pool have the version that is found with their group
  pub versions_found : (shared : Shared) → HasPoolVersions x.kept_version x.next_version shared → AllAlike shared x → ((m : ℕ) (y : Metaslab) → slice_get x.metaslabs m ≡ Some y → y.world.committed ≡ x.committed)
      → (m : ℕ) (y : Metaslab) (image : machine.Image) → slice_get x.metaslabs m ≡ Some y → IsImage y.world image → VersionIn x image.group image.version
  versions_found shared versions alike committed m y image at is =
      let own = (alike m y at).versions in
      let groups = groups_at m y at in
      elim is [
        | inl here ↦ inl (ap (λ (i : machine.Image). i.group) (sym here) ∙ (groups.image_is ∙ committed m y at), ap (λ (i : machine.Image). i.version) (sym here) ∙ (own.kept ∙ versions.kept))
        | inr here ↦ inr ((let next = (groups.closing_is image.group (groups.sealed_is image here)).0 in let of = committed m y at in omega (arith, next, of)), own.sealed image here ∙ versions.now)
      ]

  module _ (leaves : ℕ → Option Shape) (shared : Shared) (alike : AllAlike shared x) (group : ℕ) (least : x.committed ≤ group)
      (version_is : (m : ℕ) (y : Metaslab) (image : machine.Image) → slice_get x.metaslabs m ≡ Some y → IsImage y.world image → VersionIn x image.group image.version)
      (committed : (m : ℕ) (y : Metaslab) → slice_get x.metaslabs m ≡ Some y → y.world.committed ≡ group)
      (shapes : (m : ℕ) (shard : Shard R A) → slice_get shards m ≡ Some shard → leaves m ≡ Some (rack.shape shard.rack)) where
    -- where the shelf has the leaves of its racks
    importable_given : (old new : Held) → TakesBack rack area shards old new → IsImportable x new leaves
    importable_given old new takes = record {
      findable = record { committed = λ m y at. (let is = committed m y at in omega (arith, is, least)); versions = version_is };
      alike = λ k m n y z a b may at here is of is' of'.
          images_alike shared y.world z.world a b (alike m y at) (alike n z here) (groups_at m y at) (groups_at n z here) (committed m y at ∙ sym (committed n z here)) is is' (of ∙ sym of');
      once = λ m y image at is.
          (let s = shard_there m y at in
          let k = takes.kits m s.0 s.1 in
          let told = kit_is (rack.told s.0.rack) (area.told s.0.even) (area.told s.0.odd) k.0 k.1 in
          subst (λ o. IsSomeAnd o (λ (kit : KitTold). ListsOnce x.geometry m image (stable.area_of image.group kit.even kit.odd))) (sym k.2)
          (area_told image.group (area.told s.0.even) (area.told s.0.odd) k.0 (ListsOnce x.geometry m image) told.even told.odd ((each m s.0 y s.1 at).records image is)));
      there = λ m y image at is.
          (let s = shard_there m y at in
          subst (λ o. IsSomeAnd o (HasImageLeaves x.geometry image)) (sym (shapes m s.0 s.1)) (leaves_there rack area (part_in x m) (pieces m) s.0 y image (each m s.0 y s.1 at) is));
    }

    with_areas : (u : Content) (checks : ChecksTold) (held : Held) → IsImportable x held leaves → IsImportable x (puts_checks (Some checks) (puts_uber (Some u) held)) leaves
    with_areas u checks held i = record { findable = i.findable; alike = i.alike; once = i.once; there = i.there }

    held_importable : (u e o : Option Content) (a b : Option Held) → OnHeld b (λ y. MatchOption a ⊥ (λ z. TakesBack rack area shards z y))
        → OnHeld (gives_areas (record { uber = u; even = e; odd = o }) b) (λ held. IsImportable x held leaves)
    held_importable u None o a b h = tt
    held_importable u (Some e) None a b h = tt
    held_importable None (Some e) (Some o) a b h = tt
    held_importable (Some u) (Some e) (Some o) a None h = tt
    held_importable (Some u) (Some e) (Some o) None (Some b) h = absurd h
    held_importable (Some u) (Some e) (Some o) (Some a) (Some b) h = with_areas u (record { even = e; odd = o }) b (importable_given a b h)

    pub importable_back : (told : AreasTold) (old mid : Option Held) (before after : ℕ → KitCounts) → Returns rack area shards old mid before after → (new : Option Held) → new ≡ gives_areas told mid
        → OnHeld new (λ held. IsImportable x held leaves)
    importable_back told old mid before after r new gives = subst (λ o. OnHeld o (λ held. IsImportable x held leaves)) (sym gives) (held_importable told.uber told.even told.odd old mid r.held)

-- ---- a crash

front_left : (n : ℕ) (x : Content) (left : List ℕ) → ((i : ℕ) → i < n → x.soft i ≡ false) → n ≤ x.firm → MayLeave x left → take n left ≡ take n x.bytes
front_left n x left firm least may =
    let a = may.least in
    let b = may.most in
    same_lists _ _ (grind (arith, places)) (λ k d h. (let less : k < n = grind (arith, places) in let e = may.same k d (firm k less) in grind (arith, places)))

-- a record that lists each block once does so after a crash
lists_left : (geometry : Geometry) (m : ℕ) (image : machine.Image) (x y : Content) → IsCrashOutcome x y → ListsOnce geometry m image x → ListsOnce geometry m image y
lists_left geometry m image x y crash o =
    let s = o.has.stands in
    record {
      has = record {
        value = o.has.value;
        says = o.has.says;
        stands = record {
          front = front_left (length (record_bytes o.has.value)) x y.bytes s.firm s.least crash.left ∙ s.front;
          firm = λ i h. crash.soft i;
          least = (let a = crash.left.least in let b = s.least in let c = crash.firm in omega (arith, a, b, c));
          short = s.short;
        };
        ranged = o.has.ranged;
      };
      once = o.once;
    }

kit_left : (geometry : Geometry) (m : ℕ) (image : machine.Image) (a b : KitTold) → CrashedKit a b → ListsOnce geometry m image (stable.area_of image.group a.even a.odd)
    → ListsOnce geometry m image (stable.area_of image.group b.even b.odd)
kit_left geometry m image a b crash = by (image.group % 2 == 0)
  where
    by : (c : Bool) → ListsOnce geometry m image (if c then a.even else a.odd) → ListsOnce geometry m image (if c then b.even else b.odd)
    by true = lists_left geometry m image a.even b.even crash.even
    by false = lists_left geometry m image a.odd b.odd crash.odd

kits_left : (geometry : Geometry) (m : ℕ) (image : machine.Image) (o n : Option KitTold) → Both CrashedKit o n → IsSomeAnd o (λ kit. ListsOnce geometry m image (stable.area_of image.group kit.even kit.odd))
    → IsSomeAnd n (λ kit. ListsOnce geometry m image (stable.area_of image.group kit.even kit.odd))
kits_left geometry m image None n both once = absurd once
kits_left geometry m image (Some a) None both once = absurd both
kits_left geometry m image (Some a) (Some b) both once = kit_left geometry m image a b both once

-- and the pool is such a one after a crash too
pub importable_crashed : (x : State) (held left : Held) (leaves now : ℕ → Option Shape) → CrashedHeld held left → ((m : ℕ) → now m ≡ leaves m) → IsImportable x held leaves → IsImportable x left now
importable_crashed x held left leaves now crash same i = record {
  findable = i.findable;
  alike = i.alike;
  once = λ m y image at is. kits_left x.geometry m image (held.kits m) (left.kits m) (crash.kits m) (i.once m y image at is);
  there = λ m y image at is. subst (λ o. IsSomeAnd o (HasImageLeaves x.geometry image)) (sym (same m)) (i.there m y image at is);
}

pub importable_left : (x : State) (o n : Option Held) (leaves now : ℕ → Option Shape) → Both CrashedHeld o n → ((m : ℕ) → now m ≡ leaves m) → OnHeld o (λ held. IsImportable x held leaves)
    → OnHeld n (λ held. IsImportable x held now)
importable_left x o None leaves now both same h = tt
importable_left x None (Some left) leaves now both same h = absurd (cc)
importable_left x (Some held) (Some left) leaves now both same h = importable_crashed x held left leaves now both same h

-- ---- a crash

-- nothing is soft behind it
firm_area : (o n : Option Content) → Both IsCrashOutcome o n → MatchOption n ⊤ IsFirmArea
firm_area o None crash = tt
firm_area None (Some y) crash = absurd (cc)
firm_area (Some x) (Some y) crash = crash.soft

firm_checks : (o n : Option ChecksTold) → Both CrashedChecks o n → MatchOption n ⊤ (λ checks. IsFirmArea checks.even × IsFirmArea checks.odd)
firm_checks o None crash = tt
firm_checks None (Some y) crash = absurd (cc)
firm_checks (Some x) (Some y) crash = (crash.even.soft, crash.odd.soft)

firm_kit : (o n : Option KitTold) → Both CrashedKit o n → MatchOption n ⊤ IsFirmKit
firm_kit o None crash = tt
firm_kit None (Some y) crash = absurd (cc)
firm_kit (Some x) (Some y) crash = record { rack = crash.rack.soft; even = crash.even.soft; odd = crash.odd.soft }

pub firm_crashed : (o n : Option Held) → Both CrashedHeld o n → OnHeld n IsFirm
firm_crashed o None crash = tt
firm_crashed None (Some y) crash = absurd (cc)
firm_crashed (Some x) (Some y) crash = record {
  uber = firm_area x.uber y.uber crash.uber;
  checks = firm_checks x.checks y.checks crash.checks;
  kits = λ m. firm_kit (x.kits m) (y.kits m) (crash.kits m);
}
