-- What an import leaves that was refused.
use Rattle.std.proofs.Common.{arith, ◌≡◌, ◌≤◌, ◌∙◌, inl, inr, ℕ, Bool, false, List, [], Option, Some, None, length, refl, sym, ap, subst}
use Rattle.std.specs.Prelude.{IsSomeAnd, slice_get}
use Rattle.std.proofs.lemmas.List.Elements.{All-nil}
use Rattle.std.proofs.lemmas.Option.{slice_get_within}
use Rattle.std.specs.declared.alloc.Global.{Global}
use Rattle.draid_area.specs.Area.{Content}
use Rattle.draid_area.specs.declared.Area as areas
use Rattle.draid_rack.specs.Rack.{Shape}
use Rattle.draid_rack.specs.declared.Rack as racks
use Rattle.draid_machine.specs.After.{reopen_state}
use Rattle.draid_machine.specs.Created.{IsReached}
use Rattle.draid_machine.specs.Images.{IsImage}
use Rattle.draid_machine.specs.State as machine
use Rattle.draid_layouts.specs.Layout.{layout_of}
use Rattle.draid_record.specs.declared.uber.UberBody.{UberBody}
use Rattle.draid_segments.specs.Segments.{Pieces}
use Rattle.draid_shelf.specs.Kits.{ChecksTold, Held, KitCounts, KitTold, puts_checks, puts_uber}
use Rattle.draid_stable.specs.Stable as stable
use Rattle.draid_shard.specs.declared.shard.Shard.{Shard}
use Rattle.draid_uber.specs.Checks.{AreasStand}
use Rattle.draid_session.specs.Opening.{DropsOlder, Finds, MayFind, Reopens}
use Rattle.draid_session.specs.State.{Counts, Metaslab, State}
use Rattle.draid_pool.specs.Returning.{Rests, RestsOn, SameCounts, areas_told, kit_in}
use Rattle.draid_pool.specs.Groups.{ListsOnce}
use Rattle.draid_pool.specs.Importable.{AreAlike, HasImageLeaves, IsFindable, IsImportable, SameArms}
use Rattle.draid_import.specs.Imported.{FindsBody, OpensFound, RestsFound, found_state}
use Rattle.draid_pool.specs.Pools.{part_in}
use Rattle.draid_import.specs.Importing.{FindsNone, LeavesPool, RestsThere}
use Rattle.draid_pool.specs.Ubers.{IsPending, UberStands, check_told}
use Rattle.draid_pool.proofs.Returned.{area_told, kit_is, rests_on}
use Rattle.draid_import.proofs.ImportFound.{found_findable, found_holds, found_images, found_leaves, numbered_before}
use Rattle.draid_import.proofs.ImportMetaslab.{FindsImage, counts_rise, found_image, unopened, unopened_reopens, unopened_rests}
use Rattle.draid_import.proofs.ImportOpened.{all_reached, collect, finds_state}
use Rattle.draid_import.proofs.ImportPoint.{stands_told, told_upto}
use Rattle.draid_import.proofs.ImportUber.{found_kept}
use Rattle.draid_import.proofs.ImportVersion.{LeavesFound}
use Rattle.draid_pool.proofs.ImageLeaves.{leaves_there}
use Rattle.draid_pool.proofs.Lists.{present}
use Rattle.draid_objects.specs.Marks.{marks_upto}

-- ---- one metaslab

-- it was opened, and its devices were given back
pub given_found : {R A : Type 0} (rack : racks.Ghosts R) (area : areas.Ghosts A) (x : State) (group m : ℕ) (pieces : Pieces) (y : Metaslab) (shard : Shard R A) (kit : KitTold) (known : Option Shape) (counts : KitCounts)
    → OpensFound rack area x group m pieces y shard → kit_in rack area shard ≡ Some kit → known ≡ Some (rack.shape shard.rack) → ((who : Option ℕ) → counts.rack who ≡ rack.faults shard.rack who) → counts.even ≡ area.faults shard.even
    → counts.odd ≡ area.faults shard.odd → RestsFound x group m pieces y kit known counts
given_found rack area x group m pieces y shard kit known counts o told shape_is rack_is even_is odd_is =
    let k = kit_is (rack.told shard.rack) (area.told shard.even) (area.told shard.odd) kit told in
    record {
      once = λ image is. area_told image.group (area.told shard.even) (area.told shard.odd) kit (ListsOnce x.geometry m image) k.even k.odd (o.once image is);
      leaves = λ image is. subst (λ s. IsSomeAnd s (HasImageLeaves x.geometry image)) (sym shape_is) (leaves_there rack area (part_in x m) pieces shard o.z image o.is is);
      z = o.z;
      reopens = o.reopens;
      rests = rests_on rack area x m pieces shard o.z kit o.is told;
      counted = record {
        rack = λ who. rack_is who ∙ ap (λ (c : Counts). c.rack who) (sym o.is.counts);
        even = even_is ∙ ap (λ (c : Counts). c.even) (sym o.is.counts);
        odd = odd_is ∙ ap (λ (c : Counts). c.odd) (sym o.is.counts);
      };
    }

-- it wasn't, and its devices tell what they did; more calls on them may have failed
pub left_found : (x : State) (group next m : ℕ) (pieces : Pieces) (y : Metaslab) (kit : KitTold) (known : Option Shape) (counts : KitCounts) (alloc : Global) (f : FindsImage x m pieces y kit group next)
    → ListsOnce x.geometry m f.image (stable.area_of f.image.group kit.even kit.odd) → IsSomeAnd known (HasImageLeaves x.geometry f.image) → ((who : Option ℕ) → y.counts.rack who ≤ counts.rack who)
    → y.counts.even ≤ counts.even → y.counts.odd ≤ counts.odd → RestsFound x group m pieces y kit known counts
left_found x group next m pieces y kit known counts alloc f once leaves rack_later even_later odd_later =
    let now : Counts = record { rack = counts.rack; even = counts.even; odd = counts.odd } in
    record {
      z = unopened x m pieces y kit group next f alloc now;
      reopens = unopened_reopens x m pieces y kit group next f alloc now
          (counts_rise y.world (unopened x m pieces y kit group next f alloc now).world y.counts now (rack_later None) even_later odd_later (λ leaf there. rack_later (Some leaf)));
      rests = unopened_rests x m pieces y kit group next f alloc now;
      counted = record { rack = λ who. refl; even = refl; odd = refl };
      once = λ image is. subst (λ (i : machine.Image). ListsOnce x.geometry m i (stable.area_of i.group kit.even kit.odd)) (found_image x m pieces y kit group next f alloc image is) once;
      leaves = λ image is. subst (λ (i : machine.Image). IsSomeAnd known (HasImageLeaves x.geometry i)) (found_image x m pieces y kit group next f alloc image is) leaves;
    }

-- ---- the pool as it was

module _ (x : State) (pieces : ℕ → Pieces) (held : Held) (rests : Rests x pieces held) (pending : Bool) (n : ℕ) (u : Content) (k : ChecksTold) (may : (group : ℕ) → MayFind (record x { pending = pending }) group → MayFind x group)
    (stands : UberStands (record x { pending = pending }) (areas_told u k)) where
  on_kit : (o : Option KitTold) (m : ℕ) (y : Metaslab) → IsSomeAnd o (RestsOn x m (pieces m) y) → IsSomeAnd o (RestsOn (record x { pending = pending; uber_count = n }) m (pieces m) y)
  on_kit None m y h = absurd h
  on_kit (Some kit) m y h = record { reached = h.reached; images = h.images; harm = h.harm; bytes = h.bytes }

  pub rests_again : Rests (record x { pending = pending; uber_count = n }) pieces (puts_checks (Some k) (puts_uber (Some u) held))
  rests_again = record {
    layout = rests.layout;
    uber = record { pending = stands.pending; are = stands.are; stands = stands.stands };
    many = rests.many;
    kits = λ m y at. on_kit (held.kits m) m y (rests.kits m y at);
    images = λ group m y found some at. rests.images group m y (may group found) some at;
    leaves = record { order = rests.leaves.order; each = rests.leaves.each };
    objects = rests.objects;
  }

  pub importable_again : (leaves now : ℕ → Option Shape) → ((m : ℕ) → now m ≡ leaves m) → IsImportable x held leaves → IsImportable (record x { pending = pending; uber_count = n }) (puts_checks (Some k) (puts_uber (Some u) held)) now
  importable_again leaves now same i = record {
    findable = record { committed = i.findable.committed; versions = i.findable.versions };
    alike = λ group k j y z a b found. i.alike group k j y z a b (may group found);
    once = i.once;
    there = λ m y image at is. subst (λ o. IsSomeAnd o (HasImageLeaves x.geometry image)) (sym (same m)) (i.there m y image at is);
  }

-- the uberblock wasn't found, or not taken
pub still_leaves : (x : State) (pieces : ℕ → Pieces) (held : Held) (leaves now : ℕ → Option Shape) (counts : ℕ → KitCounts) (count n : ℕ) (u : Content) (k : ChecksTold)
    → RestsThere x pieces (Some held) leaves counts count → ((m : ℕ) → now m ≡ leaves m) → count ≤ n → UberStands x (areas_told u k)
    → LeavesPool x pieces (Some (puts_checks (Some k) (puts_uber (Some u) held))) now counts n
still_leaves x pieces held leaves now counts count n u k rests same later stands = record {
  y = record x { uber_count = n };
  rests = record {
    held = rests_again x pieces held rests.held x.pending n u k (λ group found. found) stands;
    importable = importable_again x pieces held rests.held x.pending n u k (λ group found. found) stands leaves now same rests.importable;
    counted = rests.counted;
    uber = refl;
  };
  is = inl (record { later = (let is = rests.uber in omega (arith, is, later)); same = refl });
}

-- it has no open gate
pub none_found : (x : State) (pieces : ℕ → Pieces) (held : Held) (leaves now : ℕ → Option Shape) (counts : ℕ → KitCounts) (count n : ℕ) (u : Content) (k : ChecksTold)
    → RestsThere x pieces (Some held) leaves counts count → ((m : ℕ) → now m ≡ leaves m) → count ≤ n → x.committed ≡ 0
    → UberStands (record x { pending = false }) (areas_told u k) → FindsNone x pieces (Some (puts_checks (Some k) (puts_uber (Some u) held))) now counts n
none_found x pieces held leaves now counts count n u k rests same later none stands = record {
  y = record x { pending = false; uber_count = n };
  is = record { none = none; is = record { later = (let is = rests.uber in omega (arith, is, later)); same = refl } };
  rests = record {
    held = rests_again x pieces held rests.held false n u k may stands;
    importable = importable_again x pieces held rests.held false n u k may stands leaves now same rests.importable;
    counted = rests.counted;
    uber = refl;
  };
}
  where
    may : (group : ℕ) → MayFind (record x { pending = false }) group → MayFind x group
    may group (inl is) = inl is
    may group (inr is) = (let no = is.0 in absurd (cc))

-- ---- the pool as a group of it gives it

-- a metaslab that was opened has the image that it was opened from, and no other
own_image : (x : State) (group m : ℕ) (y z : Metaslab) (r : Reopens x.geometry x.perms group m y z) (image : machine.Image) → IsImage z.world image → r.image ≡ image
own_image x group m y z r image is = by (subst (λ (w : machine.State). IsImage w image) (r.world ∙ r.opened) is)
  where
    by : IsImage (reopen_state (layout_of x.geometry x.perms m) y.world r.image []) image → r.image ≡ image
    by (inl own) = own
    by (inr sealed) = absurd (cc)

module _ (x : State) (pieces : ℕ → Pieces) (held : Held) (rests : Rests x pieces held) (findable : IsFindable x) (body : UberBody) (body_is : FindsBody x body)
    (new : Held) (now : ℕ → Option Shape) (counts : ℕ → KitCounts) (n : ℕ)
    (alike : AreAlike x) (counted : x.uber_count ≤ n) where
  -- a metaslab on the shelf, as its image of the group has it
  pub record OnShelf (m : ℕ) (y z : Metaslab) : Type 0 where
    pub reopens : Reopens x.geometry x.perms body.group m y z
    pub kit : IsSomeAnd (new.kits m) (RestsOn x m (pieces m) z)
    pub same : SameCounts z.counts (counts m)
    pub once : (image : machine.Image) → IsImage z.world image → IsSomeAnd (new.kits m) (λ kit. ListsOnce x.geometry m image (stable.area_of image.group kit.even kit.odd))
    pub leaves : (image : machine.Image) → IsImage z.world image → IsSomeAnd (now m) (HasImageLeaves x.geometry image)

  module _ (each : (m : ℕ) (y : Metaslab) → slice_get x.metaslabs m ≡ Some y → (kit : KitTold) × (new.kits m ≡ Some kit) × RestsFound x body.group m (pieces m) y kit (now m) (counts m)) where
    on_shelf : (m : ℕ) (y : Metaslab) → slice_get x.metaslabs m ≡ Some y → (z : Metaslab) × OnShelf m y z
    on_shelf m y at =
        let k = each m y at in (
          k.2.z,
          record {
            reopens = k.2.reopens;
            kit = subst (λ o. IsSomeAnd o (RestsOn x m (pieces m) k.2.z)) (sym k.1) k.2.rests;
            same = k.2.counted;
            once = λ image is. subst (λ o. IsSomeAnd o (λ kit. ListsOnce x.geometry m image (stable.area_of image.group kit.even kit.odd))) (sym k.1) (k.2.once image is);
            leaves = k.2.leaves;
          },
        )

    shelved : (zs : List Metaslab) × (length zs ≡ length x.metaslabs) × ((m : ℕ) (y z : Metaslab) → slice_get x.metaslabs m ≡ Some y → slice_get zs m ≡ Some z → OnShelf m y z)
    shelved = collect x.metaslabs OnShelf on_shelf

    abbrev mid : State
    mid = found_state x body.group body.next_leaf shelved.0 (marks_upto body.group x.store.marks) x.store.seq n

    finds : Finds x body.group mid
    finds = finds_state x body.group body.next_leaf shelved.0 (marks_upto body.group x.store.marks) [] x.store.seq n refl (All-nil (DropsOlder mid body.group)) body_is.version body_is.may body_is.some body_is.leaf shelved.1 (λ m y z at there. (shelved.2 m y z at there).reopens) counted

    reached : (m : ℕ) (y : Metaslab) → slice_get x.metaslabs m ≡ Some y → IsReached (layout_of x.geometry x.perms m) y.world
    reached = all_reached x pieces held rests

    there : (m : ℕ) (z : Metaslab) → slice_get shelved.0 m ≡ Some z → (y : Metaslab) × OnShelf m y z
    there m z at =
        let within = slice_get_within shelved.0 m z at in
        let same = shelved.1 in
        let y = present x.metaslabs m (omega (arith, within, same)) in
        (y.0, shelved.2 m y.0 z y.1 at)

    on_mid : (o : Option KitTold) (m : ℕ) (z : Metaslab) → IsSomeAnd o (RestsOn x m (pieces m) z) → IsSomeAnd o (RestsOn mid m (pieces m) z)
    on_mid None m z h = absurd h
    on_mid (Some kit) m z h = record { reached = h.reached; images = h.images; harm = h.harm; bytes = h.bytes }

    pair : (m : ℕ) (z : Metaslab) → slice_get shelved.0 m ≡ Some z → (y : Metaslab) × (slice_get x.metaslabs m ≡ Some y) × OnShelf m y z
    pair m z at =
        let within = slice_get_within shelved.0 m z at in
        let same = shelved.1 in
        let y = present x.metaslabs m (omega (arith, within, same)) in
        (y.0, y.1, shelved.2 m y.0 z y.1 at)

    alike_mid : AreAlike mid
    alike_mid group k j v w a b may at here is own is' own' =
        let p = pair k v at in
        let q = pair j w here in
        subst (λ (i : machine.Image). SameArms i.core b.core) (own_image x body.group k p.0 v p.2.reopens a is)
        (subst (λ (i : machine.Image). SameArms p.2.reopens.image.core i.core) (own_image x body.group j q.0 w q.2.reopens b is')
        (alike body.group k j p.0 q.0 p.2.reopens.image q.2.reopens.image body_is.may p.1 q.1 p.2.reopens.is p.2.reopens.of q.2.reopens.is q.2.reopens.of))

    -- a refusal behind the uberblock leaves the pool as the group has it
    pub found_leaves_pool : (u : Content) (k : ChecksTold) → new.uber ≡ Some u → new.checks ≡ Some k → AreasStand (check_told x.store.marks) (Some body) [] (areas_told u k) → LeavesFound x pieces (Some new) now counts n
    found_leaves_pool u k uber checks stands = record {
      y = mid;
      rests = record {
        held = record {
          layout = rests.layout;
          uber = subst (λ o. IsSomeAnd o (λ c. IsSomeAnd new.checks (λ checks. UberStands mid (areas_told c checks)))) (sym uber)
              (subst (λ o. IsSomeAnd o (λ checks. UberStands mid (areas_told u checks))) (sym checks)
              (record {
                pending = [];
                are = All-nil (IsPending mid);
                stands = subst (λ (b : Option UberBody). AreasStand (check_told mid.store.marks) b [] (areas_told u k)) (sym (found_kept x mid body body_is refl refl refl refl))
                    (stands_told (check_told x.store.marks) (check_told mid.store.marks) body (areas_told u k) (told_upto body.group x.store.marks body.group (omega arith)) stands);
              }));
          many = shelved.1 ∙ rests.many;
          kits = λ m z at. on_mid (new.kits m) m z (there m z at).1.kit;
          images = found_images x mid body.group pieces finds refl rests.layout rests.many reached rests.leaves findable rests.objects;
          leaves = found_leaves x mid body.group pieces finds refl rests.layout rests.many reached rests.leaves findable rests.objects;
          objects = found_holds x mid body.group pieces finds refl rests.layout rests.many reached rests.leaves findable rests.objects
              refl
              (numbered_before x mid body.group pieces finds refl rests.layout rests.many reached rests.leaves findable rests.objects refl);
        };
        importable = record {
          findable = found_findable x mid body.group pieces finds refl rests.layout rests.many reached rests.leaves findable rests.objects;
          alike = alike_mid;
          once = λ m z image at is. (there m z at).1.once image is;
          there = λ m z image at is. (there m z at).1.leaves image is;
        };
        counted = λ m z at. (there m z at).1.same;
        uber = refl;
      };
      group = body.group;
      finds = finds;
    }
