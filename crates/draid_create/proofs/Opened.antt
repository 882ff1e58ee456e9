-- The metaslabs of a new pool are opened over the devices that were made for them.
use Rattle.std.proofs.Common.{arith, ◌≡◌, ◌==◌, ◌+◌, ◌<◌, ◌≤◌, ◌++◌, ◌∙◌, ◌⊎◌, inl, inr, ℕ, List, [], ◌∷◌, Option, Some, None, Ok, Err, refl, sym, ap, subst, length, length-append, if◌then◌else◌}
use Rattle.std.specs.Prelude.{IsErrOf, IsSomeAnd, MatchOption, slice_get}
use Rattle.std.proofs.lemmas.Bool.{cases_eq, cases_lt}
use Rattle.std.proofs.lemmas.Option.{slice_get_within}
use Rattle.draid_names.specs.Faults.{Rose}
use Rattle.draid_names.specs.declared.fault.DeviceFault.{DeviceFault}
use Rattle.draid_rack.specs.Rack.{Shape, Told}
use Rattle.draid_rack.specs.declared.Rack as racks
use Rattle.draid_area.specs.Area.{Content, OnTold}
use Rattle.draid_area.specs.declared.Area as areas
use Rattle.draid_spec.specs.declared.layout.Geometry.{Geometry}
use Rattle.draid_perm.specs.declared.perms.Perms.{Perms}
use Rattle.draid_map.specs.Place.{IsLayout}
use Rattle.draid_machine.specs.Created.{created}
use Rattle.draid_machine.specs.Images.{IsImage}
use Rattle.draid_machine.specs.State.{Image}
use Rattle.draid_shelf.specs.Kits.{Held, KitCounts, KitTold, NeedsKit, OnHeld, gives_kit, kit_of, puts_kit, takes_kit}
use Rattle.draid_shelf.specs.Shelf.{IsKnown, SameOthers}
use Rattle.draid_shelf.specs.declared.kit.Kit.{Kit}
use Rattle.draid_entries.specs.History.{limit_in, reserved_of}
use Rattle.draid_shard.specs.Fits.{Valid}
use Rattle.draid_pool.specs.Groups.{ListsOnce}
use Rattle.draid_create.specs.Opening.{AreOpened, IsBackAgain, IsOpened, RecordsFailed, SameButRecords, rack_in}
use Rattle.draid_shard.specs.Part.{Part, layout_in}
use Rattle.draid_shard.specs.States.{IsIn, part_of, stored_in}
use Rattle.draid_shard.specs.declared.shard.Shard.{Shard}
use Rattle.draid_session.specs.State.{limit_of}
use Rattle.draid_pool.specs.Returning.{Returns, TakesBack}
use Rattle.draid_pool.specs.Taking.{TakesFirst}
use Rattle.draid_pool.specs.Records.{HasRecords, area_for}
use Rattle.draid_pool.proofs.Returned.{at_end, kit_is, put_here, put_there}
use Rattle.draid_pool.proofs.Lists.{present, some_of}
use Rattle.draid_pool.proofs.Takings.{from_first, get_before, none_taken, rose_since, takes_more}

-- a failure is one whatever the answer would have been
pub failed_too : {T U : Type 0} (fault : DeviceFault) → IsErrOf {T = T} (Err fault) DeviceFault.Failed → IsErrOf {T = U} (Err fault) DeviceFault.Failed
failed_too fault failed = (let same : fault ≡ DeviceFault.Failed = cc in ap Err same)

-- ---- one metaslab

-- the record that a new metaslab writes is that of its one image
pub records_first : (part : Part) (even odd : Option Content) → OnTold odd (ListsOnce part.geometry part.number (created (layout_in part) part.geometry.props.version).image)
    → HasRecords part (created (layout_in part) part.geometry.props.version) even odd
records_first part even odd h = λ image of. by image of
  where
    by : (image : Image) → IsImage (created (layout_in part) part.geometry.props.version) image
        → OnTold (area_for image.group even odd) (ListsOnce part.geometry part.number image)
    by image (inl is) = subst (λ (i : Image). OnTold (area_for i.group even odd) (ListsOnce part.geometry part.number i)) is h
    by image (inr is) = absurd (cc)

-- a kit that was taken was held, and its rack tells what was
rack_held : {T : Type 0} (got : T) (o : Option Held) (r : Option Told) (e d : Option Content) (n : ℕ) → OnHeld o (λ x. kit_of r e d ≡ x.kits n) → NeedsKit n (Ok got) o
    → OnHeld o (λ x. IsSomeAnd (x.kits n) (λ kit. r ≡ Some kit.rack))
rack_held got None r e d n is needs = tt
rack_held got (Some x) r e d n is needs = by (x.kits n) refl
  where
    by : (k : Option KitTold) → x.kits n ≡ k → IsSomeAnd k (λ kit. r ≡ Some kit.rack)
    by None none = (let failed = needs none in absurd (cc))
    by (Some k) there = (kit_is r e d k (is ∙ there)).rack

-- what a rack tells that was held
held_rack : (o : Option KitTold) (r : Option Told) → IsSomeAnd o (λ kit. r ≡ Some kit.rack) → r ≡ rack_in o
held_rack None r h = absurd h
held_rack (Some kit) r h = h

-- ---- one that wasn't opened

-- its leaves are those that are known
pub known_has : (o : Option Shape) (s : Shape) (P : Shape → Type 0) → IsSomeAnd o P → IsKnown o s → P s
known_has None s P h known = absurd h
known_has (Some x) s P h known = subst P (sym known) h

held_still : (o : Option Held) → OnHeld o (λ y. MatchOption o ⊥ (λ x. SameButRecords x y))
held_still None = tt
held_still (Some x) = record { uber = refl; checks = refl; kits = λ m. refl }

-- what wasn't taken is there as before
pub back_untaken : (n : ℕ) (old new : Option Held) (before after : ℕ → KitCounts) → new ≡ old → SameOthers n before after → after n ≡ before n → IsBackAgain old new before after
back_untaken n old new before after same others own = record {
  held = subst (λ (o : Option Held). OnHeld o (λ y. MatchOption old ⊥ (λ x. SameButRecords x y))) (sym same) (held_still old);
  counts = λ m who. ap (λ (c : KitCounts). c.rack who) (counted m);
}
  where
    counted : (m : ℕ) → after m ≡ before m
    counted m = elim (cases_eq m n) [
      | inl at ↦ subst (λ (k : ℕ). after k ≡ before k) (sym at) own
      | inr other ↦ others m (λ at. omega (arith, at, other))
    ]

pub back_nothing : (held : Option Held) (counts : ℕ → KitCounts) → IsBackAgain held held counts counts
back_nothing held counts = record { held = held_still held; counts = λ m who. refl }

-- what was taken and given back is held again
kits_again : (n : ℕ) (x : Held) (kit : KitTold) → rack_in (Some kit) ≡ rack_in (x.kits n) → SameButRecords x (puts_kit n (Some kit) (puts_kit n None x))
kits_again n x kit same = record {
  uber = refl;
  checks = refl;
  kits = λ m. elim (cases_eq m n) [
    | inl at ↦ ap rack_in (put_here n m (Some kit) (if m == n then None else x.kits m) at) ∙ (same ∙ ap (λ (k : ℕ). rack_in (x.kits k)) (sym at))
    | inr other ↦ ap rack_in (put_there n m (Some kit) (if m == n then None else x.kits m) (λ at. omega (arith, at, other)) ∙ put_there n m None (x.kits m) (λ at. omega (arith, at, other)))
  ];
}

held_again : (n : ℕ) (old : Option Held) (r s : Option Told) (e d : Option Content) → s ≡ r → OnHeld old (λ x. IsSomeAnd (x.kits n) (λ kit. r ≡ Some kit.rack))
    → OnHeld (gives_kit n (kit_of s e d) (takes_kit n old)) (λ y. MatchOption old ⊥ (λ x. SameButRecords x y))
held_again n old r s e d same h = by (kit_of s e d) refl old h
  where
    by : (k : Option KitTold) → kit_of s e d ≡ k → (o : Option Held) → OnHeld o (λ x. IsSomeAnd (x.kits n) (λ kit. r ≡ Some kit.rack))
        → OnHeld (gives_kit n k (takes_kit n o)) (λ y. MatchOption o ⊥ (λ x. SameButRecords x y))
    by None is None held = tt
    by None is (Some x) held = tt
    by (Some k) is None held = tt
    by (Some k) is (Some x) held = kits_again n x k (sym (kit_is s e d k is).rack ∙ (same ∙ held_rack (x.kits n) r held))

-- a failure of its odd area is counted there
pub odd_failed : {T : Type 0} (before now odd : ℕ) (why : DeviceFault) → (why ≡ DeviceFault.Failed → Rose before now) → odd ≡ now → IsErrOf {T = T} (Err why) DeviceFault.Failed → 0 < odd
odd_failed before now odd why refused counted failed =
    let is : why ≡ DeviceFault.Failed = cc in
    let rose = refused is in
    omega (arith, rose, counted)

module _ {R A : Type 0} (rack : racks.Ghosts R) (area : areas.Ghosts A) where
  pub back_given : (n : ℕ) (kit back : Kit R A) (old mid new : Option Held) (before middle after : ℕ → KitCounts) → back.rack ≡ kit.rack
      → OnHeld old (λ x. kit_of (rack.told kit.rack) (area.told kit.even) (area.told kit.odd) ≡ x.kits n) → NeedsKit n (Ok kit) old → mid ≡ takes_kit n old
      → new ≡ gives_kit n (kit_of (rack.told back.rack) (area.told back.even) (area.told back.odd)) mid → ((who : Option ℕ) → rack.faults kit.rack who ≡ (before n).rack who) → SameOthers n before middle
      → ((who : Option ℕ) → (after n).rack who ≡ rack.faults back.rack who) → SameOthers n middle after → IsBackAgain old new before after
  back_given n kit back old mid new before middle after same told needs taken given rack_count others rack_count' others' = record {
    held = subst (λ (o : Option Held). OnHeld o (λ y. MatchOption old ⊥ (λ x. SameButRecords x y))) (sym (given ∙ ap (gives_kit n (kit_of (rack.told back.rack) (area.told back.even) (area.told back.odd))) taken))
        (held_again n old (rack.told kit.rack) (rack.told back.rack) (area.told back.even) (area.told back.odd) (ap rack.told same) (rack_held kit old (rack.told kit.rack) (area.told kit.even) (area.told kit.odd) n told needs));
    counts = λ m who. elim (cases_eq m n) [
      | inl at ↦ subst (λ (k : ℕ). (after k).rack who ≡ (before k).rack who) (sym at) (rack_count' who ∙ (ap (λ (r : R). rack.faults r who) same ∙ rack_count who))
      | inr other ↦ ap (λ (c : KitCounts). c.rack who) (others' m (λ at. omega (arith, at, other)) ∙ others m (λ at. omega (arith, at, other)))
    ];
  }

  pub opened : (part : Part) (held : Option Held) (counts : KitCounts) (kit : Kit R A) (shard : Shard R A) (events : ℕ) → Valid rack shard → part_of shard ≡ part
      → IsIn shard (created (layout_in (part_of shard)) part.geometry.props.version) → stored_in shard ≡ [] → reserved_of shard.history ≡ 0 → limit_in shard.history ≡ events → events ≡ limit_of part.geometry
      → shard.rack ≡ kit.rack
      → OnTold (area.told shard.odd) (ListsOnce part.geometry part.number (created (layout_in (part_of shard)) part.geometry.props.version).image)
      → OnHeld held (λ x. kit_of (rack.told kit.rack) (area.told kit.even) (area.told kit.odd) ≡ x.kits part.number) → NeedsKit part.number (Ok kit) held
      → ((who : Option ℕ) → rack.faults kit.rack who ≡ counts.rack who) → IsOpened rack area part held counts shard
  opened part held counts kit shard events valid part_is is_in stored reserved limit events_are r recorded told needs rack_count = record {
    valid = valid;
    part_is = part_is;
    created_is = subst (λ (p : Part). IsIn shard (created (layout_in p) part.geometry.props.version)) part_is is_in;
    events = stored;
    reserved = reserved;
    limit = limit ∙ events_are;
    told = subst (λ (s : R). OnHeld held (λ x. IsSomeAnd (x.kits part.number) (λ kit. rack.told s ≡ Some kit.rack))) (sym r)
        (rack_held kit held (rack.told kit.rack) (area.told kit.even) (area.told kit.odd) part.number told needs);
    rack_count = λ who. ap (λ (x : R). rack.faults x who) r ∙ rack_count who;
    records = records_first part (area.told shard.even) (area.told shard.odd)
        (subst (λ (p : Part). OnTold (area.told shard.odd) (ListsOnce part.geometry part.number (created (layout_in p) part.geometry.props.version).image)) part_is recorded);
  }

  -- ---- all metaslabs

  part_at : Geometry → Perms → ℕ → Part
  part_at geometry perms m = record { geometry = geometry; perms = perms; number = m }

  -- those below a number are open, and the devices of the others are as they were
  pub record Opening (geometry : Geometry) (perms : Perms) (n : ℕ) (leaves leaves' : ℕ → Option Shape) (old new : Option Held) (before after : ℕ → KitCounts) (shards : List (Shard R A)) : Type 0 where
    pub many : length shards ≡ n
    pub each : (m : ℕ) (shard : Shard R A) → slice_get shards m ≡ Some shard → IsOpened rack area (record { geometry = geometry; perms = perms; number = m }) old (before m) shard
    pub told : TakesFirst n old new
    pub leaves_yet : (m : ℕ) → n ≤ m → leaves' m ≡ leaves m
    pub counts : (m : ℕ) → n ≤ m → after m ≡ before m

  pub opening_none : (geometry : Geometry) (perms : Perms) (leaves : ℕ → Option Shape) (old : Option Held) (before : ℕ → KitCounts) (shards : List (Shard R A)) → shards ≡ []
      → Opening geometry perms 0 leaves leaves old old before before shards
  opening_none geometry perms leaves old before shards none = rw none (record {
    many = refl;
    each = λ m shard there. absurd (cc);
    told = none_taken old;
    leaves_yet = λ m past. refl;
    counts = λ m past. refl;
  })

  pub opening_more : (geometry : Geometry) (perms : Perms) (n : ℕ) (leaves mid_leaves leaves' : ℕ → Option Shape) (old mid new : Option Held) (before middle after : ℕ → KitCounts)
      (shards shards' : List (Shard R A)) (shard : Shard R A) → Opening geometry perms n leaves mid_leaves old mid before middle shards → shards' ≡ shards ++ shard ∷ []
      → IsOpened rack area (record { geometry = geometry; perms = perms; number = n }) mid (middle n) shard → new ≡ takes_kit n mid → SameOthers n mid_leaves leaves' → SameOthers n middle after
      → Opening geometry perms (n + 1) leaves leaves' old new before after shards'
  opening_more geometry perms n leaves mid_leaves leaves' old mid new before middle after shards shards' shard o more is takes others counts =
      let long = o.many in
      record {
        many = ap (λ (xs : List (Shard R A)). length xs) more ∙ (let both = length-append shards (shard ∷ []) in omega (arith, both, long));
        each = λ m s there. each m s there (cases_lt m n);
        told = subst (TakesFirst (n + 1) old) (sym takes) (takes_more n old mid o.told);
        leaves_yet = λ m past. others m (λ is. omega (arith, is, past)) ∙ o.leaves_yet m (omega (arith, past));
        counts = λ m past. counts m (λ is. omega (arith, is, past)) ∙ o.counts m (omega (arith, past));
      } where
        unused : middle n ≡ before n
        unused = o.counts n (omega arith)

        own : IsOpened rack area (record { geometry = geometry; perms = perms; number = n }) old (before n) shard
        own = record {
          valid = is.valid;
          part_is = is.part_is;
          created_is = is.created_is;
          events = is.events;
          reserved = is.reserved;
          limit = is.limit;
          told = from_first n old mid (λ k. IsSomeAnd k (λ kit. rack.told shard.rack ≡ Some kit.rack)) o.told is.told;
          rack_count = λ who. is.rack_count who ∙ ap (λ (c : KitCounts). c.rack who) unused;
          records = is.records;
        }

        each : (m : ℕ) (s : Shard R A) → slice_get shards' m ≡ Some s → (m < n) ⊎ (n ≤ m) → IsOpened rack area (record { geometry = geometry; perms = perms; number = m }) old (before m) s
        each m s there (inl below) =
            let many = o.many in
            o.each m s (sym (get_before shards (shard ∷ []) m (omega (arith, below, many))) ∙ (ap (λ (xs : List (Shard R A)). slice_get xs m) (sym more) ∙ there))
        each m s there (inr past) =
            let many = o.many in
            let at : slice_get (shards ++ shard ∷ []) m ≡ Some s = ap (λ (xs : List (Shard R A)). slice_get xs m) (sym more) ∙ there in
            let within = slice_get_within (shards ++ shard ∷ []) m s at in
            let long = length-append shards (shard ∷ []) in
            let last : m ≡ n = omega (arith, within, long, many, past) in
            let same : shard ≡ s = some_of (slice_get (shards ++ shard ∷ []) m) shard s (at_end shards shard [] m (omega (arith, last, many))) at in
            subst (λ (k : ℕ). IsOpened rack area (record { geometry = geometry; perms = perms; number = k }) old (before k) s) (sym last)
            (subst (λ (x : Shard R A). IsOpened rack area (record { geometry = geometry; perms = perms; number = n }) old (before n) x) same own)

  -- where one is refused, those that were open are given back
  module _ (n : ℕ) (shards : List (Shard R A)) where
    back_held : (old mid last new : Option Held) → ((m : ℕ) (shard : Shard R A) → slice_get shards m ≡ Some shard → OnHeld old (λ x. IsSomeAnd (x.kits m) (λ kit. rack.told shard.rack ≡ Some kit.rack)))
        → length shards ≡ n → TakesFirst n old mid → OnHeld last (λ y. MatchOption mid ⊥ (λ x. SameButRecords x y)) → OnHeld new (λ y. MatchOption last ⊥ (λ x. TakesBack rack area shards x y))
        → OnHeld new (λ y. MatchOption old ⊥ (λ x. SameButRecords x y))
    back_held old mid last None own many t b r = tt
    back_held old mid None (Some y) own many t b r = absurd r
    back_held old None (Some l) (Some y) own many t b r = absurd b
    back_held None (Some z) (Some l) (Some y) own many t b r = absurd (cc)
    back_held (Some x) (Some z) (Some l) (Some y) own many t b r = record {
      uber = r.uber ∙ (b.uber ∙ t.uber);
      checks = r.checks ∙ (b.checks ∙ t.checks);
      kits = λ m. elim (cases_lt m n) [
        | inl below ↦
            (let s = present shards m (omega (arith, below, many)) in
            let k = r.kits m s.0 s.1 in
            ap rack_in k.2 ∙ (sym (kit_is (rack.told s.0.rack) (area.told s.0.even) (area.told s.0.odd) k.0 k.1).rack ∙ held_rack (x.kits m) (rack.told s.0.rack) (own m s.0 s.1)))
        | inr past ↦ ap rack_in (r.others m (omega (arith, past, many))) ∙ (b.kits m ∙ ap rack_in (t.others m past))
      ];
    }

  pub opening_back : (geometry : Geometry) (perms : Perms) (n : ℕ) (leaves mid_leaves : ℕ → Option Shape) (old mid last new : Option Held) (before middle late after : ℕ → KitCounts) (shards : List (Shard R A))
      → Opening geometry perms n leaves mid_leaves old mid before middle shards → IsBackAgain mid last middle late → Returns rack area shards last new late after → IsBackAgain old new before after
  opening_back geometry perms n leaves mid_leaves old mid last new before middle late after shards o b r =
      let many = o.many in
      record {
        held = back_held n shards old mid last new (λ m shard there. (o.each m shard there).told) o.many o.told b.held r.held;
        counts = λ m who. elim (cases_lt m n) [
          | inl below ↦ (let s = present shards m (omega (arith, below, many)) in r.rack_count m s.0 who s.1 ∙ (o.each m s.0 s.1).rack_count who)
          | inr past ↦ ap (λ (c : KitCounts). c.rack who) (r.others m (omega (arith, past, many))) ∙ (b.counts m who ∙ ap (λ (c : KitCounts). c.rack who) (o.counts m past))
        ];
      }

  -- a failure of the areas of the one that was refused is counted still
  pub refused_counted : (geometry : Geometry) (perms : Perms) (n : ℕ) (leaves mid_leaves : ℕ → Option Shape) (old mid last new : Option Held) (before middle late after : ℕ → KitCounts) (shards : List (Shard R A)) (first since last_count : ℕ)
      → Opening geometry perms n leaves mid_leaves old mid before middle shards → Returns rack area shards last new late after → first ≤ since → n < geometry.props.metaslabs → Rose since last_count ⊎ (0 < (late n).odd)
      → Rose first last_count ⊎ RecordsFailed geometry after
  refused_counted geometry perms n leaves mid_leaves old mid last new before middle late after shards first since last_count o r later below (inl rose) = inl (rose_since first since last_count later rose)
  refused_counted geometry perms n leaves mid_leaves old mid last new before middle late after shards first since last_count o r later below (inr some) =
      let many = o.many in
      let kept : (after n).odd ≡ (late n).odd = ap (λ (c : KitCounts). c.odd) (r.others n (omega (arith, many))) in
      inr (n, below, omega (arith, kept, some))

  pub opening_all : (geometry : Geometry) (perms : Perms) (n : ℕ) (leaves leaves' : ℕ → Option Shape) (old new : Option Held) (before after : ℕ → KitCounts) (shards : List (Shard R A))
      → Opening geometry perms n leaves leaves' old new before after shards → IsLayout geometry perms → n ≡ geometry.props.metaslabs → AreOpened rack area geometry old before shards
  opening_all geometry perms n leaves leaves' old new before after shards o layout end = record { perms = perms; are_perms = layout; many = o.many ∙ end; each = o.each }
