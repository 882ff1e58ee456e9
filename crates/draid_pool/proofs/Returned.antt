-- The devices of a pool's metaslabs are given back to a shelf.
use Rattle.std.proofs.Common.{arith, ◌≡◌, ◌==◌, ◌%◌, ◌+◌, ◌≤◌, ◌++◌, ◌∙◌, inl, inr, ℕ, List, [], ◌∷◌, Option, Some, None, refl, sym, ap, subst, length, length-append, if◌then◌else◌}
use Rattle.std.specs.Prelude.{⊤, Bool, true, false, IsSome, IsSomeAnd, MatchOption, slice_get}
use Rattle.std.proofs.lemmas.Bool.{cases_eq}
use Rattle.std.proofs.lemmas.Bool.Decides.{nat_tests}
use Rattle.std.proofs.lemmas.List.{append-nil, append_assoc}
use Rattle.std.proofs.lemmas.Option.{slice_get_within}
use Rattle.draid_rack.specs.Rack.{Told, Shape}
use Rattle.draid_rack.specs.declared.Rack as racks
use Rattle.draid_area.specs.Area.{Content}
use Rattle.draid_area.specs.Moments as area_moments
use Rattle.draid_area.specs.declared.Area as areas
use Rattle.draid_names.specs.declared.pointer.Pointer.{Pointer}
use Rattle.draid_map.specs.Place.{IsLayout}
use Rattle.draid_machine.specs.Created.{IsReached}
use Rattle.draid_layouts.specs.Layout.{layout_of}
use Rattle.draid_segments.specs.Segments.{Backed, Pieces}
use Rattle.draid_shelf.specs.Kits.{Both, ChecksTold, CrashedChecks, CrashedHeld, CrashedKit, Held, KitCounts, KitTold, OnHeld, gives_kit, kit_of, puts_checks, puts_uber}
use Rattle.draid_shelf.specs.Shelf.{SameOthers}
use Rattle.draid_stable.specs.Stable as stable
use Rattle.draid_stable.proofs.Lasting.{stable_left}
use Rattle.draid_shard.specs.declared.shard.Shard.{Shard}
use Rattle.draid_pool.specs.Groups.{ListsOnce, at_version}
use Rattle.draid_shard.specs.Part.{Part, layout_in}
use Rattle.draid_shard.specs.States.{layout_by}
use Rattle.draid_uber.specs.Checks.{AreasTold, told_by}
use Rattle.draid_uber.specs.Uber.{areas_of}
use Rattle.draid_uber.proofs.Recorded.{crash_areas}
use Rattle.draid_session.specs.State.{Metaslab, State}
use Rattle.draid_pool.specs.Returning.{AllTell, HoldsPool, Rests, RestsOn, Returns, ReturnsLeaves, SameCounts, TakesBack, areas_told, kit_in}
use Rattle.draid_pool.specs.Metaslabs.{IsMetaslab, harm_of}
use Rattle.draid_pool.specs.Objects.{HoldsObjects, blocks_of}
use Rattle.draid_pool.specs.Pools.{Stands, part_in}
use Rattle.draid_pool.specs.Importable.{AllAlike, HasPoolVersions, Shared}
use Rattle.draid_pool.specs.Records.{HasImages, HasLeafNumbers, area_for}
use Rattle.draid_pool.specs.Taking.{gives_areas}
use Rattle.draid_pool.specs.Ubers.{UberStands, kept_in, check_told}
use Rattle.draid_pool.specs.declared.pool.Pool.{Pool}
use Rattle.draid_pool.proofs.Lists.{present, some_of}

pub at_end : {A : Type 0} (xs : List A) (x : A) (ys : List A) (n : ℕ) → n ≡ length xs → slice_get (xs ++ x ∷ ys) n ≡ Some x
at_end xs x ys n same = rw same (place xs x ys)
  where
    place : {A : Type 0} (xs : List A) (x : A) (ys : List A) → slice_get (xs ++ x ∷ ys) (length xs) ≡ Some x
    place [] x ys = refl
    place (z ∷ xs) x ys = place xs x ys

pub put_here : {A : Type 0} (n q : ℕ) (x y : A) → q ≡ n → (if q == n then x else y) ≡ x
put_here n q x y is = grind (arith, nat_tests, is)

pub put_there : {A : Type 0} (n q : ℕ) (x y : A) → (q ≡ n → ⊥) → (if q == n then x else y) ≡ y
put_there n q x y other = grind (arith, nat_tests, other)

module _ {R A : Type 0} (rack : racks.Ghosts R) (area : areas.Ghosts A) where
  -- the kits of shards from a number on are held
  pub record GivenFrom (n : ℕ) (shards : List (Shard R A)) (old new : Held) : Type 0 where
    pub uber : new.uber ≡ old.uber
    pub checks : new.checks ≡ old.checks
    pub kits : (m : ℕ) (shard : Shard R A) → n ≤ m → slice_get shards m ≡ Some shard → (kit : KitTold) × (kit_in rack area shard ≡ Some kit) × (new.kits m ≡ Some kit)
    pub others : (m : ℕ) → length shards ≤ m → new.kits m ≡ old.kits m

  -- the devices of the shards behind those that are left were given
  pub record Giving (shards left : List (Shard R A)) (old new : Option Held) (before after : ℕ → KitCounts) : Type 0 where
    pub back : List (Shard R A)
    pub parts : left ++ back ≡ shards
    pub held : OnHeld new (λ y. MatchOption old ⊥ (λ x. GivenFrom (length left) shards x y))
    pub tells : IsSome old → AllTell rack area shards → IsSome new
    pub rack_count : (m : ℕ) (shard : Shard R A) (who : Option ℕ) → length left ≤ m → slice_get shards m ≡ Some shard → (after m).rack who ≡ rack.faults shard.rack who
    pub even_count : (m : ℕ) (shard : Shard R A) → length left ≤ m → slice_get shards m ≡ Some shard → (after m).even ≡ area.faults shard.even
    pub odd_count : (m : ℕ) (shard : Shard R A) → length left ≤ m → slice_get shards m ≡ Some shard → (after m).odd ≡ area.faults shard.odd
    pub others : (m : ℕ) → length shards ≤ m → after m ≡ before m

  none_given : (shards : List (Shard R A)) (o : Option Held) → OnHeld o (λ y. MatchOption o ⊥ (λ x. GivenFrom (length shards) shards x y))
  none_given shards None = tt
  none_given shards (Some x) = record {
    uber = refl;
    checks = refl;
    kits = λ m shard past there. (let below = slice_get_within shards m shard there in absurd (omega (arith, below, past)));
    others = λ m past. refl;
  }

  pub giving_none : (shards : List (Shard R A)) (old : Option Held) (before : ℕ → KitCounts) → Giving shards shards old old before before
  giving_none shards old before = record {
    back = [];
    parts = append-nil shards;
    held = none_given shards old;
    tells = λ some all. some;
    rack_count = λ m shard who past there. (let below = slice_get_within shards m shard there in absurd (omega (arith, below, past)));
    even_count = λ m shard past there. (let below = slice_get_within shards m shard there in absurd (omega (arith, below, past)));
    odd_count = λ m shard past there. (let below = slice_get_within shards m shard there in absurd (omega (arith, below, past)));
    others = λ m past. refl;
  }

  gives_some : (n : ℕ) (kit : Option KitTold) (mid : Option Held) → IsSome kit → IsSome mid → IsSome (gives_kit n kit mid)
  gives_some n None mid k m = absurd (cc)
  gives_some n (Some kit) None k m = absurd (cc)
  gives_some n (Some kit) (Some x) k m = refl

  module _ (shards left fewer back : List (Shard R A)) (shard : Shard R A) (n : ℕ) (parts : left ++ back ≡ shards) (popped : left ≡ fewer ++ shard ∷ []) (at : n ≡ length fewer) where
    pub now : fewer ++ shard ∷ back ≡ shards
    now = sym (append_assoc fewer (shard ∷ []) back) ∙ (ap (λ (xs : List (Shard R A)). xs ++ back) (sym popped) ∙ parts)

    here : slice_get shards n ≡ Some shard
    here = ap (λ (xs : List (Shard R A)). slice_get xs n) (sym now) ∙ at_end fewer shard back n at

    long : length left ≡ length fewer + 1
    long = ap (λ (xs : List (Shard R A)). length xs) popped ∙ length-append fewer (shard ∷ [])

    whole : length shards ≡ length fewer + length (shard ∷ back)
    whole = ap (λ (xs : List (Shard R A)). length xs) (sym now) ∙ length-append fewer (shard ∷ back)

    own : (m : ℕ) (s : Shard R A) → m ≡ n → slice_get shards m ≡ Some s → shard ≡ s
    own m s is there = some_of (slice_get shards n) shard s here (subst (λ (k : ℕ). slice_get shards k ≡ Some s) is there)

    behind : (m : ℕ) → length fewer ≤ m → (m ≡ n → ⊥) → length left ≤ m
    behind m low other = (let l = long in omega (arith, low, l, at, other))

    apart : (m : ℕ) → length shards ≤ m → m ≡ n → ⊥
    apart m past is = (let w = whole in omega (arith, is, past, w, at))

    held_more : (kit : Option KitTold) (mid old : Option Held) → kit ≡ kit_in rack area shard → OnHeld mid (λ y. MatchOption old ⊥ (λ x. GivenFrom (length left) shards x y))
        → OnHeld (gives_kit n kit mid) (λ y. MatchOption old ⊥ (λ x. GivenFrom (length fewer) shards x y))
    held_more None mid old is h = tt
    held_more (Some k) None old is h = tt
    held_more (Some k) (Some y) None is h = absurd h
    held_more (Some k) (Some y) (Some x) is h = record {
      uber = h.uber;
      checks = h.checks;
      kits = λ m s low there. elim (cases_eq m n) [
        | inl same ↦
            (let e : kit_in rack area shard ≡ kit_in rack area s = ap (λ (x : Shard R A). kit_in rack area x) (own m s same there) in
            (k, sym e ∙ sym is, put_here n m (Some k) (y.kits m) same))
        | inr other ↦ (let given = h.kits m s (behind m low (λ same. omega (arith, same, other))) there in (given.0, given.1, put_there n m (Some k) (y.kits m) (λ same. omega (arith, same, other)) ∙ given.2))
      ];
      others = λ m past. put_there n m (Some k) (y.kits m) (apart m past) ∙ h.others m past;
    }

    pub more_held : (kit : Option KitTold) (mid new old : Option Held) → kit ≡ kit_in rack area shard → new ≡ gives_kit n kit mid → OnHeld mid (λ y. MatchOption old ⊥ (λ x. GivenFrom (length left) shards x y))
        → OnHeld new (λ y. MatchOption old ⊥ (λ x. GivenFrom (length fewer) shards x y))
    more_held kit mid new old is gives h = subst (λ o. OnHeld o (λ y. MatchOption old ⊥ (λ x. GivenFrom (length fewer) shards x y))) (sym gives) (held_more kit mid old is h)

    -- the same of a count
    pub counted : {B C : Type 0} (count : C → B) (of : Shard R A → B) (mid after : ℕ → C) → ((m : ℕ) (s : Shard R A) → length left ≤ m → slice_get shards m ≡ Some s → count (mid m) ≡ of s)
        → count (after n) ≡ of shard → SameOthers n mid after → (m : ℕ) (s : Shard R A) → length fewer ≤ m → slice_get shards m ≡ Some s → count (after m) ≡ of s
    counted count of mid after before is others m s low there = elim (cases_eq m n) [
      | inl same ↦ ap (λ (k : ℕ). count (after k)) same ∙ (is ∙ ap of (own m s same there))
      | inr other ↦ ap count (others m (λ same. omega (arith, same, other))) ∙ before m s (behind m low (λ same. omega (arith, same, other))) there
    ]

    pub spared : {C : Type 0} (before mid after : ℕ → C) → ((m : ℕ) → length shards ≤ m → mid m ≡ before m) → SameOthers n mid after → (m : ℕ) → length shards ≤ m → after m ≡ before m
    spared before mid after same others m past = others m (apart m past) ∙ same m past

  pub giving_more : (shards left fewer : List (Shard R A)) (shard : Shard R A) (n : ℕ) (kit : Option KitTold) (old mid new : Option Held) (before middle after : ℕ → KitCounts)
      → Giving shards left old mid before middle → left ≡ fewer ++ shard ∷ [] → n ≡ length fewer → kit ≡ kit_in rack area shard → new ≡ gives_kit n kit mid
      → ((who : Option ℕ) → (after n).rack who ≡ rack.faults shard.rack who) → (after n).even ≡ area.faults shard.even → (after n).odd ≡ area.faults shard.odd → SameOthers n middle after
      → Giving shards fewer old new before after
  giving_more shards left fewer shard n kit old mid new before middle after g popped at is gives rack_count even_count odd_count others = record {
    back = shard ∷ g.back;
    parts = now shards left fewer g.back shard n g.parts popped at;
    held = more_held shards left fewer g.back shard n g.parts popped at kit mid new old is gives g.held;
    tells = λ some all. subst IsSome (sym gives) (gives_some n kit mid (subst IsSome (sym is) (all n shard (here shards left fewer g.back shard n g.parts popped at))) (g.tells some all));
    rack_count = λ m s who low there. counted shards left fewer g.back shard n g.parts popped at (λ (c : KitCounts). c.rack who) (λ (x : Shard R A). rack.faults x.rack who) middle after (λ m s low there. g.rack_count m s who low there) (rack_count who) others m s low there;
    even_count = counted shards left fewer g.back shard n g.parts popped at (λ (c : KitCounts). c.even) (λ (x : Shard R A). area.faults x.even) middle after g.even_count even_count others;
    odd_count = counted shards left fewer g.back shard n g.parts popped at (λ (c : KitCounts). c.odd) (λ (x : Shard R A). area.faults x.odd) middle after g.odd_count odd_count others;
    others = spared shards left fewer g.back shard n g.parts popped at before middle after g.others others;
  }

  -- the shelf has the leaves of the racks behind those that are left
  pub record GivingLeaves (shards left : List (Shard R A)) (before after : ℕ → Option Shape) : Type 0 where
    pub own : (m : ℕ) (shard : Shard R A) → length left ≤ m → slice_get shards m ≡ Some shard → after m ≡ Some (rack.shape shard.rack)
    pub others : (m : ℕ) → length shards ≤ m → after m ≡ before m

  pub leaves_none : (shards : List (Shard R A)) (before : ℕ → Option Shape) → GivingLeaves shards shards before before
  leaves_none shards before = record {
    own = λ m shard past there. (let below = slice_get_within shards m shard there in absurd (omega (arith, below, past)));
    others = λ m past. refl;
  }

  pub leaves_more : (shards left fewer : List (Shard R A)) (shard : Shard R A) (n : ℕ) (old mid : Option Held) (counts counts' : ℕ → KitCounts) (before middle after : ℕ → Option Shape)
      → Giving shards left old mid counts counts' → GivingLeaves shards left before middle → left ≡ fewer ++ shard ∷ [] → n ≡ length fewer → after n ≡ Some (rack.shape shard.rack) → SameOthers n middle after
      → GivingLeaves shards fewer before after
  leaves_more shards left fewer shard n old mid counts counts' before middle after g l popped at is others = record {
    own = counted shards left fewer g.back shard n g.parts popped at (λ (o : Option Shape). o) (λ (x : Shard R A). Some (rack.shape x.rack)) middle after l.own is others;
    others = spared shards left fewer g.back shard n g.parts popped at before middle after l.others others;
  }

  pub leaves_all : (shards left : List (Shard R A)) (before after : ℕ → Option Shape) → GivingLeaves shards left before after → left ≡ [] → ReturnsLeaves rack shards before after
  leaves_all shards left before after g none =
      let zero : length left ≡ 0 = ap (λ (xs : List (Shard R A)). length xs) none in
      record { own = λ m shard there. g.own m shard (omega (arith, zero)) there; others = g.others }

  all_held : (shards : List (Shard R A)) (n : ℕ) (old new : Option Held) → n ≡ 0 → OnHeld new (λ y. MatchOption old ⊥ (λ x. GivenFrom n shards x y)) → OnHeld new (λ y. MatchOption old ⊥ (λ x. TakesBack rack area shards x y))
  all_held shards n old None zero h = tt
  all_held shards n None (Some y) zero h = absurd h
  all_held shards n (Some x) (Some y) zero h = record {
    uber = h.uber;
    checks = h.checks;
    kits = λ m shard there. h.kits m shard (omega (arith, zero)) there;
    others = h.others;
  }

  pub giving_all : (shards left : List (Shard R A)) (old new : Option Held) (before after : ℕ → KitCounts) → Giving shards left old new before after → left ≡ [] → Returns rack area shards old new before after
  giving_all shards left old new before after g none =
      let zero : length left ≡ 0 = ap (λ (xs : List (Shard R A)). length xs) none in
      record {
        held = all_held shards (length left) old new zero g.held;
        tells = g.tells;
        rack_count = λ m shard who there. g.rack_count m shard who (omega (arith, zero)) there;
        even_count = λ m shard there. g.even_count m shard (omega (arith, zero)) there;
        odd_count = λ m shard there. g.odd_count m shard (omega (arith, zero)) there;
        others = g.others;
      }

-- what a kit tells, by its parts
pub record KitIs (r : Option Told) (e o : Option Content) (kit : KitTold) : Type 0 where
  pub rack : r ≡ Some kit.rack
  pub even : e ≡ Some kit.even
  pub odd : o ≡ Some kit.odd

pub kit_is : (r : Option Told) (e o : Option Content) (kit : KitTold) → kit_of r e o ≡ Some kit → KitIs r e o kit
kit_is None e o kit is = absurd (cc)
kit_is (Some r) None o kit is = absurd (cc)
kit_is (Some r) (Some e) None kit is = absurd (cc)
kit_is (Some r) (Some e) (Some o) kit is =
    let same : record { rack = r; even = e; odd = o } ≡ kit = some_of (Some kit) (record { rack = r; even = e; odd = o }) kit (sym is) refl in
    record { rack = ap (λ (k : KitTold). Some k.rack) same; even = ap (λ (k : KitTold). Some k.even) same; odd = ap (λ (k : KitTold). Some k.odd) same }

on_some : {X : Type 0} (o : Option X) (x : X) (P : X → Type 0) → o ≡ Some x → MatchOption o ⊤ P → P x
on_some None x P is h = absurd (cc)
on_some (Some y) x P is h = subst P (some_of (Some y) y x refl is) h

some_and : {X : Type 0} (o : Option X) (x : X) (P : X → Type 0) → o ≡ Some x → P x → IsSomeAnd o P
some_and o x P is h = subst (λ z. IsSomeAnd z P) (sym is) h

-- the area of a group, of two that tell
pub area_told : (group : ℕ) (e o : Option Content) (kit : KitTold) (P : Content → Type 0) → e ≡ Some kit.even → o ≡ Some kit.odd → MatchOption (area_for group e o) ⊤ P
    → P (stable.area_of group kit.even kit.odd)
area_told group e o kit P even odd h = by (group % 2 == 0) h
  where
    by : (b : Bool) → MatchOption (if b then e else o) ⊤ P → P (if b then kit.even else kit.odd)
    by true h = on_some e kit.even P even h
    by false h = on_some o kit.odd P odd h

module _ {R A : Type 0} (rack : racks.Ghosts R) (area : areas.Ghosts A) where
  -- Shards that stand for the metaslabs of a state, and areas that tell what an import may find of it.
  pub record Parts (shards : List (Shard R A)) (told : AreasTold) (x : State) : Type 0 where
    pub layout : IsLayout x.geometry x.perms
    pub many : length x.metaslabs ≡ x.geometry.props.metaslabs
    pub shards_are : length shards ≡ length x.metaslabs
    pub pieces : ℕ → Pieces
    pub each : (m : ℕ) (shard : Shard R A) (y : Metaslab) → slice_get shards m ≡ Some shard → slice_get x.metaslabs m ≡ Some y
        → IsMetaslab rack area (part_in x m) (pieces m) shard y
    pub holds : HoldsObjects x.geometry x.committed x.store (blocks_of x.metaslabs) pieces
    pub uber : UberStands x told
    pub images : HasImages x
    pub leaves : HasLeafNumbers x
    pub shared : Shared
    pub versions : HasPoolVersions x.kept_version x.next_version shared
    pub alike : AllAlike shared x

  pub stands_parts : (pool : Pool R A) (table : ℕ → Option Pointer) (x : State) → Stands rack area pool table x → Parts pool.metaslabs.shards.items (told_by area.told (areas_of pool.uber)) x
  stands_parts pool table x s = record {
    layout = s.layout;
    many = s.many;
    shards_are = s.shards;
    pieces = s.pieces;
    each = s.each;
    holds = s.holds;
    uber = s.uber.stands;
    images = s.images;
    leaves = s.leaves;
    shared = s.shared;
    versions = s.versions;
    alike = s.alike;
  }

  backed : (x : State) (m : ℕ) (pieces : Pieces) (shard : Shard R A) (y : Metaslab) (kit : KitTold) → IsMetaslab rack area (part_in x m) pieces shard y → rack.told shard.rack ≡ Some kit.rack
      → Backed (layout_of x.geometry x.perms m) pieces y.world kit.rack
  backed x m pieces shard y kit is told =
      subst (λ (p : Part). Backed (layout_in p) pieces y.world kit.rack) is.part_is (on_some (rack.told shard.rack) kit.rack (Backed (layout_by shard) pieces y.world) told is.stands.segments)

  pub rests_on : (x : State) (m : ℕ) (pieces : Pieces) (shard : Shard R A) (y : Metaslab) (kit : KitTold) → IsMetaslab rack area (part_in x m) pieces shard y → kit_in rack area shard ≡ Some kit
      → RestsOn x m pieces y kit
  rests_on x m pieces shard y kit is told =
      let k = kit_is (rack.told shard.rack) (area.told shard.even) (area.told shard.odd) kit told in
      record {
        reached = subst (λ (p : Part). IsReached (layout_in p) y.world) is.part_is is.stands.reached;
        images = λ image of. record {
          recorded = (area_told image.group (area.told shard.even) (area.told shard.odd) kit (ListsOnce x.geometry m image) k.even k.odd (is.records image of)).has;
          firm = (backed x m pieces shard y kit is k.rack).images image of;
        };
        harm = some_and y.harm kit.rack.harmed (λ harm. (leaf sector : ℕ) → kit.rack.harmed leaf sector ≡ harm leaf sector) (is.harm ∙ ap harm_of k.rack) (λ leaf sector. refl);
        bytes = is.bytes;
      }

  module _ (shards : List (Shard R A)) (told : AreasTold) (x : State) (p : Parts shards told x) where
    shard_at : (m : ℕ) (y : Metaslab) → slice_get x.metaslabs m ≡ Some y → (shard : Shard R A) × (slice_get shards m ≡ Some shard)
    shard_at m y there = (let within = slice_get_within x.metaslabs m y there in let many = p.shards_are in present shards m (omega (arith, within, many)))

    -- what stands in for all that was given back
    held_again : (u : Content) (checks : ChecksTold) (a b : Held) → told ≡ areas_told u checks → TakesBack rack area shards a b → HoldsPool x false (puts_checks (Some checks) (puts_uber (Some u) b))
    held_again u checks a b is t = record {
      pieces = p.pieces;
      rests = record {
        layout = p.layout;
        uber = subst (UberStands x) is p.uber;
        many = p.many;
        kits = λ m y there.
            (let s = shard_at m y there in
            let k = t.kits m s.0 s.1 in
            some_and (b.kits m) k.0 (RestsOn x m (p.pieces m) y) k.2 (rests_on x m (p.pieces m) s.0 y k.0 (p.each m s.0 y s.1 there) k.1));
        images = p.images;
        leaves = p.leaves;
        objects = p.holds;
      };
      backed = λ none m y there.
          (let s = shard_at m y there in
          let k = t.kits m s.0 s.1 in
          let rack_told = (kit_is (rack.told s.0.rack) (area.told s.0.even) (area.told s.0.odd) k.0 k.1).rack in
          some_and (b.kits m) k.0 (λ kit. Backed (layout_of x.geometry x.perms m) (p.pieces m) y.world kit.rack) k.2 (backed x m (p.pieces m) s.0 y k.0 (p.each m s.0 y s.1 there) rack_told));
    }

    all_again : (u e o : Option Content) (a b : Option Held) → told ≡ record { uber = u; even = e; odd = o } → OnHeld b (λ y. MatchOption a ⊥ (λ z. TakesBack rack area shards z y))
        → OnHeld (gives_areas (record { uber = u; even = e; odd = o }) b) (HoldsPool x false)
    all_again u None o a b is h = tt
    all_again u (Some e) None a b is h = tt
    all_again None (Some e) (Some o) a b is h = tt
    all_again (Some u) (Some e) (Some o) a None is h = tt
    all_again (Some u) (Some e) (Some o) None (Some b) is h = absurd h
    all_again (Some u) (Some e) (Some o) (Some a) (Some b) is h = held_again u (record { even = e; odd = o }) a b is h

    module _ (old mid : Option Held) (before after : ℕ → KitCounts) (r : Returns rack area shards old mid before after) where
      pub holds_pool : (new : Option Held) → new ≡ gives_areas told mid → OnHeld new (HoldsPool x false)
      holds_pool new gives = subst (λ o. OnHeld o (HoldsPool x false)) (sym gives) (all_again told.uber told.even told.odd old mid refl r.held)

      pub counted_as : (last : ℕ → KitCounts) → ((m : ℕ) → last m ≡ after m) → (m : ℕ) (y : Metaslab) → slice_get x.metaslabs m ≡ Some y → SameCounts y.counts (last m)
      counted_as last kept m y there =
          let s = shard_at m y there in
          let same = (p.each m s.0 y s.1 there).counts in
          record {
            rack = λ who. ap (λ (c : KitCounts). c.rack who) (kept m) ∙ (r.rack_count m s.0 who s.1 ∙ ap (λ c. c.rack who) (sym same));
            even = ap (λ (c : KitCounts). c.even) (kept m) ∙ (r.even_count m s.0 s.1 ∙ ap (λ c. c.even) (sym same));
            odd = ap (λ (c : KitCounts). c.odd) (kept m) ∙ (r.odd_count m s.0 s.1 ∙ ap (λ c. c.odd) (sym same));
          }

-- ---- a crash

both_some : {X : Type 0} (C : X → X → Type 0) (P Q : X → Type 0) (o n : Option X) → IsSomeAnd o P → Both C o n → ((a b : X) → P a → C a b → Q b) → IsSomeAnd n Q
both_some C P Q None n h both step = absurd h
both_some C P Q (Some a) None h both step = absurd both
both_some C P Q (Some a) (Some b) h both step = step a b h both

some_map : {X : Type 0} (o : Option X) (P Q : X → Type 0) → IsSomeAnd o P → ((x : X) → P x → Q x) → IsSomeAnd o Q
some_map None P Q h step = absurd h
some_map (Some x) P Q h step = step x h

areas_crashed : (x : State) (a b : Option Content) (c d : Option ChecksTold) → IsSomeAnd a (λ u. IsSomeAnd c (λ checks. UberStands x (areas_told u checks))) → Both area_moments.IsCrashOutcome a b → Both CrashedChecks c d
    → IsSomeAnd b (λ u. IsSomeAnd d (λ checks. UberStands x (areas_told u checks)))
areas_crashed x None b c d h uber checks = absurd h
areas_crashed x (Some u) b None d h uber checks = absurd h
areas_crashed x (Some u) None (Some c) d h uber checks = absurd uber
areas_crashed x (Some u) (Some v) (Some c) None h uber checks = absurd checks
areas_crashed x (Some u) (Some v) (Some c) (Some d) h uber checks = record {
  pending = h.pending;
  are = h.are;
  stands = crash_areas (check_told x.store.marks) (kept_in x) h.pending (areas_told u c) (areas_told v d) h.stands (record { uber = uber; even = checks.even; odd = checks.odd });
}

module _ (x : State) (pieces : ℕ → Pieces) where
  kit_crashed : (m : ℕ) (y : Metaslab) (a b : KitTold) → RestsOn x m (pieces m) y a → CrashedKit a b → RestsOn x m (pieces m) y b
  kit_crashed m y a b r crash = record {
    reached = r.reached;
    images = λ image of. stable_left (at_version image.version x.geometry) m (layout_of x.geometry x.perms m) (pieces m) image y.world.aside a b (r.images image of) crash;
    harm = some_map y.harm (λ harm. (leaf sector : ℕ) → a.rack.harmed leaf sector ≡ harm leaf sector) (λ harm. (leaf sector : ℕ) → b.rack.harmed leaf sector ≡ harm leaf sector) r.harm
        (λ harm same leaf sector. crash.rack.harmed leaf sector ∙ same leaf sector);
    bytes = r.bytes;
  }

  pub rests_crashed : (held left : Held) → Rests x pieces held → CrashedHeld held left → Rests x pieces left
  rests_crashed held left r crash = record {
    layout = r.layout;
    uber = areas_crashed x held.uber left.uber held.checks left.checks r.uber crash.uber crash.checks;
    many = r.many;
    kits = λ m y there. both_some CrashedKit (RestsOn x m (pieces m) y) (RestsOn x m (pieces m) y) (held.kits m) (left.kits m) (r.kits m y there) (crash.kits m) (kit_crashed m y);
    images = r.images;
    leaves = r.leaves;
    objects = r.objects;
  }

-- the pool is held after a crash too, where one was asked for
pub pool_crashed : (x : State) (crash : Bool) (mid new : Option Held) → crash ≡ true → Both CrashedHeld mid new → OnHeld mid (HoldsPool x false) → OnHeld new (HoldsPool x crash)
pool_crashed x crash mid None is both h = tt
pool_crashed x crash None (Some y) is both h = absurd (cc)
pool_crashed x crash (Some z) (Some y) is both h = record { pieces = h.pieces; rests = rests_crashed x h.pieces z y h.rests both; backed = λ none. absurd (cc) }

pub pool_uncrashed : (x : State) (crash : Bool) (new : Option Held) → crash ≡ false → OnHeld new (HoldsPool x false) → OnHeld new (HoldsPool x crash)
pool_uncrashed x crash new is h = subst (λ c. OnHeld new (HoldsPool x c)) (sym is) h
