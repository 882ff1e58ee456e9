-- What an import finds on a shelf that tells what it holds, and knows its leaves, is one thing.
use Rattle.std.proofs.Common.{arith, ◌≡◌, ◌==◌, ◌%◌, ◌+◌, ◌*◌, ◌^◌, ◌-◌, ◌<◌, ◌∙◌, ◌⊎◌, inl, inr, ℕ, zero, suc, List, [], Option, Some, None, Result, Ok, Err, length, slice_index_or, if◌then◌else◌, refl, sym, ap, subst}
use Rattle.std.specs.Prelude.{Contains, IsSome, IsSomeAnd, is_some, min, slice_get}
use Rattle.std.proofs.lemmas.Bool.{cases_eq, cases_lt}
use Rattle.std.proofs.lemmas.Option.{slice_get_within}
use Rattle.draid_record.specs.declared.fault.RecordFaultKind.{RecordFaultKind}
use Rattle.draid_names.specs.declared.arm.Arm.{Arm}
use Rattle.draid_names.specs.declared.pointer.Pointer.{Pointer}
use Rattle.draid_area.specs.Area.{Content, OnTold}
use Rattle.draid_area.specs.declared.Area as areas
use Rattle.draid_rack.specs.Rack.{Shape}
use Rattle.draid_rack.specs.declared.Rack as racks
use Rattle.draid_spec.specs.declared.layout.Geometry.{Geometry}
use Rattle.draid_spec.specs.Geometry.{metaslab_sectors}
use Rattle.draid_record.specs.Record.{RecordTold, limits_of}
use Rattle.draid_record.specs.declared.fault.RecordFault.{RecordFault}
use Rattle.draid_record.specs.declared.fault.RecordFault.TheVariants.{Bad}
use Rattle.draid_record.specs.declared.uber.UberBody.{UberBody}
use Rattle.draid_shelf.specs.Kits.{Held, KitCounts, KitTold, puts_checks, puts_uber}
use Rattle.draid_pool.specs.Taking.{takes_areas}
use Rattle.draid_shelf.specs.Shelf.{IsKnown}
use Rattle.draid_record.specs.declared.sizes.TheConstants.{BLOCK_BYTES}
use Rattle.draid_stable.specs.Opening.{arms_told, block_at, has_leaf, opening_of}
use Rattle.draid_stable.specs.Stable as stable
use Rattle.draid_machine.specs.declared.names.Key.{Key}
use Rattle.draid_machine.proofs.Small.{none_some, some_same}
use Rattle.draid_entries.specs.declared.entries.Entries.{Entries}
use Rattle.draid_entries.specs.Entries.{entry_at}
use Rattle.draid_entries.specs.Live.{live_at}
use Rattle.draid_entries.specs.Maps.{staged}
use Rattle.draid_machine.specs.declared.names.Stage.TheVariants.{Live}
use Rattle.draid_perm.specs.declared.perms.Perms.{Perms}
use Rattle.draid_slots.specs.Table.{arms_of}
use Rattle.draid_shard.specs.Part.{Part}
use Rattle.draid_shard.specs.declared.shard.Shard.{Shard}
use Rattle.draid_uber.specs.Slots.{chosen_of, group_of}
use Rattle.draid_uber.specs.Uber.{kept_of, layout_of, next_leaf_of}
use Rattle.draid_uber.specs.declared.uber.Uber.{Uber}
use Rattle.draid_session.specs.Making.{vdev_name_of}
use Rattle.draid_session.specs.State.{limit_of}
use Rattle.draid_found.specs.Drops.{AreNewestBeside}
use Rattle.draid_record.specs.Checks.{CheckTold}
use Rattle.draid_record.specs.declared.checks.Dropped.{Dropped}
use Rattle.draid_import.specs.Checking.{HoldsCheck}
use Rattle.draid_import.proofs.ImportCheck.{ok_value as check_value, one_told}
use Rattle.draid_found.specs.Together.{AreApart, AreTogether, HasBlock, HasBlockTwice, HasEarlier, HasOtherArms, blocks_below, place_in}
use Rattle.draid_shard.specs.Alike.{AreSameArms, HaveSameArms}
use Rattle.draid_import.specs.Faulty.{AreReadApart, HoldsNoGroup, IsUnread, OneIsUnread, RecordIsBad, TellsBody}
use Rattle.draid_import.specs.Findings.{FindsPool, KnowsLeaves}
use Rattle.draid_import.specs.Found.{AreReopened, IsFoundUber, IsReopened, OpensAllOver, OpensOver}
use Rattle.draid_pool.proofs.Ascending.{fewer}
use Rattle.draid_pool.proofs.Returned.{KitIs, kit_is}
use Rattle.draid_import.proofs.Findings.{some_kit}
use Rattle.draid_import.proofs.ImportMetaslab.{of_told}
use Rattle.draid_import.proofs.ImportUber.{one_layout}
use Rattle.draid_pool.proofs.Lists.{present}

-- ---- the uberblock

pub one_chosen : (o : Option Content) (p q : Option (Result UberBody RecordFault)) → IsSomeAnd o (λ c. chosen_of c.bytes ≡ p) → IsSomeAnd o (λ c. chosen_of c.bytes ≡ q) → p ≡ q
one_chosen None p q one other = absurd one
one_chosen (Some c) p q one other = sym one ∙ other

abbrev pub whole : UberBody → Option (Result UberBody RecordFault)
whole body = Some (Ok body)

abbrev pub faulty : RecordFault → Option (Result UberBody RecordFault)
faulty why = Some (Err why)

ok_same : (a b : UberBody) → whole a ≡ whole b → a ≡ b
ok_same a b same = cc

pub ok_err : (a : UberBody) (f : RecordFault) → whole a ≡ faulty f → ⊥
ok_err a f same = cc

bad_same : (p : ℕ) (k : RecordFaultKind) (q : ℕ) (l : RecordFaultKind) → faulty (Bad p k) ≡ faulty (Bad q l) → (p ≡ q) × (k ≡ l)
bad_same p k q l same = (cc, cc)

pub none_chosen : (o : Option Content) (p : Result UberBody RecordFault) → OnTold o (λ c. chosen_of c.bytes ≡ None) → IsSomeAnd o (λ c. chosen_of c.bytes ≡ Some p) → ⊥
none_chosen None p none some = some
none_chosen (Some c) p none some = none_some (chosen_of c.bytes) p none some

-- two uberblocks with the body that a shelf tells have one layout, one group and one next leaf
pub record IsSameUber {A : Type 0} (u v : Uber A) : Type 0 where
  pub layout : layout_of v ≡ layout_of u
  pub group : group_of (kept_of v) ≡ group_of (kept_of u)
  pub next : next_leaf_of v ≡ next_leaf_of u

pub one_uber : {A : Type 0} (area : areas.Ghosts A) (x : Held) (u v : Uber A) → IsFoundUber area u → IsFoundUber area v → TellsBody (Some x) u → TellsBody (Some x) v → IsSameUber u v
one_uber area x u v found other t s =
    let body : s.body ≡ t.body = ok_same s.body t.body (one_chosen x.uber (Some (Ok s.body)) (Some (Ok t.body)) s.chosen t.chosen) in
    record {
      layout = one_layout (layout_of v) (layout_of u) other.valid.held.layout_is found.valid.held.layout_is (s.spec ∙ (ap (λ (b : UberBody). b.spec) body ∙ sym t.spec)) (s.props ∙ (ap (λ (b : UberBody). b.props) body ∙ sym t.props));
      group = ap (λ (k : Option UberBody). group_of k) s.kept ∙ (ap (λ (b : UberBody). b.group) body ∙ sym (ap (λ (k : Option UberBody). group_of k) t.kept));
      next = s.next_leaf ∙ (ap (λ (b : UberBody). b.next_leaf) body ∙ sym t.next_leaf);
    }

-- ---- shards of one record

abbrev read : RecordTold → Result RecordTold RecordFault
read value = Ok value

ok_value : (a b : RecordTold) → read a ≡ read b → a ≡ b
ok_value a b same = cc

counted_too : (a b : Entries) → ((first : ℕ) → entry_at a first ≡ entry_at b first) → (n : ℕ) → blocks_below a n ≡ blocks_below b n
unfolding blocks_below
counted_too a b same zero = refl
counted_too a b same (suc n) = λ i. counted_too a b same n i + (if is_some (same n i) then 1 else 0)

-- two shards have the arms and the blocks of one record
pub record IsTwin {R A : Type 0} (s t : Shard R A) : Type 0 where
  pub children : s.slots.geometry.spec.children ≡ t.slots.geometry.spec.children
  pub arms : s.slots.arms ≡ t.slots.arms
  pub «at» : (first : ℕ) → entry_at s.entries first ≡ entry_at t.entries first
  pub place : s.blocks_at ≡ t.blocks_at

module _ {R A : Type 0} where
  turned : (s t : Shard R A) → IsTwin s t → IsTwin t s
  turned s t w = record { children = sym w.children; arms = sym w.arms; «at» = λ first. sym (w.«at» first); place = sym w.place }

  arms_too : (a b c d : Shard R A) → IsTwin a b → IsTwin c d → HaveSameArms a.slots c.slots → HaveSameArms b.slots d.slots
  arms_too a b c d one other same = record {
    children = sym other.children ∙ (same.children ∙ one.children);
    slots = λ slot less. subst (λ (xs : List (List Arm)). AreSameArms (slice_index_or xs slot []) (arms_of d.slots slot)) one.arms
        (subst (λ (xs : List (List Arm)). AreSameArms (arms_of a.slots slot) (slice_index_or xs slot [])) other.arms (same.slots slot (subst (λ n. slot < n) (sym one.children) less)));
  }

  block_too : (s t : Shard R A) (key : Key) → IsTwin s t → HasBlock s key → HasBlock t key
  block_too s t key w h = record { first = h.first; e = h.e; there = sym (w.«at» h.first) ∙ h.there; key_is = h.key_is }

  place_too : (s t : Shard R A) (first : ℕ) → IsTwin s t → place_in s first ≡ place_in t first
  place_too s t first w = λ i. min (w.place i + BLOCK_BYTES * counted_too s.entries t.entries w.«at» first i) (2 ^ 64 - 1)

-- ---- the metaslabs

module _ {R A : Type 0} (rack : racks.Ghosts R) (area : areas.Ghosts A) (geometry : Geometry) (group next : ℕ) (y : Held) (leaves : ℕ → Option Shape) (counts : ℕ → KitCounts)
    (known : KnowsLeaves y leaves) where
  -- what the record of a metaslab says to a rack with these leaves
  abbrev said : ℕ → Shape → KitTold → Result RecordTold RecordFault
  said m shape kit = opening_of (limits_of geometry m group next) (has_leaf shape (metaslab_sectors geometry)) (stable.area_of group kit.even kit.odd).bytes

  -- so where its devices are held
  record Says (m : ℕ) (answer : Result RecordTold RecordFault) : Type 0 where
    kit : KitTold
    is_kit : y.kits m ≡ Some kit
    shape : Shape
    is_shape : leaves m ≡ Some shape
    says : said m shape kit ≡ answer

  one_says : (m : ℕ) (a b : Result RecordTold RecordFault) → Says m a → Says m b → a ≡ b
  one_says m a b s t = sym s.says ∙ ((λ i. said m (same_shape i) (same_kit i)) ∙ t.says)
    where
      same_kit : s.kit ≡ t.kit
      same_kit = some_same (y.kits m) s.kit t.kit s.is_kit t.is_kit

      same_shape : s.shape ≡ t.shape
      same_shape = some_same (leaves m) s.shape t.shape s.is_shape t.is_shape

  shape_there : (m : ℕ) (kit : KitTold) → y.kits m ≡ Some kit → (shape : Shape) × (leaves m ≡ Some shape)
  shape_there m kit is = by (leaves m) refl (known m (subst IsSome (sym is) refl))
    where
      by : (o : Option Shape) → leaves m ≡ o → IsSome o → (shape : Shape) × (leaves m ≡ Some shape)
      by None none some = absurd (cc)
      by (Some shape) same some = (shape, same)

  known_is : (o : Option Shape) (a b : Shape) → o ≡ Some b → IsKnown o a → a ≡ b
  known_is None a b is own = absurd (cc)
  known_is (Some s) a b is own = own ∙ (let same : s ≡ b = cc in same)

  -- a metaslab of this layout
  pub record IsHere (m : ℕ) (shard : Shard R A) : Type 0 where
    pub layout : shard.geometry ≡ geometry
    pub number : shard.number ≡ m
    pub slots : shard.slots.geometry ≡ geometry
    pub over : OpensOver rack area (limit_of geometry) group next m (Some y) (leaves m) (counts m) shard

  opened : (m : ℕ) (shard : Shard R A) → (h : IsHere m shard) → Says m (Ok h.over.opens.value)
  opened m shard h = record { kit = was.0; is_kit = was.1; shape = there.0; is_shape = there.1; says = read }
    where
      was : (k : KitTold) × (y.kits m ≡ Some k)
      was = some_kit (y.kits m) (λ none. (let failed = h.over.taken.some none in cc))

      there : (shape : Shape) × (leaves m ≡ Some shape)
      there = shape_there m was.0 was.1

      shape_is : rack.shape h.over.kit.rack ≡ there.0
      shape_is = known_is (leaves m) (rack.shape h.over.kit.rack) there.0 there.1 h.over.taken.leaves

      k : KitIs (rack.told h.over.kit.rack) (area.told h.over.kit.even) (area.told h.over.kit.odd) was.0
      k = kit_is (rack.told h.over.kit.rack) (area.told h.over.kit.even) (area.told h.over.kit.odd) was.0 (h.over.taken.told ∙ was.1)

      own : opening_of (limits_of shard.geometry shard.number group next) (has_leaf (rack.shape h.over.kit.rack) (metaslab_sectors shard.geometry)) (stable.area_of group was.0.even was.0.odd).bytes ≡ Ok h.over.opens.value
      own = of_told (group % 2 == 0) area.told h.over.kit.even h.over.kit.odd was.0.even was.0.odd
          (λ c. opening_of (limits_of shard.geometry shard.number group next) (has_leaf (rack.shape h.over.kit.rack) (metaslab_sectors shard.geometry)) c.bytes ≡ Ok h.over.opens.value) k.even k.odd h.over.opens.read

      read : said m there.0 was.0 ≡ Ok h.over.opens.value
      read = sym (λ i. opening_of (limits_of (h.layout i) (h.number i) group next) (has_leaf (shape_is i) (metaslab_sectors (h.layout i))) (stable.area_of group was.0.even was.0.odd).bytes) ∙ own

  placed : (m : ℕ) (shard : Shard R A) → (h : IsHere m shard) → (kit : KitTold) → y.kits m ≡ Some kit → shard.blocks_at ≡ block_at (stable.area_of group kit.even kit.odd).bytes h.over.opens.value.blocks 0
  placed m shard h kit is =
      let k = kit_is (rack.told h.over.kit.rack) (area.told h.over.kit.even) (area.told h.over.kit.odd) kit (h.over.taken.told ∙ is) in
      of_told (group % 2 == 0) area.told h.over.kit.even h.over.kit.odd kit.even kit.odd (λ c. shard.blocks_at ≡ block_at c.bytes h.over.opens.value.blocks 0) k.even k.odd h.over.opens.blocks

  refused : (m : ℕ) (metaslab : Option ℕ) (place : ℕ) (kind : RecordFaultKind) → IsUnread rack area geometry group next m (Some y) (leaves m) (counts m) metaslab place kind → Says m (Err (Bad place kind))
  refused m metaslab place kind u = record { kit = was.0; is_kit = was.1; shape = there.0; is_shape = there.1; says = read }
    where
      was : (k : KitTold) × (y.kits m ≡ Some k)
      was = some_kit (y.kits m) (λ none. (let failed = u.taken.some none in cc))

      there : (shape : Shape) × (leaves m ≡ Some shape)
      there = shape_there m was.0 was.1

      k : KitIs (rack.told u.kit.rack) (area.told u.kit.even) (area.told u.kit.odd) was.0
      k = kit_is (rack.told u.kit.rack) (area.told u.kit.even) (area.told u.kit.odd) was.0 (u.taken.told ∙ was.1)

      bytes : (stable.area_of group was.0.even was.0.odd).bytes ≡ u.bytes
      bytes = of_told (group % 2 == 0) area.told u.kit.even u.kit.odd was.0.even was.0.odd (λ c. c.bytes ≡ u.bytes) k.even k.odd u.are

      shape_is : rack.shape u.kit.rack ≡ there.0
      shape_is = known_is (leaves m) (rack.shape u.kit.rack) there.0 there.1 u.taken.leaves

      read : said m there.0 was.0 ≡ Err (Bad place kind)
      read = (λ i. opening_of (limits_of geometry m group next) (has_leaf (sym shape_is i) (metaslab_sectors geometry)) (bytes i)) ∙ u.bad

  twins : (m : ℕ) (s t : Shard R A) → IsHere m s → IsHere m t → IsTwin s t
  twins m s t h j = record {
    children = ap (λ (g : Geometry). g.spec.children) (h.slots ∙ sym j.slots);
    arms = h.over.opens.arms ∙ (ap (λ (v : RecordTold). arms_told v.slots) value ∙ sym j.over.opens.arms);
    «at» = λ first. h.over.opens.entries.at first ∙ (ap (λ (v : RecordTold). live_at v.blocks first) value ∙ sym (j.over.opens.entries.at first));
    place = placed m s h kit one.is_kit ∙ (ap (λ (v : RecordTold). block_at (stable.area_of group kit.even kit.odd).bytes v.blocks 0) value ∙ sym (placed m t j kit one.is_kit));
  }
    where
      one : Says m (Ok h.over.opens.value)
      one = opened m s h

      kit : KitTold
      kit = one.kit

      value : h.over.opens.value ≡ j.over.opens.value
      value = ok_value h.over.opens.value j.over.opens.value (one_says m (Ok h.over.opens.value) (Ok j.over.opens.value) one (opened m t j))

  -- those that were opened
  pub record AreHere (n : ℕ) (shards : List (Shard R A)) : Type 0 where
    pub many : length shards ≡ n
    pub each : (m : ℕ) (shard : Shard R A) → slice_get shards m ≡ Some shard → IsHere m shard

  not_refused : (n m : ℕ) (shards : List (Shard R A)) (metaslab : Option ℕ) (place : ℕ) (kind : RecordFaultKind) → AreHere n shards → m < n → IsUnread rack area geometry group next m (Some y) (leaves m) (counts m) metaslab place kind → ⊥
  not_refused n m shards metaslab place kind are below u =
      let many = are.many in
      let s = present shards m (omega (arith, below, many)) in
      let h = are.each m s.0 s.1 in
      let same = one_says m (Ok h.over.opens.value) (Err (Bad place kind)) (opened m s.0 h) (refused m metaslab place kind u) in
      cc

  one_refused : (m : ℕ) (a b : Option ℕ) (p : ℕ) (k : RecordFaultKind) (q : ℕ) (l : RecordFaultKind) → IsUnread rack area geometry group next m (Some y) (leaves m) (counts m) a p k → IsUnread rack area geometry group next m (Some y) (leaves m) (counts m) b q l
      → (a ≡ b) × (p ≡ q) × (k ≡ l)
  one_refused m a b p k q l u v =
      let same = one_says m (Err (Bad p k)) (Err (Bad q l)) (refused m a p k u) (refused m b q l v) in
      (u.metaslab_is ∙ sym v.metaslab_is, cc, cc)

  module _ (n : ℕ) (ss ts : List (Shard R A)) (are : AreHere n ss) (too : AreHere n ts) where
    pub twin : (m : ℕ) (t : Shard R A) → slice_get ts m ≡ Some t → (s : Shard R A) × (slice_get ss m ≡ Some s) × IsTwin t s
    twin m t there =
        let within = slice_get_within ts m t there in
        let many = are.many in
        let more = too.many in
        let s = present ss m (omega (arith, within, many, more)) in
        (s.0, s.1, twins m t s.0 (too.each m t there) (are.each m s.0 s.1))

    earlier_too : (m : ℕ) (key : Key) → HasEarlier ts m key → HasEarlier ss m key
    earlier_too m key h = (let s = twin h.m h.shard h.there in record { m = h.m; below = h.below; shard = s.0; there = s.1; block = block_too h.shard s.0 key s.2 h.block })

    -- where those below a number are together, no fault there is one of others that were opened from the same records
    not_other : (m : ℕ) (metaslab : Option ℕ) (place : ℕ) (kind : RecordFaultKind) → AreTogether ss m → (o : HasOtherArms ts metaslab place kind) → o.m < m → ⊥
    not_other m metaslab place kind together o below =
        let first = twin 0 o.first o.begins in
        let s = twin o.m o.shard o.there in
        o.differ (arms_too first.0 o.first s.0 o.shard (turned o.first first.0 first.2) (turned o.shard s.0 s.2) (together.alike o.m first.0 s.0 below first.1 s.1))

    not_twice : (m : ℕ) (metaslab : Option ℕ) (place : ℕ) (kind : RecordFaultKind) → AreTogether ss m → (o : HasBlockTwice ts metaslab place kind) → o.m < m → ⊥
    not_twice m metaslab place kind together o below =
        let s = twin o.m o.shard o.there in
        let e = twin o.earlier o.other o.other_there in
        together.once o.m s.0 o.key below s.1 (block_too o.shard s.0 o.key s.2 o.block) (record { m = o.earlier; below = o.before; shard = e.0; there = e.1; block = block_too o.other e.0 o.key e.2 o.twice })

    not_apart : (metaslab : Option ℕ) (place : ℕ) (kind : RecordFaultKind) → AreTogether ss n → AreApart ts metaslab place kind → ⊥
    not_apart metaslab place kind together (inl o) = (let within = slice_get_within ts o.m o.shard o.there in let many = too.many in not_other n metaslab place kind together o (omega (arith, within, many)))
    not_apart metaslab place kind together (inr o) = (let within = slice_get_within ts o.m o.shard o.there in let many = too.many in not_twice n metaslab place kind together o (omega (arith, within, many)))

  -- the first fault is one
  module _ (n : ℕ) (ss ts : List (Shard R A)) (are : AreHere n ss) (too : AreHere n ts) where
    other_and_twice : (a b : Option ℕ) (p : ℕ) (k : RecordFaultKind) (q : ℕ) (l : RecordFaultKind) (o : HasOtherArms ss a p k) (u : HasBlockTwice ts b q l) → ⊥
    other_and_twice a b p k q l o u = elim (cases_lt o.m u.m) [
      | inl less ↦ not_other n ts ss too are u.m a p k u.together o less
      | inr past ↦ elim (cases_eq o.m u.m) [
        | inl same ↦
            (let first = twin n ts ss too are 0 o.first o.begins in
            let s = twin n ts ss too are o.m o.shard o.there in
            let own : s.0 ≡ u.shard = some_same (slice_get ts u.m) s.0 u.shard (subst (λ m. slice_get ts m ≡ Some s.0) same s.1) u.there in
            o.differ (arms_too first.0 o.first s.0 o.shard (turned o.first first.0 first.2) (turned o.shard s.0 s.2) (subst (λ (t : Shard R A). HaveSameArms first.0.slots t.slots) (sym own) (u.alike first.0 first.1))))
        | inr other ↦ not_twice n ss ts are too o.m b q l o.together u (omega (arith, past, other))
      ]
    ]

    lower_twice : (a b : Option ℕ) (p : ℕ) (k : RecordFaultKind) (q : ℕ) (l : RecordFaultKind) (o : HasBlockTwice ss a p k) (u : HasBlockTwice ts b q l) → o.m ≡ u.m → o.block.first < u.block.first → ⊥
    lower_twice a b p k q l o u same less =
        let s = twin n ts ss too are o.m o.shard o.there in
        let own : s.0 ≡ u.shard = some_same (slice_get ts u.m) s.0 u.shard (subst (λ m. slice_get ts m ≡ Some s.0) same s.1) u.there in
        let e = twin n ts ss too are o.earlier o.other o.other_there in
        u.lowest o.block.first o.block.e less (subst (λ (t : Shard R A). entry_at t.entries o.block.first ≡ Some o.block.e) own (sym (s.2.«at» o.block.first) ∙ o.block.there))
        (record {
          m = o.earlier;
          below = (let before = o.before in omega (arith, before, same));
          shard = e.0;
          there = e.1;
          block = subst (λ key. HasBlock e.0 key) (sym o.block.key_is) (block_too o.other e.0 o.key e.2 o.twice);
        })

  module _ (n : ℕ) (ss ts : List (Shard R A)) (are : AreHere n ss) (too : AreHere n ts) where
    one_apart : (a b : Option ℕ) (p : ℕ) (k : RecordFaultKind) (q : ℕ) (l : RecordFaultKind) → AreApart ss a p k → AreApart ts b q l → (a ≡ b) × (p ≡ q) × (k ≡ l)
    one_apart a b p k q l (inl o) (inl u) = elim (cases_lt o.m u.m) [
      | inl less ↦ absurd (not_other n ts ss too are u.m a p k u.together o less)
      | inr past ↦ elim (cases_eq o.m u.m) [
        | inl same ↦ (o.metaslab_is ∙ (ap (λ m. Some m) same ∙ sym u.metaslab_is), o.place_is ∙ sym u.place_is, o.kind_is ∙ sym u.kind_is)
        | inr other ↦ absurd (not_other n ss ts are too o.m b q l o.together u (omega (arith, past, other)))
      ]
    ]
    one_apart a b p k q l (inl o) (inr u) = absurd (other_and_twice n ss ts are too a b p k q l o u)
    one_apart a b p k q l (inr o) (inl u) = absurd (other_and_twice n ts ss too are b a q l p k u o)
    one_apart a b p k q l (inr o) (inr u) = elim (cases_lt o.m u.m) [
      | inl less ↦ absurd (not_twice n ts ss too are u.m a p k u.together o less)
      | inr past ↦ elim (cases_eq o.m u.m) [
        | inl same ↦ elim (cases_lt o.block.first u.block.first) [
          | inl less ↦ absurd (lower_twice n ss ts are too a b p k q l o u same less)
          | inr high ↦ elim (cases_eq o.block.first u.block.first) [
            | inl here ↦
                (let s = twin n ts ss too are o.m o.shard o.there in
                let own : s.0 ≡ u.shard = some_same (slice_get ts u.m) s.0 u.shard (subst (λ m. slice_get ts m ≡ Some s.0) same s.1) u.there in (
                  o.metaslab_is ∙ (ap (λ m. Some m) same ∙ sym u.metaslab_is),
                  o.place_is ∙ (place_too o.shard s.0 o.block.first s.2 ∙ ((λ i. place_in (own i) (here i)) ∙ sym u.place_is)),
                  o.kind_is ∙ sym u.kind_is,
                ))
            | inr there ↦ absurd (lower_twice n ts ss too are b a q l p k u o (sym same) (omega (arith, high, there)))
          ]
        ]
        | inr other ↦ absurd (not_twice n ss ts are too o.m b q l o.together u (omega (arith, past, other)))
      ]
    ]

  -- ---- faults of records

  abbrev Apart : Option ℕ → ℕ → RecordFaultKind → Type 0
  Apart metaslab place kind = AreReadApart rack area geometry group next (Some y) leaves counts metaslab place kind

  abbrev Unread : Option ℕ → ℕ → RecordFaultKind → Type 0
  Unread metaslab place kind = OneIsUnread rack area geometry group next (Some y) leaves counts metaslab place kind

  here_is : (m : ℕ) (shard : Shard R A) (perms : Perms) → IsReopened rack (record { geometry = geometry; perms = perms; number = m }) group shard
      → OpensOver rack area (limit_of geometry) group next m (Some y) (leaves m) (counts m) shard → IsHere m shard
  here_is m shard perms is over = record {
    layout = ap (λ (p : Part). p.geometry) is.part_is;
    number = ap (λ (p : Part). p.number) is.part_is;
    slots = is.valid.slots.geometry_is ∙ ap (λ (p : Part). p.geometry) is.part_is;
    over = over;
  }

  pub all_here : (shards : List (Shard R A)) → AreReopened rack geometry group shards → OpensAllOver rack area (limit_of geometry) group next (Some y) leaves counts shards → AreHere geometry.props.metaslabs shards
  all_here shards are over = record { many = are.many; each = λ m shard there. here_is m shard are.perms (are.each m shard there) (over m shard there) }

  below_here : (a : Option ℕ) (p : ℕ) (k : RecordFaultKind) (u : Unread a p k) → AreHere u.m u.below
  below_here a p k u = record { many = u.many; each = λ m shard there. here_is m shard u.perms (u.each m shard there) (u.over m shard there) }

  pub one_fault : (a b : Option ℕ) (p : ℕ) (k : RecordFaultKind) (q : ℕ) (l : RecordFaultKind) → Unread a p k ⊎ Apart a p k → Unread b q l ⊎ Apart b q l → (a ≡ b) × (p ≡ q) × (k ≡ l)
  one_fault a b p k q l (inl u) (inl v) = elim (cases_lt u.m v.m) [
    | inl less ↦ absurd (not_refused v.m u.m v.below a p k (below_here b q l v) less u.unread)
    | inr past ↦ elim (cases_eq u.m v.m) [
      | inl same ↦ one_refused u.m a b p k q l u.unread (subst (λ m. IsUnread rack area geometry group next m (Some y) (leaves m) (counts m) b q l) (sym same) v.unread)
      | inr other ↦ absurd (not_refused u.m v.m u.below b q l (below_here a p k u) (omega (arith, past, other)) v.unread)
    ]
  ]
  one_fault a b p k q l (inl u) (inr v) = absurd (not_refused geometry.props.metaslabs u.m v.shards a p k (all_here v.shards v.reopened v.over) u.inside u.unread)
  one_fault a b p k q l (inr u) (inl v) = absurd (not_refused geometry.props.metaslabs v.m u.shards b q l (all_here u.shards u.reopened u.over) v.inside v.unread)
  one_fault a b p k q l (inr u) (inr v) =
      one_apart geometry.props.metaslabs u.shards v.shards (all_here u.shards u.reopened u.over) (all_here v.shards v.reopened v.over) a b p k q l u.apart v.apart

  pub no_fault : (shards : List (Shard R A)) (a : Option ℕ) (p : ℕ) (k : RecordFaultKind) → AreReopened rack geometry group shards → OpensAllOver rack area (limit_of geometry) group next (Some y) leaves counts shards
      → AreTogether shards (length shards) → Unread a p k ⊎ Apart a p k → ⊥
  no_fault shards a p k are over together (inl u) = not_refused geometry.props.metaslabs u.m shards a p k (all_here shards are over) u.inside u.unread
  no_fault shards a p k are over together (inr v) =
      not_apart geometry.props.metaslabs shards v.shards (all_here shards are over) (all_here v.shards v.reopened v.over) a p k (subst (AreTogether shards) are.many together) v.apart

  -- an object that has a block in the ones has one in the others
  pub same_objects : (ss ts : List (Shard R A)) (newest also : ℕ → Option Pointer) → AreReopened rack geometry group ss → OpensAllOver rack area (limit_of geometry) group next (Some y) leaves counts ss
      → AreReopened rack geometry group ts → OpensAllOver rack area (limit_of geometry) group next (Some y) leaves counts ts → (named : List Dropped) → AreNewestBeside ss named newest → AreNewestBeside ts named also
      → (object : ℕ) → IsSome (newest object) → IsSome (also object)
  same_objects ss ts newest also are over are' over' named found found' object some = by (newest object) refl some
    where
      by : (o : Option Pointer) → newest object ≡ o → IsSome o → IsSome (also object)
      by None none some = absurd (cc)
      by (Some p) is some =
          let led = found.pointers object p is in
          let to = led.0 in
          let t = twin geometry.props.metaslabs ts ss (all_here ts are' over') (all_here ss are over) p.metaslab to.shard to.there in
          let reach = found'.known p.metaslab t.0 p.first (staged Live p) t.1 (sym (t.2.«at» p.first) ∙ to.live) led.1 in
          subst IsSome (sym (ap also (sym to.object_is) ∙ reach.1)) refl

-- ---- the law

module _ {R A : Type 0} (rack : racks.Ghosts R) (area : areas.Ghosts A) (x : Held) (leaves : ℕ → Option Shape) (counts : ℕ → KitCounts) where
  pub none_no_fault : (a : Option ℕ) (p : ℕ) (k : RecordFaultKind) → HoldsNoGroup (Some x) → RecordIsBad rack area (Some x) leaves counts a p k → ⊥
  none_no_fault a p k none (inl bad) = none_chosen x.uber (Err (Bad p k)) none bad.bad
  none_no_fault a p k none (inr bad) = none_chosen x.uber (Ok bad.body.body) none bad.body.chosen

  pub none_no_pool : (group : ℕ) (name : List ℕ) (objects : ℕ) → HoldsNoGroup (Some x) → FindsPool rack area (Some x) leaves counts group name objects → ⊥
  none_no_pool group name objects none f = none_chosen x.uber (Ok f.read.body.body) none f.read.body.chosen

  module _ (known : KnowsLeaves x leaves) where
    -- what is said of one uberblock is said of the other
    pub turns_bad : (u v : Uber A) (a : Option ℕ) (p : ℕ) (k : RecordFaultKind) → IsSameUber u v
        → OneIsUnread rack area (layout_of v) (group_of (kept_of v)) (next_leaf_of v) (takes_areas (Some x)) leaves counts a p k ⊎ AreReadApart rack area (layout_of v) (group_of (kept_of v)) (next_leaf_of v) (takes_areas (Some x)) leaves counts a p k
        → OneIsUnread rack area (layout_of u) (group_of (kept_of u)) (next_leaf_of u) (takes_areas (Some x)) leaves counts a p k ⊎ AreReadApart rack area (layout_of u) (group_of (kept_of u)) (next_leaf_of u) (takes_areas (Some x)) leaves counts a p k
    turns_bad u v a p k same bad =
        subst (λ (g : Geometry). OneIsUnread rack area g (group_of (kept_of u)) (next_leaf_of u) (takes_areas (Some x)) leaves counts a p k ⊎ AreReadApart rack area g (group_of (kept_of u)) (next_leaf_of u) (takes_areas (Some x)) leaves counts a p k) same.layout
        (subst (λ n. OneIsUnread rack area (layout_of v) n (next_leaf_of u) (takes_areas (Some x)) leaves counts a p k ⊎ AreReadApart rack area (layout_of v) n (next_leaf_of u) (takes_areas (Some x)) leaves counts a p k) same.group
        (subst (λ n. OneIsUnread rack area (layout_of v) (group_of (kept_of v)) n (takes_areas (Some x)) leaves counts a p k ⊎ AreReadApart rack area (layout_of v) (group_of (kept_of v)) n (takes_areas (Some x)) leaves counts a p k) same.next bad))

    pub pool_no_fault : (group : ℕ) (name : List ℕ) (objects : ℕ) (a : Option ℕ) (p : ℕ) (k : RecordFaultKind) → FindsPool rack area (Some x) leaves counts group name objects → RecordIsBad rack area (Some x) leaves counts a p k → ⊥
    pool_no_fault group name objects a p k f (inl bad) = ok_err f.read.body.body (Bad p k) (one_chosen x.uber (Some (Ok f.read.body.body)) (Some (Err (Bad p k))) f.read.body.chosen bad.bad)
    pool_no_fault group name objects a p k f (inr bad) =
        let r = f.read in
        let same = one_uber area x f.uber bad.uber r.found bad.found r.body bad.body in
        no_fault rack area (layout_of f.uber) (group_of (kept_of f.uber)) (next_leaf_of f.uber) (puts_checks None (puts_uber None x)) leaves counts known f.shards a p k r.reopened r.over r.together (turns_bad f.uber bad.uber a p k same bad.bad)

    pub same_fault : (a b : Option ℕ) (p : ℕ) (k : RecordFaultKind) (q : ℕ) (l : RecordFaultKind) → RecordIsBad rack area (Some x) leaves counts a p k → RecordIsBad rack area (Some x) leaves counts b q l → (a ≡ b) × (p ≡ q) × (k ≡ l)
    same_fault a b p k q l (inl bad) (inl ill) =
        let same = bad_same p k q l (one_chosen x.uber (Some (Err (Bad p k))) (Some (Err (Bad q l))) bad.bad ill.bad) in
        (bad.metaslab_is ∙ sym ill.metaslab_is, same.0, same.1)
    same_fault a b p k q l (inl bad) (inr ill) = absurd (ok_err ill.body.body (Bad p k) (one_chosen x.uber (Some (Ok ill.body.body)) (Some (Err (Bad p k))) ill.body.chosen bad.bad))
    same_fault a b p k q l (inr bad) (inl ill) = absurd (ok_err bad.body.body (Bad q l) (one_chosen x.uber (Some (Ok bad.body.body)) (Some (Err (Bad q l))) bad.body.chosen ill.bad))
    same_fault a b p k q l (inr bad) (inr ill) =
        let same = one_uber area x bad.uber ill.uber bad.found ill.found bad.body ill.body in
        one_fault rack area (layout_of bad.uber) (group_of (kept_of bad.uber)) (next_leaf_of bad.uber) (puts_checks None (puts_uber None x)) leaves counts known a b p k q l bad.bad (turns_bad bad.uber ill.uber b q l same ill.bad)

    pub same_pool : (g h : ℕ) (a b : List ℕ) (n m : ℕ) → FindsPool rack area (Some x) leaves counts g a n → FindsPool rack area (Some x) leaves counts h b m → (g ≡ h) × (a ≡ b) × (n ≡ m)
    same_pool g h a b n m f e = (
      f.group_is ∙ (sym same.group ∙ sym e.group_is),
      f.name_is ∙ (ap (λ (l : Geometry). vdev_name_of l.spec) (sym same.layout) ∙ sym e.name_is),
      (let one = fewer f.names.names e.names.names f.names.ascending e.names.ascending there in
          let other = fewer e.names.names f.names.names e.names.ascending f.names.ascending back in
          let many = f.names.many in
          let more = e.names.many in
          omega (arith, one, other, many, more)),
    )
      where
        same : IsSameUber f.uber e.uber
        same = one_uber area x f.uber e.uber f.read.found e.read.found f.read.body e.read.body

        reopened : AreReopened rack (layout_of f.uber) (group_of (kept_of f.uber)) e.shards
        reopened = subst (λ (l : Geometry). AreReopened rack l (group_of (kept_of f.uber)) e.shards) same.layout (subst (λ n. AreReopened rack (layout_of e.uber) n e.shards) same.group e.read.reopened)

        over : OpensAllOver rack area (limit_of (layout_of f.uber)) (group_of (kept_of f.uber)) (next_leaf_of f.uber) (takes_areas (Some x)) leaves counts e.shards
        over = subst (λ (l : Geometry). OpensAllOver rack area (limit_of l) (group_of (kept_of f.uber)) (next_leaf_of f.uber) (takes_areas (Some x)) leaves counts e.shards) same.layout
            (subst (λ n. OpensAllOver rack area (limit_of (layout_of e.uber)) n (next_leaf_of f.uber) (takes_areas (Some x)) leaves counts e.shards) same.group
            (subst (λ n. OpensAllOver rack area (limit_of (layout_of e.uber)) (group_of (kept_of e.uber)) n (takes_areas (Some x)) leaves counts e.shards) same.next e.read.over))

        -- one check record
        one_check : f.read.blocks.value ≡ e.read.blocks.value
        one_check = check_value f.read.blocks.value e.read.blocks.value (one_told (group_of (kept_of f.uber)) x (Ok f.read.blocks.value) (Ok e.read.blocks.value) f.read.blocks.checked.read
            (subst (λ n. HoldsCheck n (Some x) (Ok e.read.blocks.value)) same.group e.read.blocks.checked.read))

        newest_also : AreNewestBeside e.shards f.read.blocks.value.drops e.newest
        newest_also = subst (λ (v : CheckTold). AreNewestBeside e.shards v.drops e.newest) (sym one_check) e.read.blocks.newest_is

        there : (object : ℕ) → Contains f.names.names object → Contains e.names.names object
        there object c = (e.names.each object).1 (same_objects rack area (layout_of f.uber) (group_of (kept_of f.uber)) (next_leaf_of f.uber) (puts_checks None (puts_uber None x)) leaves counts known f.shards e.shards f.newest e.newest
            f.read.reopened f.read.over reopened over f.read.blocks.value.drops f.read.blocks.newest_is newest_also object ((f.names.each object).0 c))

        back : (object : ℕ) → Contains e.names.names object → Contains f.names.names object
        back object c = (f.names.each object).1 (same_objects rack area (layout_of f.uber) (group_of (kept_of f.uber)) (next_leaf_of f.uber) (puts_checks None (puts_uber None x)) leaves counts known e.shards f.shards e.newest f.newest
            reopened over f.read.reopened f.read.over f.read.blocks.value.drops newest_also f.read.blocks.newest_is object ((e.names.each object).0 c))
