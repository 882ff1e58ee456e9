-- A write in the metaslab that was named, behind a look at each.
use Rattle.std.proofs.Common.{◌≡◌, ◌≤◌, ◌<◌, ◌+◌, ◌++◌, ◌∙◌, ℕ, Bool, false, List, [], ◌∷◌, Option, Some, None, Result, Ok, Err, arith, refl, sym, ap, subst, length}
use Rattle.std.proofs.lemmas.List.{append_assoc}
use Rattle.std.specs.List.{AllZip}
use Rattle.std.specs.Prelude.{slice_get}
use Rattle.std.proofs.lemmas.Option.{slice_get_within}
use Rattle.draid_names.specs.declared.numbers.TheConstants.{LAST_NUMBER}
use Rattle.draid_names.specs.declared.pointer.Pointer.{Pointer}
use Rattle.draid_names.specs.declared.refusal.WriteFault.{WriteFault}
use Rattle.draid_names.specs.declared.refusal.WriteFault.TheVariants as fault
use Rattle.draid_names.specs.declared.room.Room.{Room}
use Rattle.draid_rack.specs.declared.Rack as racks
use Rattle.draid_area.specs.declared.Area as areas
use Rattle.draid_spec.specs.declared.layout.Geometry.{Geometry}
use Rattle.draid_block.specs.Blocks.{BlockValue, cut_of}
use Rattle.draid_block.specs.Columns.{stripes_of}
use Rattle.draid_blocks.specs.declared.fault.BeginFault.{BeginFault}
use Rattle.draid_blocks.specs.declared.fault.BeginFault.TheVariants as begin
use Rattle.draid_choose.specs.Rooms.{Picks}
use Rattle.draid_objects.specs.Changes.{Wrote, write_of}
use Rattle.draid_machine.specs.State as machine
use Rattle.draid_shard.specs.Fits.{Valid}
use Rattle.draid_shard.specs.Part.{Part}
use Rattle.draid_shard.specs.States.{IsIn}
use Rattle.draid_shard.specs.declared.shard.Shard.{Shard}
use Rattle.draid_session.specs.Holds.{Hold}
use Rattle.draid_session.specs.Looks.{LooksFrom, OnlyLooks}
use Rattle.draid_session.specs.Points.{IsPointOf}
use Rattle.draid_session.specs.Rooms.{IsRoomOf, LooksForRoom, longest, stripes_for}
use Rattle.draid_session.specs.State.{State, Store}
use Rattle.draid_session.specs.Writes as written
use Rattle.draid_session.specs.Writes.{Chooses}
use Rattle.draid_pool.specs.Threads.{AllStay, Knows, LeadsBy}
use Rattle.draid_pool.specs.Shards.{HasRoom}
use Rattle.draid_pool.proofs.Joining.{Both, leads_then}
use Rattle.draid_pool.proofs.Steps.{SameLayout, own_of}
use Rattle.draid_store.specs.Answers.{MissesIn, WriteDoes, WriteInDoes, WritesIn}
use Rattle.draid_pool.specs.Looking.{HasMany, LooksAtRooms, LooksDo, RoomsAre}
use Rattle.draid_pool.specs.Threads.{HaveLayout}
use Rattle.draid_store.specs.Putting.{Takes}
use Rattle.draid_store.specs.Open.{KnowsReplaced}
use Rattle.draid_store.specs.Storing.{AwaitsIn, HasKept, IsAnswerTo, IsServedBut, StoreRefusedBy, StoreSetsTable, StoresNew, WriteAwaits, WriteSays, WritesBy, store_with}
use Rattle.draid_store.specs.declared.fault.StoreFault.{StoreFault}
use Rattle.draid_store.specs.declared.fault.StoreFault.TheVariants.{Missed, Refused}
use Rattle.draid_pool.specs.declared.room.SeenRooms.{SeenRooms}
use Rattle.draid_store.proofs.ChooseSteps.{has_room, short_all}
use Rattle.draid_pool.proofs.Joining.{leads_as}
use Rattle.draid_pool.proofs.LookHold.{only_looked}
use Rattle.draid_pool.proofs.LookRooms.{looks_append}
use Rattle.draid_store.proofs.Refused.{refused_memory}
use Rattle.draid_objects.specs.Marks.{Mark}

-- ---- what a write did, by the layout and by what the thread had

record WroteIn (g : Geometry) (t : Store) (m o : ℕ) (bytes : List ℕ) (holds : List Hold) (new : Store) : Type 0 where
  pub birth : ℕ
  pub columns : ℕ
  pub group : ℕ
  pub front : List Hold
  pub back : List Hold
  pub are : holds ≡ front ++ back
  pub writes : written.WritesBlock g o (t.seq + 1) bytes t.floor m birth columns front
  pub few : columns ≤ g.spec.parity
  pub marks : List Mark
  pub leaves : written.LeavesEarlier t.marks (write_of t.changes o) birth group back marks
  pub made : new ≡ record {
    changes = Wrote (record { object = o; seq = t.seq + 1; metaslab = m; birth = birth; bytes = bytes }) ∷ t.changes;
    marks = marks;
    seq = t.seq + 1;
    floor = group;
  }

record MissedIn (g : Geometry) (t : Store) (m o : ℕ) (bytes : List ℕ) (columns : ℕ) (holds : List Hold) (new : Store) : Type 0 where
  pub birth : ℕ
  pub writes : written.WritesBlock g o (t.seq + 1) bytes t.floor m birth columns holds
  pub over : g.spec.parity < columns
  pub made : new ≡ record { changes = t.changes; marks = t.marks; seq = t.seq + 1; floor = birth }

record WaitsIn (g : Geometry) (t : Store) (m o birth : ℕ) (bytes : List ℕ) (point : Option ℕ) (earlier : Pointer) (holds : List Hold) (new : Store) : Type 0 where
  pub columns : ℕ
  pub front : List Hold
  pub back : List Hold
  pub are : holds ≡ front ++ back
  pub looks : OnlyLooks back
  pub kept : HasKept point earlier → back ≡ []
  pub writes : written.WritesBlock g o (t.seq + 1) bytes t.floor m birth columns front
  pub few : columns ≤ g.spec.parity
  pub made : new ≡ store_with t o m birth bytes

wrote_in : (x y : State) (m o : ℕ) (bytes : List ℕ) (holds : List Hold) (new : Store) → SameLayout x y → WritesIn y m o bytes holds new → WroteIn x.geometry x.store m o bytes holds new
wrote_in x y m o bytes holds new s w = own_of x y (λ g p t. WroteIn g t m o bytes holds new) s (record {
  birth = w.birth;
  columns = w.columns;
  group = w.group;
  front = w.front;
  back = w.back;
  are = w.are;
  writes = w.writes;
  few = w.few;
  marks = w.marks;
  leaves = w.leaves;
  made = w.made;
})

missed_in : (x y : State) (m o : ℕ) (bytes : List ℕ) (columns : ℕ) (holds : List Hold) (new : Store) → SameLayout x y → MissesIn y m o bytes columns holds new → MissedIn x.geometry x.store m o bytes columns holds new
missed_in x y m o bytes columns holds new s w = own_of x y (λ g p t. MissedIn g t m o bytes columns holds new) s (record { birth = w.birth; writes = w.writes; over = w.over; made = w.made })

waits_in : (x y : State) (m o birth : ℕ) (bytes : List ℕ) (point : Option ℕ) (earlier : Pointer) (holds : List Hold) (new : Store) → SameLayout x y → AwaitsIn y m o birth bytes point earlier holds new → WaitsIn x.geometry x.store m o birth bytes point earlier holds new
waits_in x y m o birth bytes point earlier holds new s w = own_of x y (λ g p t. WaitsIn g t m o birth bytes point earlier holds new) s (record {
  columns = w.stores.columns;
  front = w.front;
  back = w.back;
  are = w.are;
  looks = w.looks;
  kept = w.kept;
  writes = w.stores.writes;
  few = w.stores.few;
  made = w.stores.made;
})

-- ---- the looks

module _ (x : State) (geometry : Geometry) (layout : x.geometry ≡ geometry) (bytes : List ℕ) (need : ℕ) (need_is : need ≡ stripes_for geometry bytes) (rooms : SeenRooms) where
  for_room : (holds : List Hold) → (l : LooksAtRooms x.geometry x.perms need geometry.props.metaslabs rooms holds) → LooksForRoom x.geometry x.perms bytes holds l.views rooms.rooms.items
  for_room holds l = record {
    looked = subst (λ (g : Geometry). LooksFrom 0 g.props.metaslabs holds l.views) (sym layout) l.looked;
    are = subst (λ n. AllZip (IsRoomOf x.geometry x.perms n) l.views rooms.rooms.items) (need_is ∙ ap (λ (g : Geometry). stripes_for g bytes) (sym layout)) l.are;
  }

  chooses : (chosen : List Room → Option ℕ → Type 0) (m : ℕ) (holds : List Hold) → chosen rooms.rooms.items (Some m) → LooksAtRooms x.geometry x.perms need geometry.props.metaslabs rooms holds → Chooses x.geometry x.perms chosen bytes m holds
  chooses chosen m holds named l = record { views = l.views; rooms = rooms.rooms.items; looked = for_room holds l; named = named }

  pub no_space_says : (chosen : List Room → Option ℕ → Type 0) (object : ℕ) → 1 ≤ need → Picks rooms.rooms.items None → (holds : List Hold) (store : Store) → LooksDo x need geometry.props.metaslabs (Ok rooms) holds store
      → WriteDoes x chosen object bytes (Err (fault.NoSpace (longest rooms.rooms.items) rooms.disabled rooms.full rooms.worn)) holds store
  no_space_says chosen object some picks holds store d = (
    record {
      views = d.1.views;
      rooms = rooms.rooms.items;
      looked = for_room holds d.1;
      run_is = refl;
      short = (let less = short_all x.geometry x.perms need d.1.views rooms.rooms.items some d.1.are (picks.none.0 refl) in let same = need_is ∙ ap (λ (g : Geometry). stripes_for g bytes) (sym layout) in omega (arith, less, same));
      disabled_are = d.1.disabled;
      full_are = d.1.full;
      worn_are = d.1.worn;
    },
    d.0,
  )

  pub last_says : (chosen : List Room → Option ℕ → Type 0) (object m : ℕ) → chosen rooms.rooms.items (Some m) → LAST_NUMBER ≤ x.store.seq → (holds : List Hold) (store : Store) → LooksDo x need geometry.props.metaslabs (Ok rooms) holds store
      → WriteDoes x chosen object bytes (Err fault.Last) holds store
  last_says chosen object m named last holds store d = (record { m = m; chooses = chooses chosen m holds named d.1; last = last }, d.0)

  pub starved_says : (chosen : List Room → Option ℕ → Type 0) (object : ℕ) (holds : List Hold) (store : Store) → LooksDo x need geometry.props.metaslabs (Ok rooms) holds store → WriteDoes x chosen object bytes (Err fault.NoMemory) holds store
  starved_says chosen object holds store d = (only_looked 0 geometry.props.metaslabs holds d.1.views d.1.looked, d.0)

-- ---- and the write

module _ {R A S : Type 0} (rack : racks.Ghosts R) (area : areas.Ghosts A) (went : S → ℕ → Shard R A → Shard R A → S → Type 0) (shared : Bool) (owns : ℕ → Bool) (a b c : S) (last mid new : ℕ → Option (Shard R A)) (geometry : Geometry) (point : Option ℕ) (chosen : List Room → Option ℕ → Type 0)
    (object m : ℕ) (block : BlockValue) (need : ℕ) (need_is : need ≡ stripes_for geometry block.bytes) (rooms : SeenRooms) (table then_table : ℕ → Option Pointer) (seq floor then_seq then_floor : ℕ) (named : chosen rooms.rooms.items (Some m)) (numbered : seq < LAST_NUMBER)
    (x : State) (layout : x.geometry ≡ geometry) (is_point : IsPointOf x.store.marks point) (knows : Knows rack area owns last table seq floor x) (looked : LeadsBy rack area went shared a b x (LooksDo x need geometry.props.metaslabs (Ok rooms)) (Knows rack area owns mid table seq floor)) where
  abbrev Looked : List Hold → Store → Type 0
  Looked = LooksDo x need geometry.props.metaslabs (Ok rooms)

  abbrev Known : (ℕ → Option (Shard R A)) → State → Type 0
  Known now = Knows rack area owns now table seq floor

  abbrev Then : State → Type 0
  Then = Knows rack area owns new then_table then_seq then_floor

  low : x.store.seq < LAST_NUMBER
  low = (let own = knows.but_it.seq in omega (arith, own, numbered))

  same_as : (y : State) (front : List Hold) → y.geometry ≡ x.geometry → y.perms ≡ x.perms → Looked front y.store → SameLayout x y
  same_as y front geometry_is perms d = record { geometry = geometry_is; perms = perms; store = d.0 }

  point_on : (y : State) → y.store ≡ x.store → IsPointOf y.store.marks point
  point_on y same = subst (λ (t : Store). IsPointOf t.marks point) (sym same) is_point

  abbrev WroteBy : List Hold → Store → Type 0
  WroteBy holds store = WroteIn x.geometry x.store m object block.bytes holds store × (store.marks ≡ x.store.marks)

  -- a whole write
  whole_write : (says : (y : State) → y.geometry.g ≡ geometry.g → IsPointOf y.store.marks point → Known mid y → LeadsBy rack area went shared b c y (λ holds store. WriteInDoes y m object block.bytes (Ok tt) holds store × (store.marks ≡ y.store.marks)) Then)
      → LeadsBy rack area went shared a c x (λ holds store. WriteDoes x chosen object block.bytes (Ok tt) holds store × (store.marks ≡ x.store.marks)) Then
  whole_write says = leads_as rack area went shared a c x (Both rack area went shared a b c x Looked (Known mid) WroteBy Then) (λ holds store. WriteDoes x chosen object block.bytes (Ok tt) holds store × (store.marks ≡ x.store.marks)) Then
      (λ holds store d.
      let w = d.second.0 in (
        record {
          m = m;
          birth = w.birth;
          columns = w.columns;
          group = w.group;
          tried = d.front ++ w.front;
          freed = w.back;
          are = d.are ∙ (ap (λ hs. d.front ++ hs) w.are ∙ sym (append_assoc d.front w.front w.back));
          tries = record { looks = d.front; written = w.front; are = refl; chooses = chooses x geometry layout block.bytes need need_is rooms chosen m d.front named d.first.1; numbered = low; writes = w.writes };
          few = w.few;
          marks = w.marks;
          leaves = w.leaves;
          made = w.made;
        },
        d.second.1,
      ))
      (leads_then rack area went shared a b c x Looked (Known mid) WroteBy Then looked
      (λ y geometry_is perms front done known. leads_as rack area went shared b c y (λ holds store. WriteInDoes y m object block.bytes (Ok tt) holds store × (store.marks ≡ y.store.marks)) WroteBy Then
      (λ holds store w. (wrote_in x y m object block.bytes holds store (same_as y front geometry_is perms done) w.0, w.1 ∙ ap (λ (t : Store). t.marks) done.0))
      (says y (ap (λ (g : Geometry). g.g) (geometry_is ∙ layout)) (point_on y done.0) known)))

  -- too many columns landed nowhere
  missed_write : (columns : ℕ) (says : (y : State) → y.geometry.g ≡ geometry.g → Known mid y → LeadsBy rack area went shared b c y (WriteInDoes y m object block.bytes (Err (fault.Missed columns))) Then)
      → LeadsBy rack area went shared a c x (WriteDoes x chosen object block.bytes (Err (fault.Missed columns))) Then
  missed_write columns says = leads_as rack area went shared a c x (Both rack area went shared a b c x Looked (Known mid) (MissedIn x.geometry x.store m object block.bytes columns) Then) (WriteDoes x chosen object block.bytes (Err (fault.Missed columns))) Then
      (λ holds store d.
      let w = d.second in
      record {
        m = m;
        birth = w.birth;
        tries = record { looks = d.front; written = d.back; are = d.are; chooses = chooses x geometry layout block.bytes need need_is rooms chosen m d.front named d.first.1; numbered = low; writes = w.writes };
        over = w.over;
        made = w.made;
      })
      (leads_then rack area went shared a b c x Looked (Known mid) (MissedIn x.geometry x.store m object block.bytes columns) Then looked
      (λ y geometry_is perms front done known. leads_as rack area went shared b c y (WriteInDoes y m object block.bytes (Err (fault.Missed columns))) (MissedIn x.geometry x.store m object block.bytes columns) Then
      (λ holds store w. missed_in x y m object block.bytes columns holds store (same_as y front geometry_is perms done) w) (says y (ap (λ (g : Geometry). g.g) (geometry_is ∙ layout)) known)))

  abbrev ReplacedBy : Pointer → State → Type 0
  ReplacedBy earlier = KnowsReplaced rack area owns new then_table then_seq then_floor (Some earlier) (write_of x.store.changes object)

  -- the earlier block isn't freed or dropped yet
  waiting_write : (earlier : Pointer) (says : (y : State) → y.geometry.g ≡ geometry.g → IsPointOf y.store.marks point → Known mid y
      → LeadsBy rack area went shared b c y (AwaitsIn y m object then_floor block.bytes point earlier) (KnowsReplaced rack area owns new then_table then_seq then_floor (Some earlier) (write_of y.store.changes object)))
      → LeadsBy rack area went shared a c x (WriteAwaits x chosen object block.bytes point earlier) (KnowsReplaced rack area owns new then_table then_seq then_floor (Some earlier) (write_of x.store.changes object))
  waiting_write earlier says = leads_as rack area went shared a c x (Both rack area went shared a b c x Looked (Known mid) (WaitsIn x.geometry x.store m object then_floor block.bytes point earlier) (ReplacedBy earlier)) (WriteAwaits x chosen object block.bytes point earlier) (ReplacedBy earlier)
      (λ holds store d.
      let w = d.second in
      record {
        m = m;
        birth = then_floor;
        columns = w.columns;
        front = d.front ++ w.front;
        back = w.back;
        are = d.are ∙ (ap (λ hs. d.front ++ hs) w.are ∙ sym (append_assoc d.front w.front w.back));
        tries = record { looks = d.front; written = w.front; are = refl; chooses = chooses x geometry layout block.bytes need need_is rooms chosen m d.front named d.first.1; numbered = low; writes = w.writes };
        few = w.few;
        made = w.made;
        looks = w.looks;
        kept = w.kept;
      })
      (leads_then rack area went shared a b c x Looked (Known mid) (WaitsIn x.geometry x.store m object then_floor block.bytes point earlier) (ReplacedBy earlier) looked
      (λ y geometry_is perms front done known.
      subst (λ (t : Store). LeadsBy rack area went shared b c y (WaitsIn x.geometry x.store m object then_floor block.bytes point earlier) (KnowsReplaced rack area owns new then_table then_seq then_floor (Some earlier) (write_of t.changes object))) done.0
      (leads_as rack area went shared b c y (AwaitsIn y m object then_floor block.bytes point earlier) (WaitsIn x.geometry x.store m object then_floor block.bytes point earlier) (KnowsReplaced rack area owns new then_table then_seq then_floor (Some earlier) (write_of y.store.changes object))
      (λ holds store w. waits_in x y m object then_floor block.bytes point earlier holds store (same_as y front geometry_is perms done) w) (says y (ap (λ (g : Geometry). g.g) (geometry_is ∙ layout)) (point_on y done.0) known))))

  -- no write was begun
  no_write : (says : (y : State) → Known mid y → LeadsBy rack area went shared b c y (λ holds store. (store ≡ y.store) × OnlyLooks holds) Then) → LeadsBy rack area went shared a c x (λ holds store. (store ≡ x.store) × OnlyLooks holds) Then
  no_write says = leads_as rack area went shared a c x (Both rack area went shared a b c x Looked (Known mid) (λ holds store. (store ≡ x.store) × OnlyLooks holds) Then) (λ holds store. (store ≡ x.store) × OnlyLooks holds) Then
      (λ holds store d. (d.second.0, subst OnlyLooks (sym d.are) (looks_append d.front d.back (only_looked 0 geometry.props.metaslabs d.front d.first.1.views d.first.1.looked) d.second.1)))
      (leads_then rack area went shared a b c x Looked (Known mid) (λ holds store. (store ≡ x.store) × OnlyLooks holds) Then looked
      (λ y geometry_is perms front done known. leads_as rack area went shared b c y (λ holds store. (store ≡ y.store) × OnlyLooks holds) (λ holds store. (store ≡ x.store) × OnlyLooks holds) Then
      (λ holds store d. (d.0 ∙ done.0, d.1)) (says y known)))

  abbrev Says : Option (Result (Option Pointer) StoreFault) → Type 0
  Says = WriteSays rack area went shared owns owns mid new b c m geometry.g point object table then_table seq floor then_seq then_floor block

  abbrev By : Option (Result (Option Pointer) WriteFault) → Type 0
  By = WritesBy rack area went shared owns new a c point chosen object block.bytes then_table then_seq then_floor x

  as_answer : (answer said : Option (Result (Option Pointer) WriteFault)) → answer ≡ said → By said → By answer
  as_answer answer said is by = subst By (sym is) by

  pub by_answer : (r : Result (Option Pointer) StoreFault) (answer : Option (Result (Option Pointer) WriteFault)) → IsAnswerTo r answer → Says (Some r) → By answer
  by_answer (Ok None) answer is says = as_answer answer (Some (Ok None)) is (whole_write says)
  by_answer (Ok (Some earlier)) answer is says = as_answer answer (Some (Ok (Some earlier))) is (waiting_write earlier says)
  by_answer (Err (Missed missed)) answer is says = as_answer answer (Some (Err (fault.Missed missed.columns))) is (missed_write missed.columns says)
  by_answer (Err (Refused begin.NoMemory)) answer is says = as_answer answer (Some (Err fault.NoMemory)) is
      (leads_as rack area went shared a c x (λ holds store. (store ≡ x.store) × OnlyLooks holds) (WriteDoes x chosen object block.bytes (Err fault.NoMemory)) Then (λ holds store d. (d.1, d.0)) (no_write says))
  by_answer (Err (Refused (begin.Disabled pass))) answer is says = as_answer answer None is (no_write says)
  by_answer (Err (Refused (begin.Entries held))) answer is says = as_answer answer None is (no_write says)
  by_answer (Err (Refused (begin.NoRoom largest))) answer is says = as_answer answer None is (no_write says)
  by_answer (Err (Refused (begin.Worn events))) answer is says = as_answer answer None is (no_write says)

  pub again : Says None → By None
  again says = no_write says

-- ---- whatever is known of the devices

-- the metaslab that was named takes the block
pub takes_at : {R A : Type 0} (rack : racks.Ghosts R) (owns : ℕ → Bool) (last mid : ℕ → Option (Shard R A)) (geometry : Geometry) (block : BlockValue) (count m : ℕ) (rooms : List Room) (room : Room) → HasMany rack count last → HaveLayout geometry last → AllStay owns last mid → length rooms ≡ count
    → slice_get rooms m ≡ Some room → block.cut ≡ cut_of geometry → Takes mid m geometry.g block
takes_at {R} {A} rack owns last mid geometry block count m rooms room many have stay long at cut =
    let inside = slice_get_within rooms m room at in
    let z = many m (omega (arith, inside, long)) in
    let after = stay.each m z.0 z.1 in
    let same : after.0.geometry ≡ geometry = ap (λ (q : Part). q.geometry) after.2.part ∙ have m z.0 z.1 in
    record { shard = after.0; there = after.1; cut = cut ∙ sym (ap cut_of same); columns_are = ap (λ (g : Geometry). g.g) same }

pub sets_answer : (object : ℕ) (bytes : List ℕ) (table now : ℕ → Option Pointer) (r : Result (Option Pointer) StoreFault) (answer : Option (Result (Option Pointer) WriteFault)) → IsAnswerTo r answer → StoreSetsTable object bytes table now (Some r) → StoreSetsTable object bytes table now answer
sets_answer object bytes table now (Ok earlier) answer is sets = subst (StoreSetsTable object bytes table now) (sym is) sets
sets_answer object bytes table now (Err (Missed missed)) answer is sets = subst (StoreSetsTable object bytes table now) (sym is) sets
sets_answer object bytes table now (Err (Refused begin.NoMemory)) answer is sets = subst (StoreSetsTable object bytes table now) (sym is) sets
sets_answer object bytes table now (Err (Refused (begin.Disabled pass))) answer is sets = subst (StoreSetsTable object bytes table now) (sym is) sets
sets_answer object bytes table now (Err (Refused (begin.Entries held))) answer is sets = subst (StoreSetsTable object bytes table now) (sym is) sets
sets_answer object bytes table now (Err (Refused (begin.NoRoom largest))) answer is sets = subst (StoreSetsTable object bytes table now) (sym is) sets
sets_answer object bytes table now (Err (Refused (begin.Worn events))) answer is sets = subst (StoreSetsTable object bytes table now) (sym is) sets

pub new_answer : {R A : Type 0} (last : ℕ → Option (Shard R A)) (object seq : ℕ) (table now : ℕ → Option Pointer) (r : Result (Option Pointer) StoreFault) (answer : Option (Result (Option Pointer) WriteFault)) → IsAnswerTo r answer → StoresNew last object seq table now (Some r)
    → StoresNew last object seq table now answer
new_answer last object seq table now (Ok None) answer is new = subst (StoresNew last object seq table now) (sym is) new
new_answer last object seq table now (Ok (Some earlier)) answer is new = subst (StoresNew last object seq table now) (sym is) new
new_answer last object seq table now (Err (Missed missed)) answer is new = subst (StoresNew last object seq table now) (sym is) tt
new_answer last object seq table now (Err (Refused begin.NoMemory)) answer is new = subst (StoresNew last object seq table now) (sym is) tt
new_answer last object seq table now (Err (Refused (begin.Disabled pass))) answer is new = subst (StoresNew last object seq table now) (sym is) tt
new_answer last object seq table now (Err (Refused (begin.Entries held))) answer is new = subst (StoresNew last object seq table now) (sym is) tt
new_answer last object seq table now (Err (Refused (begin.NoRoom largest))) answer is new = subst (StoresNew last object seq table now) (sym is) tt
new_answer last object seq table now (Err (Refused (begin.Worn events))) answer is new = subst (StoresNew last object seq table now) (sym is) tt

pub earlier_answer : (r : Result (Option Pointer) StoreFault) (answer : Option (Result (Option Pointer) WriteFault)) (p : Pointer) → IsAnswerTo r answer → answer ≡ Some (Ok (Some p)) → r ≡ Ok (Some p)
earlier_answer (Ok earlier) answer p is same = (let both : ◌≡◌ {A = Option (Result (Option Pointer) WriteFault)} (Some (Ok earlier)) (Some (Ok (Some p))) = sym is ∙ same in cc)
earlier_answer (Err (Missed missed)) answer p is same = absurd (cc)
earlier_answer (Err (Refused begin.NoMemory)) answer p is same = absurd (cc)
earlier_answer (Err (Refused (begin.Disabled pass))) answer p is same = absurd (cc)
earlier_answer (Err (Refused (begin.Entries held))) answer p is same = absurd (cc)
earlier_answer (Err (Refused (begin.NoRoom largest))) answer p is same = absurd (cc)
earlier_answer (Err (Refused (begin.Worn events))) answer p is same = absurd (cc)

pub served_answer : (point : Option ℕ) (r : Result (Option Pointer) StoreFault) (answer : Option (Result (Option Pointer) WriteFault)) → IsAnswerTo r answer → IsServedBut point (Some r) → ((why : BeginFault) → r ≡ Err (Refused why) → why ≡ begin.NoMemory) → IsServedBut point answer
served_answer point (Ok None) answer is served memory = subst (IsServedBut point) (sym is) tt
served_answer point (Ok (Some earlier)) answer is served memory = subst (IsServedBut point) (sym is) served
served_answer point (Err (Missed missed)) answer is served memory = subst (IsServedBut point) (sym is) tt
served_answer point (Err (Refused begin.NoMemory)) answer is served memory = subst (IsServedBut point) (sym is) tt
served_answer point (Err (Refused (begin.Disabled pass))) answer is served memory = absurd (let e = memory (begin.Disabled pass) refl in cc)
served_answer point (Err (Refused (begin.Entries held))) answer is served memory = absurd (let e = memory (begin.Entries held) refl in cc)
served_answer point (Err (Refused (begin.NoRoom largest))) answer is served memory = absurd (let e = memory (begin.NoRoom largest) refl in cc)
served_answer point (Err (Refused (begin.Worn events))) answer is served memory = absurd (let e = memory (begin.Worn events) refl in cc)

-- the metaslab that was named has room yet, where nobody comes between: so want of memory alone is why no write is begun
pub only_memory : {R A : Type 0} (rack : racks.Ghosts R) (area : areas.Ghosts A) (shared : Bool) (owns : ℕ → Bool) (mid : ℕ → Option (Shard R A)) (geometry : Geometry) (block : BlockValue) (need m : ℕ) (rooms : List Room) → shared ≡ false → 1 ≤ need → need ≡ stripes_for geometry block.bytes
    → RoomsAre need mid rooms → Picks rooms (Some m) → ((shard : Shard R A) → mid m ≡ Some shard → Valid rack shard) → HaveLayout geometry mid → (r : Result (Option Pointer) StoreFault) → StoreRefusedBy rack area shared owns mid m block (Some r)
    → (why : BeginFault) → r ≡ Err (Refused why) → why ≡ begin.NoMemory
only_memory {R} {A} rack area shared owns mid geometry block need m rooms alone some need_is are picks valid have r refused why is =
    let z = has_room rack area need mid rooms m some are picks valid in
    let same : need ≡ stripes_of (cut_of z.0.geometry) (length block.bytes) = need_is ∙ ap (λ (g : Geometry). stripes_of (cut_of g) (length block.bytes)) (sym (have m z.0 z.1)) in
    refused_memory rack area shared owns mid m block why z.0 alone (subst (λ (t : Result (Option Pointer) StoreFault). StoreRefusedBy rack area shared owns mid m block (Some t)) is refused) z.1 (valid z.0 z.1) (subst (λ n. (w : machine.State) → IsIn z.0 w → HasRoom n z.0 w) same z.2)
