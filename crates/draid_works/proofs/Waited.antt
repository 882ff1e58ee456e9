-- What was tried again, of its parts: looks while it waited, and then what it did.
use Rattle.std.proofs.Common.{◌≡◌, ◌≤◌, ◌++◌, ◌∙◌, ℕ, Bool, List, [], ◌∷◌, Option, Some, None, Result, Ok, Err, inl, inr, refl, sym, ap, subst}
use Rattle.draid_names.specs.declared.pointer.Pointer.{Pointer}
use Rattle.draid_names.specs.declared.refusal.WriteFault.{WriteFault}
use Rattle.draid_names.specs.declared.room.Room.{Room}
use Rattle.draid_rack.specs.declared.Rack as racks
use Rattle.draid_area.specs.declared.Area as areas
use Rattle.draid_objects.specs.Changes.{Write, write_of}
use Rattle.draid_shard.specs.declared.shard.Shard.{Shard}
use Rattle.draid_session.specs.Holds.{Hold}
use Rattle.draid_session.specs.Lanes.{IsLookOnly, LeavesLooks}
use Rattle.draid_session.specs.Looks.{OnlyLooks}
use Rattle.draid_session.specs.State.{State, Store}
use Rattle.draid_session.specs.Writes as written
use Rattle.draid_pool.specs.Looking.{HasMany}
use Rattle.draid_pool.specs.Pools.{part_in}
use Rattle.draid_pool.specs.Threads.{AllStay, Between, CarriesBy, IsWholeBy, Knows, LeadsBy, all_of, but}
use Rattle.draid_pool.proofs.Joining.{Both, leads_as, leads_then, same_layout}
use Rattle.draid_pool.proofs.LookRooms.{looks_append}
use Rattle.draid_pool.proofs.Steps.{SameLayout, own_of}
use Rattle.draid_store.specs.Answers.{FreeDoes, WriteDoes}
use Rattle.draid_store.specs.Freeing.{EarlierSays}
use Rattle.draid_store.specs.Open.{KnowsEarlier, KnowsReplaced}
use Rattle.draid_store.specs.Storing.{WriteAwaits, WritesBy, store_with}
use Rattle.draid_store.specs.declared.fault.FreeFault.{FreeFault}
use Rattle.draid_works.specs.Waiting.{FreesRest, LooksBut, StoresThrough}
use Rattle.draid_pool.proofs.Points.{none_kept_of}
use Rattle.draid_entries.specs.Maps.{key_of}
use Rattle.draid_objects.specs.Marks.{check_by}
use Rattle.draid_session.specs.Points.{KeepsBirth}

-- ---- looks that are left out

pub left_all : (holds : List Hold) → LeavesLooks holds holds
left_all [] = refl
left_all (hold ∷ holds) = inr (holds, refl, left_all holds)

-- looks in front
pub left_front : (looks back left : List Hold) → OnlyLooks looks → LeavesLooks back left → LeavesLooks (looks ++ back) left
left_front [] back left are l = l
left_front (hold ∷ looks) back left are l = inl (subst IsLookOnly (sym are.0.1) refl, left_front looks back left are.1 l)

-- the one and then the other
pub left_then : (a b c d : List Hold) → LeavesLooks a b → LeavesLooks c d → LeavesLooks (a ++ c) (b ++ d)
left_then [] b c d l r = subst (λ hs. LeavesLooks c (hs ++ d)) (sym l) r
left_then (hold ∷ a) b c d (inl l) r = inl (l.0, left_then a b c d l.1 r)
left_then (hold ∷ a) b c d (inr l) r = inr (l.0 ++ d, ap (λ hs. hs ++ d) l.1, left_then a l.0 c d l.2 r)

same_parts : (h k : Hold) (hs ks : List Hold) → ◌≡◌ {A = List Hold} (h ∷ hs) (k ∷ ks) → (h ≡ k) × (hs ≡ ks)
same_parts h k hs ks e = (cc, cc)

-- looks at the end needn't be there
pub left_less : (holds front back : List Hold) → OnlyLooks back → LeavesLooks holds (front ++ back) → LeavesLooks holds front
left_less [] [] back looks l = refl
left_less [] (f ∷ front) back looks l = absurd (cc)
left_less (hold ∷ holds) front back looks (inl l) = inl (l.0, left_less holds front back looks l.1)
left_less (hold ∷ holds) [] [] looks (inr l) = (let e = l.1 in absurd (cc))
left_less (hold ∷ holds) [] (b ∷ back) looks (inr l) =
    let e = same_parts b hold back l.0 l.1 in
    inl (subst IsLookOnly e.0 (subst IsLookOnly (sym looks.0.1) refl), left_less holds [] back looks.1 (subst (LeavesLooks holds) (sym e.1) l.2))
left_less (hold ∷ holds) (f ∷ front) back looks (inr l) =
    let e = same_parts f hold (front ++ back) l.0 l.1 in
    inr (front, ap (λ h. h ∷ front) e.0, left_less holds front back looks (subst (LeavesLooks holds) (sym e.1) l.2))

-- ---- one thing after another

module _ {R A S : Type 0} (rack : racks.Ghosts R) (area : areas.Ghosts A) (went : S → ℕ → Shard R A → Shard R A → S → Type 0) (shared : Bool) (a b c : S) (x : State) (does : List Hold → Store → Type 0) (known : State → Type 0) (one : LeadsBy rack area went shared a b x does known) where
  -- where it led
  abbrev pub led : State
  led = record one.reached { store = one.store }

  pub led_layout : one.store ≡ x.store → SameLayout x led
  led_layout same =
      let layout = same_layout (Between rack area went shared (part_in x)) one.holds a x b one.reached one.follows in
      record { geometry = layout.0; perms = layout.1; store = same }

  abbrev Is : List Hold → Store → Type 0
  Is holds store = (holds ≡ one.holds) × (store ≡ one.store)

  -- the next thing is done from there
  pub leads_next : (then_does : List Hold → Store → Type 0) (then_known : State → Type 0) (said : List Hold → Store → Type 0) → LeadsBy rack area went shared b c led then_does then_known
      → ((back : List Hold) (store : Store) → then_does back store → said (one.holds ++ back) store) → LeadsBy rack area went shared a c x said then_known
  leads_next then_does then_known said two says = leads_as rack area went shared a c x (Both rack area went shared a b c x Is (λ y. y ≡ led) then_does then_known) said then_known
      (λ holds store d. subst (λ hs. said hs store) (sym (d.are ∙ ap (λ hs. hs ++ d.back) d.first.0)) (says d.back store d.second))
      (leads_then rack area went shared a b c x Is (λ y. y ≡ led) then_does then_known
      (record { holds = one.holds; reached = one.reached; store = one.store; follows = one.follows; done = (refl, refl); knows = refl })
      (λ y geometry perms front done is. subst (λ s. LeadsBy rack area went shared b c s then_does then_known) (sym is) two))

-- ---- waiting

-- metaslabs were looked at alone
abbrev pub Waits : State → List Hold → Store → Type 0
Waits x holds store = (store ≡ x.store) × OnlyLooks holds

module _ {R A S : Type 0} (rack : racks.Ghosts R) (area : areas.Ghosts A) (went : S → ℕ → Shard R A → Shard R A → S → Type 0) (shared : Bool) where
  -- it didn't wait yet
  pub waits_none : (a : S) (x : State) (known : State → Type 0) → known x → LeadsBy rack area went shared a a x (Waits x) known
  waits_none a x known is = record { holds = []; reached = x; store = x.store; follows = (refl, refl); done = (refl, tt); knows = is }

  module _ (a b c : S) (x : State) (known : State → Type 0) (one : LeadsBy rack area went shared a b x (Waits x) known) where
    -- where it waited
    abbrev pub waited : State
    waited = led rack area went shared a b c x (Waits x) known one

    pub waited_layout : SameLayout x waited
    waited_layout = led_layout rack area went shared a b c x (Waits x) known one one.done.0

    -- it waited again
    pub waits_more : (then_known : State → Type 0) → LeadsBy rack area went shared b c waited (Waits waited) then_known → LeadsBy rack area went shared a c x (Waits x) then_known
    waits_more then_known two = leads_next rack area went shared a b c x (Waits x) known one (Waits waited) then_known (Waits x) two
        (λ back store d. (d.0 ∙ one.done.0, looks_append one.holds back one.done.1 d.1))

    -- and then it did this
    pub waits_but : (does : List Hold → Store → Type 0) (then_known : State → Type 0) → LeadsBy rack area went shared b c waited does then_known → LeadsBy rack area went shared a c x (LooksBut does) then_known
    waits_but does then_known two = leads_next rack area went shared a b c x (Waits x) known one does then_known (LooksBut does) two
        (λ back store d. (back, left_front one.holds back back one.done.1 (left_all back), d))

-- ---- a write, by the layout and by what the thread had

module _ (x y : State) (s : SameLayout x y) (chosen : List Room → Option ℕ → Type 0) (object : ℕ) (bytes : List ℕ) (holds : List Hold) (new : Store) where
  write_own : (result : Result Unit WriteFault) → WriteDoes y chosen object bytes result holds new → WriteDoes x chosen object bytes result holds new
  write_own (Ok done) w = own_of x y (λ g p t. written.Writes g p chosen object bytes t holds new) s w
  write_own (Err why) w = own_of x y (λ g p t. written.Refuses g p chosen object bytes why t holds new) s w

  awaits_own : (earlier : Pointer) → WriteAwaits y chosen object bytes None earlier holds new → WriteAwaits x chosen object bytes None earlier holds new
  awaits_own earlier w = record {
    m = w.m;
    birth = w.birth;
    columns = w.columns;
    front = w.front;
    back = w.back;
    are = w.are;
    tries = own_of x y (λ g p t. written.Tries g p chosen object bytes t w.m w.birth w.columns w.front) s w.tries;
    few = own_of x y (λ g p t. w.columns ≤ g.spec.parity) s w.few;
    made = own_of x y (λ g p t. new ≡ store_with t object w.m w.birth bytes) s w.made;
    looks = w.looks;
    kept = w.kept;
  }

module _ {R A S : Type 0} (rack : racks.Ghosts R) (area : areas.Ghosts A) (went : S → ℕ → Shard R A → Shard R A → S → Type 0) (shared : Bool) (owns : ℕ → Bool) (now : ℕ → Option (Shard R A)) (a b c : S) (chosen : List Room → Option ℕ → Type 0) (object : ℕ) (bytes : List ℕ)
    (then_table : ℕ → Option Pointer) (then_seq then_floor : ℕ) (x : State) (known : State → Type 0) (one : LeadsBy rack area went shared a b x (Waits x) known) where
  abbrev y : State
  y = waited rack area went shared a b c x known one

  layout : SameLayout x y
  layout = waited_layout rack area went shared a b c x known one

  -- it waited, and then it was served
  pub served : (result : Result (Option Pointer) WriteFault) → WritesBy rack area went shared owns now b c None chosen object bytes then_table then_seq then_floor y (Some result) → StoresThrough rack area went shared owns now a c chosen object bytes then_table then_seq then_floor x result
  served (Ok None) w = waits_but rack area went shared a b c x known one (WriteDoes x chosen object bytes (Ok tt)) (Knows rack area owns now then_table then_seq then_floor)
      (leads_as rack area went shared b c y (λ holds store. WriteDoes y chosen object bytes (Ok tt) holds store × (store.marks ≡ y.store.marks)) (WriteDoes x chosen object bytes (Ok tt)) (Knows rack area owns now then_table then_seq then_floor)
      (λ holds store d. write_own x y layout chosen object bytes holds store (Ok tt) d.0) w)
  served (Ok (Some earlier)) w = waits_but rack area went shared a b c x known one (WriteAwaits x chosen object bytes None earlier) (KnowsReplaced rack area owns now then_table then_seq then_floor (Some earlier) (write_of x.store.changes object))
      (leads_as rack area went shared b c y (WriteAwaits y chosen object bytes None earlier) (WriteAwaits x chosen object bytes None earlier) (KnowsReplaced rack area owns now then_table then_seq then_floor (Some earlier) (write_of x.store.changes object)) (λ holds store d. awaits_own x y layout chosen object bytes holds store earlier d)
      (subst (λ (t : Store). LeadsBy rack area went shared b c y (WriteAwaits y chosen object bytes None earlier) (KnowsReplaced rack area owns now then_table then_seq then_floor (Some earlier) (write_of t.changes object))) layout.store w))
  served (Err why) w = waits_but rack area went shared a b c x known one (WriteDoes x chosen object bytes (Err why)) (Knows rack area owns now then_table then_seq then_floor)
      (leads_as rack area went shared b c y (WriteDoes y chosen object bytes (Err why)) (WriteDoes x chosen object bytes (Err why)) (Knows rack area owns now then_table then_seq then_floor) (λ holds store d. write_own x y layout chosen object bytes holds store (Err why) d) w)

-- ---- a freeing

module _ (x y : State) (s : SameLayout x y) (object : ℕ) (holds : List Hold) (new : Store) where
  pub free_own : (result : Result Unit FreeFault) → FreeDoes y object result holds new → FreeDoes x object result holds new
  free_own (Ok done) f = own_of x y (λ g p t. written.Frees object t holds new) s f
  free_own (Err why) f = own_of x y (λ g p t. (new ≡ t) × (holds ≡ []) × (write_of t.changes object ≡ None)) s f

module _ {R A S : Type 0} (rack : racks.Ghosts R) (area : areas.Ghosts A) (went : S → ℕ → Shard R A → Shard R A → S → Type 0) (shared : Bool) (a b c : S) (x : State) (known then_known : State → Type 0) (one : LeadsBy rack area went shared a b x (Waits x) known) where
  -- it waited, and then it was freed
  pub freed_own : (object : ℕ) (result : Result Unit FreeFault) → LeadsBy rack area went shared b c (waited rack area went shared a b c x known one) (FreeDoes (waited rack area went shared a b c x known one) object result) then_known
      → LeadsBy rack area went shared a c x (LooksBut (FreeDoes x object result)) then_known
  freed_own object result w =
      let y = waited rack area went shared a b c x known one in
      waits_but rack area went shared a b c x known one (FreeDoes x object result) then_known
      (leads_as rack area went shared b c y (FreeDoes y object result) (FreeDoes x object result) then_known (λ holds store d. free_own x y (waited_layout rack area went shared a b c x known one) object holds store result d) w)

  -- or the block was that an object had before
  pub rest_freed : (we : Write) (floor group : ℕ)
      → LeadsBy rack area went shared b c (waited rack area went shared a b c x known one) (λ holds store. written.FreesBlock we floor group holds × (store ≡ record (waited rack area went shared a b c x known one).store { floor = group })) then_known
      → LeadsBy rack area went shared a c x (LooksBut (FreesRest x we floor group)) then_known
  rest_freed we floor group w =
      let y = waited rack area went shared a b c x known one in
      waits_but rack area went shared a b c x known one (FreesRest x we floor group) then_known
      (leads_as rack area went shared b c y (FreesRest y we floor group) (FreesRest x we floor group) then_known (λ holds store d. (d.0, d.1 ∙ ap (λ (t : Store). record t { floor = group }) (waited_layout rack area went shared a b c x known one).store)) w)

-- ---- what stays while it waits

module _ {R A S : Type 0} (rack : racks.Ghosts R) (area : areas.Ghosts A) (went : S → ℕ → Shard R A → Shard R A → S → Type 0) (shared : Bool) (owns then_owns first_owns : ℕ → Bool) (same : first_owns ≡ owns) (kept : then_owns ≡ owns) (last now : ℕ → Option (Shard R A)) (a b : S)
    (table then_table : ℕ → Option Pointer) (seq floor then_seq then_floor : ℕ) (needs : State → Type 0) (does : State → List Hold → Store → Type 0) where
  -- what the thread owns
  pub step_own : ((x : State) → needs x → Knows rack area first_owns last table seq floor x → CarriesBy rack area went shared then_owns now then_table then_seq then_floor a b x (does x))
      → (x : State) → needs x → Knows rack area owns last table seq floor x → CarriesBy rack area went shared owns now then_table then_seq then_floor a b x (does x)
  step_own step x needed knows =
      subst (λ o. CarriesBy rack area went shared o now then_table then_seq then_floor a b x (does x)) kept (step x needed (subst (λ o. Knows rack area o last table seq floor x) (sym same) knows))

module _ {R A S : Type 0} (rack : racks.Ghosts R) (area : areas.Ghosts A) (went : S → ℕ → Shard R A → Shard R A → S → Type 0) (shared : Bool) (owns then_owns first_owns : ℕ → Bool) (same : first_owns ≡ owns) (kept : then_owns ≡ owns) (last now : ℕ → Option (Shard R A)) (a b : S)
    (p : Pointer) (table : ℕ → Option Pointer) (seq floor : ℕ) (we : Write) (result : Option ℕ) where
  pub earlier_own : ((x : State) (we : Write) → (KeepsBirth x.store.marks we.birth → ⊥) → KnowsEarlier rack area first_owns last table seq floor p we x → EarlierSays rack area went shared first_owns then_owns last now a b p table table seq floor x we result)
      → (x : State) → (KeepsBirth x.store.marks we.birth → ⊥) → KnowsEarlier rack area owns last table seq floor p we x → EarlierSays rack area went shared owns owns last now a b p table table seq floor x we result
  earlier_own says x loose knows =
      subst (λ o. EarlierSays rack area went shared owns o last now a b p table table seq floor x we result) kept
      (subst (λ o. EarlierSays rack area went shared o then_owns last now a b p table table seq floor x we result) same
      (says x we loose (subst (λ o. KnowsEarlier rack area o last table seq floor p we x) (sym same) knows)))

-- so many metaslabs are there, and valid
pub many_stay : {R A : Type 0} (rack : racks.Ghosts R) (owns : ℕ → Bool) (count : ℕ) (last now : ℕ → Option (Shard R A)) (table : ℕ → Option Pointer) (seq floor : ℕ) → AllStay owns last now → IsWholeBy rack owns now table seq floor → HasMany rack count last → HasMany rack count now
many_stay rack owns count last now table seq floor stay whole many m lt =
    let z = many m lt in
    let y = stay.each m z.0 z.1 in
    (y.0, y.1, (whole.shards m y.0 y.1).valid)

-- ---- a write whose earlier block is freed behind it

module _ {R A S : Type 0} (rack : racks.Ghosts R) (area : areas.Ghosts A) (went : S → ℕ → Shard R A → Shard R A → S → Type 0) (shared : Bool) (owns : ℕ → Bool) (now : ℕ → Option (Shard R A)) (a b c : S) (chosen : List Room → Option ℕ → Type 0) (object : ℕ) (bytes : List ℕ) (p : Pointer)
    (table : ℕ → Option Pointer) (seq floor group : ℕ) (x : State) (none : check_by x.store.marks ≡ None) (then_known : State → Type 0) where
  abbrev Replaced : State → Type 0
  Replaced = KnowsReplaced rack area owns now table seq floor (Some p) (write_of x.store.changes object)

  pub replaced : LeadsBy rack area went shared a b x (LooksBut (WriteAwaits x chosen object bytes None p)) Replaced
      → ((y : State) (we : Write) → (KeepsBirth y.store.marks we.birth → ⊥) → KnowsEarlier rack area owns now table seq floor p we y → LeadsBy rack area went shared b c y (LooksBut (FreesRest y we floor group)) then_known)
      → LeadsBy rack area went shared a c x (LooksBut (WriteDoes x chosen object bytes (Ok tt))) then_known
  replaced one next =
      let y = led rack area went shared a b c x (LooksBut (WriteAwaits x chosen object bytes None p)) Replaced one in
      let we = one.knows.0 in
      let w = one.done.2 in
      let same : y.store.marks ≡ x.store.marks = ap (λ (t : Store). t.marks) w.made in
      let loose : KeepsBirth y.store.marks we.birth → ⊥ = none_kept_of y.store.marks we.birth (ap check_by same ∙ none) in
      let born : w.birth ≡ floor = sym (ap (λ (t : Store). t.floor) w.made) ∙ one.knows.2.but_it.floor in
      leads_next rack area went shared a b c x (LooksBut (WriteAwaits x chosen object bytes None p)) Replaced one (LooksBut (FreesRest y we floor group)) then_known (LooksBut (WriteDoes x chosen object bytes (Ok tt))) (next y we loose one.knows.2)
      (λ back store d.
      let l : LeavesLooks one.holds (w.front ++ w.back) = subst (LeavesLooks one.holds) w.are one.done.1 in (
        w.front ++ d.0,
        left_then one.holds w.front back d.0 (left_less one.holds w.front w.back w.looks l) d.1,
        record {
          m = w.m;
          birth = w.birth;
          columns = w.columns;
          group = group;
          tried = w.front;
          freed = d.0;
          are = refl;
          tries = w.tries;
          few = w.few;
          marks = x.store.marks;
          leaves = subst (λ o. written.LeavesEarlier x.store.marks o w.birth group d.0 x.store.marks) (sym one.knows.1)
              (inl (none_kept_of x.store.marks we.birth none, subst (λ f. written.FreesBlock we f group d.0) (sym born) d.2.0, refl));
          made = d.2.1 ∙ ap (λ (t : Store). record t { floor = group }) w.made;
        },
      ))
