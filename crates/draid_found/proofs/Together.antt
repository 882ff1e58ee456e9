-- What an import compares of the metaslabs that it opens, and what it notes of their blocks.
use Rattle.std.proofs.Common.{arith, ◌≡◌, ◌+◌, ◌<◌, ◌≤◌, ◌∙◌, ◌⊎◌, inl, inr, not, ℕ, zero, suc, Bool, true, false, cond, List, [], Option, Some, None, Ok, Err, refl, sym, ap, subst, if◌then◌else◌}
use Rattle.std.specs.Prelude.{◌-◌, ◌↔◌, IsErrOf, IsTrue, is_some, slice_get}
use Rattle.std.specs.HashSet.{HashSet, contains, keys}
use Rattle.std.specs.List.{list_any}
use Rattle.std.proofs.lemmas.Bool.{cases_eq, cases_lt, false≢true}
use Rattle.std.proofs.lemmas.Bool.Decides.{nat_tests}
use Rattle.draid_record.specs.declared.fault.RecordFaultKind.{RecordFaultKind}
use Rattle.draid_record.specs.declared.fault.RecordFaultKind.TheVariants as why
use Rattle.draid_names.specs.declared.pointer.Pointer.{Pointer}
use Rattle.draid_machine.specs.declared.names.Held.{Held as Block}
use Rattle.draid_machine.specs.declared.names.Key.{Key}
use Rattle.draid_machine.proofs.Small.{absurd_test, key_true, some_injective}
use Rattle.draid_rack.specs.declared.Rack as racks
use Rattle.draid_entries.specs.declared.entry.Entry.{Entry}
use Rattle.draid_entries.specs.declared.entries.Entries.{Entries}
use Rattle.draid_entries.specs.Entries.{entry_at, held_in}
use Rattle.draid_entries.specs.Maps.{held_at, key_of, staged}
use Rattle.draid_slots.specs.Table.{SlotTable, arms_of}
use Rattle.draid_shard.specs.Looks.{IsNextHeld}
use Rattle.draid_shard.proofs.Held.{key_leads}
use Rattle.draid_shard.specs.declared.shard.Shard.{Shard}
use Rattle.draid_found.specs.Found.{AreReady}
use Rattle.draid_found.specs.Together.{AreApart, AreTogether, HasBlock, HasEarlier, IsNotedTwice, IsUnnoted, NotesJust, NotesJustOf, blocks_below, noted_in, pair_eq, place_in}
use Rattle.draid_shard.specs.Alike.{AreSameArms, HaveSameArms}
use Rattle.draid_found.specs.declared.fault.FoundFault.{FoundFault}
use Rattle.draid_found.specs.declared.fault.FoundFault.TheVariants as fault

-- ---- what a test tells

pub not_so : {P : Type 0} → (P → ⊥) → IsTrue false ↔ P
not_so never = (λ is. absurd (false≢true is), λ p. absurd (never p))

pub is_so : {P : Type 0} → P → IsTrue true ↔ P
is_so p = (λ is. p, λ q. refl)

-- ---- arms

-- the slots below a number, and the next one
pub slots_more : (a b : SlotTable) (n : ℕ) → ((slot : ℕ) → slot < n → AreSameArms (arms_of a slot) (arms_of b slot)) → AreSameArms (arms_of a n) (arms_of b n)
    → (slot : ℕ) → slot < n + 1 → AreSameArms (arms_of a slot) (arms_of b slot)
slots_more a b n before same slot below = elim (cases_eq slot n) [
  | inl here ↦ subst (λ s. AreSameArms (arms_of a s) (arms_of b s)) (sym here) same
  | inr other ↦ before slot (omega (arith, below, other))
]

-- ---- one block

pub pair_same : (a b : ℕ) → pair_eq (a, b) (a, b) ≡ true
pair_same a b = grind (arith, nat_tests)

-- a set to which the pair of a block was put
pub notes_only : {S : Type 0} (pointer : Pointer) (old new : HashSet (ℕ × ℕ) S)
    → ((q : ℕ × ℕ) → contains pair_eq new q ≡ cond (pair_eq (pointer.object, pointer.seq) q) true (contains pair_eq old q)) → NotesJust pointer (noted_in old) (noted_in new)
notes_only pointer old new puts key = (λ there. by (pair_eq (pointer.object, pointer.seq) (key.object, key.seq)) refl there, back)
  where
    by : (b : Bool) → pair_eq (pointer.object, pointer.seq) (key.object, key.seq) ≡ b → noted_in new key ≡ true → (noted_in old key ≡ true) ⊎ (key_of pointer ≡ key)
    by true same there = inr (key_true (key_of pointer) key same)
    by false other there = inl (ap (λ b. cond b true (contains pair_eq old (key.object, key.seq))) (sym other) ∙ (sym (puts (key.object, key.seq)) ∙ there))

    was : (b : Bool) → cond b true true ≡ true
    was true = refl
    was false = refl

    back : (noted_in old key ≡ true) ⊎ (key_of pointer ≡ key) → noted_in new key ≡ true
    back (inl there) = puts (key.object, key.seq)
        ∙ (ap (λ b. cond (pair_eq (pointer.object, pointer.seq) (key.object, key.seq)) true b) there ∙ was (pair_eq (pointer.object, pointer.seq) (key.object, key.seq)))
    back (inr same) =
        let own : pair_eq (pointer.object, pointer.seq) (key.object, key.seq) ≡ true = ap (λ (k : Key). pair_eq (pointer.object, pointer.seq) (k.object, k.seq)) (sym same) ∙ pair_same pointer.object pointer.seq in
        puts (key.object, key.seq) ∙ ap (λ b. cond b true (contains pair_eq old (key.object, key.seq))) own

-- what isn't new was there
pub was_noted : (b a : Bool) → a ≡ not b → a ≡ false → b ≡ true
was_noted true a is old = refl
was_noted false a is old = absurd (cc)

-- and what is new wasn't
pub was_fresh : (b a : Bool) → a ≡ not b → a ≡ true → b ≡ false
was_fresh true a is new = absurd (cc)
was_fresh false a is new = refl

-- what would be noted elsewhere isn't
pub unnoted : (b : Bool) → (b ≡ true → ⊥) → b ≡ false
unnoted true never = absurd (never refl)
unnoted false never = refl

-- ---- the blocks of a metaslab

-- no two blocks of a metaslab have one key
one_place : (t : Entries) (j k : ℕ) (d e : Entry) → entry_at t j ≡ Some d → entry_at t k ≡ Some e → key_of d.pointer ≡ key_of e.pointer → d.pointer.first ≡ e.pointer.first
one_place t j k d e at there same =
    ap (λ (h : Block). h.first) (some_injective (held_at d) (held_at e) (sym (ap (held_in t) (sym same) ∙ key_leads t j d at) ∙ key_leads t k e there))

-- one, where one begins
abbrev one_at : Option Entry → ℕ
one_at o = if is_some o then 1 else 0

-- none begins at a stripe
count_none : (t : Entries) (n : ℕ) → entry_at t n ≡ None → blocks_below t (suc n) ≡ blocks_below t n
unfolding blocks_below
count_none t n none =
    let more : blocks_below t (suc n) ≡ blocks_below t n + one_at (entry_at t n) = refl in
    let nothing : one_at (entry_at t n) ≡ 0 = ap one_at none in
    omega (arith, more, nothing)

-- or one does
count_one : (t : Entries) (n : ℕ) (e : Entry) → entry_at t n ≡ Some e → blocks_below t (suc n) ≡ blocks_below t n + 1
unfolding blocks_below
count_one t n e there =
    let more : blocks_below t (suc n) ≡ blocks_below t n + one_at (entry_at t n) = refl in
    let one : one_at (entry_at t n) ≡ 1 = ap one_at there in
    omega (arith, more, one)

pub count_first : (t : Entries) → blocks_below t 0 ≡ 0
unfolding blocks_below
count_first t = refl

-- or none at many
count_gap : (t : Entries) (from d : ℕ) → ((x : ℕ) → from ≤ x → x < from + d → entry_at t x ≡ None) → blocks_below t (from + d) ≡ blocks_below t from
count_gap t from zero none = (let same : from + zero ≡ from = omega arith in ap (blocks_below t) same)
count_gap t from (suc d) none =
    let last : from + suc d ≡ suc (from + d) = omega arith in
    ap (blocks_below t) last ∙ (count_none t (from + d) (none (from + d) (omega arith) (omega arith)) ∙ count_gap t from d (λ x low below. none x low (omega (arith, below))))

-- one that begins below a stripe
pub record HasBelow {R A : Type 0} (shard : Shard R A) (from : ℕ) (key : Key) : Type 0 where
  pub first : ℕ
  pub e : Entry
  pub there : entry_at shard.entries first ≡ Some e
  pub key_is : key_of e.pointer ≡ key
  pub below : first < from

-- just the blocks below a stripe were noted besides, and none of them before
pub record NotesBelow {R A : Type 0} (shard : Shard R A) (from : ℕ) (old new : Key → Bool) : Type 0 where
  pub just : (key : Key) → (new key ≡ true) ↔ ((old key ≡ true) ⊎ HasBelow shard from key)
  pub fresh : (key : Key) → HasBelow shard from key → old key ≡ false

module _ {R A : Type 0} (shard : Shard R A) where
  -- as many begin below the next block, and it is one more
  pub count_next : (from : ℕ) (p : Pointer) → IsNextHeld shard from p → (blocks_below shard.entries p.first ≡ blocks_below shard.entries from) × (blocks_below shard.entries (p.first + 1) ≡ blocks_below shard.entries from + 1)
  count_next from p next = (same, more)
    where
      way : from + (p.first - from) ≡ p.first
      way = (let behind = next.behind in omega (arith, behind))

      same : blocks_below shard.entries p.first ≡ blocks_below shard.entries from
      same = ap (blocks_below shard.entries) (sym way) ∙ count_gap shard.entries from (p.first - from) (λ x low below. next.first x low (omega (arith, below, way)))

      more : blocks_below shard.entries (p.first + 1) ≡ blocks_below shard.entries from + 1
      more =
          let last : p.first + 1 ≡ suc p.first = omega arith in
          let one = count_one shard.entries p.first (staged next.entered.stage p) next.entered.there in
          ap (blocks_below shard.entries) last ∙ (one ∙ ap (λ n. n + 1) same)

  -- the block of a pointer that is held
  abbrev block_at : (from : ℕ) (p : Pointer) → IsNextHeld shard from p → HasBlock shard (key_of p)
  block_at from p next = record { first = p.first; e = staged next.entered.stage p; there = next.entered.there; key_is = refl }

  -- a block that begins below it or is it
  below_next : (from : ℕ) (p : Pointer) (key : Key) → IsNextHeld shard from p → HasBelow shard (p.first + 1) key → HasBelow shard from key ⊎ (key_of p ≡ key)
  below_next from p key next h = elim (cases_lt h.first from) [
    | inl low ↦ inl (record { first = h.first; e = h.e; there = h.there; key_is = h.key_is; below = low })
    | inr past ↦ elim (cases_eq h.first p.first) [
      | inl same ↦
          (let own : staged next.entered.stage p ≡ h.e = some_injective (staged next.entered.stage p) h.e (sym next.entered.there ∙ (ap (entry_at shard.entries) (sym same) ∙ h.there)) in
          inr (ap (λ (e : Entry). key_of e.pointer) own ∙ h.key_is))
      | inr other ↦ (let below = h.below in let none = next.first h.first past (omega (arith, below, other)) in absurd (let there = h.there in cc))
    ]
  ]

  own_below : (from : ℕ) (p : Pointer) (key : Key) → IsNextHeld shard from p → key_of p ≡ key → HasBelow shard (p.first + 1) key
  own_below from p key next own = record { first = p.first; e = staged next.entered.stage p; there = next.entered.there; key_is = own; below = omega arith }

  further : (from : ℕ) (p : Pointer) (key : Key) → IsNextHeld shard from p → HasBelow shard from key → HasBelow shard (p.first + 1) key
  further from p key next h =
      let low = h.below in
      let behind = next.behind in
      record { first = h.first; e = h.e; there = h.there; key_is = h.key_is; below = omega (arith, low, behind) }

  pub notes_none : (old : Key → Bool) → NotesBelow shard 0 old old
  notes_none old = record {
    just = λ key. (λ there. inl there, back key);
    fresh = λ key h. (let low = h.below in absurd (omega (arith, low)));
  }
    where
      back : (key : Key) → (old key ≡ true) ⊎ HasBelow shard 0 key → old key ≡ true
      back key (inl there) = there
      back key (inr h) = (let low = h.below in absurd (omega (arith, low)))

  pub notes_below : (from : ℕ) (p : Pointer) (old mid new : Key → Bool) → IsNextHeld shard from p → NotesBelow shard from old mid → mid (key_of p) ≡ false → NotesJust p mid new
      → NotesBelow shard (p.first + 1) old new
  notes_below from p old mid new next n unseen more = record { just = λ key. (λ there. on key ((more key).0 there), back key); fresh = λ key h. new_one key (below_next from p key next h) }
    where
      on_below : (key : Key) → (old key ≡ true) ⊎ HasBelow shard from key → (old key ≡ true) ⊎ HasBelow shard (p.first + 1) key
      on_below key (inl was) = inl was
      on_below key (inr h) = inr (further from p key next h)

      on : (key : Key) → (mid key ≡ true) ⊎ (key_of p ≡ key) → (old key ≡ true) ⊎ HasBelow shard (p.first + 1) key
      on key (inl was) = on_below key ((n.just key).0 was)
      on key (inr own) = inr (own_below from p key next own)

      back_below : (key : Key) → HasBelow shard from key ⊎ (key_of p ≡ key) → new key ≡ true
      back_below key (inl h) = (more key).1 (inl ((n.just key).1 (inr h)))
      back_below key (inr own) = (more key).1 (inr own)

      back : (key : Key) → (old key ≡ true) ⊎ HasBelow shard (p.first + 1) key → new key ≡ true
      back key (inl was) = (more key).1 (inl ((n.just key).1 (inl was)))
      back key (inr h) = back_below key (below_next from p key next h)

      new_one : (key : Key) → HasBelow shard from key ⊎ (key_of p ≡ key) → old key ≡ false
      new_one key (inl h) = n.fresh key h
      new_one key (inr own) = unnoted (old key) (λ was. absurd_test (mid key) ((n.just key).1 (inl was)) (ap mid (sym own) ∙ unseen))

  all_below : (from : ℕ) (key : Key) → ((first : ℕ) → from ≤ first → entry_at shard.entries first ≡ None) → HasBlock shard key → HasBelow shard from key
  all_below from key none h = elim (cases_lt h.first from) [
    | inl low ↦ record { first = h.first; e = h.e; there = h.there; key_is = h.key_is; below = low }
    | inr past ↦ (let empty = none h.first past in absurd (let there = h.there in cc))
  ]

  pub notes_all : (from : ℕ) (old new : Key → Bool) → ((first : ℕ) → from ≤ first → entry_at shard.entries first ≡ None) → NotesBelow shard from old new → NotesJustOf shard old new
  notes_all from old new none n key = (λ there. on ((n.just key).0 there), back)
    where
      on : (old key ≡ true) ⊎ HasBelow shard from key → (old key ≡ true) ⊎ HasBlock shard key
      on (inl was) = inl was
      on (inr h) = inr (record { first = h.first; e = h.e; there = h.there; key_is = h.key_is })

      back : (old key ≡ true) ⊎ HasBlock shard key → new key ≡ true
      back (inl was) = (n.just key).1 (inl was)
      back (inr h) = (n.just key).1 (inr (all_below from key none h))

  pub all_fresh : (from : ℕ) (old new : Key → Bool) → ((first : ℕ) → from ≤ first → entry_at shard.entries first ≡ None) → NotesBelow shard from old new → IsUnnoted shard old
  all_fresh from old new none n key h = n.fresh key (all_below from key none h)

  -- no block below it has the object and number of a block: another metaslab's has
  pub noted_twice : {T : Type 0} (from : ℕ) (p : Pointer) (old mid : Key → Bool) (place : ℕ) → IsNextHeld shard from p → place ≡ place_in shard from → NotesBelow shard from old mid → mid (key_of p) ≡ true
      → (metaslab at : ℕ) (kind : RecordFaultKind) → IsErrOf {T = T} (Err (fault.Record shard.number place why.Twice)) (fault.Record metaslab at kind) → IsNotedTwice shard old (Some metaslab) at kind
  noted_twice {T} from p old mid place next place_is n there metaslab «at» kind err = by ((n.just (key_of p)).0 there)
    where
      own : Some metaslab ≡ Some shard.number
      own = (let same : shard.number ≡ metaslab = cc in ap Some (sym same))

      here : «at» ≡ place_in shard p.first
      here =
          let same : place ≡ «at» = cc in
          let count = (count_next from p next).0 in
          omega (arith, same, count, place_is)

      lower : (first : ℕ) (e : Entry) → first < p.first → entry_at shard.entries first ≡ Some e → HasBelow shard from (key_of e.pointer)
      lower first e less at = elim (cases_lt first from) [
        | inl low ↦ record { first = first; e = e; there = at; key_is = refl; below = low }
        | inr past ↦ (let none = next.first first past less in absurd (cc))
      ]

      by : (old (key_of p) ≡ true) ⊎ HasBelow shard from (key_of p) → IsNotedTwice shard old (Some metaslab) «at» kind
      by (inl was) = record {
        metaslab_is = own;
        kind_is = cc;
        key = key_of p;
        block = block_at from p next;
        place_is = here;
        twice = was;
        lowest = λ first e less at. n.fresh (key_of e.pointer) (lower first e less at);
      }
      by (inr h) =
          let same = one_place shard.entries h.first p.first h.e (staged next.entered.stage p) h.there next.entered.there h.key_is in
          let low = h.below in
          let behind = next.behind in
          let own = (shard.entries.agree.found h.first h.e h.there).first_is in
          absurd (omega (arith, same, low, behind, own))

-- ---- all metaslabs

-- a fault is one whatever the answer would have been
pub starved : {T : Type 0} (metaslab place : ℕ) (kind : RecordFaultKind) → IsErrOf {T = T} (Err fault.NoMemory) (fault.Record metaslab place kind) → ⊥
starved metaslab place kind is = cc

pub no_fault : {T : Type 0} {x : T} {why : FoundFault} → IsErrOf (Ok x) why → ⊥
no_fault is = cc

pub passed : {T U : Type 0} (why fault : FoundFault) → IsErrOf {T = T} (Err why) fault → IsErrOf {T = U} (Err why) fault
passed why fault err = (let same : why ≡ fault = cc in ap Err same)

-- just the blocks of the metaslabs below a number were noted
abbrev pub NotesEarlier : {R A : Type 0} → List (Shard R A) → ℕ → (Key → Bool) → Type 0
NotesEarlier shards n noted = (key : Key) → (noted key ≡ true) ↔ HasEarlier shards n key

pub earlier_none : {R A S : Type 0} (shards : List (Shard R A)) (new : HashSet (ℕ × ℕ) S) → keys new ≡ [] → NotesEarlier shards 0 (noted_in new)
earlier_none shards new none key = (
  λ there. absurd_test (noted_in new key) there (ap (λ (ks : List (ℕ × ℕ)). list_any (pair_eq (key.object, key.seq)) ks) none),
  λ h. (let low = h.below in absurd (omega (arith, low))),
)

module _ {R A : Type 0} (shards : List (Shard R A)) where
  -- one of the metaslabs below the next number is below, or it is this one
  earlier_next : (n : ℕ) (shard : Shard R A) (key : Key) → slice_get shards n ≡ Some shard → HasEarlier shards (n + 1) key → HasEarlier shards n key ⊎ HasBlock shard key
  earlier_next n shard key at h = elim (cases_eq h.m n) [
    | inl same ↦
        (let own : h.shard ≡ shard = some_injective h.shard shard (sym h.there ∙ (ap (slice_get shards) same ∙ at)) in
        inr (subst (λ (s : Shard R A). HasBlock s key) own h.block))
    | inr other ↦ (let low = h.below in inl (record { m = h.m; below = omega (arith, low, other); shard = h.shard; there = h.there; block = h.block }))
  ]

  pub earlier_more : (n : ℕ) (shard : Shard R A) (old new : Key → Bool) → slice_get shards n ≡ Some shard → NotesEarlier shards n old → NotesJustOf shard old new → NotesEarlier shards (n + 1) new
  earlier_more n shard old new at before more key = (λ there. on ((more key).0 there), λ h. back (earlier_next n shard key at h))
    where
      on : (old key ≡ true) ⊎ HasBlock shard key → HasEarlier shards (n + 1) key
      on (inl was) = (let h = (before key).0 was in let low = h.below in record { m = h.m; below = omega (arith, low); shard = h.shard; there = h.there; block = h.block })
      on (inr own) = record { m = n; below = omega arith; shard = shard; there = at; block = own }

      back : HasEarlier shards n key ⊎ HasBlock shard key → new key ≡ true
      back (inl h) = (more key).1 (inl ((before key).1 h))
      back (inr own) = (more key).1 (inr own)

  pub together_none : AreTogether shards 0
  together_none = record { alike = λ m first shard less begins at. absurd (omega (arith, less)); once = λ m shard key less at block twice. absurd (omega (arith, less)) }

  -- the next metaslab is one of the pool too
  pub together_more : (n : ℕ) (one shard : Shard R A) (noted : Key → Bool) → slice_get shards 0 ≡ Some one → slice_get shards n ≡ Some shard → HaveSameArms one.slots shard.slots → IsUnnoted shard noted
      → NotesEarlier shards n noted → AreTogether shards n → AreTogether shards (n + 1)
  together_more n one shard noted begins at same fresh before t = record { alike = alike; once = once }
    where
      alike : (m : ℕ) (first other : Shard R A) → m < n + 1 → slice_get shards 0 ≡ Some first → slice_get shards m ≡ Some other → HaveSameArms first.slots other.slots
      alike m first other less «begin» there = elim (cases_eq m n) [
        | inl here ↦
            (let own : shard ≡ other = some_injective shard other (sym at ∙ (ap (slice_get shards) (sym here) ∙ there)) in
            let front : one ≡ first = some_injective one first (sym begins ∙ «begin») in
            subst (λ (s : Shard R A). HaveSameArms s.slots other.slots) front (subst (λ (s : Shard R A). HaveSameArms one.slots s.slots) own same))
        | inr elsewhere ↦ t.alike m first other (omega (arith, less, elsewhere)) «begin» there
      ]

      once : (m : ℕ) (other : Shard R A) (key : Key) → m < n + 1 → slice_get shards m ≡ Some other → HasBlock other key → HasEarlier shards m key → ⊥
      once m other key less there block twice = elim (cases_eq m n) [
        | inl here ↦
            (let own : other ≡ shard = some_injective other shard (sym there ∙ (ap (slice_get shards) here ∙ at)) in
            absurd_test (noted key) ((before key).1 (subst (λ k. HasEarlier shards k key) here twice)) (fresh key (subst (λ (s : Shard R A). HasBlock s key) own block)))
        | inr elsewhere ↦ t.once m other key (omega (arith, less, elsewhere)) there block twice
      ]

  -- a metaslab's block is noted already
  pub block_twice : (rack : racks.Ghosts R) (n : ℕ) (one shard : Shard R A) (noted : Key → Bool) (metaslab : Option ℕ) (place : ℕ) (kind : RecordFaultKind) → slice_get shards 0 ≡ Some one → slice_get shards n ≡ Some shard
      → HaveSameArms one.slots shard.slots → AreReady rack shards → NotesEarlier shards n noted → AreTogether shards n → IsNotedTwice shard noted metaslab place kind → AreApart shards metaslab place kind
  block_twice rack n one shard noted metaslab place kind begins at same ready before together t =
      let h = (before t.key).0 t.twice in
      inr (record {
        m = n;
        metaslab_is = t.metaslab_is ∙ ap Some (ready n shard at).number_is;
        kind_is = t.kind_is;
        shard = shard;
        there = at;
        earlier = h.m;
        before = h.below;
        other = h.shard;
        other_there = h.there;
        key = t.key;
        block = t.block;
        place_is = t.place_is;
        twice = h.block;
        lowest = λ first e less there again. absurd_test (noted (key_of e.pointer)) ((before (key_of e.pointer)).1 again) (t.lowest first e less there);
        alike = λ first front. subst (λ (s : Shard R A). HaveSameArms s.slots shard.slots) (some_injective one first (sym begins ∙ front)) same;
        together = together;
      })

  -- or it has other arms than the first one
  pub other_arms : {T : Type 0} (rack : racks.Ghosts R) (n : ℕ) (first shard : Shard R A) → slice_get shards 0 ≡ Some first → slice_get shards n ≡ Some shard → AreReady rack shards
      → (HaveSameArms first.slots shard.slots → ⊥) → AreTogether shards n → (metaslab place : ℕ) (kind : RecordFaultKind) → IsErrOf {T = T} (Err (fault.Record shard.number 20 why.Arms)) (fault.Record metaslab place kind)
      → AreApart shards (Some metaslab) place kind
  other_arms {T} rack n first shard begins at ready differ together metaslab place kind err = inl (record {
    m = n;
    metaslab_is = ap Some (own ∙ (ready n shard at).number_is);
    place_is = cc;
    kind_is = cc;
    first = first;
    begins = begins;
    shard = shard;
    there = at;
    differ = differ;
    together = together;
  })
    where
      own : metaslab ≡ shard.number
      own = cc
