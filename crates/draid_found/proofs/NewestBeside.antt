-- The blocks that a check record doesn't name, as they are noted.
use Rattle.std.proofs.Common.{arith, ◌≡◌, ◌+◌, ◌<◌, ◌≤◌, ◌∙◌, ◌⊎◌, inl, inr, ℕ, Bool, true, false, cond, List, [], Option, Some, None, refl, sym, ap, subst, length}
use Rattle.std.specs.Prelude.{◌↔◌, Contains, slice_get}
use Rattle.std.specs.HashSet.{HashSet, contains, keys}
use Rattle.std.specs.List.{list_any}
use Rattle.std.proofs.lemmas.Bool.{cases_eq, cases_lt}
use Rattle.std.proofs.lemmas.Option.{slice_get-get_or, slice_get_within}
use Rattle.draid_names.specs.declared.pointer.Pointer.{Pointer}
use Rattle.draid_machine.specs.declared.names.Key.{Key}
use Rattle.draid_machine.specs.declared.names.Stage.TheVariants.{Live}
use Rattle.draid_machine.proofs.Small.{absurd_test, bool_cases, key_true, some_injective}
use Rattle.draid_rack.specs.declared.Rack as racks
use Rattle.draid_entries.specs.declared.entry.Entry.{Entry}
use Rattle.draid_entries.specs.Entries.{entry_at}
use Rattle.draid_entries.specs.Maps.{key_of, staged}
use Rattle.draid_record.specs.declared.checks.Dropped.{Dropped}
use Rattle.draid_shard.specs.Fits.{Valid}
use Rattle.draid_shard.specs.Looks.{IsLive, IsNextHeld}
use Rattle.draid_shard.specs.declared.shard.Shard.{Shard}
use Rattle.draid_found.specs.Drops.{AreJustNamed, AreNewestBeside, NotesBeside, NotesNamed, NotesOneBeside, key_in}
use Rattle.draid_found.specs.Found.{AllLive, AreReady, Grows, LeadsTo, Reaches}
use Rattle.draid_found.specs.Together.{noted_in, pair_eq}
use Rattle.draid_found.proofs.Noted.{below_next, next_live, reaches_more}
use Rattle.draid_found.proofs.Together.{pair_same}

-- ---- what is named

-- those below a place
pub record NamedBelow (drops : List Dropped) (n : ℕ) (key : Key) : Type 0 where
  pub i : ℕ
  pub d : Dropped
  pub there : slice_get drops i ≡ Some d
  pub is : key_in d ≡ key
  pub below : i < n

abbrev pub NotesThose : List Dropped → ℕ → (Key → Bool) → Type 0
NotesThose drops n noted = (key : Key) → (noted key ≡ true) ↔ NamedBelow drops n key

pub named_none : {S : Type 0} (drops : List Dropped) (new : HashSet (ℕ × ℕ) S) → keys new ≡ [] → NotesThose drops 0 (noted_in new)
named_none drops new none key = (
  λ there. absurd_test (noted_in new key) there (ap (λ (ks : List (ℕ × ℕ)). list_any (pair_eq (key.object, key.seq)) ks) none),
  λ h. (let low = h.below in absurd (omega (arith, low))),
)

pub note_one : {S : Type 0} (d : Dropped) (old new : HashSet (ℕ × ℕ) S) → ((q : ℕ × ℕ) → contains pair_eq new q ≡ cond (pair_eq (d.object, d.seq) q) true (contains pair_eq old q)) → NotesNamed (key_in d) (noted_in old) (noted_in new)
note_one d old new puts key = (λ there. by (pair_eq (d.object, d.seq) (key.object, key.seq)) refl there, back)
  where
    by : (b : Bool) → pair_eq (d.object, d.seq) (key.object, key.seq) ≡ b → noted_in new key ≡ true → (noted_in old key ≡ true) ⊎ (key_in d ≡ key)
    by true same there = inr (key_true (key_in d) key same)
    by false other there = inl (ap (λ b. cond b true (contains pair_eq old (key.object, key.seq))) (sym other) ∙ (sym (puts (key.object, key.seq)) ∙ there))

    both : (b : Bool) → cond b true true ≡ true
    both true = refl
    both false = refl

    back : (noted_in old key ≡ true) ⊎ (key_in d ≡ key) → noted_in new key ≡ true
    back (inl was) = puts (key.object, key.seq) ∙ (ap (λ b. cond (pair_eq (d.object, d.seq) (key.object, key.seq)) true b) was ∙ both (pair_eq (d.object, d.seq) (key.object, key.seq)))
    back (inr is) =
        let own : pair_eq (d.object, d.seq) (key.object, key.seq) ≡ true = ap (λ (k : Key). pair_eq (d.object, d.seq) (k.object, k.seq)) (sym is) ∙ pair_same d.object d.seq in
        puts (key.object, key.seq) ∙ ap (λ b. cond b true (contains pair_eq old (key.object, key.seq))) own

pub named_more : (drops : List Dropped) (n : ℕ) (d : Dropped) (old new : Key → Bool) → slice_get drops n ≡ Some d → NotesThose drops n old → NotesNamed (key_in d) old new → NotesThose drops (n + 1) new
named_more drops n d old new at before one key = (λ there. on ((one key).0 there), back)
  where
    on : (old key ≡ true) ⊎ (key_in d ≡ key) → NamedBelow drops (n + 1) key
    on (inl was) = (let h = (before key).0 was in let low = h.below in record { i = h.i; d = h.d; there = h.there; is = h.is; below = omega (arith, low) })
    on (inr own) = record { i = n; d = d; there = at; is = own; below = omega arith }

    back : NamedBelow drops (n + 1) key → new key ≡ true
    back h = elim (cases_eq h.i n) [
      | inl same ↦
          (let e : h.d ≡ d = some_injective h.d d (sym h.there ∙ (ap (slice_get drops) same ∙ at)) in
          (one key).1 (inr (ap key_in (sym e) ∙ h.is)))
      | inr other ↦ (let low = h.below in (one key).1 (inl ((before key).1 (record { i = h.i; d = h.d; there = h.there; is = h.is; below = omega (arith, low, other) }))))
    ]

pub named_all : (drops : List Dropped) (n : ℕ) (noted : Key → Bool) → length drops ≤ n → NotesThose drops n noted → AreJustNamed drops noted
named_all drops n noted all notes key = (λ there. to ((notes key).0 there), λ c. (notes key).1 (back c))
  where
    block : Dropped
    block = record { object = key.object; seq = key.seq }

    to : NamedBelow drops n key → Contains drops (record { object = key.object; seq = key.seq })
    to h =
        let same : h.d ≡ record { object = key.object; seq = key.seq } = λ i. record { object = (h.is i).object; seq = (h.is i).seq } in
        let inside = slice_get_within drops h.i h.d h.there in
        (h.i, inside, some_injective _ _ (sym (slice_get-get_or drops h.i (record { object = key.object; seq = key.seq }) inside) ∙ (h.there ∙ ap Some same)))

    back : Contains drops (record { object = key.object; seq = key.seq }) → NamedBelow drops n key
    back (i, inside, is) = record {
      i = i;
      d = record { object = key.object; seq = key.seq };
      there = slice_get-get_or drops i (record { object = key.object; seq = key.seq }) inside ∙ ap Some is;
      is = refl;
      below = omega (arith, inside, all);
    }

-- ---- a metaslab

module _ {R A : Type 0} (rack : racks.Ghosts R) (shard : Shard R A) (noted : Key → Bool) where
  pub record NotingBeside (from : ℕ) (old new : ℕ → Option Pointer) : Type 0 where
    pub newest : (object : ℕ) (p : Pointer) → new object ≡ Some p → (old object ≡ Some p) ⊎ ((p.object ≡ object) × (p.metaslab ≡ shard.number) × IsLive shard p × (noted (key_of p) ≡ false))
    pub known : (first : ℕ) (e : Entry) → entry_at shard.entries first ≡ Some e → first < from → noted (key_of e.pointer) ≡ false → Reaches new e.pointer.object e.pointer.seq
    pub grows : Grows old new

  pub beside_none : (table : ℕ → Option Pointer) → NotingBeside 0 table table
  beside_none table = record {
    newest = λ object p there. inl there;
    known = λ first e there below out. absurd (omega (arith, below));
    grows = λ object p there. (p, there, omega arith);
  }

  pub beside_more : (from : ℕ) (p : Pointer) (old mid new : ℕ → Option Pointer) → Valid rack shard → AllLive shard → IsNextHeld shard from p → NotingBeside from old mid → NotesOneBeside noted p mid new
      → NotingBeside (p.first + 1) old new
  beside_more from p old mid new valid live next n one = record {
    newest = λ object q there. elim (one.newest object q there) [
      | inl was ↦ n.newest object q was
      | inr is ↦
          (let here = next_live rack shard from p (λ first e past. live first e) next in
          inr (subst (λ (x : Pointer). (x.object ≡ object) × (x.metaslab ≡ shard.number) × IsLive shard x × (noted (key_of x) ≡ false)) (sym is.1)
          (is.0, valid.here.each p.first (staged Live p) here, here, is.2)))
    ];
    known = λ first e there below out. elim (below_next rack shard from first e p next there below) [
      | inl low ↦ reaches_more mid new e.pointer.object e.pointer.seq one.grows (n.known first e there low out)
      | inr same ↦ subst (λ (q : Pointer). Reaches new q.object q.seq) (sym same) (one.known (ap (λ (q : Pointer). noted (key_of q)) (sym same) ∙ out))
    ];
    grows = λ object q there. reaches_more mid new object q.seq one.grows (n.grows object q there);
  }

  pub beside_all : (from : ℕ) (old new : ℕ → Option Pointer) → ((first : ℕ) → from ≤ first → entry_at shard.entries first ≡ None) → NotingBeside from old new → NotesBeside noted shard old new
  beside_all from old new none n = record {
    newest = n.newest;
    known = λ first e there out. elim (cases_lt first from) [
      | inl below ↦ n.known first e there below out
      | inr past ↦ (let empty = none first past in absurd (cc))
    ];
    grows = n.grows;
  }

-- ---- all metaslabs

module _ {R A : Type 0} (rack : racks.Ghosts R) (shards : List (Shard R A)) (noted : Key → Bool) where
  pub record FindingBeside (n : ℕ) (newest : ℕ → Option Pointer) : Type 0 where
    pub pointers : (object : ℕ) (p : Pointer) → newest object ≡ Some p → LeadsTo shards object p × (noted (key_of p) ≡ false)
    pub known : (m : ℕ) (shard : Shard R A) (first : ℕ) (e : Entry) → m < n → slice_get shards m ≡ Some shard → entry_at shard.entries first ≡ Some e → noted (key_of e.pointer) ≡ false
        → Reaches newest e.pointer.object e.pointer.seq

  pub beside_begins : (newest : ℕ → Option Pointer) → ((object : ℕ) → newest object ≡ None) → FindingBeside 0 newest
  beside_begins newest none = record {
    pointers = λ object p there. (let empty = none object in absurd (cc));
    known = λ m shard first e below there found out. absurd (omega (arith, below));
  }

  pub beside_next : (n : ℕ) (shard : Shard R A) (old new : ℕ → Option Pointer) → slice_get shards n ≡ Some shard → AreReady rack shards → FindingBeside n old → NotesBeside noted shard old new → FindingBeside (n + 1) new
  beside_next n shard old new there ready f notes = record {
    pointers = λ object p is. elim (notes.newest object p is) [
      | inl was ↦ f.pointers object p was
      | inr own ↦
          (let number = (ready n shard there).number_is in
          (record { object_is = own.0; shard = shard; there = ap (slice_get shards) (own.1 ∙ number) ∙ there; live = own.2 }, own.3))
    ];
    known = λ m s first e below at found out. elim (cases_eq m n) [
      | inl same ↦
          (let is : s ≡ shard = some_injective s shard (sym (subst (λ (k : ℕ). slice_get shards k ≡ Some s) same at) ∙ there) in
          notes.known first e (ap (λ (x : Shard R A). entry_at x.entries first) (sym is) ∙ found) out)
      | inr other ↦ reaches_more old new e.pointer.object e.pointer.seq notes.grows (f.known m s first e (omega (arith, below, other)) at found out)
    ];
  }

  pub beside_ends : (drops : List Dropped) (n : ℕ) (newest : ℕ → Option Pointer) → AreJustNamed drops noted → length shards ≤ n → FindingBeside n newest → AreNewestBeside shards drops newest
  beside_ends drops n newest named all f = record {
    pointers = λ object p is. (let own = f.pointers object p is in (own.0, λ has. absurd_test (noted (key_of p)) ((named (key_of p)).1 has) own.1));
    known = λ m shard first e there found out.
        (let within = slice_get_within shards m shard there in
        f.known m shard first e (omega (arith, within, all)) there found (elim (bool_cases (noted (key_of e.pointer))) [
          | inl has ↦ absurd (out ((named (key_of e.pointer)).0 has))
          | inr not ↦ not
        ]));
  }
