-- The blocks that an import finds in the metaslabs that it opened.
use Rattle.std.proofs.Common.{arith, ◌≡◌, ◌+◌, ◌<◌, ◌≤◌, ◌∙◌, ◌⊎◌, inl, inr, ℕ, cond, List, Option, Some, None, refl, sym, ap, subst, slice_index_or, length}
use Rattle.std.specs.Prelude.{nat_eq, slice_get}
use Rattle.std.proofs.lemmas.Bool.{cases_eq, cases_lt}
use Rattle.std.proofs.lemmas.Bool.Decides.{nat_tests}
use Rattle.std.proofs.lemmas.Option.{slice_get-get_or, slice_get_within}
use Rattle.draid_names.specs.declared.numbers.TheConstants.{NUMBERS}
use Rattle.draid_names.specs.declared.pointer.Pointer.{Pointer}
use Rattle.draid_rack.specs.declared.Rack as racks
use Rattle.draid_spec.specs.Geometry.{metaslab_stripes}
use Rattle.draid_machine.specs.declared.names.Stage.{Stage}
use Rattle.draid_machine.specs.declared.names.Stage.TheVariants.{Live}
use Rattle.draid_machine.proofs.Small.{some_injective}
use Rattle.draid_entries.specs.declared.entry.Entry.{Entry}
use Rattle.draid_entries.specs.Entries.{entry_at}
use Rattle.draid_entries.specs.Maps.{staged}
use Rattle.draid_shard.specs.Looks.{IsLive, IsNextHeld}
use Rattle.draid_shard.specs.Fits.{Valid}
use Rattle.draid_shard.specs.declared.shard.Shard.{Shard}
use Rattle.draid_found.specs.Found.{AllLive, AreFound, AreReady, Grows, IsNumberIn, IsNumberOf, KeepsNewer, LeadsTo, Notes, NotesOne, Reaches}

-- what a loop takes from a list is there
pub at_item : {X : Type 0} (xs : List X) (i : ℕ) (x : X) → i < length xs → x ≡ slice_index_or xs i x → slice_get xs i ≡ Some x
at_item xs i x below is = slice_get-get_or xs i x below ∙ ap (λ y. Some y) (sym is)

-- ---- blocks

-- what a table has once a pointer is put there
pub keeps_put : (pointer : Pointer) (old new : ℕ → Option Pointer) → ((p : Pointer) → old pointer.object ≡ Some p → p.seq < pointer.seq)
    → ((q : ℕ) → new q ≡ cond (nat_eq pointer.object q) (Some pointer) (old q)) → KeepsNewer pointer old new
keeps_put pointer old new newer puts = record {
  newest = λ object p there. elim (cases_eq pointer.object object) [
    | inl same ↦
        (let is : new object ≡ Some pointer = grind (arith, nat_tests, same, puts object) in
        inr (same, some_injective p pointer (sym there ∙ is)))
    | inr other ↦ (let is : new object ≡ old object = grind (arith, nat_tests, other, puts object) in inl (sym is ∙ there))
  ];
  known = (pointer, own, omega arith);
  grows = λ object p there. elim (cases_eq pointer.object object) [
    | inl same ↦ (let less = newer p (ap old same ∙ there) in (pointer, ap new (sym same) ∙ own, omega (arith, less)))
    | inr other ↦ (let is : new object ≡ old object = grind (arith, nat_tests, other, puts object) in (p, is ∙ there, omega arith))
  ];
}
  where
    own : new pointer.object ≡ Some pointer
    own = grind (arith, nat_tests, puts pointer.object)

-- what it has where it was left alone
pub keeps_same : (pointer : Pointer) (table : ℕ → Option Pointer) → Reaches table pointer.object pointer.seq → KeepsNewer pointer table table
keeps_same pointer table known = record {
  newest = λ object p there. inl there;
  known = known;
  grows = λ object p there. (p, there, omega arith);
}

pub reaches_more : (old new : ℕ → Option Pointer) (object seq : ℕ) → Grows old new → Reaches old object seq → Reaches new object seq
reaches_more old new object seq grows r = (let s = grows object r.0 r.1 in let low = r.2 in let more = s.2 in (s.0, s.1, omega (arith, low, more)))

module _ {R A : Type 0} (rack : racks.Ghosts R) (shard : Shard R A) where
  -- the next block is live, in the metaslab that it names
  pub next_live : (from : ℕ) (p : Pointer) → ((first : ℕ) (e : Entry) → from ≤ first → entry_at shard.entries first ≡ Some e → e.stage ≡ Live) → IsNextHeld shard from p → IsLive shard p
  next_live from p live next =
      let is = live p.first (staged next.entered.stage p) next.behind next.entered.there in
      subst (λ (s : Stage). entry_at shard.entries p.first ≡ Some (staged s p)) is next.entered.there

  pub next_low : (from : ℕ) (p : Pointer) → IsNextHeld shard from p → p.first < NUMBERS
  next_low from p next = (shard.entries.agree.found p.first (staged next.entered.stage p) next.entered.there).low

  pub next_inside : (from : ℕ) (p : Pointer) → Valid rack shard → IsNextHeld shard from p → p.first < metaslab_stripes shard.geometry
  next_inside from p valid next =
      let placed = valid.tables.placed p.first (staged next.entered.stage p) next.entered.there in
      let inside = placed.run.inside in
      let some = placed.run.some in
      omega (arith, inside, some)

  -- a block below the next place is one below the last, or the one that was found
  pub below_next : (from first : ℕ) (e : Entry) (p : Pointer) → IsNextHeld shard from p → entry_at shard.entries first ≡ Some e → first < p.first + 1 → (first < from) ⊎ (e.pointer ≡ p)
  below_next from first e p next there below = by (cases_lt first from) (cases_eq first p.first)
    where
      by : (first < from) ⊎ (from ≤ first) → (first ≡ p.first) ⊎ (first ≡ p.first → ⊥) → (first < from) ⊎ (e.pointer ≡ p)
      by (inl low) own = inl low
      by (inr past) (inl same) =
          inr (ap (λ (x : Entry). x.pointer) (some_injective e (staged next.entered.stage p) (sym there ∙ (ap (entry_at shard.entries) same ∙ next.entered.there))))
      by (inr past) (inr other) = (let none = next.first first past (omega (arith, below, other)) in absurd (cc))

  -- those below a place were noted
  pub record Noting (from : ℕ) (old new : ℕ → Option Pointer) (before after : ℕ) : Type 0 where
    pub later : before ≤ after
    pub numbered : (first : ℕ) (e : Entry) → entry_at shard.entries first ≡ Some e → first < from → e.pointer.seq ≤ after
    pub newest : (object : ℕ) (p : Pointer) → new object ≡ Some p → (old object ≡ Some p) ⊎ ((p.object ≡ object) × (p.metaslab ≡ shard.number) × IsLive shard p)
    pub one : (after ≡ before) ⊎ IsNumberOf shard after
    pub known : (first : ℕ) (e : Entry) → entry_at shard.entries first ≡ Some e → first < from → Reaches new e.pointer.object e.pointer.seq
    pub grows : Grows old new

  pub noting_none : (table : ℕ → Option Pointer) (seq : ℕ) → Noting 0 table table seq seq
  noting_none table seq = record {
    later = omega arith;
    numbered = λ first e there below. absurd (omega (arith, below));
    newest = λ object p there. inl there;
    one = inl refl;
    known = λ first e there below. absurd (omega (arith, below));
    grows = λ object p there. (p, there, omega arith);
  }

  pub noting_more : (from : ℕ) (p : Pointer) (old mid new : ℕ → Option Pointer) (before middle after : ℕ) → Valid rack shard → AllLive shard → IsNextHeld shard from p → Noting from old mid before middle
      → NotesOne p mid new middle after → Noting (p.first + 1) old new before after
  noting_more from p old mid new before middle after valid live next n one = record {
    later = (let low = n.later in let more = one.later in omega (arith, low, more));
    numbered = λ first e there below. elim (below_next from first e p next there below) [
      | inl low ↦ (let own = n.numbered first e there low in let more = one.later in omega (arith, own, more))
      | inr same ↦ (let own = one.numbered in let seq = ap (λ (x : Pointer). x.seq) same in omega (arith, own, seq))
    ];
    newest = λ object q there. elim (one.table.newest object q there) [
      | inl was ↦ n.newest object q was
      | inr is ↦
          (let here = next_live from p (λ first e past. live first e) next in
          inr (subst (λ (x : Pointer). (x.object ≡ object) × (x.metaslab ≡ shard.number) × IsLive shard x) (sym is.1)
          (is.0, valid.here.each p.first (staged Live p) here, here)))
    ];
    one = elim one.one [
      | inl same ↦ subst (λ (k : ℕ). (k ≡ before) ⊎ IsNumberOf shard k) (sym same) n.one
      | inr own ↦ inr (p.first, staged Live p, next_live from p (λ first e past. live first e) next, own)
    ];
    known = λ first e there below. elim (below_next from first e p next there below) [
      | inl low ↦ reaches_more mid new e.pointer.object e.pointer.seq one.table.grows (n.known first e there low)
      | inr same ↦ subst (λ (q : Pointer). Reaches new q.object q.seq) (sym same) one.table.known
    ];
    grows = λ object q there. reaches_more mid new object q.seq one.table.grows (n.grows object q there);
  }

  pub noting_all : (from : ℕ) (old new : ℕ → Option Pointer) (before after : ℕ) → ((first : ℕ) → from ≤ first → entry_at shard.entries first ≡ None) → Noting from old new before after → Notes shard old new before after
  noting_all from old new before after none n = record {
    later = n.later;
    numbered = λ first e there. elim (cases_lt first from) [
      | inl below ↦ n.numbered first e there below
      | inr past ↦ (let empty = none first past in absurd (cc))
    ];
    newest = n.newest;
    one = n.one;
    known = λ first e there. elim (cases_lt first from) [
      | inl below ↦ n.known first e there below
      | inr past ↦ (let empty = none first past in absurd (cc))
    ];
    grows = n.grows;
  }

-- ---- all metaslabs

module _ {R A : Type 0} (rack : racks.Ghosts R) (shards : List (Shard R A)) where
  -- those below a number were looked through
  pub record Finding (n : ℕ) (newest : ℕ → Option Pointer) (seq : ℕ) : Type 0 where
    pub pointers : (object : ℕ) (pointer : Pointer) → newest object ≡ Some pointer → LeadsTo shards object pointer
    pub numbered : (m : ℕ) (shard : Shard R A) (first : ℕ) (e : Entry) → m < n → slice_get shards m ≡ Some shard → entry_at shard.entries first ≡ Some e → e.pointer.seq ≤ seq
    pub one : IsNumberIn shards seq
    pub known : (m : ℕ) (shard : Shard R A) (first : ℕ) (e : Entry) → m < n → slice_get shards m ≡ Some shard → entry_at shard.entries first ≡ Some e → Reaches newest e.pointer.object e.pointer.seq

  pub finding_none : (newest : ℕ → Option Pointer) → ((object : ℕ) → newest object ≡ None) → Finding 0 newest 0
  finding_none newest none = record {
    pointers = λ object pointer there. (let empty = none object in absurd (cc));
    numbered = λ m shard first e below there found. absurd (omega (arith, below));
    one = inl refl;
    known = λ m shard first e below there found. absurd (omega (arith, below));
  }

  pub finding_more : (n : ℕ) (shard : Shard R A) (old new : ℕ → Option Pointer) (before after : ℕ) → slice_get shards n ≡ Some shard → AreReady rack shards → Finding n old before → Notes shard old new before after
      → Finding (n + 1) new after
  finding_more n shard old new before after there ready f notes = record {
    pointers = λ object p is. elim (notes.newest object p is) [
      | inl was ↦ f.pointers object p was
      | inr own ↦
          (let number = (ready n shard there).number_is in
          record { object_is = own.0; shard = shard; there = ap (slice_get shards) (own.1 ∙ number) ∙ there; live = own.2 })
    ];
    numbered = λ m s first e below at found. elim (cases_eq m n) [
      | inl same ↦
          (let is : s ≡ shard = some_injective s shard (sym (subst (λ (k : ℕ). slice_get shards k ≡ Some s) same at) ∙ there) in
          notes.numbered first e (ap (λ (x : Shard R A). entry_at x.entries first) (sym is) ∙ found))
      | inr other ↦ (let low = f.numbered m s first e (omega (arith, below, other)) at found in let more = notes.later in omega (arith, low, more))
    ];
    one = elim notes.one [
      | inl same ↦ subst (IsNumberIn shards) (sym same) f.one
      | inr z ↦ inr (n, shard, z.0, z.1, there, z.2, z.3)
    ];
    known = λ m s first e below at found. elim (cases_eq m n) [
      | inl same ↦
          (let is : s ≡ shard = some_injective s shard (sym (subst (λ (k : ℕ). slice_get shards k ≡ Some s) same at) ∙ there) in
          notes.known first e (ap (λ (x : Shard R A). entry_at x.entries first) (sym is) ∙ found))
      | inr other ↦ reaches_more old new e.pointer.object e.pointer.seq notes.grows (f.known m s first e (omega (arith, below, other)) at found)
    ];
  }

  pub finding_all : (n : ℕ) (newest : ℕ → Option Pointer) (seq : ℕ) → length shards ≤ n → Finding n newest seq → AreFound shards newest seq
  finding_all n newest seq all f = record {
    pointers = f.pointers;
    numbered = λ m shard first e there found. (let within = slice_get_within shards m shard there in f.numbered m shard first e (omega (arith, within, all)) there found);
    one = f.one;
    known = λ m shard first e there found. (let within = slice_get_within shards m shard there in f.known m shard first e (omega (arith, within, all)) there found);
  }
