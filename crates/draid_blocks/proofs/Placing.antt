-- The tables of a shard with one more block, and with a block in another stage.
use Rattle.std.proofs.Common.{◌≡◌, ◌⊎◌, ◌+◌, ◌<◌, ◌≤◌, ◌&&◌, ◌||◌, not, ℕ, Bool, true, false, Option, Some, None, arith, refl, sym, ap, inl, inr, ◌∙◌, subst}
use Rattle.std.proofs.lemmas.Bool.{cases_lt, cases_eq}
use Rattle.std.proofs.lemmas.Bool.Decides.{nat_tests}
use Rattle.draid_names.specs.declared.pointer.Pointer.{Pointer}
use Rattle.draid_spec.specs.declared.layout.Geometry.{Geometry}
use Rattle.draid_spec.specs.Geometry.{metaslab_stripes}
use Rattle.draid_ranges.specs.Runs.{is_between}
use Rattle.draid_metaslab.specs.Spaces.{Stripes, is_free}
use Rattle.draid_metaslab.specs.Spots.{IsLowest}
use Rattle.draid_machine.specs.declared.names.Stage.{Stage}
use Rattle.draid_entries.specs.declared.entry.Entry.{Entry}
use Rattle.draid_entries.specs.declared.entries.Entries.{Entries}
use Rattle.draid_entries.specs.Entries.{SetsEntry, begun, count_of, entry_at}
use Rattle.draid_entries.specs.Maps.{staged}
use Rattle.draid_shard.specs.Fits.{HasStripe, IsBlock, IsPlaced, Tables}
use Rattle.draid_shard.proofs.Tables.{IsSpaceOf, WasFree, entry_cases, first_is, moved, set_here, set_there, spot_free}

-- ---- runs

-- stripes that were taken and freed again are free as before
pub back_again : (old mid new : ℕ → Bool) (first need : ℕ) → ((x : ℕ) → first ≤ x → x < first + need → old x ≡ true)
    → ((x : ℕ) → mid x ≡ (old x && not (is_between first (first + need) x))) → ((x : ℕ) → new x ≡ (mid x || is_between first (first + need) x))
    → (x : ℕ) → new x ≡ old x
back_again old mid new first need were takes frees x =
    let a = takes x in let b = frees x in let f = were x in grind (arith, nat_tests, a, b, f)

-- stripes are free, and so none of an entry's
free_apart : (geometry : Geometry) (group : ℕ) (space : Stripes) (entries : Entries) (first need : ℕ) → Tables geometry group space entries → WasFree geometry (is_free space) first need
    → (k : ℕ) (e : Entry) → entry_at entries k ≡ Some e → (k + e.pointer.stripes ≤ first) ⊎ (first + need ≤ k)
free_apart geometry group space entries first need t fits k e h = elim (cases_lt k first) [ inl before ↦ inl (lower before) | inr after ↦ inr (upper after) ] where
  p : IsPlaced geometry space group e.pointer
  p = t.placed k e h

  at : e.pointer.first ≡ k
  at = first_is entries k e h

  lower : k < first → k + e.pointer.stripes ≤ first
  lower before = elim (cases_lt first (k + e.pointer.stripes)) [
    | inr apart ↦ apart
    | inl meets ↦ (let a = p.held first (omega (arith, at)) (omega (arith, at)) in let s = fits.run.some in let b = fits.was first (omega arith) (omega arith) in absurd (cc))
  ]

  upper : first ≤ k → first + need ≤ k
  upper after = elim (cases_lt k (first + need)) [
    | inr apart ↦ apart
    | inl meets ↦ (let s = p.run.some in let a = p.held k (omega (arith, at)) (omega (arith, at)) in let b = fits.was k after meets in absurd (cc))
  ]

-- and none begins there
pub none_at : (geometry : Geometry) (group : ℕ) (space : Stripes) (entries : Entries) (first need : ℕ) → Tables geometry group space entries → WasFree geometry (is_free space) first need
    → entry_at entries first ≡ None
none_at geometry group space entries first need t fits = by_cases (entry_at entries first) refl where
  by_cases : (o : Option Entry) → entry_at entries first ≡ o → entry_at entries first ≡ None
  by_cases None e = e
  by_cases (Some entry) e =
      let p = t.placed first entry e in
      let at = first_is entries first entry e in
      let s = p.run.some in
      let a = p.held first (omega (arith, at)) (omega (arith, at)) in
      let f = fits.run.some in
      let b = fits.was first (omega arith) (omega arith) in
      absurd (cc)

-- ---- changes

-- a stripe whose entry is there still
has_still : (old new : Entries) (x : ℕ) → ((k : ℕ) (e : Entry) → entry_at old k ≡ Some e → entry_at new k ≡ Some e) → HasStripe old x → HasStripe new x
has_still old new x kept h = record { first = h.first; entry = h.entry; there = kept h.first h.entry h.there; from = h.from; to = h.to }

-- no entry changed, and just the same stripes are free
pub kept_tables : (geometry : Geometry) (group : ℕ) (old new : Stripes) (entries next : Entries) → Tables geometry group old entries
    → ((k : ℕ) → entry_at next k ≡ entry_at entries k) → ((x : ℕ) → is_free new x ≡ is_free old x)
    → IsSpaceOf geometry new (count_of next) → Tables geometry group new next
kept_tables geometry group old new entries next t same free is = record {
  height = is.height;
  total = is.total;
  count = is.count;
  inside = λ x at. t.inside x (sym (free x) ∙ at);
  placed = λ k e h. let p = t.placed k e (sym (same k) ∙ h) in moved geometry group old new e.pointer p (λ x low high. free x ∙ p.held x low high);
  apart = λ j k a b ha hb lt. t.apart j k a b (sym (same j) ∙ ha) (sym (same k) ∙ hb) lt;
  covered = λ x below taken. has_still entries next x (λ k e h. same k ∙ h) (t.covered x below (sym (free x) ∙ taken));
}

-- a free run was taken by a write that begins
pub held_tables : (geometry : Geometry) (group : ℕ) (old new : Stripes) (entries next : Entries) (pointer : Pointer) → Tables geometry group old entries
    → WasFree geometry (is_free old) pointer.first pointer.stripes → IsBlock geometry group pointer
    → ((x : ℕ) → is_free new x ≡ (is_free old x && not (is_between pointer.first (pointer.first + pointer.stripes) x)))
    → SetsEntry entries next pointer (Some (begun pointer)) → IsSpaceOf geometry new (count_of next) → Tables geometry group new next
held_tables geometry group old new entries next pointer t fits sized takes sets is = record {
  height = is.height;
  total = is.total;
  count = is.count;
  inside = λ x at. t.inside x (let both = takes x in grind (arith, nat_tests, both, at));
  placed = λ k e h. elim (entry_cases entries next pointer k (Some (begun pointer)) e sets h) [
    | inl own ↦ own_placed e own.1
    | inr other ↦ old_placed k e other.1
  ];
  apart = λ j k a b ha hb lt. elim (entry_cases entries next pointer j (Some (begun pointer)) a sets ha) [
    | inl own ↦ elim (entry_cases entries next pointer k (Some (begun pointer)) b sets hb) [
      | inl both ↦ absurd (omega (arith, own.0, both.0))
      | inr other ↦ first_own j k a b own.0 own.1 other.1 lt
    ]
    | inr other ↦ elim (entry_cases entries next pointer k (Some (begun pointer)) b sets hb) [
      | inl own ↦ second_own j k a b own.0 own.1 other.1 lt
      | inr both ↦ t.apart j k a b other.1 both.1 lt
    ]
  ];
  covered = λ x below taken. covers x below (is_free old x) refl taken;
} where
  still : (k : ℕ) (e : Entry) → entry_at entries k ≡ Some e → entry_at next k ≡ Some e
  still k e h = set_there entries next pointer (Some (begun pointer)) k sets
      (λ same. (let n = none_at geometry group old entries pointer.first pointer.stripes t fits in let m : entry_at entries k ≡ None = ap (entry_at entries) same ∙ n in absurd (cc))) ∙ h

  covers : (x : ℕ) → x < metaslab_stripes geometry → (b : Bool) → is_free old x ≡ b → is_free new x ≡ false → HasStripe next x
  covers x below false was taken = has_still entries next x still (t.covered x below was)
  covers x below true was taken =
      let both = takes x in record {
        first = pointer.first;
        entry = begun pointer;
        there = set_here entries next pointer (Some (begun pointer)) sets;
        from = grind (arith, nat_tests, both, was, taken);
        to = grind (arith, nat_tests, both, was, taken);
      }

  own_placed : (e : Entry) → Some (begun pointer) ≡ Some e → IsPlaced geometry new group e.pointer
  own_placed e is =
      let P : Pointer → Type 0 = λ p. IsPlaced geometry new group p in
      let eq : pointer ≡ e.pointer = cc in
      subst P eq (record {
        run = fits.run;
        held = λ x low high. (let was = takes x in let f = fits.was x low high in grind (arith, nat_tests, was, f));
        is_block = sized;
      })

  old_placed : (k : ℕ) (e : Entry) → entry_at entries k ≡ Some e → IsPlaced geometry new group e.pointer
  old_placed k e h =
      let p = t.placed k e h in
      moved geometry group old new e.pointer p (λ x low high. (let was = takes x in let f = p.held x low high in grind (arith, nat_tests, was, f)))

  first_own : (j k : ℕ) (a b : Entry) → j ≡ pointer.first → Some (begun pointer) ≡ Some a → entry_at entries k ≡ Some b → j < k → j + a.pointer.stripes ≤ k
  first_own j k a b same is hb lt =
      let eq : pointer.stripes ≡ a.pointer.stripes = cc in
      elim (free_apart geometry group old entries pointer.first pointer.stripes t fits k b hb) [
        | inl before ↦ absurd (omega (arith, same))
        | inr after ↦ omega (arith, same, eq)
      ]

  second_own : (j k : ℕ) (a b : Entry) → k ≡ pointer.first → Some (begun pointer) ≡ Some b → entry_at entries j ≡ Some a → j < k → j + a.pointer.stripes ≤ k
  second_own j k a b same is ha lt =
      elim (free_apart geometry group old entries pointer.first pointer.stripes t fits j a ha) [
        | inl before ↦ omega (arith, same)
        | inr after ↦ (let s = fits.run.some in absurd (omega (arith, same)))
      ]

placed_as : (geometry : Geometry) (group : ℕ) (space : Stripes) (p q : Pointer) → p ≡ q → IsPlaced geometry space group p → IsPlaced geometry space group q
placed_as geometry group space p q same is = subst (λ r. IsPlaced geometry space group r) same is

-- an entry came to another stage
pub turned_tables : (geometry : Geometry) (group : ℕ) (space : Stripes) (entries next : Entries) (pointer : Pointer) (was now : Stage) → Tables geometry group space entries
    → entry_at entries pointer.first ≡ Some (staged was pointer) → SetsEntry entries next pointer (Some (staged now pointer))
    → count_of next ≡ count_of entries → Tables geometry group space next
turned_tables geometry group space entries next pointer was now t own sets len = record {
  height = t.height;
  total = t.total;
  count = t.count ∙ sym len;
  inside = t.inside;
  placed = λ k e h. let b = before k e h in placed_as geometry group space b.0.pointer e.pointer b.2 (t.placed k b.0 b.1);
  apart = λ j k a b ha hb lt. let x = before j a ha in let y = before k b hb in let n = t.apart j k x.0 y.0 x.1 y.1 lt in rw (← x.2) n;
  covered = λ x below taken. turns x (t.covered x below taken);
} where
  turns : (x : ℕ) → HasStripe entries x → HasStripe next x
  turns x h = elim (cases_eq h.first pointer.first) [
    | inl same ↦
        let eq : pointer.stripes ≡ h.entry.pointer.stripes = (let a : entry_at entries h.first ≡ Some (staged was pointer) = ap (entry_at entries) same ∙ own in let b = h.there in cc) in
        let from = h.from in
        let to = h.to in
        record { first = pointer.first; entry = staged now pointer; there = set_here entries next pointer (Some (staged now pointer)) sets; from = omega arith; to = omega arith }
    | inr other ↦
        record { first = h.first; entry = h.entry; there = set_there entries next pointer (Some (staged now pointer)) h.first sets other ∙ h.there; from = h.from; to = h.to }
  ]

  before : (k : ℕ) (e : Entry) → entry_at next k ≡ Some e → (b : Entry) × (entry_at entries k ≡ Some b) × (b.pointer ≡ e.pointer)
  before k e h = elim (entry_cases entries next pointer k (Some (staged now pointer)) e sets h) [
    | inl same ↦ (let eq : pointer ≡ e.pointer = (let s = same.1 in cc) in (staged was pointer, (ap (entry_at entries) same.0 ∙ own), eq))
    | inr other ↦ (e, other.1, refl)
  ]

-- the run that was allocated
pub allocated : (geometry : Geometry) (group : ℕ) (space : Stripes) (entries : Entries) (first need asked : ℕ) → Tables geometry group space entries → asked ≡ need → 0 < need
    → IsLowest (is_free space) space.height asked first → first + asked ≤ space.total → WasFree geometry (is_free space) first need
allocated geometry group space entries first need asked t same more lowest inside =
    subst (λ n. WasFree geometry (is_free space) first n) same (spot_free geometry group space entries first asked t (omega arith) lowest.spot inside)
