-- The blocks of metaslabs that were born up to a group, as they are noted and looked for.
use Rattle.std.proofs.Common.{arith, ◌≡◌, ◌+◌, ◌<◌, ◌≤◌, ◌∙◌, ◌⊎◌, inl, inr, ℕ, Bool, true, List, [], Option, Some, None, sym, ap, subst, length}
use Rattle.std.specs.Prelude.{◌↔◌, IfNone, IfSome, slice_get}
use Rattle.std.specs.HashSet.{HashSet, keys}
use Rattle.std.specs.List.{list_any}
use Rattle.std.proofs.lemmas.Bool.{cases_eq, cases_lt}
use Rattle.std.proofs.lemmas.Option.{slice_get_within}
use Rattle.draid_names.specs.declared.pointer.Pointer.{Pointer}
use Rattle.draid_machine.specs.declared.names.Key.{Key}
use Rattle.draid_machine.proofs.Small.{absurd_test, some_injective}
use Rattle.draid_rack.specs.declared.Rack as racks
use Rattle.draid_entries.specs.Entries.{entry_at}
use Rattle.draid_entries.specs.Maps.{key_of, staged}
use Rattle.draid_record.specs.declared.checks.Dropped.{Dropped}
use Rattle.draid_shard.specs.Looks.{IsNextHeld}
use Rattle.draid_shard.specs.declared.shard.Shard.{Shard}
use Rattle.draid_found.specs.Drops.{AreBornIn, AreNoted, HasBorn, HaveBorn, HaveNamed, IsUnnotedAt, LackNamed, NotesBorn, NotesBornOf, key_in}
use Rattle.draid_found.specs.Together.{NotesJust, noted_in, pair_eq}
use Rattle.draid_found.proofs.Noted.{below_next}

-- ---- one block

-- one that was born behind the group isn't noted
pub born_late : (upto : ℕ) (p : Pointer) (noted : Key → Bool) → upto < p.birth → NotesBorn upto p noted noted
born_late upto p noted late key = (λ there. inl there, back)
  where
    back : (noted key ≡ true) ⊎ ((key_of p ≡ key) × (p.birth ≤ upto)) → noted key ≡ true
    back (inl there) = there
    back (inr own) = (let born = own.1 in absurd (omega (arith, late, born)))

pub born_noted : (upto : ℕ) (p : Pointer) (old new : Key → Bool) → p.birth ≤ upto → NotesJust p old new → NotesBorn upto p old new
born_noted upto p old new born just key = (λ there. on ((just key).0 there), back)
  where
    on : (old key ≡ true) ⊎ (key_of p ≡ key) → (old key ≡ true) ⊎ ((key_of p ≡ key) × (p.birth ≤ upto))
    on (inl was) = inl was
    on (inr own) = inr (own, born)

    back : (old key ≡ true) ⊎ ((key_of p ≡ key) × (p.birth ≤ upto)) → new key ≡ true
    back (inl was) = (just key).1 (inl was)
    back (inr own) = (just key).1 (inr own.0)

-- ---- the blocks of a metaslab

-- one that begins below a stripe
pub record BornBelow {R A : Type 0} (shard : Shard R A) (upto from : ℕ) (key : Key) : Type 0 where
  pub has : HasBorn shard upto key
  pub below : has.block.first < from

-- just those were noted besides
abbrev pub NotesBornBelow : {R A : Type 0} → Shard R A → (upto from : ℕ) → (Key → Bool) → (Key → Bool) → Type 0
NotesBornBelow shard upto from old new = (key : Key) → (new key ≡ true) ↔ ((old key ≡ true) ⊎ BornBelow shard upto from key)

module _ {R A : Type 0} (rack : racks.Ghosts R) (shard : Shard R A) (upto : ℕ) where
  pub born_none : (old : Key → Bool) → NotesBornBelow shard upto 0 old old
  born_none old key = (λ there. inl there, back)
    where
      back : (old key ≡ true) ⊎ BornBelow shard upto 0 key → old key ≡ true
      back (inl there) = there
      back (inr b) = (let low = b.below in absurd (omega (arith, low)))

  pub born_more : (from : ℕ) (p : Pointer) (old mid new : Key → Bool) → IsNextHeld shard from p → NotesBornBelow shard upto from old mid → NotesBorn upto p mid new
      → NotesBornBelow shard upto (p.first + 1) old new
  born_more from p old mid new next n one key = (λ there. on ((one key).0 there), back)
    where
      further : BornBelow shard upto from key → BornBelow shard upto (p.first + 1) key
      further b = (let low = b.below in let behind = next.behind in record { has = b.has; below = omega (arith, low, behind) })

      on_below : (old key ≡ true) ⊎ BornBelow shard upto from key → (old key ≡ true) ⊎ BornBelow shard upto (p.first + 1) key
      on_below (inl was) = inl was
      on_below (inr b) = inr (further b)

      on : (mid key ≡ true) ⊎ ((key_of p ≡ key) × (p.birth ≤ upto)) → (old key ≡ true) ⊎ BornBelow shard upto (p.first + 1) key
      on (inl was) = on_below ((n key).0 was)
      on (inr own) = inr (record {
        has = record { block = record { first = p.first; e = staged next.entered.stage p; there = next.entered.there; key_is = own.0 }; born = own.1 };
        below = omega arith;
      })

      back : (old key ≡ true) ⊎ BornBelow shard upto (p.first + 1) key → new key ≡ true
      back (inl was) = (one key).1 (inl ((n key).1 (inl was)))
      back (inr b) = elim (below_next rack shard from b.has.block.first b.has.block.e p next b.has.block.there b.below) [
        | inl low ↦ (one key).1 (inl ((n key).1 (inr (record { has = b.has; below = low }))))
        | inr own ↦ (one key).1 (inr (ap key_of (sym own) ∙ b.has.block.key_is, subst (λ (q : Pointer). q.birth ≤ upto) own b.has.born))
      ]

  pub born_all : (from : ℕ) (old new : Key → Bool) → ((first : ℕ) → from ≤ first → entry_at shard.entries first ≡ None) → NotesBornBelow shard upto from old new → NotesBornOf shard upto old new
  born_all from old new none n key = (λ there. on ((n key).0 there), back)
    where
      on : (old key ≡ true) ⊎ BornBelow shard upto from key → (old key ≡ true) ⊎ HasBorn shard upto key
      on (inl was) = inl was
      on (inr b) = inr b.has

      all_below : HasBorn shard upto key → BornBelow shard upto from key
      all_below h = elim (cases_lt h.block.first from) [
        | inl low ↦ record { has = h; below = low }
        | inr past ↦ (let empty = none h.block.first past in absurd (let there = h.block.there in cc))
      ]

      back : (old key ≡ true) ⊎ HasBorn shard upto key → new key ≡ true
      back (inl was) = (n key).1 (inl was)
      back (inr h) = (n key).1 (inr (all_below h))

-- ---- all metaslabs

-- one of those below a number has it
pub record HaveEarlier {R A : Type 0} (shards : List (Shard R A)) (upto n : ℕ) (key : Key) : Type 0 where
  pub have : HaveBorn shards upto key
  pub below : have.m < n

-- just their blocks are noted
abbrev pub NotesSoFar : {R A : Type 0} → List (Shard R A) → (upto n : ℕ) → (Key → Bool) → Type 0
NotesSoFar shards upto n noted = (key : Key) → (noted key ≡ true) ↔ HaveEarlier shards upto n key

pub so_far_none : {R A S : Type 0} (shards : List (Shard R A)) (upto : ℕ) (new : HashSet (ℕ × ℕ) S) → keys new ≡ [] → NotesSoFar shards upto 0 (noted_in new)
so_far_none shards upto new none key = (
  λ there. absurd_test (noted_in new key) there (ap (λ (ks : List (ℕ × ℕ)). list_any (pair_eq (key.object, key.seq)) ks) none),
  λ h. (let low = h.below in absurd (omega (arith, low))),
)

module _ {R A : Type 0} (shards : List (Shard R A)) (upto : ℕ) where
  earlier_next : (n : ℕ) (shard : Shard R A) (key : Key) → slice_get shards n ≡ Some shard → HaveEarlier shards upto (n + 1) key → HaveEarlier shards upto n key ⊎ HasBorn shard upto key
  earlier_next n shard key at h = elim (cases_eq h.have.m n) [
    | inl same ↦
        (let own : h.have.shard ≡ shard = some_injective h.have.shard shard (sym h.have.there ∙ (ap (slice_get shards) same ∙ at)) in
        inr (subst (λ (s : Shard R A). HasBorn s upto key) own h.have.has))
    | inr other ↦ (let low = h.below in inl (record { have = h.have; below = omega (arith, low, other) }))
  ]

  pub so_far_more : (n : ℕ) (shard : Shard R A) (old new : Key → Bool) → slice_get shards n ≡ Some shard → NotesSoFar shards upto n old → NotesBornOf shard upto old new → NotesSoFar shards upto (n + 1) new
  so_far_more n shard old new at before more key = (λ there. on ((more key).0 there), λ h. back (earlier_next n shard key at h))
    where
      on : (old key ≡ true) ⊎ HasBorn shard upto key → HaveEarlier shards upto (n + 1) key
      on (inl was) = (let h = (before key).0 was in let low = h.below in record { have = h.have; below = omega (arith, low) })
      on (inr own) = record { have = record { m = n; shard = shard; there = at; has = own }; below = omega arith }

      back : HaveEarlier shards upto n key ⊎ HasBorn shard upto key → new key ≡ true
      back (inl h) = (more key).1 (inl ((before key).1 h))
      back (inr own) = (more key).1 (inr own)

  pub so_far_all : (n : ℕ) (noted : Key → Bool) → length shards ≤ n → NotesSoFar shards upto n noted → AreBornIn shards upto noted
  so_far_all n noted all notes key = (
    λ there. ((notes key).0 there).have,
    λ h. (let within = slice_get_within shards h.m h.shard h.there in (notes key).1 (record { have = h; below = omega (arith, within, all) })),
  )

  -- ---- the blocks that are named

  named_all : (drops : List Dropped) (noted : Key → Bool) → AreBornIn shards upto noted → AreNoted noted drops → HaveNamed shards upto drops
  named_all drops noted born all i d at = (born (key_in d)).0 (all i d at)

  named_out : (drops : List Dropped) (noted : Key → Bool) (i : ℕ) → AreBornIn shards upto noted → IsUnnotedAt noted drops i → LackNamed shards upto drops i
  named_out drops noted i born out = record {
    named = out.named;
    there = out.there;
    lack = λ have. absurd_test (noted (key_in out.named)) ((born (key_in out.named)).1 have) out.out;
    before = λ k d less at. (born (key_in d)).0 (out.before k d less at);
  }

  pub named_by : (drops : List Dropped) (noted : Key → Bool) (at : Option ℕ) → AreBornIn shards upto noted → IfNone at (AreNoted noted drops) → IfNone at (HaveNamed shards upto drops)
  named_by drops noted None born all = named_all drops noted born all
  named_by drops noted (Some i) born all = tt

  pub lacks_by : (drops : List Dropped) (noted : Key → Bool) (at : Option ℕ) → AreBornIn shards upto noted → IfSome at (IsUnnotedAt noted drops) → IfSome at (LackNamed shards upto drops)
  lacks_by drops noted None born out = tt
  lacks_by drops noted (Some i) born out = named_out drops noted i born out
