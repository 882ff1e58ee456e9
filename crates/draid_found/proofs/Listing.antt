-- The blocks that a checkpoint keeps and that aren't the newest of their objects, as they are listed.
use Rattle.std.proofs.Common.{arith, ◌≡◌, ◌+◌, ◌<◌, ◌≤◌, ◌++◌, ◌∙◌, ◌⊎◌, inl, inr, ℕ, Bool, true, false, zero, suc, List, [], ◌∷◌, Option, Some, None, refl, sym, ap, subst, length, length-append}
use Rattle.std.specs.Prelude.{◌↔◌, Contains, slice_get}
use Rattle.std.proofs.lemmas.Bool.{cases_eq, cases_lt}
use Rattle.std.proofs.lemmas.List.Elements.{Contains-append_left, Contains-push, Contains-push_cases}
use Rattle.std.proofs.lemmas.Option.{slice_get-get_or, slice_get_cases, slice_get_within}
use Rattle.draid_names.specs.declared.pointer.Pointer.{Pointer}
use Rattle.draid_machine.specs.declared.names.Key.{Key}
use Rattle.draid_machine.proofs.Small.{absurd_test, some_injective}
use Rattle.draid_rack.specs.declared.Rack as racks
use Rattle.draid_entries.specs.declared.entry.Entry.{Entry}
use Rattle.draid_entries.specs.Entries.{entry_at}
use Rattle.draid_entries.specs.Maps.{key_of, staged}
use Rattle.draid_record.specs.declared.checks.Dropped.{Dropped}
use Rattle.draid_shard.specs.Looks.{IsNextHeld}
use Rattle.draid_shard.specs.declared.shard.Shard.{Shard}
use Rattle.draid_found.specs.Drops.{AreJustNamed, key_in}
use Rattle.draid_found.specs.Older.{HasOlder, HaveOlder, IsInTable, IsListing, ListsIfOlder, ListsOf, ListsOlder, ListsOne, block_in}
use Rattle.draid_found.proofs.Noted.{below_next}

-- ---- lists

get_before : {X : Type 0} (xs ys : List X) (m : ℕ) → m < length xs → slice_get (xs ++ ys) m ≡ slice_get xs m
get_before [] ys m below = absurd (omega (arith, below))
get_before (x ∷ xs) ys zero below = refl
get_before (x ∷ xs) ys (suc m) below = get_before xs ys m (omega (arith, below))

get_last : {X : Type 0} (xs : List X) (x : X) → slice_get (xs ++ x ∷ []) (length xs) ≡ Some x
get_last [] x = refl
get_last (y ∷ xs) x = get_last xs x

-- what is at a place is among them
pub placed : {X : Type 0} (xs : List X) (i : ℕ) (x : X) → slice_get xs i ≡ Some x → Contains xs x
placed xs i x there =
    let inside = slice_get_within xs i x there in
    (i, inside, some_injective _ _ (sym (slice_get-get_or xs i x inside) ∙ there))

-- ---- one block

is_not : (a b : Bool) → a ≡ true → a ≡ false → ⊥
is_not a b is not = absurd_test a is not

module _ (p : Pointer) (old new : List Dropped) (before after : Key → Bool) (one : ListsOne p old before new after) where
  pub one_more : (key : Key) → before key ≡ true → after key ≡ true
  one_more key was = (one.notes key).1 (inl was)

  pub one_noted : after (key_of p) ≡ true
  one_noted = (one.notes (key_of p)).1 (inr refl)

  pub one_are : (d : Dropped) → Contains new d → Contains old d ⊎ (block_in p ≡ d)
  one_are d has = elim one.lists [
    | inl same ↦ inl (subst (λ (ds : List Dropped). Contains ds d) same.1 has)
    | inr more ↦ Contains-push_cases old (block_in p) d (subst (λ (ds : List Dropped). Contains ds d) more.1 has)
  ]

  was_there : (d : Dropped) → Contains old d → Contains new d
  was_there d has = elim one.lists [
    | inl same ↦ subst (λ (ds : List Dropped). Contains ds d) (sym same.1) has
    | inr more ↦ subst (λ (ds : List Dropped). Contains ds d) (sym more.1) (Contains-append_left old (block_in p ∷ []) d has)
  ]

  module _ (named : List Dropped) (is : IsListing named old before) where
    -- the block that is listed is neither named nor listed before
    fresh : before (key_of p) ≡ false → (Contains named (block_in p) ⊎ Contains old (block_in p)) → ⊥
    fresh out has = absurd_test (before (key_of p)) ((is.just (key_of p)).1 has) out

    on : (key : Key) → after key ≡ true → Contains named (record { object = key.object; seq = key.seq }) ⊎ Contains new (record { object = key.object; seq = key.seq })
    on key there = by ((one.notes key).0 there)
      where
        block : Dropped
        block = record { object = key.object; seq = key.seq }

        further : Contains named block ⊎ Contains old block → Contains named (record { object = key.object; seq = key.seq }) ⊎ Contains new (record { object = key.object; seq = key.seq })
        further (inl has) = inl has
        further (inr has) = inr (was_there block has)

        by : (before key ≡ true) ⊎ (key_of p ≡ key) → Contains named (record { object = key.object; seq = key.seq }) ⊎ Contains new (record { object = key.object; seq = key.seq })
        by (inl was) = further ((is.just key).0 was)
        by (inr own) = elim one.lists [
          | inl same ↦ further ((is.just key).0 (ap before (sym own) ∙ same.0))
          | inr more ↦ inr (subst (λ (ds : List Dropped). Contains ds block) (sym more.1) (subst (Contains (old ++ block_in p ∷ [])) (ap (λ (k : Key). record { object = k.object; seq = k.seq }) own) (Contains-push old (block_in p))))
        ]

    back : (key : Key) → Contains named (record { object = key.object; seq = key.seq }) ⊎ Contains new (record { object = key.object; seq = key.seq }) → after key ≡ true
    back key (inl has) = (one.notes key).1 (inl ((is.just key).1 (inl has)))
    back key (inr has) = elim (one_are (record { object = key.object; seq = key.seq }) has) [
      | inl was ↦ (one.notes key).1 (inl ((is.just key).1 (inr was)))
      | inr own ↦ (one.notes key).1 (inr (λ i. record { object = (own i).object; seq = (own i).seq }))
    ]

    apart_then : (d : Dropped) → Contains new d → Contains named d → ⊥
    apart_then d has own = by one.lists
      where
        by : ((before (key_of p) ≡ true) × (new ≡ old)) ⊎ ((before (key_of p) ≡ false) × (new ≡ old ++ block_in p ∷ [])) → ⊥
        by (inl same) = is.apart d (subst (λ (ds : List Dropped). Contains ds d) same.1 has) own
        by (inr more) = elim (Contains-push_cases old (block_in p) d (subst (λ (ds : List Dropped). Contains ds d) more.1 has)) [
          | inl was ↦ is.apart d was own
          | inr own_is ↦ fresh more.0 (inl (subst (Contains named) (sym own_is) own))
        ]

    once_then : (i k : ℕ) (d : Dropped) → k < i → slice_get new i ≡ Some d → slice_get new k ≡ Some d → ⊥
    once_then i k d less at here = by one.lists
      where
        pushed : before (key_of p) ≡ false → slice_get (old ++ block_in p ∷ []) i ≡ Some d → slice_get (old ++ block_in p ∷ []) k ≡ Some d → ⊥
        pushed out last first = elim (cases_lt i (length old)) [
          | inl below ↦ is.once i k d less (sym (get_before old (block_in p ∷ []) i below) ∙ last) (sym (get_before old (block_in p ∷ []) k (omega (arith, less, below))) ∙ first)
          | inr past ↦
              let within = slice_get_within (old ++ block_in p ∷ []) i d last in
              let long = length-append old (block_in p ∷ []) in
              let end : i ≡ length old = omega (arith, within, long, past) in
              let own : block_in p ≡ d = some_injective (block_in p) d (sym (get_last old (block_in p)) ∙ (ap (slice_get (old ++ block_in p ∷ [])) (sym end) ∙ last)) in
              fresh out (inr (subst (Contains old) (sym own) (placed old k d (sym (get_before old (block_in p ∷ []) k (omega (arith, less, end))) ∙ first))))
        ]

        by : ((before (key_of p) ≡ true) × (new ≡ old)) ⊎ ((before (key_of p) ≡ false) × (new ≡ old ++ block_in p ∷ [])) → ⊥
        by (inl same) = is.once i k d less (ap (λ ds. slice_get ds i) (sym same.1) ∙ at) (ap (λ ds. slice_get ds k) (sym same.1) ∙ here)
        by (inr more) = pushed more.0 (ap (λ ds. slice_get ds i) (sym more.1) ∙ at) (ap (λ ds. slice_get ds k) (sym more.1) ∙ here)

    pub one_listing : IsListing named new after
    one_listing = record { just = λ key. (on key, back key); apart = apart_then; once = once_then }

-- ---- a metaslab

-- those below a place were listed
pub record ListsBelow {R A : Type 0} (shard : Shard R A) (newest : ℕ → Option Pointer) (upto from : ℕ) (old : List Dropped) (before : Key → Bool) (new : List Dropped) (after : Key → Bool) : Type 0 where
  pub more : (key : Key) → before key ≡ true → after key ≡ true
  pub are : (d : Dropped) → Contains new d → Contains old d ⊎ HasOlder shard newest upto (key_in d)
  pub all : (first : ℕ) (e : Entry) → first < from → entry_at shard.entries first ≡ Some e → e.pointer.birth ≤ upto → IsInTable newest e.pointer ⊎ (after (key_of e.pointer) ≡ true)
  pub listing : (named : List Dropped) → IsListing named old before → IsListing named new after

module _ {R A : Type 0} (rack : racks.Ghosts R) (shard : Shard R A) (newest : ℕ → Option Pointer) (upto : ℕ) where
  pub lists_none : (list : List Dropped) (noted : Key → Bool) → ListsBelow shard newest upto 0 list noted list noted
  lists_none list noted = record {
    more = λ key was. was;
    are = λ d has. inl has;
    all = λ first e low there born. absurd (omega (arith, low));
    listing = λ named is. is;
  }

  pub lists_more : (from : ℕ) (p : Pointer) (old mid new : List Dropped) (before middle after : Key → Bool) → IsNextHeld shard from p → ListsBelow shard newest upto from old before mid middle
      → ListsIfOlder newest upto p mid middle new after → ListsBelow shard newest upto (p.first + 1) old before new after
  lists_more from p old mid new before middle after next l (inl (table, same, noted)) = record {
    more = λ key was. ap (λ f. f key) noted ∙ l.more key was;
    are = λ d has. l.are d (subst (λ (ds : List Dropped). Contains ds d) same has);
    all = λ first e low there born. elim (below_next rack shard from first e p next there low) [
      | inl below ↦ elim (l.all first e below there born) [
        | inl own ↦ inl own
        | inr was ↦ inr (ap (λ f. f (key_of e.pointer)) noted ∙ was)
      ]
      | inr own ↦ inl (subst (IsInTable newest) (sym own) (table (subst (λ (q : Pointer). q.birth ≤ upto) own born)))
    ];
    listing = λ named is. subst (λ (f : Key → Bool). IsListing named new f) (sym noted) (subst (λ (ds : List Dropped). IsListing named ds middle) (sym same) (l.listing named is));
  }
  lists_more from p old mid new before middle after next l (inr (born_p, out, one)) = record {
    more = λ key was. one_more p mid new middle after one key (l.more key was);
    are = λ d has. elim (one_are p mid new middle after one d has) [
      | inl was ↦ l.are d was
      | inr own ↦ inr (record {
        first = p.first;
        e = staged next.entered.stage p;
        there = next.entered.there;
        key_is = ap key_in own;
        born = born_p;
        other = out;
      })
    ];
    all = λ first e low there born. elim (below_next rack shard from first e p next there low) [
      | inl below ↦ elim (l.all first e below there born) [
        | inl own ↦ inl own
        | inr was ↦ inr (one_more p mid new middle after one (key_of e.pointer) was)
      ]
      | inr own ↦ inr (ap (λ (q : Pointer). after (key_of q)) own ∙ one_noted p mid new middle after one)
    ];
    listing = λ named is. one_listing p mid new middle after one named (l.listing named is);
  }

  pub lists_all : (from : ℕ) (old new : List Dropped) (before after : Key → Bool) → ((first : ℕ) → from ≤ first → entry_at shard.entries first ≡ None) → ListsBelow shard newest upto from old before new after
      → ListsOf shard newest upto old before new after
  lists_all from old new before after none l = record {
    more = l.more;
    are = l.are;
    all = λ first e there born. elim (cases_lt first from) [
      | inl low ↦ l.all first e low there born
      | inr past ↦ (let empty = none first past in absurd (cc))
    ];
    listing = l.listing;
  }

-- ---- all metaslabs

module _ {R A : Type 0} (shards : List (Shard R A)) (newest : ℕ → Option Pointer) (upto : ℕ) (named : List Dropped) where
  -- those below a number were looked through
  pub record ListingSo (n : ℕ) (list : List Dropped) (noted : Key → Bool) : Type 0 where
    pub listing : IsListing named list noted
    pub are : (d : Dropped) → Contains list d → HaveOlder shards newest upto (key_in d)
    pub all : (m : ℕ) (shard : Shard R A) (first : ℕ) (e : Entry) → m < n → slice_get shards m ≡ Some shard → entry_at shard.entries first ≡ Some e → e.pointer.birth ≤ upto
        → IsInTable newest e.pointer ⊎ (noted (key_of e.pointer) ≡ true)

  empty_not : (list : List Dropped) (d : Dropped) → list ≡ [] → Contains list d → ⊥
  empty_not list d none has = (let low = has.1 in let zero = ap (λ ds. length ds) none in omega (arith, low, zero))

  pub listing_begins : (list : List Dropped) (noted : Key → Bool) → list ≡ [] → AreJustNamed named noted → ListingSo 0 list noted
  listing_begins list noted none just = record {
    listing = record {
      just = λ key. ((λ there. inl ((just key).0 there)), (λ has. elim has [ inl own ↦ (just key).1 own | inr listed ↦ absurd (empty_not list _ none listed) ]));
      apart = λ d has own. empty_not list d none has;
      once = λ i k d less at here. empty_not list d none (placed list i d at);
    };
    are = λ d has. absurd (empty_not list d none has);
    all = λ m shard first e low there found born. absurd (omega (arith, low));
  }

  pub listing_next : (n : ℕ) (shard : Shard R A) (old new : List Dropped) (before after : Key → Bool) → slice_get shards n ≡ Some shard → ListingSo n old before → ListsOf shard newest upto old before new after
      → ListingSo (n + 1) new after
  listing_next n shard old new before after at s l = record {
    listing = l.listing named s.listing;
    are = λ d has. elim (l.are d has) [
      | inl was ↦ s.are d was
      | inr own ↦ record { m = n; shard = shard; there = at; has = own }
    ];
    all = λ m q first e low there found born. elim (cases_eq m n) [
      | inl same ↦
          (let is : q ≡ shard = some_injective q shard (sym there ∙ (ap (slice_get shards) same ∙ at)) in
          l.all first e (ap (λ (z : Shard R A). entry_at z.entries first) (sym is) ∙ found) born)
      | inr other ↦ elim (s.all m q first e (omega (arith, low, other)) there found born) [
        | inl own ↦ inl own
        | inr was ↦ inr (l.more (key_of e.pointer) was)
      ]
    ];
  }

  pub listing_ends : (n : ℕ) (list : List Dropped) (noted : Key → Bool) → length shards ≤ n → ListingSo n list noted → ListsOlder shards newest named upto list
  listing_ends n list noted all s = record {
    are = s.are;
    apart = s.listing.apart;
    once = s.listing.once;
    all = λ m shard first e there found born.
        (let within = slice_get_within shards m shard there in
        elim (s.all m shard first e (omega (arith, within, all)) there found born) [
          | inl own ↦ inl own
          | inr was ↦ inr ((s.listing.just (key_of e.pointer)).0 was)
        ]);
  }
