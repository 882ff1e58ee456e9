-- The entry that has a stripe, the next taken stripe, and the next block.
use Rattle.std.proofs.Common.{◌≡◌, ◌⊎◌, ◌+◌, ◌<◌, ◌≤◌, ◌∙◌, ℕ, true, Option, Some, None, IfNone, IfSome, arith, sym, ap, subst, inl, inr}
use Rattle.std.proofs.lemmas.Bool.{cases_eq, cases_lt}
use Rattle.std.proofs.lemmas.Bool.Decides.{nat_tests}
use Rattle.draid_names.specs.declared.pass_kind.PassKind.TheVariants.{Heal}
use Rattle.draid_names.specs.declared.pointer.Pointer.{Pointer}
use Rattle.draid_machine.specs.declared.names.Key.{Key}
use Rattle.draid_machine.specs.declared.names.Held.{Held}
use Rattle.draid_machine.specs.Names.{is_block, is_heal, takes}
use Rattle.draid_machine.specs.State as machine
use Rattle.draid_machine.specs.Step.{IsNext, IsTaken, is_lent}
use Rattle.draid_machine.proofs.Small.{none_some, some_same}
use Rattle.draid_entries.specs.declared.entry.Entry.{Entry}
use Rattle.draid_entries.specs.declared.entries.Entries.{Entries}
use Rattle.draid_entries.specs.Entries.{entry_at}
use Rattle.draid_entries.specs.Maps.{held_at, key_of, staged}
use Rattle.draid_shard.specs.Looks.{IsBlockOver, IsBlockUpto, IsFirstBlock, IsNextBlock, IsNextTaken, IsOver, NoBlockBetween, Reaches}
use Rattle.draid_shard.specs.States.{IsIn}
use Rattle.draid_shard.specs.declared.shard.Shard.{Shard}
use Rattle.draid_shard.proofs.Held.{held_entry, key_leads}
use Rattle.draid_shard.proofs.Passing.{NoneBetween, NoneFrom, own_place}

-- what holds is so where there is nothing
pub if_none : {X : Type 0} (o : Option X) (P : Type 0) → P → IfNone o P
if_none None P p = p
if_none (Some x) P p = tt

-- ---- the entry that begins last up to a stripe

-- where none begins up to a stripe, none has it
pub none_over : (t : Entries) (x : ℕ) → ((y : ℕ) → y ≤ x → entry_at t y ≡ None) → (d : Entry) → IsOver t x d → ⊥
none_over t x none d over = none_some (entry_at t d.pointer.first) d (none d.pointer.first over.from) over.there

module _ (t : Entries) (x : ℕ) (e : Entry) (there : entry_at t e.pointer.first ≡ Some e) (upto : e.pointer.first ≤ x)
    (last : (y : ℕ) → e.pointer.first < y → y ≤ x → entry_at t y ≡ None)
    (apart : (j k : ℕ) (a b : Entry) → entry_at t j ≡ Some a → entry_at t k ≡ Some b → j < k → j + a.pointer.stripes ≤ k) where
  -- no other has the stripe
  pub only_last : (d : Entry) → IsOver t x d → d ≡ e
  only_last d over = elim (cases_lt d.pointer.first e.pointer.first) [
    | inl before ↦ (let to = over.to in let past = apart d.pointer.first e.pointer.first d e over.there there before in absurd (omega (arith, upto, to, past)))
    | inr from ↦ elim (cases_eq d.pointer.first e.pointer.first) [
      | inl same ↦ some_same (entry_at t e.pointer.first) d e (ap (entry_at t) (sym same) ∙ over.there) there
      | inr other ↦ absurd (none_some (entry_at t d.pointer.first) d (last d.pointer.first (omega (arith, from, other)) over.from) over.there)
    ]
  ]

  -- where it ends before the stripe, none has it
  pub none_last : e.pointer.first + e.pointer.stripes ≤ x → (d : Entry) → IsOver t x d → ⊥
  none_last ends d over =
      let to : x < e.pointer.first + e.pointer.stripes = subst (λ (f : Entry). x < f.pointer.first + f.pointer.stripes) (only_last d over) over.to in
      omega (arith, ends, to)

-- ---- what a state has

module _ {R A : Type 0} (shard : Shard R A) (w : machine.State) (is_in : IsIn shard w) where
  abbrev t : Entries
  t = shard.entries

  -- an entry's stripe is taken
  pub over_taken : (x : ℕ) (e : Entry) → IsOver t x e → IsTaken w.core x
  over_taken x e over =
      let from = over.from in
      let to = over.to in
      record {
        key = key_of e.pointer;
        held = held_at e;
        found = is_in.held (key_of e.pointer) ∙ key_leads t e.pointer.first e over.there;
        taken = grind (arith, nat_tests, from, to);
      }

  -- the entry of what has a stripe has it
  pub record HasOver (h : Held) (x : ℕ) : Type 0 where
    pub e : Entry
    pub is : held_at e ≡ h
    pub over : IsOver t x e

  pub held_over : (k : Key) (h : Held) (x : ℕ) → w.core.held k ≡ Some h → takes h x ≡ true → HasOver h x
  held_over k h x found has =
      let z = held_entry t k h (sym (is_in.held k) ∙ found) in
      let has_too : takes (held_at z.e) x ≡ true = ap (λ (i : Held). takes i x) z.held_is ∙ has in
      record {
        e = z.e;
        is = z.held_is;
        over = record { there = own_place t k h z; from = grind (arith, nat_tests, has_too); to = grind (arith, nat_tests, has_too) };
      }

  pub taken_over : (x : ℕ) (taken : IsTaken w.core x) → HasOver taken.held x
  taken_over x taken = held_over taken.key taken.held x taken.found taken.taken

  -- an entry that has a stripe behind one has that too, or begins behind it
  begins_behind : (from x : ℕ) (e : Entry) → from ≤ x → IsOver t x e → IsOver t from e ⊎ (from ≤ e.pointer.first)
  begins_behind from x e le over = elim (cases_lt e.pointer.first from) [
    | inl before ↦ (let to = over.to in inl (record { there = over.there; from = omega (arith, before); to = omega (arith, to, le) }))
    | inr behind ↦ inr behind
  ]

  -- ---- the next taken stripe
  module _ (from : ℕ) where
    pub next_here : (e : Entry) → IsOver t from e → IsNextTaken w.core from from
    next_here e over = record { taken = over_taken from e over; behind = omega arith; first = λ y le less taken. omega (arith, le, less) }

    module _ (none : (e : Entry) → IsOver t from e → ⊥) where
      not_between : (y to : ℕ) → NoneBetween t from to → from ≤ y → y < to → IsTaken w.core y → ⊥
      not_between y to empty le less taken =
          let z = taken_over y taken in
          let upto = z.over.from in
          elim (begins_behind from y z.e le z.over) [
            | inl here ↦ none z.e here
            | inr behind ↦ none_some (entry_at t z.e.pointer.first) z.e (empty z.e.pointer.first behind (omega (arith, upto, less))) z.over.there
          ]

      pub next_behind : (e : Entry) → 1 ≤ e.pointer.stripes → entry_at t e.pointer.first ≡ Some e → from ≤ e.pointer.first → NoneBetween t from e.pointer.first
          → IsNextTaken w.core from e.pointer.first
      next_behind e some there behind empty = record {
        taken = over_taken e.pointer.first e (record { there = there; from = omega arith; to = omega (arith, some) });
        behind = behind;
        first = λ y le less taken. not_between y e.pointer.first empty le less taken;
      }

      pub none_behind : NoneFrom t from → (x : ℕ) → from ≤ x → IsTaken w.core x → ⊥
      none_behind empty x le taken = not_between x (x + 1) (λ y low less. empty y low) le (omega arith) taken

  -- ---- the next block
  module _ (from upto : ℕ) where
    -- what such a block's entry is
    reaches_over : (k : Key) (h : Held) (x : ℕ) (r : Reaches w.core from upto k h x) → (e : Entry) × IsBlockOver t x upto e
    reaches_over k h x r =
        let z = held_over k h x r.there r.takes in (
          z.e,
          record {
            over = z.over;
            block = record {
              block = ap (λ (i : Held). is_block i.stage) z.is ∙ r.is_block;
              born = subst (λ (i : Held). i.birth ≤ upto) (sym z.is) r.born;
            };
          },
        )

    over_reaches : (e : Entry) (x : ℕ) → IsOver t x e → IsBlockUpto upto e → from ≤ x → Reaches w.core from upto (key_of e.pointer) (held_at e) x
    over_reaches e x over block behind =
        let low = over.from in
        let high = over.to in
        record {
          there = is_in.held (key_of e.pointer) ∙ key_leads t e.pointer.first e over.there;
          is_block = block.block;
          born = block.born;
          takes = grind (arith, nat_tests, low, high);
          behind = behind;
        }

    pub block_here : (e : Entry) → IsOver t from e → IsBlockUpto upto e → IsNextBlock w.core from upto e.pointer
    block_here e over block = record { stage = e.stage; stripe = from; reaches = over_reaches e from over block (omega arith); first = λ k h x r. r.behind }

    module _ (none : (e : Entry) → IsBlockOver t from upto e → ⊥) where
      no_block : (to x : ℕ) (k : Key) (h : Held) → NoBlockBetween t upto from to → x < to → Reaches w.core from upto k h x → ⊥
      no_block to x k h empty less r =
          let z = reaches_over k h x r in
          let low = z.1.over.from in
          elim (begins_behind from x z.0 r.behind z.1.over) [
            | inl here ↦ none z.0 (record { over = here; block = z.1.block })
            | inr behind ↦ empty z.0 z.1.over.there behind (omega (arith, low, less)) z.1.block
          ]

      block_behind : (p : Pointer) → 1 ≤ p.stripes → IsFirstBlock t from upto p → IsNextBlock w.core from upto p
      block_behind p some is = record {
        stage = is.stage;
        stripe = p.first;
        reaches = over_reaches (staged is.stage p) p.first (record { there = is.there; from = omega arith; to = omega (arith, some) }) is.block is.behind;
        first = λ k h x r. elim (cases_lt x p.first) [ inl before ↦ absurd (no_block p.first x k h is.first before r) | inr behind ↦ behind ];
      }

      -- what was looked for behind the stripe
      pub found_behind : (o : Option Pointer) → ((p : Pointer) → IsFirstBlock t from upto p → 1 ≤ p.stripes) → IfSome o (IsFirstBlock t from upto) → IfSome o (IsNextBlock w.core from upto)
      found_behind None some is = tt
      found_behind (Some p) some is = block_behind p (some p is) is

      pub none_found : (o : Option Pointer) → IfNone o ((e : Entry) → entry_at t e.pointer.first ≡ Some e → from ≤ e.pointer.first → IsBlockUpto upto e → ⊥)
          → IfNone o ((k : Key) (h : Held) (x : ℕ) → Reaches w.core from upto k h x → ⊥)
      none_found None empty = λ k h x r. no_block (x + 1) x k h (λ e there behind less block. empty e there behind block) (omega arith) r
      none_found (Some p) empty = tt

-- ---- what a scrub lends

pub next_of_scrub : (q : machine.Core) (p : machine.Pass) (b : Pointer) → p.kind ≡ Heal → (n : IsNextBlock q p.next p.max b) → IsNext q p (key_of b) (held_at (staged n.stage b)) n.stripe
next_of_scrub q p b heal n = record {
  found = n.reaches.there;
  lent = lent_of (held_at (staged n.stage b)) n.reaches.is_block n.reaches.born;
  taken = n.reaches.takes;
  from = n.reaches.behind;
  first = λ k i x found lent taken le less. let at = n.first k i x (reach k i x found lent taken le) in omega (arith, at, less);
}
  where
    is : is_heal p.kind ≡ true
    is = ap is_heal heal

    lent_of : (h : Held) → is_block h.stage ≡ true → h.birth ≤ p.max → is_lent p h ≡ true
    lent_of h block born = let kind = is in grind (arith, nat_tests, kind, block, born)

    reach : (k : Key) (i : Held) (x : ℕ) → q.held k ≡ Some i → is_lent p i ≡ true → takes i x ≡ true → p.next ≤ x → Reaches q p.next p.max k i x
    reach k i x found lent taken le =
        let kind = is in
        record { there = found; is_block = grind (arith, nat_tests, kind, lent); born = grind (arith, nat_tests, kind, lent); takes = taken; behind = le }
