-- The chains of a slice: spares stand at its last positions, and columns before them.
use Rattle.std.proofs.Common.{◌≡◌, ◌≢◌, ◌+◌, ◌-◌, ◌<◌, ◌≤◌, ◌||◌, ℕ, zero, suc, Bool, true, false, nat_lt, nat_eq, length, Option, Some, None, refl, sym, ap, ◌∙◌, subst, arith, if◌then◌else◌}
use Rattle.std.proofs.lemmas.Bool.Decides.{nat_tests}
use Rattle.draid_perm.specs.declared.perms.Perms.{Perms}
use Rattle.draid_perm.specs.Perms.{child_of, children_of}
use Rattle.draid_perm.proofs.Children.{child_apart, child_below}
use Rattle.draid_names.specs.Spares.{AreOfOne, AreSpares, AreUsed, IsArm}
use Rattle.draid_chain.specs.Chain.{EndsAt, chain_end, chain_links, holder_in, links_in, spare_slot, stands_before}
use Rattle.draid_chain.specs.Used.{Gains, HasColumn}
use Rattle.draid_chain.proofs.Ways.{AreSpread, IsOff, no_lead}
use Rattle.draid_chain.proofs.Ends.{EndsSomewhere, HasEnd, end_as_before, end_below, end_follows, end_here, end_is, ends_on, ends_somewhere, has_end, not_both, one_end, links_sum}

pub spread : (perms : Perms) (spares slice : ℕ) → spares < children_of perms → AreSpread (spare_slot perms slice) (children_of perms) spares
spread perms spares slice few = record {
  low = λ spare. child_below perms slice (children_of perms - 1 - spare);
  apart = λ t u left right same.
      let is : children_of perms - 1 - t ≡ children_of perms - 1 - u = child_apart perms slice _ _ (omega arith) (omega arith) same in
      omega arith;
}

-- a slot with a column stands at no spare's position
pub off : (perms : Perms) (spares slice slot : ℕ) → HasColumn perms spares slice slot → IsOff (spare_slot perms slice) spares slot
off perms spares slice slot column spare there same =
    let before : column.position + spares < children_of perms = column.before in
    let is : children_of perms - 1 - spare ≡ column.position = child_apart perms slice _ _ (omega arith) (omega arith) (same ∙ sym column.stands) in
    omega arith

pub few_spares : (perms : Perms) (spares slice slot : ℕ) → HasColumn perms spares slice slot → spares < children_of perms
few_spares perms spares slice slot column =
    let before : column.position + spares < children_of perms = column.before in
    omega arith

-- a slot stands before a position where it stands at an earlier one
pub stands_there : (perms : Perms) (slice position at slot : ℕ) → at < position → child_of perms slice at ≡ slot → stands_before perms slice position slot ≡ true
stands_there perms slice zero at slot low is = absurd (omega (arith, low))
stands_there perms slice (suc position) at slot low is = by_last (nat_lt at position) refl (λ less. stands_there perms slice position at slot less is)
  where
    by_last : (test : Bool) → nat_lt at position ≡ test → (at < position → stands_before perms slice position slot ≡ true)
        → stands_before perms slice (suc position) slot ≡ true
    by_last true p rest =
        let there : stands_before perms slice position slot ≡ true = rest (grind (arith, nat_tests)) in
        grind (arith, nat_tests)
    by_last false p rest =
        let high : position ≤ at = grind (arith, nat_tests) in
        let same : at ≡ position = omega arith in
        let here : child_of perms slice position ≡ slot = ap (child_of perms slice) (sym same) ∙ is in
        grind (arith, nat_tests)

there_stands : (perms : Perms) (slice position slot : ℕ) → stands_before perms slice position slot ≡ true
    → (at : ℕ) × (at < position) × (child_of perms slice at ≡ slot)
there_stands perms slice zero slot test = absurd (grind (arith, test))
there_stands perms slice (suc position) slot test = by_last (nat_eq (child_of perms slice position) slot) refl (there_stands perms slice position slot)
  where
    by_last : (here : Bool) → nat_eq (child_of perms slice position) slot ≡ here
        → (stands_before perms slice position slot ≡ true → (at : ℕ) × (at < position) × (child_of perms slice at ≡ slot))
        → (at : ℕ) × (at < suc position) × (child_of perms slice at ≡ slot)
    by_last true p rest = (position, omega arith, grind (arith, nat_tests))
    by_last false p rest =
        let at = rest (sym (ap (λ b. b || stands_before perms slice position slot) p) ∙ test) in
        let less : at.0 < position = at.1 in
        (at.0, omega (arith, less), at.2)

-- the test says what it is for
pub test_is : (perms : Perms) (slice position at slot : ℕ) → ((other : ℕ) → other < position → child_of perms slice other ≡ slot → other ≡ at)
    → child_of perms slice at ≡ slot → nat_lt at position ≡ stands_before perms slice position slot
test_is perms slice position at slot only is = by_place (nat_lt at position) refl (stands_before perms slice position slot) refl
  where
    by_place : (low : Bool) → nat_lt at position ≡ low → (test : Bool) → stands_before perms slice position slot ≡ test
        → nat_lt at position ≡ stands_before perms slice position slot
    by_place true p true q = p ∙ sym q
    by_place false p false q = p ∙ sym q
    by_place true p false q =
        let low : at < position = grind (arith, nat_tests) in
        p ∙ sym (stands_there perms slice position at slot low is)
    by_place false p true q =
        let high : position ≤ at = grind (arith, nat_tests) in
        let there = there_stands perms slice position slot q in
        let less : there.0 < position = there.1 in
        let same : there.0 ≡ at = only there.0 less there.2 in
        absurd (omega (arith, high, less, same))

with_column : (perms : Perms) (spares slice slot : ℕ) → HasColumn perms spares slice slot → stands_before perms slice (children_of perms - spares) slot ≡ true
with_column perms spares slice slot column =
    let before : column.position + spares < children_of perms = column.before in
    stands_there perms slice (children_of perms - spares) column.position slot (omega arith) column.stands

without_column : (perms : Perms) (spares slice slot : ℕ) → ¬ HasColumn perms spares slice slot → stands_before perms slice (children_of perms - spares) slot ≡ false
without_column perms spares slice slot none = by_test (stands_before perms slice (children_of perms - spares) slot) refl
  where
    by_test : (test : Bool) → stands_before perms slice (children_of perms - spares) slot ≡ test → stands_before perms slice (children_of perms - spares) slot ≡ false
    by_test false q = q
    by_test true q =
        let there = there_stands perms slice (children_of perms - spares) slot q in
        let less : there.0 < children_of perms - spares = there.1 in
        absurd (none (record { position = there.0; before = omega arith; stands = there.2 }))

-- the holder by whether the slot has a column
pub holder_is : (perms : Perms) (spares slice slot spare : ℕ) (first : ℕ → Option ℕ) → HasColumn perms spares slice slot
    → holder_in perms spares slice first slot spare ≡ chain_end (spare_slot perms slice) first spares spare
holder_is perms spares slice slot spare first column =
    ap (λ test. if test then chain_end (spare_slot perms slice) first spares spare else spare_slot perms slice spare)
    (with_column perms spares slice slot column)

pub links_are : (perms : Perms) (spares slice slot spare : ℕ) (first : ℕ → Option ℕ) → HasColumn perms spares slice slot
    → links_in perms spares slice first slot spare ≡ chain_links (spare_slot perms slice) first spares spare
links_are perms spares slice slot spare first column =
    ap (λ test. if test then chain_links (spare_slot perms slice) first spares spare else 1)
    (with_column perms spares slice slot column)

pub holder_alone : (perms : Perms) (spares slice slot spare : ℕ) (first : ℕ → Option ℕ) → ¬ HasColumn perms spares slice slot
    → holder_in perms spares slice first slot spare ≡ spare_slot perms slice spare
holder_alone perms spares slice slot spare first none =
    ap (λ test. if test then chain_end (spare_slot perms slice) first spares spare else spare_slot perms slice spare)
    (without_column perms spares slice slot none)

pub links_alone : (perms : Perms) (spares slice slot spare : ℕ) (first : ℕ → Option ℕ) → ¬ HasColumn perms spares slice slot
    → links_in perms spares slice first slot spare ≡ 1
links_alone perms spares slice slot spare first none =
    ap (λ test. if test then chain_links (spare_slot perms slice) first spares spare else 1) (without_column perms spares slice slot none)

-- the chain of an arm of a slot with a column ends
arm_end : (perms : Perms) (spares slice slot spare : ℕ) (first : ℕ → Option ℕ) → AreUsed (children_of perms) spares first
    → HasColumn perms spares slice slot → IsArm (children_of perms) spares first slot spare → HasEnd (spare_slot perms slice) spares first spare
arm_end perms spares slice slot spare first used column arm =
    has_end (spare_slot perms slice) (children_of perms) spares slot spare first (spread perms spares slice (few_spares perms spares slice slot column)) used
    (off perms spares slice slot column) arm

pub holder_ends : (perms : Perms) (spares slice slot spare : ℕ) (first : ℕ → Option ℕ) → AreUsed (children_of perms) spares first
    → HasColumn perms spares slice slot → IsArm (children_of perms) spares first slot spare
    → (further : ℕ) × (links_in perms spares slice first slot spare ≡ further + 1)
    × EndsAt (spare_slot perms slice) first spare further (holder_in perms spares slice first slot spare)
holder_ends perms spares slice slot spare first used column arm =
    let e : HasEnd (spare_slot perms slice) spares first spare = arm_end perms spares slice slot spare first used column arm in
    let whole = ends_on (spare_slot perms slice) spares spare e.last 0 (spare_slot perms slice e.last) first e.ws e.ended.way (refl, e.ended.over) in
    let count : whole.0 ≡ length e.ws + 0 = whole.1.0 in
    let holder : holder_in perms spares slice first slot spare ≡ spare_slot perms slice e.last
    = holder_is perms spares slice slot spare first column ∙ end_is (spare_slot perms slice) spares spare e.last first e.ws e.ended in
    let links : links_in perms spares slice first slot spare ≡ length e.ws + 1
    = links_are perms spares slice slot spare first column ∙ links_sum (spare_slot perms slice) spares spare e.last first e.ws e.ended in
    (whole.0, omega (arith, count, links), subst (λ s. EndsAt (spare_slot perms slice) first spare whole.0 s) (sym holder) whole.1.1)

pub holder_free : (perms : Perms) (spares slice slot spare : ℕ) (first : ℕ → Option ℕ) → AreUsed (children_of perms) spares first
    → HasColumn perms spares slice slot → IsArm (children_of perms) spares first slot spare
    → first (holder_in perms spares slice first slot spare) ≡ None
holder_free perms spares slice slot spare first used column arm =
    let e : HasEnd (spare_slot perms slice) spares first spare = arm_end perms spares slice slot spare first used column arm in
    ap first (holder_is perms spares slice slot spare first column ∙ end_is (spare_slot perms slice) spares spare e.last first e.ws e.ended) ∙ e.ended.over

pub few_links : (perms : Perms) (spares slice slot spare : ℕ) (first : ℕ → Option ℕ) → AreUsed (children_of perms) spares first
    → HasColumn perms spares slice slot → IsArm (children_of perms) spares first slot spare
    → links_in perms spares slice first slot spare ≤ spares
few_links perms spares slice slot spare first used column arm =
    let e : HasEnd (spare_slot perms slice) spares first spare = arm_end perms spares slice slot spare first used column arm in
    let less : length e.ws < spares = e.ended.few in
    omega (arith, less, links_are perms spares slice slot spare first column, links_sum (spare_slot perms slice) spares spare e.last first e.ws e.ended)

-- of every slot the holder is the slot at the spare's position where that has no spare arm
pub holder_stays : (perms : Perms) (spares slice slot spare : ℕ) (first : ℕ → Option ℕ) → first (spare_slot perms slice spare) ≡ None
    → holder_in perms spares slice first slot spare ≡ spare_slot perms slice spare
holder_stays perms spares slice slot spare first none = by_test (stands_before perms slice (children_of perms - spares) slot) refl
  where
    by_test : (test : Bool) → stands_before perms slice (children_of perms - spares) slot ≡ test
        → holder_in perms spares slice first slot spare ≡ spare_slot perms slice spare
    by_test true is =
        ap (λ b. if b then chain_end (spare_slot perms slice) first spares spare else spare_slot perms slice spare) is
        ∙ end_here (spare_slot perms slice) first spares spare none
    by_test false is = ap (λ b. if b then chain_end (spare_slot perms slice) first spares spare else spare_slot perms slice spare) is

pub holder_follows : (perms : Perms) (spares slice slot spare next : ℕ) (first : ℕ → Option ℕ) → AreUsed (children_of perms) spares first
    → HasColumn perms spares slice slot → IsArm (children_of perms) spares first slot spare → first (spare_slot perms slice spare) ≡ Some next
    → holder_in perms spares slice first slot spare ≡ chain_end (spare_slot perms slice) first spares next
holder_follows perms spares slice slot spare next first used column arm is =
    let whole : holder_in perms spares slice first slot spare ≡ chain_end (spare_slot perms slice) first spares spare
    = holder_is perms spares slice slot spare first column in
    whole ∙ end_follows (spare_slot perms slice) first spares spare next (ap first (sym whole) ∙ holder_free perms spares slice slot spare first used column arm) is

-- a holder stands at a spare's position, so it has no column
pub holder_no_column : (perms : Perms) (spares slice slot spare other : ℕ) (first : ℕ → Option ℕ) → AreSpares (children_of perms) spares first
    → spare < spares → HasColumn perms spares slice other → holder_in perms spares slice first slot spare ≢ other
holder_no_column perms spares slice slot spare other first are low column same = by_test (stands_before perms slice (children_of perms - spares) slot) refl
  where
    by_test : (test : Bool) → stands_before perms slice (children_of perms - spares) slot ≡ test → ⊥
    by_test true is =
        let e : EndsSomewhere (spare_slot perms slice) spares first spares spare = ends_somewhere (spare_slot perms slice) (children_of perms) spares spares spare first
        (spread perms spares slice (few_spares perms spares slice other column)) are low in
        let end : holder_in perms spares slice first slot spare ≡ chain_end (spare_slot perms slice) first spares spare
        = ap (λ b. if b then chain_end (spare_slot perms slice) first spares spare else spare_slot perms slice spare) is in
        off perms spares slice other column e.last e.low (sym (end ∙ e.end) ∙ same)
    by_test false is =
        let here : holder_in perms spares slice first slot spare ≡ spare_slot perms slice spare
        = ap (λ b. if b then chain_end (spare_slot perms slice) first spares spare else spare_slot perms slice spare) is in
        off perms spares slice other column spare low (sym here ∙ same)

-- one place is one spare's, also by two tables
pub holders_same : (perms : Perms) (spares slice a b t u : ℕ) (earlier later : ℕ → Option ℕ)
    → AreSpares (children_of perms) spares earlier → AreSpares (children_of perms) spares later → AreOfOne (children_of perms) earlier later
    → HasColumn perms spares slice a → IsArm (children_of perms) spares later a t
    → HasColumn perms spares slice b → IsArm (children_of perms) spares earlier b u
    → holder_in perms spares slice earlier a t ≡ holder_in perms spares slice later b u → t ≡ u
holders_same perms spares slice a b t u earlier later ea la one ca ia cb ib same =
    let stand : AreSpread (spare_slot perms slice) (children_of perms) spares = spread perms spares slice (few_spares perms spares slice a ca) in
    one_end (spare_slot perms slice) (children_of perms) spares spares spares t u earlier later stand ea la one ia.spare_is ib.spare_is
    (no_lead (spare_slot perms slice) (children_of perms) spares a t later stand (off perms spares slice a ca) ia)
    (no_lead (spare_slot perms slice) (children_of perms) spares b u earlier stand (off perms spares slice b cb) ib)
    (sym (holder_is perms spares slice a t earlier ca) ∙ (same ∙ holder_is perms spares slice b u later cb))

pub holders_apart : (perms : Perms) (spares slice a b t u : ℕ) (first : ℕ → Option ℕ) → AreUsed (children_of perms) spares first
    → HasColumn perms spares slice a → IsArm (children_of perms) spares first a t
    → HasColumn perms spares slice b → IsArm (children_of perms) spares first b u
    → t ≢ u → holder_in perms spares slice first a t ≢ holder_in perms spares slice first b u
holders_apart perms spares slice a b t u first used ca ia cb ib other same =
    other (holders_same perms spares slice a b t u first first used.below used.below used.apart ca ia cb ib same)

-- an arm stays whose holder isn't the slot that gets a first spare, or loses it
pub holder_as_before : (perms : Perms) (spares slice slot spare at new : ℕ) (before after : ℕ → Option ℕ) → Gains before after at new
    → holder_in perms spares slice before slot spare ≢ at → holder_in perms spares slice after slot spare ≡ holder_in perms spares slice before slot spare
holder_as_before perms spares slice slot spare at new before after gains other = by_test (stands_before perms slice (children_of perms - spares) slot) refl
  where
    by_test : (test : Bool) → stands_before perms slice (children_of perms - spares) slot ≡ test
        → holder_in perms spares slice after slot spare ≡ holder_in perms spares slice before slot spare
    by_test true is =
        let on : holder_in perms spares slice before slot spare ≡ chain_end (spare_slot perms slice) before spares spare
        = ap (λ b. if b then chain_end (spare_slot perms slice) before spares spare else spare_slot perms slice spare) is in
        ap (λ b. if b then chain_end (spare_slot perms slice) after spares spare else spare_slot perms slice spare) is
        ∙ (end_as_before (spare_slot perms slice) before after at new spares spare gains (λ same. other (on ∙ same)) ∙ sym on)
    by_test false is =
        ap (λ b. if b then chain_end (spare_slot perms slice) after spares spare else spare_slot perms slice spare) is
        ∙ sym (ap (λ b. if b then chain_end (spare_slot perms slice) before spares spare else spare_slot perms slice spare) is)

pub holder_moves : (perms : Perms) (spares slice slot spare at new : ℕ) (before after : ℕ → Option ℕ) → Gains before after at new
    → AreUsed (children_of perms) spares after → HasColumn perms spares slice slot → IsArm (children_of perms) spares after slot spare
    → holder_in perms spares slice after slot spare ≢ at
holder_moves perms spares slice slot spare at new before after gains used column arm same =
    not_both (after at) new (ap after (sym same) ∙ holder_free perms spares slice slot spare after used column arm) gains.with_it

pub holder_below : (perms : Perms) (spares slice slot spare : ℕ) (first : ℕ → Option ℕ) → holder_in perms spares slice first slot spare < children_of perms
holder_below perms spares slice slot spare first = by_test (stands_before perms slice (children_of perms - spares) slot)
  where
    by_test : (test : Bool) → (if test then chain_end (spare_slot perms slice) first spares spare else spare_slot perms slice spare) < children_of perms
    by_test true = end_below (spare_slot perms slice) (children_of perms) first spares spare (λ t. child_below perms slice _)
    by_test false = child_below perms slice _
