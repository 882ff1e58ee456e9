-- Leaves that were detached up to a group go, one after another.
use Rattle.std.proofs.Common.{◌≡◌, ◌==◌, ◌⊎◌, ◌||◌, ◌≤◌, ◌++◌, ◌∷◌, [], ◌∙◌, ℕ, Bool, true, false, List, Option, None, arith, refl, sym, ap, subst, inl, inr, if◌then◌else◌}
use Rattle.std.specs.Prelude.{Contains}
use Rattle.std.proofs.lemmas.List.Elements.{Contains-append_left, Contains-push, Contains-push_cases}
use Rattle.draid_names.specs.declared.arm.ArmKind.TheVariants as kind
use Rattle.draid_rack.specs.declared.Rack.{Ghosts}
use Rattle.draid_rack.proofs.Moments.{left_more, left_on, left_same}
use Rattle.draid_machine.proofs.Small.{absurd_test, either_true, equal, is_equal, true_left, true_right}
use Rattle.draid_slots.specs.declared.slot.Detached.{Detached}
use Rattle.draid_slots.specs.Changes.{Commits}
use Rattle.draid_slots.specs.Table.{SlotTable}
use Rattle.draid_shard.specs.Fits.{IsLeaf}
use Rattle.draid_shard.proofs.Staging.{leaf_was}
use Rattle.draid_pool.specs.Committing.{DropsJust, DropsListed, DropsOne, IsAmong, StaysLeaf, later_than}

-- ---- one after another

pub list_none : {R : Type 0} (rack : Ghosts R) (slots : SlotTable) (group : ℕ) (r : R) → DropsListed rack slots group [] r r
list_none rack slots group r = record {
  goes = λ leaf. false;
  only = λ leaf is. absurd_test false is refl;
  all = λ leaf among stays. absurd (let less = among.among.1 in omega (arith, less));
  drops = record { bytes = refl; leaves = λ leaf. refl; told = left_same (λ leaf sector. false) (rack.told r) (rack.told r) refl; counts = λ who stays. omega arith };
}

among_more : (list more : List Detached) (group leaf : ℕ) → IsAmong list group leaf → IsAmong (list ++ more) group leaf
among_more list more group leaf a = record {
  gone = a.gone;
  among = Contains-append_left list more a.gone a.among;
  kind_is = a.kind_is;
  number_is = a.number_is;
  upto = a.upto;
}

-- leaves of one and of another choice went
twice : {R : Type 0} (rack : Ghosts R) (a b : ℕ → Bool) (old mid new : R) → DropsJust rack a old mid → DropsJust rack b mid new → DropsJust rack (λ leaf. a leaf || b leaf) old new
twice rack a b old mid new x y = record {
  bytes = y.bytes ∙ x.bytes;
  leaves = λ leaf. y.leaves leaf ∙ ap (λ o. if b leaf then None else o) (x.leaves leaf) ∙ both (a leaf) (b leaf) ((rack.shape old).leaves leaf);
  told = left_on (λ leaf sector. a leaf || b leaf) (rack.told old) (rack.told mid) (rack.told new)
      (left_more (λ leaf sector. a leaf) (λ leaf sector. a leaf || b leaf) (rack.told old) (rack.told mid) (λ leaf sector none. first (a leaf) (b leaf) none) x.told)
      (left_more (λ leaf sector. b leaf) (λ leaf sector. a leaf || b leaf) (rack.told mid) (rack.told new) (λ leaf sector none. second (a leaf) (b leaf) none) y.told);
  counts = λ who stays.
      (let before = x.counts who (λ leaf is. first (a leaf) (b leaf) (stays leaf is)) in
      let after = y.counts who (λ leaf is. second (a leaf) (b leaf) (stays leaf is)) in
      omega (arith, before, after));
} where
  both : (p q : Bool) (o : Option ℕ) → (if q then None else (if p then None else o)) ≡ (if p || q then None else o)
  both true true o = refl
  both true false o = refl
  both false true o = refl
  both false false o = refl

  first : (p q : Bool) → (p || q) ≡ false → p ≡ false
  first true q none = none
  first false q none = refl

  second : (p q : Bool) → (p || q) ≡ false → q ≡ false
  second true q none = absurd_test true refl none
  second false q none = none

pub list_more : {R : Type 0} (rack : Ghosts R) (slots : SlotTable) (group : ℕ) (list : List Detached) (gone : Detached) (old mid new : R) → DropsListed rack slots group list old mid
    → DropsOne rack slots group gone mid new → DropsListed rack slots group (list ++ gone ∷ []) old new
list_more rack slots group list gone old mid new some one = record {
  goes = goes;
  only = λ leaf is. elim (either_true (some.goes leaf) (own leaf one.went) is) [
    | inl before ↦ (let z = some.only leaf before in (among_more list (gone ∷ []) group leaf z.0, z.1))
    | inr now ↦ (let z = own_only leaf one.went refl now in (own_among leaf z.0 z.1, λ stays. (z.1).2 (subst (StaysLeaf slots group) z.0 stays)))
  ];
  all = λ leaf among stays. by leaf among stays (Contains-push_cases list gone among.gone among.among);
  drops = twice rack some.goes (λ leaf. own leaf one.went) old mid new some.drops one.drops;
} where
  own : ℕ → Bool → Bool
  own leaf went = if went then leaf == gone.number else false

  goes : ℕ → Bool
  goes leaf = some.goes leaf || own leaf one.went

  own_only : (leaf : ℕ) (b : Bool) → one.went ≡ b → own leaf b ≡ true → (leaf ≡ gone.number) × ((gone.kind ≡ kind.Leaf) × (gone.group ≤ group) × (StaysLeaf slots group gone.number → ⊥))
  own_only leaf true went is = (is_equal leaf gone.number is, one.only went)
  own_only leaf false went is = absurd_test false is refl

  own_among : (leaf : ℕ) → leaf ≡ gone.number → (gone.kind ≡ kind.Leaf) × (gone.group ≤ group) × (StaysLeaf slots group gone.number → ⊥) → IsAmong (list ++ gone ∷ []) group leaf
  own_among leaf same z = record { gone = gone; among = Contains-push list gone; kind_is = z.0; number_is = sym same; upto = z.1 }

  by : (leaf : ℕ) (among : IsAmong (list ++ gone ∷ []) group leaf) → (StaysLeaf slots group leaf → ⊥) → (Contains list among.gone) ⊎ (gone ≡ among.gone) → goes leaf ≡ true
  by leaf among stays (inl before) =
      true_left (some.goes leaf) (own leaf one.went)
      (some.all leaf (record { gone = among.gone; among = before; kind_is = among.kind_is; number_is = among.number_is; upto = among.upto }) stays)
  by leaf among stays (inr same) =
      let number : gone.number ≡ leaf = ap (λ (d : Detached). d.number) same ∙ among.number_is in
      let went : one.went ≡ true = one.all (ap (λ (d : Detached). d.kind) same ∙ among.kind_is) (subst (λ (d : Detached). d.group ≤ group) (sym same) among.upto)
      (λ left. stays (subst (StaysLeaf slots group) number left)) in
      true_right (some.goes leaf) (own leaf one.went) (ap (own leaf) went ∙ equal leaf gone.number (sym number))

-- ---- the slots afterwards

pub stays_by : (old new : SlotTable) (group leaf : ℕ) → Commits old new group → IsLeaf new leaf → StaysLeaf old group leaf
stays_by old new group leaf commits is = leaf_was (record old { detached = later_than group old.detached }) new leaf commits.arms_stay commits.detached_later is

pub leaf_by : (old new : SlotTable) (group leaf : ℕ) → Commits old new group → StaysLeaf old group leaf → IsLeaf new leaf
leaf_by old new group leaf commits is = leaf_was new (record old { detached = later_than group old.detached }) leaf (sym commits.arms_stay) (sym commits.detached_later) is
