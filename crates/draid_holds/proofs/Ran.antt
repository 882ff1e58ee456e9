-- What lanes that ran leave of their passes.
use Rattle.std.proofs.Common.{◌≡◌, ℕ, suc, List, [], ◌∷◌, length, map, ap, ◌∙◌, refl, arith, All}
use Rattle.std.proofs.lemmas.List.Elements.{All-cons, All-head, All-nil, All-tail}
use Rattle.std.proofs.lemmas.List.Sums.{sum_by-cons}
use Rattle.draid_turn.specs.declared.past.Past.{Past}
use Rattle.draid_turn.specs.Calls.{Caller, Lock}
use Rattle.draid_turn.specs.Lists.{one_if}
use Rattle.draid_turn.specs.Numbers.{holds}
use Rattle.draid_holds.specs.Holds.{Hold}
use Rattle.draid_holds.specs.Lanes.{EachWorked, LaneWorked, MayWork, pass_of}
use Rattle.draid_holds.specs.Passes.{holders}
use Rattle.draid_holds.specs.declared.lanes.Lane.{Lane}
use Rattle.draid_holds.proofs.Holds.{went_comes}

module _ {T W : Type 0} (relates : W → List (Hold T) → W → Type 0) where
  first_worked : (x y : Lane T W) (old new : List (Lane T W)) → EachWorked relates (x ∷ old) (y ∷ new) → LaneWorked relates x y
  first_worked x y old new worked = worked 0 x (omega arith)

  rest_worked : (x y : Lane T W) (old new : List (Lane T W)) → EachWorked relates (x ∷ old) (y ∷ new) → EachWorked relates old new
  rest_worked x y old new worked i d lt = worked (suc i) d (omega (arith, lt))

  -- they hold the same numbers
  pub same_holders : (n : ℕ) (old new : List (Lane T W)) → length new ≡ length old → EachWorked relates old new → holders n (map pass_of new) ≡ holders n (map pass_of old)
  same_holders n [] [] count worked = refl
  same_holders n [] (y ∷ new) count worked = absurd (omega (arith, count))
  same_holders n (x ∷ old) [] count worked = absurd (omega (arith, count))
  same_holders n (x ∷ old) (y ∷ new) count worked =
      let one = first_worked x y old new worked in
      let comes = went_comes x.pass y.pass one.holds one.went in
      let same : one_if (holds n y.pass.numbers) ≡ one_if (holds n x.pass.numbers) = ap (λ ns. one_if (holds n ns)) comes.numbers in
      let rest = same_holders n old new (omega (arith, count)) (rest_worked x y old new worked) in
      let first_old = sum_by-cons (λ (c : Caller (Past T)). one_if (holds n c.numbers)) x.pass (map pass_of old) in
      let first_new = sum_by-cons (λ (c : Caller (Past T)). one_if (holds n c.numbers)) y.pass (map pass_of new) in omega (arith, same, rest, first_old, first_new)

  -- and are of the same lock
  pub same_tables : (needs : W → Lock T → Caller (Past T) → Type 0) (lock : Lock T) (old new : List (Lane T W)) → length new ≡ length old → EachWorked relates old new → All (MayWork needs lock) old
      → All (λ (pass : Caller (Past T)). pass.table ≡ lock.table) (map pass_of new)
  same_tables needs lock [] [] count worked may = All-nil (λ (pass : Caller (Past T)). pass.table ≡ lock.table)
  same_tables needs lock [] (y ∷ new) count worked may = absurd (omega (arith, count))
  same_tables needs lock (x ∷ old) [] count worked may = absurd (omega (arith, count))
  same_tables needs lock (x ∷ old) (y ∷ new) count worked may =
      let one = first_worked x y old new worked in
      let comes = went_comes x.pass y.pass one.holds one.went in
      All-cons (λ (pass : Caller (Past T)). pass.table ≡ lock.table) y.pass (map pass_of new) (comes.table ∙ (All-head (MayWork needs lock) x old may).own)
      (same_tables needs lock old new (omega (arith, count)) (rest_worked x y old new worked) (All-tail (MayWork needs lock) x old may))
