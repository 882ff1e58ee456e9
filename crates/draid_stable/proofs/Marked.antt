-- The arms of a slot, and the slots, while they are marked one after another.
use Rattle.std.proofs.Common.{◌≡◌, ◌<◌, ◌≤◌, ◌+◌, ◌-◌, not, ℕ, suc, Bool, true, false, List, [], ◌∷◌, ap, arith, cond, count_by, filter, length, refl, slice_index_or}
use Rattle.std.proofs.lemmas.List.Sums.{length-filter}
use Rattle.std.specs.declared.alloc.Global.{Global}
use Rattle.std.specs.declared.vec.Vec.{Vec}
use Rattle.draid_names.specs.declared.arm.Arm.{Arm}
use Rattle.draid_ranges.specs.Numbers.{Numbers}
use Rattle.draid_stable.specs.Sealing.{MarksArm, MarksSlot}

-- those below a place are marked, and the others are as they were
pub record UpTo (old new : List (Arm × Numbers)) (marks : List Bool) (group n : ℕ) : Type 0 where
  pub count : length new ≡ length old
  pub below : (k : ℕ) (d : Arm × Numbers) → k < n → k < length old → MarksArm (slice_index_or old k d) (slice_index_or new k d) (slice_index_or marks k false) group
  pub above : (k : ℕ) (d : Arm × Numbers) → n ≤ k → slice_index_or new k d ≡ slice_index_or old k d

pub record SlotsUpTo (old new : List (Vec (Arm × Numbers) Global)) (marks : List (List Bool)) (group n : ℕ) : Type 0 where
  pub count : length new ≡ length old
  pub below : (k : ℕ) (d : Vec (Arm × Numbers) Global) → k < n → k < length old → MarksSlot (slice_index_or old k d).items (slice_index_or new k d).items (slice_index_or marks k []) group
  pub above : (k : ℕ) (d : Vec (Arm × Numbers) Global) → n ≤ k → slice_index_or new k d ≡ slice_index_or old k d

-- ---- the targets that go

left_count : {X : Type 0} (bad : X → Bool) (xs : List X) → length (filter (λ x. not (bad x)) xs) + length (filter bad xs) ≡ length xs
left_count bad [] = refl
left_count {X} bad (x ∷ xs) = by (bad x) (left_count bad xs)
  where
    rest : List X
    rest = filter (λ x. not (bad x)) xs

    gone : List X
    gone = filter bad xs

    by : (b : Bool) → length rest + length gone ≡ length xs → length (cond (not b) (x ∷ rest) rest) + length (cond b (x ∷ gone) gone) ≡ suc (length xs)
    by true more = omega (arith, more)
    by false more = omega (arith, more)

pub lost_count : {X : Type 0} (bad : X → Bool) (xs ys : List X) → ys ≡ filter (λ x. not (bad x)) xs → length xs - length ys ≡ count_by bad xs
lost_count bad xs ys is =
    let n = left_count bad xs in
    let m = ap length is in
    let c = length-filter bad xs in
    omega (arith, n, m, c)
