-- What is said of a pool's marks, of later groups.
use Rattle.std.proofs.Common.{◌≤◌, ◌<◌, ◌≡◌, ◌∙◌, [], ◌∷◌, ℕ, Bool, true, false, List, Option, Some, None, arith, ap, cond, refl, sym}
use Rattle.std.specs.Prelude.{filter, max, nat_le, option_map}
use Rattle.std.proofs.lemmas.Bool.Decides.{nat_tests}
use Rattle.std.proofs.lemmas.List.Elements.{All-weaker}
use Rattle.draid_machine.specs.declared.names.Key.{Key}
use Rattle.draid_machine.proofs.Small.{none_some}
use Rattle.draid_objects.specs.Marks.{Check, Dropped, GivenUp, Made, Mark, check_at, check_by, drops_in, mark_group}
use Rattle.draid_objects.specs.Stores.{AreMarkedUpto, IsBehindChecks, IsSpare}
use Rattle.draid_objects.proofs.Marking.{upto_all}
use Rattle.draid_session.specs.Points.{KeepsBirth}
use Rattle.draid_pool.specs.Threads.{is_own_mark}

pub max_up : (a b c : ℕ) → a ≤ b → max a c ≤ max b c
max_up a b c up = grind (arith, nat_tests, up)

pub max_next : (a b c : ℕ) → b ≤ c → max a b ≤ max a c
max_next a b c up = grind (arith, nat_tests, up)

pub marked_later : (group later : ℕ) (marks : List Mark) → group ≤ later → AreMarkedUpto group marks → AreMarkedUpto later marks
marked_later group later marks up = All-weaker (λ m. mark_group m ≤ group) (λ m. mark_group m ≤ later) (λ m low. omega (arith, low, up)) marks

pub behind_later : (committed later group more : ℕ) (marks : List Mark) → committed ≤ later → group ≤ more → IsBehindChecks committed marks group → IsBehindChecks later marks more
behind_later committed later group more marks on up behind t check from is = (let low = behind t check (omega (arith, on, from)) is in omega (arith, low, up))

-- ---- what a thread's own marks say

abbrev group_in : Option Check → Option ℕ
group_in None = None
group_in (Some check) = Some check.group

drops_group : (key : Key) (o : Option Check) → group_in (option_map (drops_in key) o) ≡ group_in o
drops_group key None = refl
drops_group key (Some check) = refl

-- the checkpoint is of the same group
own_group : (owns : ℕ → Bool) (marks : List Mark) → group_in (check_by (filter (is_own_mark owns) marks)) ≡ group_in (check_by marks)
own_group owns [] = refl
own_group owns (Made group ∷ marks) = refl
own_group owns (GivenUp group ∷ marks) = refl
own_group owns (Dropped key group ∷ marks) = by (own_group owns marks) (owns key.object)
  where
    by : group_in (check_by (filter (is_own_mark owns) marks)) ≡ group_in (check_by marks) → (b : Bool) → group_in (check_by (cond b (Dropped key group ∷ filter (is_own_mark owns) marks) (filter (is_own_mark owns) marks))) ≡ group_in (check_by (Dropped key group ∷ marks))
    by rest true = drops_group key (check_by (filter (is_own_mark owns) marks)) ∙ (rest ∙ sym (drops_group key (check_by marks)))
    by rest false = rest ∙ sym (drops_group key (check_by marks))

has_group : (o : Option Check) (group : ℕ) → group_in o ≡ Some group → (check : Check) × (o ≡ Some check) × (check.group ≡ group)
has_group None group is = absurd (none_some None group refl is)
has_group (Some check) group is = (check, refl, cc)

-- what it keeps by them, it keeps
pub own_keeps : (owns : ℕ → Bool) (marks : List Mark) (birth : ℕ) → KeepsBirth (filter (is_own_mark owns) marks) birth → KeepsBirth marks birth
own_keeps owns marks birth k =
    let there = has_group (check_by marks) k.0.group (sym (own_group owns marks) ∙ ap group_in k.1) in
    let low = k.2 in
    let same = there.2 in
    (there.0, there.1, omega (arith, low, same))

-- ---- what belongs to no checkpoint

-- where no mark is of a later group than one, what the checkpoint doesn't keep belongs to none from then on
pub spare_of : (group birth : ℕ) (marks : List Mark) → AreMarkedUpto group marks → (KeepsBirth marks birth → ⊥) → IsSpare group marks birth
spare_of group birth marks are loose t check from is = by (upto_all t group marks are from) (nat_le birth check.group) refl
  where
    by : check_at t marks ≡ check_by marks → (b : Bool) → nat_le birth check.group ≡ b → check.group < birth
    by same true low = absurd (loose (check, sym same ∙ is, grind (arith, nat_tests, low)))
    by same false high = grind (arith, nat_tests, high)
