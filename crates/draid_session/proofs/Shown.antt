-- A slot that a status shows as whole is so in each metaslab.
use Rattle.std.proofs.Common.{◌≡◌, ◌∙◌, ◌+◌, ◌<◌, ◌≤◌, ◌⊎◌, ◌&&◌, ℕ, zero, suc, Bool, true, false, List, [], ◌∷◌, Option, Some, None, Vec, Global, inl, inr, length, map, arith, refl, sym, ap, subst, if◌then◌else◌}
use Rattle.std.specs.Prelude.{Contains, IsSomeAnd, slice_get}
use Rattle.std.specs.List.{fold}
use Rattle.std.proofs.lemmas.Bool.{cases_eq}
use Rattle.draid_names.specs.declared.arm.ArmKind.{ArmKind}
use Rattle.draid_names.specs.declared.arm.ArmKind.TheVariants as kind
use Rattle.draid_spec.specs.declared.layout.Geometry.{Geometry}
use Rattle.draid_perm.specs.declared.perms.Perms.{Perms}
use Rattle.draid_map.specs.Place.{IsLayout}
use Rattle.draid_script.specs.declared.line.StatusFormat.{StatusFormat}
use Rattle.draid_names.specs.declared.numbers.TheConstants.{NUMBERS}
use Rattle.draid_ranges.specs.Numbers.{count_below}
use Rattle.draid_machine.specs.Arms.{HasEmptyLog, first_leaf, first_spare, is_here, leaf_answers, logged, online, passes}
use Rattle.draid_machine.specs.Images.{Owned}
use Rattle.draid_machine.specs.Names.{has_name, name_eq, named}
use Rattle.draid_machine.specs.State as machine
use Rattle.draid_machine.specs.declared.names.ArmName.{ArmName}
use Rattle.draid_machine.specs.declared.names.ArmName.TheVariants.{Leaf}
use Rattle.draid_machine.proofs.Bounds.{every_log}
use Rattle.draid_machine.proofs.Losing.{every_segment}
use Rattle.draid_machine.proofs.Small.{name_refl, none_some, some_injective, true_left, true_right}
use Rattle.draid_layouts.specs.Layout.{layout_of}
use Rattle.draid_report.specs.declared.view.ArmView.{ArmView}
use Rattle.draid_session.specs.Bearing.{AreWholeBut, HasSpare, IsFirstUp, IsShownUp, IsShownWhole, HasOneOf, IsSpareKind, IsSlotWhole, IsSteady, IsUp, IsWholeBut, ShowsFirstUp, ShowsWholeBut}
use Rattle.draid_session.specs.Holds.{Hold, LookedUber, OnUber, View, view_of}
use Rattle.draid_session.specs.Follows.{Follows}
use Rattle.draid_session.specs.Looks.{AllOf}
use Rattle.draid_session.specs.State.{Metaslab, State, Store}
use Rattle.draid_session.specs.Status as statuses
use Rattle.draid_session.specs.Status.{groups_of, logged_in, name_of}
use Rattle.draid_session.proofs.Looked.{Seen, follows_split, looks_at, looks_seen}
use Rattle.draid_session.proofs.Present.{follows_reached}

-- ---- sums and counts

some_there : {X : Type 0} (x y : X) → Some x ≡ Some y → x ≡ y
some_there x y e = some_injective x y e

sum_from : {X : Type 0} (f : X → ℕ) (xs : List X) (a : ℕ) → a ≤ fold (λ a x. a + f x) a xs
sum_from f [] a = omega arith
sum_from f (x ∷ xs) a = let rest = sum_from f xs (a + f x) in omega (arith, rest)

-- of numbers that come to nothing each is nothing
none_of_sum : {X : Type 0} (f : X → ℕ) (xs : List X) (a : ℕ) → fold (λ a x. a + f x) a xs ≡ 0 → (k : ℕ) (x : X) → slice_get xs k ≡ Some x → f x ≡ 0
none_of_sum f [] a none k x at = absurd (none_some None x refl at)
none_of_sum f (y ∷ xs) a none zero x at =
    let same : y ≡ x = some_there y x at in
    let low = sum_from f xs (a + f y) in
    let zero_ = none in
    subst (λ z. f z ≡ 0) same (omega (arith, low, zero_))
none_of_sum f (y ∷ xs) a none (suc k) x at = none_of_sum f xs (a + f y) none k x at

-- where none below a bound is counted, none is so
none_counted : (test : ℕ → Bool) (n : ℕ) → count_below test n ≡ 0 → (x : ℕ) → x < n → test x ≡ false
unfolding count_below
none_counted test zero none x less = absurd (omega (arith, less))
none_counted test (suc n) none x less = by (λ rest below. none_counted test n rest x below) (test n) refl
  where
    by : (count_below test n ≡ 0 → x < n → test x ≡ false) → (b : Bool) → test n ≡ b → test x ≡ false
    by next true is = absurd (let one : count_below test n + (if test n then 1 else 0) ≡ count_below test n + 1 = ap (λ (b : Bool). count_below test n + (if b then 1 else 0)) is in let all = none in omega (arith, one, all))
    by next false is =
        let one : count_below test n + (if test n then 1 else 0) ≡ count_below test n + 0 = ap (λ (b : Bool). count_below test n + (if b then 1 else 0)) is in
        let all = none in
        let rest : count_below test n ≡ 0 = omega (arith, one, all) in
        elim (cases_eq x n) [
          | inl same ↦ subst (λ k. test k ≡ false) (sym same) is
          | inr other ↦ next rest (omega (arith, less, other))
        ]

-- ---- lists

-- behind the end of a list there is nothing
none_past : {X : Type 0} (xs : List X) (k : ℕ) → slice_get xs k ≡ None → length xs ≤ k
none_past [] k none = omega arith
none_past (y ∷ xs) zero none = absurd (none_some (Some y) y none refl)
none_past (y ∷ xs) (suc k) none = let rest = none_past xs k none in omega (arith, rest)

contains_at : {X : Type 0} (xs : List X) (k : ℕ) (x : X) → slice_get xs k ≡ Some x → Contains xs x
contains_at [] k x at = absurd (none_some None x refl at)
contains_at (y ∷ xs) zero x at = (zero, omega arith, some_there y x at)
contains_at (y ∷ xs) (suc k) x at = (let z = contains_at xs k x at in (suc z.0, (let low = z.1 in omega (arith, low)), z.2))

all_more : {X : Type 0} (P Q : X → Type 0) → ((x : X) → P x → Q x) → (xs : List X) → AllOf P xs → AllOf Q xs
all_more P Q more [] all = tt
all_more P Q more (x ∷ xs) all = (more x all.0, all_more P Q more xs all.1)

-- each stands somewhere
all_stand : {X : Type 0} (xs : List X) → AllOf (λ x. (j : ℕ) × (slice_get xs j ≡ Some x)) xs
all_stand [] = tt
all_stand {X} (y ∷ xs) = ((zero, refl), all_more (λ (x : X). (j : ℕ) × (slice_get xs j ≡ Some x)) (λ (x : X). (j : ℕ) × (slice_get (y ∷ xs) j ≡ Some x)) (λ x z. (suc z.0, z.1)) xs (all_stand xs))

-- ---- one slot of a metaslab

module _ (geometry : Geometry) (perms : Perms) (views : List View) (v : View) (m : ℕ) (at : slice_get views m ≡ Some v) (l : machine.Layout) (owned : Owned l v.world)
    (logs : (n : ArmName) (a : machine.Arm) (g : ℕ) → v.world.core.arm n ≡ Some a → a.log g ≡ true → g ≤ v.world.open_group + 1) (low : v.world.open_group + 1 < NUMBERS) where
  -- a log of which no group is shown is empty
  empty_log : (n : ArmName) → groups_of (v.world.core.arm n) ≡ 0 → HasEmptyLog v.world.core n
  empty_log n none g = by (v.world.core.arm n) refl none
    where
      test : (a : machine.Arm) → v.world.core.arm n ≡ Some a → count_below a.log NUMBERS ≡ 0 → (b : Bool) → a.log g ≡ b → a.log g ≡ false
      test a is zero_ false e = e
      test a is zero_ true e = none_counted a.log NUMBERS zero_ g (let high = logs n a g is e in let top = low in omega (arith, high, top))

      by : (o : Option machine.Arm) → v.world.core.arm n ≡ o → groups_of o ≡ 0 → logged o g ≡ false
      by None is zero_ = refl
      by (Some a) is zero_ = test a is zero_ (a.log g) refl

  -- a disk that isn't shown as offline answers
  answers_shown : (slot leaf : ℕ) → has_name (v.world.core.order slot) (Leaf leaf) ≡ true → IsSomeAnd (v.world.core.arm (Leaf leaf)) (λ arm. arm.offline ≡ false) → leaf_answers v.world.core leaf ≡ true
  answers_shown slot leaf listed shown =
      let z = owned.listed.data_of slot (Leaf leaf) listed in
      let online_is : z.0.offline ≡ false = subst (λ (o : Option machine.Arm). IsSomeAnd o (λ arm. arm.offline ≡ false)) z.1 shown in
      subst (λ (o : Option machine.Arm). (is_here o && online o) ≡ true) (sym z.1) (here z.0 z.2 online_is)
    where
      here : (a : machine.Arm) → a.gone ≡ None → a.offline ≡ false → (is_here (Some a) && online (Some a)) ≡ true
      here a gone up = rw (gone, up) refl

  listed_at : (arms : List ArmView) (k : ℕ) (view : ArmView) → slice_get arms k ≡ Some view → has_name (map name_of arms) (name_of view) ≡ true
  listed_at [] k view there = absurd (none_some None view refl there)
  listed_at (one ∷ arms) zero view there =
      true_left (name_eq (name_of one) (name_of view)) (has_name (map name_of arms) (name_of view)) (subst (λ (x : ArmView). name_eq (name_of one) (name_of x) ≡ true) (some_there one view there) (name_refl (name_of one)))
  listed_at (one ∷ arms) (suc k) view there = true_right (name_eq (name_of one) (name_of view)) (has_name (map name_of arms) (name_of view)) (listed_at arms k view there)

  spare_first : (arms : List ArmView) → HasSpare arms → first_spare (map name_of arms) ≡ None → ⊥
  spare_first [] spare none = spare
  spare_first (one ∷ arms) spare none = by (λ rest left. spare_first arms rest left) one.arm.kind one.arm.number spare none
    where
      by : (HasSpare arms → first_spare (map name_of arms) ≡ None → ⊥) → (k : ArmKind) (number : ℕ) → IsSpareKind k ⊎ HasSpare arms → first_spare (named k number ∷ map name_of arms) ≡ None → ⊥
      by next kind.Leaf number (inl not_one) none = not_one
      by next kind.Leaf number (inr rest) none = next rest none
      by next kind.Spare number some none = none_some (Some number) number none refl

  module _ (slot : ℕ) where
    -- what is told of an arm
    abbrev IsTold : ArmKind → ℕ → Bool → Type 0
    IsTold k number offline = IsSomeAnd (v.world.core.arm (named k number)) (λ arm. arm.offline ≡ offline) × (has_name (v.world.core.order slot) (named k number) ≡ true)

    up_shown : (k : ArmKind) (number : ℕ) (offline : Bool) → IsTold k number offline → IsShownUp k offline → IsUp v.world.core (named k number)
    up_shown kind.Leaf number offline told is = answers_shown slot number told.1 (subst (λ b. IsSomeAnd (v.world.core.arm (Leaf number)) (λ arm. arm.offline ≡ b)) is told.0)
    up_shown kind.Spare number offline told is = tt

    first_shown : (arms : List ArmView) → ((k : ℕ) (view : ArmView) → slice_get arms k ≡ Some view → IsTold view.arm.kind view.arm.number view.arm.offline) → ShowsFirstUp arms → first_spare (map name_of arms) ≡ None
        → passes (first_leaf (map name_of arms)) (leaf_answers v.world.core) ≡ true
    first_shown [] each shown none = absurd shown
    first_shown (one ∷ arms) each shown none = by one.arm.kind one.arm.number one.arm.offline (each zero one refl) shown none
      where
        by : (k : ArmKind) (number : ℕ) (offline : Bool) → IsTold k number offline → IsFirstUp k offline arms → first_spare (named k number ∷ map name_of arms) ≡ None
            → passes (first_leaf (named k number ∷ map name_of arms)) (leaf_answers v.world.core) ≡ true
        by kind.Leaf number offline told (inl is) none = answers_shown slot number told.1 (subst (λ b. IsSomeAnd (v.world.core.arm (Leaf number)) (λ arm. arm.offline ≡ b)) is told.0)
        by kind.Leaf number offline told (inr spare) none = absurd (spare_first arms spare none)
        by kind.Spare number offline told is none = absurd (none_some (Some number) number none refl)

    slot_whole : (arms : List ArmView) → statuses.IsSlotView geometry perms views slot arms → IsShownWhole arms → IsSlotWhole v.world.core slot
    slot_whole arms is shown = record {
      n = name_of shown.view;
      listed = (told shown.k shown.view shown.there).1;
      up = up_shown shown.view.arm.kind shown.view.arm.number shown.view.arm.offline (told shown.k shown.view shown.there) shown.good.1;
      empty = empty_log (name_of shown.view) (none_of_sum (logged_in (name_of shown.view)) views 0 (sym (is.each shown.k shown.view shown.there).logged ∙ shown.good.0) m v at);
      first = λ none. subst (λ ns. passes (first_leaf ns) (leaf_answers v.world.core) ≡ true) (sym order) (first_shown arms told shown.first (subst (λ ns. first_spare ns ≡ None) order none));
    }
      where
        in_views : Contains views v
        in_views = contains_at views m v at

        order : v.world.core.order slot ≡ map name_of arms
        order = is.order v in_views

        told : (k : ℕ) (view : ArmView) → slice_get arms k ≡ Some view → IsTold view.arm.kind view.arm.number view.arm.offline
        told k view there = ((is.each k view there).offline v in_views, subst (λ ns. has_name ns (name_of view) ≡ true) (sym order) (listed_at arms k view there))

-- ---- a pool

module _ (slots : List ℕ) (x z : State) (steady : IsSteady x) (store : Store) (form : StatusFormat) (text : List ℕ) (holds : List Hold) (t : statuses.Tells x.geometry x.perms store form text holds) (follows : Follows holds x z)
    (shown : ShowsWholeBut slots t.view) where
  split : (y : State) × Follows t.looks x y × Follows (OnUber t.u LookedUber ∷ []) y z
  split = follows_split t.looks (OnUber t.u LookedUber ∷ []) x z (subst (λ hs. Follows hs x z) t.holds_are follows)

  seen : Seen x split.0
  seen = looks_seen 0 x.geometry.props.metaslabs t.looks t.views x split.0 t.each split.1

  same : z ≡ split.0
  same = split.2.2 ∙ split.2.1.acts

  -- the slots of a metaslab
  one_whole : (m : ℕ) (y : Metaslab) → slice_get x.metaslabs m ≡ Some y → AreWholeBut x.geometry.spec.children slots [] y.world.core
  one_whole m y there slot inside = by (slice_get t.view.slots.items slot) refl
    where
      stands : (j : ℕ) × (slice_get t.views j ≡ Some (view_of m y))
      stands = looks_at (λ v. (j : ℕ) × (slice_get t.views j ≡ Some v)) 0 x.geometry.props.metaslabs t.looks t.views x split.0 t.each split.1 (all_stand t.views) m y (omega arith) (let low = steady.inside m y there in omega (arith, low)) there

      owned : Owned (layout_of x.geometry x.perms m) y.world
      owned = every_segment (layout_of x.geometry x.perms m) y.world (steady.reached.layout m) (steady.reached.each m y there)

      by : (o : Option (Vec ArmView Global)) → slice_get t.view.slots.items slot ≡ o → Contains slots slot ⊎ (IsSlotWhole y.world.core slot ⊎ HasOneOf [] y.world.core slot)
      by None at = absurd (let long = t.is.many_slots in let past = none_past t.view.slots.items slot at in omega (arith, inside, long, past))
      by (Some arms) at = elim (shown slot arms at) [
        | inl listed ↦ inl listed
        | inr is ↦ inr (inl (slot_whole x.geometry x.perms t.views (view_of m y) stands.0 stands.1 (layout_of x.geometry x.perms m) owned
            (every_log (layout_of x.geometry x.perms m) y.world (steady.reached.layout m) (steady.reached.each m y there)).high (steady.low m y there) slot arms.items (t.is.slots slot arms at) is))
      ]

  pub shown_whole : IsWholeBut slots [] z
  shown_whole = subst (IsWholeBut slots []) (sym same) (record {
    layout = subst (λ (g : Geometry). IsLayout g split.0.perms) (sym seen.geometry) (subst (IsLayout x.geometry) (sym seen.perms) steady.layout);
    reached = follows_reached t.looks x split.0 split.1 steady.reached;
    idle = λ m y there. (let b = seen.back m y there in ap (λ (v : View). v.world.closing) b.2 ∙ steady.idle m b.0 b.1);
    whole = λ m y there. (
        let b = seen.back m y there in
        let own = one_whole m b.0 b.1 in
        subst (λ (g : Geometry). AreWholeBut g.spec.children slots [] y.world.core) (sym seen.geometry) (subst (λ (v : View). AreWholeBut x.geometry.spec.children slots [] v.world.core) (sym b.2) own)
        );
  })
