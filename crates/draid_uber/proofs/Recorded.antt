-- What a crash leaves of the check records as a group is committed.
use Rattle.std.proofs.Common.{arith, ◌≡◌, ◌≤◌, ◌==◌, ◌+◌, ◌%◌, ℕ, Bool, true, false, List, [], ◌∷◌, ◌++◌, Option, Some, None, Result, Ok, Err, IfOk, drop, length, option_map, refl, sym, ◌∙◌, ap, subst, if◌then◌else◌}
use Rattle.std.specs.Prelude.{⊤, All, Contains, MatchOption}
use Rattle.std.proofs.lemmas.Bool.Decides.{nat_tests}
use Rattle.std.proofs.lemmas.List.Elements.{All-cons, All-contains_itself, All-nil, All-weaker, Contains-append_right}
use Rattle.draid_area.specs.Area.{Content, IsOfSize, OnTold, flushes, writes}
use Rattle.draid_area.specs.Moments.{CrashesTold}
use Rattle.draid_area.proofs.Moments.{crash_left, leaves_all}
use Rattle.draid_record.specs.Checks.{AnswersCheck, CheckTold, IsCheck, check_bytes, check_of, told_check}
use Rattle.draid_record.specs.declared.checks.CheckBody.{CheckBody}
use Rattle.draid_record.specs.declared.fault.RecordFault.{RecordFault}
use Rattle.draid_record.specs.declared.uber.UberBody.{UberBody}
use Rattle.draid_record.proofs.Checked.{check_again}
use Rattle.draid_uber.specs.Checks.{AreasStand, AreasTold, CheckStands, HasCheck, LeavesAny, check_area, check_in, told_by}
use Rattle.draid_uber.specs.Points.{no_check}
use Rattle.draid_uber.specs.declared.areas.Areas.{Areas}
use Rattle.draid_uber.specs.Slots.{StandsTold, group_of}
use Rattle.draid_uber.specs.Uber.{layout_of, next_leaf_of, next_of, version_of, with_version}
use Rattle.draid_uber.specs.declared.uber.Uber.{Uber}
use Rattle.draid_uber.proofs.Imports.{crash_stands}

-- ---- the area of a group

pub even_now : (group : ℕ) → group % 2 ≡ 0 → (group % 2 == 0) ≡ true
even_now group even = grind (arith, nat_tests)

pub odd_now : (group : ℕ) → (group % 2 ≡ 0 → ⊥) → (group % 2 == 0) ≡ false
odd_now group odd = grind (arith, nat_tests)

module _ {A : Type 0} (areas : Areas A) (new : A) (group : ℕ) where
  pub other_even : group % 2 ≡ 0 → (n : ℕ) → (n % 2 ≡ group % 2 → ⊥) → check_area (record areas { even = new }) n ≡ check_area areas n
  other_even is n other = rw (odd_now n (λ same. other (same ∙ sym is))) refl

  pub other_odd : (group % 2 ≡ 0 → ⊥) → (n : ℕ) → (n % 2 ≡ group % 2 → ⊥) → check_area (record areas { odd = new }) n ≡ check_area areas n
  other_odd is n other = rw (even_now n (omega (arith, is, other))) refl

-- ---- a record that was written and flushed

in_area : (value : CheckTold) (group : ℕ) (left : List ℕ) → (length left ≡ 0 → ⊥) → check_of group left ≡ Ok value → check_in group left ≡ Ok value
in_area value group [] some is = absurd (some refl)
in_area value group (byte ∷ bytes) some is = is

some_bytes : (value : CheckTold) (group : ℕ) (bytes more : List ℕ) → bytes ≡ check_bytes group value → length (bytes ++ more) ≡ 0 → ⊥
some_bytes value group [] more are none = absurd (cc)
some_bytes value group (b ∷ bytes) more are none = absurd (cc)

put_stands : (value : CheckTold) (group : ℕ) → IsCheck group value → (bytes : List ℕ) → bytes ≡ check_bytes group value → (x : Content) → CheckStands value group (flushes (writes 0 bytes x))
put_stands value group range bytes are x left may =
    let more = drop (0 + length bytes) x.bytes in
    let all : left ≡ bytes ++ more = leaves_all (flushes (writes 0 bytes x)) left (λ i. refl) refl may in
    in_area value group left (λ none. some_bytes value group bytes more are (ap length (sym all) ∙ none)) (subst (λ l. check_of group l ≡ Ok value) (sym all) (check_again group value bytes more range are))

pub told_stands : (value : CheckTold) (group : ℕ) → IsCheck group value → (bytes : List ℕ) → bytes ≡ check_bytes group value → (o p : Option Content) → p ≡ option_map (λ x. flushes (writes 0 bytes x)) o → OnTold p (CheckStands value group)
told_stands value group range bytes are None p is = subst (λ q. OnTold q (CheckStands value group)) (sym is) tt
told_stands value group range bytes are (Some x) p is = subst (λ q. OnTold q (CheckStands value group)) (sym is) (put_stands value group range bytes are x)

pub on_even : {A : Type 0} (told : A → Option Content) (areas : Areas A) (value : CheckTold) (group : ℕ) → group % 2 ≡ 0 → OnTold (told areas.even) (CheckStands value group) → OnTold (told (check_area areas group)) (CheckStands value group)
on_even told areas value group is stands = rw (even_now group is) stands

pub on_odd : {A : Type 0} (told : A → Option Content) (areas : Areas A) (value : CheckTold) (group : ℕ) → (group % 2 ≡ 0 → ⊥) → OnTold (told areas.odd) (CheckStands value group) → OnTold (told (check_area areas group)) (CheckStands value group)
on_odd told areas value group is stands = rw (odd_now group is) stands

-- ---- the check records of what an import finds

-- what an area tells by the group's parity
abbrev told_in : AreasTold → ℕ → Option Content
told_in told group = if group % 2 == 0 then told.even else told.odd

pub told_same : (old new : AreasTold) → new.even ≡ old.even → new.odd ≡ old.odd → (group : ℕ) → told_in new group ≡ told_in old group
told_same old new even odd group = λ i. if group % 2 == 0 then even i else odd i

-- the areas crashed
pub record AreasCrash (old new : AreasTold) : Type 0 where
  pub uber : CrashesTold old.uber new.uber
  pub even : CrashesTold old.even new.even
  pub odd : CrashesTold old.odd new.odd

told_area : {A : Type 0} (told : A → Option Content) (areas : Areas A) (group : ℕ) → told_in (told_by told areas) group ≡ told (check_area areas group)
told_area told areas group = by (group % 2 == 0)
  where
    by : (b : Bool) → (if b then told areas.even else told areas.odd) ≡ told (if b then areas.even else areas.odd)
    by true = refl
    by false = refl

other_group : (kept : Option UberBody) (group : ℕ) → group ≡ 1 + group_of kept → (body : UberBody) → kept ≡ Some body → body.group % 2 ≡ group % 2 → ⊥
other_group None group behind body is same = absurd (cc)
other_group (Some b) group behind body is same =
    let of : b.group ≡ body.group = some_group b body is in
    omega (arith, behind, of, same)
  where
    some_group : (x y : UberBody) → Some x ≡ Some y → x.group ≡ y.group
    some_group x y is = (let e : x ≡ y = cc in ap (λ (z : UberBody). z.group) e)

-- by what each group has
module _ (check : ℕ → CheckTold) where
  has_by : (old new : AreasTold) (body : UberBody) → told_in new body.group ≡ told_in old body.group → HasCheck check old body → HasCheck check new body
  has_by old new body same has = subst (λ o. OnTold o (CheckStands (check body.group) body.group)) (sym same) has

  kept_by : (old new : AreasTold) (kept : Option UberBody) → ((body : UberBody) → kept ≡ Some body → told_in new body.group ≡ told_in old body.group) → MatchOption kept ⊤ (HasCheck check old) → MatchOption kept ⊤ (HasCheck check new)
  kept_by old new None same has = tt
  kept_by old new (Some body) same has = has_by old new body (same body refl) has

  module _ (kept : Option UberBody) (pending : List UberBody) (old new : AreasTold) where
    -- the areas of the check records tell what they told
    pub stand_still : AreasStand check kept pending old → StandsTold kept pending new.uber → new.even ≡ old.even → new.odd ≡ old.odd → AreasStand check kept pending new
    stand_still s stands even odd = record {
      uber_is = stands;
      kept_check = kept_by old new kept (λ body is. told_same old new even odd body.group) s.kept_check;
      pending_checks = All-weaker (HasCheck check old) (HasCheck check new) (λ body has. has_by old new body (told_same old new even odd body.group) has) pending s.pending_checks;
    }

    -- so does the one of the committed group, and nothing of another group may be found
    pub stand_alone : AreasStand check kept pending old → StandsTold kept [] new.uber → ((body : UberBody) → kept ≡ Some body → told_in new body.group ≡ told_in old body.group) → AreasStand check kept [] new
    stand_alone s stands same = record { uber_is = stands; kept_check = kept_by old new kept same s.kept_check; pending_checks = All-nil (HasCheck check new) }

  -- nothing of another group may be found, and the record of this one stands
  module _ (kept : Option UberBody) (body : UberBody) (told : AreasTold) (has : HasCheck check told body) where
    pub stand_named : StandsTold (Some body) [] told.uber → AreasStand check (Some body) [] told
    stand_named stands = record { uber_is = stands; kept_check = has; pending_checks = All-nil (HasCheck check told) }

    pub stand_pending : MatchOption kept ⊤ (HasCheck check told) → StandsTold kept (body ∷ []) told.uber → AreasStand check kept (body ∷ []) told
    stand_pending old stands = record { uber_is = stands; kept_check = old; pending_checks = All-cons (HasCheck check told) body [] has (All-nil (HasCheck check told)) }

  -- ---- what is left of a refusal

  more_may : (body : UberBody) (may pending : List UberBody) → All (Contains may) pending → All (Contains (body ∷ may)) pending
  more_may body may pending all = All-weaker (Contains may) (Contains (body ∷ may)) (λ b c. Contains-append_right (body ∷ []) may b c) pending all

  pub leaves_pending : (kept : Option UberBody) (body : UberBody) (pending : List UberBody) (told : AreasTold) → AreasStand check kept pending told → LeavesAny check kept (body ∷ pending) told
  leaves_pending kept body pending told stands = record { pending = pending; among = more_may body pending pending (All-contains_itself pending); stands = stands }

  pub leaves_none : (kept : Option UberBody) (may : List UberBody) (told : AreasTold) → AreasStand check kept [] told → LeavesAny check kept may told
  leaves_none kept may told stands = record { pending = []; among = All-nil (Contains may); stands = stands }

  pub leaves_one : (kept : Option UberBody) (body : UberBody) (pending : List UberBody) (told : AreasTold) → AreasStand check kept (body ∷ []) told → LeavesAny check kept (body ∷ pending) told
  leaves_one kept body pending told stands = record {
    pending = body ∷ [];
    among = All-cons (Contains (body ∷ pending)) body [] (0, omega arith, refl) (All-nil (Contains (body ∷ pending)));
    stands = stands;
  }

  -- ---- a crash

  crash_check : (value : CheckTold) (group : ℕ) (o p : Option Content) → OnTold o (CheckStands value group) → CrashesTold o p → OnTold p (CheckStands value group)
  crash_check value group None p stands crash = rw crash tt
  crash_check value group (Some x) None stands crash = absurd crash
  crash_check value group (Some x) (Some y) stands crash = λ left may. stands left (crash_left x y left crash may)

  crash_has : (old new : AreasTold) → AreasCrash old new → (body : UberBody) → HasCheck check old body → HasCheck check new body
  crash_has old new crash body has = by (body.group % 2 == 0) has
    where
      by : (b : Bool) → OnTold (if b then old.even else old.odd) (CheckStands (check body.group) body.group) → OnTold (if b then new.even else new.odd) (CheckStands (check body.group) body.group)
      by true has = crash_check (check body.group) body.group old.even new.even has crash.even
      by false has = crash_check (check body.group) body.group old.odd new.odd has crash.odd

  crash_kept : (old new : AreasTold) → AreasCrash old new → (kept : Option UberBody) → MatchOption kept ⊤ (HasCheck check old) → MatchOption kept ⊤ (HasCheck check new)
  crash_kept old new crash None has = tt
  crash_kept old new crash (Some body) has = crash_has old new crash body has

  pub crash_areas : (kept : Option UberBody) (pending : List UberBody) (old new : AreasTold) → AreasStand check kept pending old → AreasCrash old new → AreasStand check kept pending new
  crash_areas kept pending old new s crash = record {
    uber_is = crash_stands kept pending old.uber new.uber s.uber_is crash.uber;
    kept_check = crash_kept old new crash kept s.kept_check;
    pending_checks = All-weaker (HasCheck check old) (HasCheck check new) (crash_has old new crash) pending s.pending_checks;
  }

  -- ---- the steps of a commit

  module _ {A : Type 0} (told : A → Option Content) (kept : Option UberBody) (pending : List UberBody) where
    -- the uberblock's area alone was called
    pub shut_refused : (old new : Areas A) → new ≡ record old { uber = new.uber } → AreasStand check kept pending (told_by told old) → StandsTold kept pending (told new.uber) → AreasStand check kept pending (told_by told new)
    shut_refused old new others s stands =
        stand_still kept pending (told_by told old) (told_by told new) s stands (ap (λ (a : Areas A). told a.even) others) (ap (λ (a : Areas A). told a.odd) others)

    pub shut_done : (old new : Areas A) → new ≡ record old { uber = new.uber } → AreasStand check kept pending (told_by told old) → StandsTold kept [] (told new.uber) → AreasStand check kept [] (told_by told new)
    shut_done old new others s stands = stand_alone kept pending (told_by told old) (told_by told new) s stands
        (λ body is. told_same (told_by told old) (told_by told new) (ap (λ (a : Areas A). told a.even) others) (ap (λ (a : Areas A). told a.odd) others) body.group)

  module _ {A : Type 0} (told : A → Option Content) (kept : Option UberBody) (body : UberBody) (behind : body.group ≡ 1 + group_of kept) where
    -- the area of the next group's check record alone was called
    pub check_put : (old new : Areas A) → new.uber ≡ old.uber → ((n : ℕ) → (n % 2 ≡ body.group % 2 → ⊥) → check_area new n ≡ check_area old n) → AreasStand check kept [] (told_by told old) → AreasStand check kept [] (told_by told new)
    check_put old new same other s = stand_alone kept [] (told_by told old) (told_by told new) s (subst (λ (a : A). StandsTold kept [] (told a)) (sym same) s.uber_is)
        (λ b is. told_area told new b.group ∙ ap told (other b.group (other_group kept body.group behind b is)) ∙ sym (told_area told old b.group))

    -- and it has the record; then the uberblock's area alone was called
    module _ (old new : Areas A) (others : new ≡ record old { uber = new.uber }) (has : OnTold (told (check_area old body.group)) (CheckStands (check body.group) body.group)) where
      has_still : HasCheck check (told_by told new) body
      has_still = subst (λ o. OnTold o (CheckStands (check body.group) body.group)) (sym (told_same (told_by told old) (told_by told new) (ap (λ (a : Areas A). told a.even) others) (ap (λ (a : Areas A). told a.odd) others) body.group ∙ told_area told old body.group)) has

      pub named : StandsTold (Some body) [] (told new.uber) → AreasStand check (Some body) [] (told_by told new)
      named stands = stand_named kept body (told_by told new) has_still stands

      pub refused : (pending : List UberBody) → AreasStand check kept [] (told_by told old) → StandsTold kept (body ∷ []) (told new.uber) → LeavesAny check kept (body ∷ pending) (told_by told new)
      refused pending s stands = leaves_one kept body pending (told_by told new) (stand_pending kept body (told_by told new) has_still
          (kept_by (told_by told old) (told_by told new) kept
          (λ b is. told_same (told_by told old) (told_by told new) (ap (λ (a : Areas A). told a.even) others) (ap (λ (a : Areas A). told a.odd) others) b.group) s.kept_check) stands)

-- ---- areas to which nothing was written

nothing_left : (bytes : List ℕ) → length bytes ≤ 0 → bytes ≡ []
nothing_left [] few = refl
nothing_left (b ∷ bytes) few = absurd (omega (arith, few))

pub empty_stands : (group : ℕ) (x : Content) → x.bytes ≡ [] → CheckStands no_check group x
empty_stands group x none left may =
    let most = may.most in
    let zero : length x.bytes ≡ 0 = ap length none in
    subst (λ l. check_in group l ≡ Ok no_check) (sym (nothing_left left (omega (arith, most, zero)))) refl

-- what a commit writes is by the uberblock's layout, version and next leaf
pub next_same : {A : Type 0} (u v : Uber A) (group : ℕ) → layout_of v ≡ layout_of u → version_of v ≡ version_of u → next_leaf_of v ≡ next_leaf_of u → next_of v group ≡ next_of u group
next_same u v group layout version leaf = λ i. record { group = group; spec = (layout i).spec; props = with_version (layout i).props (version i); next_leaf = leaf i }

-- ---- a record that is read

pub check_read : (r : Result CheckBody RecordFault) (group : ℕ) (bytes : List ℕ) → (length bytes ≡ 0 → ⊥) → AnswersCheck r (check_of group bytes) → IfOk r (λ it. check_in group bytes ≡ Ok (told_check it))
check_read r group [] some answers = absurd (some refl)
check_read (Ok it) group (byte ∷ bytes) some answers = answers
check_read (Err e) group (byte ∷ bytes) some answers = tt

-- what a crash may leave of an area is what it has, too
pub here_check : (value : CheckTold) (group n : ℕ) (x : Content) → IsOfSize n x → CheckStands value group x → check_in group x.bytes ≡ Ok value
here_check value group n x size stands = stands x.bytes (record { same = λ i d soft. refl; least = size.firm; most = omega arith })
