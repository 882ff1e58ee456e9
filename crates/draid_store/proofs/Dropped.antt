-- What the check records, the uberblock and the groups say as a block is dropped to the checkpoint.
use Rattle.std.proofs.Common.{◌≡◌, ◌==◌, ◌%◌, ◌||◌, ◌<◌, ◌≤◌, ◌+◌, ◌++◌, ◌∷◌, ◌∙◌, [], ℕ, Bool, true, false, List, Option, Some, None, arith, ap, refl, sym, subst, if◌then◌else◌}
use Rattle.std.specs.Prelude.{⊤, All, Contains, MatchOption, filter, map, max, nat_le, option_map}
use Rattle.std.proofs.lemmas.Bool.Decides.{nat_tests}
use Rattle.std.proofs.lemmas.List.{append-nil}
use Rattle.std.proofs.lemmas.List.Elements.{All-cons, All-contains, All-head, All-nil, All-tail, All-weaker, Contains-append_left, Contains-push}
use Rattle.draid_area.specs.Area.{OnTold}
use Rattle.draid_area.specs.declared.Area as areas
use Rattle.draid_checkpoint.specs.Check.{Drops, Point}
use Rattle.draid_checkpoint.specs.declared.check.DroppedIn.{DroppedIn}
use Rattle.draid_machine.specs.declared.names.Key.{Key}
use Rattle.draid_names.specs.declared.numbers.TheConstants.{LAST_NUMBER}
use Rattle.draid_objects.proofs.Checking.{count_undropped}
use Rattle.draid_objects.proofs.Finding.{all_below, greatest, kept_all}
use Rattle.draid_objects.proofs.Marking.{upto_all}
use Rattle.draid_objects.specs.Blocks.{Blocks, SaysOf, sealed_at}
use Rattle.draid_objects.specs.Changes.{Change, Write, group_of, kept, key_of, object_of, write_of}
use Rattle.draid_objects.specs.Marks.{Check, Dropped, Mark, check_at, check_by, drops_in, is_dropped, mark_group, marks_upto, shown_at}
use Rattle.draid_objects.specs.Stores.{AreMarkedUpto, IsBehindChecks, Stores}
use Rattle.draid_machine.specs.Names.{key_eq}
use Rattle.draid_record.specs.Checks.{CheckTold}
use Rattle.draid_record.specs.declared.checks.Dropped as blocks
use Rattle.draid_record.specs.declared.uber.UberBody.{UberBody}
use Rattle.draid_session.specs.State.{State, Store}
use Rattle.draid_uber.specs.Checks.{AreasTold, CheckStands, HasCheck, count_in, told_by}
use Rattle.draid_uber.specs.Points.{block_of, drops_upto, drops_with, insert_drop, no_check, told_at, told_of}
use Rattle.draid_uber.specs.Uber.{Valid, areas_of, changed_of, kept_of, layout_of, next_leaf_of, point_of, version_of}
use Rattle.draid_uber.specs.declared.areas.Areas.{Areas}
use Rattle.draid_uber.specs.declared.uber.Uber.{Uber}
use Rattle.draid_pool.specs.Objects.{HasGroups}
use Rattle.draid_pool.specs.Ubers.{IsPending, IsUber, UberStands, body_of, check_told, point_told, with_drop}
use Rattle.draid_pool.proofs.Marked.{marked_later}

-- ---- check records of a point

with_more : (some ds : List blocks.Dropped) (b : blocks.Dropped) → drops_with some (ds ++ b ∷ []) ≡ insert_drop b (drops_with some ds)
with_more some [] b = refl
with_more some (d ∷ ds) b = with_more (insert_drop d some) ds b

upto_more : (group : ℕ) (ds : List DroppedIn) (d : DroppedIn) → drops_upto group (ds ++ d ∷ []) ≡ drops_upto group ds ++ (if nat_le d.group group then block_of d ∷ [] else [])
upto_more group [] d = by (nat_le d.group group)
  where
    by : (b : Bool) → map block_of (if b then d ∷ [] else []) ≡ (if b then block_of d ∷ [] else [])
    by true = refl
    by false = refl
upto_more group (e ∷ es) d = by (upto_more group es d) (nat_le e.group group)
  where
    by : drops_upto group (es ++ d ∷ []) ≡ drops_upto group es ++ (if nat_le d.group group then block_of d ∷ [] else []) → (b : Bool)
        → map block_of (if b then e ∷ filter (λ z. nat_le z.group group) (es ++ d ∷ []) else filter (λ z. nat_le z.group group) (es ++ d ∷ []))
        ≡ map block_of (if b then e ∷ filter (λ z. nat_le z.group group) es else filter (λ z. nat_le z.group group) es) ++ (if nat_le d.group group then block_of d ∷ [] else [])
    by rest true = ap (λ zs. block_of e ∷ zs) rest
    by rest false = rest

module _ (old new : Point) (key : Key) (group : ℕ) (d : Drops old new key.object key.seq group) (own : ℕ) (has : old.group ≡ Some own) where
  abbrev block : blocks.Dropped
  block = record { object = key.object; seq = key.seq }

  list : (g : ℕ) → drops_upto g new.drops ≡ drops_upto g old.drops ++ (if nat_le group g then block ∷ [] else [])
  list g = ap (drops_upto g) d.drops ∙ upto_more g old.drops (record { object = key.object; seq = key.seq; group = group })

  abbrev told_if : Bool → List blocks.Dropped → CheckTold
  told_if b ds = if b then record { group = own; drops = drops_with [] ds } else no_check

  told_is : (point : Point) (g : ℕ) → point.group ≡ Some own → told_at point g ≡ told_if (nat_le own g) (drops_upto g point.drops)
  told_is point g is = λ i. told_of g (is i) point.drops

  -- from its group on
  pub told_later : (g : ℕ) → own ≤ g → group ≤ g → told_at new g ≡ with_drop key (told_at old g)
  told_later g low late =
      told_is new g (d.group_is ∙ has)
      ∙ (ap (λ b. told_if b (drops_upto g new.drops)) above ∙ ((λ i. record { group = own; drops = lists i }) ∙ sym (ap (with_drop key) (told_is old g has ∙ ap (λ b. told_if b (drops_upto g old.drops)) above))))
    where
      above : nat_le own g ≡ true
      above = grind (arith, nat_tests, low)

      there : nat_le group g ≡ true
      there = grind (arith, nat_tests, late)

      lists : drops_with [] (drops_upto g new.drops) ≡ insert_drop block (drops_with [] (drops_upto g old.drops))
      lists = ap (drops_with []) (list g ∙ ap (λ b. drops_upto g old.drops ++ (if b then block ∷ [] else [])) there) ∙ with_more [] (drops_upto g old.drops) block

  -- and before
  pub told_sooner : (g : ℕ) → g < group → told_at new g ≡ told_at old g
  told_sooner g early =
      told_is new g (d.group_is ∙ has)
      ∙ (ap (told_if (nat_le own g)) (list g ∙ (ap (λ b. drops_upto g old.drops ++ (if b then block ∷ [] else [])) isnt ∙ append-nil (drops_upto g old.drops))) ∙ sym (told_is old g has))
    where
      isnt : nat_le group g ≡ false
      isnt = grind (arith, nat_tests, early)

-- ---- of marks

abbrev point_if : Bool → Key → ℕ → List Mark → CheckTold
point_if b key group marks = point_told (if b then Dropped key group ∷ marks else marks)

pub marks_later : (key : Key) (group : ℕ) (marks : List Mark) (g : ℕ) → group ≤ g → check_told (Dropped key group ∷ marks) g ≡ with_drop key (check_told marks g)
unfolding check_told
marks_later key group marks g late = ap (λ b. point_if b key group (marks_upto g marks)) is
  where
    is : nat_le group g ≡ true
    is = grind (arith, nat_tests, late)

pub marks_sooner : (key : Key) (group : ℕ) (marks : List Mark) (g : ℕ) → g < group → check_told (Dropped key group ∷ marks) g ≡ check_told marks g
unfolding check_told
marks_sooner key group marks g early = ap (λ b. point_if b key group (marks_upto g marks)) is
  where
    is : nat_le group g ≡ false
    is = grind (arith, nat_tests, early)

-- ---- the uberblock

same_check : (c e : ℕ → CheckTold) (told : AreasTold) (body : UberBody) → e body.group ≡ c body.group → HasCheck c told body → HasCheck e told body
same_check c e told body same has = subst (λ v. OnTold (if body.group % 2 == 0 then told.even else told.odd) (CheckStands v body.group)) (sym same) has

kept_check : (c e : ℕ → CheckTold) (told : AreasTold) (b : Bool) (body : UberBody) → e body.group ≡ c body.group → MatchOption (if b then None else Some body) ⊤ (HasCheck c told) → MatchOption (if b then None else Some body) ⊤ (HasCheck e told)
kept_check c e told true body same has = tt
kept_check c e told false body same has = same_check c e told body same has

pending_checks : (x : State) (c e : ℕ → CheckTold) (told : AreasTold) → (x.pending ≡ true → e (x.committed + 1) ≡ c (x.committed + 1)) → (bodies : List UberBody) → All (IsPending x) bodies → All (HasCheck c told) bodies → All (HasCheck e told) bodies
pending_checks x c e told same [] are has = All-nil (HasCheck e told)
pending_checks x c e told same (body ∷ bodies) are has =
    All-cons (HasCheck e told) body bodies
    (let is = All-head (IsPending x) body bodies are in
    same_check c e told body (subst (λ (u : UberBody). e u.group ≡ c u.group) (sym is.1) (same is.0)) (All-head (HasCheck c told) body bodies has))
    (pending_checks x c e told same bodies (All-tail (IsPending x) body bodies are) (All-tail (HasCheck c told) body bodies has))

mark_there : (m : Mark) (ms : List Mark) → Contains (m ∷ ms) m
mark_there m ms = Contains-append_left (m ∷ []) ms m (Contains-push [] m)

-- what a drop did to it
pub record DropsUber {A : Type 0} (area : areas.Ghosts A) (old new : Uber A) (key : Key) (group : ℕ) : Type 0 where
  pub valid : Valid area.size new
  pub drops : Drops (point_of old) (point_of new) key.object key.seq group
  pub changed : changed_of new ≡ group
  pub areas_are : areas_of new ≡ areas_of old
  pub kept : kept_of new ≡ kept_of old
  pub layout : layout_of new ≡ layout_of old
  pub version : version_of new ≡ version_of old
  pub leaf : next_leaf_of new ≡ next_leaf_of old

pub uber_drops : {A : Type 0} (area : areas.Ghosts A) (old new : Uber A) (x : State) (store : Store) (key : Key) (group own : ℕ) → IsUber area old x → DropsUber area old new key group → (point_of old).group ≡ Some own → own < group
    → x.committed < group → (x.pending ≡ true → x.committed + 1 < group) → AreMarkedUpto group x.store.marks → store.marks ≡ Dropped key group ∷ x.store.marks → IsUber area new (record x { store = store })
uber_drops {A} area old new x store key group own is d has behind after closed upto marks = record {
  valid = d.valid;
  layout = d.layout ∙ is.layout;
  version = d.version ∙ is.version;
  kept = d.kept ∙ is.kept;
  next_leaf = d.leaf ∙ is.next_leaf;
  point = λ g above. point g above (nat_le group g) refl ∙ ap (λ ms. check_told ms g) (sym marks);
  late = λ g above. (
    (λ z.
        let low = All-contains (λ m. mark_group m ≤ group) (Dropped key group ∷ x.store.marks) z.mark (All-cons (λ m. mark_group m ≤ group) (Dropped key group) x.store.marks (omega arith) upto) (subst (λ ms. Contains ms z.mark) marks z.there) in
        let late = z.late in
        let same = d.changed in
        omega (arith, low, late, same)),
    (λ less. record { mark = Dropped key group; there = subst (λ ms. Contains ms (Dropped key group)) (sym marks) (mark_there (Dropped key group) x.store.marks); late = (let same = d.changed in omega (arith, less, same)) }),
  );
  count = is.count ∙ ap (λ (parts : Areas A). count_in area.faults parts) (sym d.areas_are);
  stands = subst (λ (parts : Areas A). UberStands (record x { store = store }) (told_by area.told parts)) (sym d.areas_are) (record {
    pending = is.stands.pending;
    are = is.stands.are;
    stands = record {
      uber_is = is.stands.stands.uber_is;
      kept_check = kept_check (check_told x.store.marks) (check_told store.marks) told (x.committed == 0) (body_of x.geometry x.kept_version x.committed x.kept_leaf) (same x.committed after) is.stands.stands.kept_check;
      pending_checks = pending_checks x (check_told x.store.marks) (check_told store.marks) told (λ pending. same (x.committed + 1) (closed pending)) is.stands.pending is.stands.are is.stands.stands.pending_checks;
    };
  });
}
  where
    told : AreasTold
    told = told_by area.told (areas_of old)

    same : (g : ℕ) → g < group → check_told store.marks g ≡ check_told x.store.marks g
    same g early = ap (λ ms. check_told ms g) marks ∙ marks_sooner key group x.store.marks g early

    point : (g : ℕ) → x.committed < g → (b : Bool) → nat_le group g ≡ b → told_at (point_of new) g ≡ check_told (Dropped key group ∷ x.store.marks) g
    point g above true later =
        let low : group ≤ g = grind (arith, nat_tests, later) in
        told_later (point_of old) (point_of new) key group d.drops own has g (omega (arith, behind, low)) low ∙ (ap (with_drop key) (is.point g above) ∙ sym (marks_later key group x.store.marks g low))
    point g above false sooner =
        let early : g < group = grind (arith, nat_tests, sooner) in
        told_sooner (point_of old) (point_of new) key group d.drops own has g early ∙ (is.point g above ∙ sym (marks_sooner key group x.store.marks g early))

-- ---- the groups

dropped_some : (key : Key) (o : Option Check) (check : Check) → option_map (drops_in key) o ≡ Some check → (was : Check) × (o ≡ Some was) × (check.group ≡ was.group)
dropped_some key None check is = absurd (cc)
dropped_some key (Some was) check is = (was, refl, ap group_in (sym is))
  where
    group_in : Option Check → ℕ
    group_in None = 0
    group_in (Some c) = c.group

pub behind_drop : (committed : ℕ) (key : Key) (group : ℕ) (marks : List Mark) (top : ℕ) → IsBehindChecks committed marks top → IsBehindChecks committed (Dropped key group ∷ marks) top
behind_drop committed key group marks top behind t check from is = by (nat_le group t) is
  where
    by : (b : Bool) → check_by (if b then Dropped key group ∷ marks_upto t marks else marks_upto t marks) ≡ Some check → check.group < top
    by true e = (let z = dropped_some key (check_at t marks) check e in let low = behind t z.0 from z.1 in let same = z.2 in omega (arith, low, same))
    by false e = behind t check from e

pub groups_drop : (x : State) (store : Store) (key : Key) (group : ℕ) → store.marks ≡ Dropped key group ∷ x.store.marks → store.floor ≡ group → max x.store.floor (x.committed + 1) ≤ group → group ≤ x.committed + 2 → group ≤ LAST_NUMBER → HasGroups x
    → HasGroups (record x { store = store })
groups_drop x store key group marks floor high next last g = record {
  committed = g.committed;
  next = (omega (arith, floor, next));
  last = (omega (arith, floor, last));
  checks = λ m y at. subst (λ ms. IsBehindChecks x.committed ms y.world.open_group) (sym marks) (behind_drop x.committed key group x.store.marks y.world.open_group (g.checks m y at));
  marked = subst (AreMarkedUpto (max store.floor (x.committed + 1))) (sym marks) (All-cons (λ m. mark_group m ≤ max store.floor (x.committed + 1)) (Dropped key group) x.store.marks (omega (arith, floor))
      (marked_later (max x.store.floor (x.committed + 1)) (max store.floor (x.committed + 1)) x.store.marks (omega (arith, high, floor)) g.marked));
}

-- what the checkpoint of now doesn't keep alone, it didn't before
pub undropped : (key k : Key) (o : Option Check) (check : Check) → o ≡ Some check → is_dropped (option_map (drops_in key) o) k ≡ false → (key_eq key k ≡ false) × (is_dropped o k ≡ false)
undropped key k None check some is = absurd (cc)
undropped key k (Some c) check some is = by (key_eq key k) (c.dropped k) is
  where
    by : (a b : Bool) → (a || b) ≡ false → (a ≡ false) × (b ≡ false)
    by true b e = absurd (cc)
    by false true e = absurd (cc)
    by false false e = (refl, refl)

-- the block of an object's last write isn't dropped
pub last_counts : (digest : List ℕ → List ℕ) (committed group object : ℕ) (cs : List Change) (marks : List Mark) (blocks : Blocks) (w : Write) → Stores digest committed cs marks blocks → AreMarkedUpto group marks → write_of cs object ≡ Some w
    → is_dropped (check_by marks) (key_of w) ≡ false
last_counts digest committed group object cs marks blocks w s upto last =
    subst (λ o. is_dropped o (key_of w) ≡ false) (upto_all t group marks upto (omega arith)) (count_undropped (check_at t marks) (sealed_at t blocks) w.metaslab (key_of w) says.there)
  where
    t : ℕ
    t = committed + (greatest cs + group)

    keeps : kept t cs object ≡ Some w
    keeps = kept_all t object cs (All-weaker (λ c. group_of c ≤ t) (λ c. object_of c ≡ object → group_of c ≤ t) (λ c low at. low) cs (all_below t cs (omega arith))) ∙ last

    says : SaysOf (shown_at marks t blocks) object (Some w)
    says = subst (λ v. SaysOf (shown_at marks t blocks) object v) keeps (s.says t object (omega arith))
