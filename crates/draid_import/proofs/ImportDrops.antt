-- The marks of a pool as an import leaves them: those of the group that was found, and behind them the older blocks that it dropped.
use Rattle.std.proofs.Common.{arith, ◌≡◌, ◌≢◌, ◌<◌, ◌≤◌, ◌++◌, ◌⊎◌, inl, inr, ℕ, zero, suc, Bool, true, false, nat_le, List, [], ◌∷◌, Option, Some, None, refl, ap, subst, if◌then◌else◌}
use Rattle.std.specs.Prelude.{⊤, ◌↔◌, ◌||◌, All, Contains, filter, option_map, slice_get}
use Rattle.std.proofs.lemmas.List.Elements.{All-cons, All-weaker, Contains-append_right, filter_passes}
use Rattle.draid_machine.specs.declared.names.Held.{Held}
use Rattle.draid_machine.specs.declared.names.Key.{Key}
use Rattle.draid_machine.specs.declared.names.Stage.TheVariants as stage
use Rattle.draid_machine.specs.Names.{key_eq}
use Rattle.draid_machine.proofs.Small.{is_low, key_refl, key_true, none_some, some_injective}
use Rattle.draid_objects.specs.Blocks.{Blocks}
use Rattle.draid_objects.specs.Changes.{Change, Write, key_of, write_of}
use Rattle.draid_objects.specs.Marks.{Check, Dropped, GivenUp, Made, Mark, check_by, drops_in, mark_group, marks_upto}
use Rattle.draid_objects.specs.Stores.{AreMarkedUpto, IsFloor, Stores}
use Rattle.draid_objects.proofs.Marking.{older_dropped}
use Rattle.draid_record.specs.Checks.{CheckTold}
use Rattle.draid_record.specs.declared.checks.Dropped.{Dropped as Block}
use Rattle.draid_uber.specs.Points.{drops_with, insert_drop, is_before}
use Rattle.draid_found.specs.Drops.{key_in}
use Rattle.draid_pool.specs.Ubers.{point_told}

-- the marks with some blocks that were dropped in a group, one after another
abbrev pub dropped_marks : ℕ → List Block → List Mark → List Mark
dropped_marks group [] marks = marks
dropped_marks group (d ∷ ds) marks = dropped_marks group ds (Dropped (key_in d) group ∷ marks)

pub dropped_behind : (group : ℕ) (ds : List Block) (a b : List Mark) → dropped_marks group ds (a ++ b) ≡ dropped_marks group ds a ++ b
dropped_behind group [] a b = refl
dropped_behind group (d ∷ ds) a b = dropped_behind group ds (Dropped (key_in d) group ∷ a) b

-- a block is among some, by its object and number
abbrev pub IsAmong : Key → List Block → Type 0
IsAmong key [] = ⊥
IsAmong key (d ∷ ds) = (key_in d ≡ key) ⊎ IsAmong key ds

pub among : (ds : List Block) (k : ℕ) (d : Block) → slice_get ds k ≡ Some d → IsAmong (key_in d) ds
among [] k d there = absurd (cc)
among (e ∷ ds) zero d there = inl (ap key_in (some_injective e d there))
among (e ∷ ds) (suc k) d there = inr (among ds k d there)

pub placed_among : (key : Key) (ds : List Block) → IsAmong key ds → (k : ℕ) × (slice_get ds k ≡ Some (record { object = key.object; seq = key.seq }))
placed_among key [] is = absurd is
placed_among key (d ∷ ds) (inl own) = (0, ap (λ (k : Key). Some (record { object = k.object; seq = k.seq })) own)
placed_among key (d ∷ ds) (inr later) = (let z = placed_among key ds later in (suc z.0, z.1))

-- ---- their groups

module _ (group : ℕ) where
  pub dropped_all : (P : Mark → Type 0) (ds : List Block) (marks : List Mark) → ((d : Block) → P (Dropped (key_in d) group)) → All P marks → All P (dropped_marks group ds marks)
  dropped_all P [] marks own all = all
  dropped_all P (d ∷ ds) marks own all = dropped_all P ds (Dropped (key_in d) group ∷ marks) own (All-cons P (Dropped (key_in d) group) marks (own d) all)

  -- what was there is there
  pub still_there : (ds : List Block) (marks : List Mark) (m : Mark) → Contains marks m → Contains (dropped_marks group ds marks) m
  still_there [] marks m has = has
  still_there (d ∷ ds) marks m has = still_there ds (Dropped (key_in d) group ∷ marks) m (Contains-append_right (Dropped (key_in d) group ∷ []) marks m has)

pub upto_low : (group : ℕ) (marks : List Mark) → AreMarkedUpto group (marks_upto group marks)
upto_low group marks = All-weaker (λ m. nat_le (mark_group m) group ≡ true) (λ m. mark_group m ≤ group) (λ m is. is_low (mark_group m) group is) (marks_upto group marks) (filter_passes (λ m. nat_le (mark_group m) group) marks)

-- a checkpoint was made up to a group
abbrev pub IsOld : ℕ → Mark → Type 0
IsOld group (Made t) = t ≤ group
IsOld group (Dropped key t) = ⊤
IsOld group (GivenUp t) = ⊤

abbrev pub AreOld : ℕ → List Mark → Type 0
AreOld group [] = ⊤
AreOld group (m ∷ marks) = IsOld group m × AreOld group marks

old_mark : (group : ℕ) (m : Mark) → mark_group m ≤ group → IsOld group m
old_mark group (Made t) low = low
old_mark group (Dropped key t) low = tt
old_mark group (GivenUp t) low = tt

pub old_upto : (group : ℕ) (marks : List Mark) → AreOld group (marks_upto group marks)
old_upto group [] = tt
old_upto group (m ∷ marks) = by (nat_le (mark_group m) group) refl (old_upto group marks)
  where
    by : (b : Bool) → nat_le (mark_group m) group ≡ b → AreOld group (marks_upto group marks) → AreOld group (if b then m ∷ marks_upto group marks else marks_upto group marks)
    by true low rest = (old_mark group m (is_low (mark_group m) group low), rest)
    by false high rest = rest

pub old_dropped : (group t : ℕ) (ds : List Block) (marks : List Mark) → AreOld t marks → AreOld t (dropped_marks group ds marks)
old_dropped group t [] marks old = old
old_dropped group t (d ∷ ds) marks old = old_dropped group t ds (Dropped (key_in d) group ∷ marks) (tt, old)

drops_group : (key : Key) (o : Option Check) (c : Check) → option_map (drops_in key) o ≡ Some c → (b : Check) × (o ≡ Some b) × (b.group ≡ c.group)
drops_group key None c is = absurd (none_some None c refl is)
drops_group key (Some b) c is = (b, refl, ap (λ (z : Check). z.group) (some_injective (drops_in key b) c is))

pub old_check : (group : ℕ) (p : Mark → Bool) (marks : List Mark) (c : Check) → AreOld group marks → check_by (filter p marks) ≡ Some c → c.group ≤ group
old_check group p [] c old is = absurd (none_some None c refl is)
old_check group p (m ∷ marks) c old is = by (λ b. old_check group p marks b old.1) m (p m) old.0 is
  where
    by : ((b : Check) → check_by (filter p marks) ≡ Some b → b.group ≤ group) → (m : Mark) (b : Bool) → IsOld group m → check_by (if b then m ∷ filter p marks else filter p marks) ≡ Some c → c.group ≤ group
    by rest m false own is = rest c is
    by rest (Made t) true own is = (let same = ap (λ (z : Check). z.group) (some_injective _ c is) in omega (arith, same, own))
    by rest (Dropped key t) true own is =
        let b = drops_group key (check_by (filter p marks)) c is in
        let low = rest b.0 b.1 in
        let same = b.2 in
        omega (arith, low, same)
    by rest (GivenUp t) true own is = absurd (none_some None c refl is)

-- ---- what the checkpoint has dropped then

-- it is of this group, and has dropped just these besides
pub record DropsThose (before after : Check) (ds : List Block) : Type 0 where
  pub group_is : after.group ≡ before.group
  pub dropped : (k : Key) → (after.dropped k ≡ true) ↔ ((before.dropped k ≡ true) ⊎ IsAmong k ds)

pub check_dropped : (group : ℕ) (ds : List Block) (marks : List Mark) (c : Check) → check_by marks ≡ Some c → (b : Check) × (check_by (dropped_marks group ds marks) ≡ Some b) × DropsThose c b ds
check_dropped group [] marks c is = (c, is, record { group_is = refl; dropped = λ k. ((λ own. inl own), (λ (has : (c.dropped k ≡ true) ⊎ ⊥). elim has [ inl own ↦ own | inr never ↦ absurd never ])) })
check_dropped group (d ∷ ds) marks c is =
    let z = check_dropped group ds (Dropped (key_in d) group ∷ marks) (drops_in (key_in d) c) (ap (option_map (drops_in (key_in d))) is) in
    (z.0, z.1, record { group_is = z.2.group_is; dropped = λ k. (on z.0 z.2 k, back z.0 z.2 k) })
  where
    either : (a b : Bool) → (a || b) ≡ true → (a ≡ true) ⊎ (b ≡ true)
    either true b is = inl refl
    either false b is = inr is

    first : (a b : Bool) → a ≡ true → (a || b) ≡ true
    first true b is = refl
    first false b is = absurd (cc)

    second : (a b : Bool) → b ≡ true → (a || b) ≡ true
    second true b is = refl
    second false b is = is

    on : (b : Check) → DropsThose (drops_in (key_in d) c) b ds → (k : Key) → b.dropped k ≡ true → (c.dropped k ≡ true) ⊎ IsAmong k (d ∷ ds)
    on b t k has = elim ((t.dropped k).0 has) [
      | inl own ↦ elim (either (key_eq (key_in d) k) (c.dropped k) own) [
        | inl same ↦ inr (inl (key_true (key_in d) k same))
        | inr was ↦ inl was
      ]
      | inr later ↦ inr (inr later)
    ]

    back : (b : Check) → DropsThose (drops_in (key_in d) c) b ds → (k : Key) → (c.dropped k ≡ true) ⊎ IsAmong k (d ∷ ds) → b.dropped k ≡ true
    back b t k (inl was) = (t.dropped k).1 (inl (second (key_eq (key_in d) k) (c.dropped k) was))
    back b t k (inr (inl same)) = (t.dropped k).1 (inl (first (key_eq (key_in d) k) (c.dropped k) (subst (λ j. key_eq (key_in d) j ≡ true) same (key_refl (key_in d)))))
    back b t k (inr (inr later)) = (t.dropped k).1 (inr later)

-- ---- what a check record says of it

insert_on : (k : Key) (d : Block) (es : List Block) → IsAmong k (insert_drop d es) → (key_in d ≡ k) ⊎ IsAmong k es
insert_on k d [] has = has
insert_on k d (e ∷ es) has = by (insert_on k d es) (is_before d e) has
  where
    by : (IsAmong k (insert_drop d es) → (key_in d ≡ k) ⊎ IsAmong k es) → (b : Bool) → IsAmong k (if b then d ∷ e ∷ es else e ∷ insert_drop d es) → (key_in d ≡ k) ⊎ IsAmong k (e ∷ es)
    by rest true has = has
    by rest false (inl own) = inr (inl own)
    by rest false (inr later) = elim (rest later) [ inl own ↦ inl own | inr more ↦ inr (inr more) ]

insert_back : (k : Key) (d : Block) (es : List Block) → (key_in d ≡ k) ⊎ IsAmong k es → IsAmong k (insert_drop d es)
insert_back k d [] has = has
insert_back k d (e ∷ es) has = by (insert_back k d es) (is_before d e) has
  where
    by : ((key_in d ≡ k) ⊎ IsAmong k es → IsAmong k (insert_drop d es)) → (b : Bool) → (key_in d ≡ k) ⊎ IsAmong k (e ∷ es) → IsAmong k (if b then d ∷ e ∷ es else e ∷ insert_drop d es)
    by rest true has = has
    by rest false (inl own) = inr (rest (inl own))
    by rest false (inr (inl here)) = inl here
    by rest false (inr (inr more)) = inr (rest (inr more))

-- what it keeps alone is what the record names
pub record Tells (value : CheckTold) (c : Check) : Type 0 where
  pub group_is : value.group ≡ c.group
  pub dropped : (k : Key) → (c.dropped k ≡ true) ↔ IsAmong k value.drops

tells_drop : (key : Key) (value : CheckTold) (c : Check) → Tells value c → Tells (record { group = value.group; drops = insert_drop (record { object = key.object; seq = key.seq }) value.drops }) (drops_in key c)
tells_drop key value c t = record { group_is = t.group_is; dropped = λ k. (on k, back k) }
  where
    on : (k : Key) → (key_eq key k || c.dropped k) ≡ true → IsAmong k (insert_drop (record { object = key.object; seq = key.seq }) value.drops)
    on k has = insert_back k (record { object = key.object; seq = key.seq }) value.drops (by (key_eq key k) refl has)
      where
        by : (b : Bool) → key_eq key k ≡ b → (b || c.dropped k) ≡ true → (key ≡ k) ⊎ IsAmong k value.drops
        by true same has = inl (key_true key k same)
        by false other has = inr ((t.dropped k).0 has)

    back : (k : Key) → IsAmong k (insert_drop (record { object = key.object; seq = key.seq }) value.drops) → (key_eq key k || c.dropped k) ≡ true
    back k has = elim (insert_on k (record { object = key.object; seq = key.seq }) value.drops has) [
      | inl same ↦ ap (λ b. b || c.dropped k) (subst (λ j. key_eq key j ≡ true) same (key_refl key))
      | inr was ↦ by (key_eq key k) ((t.dropped k).1 was)
    ]
      where
        by : (b : Bool) → c.dropped k ≡ true → (b || c.dropped k) ≡ true
        by true was = refl
        by false was = was

pub told_check : (marks : List Mark) (c : Check) → check_by marks ≡ Some c → Tells (point_told marks) c
told_check [] c is = absurd (none_some None c refl is)
told_check (Made group ∷ marks) c is =
    let same = some_injective (record { group = group; dropped = λ k. false }) c is in
    subst (Tells (record { group = group; drops = [] })) same (record { group_is = refl; dropped = λ k. ((λ has. absurd (cc)), (λ (never : ⊥). absurd never)) })
told_check (Dropped key group ∷ marks) c is = by (told_check marks) (check_by marks) refl is
  where
    by : ((b : Check) → check_by marks ≡ Some b → Tells (point_told marks) b) → (o : Option Check) → check_by marks ≡ o → option_map (drops_in key) o ≡ Some c → Tells (point_told (Dropped key group ∷ marks)) c
    by rest None none is = absurd (none_some None c refl is)
    by rest (Some b) some is = subst (Tells (point_told (Dropped key group ∷ marks))) (some_injective (drops_in key b) c is) (tells_drop key (point_told marks) b (rest b some))
told_check (GivenUp group ∷ marks) c is = absurd (none_some None c refl is)

-- so once blocks were dropped
pub told_dropped : (group : ℕ) (ds : List Block) (marks : List Mark) → point_told (dropped_marks group ds marks) ≡ record { group = (point_told marks).group; drops = drops_with (point_told marks).drops ds }
told_dropped group [] marks = refl
told_dropped group (d ∷ ds) marks = told_dropped group ds (Dropped (key_in d) group ∷ marks)

-- ---- what is stored

-- no block is listed twice
abbrev pub AreOnce : List Block → Type 0
AreOnce list = (i k : ℕ) (d : Block) → k < i → slice_get list i ≡ Some d → slice_get list k ≡ Some d → ⊥

-- a block may be dropped to a checkpoint of this group
pub record MayDrop (changes : List Change) (blocks : Blocks) (group : ℕ) (key : Key) : Type 0 where
  pub m : ℕ
  pub held : Held
  pub there : blocks m key ≡ Some held
  pub live : held.stage ≡ stage.Live
  pub born : held.birth ≤ group
  pub w : Write
  pub last : write_of changes key.object ≡ Some w
  pub other : key_of w ≢ key

module _ (digest : List ℕ → List ℕ) (committed group own : ℕ) (changes : List Change) (blocks : Blocks) (floor : (object : ℕ) → IsFloor changes blocks object group) (behind : own < group) where
  pub stored_dropped : (ds : List Block) (marks : List Mark) (c : Check) → check_by marks ≡ Some c → c.group ≡ own → AreMarkedUpto group marks
      → ((k : ℕ) (d : Block) → slice_get ds k ≡ Some d → MayDrop changes blocks own (key_in d) × (c.dropped (key_in d) ≡ false)) → AreOnce ds
      → Stores digest committed changes marks blocks → Stores digest committed changes (dropped_marks group ds marks) blocks
  stored_dropped [] marks c is same upto each once stores = stores
  stored_dropped (d ∷ ds) marks c is same upto each once stores =
      stored_dropped ds (Dropped (key_in d) group ∷ marks) (drops_in (key_in d) c) (ap (option_map (drops_in (key_in d))) is) same
      (All-cons (λ m. mark_group m ≤ group) (Dropped (key_in d) group) marks (omega arith) upto)
      (λ k e there. ((each (suc k) e there).0, rest k e there)) (λ i k e less at here. once (suc i) (suc k) e (omega (arith, less)) at here)
      (older_dropped digest committed first.m group changes marks blocks (key_in d) first.held first.w c stores is (let born = first.born in omega (arith, born, same)) first.last first.other first.there first.live (each 0 d refl).1 (floor d.object) upto (omega (arith, same, behind)))
    where
      first : MayDrop changes blocks own (key_in d)
      first = (each 0 d refl).0

      same_block : (a b : Block) → key_in a ≡ key_in b → a ≡ b
      same_block a b is = λ i. record { object = (is i).object; seq = (is i).seq }

      rest : (k : ℕ) (e : Block) → slice_get ds k ≡ Some e → (key_eq (key_in d) (key_in e) || c.dropped (key_in e)) ≡ false
      rest k e there = by (key_eq (key_in d) (key_in e)) refl
        where
          by : (b : Bool) → key_eq (key_in d) (key_in e) ≡ b → (b || c.dropped (key_in e)) ≡ false
          by true same = absurd (once (suc k) 0 e (omega arith) there (ap Some (same_block d e (key_true (key_in d) (key_in e) same))))
          by false other = (each (suc k) e there).1
