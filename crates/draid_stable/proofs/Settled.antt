-- A record that is settled says the image of the state that the sealing leaves.
use Rattle.std.proofs.Math.Bool.{or-false}
use Rattle.std.proofs.Common.{◌≡◌, ◌==◌, ◌<◌, ◌+◌, ◌||◌, ◌&&◌, not, ℕ, zero, suc, Bool, true, false, List, [], ◌∷◌, ◌++◌, length, map, filter, count_by, Option, Some, None, IfSome, find, cond, refl, sym, ◌∙◌, ap, subst, arith, slice_get, slice_index_or, option_map}
use Rattle.std.specs.Bool.{⊤}
use Rattle.std.specs.List.{flat_map}
use Rattle.std.specs.declared.alloc.Global.{Global}
use Rattle.std.specs.declared.vec.Vec.{Vec}
use Rattle.std.proofs.lemmas.List.{get_or-map, length-map}
use Rattle.std.proofs.lemmas.List.Elements.{All-head, All-tail}
use Rattle.std.proofs.lemmas.List.Sums.{length-filter}
use Rattle.draid_names.specs.declared.arm.Arm.{Arm}
use Rattle.draid_names.specs.declared.arm.ArmAt.{ArmAt}
use Rattle.draid_names.specs.declared.pass_kind.PassKind.{PassKind}
use Rattle.draid_names.specs.declared.pointer.Pointer.{Pointer}
use Rattle.draid_names.specs.declared.pass_kind.PassKind.TheVariants.{Rebuild, Heal}
use Rattle.draid_ranges.specs.Numbers.{Numbers}
use Rattle.draid_ranges.specs.Runs.{has_in}
use Rattle.draid_machine.specs.declared.names.ArmName.{ArmName}
use Rattle.draid_machine.specs.After.{capped, image_of, keep_if, log_if, lose_some, lost_errors, map_arm, map_pass, seal_arm, sealed_core}
use Rattle.draid_machine.specs.Arms.{is_silent, lies_on}
use Rattle.draid_machine.specs.State as machine
use Rattle.draid_machine.proofs.Small.{name_true}
use Rattle.draid_record.specs.Record.{ArmTold, PassTold, RecordTold, told_arm, told_pass, told_record, told_slot, told_slots}
use Rattle.draid_record.specs.declared.record.Record.{Record}
use Rattle.draid_pass.specs.declared.pass.Pass.{Pass}
use Rattle.draid_stable.specs.Images.{all_arms, arm_by, arm_of, has_name, held_by, image_by, name_of, none_told, order_by, pass_of, target_of}
use Rattle.draid_stable.specs.Sealing.{AreMarked, AreThere, IsReady, IsSettled, MarksSlot, MarksSlots, by_kind, is_lost, lose_marked}

-- ---- two lists, element by element
abbrev pub Zipped : {X : Type 0} → (X → X → Type 0) → List X → List X → Type 0
Zipped R [] [] = ⊤
Zipped R [] (y ∷ ys) = ⊥
Zipped R (x ∷ xs) [] = ⊥
Zipped R (x ∷ xs) (y ∷ ys) = R x y × Zipped R xs ys

zip_append : {X : Type 0} (R : X → X → Type 0) (xs ys us vs : List X) → Zipped R xs ys → Zipped R us vs → Zipped R (xs ++ us) (ys ++ vs)
zip_append R [] [] us vs z w = w
zip_append R [] (y ∷ ys) us vs z w = absurd z
zip_append R (x ∷ xs) [] us vs z w = absurd z
zip_append R (x ∷ xs) (y ∷ ys) us vs z w = (z.0, zip_append R xs ys us vs z.1 w)

zip_flat : {X : Type 0} (R : X → X → Type 0) (xss yss : List (List X)) → Zipped (Zipped R) xss yss → Zipped R (flat_map (λ (xs : List X). xs) xss) (flat_map (λ (xs : List X). xs) yss)
zip_flat R [] [] z = tt
zip_flat R [] (ys ∷ yss) z = absurd z
zip_flat R (xs ∷ xss) [] z = absurd z
zip_flat {X} R (xs ∷ xss) (ys ∷ yss) z = zip_append R xs ys (flat_map (λ (xs : List X). xs) xss) (flat_map (λ (xs : List X). xs) yss) z.0 (zip_flat R xss yss z.1)

pub zip_at : {X : Type 0} (R : X → X → Type 0) (xss yss : List (List X)) (k : ℕ) → Zipped (Zipped R) xss yss → Zipped R (slice_index_or xss k []) (slice_index_or yss k [])
zip_at R [] [] k z = tt
zip_at R [] (ys ∷ yss) k z = absurd z
zip_at R (xs ∷ xss) [] k z = absurd z
zip_at R (xs ∷ xss) (ys ∷ yss) zero z = z.0
zip_at R (xs ∷ xss) (ys ∷ yss) (suc k) z = zip_at R xss yss k z.1

pub zip_from : {X : Type 0} (R : X → X → Type 0) (xs ys : List X) → length ys ≡ length xs → ((k : ℕ) (d : X) → k < length xs → R (slice_index_or xs k d) (slice_index_or ys k d)) → Zipped R xs ys
zip_from R [] [] count each = tt
zip_from R [] (y ∷ ys) count each = absurd (omega (arith, count))
zip_from R (x ∷ xs) [] count each = absurd (omega (arith, count))
zip_from R (x ∷ xs) (y ∷ ys) count each = (each zero x (omega arith), zip_from R xs ys (omega (arith, count)) (λ k d less. each (suc k) d (omega (arith, less))))

pub zip_map : {X Y : Type 0} (R : Y → Y → Type 0) (f : X → Y) (xs ys : List X) → Zipped (λ x y. R (f x) (f y)) xs ys → Zipped R (map f xs) (map f ys)
zip_map R f [] [] z = tt
zip_map R f [] (y ∷ ys) z = absurd z
zip_map R f (x ∷ xs) [] z = absurd z
zip_map R f (x ∷ xs) (y ∷ ys) z = (z.0, zip_map R f xs ys z.1)

zip_same : {X : Type 0} (R : X → X → Type 0) → ((x : X) → R x x) → (xs : List X) → Zipped R xs xs
zip_same R same [] = tt
zip_same R same (x ∷ xs) = (same x, zip_same R same xs)

pub get_is : {X : Type 0} (xs : List X) (k : ℕ) (d : X) → k < length xs → slice_get xs k ≡ Some (slice_index_or xs k d)
get_is [] k d less = absurd (omega (arith, less))
get_is (x ∷ xs) zero d less = refl
get_is (x ∷ xs) (suc k) d less = get_is xs k d (omega (arith, less))

-- ---- what is told, before and after

module _ (bad : ArmName → Bool) (wrote : Bool) (group : ℕ) where
  -- an arm of which just the log changed: it got the group where something was written and the arm is bad
  pub record Logs (old new : ArmTold) : Type 0 where
    pub arm : new.0 ≡ old.0
    pub log : (g : ℕ) → has_in new.1 g ≡ (has_in old.1 g || ((wrote && bad (name_of old)) && (g == group)))

  arm_logged : (n : ArmName) (x y : ArmTold) → Logs x y → name_of x ≡ n → arm_of y ≡ log_if (wrote && bad n) group (arm_of x)
  arm_logged n x y l named =
      let log : (g : ℕ) → has_in y.1 g ≡ (has_in x.1 g || ((wrote && bad n) && (g == group))) = λ g. l.log g ∙ ap (λ m. has_in x.1 g || ((wrote && bad m) && (g == group))) named in
      λ i. record { offline = (l.arm i).offline; fresh = (l.arm i).fresh; log = λ g. log g i; gone = None }

  found : (n : ArmName) (xs ys : List ArmTold) → Zipped Logs xs ys → option_map arm_of (find (has_name n) ys) ≡ map_arm (log_if (wrote && bad n) group) (option_map arm_of (find (has_name n) xs))
  found n [] [] z = refl
  found n [] (y ∷ ys) z = absurd z
  found n (x ∷ xs) [] z = absurd z
  found n (x ∷ xs) (y ∷ ys) z =
      ap (λ b. option_map arm_of (cond b (Some y) (find (has_name n) ys))) (λ i. has_name n (z.0.arm i, y.1)) ∙ by (has_name n x) refl (found n xs ys z.1)
    where
      by : (b : Bool) → has_name n x ≡ b → option_map arm_of (find (has_name n) ys) ≡ map_arm (log_if (wrote && bad n) group) (option_map arm_of (find (has_name n) xs))
          → option_map arm_of (cond b (Some y) (find (has_name n) ys)) ≡ map_arm (log_if (wrote && bad n) group) (option_map arm_of (cond b (Some x) (find (has_name n) xs)))
      by true is rest = ap Some (arm_logged n x y z.0 (name_true (name_of x) n is))
      by false is rest = rest

  names : (xs ys : List ArmTold) → Zipped Logs xs ys → map name_of ys ≡ map name_of xs
  names [] [] z = refl
  names [] (y ∷ ys) z = absurd z
  names (x ∷ xs) [] z = absurd z
  names (x ∷ xs) (y ∷ ys) z = let rest : map name_of ys ≡ map name_of xs = names xs ys z.1 in λ i. name_of (z.0.arm i, y.1) ∷ rest i

  name_at : (xs ys : List ArmTold) (k : ℕ) → Zipped Logs xs ys → name_of (slice_index_or ys k none_told) ≡ name_of (slice_index_or xs k none_told)
  name_at [] [] k z = refl
  name_at [] (y ∷ ys) k z = absurd z
  name_at (x ∷ xs) [] k z = absurd z
  name_at (x ∷ xs) (y ∷ ys) zero z = λ i. name_of (z.0.arm i, y.1)
  name_at (x ∷ xs) (y ∷ ys) (suc k) z = name_at xs ys k z.1

  -- an arm that is there, or isn't, is so before and after
  sealed_arm : (b : Bool) (o : Option machine.Arm) → map_arm (log_if b group) (seal_arm o) ≡ seal_arm (map_arm (log_if b group) o)
  sealed_arm b None = refl
  sealed_arm b (Some a) = by a.gone
    where
      by : (o : Option machine.Gone) → map_arm (log_if b group) (keep_if (elim o as (λ g. Bool) [ None ↦ true | Some g ↦ false ]) a) ≡ keep_if (elim o as (λ g. Bool) [ None ↦ true | Some g ↦ false ]) (log_if b group a)
      by None = refl
      by (Some g) = refl

  -- ---- the pass
  module _ (old new : List (List ArmTold)) (marks : List (List Bool)) (z : Zipped (Zipped Logs) old new) (marked : AreMarked old marks bad) where
    target_same : (place : ArmAt) → target_of new place ≡ target_of old place
    target_same place = name_at (slice_index_or old place.slot []) (slice_index_or new place.slot []) place.arm (zip_at Logs old new place.slot z)

    lost_is : (place : ArmAt) → place.arm < length (slice_index_or old place.slot []) → is_lost marks place ≡ bad (target_of old place)
    lost_is place there = marked place.slot place.arm (slice_index_or (slice_index_or old place.slot []) place.arm none_told) (get_is (slice_index_or old place.slot []) place.arm none_told there)

    left : (ats : List ArmAt) → AreThere old ats → map (target_of new) (filter (λ place. not (is_lost marks place)) ats) ≡ filter (λ n. not (bad n)) (map (target_of old) ats)
    left [] there = refl
    left (at ∷ ats) there = by (bad (target_of old at)) (left ats (All-tail (λ (place : ArmAt). place.arm < length (slice_index_or old place.slot [])) at ats there)) same
      where
        same : is_lost marks at ≡ bad (target_of old at)
        same = lost_is at (All-head (λ (place : ArmAt). place.arm < length (slice_index_or old place.slot [])) at ats there)

        by : (b : Bool) → map (target_of new) (filter (λ place. not (is_lost marks place)) ats) ≡ filter (λ n. not (bad n)) (map (target_of old) ats) → is_lost marks at ≡ b
            → map (target_of new) (filter (λ place. not (is_lost marks place)) (at ∷ ats)) ≡ cond (not b) (target_of old at ∷ filter (λ n. not (bad n)) (map (target_of old) ats)) (filter (λ n. not (bad n)) (map (target_of old) ats))
        by true rest is = ap (λ b. map (target_of new) (cond (not b) (at ∷ filter (λ place. not (is_lost marks place)) ats) (filter (λ place. not (is_lost marks place)) ats))) is ∙ rest
        by false rest is =
            ap (λ b. map (target_of new) (cond (not b) (at ∷ filter (λ place. not (is_lost marks place)) ats) (filter (λ place. not (is_lost marks place)) ats))) is ∙ (λ i. target_same at i ∷ rest i)

    lost_length : (ats : List ArmAt) → AreThere old ats → length (filter (is_lost marks) ats) ≡ length (filter bad (map (target_of old) ats))
    lost_length [] there = refl
    lost_length (at ∷ ats) there =
        ap (λ b. length (cond b (at ∷ filter (is_lost marks) ats) (filter (is_lost marks) ats))) (lost_is at (All-head (λ (place : ArmAt). place.arm < length (slice_index_or old place.slot [])) at ats there))
        ∙ by (bad (target_of old at)) (lost_length ats (All-tail (λ (place : ArmAt). place.arm < length (slice_index_or old place.slot [])) at ats there))
      where
        by : (b : Bool) → length (filter (is_lost marks) ats) ≡ length (filter bad (map (target_of old) ats))
            → length (cond b (at ∷ filter (is_lost marks) ats) (filter (is_lost marks) ats)) ≡ length (cond b (target_of old at ∷ filter bad (map (target_of old) ats)) (filter bad (map (target_of old) ats)))
        by true rest = omega (arith, rest)
        by false rest = rest

    lost_count : (ats : List ArmAt) → AreThere old ats → count_by (is_lost marks) ats ≡ count_by bad (map (target_of old) ats)
    lost_count ats there = sym (length-filter (is_lost marks) ats) ∙ lost_length ats there ∙ length-filter bad (map (target_of old) ats)

    errors : (kind : PassKind) (ats : List ArmAt) → AreThere old ats → by_kind kind (count_by (is_lost marks) ats) ≡ lost_errors kind bad (map (target_of old) ats)
    errors Rebuild ats there = lost_count ats there
    errors Heal ats there = refl

-- ---- the whole
module _ (l : machine.Layout) (q : machine.Core) (failed : List ℕ) (wrote : Bool) (old new : RecordTold) (marks : List (List Bool)) where
  abbrev bad : ArmName → Bool
  bad = lies_on l q (is_silent q failed)

  pub record Settles : Type 0 where
    pub version_is : new.version ≡ old.version
    pub group_is : new.group ≡ old.group
    pub blocks_are : new.blocks ≡ old.blocks
    pub last_is : new.last_pass ≡ old.last_pass
    pub slots_are : Zipped (Zipped (Logs bad wrote old.group)) old.slots new.slots
    pub pass_is : new.pass ≡ option_map (lose_marked marks) old.pass
    pub targets : IfSome old.pass (λ p. AreThere old.slots p.targets)
    pub marked : AreMarked old.slots marks bad
    pub says : image_by old ≡ image_of old.group old.version q

  module _ (s : Settles) where
    arms_are : arm_by new.slots ≡ (λ n. seal_arm ((sealed_core l q old.group failed wrote).arm n))
    arms_are = λ i n. at n i
      where
        at : (n : ArmName) → arm_by new.slots n ≡ seal_arm ((sealed_core l q old.group failed wrote).arm n)
        at n =
            found bad wrote old.group n (all_arms old.slots) (all_arms new.slots) (zip_flat (Logs bad wrote old.group) old.slots new.slots s.slots_are)
            ∙ ap (λ (image : machine.Image). map_arm (log_if (wrote && bad n) old.group) (image.core.arm n)) s.says
            ∙ sealed_arm bad wrote old.group (wrote && bad n) (q.arm n)

    order_is : order_by new.slots ≡ q.order
    order_is = λ i slot. at slot i
      where
        at : (slot : ℕ) → order_by new.slots slot ≡ q.order slot
        at slot =
            names bad wrote old.group (slice_index_or old.slots slot []) (slice_index_or new.slots slot []) (zip_at (Logs bad wrote old.group) old.slots new.slots slot s.slots_are)
            ∙ ap (λ (image : machine.Image). image.core.order slot) s.says

    one_pass : (p : PassTold) → AreThere old.slots p.targets → pass_of new (lose_marked marks p) ≡ lose_some bad (pass_of old p)
    one_pass p there =
        let targets : map (target_of new.slots) (filter (λ place. not (is_lost marks place)) p.targets) ≡ filter (λ n. not (bad n)) (map (target_of old.slots) p.targets) =
        left bad wrote old.group old.slots new.slots marks s.slots_are s.marked p.targets there
        in
        let more : capped (p.errors + by_kind p.kind (count_by (is_lost marks) p.targets)) ≡ capped (p.errors + lost_errors p.kind bad (map (target_of old.slots) p.targets)) =
        ap (λ n. capped (p.errors + n)) (errors bad wrote old.group old.slots new.slots marks s.slots_are s.marked p.kind p.targets there)
        in
        λ i. record { number = s.last_is i; kind = p.kind; targets = targets i; max = p.max; next = p.«at»; errors = more i; running = p.running }

    the_pass : (o : Option PassTold) → IfSome o (λ p. AreThere old.slots p.targets) → option_map (pass_of new) (option_map (lose_marked marks) o) ≡ map_pass (lose_some bad) (option_map (pass_of old) o)
    the_pass None there = refl
    the_pass (Some p) there = ap Some (one_pass p there)

    pass_is : option_map (pass_of new) new.pass ≡ map_pass (lose_some bad) q.pass
    pass_is = ap (option_map (pass_of new)) s.pass_is ∙ the_pass old.pass s.targets ∙ ap (λ (image : machine.Image). map_pass (lose_some bad) image.core.pass) s.says

    pub settled_image : image_by new ≡ image_of old.group old.version (sealed_core l q old.group failed wrote)
    settled_image = λ i. record {
      group = s.group_is i;
      version = s.version_is i;
      core = record {
        held = (ap (λ blocks. held_by blocks) s.blocks_are ∙ ap (λ (image : machine.Image). image.core.held) s.says) i;
        arm = arms_are i;
        order = order_is i;
        pass = pass_is i;
        last = (s.last_is ∙ ap (λ (image : machine.Image). image.core.last) s.says) i;
      };
    }

-- ---- from what the code does
module _ (bad : ArmName → Bool) (marks : List (List Bool)) (group : ℕ) where
  logged : (told other : ArmTold) (b : Bool) → other.0 ≡ told.0 → ((g : ℕ) → has_in other.1 g ≡ (has_in told.1 g || (b && (g == group)))) → b ≡ bad (name_of told) → Logs bad true group told other
  logged told other b same log is = record { arm = same; log = λ g. log g ∙ ap (λ b. has_in told.1 g || (b && (g == group))) is }

  module _ (olds news : List (Vec (Arm × Numbers) Global)) (marked : AreMarked (told_slots olds) marks bad) (m : MarksSlots olds news marks group) where
    tell : Vec (Arm × Numbers) Global → List ArmTold
    tell list = told_slot list.items

    told_here : (k : ℕ) (d : Vec (Arm × Numbers) Global) → k < length olds → (j : ℕ) (e : Arm × Numbers) → j < length (slice_index_or olds k d).items
        → slice_get (slice_index_or (told_slots olds) k []) j ≡ Some (told_arm (slice_index_or (slice_index_or olds k d).items j e))
    unfolding tell
    told_here k d less j e l =
        ap (λ list. slice_get list j) (get_or-map tell olds k d [] less)
        ∙ get_is (told_slot (slice_index_or olds k d).items) j (told_arm e) (let n = length-map (slice_index_or olds k d).items told_arm in omega (arith, l, n))
        ∙ ap Some (get_or-map told_arm (slice_index_or olds k d).items j e (told_arm e) l)

    one_slot : (k : ℕ) (d : Vec (Arm × Numbers) Global) → k < length olds → Zipped (Logs bad true group) (told_slot (slice_index_or olds k d).items) (told_slot (slice_index_or news k d).items)
    one_slot k d less =
        let s : MarksSlot (slice_index_or olds k d).items (slice_index_or news k d).items (slice_index_or marks k []) group = m.each k d less in
        zip_map (Logs bad true group) told_arm (slice_index_or olds k d).items (slice_index_or news k d).items
        (zip_from (λ x y. Logs bad true group (told_arm x) (told_arm y)) (slice_index_or olds k d).items (slice_index_or news k d).items s.count
        (λ j e l. let a = s.each j e l in
        logged (told_arm (slice_index_or (slice_index_or olds k d).items j e)) (told_arm (slice_index_or (slice_index_or news k d).items j e)) (slice_index_or (slice_index_or marks k []) j false) a.arm a.log
        (marked k j (told_arm (slice_index_or (slice_index_or olds k d).items j e)) (told_here k d less j e l))))

    all_slots : Zipped (Zipped (Logs bad true group)) (told_slots olds) (told_slots news)
    all_slots =
        zip_map (Zipped (Logs bad true group)) (λ (list : Vec (Arm × Numbers) Global). told_slot list.items) olds news
        (zip_from (λ (x y : Vec (Arm × Numbers) Global). Zipped (Logs bad true group) (told_slot x.items) (told_slot y.items)) olds news m.count one_slot)

  no_slot : (slots : List (List ArmTold)) → Zipped (Zipped (Logs bad false group)) slots slots
  no_slot = zip_same (Zipped (Logs bad false group)) (zip_same (Logs bad false group) (λ told. record { arm = refl; log = λ g. sym (or-false (has_in told.1 g)) }))

pub settles_image : (old new : Record) (marks : List (List Bool)) (wrote : Bool) → IsReady old → IsSettled old new marks wrote → (l : machine.Layout) (q : machine.Core) (failed : List ℕ)
    → AreMarked (told_slots old.slots.items) marks (lies_on l q (is_silent q failed)) → image_by (told_record old) ≡ image_of old.group old.version q
    → image_by (told_record new) ≡ image_of old.group old.version (sealed_core l q old.group failed wrote)
settles_image old new marks wrote ready settled l q failed marked says = settled_image l q failed wrote (told_record old) (told_record new) marks (record {
  version_is = settled.version_is;
  group_is = settled.group_is;
  blocks_are = ap (λ (v : Vec Pointer Global). v.items) settled.blocks_are;
  last_is = settled.last_is;
  slots_are = by wrote settled.written settled.not_written;
  pass_is = settled.pass_is;
  targets = there old.pass ready.targets;
  marked = marked;
  says = says;
})
  where
    by : (b : Bool) → (b ≡ true → MarksSlots old.slots.items new.slots.items marks old.group) → (b ≡ false → new.slots ≡ old.slots)
        → Zipped (Zipped (Logs (lies_on l q (is_silent q failed)) b old.group)) (told_slots old.slots.items) (told_slots new.slots.items)
    by true marks_ same = all_slots (lies_on l q (is_silent q failed)) marks old.group old.slots.items new.slots.items marked (marks_ refl)
    by false marks_ same =
        subst (λ (v : Vec (Vec (Arm × Numbers) Global) Global). Zipped (Zipped (Logs (lies_on l q (is_silent q failed)) false old.group)) (told_slots old.slots.items) (told_slots v.items)) (sym (same refl))
        (no_slot (lies_on l q (is_silent q failed)) marks old.group (told_slots old.slots.items))

    there : (o : Option Pass) → IfSome o (λ pass. AreThere (told_slots old.slots.items) pass.targets.items) → IfSome (option_map told_pass o) (λ p. AreThere (told_slots old.slots.items) p.targets)
    there None t = tt
    there (Some p) t = t
