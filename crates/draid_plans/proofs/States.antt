-- What a pass takes as its targets, and what it does to their logs, in a state that has the slots.
use Rattle.std.proofs.Common.{◌≡◌, ◌≢◌, ◌==◌, ◌+◌, ◌≤◌, ◌||◌, ◌&&◌, not, ◌++◌, ◌∙◌, ℕ, zero, suc, Bool, true, false, List, [], ◌∷◌, Option, Some, None, All, Contains, arith, refl, sym, ap, ap₂, subst, inl, inr, length, filter, cond, map, take, get_or, slice_get, if◌then◌else◌}
use Rattle.std.specs.Prelude.{option_map, slice_index_or}
use Rattle.std.proofs.lemmas.Bool.{true≢false}
use Rattle.std.proofs.lemmas.Bool.Decides.{nat_tests}
use Rattle.std.proofs.lemmas.List.{map-append, take_all, take_more}
use Rattle.std.proofs.lemmas.List.Elements.{All-filter, All-head, filter-append}
use Rattle.std.proofs.lemmas.Option.{slice_get-get_or}
use Rattle.draid_names.specs.declared.arm.Arm.{Arm}
use Rattle.draid_names.specs.declared.arm.ArmAt.{ArmAt}
use Rattle.draid_names.specs.declared.arm.ArmKind.{ArmKind}
use Rattle.draid_names.specs.declared.arm.ArmKind.TheVariants as kinds
use Rattle.draid_names.specs.declared.pass_kind.PassKind.{PassKind}
use Rattle.draid_names.specs.declared.pass_kind.PassKind.TheVariants.{Rebuild, Heal}
use Rattle.draid_machine.specs.declared.names.ArmName.{ArmName}
use Rattle.draid_machine.specs.After.{done_state, each_arm, excise_if, fill_if, map_arm, plan_state, planned_pass}
use Rattle.draid_machine.specs.Arms as arms
use Rattle.draid_machine.specs.Arms.{arms_below, is_here, leaf_answers, leaf_at, online, passes}
use Rattle.draid_machine.specs.Names.{has_name, is_heal, is_leaf, name_eq, up_to, named}
use Rattle.draid_machine.specs.State as machine
use Rattle.draid_machine.proofs.Small.{bool_cases, name_refl, name_true, none_some, some_injective, some_same, true_left}
use Rattle.draid_pass.specs.declared.pass.Pass.{Pass}
use Rattle.draid_ranges.specs.Runs.{is_between}
use Rattle.draid_slots.specs.Changes.{new_arm}
use Rattle.draid_slots.specs.Marks.{is_marked}
use Rattle.draid_slots.specs.States.{HasSlots, arm_in, name_of, names_at, pass_in}
use Rattle.draid_slots.specs.Table.{SlotTable, IsThere, arm_at, arms_of, is_at, is_logged, is_spare_kind}
use Rattle.draid_plans.specs.Ends.{is_good}
use Rattle.draid_plans.specs.Layout.{layout_with}
use Rattle.draid_plans.specs.Logs.{Excises, Fills, has_place, made_good}
use Rattle.draid_plans.specs.Plans.{IsPlanned, Plans, is_filled, max_of}
use Rattle.draid_plans.specs.Targets.{NamedOnce, SuitKind, is_target, places_below, places_in, takes, takes_some, targets_of}
use Rattle.draid_plans.proofs.Changes.{same_place}
use Rattle.draid_plans.proofs.Order.{there_below}

-- ---- lists of arms, and of their names

-- arms that are made good keep their names
names_kept : (xs ys : List Arm) (g : ℕ → Bool) → ((k : ℕ) → slice_get ys k ≡ option_map (made_good (g k)) (slice_get xs k)) → map name_of ys ≡ map name_of xs
names_kept [] [] g same = refl
names_kept [] (y ∷ ys) g same = absurd (none_some None y refl (sym (same zero)))
names_kept (x ∷ xs) [] g same = absurd (none_some None (made_good (g zero) x) refl (same zero))
names_kept (x ∷ xs) (y ∷ ys) g same =
    ap₂ (λ n ns. n ∷ ns) (ap name_of (some_injective y (made_good (g zero) x) (same zero))) (names_kept xs ys (λ k. g (suc k)) (λ k. same (suc k)))

names_append : (slots : SlotTable) (xs ys : List ArmAt) → names_at slots (xs ++ ys) ≡ names_at slots xs ++ names_at slots ys
names_append slots [] ys = refl
names_append slots (x ∷ xs) ys = by (arm_at slots x) (names_append slots xs ys)
  where
    by : (o : Option Arm) → names_at slots (xs ++ ys) ≡ names_at slots xs ++ names_at slots ys → elim o as (λ o. List ArmName) [ None ↦ names_at slots (xs ++ ys) | Some arm ↦ name_of arm ∷ names_at slots (xs ++ ys) ]
        ≡ elim o as (λ o. List ArmName) [ None ↦ names_at slots xs | Some arm ↦ name_of arm ∷ names_at slots xs ] ++ names_at slots ys
    by None rest = rest
    by (Some arm) rest = ap (λ ns. name_of arm ∷ ns) rest

pub names_same : (old new : SlotTable) (ats : List ArmAt) → new.arms ≡ old.arms → names_at new ats ≡ names_at old ats
names_same old new ats same = ap (λ arms. names_at (record old { arms = arms }) ats) same

module _ (slots : SlotTable) (w : machine.State) (has : HasSlots slots w.core) where
  abbrev l : machine.Layout
  l = layout_with slots

  -- ---- targets
  module _ (marks : List (List Bool)) (kind : PassKind) (suits : SuitKind slots marks kind w.core) where
    abbrev T : ArmAt → Bool
    T = is_target slots marks kind

    abbrev M : ArmName → Bool
    M = arms.is_target l w.core kind

    takes_is : (at : ArmAt) (a : Arm) → arm_at slots at ≡ Some a → T at ≡ M (name_of a)
    takes_is at a there = ap (takes_some kind (is_marked marks at.slot at.arm)) there ∙ by kind suits
      where
        answers : (k : ArmKind) → a.kind ≡ k → (a.fresh && (is_spare_kind k || not a.offline)) ≡ (a.fresh && (not (is_leaf (named k a.number)) || passes (leaf_at l w.core.order (named k a.number) 0) (leaf_answers w.core)))
        answers kinds.Leaf e =
            ap (λ b. a.fresh && b) (sym (ap (λ o. is_here o && online o) (subst (λ k. w.core.arm (named k a.number) ≡ Some (arm_in slots at a)) e (has.arms at a there))))
        answers kinds.Spare e = refl

        by : (k : PassKind) → SuitKind slots marks k w.core → takes k (is_marked marks at.slot at.arm) a ≡ arms.is_target l w.core k (name_of a)
        by Rebuild s =
            answers a.kind refl
            ∙ ap (λ o. arms.is_fresh o && (not (is_leaf (name_of a)) || passes (leaf_at l w.core.order (name_of a) 0) (leaf_answers w.core))) (sym (has.arms at a there))
        by Heal s = ap not (s at a there)

    names_in : (slot n : ℕ) → n ≤ length (arms_of slots slot) → names_at slots (filter T (places_in slot n)) ≡ filter M (map name_of (take n (arms_of slots slot)))
    names_in slot zero less = refl
    names_in slot (suc n) less =
        ap (names_at slots) (filter-append T (places_in slot n) (at ∷ []))
        ∙ names_append slots (filter T (places_in slot n)) (filter T (at ∷ []))
        ∙ ap₂ (λ ns ms. ns ++ ms) (names_in slot n (omega (arith, less))) (one (T at) (M (name_of x)) (takes_is at x there))
        ∙ sym (filter-append M (map name_of (take n xs)) (name_of x ∷ []))
        ∙ ap (filter M) (sym (map-append name_of (take n xs) (x ∷ [])) ∙ ap (map name_of) (sym (take_more xs n (new_arm 0) (omega (arith, less))) ∙ ap (λ k. take k xs) (next n)))
      where
        xs : List Arm
        xs = arms_of slots slot

        at : ArmAt
        at = record { slot = slot; arm = n }

        x : Arm
        x = get_or (arms_of slots slot) n (new_arm 0)

        there : arm_at slots (record { slot = slot; arm = n }) ≡ Some (get_or (arms_of slots slot) n (new_arm 0))
        there = slice_get-get_or (arms_of slots slot) n (new_arm 0) (omega (arith, less))

        next : (n : ℕ) → n + 1 ≡ suc n
        next n = omega arith

        one : (b c : Bool) → b ≡ c → names_at slots (cond b (record { slot = slot; arm = n } ∷ []) []) ≡ cond c (name_of (get_or (arms_of slots slot) n (new_arm 0)) ∷ []) []
        one true true e = ap (λ o. elim o as (λ o. List ArmName) [ None ↦ [] | Some arm ↦ name_of arm ∷ [] ]) there
        one true false e = absurd (true≢false e)
        one false true e = absurd (true≢false (sym e))
        one false false e = refl

    names_below : (n : ℕ) → names_at slots (filter T (places_below slots n)) ≡ filter M (arms_below w.core.order n)
    names_below zero = refl
    names_below (suc n) =
        ap (names_at slots) (filter-append T (places_below slots n) (places_in n (length (arms_of slots n))))
        ∙ names_append slots (filter T (places_below slots n)) (filter T (places_in n (length (arms_of slots n))))
        ∙ ap₂ (λ ns ms. ns ++ ms) (names_below n)
        (names_in n (length (arms_of slots n)) (omega arith)
        ∙ ap (λ xs. filter M (map name_of xs)) (take_all (length (arms_of slots n)) (arms_of slots n) (omega arith)) ∙ ap (filter M) (sym (has.order n)))
        ∙ sym (filter-append M (arms_below w.core.order n) (w.core.order n))

    pub targets_are : names_at slots (targets_of slots marks kind) ≡ arms.targets_of l w.core kind
    targets_are = names_below slots.geometry.spec.children

    names_none : (ts : List ArmAt) → names_at slots ts ≡ [] → All (IsThere slots) ts → ts ≡ []
    names_none [] none there = refl
    names_none (t ∷ ts) none there = by (arm_at slots t) refl none
      where
        by : (o : Option Arm) → arm_at slots t ≡ o → elim o as (λ o. List ArmName) [ None ↦ names_at slots ts | Some arm ↦ name_of arm ∷ names_at slots ts ] ≡ [] → t ∷ ts ≡ []
        by None at n = absurd (none_some (arm_at slots t) (get_or (arms_of slots t.slot) t.arm (new_arm 0)) at (slice_get-get_or (arms_of slots t.slot) t.arm (new_arm 0) (All-head (IsThere slots) t ts there)))
        by (Some a) at n = let count : length (name_of a ∷ names_at slots ts) ≡ 0 = ap length n in absurd (omega (arith, count))

    pub some_there : targets_of slots marks kind ≢ [] → arms.targets_of l w.core kind ≢ []
    some_there some none =
        some (names_none (targets_of slots marks kind) (targets_are ∙ none) (All-filter T (IsThere slots) (places_below slots slots.geometry.spec.children) (there_below slots slots.geometry.spec.children)))

    pub none_there : targets_of slots marks kind ≡ [] → arms.targets_of l w.core kind ≡ []
    none_there none = sym targets_are ∙ ap (names_at slots) none

  -- ---- changes of arms
  record Makes (new : SlotTable) (f : ArmName → machine.Arm → machine.Arm) : Type 0 where
    same_gone : new.detached ≡ slots.detached
    names : (slot : ℕ) → map name_of (arms_of new slot) ≡ map name_of (arms_of slots slot)
    from : (at : ArmAt) (a : Arm) → arm_at new at ≡ Some a → (old : Arm) × (arm_at slots at ≡ Some old) × (name_of old ≡ name_of a) × (f (name_of a) (arm_in slots at old) ≡ arm_in new at a)
    to : (at : ArmAt) (old : Arm) → arm_at slots at ≡ Some old → (a : Arm) × (arm_at new at ≡ Some a) × (name_of a ≡ name_of old)
    offline : (n : ArmName) (x : machine.Arm) → (f n x).offline ≡ x.offline
    gone : (n : ArmName) (x : machine.Arm) → (f n x).gone ≡ x.gone

  slots_made : (new : SlotTable) (f : ArmName → machine.Arm → machine.Arm) (pass : Option machine.Pass) (last : ℕ) → Makes new f
      → HasSlots new (record w.core { arm = each_arm f w.core.arm; pass = pass; last = last })
  slots_made new f pass last is = record {
    order = λ slot. has.order slot ∙ sym (is.names slot);
    arms = λ at a there.
        let z = is.from at a there in
        ap (map_arm (f (name_of a))) (subst (λ n. w.core.arm n ≡ Some (arm_in slots at z.0)) z.2 (has.arms at z.0 z.1)) ∙ ap Some z.3;
    detached = λ gone among.
        let g = has.detached gone (subst (λ list. Contains list gone) is.same_gone among) in
        record {
          arm = f (named gone.kind gone.number) g.arm;
          there = ap (map_arm (f (named gone.kind gone.number))) g.there;
          offline = is.offline (named gone.kind gone.number) g.arm ∙ g.offline;
          by = is.gone (named gone.kind gone.number) g.arm ∙ g.by;
        };
    only = λ n some. elim (has.only n (λ none. some (ap (map_arm (f n)) none))) [
      | inl h ↦ (let z = is.to h.at h.arm h.there in inl (record { at = h.at; arm = z.0; there = z.1; name_is = z.2 ∙ h.name_is }))
      | inr g ↦ inr (record { gone = g.gone; among = subst (λ list. Contains list g.gone) (sym is.same_gone) g.among; name_is = g.name_is })
    ];
  }

  -- ---- where no two arms have one name
  module _ (once : NamedOnce slots) where
    names_has : (ts : List ArmAt) (at : ArmAt) (a : Arm) → arm_at slots at ≡ Some a → has_name (names_at slots ts) (name_of a) ≡ has_place ts at
    names_has [] at a here = refl
    names_has (t ∷ ts) at a here = by (arm_at slots t) refl (is_at t at) refl (names_has ts at a here)
      where
        by : (o : Option Arm) → arm_at slots t ≡ o → (b : Bool) → is_at t at ≡ b → has_name (names_at slots ts) (name_of a) ≡ has_place ts at
            → has_name (elim o as (λ o. List ArmName) [ None ↦ names_at slots ts | Some arm ↦ name_of arm ∷ names_at slots ts ]) (name_of a) ≡ (b || has_place ts at)
        by None there true is rest = absurd (none_some (arm_at slots t) a there (subst (λ x. arm_at slots x ≡ Some a) (sym (same_place t at is)) here))
        by None there false is rest = rest
        by (Some x) there true is rest =
            let same : x ≡ a = some_same (arm_at slots at) x a (subst (λ p. arm_at slots p ≡ Some x) (same_place t at is) there) here in
            true_left (name_eq (name_of x) (name_of a)) (has_name (names_at slots ts) (name_of a)) (subst (λ n. name_eq n (name_of a) ≡ true) (sym (ap name_of same)) (name_refl (name_of a)))
        by (Some x) there false is rest = elim (bool_cases (name_eq (name_of x) (name_of a))) [
          | inl equal ↦ absurd (true≢false (sym (self at) ∙ subst (λ p. is_at p at ≡ false) (once t at x a there here (name_true (name_of x) (name_of a) equal)) is))
          | inr differs ↦ ap (λ b. b || has_name (names_at slots ts) (name_of a)) differs ∙ rest
        ]
          where
            self : (at : ArmAt) → is_at at at ≡ true
            self at = grind (arith, nat_tests)

    -- a pass is planned
    module _ (new : SlotTable) (marks : List (List Bool)) (kind : PassKind) (pass : Pass) (suits : SuitKind slots marks kind w.core)
        (planned : IsPlanned slots marks kind pass.number pass.max pass) (fills : Fills slots new (is_filled kind pass.targets.items) pass.max)
        (number : pass.number ≡ w.core.last + 1) (max : pass.max ≡ max_of w kind) where
      named_so : names_at slots pass.targets.items ≡ arms.targets_of l w.core kind
      named_so = ap (names_at slots) planned.targets_are ∙ targets_are marks kind suits

      log_is : (at : ArmAt) (a : Arm) (g : ℕ) → arm_at slots at ≡ Some a
          → (if not (is_heal kind) && has_name (arms.targets_of l w.core kind) (name_of a) then up_to (w.open_group + 1) g else is_logged slots at g) ≡ is_logged new at g
      log_is at a g there =
          ap (λ ns. if not (is_heal kind) && has_name ns (name_of a) then up_to (w.open_group + 1) g else is_logged slots at g) (sym named_so)
          ∙ ap (λ b. if not (is_heal kind) && b then up_to (w.open_group + 1) g else is_logged slots at g) (names_has pass.targets.items at a there)
          ∙ by kind (has_place pass.targets.items at) max ∙ sym (fills.logged at g)
        where
          upto : (m g : ℕ) → up_to m g ≡ is_between 1 (m + 1) g
          upto m g = grind (arith, nat_tests)

          by : (k : PassKind) (b : Bool) → pass.max ≡ max_of w k → (if not (is_heal k) && b then up_to (w.open_group + 1) g else is_logged slots at g)
              ≡ (if not (is_heal k) && b then is_between 1 (pass.max + 1) g else is_logged slots at g)
          by Rebuild true m = upto (w.open_group + 1) g ∙ ap (λ n. is_between 1 (n + 1) g) (sym m)
          by Rebuild false m = refl
          by Heal b m = refl

      slots_planned : HasSlots new (plan_state w kind (arms.targets_of l w.core kind)).core
      slots_planned = slots_made new (λ n. fill_if (not (is_heal kind) && has_name (arms.targets_of l w.core kind) n) (w.open_group + 1))
          ((plan_state w kind (arms.targets_of l w.core kind)).core.pass) (w.core.last + 1) (record {
            same_gone = fills.detached_stay;
            names = λ slot. ap (λ all. map name_of (slice_index_or all slot [])) fills.arms_stay;
            from = λ at a there.
                let was : arm_at slots at ≡ Some a = subst (λ all. slice_get (slice_index_or all at.slot []) at.arm ≡ Some a) fills.arms_stay there in
                (a, was, refl, λ i. record { offline = a.offline; fresh = a.fresh; log = λ g. log_is at a g was i; gone = None });
            to = λ at a there. (a, subst (λ all. slice_get (slice_index_or all at.slot []) at.arm ≡ Some a) (sym fills.arms_stay) there, refl);
            offline = λ n x. refl;
            gone = λ n x. refl;
          })

      pass_planned : planned_pass w kind (arms.targets_of l w.core kind) ≡ pass_in new pass
      pass_planned = by kind planned.kind_is max planned.running_is ∙ (λ i. record {
        number = pass.number;
        kind = pass.kind;
        targets = (sym named_so ∙ sym (names_same slots new pass.targets.items fills.arms_stay)) i;
        max = pass.max;
        next = pass.at;
        errors = pass.errors;
        running = pass.running;
      })
        where
          by : (k : PassKind) → pass.kind ≡ k → pass.max ≡ max_of w k → pass.running ≡ is_heal k → planned_pass w k (arms.targets_of l w.core kind)
              ≡ record { number = pass.number; kind = pass.kind; targets = arms.targets_of l w.core kind; max = pass.max; next = pass.at; errors = pass.errors; running = pass.running }
          by Rebuild k m r = λ i. record {
            number = sym number i;
            kind = sym k i;
            targets = arms.targets_of l w.core kind;
            max = sym m i;
            next = sym planned.first i;
            errors = sym planned.no_errors i;
            running = sym r i;
          }
          by Heal k m r = λ i. record {
            number = sym number i;
            kind = sym k i;
            targets = arms.targets_of l w.core kind;
            max = sym m i;
            next = sym planned.first i;
            errors = sym planned.no_errors i;
            running = sym r i;
          }

      pub plans : Plans w slots new kind pass
      plans = record { slots_are = slots_planned; pass_is = ap Some pass_planned }

    -- a pass ends
    module _ (new : SlotTable) (pass : Pass) (ends : Excises slots new (is_good pass) pass.max) where
      good_is : (at : ArmAt) (a : Arm) → arm_at slots at ≡ Some a → ((pass.errors == 0) && has_name (names_at slots pass.targets.items) (name_of a)) ≡ is_good pass at
      good_is at a there = ap (λ b. (pass.errors == 0) && b) (names_has pass.targets.items at a there)

      made : (at : ArmAt) (a : Arm) → arm_at new at ≡ Some a → (o : Option Arm) → arm_at slots at ≡ o → option_map (made_good (is_good pass at)) o ≡ Some a
          → (old : Arm) × (arm_at slots at ≡ Some old) × (name_of old ≡ name_of a)
          × (excise_if ((pass.errors == 0) && has_name (names_at slots pass.targets.items) (name_of a)) pass.max (arm_in slots at old) ≡ arm_in new at a)
      made at a there None was is = absurd (none_some None a refl is)
      made at a there (Some old) was is =
          let same : made_good (is_good pass at) old ≡ a = some_injective (made_good (is_good pass at) old) a is in
          let good : ((pass.errors == 0) && has_name (names_at slots pass.targets.items) (name_of a)) ≡ is_good pass at =
          ap (λ n. (pass.errors == 0) && has_name (names_at slots pass.targets.items) n) (sym (ap name_of same)) ∙ good_is at old was in (
            old,
            was,
            ap name_of same,
            ap (λ b. excise_if b pass.max (arm_in slots at old)) good
                ∙ (λ i. record { offline = (same i).offline; fresh = (same i).fresh; log = λ g. sym (ends.logged at g) i; gone = None }),
          )

      pub slots_ended : HasSlots new (done_state w (pass_in slots pass)).core
      slots_ended = slots_made new (λ n. excise_if ((pass.errors == 0) && has_name (names_at slots pass.targets.items) n) pass.max) None w.core.last (record {
        same_gone = ends.detached_stay;
        names = λ slot. names_kept (arms_of slots slot) (arms_of new slot) (λ k. is_good pass (record { slot = slot; arm = k })) (λ k. ends.arms_are (record { slot = slot; arm = k }));
        from = λ at a there. made at a there (arm_at slots at) refl (sym (ends.arms_are at) ∙ there);
        to = λ at old there. (made_good (is_good pass at) old, ends.arms_are at ∙ ap (option_map (made_good (is_good pass at))) there, refl);
        offline = λ n x. refl;
        gone = λ n x. refl;
      })
