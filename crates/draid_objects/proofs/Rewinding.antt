-- What is stored goes on being stored, as a pool goes back to its checkpoint or gives it up.
use Rattle.std.proofs.Common.{arith, ◌≡◌, ◌==◌, ◌+◌, ◌<◌, ◌≤◌, ◌++◌, ◌⊎◌, ℕ, Bool, true, false, nat_le, nat_lt, List, [], ◌∷◌, All, Option, Some, None, IsSome, find, filter, cond, refl, sym, ◌∙◌, ap, subst, inl, inr, if◌then◌else◌}
use Rattle.std.proofs.lemmas.Bool.Decides.{nat_tests}
use Rattle.std.proofs.lemmas.List.Elements.{All-cons, All-head, All-nil, All-tail, All-weaker}
use Rattle.draid_machine.specs.declared.names.Key.{Key}
use Rattle.draid_machine.specs.declared.names.Held.{Held}
use Rattle.draid_machine.specs.declared.names.Stage.TheVariants as stage
use Rattle.draid_machine.specs.Names.{is_block, is_freed_by}
use Rattle.draid_machine.specs.After.{seal_held}
use Rattle.draid_machine.proofs.Small.{none_some, some_same, bool_cases, absurd_test, low, is_low}
use Rattle.draid_machine.proofs.Seals.{sealed_held}
use Rattle.draid_objects.specs.Blocks.{Blocks, SaysOf, sealed_at}
use Rattle.draid_objects.specs.Changes.{Change, Write, Wrote, Freed, Restored, NeverFall, group_of, has_key, kept, key_of, object_of, upto, write_by, write_in, write_of}
use Rattle.draid_objects.specs.Marks.{Check, GivenUp, Mark, born_by, born_upto, check_at, check_by, counted, is_dropped, mark_group, marks_upto, shown_at}
use Rattle.draid_objects.specs.Rewinds.{FreesThose, GoesBack, IsRewound, freed_in, is_its_own, is_younger}
use Rattle.draid_objects.specs.Stores.{AreMarkedUpto, HasCheck, IsBlockOf, IsFloor, Stores}
use Rattle.draid_objects.proofs.Checking.{born_late, check_same, count_kept, count_gone, high, late_sealed}
use Rattle.draid_objects.proofs.Finding.{kept_all}
use Rattle.draid_objects.proofs.Marking.{before, check_at_low, over, upto_all}
use Rattle.draid_objects.proofs.Sealing.{freed_later, freed_live, gone_sealed, is_some_of, live_block, none_or, says_same, sealed_some, some_of, stages}

younger : (c b : ℕ) → nat_lt c b ≡ true → c < b
younger c b e = grind (arith, nat_tests)

no_younger : (c b : ℕ) → nat_lt c b ≡ false → b ≤ c
no_younger c b e = grind (arith, nat_tests)

-- the checkpoint is given up in this group and in all later ones
given : (t g : ℕ) (ms : List Mark) → g ≤ t → check_at t (GivenUp g ∷ ms) ≡ None
given t g ms less = ap (λ b. check_by (cond b (GivenUp g ∷ marks_upto t ms) (marks_upto t ms))) (low g t less)

-- ---- blocks that pass a test are freed
module _ (digest : List ℕ → List ℕ) (committed : ℕ) (cs : List Change) (marks : List Mark) (test : Key → Held → Bool) (g : ℕ) (old new : Blocks) (s : Stores digest committed cs marks old)
    (floors : (o : ℕ) → IsFloor cs old o g) (frees : FreesThose test g old new) where
  -- before that group the images are as they were
  earlier : (t : ℕ) → t < g → (m : ℕ) (k : Key) → sealed_at t new m k ≡ sealed_at t old m k
  earlier t less m k = elim (frees m k) [
    | inl z ↦ ap (seal_held t) z.4 ∙ freed_later t g z.0 z.2 less ∙ ap (seal_held t) (sym z.1)
    | inr z ↦ ap (seal_held t) z.0
  ]

  freed_gone : (t : ℕ) → g ≤ t → (m : ℕ) (k : Key) (h : Held) → new m k ≡ Some (freed_in g h) → sealed_at t new m k ≡ None
  freed_gone t less m k h e = ap (seal_held t) e ∙ gone_sealed t g (freed_in g h) less refl

  -- from then on what an image had that didn't pass is what is live
  was_live : (t : ℕ) → g ≤ t → (m : ℕ) (k : Key) (x : Held) → sealed_at t old m k ≡ Some x → (h : Held) × (old m k ≡ Some h) × (h.stage ≡ stage.Live) × (x ≡ record h { stage = stage.Live })
  was_live t less m k x e =
      let y = sealed_held t (old m k) x e in
      (y.h, y.found, live y.h y.found y.block y.stays, y.is)
    where
      live : (h : Held) → old m k ≡ Some h → is_block h.stage ≡ true → is_freed_by t h.stage ≡ false → h.stage ≡ stage.Live
      live h found block stays = elim (stages h.stage block) [
        | inl l ↦ l
        | inr f ↦
            let early = (floors k.object).freed m k h f.0 found refl f.1 in
            absurd_test (is_freed_by t h.stage) (ap (is_freed_by t) f.1 ∙ low f.0 t (omega (arith, early, less))) stays
      ]

  only_by : (ds : List Change) → ((k : Key) → write_by ds k ≡ write_by cs k) → (m : ℕ) (k : Key) (h : Held) → new m k ≡ Some h → is_block h.stage ≡ true
      → (v : Write) × (write_by ds k ≡ Some v) × (v.metaslab ≡ m) × IsBlockOf digest v h
  only_by ds same m k h e b = elim (frees m k) [
    | inl z ↦
        let v = s.only m k z.0 z.1 (live_block z.0.stage z.2) in
        (v.0, same k ∙ v.1, v.2, subst (λ x. IsBlockOf digest v.0 x) (some_same (new m k) (freed_in g z.0) h z.4 e) (record { birth = v.3.birth; len = v.3.len; digest_is = v.3.digest_is }))
    | inr z ↦ let v = s.only m k h (sym z.0 ∙ e) b in (v.0, same k ∙ v.1, v.2, v.3)
  ]

  live_was : (m : ℕ) (k : Key) (h : Held) → new m k ≡ Some h → h.stage ≡ stage.Live → (old m k ≡ Some h) × (test k h ≡ false)
  live_was m k h e l = elim (frees m k) [
    | inl z ↦ absurd (freed_live h.stage g (ap (λ (x : Held). x.stage) (sym (some_same (new m k) (freed_in g z.0) h z.4 e))) l)
    | inr z ↦ (sym z.0 ∙ e, z.1 h (sym z.0 ∙ e) l)
  ]

-- ---- a discard
pub discarded : (digest : List ℕ → List ℕ) (committed g : ℕ) (cs : List Change) (marks : List Mark) (c : Check) (old new : Blocks) → Stores digest committed cs marks old
    → check_by marks ≡ Some c → committed < g → ((o : ℕ) → IsFloor cs old o g) → AreMarkedUpto g marks → FreesThose (is_its_own c) g old new
    → Stores digest committed cs (GivenUp g ∷ marks) new
discarded digest committed g cs marks c old new s check later floors upto_g frees = record {
  falls = s.falls;
  marked = (upto_g, s.marked);
  only = only_by digest committed cs marks (is_its_own c) g old new s floors frees cs (λ k. refl);
  last = s.last;
  live = λ m k h e l d. (let z = live_was digest committed cs marks (is_its_own c) g old new s floors frees m k h e l in s.live m k h z.0 l (ap (λ o. is_dropped o k) check ∙ z.1));
  says = λ t o less. says_same (shown_at marks t old) (shown_at (GivenUp g ∷ marks) t new) o (kept t cs o) (λ m k at. same t m k (nat_le g t) refl) (s.says t o less);
  checked = λ t d less is. checks t d less is (nat_le g t) refl;
}
  where
    same : (t m : ℕ) (k : Key) (b : Bool) → nat_le g t ≡ b → shown_at (GivenUp g ∷ marks) t new m k ≡ shown_at marks t old m k
    same t m k false young =
        ap (λ y. counted y (sealed_at t new) m k) (before t (GivenUp g) marks (over g t young))
        ∙ ap (λ (x : Option Held). if is_dropped (check_at t marks) k then None else x) (earlier digest committed cs marks (is_its_own c) g old new s floors frees t (over g t young) m k)
    same t m k true done =
        ap (λ y. counted y (sealed_at t new) m k) (given t g marks (is_low g t done)) ∙ by (c.dropped k) refl
        ∙ sym (ap (λ o. counted o (sealed_at t old) m k) (upto_all t g marks upto_g (is_low g t done) ∙ check))
      where
        by : (b : Bool) → c.dropped k ≡ b → sealed_at t new m k ≡ counted (Some c) (sealed_at t old) m k
        by true drop = none_or (sealed_at t new m k) (λ x e. elim (frees m k) [
          | inl z ↦ none_some (sealed_at t new m k) x (freed_gone digest committed cs marks (is_its_own c) g old new s floors frees t (is_low g t done) m k z.0 z.4) e
          | inr z ↦
              let y = was_live digest committed cs marks (is_its_own c) g old new s floors frees t (is_low g t done) m k x (sym (ap (seal_held t) z.0) ∙ e) in
              absurd_test (c.dropped k) drop (z.1 y.0 y.1 y.2)
        ]) ∙ sym (count_gone (Some c) (sealed_at t old) m k drop)
        by false keep = elim (frees m k) [
          | inl z ↦ absurd_test (c.dropped k) z.3 keep
          | inr z ↦ ap (seal_held t) z.0
        ] ∙ sym (count_kept (Some c) (sealed_at t old) m k keep)

    checks : (t : ℕ) (d : Check) → committed ≤ t → check_at t (GivenUp g ∷ marks) ≡ Some d → (b : Bool) → nat_le g t ≡ b → HasCheck cs d (sealed_at t new)
    checks t d less is true done = absurd (none_some (check_at t (GivenUp g ∷ marks)) d (given t g marks (is_low g t done)) is)
    checks t d less is false young = check_same cs cs d (sealed_at t old) (sealed_at t new) (s.checked t d less (sym (before t (GivenUp g) marks (over g t young)) ∙ is))
        (λ m k. ap (born_by d.group) (earlier digest committed cs marks (is_its_own c) g old new s floors frees t (over g t young) m k)) (λ o. refl) (λ o v was. refl)

-- ---- a rewind
-- what goes back is of that group, and no write
module _ (check g : ℕ) (cs : List Change) where
  back_group : (d : Change) → GoesBack check g cs d → group_of d ≡ g
  back_group (Wrote w) z = absurd z
  back_group (Freed o f) z = z.0
  back_group (Restored w f) z = z.0

  back_key : (d : Change) → GoesBack check g cs d → (k : Key) → has_key k d ≡ false
  back_key (Wrote w) z k = absurd z
  back_key (Freed o f) z k = refl
  back_key (Restored w f) z k = refl

  by_back : (back : List Change) → All (GoesBack check g cs) back → (k : Key) → write_by (back ++ cs) k ≡ write_by cs k
  by_back [] all k = refl
  by_back (d ∷ back) all k =
      ap (λ b. write_in (cond b (Some d) (find (has_key k) (back ++ cs)))) (back_key d (All-head (GoesBack check g cs) d back all) k)
      ∙ by_back back (All-tail (GoesBack check g cs) d back all) k

  upto_back : (t : ℕ) → t < g → (back : List Change) → All (GoesBack check g cs) back → upto t (back ++ cs) ≡ upto t cs
  upto_back t less [] all = refl
  upto_back t less (d ∷ back) all =
      let group = back_group d (All-head (GoesBack check g cs) d back all) in
      ap (λ b. cond b (d ∷ upto t (back ++ cs)) (upto t (back ++ cs))) (high (group_of d) t (omega (arith, group, less)))
      ∙ upto_back t less back (All-tail (GoesBack check g cs) d back all)

  all_back : (o t : ℕ) → g ≤ t → (back : List Change) → All (GoesBack check g cs) back → All (λ d. object_of d ≡ o → group_of d ≤ g) cs → All (λ d. object_of d ≡ o → group_of d ≤ t) (back ++ cs)
  all_back o t less [] all floor = All-weaker (λ d. object_of d ≡ o → group_of d ≤ g) (λ d. object_of d ≡ o → group_of d ≤ t) (λ d z at. let a = z at in omega (arith, a, less)) cs floor
  all_back o t less (d ∷ back) all floor =
      let group = back_group d (All-head (GoesBack check g cs) d back all) in
      All-cons (λ d. object_of d ≡ o → group_of d ≤ t) d (back ++ cs) (λ at. omega (arith, group, less)) (all_back o t less back (All-tail (GoesBack check g cs) d back all) floor)

  falls_back : ((o : ℕ) → All (λ d. object_of d ≡ o → group_of d ≤ g) cs) → NeverFall cs → (back : List Change) → All (GoesBack check g cs) back → NeverFall (back ++ cs)
  falls_back floors falls [] all = falls
  falls_back floors falls (d ∷ back) all =
      let group = back_group d (All-head (GoesBack check g cs) d back all) in
      let rest = All-tail (GoesBack check g cs) d back all in
      (all_back (object_of d) (group_of d) (omega (arith, group)) back rest (floors (object_of d)), falls_back floors falls back rest)

pub rewound : (digest : List ℕ → List ℕ) (committed g : ℕ) (cs now : List Change) (marks : List Mark) (c : Check) (old new : Blocks) → Stores digest committed cs marks old
    → check_by marks ≡ Some c → committed < g → c.group ≤ committed → ((o : ℕ) → IsFloor cs old o g) → AreMarkedUpto g marks → FreesThose (is_younger c) g old new
    → IsRewound c.group g cs now → Stores digest committed now (GivenUp g ∷ marks) new
rewound digest committed g cs now marks c old new s check later of_committed floors upto_g frees back = record {
  falls = subst NeverFall (sym back.are) (falls_back c.group g cs (λ o. (floors o).changed) s.falls back.back back.each);
  marked = (upto_g, s.marked);
  only = only_by digest committed cs marks (is_younger c) g old new s floors frees now by_key;
  last = λ t o v less is. by_key (key_of v) ∙ lasts t o v less is (nat_le g t) refl;
  live = λ m k h e l d. lives m k h e l;
  says = λ t o less. by t o less (nat_le g t) refl;
  checked = λ t d less is. checks t d less is (nat_le g t) refl;
}
  where
    by_key : (k : Key) → write_by now k ≡ write_by cs k
    by_key k = ap (λ x. write_by x k) back.are ∙ by_back c.group g cs back.back back.each k

    young_kept : (t o : ℕ) → t < g → kept t now o ≡ kept t cs o
    young_kept t o less = ap (λ x. write_of x o) (ap (upto t) back.are ∙ upto_back c.group g cs t less back.back back.each)

    old_kept : (t o : ℕ) → g ≤ t → kept t now o ≡ kept c.group cs o
    old_kept t o less =
        kept_all t o now (subst (λ x. All (λ d. object_of d ≡ o → group_of d ≤ t) x) (sym back.are) (all_back c.group g cs o t less back.back back.each (floors o).changed)) ∙ back.now o

    has : (t : ℕ) → g ≤ t → HasCheck cs c (sealed_at t old)
    has t less = s.checked t c (omega (arith, later, less)) (upto_all t g marks upto_g less ∙ check)

    lasts : (t o : ℕ) (v : Write) → committed ≤ t → kept t now o ≡ Some v → (b : Bool) → nat_le g t ≡ b → write_by cs (key_of v) ≡ Some v
    lasts t o v less is true done = (has t (is_low g t done)).last o v (sym (old_kept t o (is_low g t done)) ∙ is)
    lasts t o v less is false young = s.last t o v less (sym (young_kept t o (over g t young)) ∙ is)

    -- from that group on the images have the checkpoint's blocks
    its : (t : ℕ) → g ≤ t → (m : ℕ) (k : Key) → sealed_at t new m k ≡ born_upto c.group (sealed_at t old) m k
    its t less m k = elim (frees m k) [
      | inl z ↦
          freed_gone digest committed cs marks (is_younger c) g old new s floors frees t less m k z.0 z.4
          ∙ sym (late_sealed t c.group (old m k) z.0 z.1 (younger c.group z.0.birth z.3))
      | inr z ↦ ap (seal_held t) z.0 ∙ sym (kept_born (sealed_at t old m k) refl z.1)
    ]
      where
        kept_born : (p : Option Held) → sealed_at t old m k ≡ p → ((h : Held) → old m k ≡ Some h → h.stage ≡ stage.Live → is_younger c k h ≡ false) → born_by c.group (sealed_at t old m k) ≡ sealed_at t old m k
        kept_born None e rest = ap (born_by c.group) e ∙ sym e
        kept_born (Some x) e rest =
            let y = was_live digest committed cs marks (is_younger c) g old new s floors frees t less m k x e in
            let birth = ap (λ (i : Held). i.birth) y.3 in
            let early = no_younger c.group y.0.birth (rest y.0 y.1 y.2) in
            ap (born_by c.group) e ∙ ap (λ b. if b then Some x else None) (low x.birth c.group (omega (arith, birth, early))) ∙ sym e

    lives : (m : ℕ) (k : Key) (h : Held) → new m k ≡ Some h → h.stage ≡ stage.Live → IsSome (write_of now k.object)
    lives m k h e l =
        let t : ℕ = g + h.birth in
        let there : IsSome (sealed_at t new m k) = is_some_of (sealed_at t new m k) (record h { stage = stage.Live })
        (ap (seal_held t) e ∙ sealed_some t h (live_block h.stage l) (omega arith) (ap (is_freed_by t) l)) in
        subst IsSome (sym (back.now k.object)) (some (kept c.group cs k.object) refl ((has t (omega arith)).says k.object) (subst IsSome (its t (omega arith) m k) there))
      where
        some : (v : Option Write) → kept c.group cs k.object ≡ v → SaysOf (born_upto c.group (sealed_at (g + h.birth) old)) k.object v → IsSome (born_upto c.group (sealed_at (g + h.birth) old) m k)
            → IsSome (kept c.group cs k.object)
        some None is y there =
            let x = some_of (born_upto c.group (sealed_at (g + h.birth) old) m k) there in
            absurd (none_some (born_upto c.group (sealed_at (g + h.birth) old) m k) x.0 (y m k refl) x.1)
        some (Some w) is y there = is_some_of (kept c.group cs k.object) w is

    by : (t o : ℕ) → committed ≤ t → (b : Bool) → nat_le g t ≡ b → SaysOf (shown_at (GivenUp g ∷ marks) t new) o (kept t now o)
    by t o less true done =
        subst (λ v. SaysOf (shown_at (GivenUp g ∷ marks) t new) o v) (sym (old_kept t o (is_low g t done)))
        (says_same (born_upto c.group (sealed_at t old)) (shown_at (GivenUp g ∷ marks) t new) o (kept c.group cs o)
        (λ m k at. ap (λ y. counted y (sealed_at t new) m k) (given t g marks (is_low g t done)) ∙ its t (is_low g t done) m k) ((has t (is_low g t done)).says o))
    by t o less false young =
        subst (λ v. SaysOf (shown_at (GivenUp g ∷ marks) t new) o v) (sym (young_kept t o (over g t young)))
        (says_same (shown_at marks t old) (shown_at (GivenUp g ∷ marks) t new) o (kept t cs o)
        (λ m k at. ap (λ y. counted y (sealed_at t new) m k) (before t (GivenUp g) marks (over g t young))
        ∙ ap (λ (x : Option Held). if is_dropped (check_at t marks) k then None else x) (earlier digest committed cs marks (is_younger c) g old new s floors frees t (over g t young) m k)) (s.says t o less))

    checks : (t : ℕ) (d : Check) → committed ≤ t → check_at t (GivenUp g ∷ marks) ≡ Some d → (b : Bool) → nat_le g t ≡ b → HasCheck now d (sealed_at t new)
    checks t d less is true done = absurd (none_some (check_at t (GivenUp g ∷ marks)) d (given t g marks (is_low g t done)) is)
    checks t d less is false young =
        let was_ = sym (before t (GivenUp g) marks (over g t young)) ∙ is in
        let low_ = check_at_low t marks d was_ in
        let late = over g t young in
        check_same cs now d (sealed_at t old) (sealed_at t new) (s.checked t d less was_)
        (λ m k. ap (born_by d.group) (earlier digest committed cs marks (is_younger c) g old new s floors frees t (over g t young) m k))
        (λ o. young_kept d.group o (omega (arith, low_, late))) (λ o v at. by_key (key_of v))
