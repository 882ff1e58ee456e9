-- Blocks store what befell the objects where this is so of each object by itself.
use Rattle.std.proofs.Common.{◌≡◌, ◌==◌, ◌≤◌, ◌∙◌, ℕ, Bool, true, false, nat_le, List, [], ◌∷◌, Option, Some, None, IsSome, All, find, filter, cond, refl, sym, ap, subst, if◌then◌else◌}
use Rattle.std.proofs.lemmas.List.Elements.{All-cons, All-filter, All-head, All-nil, All-tail, All-weaker}
use Rattle.draid_machine.specs.declared.names.Key.{Key}
use Rattle.draid_machine.specs.declared.names.Held.{Held}
use Rattle.draid_machine.specs.declared.names.Stage.TheVariants.{Live}
use Rattle.draid_machine.specs.After.{seal_held}
use Rattle.draid_machine.specs.Names.{is_block}
use Rattle.draid_machine.proofs.Small.{absurd_test, both_true, equal, none_some}
use Rattle.draid_objects.specs.Blocks.{Blocks, SaysOf, sealed_at}
use Rattle.draid_objects.specs.Changes.{Change, Freed, NeverFall, Restored, Write, Wrote, group_of, has_key, kept, key_of, object_of, own, upto, write_by, write_in, write_of}
use Rattle.draid_objects.specs.Marks.{Check, Mark, MarksNeverFall, born_by, born_upto, check_at, check_by, is_dropped, shown_at}
use Rattle.draid_objects.specs.Stores.{HasCheck, HasOne, IsBlockOf, IsFloor, Stores}
use Rattle.draid_pool.proofs.Lastly.{write_object}
use Rattle.draid_section.proofs.Markwise.{SameCheck, Undropped, filters_commute, same_check, same_dropped}

-- ---- one object's changes

-- what passes one test is found first among what passes a weaker one
found_within : {A : Type 0} (p q : A → Bool) → ((x : A) → p x ≡ true → q x ≡ true) → (xs : List A) → find p (filter q xs) ≡ find p xs
found_within p q weaker [] = refl
found_within p q weaker (x ∷ xs) = by (p x) (q x) refl refl (found_within p q weaker xs)
  where
    by : (b c : Bool) → p x ≡ b → q x ≡ c → find p (filter q xs) ≡ find p xs → find p (cond c (x ∷ filter q xs) (filter q xs)) ≡ cond b (Some x) (find p xs)
    by true true px qx rest = ap (λ b. cond b (Some x) (find p (filter q xs))) px
    by true false px qx rest = absurd_test (q x) (weaker x px) qx
    by false true px qx rest = ap (λ b. cond b (Some x) (find p (filter q xs))) px ∙ rest
    by false false px qx rest = rest

all_within : {A : Type 0} (P : A → Type 0) (q : A → Bool) (xs : List A) → All P (filter q xs) → All (λ x. q x ≡ true → P x) xs
all_within P q [] all = All-nil (λ x. q x ≡ true → P x)
all_within P q (x ∷ xs) all = by (q x) refl all (all_within P q xs)
  where
    by : (b : Bool) → q x ≡ b → All P (cond b (x ∷ filter q xs) (filter q xs)) → (All P (filter q xs) → All (λ x. q x ≡ true → P x) xs) → All (λ x. q x ≡ true → P x) (x ∷ xs)
    by true is all rest = All-cons (λ x. q x ≡ true → P x) x xs (λ t. All-head P x (filter q xs) all) (rest (All-tail P x (filter q xs) all))
    by false is all rest = All-cons (λ x. q x ≡ true → P x) x xs (λ t. absurd_test (q x) t is) (rest all)

abbrev is_of : ℕ → Change → Bool
is_of o c = object_of c == o

last_one : (cs : List Change) (o : ℕ) → write_of (own o cs) o ≡ write_of cs o
last_one cs o = ap write_in (found_within (is_of o) (is_of o) (λ c is. is) cs)

by_one : (cs : List Change) (k : Key) → write_by (own k.object cs) k ≡ write_by cs k
by_one cs k = ap write_in (found_within (has_key k) (is_of k.object) key_object cs)
  where
    key_object : (c : Change) → has_key k c ≡ true → is_of k.object c ≡ true
    key_object (Wrote w) is = (both_true (w.object == k.object) (w.seq == k.seq) is).0
    key_object (Freed p g) is = absurd_test false is refl
    key_object (Restored w g) is = absurd_test false is refl

kept_one : (t : ℕ) (cs : List Change) (o : ℕ) → kept t (own o cs) o ≡ kept t cs o
kept_one t cs o = ap (λ x. write_of x o) (filters_commute (λ c. nat_le (group_of c) t) (is_of o) cs) ∙ last_one (upto t cs) o

falls_one : (o : ℕ) (cs : List Change) → NeverFall cs → NeverFall (own o cs)
falls_one o [] f = tt
falls_one o (c ∷ cs) f = by (is_of o c) (falls_one o cs f.1)
  where
    by : (b : Bool) → NeverFall (own o cs) → NeverFall (cond b (c ∷ own o cs) (own o cs))
    by true rest = (All-filter (is_of o) (λ d. object_of d ≡ object_of c → group_of d ≤ group_of c) cs f.0, rest)
    by false rest = rest

abbrev Falls : Change → Change → Type 0
Falls c d = object_of d ≡ object_of c → group_of d ≤ group_of c

falls_head : (c : Change) (cs : List Change) → NeverFall (own (object_of c) (c ∷ cs)) → All (Falls c) cs
falls_head c cs f =
    let first : NeverFall (c ∷ own (object_of c) cs) = subst (λ b. NeverFall (cond b (c ∷ own (object_of c) cs) (own (object_of c) cs))) (equal (object_of c) (object_of c) refl) f in
    All-weaker (λ d. is_of (object_of c) d ≡ true → Falls c d) (Falls c) (λ d z at. z (equal (object_of d) (object_of c) at) at) cs (all_within (Falls c) (is_of (object_of c)) cs first.0)

falls_tail : (c : Change) (cs : List Change) (o : ℕ) (b : Bool) → NeverFall (cond b (c ∷ own o cs) (own o cs)) → NeverFall (own o cs)
falls_tail c cs o true z = z.1
falls_tail c cs o false z = z

falls_from : (cs : List Change) → ((o : ℕ) → NeverFall (own o cs)) → NeverFall cs
falls_from [] f = tt
falls_from (c ∷ cs) f = (falls_head c cs (f (object_of c)), falls_from cs (λ o. falls_tail c cs o (is_of o c) (f o)))

-- ---- what is said of an object

says_on : (a b : Blocks) (o : ℕ) (v : Option Write) → ((m : ℕ) (k : Key) → k.object ≡ o → b m k ≡ a m k) → SaysOf a o v → SaysOf b o v
says_on a b o None same says = λ m k of. same m k of ∙ says m k of
says_on a b o (Some w) same says = record {
  object_is = says.object_is;
  there = subst IsSome (sym (same w.metaslab (key_of w) says.object_is)) says.there;
  others = λ m k of some. says.others m k of (subst IsSome (same m k of) some);
}

-- The blocks of one object store what befell it, beside a checkpoint that may keep some alone.
pub record StoresOne (digest : List ℕ → List ℕ) (committed : ℕ) (changes : List Change) (marks : List Mark) (blocks : Blocks) (object : ℕ) : Type 0 where
  pub falls : NeverFall (own object changes)
  pub only : (m : ℕ) (k : Key) (h : Held) → k.object ≡ object → blocks m k ≡ Some h → is_block h.stage ≡ true → (write : Write) × (write_by changes k ≡ Some write) × (write.metaslab ≡ m) × IsBlockOf digest write h
  pub last : (group : ℕ) (write : Write) → committed ≤ group → kept group changes object ≡ Some write → write_by changes (key_of write) ≡ Some write
  pub live : (m : ℕ) (k : Key) (h : Held) → k.object ≡ object → blocks m k ≡ Some h → h.stage ≡ Live → is_dropped (check_by marks) k ≡ false → IsSome (write_of changes object)
  pub says : (group : ℕ) → committed ≤ group → SaysOf (shown_at marks group blocks) object (kept group changes object)
  pub kept_says : (group : ℕ) (check : Check) → committed ≤ group → check_at group marks ≡ Some check → SaysOf (born_upto check.group (sealed_at group blocks)) object (kept check.group changes object)
  pub kept_last : (group : ℕ) (check : Check) (write : Write) → committed ≤ group → check_at group marks ≡ Some check → kept check.group changes object ≡ Some write → write_by changes (key_of write) ≡ Some write
  pub one : (group : ℕ) (check : Check) → committed ≤ group → check_at group marks ≡ Some check → HasOne (born_upto check.group (sealed_at group blocks)) object
  pub drops : (group : ℕ) (check : Check) (k : Key) → committed ≤ group → check_at group marks ≡ Some check → k.object ≡ object → check.dropped k ≡ true → (m : ℕ) × IsSome (born_upto check.group (sealed_at group blocks) m k)

-- ---- an object's own changes, and all

module _ (some changes : List Change) (o : ℕ) (changed : own o some ≡ own o changes) where
  pub by_same : (k : Key) → k.object ≡ o → write_by some k ≡ write_by changes k
  by_same k of = sym (by_one some k) ∙ (ap (λ x. write_by x k) (subst (λ p. own p some ≡ own p changes) (sym of) changed) ∙ by_one changes k)

  pub last_same : write_of some o ≡ write_of changes o
  last_same = sym (last_one some o) ∙ (ap (λ x. write_of x o) changed ∙ last_one changes o)

  kept_same : (t : ℕ) → kept t some o ≡ kept t changes o
  kept_same t = sym (kept_one t some o) ∙ (ap (λ x. kept t x o) changed ∙ kept_one t changes o)

module _ (digest : List ℕ → List ℕ) (committed : ℕ) (changes : List Change) (marks : List Mark) (blocks : Blocks) where
  -- some blocks, of which an object has the same, store what befell it, beside marks that say the same of it
  module _ (o : ℕ) (some : List Change) (said : List Mark) (held : Blocks) (s : Stores digest committed some said held) (changed : own o some ≡ own o changes)
      (same : (m : ℕ) (k : Key) → k.object ≡ o → blocks m k ≡ held m k) (now : SameCheck o (check_by said) (check_by marks)) (at : (t : ℕ) → SameCheck o (check_at t said) (check_at t marks)) where
    sealed_same : (t m : ℕ) (k : Key) → k.object ≡ o → sealed_at t blocks m k ≡ sealed_at t held m k
    sealed_same t m k of = ap (seal_held t) (same m k of)

    shown_same : (t m : ℕ) (k : Key) → k.object ≡ o → shown_at marks t blocks m k ≡ shown_at said t held m k
    shown_same t m k of =
        ap (λ b. if b then None else sealed_at t blocks m k) (sym (same_dropped o (check_at t said) (check_at t marks) k (at t) of))
        ∙ ap (λ h. if is_dropped (check_at t said) k then None else h) (sealed_same t m k of)

    -- of its checkpoint
    own_of : (t : ℕ) (check : Check) → committed ≤ t → check_at t marks ≡ Some check → (c : Check) × (check_at t said ≡ Some c) × (c.group ≡ check.group) × ((k : Key) → k.object ≡ o → c.dropped k ≡ check.dropped k)
    own_of t check from is = same_check o (check_at t said) (check_at t marks) check (at t) is

    has : (t : ℕ) (c : Check) → committed ≤ t → check_at t said ≡ Some c → HasCheck some c (sealed_at t held)
    has t c from is = s.checked t c from is

    born_same : (t g h m : ℕ) (k : Key) → g ≡ h → k.object ≡ o → born_upto h (sealed_at t blocks) m k ≡ born_upto g (sealed_at t held) m k
    born_same t g h m k is of = ap (λ b. born_by b (sealed_at t blocks m k)) (sym is) ∙ ap (born_by g) (sealed_same t m k of)

    pub one_of : StoresOne digest committed changes marks blocks o
    one_of = record {
      falls = subst NeverFall changed (falls_one o some s.falls);
      only = λ m k h of there block.
          (let v = s.only m k h (sym (same m k of) ∙ there) block in
          (v.0, sym (by_same some changes o changed k of) ∙ v.1, v.2, v.3));
      last = λ t w from is. sym (by_same some changes o changed (key_of w) (write_object (upto t changes) o w is)) ∙ s.last t o w from (kept_same some changes o changed t ∙ is);
      live = λ m k h of there live undropped.
          (let was = s.live m k h (sym (same m k of) ∙ there) live (same_dropped o (check_by said) (check_by marks) k now of ∙ undropped) in
          subst IsSome (last_same some changes o changed) (subst (λ p. IsSome (write_of some p)) of was));
      says = λ t from. says_on (shown_at said t held) (shown_at marks t blocks) o (kept t changes o) (λ m k of. shown_same t m k of) (subst (SaysOf (shown_at said t held) o) (kept_same some changes o changed t) (s.says t o from));
      kept_says = λ t check from is.
          (let c = own_of t check from is in
          says_on (born_upto c.0.group (sealed_at t held)) (born_upto check.group (sealed_at t blocks)) o (kept check.group changes o) (λ m k of. born_same t c.0.group check.group m k c.2 of)
          (subst (SaysOf (born_upto c.0.group (sealed_at t held)) o) (kept_same some changes o changed c.0.group ∙ ap (λ g. kept g changes o) c.2) ((has t c.0 from c.1).says o)));
      kept_last = λ t check w from is kept_is.
          (let c = own_of t check from is in
          sym (by_same some changes o changed (key_of w) (write_object (upto check.group changes) o w kept_is))
          ∙ (has t c.0 from c.1).last o w (kept_same some changes o changed c.0.group ∙ (ap (λ g. kept g changes o) c.2 ∙ kept_is)));
      one = λ t check from is m n j k j_of k_of a b.
          (let c = own_of t check from is in
          (has t c.0 from c.1).one o m n j k j_of k_of (subst IsSome (born_same t c.0.group check.group m j c.2 j_of) a) (subst IsSome (born_same t c.0.group check.group n k c.2 k_of) b));
      drops = λ t check k from is of dropped.
          (let c = own_of t check from is in
          let z = (has t c.0 from c.1).drops k (c.3 k of ∙ dropped) in
          (z.0, subst IsSome (sym (born_same t c.0.group check.group z.0 k c.2 of)) z.1));
    }

  -- no block is of an object, and nothing befell it or was dropped of it
  module _ (o : ℕ) (none : own o changes ≡ []) (gone : (m : ℕ) (k : Key) → k.object ≡ o → blocks m k ≡ None) (at : (t : ℕ) → Undropped o (check_at t marks)) where
    none_kept : (t : ℕ) → kept t changes o ≡ None
    none_kept t = sym (kept_one t changes o) ∙ ap (λ x. kept t x o) none

    none_sealed : (t m : ℕ) (k : Key) → k.object ≡ o → sealed_at t blocks m k ≡ None
    none_sealed t m k of = ap (seal_held t) (gone m k of)

    none_born : (t g m : ℕ) (k : Key) → k.object ≡ o → born_upto g (sealed_at t blocks) m k ≡ None
    none_born t g m k of = ap (born_by g) (none_sealed t m k of)

    none_shown : (t m : ℕ) (k : Key) → k.object ≡ o → shown_at marks t blocks m k ≡ None
    none_shown t m k of = ap (λ h. if is_dropped (check_at t marks) k then None else h) (none_sealed t m k of) ∙ either (is_dropped (check_at t marks) k) None
      where
        either : (b : Bool) (x : Option Held) → (if b then x else x) ≡ x
        either true x = refl
        either false x = refl

    undropped : (t : ℕ) (check : Check) (k : Key) → check_at t marks ≡ Some check → k.object ≡ o → check.dropped k ≡ false
    undropped t check k is of = subst (Undropped o) is (at t) k of

    pub one_none : StoresOne digest committed changes marks blocks o
    one_none = record {
      falls = subst NeverFall (sym none) tt;
      only = λ m k h of there block. absurd (none_some (blocks m k) h (gone m k of) there);
      last = λ t w from is. absurd (none_some (kept t changes o) w (none_kept t) is);
      live = λ m k h of there live dropped. absurd (none_some (blocks m k) h (gone m k of) there);
      says = λ t from. subst (SaysOf (shown_at marks t blocks) o) (sym (none_kept t)) (λ m k of. none_shown t m k of);
      kept_says = λ t check from is. subst (SaysOf (born_upto check.group (sealed_at t blocks)) o) (sym (none_kept check.group)) (λ m k of. none_born t check.group m k of);
      kept_last = λ t check w from is kept_is. absurd (none_some (kept check.group changes o) w (none_kept check.group) kept_is);
      one = λ t check from is m n j k j_of k_of a b. absurd_test false (subst IsSome (none_born t check.group m j j_of) a) refl;
      drops = λ t check k from is of dropped. absurd_test (check.dropped k) dropped (undropped t check k is of);
    }

  -- so where it is so of each object
  pub stores_by : MarksNeverFall marks → ((o : ℕ) → StoresOne digest committed changes marks blocks o) → Stores digest committed changes marks blocks
  stores_by falls each = record {
    falls = falls_from changes (λ o. (each o).falls);
    marked = falls;
    only = λ m k h at block. (each k.object).only m k h refl at block;
    last = λ t o w from is. (each o).last t w from is;
    live = λ m k h at live undropped. (each k.object).live m k h refl at live undropped;
    says = λ t o from. (each o).says t from;
    checked = λ t check from is. record {
      says = λ o. (each o).kept_says t check from is;
      last = λ o w kept_is. (each o).kept_last t check w from is kept_is;
      one = λ o. (each o).one t check from is;
      drops = λ k dropped. (each k.object).drops t check k from is refl dropped;
    };
  }

-- ---- floors

-- a floor is one for an object whatever others there are
pub floor_on : (cs ds : List Change) (a b : Blocks) (o g : ℕ) → own o cs ≡ own o ds → ((m : ℕ) (k : Key) → k.object ≡ o → b m k ≡ a m k) → IsFloor cs a o g → IsFloor ds b o g
floor_on cs ds a b o g changed same f = record {
  changed = All-weaker (λ c. is_of o c ≡ true → object_of c ≡ o → group_of c ≤ g) (λ c. object_of c ≡ o → group_of c ≤ g) (λ c z at. z (equal (object_of c) o at) at) ds
      (all_within (λ c. object_of c ≡ o → group_of c ≤ g) (is_of o) ds
      (subst (λ x. All (λ c. object_of c ≡ o → group_of c ≤ g) x) changed (All-filter (is_of o) (λ c. object_of c ≡ o → group_of c ≤ g) cs f.changed)));
  freed = λ m k h t at of freed. f.freed m k h t (sym (same m k of) ∙ at) of freed;
}
