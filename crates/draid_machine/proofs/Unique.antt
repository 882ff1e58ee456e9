-- A legal event has one result.
use Rattle.std.proofs.Common.{◌≡◌, ◌+◌, ◌<◌, ◌≤◌, ◌⊎◌, ℕ, Bool, true, false, List, [], ◌∷◌, Option, Some, None, refl, sym, ◌∙◌, ap, subst, inl, inr, arith}
use Rattle.std.proofs.lemmas.Bool.{cases_lt}
use Rattle.draid_machine.specs.declared.names.Key.{Key}
use Rattle.draid_machine.specs.declared.names.ArmName.{ArmName}
use Rattle.draid_machine.specs.declared.names.ArmName.TheVariants.{Leaf}
use Rattle.draid_machine.specs.declared.names.Stage.{Stage}
use Rattle.draid_machine.specs.declared.names.Stage.TheVariants.{Writing, Live, Freed}
use Rattle.draid_machine.specs.declared.names.Held.{Held}
use Rattle.draid_machine.specs.declared.event.Event.{Event}
use Rattle.draid_machine.specs.declared.event.Event.TheVariants.{Begin, Put, Finish, Abort, Free, Fetch, Damage, Offline, Online, Attach, Detach, Upgrade, Close, Seal, Commit, Plan, Ready, Lend, LandStripe, LandBlock, Done, Cancel, Reopen}
use Rattle.draid_machine.specs.Names.{is_heal, takes}
use Rattle.draid_machine.specs.State.{Layout, IsLayout, Pass, Core, Loan, Image, State}
use Rattle.draid_machine.specs.Arms.{IsFirst}
use Rattle.draid_machine.specs.After.{put_state, finish_state, free_state, switch_state, attach_state, detach_state, seal_state, commit_state, ready_state, lend_state, land_stripe_state, land_block_state, ended_pass, done_state, reopen_state}
use Rattle.draid_machine.specs.Sound.{CoreSound, Sound}
use Rattle.draid_machine.specs.Step.{IsLast, IsWhole, IsNext, IsChosen, unless_failed, arms_read, Counts, LendStep, Step, Run}
use Rattle.draid_machine.specs.Created.{created, IsReached}
use Rattle.draid_machine.proofs.Small.{some_same}
use Rattle.draid_machine.proofs.Listing.{Listed, step_listed, created_all}
use Rattle.draid_machine.proofs.Rows.{step_sound, created_sound, reached_sound}

-- ---- parts
abbrev put_of : Stage → ℕ
put_of (Writing c m) = c
put_of Live = 0
put_of (Freed g) = 0

abbrev missed_of : Stage → ℕ
missed_of (Writing c m) = m
missed_of Live = 0
missed_of (Freed g) = 0

-- two tests that hold of the same
same_test : {P : Type 0} (a b : Bool) → (a ≡ true → P) → (a ≡ false → P → ⊥) → (b ≡ true → P) → (b ≡ false → P → ⊥) → a ≡ b
same_test true true x y z v = refl
same_test true false x y z v = absurd (v refl (x refl))
same_test false true x y z v = absurd (y refl (z refl))
same_test false false x y z v = refl

one_first : (P : ArmName → Type 0) (ns : List ArmName) (a b : Option ArmName) → IsFirst P ns a → IsFirst P ns b → a ≡ b
one_first P [] None None x y = refl
one_first P [] None (Some n) x y = absurd y
one_first P [] (Some n) b x y = absurd x
one_first P (m ∷ ms) None None x y = refl
one_first P (m ∷ ms) None (Some n) x y = elim y [
  | inl z ↦ absurd (x.0 z.0)
  | inr z ↦ one_first P ms None (Some n) x.1 z.1
]
one_first P (m ∷ ms) (Some n) None x y = elim x [
  | inl z ↦ absurd (y.0 z.0)
  | inr z ↦ one_first P ms (Some n) None z.1 y.1
]
one_first P (m ∷ ms) (Some n) (Some k) x y = elim x [
  | inl z ↦ elim y [
    | inl v ↦ ap Some (z.1 ∙ sym v.1)
    | inr v ↦ absurd (v.0 z.0)
  ]
  | inr z ↦ elim y [
    | inl v ↦ absurd (z.0 v.0)
    | inr v ↦ one_first P ms (Some n) (Some k) z.1 v.1
  ]
]

one_chosen : (l : Layout) (q : Core) (p : Pass) (h : Held) (x : ℕ) (failed : List ℕ) (c : ℕ) (a b : Option ArmName) → IsChosen l q p h x failed c a → IsChosen l q p h x failed c b → a ≡ b
one_chosen l q p h x failed c a b i j = i.chosen_is ∙ ap (unless_failed l q x failed) (of (is_heal p.kind) refl) ∙ sym j.chosen_is
  where
    of : (k : Bool) → is_heal p.kind ≡ k → i.from ≡ j.from
    of true e = i.heal e ∙ sym (j.heal e)
    of false e = one_first _ (q.order (l.slot_of x c)) i.from j.from (i.rebuild e) (j.rebuild e)

one_last : (w : State) (a b : ℕ) → IsLast w a → IsLast w b → a ≡ b
one_last w a b i j = le_of a b i j (below w a b i j) (below w b a j i)
  where
    below : (w : State) (a b : ℕ) → IsLast w a → IsLast w b → a ≤ b
    below w a b i j = elim i.one [
      | inl e ↦ let z = j.open_group in omega (arith, z, e)
      | inr e ↦ subst (λ x. x ≤ b) e.3 (j.births e.0 e.1 e.2)
    ]

    le_of : (a b : ℕ) → IsLast w a → IsLast w b → a ≤ b → b ≤ a → a ≡ b
    le_of a b i j x y = omega (arith, x, y)

one_stripe : (q : Core) (p : Pass) (k j : Key) (h i : Held) (a b : ℕ) → IsNext q p k h a → IsNext q p j i b → a ≡ b
one_stripe q p k j h i a b x y = elim (cases_lt a b) [
  | inl less ↦ absurd (y.first k h a x.found x.lent x.taken x.from less)
  | inr more ↦ elim (cases_lt b a) [
    | inl less ↦ absurd (x.first j i b y.found y.lent y.taken y.from less)
    | inr same ↦ omega (arith, more, same)
  ]
]

one_key : (l : Layout) (committed top : ℕ) (q : Core) (p : Pass) (k j : Key) (h i : Held) (a b : ℕ) → CoreSound l committed top q → IsNext q p k h a → IsNext q p j i b → k ≡ j
one_key l committed top q p k j h i a b s x y =
    s.apart k j h i a x.found y.found x.taken (subst (λ z. takes i z ≡ true) (sym (one_stripe q p k j h i a b x y)) y.taken)

module _ (l : Layout) where
  one_loan : (w : State) (failed : List ℕ) (new other : State) → Sound l w → (x : LendStep l w failed new) → (y : LendStep l w failed other) → x.n ≡ y.n
  one_loan w failed new other s x y = λ i. record { key = key i; stripe = stripe i; serial = serial i; read = λ c. read c i; chosen = λ c. chosen c i }
    where
      p_same : x.p ≡ y.p
      p_same = some_same w.core.pass x.p y.p x.pass y.pass

      next_y : IsNext w.core x.p y.n.key y.h y.n.stripe
      next_y = subst (λ p. IsNext w.core p y.n.key y.h y.n.stripe) (sym p_same) y.next

      stripe : x.n.stripe ≡ y.n.stripe
      stripe = one_stripe w.core x.p x.n.key y.n.key x.h y.h x.n.stripe y.n.stripe x.next next_y

      key : x.n.key ≡ y.n.key
      key = one_key l w.committed (w.open_group + 1) w.core x.p x.n.key y.n.key x.h y.h x.n.stripe y.n.stripe s.core x.next next_y

      h_same : x.h ≡ y.h
      h_same = some_same (w.core.held x.n.key) x.h y.h x.next.found (subst (λ k. w.core.held k ≡ Some y.h) (sym key) y.next.found)

      serial : x.n.serial ≡ y.n.serial
      serial = x.serial ∙ sym y.serial

      chosen_y : (c : ℕ) → c < l.columns → IsChosen l w.core x.p x.h x.n.stripe failed c (y.n.chosen c)
      chosen_y c less =
          let a : IsChosen l w.core x.p y.h y.n.stripe failed c (y.n.chosen c) = subst (λ p. IsChosen l w.core p y.h y.n.stripe failed c (y.n.chosen c)) (sym p_same) (y.chosen c less) in
          let b : IsChosen l w.core x.p x.h y.n.stripe failed c (y.n.chosen c) = subst (λ h. IsChosen l w.core x.p h y.n.stripe failed c (y.n.chosen c)) (sym h_same) a in
          subst (λ v. IsChosen l w.core x.p x.h v failed c (y.n.chosen c)) (sym stripe) b

      chosen : (c : ℕ) → x.n.chosen c ≡ y.n.chosen c
      chosen c = elim (cases_lt c l.columns) [
        | inl less ↦ one_chosen l w.core x.p x.h x.n.stripe failed c (x.n.chosen c) (y.n.chosen c) (x.chosen c less) (chosen_y c less)
        | inr past ↦ x.no_more c past ∙ sym (y.no_more c past)
      ]

      read_same : (c : ℕ) → (p : Pass) → x.p ≡ p → (h : Held) → x.h ≡ h → (v : ℕ) → x.n.stripe ≡ v → (o : Option ArmName) → x.n.chosen c ≡ o
          → arms_read l w.core x.p x.h x.n.stripe failed c (x.n.chosen c) ≡ arms_read l w.core p h v failed c o
      read_same c p a h b v d o e = λ i. arms_read l w.core (a i) (b i) (d i) failed c (e i)

      read : (c : ℕ) → x.n.read c ≡ y.n.read c
      read c = elim (cases_lt c l.columns) [
        | inl less ↦ x.read c less ∙ read_same c y.p p_same y.h h_same y.n.stripe stripe (y.n.chosen c) (chosen c) ∙ sym (y.read c less)
        | inr past ↦ x.read_none c past ∙ sym (y.read_none c past)
      ]

  one_counts : (w : State) (pass serial : ℕ) (p r : Pass) (n m : Loan) (h i : Held) → Counts w pass serial p n h → Counts w pass serial r m i → (p ≡ r) × (n ≡ m) × (h ≡ i)
  one_counts w pass serial p r n m h i x y =
      let same = some_same w.loan n m x.loan y.loan in (
        some_same w.core.pass p r x.pass_is y.pass_is,
        same,
        some_same (w.core.held n.key) h i x.found (subst (λ (v : Loan). w.core.held v.key ≡ Some i) (sym same) y.found),
      )

  one_image : (w : State) (t : ℕ) (a b : Image) → Sound l w
      → ((w.image ≡ a) × (w.committed ≡ t)) ⊎ ((w.sealed ≡ Some a) × (w.closing ≡ Some t))
      → ((w.image ≡ b) × (w.committed ≡ t)) ⊎ ((w.sealed ≡ Some b) × (w.closing ≡ Some t)) → a ≡ b
  one_image w t a b s (inl x) (inl y) = sym x.0 ∙ y.0
  one_image w t a b s (inl x) (inr y) = let z = (s.groups.closing_is t y.1).0 in let v = x.1 in absurd (omega (arith, z, v))
  one_image w t a b s (inr x) (inl y) = let z = (s.groups.closing_is t x.1).0 in let v = y.1 in absurd (omega (arith, z, v))
  one_image w t a b s (inr x) (inr y) = some_same w.sealed a b x.0 y.0

  stripe_same : (w : State) (failed : List ℕ) (p r : Pass) (n m : Loan) (h i : Held) → p ≡ r → n ≡ m → h ≡ i → land_stripe_state l w p n h failed ≡ land_stripe_state l w r m i failed
  stripe_same w failed p r n m h i a b c = λ k. land_stripe_state l w (a k) (b k) (c k) failed

  pub one_result : (w : State) (e : Event) (new other : State) → Sound l w → Step l w e new → Step l w e other → new ≡ other
  one_result w (Begin key first stripes len birth digest) new other s x y = x.made ∙ sym y.made
  one_result w (Put key landed failed) new other s x y =
      let h = some_same (w.core.held key) x.h y.h x.found y.found in
      let st = sym x.stage ∙ ap (λ (v : Held). v.stage) h ∙ y.stage in
      let c : x.c ≡ y.c = ap put_of st in
      let m : x.m ≡ y.m = ap missed_of st in
      x.made ∙ (λ i. put_state l w key landed (h i) (c i) (m i)) ∙ sym y.made
  one_result w (Finish key) new other s x y =
      let h = some_same (w.core.held key) x.h y.h x.found y.found in
      let m : x.m ≡ y.m = ap missed_of (sym x.stage ∙ ap (λ (v : Held). v.stage) h ∙ y.stage) in
      x.made ∙ (λ i. finish_state l w key (h i) (m i)) ∙ sym y.made
  one_result w (Abort key) new other s x y = x.made ∙ sym y.made
  one_result w (Free key group) new other s x y = x.made ∙ ap (λ h. free_state w key h group) (some_same (w.core.held key) x.h y.h x.found y.found) ∙ sym y.made
  one_result w (Fetch key failed) new other s x y = x.made ∙ sym y.made
  one_result w (Damage leaf sector failed) new other s x y = x.made ∙ sym y.made
  one_result w (Offline leaf) new other s x y = x.made ∙ ap (λ a. switch_state w (Leaf leaf) a true) (some_same (w.core.arm (Leaf leaf)) x.a y.a x.there.found y.there.found) ∙ sym y.made
  one_result w (Online leaf) new other s x y = x.made ∙ ap (λ a. switch_state w (Leaf leaf) a false) (some_same (w.core.arm (Leaf leaf)) x.a y.a x.there.found y.there.found) ∙ sym y.made
  one_result w (Attach slot arm) new other s x y = x.made ∙ ap (λ v. attach_state l w slot arm v) (one_last w x.last y.last x.last_is y.last_is) ∙ sym y.made
  one_result w (Detach slot arm) new other s x y =
      let arms = some_same (w.core.arm arm) x.a y.a x.found y.found in
      let lasts = one_last w x.last y.last x.last_is y.last_is in
      x.made ∙ (λ i. detach_state l w slot arm (arms i) (lasts i)) ∙ sym y.made
  one_result w Upgrade new other s x y = x.made ∙ sym y.made
  one_result w (Close group) new other s x y = x.made ∙ sym y.made
  one_result w (Seal group failed) new other s x y = x.made ∙ ap (λ b. seal_state l w group failed.items b) (same_test x.wrote y.wrote x.writes x.no_writes y.writes y.no_writes) ∙ sym y.made
  one_result w (Commit group) new other s x y = x.made ∙ ap (λ i. commit_state l w group i) (some_same w.sealed x.image y.image x.sealed y.sealed) ∙ sym y.made
  one_result w (Plan kind) new other s x y = x.made ∙ sym y.made
  one_result w Ready new other s x y = x.made ∙ ap (λ p. ready_state w p) (some_same w.core.pass x.p y.p x.pass y.pass) ∙ sym y.made
  one_result w (Lend failed) new other s x y =
      let n = one_loan w failed.items new other s x y in
      let p = some_same w.core.pass x.p y.p x.pass y.pass in
      x.made ∙ (λ i. lend_state w (p i) (n i) failed.items) ∙ sym y.made
  one_result w (LandStripe pass serial failed) new other s x y =
      let z = one_counts w pass serial x.p y.p x.n y.n x.h y.h x.counts y.counts in
      x.made ∙ stripe_same w failed.items x.p y.p x.n y.n x.h y.h z.0 z.1 z.2 ∙ sym y.made
  one_result w (LandBlock pass serial failed patched unreadable) new other s x y =
      let z = one_counts w pass serial x.p y.p x.n y.n x.h y.h x.counts y.counts in
      let p = z.0 in
      let n = z.1 in
      let h = z.2 in
      let whole : x.whole ≡ y.whole =
      same_test x.whole y.whole x.is_whole x.not_whole (λ e. subst (λ v. IsWhole l w.core v failed.items) (sym h) (y.is_whole e)) (λ e v. y.not_whole e (subst (λ v. IsWhole l w.core v failed.items) h v)) in
      x.made ∙ (λ i. land_block_state l w (p i) (n i) (h i) failed.items patched.items unreadable (whole i)) ∙ sym y.made
  one_result w (Done failed) new other s x y = x.made ∙ ap (λ p. done_state w (ended_pass l w.core p failed.items)) (some_same w.core.pass x.p y.p x.pass y.pass) ∙ sym y.made
  one_result w Cancel new other s x y = x.made ∙ sym y.made
  one_result w (Reopen group doubtful) new other s x y = x.made ∙ ap (λ i. reopen_state l w i doubtful.items) (one_image w group x.image y.image s x.one y.one) ∙ sym y.made

one_run : (l : Layout) (lay : IsLayout l) (w : State) (es : List Event) (new other : State) → Listed w → Sound l w → Run l w es new → Run l w es other → new ≡ other
one_run l lay w [] new other listed s x y = x ∙ sym y
one_run l lay w (e ∷ es) new other listed s x y =
    let same = one_result l w e x.0 y.0 s x.1 y.1 in
    one_run l lay x.0 es new other (step_listed l lay w e x.0 x.1 listed) (step_sound l lay w e x.0 x.1 listed.core s) x.2 (subst (λ v. Run l v es other) (sym same) y.2)

pub one_event : (l : Layout) (w : State) (e : Event) (new other : State) → IsLayout l → IsReached l w → Step l w e new → Step l w e other → new ≡ other
one_event l w e new other lay r x y = one_result l w e new other (reached_sound l lay w r) x y

pub one_history : (l : Layout) (version : ℕ) (es : List Event) (new other : State) → IsLayout l → Run l (created l version) es new → Run l (created l version) es other → new ≡ other
one_history l version es new other lay x y = one_run l lay (created l version) es new other (created_all l lay version) (created_sound l lay version) x y
