-- The events that add nothing: they follow from the state before them.
use Rattle.std.proofs.Common.{◌≡◌, ◌+◌, ◌<◌, ◌≤◌, ◌⊎◌, ◌==◌, ◌||◌, not, ℕ, Bool, true, false, nat_lt, List, Option, Some, None, filter, refl, sym, ◌∙◌, ap, subst, inl, inr, arith, if◌then◌else◌}
use Rattle.std.proofs.lemmas.Bool.Decides.{nat_tests}
use Rattle.draid_machine.specs.declared.names.Key.{Key}
use Rattle.draid_machine.specs.declared.names.ArmName.{ArmName}
use Rattle.draid_machine.specs.declared.names.Stage.TheVariants.{Live, Freed}
use Rattle.draid_machine.specs.declared.names.Held.{Held}
use Rattle.draid_machine.specs.declared.names.Segment.{Segment}
use Rattle.draid_machine.specs.Names.{key_eq, name_eq, has_name, is_block, is_put}
use Rattle.draid_machine.specs.State.{Layout, IsLayout, Arm, Pass, Core, Loan, Image, State}
use Rattle.draid_machine.specs.Arms.{lies}
use Rattle.draid_machine.specs.Claims.{IsOn, is_at, is_at_held}
use Rattle.draid_machine.specs.After.{set_held, set_arm, set_order, without_key, gone_state, free_state, switch_state, close_state, commit_state, cancel_state, is_freed_block, is_gone_arm, is_kept_by, keep_loan, not_kept, stays}
use Rattle.draid_machine.specs.Sound.{IsClaimed, CoreSound, LoanFits, GroupsSound, Sound}
use Rattle.draid_machine.proofs.Small.{some_injective, some_same, none_some, true_both, true_four, true_right, below, bool_cases, absurd_test, not_true, not_false, key_true, held_at, held_other, held_cases, arm_cases, kept_some, kept_if, has_filter}
use Rattle.draid_machine.proofs.Follows.{SameHeld, SamePass, Keeps, Follows, keeps_of, claimed_before, core_follows, loan_follows}

pub same_held : (h : Held) → SameHeld h h
same_held h = record { run = record { first = refl; stripes = refl; birth = refl; block = refl }; put = λ c z. z }

pub same_pass : (p : Pass) → SamePass p p
same_pass p = record { kind = refl; max = refl; next = refl; running = refl; errors = λ z. z; targets = λ n z. z }

pub groups_keep : (o c : ℕ) (cl : Option ℕ) (i : Image) (s : Option Image) (q q' : Core) → Keeps q q' → GroupsSound o c cl i s q.held → GroupsSound o c cl i s q'.held
groups_keep o c cl i s q q' f g = record {
  some = g.some;
  idle = g.idle;
  closing_is = g.closing_is;
  sealed_is = g.sealed_is;
  image_is = g.image_is;
  tickets = λ img k h e hk ticket. let b = f.held k h hk in subst (λ m. img.group < m) (sym b.2.birth) (g.tickets img k b.0 e b.1 (sym b.2.block ∙ ticket));
}

pub groups_follow : (l : Layout) (o c : ℕ) (cl : Option ℕ) (i : Image) (s : Option Image) (q q' : Core) → Follows l q q' → GroupsSound o c cl i s q.held → GroupsSound o c cl i s q'.held
groups_follow l o c cl i s q q' f = groups_keep o c cl i s q q' (keeps_of l q q' f)

-- a segment that lies where its arm keeps it is at a place
pub at_place : (l : Layout) (q : Core) (s : Segment) (h : Held) (a : Arm) → IsOn l q s h a → is_at l q s ≡ true
at_place l q s h a on =
    ap (is_at_held l q.order s) on.held
    ∙ true_four (has_name (q.order (l.slot_of h.first s.column)) s.arm) (nat_lt s.column l.columns) (nat_lt s.row h.stripes) (lies l q.order s.arm (h.first + s.row) s.leaf)
    on.listed (below s.column l.columns on.column) (below s.row h.stripes on.row) on.lies

module _ (l : Layout) (lay : IsLayout l) where
  pub calm : (w : State) (q' : Core) (loan' : Option Loan) (serial' : ℕ) (present' aside' : Segment → Bool) (kept' : Segment → Option ℕ) → Sound l w → Follows l w.core q'
      → ((n : Loan) → loan' ≡ Some n → LoanFits q' n)
      → ((s : Segment) → IsClaimed l w.core s → IsClaimed l q' s → w.present s ≡ true → present' s ≡ true)
      → Sound l (record w { core = q'; loan = loan'; serial = serial'; present = present'; aside = aside'; kept = kept' })
  calm w q' loan' serial' present' aside' kept' s f loan covered = record {
    core = core_follows l w.core q' f w.committed (w.open_group + 1) s.core;
    groups = groups_follow l w.open_group w.committed w.closing w.image w.sealed w.core q' f s.groups;
    loan = loan;
    covered = λ g c. let b = claimed_before l w.core q' f w.committed (w.open_group + 1) g lay s.core c in covered g b c (s.covered g b);
    image = s.image;
    sealed = s.sealed;
  }

  -- ---- blocks and tickets
  pub follows_held : (q : Core) (held' : Key → Option Held) → ((k : Key) (h' : Held) → held' k ≡ Some h' → (h : Held) × (q.held k ≡ Some h) × SameHeld h h')
      → Follows l q (record q { held = held' })
  follows_held q held' f = record {
    held = f;
    arm = λ n a e. (a, e, λ g z. z);
    listed = λ c n z. z;
    lies = λ c x n leaf listed z. z;
    pass = λ p e. (p, e, same_pass p);
  }

  pub dropped : (q : Core) (k j : Key) (h' : Held) → set_held q.held k None j ≡ Some h' → (h : Held) × (q.held j ≡ Some h) × SameHeld h h'
  dropped q k j h' e = elim (held_cases q.held k j None h' e) [
    | inl z ↦ absurd (none_some None h' refl z.1)
    | inr z ↦ (h', z.1, same_held h')
  ]

  -- a ticket goes with its segments
  elsewhere : (q : Core) (k : Key) (h : Held) (n : Loan) → q.held k ≡ Some h → is_block h.stage ≡ false → LoanFits q n → key_eq k n.key ≡ false
  elsewhere q k h n found ticket fits = elim (bool_cases (key_eq k n.key)) [
    | inl z ↦
        let same = some_same (q.held n.key) fits.h h fits.found (subst (λ j. q.held j ≡ Some h) (key_true k n.key z) found) in
        absurd_test (is_block h.stage) (subst (λ (i : Held). is_block i.stage ≡ true) same fits.block) ticket
    | inr z ↦ z
  ]

  no_key : (q : Core) (k j : Key) (h : Held) → set_held q.held k None j ≡ Some h → key_eq k j ≡ false
  no_key q k j h found = elim (held_cases q.held k j None h found) [
    | inl z ↦ absurd (none_some None h refl z.1)
    | inr z ↦ z.0
  ]

  pub gone_sound : (w : State) (k : Key) (h : Held) → w.core.held k ≡ Some h → is_block h.stage ≡ false → Sound l w → Sound l (gone_state w k)
  gone_sound w k h found ticket s =
      let held' = set_held w.core.held k None in
      let q' : Core = record w.core { held = held' } in
      let f : Follows l w.core q' = follows_held w.core held' (dropped w.core k) in
      calm w q' w.loan w.serial (without_key k w.present) (without_key k w.aside) (not_kept k w.kept) s f
      (λ n e. loan_follows l w.core q' f n (λ p z. (p, z)) (λ i hi. (i, held_other w.core.held k n.key None (elsewhere w.core k h n found ticket (s.loan n e)) ∙ hi)) (s.loan n e))
      (λ g b c here. true_both (w.present g) (not (key_eq k g.key)) here (not_false (key_eq k g.key) (no_key w.core k g.key c.h c.on.held)))

  -- an entry is replaced by the same block
  pub replaced : (q : Core) (k j : Key) (h i h' : Held) → q.held k ≡ Some h → SameHeld h i → set_held q.held k (Some i) j ≡ Some h' → (b : Held) × (q.held j ≡ Some b) × SameHeld b h'
  replaced q k j h i h' found same e = elim (held_cases q.held k j (Some i) h' e) [
    | inl z ↦ (h, subst (λ x. q.held x ≡ Some h) z.0 found, subst (λ x. SameHeld h x) (some_injective i h' z.1) same)
    | inr z ↦ (h', z.1, same_held h')
  ]

  pub still_held : (q : Core) (k j : Key) (i : Held) (b : Held) → q.held j ≡ Some b → (b' : Held) × (set_held q.held k (Some i) j ≡ Some b')
  still_held q k j i b e = elim (bool_cases (key_eq k j)) [
    | inl z ↦ (i, subst (λ x. set_held q.held k (Some i) x ≡ Some i) (key_true k j z) (held_at q.held k (Some i)))
    | inr z ↦ (b, held_other q.held k j (Some i) z ∙ e)
  ]

  freed_same : (h : Held) (group : ℕ) → h.stage ≡ Live → SameHeld h (record h { stage = Freed group })
  freed_same h group live = record {
    run = record { first = refl; stripes = refl; birth = refl; block = ap is_block (sym live) };
    put = λ c z. subst (λ st. is_put st c ≡ true) (sym live) refl;
  }

  pub free_sound : (w : State) (k : Key) (h : Held) (group : ℕ) → w.core.held k ≡ Some h → h.stage ≡ Live → Sound l w → Sound l (free_state w k h group)
  free_sound w k h group found live s =
      let i : Held = record h { stage = Freed group } in
      let held' = set_held w.core.held k (Some i) in
      let q' : Core = record w.core { held = held' } in
      let f : Follows l w.core q' = follows_held w.core held' (λ j h' e. replaced w.core k j h i h' found (freed_same h group live) e) in
      calm w q' w.loan w.serial w.present w.aside w.kept s f
      (λ n e. loan_follows l w.core q' f n (λ p z. (p, z)) (λ b hb. still_held w.core k n.key i b hb) (s.loan n e))
      (λ g b c here. here)

  -- ---- arms
  pub follows_arms : (q : Core) (arm' : ArmName → Option Arm) → ((n : ArmName) (a' : Arm) → arm' n ≡ Some a' → (a : Arm) × (q.arm n ≡ Some a) × ((g : ℕ) → a.log g ≡ true → a'.log g ≡ true))
      → Follows l q (record q { arm = arm' })
  follows_arms q arm' f = record {
    held = λ k h e. (h, e, same_held h);
    arm = f;
    listed = λ c n z. z;
    lies = λ c x n leaf listed z. z;
    pass = λ p e. (p, e, same_pass p);
  }

  pub switched : (q : Core) (n m : ArmName) (a b a' : Arm) → q.arm n ≡ Some a → ((g : ℕ) → a.log g ≡ true → b.log g ≡ true) → set_arm q.arm n (Some b) m ≡ Some a'
      → (c : Arm) × (q.arm m ≡ Some c) × ((g : ℕ) → c.log g ≡ true → a'.log g ≡ true)
  switched q n m a b a' found more e = elim (arm_cases q.arm n m (Some b) a' e) [
    | inl z ↦ (a, subst (λ x. q.arm x ≡ Some a) z.0 found, λ g t. subst (λ (x : Arm). x.log g ≡ true) (some_injective b a' z.1) (more g t))
    | inr z ↦ (a', z.1, λ g t. t)
  ]

  pub switch_sound : (w : State) (n : ArmName) (a : Arm) (offline : Bool) → w.core.arm n ≡ Some a → Sound l w → Sound l (switch_state w n a offline)
  switch_sound w n a offline found s =
      let b : Arm = record a { offline = offline } in
      let arm' = set_arm w.core.arm n (Some b) in
      let q' : Core = record w.core { arm = arm' } in
      let f : Follows l w.core q' = follows_arms w.core arm' (λ m a' e. switched w.core n m a b a' found (λ g t. t) e) in
      calm w q' w.loan w.serial w.present w.aside w.kept s f
      (λ m e. loan_follows l w.core q' f m (λ p z. (p, z)) (λ i z. (i, z)) (s.loan m e))
      (λ g b c here. here)

  -- the arms of a slot change
  pub order_cases : (f : ℕ → List ArmName) (slot c : ℕ) (v : List ArmName) (m : ArmName) → has_name (set_order f slot v c) m ≡ true
      → ((slot ≡ c) × (has_name v m ≡ true)) ⊎ (has_name (f c) m ≡ true)
  order_cases f slot c v m e = by (slot == c) refl e
    where
      by : (b : Bool) → (slot == c) ≡ b → has_name (if b then v else f c) m ≡ true → ((slot ≡ c) × (has_name v m ≡ true)) ⊎ (has_name (f c) m ≡ true)
      by true is e = inl (grind (arith, nat_tests), e)
      by false is e = inr e

  pub detach_listed : (q : Core) (slot c : ℕ) (n m : ArmName) → has_name (set_order q.order slot (filter (λ m. not (name_eq n m)) (q.order slot)) c) m ≡ true → has_name (q.order c) m ≡ true
  detach_listed q slot c n m e = elim (order_cases q.order slot c (filter (λ m. not (name_eq n m)) (q.order slot)) m e) [
    | inl z ↦ subst (λ x. has_name (q.order x) m ≡ true) z.0 (has_filter (λ m. not (name_eq n m)) (q.order slot) m z.1).0
    | inr z ↦ z
  ]

  -- ---- groups
  pub close_sound : (w : State) (t : ℕ) → w.open_group ≡ t → w.closing ≡ None → Sound l w → Sound l (close_state w t)
  close_sound w t is idle s = record {
    core = raise_top w.committed (w.open_group + 1) (t + 1 + 1) w.core (omega (arith, is)) s.core;
    groups = record {
      some = s.groups.some;
      idle = λ e. absurd (none_some (Some t) t e refl);
      closing_is = λ u e. (sym (some_injective t u e) ∙ sym is ∙ (s.groups.idle idle).0, ap (λ x. x + 1) (some_injective t u e));
      sealed_is = λ img e. absurd (none_some w.sealed img (s.groups.idle idle).1 e);
      image_is = s.groups.image_is;
      tickets = λ img k h e. absurd (none_some w.sealed img (s.groups.idle idle).1 e);
    };
    loan = s.loan;
    covered = s.covered;
    image = s.image;
    sealed = s.sealed;
  }
    where
      raise_top : (committed top top' : ℕ) (q : Core) → top ≤ top' → CoreSound l committed top q → CoreSound l committed top' q
      raise_top committed top top' q more c = record {
        apart = c.apart;
        runs = c.runs;
        inside = c.inside;
        some = c.some;
        births = λ k h e. let b = c.births k h e in omega (arith, b, more);
        tickets = c.tickets;
        targets = c.targets;
        quiet = c.quiet;
        planned = c.planned;
        heal = c.heal;
      }

  -- ---- the pass
  pub cancel_sound : (w : State) → Sound l w → Sound l (cancel_state w)
  cancel_sound w s =
      let q' : Core = record w.core { pass = None } in
      let f : Follows l w.core q' = record {
        held = λ k h e. (h, e, same_held h);
        arm = λ n a e. (a, e, λ g z. z);
        listed = λ c n z. z;
        lies = λ c x n leaf listed z. z;
        pass = λ p e. absurd (none_some None p refl e);
      } in
      calm w q' None w.serial w.present w.aside w.kept s f (λ n e. absurd (none_some None n refl e)) (λ g b c here. here)

  -- ---- a group is committed
  kept_block : (t : ℕ) (q : Core) (k : Key) (h' : Held) → (if is_freed_block t (q.held k) then None else q.held k) ≡ Some h' → (is_freed_block t (q.held k) ≡ false) × (q.held k ≡ Some h')
  kept_block t q k h' e = kept_some (is_freed_block t (q.held k)) (q.held k) h' e

  pub commit_sound : (w : State) (t : ℕ) (img : Image) → w.closing ≡ Some t → w.sealed ≡ Some img → Sound l w → Sound l (commit_state l w t img)
  commit_sound w t img closing sealed s =
      let held' : Key → Option Held = λ k. if is_freed_block t (w.core.held k) then None else w.core.held k in
      let arm' : ArmName → Option Arm = λ n. if is_gone_arm t (w.core.arm n) then None else w.core.arm n in
      let q' : Core = record w.core { held = held'; arm = arm' } in
      let g = s.groups in
      let group : img.group ≡ t = some_injective img.group t (sym (g.sealed_is img sealed) ∙ closing) in
      let next = g.closing_is t closing in
      let f : Follows l w.core q' = record {
        held = λ k h' e. (h', (kept_block t w.core k h' e).1, same_held h');
        arm = λ n a' e. (a', (kept_some (is_gone_arm t (w.core.arm n)) (w.core.arm n) a' e).1, λ g z. z);
        listed = λ c n z. z;
        lies = λ c x n leaf listed z. z;
        pass = λ p e. (p, e, same_pass p);
      } in
      let tickets : (k : Key) (h : Held) → q'.held k ≡ Some h → is_block h.stage ≡ false → t < h.birth =
      λ k h e ticket. subst (λ m. m < h.birth) group (g.tickets img k h sealed (kept_block t w.core k h e).1 ticket) in
      let c = core_follows l w.core q' f w.committed (w.open_group + 1) s.core in
      record {
        core = record {
          apart = c.apart;
          runs = c.runs;
          inside = c.inside;
          some = c.some;
          births = c.births;
          tickets = tickets;
          targets = c.targets;
          quiet = λ p k h pass kind running e. let z = c.quiet p k h pass kind running e in (z.0, (let b = z.1 in let n = next.0 in omega (arith, b, n)));
          planned = c.planned;
          heal = λ p pass kind. (let m = c.heal p pass kind in let n = next.0 in omega (arith, m, n));
        };
        groups = record {
          some = (let n = next.0 in omega (arith, n));
          idle = λ e. (next.1, refl);
          closing_is = λ u e. absurd (none_some None u refl e);
          sealed_is = λ i e. absurd (none_some None i refl e);
          image_is = group;
          tickets = λ i k h e. absurd (none_some None i refl e);
        };
        loan = λ n e. loan_kept w.loan n e refl f;
        covered = λ x cl.
            let b = claimed_before l w.core q' f w.committed (w.open_group + 1) x lay s.core cl in
            true_both (w.present x) (stays l t w x) (s.covered x b)
            (true_both (not (is_freed_block t (w.core.held x.key))) (not (is_kept_by t (w.kept x)) || is_at l w.core x)
            (not_false (is_freed_block t (w.core.held x.key)) (kept_block t w.core x.key cl.h cl.on.held).0)
            (true_right (not (is_kept_by t (w.kept x))) (is_at l w.core x) (at_place l w.core x b.h b.a b.on)));
        image = s.sealed img sealed;
        sealed = λ i e. absurd (none_some None i refl e);
      }
    where
      loan_kept : (o : Option Loan) (n : Loan) → keep_loan (λ k. is_freed_block t (w.core.held k)) o ≡ Some n → (o ≡ w.loan)
          → Follows l w.core (record w.core { held = (λ k. if is_freed_block t (w.core.held k) then None else w.core.held k); arm = (λ n. if is_gone_arm t (w.core.arm n) then None else w.core.arm n) })
          → LoanFits (record w.core { held = (λ k. if is_freed_block t (w.core.held k) then None else w.core.held k); arm = (λ n. if is_gone_arm t (w.core.arm n) then None else w.core.arm n) }) n
      loan_kept None n e is f = absurd (none_some None n refl e)
      loan_kept (Some m) n e is f =
          let z = kept_if (not (is_freed_block t (w.core.held m.key))) m n e in
          let fits = s.loan n (sym is ∙ ap Some z.1) in
          loan_follows l w.core (record w.core { held = (λ k. if is_freed_block t (w.core.held k) then None else w.core.held k); arm = (λ n. if is_gone_arm t (w.core.arm n) then None else w.core.arm n) }) f n
          (λ p z. (p, z))
          (λ h e. (h, rw (not_true (is_freed_block t (w.core.held n.key)) (subst (λ (x : Loan). not (is_freed_block t (w.core.held x.key)) ≡ true) z.1 z.0)) e))
          fits
