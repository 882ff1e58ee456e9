-- Every legal event keeps what is said of the loan that counts: the arms that it read are listed, and a rebuild's sources are present.
use Rattle.std.proofs.Common.{◌≡◌, ◌+◌, ◌-◌, ◌/◌, ◌<◌, ◌≤◌, ◌⊎◌, ◌&&◌, ◌==◌, not, ℕ, Bool, true, false, nat_le, nat_lt, List, [], ◌∷◌, Option, Some, None, filter, find, cond, refl, sym, ◌∙◌, ap, subst, inl, inr, arith, if◌then◌else◌}
use Rattle.std.proofs.lemmas.Bool.{true≢false}
use Rattle.std.proofs.lemmas.Bool.Decides.{nat_tests}
use Rattle.draid_names.specs.declared.pass_kind.PassKind.{PassKind}
use Rattle.draid_names.specs.declared.pass_kind.PassKind.TheVariants.{Rebuild}
use Rattle.draid_machine.specs.declared.names.Key.{Key}
use Rattle.draid_machine.specs.declared.names.ArmName.{ArmName}
use Rattle.draid_machine.specs.declared.names.Stage.{Stage}
use Rattle.draid_machine.specs.declared.names.Stage.TheVariants.{Writing, Live, Freed}
use Rattle.draid_machine.specs.declared.names.Held.{Held}
use Rattle.draid_machine.specs.declared.names.Segment.{Segment}
use Rattle.draid_machine.specs.declared.event.Patched.{Patched}
use Rattle.draid_machine.specs.declared.event.Event.{Event}
use Rattle.draid_machine.specs.declared.event.Event.TheVariants.{Begin, Put, Finish, Abort, Free, Fetch, Damage, Offline, Online, Attach, Detach, Upgrade, Close, Seal, Commit, Plan, Ready, Lend, LandStripe, LandBlock, Done, Cancel, Reopen}
use Rattle.draid_machine.specs.Names.{key_eq, name_eq, has_name, is_block, is_heal, is_nil}
use Rattle.draid_machine.specs.State.{Layout, IsLayout, Arm, Pass, Core, Loan, Image, State}
use Rattle.draid_machine.specs.Arms.{answers, fails, is_clean, logged, passes, leaf_at, lies_on, is_silent, else_some, IsFirst, IsSource, HasEmptyLog, has_moved}
use Rattle.draid_machine.specs.After.{set_held, lose_some, gone_state, live_state, finish_state, attached_core, rearranged_state, attach_state, is_freed_block, keep_loan, is_kept_by, stays, commit_state, lend_state, capped, lend_errors, unsourced, pass_over, mend_state, land_stripe_state, land_block_state}
use Rattle.draid_machine.specs.Created.{IsReached, created}
use Rattle.draid_machine.specs.Fitting.{LoanReads}
use Rattle.draid_machine.specs.Images.{AreListed}
use Rattle.draid_machine.specs.Sound.{Sound}
use Rattle.draid_machine.specs.Step.{unless_failed, to_list, LendStep, Step, Run}
use Rattle.draid_machine.proofs.Small.{some_injective, some_same, none_some, both_true, either_true, bool_cases, absurd_test, true_left, true_right, key_true, held_cases, mapped_pass, kept_some, kept_if, has_filter, name_true, is_low, is_below, equal, name_refl}
use Rattle.draid_machine.proofs.Moves.{replan_cases}
use Rattle.draid_machine.proofs.Owning.{put_block}
use Rattle.draid_machine.proofs.Losing.{AllFits, step_all, created_fit}

-- ---- what was found in a slot's order is listed there
first_listed : (P : ArmName → Type 0) (ns : List ArmName) (n : ArmName) → IsFirst P ns (Some n) → (has_name ns n ≡ true) × P n
first_listed P [] n none = absurd none
first_listed P (m ∷ ns) n (inl x) = (subst (λ k. has_name (m ∷ ns) k ≡ true) (sym x.1) (true_left (name_eq m m) (has_name ns m) (name_refl m)), subst P (sym x.1) x.0)
first_listed P (m ∷ ns) n (inr x) = let z = first_listed P ns n x.1 in (true_right _ (has_name ns n) z.0, z.1)

find_listed : (p : ArmName → Bool) (ns : List ArmName) (n : ArmName) → find p ns ≡ Some n → has_name ns n ≡ true
find_listed p [] n e = absurd (none_some None n refl e)
find_listed p (m ∷ ns) n e = by (p m) (find_listed p ns n) e
  where
    by : (b : Bool) → (find p ns ≡ Some n → has_name ns n ≡ true) → cond b (Some m) (find p ns) ≡ Some n → has_name (m ∷ ns) n ≡ true
    by true rest e = subst (λ k. has_name (m ∷ ns) k ≡ true) (some_injective m n e) (true_left _ (has_name ns m) (name_refl m))
    by false rest e = true_right _ (has_name ns n) (rest e)

else_listed : (a b : Option ArmName) (n : ArmName) → else_some a b ≡ Some n → (a ≡ Some n) ⊎ (b ≡ Some n)
else_listed None b n e = inr e
else_listed (Some m) b n e = inl e

chosen_from : (l : Layout) (q : Core) (x : ℕ) (failed : List ℕ) (o : Option ArmName) (n : ArmName) → unless_failed l q x failed o ≡ Some n → o ≡ Some n
chosen_from l q x failed None n e = absurd (none_some None n refl e)
chosen_from l q x failed (Some m) n e = ap Some (kept_other (fails l q failed m x) e)
  where
    kept_other : (b : Bool) → (if b then None else Some m) ≡ Some n → m ≡ n
    kept_other true e = absurd (none_some None n refl e)
    kept_other false e = some_injective m n e

listed_in : (o : Option ArmName) (m n : ArmName) → o ≡ Some n → has_name (to_list o) m ≡ true → o ≡ Some m
listed_in None m n e has = absurd (true≢false (sym has))
listed_in (Some k) m n e has = elim (either_true _ false has) [
  | inl t ↦ ap Some (name_true k m t)
  | inr f ↦ absurd (true≢false (sym f))
]

in_one : (o : Option ArmName) (m : ArmName) → has_name (to_list o) m ≡ true → o ≡ Some m
in_one None m has = absurd (true≢false (sym has))
in_one (Some k) m has = listed_in (Some k) m k refl has

module _ (l : Layout) (lay : IsLayout l) where
  -- the loan goes on to count
  goes_on : (w w' : State) (n : Loan) → w'.core.order ≡ w.core.order
      → ((h' : Held) → w'.core.held n.key ≡ Some h' → (h : Held) × (w.core.held n.key ≡ Some h) × (h'.first ≡ h.first))
      → ((p' : Pass) → w'.core.pass ≡ Some p' → p'.kind ≡ Rebuild → (p : Pass) × (w.core.pass ≡ Some p) × (p.kind ≡ Rebuild))
      → ((p : Pass) (s : Segment) → w.core.pass ≡ Some p → p.kind ≡ Rebuild → n.key ≡ s.key → w.present s ≡ true → w'.present s ≡ true)
      → LoanReads l w n → LoanReads l w' n
  goes_on w w' n order held pass still s = record {
    chosen = λ c m e. let z = s.chosen c m e in (z.0, subst (λ o. has_name (o (l.slot_of n.stripe c)) m ≡ true) (sym order) z.1);
    read = λ c m e. let z = s.read c m e in (z.0, subst (λ o. has_name (o (l.slot_of n.stripe c)) m ≡ true) (sym order) z.1);
    present = λ p h c row leaf m e kind found chosen at lies.
        let x = pass p e kind in
        let y = held h found in
        still x.0 (record { key = n.key; column = c; arm = m; leaf = leaf; row = row }) x.1 x.2 refl
        (s.present x.0 y.0 c row leaf m x.1 x.2 y.1 chosen (ap (λ f. f + row) (sym y.2) ∙ at) (subst (λ o. leaf_at l o m n.stripe ≡ Some leaf) order lies));
  }

  -- ---- Lend
  module _ (w : State) (failed : List ℕ) (new : State) (x : LendStep l w failed new) (listed : AreListed w.core) (sound : Sound l w) where
    row_of : (first : ℕ) → first ≡ x.h.first → x.n.stripe < x.h.first + x.h.stripes → x.h.first ≤ x.n.stripe → first + (x.n.stripe - x.h.first) ≡ x.n.stripe
    row_of first same less from = omega (arith, same, less, from)

    bounds : (x.h.first ≤ x.n.stripe) × (x.n.stripe < x.h.first + x.h.stripes)
    bounds =
        let z = both_true (nat_le x.h.first x.n.stripe) (nat_lt x.n.stripe (x.h.first + x.h.stripes)) x.next.taken in
        (is_low x.h.first x.n.stripe z.0, is_below x.n.stripe (x.h.first + x.h.stripes) z.1)

    band : x.n.stripe / l.height ≡ x.h.first / l.height
    band =
        let from = bounds.0 in
        let less = bounds.1 in
        subst (λ k. k / l.height ≡ x.h.first / l.height) (row_of x.h.first refl less from)
        (sound.core.runs x.n.key x.h (x.n.stripe - x.h.first) x.next.found (omega (arith, from, less)))

    one_slot : (c : ℕ) → l.slot_of x.n.stripe c ≡ l.slot_of x.h.first c
    one_slot c = lay.steady x.n.stripe x.h.first c band

    in_columns : (c : ℕ) (m : ArmName) → x.n.chosen c ≡ Some m → c < l.columns
    in_columns c m e = by (nat_lt c l.columns) refl
      where
        past : nat_lt c l.columns ≡ false → l.columns ≤ c
        past f = grind (arith, nat_tests)

        by : (b : Bool) → nat_lt c l.columns ≡ b → c < l.columns
        by true is = is_below c l.columns is
        by false is = absurd (none_some (x.n.chosen c) m (x.no_more c (past is)) e)

    in_columns_read : (c : ℕ) (m : ArmName) → has_name (x.n.read c) m ≡ true → c < l.columns
    in_columns_read c m e = by (nat_lt c l.columns) refl
      where
        past : nat_lt c l.columns ≡ false → l.columns ≤ c
        past f = grind (arith, nat_tests)

        by : (b : Bool) → nat_lt c l.columns ≡ b → c < l.columns
        by true is = is_below c l.columns is
        by false is = absurd (true≢false (sym (subst (λ ns. has_name ns m ≡ true) (x.read_none c (past is)) e)))

    rebuilds : (kind : PassKind) → kind ≡ Rebuild → is_heal kind ≡ false
    rebuilds kind e = ap is_heal e

    source : (c : ℕ) (m : ArmName) → x.n.chosen c ≡ Some m → is_heal x.p.kind ≡ false → (has_name (w.core.order (l.slot_of x.n.stripe c)) m ≡ true) × (answers l w.core m x.n.stripe ≡ true) × HasEmptyLog w.core m
    source c m e kind =
        let y = x.chosen c (in_columns c m e) in
        let from : y.from ≡ Some m = chosen_from l w.core x.n.stripe failed y.from m (sym y.chosen_is ∙ e) in
        let z = first_listed (λ n. (answers l w.core n x.n.stripe ≡ true) × HasEmptyLog w.core n) (w.core.order (l.slot_of x.n.stripe c)) m
        (subst (λ o. IsSource l w.core x.n.stripe c o) from (y.rebuild kind)) in
        (z.0, z.1.0, z.1.1)

    chosen_listed : (c : ℕ) (m : ArmName) → x.n.chosen c ≡ Some m → has_name (w.core.order (l.slot_of x.n.stripe c)) m ≡ true
    chosen_listed c m e = elim (bool_cases (is_heal x.p.kind)) [
      | inl heal ↦
          let y = x.chosen c (in_columns c m e) in
          let from : y.from ≡ Some m = chosen_from l w.core x.n.stripe failed y.from m (sym y.chosen_is ∙ e) in
          let arms = w.core.order (l.slot_of x.h.first c) in
          let listed_there : has_name arms m ≡ true = elim (else_listed (find (λ n. answers l w.core n x.h.first && is_clean w.core x.h.birth n) arms) (find (λ n. answers l w.core n x.h.first) arms) m (sym (y.heal heal) ∙ from)) [
            | inl z ↦ find_listed (λ n. answers l w.core n x.h.first && is_clean w.core x.h.birth n) arms m z
            | inr z ↦ find_listed (λ n. answers l w.core n x.h.first) arms m z
          ] in
          subst (λ d. has_name (w.core.order d) m ≡ true) (sym (one_slot c)) listed_there
      | inr rebuild ↦ (source c m e rebuild).0
    ]

    read_listed : (c : ℕ) (m : ArmName) → has_name (x.n.read c) m ≡ true → has_name (w.core.order (l.slot_of x.n.stripe c)) m ≡ true
    read_listed c m e = by (is_heal x.p.kind) (subst (λ ns. has_name ns m ≡ true) (x.read c (in_columns_read c m e)) e)
      where
        by : (b : Bool) → has_name (if b then filter (λ n. answers l w.core n x.n.stripe && not (fails l w.core failed n x.n.stripe)) (w.core.order (l.slot_of x.h.first c)) else to_list (x.n.chosen c)) m ≡ true
            → has_name (w.core.order (l.slot_of x.n.stripe c)) m ≡ true
        by true has = subst (λ d. has_name (w.core.order d) m ≡ true) (sym (one_slot c)) (has_filter _ (w.core.order (l.slot_of x.h.first c)) m has).0
        by false has = chosen_listed c m (in_one (x.n.chosen c) m has)

    clean_log : (m : ArmName) (a : Arm) (g : ℕ) → w.core.arm m ≡ Some a → HasEmptyLog w.core m → a.log g ≡ false
    clean_log m a g found empty = subst (λ o. logged o g ≡ false) found (empty g)

    there : (h : Held) (c row leaf : ℕ) (m : ArmName) → x.p.kind ≡ Rebuild → w.core.held x.n.key ≡ Some h → x.n.chosen c ≡ Some m → h.first + row ≡ x.n.stripe → leaf_at l w.core.order m x.n.stripe ≡ Some leaf
        → w.present (record { key = x.n.key; column = c; arm = m; leaf = leaf; row = row }) ≡ true
    there h c row leaf m kind found e at lies =
        let same : x.h ≡ h = some_same (w.core.held x.n.key) x.h h x.next.found found in
        let y = source c m e (rebuilds x.p.kind kind) in
        let data_is = listed.data_of (l.slot_of x.n.stripe c) m y.0 in
        let quiet = sound.core.quiet x.p x.n.key h x.pass kind x.running found in
        sound.covered (record { key = x.n.key; column = c; arm = m; leaf = leaf; row = row }) (record {
          h = h;
          a = data_is.0;
          on = record {
            held = found;
            arm = data_is.1;
            listed = subst (λ d. has_name (w.core.order d) m ≡ true) (one_slot c ∙ ap (λ (v : Held). l.slot_of v.first c) same) y.0;
            column = in_columns c m e;
            row = row_in h row at same;
            lies = subst (λ k. passes (leaf_at l w.core.order m k) (λ n. n == leaf) ≡ true) (sym at) (subst (λ o. passes o (λ n. n == leaf) ≡ true) (sym lies) (equal leaf leaf refl));
          };
          put = put_block h.stage c quiet.0;
          why = inl (clean_log m data_is.0 h.birth data_is.1 y.2);
        })
      where
        row_in : (h : Held) (row : ℕ) → h.first + row ≡ x.n.stripe → x.h ≡ h → row < h.stripes
        row_in h row at same =
            let less : x.n.stripe < h.first + h.stripes = subst (λ (v : Held). x.n.stripe < v.first + v.stripes) same bounds.1 in
            omega (arith, at, less)

    lend_reads : LoanReads l (lend_state w x.p x.n failed) x.n
    lend_reads = record {
      chosen = λ c m e. (in_columns c m e, chosen_listed c m e);
      read = λ c m e. (in_columns_read c m e, read_listed c m e);
      present = λ p h c row leaf m e kind found chosen at lies.
          there h c row leaf m (ap (λ (v : Pass). v.kind) (some_injective (record x.p { errors = capped (x.p.errors + lend_errors x.p.kind failed) }) p e) ∙ kind) found chosen at lies;
    }

  -- ---- every event
  -- what is said of a state's loan
  abbrev pub AllReads : State → Type 0
  AllReads w = (n : Loan) → w.loan ≡ Some n → LoanReads l w n

  no_loan : (w : State) → w.loan ≡ None → AllReads w
  no_loan w none n e = absurd (none_some w.loan n none e)

  same_pass : (w w' : State) → w'.core.pass ≡ w.core.pass → (p' : Pass) → w'.core.pass ≡ Some p' → p'.kind ≡ Rebuild → (p : Pass) × (w.core.pass ≡ Some p) × (p.kind ≡ Rebuild)
  same_pass w w' same p e kind = (p, sym same ∙ e, kind)

  -- blocks, tickets and the pass stay, and no less is present
  quiet : (w w' : State) → w'.loan ≡ w.loan → w'.core.order ≡ w.core.order → w'.core.held ≡ w.core.held → w'.core.pass ≡ w.core.pass → ((s : Segment) → w.present s ≡ true → w'.present s ≡ true) → AllReads w → AllReads w'
  quiet w w' loan order held pass present s n e =
      goes_on w w' n order (λ h found. (h, ap (λ f. f n.key) (sym held) ∙ found, refl)) (same_pass w w' pass) (λ p g is kind at here. present g here) (s n (sym loan ∙ e))

  -- an entry goes on at another stage
  staged : (w w' : State) (k : Key) (h : Held) (st : Stage) → w.core.held k ≡ Some h → w'.loan ≡ w.loan → w'.core.order ≡ w.core.order → w'.core.held ≡ set_held w.core.held k (Some (record h { stage = st }))
      → w'.core.pass ≡ w.core.pass → ((s : Segment) → w.present s ≡ true → w'.present s ≡ true) → AllReads w → AllReads w'
  staged w w' k h st there_is loan order held pass present s n e =
      goes_on w w' n order
      (λ i found. elim (held_cases w.core.held k n.key (Some (record h { stage = st })) i (ap (λ f. f n.key) (sym held) ∙ found)) [
        | inl z ↦ (h, subst (λ x. w.core.held x ≡ Some h) z.0 there_is, ap (λ (v : Held). v.first) (sym (some_injective (record h { stage = st }) i z.1)))
        | inr z ↦ (i, z.1, refl)
      ])
      (same_pass w w' pass) (λ p g is kind at here. present g here) (s n (sym loan ∙ e))

  begin_reads : (w w' : State) (k : Key) (h : Held) → w.core.held k ≡ None → Sound l w → w'.loan ≡ w.loan → w'.core ≡ record w.core { held = set_held w.core.held k (Some h) } → w'.present ≡ w.present → AllReads w → AllReads w'
  begin_reads w w' k h unused sound loan core present s n e =
      let fits = sound.loan n (sym loan ∙ e) in
      goes_on w w' n (ap (λ (q : Core). q.order) core)
      (λ i found. elim (held_cases w.core.held k n.key (Some h) i (ap (λ (q : Core). q.held n.key) (sym core) ∙ found)) [
        | inl z ↦ absurd (none_some (w.core.held k) fits.h unused (subst (λ x. w.core.held x ≡ Some fits.h) (sym z.0) fits.found))
        | inr z ↦ (i, z.1, refl)
      ])
      (same_pass w w' (ap (λ (q : Core). q.pass) core)) (λ p g is kind at here. ap (λ f. f g) present ∙ here) (s n (sym loan ∙ e))

  gone_reads : (w : State) (k : Key) (h : Held) → w.core.held k ≡ Some h → is_block h.stage ≡ false → Sound l w → AllReads w → AllReads (gone_state w k)
  gone_reads w k h found ticket sound s n e =
      let fits = sound.loan n e in
      let other : key_eq k n.key ≡ false = elim (bool_cases (key_eq k n.key)) [
        | inl t ↦
            let same = some_same (w.core.held n.key) fits.h h fits.found (subst (λ x. w.core.held x ≡ Some h) (key_true k n.key t) found) in
            absurd_test (is_block h.stage) (subst (λ (v : Held). is_block v.stage ≡ true) same fits.block) ticket
        | inr f ↦ f
      ] in
      goes_on w (gone_state w k) n refl
      (λ i z. elim (held_cases w.core.held k n.key None i z) [
        | inl y ↦ absurd (none_some None i refl y.1)
        | inr y ↦ (i, y.1, refl)
      ])
      (same_pass w (gone_state w k) refl)
      (λ p g is kind at here. rw (here, subst (λ x. key_eq k x ≡ false) at other) refl) (s n e)

  finish_reads : (w : State) (k : Key) (h : Held) (m : ℕ) → w.core.held k ≡ Some h → is_block h.stage ≡ false → Sound l w → AllReads w → AllReads (finish_state l w k h m)
  finish_reads w k h m found ticket sound s = by (nat_lt l.parity m)
    where
      by : (b : Bool) → AllReads (if b then gone_state w k else live_state w k h)
      by true = gone_reads w k h found ticket sound s
      by false = staged w (live_state w k h) k h Live found refl refl refl refl (λ g here. here) s

  -- nothing is kept while a rebuild runs
  commit_reads : (w : State) (t : ℕ) (img : Image) → AllFits l lay w → AllReads w → AllReads (commit_state l w t img)
  commit_reads w t img a s n e = by w.loan refl e
    where
      none_kept : (p : Pass) (g : Segment) → w.loan ≡ Some n → w.core.pass ≡ Some p → p.kind ≡ Rebuild → (o : Option ℕ) → w.kept g ≡ o → is_kept_by t o ≡ false
      none_kept p g loan pass kind None is = refl
      none_kept p g loan pass kind (Some k) is =
          let fits = a.sound.loan n loan in
          let runs : p.running ≡ true = subst (λ (v : Pass). v.running ≡ true) (some_same w.core.pass fits.p p fits.pass pass) fits.running in
          let low_max = a.images.runs p pass kind runs in
          let above = a.segments.kept.later g k is in
          let under = a.segments.kept.rebuild p g k pass kind is in
          absurd (omega (arith, low_max, above, under))

      stays_there : (g : Segment) → w.present g ≡ true → is_freed_block t (w.core.held g.key) ≡ false → is_kept_by t (w.kept g) ≡ false → (w.present g && stays l t w g) ≡ true
      stays_there g here free kept = rw (here, free, kept) refl

      by : (o : Option Loan) → w.loan ≡ o → keep_loan (λ k. is_freed_block t (w.core.held k)) o ≡ Some n → LoanReads l (commit_state l w t img) n
      by None is z = absurd (none_some None n refl z)
      by (Some m) is z =
          let y = kept_if (not (is_freed_block t (w.core.held m.key))) m n z in
          let loan : w.loan ≡ Some n = is ∙ ap Some y.1 in
          let free : is_freed_block t (w.core.held n.key) ≡ false = not_free (is_freed_block t (w.core.held n.key)) (subst (λ (v : Loan). not (is_freed_block t (w.core.held v.key)) ≡ true) y.1 y.0) in
          goes_on w (commit_state l w t img) n refl
          (λ h found. (h, (kept_some (is_freed_block t (w.core.held n.key)) (w.core.held n.key) h found).1, refl))
          (same_pass w (commit_state l w t img) refl)
          (λ p g pass kind at here. stays_there g here (subst (λ k. is_freed_block t (w.core.held k) ≡ false) at free) (none_kept p g loan pass kind (w.kept g) refl))
          (s n loan)
        where
          not_free : (b : Bool) → not b ≡ true → b ≡ false
          not_free true e = absurd (true≢false (sym e))
          not_free false e = refl

  stripe_reads : (w : State) (p : Pass) (n : Loan) (h : Held) (failed : List ℕ) → AllReads (land_stripe_state l w p n h failed)
  stripe_reads w p n h failed = by (nat_lt l.parity (unsourced l n))
    where
      by : (b : Bool) → AllReads (if b then pass_over w p 1 (n.stripe + 1) else mend_state l w p n h failed)
      by true = no_loan _ refl
      by false = no_loan _ refl

  block_reads : (w : State) (p : Pass) (n : Loan) (h : Held) (failed : List ℕ) (patched : List Patched) (unreadable whole : Bool) → AllReads (land_block_state l w p n h failed patched unreadable whole)
  block_reads w p n h failed patched true whole = no_loan _ refl
  block_reads w p n h failed patched false whole = no_loan _ refl

  attach_reads : (w : State) (slot : ℕ) (n : ArmName) (last : ℕ) → AllReads (attach_state l w slot n last)
  attach_reads w slot n last =
      replan_cases l (λ v. AllReads v) (rearranged_state l w last (attached_core w.core slot n last)) (has_moved l w.core (attached_core w.core slot n last)) w.core.pass
      (λ none. no_loan _ refl) (λ p pass kind. no_loan _ refl) (λ p pass kind. no_loan _ refl)

  step_reads : (w : State) (e : Event) (new : State) → Step l w e new → AllFits l lay w → AllReads w → AllReads new
  step_reads w (Begin key first stripes len birth digest) new x a s = subst (λ v. AllReads v) (sym x.made) (begin_reads w _ key _ x.unused a.sound refl refl refl s)
  step_reads w (Put key landed failed) new x a s =
      subst (λ v. AllReads v) (sym x.made) (staged w _ key x.h (Writing (x.c + 1) (if is_nil landed then x.m + 1 else x.m)) x.found refl refl refl refl (λ g here. rw here refl) s)
  step_reads w (Finish key) new x a s = subst (λ v. AllReads v) (sym x.made) (finish_reads w key x.h x.m x.found (ap is_block x.stage) a.sound s)
  step_reads w (Abort key) new x a s = subst (λ v. AllReads v) (sym x.made) (gone_reads w key x.h x.found x.ticket a.sound s)
  step_reads w (Free key group) new x a s = subst (λ v. AllReads v) (sym x.made) (staged w _ key x.h (Freed group) x.found refl refl refl refl (λ g here. here) s)
  step_reads w (Fetch key failed) new x a s = subst (λ v. AllReads v) (sym x.made) s
  step_reads w (Damage leaf sector failed) new x a s = subst (λ v. AllReads v) (sym x.made) s
  step_reads w (Offline leaf) new x a s = subst (λ v. AllReads v) (sym x.made) (quiet w _ refl refl refl refl (λ g here. here) s)
  step_reads w (Online leaf) new x a s = subst (λ v. AllReads v) (sym x.made) (quiet w _ refl refl refl refl (λ g here. here) s)
  step_reads w (Attach slot arm) new x a s = subst (λ v. AllReads v) (sym x.made) (attach_reads w slot arm x.last)
  step_reads w (Detach slot arm) new x a s = subst (λ v. AllReads v) (sym x.made) (no_loan _ refl)
  step_reads w Upgrade new x a s = subst (λ v. AllReads v) (sym x.made) (quiet w _ refl refl refl refl (λ g here. here) s)
  step_reads w (Close group) new x a s = subst (λ v. AllReads v) (sym x.made) (quiet w _ refl refl refl refl (λ g here. here) s)
  step_reads w (Seal group failed) new x a s = subst (λ v. AllReads v) (sym x.made)
      (λ n e. goes_on w _ n refl (λ h found. (h, found, refl))
      (λ p is kind. let z = mapped_pass (lose_some (lies_on l w.core (is_silent w.core failed.items))) w.core.pass p is in (z.0, z.1, ap (λ (v : Pass). v.kind) (sym z.2) ∙ kind))
      (λ p g pass kind at here. here) (s n e))
  step_reads w (Commit group) new x a s = subst (λ v. AllReads v) (sym x.made) (commit_reads w group x.image a s)
  step_reads w (Plan kind) new x a s = subst (λ v. AllReads v) (sym x.made)
      (λ n e. let fits = a.sound.loan n e in absurd (none_some w.core.pass fits.p x.idle fits.pass))
  step_reads w Ready new x a s = subst (λ v. AllReads v) (sym x.made)
      (λ n e. goes_on w _ n refl (λ h found. (h, found, refl))
      (λ p is kind. (x.p, x.pass, x.rebuild)) (λ p g pass kind at here. here) (s n e))
  step_reads w (Lend failed) new x a s = subst (λ v. AllReads v) (sym x.made)
      (λ n e. subst (λ (m : Loan). LoanReads l (lend_state w x.p x.n failed.items) m) (some_injective x.n n e) (lend_reads w failed.items new x a.listed.core a.sound))
  step_reads w (LandStripe pass serial failed) new x a s = subst (λ v. AllReads v) (sym x.made) (stripe_reads w x.p x.n x.h failed.items)
  step_reads w (LandBlock pass serial failed patched unreadable) new x a s = subst (λ v. AllReads v) (sym x.made) (block_reads w x.p x.n x.h failed.items patched.items unreadable x.whole)
  step_reads w (Done failed) new x a s = subst (λ v. AllReads v) (sym x.made) (no_loan _ x.idle)
  step_reads w Cancel new x a s = subst (λ v. AllReads v) (sym x.made) (no_loan _ refl)
  step_reads w (Reopen group doubtful) new x a s = subst (λ v. AllReads v) (sym x.made) (no_loan _ refl)

  run_reads : (w : State) (es : List Event) (new : State) → Run l w es new → AllFits l lay w → AllReads w → AllReads new
  run_reads w [] new is a s = subst (λ v. AllReads v) (sym is) s
  run_reads w (e ∷ es) new r a s = run_reads r.0 es new r.2 (step_all l lay w e r.0 r.1 a) (step_reads w e r.0 r.1 a s)

pub every_loan : (l : Layout) (w : State) (n : Loan) → IsLayout l → IsReached l w → w.loan ≡ Some n → LoanReads l w n
every_loan l w n lay r e = run_reads l lay (created l r.version) r.events w r.run (created_fit l lay r.version) (no_loan l lay (created l r.version) refl) n e
