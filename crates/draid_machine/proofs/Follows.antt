-- What came from another state with nothing new: the same runs and births, logs no shorter, fewer blocks, arms and targets.
use Rattle.std.proofs.Common.{◌≡◌, ◌+◌, ◌/◌, ◌<◌, ◌≤◌, ◌&&◌, ◌||◌, ◌==◌, not, ℕ, Bool, true, false, nat_le, nat_lt, Option, Some, None, refl, sym, ◌∙◌, ap, subst, inl, inr, arith}
use Rattle.std.proofs.lemmas.Bool.{true≢false}
use Rattle.std.proofs.lemmas.Bool.Decides.{nat_tests}
use Rattle.draid_machine.specs.declared.names.Key.{Key}
use Rattle.draid_machine.specs.declared.names.ArmName.{ArmName}
use Rattle.draid_machine.specs.declared.names.Held.{Held}
use Rattle.draid_machine.specs.declared.names.Segment.{Segment}
use Rattle.draid_machine.specs.Names.{has_name, is_block, is_heal, is_put, takes}
use Rattle.draid_machine.specs.State.{Layout, IsLayout, Arm, Pass, Core, Loan}
use Rattle.draid_machine.specs.Arms.{lies}
use Rattle.draid_machine.specs.Claims.{passed}
use Rattle.draid_machine.specs.Sound.{IsClaimed, CoreSound, LoanFits}
use Rattle.draid_machine.specs.Step.{is_lent}
use Rattle.draid_machine.proofs.Small.{some_same, true_both, bool_cases, absurd_test}

-- the same block or ticket
pub record SameRun (h h' : Held) : Type 0 where
  pub first : h'.first ≡ h.first
  pub stripes : h'.stripes ≡ h.stripes
  pub birth : h'.birth ≡ h.birth
  pub block : is_block h'.stage ≡ is_block h.stage

-- the same with no further column
pub record SameHeld (h h' : Held) : Type 0 where
  pub run : SameRun h h'
  pub put : (c : ℕ) → is_put h'.stage c ≡ true → is_put h.stage c ≡ true

pub record SamePass (p p' : Pass) : Type 0 where
  pub kind : p'.kind ≡ p.kind
  pub max : p'.max ≡ p.max
  pub next : p'.next ≡ p.next
  pub running : p'.running ≡ p.running
  pub errors : p'.errors ≡ 0 → p.errors ≡ 0
  pub targets : (n : ArmName) → has_name p'.targets n ≡ true → has_name p.targets n ≡ true

-- the same blocks and tickets, or fewer
pub record Keeps (q q' : Core) : Type 0 where
  pub held : (k : Key) (h' : Held) → q'.held k ≡ Some h' → (h : Held) × (q.held k ≡ Some h) × SameRun h h'
  pub arm : (n : ArmName) (a' : Arm) → q'.arm n ≡ Some a' → (a : Arm) × (q.arm n ≡ Some a) × ((g : ℕ) → a.log g ≡ true → a'.log g ≡ true)
  pub pass : (p' : Pass) → q'.pass ≡ Some p' → (p : Pass) × (q.pass ≡ Some p) × SamePass p p'

pub record Follows (l : Layout) (q q' : Core) : Type 0 where
  pub held : (k : Key) (h' : Held) → q'.held k ≡ Some h' → (h : Held) × (q.held k ≡ Some h) × SameHeld h h'
  pub arm : (n : ArmName) (a' : Arm) → q'.arm n ≡ Some a' → (a : Arm) × (q.arm n ≡ Some a) × ((g : ℕ) → a.log g ≡ true → a'.log g ≡ true)
  pub listed : (c : ℕ) (n : ArmName) → has_name (q'.order c) n ≡ true → has_name (q.order c) n ≡ true
  pub lies : (c x : ℕ) (n : ArmName) (leaf : ℕ) → has_name (q'.order c) n ≡ true → lies l q'.order n x leaf ≡ true → lies l q.order n x leaf ≡ true
  pub pass : (p' : Pass) → q'.pass ≡ Some p' → (p : Pass) × (q.pass ≡ Some p) × SamePass p p'

-- ---- what passes on

pub takes_same : (h h' : Held) (x : ℕ) → SameRun h h' → takes h' x ≡ true → takes h x ≡ true
takes_same h h' x s t = rw (sym s.first, sym s.stripes) t

pub takes_on : (h h' : Held) (x : ℕ) → SameRun h h' → takes h x ≡ true → takes h' x ≡ true
takes_on h h' x s t = rw (s.first, s.stripes) t

pub record HasPassed (o : Option Pass) (n : ArmName) (h : Held) (row : ℕ) : Type 0 where
  pub p : Pass
  pub pass : o ≡ Some p
  pub running : p.running ≡ true
  pub errors : p.errors ≡ 0
  pub target : has_name p.targets n ≡ true
  pub max : h.birth ≤ p.max
  pub next : h.first + row < p.next

pub from_passed : (o : Option Pass) (n : ArmName) (h : Held) (row : ℕ) → passed o n h row ≡ true → HasPassed o n h row
from_passed None n h row e = absurd (true≢false (sym e))
from_passed (Some p) n h row e = of p.running (p.errors == 0) (has_name p.targets n) (nat_le h.birth p.max) (nat_lt (h.first + row) p.next) e refl refl refl refl refl
  where
    of : (a b c d f : Bool) → (a && b && c && d && f) ≡ true → p.running ≡ a → (p.errors == 0) ≡ b → has_name p.targets n ≡ c → nat_le h.birth p.max ≡ d → nat_lt (h.first + row) p.next ≡ f
        → HasPassed (Some p) n h row
    of true true true true true e ra eb tc md nf =
        record { p = p; pass = refl; running = ra; errors = grind (arith, nat_tests); target = tc; max = grind (arith, nat_tests); next = grind (arith, nat_tests) }
    of false b c d f e ra eb tc md nf = absurd (true≢false (sym e))
    of true false c d f e ra eb tc md nf = absurd (true≢false (sym e))
    of true true false d f e ra eb tc md nf = absurd (true≢false (sym e))
    of true true true false f e ra eb tc md nf = absurd (true≢false (sym e))
    of true true true true false e ra eb tc md nf = absurd (true≢false (sym e))

some_passed : (p : Pass) (n : ArmName) (h : Held) (row : ℕ) → p.running ≡ true → p.errors ≡ 0 → has_name p.targets n ≡ true → h.birth ≤ p.max → h.first + row < p.next
    → passed (Some p) n h row ≡ true
some_passed p n h row ru er ta ma ne =
    rw (ru, er, ta) (both (nat_le h.birth p.max) (nat_lt (h.first + row) p.next) (grind (arith, nat_tests)) (grind (arith, nat_tests)))
  where
    both : (a b : Bool) → a ≡ true → b ≡ true → (a && b) ≡ true
    both a b x y = true_both a b x y

pub to_passed : (o : Option Pass) (n : ArmName) (h : Held) (row : ℕ) → HasPassed o n h row → passed o n h row ≡ true
to_passed o n h row z = subst (λ x. passed x n h row ≡ true) (sym z.pass) (some_passed z.p n h row z.running z.errors z.target z.max z.next)

module _ (l : Layout) (q q' : Core) (f : Follows l q q') where
  pub passed_before : (n : ArmName) (h h' : Held) (row : ℕ) → SameRun h h' → passed q'.pass n h' row ≡ true → passed q.pass n h row ≡ true
  passed_before n h h' row same e =
      let z = from_passed q'.pass n h' row e in
      let b = f.pass z.p z.pass in
      let s = b.2 in
      to_passed q.pass n h row (record {
        p = b.0;
        pass = b.1;
        running = sym s.running ∙ z.running;
        errors = s.errors z.errors;
        target = s.targets n z.target;
        max = subst (λ m. h.birth ≤ m) s.max (subst (λ x. x ≤ z.p.max) same.birth z.max);
        next = subst (λ m. h.first + row < m) s.next (subst (λ x. x + row < z.p.next) same.first z.next);
      })

  clean_before : (a a' : Arm) (g g' : ℕ) → g' ≡ g → ((g : ℕ) → a.log g ≡ true → a'.log g ≡ true) → a'.log g' ≡ false → a.log g ≡ false
  clean_before a a' g g' same more e = elim (bool_cases (a.log g)) [
    | inl t ↦ absurd_test (a'.log g') (subst (λ x. a'.log x ≡ true) (sym same) (more g t)) e
    | inr t ↦ t
  ]

  -- a claim that follows was a claim
  pub claimed_before : (committed top : ℕ) (s : Segment) → IsLayout l → CoreSound l committed top q → IsClaimed l q' s → IsClaimed l q s
  claimed_before committed top s lay sound c =
      let h' = c.h in
      let b = f.held s.key h' c.on.held in
      let h = b.0 in
      let same = b.2.run in
      let x = f.arm s.arm c.a c.on.arm in
      let row : s.row < h.stripes = subst (λ m. s.row < m) same.stripes c.on.row in
      let listed' : has_name (q'.order (l.slot_of h.first s.column)) s.arm ≡ true = subst (λ m. has_name (q'.order (l.slot_of m s.column)) s.arm ≡ true) same.first c.on.listed in
      let lies' : lies l q'.order s.arm (h.first + s.row) s.leaf ≡ true = subst (λ m. lies l q'.order s.arm (m + s.row) s.leaf ≡ true) same.first c.on.lies in
      record {
        h = h;
        a = x.0;
        on = record {
          held = b.1;
          arm = x.1;
          listed = f.listed (l.slot_of h.first s.column) s.arm listed';
          column = c.on.column;
          row = row;
          lies = f.lies (l.slot_of h.first s.column) (h.first + s.row) s.arm s.leaf listed' lies';
        };
        put = b.2.put s.column c.put;
        why = elim c.why [
          | inl clean ↦ inl (clean_before x.0 c.a h.birth h'.birth same.birth x.2 clean)
          | inr z ↦ inr (sym same.block ∙ z.0, passed_before s.arm h h' s.row same z.1)
        ];
      }

module _ (l : Layout) (q q' : Core) (f : Keeps q q') where
  -- it is sound as it was
  pub core_keeps : (committed top : ℕ) → CoreSound l committed top q → CoreSound l committed top q'
  core_keeps committed top s = record {
    apart = λ k j h i x hk hj tx ty.
        let b = f.held k h hk in
        let d = f.held j i hj in
        s.apart k j b.0 d.0 x b.1 d.1 (takes_same b.0 h x b.2 tx) (takes_same d.0 i x d.2 ty);
    runs = λ k h r hk less.
        let b = f.held k h hk in
        let z = s.runs k b.0 r b.1 (subst (λ m. r < m) b.2.stripes less) in
        subst (λ m. (m + r) / l.height ≡ m / l.height) (sym b.2.first) z;
    inside = λ k h hk. (let b = f.held k h hk in let z = s.inside k b.0 b.1 in let first = b.2.first in let stripes = b.2.stripes in omega (arith, z, first, stripes));
    some = λ k h hk. let b = f.held k h hk in subst (λ m. 1 ≤ m) (sym b.2.birth) (s.some k b.0 b.1);
    births = λ k h hk. let b = f.held k h hk in subst (λ m. m ≤ top) (sym b.2.birth) (s.births k b.0 b.1);
    tickets = λ k h hk ticket. let b = f.held k h hk in subst (λ m. committed < m) (sym b.2.birth) (s.tickets k b.0 b.1 (sym b.2.block ∙ ticket));
    targets = λ p n a k h pass kind target arm hk.
        let b = f.held k h hk in
        let x = f.arm n a arm in
        let y = f.pass p pass in
        subst (λ m. a.log m ≡ true) (sym b.2.birth) (x.2 b.0.birth (s.targets y.0 n x.0 k b.0 y.1 (sym y.2.kind ∙ kind) (y.2.targets n target) x.1 b.1));
    quiet = λ p k h pass kind running hk.
        let b = f.held k h hk in
        let y = f.pass p pass in
        let z = s.quiet y.0 k b.0 y.1 (sym y.2.kind ∙ kind) (sym y.2.running ∙ running) b.1 in
        (b.2.block ∙ z.0, subst (λ m. m ≤ committed) (sym b.2.birth) z.1);
    planned = λ p pass idle.
        let y = f.pass p pass in
        let z = s.planned y.0 y.1 (sym y.2.running ∙ idle) in
        (y.2.kind ∙ z.0, y.2.next ∙ z.1);
    heal = λ p pass kind.
        let y = f.pass p pass in
        subst (λ m. m ≤ committed) (sym y.2.max) (s.heal y.0 y.1 (sym y.2.kind ∙ kind));
  }

  -- a loan goes on to count where its pass and its block stay
  pub loan_keeps : (n : Loan)
      → ((p : Pass) → q.pass ≡ Some p → (p' : Pass) × (q'.pass ≡ Some p'))
      → ((h : Held) → q.held n.key ≡ Some h → (h' : Held) × (q'.held n.key ≡ Some h'))
      → LoanFits q n → LoanFits q' n
  loan_keeps n stays there z =
      let p' = stays z.p z.pass in
      let h' = there z.h z.found in
      let y = f.pass p'.0 p'.1 in
      let b = f.held n.key h'.0 h'.1 in
      let same_p : y.0 ≡ z.p = some_same q.pass y.0 z.p y.1 z.pass in
      let same_h : b.0 ≡ z.h = some_same (q.held n.key) b.0 z.h b.1 z.found in
      record {
        p = p'.0;
        h = h'.0;
        pass = p'.1;
        running = y.2.running ∙ ap (λ (p : Pass). p.running) same_p ∙ z.running;
        found = h'.1;
        block = b.2.block ∙ ap (λ (h : Held). is_block h.stage) same_h ∙ z.block;
        taken = takes_on b.0 h'.0 n.stripe b.2 (subst (λ h. takes h n.stripe ≡ true) (sym same_h) z.taken);
        lent = (λ i. not (is_heal (y.2.kind i)) || (b.2.block i && nat_le (b.2.birth i) (y.2.max i))) ∙ ap (λ (p : Pass). is_lent p b.0) same_p ∙ ap (is_lent z.p) same_h ∙ z.lent;
        from = subst (λ m. m ≤ n.stripe) (sym (y.2.next ∙ ap (λ (p : Pass). p.next) same_p)) z.from;
        clear = λ k i x hk block max tx from below.
            let d = f.held k i hk in
            z.clear k d.0 x d.1 (sym d.2.block ∙ block)
            (subst (λ m. d.0.birth ≤ m) (y.2.max ∙ ap (λ (p : Pass). p.max) same_p) (subst (λ m. m ≤ p'.0.max) d.2.birth max))
            (takes_same d.0 i x d.2 tx)
            (subst (λ m. m ≤ x) (y.2.next ∙ ap (λ (p : Pass). p.next) same_p) from)
            below;
      }

pub keeps_of : (l : Layout) (q q' : Core) → Follows l q q' → Keeps q q'
keeps_of l q q' f = record {
  held = λ k h e. let b = f.held k h e in (b.0, b.1, b.2.run);
  arm = f.arm;
  pass = f.pass;
}

pub core_follows : (l : Layout) (q q' : Core) → Follows l q q' → (committed top : ℕ) → CoreSound l committed top q → CoreSound l committed top q'
core_follows l q q' f = core_keeps l q q' (keeps_of l q q' f)

pub loan_follows : (l : Layout) (q q' : Core) → Follows l q q' → (n : Loan)
    → ((p : Pass) → q.pass ≡ Some p → (p' : Pass) × (q'.pass ≡ Some p'))
    → ((h : Held) → q.held n.key ≡ Some h → (h' : Held) × (q'.held n.key ≡ Some h'))
    → LoanFits q n → LoanFits q' n
loan_follows l q q' f = loan_keeps l q q' (keeps_of l q q' f)
