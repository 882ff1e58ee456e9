-- Segments that have to be there.
use Rattle.std.proofs.Common.{◌≡◌, ◌==◌, ◌+◌, ◌<◌, ◌&&◌, ◌||◌, not, ℕ, Bool, true, false, nat_lt, List, Option, Some, None, drop, length, get_or, refl, sym, ◌∙◌, ap, ap₂, subst}
use Rattle.std.specs.List.{list_any}
use Rattle.std.proofs.lemmas.Bool.{true≢false}
use Rattle.std.proofs.lemmas.List.{drop_more}
use Rattle.draid_machine.specs.declared.names.Key.{Key}
use Rattle.draid_machine.specs.declared.names.ArmName.{ArmName}
use Rattle.draid_machine.specs.declared.names.Held.{Held}
use Rattle.draid_machine.specs.declared.names.Segment.{Segment}
use Rattle.draid_machine.specs.Names.{key_eq, name_eq, has_name, segment_eq, has_segment, is_block, is_put}
use Rattle.draid_machine.specs.State.{Layout, Core, Arm}
use Rattle.draid_machine.specs.Arms.{lies}
use Rattle.draid_machine.specs.Claims.{is_on, passed, claimed, claims}
use Rattle.draid_machine.proofs.Small.{both_true, true_both, equal, key_refl, name_refl}
use Rattle.draid_steps.specs.Columns.{is_row}
use Rattle.draid_steps.proofs.Lists.{name_passes}
use Rattle.draid_world.proofs.Joining.{one_more}

pub claim_by : (l : Layout) (q : Core) (s : Segment) (h : Held) (a : Arm) → q.held s.key ≡ Some h → q.arm s.arm ≡ Some a → is_on l q.order s h ≡ true → is_put h.stage s.column ≡ true
    → (not (a.log h.birth) || (is_block h.stage && passed q.pass s.arm h s.row)) ≡ claims l q s
claim_by l q s h a found arm on put =
    sym (ap (λ b. b && is_put h.stage s.column && rest) on ∙ ap (λ b. true && b && rest) put)
    ∙ sym (ap₂ (λ (o : Option Held) (p : Option Arm). claimed l q s o p) found arm)
  where
    rest : Bool
    rest = not (a.log h.birth) || (is_block h.stage && passed q.pass s.arm h s.row)

pub claim_clean : (l : Layout) (q : Core) (s : Segment) (h : Held) (a : Arm) → q.held s.key ≡ Some h → q.arm s.arm ≡ Some a → is_on l q.order s h ≡ true → is_put h.stage s.column ≡ true → a.log h.birth ≡ false
    → true ≡ claims l q s
claim_clean l q s h a found arm on put clean = sym (ap (λ b. not b || (is_block h.stage && passed q.pass s.arm h s.row)) clean) ∙ claim_by l q s h a found arm on put

pub claim_passed : (l : Layout) (q : Core) (s : Segment) (h : Held) (a : Arm) → q.held s.key ≡ Some h → q.arm s.arm ≡ Some a → is_on l q.order s h ≡ true → is_put h.stage s.column ≡ true → a.log h.birth ≡ true
    → (is_block h.stage && passed q.pass s.arm h s.row) ≡ claims l q s
claim_passed l q s h a found arm on put logged = sym (ap (λ b. not b || (is_block h.stage && passed q.pass s.arm h s.row)) logged) ∙ claim_by l q s h a found arm on put

pub claim_none : (l : Layout) (q : Core) (s : Segment) (h : Held) → q.held s.key ≡ Some h → q.arm s.arm ≡ None → false ≡ claims l q s
claim_none l q s h found none = sym (ap₂ (λ (o : Option Held) (p : Option Arm). claimed l q s o p) found none)

-- a segment at no place of its block, and one of a column that wasn't put
pub claim_off : (l : Layout) (q : Core) (s : Segment) (h : Held) (a : Arm) → q.held s.key ≡ Some h → q.arm s.arm ≡ Some a → is_on l q.order s h ≡ false → false ≡ claims l q s
claim_off l q s h a found arm off =
    sym (ap₂ (λ (o : Option Held) (p : Option Arm). claimed l q s o p) found arm
    ∙ ap (λ b. b && is_put h.stage s.column && (not (a.log h.birth) || (is_block h.stage && passed q.pass s.arm h s.row))) off)

pub claim_unput : (l : Layout) (q : Core) (s : Segment) (h : Held) (a : Arm) → q.held s.key ≡ Some h → q.arm s.arm ≡ Some a → is_on l q.order s h ≡ true → is_put h.stage s.column ≡ false → false ≡ claims l q s
claim_unput l q s h a found arm on unput =
    sym (ap₂ (λ (o : Option Held) (p : Option Arm). claimed l q s o p) found arm
    ∙ ap (λ b. b && is_put h.stage s.column && (not (a.log h.birth) || (is_block h.stage && passed q.pass s.arm h s.row))) on
    ∙ ap (λ b. true && b && (not (a.log h.birth) || (is_block h.stage && passed q.pass s.arm h s.row))) unput)

pub claim_is_on : (l : Layout) (q : Core) (s : Segment) → claims l q s ≡ true → (h : Held) × (q.held s.key ≡ Some h) × (is_on l q.order s h ≡ true)
claim_is_on l q s is = by (q.held s.key) refl (q.arm s.arm) is
  where
    by : (o : Option Held) → q.held s.key ≡ o → (p : Option Arm) → claimed l q s o p ≡ true → (h : Held) × (q.held s.key ≡ Some h) × (is_on l q.order s h ≡ true)
    by None at p is = absurd (true≢false (sym is))
    by (Some h) at None is = absurd (true≢false (sym is))
    by (Some h) at (Some a) is = (
      h,
      at,
      (both_true (is_on l q.order s h) (is_put h.stage s.column)
          (both_true (is_on l q.order s h && is_put h.stage s.column) (not (a.log h.birth) || (is_block h.stage && passed q.pass s.arm h s.row)) is).0).0,
    )

pub next_of_list : (ss : List Segment) (at : ℕ) (d s : Segment) (c o new : Bool) → at < length ss → new ≡ ((segment_eq (get_or ss at d) s && c) || o)
    → (new || (has_segment (drop (at + 1) ss) s && c)) ≡ (o || (has_segment (drop at ss) s && c))
next_of_list ss at d s c o new less is =
    ap (λ b. b || (has_segment (drop (at + 1) ss) s && c)) is ∙ one_more (segment_eq (get_or ss at d) s) c o (has_segment (drop (at + 1) ss) s)
    ∙ ap (λ ts. o || (has_segment ts s && c)) (sym (drop_more ss at d less))

-- a segment of a column on an arm of its slot
pub on_row : (l : Layout) (order : ℕ → List ArmName) (k : Key) (h : Held) (column : ℕ) (ns : List ArmName) (s : Segment) → k ≡ s.key → s.column ≡ column → ns ≡ order (l.slot_of h.first column)
    → is_on l order s h ≡ true → list_any (λ n. is_row l order k h column n h.stripes s) ns ≡ true
on_row l order k h column ns s key at is on =
    let z = both_true (has_name (order (l.slot_of h.first s.column)) s.arm && nat_lt s.column l.columns && nat_lt s.row h.stripes) (lies l order s.arm (h.first + s.row) s.leaf) on in
    let y = both_true (has_name (order (l.slot_of h.first s.column)) s.arm && nat_lt s.column l.columns) (nat_lt s.row h.stripes) z.0 in
    let x = both_true (has_name (order (l.slot_of h.first s.column)) s.arm) (nat_lt s.column l.columns) y.0 in
    let there : has_name ns s.arm ≡ true = ap (λ ms. has_name ms s.arm) (is ∙ ap (λ c. order (l.slot_of h.first c)) (sym at)) ∙ x.0 in
    let same : key_eq k s.key ≡ true = subst (λ j. key_eq k j ≡ true) key (key_refl k) in
    name_passes (λ n. is_row l order k h column n h.stripes s) ns s.arm there
    (true_both (key_eq k s.key && (s.column == column) && name_eq s.arm s.arm && nat_lt s.row h.stripes) (lies l order s.arm (h.first + s.row) s.leaf)
    (true_both (key_eq k s.key && (s.column == column) && name_eq s.arm s.arm) (nat_lt s.row h.stripes)
    (true_both (key_eq k s.key && (s.column == column)) (name_eq s.arm s.arm) (true_both (key_eq k s.key) (s.column == column) same (equal s.column column at)) (name_refl s.arm))
    y.1)
    z.1)

-- segments of which those that have to be there are some
pub claims_all : (l : Layout) (q : Core) (s : Segment) (b : Bool) → ((h : Held) → q.held s.key ≡ Some h → is_on l q.order s h ≡ true → b ≡ true) → (b && claims l q s) ≡ claims l q s
claims_all l q s b has = by (claims l q s) refl
  where
    none : (b : Bool) → (b && false) ≡ false
    none true = refl
    none false = refl

    by : (x : Bool) → claims l q s ≡ x → (b && x) ≡ x
    by true is = let z = claim_is_on l q s is in ap (λ y. y && true) (has z.0 z.1 z.2)
    by false is = none b
