-- Sets of segments.
use Rattle.std.proofs.Common.{◌≡◌, ◌==◌, ◌&&◌, ◌||◌, not, ℕ, Bool, true, false, List, [], ◌∷◌, cond, refl, sym, ◌∙◌, ap₂, arith, Ordering}
use Rattle.std.specs.List.{list_any}
use Rattle.std.specs.BTreeMap.{is_at}
use Rattle.std.proofs.lemmas.Bool.Decides.{nat_tests}
use Rattle.draid_machine.specs.contracts.names as contracts
use Rattle.draid_machine.specs.declared.names.Key.{Key}
use Rattle.draid_machine.specs.declared.names.ArmName.{ArmName}
use Rattle.draid_machine.specs.declared.names.ArmName.TheVariants.{Leaf, Spare}
use Rattle.draid_machine.specs.declared.names.Segment.{Segment}
use Rattle.draid_machine.specs.Names.{key_eq, name_eq, segment_eq, has_segment}
use Rattle.draid_world.proofs.SegmentLists.{or_turned}

abbrev pub segment_cmp : Segment → Segment → Ordering
segment_cmp s t = (contracts.SegmentOrd.TheImpl.cmp-value).it s t

pub at_segment : (s t : Segment) → is_at (segment_cmp s) t ≡ segment_eq t s
at_segment s t = by s.key t.key s.column t.column s.arm t.arm s.leaf t.leaf s.row t.row
  where
    by : (k j : Key) (c d : ℕ) (n m : ArmName) (x y r q : ℕ) → is_at (segment_cmp (record { key = k; column = c; arm = n; leaf = x; row = r })) (record { key = j; column = d; arm = m; leaf = y; row = q })
        ≡ segment_eq (record { key = j; column = d; arm = m; leaf = y; row = q }) (record { key = k; column = c; arm = n; leaf = x; row = r })
    by k j c d (Leaf a) (Leaf b) x y r q = grind (arith, nat_tests)
    by k j c d (Leaf a) (Spare b) x y r q = grind (arith, nat_tests)
    by k j c d (Spare a) (Leaf b) x y r q = grind (arith, nat_tests)
    by k j c d (Spare a) (Spare b) x y r q = grind (arith, nat_tests)

pub turn_segment : (s t : Segment) → segment_eq s t ≡ segment_eq t s
turn_segment s t = by s.arm t.arm
  where
    turn_name : (n m : ArmName) → name_eq n m ≡ name_eq m n
    turn_name (Leaf a) (Leaf b) = grind (arith, nat_tests)
    turn_name (Leaf a) (Spare b) = refl
    turn_name (Spare a) (Leaf b) = refl
    turn_name (Spare a) (Spare b) = grind (arith, nat_tests)

    by : (n m : ArmName) → (key_eq s.key t.key && (s.column == t.column) && name_eq n m && (s.leaf == t.leaf) && (s.row == t.row)) ≡ (key_eq t.key s.key && (t.column == s.column) && name_eq m n && (t.leaf == s.leaf) && (t.row == s.row))
    by n m = rw (turn_name n m) (grind (arith, nat_tests))

pub segments_at : (ss : List Segment) (s : Segment) → list_any (is_at (segment_cmp s)) ss ≡ has_segment ss s
segments_at [] s = refl
segments_at (t ∷ ts) s = ap₂ (λ a b. a || b) (at_segment s t) (segments_at ts s)

pub segment_added : (old new : List Segment) (k : Segment) → ((q : Segment) → list_any (is_at (segment_cmp q)) new ≡ cond (is_at (segment_cmp k) q) true (list_any (is_at (segment_cmp q)) old))
    → (s : Segment) → has_segment new s ≡ (has_segment old s || segment_eq k s)
segment_added old new k is s = sym (segments_at new s) ∙ is s ∙ ap₂ (λ a b. cond a true b) (at_segment k s ∙ turn_segment s k) (segments_at old s) ∙ bits (segment_eq k s) (has_segment old s)
  where
    bits : (a b : Bool) → cond a true b ≡ (b || a)
    bits true true = refl
    bits true false = refl
    bits false true = refl
    bits false false = refl

pub segment_removed : (old new : List Segment) (k : Segment) → ((q : Segment) → list_any (is_at (segment_cmp q)) new ≡ cond (is_at (segment_cmp k) q) false (list_any (is_at (segment_cmp q)) old))
    → (s : Segment) → has_segment new s ≡ (has_segment old s && not (segment_eq k s))
segment_removed old new k is s = sym (segments_at new s) ∙ is s ∙ ap₂ (λ a b. cond a false b) (at_segment k s ∙ turn_segment s k) (segments_at old s) ∙ bits (segment_eq k s) (has_segment old s)
  where
    bits : (a b : Bool) → cond a false b ≡ (b && not a)
    bits true true = refl
    bits true false = refl
    bits false true = refl
    bits false false = refl

-- a set to which a segment was added, with that segment first
pub segment_first : (old new : List Segment) (k : Segment) → ((s : Segment) → has_segment new s ≡ (has_segment old s || segment_eq k s)) → (s : Segment) → has_segment new s ≡ (segment_eq k s || has_segment old s)
segment_first old new k is s = is s ∙ or_turned (has_segment old s) (segment_eq k s)
