-- What ordered maps and sets of the tables hold.
use Rattle.std.proofs.Common.{◌≡◌, ◌<◌, ◌≤◌, ◌&&◌, ◌||◌, ℕ, Bool, true, false, List, [], ◌∷◌, zero, suc, get_or, length, is_some, is_none, unwrap_or, option_map, Vec, Global, Option, Some, None, Result, Ok, Err, IfOk, OnOk, IsSome, cond, not, filter, if◌then◌else◌, refl, sym, ◌∙◌, ap, ap₂, subst, arith, nat_cmp, Ordering}
use Rattle.std.specs.Ordering.{ordering_then}
use Rattle.draid_machine.specs.contracts.names as contracts
use Rattle.std.specs.List.{list_any}
use Rattle.std.specs.Map.{lookup}
use Rattle.std.specs.BTreeMap.{is_at}
use Rattle.std.proofs.lemmas.Bool.Decides.{nat_tests}
use Rattle.draid_machine.specs.declared.names.Key.{Key}
use Rattle.draid_machine.specs.declared.names.ArmName.{ArmName}
use Rattle.draid_machine.specs.declared.names.ArmName.TheVariants.{Leaf, Spare}
use Rattle.draid_machine.specs.declared.names.Held.{Held}
use Rattle.draid_machine.specs.declared.names.Segment.{Segment}
use Rattle.draid_machine.specs.After.{set_held, set_arm}
use Rattle.draid_machine.specs.Names.{key_eq, name_eq, has_name, segment_eq, has_segment}
use Rattle.draid_world.specs.World.{held_in, arm_in, arm_of, gone_of, names_at}
use Rattle.draid_world.specs.declared.world.Detached.{Detached}
use Rattle.draid_machine.specs.State as state
use Rattle.draid_machine.specs.Arms.{leaf_answers, is_here, online}
use Rattle.draid_world.specs.declared.world.Arm.{Arm}

-- the order of keys
abbrev pub key_cmp : Key → Key → Ordering
key_cmp a b = ordering_then (nat_cmp a.object b.object) (nat_cmp a.seq b.seq)

same_key : (k j : Key) → is_at (key_cmp k) j ≡ key_eq j k
same_key k j = grind (arith, nat_tests)

pub held_lookup : (es : List (Key × Held)) (k : Key) → lookup (is_at (key_cmp k)) es ≡ held_in es k
held_lookup [] k = refl
held_lookup (e ∷ es) k = λ i. if same_key k e.0 i then Some e.1 else held_lookup es k i

-- an updated map
pub held_updated : (old new : List (Key × Held)) (k : Key) (w : Option Held) → ((q : Key) → lookup (is_at (key_cmp q)) new ≡ cond (is_at (key_cmp k) q) w (lookup (is_at (key_cmp q)) old))
    → (q : Key) → held_in new q ≡ set_held (held_in old) k w q
held_updated old new k w e q = sym (held_lookup new q) ∙ e q ∙ (λ i. cond (turned i) w (held_lookup old q i))
  where
    turn : (k q : Key) → key_eq q k ≡ key_eq k q
    turn k q = grind (arith, nat_tests)

    turned : is_at (key_cmp k) q ≡ key_eq k q
    turned = same_key k q ∙ turn k q

-- a set without the members that fail a test
either : (a b c : Bool) → (c ≡ true → b ≡ true) → ((a && b) || (c && b)) ≡ ((a || c) && b)
either true b c f = grind arith
either false b c f = refl

pub kept_segments : (keep : Segment → Bool) (ss : List Segment) (s : Segment) → ((t : Segment) → segment_eq t s ≡ true → keep t ≡ keep s)
    → has_segment (filter keep ss) s ≡ (has_segment ss s && keep s)
kept_segments keep [] s same = refl
kept_segments keep (t ∷ ts) s same = by (keep t) refl (segment_eq t s) refl (kept_segments keep ts s same)
  where
    gone : (a b : Bool) → b ≡ false → (a && b) ≡ false
    gone true b e = e
    gone false b e = refl

    by : (k : Bool) → keep t ≡ k → (e : Bool) → segment_eq t s ≡ e → has_segment (filter keep ts) s ≡ (has_segment ts s && keep s)
        → has_segment (cond k (t ∷ filter keep ts) (filter keep ts)) s ≡ ((e || has_segment ts s) && keep s)
    by true is true at rest = rw at (sym (sym (same t at) ∙ is))
    by true is false at rest = rw at rest
    by false is true at rest = rest ∙ gone (has_segment ts s) (keep s) (sym (same t at) ∙ is) ∙ sym (sym (same t at) ∙ is)
    by false is false at rest = rest

pub same_keys : (k : Key) (t s : Segment) → segment_eq t s ≡ true → not (key_eq k t.key) ≡ not (key_eq k s.key)
same_keys k t s e = grind (arith, nat_tests)

pub on_ok : {A E P Q : Type 0} (r : Result A E) → (P → Q) → OnOk r P → OnOk r Q
on_ok (Ok a) f p = f p
on_ok (Err e) f p = p

pub ok_map : {A E : Type 0} (r : Result A E) (P Q : A → Type 0) → ((a : A) → P a → Q a) → IfOk r P → IfOk r Q
ok_map (Ok a) P Q f p = f a p
ok_map (Err e) P Q f p = p

pub is_some_held : (es : List (Key × Held)) (k : Key) → IsSome (held_in es k) → IsSome (lookup (is_at (key_cmp k)) es)
is_some_held es k s = subst (λ o. IsSome o) (sym (held_lookup es k)) s

pub any_name : (test : ArmName → Bool) (ns : List ArmName) (n : ArmName) → ((y : ArmName) → test y ≡ name_eq y n) → list_any test ns ≡ has_name ns n
any_name test [] n same = refl
any_name test (y ∷ ys) n same = ap₂ (λ a b. a || b) (same y) (any_name test ys n same)

-- the derived order of arms tells them apart as their names do
arm_same : (n m : ArmName) → is_at ((contracts.ArmNameOrd.TheImpl.cmp-value).it n) m ≡ name_eq m n
arm_same (Leaf a) (Leaf b) = grind (arith, nat_tests)
arm_same (Leaf a) (Spare b) = refl
arm_same (Spare a) (Leaf b) = refl
arm_same (Spare a) (Spare b) = grind (arith, nat_tests)

pub arm_lookup : (es : List (ArmName × Arm)) (n : ArmName) → option_map arm_of (lookup (is_at ((contracts.ArmNameOrd.TheImpl.cmp-value).it n)) es) ≡ arm_in es n
arm_lookup [] n = refl
arm_lookup (e ∷ es) n = by (is_at ((contracts.ArmNameOrd.TheImpl.cmp-value).it n) e.0) (arm_same n e.0) (arm_lookup es n)
  where
    by : (b : Bool) → b ≡ name_eq e.0 n → option_map arm_of (lookup (is_at ((contracts.ArmNameOrd.TheImpl.cmp-value).it n)) es) ≡ arm_in es n
        → option_map arm_of (cond b (Some e.1) (lookup (is_at ((contracts.ArmNameOrd.TheImpl.cmp-value).it n)) es)) ≡ (if name_eq e.0 n then Some (arm_of e.1) else arm_in es n)
    by true is rest = rw (← is) refl
    by false is rest = rw (← is) rest

pub some_mapped : {A B : Type 0} (f : A → B) (o : Option A) → is_some (option_map f o) ≡ is_some o
some_mapped f None = refl
some_mapped f (Some a) = refl

-- the arms of a slot in a list of lists
pub names_here : (vs : List (Vec ArmName Global)) (c : ℕ) (v : Vec ArmName Global) (ns : List ArmName) → c < length vs → v ≡ get_or vs c v → ns ≡ v.items → names_at vs c ≡ ns
names_here [] c v ns less is items = absurd (omega (arith, less))
names_here (x ∷ xs) zero v ns less is items = ap (λ (y : Vec ArmName Global). y.items) (sym is) ∙ sym items
names_here (x ∷ xs) (suc c) v ns less is items = names_here xs c v ns (omega (arith, less)) is items

pub names_past : (vs : List (Vec ArmName Global)) (c : ℕ) → length vs ≤ c → names_at vs c ≡ []
names_past [] c past = refl
names_past (x ∷ xs) zero past = absurd (omega (arith, past))
names_past (x ∷ xs) (suc c) past = names_past xs c (omega (arith, past))

pub is_some_arm : (es : List (ArmName × Arm)) (n : ArmName) → IsSome (arm_in es n) → IsSome (lookup (is_at ((contracts.ArmNameOrd.TheImpl.cmp-value).it n)) es)
is_some_arm es n s = sym (some_mapped arm_of (lookup (is_at ((contracts.ArmNameOrd.TheImpl.cmp-value).it n)) es)) ∙ ap is_some (arm_lookup es n) ∙ s

pub mapped_some : {A B : Type 0} (f : A → B) (o : Option A) (b : B) → option_map f o ≡ Some b → (a : A) × (o ≡ Some a) × (f a ≡ b)
mapped_some f None b e = absurd (cc)
mapped_some f (Some a) b e = (a, refl, ap (λ o. unwrap_or o b) e)

turn_name : (n m : ArmName) → name_eq n m ≡ name_eq m n
turn_name (Leaf a) (Leaf b) = grind (arith, nat_tests)
turn_name (Leaf a) (Spare b) = refl
turn_name (Spare a) (Leaf b) = refl
turn_name (Spare a) (Spare b) = grind (arith, nat_tests)

pub arm_updated : (old new : List (ArmName × Arm)) (k : ArmName) (w : Option Arm)
    → ((q : ArmName) → lookup (is_at ((contracts.ArmNameOrd.TheImpl.cmp-value).it q)) new ≡ cond (is_at ((contracts.ArmNameOrd.TheImpl.cmp-value).it k) q) w (lookup (is_at ((contracts.ArmNameOrd.TheImpl.cmp-value).it q)) old))
    → (q : ArmName) → arm_in new q ≡ set_arm (arm_in old) k (option_map arm_of w) q
arm_updated old new k w e q = sym (arm_lookup new q) ∙ ap (option_map arm_of) (e q) ∙ pushed (is_at ((contracts.ArmNameOrd.TheImpl.cmp-value).it k) q) ∙ (λ i. cond (turned i) (option_map arm_of w) (arm_lookup old q i))
  where
    pushed : (b : Bool) → option_map arm_of (cond b w (lookup (is_at ((contracts.ArmNameOrd.TheImpl.cmp-value).it q)) old))
        ≡ cond b (option_map arm_of w) (option_map arm_of (lookup (is_at ((contracts.ArmNameOrd.TheImpl.cmp-value).it q)) old))
    pushed true = refl
    pushed false = refl

    turned : is_at ((contracts.ArmNameOrd.TheImpl.cmp-value).it k) q ≡ name_eq k q
    turned = arm_same k q ∙ turn_name q k

-- a leaf's arm says whether it answers
pub answers_some : (q : state.Core) (leaf : ℕ) (a : Arm) → q.arm (Leaf leaf) ≡ Some (arm_of a) → (is_none a.gone && not a.offline) ≡ leaf_answers q leaf
answers_some q leaf a e = of a.gone ∙ sym (ap (λ o. is_here o && online o) e)
  where
    of : (g : Option Detached) → (is_none g && not a.offline) ≡ (elim (option_map gone_of g) as (λ g. Bool) [ None ↦ true | Some g ↦ false ] && not a.offline)
    of None = refl
    of (Some g) = refl

pub answers_none : (q : state.Core) (leaf : ℕ) → q.arm (Leaf leaf) ≡ None → false ≡ leaf_answers q leaf
answers_none q leaf e = sym (ap (λ o. is_here o && online o) e)

pub arm_found : (es : List (ArmName × Arm)) (n : ArmName) (o : Option Arm) → lookup (is_at ((contracts.ArmNameOrd.TheImpl.cmp-value).it n)) es ≡ o → arm_in es n ≡ option_map arm_of o
arm_found es n o e = sym (arm_lookup es n) ∙ ap (option_map arm_of) e
