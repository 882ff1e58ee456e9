-- Logs that get a group.
use Rattle.std.proofs.Common.{◌≡◌, ◌==◌, ◌+◌, ◌<◌, ◌&&◌, ◌||◌, not, ℕ, Bool, true, false, List, Option, Some, None, drop, length, get_or, if◌then◌else◌, refl, sym, ◌∙◌, ap, arith}
use Rattle.std.proofs.lemmas.Bool.{true≢false}
use Rattle.std.proofs.lemmas.List.{drop_more}
use Rattle.draid_machine.specs.declared.names.ArmName.{ArmName}
use Rattle.draid_machine.specs.State.{Arm}
use Rattle.draid_machine.specs.Names.{name_eq, has_name}
use Rattle.draid_machine.specs.After.{set_arm, map_arm, each_arm, log_if}
use Rattle.draid_machine.proofs.Small.{name_true}

or_none : (b x : Bool) → (b || (false && x)) ≡ b
or_none true x = refl
or_none false x = refl

pub log_none : (g : ℕ) (a : Arm) → log_if false g a ≡ a
log_none g a = λ i. record a { log = λ y. or_none (a.log y) (y == g) i }

pub map_none : (g : ℕ) (o : Option Arm) → map_arm (log_if false g) o ≡ o
map_none g None = refl
map_none g (Some a) = ap (λ (b : Arm). Some b) (log_none g a)

-- an arm is taken out and put back with a group in its log
pub log_put : (f g h : ArmName → Option Arm) (name : ArmName) (a b : Arm) (group : ℕ) → f name ≡ Some a → ((n : ArmName) → g n ≡ set_arm f name None n) → ((n : ArmName) → h n ≡ set_arm g name (Some b) n)
    → b ≡ log_if true group a → (n : ArmName) → h n ≡ each_arm (λ m. log_if (name_eq name m) group) f n
log_put f g h name a b group found out put is n = put n ∙ by (name_eq name n) refl
  where
    by : (e : Bool) → name_eq name n ≡ e → (if e then Some b else g n) ≡ map_arm (log_if e group) (f n)
    by true at = ap (λ (x : Arm). Some x) is ∙ ap (map_arm (log_if true group)) (sym (sym (ap f (name_true name n at)) ∙ found))
    by false at = out n ∙ ap (λ e. if e then None else f n) at ∙ sym (map_none group (f n))

pub log_absent : (f g : ArmName → Option Arm) (name : ArmName) (group : ℕ) → f name ≡ None → ((n : ArmName) → g n ≡ set_arm f name None n) → (n : ArmName) → g n ≡ each_arm (λ m. log_if (name_eq name m) group) f n
log_absent f g name group none out n = out n ∙ by (name_eq name n) refl
  where
    by : (e : Bool) → name_eq name n ≡ e → (if e then None else f n) ≡ map_arm (log_if e group) (f n)
    by true at = ap (map_arm (log_if true group)) (sym (sym (ap f (name_true name n at)) ∙ none))
    by false at = sym (map_none group (f n))

-- two groups of arms one after the other
pub log_twice : (e b nl : Bool) (g : ℕ) (o : Option Arm) → map_arm (log_if (b && nl) g) (map_arm (log_if (e && nl) g) o) ≡ map_arm (log_if ((e || b) && nl) g) o
log_twice e b nl g None = refl
log_twice e b nl g (Some a) = λ i. Some (record a { log = λ y. bits e b nl (a.log y) (y == g) i })
  where
    bits : (e b nl l x : Bool) → ((l || ((e && nl) && x)) || ((b && nl) && x)) ≡ (l || (((e || b) && nl) && x))
    bits e b nl true x = refl
    bits true b true false true = refl
    bits true true true false false = refl
    bits true false true false false = refl
    bits true b false false true = grind arith
    bits true b false false false = grind arith
    bits false b nl false x = refl

-- what is left to log, one arm on
pub log_step : (names landed : List ArmName) (g at : ℕ) (d : ArmName) (old mid : ArmName → Option Arm) → at < length names
    → ((n : ArmName) → mid n ≡ each_arm (λ m. log_if (name_eq (get_or names at d) m && not (has_name landed m)) g) old n) → (n : ArmName)
    → each_arm (λ m. log_if (has_name (drop (at + 1) names) m && not (has_name landed m)) g) mid n ≡ each_arm (λ m. log_if (has_name (drop at names) m && not (has_name landed m)) g) old n
log_step names landed g at d old mid less is n =
    ap (map_arm (log_if (has_name (drop (at + 1) names) n && not (has_name landed n)) g)) (is n)
    ∙ log_twice (name_eq (get_or names at d) n) (has_name (drop (at + 1) names) n) (not (has_name landed n)) g (old n)
    ∙ ap (λ ns. map_arm (log_if (has_name ns n && not (has_name landed n)) g) (old n)) (sym (drop_more names at d less))

-- an arm on which a column landed isn't logged
pub log_away : (landed : List ArmName) (name n : ArmName) (g : ℕ) (o : Option Arm) → has_name landed name ≡ false → map_arm (log_if (name_eq name n) g) o ≡ map_arm (log_if (name_eq name n && not (has_name landed n)) g) o
log_away landed name n g o away = ap (λ b. map_arm (log_if b g) o) (bits (name_eq name n) (has_name landed n) (λ e. sym (ap (has_name landed) (name_true name n e)) ∙ away))
  where
    bits : (e t : Bool) → (e ≡ true → t ≡ false) → e ≡ (e && not t)
    bits true true f = absurd (true≢false (f refl))
    bits true false f = refl
    bits false t f = refl

pub log_there : (landed : List ArmName) (name n : ArmName) (g : ℕ) (o : Option Arm) → has_name landed name ≡ true → o ≡ map_arm (log_if (name_eq name n && not (has_name landed n)) g) o
log_there landed name n g o there = sym (map_none g o) ∙ ap (λ b. map_arm (log_if b g) o) (bits (name_eq name n) (has_name landed n) (λ e. sym (ap (has_name landed) (name_true name n e)) ∙ there))
  where
    bits : (e t : Bool) → (e ≡ true → t ≡ true) → false ≡ (e && not t)
    bits true true f = refl
    bits true false f = absurd (true≢false (sym (f refl)))
    bits false t f = refl
