-- Arms that are changed in their map.
use Rattle.std.proofs.Common.{◌≡◌, ◌||◌, ◌∷◌, ◌+◌, ◌<◌, ℕ, Bool, true, false, List, Option, Some, None, [], take, get_or, length, cond, if◌then◌else◌, refl, sym, ◌∙◌, ap}
use Rattle.draid_machine.specs.contracts.names as contracts
use Rattle.std.proofs.lemmas.List.{take_more}
use Rattle.std.specs.Map.{lookup}
use Rattle.std.specs.BTreeMap.{is_at}
use Rattle.draid_machine.specs.declared.names.ArmName.{ArmName}
use Rattle.draid_machine.specs.After.{map_arm}
use Rattle.draid_machine.specs.Names.{name_eq, has_name}
use Rattle.draid_machine.specs.State as state
use Rattle.draid_machine.proofs.Small.{has_append, name_true}
use Rattle.draid_world.specs.declared.world.Arm.{Arm}
use Rattle.draid_world.specs.World.{arm_in, arm_of}
use Rattle.draid_world.proofs.Maps.{arm_found, arm_updated}
use Rattle.draid_passes.specs.Logs.{changed_at}

pub arm_changed : (es new : List (ArmName × Arm)) (k : ArmName) (f : state.Arm → state.Arm) (a b : Arm) → lookup (is_at ((contracts.ArmNameOrd.TheImpl.cmp-value).it k)) es ≡ Some a
    → arm_of b ≡ f (arm_of a)
    → ((q : ArmName) → lookup (is_at ((contracts.ArmNameOrd.TheImpl.cmp-value).it q)) new ≡ cond (is_at ((contracts.ArmNameOrd.TheImpl.cmp-value).it k) q) (Some b) (lookup (is_at ((contracts.ArmNameOrd.TheImpl.cmp-value).it q)) es))
    → (n : ArmName) → arm_in new n ≡ changed_at (name_eq k n) f (arm_in es n)
arm_changed es new k f a b found is update n = arm_updated es new k (Some b) update n ∙ by (name_eq k n) refl
  where
    here : k ≡ n → Some (arm_of b) ≡ map_arm f (arm_in es n)
    here same = ap Some is ∙ ap (map_arm f) (sym (arm_found es k (Some a) found) ∙ ap (arm_in es) same)

    by : (t : Bool) → name_eq k n ≡ t → (if t then Some (arm_of b) else arm_in es n) ≡ changed_at t f (arm_in es n)
    by true e = here (name_true k n e)
    by false e = refl

pub arm_absent : (es : List (ArmName × Arm)) (k : ArmName) (f : state.Arm → state.Arm) → lookup (is_at ((contracts.ArmNameOrd.TheImpl.cmp-value).it k)) es ≡ None
    → (n : ArmName) → arm_in es n ≡ changed_at (name_eq k n) f (arm_in es n)
arm_absent es k f none n = by (name_eq k n) refl
  where
    here : k ≡ n → arm_in es n ≡ map_arm f (arm_in es n)
    here same =
        let nothing : arm_in es n ≡ None = sym (ap (arm_in es) same) ∙ arm_found es k None none in
        nothing ∙ sym (ap (map_arm f) nothing)

    by : (t : Bool) → name_eq k n ≡ t → arm_in es n ≡ changed_at t f (arm_in es n)
    by true e = here (name_true k n e)
    by false e = refl

-- one more of a list
pub has_more : (ns : List ArmName) (at : ℕ) (d n : ArmName) → at < length ns → has_name (take (at + 1) ns) n ≡ (has_name (take at ns) n || name_eq (get_or ns at d) n)
has_more ns at d n less =
    ap (λ xs. has_name xs n) (take_more ns at d less)
    ∙ has_append (take at ns) (get_or ns at d ∷ []) n
    ∙ ap (λ b. has_name (take at ns) n || b) (last_name (name_eq (get_or ns at d) n))
  where
    last_name : (b : Bool) → (b || false) ≡ b
    last_name true = refl
    last_name false = refl

-- changes one after another are one change
pub changed_twice : (f : Bool → state.Arm → state.Arm) (s t : Bool) (o : Option state.Arm) → ((a : state.Arm) → f true (f s a) ≡ f true a)
    → changed_at t (f true) (map_arm (f s) o) ≡ map_arm (f (s || t)) o
changed_twice f s true None twice = refl
changed_twice f s true (Some a) twice = ap Some (twice a ∙ ap (λ b. f b a) (either s))
  where
    either : (b : Bool) → true ≡ (b || true)
    either true = refl
    either false = refl
changed_twice f s false None twice = refl
changed_twice f s false (Some a) twice = ap (λ b. Some (f b a)) (neither s)
  where
    neither : (b : Bool) → b ≡ (b || false)
    neither true = refl
    neither false = refl
