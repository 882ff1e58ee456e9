-- Walks over the entries of a map.
use Rattle.std.proofs.Common.{◌≡◌, Bool, true, false, List, [], ◌∷◌, ◌++◌, Some, None, All, if◌then◌else◌, refl, sym, ◌∙◌, ap, subst, arith, append_assoc, Contains}
use Rattle.std.proofs.lemmas.List.Elements.{All-contains, Contains-append_right, Contains-get_or}
use Rattle.std.specs.BTreeMap.{is_at}
use Rattle.std.specs.Map.{lookup}
use Rattle.draid_machine.specs.declared.names.Key.{Key}
use Rattle.draid_machine.specs.declared.names.Held.{Held}
use Rattle.draid_machine.specs.Names.{key_eq}
use Rattle.draid_machine.proofs.Small.{some_injective, none_some}
use Rattle.draid_world.specs.World.{held_in}
use Rattle.draid_world.proofs.Maps.{held_lookup, key_cmp}

-- what holds of each block of a list
abbrev pub AllHeld : (Held → Type 0) → List (Key × Held) → Type 0
AllHeld P [] = Unit {0}
AllHeld P (e ∷ es) = P e.1 × AllHeld P es

pub held_append : (P : Held → Type 0) (es ds : List (Key × Held)) → AllHeld P es → AllHeld P ds → AllHeld P (es ++ ds)
held_append P [] ds x y = y
held_append P (e ∷ es) ds x y = (x.0, held_append P es ds x.1 y)

pub held_weaker : (P Q : Held → Type 0) (es : List (Key × Held)) → ((h : Held) → P h → Q h) → AllHeld P es → AllHeld Q es
held_weaker P Q [] f x = tt
held_weaker P Q (e ∷ es) f x = (f e.1 x.0, held_weaker P Q es f x.1)

pub held_all : (P : Held → Type 0) (es : List (Key × Held)) (k : Key) (h : Held) → AllHeld P es → held_in es k ≡ Some h → P h
held_all P [] k h x e = absurd (none_some None h refl e)
held_all P (d ∷ es) k h x e = by (key_eq d.0 k) e (held_all P es k h x.1)
  where
    by : (b : Bool) → (if b then Some d.1 else held_in es k) ≡ Some h → (held_in es k ≡ Some h → P h) → P h
    by true is rest = subst P (some_injective d.1 h is) x.0
    by false is rest = rest is

-- a walk has seen the entries but those that are left, and something holds of those that it has seen
pub record Walked (P : Held → Type 0) (es left : List (Key × Held)) : Type 0 where
  pub seen : List (Key × Held)
  pub split : es ≡ seen ++ left
  pub held : AllHeld P seen

pub walked_none : (P : Held → Type 0) (es left : List (Key × Held)) → left ≡ es → Walked P es left
walked_none P es left is = record { seen = []; split = sym is; held = tt }

pub walked_more : (P : Held → Type 0) (es left rest : List (Key × Held)) (k : Key) (h : Held) → Walked P es left → left ≡ (k, h) ∷ rest → P h → Walked P es rest
walked_more P es left rest k h w is p = record {
  seen = w.seen ++ (k, h) ∷ [];
  split = w.split ∙ ap (λ xs. w.seen ++ xs) is ∙ sym (append_assoc w.seen ((k, h) ∷ []) rest);
  held = held_append P w.seen ((k, h) ∷ []) w.held (p, tt);
}

pub walked_weaker : (P Q : Held → Type 0) (es left : List (Key × Held)) → ((h : Held) → P h → Q h) → Walked P es left → Walked Q es left
walked_weaker P Q es left f w = record { seen = w.seen; split = w.split; held = held_weaker P Q w.seen f w.held }

pub walked_all : (P : Held → Type 0) (es left : List (Key × Held)) (k : Key) (h : Held) → Walked P es left → left ≡ [] → held_in es k ≡ Some h → P h
walked_all P es left k h w is found = held_all P es k h (subst (AllHeld P) (sym (w.split ∙ ap (λ xs. w.seen ++ xs) is)) (held_append P w.seen [] w.held tt)) found

-- the entry that comes next is the one that its key has
pub walked_here : (P : Held → Type 0) (es left rest : List (Key × Held)) (k : Key) (h : Held) → Walked P es left → left ≡ (k, h) ∷ rest
    → All (λ (e : Key × Held). lookup (is_at (key_cmp e.0)) es ≡ Some e.1) es → held_in es k ≡ Some h
walked_here P es left rest k h w is found =
    sym (held_lookup es k) ∙ All-contains (λ (e : Key × Held). lookup (is_at (key_cmp e.0)) es ≡ Some e.1) es (k, h) found
    (subst (λ xs. Contains xs (k, h)) (sym (w.split ∙ ap (λ xs. w.seen ++ xs) is)) (Contains-append_right w.seen ((k, h) ∷ rest) (k, h) (Contains-get_or ((k, h) ∷ rest) 0 (k, h) (omega arith))))
