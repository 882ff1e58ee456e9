-- What is known of a pool's objects, and what a reply adds.
use Rattle.std.proofs.Common.{◌≡◌, ◌∙◌, ℕ, Bool, true, false, List, Option, Some, None, arith, refl, sym, ap, subst, inl, inr, cond, nat_eq}
use Rattle.std.proofs.lemmas.Bool.{cases_eq}
use Rattle.std.proofs.lemmas.Bool.Decides.{nat_tests}
use Rattle.draid_names.specs.declared.pointer.Pointer.{Pointer}
use Rattle.draid_script.specs.Line.{Command}
use Rattle.draid_reply.specs.declared.reply.Reply.{Reply}
use Rattle.draid_session.specs.Known.{AllowsBytes, AllowsNone, AllowsSome, Known, Learns, learns}
use Rattle.draid_pool.specs.Pointers.{FitsPointer, SamePointers}
use Rattle.draid_pool.specs.declared.pool.Pool.{Pool}
use Rattle.draid_pool.specs.Knows.{FitsKnown, KnowsPointers, KnowsTable, Teaches}

pub still_known : {R A : Type 0} (old new : Pool R A) → SamePointers old new → (known : Known) → KnowsPointers old known → KnowsPointers new known
still_known old new same known knows = λ o. subst (FitsKnown (known o)) (sym (same o)) (knows o)

set_known : (b : Bool) (x y : Option (Option (List ℕ))) (p q : Option Pointer) → FitsKnown x p → FitsKnown y q → FitsKnown (cond b x y) (cond b p q)
set_known true x y p q here there = here
set_known false x y p q here there = there

-- an object's pointer is set, or taken
pub sets_known : (object : ℕ) (what : Option (List ℕ)) (pointer : Option Pointer) (old new : ℕ → Option Pointer) → ((other : ℕ) → new other ≡ cond (nat_eq object other) pointer (old other)) → FitsKnown (Some what) pointer
    → (known : Known) → KnowsTable old known → KnowsTable new (learns object what known)
sets_known object what pointer old new sets fits known knows = λ o.
    subst (FitsKnown (cond (nat_eq object o) (Some what) (known o))) (sym (sets o)) (set_known (nat_eq object o) (Some what) (known o) pointer (old o) fits (knows o))

one_of : (b : Bool) (x y : Option Pointer) → x ≡ y → y ≡ cond b x y
one_of true x y same = sym same
one_of false x y same = refl

elsewhere : (x y : Option Pointer) (object q : ℕ) → (object ≡ q → ⊥) → y ≡ cond (nat_eq object q) x y
elsewhere x y object q other = grind (arith, nat_tests, other)

as_it_was : (table : ℕ → Option Pointer) (object other : ℕ) → table other ≡ cond (nat_eq object other) (table object) (table other)
as_it_was table object other = elim (cases_eq object other) [
  | inl same ↦ one_of (nat_eq object other) (table object) (table other) (ap table same)
  | inr apart ↦ elsewhere (table object) (table other) object other (λ same. omega (arith, same, apart))
]

-- more is known of an object whose pointer stays
pub learns_known : (table : ℕ → Option Pointer) (object : ℕ) (what : Option (List ℕ)) → FitsKnown (Some what) (table object) → (known : Known) → KnowsTable table known → KnowsTable table (learns object what known)
learns_known table object what fits known knows = sets_known object what (table object) table table (as_it_was table object) fits known knows

pub allows_bytes : (k : Option (Option (List ℕ))) (o : Option Pointer) (pointer : Pointer) (bytes : List ℕ) → FitsKnown k o → o ≡ Some pointer → FitsPointer pointer bytes → AllowsBytes k bytes
allows_bytes None o pointer bytes knows is fits = tt
allows_bytes (Some None) o pointer bytes knows is fits = absurd (let z = sym is ∙ knows in cc z)
allows_bytes (Some (Some own)) o pointer bytes knows is fits =
    let same : pointer ≡ knows.0 = one_pointer pointer knows.0 (sym is ∙ knows.1) in
    record { len = fits.len ∙ ap (λ (p : Pointer). p.len) same ∙ sym knows.2.len; digest = fits.digest ∙ ap (λ (p : Pointer). p.digest) same ∙ sym knows.2.digest }
  where
    one_pointer : (p q : Pointer) → Some p ≡ Some q → p ≡ q
    one_pointer p q e = cc e

pub allows_none : (k : Option (Option (List ℕ))) (o : Option Pointer) → FitsKnown k o → o ≡ None → AllowsNone k
allows_none None o knows is = tt
allows_none (Some None) o knows is = tt
allows_none (Some (Some own)) o knows is = absurd (let z = sym is ∙ knows.1 in cc z)

pub allows_some : (k : Option (Option (List ℕ))) (o : Option Pointer) (pointer : Pointer) → FitsKnown k o → o ≡ Some pointer → AllowsSome k
allows_some None o pointer knows is = tt
allows_some (Some None) o pointer knows is = absurd (let z = sym is ∙ knows in cc z)
allows_some (Some (Some own)) o pointer knows is = tt

pub teaches_nothing : {R A : Type 0} (command : Command) (reply : Reply) → ((known : Known) → Learns command reply known known) → (old new : Pool R A) → SamePointers old new → Teaches command reply old new
teaches_nothing command reply nothing old new same known knows = record { new = known; learns = nothing known; fits = still_known old new same known knows }
