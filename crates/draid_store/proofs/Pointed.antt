-- What the calls of a pool come to in the table of its objects' pointers.
use Rattle.std.proofs.Common.{◌≡◌, ◌∙◌, ℕ, List, Option, Some, None, Ok, Err, Vec, Global, arith, refl, sym, ap, subst, inl, inr, cond, nat_eq}
use Rattle.draid_names.specs.declared.pointer.Pointer.{Pointer}
use Rattle.draid_names.specs.declared.refusal.ObjectFault.{ObjectFault}
use Rattle.draid_names.specs.declared.refusal.ObjectFault.TheVariants as fault
use Rattle.draid_block.specs.Blocks.{IsContent}
use Rattle.draid_block.specs.Solving.{HasDigest}
use Rattle.draid_block.specs.declared.solve.Fetched.{Fetched}
use Rattle.draid_store.specs.Pointers.{FetchFinds, ReadFinds}
use Rattle.draid_pool.specs.Pointers.{FitsPointer}
use Rattle.draid_pool.proofs.Wholes.{put_elsewhere, put_here}
use Rattle.std.proofs.lemmas.Bool.{cases_eq}

-- ---- fetches

pub fetch_nothing : (found : Option Pointer) → None ≡ found → FetchFinds found (Err fault.NoObject)
fetch_nothing found is = subst (λ (o : Option Pointer). FetchFinds o (Err fault.NoObject)) is refl

pub fetch_block : (found : Option Pointer) (pointer : Pointer) (fetched : Fetched) → found ≡ Some pointer → fetched.pointer ≡ pointer → FetchFinds found (Ok fetched)
fetch_block found pointer fetched is of = subst (λ (o : Option Pointer). FetchFinds o (Ok fetched)) (sym is) of

pub fetch_worn : (found : Option Pointer) (pointer : Pointer) → found ≡ Some pointer → FetchFinds found (Err fault.Worn)
fetch_worn found pointer is = subst (λ (o : Option Pointer). FetchFinds o (Err fault.Worn)) (sym is) tt

pub fetch_starved : (found : Option Pointer) (pointer : Pointer) → found ≡ Some pointer → FetchFinds found (Err fault.NoMemory)
fetch_starved found pointer is = subst (λ (o : Option Pointer). FetchFinds o (Err fault.NoMemory)) (sym is) tt

-- ---- reads

pub read_stops : (found : Option Pointer) (why : ObjectFault) → FetchFinds found (Err why) → ReadFinds found (Err why)
read_stops None fault.NoObject is = refl
read_stops None (fault.Unreadable absent tried) is = absurd (cc)
read_stops None fault.Worn is = absurd (cc)
read_stops None fault.NoMemory is = absurd (cc)
read_stops (Some pointer) fault.NoObject is = is
read_stops (Some pointer) (fault.Unreadable absent tried) is = tt
read_stops (Some pointer) fault.Worn is = tt
read_stops (Some pointer) fault.NoMemory is = tt

pub read_bytes : (found : Option Pointer) (fetched : Fetched) (bytes : Vec ℕ Global) → FetchFinds found (Ok fetched) → HasDigest fetched bytes.items → ReadFinds found (Ok bytes)
read_bytes None fetched bytes is has = absurd (cc)
read_bytes (Some pointer) fetched bytes is has =
    record { len = has.len ∙ ap (λ (p : Pointer). p.len) is; digest = has.digest ∙ ap (λ (p : Pointer). p.digest) is }

pub read_lost : (found : Option Pointer) (fetched : Fetched) (absent tried : ℕ) → FetchFinds found (Ok fetched) → ReadFinds found (Err (fault.Unreadable absent tried))
read_lost None fetched absent tried is = absurd (cc)
read_lost (Some pointer) fetched absent tried is = tt

pub read_starved : (found : Option Pointer) (fetched : Fetched) → FetchFinds found (Ok fetched) → ReadFinds found (Err fault.NoMemory)
read_starved None fetched is = absurd (cc)
read_starved (Some pointer) fetched is = tt

-- ---- writes

pub content_fits : (pointer : Pointer) (bytes : List ℕ) → IsContent pointer bytes → FitsPointer pointer bytes
content_fits pointer bytes is = record { len = is.len; digest = is.digest }

-- ---- tables

-- none is taken from a table that has none
pub none_taken : (new old : ℕ → Option Pointer) (object : ℕ) → ((other : ℕ) → new other ≡ cond (nat_eq object other) None (old other)) → old object ≡ None → (other : ℕ) → new other ≡ old other
none_taken new old object takes none other = elim (cases_eq object other) [
  | inl same ↦ put_here (new other) (old other) object other None (takes other) same ∙ sym (subst (λ o. old o ≡ None) same none)
  | inr apart ↦ put_elsewhere (new other) (old other) object other None (takes other) (λ same. omega (arith, same, apart))
]

-- a table with the same pointers as another gets one
pub behind : (new mid old : ℕ → Option Pointer) (object : ℕ) (pointer : Option Pointer) → ((other : ℕ) → new other ≡ cond (nat_eq object other) pointer (mid other)) → ((other : ℕ) → mid other ≡ old other)
    → (other : ℕ) → new other ≡ cond (nat_eq object other) pointer (old other)
behind new mid old object pointer sets same other = sets other ∙ ap (λ (o : Option Pointer). cond (nat_eq object other) pointer o) (same other)
