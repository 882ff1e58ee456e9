-- What a search through a list found.
use Rattle.std.proofs.Common.{◌≡◌, ◌||◌, ℕ, zero, suc, Bool, true, false, List, [], ◌∷◌, Some, refl, sym, subst}
use Rattle.std.specs.Prelude.{slice_get}
use Rattle.std.specs.List.{list_any}
use Rattle.std.proofs.lemmas.Bool.{true≢false}
use Rattle.draid_session.specs.Groups as groups
use Rattle.draid_shard.specs.States.{stored_in}
use Rattle.draid_shard.specs.declared.shard.Shard.{Shard}
use Rattle.draid_export.specs.Exporting.{FoundUnsynced}
use Rattle.draid_pool.proofs.Holding.{some_same}

module _ {S : Type 0} (p : S → Bool) where
  abbrev IsFound : List S → Type 0
  IsFound xs = (m : ℕ) × (x : S) × (slice_get xs m ≡ Some x) × (p x ≡ true)

  found_on : (x : S) (xs : List S) (b : Bool) → p x ≡ b → (b || list_any p xs) ≡ true → (list_any p xs ≡ true → IsFound xs) → IsFound (x ∷ xs)
  found_on x xs true here is behind = (0, x, refl, here)
  found_on x xs false here is behind = (let z = behind is in (suc z.0, z.1, z.2, z.3))

  found : (xs : List S) → list_any p xs ≡ true → IsFound xs
  found [] is = absurd (true≢false (sym is))
  found (x ∷ xs) is = found_on x xs (p x) refl is (found xs)

  neither : (a b : Bool) → (a || b) ≡ false → (a ≡ false) × (b ≡ false)
  neither true b is = absurd (true≢false is)
  neither false b is = (refl, is)

  none_found : (xs : List S) → list_any p xs ≡ false → (m : ℕ) (x : S) → slice_get xs m ≡ Some x → p x ≡ false
  none_found [] is m x there = absurd (cc)
  none_found (y ∷ xs) is zero x there = subst (λ z. p z ≡ false) (some_same y x there) (neither (p y) (list_any p xs) is).0
  none_found (y ∷ xs) is (suc m) x there = none_found xs (neither (p y) (list_any p xs) is).1 m x there

-- one of the shards stores something that no sync has made safe, or none does
pub found_unsynced : {R A : Type 0} (view shards : List (Shard R A)) (result : Bool) → view ≡ shards → result ≡ list_any (λ (shard : Shard R A). groups.is_unsynced shard.committed (stored_in shard)) view → FoundUnsynced shards result
found_unsynced {R} {A} view shards true same is =
    found (λ (shard : Shard R A). groups.is_unsynced shard.committed (stored_in shard)) shards (subst (λ (zs : List (Shard R A)). list_any (λ (shard : Shard R A). groups.is_unsynced shard.committed (stored_in shard)) zs ≡ true) same (sym is))
found_unsynced {R} {A} view shards false same is =
    none_found (λ (shard : Shard R A). groups.is_unsynced shard.committed (stored_in shard)) shards (subst (λ (zs : List (Shard R A)). list_any (λ (shard : Shard R A). groups.is_unsynced shard.committed (stored_in shard)) zs ≡ false) same (sym is))
