-- Bytes of neighbouring rows.
use Rattle.std.proofs.Common.{◌≡◌, ℕ, zero, suc, ◌+◌, ◌*◌, ◌%◌, ◌^◌, ◌<◌, ◌≤◌, ◌∙◌, ◌⊎◌, inl, inr, List, [], ◌∷◌, ◌++◌, length, map, take, drop, get_or, set, bit_xor, cond, leb, replicate, refl, sym, ap, ap₂, subst, arith, w8, Fits, Bool}
use Rattle.std.specs.Simd.Lanes.{chunk, put_chunk, zip2, sel_l, top, Each1}
use Rattle.std.proofs.lemmas.Bool.{cases_lt}
use Rattle.std.proofs.lemmas.List.{get_or_past, take_all, take-append-drop, length-drop, map-append}
use Rattle.std.proofs.lemmas.Simd.{get_or-chunk, length-chunk, zip2_of_maps, zip2_splat, zip2_splat_left, tops_compared}
use Rattle.draid_gf.specs.Field.{field_product, polynomial_product, polynomial_sum, remainder, IsByte}
use Rattle.draid_gf.proofs.Computed.{same_at}

pub set_is_chunk : (xs : List ℕ) (i x : ℕ) → set xs i x ≡ put_chunk i xs (x ∷ [])
set_is_chunk [] i x = refl
set_is_chunk (y ∷ []) zero x = refl
set_is_chunk (y ∷ z ∷ xs) zero x = refl
set_is_chunk (y ∷ xs) (suc i) x = ap (λ l. y ∷ l) (set_is_chunk xs i x)

pub chunk_bytes : (at n : ℕ) (xs : List ℕ) → at + n ≤ length xs → ((i : ℕ) → Fits w8 (get_or xs i 0)) → (j : ℕ) → IsByte (get_or (chunk at n xs) j 0)
chunk_bytes at n xs room fits j = cases (cases_lt j n)
  where
    cases : (j < n) ⊎ (n ≤ j) → IsByte (get_or (chunk at n xs) j 0)
    cases (inl low) = subst IsByte (sym (get_or-chunk at n xs j 0 low)) ((fits (at + j)).fits)
    cases (inr past) = let long = length-chunk at n xs room in let none = get_or_past (chunk at n xs) j 0 (omega arith) in omega (arith, none)

-- ---- twice each lane
sel_l_splats : (p : ℕ → Bool) (n a b : ℕ) (xs : List ℕ) → length xs ≡ n → sel_l (map p xs) (replicate n a) (replicate n b) ≡ map (λ x. cond (p x) a b) xs
sel_l_splats p zero a b [] is = refl
sel_l_splats p zero a b (x ∷ xs) is = absurd (omega arith)
sel_l_splats p (suc n) a b [] is = absurd (omega arith)
sel_l_splats p (suc n) a b (x ∷ xs) is = ap (λ ys. cond (p x) a b ∷ ys) (sel_l_splats p n a b xs (omega arith))

map_same : (f g : ℕ → ℕ) → ((x : ℕ) → IsByte x → f x ≡ g x) → (xs : List ℕ) → Each1 (Fits w8) xs → map f xs ≡ map g xs
map_same f g same [] fits = refl
map_same f g same (x ∷ xs) fits = ap₂ (λ y ys. y ∷ ys) (same x (fits.0.fits)) (map_same f g same xs fits.1)

doubled : (x : ℕ) → IsByte x → bit_xor (x * 2 ^ 1 % 256) (cond (leb 128 x) 29 0) ≡ field_product 2 x
unfolding field_product polynomial_product polynomial_sum remainder
doubled = same_at (λ x. bit_xor (x * 2 ^ 1 % 256) (cond (leb 128 x) 29 0)) (field_product 2) 256 refl

pub twice_lanes : (n : ℕ) (v : List ℕ) → length v ≡ n → Each1 (Fits w8) v
    → zip2 bit_xor (zip2 (λ a b. a * 2 ^ b % 256) v (replicate n 1))
    (sel_l (map (top 7) (zip2 (λ a b. cond (leb a b) 255 0) (replicate n 128) v)) (replicate n 29) (replicate n 0))
    ≡ map (field_product 2) v
twice_lanes n v long fits =
    let high = tops_compared w8 leb (replicate n 128) v ∙ zip2_splat_left leb 128 n v long in
    zip2_of_maps bit_xor (λ x. x * 2 ^ 1 % 256) (λ x. cond (leb 128 x) 29 0) v (zip2_splat (λ a b. a * 2 ^ b % 256) v n 1 long)
    (ap (λ ms. sel_l ms (replicate n 29) (replicate n 0)) high ∙ sel_l_splats (λ x. leb 128 x) n 29 0 v long)
    ∙ map_same (λ x. bit_xor (x * 2 ^ 1 % 256) (cond (leb 128 x) 29 0)) (field_product 2) doubled v fits

-- ---- two halves of a vector
pub halves_mapped : (f : ℕ → ℕ) (v low high low_result high_result : List ℕ) → length v ≡ 64 → low ≡ chunk 0 32 v → high ≡ chunk 32 32 v
    → low_result ≡ map f low → high_result ≡ map f high → low_result ++ high_result ≡ map f v
halves_mapped f v low high low_result high_result long low_is high_is first second =
    ap₂ (λ xs ys. xs ++ ys) (first ∙ ap (map f) low_is) (second ∙ ap (map f) high_is)
    ∙ sym (map-append f (chunk 0 32 v) (chunk 32 32 v))
    ∙ ap (map f) (ap (λ ys. take 32 v ++ ys) (take_all 32 (drop 32 v) (let rest = length-drop 32 v in omega arith)) ∙ take-append-drop 32 v)
