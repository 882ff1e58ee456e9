-- The hasher of the first columns of a block.
use Rattle.std.proofs.Common.{◌≡◌, ℕ, zero, suc, ◌+◌, ◌-◌, ◌*◌, ◌<◌, List, [], length, take, get_or, min, arith, refl, sym, ◌∙◌, inl, inr, ap, ap₂, subst, ◌++◌}
use Rattle.std.specs.Prelude.{Contains}
use Rattle.std.specs.List.Sorted.{IsStrictlyIncreasing}
use Rattle.std.proofs.lemmas.Bool.{cases_lt}
use Rattle.std.proofs.lemmas.List.{get_or_default}
use Rattle.sha2.specs.Hashers.{Holds256}
use Rattle.draid_parity.specs.Columns.{column_at}
use Rattle.draid_parity.proofs.Missing.{ascending_le}
use Rattle.draid_block.specs.Columns.{Cut, sectors_in}
use Rattle.draid_block.specs.Blocks.{column_len, sectors_upto}
use Rattle.draid_block.specs.Search.{IsFront}
use Rattle.sha2.specs.declared.Sha256.{Sha256}
use Rattle.draid_block.specs.declared.front.Front.{Front}
use Rattle.draid_block.proofs.Upto.{upto_none, upto_more, part_fits, left_more}

-- columns that are the same up to one hold the same sectors
upto_same : (cut : Cut) (len : ℕ) (a b : List (List ℕ)) (n : ℕ) → ((i : ℕ) → i < n → column_at a (cut.parity + i) ≡ column_at b (cut.parity + i))
    → sectors_upto cut len a n ≡ sectors_upto cut len b n
unfolding sectors_upto
upto_same cut len a b zero same = refl
upto_same cut len a b (suc n) same =
    ap₂ (λ (us column : List ℕ). us ++ take (sectors_in cut len n * cut.sector) column) (upto_same cut len a b n (λ i below. same i (omega (arith, below)))) (same n (omega arith))

pub front_same : (cut : Cut) (len : ℕ) (a b : List (List ℕ)) (front : Front) → ((i : ℕ) → i < front.count → column_at a (cut.parity + i) ≡ column_at b (cut.parity + i))
    → IsFront cut len a front → IsFront cut len b front
front_same cut len a b front same f =
    let e : sectors_upto cut len a front.count ≡ sectors_upto cut len b front.count = upto_same cut len a b front.count same in
    record {
      within = f.within;
      holds = subst (λ (us : List ℕ). Holds256 front.hasher (take len us)) e f.holds;
      rest = subst (λ (us : List ℕ). front.left + length (take len us) ≡ len) e f.rest;
    }

pub front_none : (cut : Cut) (len : ℕ) (columns : List (List ℕ)) (hasher : Sha256) → Holds256 hasher [] → IsFront cut len columns (record { hasher = hasher; count = 0; left = len })
front_none cut len columns hasher holds =
    let none : take len (sectors_upto cut len columns 0) ≡ [] = upto_none cut len columns in
    record {
      within = omega arith;
      holds = subst (λ (m : List ℕ). Holds256 hasher m) (sym none) holds;
      rest = (let nothing = ap length none in omega (arith, nothing));
    }

pub front_more : (cut : Cut) (len : ℕ) (columns : List (List ℕ)) (column : List ℕ) (end sectors : ℕ) (front : Front) (hasher : Sha256)
    → front.count < cut.ndata → end ≡ min sectors front.left → sectors ≡ sectors_in cut len front.count * cut.sector → length column ≡ column_len cut len
    → ((m : List ℕ) → Holds256 front.hasher m → Holds256 hasher (m ++ take end column))
    → IsFront cut len columns front → column ≡ column_at columns (cut.parity + front.count)
    → IsFront cut len columns (record { hasher = hasher; count = front.count + 1; left = front.left - end })
front_more cut len columns column end sectors front hasher below end_is sectors_is long holds was at =
    let e : end ≡ min (sectors_in cut len front.count * cut.sector) front.left = end_is ∙ ap (λ m. min m front.left) sectors_is in
    let more = upto_more cut len columns column front.count end front.left was.rest e at in
    let fits = part_fits cut len front.count end front.left column e long in
    record {
      within = omega arith;
      holds = subst (λ (m : List ℕ). Holds256 hasher m) more (holds _ was.holds);
      rest = subst (λ (m : List ℕ). front.left - end + length m ≡ len) more (left_more front.left end _ column len was.rest (omega (arith, e)) fits);
    }

-- ---- the first data column that a set restores
pub not_before : (set : List ℕ) (parity n i : ℕ) → IsStrictlyIncreasing set → ((m : ℕ) → m < n → get_or set m 0 < parity)
    → (n < length set → parity + i < get_or set n 0) → Contains set (parity + i) → ⊥
not_before set parity n i ascending below first found =
    let k : ℕ = found.0 in
    let there : k < length set = found.1 in
    let is : get_or set k 0 ≡ parity + i = sym (get_or_default set k (parity + i) 0 there) ∙ found.2 in
    elim (cases_lt k n) [
      | inl lt ↦ (let low = below k lt in omega (arith, low, is))
      | inr ge ↦
          let within : n < length set = omega (arith, there) in
          let high = first within in
          let rise = ascending_le set ascending n k ge there in
          omega (arith, high, rise, is)
    ]
