-- The powers of 2.
use Rattle.std.proofs.Common.{◌≡◌, ◌≢◌, ℕ, zero, suc, ◌+◌, ◌%◌, ◌<◌, ◌∙◌, ◌==◌, get_or, refl, sym, ap, arith}
use Rattle.std.specs.Prelude.{nat_lt}
use Rattle.std.specs.List.{position_or_len}
use borrow.Author.Tests.{ltb-true}
use Rattle.draid_gf.specs.declared.table.TheConstants.{POWERS}
use Rattle.draid_gf.specs.Field.{polynomial_sum, polynomial_product, remainder, field_product, field_power, IsByte, PowersDiffer}
use Rattle.draid_gf.proofs.Computed.{passes_at, same_at}
use Rattle.draid_gf.proofs.Product.{field_product-byte}

pub field_power-byte : (a e : ℕ) → IsByte a → IsByte (field_power a e)
unfolding field_power
field_power-byte a zero byte = omega arith
field_power-byte a (suc e) byte = field_product-byte a (field_power a e) byte (field_power-byte a e byte)

next_power : (e : ℕ) → e < 255 → field_product 2 (get_or POWERS e 0) ≡ get_or POWERS ((e + 1) % 255) 0
unfolding field_product polynomial_product polynomial_sum remainder
next_power = same_at (λ e. field_product 2 (get_or POWERS e 0)) (λ e. get_or POWERS ((e + 1) % 255) 0) 255 refl

pub table_power : (e : ℕ) → get_or POWERS (e % 255) 0 ≡ field_power 2 e
unfolding field_power
table_power zero = refl
table_power (suc e) =
    let turn : suc e % 255 ≡ (e % 255 + 1) % 255 = omega arith in
    ap (λ x. get_or POWERS x 0) turn ∙ sym (next_power (e % 255) (omega arith)) ∙ ap (field_product 2) (table_power e)

-- the exponent of a power, below 255
logarithm : ℕ → ℕ
logarithm a = position_or_len (λ x. x == a) POWERS

logarithm-power : (e : ℕ) → e < 255 → logarithm (get_or POWERS e 0) ≡ e
unfolding logarithm
logarithm-power = same_at (λ e. logarithm (get_or POWERS e 0)) (λ e. e) 255 refl

power_distinct : (i j : ℕ) → i < 255 → j < 255 → field_power 2 i ≡ field_power 2 j → i ≡ j
power_distinct i j i_below j_below same =
    let at : (e : ℕ) → e < 255 → get_or POWERS e 0 ≡ field_power 2 e =
    λ e below. (let own : e ≡ e % 255 = omega arith in ap (λ x. get_or POWERS x 0) own) ∙ table_power e in
    sym (logarithm-power i i_below) ∙ ap logarithm (at i i_below ∙ same ∙ sym (at j j_below)) ∙ logarithm-power j j_below

tabled_nonzero : (e : ℕ) → e < 255 → 0 < get_or POWERS e 0
tabled_nonzero e below = ltb-true 0 (get_or POWERS e 0) (passes_at (λ x. nat_lt 0 (get_or POWERS x 0)) 255 refl e below)

power_nonzero : (e : ℕ) → field_power 2 e ≢ 0
power_nonzero e none =
    let some = tabled_nonzero (e % 255) (omega arith) in
    let same = table_power e in
    omega (arith, some, same, none)

pub powers_differ : PowersDiffer
powers_differ = record { distinct = power_distinct; nonzero = power_nonzero }
