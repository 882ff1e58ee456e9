-- The nodes of data columns, and their weights in the sums.
use Rattle.std.proofs.Common.{◌≡◌, ◌≢◌, ℕ, zero, suc, ◌+◌, ◌*◌, ◌%◌, ◌<◌, ◌≤◌, ◌∙◌, get_or, sym, ap, ap₂, arith}
use Rattle.draid_gf.specs.Field.{field_product, field_power, IsByte}
use Rattle.draid_gf.proofs.Product.{field_product-associative, one-field_product}
use Rattle.draid_gf.proofs.Powers.{field_power-byte, powers_differ, table_power}
use Rattle.draid_gf.specs.declared.table.TheConstants.{POWERS}
use Rattle.draid_parity.proofs.Algebra.{field_power-add}

power_byte : (e : ℕ) → IsByte (field_power 2 e)
power_byte e = field_power-byte 2 e (omega arith)

-- ---- nodes differ
power_turns : (n : ℕ) → field_power 2 n ≡ field_power 2 (n % 255)
power_turns n =
    let same : n % 255 ≡ n % 255 % 255 = omega arith in
    sym (table_power n) ∙ ap (λ i. get_or POWERS i 0) same ∙ table_power (n % 255)

-- the powers by whose sums the columns are solved: each exponent once, or twice
pub nodes_differ : (s e f : ℕ) → 1 ≤ s → s ≤ 2 → e < 255 → f < 255 → e ≢ f → field_power 2 (s * e) ≢ field_power 2 (s * f)
nodes_differ zero e f low high e_below f_below apart same = absurd (omega arith)
nodes_differ (suc zero) e f low high e_below f_below apart same =
    let turned = powers_differ.distinct (1 * e % 255) (1 * f % 255) (omega arith) (omega arith) (sym (power_turns (1 * e)) ∙ same ∙ power_turns (1 * f)) in
    apart (omega (arith, turned))
nodes_differ (suc (suc zero)) e f low high e_below f_below apart same =
    let turned = powers_differ.distinct (2 * e % 255) (2 * f % 255) (omega arith) (omega arith) (sym (power_turns (2 * e)) ∙ same ∙ power_turns (2 * f)) in
    apart (omega (arith, turned))
nodes_differ (suc (suc (suc s))) e f low high e_below f_below apart same = absurd (omega arith)

pub one_node : (e f : ℕ) → e < 255 → f < 255 → e ≢ f → field_power 2 e ≢ field_power 2 f
one_node e f e_below f_below apart same = apart (powers_differ.distinct e f e_below f_below same)

-- a product with a power that is a node times another power
pub split_power : (a b n x : ℕ) → a + b ≡ n → IsByte x → field_product (field_power 2 n) x ≡ field_product (field_power 2 a) (field_product (field_power 2 b) x)
split_power a b n x sum byte =
    ap (λ m. field_product (field_power 2 m) x) (sym sum)
    ∙ ap (λ p. field_product p x) (sym (field_power-add 2 a b (omega arith)))
    ∙ field_product-associative (field_power 2 a) (field_power 2 b) x (power_byte a) (power_byte b) byte

-- the weights of a column in P, Q and R
pub weigh0 : (e x : ℕ) → IsByte x → field_product (field_power 2 (0 * e)) x ≡ x
unfolding field_power
weigh0 e x byte =
    (let none : 0 * e ≡ 0 = omega arith in ap (λ n. field_product (field_power 2 n) x) none) ∙ one-field_product x byte

pub weigh1 : (e v x : ℕ) → v ≡ field_power 2 e → field_product (field_power 2 (1 * e)) x ≡ field_product v x
weigh1 e v x is =
    (let same : 1 * e ≡ e = omega arith in ap (λ n. field_product (field_power 2 n) x) same) ∙ ap (λ p. field_product p x) (sym is)

pub weigh2 : (e v x : ℕ) → v ≡ field_power 2 e → IsByte x → field_product (field_power 2 (2 * e)) x ≡ field_product v (field_product v x)
weigh2 e v x is byte =
    split_power e e (2 * e) x (omega arith) byte
    ∙ ap₂ field_product (sym is) (ap (λ p. field_product p x) (sym is))
