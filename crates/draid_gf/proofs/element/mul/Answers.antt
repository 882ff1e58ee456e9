use Rattle.std.proofs.Common.{◌≡◌, ◌+◌, ◌-◌, ◌*◌, ◌/◌, ◌^◌, ◌∙◌, ap, ap₂, sym, subst, arith, bit_xor}
use Rattle.std.proofs.lemmas.Nat.{shr-shr, shr_le}
use Rattle.std.proofs.lemmas.Nat.Bits.{shr_and_one}
use Rattle.draid_gf.specs.Field.{field_product, polynomial_product, IsRemainder}
use Rattle.draid_gf.proofs.Laws.{product_halves, product_remainder}
use Rattle.draid_gf.proofs.Product.{field_product-zero}
use Rattle.draid_gf.proofs.element.mul.Goals as goal

pub loop-e-init : goal.loop-e-init
loop-e-init c = sym (field_product-zero c.args.a) ∙ ap (field_product c.args.a) (omega arith)

pub loop-e-preserved : goal.loop-e-preserved
loop-e-preserved c =
    let e = c.loop-e.e - 1 in
    let x = c.args.b / 2 ^ e in
    let turn : c.loop-e.e ≡ e + 1 = omega arith in
    let halved : c.args.b / 2 ^ c.loop-e.e ≡ x / 2 = ap (λ n. c.args.b / 2 ^ n) turn ∙ sym (shr-shr c.args.b e 1) in
    let small = shr_le c.args.b e in
    ap₂ bit_xor
    (c.double.ensures ∙ ap (field_product 2) (c.loop-e.invariant ∙ ap (field_product c.args.a) halved))
    (ap (λ n. n * c.args.a) (shr_and_one c.args.b e))
    ∙ product_halves c.args.a x (omega arith) (omega arith)

pub returns-clause-remainder : goal.returns-clause-remainder
returns-clause-remainder c =
    let none : c.loop-e.e ≡ 0 = omega arith in
    let whole : c.args.b / 2 ^ c.loop-e.e ≡ c.args.b = ap (λ n. c.args.b / 2 ^ n) none ∙ omega arith in
    let value : c.loop-e.product ≡ field_product c.args.a c.args.b = c.loop-e.invariant ∙ ap (field_product c.args.a) whole in
    let P = λ (r : _). IsRemainder (polynomial_product c.args.a c.args.b) r in
    subst P (sym value) (product_remainder c.args.a c.args.b (omega arith) (omega arith))
