use Rattle.std.proofs.Common.{◌≢◌, ◌∙◌, ap₂, bit_xor, subst, sym, arith}
use Rattle.draid_gf.specs.Field.{field_product, IsByte}
use Rattle.draid_gf.proofs.Laws.{same_from_xor}
use Rattle.draid_parity.proofs.Restored.{one_node}
use Rattle.draid_parity.proofs.triple.triple_of.Goals as goal

pub inv-requires : goal.inv-requires
inv-requires c = λ none.
    let apart : c.args.e ≢ c.args.f = omega arith in
    one_node c.args.e c.args.f (omega arith) (omega arith) apart
    (sym c.pow2-first.ensures ∙ same_from_xor c.pow2-first.result c.pow2-second.result none ∙ c.pow2-second.ensures)

pub inv-requires-2 : goal.inv-requires-2
inv-requires-2 c = λ none.
    let apart : c.args.e ≢ c.args.g = omega arith in
    one_node c.args.e c.args.g (omega arith) (omega arith) apart
    (sym c.pow2-first.ensures ∙ same_from_xor c.pow2-first.result c.pow2-third.result none ∙ c.pow2-third.ensures)

pub inv-requires-3 : goal.inv-requires-3
inv-requires-3 c = λ none.
    let apart : c.args.f ≢ c.args.g = omega arith in
    one_node c.args.f c.args.g (omega arith) (omega arith) apart
    (sym c.pow2-second.ensures ∙ same_from_xor c.pow2-second.result c.pow2-third.result none ∙ c.pow2-third.ensures)

pub returns : goal.returns
returns c = record {
  first_is = c.new.ensures ∙ c.pow2-first.ensures;
  second_is = c.new-2.ensures ∙ c.pow2-second.ensures;
  apart = ap₂ field_product (ap₂ bit_xor c.new.ensures c.new-2.ensures) c.new-3.ensures ∙ c.inv.ensures.inverse;
  far_apart = ap₂ field_product (ap₂ bit_xor c.new.ensures (sym c.pow2-third.ensures)) c.new-4.ensures ∙ c.inv-2.ensures.inverse;
  last_apart = ap₂ field_product (ap₂ bit_xor c.new-2.ensures (sym c.pow2-third.ensures)) c.new-5.ensures ∙ c.inv-3.ensures.inverse;
  bytes = (subst IsByte (sym c.new-3.ensures) c.inv.type_inv, subst IsByte (sym c.new-4.ensures) c.inv-2.type_inv, subst IsByte (sym c.new-5.ensures) c.inv-3.type_inv);
}
