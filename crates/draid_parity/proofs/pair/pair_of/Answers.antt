use Rattle.std.proofs.Common.{◌≢◌, ◌-◌, ◌∙◌, bit_xor, sym, ap₂, subst, arith}
use Rattle.draid_gf.specs.Field.{field_product, IsByte}
use Rattle.draid_gf.proofs.Laws.{same_from_xor}
use Rattle.draid_gf.proofs.Powers.{powers_differ}
use Rattle.draid_parity.proofs.Restored.{nodes_differ}
use Rattle.draid_parity.proofs.PairLemmas.{unit_inverse, unit_power}
use Rattle.draid_parity.proofs.pair.pair_of.Goals as goal

pub inv-requires : goal.inv-requires
inv-requires c = λ none.
    let apart : c.args.e ≢ c.args.f = omega arith in
    nodes_differ (c.args.l - c.args.k) c.args.e c.args.f (omega arith) (omega arith) (omega arith) (omega arith) apart
    (sym c.pow2-first.ensures ∙ same_from_xor c.pow2-first.result c.pow2-second.result none ∙ c.pow2-second.ensures)

pub inv-requires-2 : goal.inv-requires-2
inv-requires-2 c = λ none. powers_differ.nonzero _ (sym c.pow2.ensures ∙ none)

pub inv-requires-3 : goal.inv-requires-3
inv-requires-3 c = λ none. powers_differ.nonzero _ (sym c.pow2-2.ensures ∙ none)

pub returns-clause-pair : goal.returns-clause-pair
returns-clause-pair c = record {
  power = c.new.ensures ∙ c.pow2-first.ensures;
  apart =
      ap₂ field_product (ap₂ bit_xor c.new.ensures (sym c.pow2-second.ensures)) c.new-2.ensures
      ∙ c.inv.ensures.inverse;
  first = ap₂ field_product (sym c.pow2.ensures) c.new-3.ensures ∙ c.inv-2.ensures.inverse;
  second = ap₂ field_product (sym c.pow2-2.ensures) c.new-4.ensures ∙ c.inv-3.ensures.inverse;
  bytes = (subst IsByte (sym c.new-2.ensures) c.inv.type_inv, subst IsByte (sym c.new-3.ensures) c.inv-2.type_inv, subst IsByte (sym c.new-4.ensures) c.inv-3.type_inv);
}

pub returns-clause-plain : goal.returns-clause-plain
returns-clause-plain c = λ zero. (
  c.new-3.ensures ∙ unit_inverse c.pow2.result c.inv-2.result c.inv-2.type_inv (c.pow2.ensures ∙ unit_power c.args.k c.args.e zero) c.inv-2.ensures.inverse,
  c.new-4.ensures ∙ unit_inverse c.pow2-2.result c.inv-3.result c.inv-3.type_inv (c.pow2-2.ensures ∙ unit_power c.args.k c.args.f zero) c.inv-3.ensures.inverse,
)
