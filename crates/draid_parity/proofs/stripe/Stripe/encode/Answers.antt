use Rattle.draid_parity.proofs.StripeLemmas.{codeword-from_sums}
use Rattle.draid_parity.proofs.stripe.Stripe.encode.Goals as goal

pub returns-clause-encoded : goal.returns-clause-encoded
returns-clause-encoded c = λ j below. codeword-from_sums c.self.inside.parity c.encode_columns.new.columns.items c.encode_columns.ensures.sums j
