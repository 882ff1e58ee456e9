use Rattle.std.proofs.Common.{◌≡◌, ℕ, ◌+◌, ◌*◌, ◌∙◌, List, length, drop, min, arith, refl, ap}
use Rattle.std.proofs.lemmas.List.{length-set, length-replicate}
use Rattle.draid_parity.specs.Columns.{column_at, written}
use Rattle.draid_block.specs.Columns.{Cut, sectors_in, data_column}
use Rattle.draid_block.specs.Blocks.{cut_of, column_len}
use Rattle.draid_block.proofs.Filling.{one_column, part_short, rest_more, written_more, zero_more, zero_columns, nothing_before}
use Rattle.draid_block.proofs.encoded.fill_columns.Goals as goal

pub loop-i-init : goal.loop-i-init
loop-i-init c =
    let cut : Cut = cut_of c.args.geometry.now in
    let long : ℕ = column_len cut (length c.args.bytes.now) in
    rw c.requires.zero
    (record {
      parity = refl;
      ndata = refl;
      long = refl;
      count = omega (arith, length-replicate {A = List ℕ});
      rest = nothing_before cut c.args.bytes.now;
      written = λ k below. absurd (omega arith);
      zero = λ k _ below. zero_columns cut.parity cut.ndata long k below;
    })

pub write_front-requires : goal.write_front-requires
write_front-requires c =
    let short = part_short (cut_of c.args.geometry.now) (length c.args.bytes.now) c.loop-i.i in
    omega (arith, short, c.split_at.ensures.front_len, c.min-end.ensures, c.part_bytes.ensures, c.column_mut.ensures.len, c.loop-i.invariant.long)

column_is : (c : goal.After-stripe-1) → written (column_at c.loop-i.stripe.columns (c.args.geometry.now.spec.parity + c.loop-i.i)) c.write_front.new.column
    ≡ data_column (cut_of c.args.geometry.now) c.args.bytes.now c.loop-i.i
column_is c =
    let zero = c.loop-i.invariant.zero c.loop-i.i (omega arith) c.loop-i-test.true in
    let column = c.column_mut.ensures.value in
    one_column (cut_of c.args.geometry.now) c.args.bytes.now c.loop-i.rest.now c.split_at.result.0.now _ c.write_front.new.column c.loop-i.i c.min-end.result
    c.loop-i.invariant.rest (c.min-end.ensures ∙ ap (λ m. min m (length c.loop-i.rest.now)) c.part_bytes.ensures) c.split_at.ensures.front zero
    (rw (← column) c.write_front.ensures.after)

pub loop-i-preserved : goal.loop-i-preserved
loop-i-preserved c =
    let cut : Cut = cut_of c.args.geometry.now in
    let was = c.loop-i.invariant in
    let many = was.count in
    let end : c.min-end.result ≡ min (sectors_in cut (length c.args.bytes.now) c.loop-i.i * cut.sector) (length c.loop-i.rest.now) =
    c.min-end.ensures ∙ ap (λ m. min m (length c.loop-i.rest.now)) c.part_bytes.ensures in
    record {
      parity = was.parity;
      ndata = was.ndata;
      long = was.long;
      count = omega (arith, many, length-set {A = List ℕ});
      rest = rest_more cut c.args.bytes.now c.loop-i.rest.now c.split_at.result.1.now c.loop-i.i was.rest
          (c.split_at.ensures.back ∙ ap (λ m. drop m c.loop-i.rest.now) end);
      written = written_more cut c.args.bytes.now c.loop-i.stripe.columns _ c.loop-i.i (omega (arith, many, c.loop-i-test.true)) (column_is c) was.written;
      zero = zero_more cut.parity c.loop-i.stripe.columns _ _ c.loop-i.i cut.ndata was.zero;
    }
