use Rattle.std.proofs.Common.{arith, slice_index_or}
use Rattle.std.proofs.lemmas.Option.{slice_get-get_or}
use Rattle.draid_clashes.specs.declared.objects.Named.{Named}
use Rattle.draid_clashes.proofs.Sharing.{far_first, found, goes_on, none_shared}
use Rattle.draid_clashes.proofs.objects.first_shared.Goals as goal
use Rattle.draid_clashes.proofs.objects.first_shared.Goals.{else-left-gt0-via-then-left-gt0+else-far-next, else-left-gt0-via-else-left-gt0}

abbrev nothing : Named
nothing = record { lane = 0; first = 0; count = 0 }

pub left-left-requires : goal.left-left-requires
left-left-requires c = far_first c.args.named.now c.requires.sorted c.loop-next.next-index c.loop-next.far (slice_index_or c.args.named.now c.loop-next.next-index nothing) c.loop-next.invariant
    (slice_get-get_or c.args.named.now c.loop-next.next-index nothing c.loop-next-test.true)

pub returns-then-far-next-clause-some : goal.returns-then-far-next-clause-some
returns-then-far-next-clause-some c =
    let some = c.if-left-gt0.true in
    let is = c.left-left.ensures in
    found c.args.named.now c.requires.sorted c.loop-next.next-index c.loop-next.far (slice_index_or c.args.named.now c.loop-next.next-index nothing) c.loop-next.invariant
    (slice_get-get_or c.args.named.now c.loop-next.next-index nothing c.loop-next-test.true)
    (c.requires.some c.loop-next.next-index nothing c.loop-next-test.true) (omega (arith, some, is)) c.if-far-next.true

pub loop-next-preserved : goal.loop-next-preserved
loop-next-preserved c =
    let is = c.left-left.ensures in
    goes_on c.args.named.now c.requires.sorted c.loop-next.next-index c.loop-next.far (slice_index_or c.args.named.now c.loop-next.next-index nothing) c.loop-next.invariant
    (slice_get-get_or c.args.named.now c.loop-next.next-index nothing c.loop-next-test.true)
    (c.requires.some c.loop-next.next-index nothing c.loop-next-test.true)
    c.left-left.result is (λ some. elim c.else-left-gt0.branch [
      | else-left-gt0-via-then-left-gt0+else-far-next w ↦ w.if-far-next.false
      | else-left-gt0-via-else-left-gt0 w ↦ (let none = w.if-left-gt0.false in absurd (omega (arith, none, some)))
    ]) c.further-far.result c.further-far.ensures.next c.further-far.ensures.far

pub returns-clause-none : goal.returns-clause-none
returns-clause-none c = none_shared c.args.named.now c.loop-next.far c.loop-next.next-index c.loop-next-test.false c.loop-next.invariant
