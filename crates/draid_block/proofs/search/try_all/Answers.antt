use Rattle.std.proofs.Common.{◌∙◌, ◌+◌, ◌-◌, ℕ, arith, refl, Ok, None}
use Rattle.draid_block.specs.Columns.{Cut}
use Rattle.draid_block.specs.Blocks.{cut_of}
use Rattle.draid_block.specs.Order.{covering, sets_after}
use Rattle.draid_block.proofs.Sets.{tries_some, tries_none, tries_more, first_right}
use Rattle.draid_block.proofs.Sizes.{size_room, size_sets, first_all, none_all}
use Rattle.draid_block.proofs.search.try_all.Goals as goal

pub try_sets-requires-clause-room : goal.try_sets-requires-clause-room
try_sets-requires-clause-room c =
    let columns = c.requires.search.layout.columns in
    let width = c.requires.search.layout.width in
    let disks = c.requires.search.layout.disks in
    let children = c.requires.search.layout.spec.most_children in
    let parity = c.requires.search.layout.spec.most_parity in
    let none = c.loop-size.invariant.none in
    size_room c.args.search.now.absent.now c.loop-size.begun.items 0 c.loop-size.attempts.tried c.loop-size.size (c.args.search.now.geometry.now.spec.parity + c.args.search.now.geometry.now.spec.ndata)
    c.loop-size.invariant.begun refl none.counted (omega arith) (omega arith)

pub returns-in-Some : goal.returns-in-Some
returns-in-Some c =
    let cut : Cut = cut_of c.args.search.now.geometry.now in
    let n : ℕ = c.args.search.now.geometry.now.spec.parity + c.args.search.now.geometry.now.spec.ndata in
    let found = tries_some cut c.args.search.now.fetched.now (covering c.args.search.now.absent.now (sets_after c.loop-size.begun.items c.loop-size.size 0 (n - 0))) c.try_sets.new.attempts
    c.loop-size.attempts.tried c.try_sets.new.attempts.tried c.in_ok-bytes.field-0 c.in-Some.bytes c.in-Some.is c.in_ok-bytes.ensures.tries in
    let none = c.loop-size.invariant.none in
    first_all cut c.args.search.now.fetched.now c.in-Some.bytes.items c.args.search.now.absent.now (c.loop-size.size + 1) n (omega arith) refl c.requires.search.absent_is
    (rw (size_sets c.args.search.now.absent.now c.loop-size.begun.items c.loop-size.size n c.loop-size.invariant.begun) (first_right _ _ none.failed found))

pub loop-size-preserved : goal.loop-size-preserved
loop-size-preserved c =
    let cut : Cut = cut_of c.args.search.now.geometry.now in
    let n : ℕ = c.args.search.now.geometry.now.spec.parity + c.args.search.now.geometry.now.spec.ndata in
    let none = tries_none cut c.args.search.now.fetched.now (covering c.args.search.now.absent.now (sets_after c.loop-size.begun.items c.loop-size.size 0 (n - 0))) c.try_sets.new.attempts
    c.loop-size.attempts.tried c.try_sets.new.attempts.tried c.in_ok-bytes.field-0 c.in-None.is c.in_ok-bytes.ensures.tries in
    record {
      none = rw (size_sets c.args.search.now.absent.now c.loop-size.begun.items c.loop-size.size n c.loop-size.invariant.begun)
          (tries_more cut c.args.search.now.fetched.now _ _ c.loop-size.attempts c.try_sets.new.attempts 0 c.loop-size.attempts.tried c.try_sets.new.attempts.tried (Ok None)
          c.loop-size.invariant.none none);
      begun = c.in_ok-bytes.ensures.begun ∙ c.loop-size.invariant.begun;
    }

pub returns : goal.returns
returns c =
    let cut : Cut = cut_of c.args.search.now.geometry.now in
    let n : ℕ = c.args.search.now.geometry.now.spec.parity + c.args.search.now.geometry.now.spec.ndata in
    none_all cut c.args.search.now.fetched.now c.args.search.now.absent.now c.loop-size.size n c.loop-size.attempts 0 c.loop-size.attempts.tried (omega arith) refl c.requires.search.absent_is c.loop-size.invariant.none
