use Rattle.std.proofs.Common.{◌+◌, ℕ, List, arith, sym, subst}
use Rattle.draid_block.specs.Columns.{Cut}
use Rattle.draid_block.specs.Blocks.{cut_of}
use Rattle.draid_block.specs.Search.{IsFront}
use Rattle.draid_block.specs.Solving.{read_of}
use Rattle.draid_block.specs.declared.front.Front.{Front}
use Rattle.draid_block.proofs.Fronts.{front_same}
use Rattle.draid_block.proofs.hashing.bring_front.Goals as goal
use Rattle.draid_block.proofs.hashing.bring_front.Goals.{then-front-first, else-front-first}

pub take_before-requires-clause-front : goal.take_before-requires-clause-front
take_before-requires-clause-front c =
    let cut : Cut = cut_of c.args.geometry.now in
    let len : ℕ = c.args.fetched.now.pointer.len in
    let stripe : List (List ℕ) = c.args.stripe.now.columns in
    elim c.if-front-first.branch [
      | then-front-first w ↦ subst (λ (f : Front). IsFront cut len stripe f) (sym w.front-is) (w.new.ensures.front cut stripe)
      | else-front-first w ↦
          subst (λ (f : Front). IsFront cut len stripe f) (sym w.front-is)
          (front_same cut len (read_of c.args.fetched.now.columns.items) stripe c.args.front.now
          (λ i below. sym (c.requires.stripe.restored.solution.solves.stays (cut.parity + i)
          (c.first_restored-first.ensures.before i (let within = w.if-front-first.false in omega (arith, below, within)))))
          c.requires.front)
    ]

pub returns-clause-read : goal.returns-clause-read
returns-clause-read c =
    front_same (cut_of c.args.geometry.now) c.args.fetched.now.pointer.len c.args.stripe.now.columns (read_of c.args.fetched.now.columns.items) c.take_before.new.self
    (λ i below. c.requires.stripe.restored.solution.solves.stays (c.args.geometry.now.spec.parity + i)
    (c.first_restored-first.ensures.before i (let count = c.take_before.ensures.count in omega (arith, below, count))))
    c.take_before.ensures.front
