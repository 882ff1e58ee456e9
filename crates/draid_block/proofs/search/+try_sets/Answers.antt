use Rattle.std.proofs.Common.{◌≡◌, ◌∙◌, ◌+◌, ◌-◌, ◌++◌, [], ◌∷◌, ℕ, List, arith, sym, ap, length-append, Ok}
use Rattle.std.proofs.lemmas.List.Elements.{All-nil}
use Rattle.draid_block.specs.Columns.{Cut}
use Rattle.draid_block.specs.Blocks.{cut_of}
use Rattle.draid_block.specs.Order.{covering, sets_after}
use Rattle.draid_block.specs.Solving.{FailsOf}
use Rattle.draid_block.proofs.Sets.{always_ok, both_sets, whole_sets, past_sets, begun_more, begun_later, begun_whole, popped, tries_some, tries_none, tries_more, tries_same, first_left}
use Rattle.std.proofs.Common.{refl, subst}
use Rattle.std.specs.Prelude.{OnOk}
use Rattle.draid_block.proofs.Parts.{narrow}
use Rattle.draid_block.proofs.search.+try_sets.Goals as goal

pub try_candidate-requires-clause-room : goal.try_candidate-requires-clause-room
try_candidate-requires-clause-room t c =
    let n : ℕ = c.args.search.now.geometry.now.spec.parity + c.args.search.now.geometry.now.spec.ndata - c.args.first in
    let e = whole_sets c.args.search.now.absent.now c.args.begun.now.items c.args.size c.args.first n c.if-size-eq0.true in
    rw c.deref.ensures.value (rw e at c.requires.room)

pub returns-then-size-eq0-clause-tries : goal.returns-then-size-eq0-clause-tries
returns-then-size-eq0-clause-tries t c =
    let n : ℕ = c.args.search.now.geometry.now.spec.parity + c.args.search.now.geometry.now.spec.ndata - c.args.first in
    let e = whole_sets c.args.search.now.absent.now c.args.begun.now.items c.args.size c.args.first n c.if-size-eq0.true in
    let same = e ∙ ap (λ (set : List ℕ). covering c.args.search.now.absent.now (set ∷ [])) (sym c.deref.ensures.value) in
    tries_same (cut_of c.args.search.now.geometry.now) c.args.search.now.fetched.now _ _ c.try_candidate.new.attempts c.args.attempts.now.tried c.try_candidate.new.attempts.tried c.try_candidate.result
    same c.try_candidate.ensures

pub returns-then-first-search-clause-tries : goal.returns-then-first-search-clause-tries
returns-then-first-search-clause-tries t c =
    let n : ℕ = c.args.search.now.geometry.now.spec.parity + c.args.search.now.geometry.now.spec.ndata - c.args.first in
    let none = past_sets c.args.search.now.absent.now c.args.begun.now.items c.args.size c.args.first n (omega arith) (omega arith) in
    rw none (record { ready = c.requires.ready; failed = All-nil (FailsOf (cut_of c.args.search.now.geometry.now) c.args.search.now.fetched.now); counted = omega arith })

pub try_sets-requires : goal.try_sets-requires
try_sets-requires t c =
    let within = c.requires.begun.in_range in
    let cut : Cut = cut_of c.args.search.now.geometry.now in
    let g : ℕ = c.args.search.now.geometry.now.spec.parity + c.args.search.now.geometry.now.spec.ndata in
    let pushed = c.in_ok-push.ensures.items in
    let begun = begun_more cut c.args.begun.now.items c.args.size (c.args.size - 1) c.args.first (omega arith) (omega arith) c.requires.begun in
    let room = rw (both_sets c.args.search.now.absent.now c.args.begun.now.items c.args.size c.args.first g (omega arith) (omega arith)) at c.requires.room in
    let left : List (List ℕ) = covering c.args.search.now.absent.now (sets_after (c.args.begun.now.items ++ c.args.first ∷ []) (c.args.size - 1) (c.args.first + 1) (g - (c.args.first + 1))) in
    let right : List (List ℕ) = covering c.args.search.now.absent.now (sets_after c.args.begun.now.items c.args.size (c.args.first + 1) (g - (c.args.first + 1))) in (
      omega arith,
      (c.requires.search, (c.requires.ready, (rw pushed begun, rw pushed (omega (arith, room, length-append left right))))),
    )

pub returns-in-Some-clause-tries : goal.returns-in-Some-clause-tries
returns-in-Some-clause-tries t c =
    let within = c.requires.begun.in_range in
    let cut : Cut = cut_of c.args.search.now.geometry.now in
    let g : ℕ = c.args.search.now.geometry.now.spec.parity + c.args.search.now.geometry.now.spec.ndata in
    let pushed = c.in_ok-push.ensures.items in
    let left_sets = λ (l : List ℕ). covering c.args.search.now.absent.now (sets_after l (c.args.size - 1) (c.args.first + 1) (g - (c.args.first + 1))) in
    let tries = tries_same cut c.args.search.now.fetched.now (left_sets (c.args.begun.now.items ++ c.args.first ∷ [])) (left_sets c.push.new.self.items) c.try_sets.new.attempts
    c.args.attempts.now.tried c.try_sets.new.attempts.tried (Ok c.in_ok-found.found) (ap left_sets (sym {A = List ℕ} pushed)) c.in_ok-found.ensures.tries in
    let found = tries_some cut c.args.search.now.fetched.now _ c.try_sets.new.attempts c.args.attempts.now.tried c.try_sets.new.attempts.tried c.in_ok-found.found c.in-Some.bytes c.in-Some.is tries in
    rw (both_sets c.args.search.now.absent.now c.args.begun.now.items c.args.size c.args.first g (omega arith) (omega arith)) (first_left _ _ found)

pub try_sets-requires-in-None : goal.try_sets-requires-in-None
try_sets-requires-in-None t c =
    let within = c.requires.begun.in_range in
    let cut : Cut = cut_of c.args.search.now.geometry.now in
    let g : ℕ = c.args.search.now.geometry.now.spec.parity + c.args.search.now.geometry.now.spec.ndata in
    let pushed = c.in_ok-push.ensures.items in
    let begun_is : c.pop.new.self.items ≡ c.args.begun.now.items =
    popped c.args.begun.now.items c.try_sets.new.begun.items c.pop.new.self.items c.args.first _ (c.in_ok-found.ensures.begun ∙ c.in_ok-push.ensures.items) c.try_sets.new.begun.ok.0 c.pop.ensures.rest in
    let left_sets = λ (l : List ℕ). covering c.args.search.now.absent.now (sets_after l (c.args.size - 1) (c.args.first + 1) (g - (c.args.first + 1))) in
    let tries = tries_same cut c.args.search.now.fetched.now (left_sets (c.args.begun.now.items ++ c.args.first ∷ [])) (left_sets c.push.new.self.items) c.try_sets.new.attempts
    c.args.attempts.now.tried c.try_sets.new.attempts.tried (Ok c.in_ok-found.found) (ap left_sets (sym {A = List ℕ} pushed)) c.in_ok-found.ensures.tries in
    let none = tries_none cut c.args.search.now.fetched.now _ c.try_sets.new.attempts c.args.attempts.now.tried c.try_sets.new.attempts.tried c.in_ok-found.found c.in-None.is tries in
    let counted = none.counted in
    let begun = begun_later cut c.args.begun.now.items c.args.size c.args.first (omega arith) c.requires.begun in
    let room = rw (both_sets c.args.search.now.absent.now c.args.begun.now.items c.args.size c.args.first g (omega arith) (omega arith)) at c.requires.room in
    let left : List (List ℕ) = covering c.args.search.now.absent.now (sets_after (c.args.begun.now.items ++ c.args.first ∷ []) (c.args.size - 1) (c.args.first + 1) (g - (c.args.first + 1))) in
    let right : List (List ℕ) = covering c.args.search.now.absent.now (sets_after c.args.begun.now.items c.args.size (c.args.first + 1) (g - (c.args.first + 1))) in (
      omega arith,
      (c.requires.search, (none.ready, (rw begun_is begun, rw begun_is (omega (arith, room, counted, length-append left right))))),
    )

pub returns-in-None-clause-tries : goal.returns-in-None-clause-tries
returns-in-None-clause-tries t c =
    let within = c.requires.begun.in_range in
    let cut : Cut = cut_of c.args.search.now.geometry.now in
    let g : ℕ = c.args.search.now.geometry.now.spec.parity + c.args.search.now.geometry.now.spec.ndata in
    let pushed = c.in_ok-push.ensures.items in
    let begun_is : c.pop.new.self.items ≡ c.args.begun.now.items =
    popped c.args.begun.now.items c.try_sets.new.begun.items c.pop.new.self.items c.args.first _ (c.in_ok-found.ensures.begun ∙ c.in_ok-push.ensures.items) c.try_sets.new.begun.ok.0 c.pop.ensures.rest in
    let left_sets = λ (l : List ℕ). covering c.args.search.now.absent.now (sets_after l (c.args.size - 1) (c.args.first + 1) (g - (c.args.first + 1))) in
    let tries = tries_same cut c.args.search.now.fetched.now (left_sets (c.args.begun.now.items ++ c.args.first ∷ [])) (left_sets c.push.new.self.items) c.try_sets.new.attempts
    c.args.attempts.now.tried c.try_sets.new.attempts.tried (Ok c.in_ok-found.found) (ap left_sets (sym {A = List ℕ} pushed)) c.in_ok-found.ensures.tries in
    let none = tries_none cut c.args.search.now.fetched.now _ c.try_sets.new.attempts c.args.attempts.now.tried c.try_sets.new.attempts.tried c.in_ok-found.found c.in-None.is tries in
    let right_sets = λ (l : List ℕ). covering c.args.search.now.absent.now (sets_after l c.args.size (c.args.first + 1) (g - (c.args.first + 1))) in
    let more = tries_same cut c.args.search.now.fetched.now (right_sets c.args.begun.now.items) (right_sets c.pop.new.self.items) c.try_sets-in-None.new.attempts
    c.try_sets.new.attempts.tried c.try_sets-in-None.new.attempts.tried c.try_sets-in-None.result (ap right_sets (sym begun_is)) c.try_sets-in-None.ensures.tries in
    tries_same cut c.args.search.now.fetched.now _ _ c.try_sets-in-None.new.attempts c.args.attempts.now.tried c.try_sets-in-None.new.attempts.tried c.try_sets-in-None.result
    (both_sets c.args.search.now.absent.now c.args.begun.now.items c.args.size c.args.first g (omega arith) (omega arith))
    (tries_more cut c.args.search.now.fetched.now _ _ c.try_sets.new.attempts c.try_sets-in-None.new.attempts c.args.attempts.now.tried c.try_sets.new.attempts.tried
    c.try_sets-in-None.new.attempts.tried c.try_sets-in-None.result none more)

pub overflow_add-first : goal.overflow_add-first
overflow_add-first t c = omega (arith, narrow c.args.search.now.geometry.now c.requires.search.layout, c.requires.begun.in_range)

pub overflow_add-first-in-None : goal.overflow_add-first-in-None
overflow_add-first-in-None t c = omega (arith, narrow c.args.search.now.geometry.now c.requires.search.layout, c.requires.begun.in_range)

pub overflow_add-search : goal.overflow_add-search
overflow_add-search t c = omega (arith, narrow c.args.search.now.geometry.now c.requires.search.layout)

pub overflow_sub-size : goal.overflow_sub-size
overflow_sub-size t c = omega (arith, c.if-size-eq0.false)

pub returns-in-None-clause-begun : goal.returns-in-None-clause-begun
returns-in-None-clause-begun t c =
    let begun_is : c.pop.new.self.items ≡ c.args.begun.now.items =
    popped c.args.begun.now.items c.try_sets.new.begun.items c.pop.new.self.items c.args.first _ (c.in_ok-found.ensures.begun ∙ c.in_ok-push.ensures.items) c.try_sets.new.begun.ok.0 c.pop.ensures.rest in
    subst (λ (xs : List ℕ). OnOk c.try_sets-in-None.result (c.try_sets-in-None.new.begun.items ≡ xs)) begun_is c.try_sets-in-None.ensures.begun

pub returns-in-Some-clause-begun : goal.returns-in-Some-clause-begun
returns-in-Some-clause-begun t c = popped c.args.begun.now.items c.try_sets.new.begun.items c.pop.new.self.items c.args.first _ (c.in_ok-found.ensures.begun ∙ c.in_ok-push.ensures.items) c.try_sets.new.begun.ok.0 c.pop.ensures.rest

pub returns-then-first-search-clause-begun : goal.returns-then-first-search-clause-begun
returns-then-first-search-clause-begun t c = refl

pub returns-then-size-eq0-clause-begun : goal.returns-then-size-eq0-clause-begun
returns-then-size-eq0-clause-begun t c = always_ok c.try_candidate.result refl

pub try_candidate-requires-clause-ready : goal.try_candidate-requires-clause-ready
try_candidate-requires-clause-ready t c = c.requires.ready

pub try_candidate-requires-clause-search : goal.try_candidate-requires-clause-search
try_candidate-requires-clause-search t c = c.requires.search

pub try_candidate-requires-clause-set : goal.try_candidate-requires-clause-set
try_candidate-requires-clause-set t c = rw c.deref.ensures.value (begun_whole (cut_of c.args.search.now.geometry.now) c.args.begun.now.items c.args.size c.args.first c.if-size-eq0.true c.requires.begun)
