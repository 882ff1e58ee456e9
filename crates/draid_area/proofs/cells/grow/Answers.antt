use Rattle.std.proofs.Common.{arith, ℕ, List, ◌≡◌, sym, ap, ◌∙◌, ◌++◌, ◌+◌, ◌∷◌, [], length, length-append, append_assoc, replicate}
use Rattle.std.proofs.lemmas.List.{append-nil, length-replicate, replicate_more}
use Rattle.std.proofs.lemmas.Slice.{pushed}
use Rattle.draid_area.proofs.cells.grow.Goals as goal

nothing_more : {A : Type 0} (now old : List A) → now ≡ old → now ≡ old ++ []
nothing_more now old is = is ∙ sym (append-nil old)

one_more : {A : Type 0} (now old : List A) (n : ℕ) (x : A) → now ≡ (old ++ replicate n x) ++ x ∷ [] → now ≡ old ++ replicate (n + 1) x
one_more now old n x is = is ∙ (append_assoc old (replicate n x) (x ∷ []) ∙ ap (λ xs. old ++ xs) (replicate_more n x))

length_more : {A : Type 0} (now old : List A) (n : ℕ) (x : A) → now ≡ old ++ replicate n x → length now ≡ length old + n
length_more now old n x is = ap length is ∙ (length-append old (replicate n x) ∙ ap (λ m. length old + m) (length-replicate n x))

all_more : {A : Type 0} (now old : List A) (n m : ℕ) (x : A) → n ≡ m → now ≡ old ++ replicate n x → now ≡ old ++ replicate m x
all_more now old n m x same is = is ∙ ap (λ k. old ++ replicate k x) same

pub loop-init : goal.loop-init
loop-init g c =
    let own = c.args.cells.now.ok.0 in
    (nothing_more _ _ c.reserve.ensures.items, omega (arith, c.in_ok-reserve.ensures.ok, c.reserve.ensures.len, own), omega (arith, c.saturating_sub-more.ensures, c.len.ensures, own))

pub unwrap-requires : goal.unwrap-requires
unwrap-requires g c =
    let size = length_more _ _ _ _ c.loop.invariant.0 in
    c.push.ensures.succeeds (omega (arith, c.loop.cells.ok.0, size, c.loop.invariant.1, c.loop-test.true))

pub loop-preserved : goal.loop-preserved
loop-preserved g c =
    (one_more _ _ _ _ (pushed (c.args.value ∷ []) c.loop.invariant.0 c.unwrap.ensures c.push.ensures.items), omega (arith, c.loop.invariant.1, c.push.ensures.capacity), c.loop.invariant.2)

pub returns-clause-ok : goal.returns-clause-ok
returns-clause-ok g c = all_more _ _ _ _ _ (omega (arith, c.loop.invariant.2, c.loop.auto.counter-end, c.loop-test.false)) c.loop.invariant.0
