use Rattle.std.proofs.Common.{◌≡◌, ◌<◌, ◌≤◌, ◌+◌, ◌-◌, ◌++◌, ◌∷◌, [], ℕ, true, false, List, length, get_or, drop, refl, sym, ap, ◌∙◌, append_assoc, arith}
use Rattle.std.specs.Prelude.{◌==◌}
use Rattle.std.proofs.lemmas.Bool.{eqb-true}
use Rattle.std.proofs.lemmas.Bool.Decides.{nat_tests}
use Rattle.std.proofs.lemmas.List.{at_drop_all, at_drop_more, nil_from_length}
use Rattle.draid_names.specs.declared.pointer.Pointer.{Pointer}
use Rattle.draid_ranges.specs.declared.run.Run.{Run}
use Rattle.draid_record.specs.Record.{spaces_from, spaces_of}
use Rattle.draid_record.proofs.writing.spaces_of.Goals.{then-block-upto+in_ok-push, else-block-upto}
use Rattle.draid_record.proofs.writing.spaces_of.Goals as goal

is_begun : (blocks : List Pointer) (d : Pointer) (runs : List Run) (stripes : ℕ) → (length blocks == 0) ≡ false → runs ≡ [] → stripes ≡ (get_or blocks 0 d).stripes
    → spaces_of blocks ≡ runs ++ spaces_from (get_or blocks 0 d).first ((get_or blocks 0 d).first + stripes) (drop 1 blocks)
is_begun [] d runs stripes some none is = absurd (cc)
is_begun (b ∷ bs) d runs stripes some none is = rw (none, is) refl

-- a block that lies behind the ones before it
goes_on : (first upto : ℕ) (b : Pointer) (bs : List Pointer) → b.first ≡ upto → spaces_from first upto (b ∷ bs) ≡ spaces_from first (b.first + b.stripes) bs
goes_on first upto b bs same = (let e : (b.first == upto) ≡ true = grind (arith, nat_tests) in rw e refl)

-- and one with stripes between
begins_again : (first upto : ℕ) (b : Pointer) (bs : List Pointer) → (b.first ≡ upto → ⊥) → spaces_from first upto (b ∷ bs) ≡ record { first = first; len = upto - first } ∷ spaces_from b.first (b.first + b.stripes) bs
begins_again first upto b bs other = (let e : (b.first == upto) ≡ false = grind (arith, nat_tests) in rw e refl)

behind : (blocks : List Pointer) (n : ℕ) (d : Pointer) (first upto stripes start : ℕ) (runs new : List Run) → n < length blocks → (get_or blocks n d).first ≡ upto
    → stripes ≡ (get_or blocks n d).stripes → start ≡ first → new ≡ runs → spaces_of blocks ≡ runs ++ spaces_from first upto (drop n blocks)
    → spaces_of blocks ≡ new ++ spaces_from start ((get_or blocks n d).first + stripes) (drop (n + 1) blocks)
behind blocks n d first upto stripes start runs new l same is started kept was =
    rw (is, started, kept) (was ∙ ap (λ t. runs ++ t) (at_drop_more (spaces_from first upto) blocks n d l ∙ goes_on first upto (get_or blocks n d) (drop (n + 1) blocks) same))

apart : (blocks : List Pointer) (n : ℕ) (d : Pointer) (first upto stripes start len : ℕ) (runs new : List Run) → n < length blocks → ((get_or blocks n d).first ≡ upto → ⊥)
    → stripes ≡ (get_or blocks n d).stripes → start ≡ (get_or blocks n d).first → len ≡ upto - first → new ≡ runs ++ record { first = first; len = len } ∷ []
    → spaces_of blocks ≡ runs ++ spaces_from first upto (drop n blocks) → spaces_of blocks ≡ new ++ spaces_from start ((get_or blocks n d).first + stripes) (drop (n + 1) blocks)
apart blocks n d first upto stripes start len runs new l other is started cut pushed was =
    rw (is, started, pushed, cut)
    (was ∙ ap (λ t. runs ++ t) (at_drop_more (spaces_from first upto) blocks n d l ∙ begins_again first upto (get_or blocks n d) (drop (n + 1) blocks) other) ∙ sym (append_assoc runs _ _))

ended : (blocks : List Pointer) (n first upto len : ℕ) (runs new : List Run) → length blocks ≤ n → len ≡ upto - first → new ≡ runs ++ record { first = first; len = len } ∷ []
    → spaces_of blocks ≡ runs ++ spaces_from first upto (drop n blocks) → new ≡ spaces_of blocks
ended blocks n first upto len runs new all cut pushed was = rw (pushed, cut) (sym (was ∙ ap (λ t. runs ++ t) (at_drop_all (spaces_from first upto) blocks n all)))

pub returns-then-is_empty : goal.returns-then-is_empty
returns-then-is_empty c =
    let none : c.args.blocks.now ≡ [] = nil_from_length c.args.blocks.now (eqb-true _ _ (sym c.is_empty.ensures ∙ c.if-is_empty.true)) in
    c.new-runs.ensures.items ∙ ap spaces_of (sym none)

pub loop-next-init : goal.loop-next-init
loop-next-init c = is_begun c.args.blocks.now _ c.new-runs.result.items c.from.result (sym c.is_empty.ensures ∙ c.if-is_empty.false) c.new-runs.ensures.items c.from.ensures

pub loop-next-preserved : goal.loop-next-preserved
loop-next-preserved c = elim c.if-block-upto.branch [
  | then-block-upto+in_ok-push w ↦
      apart c.args.blocks.now c.loop-next.next _ c.loop-next.first c.loop-next.upto c.from-in-loop-next.result c.if-block-upto.first w.saturating_sub.result c.loop-next.runs.items c.if-block-upto.runs.items
      c.loop-next-test.true w.if-block-upto.true c.from-in-loop-next.ensures w.first-is w.saturating_sub.ensures (ap (λ r. r.items) w.runs-is ∙ w.in_ok-push.ensures.items) c.loop-next.invariant
  | else-block-upto w ↦
      behind c.args.blocks.now c.loop-next.next _ c.loop-next.first c.loop-next.upto c.from-in-loop-next.result c.if-block-upto.first c.loop-next.runs.items c.if-block-upto.runs.items
      c.loop-next-test.true w.if-block-upto.false c.from-in-loop-next.ensures w.first-is (ap (λ r. r.items) w.runs-is) c.loop-next.invariant
]

pub returns : goal.returns
returns c =
    ended c.args.blocks.now c.loop-next.next c.loop-next.first c.loop-next.upto c.saturating_sub-2.result c.loop-next.runs.items c.push-2.new.self.items
    c.loop-next-test.false c.saturating_sub-2.ensures c.in_ok-push-2.ensures.items c.loop-next.invariant
