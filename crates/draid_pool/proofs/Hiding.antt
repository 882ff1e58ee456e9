-- A place that isn't seen: nothing is there, or a block that came there.
use Rattle.std.proofs.Common.{◌≡◌, ◌==◌, ◌&&◌, ◌+◌, ◌∙◌, inl, inr, arith, ℕ, Bool, true, false, Option, Some, None, refl, sym, ap, subst, if◌then◌else◌}
use Rattle.std.proofs.lemmas.Bool.{true≢false}
use Rattle.draid_machine.specs.declared.names.Key.{Key}
use Rattle.draid_machine.specs.declared.names.Held.{Held}
use Rattle.draid_machine.specs.Names.{key_eq}
use Rattle.draid_machine.proofs.Small.{bool_cases, both_true, equal, is_equal, key_true}
use Rattle.draid_segments.specs.Segments.{Pieces}
use Rattle.draid_objects.specs.Blocks.{Blocks, Sets}
use Rattle.draid_session.specs.State.{State}
use Rattle.draid_pool.specs.Objects.{HoldsObjects, blocks_of}
use Rattle.draid_pool.proofs.Lists.{ext}
use Rattle.draid_pool.specs.Threads.{HoldsBut, HoldsOwn, all_of, but, own_blocks, own_store}
use Rattle.draid_pool.proofs.Finds.{all_low, bound_in}
use Rattle.draid_pool.proofs.Owning.{own_is, own_not}

-- what is at a place by whether it is the one
seen_at : (test mine : Bool) (o : Option Held) → Option Held
seen_at test mine o = if (if test then false else mine) then o else None

module _ (mine : ℕ → Key → Bool) (m : ℕ) (key : Key) where
  pub but_inside : (n : ℕ) (k : Key) → but m key mine n k ≡ true → mine n k ≡ true
  but_inside n k e = by ((m == n) && key_eq key k) e
    where
      by : (b : Bool) → (if b then false else mine n k) ≡ true → mine n k ≡ true
      by true is = absurd (true≢false (sym is))
      by false is = is

  pub but_here : (k : Key) → but m key mine m k ≡ true → key_eq key k ≡ false
  but_here k e = by (key_eq key k) refl
    where
      by : (b : Bool) → key_eq key k ≡ b → key_eq key k ≡ false
      by false is = is
      by true is = absurd (true≢false (sym e ∙ (ap (λ b. if b && key_eq key k then false else mine m k) (equal m m refl) ∙ ap (λ b. if b then false else mine m k) is)))

  pub but_away : (n : ℕ) (k : Key) → ((m ≡ n) → (key ≡ k) → ⊥) → but m key mine n k ≡ mine n k
  but_away n k away = by ((m == n) && key_eq key k) refl
    where
      by : (b : Bool) → ((m == n) && key_eq key k) ≡ b → but m key mine n k ≡ mine n k
      by false is = ap (λ b. if b then false else mine n k) is
      by true is = absurd (let z = both_true (m == n) (key_eq key k) is in away (is_equal m n z.0) (key_true key k z.1))

  -- where nothing is there it is all the same
  pub hidden_none : (blocks : Blocks) → own_blocks mine blocks m key ≡ None → own_blocks (but m key mine) blocks ≡ own_blocks mine blocks
  hidden_none blocks none = ext (own_blocks (but m key mine) blocks) (own_blocks mine blocks) (λ n. ext (own_blocks (but m key mine) blocks n) (own_blocks mine blocks n) (λ k. by n k ((m == n) && key_eq key k) refl))
    where
      by : (n : ℕ) (k : Key) (b : Bool) → ((m == n) && key_eq key k) ≡ b → own_blocks (but m key mine) blocks n k ≡ own_blocks mine blocks n k
      by n k false is = ap (λ b. if (if b then false else mine n k) then blocks n k else None) is
      by n k true is =
          let z = both_true (m == n) (key_eq key k) is in
          ap (λ b. if (if b then false else mine n k) then blocks n k else None) is
          ∙ sym (subst (λ (i : ℕ). own_blocks mine blocks i k ≡ None) (is_equal m n z.0) (subst (λ (j : Key). own_blocks mine blocks m j ≡ None) (key_true key k z.1) none))

  -- what is there comes in sight
  pub seen_set : (blocks : Blocks) (v : Option Held) → mine m key ≡ true → blocks m key ≡ v → Sets (own_blocks (but m key mine) blocks) (own_blocks mine blocks) m key v
  seen_set blocks v own there n k = by ((m == n) && key_eq key k) refl
    where
      by : (b : Bool) → ((m == n) && key_eq key k) ≡ b → own_blocks mine blocks n k ≡ (if (m == n) && key_eq key k then v else own_blocks (but m key mine) blocks n k)
      by false is = sym (ap (λ b. if b then v else (if (if b then false else mine n k) then blocks n k else None)) is)
      by true is =
          let z = both_true (m == n) (key_eq key k) is in
          subst (λ (i : ℕ). own_blocks mine blocks i k ≡ v) (is_equal m n z.0) (subst (λ (j : Key). own_blocks mine blocks m j ≡ v) (key_true key k z.1) (own_is mine blocks m key own ∙ there))
          ∙ sym (ap (λ b. if b then v else own_blocks (but m key mine) blocks n k) is)

and_false : (b : Bool) → (b && false) ≡ false
and_false true = refl
and_false false = refl

-- what is set of an own object is set where own ones are seen alone
pub own_set : (owns : ℕ → Bool) (old new : Blocks) (m : ℕ) (key : Key) (v : Option Held) → owns key.object ≡ true → Sets old new m key v → Sets (own_blocks (all_of owns) old) (own_blocks (all_of owns) new) m key v
own_set owns old new m key v own raw n k = by (owns k.object) refl
  where
    by : (b : Bool) → owns k.object ≡ b → own_blocks (all_of owns) new n k ≡ (if (m == n) && key_eq key k then v else own_blocks (all_of owns) old n k)
    by true mine = own_is (all_of owns) new n k mine ∙ (raw n k ∙ ap (λ o. if (m == n) && key_eq key k then v else o) (sym (own_is (all_of owns) old n k mine)))
    by false other =
        let differs : key_eq key k ≡ false = elim (bool_cases (key_eq key k)) [
          | inl same ↦ absurd (let e : true ≡ false = sym own ∙ (ap (λ (j : Key). owns j.object) (key_true key k same) ∙ other) in true≢false e)
          | inr not ↦ not
        ] in
        own_not (all_of owns) new n k other
        ∙ (sym (own_not (all_of owns) old n k other)
        ∙ sym (ap (λ b. if (m == n) && b then v else own_blocks (all_of owns) old n k) differs ∙ ap (λ b. if b then v else own_blocks (all_of owns) old n k) (and_false (m == n))))

module _ (owns : ℕ → Bool) (x : State) (pieces : ℕ → Pieces) (m : ℕ) (key : Key) where
  -- nothing is seen where nothing is
  pub hide : own_blocks (all_of owns) (blocks_of x.metaslabs) m key ≡ None → HoldsOwn owns x pieces → HoldsBut owns (but m key (all_of owns)) (but m key (all_of owns)) x pieces
  hide none h = record {
    holds = λ c b. subst (λ bs. HoldsObjects x.geometry c (own_store owns x.store) bs pieces) (sym same) (h.holds c b);
    only = λ n k i there. h.only n k i (ap (λ bs. bs n k) (sym same) ∙ there);
    checks = h.checks;
    marked = h.marked;
  }
    where
      same : own_blocks (but m key (all_of owns)) (blocks_of x.metaslabs) ≡ own_blocks (all_of owns) (blocks_of x.metaslabs)
      same = hidden_none (all_of owns) m key (blocks_of x.metaslabs) none

  pub unhide : own_blocks (all_of owns) (blocks_of x.metaslabs) m key ≡ None → HoldsBut owns (but m key (all_of owns)) (but m key (all_of owns)) x pieces → HoldsOwn owns x pieces
  unhide none h = record {
    holds = λ c b. subst (λ bs. HoldsObjects x.geometry c (own_store owns x.store) bs pieces) same (h.holds c b);
    only = λ n k i there. h.only n k i (ap (λ bs. bs n k) same ∙ there);
    checks = h.checks;
    marked = h.marked;
  }
    where
      same : own_blocks (but m key (all_of owns)) (blocks_of x.metaslabs) ≡ own_blocks (all_of owns) (blocks_of x.metaslabs)
      same = hidden_none (all_of owns) m key (blocks_of x.metaslabs) none

  -- the next number isn't in use
  pub unused_own : key.seq ≡ x.store.seq + 1 → HoldsOwn owns x pieces → own_blocks (all_of owns) (blocks_of x.metaslabs) m key ≡ None
  unused_own next h = by (own_blocks (all_of owns) (blocks_of x.metaslabs) m key) refl
    where
      by : (o : Option Held) → own_blocks (all_of owns) (blocks_of x.metaslabs) m key ≡ o → own_blocks (all_of owns) (blocks_of x.metaslabs) m key ≡ None
      by None is = is
      by (Some i) is = absurd (let low = (h.holds (bound_in x.metaslabs) (all_low x)).numbered m key i is in omega (arith, low, next))
