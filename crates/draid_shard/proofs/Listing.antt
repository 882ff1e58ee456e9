-- The live blocks among those entries that were passed are listed.
use Rattle.std.proofs.Common.{◌≡◌, ◌+◌, ◌<◌, ◌≤◌, ◌∙◌, ◌↔◌, ℕ, List, [], ◌∷◌, ◌++◌, Some, arith, refl, sym, ap, subst, inl, inr}
use Rattle.std.specs.Prelude.{Contains}
use Rattle.std.proofs.lemmas.List.Elements.{Contains-append_cases, Contains-append_left, Contains-append_right}
use Rattle.draid_names.specs.declared.pointer.Pointer.{Pointer}
use Rattle.draid_machine.specs.declared.names.Stage.TheVariants.{Live}
use Rattle.draid_entries.specs.declared.entry.Entry.{Entry}
use Rattle.draid_entries.specs.declared.entries.Entries.{Entries}
use Rattle.draid_entries.specs.Entries.{entry_at}
use Rattle.draid_entries.specs.Listed.{AscendFrom}
use Rattle.draid_entries.specs.Maps.{staged}
use Rattle.draid_shard.proofs.Among.{has_behind, has_cases, has_first, has_nothing}
use Rattle.draid_shard.proofs.Passing.{NoneBetween, NoneFrom, all_passed, next_cases}

-- a live block that begins before a stripe
pub record IsLiveBelow (t : Entries) (stripe : ℕ) (p : Pointer) : Type 0 where
  pub there : entry_at t p.first ≡ Some (staged Live p)
  pub low : p.first < stripe

-- the list has just these, ascending by first stripe
pub record ListsBelow (t : Entries) (stripe : ℕ) (blocks : List Pointer) : Type 0 where
  pub live : (p : Pointer) → Contains blocks p ↔ IsLiveBelow t stripe p
  pub ascending : AscendFrom 0 blocks

-- one more behind those that ascend
ascend_more : (low : ℕ) (blocks : List Pointer) (p : Pointer) → AscendFrom low blocks → ((b : Pointer) → Contains blocks b → b.first < p.first) → low ≤ p.first → AscendFrom low (blocks ++ p ∷ [])
ascend_more low [] p up before from = (from, tt)
ascend_more low (b ∷ blocks) p up before from = (
  up.0,
  ascend_more (b.first + 1) blocks p up.1 (λ c among. before c (has_behind b blocks c among)) (let less = before b (has_first b blocks b refl) in omega (arith, less)),
)

module _ (t : Entries) where
  module _ (stripe : ℕ) (blocks : List Pointer) (e : Entry) (was : ListsBelow t stripe blocks) (there : entry_at t e.pointer.first ≡ Some e) (from : stripe ≤ e.pointer.first)
      (empty : NoneBetween t stripe e.pointer.first) where
    further : (p : Pointer) → Contains blocks p → IsLiveBelow t (e.pointer.first + 1) p
    further p among = let is = (was.live p).0 among in let low = is.low in record { there = is.there; low = omega (arith, low, from) }

    same : (e.stage ≡ Live → ⊥) → ListsBelow t (e.pointer.first + 1) blocks
    same other = record {
      live = λ p. (
        further p,
        λ is. elim (next_cases t stripe e (staged Live p) empty there is.there is.low) [
          | inl here ↦ absurd (other (ap (λ (x : Entry). x.stage) (sym here)))
          | inr before ↦ (was.live p).1 (record { there = is.there; low = before })
        ],
      );
      ascending = was.ascending;
    }

    more : e.stage ≡ Live → ListsBelow t (e.pointer.first + 1) (blocks ++ e.pointer ∷ [])
    more live = record {
      live = λ p. (
        (λ among. elim (Contains-append_cases blocks (e.pointer ∷ []) p among) [
          | inl old ↦ further p old
          | inr last ↦ elim (has_cases e.pointer [] p last) [ inl same ↦ subst (IsLiveBelow t (e.pointer.first + 1)) same own | inr none ↦ absurd (has_nothing p none) ]
        ]),
        (λ is. elim (next_cases t stripe e (staged Live p) empty there is.there is.low) [
          | inl same ↦ Contains-append_right blocks (e.pointer ∷ []) p (has_first e.pointer [] p (ap (λ (x : Entry). x.pointer) (sym same)))
          | inr before ↦ Contains-append_left blocks (e.pointer ∷ []) p ((was.live p).1 (record { there = is.there; low = before }))
        ]),
      );
      ascending = ascend_more 0 blocks e.pointer was.ascending (λ b among. (let low = ((was.live b).0 among).low in omega (arith, low, from))) (omega arith);
    } where
      own : IsLiveBelow t (e.pointer.first + 1) e.pointer
      own = record { there = there ∙ ap (λ s. Some (staged s e.pointer)) live; low = omega arith }

    -- the next list
    pub lists_same : (new : List Pointer) → new ≡ blocks → (e.stage ≡ Live → ⊥) → ListsBelow t (e.pointer.first + 1) new
    lists_same new is other = subst (ListsBelow t (e.pointer.first + 1)) (sym is) (same other)

    pub lists_more : (new : List Pointer) → new ≡ blocks ++ e.pointer ∷ [] → e.stage ≡ Live → ListsBelow t (e.pointer.first + 1) new
    lists_more new is live = subst (ListsBelow t (e.pointer.first + 1)) (sym is) (more live)

  -- before the first stripe there is nothing
  pub lists_none : (blocks : List Pointer) → blocks ≡ [] → ListsBelow t 0 blocks
  lists_none blocks is = subst (ListsBelow t 0) (sym is) (record { live = λ p. ((λ among. absurd (has_nothing p among)), (λ below. let low = below.low in absurd (omega (arith, low)))); ascending = tt })

  -- all were passed
  pub lists_live : (stripe : ℕ) (blocks : List Pointer) → ListsBelow t stripe blocks → NoneFrom t stripe → (p : Pointer) → Contains blocks p ↔ (entry_at t p.first ≡ Some (staged Live p))
  lists_live stripe blocks was none p =
      ((λ among. ((was.live p).0 among).there), (λ there. (was.live p).1 (record { there = there; low = all_passed t stripe (staged Live p) none there })))
