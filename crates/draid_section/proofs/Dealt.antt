-- What lanes know of the passes that they were dealt; and that all numbers are held behind them.
use Rattle.std.proofs.Common.{◌≡◌, ◌∙◌, ◌<◌, ◌≤◌, ◌+◌, arith, ℕ, suc, Bool, true, false, List, [], ◌∷◌, Some, length, sym, ap, refl}
use Rattle.std.specs.Prelude.{slice_get}
use Rattle.std.specs.declared.vec.Vec.{Vec}
use Rattle.std.specs.declared.alloc.Global.{Global}
use Rattle.std.proofs.lemmas.List.Sums.{sum_by-cons}
use Rattle.std.proofs.lemmas.Option.{slice_get_within}
use Rattle.draid_rack.specs.declared.Rack as racks
use Rattle.draid_shard.specs.Fits.{Valid}
use Rattle.draid_turn.specs.Calls.{Caller, Lock, newcomer}
use Rattle.draid_turn.specs.Lists.{one_if}
use Rattle.draid_turn.specs.Numbers.{holds, number_limit}
use Rattle.draid_turn.specs.declared.past.Past.{Past}
use Rattle.draid_turn.specs.declared.span.Span.{Span}
use Rattle.draid_holds.specs.Passes.{holders, shares}
use Rattle.draid_pool.specs.declared.cell.Cell.{Cell}
use Rattle.draid_pool.proofs.Lists.{present, some_of}
use Rattle.draid_lanes.specs.Locks.{AreOf, owned_by}
use Rattle.draid_section.specs.Opening.{AreDealt, BelongTo, IsDealt, passes_at, with_pass}
use Rattle.draid_lanes.proofs.Held.{owned_at}
use Rattle.draid_lanes.proofs.SyncUnder.{owned_all, owned_none}

less_if : (a b : Bool) → (a ≡ true → b ≡ true) → one_if a ≤ one_if b
less_if true b h = (let is : one_if b ≡ 1 = ap one_if (h refl) in omega (arith, is))
less_if false b h = omega arith

by_case : {P : Type 0} (b : Bool) → (b ≡ true → P) → (b ≡ false → P) → P
by_case true p q = p refl
by_case false p q = q refl

module _ {R A : Type 0} where
  pub belongs : (rack : racks.Ghosts R) (locks : List (Lock (Cell R A))) (passes : List (Caller (Past (Cell R A)))) → AreOf rack locks passes → BelongTo locks passes
  belongs rack locks passes r = record { many = r.many; each = r.each }

  module _ (locks : List (Lock (Cell R A))) (numbers : List Span) (passes : List (Caller (Past (Cell R A)))) (r : IsDealt locks numbers passes) where
    pub dealt_at : (m : ℕ) (pass : Caller (Past (Cell R A))) → slice_get passes m ≡ Some pass → (lock : Lock (Cell R A)) × (slice_get locks m ≡ Some lock) × (newcomer lock.table [] numbers ≡ pass)
    dealt_at m pass is =
        let within = slice_get_within passes m pass is in
        let many = r.many in
        let lock = present locks m (omega (arith, within, many)) in
        (lock.0, lock.1, some_of (slice_get passes m) (newcomer lock.0.table [] numbers) pass (r.each m lock.0 lock.1) is)

    pub dealt_belongs : BelongTo locks passes
    dealt_belongs = record {
      many = r.many;
      each = λ m lock pass l p. (let z = dealt_at m pass p in sym (ap (λ (c : Caller (Past (Cell R A))). c.table) z.2) ∙ ap (λ (k : Lock (Cell R A)). k.table) (some_of (slice_get locks m) z.0 lock z.1 l));
    }

    pub dealt_fits : (rack : racks.Ghosts R) → ((m : ℕ) (lock : Lock (Cell R A)) → slice_get locks m ≡ Some lock → Valid rack lock.first.shard) → AreOf rack locks passes
    dealt_fits rack valid = (let b = dealt_belongs in record { many = b.many; each = b.each; valid = valid })

    -- a lane owns just the numbers of its list
    pub dealt_owns : 0 < length locks → (n : ℕ) → owned_by passes n ≡ holds n numbers
    dealt_owns some n = by_case (holds n numbers)
        (λ is_in. owned_all passes n (λ m p is. ap (λ (c : Caller (Past (Cell R A))). holds n c.numbers) (sym (dealt_at m p is).2) ∙ is_in) ∙ sym is_in)
        (λ out. owned_none passes n (let many = r.many in omega (arith, some, many)) (λ m p is. ap (λ (c : Caller (Past (Cell R A))). holds n c.numbers) (sym (dealt_at m p is).2) ∙ out) ∙ sym out)

  -- a lane has a pass of each of so many metaslabs, and owns what stands in its list
  pub record StillOwns (metaslabs : ℕ) (list : Vec Span Global) (lane : Vec (Caller (Past (Cell R A))) Global) : Type 0 where
    pub many : length lane.items ≡ metaslabs
    pub owns : (n : ℕ) → holds n list.items ≡ true → owned_by lane.items n ≡ true

  held_still : (metaslabs m n : ℕ) (lists : List (Vec Span Global)) (lanes : List (Vec (Caller (Past (Cell R A))) Global)) → m < metaslabs → length lanes ≡ length lists
      → ((i : ℕ) (list : Vec Span Global) (lane : Vec (Caller (Past (Cell R A))) Global) → slice_get lists i ≡ Some list → slice_get lanes i ≡ Some lane → StillOwns metaslabs list lane) → shares n lists ≤ holders n (passes_at m lanes)
  held_still metaslabs m n [] lanes lt many each = omega arith
  held_still metaslabs m n (list ∷ lists) [] lt many each = absurd (omega (arith, many))
  held_still metaslabs m n (list ∷ lists) (lane ∷ lanes) lt many each =
      let one = each 0 list lane refl refl in
      let long = one.many in
      let pass = present lane.items m (omega (arith, lt, long)) in
      let rest = held_still metaslabs m n lists lanes lt (omega (arith, many)) (λ i l x a b. each (suc i) l x a b) in
      let mine = sum_by-cons (λ (l : Vec Span Global). one_if (holds n l.items)) list lists in
      let theirs = sum_by-cons (λ (c : Caller (Past (Cell R A))). one_if (holds n c.numbers)) pass.0 (passes_at m lanes) in
      let is : holders n (passes_at m (lane ∷ lanes)) ≡ holders n (pass.0 ∷ passes_at m lanes) = ap (λ o. holders n (with_pass o (passes_at m lanes))) pass.1 in
      let less = less_if (holds n list.items) (holds n pass.0.numbers) (λ h. owned_at lane.items m n pass.0 pass.1 (one.owns n h)) in
      omega (arith, rest, mine, theirs, is, less)

  -- where each lane still owns what it was dealt, all numbers are held
  pub all_still : (locks : List (Lock (Cell R A))) (lists : List (Vec Span Global)) (dealt lanes : List (Vec (Caller (Past (Cell R A))) Global)) (firsts : List (Caller (Past (Cell R A)))) → AreDealt locks lists dealt firsts → length lanes ≡ length lists
      → ((i : ℕ) (list : Vec Span Global) (lane : Vec (Caller (Past (Cell R A))) Global) → slice_get lists i ≡ Some list → slice_get lanes i ≡ Some lane → StillOwns (length locks) list lane)
      → (m : ℕ) (first : Caller (Past (Cell R A))) → slice_get firsts m ≡ Some first → (n : ℕ) → n < number_limit → 1 ≤ one_if (holds n first.numbers) + holders n (passes_at m lanes)
  all_still locks lists dealt lanes firsts r many each m first is n below =
      let left = r.left m first is n below in
      let within = slice_get_within firsts m first is in
      let as_many = r.fits.many in
      let still = held_still (length locks) m n lists lanes (omega (arith, within, as_many)) many each in omega (arith, left, still)
