-- Jobs that were run on their seats.
use Rattle.std.proofs.Common.{◌≡◌, ◌∙◌, ◌∷◌, ◌++◌, ◌<◌, ◌+◌, ◌-◌, arith, ℕ, zero, suc, List, [], Some, All, drop, get_or, take, length, slice_index_or, sym, ap, subst, refl}
use Rattle.std.specs.Prelude.{slice_get}
use Rattle.std.proofs.lemmas.List.Elements.{All-cons, All-nil}
use Rattle.std.proofs.lemmas.Option.{slice_get-get_or, slice_get_within}
use Rattle.draid_spec.specs.declared.layout.Geometry.{Geometry}
use Rattle.draid_turn.specs.Calls.{Caller, Lock}
use Rattle.draid_turn.specs.declared.past.Past.{Past}
use Rattle.draid_pool.specs.declared.cell.Cell.{Cell}
use Rattle.draid_pool.proofs.Lists.{present, some_of}
use Rattle.draid_lanes.specs.Jobs.{EachHasRun, HasRun, MayRun}
use Rattle.draid_lanes.specs.declared.jobs.Seat.{Seat}
use Rattle.draid_lanes.specs.declared.lane.Lane.{Lane}
use Rattle.draid_lanes.specs.declared.running.InLane.{InLane}
use Rattle.draid_lanes.specs.declared.uber.UberCell.{UberCell}
use Rattle.draid_section.specs.declared.seats.Shares.{Shares}
use Rattle.draid_section.specs.Running.{AreEven, HasShare, IsOver, JobRan, JobsRan, MayRunEach}
use Rattle.draid_section.specs.Seating.{AreAt, AreSeated, AreTaken}

-- what is so of each element is so of all
pub all_each : {X : Type 0} (P : X → Type 0) (xs : List X) → ((k : ℕ) (x : X) → slice_get xs k ≡ Some x → P x) → All P xs
all_each P [] each = All-nil P
all_each P (x ∷ xs) each = All-cons P x xs (each 0 x refl) (all_each P xs (λ k y is. each (suc k) y is))

same_place : (i j k n : ℕ) → i + k + 1 ≡ n → j + k + 1 ≡ n → i ≡ j
same_place i j k n a b = omega (arith, a, b)

module _ {R A G W J : Type 0} (needs : J → Lane R A G W → Type 0) (relates : J → Lane R A G W → J → Lane R A G W → Type 0) (locks : List (Lock (Cell R A))) (uber : Lock (UberCell R A)) (geometry : Geometry) (old : Shares R A J) (passes : List (Caller (Past (UberCell R A))))
    (seats : List (Seat (Lane R A G W) (InLane J))) (seated : AreSeated old passes seats) (at : AreAt locks uber geometry seats) where
  -- the lane on a seat, as it begins
  record Begins (k i : ℕ) (seat : Seat (Lane R A G W) (InLane J)) : Type 0 where
    pub lane : Lane R A G W
    pub there : seat.lane ≡ Some lane
    pub over : IsOver locks uber geometry lane
    pub has : HasShare old passes i seat.job.job lane
    pub number : lane.metaslabs.lane ≡ i

  begins : (k i : ℕ) (seat : Seat (Lane R A G W) (InLane J)) → slice_get seats k ≡ Some seat → i + k + 1 ≡ length seats → Begins k i seat
  begins k i seat is place =
      let s = seated.each k seat is in
      let a = at k seat is in
      let same : a.2.lane ≡ s.2.lane = some_of seat.lane a.2.lane s.2.lane a.2.there s.2.there in
      record {
        lane = s.2.lane;
        there = s.2.there;
        over = subst (IsOver locks uber geometry) same a.2.over;
        has = subst (λ n. HasShare old passes n seat.job.job s.2.lane) (same_place s.0 i k (length seats) s.1 place) s.2.has;
        number = sym (ap (λ (l : Lane R A G W). l.metaslabs.lane) same) ∙ (a.2.number_is ∙ same_place a.0 i k (length seats) a.1 place);
      }

  pub may_run : MayRunEach needs locks uber geometry old passes → All (MayRun (λ (j : InLane J) lane. needs j.job lane)) seats
  may_run may = all_each (MayRun (λ (j : InLane J) lane. needs j.job lane)) seats (λ k seat is.
      let s = seated.each k seat is in
      let b = begins k s.0 seat is s.1 in
      record { lane = b.lane; there = b.there; needed = may s.0 seat.job.job b.lane (record { over = b.over; has = b.has; number = b.number }) })

  module _ (after : List (Seat (Lane R A G W) (InLane J))) (many : length after ≡ length seats) (ran : EachHasRun (λ (j : InLane J) lane (k : InLane J) next. relates j.job lane k.job next) seats after) where
    -- a seat behind its job
    has_run : (k : ℕ) (seat then_seat : Seat (Lane R A G W) (InLane J)) → slice_get seats k ≡ Some seat → slice_get after k ≡ Some then_seat → HasRun (λ (j : InLane J) lane (k : InLane J) next. relates j.job lane k.job next) seat then_seat
    has_run k seat then_seat is now =
        let inside = slice_get_within seats k seat is in
        let was : slice_index_or seats k seat ≡ seat = some_of (slice_get seats k) (get_or seats k seat) seat (slice_get-get_or seats k seat inside) is in
        let then_is : slice_index_or after k seat ≡ then_seat = some_of (slice_get after k) (get_or after k seat) then_seat (slice_get-get_or after k seat (omega (arith, inside, many))) now in
        subst (λ s. HasRun (λ (j : InLane J) lane (k : InLane J) next. relates j.job lane k.job next) s then_seat) was
        (subst (λ s. HasRun (λ (j : InLane J) lane (k : InLane J) next. relates j.job lane k.job next) (slice_index_or seats k seat) s) then_is (ran k seat inside))

    pub taken_after : AreTaken after
    taken_after k then_seat now =
        let inside = slice_get_within after k then_seat now in
        let seat = present seats k (omega (arith, inside, many)) in
        let r = has_run k seat.0 then_seat seat.1 now in (r.next, r.is)

    pub jobs_ran : (new : Shares R A J) (nexts : List (Caller (Past (UberCell R A)))) → AreEven new nexts → AreSeated new nexts after → JobsRan relates locks uber geometry old new passes nexts
    jobs_ran new nexts even then_seated = record {
      even = even;
      many = sym then_seated.many ∙ (many ∙ seated.many);
      each = λ i lt. each i lt;
    }
      where
        each : (i : ℕ) → i < length old.passes.items → JobRan relates locks uber geometry old new passes nexts i
        each i lt =
            let as_many = seated.many in
            let k = length seats - 1 - i in
            let place : i + (length seats - 1 - i) + 1 ≡ length seats = omega (arith, lt, as_many) in
            let seat = present seats k (omega (arith, lt, as_many)) in
            let then_seat = present after k (omega (arith, lt, as_many, many)) in
            let b = begins k i seat.0 seat.1 place in
            let r = has_run k seat.0 then_seat.0 seat.1 then_seat.1 in
            let s = then_seated.each k then_seat.0 then_seat.1 in
            let lane_is : r.lane ≡ b.lane = some_of seat.0.lane r.lane b.lane r.was b.there in
            let next_is : s.2.lane ≡ r.next = some_of then_seat.0.lane s.2.lane r.next s.2.there r.is in
            record {
              job = seat.0.job.job;
              lane = b.lane;
              done = then_seat.0.job.job;
              next = r.next;
              over = b.over;
              begun = b.has;
              number = b.number;
              related = subst (λ l. relates seat.0.job.job l then_seat.0.job.job r.next) lane_is r.related;
              ended = subst (λ l. HasShare new nexts i then_seat.0.job.job l) next_is
                  (subst (λ n. HasShare new nexts n then_seat.0.job.job s.2.lane) (same_place s.0 i k (length seats) (s.1 ∙ many) place) s.2.has);
            }

-- a list that was lent and came back whole
pub back_whole : {X : Type 0} (n : ℕ) (xs ys : List X) → length ys ≡ length xs → n ≡ length xs → take n (ys ++ drop (length ys) xs) ≡ ys
back_whole zero [] [] same is = refl
back_whole (suc n) [] [] same is = absurd (omega (arith, is))
back_whole n [] (y ∷ ys) same is = absurd (omega (arith, same))
back_whole n (x ∷ xs) [] same is = absurd (omega (arith, same))
back_whole zero (x ∷ xs) (y ∷ ys) same is = absurd (omega (arith, is))
back_whole (suc n) (x ∷ xs) (y ∷ ys) same is = ap (λ l. y ∷ l) (back_whole n xs ys (omega (arith, same)) (omega (arith, is)))
