-- Replies of a lane to lines one after another.
use Rattle.std.proofs.Common.{◌≡◌, ◌∙◌, ◌++◌, ◌∷◌, ◌+◌, ◌⊎◌, inl, inr, ℕ, zero, suc, true, false, List, [], Option, Some, Ok, Err, length, take, ap, arith, refl, subst, sym, ⊎_elim}
use Rattle.std.specs.Prelude.{slice_get}
use Rattle.draid_names.specs.declared.fault.Failed.{Failed}
use Rattle.draid_rack.specs.declared.Rack as racks
use Rattle.draid_area.specs.declared.Area as areas
use Rattle.draid_script.specs.Line.{command_in}
use Rattle.draid_script.specs.declared.line.Line.{Line}
use Rattle.draid_reply.specs.declared.reply.Reply.{Reply}
use Rattle.draid_session.specs.Choices.{Choices}
use Rattle.draid_session.specs.Replies.{IsReplyTo}
use Rattle.draid_lanes.specs.declared.lane.Lane.{Lane}
use Rattle.draid_works.specs.Job.{AreRepliesTo, CommandsDone, LeavesWhole}
use Rattle.draid_works.specs.Replied.{CommandDone}
use Rattle.draid_works.proofs.FilledIn.{same_then}

pub leaves_then : {R A G W : Type 0} (rack : racks.Ghosts R) (area : areas.Ghosts A) (old mid new : Lane R A G W) → LeavesWhole rack area old mid → LeavesWhole rack area mid new → LeavesWhole rack area old new
leaves_then rack area old mid new first then_ = record { whole = then_.whole; same = same_then old mid new first.same then_.same; numbers = then_.numbers ∙ first.numbers }

at_push : {X : Type 0} (xs : List X) (x y : X) (i : ℕ) → slice_get (xs ++ x ∷ []) i ≡ Some y → (slice_get xs i ≡ Some y) ⊎ ((i ≡ length xs) × (x ≡ y))
at_push [] x y zero is = inr (refl, cc)
at_push [] x y (suc i) is = absurd (cc)
at_push (z ∷ xs) x y zero is = inl is
at_push (z ∷ xs) x y (suc i) is = ⊎_elim (λ (t : slice_get xs i ≡ Some y). inl t) (λ (t : (i ≡ length xs) × (x ≡ y)). inr (ap suc t.0, t.1)) (at_push xs x y i is)

same_line : (o : Option Line) (x y : Line) → o ≡ Some x → o ≡ Some y → x ≡ y
same_line o x y a b = (let h = sym a ∙ b in cc)

-- a further line has its reply
pub replied_more : (lines : List Line) (replies replies' : List Reply) (at : ℕ) (line : Line) (reply : Reply) → AreRepliesTo lines replies → length replies ≡ at → slice_get lines at ≡ Some line → IsReplyTo (command_in line) reply → replies' ≡ replies ++ reply ∷ []
    → AreRepliesTo lines replies'
replied_more lines replies replies' at line reply fits many there fit more i other said is_line is_reply =
    let last : slice_get (replies ++ reply ∷ []) i ≡ Some said = ap (λ rs. slice_get rs i) (sym more) ∙ is_reply in
    ⊎_elim (λ (t : slice_get replies i ≡ Some said). fits i other said is_line t)
    (λ (t : (i ≡ length replies) × (reply ≡ said)).
    let here : slice_get lines i ≡ Some line = ap (slice_get lines) (t.0 ∙ many) ∙ there in
    let same : line ≡ other = same_line (slice_get lines i) line other here is_line in
    subst (λ l. IsReplyTo (command_in l) said) same (subst (λ r. IsReplyTo (command_in line) r) t.1 fit))
    (at_push replies reply said i last)

-- ---- what the lines did

take_next : {X : Type 0} (xs : List X) (i : ℕ) (x : X) → slice_get xs i ≡ Some x → take (suc i) xs ≡ take i xs ++ x ∷ []
take_next [] i x is = absurd (cc)
take_next (y ∷ xs) zero x is = (let same : y ≡ x = cc in ap (λ z. z ∷ []) same)
take_next (y ∷ xs) (suc i) x is = ap (λ front. y ∷ front) (take_next xs i x is)

take_rest : {X : Type 0} (xs : List X) (i : ℕ) (x : X) → slice_get xs i ≡ Some x → (rest : List X) × (take i xs ++ x ∷ rest ≡ xs)
take_rest [] i x is = absurd (cc)
take_rest (y ∷ xs) zero x is = (let same : x ≡ y = cc in (xs, ap (λ z. z ∷ xs) same))
take_rest (y ∷ xs) (suc i) x is = (let r = take_rest xs i x is in (r.0, ap (λ front. y ∷ front) r.1))

take_whole : {X : Type 0} (xs : List X) → take (length xs) xs ≡ xs
take_whole [] = refl
take_whole (x ∷ xs) = ap (λ front. x ∷ front) (take_whole xs)

module _ {R A G W : Type 0} (rack : racks.Ghosts R) (area : areas.Ghosts A) (choices : Choices) where
  -- one command more has its reply
  more_done : (lines : List Line) (replies : List Reply) (line : Line) (reply : Reply) (old mid new : Lane R A G W) → CommandsDone rack area choices lines replies false old mid → LeavesWhole rack area mid new → CommandDone rack area choices (command_in line) (Ok reply) mid new
      → CommandsDone rack area choices (lines ++ line ∷ []) (replies ++ reply ∷ []) false old new
  more_done [] [] line reply old mid new before leaves did =
      (new, subst (λ (l : Lane R A G W). LeavesWhole rack area l new) before leaves, subst (λ (l : Lane R A G W). CommandDone rack area choices (command_in line) (Ok reply) l new) before did, refl)
  more_done [] (r ∷ replies) line reply old mid new before leaves did = absurd before
  more_done (l ∷ lines) [] line reply old mid new before leaves did = absurd before
  more_done (l ∷ lines) (r ∷ replies) line reply old mid new before leaves did = (before.0, before.1, before.2, more_done lines replies line reply before.0 mid new before.3 leaves did)

  -- or an area failed it
  last_failed : (lines : List Line) (replies : List Reply) (line : Line) (rest : List Line) (failed : Failed) (old mid new : Lane R A G W) → CommandsDone rack area choices lines replies false old mid → LeavesWhole rack area mid new
      → CommandDone rack area choices (command_in line) (Err failed) mid new → CommandsDone rack area choices (lines ++ line ∷ rest) replies true old new
  last_failed [] [] line rest failed old mid new before leaves did =
      (failed, subst (λ (l : Lane R A G W). LeavesWhole rack area l new) before leaves, subst (λ (l : Lane R A G W). CommandDone rack area choices (command_in line) (Err failed) l new) before did)
  last_failed [] (r ∷ replies) line rest failed old mid new before leaves did = absurd before
  last_failed (l ∷ lines) [] line rest failed old mid new before leaves did = absurd before
  last_failed (l ∷ lines) (r ∷ replies) line rest failed old mid new before leaves did = (before.0, before.1, before.2, last_failed lines replies line rest failed before.0 mid new before.3 leaves did)

  module _ (lines : List Line) (replies : List Reply) (old mid : Lane R A G W) where
    pub done_none : replies ≡ [] → CommandsDone rack area choices (take 0 lines) replies false old old
    done_none none = subst (λ rs. CommandsDone rack area choices [] rs false old old) (sym none) refl

    -- the lines so far were done, and one more
    pub done_more : (i : ℕ) (line : Line) (reply : Reply) (replies' : List Reply) (new : Lane R A G W) → CommandsDone rack area choices (take i lines) replies false old mid → slice_get lines i ≡ Some line → LeavesWhole rack area mid new
        → CommandDone rack area choices (command_in line) (Ok reply) mid new → replies' ≡ replies ++ reply ∷ [] → CommandsDone rack area choices (take (i + 1) lines) replies' false old new
    done_more i line reply replies' new before there leaves did more =
        let next : suc i ≡ i + 1 = omega arith in
        subst (λ n. CommandsDone rack area choices (take n lines) replies' false old new) next
        (subst (λ ls. CommandsDone rack area choices ls replies' false old new) (sym (take_next lines i line there))
        (subst (λ rs. CommandsDone rack area choices (take i lines ++ line ∷ []) rs false old new) (sym more) (more_done (take i lines) replies line reply old mid new before leaves did)))

    -- or one more that an area failed
    pub done_failed : (i : ℕ) (line : Line) (failed : Failed) (new : Lane R A G W) → CommandsDone rack area choices (take i lines) replies false old mid → slice_get lines i ≡ Some line → LeavesWhole rack area mid new
        → CommandDone rack area choices (command_in line) (Err failed) mid new → CommandsDone rack area choices lines replies true old new
    done_failed i line failed new before there leaves did =
        let r = take_rest lines i line there in
        subst (λ ls. CommandsDone rack area choices ls replies true old new) r.1 (last_failed (take i lines) replies line r.0 failed old mid new before leaves did)

    -- or all of them
    pub done_all : (i : ℕ) → i ≡ length lines → CommandsDone rack area choices (take i lines) replies false old mid → CommandsDone rack area choices lines replies false old mid
    done_all i all before = subst (λ ls. CommandsDone rack area choices ls replies false old mid) (ap (λ n. take n lines) all ∙ take_whole lines) before
