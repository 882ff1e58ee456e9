-- Jobs that are made of lanes' lines, one after another, and what is taken of jobs that ran.
use Rattle.std.proofs.Common.{◌≡◌, ◌∙◌, ◌++◌, ◌∷◌, ◌<◌, ◌≤◌, ◌+◌, ◌⊎◌, inl, inr, ⊎_elim, arith, ℕ, zero, suc, List, [], Some, length, length-append, map, refl, sym, ap, subst}
use Rattle.std.specs.Prelude.{slice_get}
use Rattle.std.specs.declared.vec.Vec.{Vec}
use Rattle.std.specs.declared.alloc.Global.{Global}
use Rattle.std.proofs.lemmas.List.{append_assoc, append-nil, map_push}
use Rattle.draid_script.specs.declared.line.Line.{Line}
use Rattle.draid_works.specs.declared.job.LaneCommands.{LaneCommands}
use Rattle.draid_program.specs.Jobs.{AreJobsOf, IsJobOf, told_of}
use Rattle.draid_print.specs.declared.printing.LaneReplies.{LaneReplies}

pub none_left : {X : Type 0} (xs : List X) → length xs ≡ 0 → xs ≡ []
none_left [] e = refl
none_left (x ∷ xs) e = absurd (omega (arith, e))

at_push : {X : Type 0} (xs : List X) (x y : X) (i : ℕ) → slice_get (xs ++ x ∷ []) i ≡ Some y → (slice_get xs i ≡ Some y) ⊎ ((i ≡ length xs) × (x ≡ y))
at_push [] x y zero is = inr (refl, cc)
at_push [] x y (suc i) is = absurd (cc)
at_push (z ∷ xs) x y zero is = inl is
at_push (z ∷ xs) x y (suc i) is = ⊎_elim (λ (t : slice_get xs i ≡ Some y). inl t) (λ (t : (i ≡ length xs) × (x ≡ y)). inr (ap suc t.0, t.1)) (at_push xs x y i is)

at_end : {X : Type 0} (xs : List X) (x y : X) (i : ℕ) → i ≡ length xs → slice_get (xs ++ x ∷ []) i ≡ Some y → x ≡ y
at_end [] x y zero is at = cc
at_end [] x y (suc i) is at = absurd (cc)
at_end (z ∷ xs) x y zero is at = absurd (omega (arith, is))
at_end (z ∷ xs) x y (suc i) is at = at_end xs x y i (omega (arith, is)) at

not_behind : {X : Type 0} (xs : List X) (y : X) (i : ℕ) → i ≡ length xs → slice_get xs i ≡ Some y → ⊥
not_behind [] y i is at = (cc)
not_behind (z ∷ xs) y zero is at = omega (arith, is)
not_behind (z ∷ xs) y (suc i) is at = not_behind xs y i (omega (arith, is)) at

-- room for what is left
module _ {X : Type 0} (left rest : List X) (x : X) (len capacity : ℕ) (room : len + length left ≤ capacity) (is : left ≡ x ∷ rest) where
  pub room_for : len < capacity
  room_for = (let long : length left ≡ length (x ∷ rest) = ap length is in omega (arith, room, long))

  pub room_still : (len' capacity' : ℕ) → len' ≡ len + 1 → capacity' ≡ capacity → len' + length rest ≤ capacity'
  room_still len' capacity' up same = (let long : length left ≡ length (x ∷ rest) = ap length is in omega (arith, room, long, up, same))

-- those in front have their jobs, and those that are left have none yet
pub record Making {F : Type 0} (chooser : F) (all left : List (Vec Line Global)) (jobs : List (LaneCommands F)) : Type 0 where
  pub front : List (Vec Line Global)
  pub is : all ≡ front ++ left
  pub are : AreJobsOf chooser front jobs

module _ {F : Type 0} (chooser : F) where
  none_made : (jobs : List (LaneCommands F)) → jobs ≡ [] → AreJobsOf chooser [] jobs
  none_made jobs none = record { many = ap length none; each = λ i lines job there job_is. absurd (cc) }

  pub making_none : (all left : List (Vec Line Global)) (jobs : List (LaneCommands F)) → left ≡ all → jobs ≡ [] → Making chooser all left jobs
  making_none all left jobs is none = record { front = []; is = sym is; are = none_made jobs none }

  made_more : (front : List (Vec Line Global)) (jobs : List (LaneCommands F)) (lines : Vec Line Global) (job : LaneCommands F) → AreJobsOf chooser front jobs → IsJobOf chooser lines job → AreJobsOf chooser (front ++ lines ∷ []) (jobs ++ job ∷ [])
  made_more front jobs lines job are also = record {
    many = length-append jobs (job ∷ []) ∙ ap (λ n. n + 1) are.many ∙ sym (length-append front (lines ∷ []));
    each = each;
  }
    where
      each : (i : ℕ) (ls : Vec Line Global) (j : LaneCommands F) → slice_get (front ++ lines ∷ []) i ≡ Some ls → slice_get (jobs ++ job ∷ []) i ≡ Some j → IsJobOf chooser ls j
      each i ls j there job_is =
          ⊎_elim
          (λ (a : slice_get front i ≡ Some ls).
          ⊎_elim (λ (b : slice_get jobs i ≡ Some j). are.each i ls j a b) (λ (b : (i ≡ length jobs) × (job ≡ j)). absurd (not_behind front ls i (b.0 ∙ are.many) a)) (at_push jobs job j i job_is))
          (λ (a : (i ≡ length front) × (lines ≡ ls)). subst (λ (l : Vec Line Global). IsJobOf chooser l j) a.1 (subst (IsJobOf chooser lines) (at_end jobs job j i (a.0 ∙ sym are.many) job_is) also))
          (at_push front lines ls i there)

  pub making_more : (all left rest : List (Vec Line Global)) (lines : Vec Line Global) (jobs jobs' : List (LaneCommands F)) (job : LaneCommands F) → Making chooser all left jobs → left ≡ lines ∷ rest → IsJobOf chooser lines job → jobs' ≡ jobs ++ job ∷ [] → Making chooser all rest jobs'
  making_more all left rest lines jobs jobs' job m is also more = record {
    front = m.front ++ lines ∷ [];
    is = m.is ∙ ap (λ (l : List (Vec Line Global)). m.front ++ l) is ∙ sym (append_assoc m.front (lines ∷ []) rest);
    are = subst (AreJobsOf chooser (m.front ++ lines ∷ [])) (sym more) (made_more m.front jobs lines job m.are also);
  }

  pub all_made : (all left : List (Vec Line Global)) (jobs : List (LaneCommands F)) → Making chooser all left jobs → left ≡ [] → AreJobsOf chooser all jobs
  all_made all left jobs m none = subst (λ (ls : List (Vec Line Global)). AreJobsOf chooser ls jobs) (sym (m.is ∙ ap (λ (l : List (Vec Line Global)). m.front ++ l) none ∙ append-nil m.front)) m.are

-- what those in front replied is taken, and that of those that are left is not yet
pub record Telling {F : Type 0} (all left : List (LaneCommands F)) (ran : List LaneReplies) : Type 0 where
  pub front : List (LaneCommands F)
  pub is : all ≡ front ++ left
  pub told : ran ≡ map told_of front

module _ {F : Type 0} where
  pub telling_none : (all left : List (LaneCommands F)) (ran : List LaneReplies) → left ≡ all → ran ≡ [] → Telling all left ran
  telling_none all left ran is none = record { front = []; is = sym is; told = none }

  pub telling_more : (all left rest : List (LaneCommands F)) (job : LaneCommands F) (ran ran' : List LaneReplies) → Telling all left ran → left ≡ job ∷ rest → ran' ≡ ran ++ told_of job ∷ [] → Telling all rest ran'
  telling_more all left rest job ran ran' t is more = record {
    front = t.front ++ job ∷ [];
    is = t.is ∙ ap (λ (l : List (LaneCommands F)). t.front ++ l) is ∙ sym (append_assoc t.front (job ∷ []) rest);
    told = more ∙ ap (λ (rs : List LaneReplies). rs ++ told_of job ∷ []) t.told ∙ sym (map_push told_of t.front job);
  }

  pub all_told : (all left : List (LaneCommands F)) (ran : List LaneReplies) → Telling all left ran → left ≡ [] → ran ≡ map told_of all
  all_told all left ran t none = t.told ∙ ap (map told_of) (sym (t.is ∙ ap (λ (l : List (LaneCommands F)). t.front ++ l) none ∙ append-nil t.front))
