-- Passes that are joined to one, the last one first.
use Rattle.std.proofs.Common.{◌≡◌, ℕ, ◌+◌, ◌≤◌, ◌||◌, true, false, Bool, List, [], ◌∷◌, ◌++◌, sym, refl, ap, ◌∙◌, subst, arith, All}
use Rattle.std.proofs.lemmas.List.{append_assoc, append-nil}
use Rattle.std.proofs.lemmas.List.Elements.{All-cons, All-head, All-nil, All-tail, All-weaker}
use Rattle.std.proofs.lemmas.List.Sums.{sum_by_push}
use Rattle.draid_turn.specs.Calls.{Caller, Follows}
use Rattle.draid_turn.specs.History.{number_of}
use Rattle.draid_turn.specs.Lists.{StartsWith, merge, one_if, one_within, places, times}
use Rattle.draid_turn.specs.Numbers.{holds}
use Rattle.draid_turn.proofs.Ascending.{times_merge, times_places}
use Rattle.draid_turn.specs.declared.past.Past.{Past}
use Rattle.draid_turn.proofs.Beginnings.{starts_further, starts_self}
use Rattle.draid_turn.proofs.Joined.{follows_self, follows_then}
use Rattle.draid_turn.proofs.Spans.{holds_append}
use Rattle.draid_turn.proofs.Sums.{count_push}
use Rattle.draid_holds.specs.Passes.{holders, makers}

-- the numbers of a pass are another's too
abbrev pub Inside : {T : Type 0} → Caller (Past T) → Caller (Past T) → Type 0
Inside {T} pass first = (n : ℕ) → holds n pass.numbers ≡ true → holds n first.numbers ≡ true

-- those that are done were joined to the first pass, and those that are left were not
pub record Joining {T : Type 0} (start : Caller (Past T)) (all left : List (Caller (Past T))) (first : Caller (Past T)) : Type 0 where
  pub done : List (Caller (Past T))
  pub all_are : all ≡ left ++ done
  pub table : first.table ≡ start.table
  pub begins : StartsWith first.seen start.seen
  pub seen : All (λ (pass : Caller (Past T)). StartsWith first.seen pass.seen) done
  pub made : (x : ℕ) → times x first.own + makers x left ≡ times x start.own + makers x all
  pub numbers : (n : ℕ) → 1 ≤ one_if (holds n start.numbers) + holders n all → 1 ≤ one_if (holds n first.numbers) + holders n left
  pub start_inside : Inside start first
  pub inside : All (λ (pass : Caller (Past T)). Inside pass first) done
  pub start_follows : Follows number_of start.numbers first.seen start.seen
  pub follows : All (λ (pass : Caller (Past T)). Follows number_of pass.numbers first.seen pass.seen) done

or_right : (a b : Bool) → b ≡ true → (a || b) ≡ true
or_right true b e = refl
or_right false b e = e

or_one : (a b : Bool) (rest : ℕ) → 1 ≤ one_if a + (rest + one_if b) → 1 ≤ one_if (a || b) + rest
or_one true b rest h = omega arith
or_one false b rest h = omega (arith, h)

pub held_one : (b : Bool) → 1 ≤ one_if b + 0 → b ≡ true
held_one true h = refl
held_one false h = absurd (omega (arith, h))

all_front : {X : Type 0} (P : X → Type 0) (xs ys : List X) → All P (xs ++ ys) → All P xs
all_front P [] ys a = All-nil P
all_front P (x ∷ xs) ys a = All-cons P x xs (All-head P x (xs ++ ys) a) (all_front P xs ys (All-tail P x (xs ++ ys) a))

all_last : {X : Type 0} (P : X → Type 0) (xs : List X) (y : X) → All P (xs ++ y ∷ []) → P y
all_last P [] y a = All-head P y [] a
all_last P (x ∷ xs) y a = all_last P xs y (All-tail P x (xs ++ y ∷ []) a)

module _ {T : Type 0} (start : Caller (Past T)) (all : List (Caller (Past T))) where
  pub joining_start : Joining start all all start
  joining_start = record {
    done = [];
    all_are = sym (append-nil all);
    table = refl;
    begins = starts_self start.seen;
    seen = All-nil (λ (pass : Caller (Past T)). StartsWith start.seen pass.seen);
    made = λ x. refl;
    numbers = λ n h. h;
    start_inside = λ n h. h;
    inside = All-nil (λ (pass : Caller (Past T)). Inside pass start);
    start_follows = follows_self number_of start.numbers start.seen;
    follows = All-nil (λ (pass : Caller (Past T)). Follows number_of pass.numbers start.seen pass.seen);
  }

  -- the next pass is of the same lock
  pub joining_own : (P : Caller (Past T) → Type 0) (left : List (Caller (Past T))) (pass first : Caller (Past T)) → Joining start all (left ++ pass ∷ []) first → All P all → P pass
  joining_own P left pass first r own = all_last P left pass (all_front P (left ++ pass ∷ []) r.done (subst (All P) r.all_are own))

  pub joining_more : (left : List (Caller (Past T))) (pass first first' : Caller (Past T)) → Joining start all (left ++ pass ∷ []) first → first'.table ≡ first.table → StartsWith first'.seen first.seen → StartsWith first'.seen pass.seen
      → first'.own ≡ merge first.own pass.own → first'.numbers ≡ first.numbers ++ pass.numbers → Follows number_of first.numbers first'.seen first.seen → Follows number_of pass.numbers first'.seen pass.seen → Joining start all left first'
  joining_more left pass first first' r table begins other own numbers follows follows_other = record {
    done = pass ∷ r.done;
    all_are = r.all_are ∙ append_assoc left (pass ∷ []) r.done;
    table = table ∙ r.table;
    begins = starts_further start.seen first.seen first'.seen r.begins begins;
    seen = All-cons (λ (p : Caller (Past T)). StartsWith first'.seen p.seen) pass r.done other
        (All-weaker (λ (p : Caller (Past T)). StartsWith first.seen p.seen) (λ (p : Caller (Past T)). StartsWith first'.seen p.seen) (λ p h. starts_further p.seen first.seen first'.seen h begins) r.done r.seen);
    made = λ x.
        let was = r.made x in
        let last = sum_by_push (λ (p : Caller (Past T)). times x p.own) left pass in
        let merged = times_merge x first.own pass.own in
        let now_is : times x first'.own ≡ times x (merge first.own pass.own) = ap (times x) own in omega (arith, was, last, merged, now_is);
    numbers = λ n h.
        let was = r.numbers n h in
        let last = count_push (λ (p : Caller (Past T)). holds n p.numbers) left pass in
        let now_is : one_if (holds n first'.numbers) ≡ one_if (holds n first.numbers || holds n pass.numbers) = ap (λ ns. one_if (holds n ns)) numbers ∙ ap one_if (holds_append n first.numbers pass.numbers) in
        let one = or_one (holds n first.numbers) (holds n pass.numbers) (holders n left) (omega (arith, was, last)) in omega (arith, now_is, one);
    start_inside = λ n h. more n (r.start_inside n h);
    inside = All-cons (λ (p : Caller (Past T)). Inside p first') pass r.done here (All-weaker (λ (p : Caller (Past T)). Inside p first) (λ (p : Caller (Past T)). Inside p first') (λ p h n is. more n (h n is)) r.done r.inside);
    start_follows = follows_then number_of start.numbers first.numbers start.seen first.seen first'.seen r.start_inside r.start_follows follows;
    follows = All-cons (λ (p : Caller (Past T)). Follows number_of p.numbers first'.seen p.seen) pass r.done follows_other (later r.done r.inside r.follows);
  }
    where
      more : Inside first first'
      more n h = ap (holds n) numbers ∙ (holds_append n first.numbers pass.numbers ∙ ap (λ b. b || holds n pass.numbers) h)

      here : Inside pass first'
      here n h = ap (holds n) numbers ∙ (holds_append n first.numbers pass.numbers ∙ or_right (holds n first.numbers) (holds n pass.numbers) h)

      later : (ps : List (Caller (Past T))) → All (λ (p : Caller (Past T)). Inside p first) ps → All (λ (p : Caller (Past T)). Follows number_of p.numbers first.seen p.seen) ps → All (λ (p : Caller (Past T)). Follows number_of p.numbers first'.seen p.seen) ps
      later [] a b = All-nil (λ (p : Caller (Past T)). Follows number_of p.numbers first'.seen p.seen)
      later (p ∷ ps) a b = All-cons (λ (p : Caller (Past T)). Follows number_of p.numbers first'.seen p.seen) p ps
          (follows_then number_of p.numbers first.numbers p.seen first.seen first'.seen (All-head (λ (p : Caller (Past T)). Inside p first) p ps a) (All-head (λ (p : Caller (Past T)). Follows number_of p.numbers first.seen p.seen) p ps b) follows)
          (later ps (All-tail (λ (p : Caller (Past T)). Inside p first) p ps a) (All-tail (λ (p : Caller (Past T)). Follows number_of p.numbers first.seen p.seen) p ps b))

  pub all_seen : (left : List (Caller (Past T))) (first : Caller (Past T)) → Joining start all left first → left ≡ [] → All (λ (pass : Caller (Past T)). StartsWith first.seen pass.seen) all
  all_seen left first r none = subst (All (λ (pass : Caller (Past T)). StartsWith first.seen pass.seen)) (sym (r.all_are ∙ ap (λ ps. ps ++ r.done) none)) r.seen

  pub all_made : (left : List (Caller (Past T))) (first : Caller (Past T)) → Joining start all left first → left ≡ [] → (x : ℕ) → times x first.own ≡ times x start.own + makers x all
  all_made left first r none x = let was = r.made x in let zero_left : makers x left ≡ 0 = ap (makers x) none in omega (arith, was, zero_left)

  pub all_held : (left : List (Caller (Past T))) (first : Caller (Past T)) → Joining start all left first → left ≡ [] → (n : ℕ) → 1 ≤ one_if (holds n start.numbers) + holders n all → holds n first.numbers ≡ true
  all_held left first r none n h =
      let was = r.numbers n h in
      let zero_left : holders n left ≡ 0 = ap (holders n) none in held_one (holds n first.numbers) (omega (arith, was, zero_left))

  pub all_follow : (left : List (Caller (Past T))) (first : Caller (Past T)) → Joining start all left first → left ≡ [] → All (λ (pass : Caller (Past T)). Follows number_of pass.numbers first.seen pass.seen) all
  all_follow left first r none = subst (All (λ (pass : Caller (Past T)). Follows number_of pass.numbers first.seen pass.seen)) (sym (r.all_are ∙ ap (λ ps. ps ++ r.done) none)) r.follows

  pub all_inside : (left : List (Caller (Past T))) (first : Caller (Past T)) → Joining start all left first → left ≡ [] → All (λ (pass : Caller (Past T)). Inside pass first) all
  all_inside left first r none = subst (All (λ (pass : Caller (Past T)). Inside pass first)) (sym (r.all_are ∙ ap (λ ps. ps ++ r.done) none)) r.inside

module _ {T : Type 0} where
  -- and so behind what the joined pass follows
  pub follows_all : (ps : List (Caller (Past T))) (first : Caller (Past T)) (log : List (Past T)) → Follows number_of first.numbers log first.seen → All (λ (pass : Caller (Past T)). Inside pass first) ps
      → All (λ (pass : Caller (Past T)). Follows number_of pass.numbers first.seen pass.seen) ps → All (λ (pass : Caller (Past T)). Follows number_of pass.numbers log pass.seen) ps
  follows_all [] first log f a b = All-nil (λ (p : Caller (Past T)). Follows number_of p.numbers log p.seen)
  follows_all (p ∷ ps) first log f a b = All-cons (λ (p : Caller (Past T)). Follows number_of p.numbers log p.seen) p ps
      (follows_then number_of p.numbers first.numbers p.seen first.seen log (All-head (λ (p : Caller (Past T)). Inside p first) p ps a) (All-head (λ (p : Caller (Past T)). Follows number_of p.numbers first.seen p.seen) p ps b) f)
      (follows_all ps first log f (All-tail (λ (p : Caller (Past T)). Inside p first) p ps a) (All-tail (λ (p : Caller (Past T)). Follows number_of p.numbers first.seen p.seen) p ps b))

-- the places of a pass that made all holds
pub made_once : (own : List ℕ) (n x : ℕ) → own ≡ places 0 n → times x own ≡ one_within 0 n x
made_once own n x is = ap (times x) is ∙ (times_places x 0 n ∙ ap (λ k. one_within 0 k x) (omega arith))
