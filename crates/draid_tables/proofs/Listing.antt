-- The numbers that lanes hold, by their commands.
use Rattle.std.proofs.Common.{◌≡◌, ◌≢◌, ◌∙◌, ◌++◌, ◌∷◌, ◌<◌, ◌≤◌, ◌+◌, ◌⊎◌, ◌||◌, ◌&&◌, arith, inl, inr, ℕ, zero, suc, Bool, true, false, List, [], Some, None, length, map, nat_le, sym, ap, subst, refl, take, ⊎_elim, All}
use Rattle.std.specs.Prelude.{slice_get}
use Rattle.std.specs.declared.vec.Vec.{Vec}
use Rattle.std.specs.declared.alloc.Global.{Global}
use Rattle.std.proofs.lemmas.Bool.Decides.{nat_tests}
use Rattle.std.proofs.lemmas.List.{length_push, map-append}
use Rattle.std.proofs.lemmas.List.Elements.{All-cons, All-nil}
use Rattle.std.proofs.lemmas.List.Sums.{sum_by-cons}
use Rattle.std.proofs.lemmas.Option.{slice_get_within}
use Rattle.draid_names.specs.declared.numbers.TheConstants.{OBJECTS}
use Rattle.draid_script.specs.Line.{Command, Silent, CreatePool, ImportPool, ExportPool, SyncPool, CancelPasses, CrashPool, WriteObject, FillObjects, ReadObject, FreeObject, SumObjects, TakeOffline, TakeOnline, DamageSector, AttachSpare, ReplaceDisk, DetachArm, RebuildPool, ScrubPool, RebalanceSlot, ShowStatus, OpenLanes, UpgradePool, RunAgent, ShowJournal, TakeCheckpoint, RewindPool, DiscardCheckpoint, IsInRange, command_in}
use Rattle.draid_script.specs.declared.line.Line.{Line}
use Rattle.draid_session.specs.Lanes.{objects_in}
use Rattle.draid_session.specs.Sections.{ClashesMend, Mends, NoClash}
use Rattle.draid_turn.specs.Lists.{one_if}
use Rattle.draid_turn.specs.Numbers.{HoldsSome, holds, in_span, number_limit}
use Rattle.draid_turn.specs.declared.span.Span.{Span}
use Rattle.draid_holds.specs.Passes.{shares}
use Rattle.draid_pool.specs.Drifts.{groups_number, passes_number}
use Rattle.draid_tables.specs.Lists.{AreAllInRange, AreLaneLists, IsSpanOf, ListsEach, ListsNumbers, Wants, WantsOne, commands_of, commands_of_lanes, number_of_lane}
use Rattle.draid_tables.proofs.Owning.{push_cases, some_is, take_next}

-- ---- one span

in_from : (low high first n : ℕ) → low ≡ first → (nat_le low n && nat_le n high) ≡ true → first ≤ n
in_from low high first n is held = grind (arith, nat_tests, is, held)

in_below : (low high first count n : ℕ) → high + 1 ≡ first + count → (nat_le low n && nat_le n high) ≡ true → n < first + count
in_below low high first count n is held = grind (arith, nat_tests, is, held)

in_both : (low high first count n : ℕ) → low ≡ first → high + 1 ≡ first + count → first ≤ n → n < first + count → (nat_le low n && nat_le n high) ≡ true
in_both low high first count n is other from below = grind (arith, nat_tests, is, other, from, below)

in_one : (at n : ℕ) → (nat_le at n && nat_le n at) ≡ true → n ≡ at
in_one at n held = grind (arith, nat_tests, held)

is_one : (at n : ℕ) → n ≡ at → (nat_le at n && nat_le n at) ≡ true
is_one at n is = grind (arith, nat_tests, is)

-- the objects that a command names
pub objects_span : (command : Command) (span : Span) → (Mends command → ⊥) → span.first ≡ (objects_in command).0 → span.last + 1 ≡ (objects_in command).0 + (objects_in command).1 → IsSpanOf command (Some span)
objects_span command span calm low high n = (
  λ held. inl (in_from span.first span.last (objects_in command).0 n low held, in_below span.first span.last (objects_in command).0 (objects_in command).1 n high held),
  λ wants. ⊎_elim
      (λ (t : ((objects_in command).0 ≤ n) × (n < (objects_in command).0 + (objects_in command).1)). in_both span.first span.last (objects_in command).0 (objects_in command).1 n low high t.0 t.1)
      (λ (t : Mends command × (n ≡ passes_number)). absurd (calm t.0)) wants,
)

-- that of the passes
pub passes_span : (command : Command) → Mends command → (objects_in command).1 ≡ 0 → IsSpanOf command (Some (record { first = passes_number; last = passes_number }))
passes_span command mends none n = (
  λ held. inr (mends, in_one passes_number n held),
  λ wants. ⊎_elim
      (λ (t : ((objects_in command).0 ≤ n) × (n < (objects_in command).0 + (objects_in command).1)). (let from = t.0 in let below = t.1 in absurd (omega (arith, from, below, none))))
      (λ (t : Mends command × (n ≡ passes_number)). is_one passes_number n t.1) wants,
)

-- none
pub no_span : (command : Command) → (Mends command → ⊥) → (objects_in command).1 ≡ 0 → IsSpanOf command None
no_span command calm none n wants = ⊎_elim
    (λ (t : ((objects_in command).0 ≤ n) × (n < (objects_in command).0 + (objects_in command).1)). (let from = t.0 in let below = t.1 in absurd (omega (arith, from, below, none))))
    (λ (t : Mends command × (n ≡ passes_number)). calm t.0) wants

-- ---- one list

or_false : (a b : Bool) → (a || b) ≡ true → (a ≡ true) ⊎ (b ≡ true)
or_false true b is = inl refl
or_false false b is = inr is

or_left : (a b : Bool) → a ≡ true → (a || b) ≡ true
or_left true b is = refl
or_left false b is = absurd (cc)

or_right : (a b : Bool) → b ≡ true → (a || b) ≡ true
or_right true b is = refl
or_right false b is = is

holds_push : (n : ℕ) (list : List Span) (span : Span) → holds n (list ++ span ∷ []) ≡ (holds n list || in_span n span)
holds_push n [] span = or_end (in_span n span)
  where
    or_end : (b : Bool) → (b || false) ≡ b
    or_end true = refl
    or_end false = refl
holds_push n (s ∷ list) span = ap (λ b. in_span n s || b) (holds_push n list span) ∙ or_again (in_span n s) (holds n list) (in_span n span)
  where
    or_again : (a b c : Bool) → (a || (b || c)) ≡ ((a || b) || c)
    or_again true b c = refl
    or_again false b c = refl

get_push : {X : Type 0} (xs : List X) (y x : X) (i : ℕ) → slice_get xs i ≡ Some x → slice_get (xs ++ y ∷ []) i ≡ Some x
get_push [] y x i is = absurd (cc)
get_push (z ∷ xs) y x zero is = is
get_push (z ∷ xs) y x (suc i) is = get_push xs y x i is

get_last : {X : Type 0} (xs : List X) (y : X) → slice_get (xs ++ y ∷ []) (length xs) ≡ Some y
get_last [] y = refl
get_last (z ∷ xs) y = get_last xs y

wants_first : (commands : List Command) (command : Command) (n : ℕ) → WantsOne commands n → WantsOne (commands ++ command ∷ []) n
wants_first commands command n w = record { k = w.k; command = w.command; in_it = get_push commands command w.command w.k w.in_it; wants = w.wants }

wants_last : (commands : List Command) (command : Command) (n : ℕ) → Wants command n → WantsOne (commands ++ command ∷ []) n
wants_last commands command n w = record { k = length commands; command = command; in_it = get_last commands command; wants = w }

wants_or : (commands : List Command) (command : Command) (n : ℕ) → WantsOne (commands ++ command ∷ []) n → WantsOne commands n ⊎ Wants command n
wants_or commands command n w = ⊎_elim
    (λ (t : slice_get commands w.k ≡ Some w.command). inl (record { k = w.k; command = w.command; in_it = t; wants = w.wants }))
    (λ (t : (w.k ≡ length commands) × (command ≡ w.command)). inr (subst (λ c. Wants c n) (sym t.1) w.wants))
    (push_cases commands command w.command w.k w.in_it)

abbrev pub Has : ℕ → List Command → ℕ → Type 0
Has lane commands n = (n ≡ number_of_lane lane) ⊎ WantsOne commands n

pub lists_own : (lane : ℕ) (list : List Span) → list ≡ record { first = number_of_lane lane; last = number_of_lane lane } ∷ [] → ListsNumbers lane [] list
lists_own lane list is n = (
  λ held. inl (in_one (number_of_lane lane) n (alone (in_span n (record { first = number_of_lane lane; last = number_of_lane lane })) (ap (holds n) (sym is) ∙ held))),
  λ has. ⊎_elim
      (λ (t : n ≡ number_of_lane lane). ap (holds n) is ∙ or_left (in_span n (record { first = number_of_lane lane; last = number_of_lane lane })) false (is_one (number_of_lane lane) n t))
      (λ (t : WantsOne [] n). (let in_it = t.in_it in absurd (cc))) has,
)
  where
    alone : (b : Bool) → (b || false) ≡ true → b ≡ true
    alone true is = refl
    alone false is = is

pub lists_more : (lane : ℕ) (commands : List Command) (list next : List Span) (command : Command) (span : Span) → ListsNumbers lane commands list → IsSpanOf command (Some span) → next ≡ list ++ span ∷ [] → ListsNumbers lane (commands ++ command ∷ []) next
lists_more lane commands list next command span lists is more n = (
  λ held. ⊎_elim
      (λ (t : holds n list ≡ true). ⊎_elim (λ (u : n ≡ number_of_lane lane). inl u) (λ (u : WantsOne commands n). inr (wants_first commands command n u)) ((lists n).0 t))
      (λ (t : in_span n span ≡ true). inr (wants_last commands command n ((is n).0 t)))
      (or_false (holds n list) (in_span n span) (sym (holds_push n list span) ∙ (ap (holds n) (sym more) ∙ held))),
  λ has. ap (holds n) more ∙ (holds_push n list span ∙ ⊎_elim
      (λ (t : n ≡ number_of_lane lane). or_left (holds n list) (in_span n span) ((lists n).1 (inl t)))
      (λ (t : WantsOne (commands ++ command ∷ []) n). ⊎_elim
      (λ (u : WantsOne commands n). or_left (holds n list) (in_span n span) ((lists n).1 (inr u)))
      (λ (u : Wants command n). or_right (holds n list) (in_span n span) ((is n).1 u))
      (wants_or commands command n t)) has),
)

pub lists_same : (lane : ℕ) (commands : List Command) (list : List Span) (command : Command) → ListsNumbers lane commands list → IsSpanOf command None → ListsNumbers lane (commands ++ command ∷ []) list
lists_same lane commands list command lists none n = (
  λ held. ⊎_elim (λ (u : n ≡ number_of_lane lane). inl u) (λ (u : WantsOne commands n). inr (wants_first commands command n u)) ((lists n).0 held),
  λ has. ⊎_elim
      (λ (t : n ≡ number_of_lane lane). (lists n).1 (inl t))
      (λ (t : WantsOne (commands ++ command ∷ []) n). ⊎_elim
      (λ (u : WantsOne commands n). (lists n).1 (inr u))
      (λ (u : Wants command n). absurd (none n u))
      (wants_or commands command n t)) has,
)

-- the commands of lines up to the next one
pub commands_next : (lines : List Line) (i : ℕ) (line : Line) → slice_get lines i ≡ Some line → commands_of (take (i + 1) lines) ≡ commands_of (take i lines) ++ command_in line ∷ []
commands_next lines i line is = ap (λ n. commands_of (take n lines)) (let next : i + 1 ≡ suc i = omega arith in next) ∙ (ap commands_of (take_next lines i line is) ∙ map-append command_in (take i lines) (line ∷ []))

-- ---- all lists

objects_below : (command : Command) → IsInRange command → (objects_in command).0 + (objects_in command).1 ≤ OBJECTS
objects_below (WriteObject object bytes) range = (let below = range.0 in omega (arith, below))
objects_below (FillObjects first count len seed) range = range.0.2
objects_below (ReadObject object) range = omega (arith, range)
objects_below (FreeObject object) range = omega (arith, range)
objects_below (SumObjects first count) range = range.2
objects_below Silent range = omega arith
objects_below (CreatePool spec children keys) range = omega arith
objects_below ImportPool range = omega arith
objects_below ExportPool range = omega arith
objects_below SyncPool range = omega arith
objects_below CancelPasses range = omega arith
objects_below CrashPool range = omega arith
objects_below (TakeOffline leaf) range = omega arith
objects_below (TakeOnline leaf) range = omega arith
objects_below (DamageSector leaf sector) range = omega arith
objects_below (AttachSpare slot spare) range = omega arith
objects_below (ReplaceDisk slot sectors) range = omega arith
objects_below (DetachArm arm) range = omega arith
objects_below (RebuildPool limit) range = omega arith
objects_below (ScrubPool limit) range = omega arith
objects_below (RebalanceSlot slot) range = omega arith
objects_below (ShowStatus format) range = omega arith
objects_below (OpenLanes count) range = omega arith
objects_below UpgradePool range = omega arith
objects_below (RunAgent least) range = omega arith
objects_below ShowJournal range = omega arith
objects_below TakeCheckpoint range = omega arith
objects_below RewindPool range = omega arith
objects_below DiscardCheckpoint range = omega arith

-- where a number is in one list alone at most one has it
one_holder : (n : ℕ) (lists : List (Vec Span Global)) → ((i j : ℕ) (a b : Vec Span Global) → i < j → slice_get lists i ≡ Some a → slice_get lists j ≡ Some b → holds n a.items ≡ true → holds n b.items ≡ true → ⊥) → shares n lists ≤ 1
one_holder n [] apart = omega arith
one_holder n (l ∷ lists) apart =
    by (holds n l.items) refl (one_holder n lists (λ i j a b below one other. apart (suc i) (suc j) a b (omega (arith, below)) one other))
  where
    none_holds : (lists : List (Vec Span Global)) → ((j : ℕ) (b : Vec Span Global) → slice_get lists j ≡ Some b → holds n b.items ≡ true → ⊥) → shares n lists ≡ 0
    none_holds [] none = refl
    none_holds (m ∷ lists) none =
        let rest = none_holds lists (λ j b there. none (suc j) b there) in
        let sum = sum_by-cons (λ (v : Vec Span Global). one_if (holds n v.items)) m lists in
        let here : one_if (holds n m.items) ≡ 0 = not_here (holds n m.items) refl in omega (arith, rest, sum, here)
      where
        not_here : (b : Bool) → holds n m.items ≡ b → one_if (holds n m.items) ≡ 0
        not_here true is = absurd (none 0 m refl is)
        not_here false is = ap one_if is

    by : (b : Bool) → holds n l.items ≡ b → shares n lists ≤ 1 → shares n (l ∷ lists) ≤ 1
    by true is rest =
        let zero_left = none_holds lists (λ j b there held. apart 0 (suc j) l b (omega arith) refl there is held) in
        let sum = sum_by-cons (λ (v : Vec Span Global). one_if (holds n v.items)) l lists in
        let here : one_if (holds n l.items) ≡ 1 = ap one_if is in omega (arith, zero_left, sum, here)
    by false is rest =
        let sum = sum_by-cons (λ (v : Vec Span Global). one_if (holds n v.items)) l lists in
        let here : one_if (holds n l.items) ≡ 0 = ap one_if is in omega (arith, rest, sum, here)

-- a number that one has at least is in a list
pub a_holder : (n : ℕ) (lists : List (Vec Span Global)) → 1 ≤ shares n lists → (i : ℕ) × (list : Vec Span Global) × (slice_get lists i ≡ Some list) × (holds n list.items ≡ true)
a_holder n [] some = absurd (omega (arith, some))
a_holder n (l ∷ lists) some = by (holds n l.items) refl (a_holder n lists)
  where
    by : (b : Bool) → holds n l.items ≡ b → (1 ≤ shares n lists → (i : ℕ) × (list : Vec Span Global) × (slice_get lists i ≡ Some list) × (holds n list.items ≡ true)) → (i : ℕ) × (list : Vec Span Global) × (slice_get (l ∷ lists) i ≡ Some list) × (holds n list.items ≡ true)
    by true is rest = (0, l, refl, is)
    by false is rest =
        let sum = sum_by-cons (λ (v : Vec Span Global). one_if (holds n v.items)) l lists in
        let here : one_if (holds n l.items) ≡ 0 = ap one_if is in
        let z = rest (omega (arith, some, sum, here)) in (suc z.0, z.1, z.2, z.3)

all_of : {X : Type 0} (P : X → Type 0) (xs : List X) → ((i : ℕ) (x : X) → slice_get xs i ≡ Some x → P x) → All P xs
all_of P [] each = All-nil P
all_of P (x ∷ xs) each = All-cons P x xs (each 0 x refl) (all_of P xs (λ i y there. each (suc i) y there))

pub get_map : {X Y : Type 0} (f : X → Y) (xs : List X) (i : ℕ) (x : X) → slice_get xs i ≡ Some x → slice_get (map f xs) i ≡ Some (f x)
get_map f [] i x is = absurd (cc)
get_map f (y ∷ xs) zero x is = (let same : y ≡ x = cc in ap (λ z. Some (f z)) same)
get_map f (y ∷ xs) (suc i) x is = get_map f xs i x is

map_get : {X Y : Type 0} (f : X → Y) (xs : List X) (i : ℕ) (y : Y) → slice_get (map f xs) i ≡ Some y → (x : X) × (slice_get xs i ≡ Some x) × (y ≡ f x)
map_get f [] i y is = absurd (cc)
map_get f (x ∷ xs) zero y is = (x, refl, (let same : f x ≡ y = cc in sym same))
map_get f (x ∷ xs) (suc i) y is = map_get f xs i y is

pub present : {X : Type 0} (xs : List X) (i : ℕ) → i < length xs → (x : X) × (slice_get xs i ≡ Some x)
present [] i below = absurd (omega (arith, below))
present (x ∷ xs) zero below = (x, refl)
present (x ∷ xs) (suc i) below = present xs i (omega (arith, below))

-- what a command wants is an object, or the passes
wants_small : (command : Command) (n : ℕ) → IsInRange command → Wants command n → (n < OBJECTS) ⊎ (Mends command × (n ≡ passes_number))
wants_small command n range wants = ⊎_elim
    (λ (t : ((objects_in command).0 ≤ n) × (n < (objects_in command).0 + (objects_in command).1)). (let below = t.1 in let most = objects_below command range in inl (omega (arith, below, most))))
    (λ (t : Mends command × (n ≡ passes_number)). inr t) wants

module _ (lanes : List (Vec Line Global)) (lists : List (Vec Span Global)) (few : length lanes ≤ 16) (range : AreAllInRange lanes) (apart : NoClash (commands_of_lanes lanes)) (one : ClashesMend (commands_of_lanes lanes) → ⊥) (each : ListsEach lanes lists) where
  lines_at : (i : ℕ) (list : Vec Span Global) → slice_get lists i ≡ Some list → (lines : Vec Line Global) × (slice_get lanes i ≡ Some lines)
  lines_at i list there = (let inside = slice_get_within lists i list there in let many = each.many in present lanes i (omega (arith, inside, many)))

  in_range : (i : ℕ) (lines : Vec Line Global) (command : Command) (k : ℕ) → slice_get lanes i ≡ Some lines → slice_get (commands_of lines.items) k ≡ Some command → IsInRange command
  in_range i lines command k there in_it =
      let z = map_get command_in lines.items k command in_it in
      subst IsInRange (sym z.2) (range i lines there k z.0 z.1)

  -- what a lane has
  abbrev HasAt : ℕ → ℕ → Type 0
  HasAt i n = (lines : Vec Line Global) × (slice_get lanes i ≡ Some lines) × ((n ≡ number_of_lane i) ⊎ WantsOne (commands_of lines.items) n)

  has_at : (i : ℕ) (list : Vec Span Global) (n : ℕ) → slice_get lists i ≡ Some list → holds n list.items ≡ true → HasAt i n
  has_at i list n there held = (let z = lines_at i list there in (z.0, z.1, (each.each i z.0 list z.1 there n).0 held))

  -- its own number is no other's
  own_apart : (i j n : ℕ) (lines : Vec Line Global) → i < 16 → n ≡ number_of_lane i → slice_get lanes j ≡ Some lines → WantsOne (commands_of lines.items) n → ⊥
  own_apart i j n lines below is there w = ⊎_elim
      (λ (t : n < OBJECTS). absurd (omega (arith, t, is)))
      (λ (t : Mends w.command × (n ≡ passes_number)). (let passes = t.1 in absurd (omega (arith, passes, is, below))))
      (wants_small w.command n (in_range j lines w.command w.k there w.in_it) w.wants)

  both_want : (i j n : ℕ) (a b : Vec Line Global) → i < j → slice_get lanes i ≡ Some a → slice_get lanes j ≡ Some b → WantsOne (commands_of a.items) n → WantsOne (commands_of b.items) n → ⊥
  both_want i j n a b below there other w v = ⊎_elim
      (λ (t : ((objects_in w.command).0 ≤ n) × (n < (objects_in w.command).0 + (objects_in w.command).1)). ⊎_elim
      (λ (u : ((objects_in v.command).0 ≤ n) × (n < (objects_in v.command).0 + (objects_in v.command).1)).
      apart n (record {
        i = i;
        j = j;
        before = below;
        first = record { lane = commands_of a.items; there = get_map (λ (lines : Vec Line Global). commands_of lines.items) lanes i a there; k = w.k; command = w.command; in_it = w.in_it; from = t.0; to = t.1 };
        other = record { lane = commands_of b.items; there = get_map (λ (lines : Vec Line Global). commands_of lines.items) lanes j b other; k = v.k; command = v.command; in_it = v.in_it; from = u.0; to = u.1 };
      }))
      (λ (u : Mends v.command × (n ≡ passes_number)).
      (let far = t.1 in let most = objects_below w.command (in_range i a w.command w.k there w.in_it) in let passes = u.1 in absurd (omega (arith, far, most, passes)))) v.wants)
      (λ (t : Mends w.command × (n ≡ passes_number)). ⊎_elim
      (λ (u : ((objects_in v.command).0 ≤ n) × (n < (objects_in v.command).0 + (objects_in v.command).1)).
      (let far = u.1 in let most = objects_below v.command (in_range j b v.command v.k other v.in_it) in let passes = t.1 in absurd (omega (arith, far, most, passes))))
      (λ (u : Mends v.command × (n ≡ passes_number)).
      one (record {
        i = i;
        j = j;
        before = below;
        first = record { lane = commands_of a.items; there = get_map (λ (lines : Vec Line Global). commands_of lines.items) lanes i a there; k = w.k; command = w.command; in_it = w.in_it; mends = t.0 };
        other = record { lane = commands_of b.items; there = get_map (λ (lines : Vec Line Global). commands_of lines.items) lanes j b other; k = v.k; command = v.command; in_it = v.in_it; mends = u.0 };
      })) v.wants) w.wants

  never_both : (n i j : ℕ) (a b : Vec Span Global) → i < j → slice_get lists i ≡ Some a → slice_get lists j ≡ Some b → holds n a.items ≡ true → holds n b.items ≡ true → ⊥
  never_both n i j a b below there other held too =
      let p = has_at i a n there held in
      let q = has_at j b n other too in
      let far = slice_get_within lists j b other in
      let many = each.many in
      ⊎_elim
      (λ (t : n ≡ number_of_lane i). ⊎_elim
      (λ (u : n ≡ number_of_lane j). absurd (omega (arith, t, u, below)))
      (λ (u : WantsOne (commands_of q.0.items) n). own_apart i j n q.0 (omega (arith, below, far, many, few)) t q.1 u) q.2)
      (λ (t : WantsOne (commands_of p.0.items) n). ⊎_elim
      (λ (u : n ≡ number_of_lane j). own_apart j i n p.0 (omega (arith, far, many, few)) u p.1 t)
      (λ (u : WantsOne (commands_of q.0.items) n). both_want i j n p.0 q.0 below p.1 q.1 t u) q.2) p.2

  inside : (n : ℕ) → 1 ≤ shares n lists → (n ≢ groups_number) × (n + 1 < number_limit)
  inside n some =
      let z = a_holder n lists some in
      let p = has_at z.0 z.1 n z.2 z.3 in
      let far = slice_get_within lists z.0 z.1 z.2 in
      let many = each.many in
      ⊎_elim
      (λ (t : n ≡ number_of_lane z.0). ((λ is. omega (arith, is, t, far, many, few)), omega (arith, t, far, many, few)))
      (λ (t : WantsOne (commands_of p.0.items) n). ⊎_elim
      (λ (u : n < OBJECTS). ((λ is. omega (arith, is, u)), omega (arith, u)))
      (λ (u : Mends t.command × (n ≡ passes_number)). (let passes = u.1 in ((λ is. omega (arith, is, passes)), omega (arith, passes))))
      (wants_small t.command n (in_range z.0 p.0 t.command t.k p.1 t.in_it) t.wants)) p.2

  has_own : (i : ℕ) (list : Vec Span Global) → slice_get lists i ≡ Some list → HoldsSome list.items
  has_own i list there =
      let z = lines_at i list there in
      record { number = number_of_lane i; held = (each.each i z.0 list z.1 there (number_of_lane i)).1 (inl refl) }

  pub lane_lists : AreLaneLists lists
  lane_lists = record {
    some = all_of (λ (list : Vec Span Global). HoldsSome list.items) lists has_own;
    apart = λ n. one_holder n lists (never_both n);
    inside = inside;
  }

-- ---- list by list

module _ (lanes : List (Vec Line Global)) where
  -- the first lanes have theirs
  pub record ListsFirst (at : ℕ) (lists : List (Vec Span Global)) : Type 0 where
    pub many : length lists ≡ at
    pub each : (i : ℕ) (lines : Vec Line Global) (list : Vec Span Global) → slice_get lanes i ≡ Some lines → slice_get lists i ≡ Some list → ListsNumbers i (commands_of lines.items) list.items

  pub lists_start : (lists : List (Vec Span Global)) → lists ≡ [] → ListsFirst 0 lists
  lists_start lists none = subst (ListsFirst 0) (sym none) (record { many = refl; each = λ i lines list l o. absurd (cc) })

  pub lists_next : (at : ℕ) (lists : List (Vec Span Global)) (lines : Vec Line Global) (list : Vec Span Global) → ListsFirst at lists → slice_get lanes at ≡ Some lines → ListsNumbers at (commands_of lines.items) list.items → (next : List (Vec Span Global)) → next ≡ lists ++ list ∷ [] → ListsFirst (at + 1) next
  lists_next at lists lines list r there is next next_is = subst (ListsFirst (at + 1)) (sym next_is) (record {
    many = length_push lists list ∙ (let many = r.many in omega (arith, many));
    each = λ i ls l ls_is l_is. ⊎_elim
        (λ (t : slice_get lists i ≡ Some l). r.each i ls l ls_is t)
        (λ (t : (i ≡ length lists) × (list ≡ l)).
        let here : i ≡ at = t.0 ∙ r.many in
        let same : lines ≡ ls = some_is (slice_get lanes i) lines ls (ap (slice_get lanes) here ∙ there) ls_is in
        subst (λ (m : Vec Line Global). ListsNumbers i (commands_of m.items) l.items) same
        (subst (λ k. ListsNumbers k (commands_of lines.items) l.items) (sym here) (subst (λ (e : Vec Span Global). ListsNumbers at (commands_of lines.items) e.items) t.1 is)))
        (push_cases lists list l i l_is);
  })

  pub lists_end : (at : ℕ) (lists : List (Vec Span Global)) → ListsFirst at lists → at ≡ length lanes → ListsEach lanes lists
  lists_end at lists r all = record { many = r.many ∙ all; each = r.each }
