-- Lanes that are taken apart, one after another.
use Rattle.std.proofs.Common.{◌≡◌, ℕ, ◌+◌, ◌<◌, ◌≤◌, List, [], ◌∷◌, ◌++◌, length, length-append, map, sym, refl, ap, ◌∙◌, arith}
use Rattle.std.proofs.lemmas.List.{append_assoc, append-nil, length-map, map_push}
use Rattle.draid_turn.specs.declared.past.Past.{Past}
use Rattle.draid_turn.specs.Calls.{Caller}
use Rattle.draid_holds.specs.Lanes.{pass_of, work_of}
use Rattle.draid_holds.specs.declared.lanes.Lane.{Lane}

-- those that are done were taken apart, and those that are left were not
pub record Parting {T W : Type 0} (all left : List (Lane T W)) (passes : List (Caller (Past T))) (works : List W) : Type 0 where
  pub done : List (Lane T W)
  pub all_are : all ≡ done ++ left
  pub passes_are : passes ≡ map pass_of done
  pub works_are : works ≡ map work_of done

module _ {T W : Type 0} (all : List (Lane T W)) where
  pub parting_start : (left : List (Lane T W)) (passes : List (Caller (Past T))) (works : List W) → left ≡ all → passes ≡ [] → works ≡ [] → Parting all left passes works
  parting_start left passes works is none_passes none_works = record { done = []; all_are = sym is; passes_are = none_passes; works_are = none_works }

  pub parting_more : (left left' : List (Lane T W)) (lane : Lane T W) (passes passes' : List (Caller (Past T))) (works works' : List W) → Parting all left passes works → left ≡ lane ∷ left'
      → passes' ≡ passes ++ lane.pass ∷ [] → works' ≡ works ++ lane.work ∷ [] → Parting all left' passes' works'
  parting_more left left' lane passes passes' works works' r is more_passes more_works = record {
    done = r.done ++ lane ∷ [];
    all_are = r.all_are ∙ (ap (λ l. r.done ++ l) is ∙ sym (append_assoc r.done (lane ∷ []) left'));
    passes_are = more_passes ∙ (ap (λ ps. ps ++ lane.pass ∷ []) r.passes_are ∙ sym (map_push pass_of r.done lane));
    works_are = more_works ∙ (ap (λ ws. ws ++ lane.work ∷ []) r.works_are ∙ sym (map_push work_of r.done lane));
  }

  parted : (left : List (Lane T W)) (passes : List (Caller (Past T))) (works : List W) (r : Parting all left passes works) → left ≡ [] → r.done ≡ all
  parted left passes works r none = sym (r.all_are ∙ (ap (λ l. r.done ++ l) none ∙ append-nil r.done))

  pub parted_passes : (left : List (Lane T W)) (passes : List (Caller (Past T))) (works : List W) → Parting all left passes works → left ≡ [] → passes ≡ map pass_of all
  parted_passes left passes works r none = r.passes_are ∙ ap (map pass_of) (parted left passes works r none)

  pub parted_works : (left : List (Lane T W)) (passes : List (Caller (Past T))) (works : List W) → Parting all left passes works → left ≡ [] → works ≡ map work_of all
  parted_works left passes works r none = r.works_are ∙ ap (map work_of) (parted left passes works r none)

  pub room_for : (left left' : List (Lane T W)) (lane : Lane T W) (len capacity : ℕ) → len + length left ≤ capacity → left ≡ lane ∷ left' → len < capacity
  room_for left left' lane len capacity room is = let long : length left ≡ length (lane ∷ left') = ap length is in omega (arith, room, long)

  pub room_still : (left left' : List (Lane T W)) (lane : Lane T W) (len len' capacity capacity' : ℕ) → len + length left ≤ capacity → left ≡ lane ∷ left' → len' ≡ len + 1 → capacity' ≡ capacity → len' + length left' ≤ capacity'
  room_still left left' lane len len' capacity capacity' room is up same = let long : length left ≡ length (lane ∷ left') = ap length is in omega (arith, room, long, up, same)

  pub room_first : (left : List (Lane T W)) (len capacity n : ℕ) → left ≡ all → length all ≤ capacity → len ≡ 0 → len + length left ≤ capacity
  room_first left len capacity n is room none = let long : length left ≡ length all = ap length is in omega (arith, room, long, none)

-- the next work has a list of numbers
pub work_within : {T W : Type 0} (works : List W) (lanes : List (Lane T W)) (left left' : List W) (work : W) (n len : ℕ) → works ≡ map work_of lanes ++ left → left ≡ work ∷ left' → length works ≡ n → len ≡ length lanes → len < n
work_within works lanes left left' work n len are is count long =
    let e : length works ≡ length (map work_of lanes ++ left) = ap length are in
    let f : length left ≡ length (work ∷ left') = ap length is in
    let a = length-append (map work_of lanes) left in
    let m = length-map lanes work_of in omega (arith, e, f, a, m, count, long)

pub works_more : {T W : Type 0} (works : List W) (lanes lanes' : List (Lane T W)) (lane : Lane T W) (left left' : List W) (work : W) → works ≡ map work_of lanes ++ left → left ≡ work ∷ left' → lanes' ≡ lanes ++ lane ∷ [] → lane.work ≡ work
    → works ≡ map work_of lanes' ++ left'
works_more works lanes lanes' lane left left' work are is more same =
    are ∙ (ap (λ l. map work_of lanes ++ l) (is ∙ ap (λ w. w ∷ left') (sym same)) ∙ (sym (append_assoc (map work_of lanes) (lane.work ∷ []) left') ∙ ap (λ l. l ++ left') (sym (map_push work_of lanes lane) ∙ ap (map work_of) (sym more))))

pub works_all : {T W : Type 0} (works : List W) (lanes : List (Lane T W)) (left : List W) → works ≡ map work_of lanes ++ left → left ≡ [] → map work_of lanes ≡ works
works_all works lanes left are none = sym (are ∙ (ap (λ l. map work_of lanes ++ l) none ∙ append-nil (map work_of lanes)))

pub all_lists : {T W : Type 0} (works : List W) (lanes : List (Lane T W)) (n len : ℕ) → map work_of lanes ≡ works → length works ≡ n → len ≡ length lanes → n ≤ len
all_lists works lanes n len are count long =
    let e : length (map work_of lanes) ≡ length works = ap length are in
    let m = length-map lanes work_of in omega (arith, e, m, count, long)

pub passes_more : {T W : Type 0} (lanes lanes' : List (Lane T W)) (lane : Lane T W) → lanes' ≡ lanes ++ lane ∷ [] → map pass_of lanes' ≡ map pass_of lanes ++ lane.pass ∷ []
passes_more lanes lanes' lane more = ap (map pass_of) more ∙ map_push pass_of lanes lane

pub empty_of : {X : Type 0} (xs : List X) → length xs ≡ 0 → xs ≡ []
empty_of [] e = refl
empty_of (x ∷ xs) e = absurd (omega (arith, e))

-- lanes are as many as their works
pub as_many : {T W : Type 0} → (lanes : List (Lane T W)) (works : List W) → map work_of lanes ≡ works → length lanes ≡ length works
as_many lanes works are = sym (length-map lanes work_of) ∙ ap length are
