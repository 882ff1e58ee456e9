-- Metaslabs that are looked at one after another.
use Rattle.std.proofs.Common.{◌≡◌, ◌==◌, ◌≤◌, ◌+◌, ◌++◌, ◌∙◌, ◌⊎◌, inl, inr, ℕ, Bool, false, zero, suc, List, [], ◌∷◌, Option, Some, arith, refl, sym, ap, subst, length, length-append, if◌then◌else◌, eq-eqb, ne_eqb}
use mathlib.Core.Logic.{dite}
use native.Mathlib.Decide.{ℕ_discrete}
use Rattle.std.specs.Prelude.{slice_get}
use Rattle.std.specs.List.{AllZip}
use Rattle.draid_names.specs.declared.pointer.Pointer.{Pointer}
use Rattle.draid_rack.specs.declared.Rack as racks
use Rattle.draid_area.specs.declared.Area as areas
use Rattle.draid_spec.specs.declared.layout.Geometry.{Geometry}
use Rattle.draid_perm.specs.declared.perms.Perms.{Perms}
use Rattle.draid_machine.proofs.Small.{none_some}
use Rattle.draid_segments.specs.Segments.{Pieces}
use Rattle.draid_shard.specs.Fits.{Valid}
use Rattle.draid_shard.specs.Part.{Part}
use Rattle.draid_shard.specs.States.{part_of}
use Rattle.draid_shard.specs.declared.fault.Shut.{Shut}
use Rattle.draid_shard.specs.declared.fault.Shut.TheVariants as shut
use Rattle.draid_shard.specs.declared.shard.Shard.{Shard}
use Rattle.draid_session.specs.Does.{IsOne}
use Rattle.draid_session.specs.Holds.{Hold, Looked, On, View, view_of}
use Rattle.draid_session.specs.Looks.{IsLook, LooksFrom, OnlyLooks}
use Rattle.draid_session.specs.Rooms.{IsDisabled, IsFull, IsRoomOf, IsWornForBlock}
use Rattle.draid_session.specs.State.{Metaslab, State, Store}
use Rattle.draid_turn.specs.Calls.{Lock}
use Rattle.draid_pool.specs.declared.cell.Cell.{Cell}
use Rattle.draid_pool.specs.Drifts.{Drifts}
use Rattle.draid_pool.specs.Metaslabs.{IsMetaslab}
use Rattle.draid_pool.specs.Threads.{AllStay, KeepsWhole, Knows, LeadsBy, all_of}
use Rattle.draid_pool.proofs.HeldBy.{stay_held, stay_same, stay_then}
use Rattle.draid_pool.proofs.Joining.{Both, leads_then}
use Rattle.draid_pool.proofs.Lists.{some_of}
use Rattle.draid_pool.specs.Looking.{AddsSeen, AreSame, CountsOne, HasMany, LooksAtRooms, RoomAt, RoomsAre, SeenIs, SeesShard}
use Rattle.draid_pool.specs.Looking.{RoomIs}
use Rattle.draid_pool.specs.declared.room.SeenRooms.{SeenRooms}
use Rattle.draid_pool.specs.declared.room.Seen.{Seen}
use Rattle.draid_pool.proofs.Roomy.{by_disabled, by_full, by_worn, room_of}
use Rattle.draid_pool.proofs.Joining.{leads_as}
use Rattle.draid_pool.proofs.Drifting.{same_groups}
use Rattle.draid_pool.proofs.Listing.{count_one, is_reason}
use Rattle.draid_pool.proofs.LookHold.{looks_more, only_looked, see_step, zip_more}
use Rattle.draid_pool.proofs.LookKeeps.{same_blocks}
use Rattle.draid_pool.proofs.QuietWhole.{quiet_whole}

-- what a view has for a block, as it was seen
pub record SeenAs (geometry : Geometry) (perms : Perms) (need : ℕ) (seen : Seen) (v : View) : Type 0 where
  pub room : IsRoomOf geometry perms need v seen.room
  pub disabled : (seen.shut ≡ Some shut.Disabled → IsDisabled v) × ((seen.shut ≡ Some shut.Disabled → ⊥) → IsDisabled v → ⊥)
  pub full : (seen.shut ≡ Some shut.Full → IsFull v) × ((seen.shut ≡ Some shut.Full → ⊥) → IsFull v → ⊥)
  pub worn : (seen.shut ≡ Some shut.Worn → IsWornForBlock geometry v) × ((seen.shut ≡ Some shut.Worn → ⊥) → IsWornForBlock geometry v → ⊥)

seen_as : {R A : Type 0} (rack : racks.Ghosts R) (area : areas.Ghosts A) (geometry : Geometry) (perms : Perms) (m need : ℕ) (shard : Shard R A) (seen : Seen) → SeenIs need shard seen → (p : Pieces) (u : Metaslab)
    → IsMetaslab rack area (record { geometry = geometry; perms = perms; number = m }) p shard u → SeenAs geometry perms need seen (view_of m u)
seen_as rack area geometry perms m need shard seen s p u is = record {
  room = room_of rack area geometry perms m need p shard u seen.room is s.room;
  disabled = by_disabled rack area part p shard u m seen.shut is s.shut;
  full = by_full rack area part p shard u m seen.shut is s.shut;
  worn = by_worn rack area part p shard u m seen.shut is s.shut;
}
  where
    part : Part
    part = record { geometry = geometry; perms = perms; number = m }

one_more : (k : ℕ) → suc k ≡ k + 1
one_more k = omega arith

none_plus : (k : ℕ) → k ≡ 0 + k
none_plus k = omega arith

looks_one : (geometry : Geometry) (perms : Perms) (need k : ℕ) (rooms rooms' : SeenRooms) (seen : Seen) (front back holds : List Hold) → AddsSeen rooms seen rooms' → holds ≡ front ++ back → LooksAtRooms geometry perms need k rooms front
    → IsOne (λ hold. (v : View) × IsLook k hold v × SeenAs geometry perms need seen v) back → LooksAtRooms geometry perms need (k + 1) rooms' holds
looks_one geometry perms need k rooms rooms' seen front back holds adds are l one =
    let hold : Hold = one.0 in
    let v : View = one.2.0 in
    let s : SeenAs geometry perms need seen v = one.2.2 in
    record {
      views = l.views ++ v ∷ [];
      looked = subst (λ n. LooksFrom 0 n holds (l.views ++ v ∷ [])) (one_more k)
          (subst (λ hs. LooksFrom 0 (suc k) hs (l.views ++ v ∷ [])) (sym (are ∙ ap (λ b. front ++ b) one.1)) (looks_more 0 k front l.views hold v l.looked (subst (λ n. IsLook n hold v) (none_plus k) one.2.1)));
      are = subst (AllZip (IsRoomOf geometry perms need) (l.views ++ v ∷ [])) (sym adds.rooms) (zip_more (IsRoomOf geometry perms need) l.views rooms.rooms.items v seen.room l.are s.room);
      disabled = count_one IsDisabled l.views v seen.shut shut.Disabled rooms.disabled rooms'.disabled adds.disabled s.disabled l.disabled;
      full = count_one IsFull l.views v seen.shut shut.Full rooms.full rooms'.full adds.full s.full l.full;
      worn = count_one (IsWornForBlock geometry) l.views v seen.shut shut.Worn rooms.worn rooms'.worn adds.worn s.worn l.worn;
    }

-- the first so many metaslabs were looked at
abbrev pub LooksSome : State → (need k : ℕ) → SeenRooms → List Hold → Store → Type 0
LooksSome x need k rooms holds store = (store ≡ x.store) × LooksAtRooms x.geometry x.perms need k rooms holds

-- so far, of metaslabs as they are held
pub record LookingAt {R A S : Type 0} (rack : racks.Ghosts R) (area : areas.Ghosts A) (went : S → ℕ → Shard R A → Shard R A → S → Type 0) (shared : Bool) (held locks : List (Lock (Cell R A))) (owns now_owns : ℕ → Bool) (fits : Type 0) (last now : ℕ → Option (Shard R A)) (a b : S)
    (count need k : ℕ) (rooms : SeenRooms) : Type 0 where
  pub fit : fits
  pub same_locks : held ≡ locks
  pub owned : now_owns ≡ owns
  pub stay : AllStay owns last now
  pub valid : HasMany rack count now
  pub whole : KeepsWhole rack owns (all_of owns) last now
  pub step : (table : ℕ → Option Pointer) (seq floor : ℕ) (x : State) → Knows rack area owns last table seq floor x → LeadsBy rack area went shared a b x (LooksSome x need k rooms) (Knows rack area owns now table seq floor)
  pub still : shared ≡ false → AreSame last now
  pub rooms_are : shared ≡ false → RoomsAre need now rooms.rooms.items
  pub many : length rooms.rooms.items ≡ k
  pub disabled : rooms.disabled ≤ k
  pub full : rooms.full ≤ k
  pub worn : rooms.worn ≤ k

-- none was yet
pub looking_none : {R A S : Type 0} (rack : racks.Ghosts R) (area : areas.Ghosts A) (went : S → ℕ → Shard R A → Shard R A → S → Type 0) (shared : Bool) (locks : List (Lock (Cell R A))) (owns : ℕ → Bool) (fits : Type 0) (last : ℕ → Option (Shard R A)) (a : S) (count need : ℕ) (rooms : SeenRooms)
    → rooms.rooms.items ≡ [] → rooms.disabled ≡ 0 → rooms.full ≡ 0 → rooms.worn ≡ 0 → fits → HasMany rack count last → LookingAt rack area went shared locks locks owns owns fits last last a a count need 0 rooms
looking_none rack area went shared locks owns fits last a count need rooms none disabled full worn fit many = record {
  fit = fit;
  same_locks = refl;
  owned = refl;
  stay = stay_same owns last;
  valid = many;
  whole = λ table seq floor w. w;
  step = λ table seq floor x known. record {
    holds = [];
    reached = x;
    store = x.store;
    follows = (refl, refl);
    done = (refl, record { views = []; looked = (refl, refl); are = subst (AllZip (IsRoomOf x.geometry x.perms need) []) (sym none) tt; disabled = disabled; full = full; worn = worn });
    knows = known;
  };
  still = λ alone m. refl;
  rooms_are = λ alone m room at. absurd (none_some (slice_get [] m) room refl (ap (λ rs. slice_get rs m) (sym none) ∙ at));
  many = ap length none;
  disabled = omega (arith, disabled);
  full = omega (arith, full);
  worn = omega (arith, worn);
}

pub looks_append : (front back : List Hold) → OnlyLooks front → OnlyLooks back → OnlyLooks (front ++ back)
looks_append [] back x y = y
looks_append (hold ∷ front) back x y = (x.0, looks_append front back x.1 y)

at_push : {T : Type 0} (xs : List T) (x : T) (m : ℕ) (t : T) → slice_get (xs ++ x ∷ []) m ≡ Some t → (slice_get xs m ≡ Some t) ⊎ ((m ≡ length xs) × (x ≡ t))
at_push [] x zero t at = inr (refl, some_of (Some x) x t refl at)
at_push [] x (suc m) t at = absurd (none_some (slice_get [] m) t refl at)
at_push (y ∷ xs) x zero t at = inl at
at_push (y ∷ xs) x (suc m) t at = elim (at_push xs x m t at) [ inl was ↦ inl was | inr is ↦ inr (ap suc is.0, is.1) ]

module _ {R A S : Type 0} (rack : racks.Ghosts R) (area : areas.Ghosts A) (went : S → ℕ → Shard R A → Shard R A → S → Type 0) (shared : Bool) (held locks next_locks : List (Lock (Cell R A))) (owns now_owns next_owns : ℕ → Bool) (fits next_fits : Type 0) (last now new : ℕ → Option (Shard R A)) (a b c : S)
    (count need k : ℕ) (rooms rooms' : SeenRooms) (i : LookingAt rack area went shared held locks owns now_owns fits last now a b count need k rooms) (fit : next_fits) (same_locks : next_locks ≡ held) (next_owned : next_owns ≡ now_owns)
    (shard before after : Shard R A) (there : now k ≡ Some shard) (drifts_now : Drifts rack area shared now_owns shard before) (valid : Valid rack after) (is : (j : ℕ) → new j ≡ (if j == k then Some after else now j)) (goes : went b k before after c)
    (seen : Seen) (sees : SeesShard need before seen after) where
  drifts : Drifts rack area shared owns shard before
  drifts = subst (λ o. Drifts rack area shared o shard before) i.owned drifts_now

  here : new k ≡ Some after
  here = is k ∙ ap (λ t. if t then Some after else now k) (eq-eqb k k refl)

  away : (j : ℕ) → (j ≡ k → ⊥) → new j ≡ now j
  away j not = is j ∙ ap (λ t. if t then Some after else now j) (ne_eqb j k not)

  part : part_of after ≡ part_of before
  part = ap (λ s. part_of s) sees.same

  pub stay_on : AllStay owns last new
  stay_on = stay_then owns last now new i.stay (stay_held owns rack area shared now new k shard before after there drifts part (same_groups before after sees.same) is)

  valid_on : HasMany rack count new
  valid_on m inside = dite (ℕ_discrete m k)
      (λ same. (after, ap new same ∙ here, valid))
      (λ not. (let z = i.valid m inside in (z.0, away m not ∙ z.1, z.2)))

  pub whole_on : KeepsWhole rack owns (all_of owns) last new
  whole_on table seq floor w = quiet_whole rack area shared owns now new k shard before after there drifts valid part (same_groups before after sees.same) (same_blocks before after sees.same) is table seq floor (i.whole table seq floor w)

  pub still_on : shared ≡ false → AreSame last new
  still_on alone m = dite (ℕ_discrete m k)
      (λ same. ap new same ∙ (here ∙ (ap Some (sees.same ∙ drifts.still alone) ∙ (sym there ∙ (i.still alone k ∙ ap last (sym same))))))
      (λ not. away m not ∙ i.still alone m)

  abbrev Glance : Hold → Type 0
  Glance hold = (v : View) × (hold ≡ On v Looked)

  abbrev OneMore : State → List Hold → Store → Type 0
  OneMore x holds store = (store ≡ x.store) × IsOne (λ hold. (v : View) × IsLook k hold v × SeenAs x.geometry x.perms need seen v) holds

  -- the look, by whatever is known
  one_step : (table : ℕ → Option Pointer) (seq floor : ℕ) (y : State) → Knows rack area owns now table seq floor y
      → LeadsBy rack area went shared b c y (λ holds store. (store ≡ y.store) × IsOne (λ hold. (v : View) × IsLook k hold v × SeenAs y.geometry y.perms need seen v) holds) (Knows rack area owns new table seq floor)
  one_step table seq floor y known = see_step rack area went shared owns b c now new k shard before after there drifts valid sees.same is goes table seq floor y known (SeenAs y.geometry y.perms need seen) (seen_as rack area y.geometry y.perms k need before seen sees.is)

  -- want of memory for what was seen
  pub starved : (table : ℕ → Option Pointer) (seq floor : ℕ) (x : State) → Knows rack area owns last table seq floor x → LeadsBy rack area went shared a c x (λ holds store. (store ≡ x.store) × OnlyLooks holds) (Knows rack area owns new table seq floor)
  starved table seq floor x known = leads_as rack area went shared a c x (Both rack area went shared a b c x (LooksSome x need k rooms) (Knows rack area owns now table seq floor) (λ holds store. (store ≡ x.store) × IsOne Glance holds) (Knows rack area owns new table seq floor)) (λ holds store. (store ≡ x.store) × OnlyLooks holds)
      (Knows rack area owns new table seq floor)
      (λ holds store d. (d.second.0, subst OnlyLooks (sym d.are) (looks_append d.front d.back (only_looked 0 k d.front d.first.1.views d.first.1.looked) (subst OnlyLooks (sym d.second.1.1) (d.second.1.2, tt)))))
      (leads_then rack area went shared a b c x (LooksSome x need k rooms) (Knows rack area owns now table seq floor) (λ holds store. (store ≡ x.store) × IsOne Glance holds) (Knows rack area owns new table seq floor) (i.step table seq floor x known)
      (λ y geometry perms front done known_y. leads_as rack area went shared b c y (λ holds store. (store ≡ y.store) × IsOne (λ hold. (v : View) × IsLook k hold v × SeenAs y.geometry y.perms need seen v) holds) (λ holds store. (store ≡ x.store) × IsOne Glance holds) (Knows rack area owns new table seq floor)
      (λ holds store d. (d.0 ∙ done.0, (d.1.0, d.1.1, (d.1.2.0, d.1.2.1.looked)))) (one_step table seq floor y known_y)))

  module _ (adds : AddsSeen rooms seen rooms') where
    step_on : (table : ℕ → Option Pointer) (seq floor : ℕ) (x : State) → Knows rack area owns last table seq floor x → LeadsBy rack area went shared a c x (LooksSome x need (k + 1) rooms') (Knows rack area owns new table seq floor)
    step_on table seq floor x known =
        leads_as rack area went shared a c x (Both rack area went shared a b c x (LooksSome x need k rooms) (Knows rack area owns now table seq floor) (OneMore x) (Knows rack area owns new table seq floor)) (LooksSome x need (k + 1) rooms') (Knows rack area owns new table seq floor)
        (λ holds store d. (d.second.0, looks_one x.geometry x.perms need k rooms rooms' seen d.front d.back holds adds d.are d.first.1 d.second.1))
        (leads_then rack area went shared a b c x (LooksSome x need k rooms) (Knows rack area owns now table seq floor) (OneMore x) (Knows rack area owns new table seq floor) (i.step table seq floor x known)
        (λ y geometry perms front done known_y. leads_as rack area went shared b c y (OneMore y) (OneMore x) (Knows rack area owns new table seq floor)
        (λ holds store d. (d.0 ∙ done.0, subst (λ (g : Geometry). IsOne (λ hold. (v : View) × IsLook k hold v × SeenAs g x.perms need seen v) holds) geometry (subst (λ (p : Perms). IsOne (λ hold. (v : View) × IsLook k hold v × SeenAs y.geometry p need seen v) holds) perms d.1))) (one_step table seq floor y known_y)))

    rooms_on : shared ≡ false → RoomsAre need new rooms'.rooms.items
    rooms_on alone m room at = by (at_push rooms.rooms.items seen.room m room (ap (λ rs. slice_get rs m) (sym adds.rooms) ∙ at))
      where
        by : (slice_get rooms.rooms.items m ≡ Some room) ⊎ ((m ≡ length rooms.rooms.items) × (seen.room ≡ room)) → RoomAt need new m room
        by (inl was) = (let z = i.rooms_are alone m room was in record { shard = z.shard; there = same_at m ∙ z.there; is = z.is })
          where
            same_at : (j : ℕ) → new j ≡ now j
            same_at j = still_on alone j ∙ sym (i.still alone j)
        by (inr last_is) = record {
          shard = after;
          there = ap new (last_is.0 ∙ i.many) ∙ here;
          is = subst (RoomIs need after) last_is.1 (subst (λ (s : Shard R A). RoomIs need s seen.room) (sym sees.same) sees.is.room);
        }

    counts_on : (why : Shut) (old new_count : ℕ) → CountsOne seen.shut why old new_count → old ≤ k → new_count ≤ k + 1
    counts_on why old new_count counts low = elim (is_reason seen.shut why) [
      | inl same ↦ (let more = counts.more same in omega (arith, more, low))
      | inr other ↦ (let stays = counts.same other in omega (arith, stays, low))
    ]

    pub looking_more : LookingAt rack area went shared next_locks locks owns next_owns next_fits last new a c count need (k + 1) rooms'
    looking_more = record {
      fit = fit;
      same_locks = same_locks ∙ i.same_locks;
      owned = next_owned ∙ i.owned;
      stay = stay_on;
      valid = valid_on;
      whole = whole_on;
      step = step_on;
      still = still_on;
      rooms_are = rooms_on;
      many = (let many = i.many in let long = ap length adds.rooms ∙ length-append rooms.rooms.items (seen.room ∷ []) in omega (arith, many, long));
      disabled = counts_on shut.Disabled rooms.disabled rooms'.disabled adds.disabled i.disabled;
      full = counts_on shut.Full rooms.full rooms'.full adds.full i.full;
      worn = counts_on shut.Worn rooms.worn rooms'.worn adds.worn i.worn;
    }
