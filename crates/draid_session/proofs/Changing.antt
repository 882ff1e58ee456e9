-- An open pool and its book, and what a command on objects does to both.
use Rattle.std.proofs.Common.{◌≡◌, ◌∙◌, ◌+◌, ◌<◌, ◌≤◌, ℕ, zero, suc, true, false, List, [], ◌∷◌, Option, Some, None, All, length, inl, inr, refl, sym, ap, subst, arith, ◌++◌}
use Rattle.std.specs.Prelude.{◌≢◌, ◌⊎◌, max, option_map, slice_get}
use Rattle.std.proofs.lemmas.List.Elements.{All-cons, All-weaker, Contains-append_right}
use Rattle.draid_names.specs.declared.room.Room.{Room}
use Rattle.draid_spec.specs.declared.layout.Geometry.{Geometry}
use Rattle.draid_perm.specs.declared.perms.Perms.{Perms}
use Rattle.draid_machine.specs.declared.event.Event.TheVariants as event
use Rattle.draid_machine.specs.State as machine
use Rattle.draid_objects.specs.Changes.{Change, Freed, Write, Wrote, group_of, key_of, object_of, write_in, write_of}
use Rattle.draid_objects.specs.Marks.{Dropped, Mark, check_by, drops_in}
use Rattle.draid_session.specs.Points.{HasLateMark, KeepsBirth}
use Rattle.draid_session.specs.Book.{Book, changed, filled}
use Rattle.draid_session.specs.Follows.{Follows, HoldsMetaslab}
use Rattle.draid_session.specs.Holds.{Did, Hold, Looked, On, View}
use Rattle.draid_session.specs.Groups.{behind_close, ends_group, has_other}
use Rattle.draid_session.specs.Rooms.{stripes_for}
use Rattle.sha2.specs.Sha256.{sha256}
use Rattle.draid_layouts.specs.Layout.{layout_of}
use Rattle.draid_machine.specs.declared.event.Event.{Event}
use Rattle.draid_session.specs.Looks.{AllOf, LooksFrom}
use Rattle.draid_session.specs.State.{State, Store}
use Rattle.draid_session.specs.Writes.{DropsBlock, FreesBlock, LeavesBlock, LeavesEarlier, Frees, Fills, PutsColumns, Tries, Writes}
use Rattle.draid_session.proofs.Noted.{ahead_last, unsynced_last, ahead_in}
use Rattle.draid_session.proofs.Calm.{alike_by, calm_commit, hold_each, step_alike, IsCalm, CalmTo, IsCalmHold, calm_both, calm_follows, calm_more, Alike}
use Rattle.draid_session.proofs.Looked.{follows_split}
use Rattle.draid_session.proofs.Saying.{tells_change}
use Rattle.draid_session.specs.Keeping.{SaysObjects, bytes_in, IsInStep, UnsyncedIn, IsNoted, AreInStep, AreNoted, HasUnsynced, HasAhead, ShowsUnsynced, IsLowFloor, HasLowFloor, HasClosing, DropsAhead, KeepsOpen, IsUnderWay}

pub calm_steps : (x z : State) → CalmTo x z → AreInStep x → AreInStep z
calm_steps x z c steps k m there =
    let one = c.back k m there in
    let s = steps k one.0 one.1 in
    let group = c.committed in
    record {
      idle = λ none. one.2.group ∙ (s.idle (sym one.2.closing ∙ none) ∙ ap (λ n. n + 1) (sym group));
      busy = λ t some. (let b = s.busy t (sym one.2.closing ∙ some) in (b.0 ∙ ap (λ n. n + 1) (sym group), one.2.group ∙ b.1));
    }

pub calm_busy : (x z : State) → CalmTo x z → HasAhead x → HasAhead z
calm_busy x z c b =
    let one = c.each b.k b.y b.there in
    let closing = one.2.closing ∙ b.closing in
    record { k = b.k; y = one.0; group = b.group; there = one.1; closing = closing; ahead = ahead_in one.0 b.group closing (one.3.ahead (b.group, b.closing, b.ahead)) }

pub calm_floor : (x z : State) (floor : ℕ) → CalmTo x z → IsLowFloor x floor → IsLowFloor z floor
calm_floor x z floor c (inl low) = (let same = c.committed in inl (omega (arith, low, same)))
calm_floor x z floor c (inr busy) = (let same = c.committed in let low = busy.0 in inr (omega (arith, low, same), calm_busy x z c busy.1))

pub calm_closing : (x z : State) → CalmTo x z → HasClosing x → HasClosing z
calm_closing x z c b = (let one = c.each b.k b.y b.there in record { k = b.k; y = one.0; group = b.group; there = one.1; closing = one.2.closing ∙ b.closing })

pub calm_drops : (x z : State) (marks : List Mark) (floor : ℕ) → CalmTo x z → DropsAhead x marks floor → DropsAhead z marks floor
calm_drops x z marks floor c d = record {
  low = (let same = c.committed in let low = d.low in omega (arith, low, same));
  closes = calm_closing x z c d.closes;
  late = subst (λ n. HasLateMark (n + 1) marks) (sym c.committed) d.late;
  stands = d.stands;
}

pub calm_low : (x z : State) (marks : List Mark) (floor : ℕ) → CalmTo x z → HasLowFloor x marks floor → HasLowFloor z marks floor
calm_low x z marks floor c (inl low) = inl (calm_floor x z floor c low)
calm_low x z marks floor c (inr drops) = inr (calm_drops x z marks floor c drops)

pub calm_noted : (x z : State) → CalmTo x z → AreNoted x → AreNoted z
calm_noted x z c noted k m there = (let one = c.back k m there in one.3.noted (noted k one.0 one.1))

pub calm_unsynced : (x z : State) → CalmTo x z → HasUnsynced x → HasUnsynced z
calm_unsynced x z c u = (let one = c.each u.k u.y u.there in record { k = u.k; y = one.0; there = one.1; unsynced = one.3.unsynced u.unsynced })

calm_used : (x z : State) (store : Store) → CalmTo x z → ShowsUnsynced x store → ShowsUnsynced z store
calm_used x z store c (inl none) = inl (subst (λ n. All (λ d. group_of d ≤ n) store.changes) (sym c.committed) none.0, c.pending ∙ none.1)
calm_used x z store c (inr (inl unsynced)) = inr (inl (calm_unsynced x z c unsynced))
calm_used x z store c (inr (inr late)) = inr (inr (subst (λ n. HasLateMark n store.marks) (sym c.committed) late))

-- a group that is under way was so before
pub calm_under : (x z : State) → CalmTo x z → IsUnderWay z → IsUnderWay x
calm_under x z c (inl (k, y, group, there, closing)) = (let one = c.back k y there in inl (k, one.0, group, one.1, sym one.2.closing ∙ closing))
calm_under x z c (inr pending) = inr (sym c.pending ∙ pending)

pub calm_fit : (x z : State) (store : Store) (b : Book) → CalmTo x z → KeepsOpen x store b → KeepsOpen z store b
calm_fit x z store b c f = record {
  is_open = f.is_open;
  says = subst (λ n. SaysObjects n store.changes b) (sym c.committed) f.says;
  low = (let same = c.committed in let low = f.low in omega (arith, low, same));
  few = (let same = c.committed in let few = f.few in omega (arith, same, few));
  under = λ u. (let same = c.committed in let under = f.under (calm_under x z c u) in omega (arith, same, under));
  told = c.told ∙ f.told;
  some = (let same = c.committed in let some = f.some in omega (arith, some, same));
  steps = calm_steps x z c f.steps;
  inside = λ k y there. (let one = c.back k y there in subst (λ (g : Geometry). k < g.props.metaslabs) (sym c.geometry) (f.inside k one.0 one.1));
  place = (let one = c.each 0 f.place.0 f.place.1 in (one.0, one.1));
  noted = calm_noted x z c f.noted;
  shows = calm_used x z store c f.shows;
  groups = f.groups;
  floor = calm_low x z store.marks store.floor c f.floor;
}

calm_shows : (x z : State) (marks : List Mark) → CalmTo x z → HasUnsynced x ⊎ HasLateMark x.committed marks → HasUnsynced z ⊎ HasLateMark z.committed marks
calm_shows x z marks c (inl unsynced) = inl (calm_unsynced x z c unsynced)
calm_shows x z marks c (inr late) = inr (subst (λ n. HasLateMark n marks) (sym c.committed) late)

-- a call used a group: the greater of the one that was open in a metaslab and the floor
pub record Uses (x : State) (marks : List Mark) (floor group : ℕ) : Type 0 where
  pub later : x.committed < group
  pub above : floor ≤ group
  pub is_floor : HasLowFloor x marks group
  pub shows : HasUnsynced x ⊎ HasLateMark x.committed marks

pub uses_by : (v : View) (e : Event) (w : machine.State) (x z : State) (marks : List Mark) (floor group : ℕ) → IsCalm e → ((g : ℕ) → ends_group g e ≡ false) → (it : HoldsMetaslab v (Did e w) x z)
    → AreInStep x → AreNoted x → HasLowFloor x marks floor → group ≡ max it.before.world.open_group floor → Uses z marks floor group
uses_by v e w x z marks floor group calm other it steps noted low is = by it.before.world.closing refl low
  where
    calm_to : CalmTo x z
    calm_to = calm_follows (On v (Did e w) ∷ []) x z (calm, tt) (z, it, refl)

    same : z.committed ≡ x.committed
    same = calm_to.committed

    step : IsInStep x.committed it.before.world
    step = steps v.metaslab it.before it.there

    n : IsNoted it.before
    n = noted v.metaslab it.before it.there

    alike : Alike it.before.world it.after.world
    alike = alike_by it.before.world w it.after.world it.acts.world (step_alike (layout_of x.geometry x.perms v.metaslab) it.before.world e w calm it.acts.legal)

    there : slice_get z.metaslabs v.metaslab ≡ Some it.after
    there = elim (hold_each v (Did e w) x z it v.metaslab it.before it.there) [ inl own ↦ own.1 | inr not ↦ absurd (not.0 refl) ]

    unsynced : HasUnsynced z
    unsynced = record {
      k = v.metaslab;
      y = it.after;
      there = there;
      unsynced = subst (λ es. UnsyncedIn it.after.world.committed es) (sym it.acts.stored) (subst (λ c. UnsyncedIn c (it.before.events ++ e ∷ [])) (sym alike.committed)
          (unsynced_last it.before.world.committed it.before.world.closing it.before.events e n (calm_commit e calm) (other it.before.world.committed)));
    }

    busy : (t : ℕ) → it.before.world.closing ≡ Some t → HasAhead z
    busy t some = record {
      k = v.metaslab;
      y = it.after;
      group = t;
      there = there;
      closing = alike.closing ∙ some;
      ahead = subst (λ es. has_other t (behind_close t es) ≡ true) (sym it.acts.stored) (ahead_last it.before.world.committed it.before.world.closing it.before.events e t n some (other t));
    }

    by : (o : Option ℕ) → it.before.world.closing ≡ o → HasLowFloor x marks floor → Uses z marks floor group
    by None none (inl (inl l)) =
        (let at = same in let open_group = step.idle none in record { later = omega (arith, open_group, is, at); above = omega (arith, is); is_floor = inl (inl (omega (arith, open_group, is, l, at))); shows = inl unsynced })
    by None none (inl (inr l)) =
        (let at = same in let open_group = step.idle none in let l0 = l.0 in
        record { later = omega (arith, open_group, is, at); above = omega (arith, is); is_floor = inl (inr (omega (arith, open_group, is, l0, at), calm_busy x z calm_to l.1)); shows = inl unsynced })
    by (Some t) some (inl (inl l)) =
        (let at = same in let s = step.busy t some in let s0 = s.0 in let s1 = s.1 in
        record { later = omega (arith, s0, s1, is, at); above = omega (arith, is); is_floor = inl (inr (omega (arith, s0, s1, is, l, at), busy t some)); shows = inl unsynced })
    by (Some t) some (inl (inr l)) =
        (let at = same in let s = step.busy t some in let s0 = s.0 in let s1 = s.1 in let l0 = l.0 in
        record { later = omega (arith, s0, s1, is, at); above = omega (arith, is); is_floor = inl (inr (omega (arith, s0, s1, is, l0, at), calm_busy x z calm_to l.1)); shows = inl unsynced })
    by None none (inr d) =
        (let at = same in let open_group = step.idle none in let low = d.low in
        record { later = omega (arith, open_group, is, at); above = omega (arith, is); is_floor = inr (record { low = omega (arith, open_group, is, low, at); closes = calm_closing x z calm_to d.closes; late = (calm_drops x z marks floor calm_to d).late; stands = d.stands }); shows = inl unsynced })
    by (Some t) some (inr d) =
        (let at = same in let s = step.busy t some in let s0 = s.0 in let s1 = s.1 in let low = d.low in
        record { later = omega (arith, s0, s1, is, at); above = omega (arith, is); is_floor = inl (inr (omega (arith, s0, s1, is, low, at), busy t some)); shows = inl unsynced })

uses_calm : (x z : State) (marks : List Mark) (floor group : ℕ) → CalmTo x z → Uses x marks floor group → Uses z marks floor group
uses_calm x z marks floor group c u =
    (let same = c.committed in let later = u.later in record { later = omega (arith, later, same); above = u.above; is_floor = calm_low x z marks group c u.is_floor; shows = calm_shows x z marks c u.shows })

-- a change of an object, in a group that a call uses, where the floor comes to be one that it uses then
pub fit_change : (x : State) (c : Change) (store new : Store) (b : Book) → KeepsOpen x store b → x.committed < group_of c → store.floor ≤ group_of c → group_of c ≤ new.floor → store.floor ≤ new.floor
    → HasLowFloor x new.marks new.floor → HasUnsynced x ⊎ HasLateMark x.committed new.marks
    → new.changes ≡ c ∷ store.changes → (object : ℕ) (bytes : Option (List ℕ)) → object_of c ≡ object
    → bytes_in (write_in (Some c)) ≡ bytes → KeepsOpen x new (changed object bytes b)
fit_change x c store new b f later last within above floor shown made object bytes o is = record {
  is_open = f.is_open;
  says = subst (λ cs. SaysObjects x.committed cs (changed object bytes b)) (sym made)
      (subst (λ n. SaysObjects x.committed (c ∷ store.changes) (changed n bytes b)) o
      (subst (λ w. SaysObjects x.committed (c ∷ store.changes) (changed (object_of c) w b)) is (tells_change x.committed c store.changes b later (All-weaker (λ d. group_of d ≤ store.floor) (λ d. group_of d ≤ group_of c) (λ d less. omega (arith, less, last)) store.changes f.groups) f.says)));
  low = f.low;
  few = f.few;
  under = f.under;
  told = f.told;
  some = f.some;
  steps = f.steps;
  inside = f.inside;
  place = f.place;
  noted = f.noted;
  shows = inr shown;
  groups = subst (All (λ d. group_of d ≤ new.floor)) (sym made)
      (All-cons (λ d. group_of d ≤ new.floor) c store.changes within (All-weaker (λ d. group_of d ≤ store.floor) (λ d. group_of d ≤ new.floor) (λ d less. omega (arith, less, above)) store.changes f.groups));
  floor = floor;
}

-- only the floor rises
pub fit_floor : (x : State) (store new : Store) (b : Book) → KeepsOpen x store b → store.floor ≤ new.floor → HasLowFloor x new.marks new.floor → HasUnsynced x ⊎ HasLateMark x.committed new.marks
    → new.changes ≡ store.changes → KeepsOpen x new b
fit_floor x store new b f above floor shown made = record {
  is_open = f.is_open;
  says = subst (λ cs. SaysObjects x.committed cs b) (sym made) f.says;
  low = f.low;
  few = f.few;
  under = f.under;
  told = f.told;
  some = f.some;
  steps = f.steps;
  inside = f.inside;
  place = f.place;
  noted = f.noted;
  shows = inr shown;
  groups = subst (All (λ d. group_of d ≤ new.floor)) (sym made) (All-weaker (λ d. group_of d ≤ store.floor) (λ d. group_of d ≤ new.floor) (λ d less. omega (arith, less, above)) store.changes f.groups);
  floor = floor;
}

-- ---- holds of writes and frees

pub looks_from_calm : (m n : ℕ) (holds : List Hold) (views : List View) → LooksFrom m n holds views → AllOf IsCalmHold holds
looks_from_calm m zero holds views looks = subst (AllOf IsCalmHold) (sym looks.0) tt
looks_from_calm m (suc n) holds views looks =
    subst (AllOf IsCalmHold) (sym looks.4) (subst IsCalmHold (sym looks.6.looked) tt, looks_from_calm (m + 1) n looks.1 looks.3 looks.7)

pub puts_calm : (key : _) (m n : ℕ) (holds : List Hold) → PutsColumns key m n holds → AllOf IsCalmHold holds
puts_calm key m zero holds puts = subst (AllOf IsCalmHold) (sym puts) tt
puts_calm key m (suc n) holds puts = subst (AllOf IsCalmHold) (sym puts.2) (subst IsCalmHold (sym puts.3.did) tt, puts_calm key m n puts.1 puts.4)

-- a further mark
late_more : (n : ℕ) (mark : Mark) (marks : List Mark) → HasLateMark n marks → HasLateMark n (mark ∷ marks)
late_more n mark marks late = record { mark = late.mark; there = Contains-append_right (mark ∷ []) marks late.mark late.there; late = late.late }

pub low_two : (x : State) (marks : List Mark) (floor : ℕ) → HasLowFloor x marks floor → floor ≤ x.committed + 2
low_two x marks floor (inl (inl low)) = omega (arith, low)
low_two x marks floor (inl (inr busy)) = busy.0
low_two x marks floor (inr drops) = drops.low

-- a block is freed
pub frees_uses : (marks : List Mark) (w : Write) (floor group : ℕ) (holds : List Hold) (x z : State) → FreesBlock w floor group holds → Follows holds x z → AreInStep x → AreNoted x
    → HasLowFloor x marks floor → Uses z marks floor group × CalmTo x z
frees_uses marks w floor group holds x z f follows steps noted low =
    let all : Follows (On f.v (Did (event.Free (key_of w) group) f.after) ∷ []) x z = subst (λ hs. Follows hs x z) f.did follows in
    let it = all.1 in
    let calm : CalmTo x z = calm_follows (On f.v (Did (event.Free (key_of w) group) f.after) ∷ []) x z (tt, tt) all in
    let is : group ≡ max it.before.world.open_group floor = f.group_is ∙ ap (λ (v : View). max v.world.open_group floor) it.sees in
    let u = uses_by f.v (event.Free (key_of w) group) f.after x all.0 marks floor group tt (λ g. refl) it steps noted low is in
    (subst (λ (s : State). Uses s marks floor group) (sym all.2) u, calm)

-- it is dropped
drops_uses : (marks : List Mark) (w : Write) (floor group : ℕ) (holds : List Hold) (x z : State) → KeepsBirth marks w.birth → DropsBlock w floor group holds → Follows holds x z → AreInStep x
    → HasLowFloor x marks floor → Uses z (Dropped (key_of w) group ∷ marks) floor group × CalmTo x z
drops_uses marks w floor group holds x z kept d follows steps low = (by it.before.world.closing refl low, calm)
  where
    after : List Mark
    after = Dropped (key_of w) group ∷ marks

    all : Follows (On d.v Looked ∷ []) x z
    all = subst (λ hs. Follows hs x z) d.looked follows

    it : HoldsMetaslab d.v Looked x all.0
    it = all.1

    calm : CalmTo x z
    calm = calm_follows (On d.v Looked ∷ []) x z (tt, tt) all

    is : group ≡ max it.before.world.open_group floor
    is = d.group_is ∙ ap (λ (v : View). max v.world.open_group floor) it.sees

    step : IsInStep x.committed it.before.world
    step = steps d.v.metaslab it.before it.there

    there : check_by after ≢ None
    there none = (let has = ap (option_map (drops_in (key_of w))) kept.1 in let both = sym none ∙ has in cc)

    mark : (n : ℕ) → n < group → HasLateMark n after
    mark n less = record { mark = Dropped (key_of w) group; there = (0, omega arith, refl); late = less }

    by : (o : Option ℕ) → it.before.world.closing ≡ o → HasLowFloor x marks floor → Uses z after floor group
    by None none (inl (inl l)) =
        (let at = calm.committed in let open_group = step.idle none in record { later = omega (arith, open_group, is, at); above = omega (arith, is); is_floor = inl (inl (omega (arith, open_group, is, l, at))); shows = inr (mark z.committed (omega (arith, open_group, is, at))) })
    by None none (inl (inr l)) =
        (let at = calm.committed in let open_group = step.idle none in let l0 = l.0 in
        record { later = omega (arith, open_group, is, at); above = omega (arith, is); is_floor = inl (inr (omega (arith, open_group, is, l0, at), calm_busy x z calm l.1)); shows = inr (mark z.committed (omega (arith, open_group, is, at))) })
    by None none (inr e) =
        (let at = calm.committed in let open_group = step.idle none in let low = e.low in let old = calm_drops x z marks floor calm e in
        record { later = omega (arith, open_group, is, at); above = omega (arith, is); is_floor = inr (record { low = omega (arith, open_group, is, low, at); closes = old.closes; late = late_more (z.committed + 1) (Dropped (key_of w) group) marks old.late; stands = there }); shows = inr (mark z.committed (omega (arith, open_group, is, at))) })
    by (Some t) some l =
        (let at = calm.committed in let s = step.busy t some in let s0 = s.0 in let s1 = s.1 in let high = low_two x marks floor l in
        record {
          later = omega (arith, s0, s1, is, at);
          above = omega (arith, is);
          is_floor = inr (record {
            low = omega (arith, s0, s1, is, high, at);
            closes = calm_closing x z calm (record { k = d.v.metaslab; y = it.before; group = t; there = it.there; closing = some });
            late = mark (z.committed + 1) (omega (arith, s0, s1, is, at));
            stands = there;
          });
          shows = inr (mark z.committed (omega (arith, s0, s1, is, at)));
        })

-- the one or the other
pub leaves_uses : (marks after : List Mark) (w : Write) (floor group : ℕ) (holds : List Hold) (x z : State) → LeavesBlock marks w floor group holds after → Follows holds x z → AreInStep x → AreNoted x
    → HasLowFloor x marks floor → Uses z after floor group × CalmTo x z
leaves_uses marks after w floor group holds x z (inl f) follows steps noted low =
    subst (λ ms. Uses z ms floor group × CalmTo x z) (sym f.2) (frees_uses marks w floor group holds x z f.1 follows steps noted low)
leaves_uses marks after w floor group holds x z (inr d) follows steps noted low =
    subst (λ ms. Uses z ms floor group × CalmTo x z) (sym d.2) (drops_uses marks w floor group holds x z d.0 d.1 follows steps low)

pub low_by : (z : State) (marks : List Mark) (new : Store) (group : ℕ) → new.marks ≡ marks → new.floor ≡ group → HasLowFloor z marks group → HasLowFloor z new.marks new.floor
low_by z marks new group same floor low = subst (HasLowFloor z new.marks) (sym floor) (subst (λ ms. HasLowFloor z ms group) (sym same) low)

pub shown_by : (z : State) (marks : List Mark) (new : Store) → new.marks ≡ marks → HasUnsynced z ⊎ HasLateMark z.committed marks → HasUnsynced z ⊎ HasLateMark z.committed new.marks
shown_by z marks new same shows = subst (λ ms. HasUnsynced z ⊎ HasLateMark z.committed ms) (sym same) shows

-- what an event of a write shows stays with the marks
pub shown_more : (z : State) (marks after : List Mark) → ((n : ℕ) → HasLateMark n marks → HasLateMark n after) → HasUnsynced z ⊎ HasLateMark z.committed marks → HasUnsynced z ⊎ HasLateMark z.committed after
shown_more z marks after more (inl unsynced) = inl unsynced
shown_more z marks after more (inr late) = inr (more z.committed late)

-- behind a block that is left there are the marks from before
pub leaves_more : (marks after : List Mark) (w : Write) (floor group : ℕ) (holds : List Hold) → LeavesBlock marks w floor group holds after → (n : ℕ) → HasLateMark n marks → HasLateMark n after
leaves_more marks after w floor group holds (inl f) n late = subst (HasLateMark n) (sym f.2) late
leaves_more marks after w floor group holds (inr d) n late = subst (HasLateMark n) (sym d.2) (late_more n (Dropped (key_of w) group) marks late)

pub earlier_more : (marks after : List Mark) (o : Option Write) (floor group : ℕ) (holds : List Hold) → LeavesEarlier marks o floor group holds after → (n : ℕ) → HasLateMark n marks → HasLateMark n after
earlier_more marks after None floor group holds f n late = subst (HasLateMark n) (sym f.2) late
earlier_more marks after (Some w) floor group holds f n late = leaves_more marks after w floor group holds f n late

pub frees_fit : (object : ℕ) (old new : Store) (holds : List Hold) (x z : State) (b : Book) → Frees object old holds new → Follows holds x z → KeepsOpen x old b
    → KeepsOpen z new (changed object None b)
frees_fit object old new holds x z b f follows fit =
    let u = leaves_uses old.marks f.marks f.w old.floor f.group holds x z f.leaves follows fit.steps fit.noted fit.floor in
    let c : Change = Freed object f.group in
    let low : f.group ≤ new.floor = (let made = ap (λ (s : Store). s.floor) f.made in omega (arith, made)) in
    let above : old.floor ≤ new.floor = (let a = u.0.above in omega (arith, a, low)) in
    fit_change z c old new b (calm_fit x z old b u.1 fit) u.0.later u.0.above low above (low_by z f.marks new f.group (ap (λ (s : Store). s.marks) f.made) (ap (λ (s : Store). s.floor) f.made) u.0.is_floor) (shown_by z f.marks new (ap (λ (s : Store). s.marks) f.made) u.0.shows) (ap (λ (s : Store). s.changes) f.made) object None refl refl

module _ (geometry : Geometry) (perms : Perms) (chosen : List Room → Option ℕ → Type 0) where
  -- a block is tried
  pub tries_uses : (object : ℕ) (bytes : List ℕ) (old : Store) (m birth columns : ℕ) (holds : List Hold) (x z : State)
      → Tries geometry perms chosen object bytes old m birth columns holds
      → Follows holds x z → AreInStep x → AreNoted x → HasLowFloor x old.marks old.floor → Uses z old.marks old.floor birth × CalmTo x z
  tries_uses object bytes old m birth columns holds x z t follows steps noted low =
      let parts = follows_split t.looks t.written x z (subst (λ hs. Follows hs x z) t.are follows) in
      let s = parts.0 in
      let looked : CalmTo x s = calm_follows t.looks x s (looks_from_calm 0 geometry.props.metaslabs t.looks t.chooses.views t.chooses.looked.looked) parts.1 in
      let w = t.writes in
      let all = subst (λ hs. Follows hs s z) w.are parts.2 in
      let it = all.1 in
      let is : birth ≡ max it.before.world.open_group old.floor = w.birth_is ∙ ap (λ (v : View). max v.world.open_group old.floor) it.sees in
      let rest : AllOf IsCalmHold (w.puts ++ On w.last (Did (event.Finish w.key) w.ended) ∷ []) =
      calm_both w.puts (On w.last (Did (event.Finish w.key) w.ended) ∷ []) (puts_calm w.key m geometry.g w.puts w.all_put) (tt, tt) in
      let u = uses_by w.v (event.Begin w.key w.first (stripes_for geometry bytes) (length bytes) birth (sha256 bytes)) w.begun s all.0 old.marks old.floor birth tt (λ g. refl) it (calm_steps x s looked steps)
      (calm_noted x s looked noted) (calm_low x s old.marks old.floor looked low) is in
      let calm : CalmTo s z = calm_follows t.written s z (subst (AllOf IsCalmHold) (sym w.are) (tt, rest)) parts.2 in
      (uses_calm all.0 z old.marks old.floor birth (calm_follows (w.puts ++ On w.last (Did (event.Finish w.key) w.ended) ∷ []) all.0 z rest all.2) u, calm_more x s z looked calm)

  pub earlier_uses : (marks after : List Mark) (o : Option Write) (floor group : ℕ) (holds : List Hold) (x z : State) → LeavesEarlier marks o floor group holds after → Follows holds x z → AreInStep x → AreNoted x
      → HasLowFloor x marks floor
      → (floor ≤ group) × HasLowFloor z after group × CalmTo x z
  earlier_uses marks after None floor group holds x z f follows steps noted low =
      let calm : CalmTo x z = calm_follows holds x z (subst (AllOf IsCalmHold) (sym f.0) tt) follows in
      let same = f.1 in
      (omega (arith, same), subst (λ ms. HasLowFloor z ms group) (sym f.2) (calm_low x z marks group calm (subst (HasLowFloor x marks) (sym same) low)), calm)
  earlier_uses marks after (Some w) floor group holds x z f follows steps noted low = (let u = leaves_uses marks after w floor group holds x z f follows steps noted low in (u.0.above, u.0.is_floor, u.1))

  pub writes_fit : (object : ℕ) (bytes : List ℕ) (old new : Store) (holds : List Hold) (x z : State) (b : Book) → Writes geometry perms chosen object bytes old holds new
      → Follows holds x z
      → KeepsOpen x old b → KeepsOpen z new (changed object (Some bytes) b)
  writes_fit object bytes old new holds x z b w follows fit =
      let parts = follows_split w.tried w.freed x z (subst (λ hs. Follows hs x z) w.are follows) in
      let a = parts.0 in
      let t = tries_uses object bytes old w.m w.birth w.columns w.tried x a w.tries parts.1 fit.steps fit.noted fit.floor in
      let e = earlier_uses old.marks w.marks (write_of old.changes object) w.birth w.group w.freed a z w.leaves parts.2 (calm_steps x a t.1 fit.steps) (calm_noted x a t.1 fit.noted) t.0.is_floor in
      let calm : CalmTo x z = calm_more x a z t.1 e.2 in
      let later : z.committed < w.birth = (uses_calm a z old.marks old.floor w.birth e.2 t.0).later in
      let made : new.floor ≡ w.group = ap (λ (s : Store). s.floor) w.made in
      let within : w.birth ≤ new.floor = (let e0 = e.0 in omega (arith, e0, made)) in
      let above : old.floor ≤ new.floor = (let t0 = t.0.above in omega (arith, t0, within)) in
      fit_change z (Wrote (record { object = object; seq = old.seq + 1; metaslab = w.m; birth = w.birth; bytes = bytes })) old new b (calm_fit x z old b calm fit) later t.0.above within above
      (low_by z w.marks new w.group (ap (λ (s : Store). s.marks) w.made) made e.1) (shown_by z w.marks new (ap (λ (s : Store). s.marks) w.made) (shown_more z old.marks w.marks (earlier_more old.marks w.marks (write_of old.changes object) w.birth w.group w.freed w.leaves) (uses_calm a z old.marks old.floor w.birth e.2 t.0).shows)) (ap (λ (s : Store). s.changes) w.made) object (Some bytes) refl refl

  pub fills_fit : (content : ℕ → List ℕ) (first n : ℕ) (old new : Store) (holds : List Hold) (x z : State) (b : Book)
      → Fills geometry perms chosen content first n old holds new → Follows holds x z
      → KeepsOpen x old b → KeepsOpen z new (filled content first n b)
  fills_fit content first zero old new holds x z b f follows fit =
      let is : z ≡ x = subst (λ hs. Follows hs x z) f.0 follows in
      subst (λ (s : State). KeepsOpen s new b) (sym is) (subst (λ s. KeepsOpen x s b) (sym f.1) fit)
  fills_fit content first (suc n) old new holds x z b f follows fit =
      let parts = follows_split f.0 f.1 x z (subst (λ hs. Follows hs x z) f.3 follows) in
      writes_fit (first + n) (content (first + n)) f.2 new f.1 parts.0 z (filled content first n b) f.5 parts.2 (fills_fit content first n old f.2 f.0 x parts.0 b f.4 parts.1 fit)
