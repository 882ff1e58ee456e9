-- Each kind of step keeps the first part of the rule: the tickets and where the value is.
use Rattle.std.proofs.Common.{◌≡◌, ◌≢◌, ℕ, zero, suc, ◌+◌, ◌^◌, ◌<◌, ◌⊎◌, inl, inr, ⊎_elim, List, [], ◌∷◌, ◌++◌, length, get_or, set, sym, refl, ap, ◌∙◌, subst, arith, nat_eq, lit<, length-set, get_or-set_other, get_or-set_same, Option, Some}
use mathlib.Core.Option.{none, some, some-injective, some-ne-none}
use mathlib.Core.Logic.{dite}
use native.Mathlib.Decide.{ℕ_discrete}
use lib.ListN.{get_elem?}
use lib.Seq.{set-get_or}
use Rattle.atomic_table.specs.Table.{State, keeps, takes, gives, stepped, opening}
use Rattle.atomic_table.proofs.Lists.{at_longer, set_here, set_else}
use Rattle.draid_turn.specs.declared.view.SeatStage.{SeatStage}
use Rattle.draid_turn.specs.declared.view.SeatStage.TheVariants.{Idle, Waiting, Holding}
use Rattle.draid_turn.specs.declared.view.SeatView.{SeatView}
use Rattle.draid_turn.specs.Lists.{Each, StartsWith, one_if, one_within}
use Rattle.draid_turn.specs.Rule.{AtHome, Away, HoldsNothing, IsServed, TurnsInOrder, has_ticket, is_ticket}
use Rattle.draid_turn.specs.Views.{served_view, holding_view, told_view, waiting_view}
use Rattle.draid_turn.proofs.Beginnings.{starts_further, starts_self}
use Rattle.draid_turn.proofs.Sums.{count_at, count_one, count_push, count_set, count_two, each_push, each_set, one_if_same, within_bounds, within_down, within_empty, within_most, within_up}

abbrev pub ticket_of : SeatStage → ℕ
ticket_of Idle = 0
ticket_of (Waiting t) = t
ticket_of (Holding t) = t

pub there_inside : {A : Type 0} (l : List A) (i : ℕ) (a : A) → get_elem? l i ≡ some a → i < length l
there_inside [] i a e = absurd (some-ne-none a (sym e))
there_inside (x ∷ xs) zero a e = omega arith
there_inside (x ∷ xs) (suc i) a e = let h = there_inside xs i a e in omega arith

served_else : (old new : ℕ) (s : SeatStage) → HoldsNothing s → IsServed old s → IsServed new s
served_else old new Idle h i = tt
served_else old new (Waiting t) h i = tt
served_else old new (Holding t) h i = absurd h

-- who has its turn has the ticket that is served
at_turn : (n : ℕ) (s : SeatStage) → IsServed n s → HoldsNothing s ⊎ (one_if (is_ticket n s) ≡ 1)
at_turn n Idle h = inl tt
at_turn n (Waiting t) h = inl tt
at_turn n (Holding t) h = inr (ap (λ k. one_if (nat_eq k n)) h ∙ one_if_same n)

module _ {T E : Type 0} (fact : List E → T → Type 0) where
  abbrev V : Type 0
  V = SeatView E

  abbrev St : Type 0
  St = State (Option T) V

  abbrev serves : St → ℕ
  serves s = get_or s.words 1 0

  -- A ticket is drawn.
  pub drawn_turns : (log : List E) (s : St) (r : TurnsInOrder fact log s) (id new : ℕ) (v : V) → get_elem? s.views id ≡ some v → v.stage ≡ Idle → new ≡ get_or s.words 0 0 + 1 → new < 2 ^ 64
      → TurnsInOrder fact log (stepped s 0 new id [] (waiting_view (get_or s.words 0 0) v) keeps)
  drawn_turns log s r id new v at idle up small =
      let old : ℕ = get_or s.words 0 0 in
      let w : V = waiting_view old v in
      let wide = r.wide in
      let ordered = r.ordered in
      let next : get_or (set s.words 0 new) 0 0 ≡ new = get_or-set_same s.words 0 new 0 (omega arith) in
      let same : get_or (set s.words 0 new) 1 0 ≡ serves s = get_or-set_other s.words 0 1 new 0 (λ e. omega arith) in
      let none_had : one_if (has_ticket v.stage) ≡ 0 = ap (λ z. one_if (has_ticket z)) idle in
      let tally = count_set (λ (d : V). has_ticket d.stage) s.views id v w at in
      let drawn = r.drawn in
      let served : Each (λ (d : V). IsServed (serves s) d.stage) (set s.views id w) = each_set (λ (d : V). IsServed (serves s) d.stage) (λ (d : V). IsServed (serves s) d.stage) s.views id w r.served (λ j d n e h. h) tt in
      record {
        wide = length-set s.words 0 new ∙ wide;
        deep = r.deep;
        fits = omega arith;
        ordered = omega arith;
        drawn = omega arith;
        tickets = λ n.
            let t = count_set (λ (d : V). is_ticket n d.stage) s.views id v w at in
            let had : one_if (is_ticket n v.stage) ≡ 0 = ap (λ z. one_if (is_ticket n z)) idle in
            let was = r.tickets n in
            let more : one_within (serves s) new n ≡ one_within (serves s) old n + one_if (nat_eq old n) = within_up (serves s) old new n up ordered in
            let now_is : one_within (get_or (set s.words 0 new) 1 0) (get_or (set s.words 0 new) 0 0) n ≡ one_within (serves s) new n = ap (λ (z : ℕ × ℕ). one_within z.0 z.1 n) (λ k. (same k, next k)) in
            omega (arith, now_is, more, t, had, was);
        served = subst (λ z. Each (λ (d : V). IsServed z d.stage) (set s.views id w)) (sym same) served;
        behind = each_set (λ (d : V). StartsWith log d.seen) (λ (d : V). StartsWith log d.seen) s.views id w r.behind (λ j d n e h. h) (r.behind id v at);
        heard = each_set (λ (d : V). StartsWith log d.heard) (λ (d : V). StartsWith log d.heard) s.views id w r.heard (λ j d n e h. h) (r.heard id v at);
        slot = ⊎_elim
            (λ (h : AtHome fact log s). inl record {
              value = h.value;
              there = h.there;
              kept = h.kept;
              nobody = each_set (λ (d : V). HoldsNothing d.stage) (λ (d : V). HoldsNothing d.stage) s.views id w h.nobody (λ j d n e g. g) tt;
            })
            (λ (a : Away fact log s). inr record {
              seat = a.seat;
              ticket = a.ticket;
              who = a.who;
              there = set_else s.views id a.seat w
                  (λ is. let same : v ≡ a.who = some-injective v a.who (sym at ∙ (ap (λ z. get_elem? s.views z) (sym is) ∙ a.there)) in
                  let clash : Idle ≡ Holding a.ticket = sym idle ∙ (ap (λ (d : V). d.stage) same ∙ a.holding) in cc) ∙ a.there;
              holding = a.holding;
              whole = a.whole;
            })
            r.slot;
      }

  -- the words are as they were
  pub same_words : (P : List ℕ → Type 0) (ws : List ℕ) (i : ℕ) → P ws → P (set ws i (get_or ws i 0))
  same_words P ws i h = subst P (sym (set-get_or ws i 0)) h

  -- of two seats that have the ticket that is served, one is the other
  one_seat : (log : List E) (s : St) (r : TurnsInOrder fact log s) (i j : ℕ) (a b : V) → get_elem? s.views i ≡ some a → get_elem? s.views j ≡ some b
      → one_if (is_ticket (serves s) a.stage) ≡ 1 → one_if (is_ticket (serves s) b.stage) ≡ 1 → i ≡ j
  one_seat log s r i j a b e e' p q = dite (ℕ_discrete i j) (λ is. is)
      (λ not.
      let two = count_two (λ (d : V). is_ticket (serves s) d.stage) s.views i j a b not e e' in
      let is = r.tickets (serves s) in
      let most = within_most (serves s) (get_or s.words 0 0) (serves s) in
      absurd (omega (arith, p, q)))

  pub turn_served : (log : List E) (s : St) (r : TurnsInOrder fact log s) (id t : ℕ) (v : V) → get_elem? s.views id ≡ some v → v.stage ≡ Holding t → t ≡ serves s
  turn_served log s r id t v at on = subst (IsServed (serves s)) on (r.served id v at)

  has_turn : (s : St) (t : ℕ) (v : V) → v.stage ≡ Holding t → t ≡ serves s → one_if (is_ticket (serves s) v.stage) ≡ 1
  has_turn s t v on is = ap (λ z. one_if (is_ticket (serves s) z)) on ∙ (ap (λ k. one_if (nat_eq k (serves s))) is ∙ one_if_same (serves s))

  seat_view : (s : St) (i j : ℕ) (a b : V) → get_elem? s.views i ≡ some a → get_elem? s.views j ≡ some b → i ≡ j → a ≡ b
  seat_view s i j a b e e' is = some-injective a b (sym e ∙ (ap (λ k. get_elem? s.views k) is ∙ e'))

  queued_holding : (a b : ℕ) → Waiting a ≡ Holding b → ⊥
  queued_holding a b e = cc

  idle_holding : (b : ℕ) → Idle ≡ Holding b → ⊥
  idle_holding b e = cc

  not_holding : (t : ℕ) (s : SeatStage) → s ≡ Holding t → HoldsNothing s → ⊥
  not_holding t s is h = subst HoldsNothing is h

  -- who has its turn has the value, and has seen all of its events
  pub holder_whole : (log : List E) (s : St) (r : TurnsInOrder fact log s) (id t : ℕ) (v : V) → get_elem? s.views id ≡ some v → v.stage ≡ Holding t → v.seen ≡ log
  holder_whole log s r id t v at on = ⊎_elim
      (λ (h : AtHome fact log s). absurd (not_holding t v.stage on (h.nobody id v at)))
      (λ (a : Away fact log s).
      let mine = has_turn s t v on (turn_served log s r id t v at on) in
      let theirs = has_turn s a.ticket a.who a.holding (turn_served log s r a.seat a.ticket a.who a.there a.holding) in
      ap (λ (d : V). d.seen) (seat_view s id a.seat v a.who at a.there (one_seat log s r id a.seat v a.who at a.there mine theirs)) ∙ a.whole)
      r.slot

  -- a seat that waits for the ticket that is served finds the value at home
  pub at_home : (log : List E) (s : St) (r : TurnsInOrder fact log s) (id t : ℕ) (v : V) → get_elem? s.views id ≡ some v → v.stage ≡ Waiting t → t ≡ serves s → AtHome fact log s
  at_home log s r id t v at on now = ⊎_elim (λ (h : AtHome fact log s). h)
      (λ (a : Away fact log s).
      let mine : one_if (is_ticket (serves s) v.stage) ≡ 1 = ap (λ z. one_if (is_ticket (serves s) z)) on ∙ (ap (λ k. one_if (nat_eq k (serves s))) now ∙ one_if_same (serves s)) in
      let theirs = has_turn s a.ticket a.who a.holding (turn_served log s r a.seat a.ticket a.who a.there a.holding) in
      let same = seat_view s id a.seat v a.who at a.there (one_seat log s r id a.seat v a.who at a.there mine theirs) in
      absurd (queued_holding t a.ticket (sym on ∙ (ap (λ (d : V). d.stage) same ∙ a.holding))))
      r.slot

  -- a view was changed, but for its stage
  pub touched_turns : (log : List E) (s : St) (r : TurnsInOrder fact log s) (id : ℕ) (v w : V) → get_elem? s.views id ≡ some v → w.stage ≡ v.stage → StartsWith log w.seen → StartsWith log w.heard
      → ((t : ℕ) → v.stage ≡ Holding t → v.seen ≡ log → w.seen ≡ log) → TurnsInOrder fact log record { words = s.words; homes = s.homes; views = set s.views id w }
  touched_turns log s r id v w at st seen told whole = record {
    wide = r.wide;
    deep = r.deep;
    fits = r.fits;
    ordered = r.ordered;
    drawn =
        let t = count_set (λ (d : V). has_ticket d.stage) s.views id v w at in
        let same : one_if (has_ticket w.stage) ≡ one_if (has_ticket v.stage) = ap (λ z. one_if (has_ticket z)) st in
        let was = r.drawn in omega (arith, t, same, was);
    tickets = λ n.
        let t = count_set (λ (d : V). is_ticket n d.stage) s.views id v w at in
        let same : one_if (is_ticket n w.stage) ≡ one_if (is_ticket n v.stage) = ap (λ z. one_if (is_ticket n z)) st in
        let was = r.tickets n in omega (arith, t, same, was);
    served = each_set (λ (d : V). IsServed (serves s) d.stage) (λ (d : V). IsServed (serves s) d.stage) s.views id w r.served (λ j d n e h. h) (subst (IsServed (serves s)) (sym st) (r.served id v at));
    behind = each_set (λ (d : V). StartsWith log d.seen) (λ (d : V). StartsWith log d.seen) s.views id w r.behind (λ j d n e h. h) seen;
    heard = each_set (λ (d : V). StartsWith log d.heard) (λ (d : V). StartsWith log d.heard) s.views id w r.heard (λ j d n e h. h) told;
    slot = ⊎_elim
        (λ (h : AtHome fact log s). inl record {
          value = h.value;
          there = h.there;
          kept = h.kept;
          nobody = each_set (λ (d : V). HoldsNothing d.stage) (λ (d : V). HoldsNothing d.stage) s.views id w h.nobody (λ j d n e g. g) (subst HoldsNothing (sym st) (h.nobody id v at));
        })
        (λ (a : Away fact log s). inr (dite (ℕ_discrete a.seat id)
        (λ is.
        let same : a.who ≡ v = seat_view s a.seat id a.who v a.there at is in
        let on : v.stage ≡ Holding a.ticket = ap (λ (d : V). d.stage) (sym same) ∙ a.holding in
        record {
          seat = id;
          ticket = a.ticket;
          who = w;
          there = set_here s.views id w (there_inside s.views id v at);
          holding = st ∙ on;
          whole = whole a.ticket on (ap (λ (d : V). d.seen) (sym same) ∙ a.whole);
        })
        (λ not. record {
          seat = a.seat;
          ticket = a.ticket;
          who = a.who;
          there = set_else s.views id a.seat w not ∙ a.there;
          holding = a.holding;
          whole = a.whole;
        })))
        r.slot;
  }

  -- one more idle seat
  pub added_turns : (log : List E) (s : St) (r : TurnsInOrder fact log s) (w : V) → w.stage ≡ Idle → StartsWith log w.seen → StartsWith log w.heard
      → TurnsInOrder fact log record { words = s.words; homes = s.homes; views = s.views ++ w ∷ [] }
  added_turns log s r w idle seen told = record {
    wide = r.wide;
    deep = r.deep;
    fits = r.fits;
    ordered = r.ordered;
    drawn =
        let t = count_push (λ (d : V). has_ticket d.stage) s.views w in
        let z : one_if (has_ticket w.stage) ≡ 0 = ap (λ z. one_if (has_ticket z)) idle in
        let was = r.drawn in omega (arith, t, z, was);
    tickets = λ n.
        let t = count_push (λ (d : V). is_ticket n d.stage) s.views w in
        let z : one_if (is_ticket n w.stage) ≡ 0 = ap (λ z. one_if (is_ticket n z)) idle in
        let was = r.tickets n in omega (arith, t, z, was);
    served = each_push (λ (d : V). IsServed (serves s) d.stage) s.views w r.served (subst (IsServed (serves s)) (sym idle) tt);
    behind = each_push (λ (d : V). StartsWith log d.seen) s.views w r.behind seen;
    heard = each_push (λ (d : V). StartsWith log d.heard) s.views w r.heard told;
    slot = ⊎_elim
        (λ (h : AtHome fact log s). inl record {
          value = h.value;
          there = h.there;
          kept = h.kept;
          nobody = each_push (λ (d : V). HoldsNothing d.stage) s.views w h.nobody (subst HoldsNothing (sym idle) tt);
        })
        (λ (a : Away fact log s). inr record { seat = a.seat; ticket = a.ticket; who = a.who; there = at_longer s.views (w ∷ []) a.seat a.who a.there; holding = a.holding; whole = a.whole })
        r.slot;
  }

  -- The seat whose ticket is served takes the value.
  pub taken_turns : (log : List E) (s : St) (r : TurnsInOrder fact log s) (id t : ℕ) (v : V) → get_elem? s.views id ≡ some v → v.stage ≡ Waiting t → t ≡ serves s → (x : Option T)
      → TurnsInOrder fact log (stepped s 1 (serves s) id [] (holding_view t log v) (takes 0 x))
  taken_turns log s r id t v at on now x =
      let w : V = holding_view t log v in
      same_words (λ ws. TurnsInOrder fact log record { words = ws; homes = set s.homes 0 none; views = set s.views id w }) s.words 1 record {
        wide = r.wide;
        deep = length-set s.homes 0 none ∙ r.deep;
        fits = r.fits;
        ordered = r.ordered;
        drawn =
            let k = count_set (λ (d : V). has_ticket d.stage) s.views id v w at in
            let had : one_if (has_ticket v.stage) ≡ 1 = ap (λ z. one_if (has_ticket z)) on in
            let was = r.drawn in omega (arith, k, had, was);
        tickets = λ n.
            let k = count_set (λ (d : V). is_ticket n d.stage) s.views id v w at in
            let had : one_if (is_ticket n v.stage) ≡ one_if (nat_eq t n) = ap (λ z. one_if (is_ticket n z)) on in
            let was = r.tickets n in omega (arith, k, had, was);
        served = each_set (λ (d : V). IsServed (serves s) d.stage) (λ (d : V). IsServed (serves s) d.stage) s.views id w r.served (λ j d n e h. h) now;
        behind = each_set (λ (d : V). StartsWith log d.seen) (λ (d : V). StartsWith log d.seen) s.views id w r.behind (λ j d n e h. h) (starts_self log);
        heard = each_set (λ (d : V). StartsWith log d.heard) (λ (d : V). StartsWith log d.heard) s.views id w r.heard (λ j d n e h. h) (r.heard id v at);
        slot = inr record { seat = id; ticket = t; who = w; there = set_here s.views id w (there_inside s.views id v at); holding = refl; whole = refl };
      }

  -- The seat that has the value adds to the history.
  pub counted_turns : (s : St) (id t : ℕ) (c : List (ℕ × Option T)) (v : V) (added : List E) (r : TurnsInOrder fact v.seen s) → get_elem? s.views id ≡ some v → v.stage ≡ Holding t
      → TurnsInOrder fact (v.seen ++ added) (stepped s 1 (serves s) id c (told_view added v) keeps)
  counted_turns s id t c v added r at on =
      let w : V = told_view added v in
      let log : List E = v.seen in
      let longer : List E = log ++ added in
      let more : StartsWith longer log = (added, refl) in
      same_words (λ ws. TurnsInOrder fact longer record { words = ws; homes = s.homes; views = set s.views id w }) s.words 1 record {
        wide = r.wide;
        deep = r.deep;
        fits = r.fits;
        ordered = r.ordered;
        drawn = let k = count_set (λ (d : V). has_ticket d.stage) s.views id v w at in let was = r.drawn in omega (arith, k, was);
        tickets = λ n.
            let k = count_set (λ (d : V). is_ticket n d.stage) s.views id v w at in
            let was = r.tickets n in
            omega (arith, k, was);
        served = each_set (λ (d : V). IsServed (serves s) d.stage) (λ (d : V). IsServed (serves s) d.stage) s.views id w r.served (λ j d n e h. h) (r.served id v at);
        behind = each_set (λ (d : V). StartsWith log d.seen) (λ (d : V). StartsWith longer d.seen) s.views id w r.behind (λ j d n e h. starts_further d.seen log longer h more) (starts_self longer);
        heard = each_set (λ (d : V). StartsWith log d.heard) (λ (d : V). StartsWith longer d.heard) s.views id w r.heard (λ j d n e h. starts_further d.heard log longer h more)
            (starts_further v.heard log longer (r.heard id v at) more);
        slot = inr record { seat = id; ticket = t; who = w; there = set_here s.views id w (there_inside s.views id v at); holding = on; whole = refl };
      }

  -- the ticket that is served is below the next one
  pub under_next : (log : List E) (s : St) (r : TurnsInOrder fact log s) (id t : ℕ) (v : V) → get_elem? s.views id ≡ some v → v.stage ≡ Holding t → serves s < get_or s.words 0 0
  under_next log s r id t v at on =
      let mine = has_turn s t v on (turn_served log s r id t v at on) in
      let k = count_at (λ (d : V). is_ticket (serves s) d.stage) s.views id v at in
      let is = r.tickets (serves s) in
      (within_bounds (serves s) (get_or s.words 0 0) (serves s) (omega (arith, k, is, mine))).1

  -- The value is back, and the next ticket is served.
  pub given_turns : (log : List E) (s : St) (r : TurnsInOrder fact log s) (id t new : ℕ) (v : V) (x : T) → get_elem? s.views id ≡ some v → v.stage ≡ Holding t → fact v.seen x
      → new ≡ serves s + 1 → TurnsInOrder fact log (stepped s 1 new id ((0, Some x) ∷ []) (served_view v) gives)
  given_turns log s r id t new v x at on kept up =
      let w : V = served_view v in
      let wide = r.wide in
      let deep = r.deep in
      let now = turn_served log s r id t v at on in
      let mine = has_turn s t v on now in
      let under = under_next log s r id t v at on in
      let first : get_or (set s.words 1 new) 0 0 ≡ get_or s.words 0 0 = get_or-set_other s.words 1 0 new 0 (λ e. omega arith) in
      let second : get_or (set s.words 1 new) 1 0 ≡ new = get_or-set_same s.words 1 new 0 (omega arith) in
      let others : (j : ℕ) (d : V) → j ≢ id → get_elem? s.views j ≡ some d → IsServed (serves s) d.stage → HoldsNothing d.stage = λ j d n e h. ⊎_elim (λ (z : HoldsNothing d.stage). z)
      (λ (z : one_if (is_ticket (serves s) d.stage) ≡ 1). absurd (n (one_seat log s r j id d v e at z mine))) (at_turn (serves s) d.stage h) in
      let nobody : Each (λ (d : V). HoldsNothing d.stage) (set s.views id w) = each_set (λ (d : V). IsServed (serves s) d.stage) (λ (d : V). HoldsNothing d.stage) s.views id w r.served others tt in
      record {
        wide = length-set s.words 1 new ∙ wide;
        deep = length-set s.homes 0 (some (Some x)) ∙ deep;
        fits = let f = r.fits in omega (arith, f, first);
        ordered = omega (arith, under, first, second);
        drawn =
            let k = count_set (λ (d : V). has_ticket d.stage) s.views id v w at in
            let had : one_if (has_ticket v.stage) ≡ 1 = ap (λ z. one_if (has_ticket z)) on in
            let was = r.drawn in omega (arith, k, had, was, first, second, up);
        tickets = λ n.
            let k = count_set (λ (d : V). is_ticket n d.stage) s.views id v w at in
            let had : one_if (is_ticket n v.stage) ≡ one_if (nat_eq (serves s) n) = ap (λ z. one_if (is_ticket n z)) on ∙ ap (λ z. one_if (nat_eq z n)) now in
            let was = r.tickets n in
            let less = within_down (serves s) (get_or s.words 0 0) new n up under in
            let now_is : one_within (get_or (set s.words 1 new) 1 0) (get_or (set s.words 1 new) 0 0) n ≡ one_within new (get_or s.words 0 0) n = ap (λ (z : ℕ × ℕ). one_within z.0 z.1 n) (λ i. (second i, first i)) in
            omega (arith, k, had, was, less, now_is);
        served = λ j d e. served_else (serves s) (get_or (set s.words 1 new) 1 0) d.stage (nobody j d e) (none_served d.stage (nobody j d e));
        behind = each_set (λ (d : V). StartsWith log d.seen) (λ (d : V). StartsWith log d.seen) s.views id w r.behind (λ j d n e h. h) (r.behind id v at);
        heard = each_set (λ (d : V). StartsWith log d.heard) (λ (d : V). StartsWith log d.heard) s.views id w r.heard (λ j d n e h. h) (r.heard id v at);
        slot = inl record {
          value = x;
          there = set_here s.homes 0 (some (Some x)) (omega (arith, deep));
          kept = subst (λ l. fact l x) (holder_whole log s r id t v at on) kept;
          nobody = nobody;
        };
      }
    where
      none_served : (z : SeatStage) → HoldsNothing z → IsServed (serves s) z
      none_served Idle h = tt
      none_served (Waiting n) h = tt
      none_served (Holding n) h = absurd h

  -- the first seat
  pub opens_turns : (x : T) (w : V) → fact [] x → w.stage ≡ Idle → w.seen ≡ [] → w.heard ≡ [] → TurnsInOrder fact [] (opening (0 ∷ 0 ∷ []) (Some x ∷ []) w)
  opens_turns x w kept idle seen told =
      let alone : (P : V → Type 0) → P w → Each P (w ∷ []) = λ P h. each_push P [] w (λ j d e. absurd (some-ne-none d (sym e))) h in
      record {
        wide = refl;
        deep = refl;
        fits = lit< tt;
        ordered = omega arith;
        drawn =
            let one = count_one (λ (d : V). has_ticket d.stage) w in
            let z : one_if (has_ticket w.stage) ≡ 0 = ap (λ z. one_if (has_ticket z)) idle in omega (arith, one, z);
        tickets = λ n.
            let one = count_one (λ (d : V). is_ticket n d.stage) w in
            let z : one_if (is_ticket n w.stage) ≡ 0 = ap (λ z. one_if (is_ticket n z)) idle in
            let o : one_within 0 0 n ≡ 0 = within_empty 0 n in omega (arith, one, z, o);
        served = alone (λ d. IsServed 0 d.stage) (subst (IsServed 0) (sym idle) tt);
        behind = alone (λ d. StartsWith [] d.seen) (subst (StartsWith []) (sym seen) (starts_self []));
        heard = alone (λ d. StartsWith [] d.heard) (subst (StartsWith []) (sym told) ([], refl));
        slot = inl record { value = x; there = refl; kept = kept; nobody = alone (λ d. HoldsNothing d.stage) (subst HoldsNothing (sym idle) tt) };
      }
