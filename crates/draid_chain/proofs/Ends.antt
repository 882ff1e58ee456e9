-- Where chains end, by the slot at each spare's position and by each slot's first spare.
use Rattle.std.proofs.Common.{◌≡◌, ◌≢◌, ◌+◌, ◌-◌, ◌<◌, ◌≤◌, ◌⊎◌, inl, inr, ℕ, zero, suc, List, [], ◌∷◌, length, Option, Some, None, refl, sym, ap, ◌∙◌, subst, arith}
use Rattle.std.specs.Option.{option_map_or}
use Rattle.draid_names.specs.Spares.{AreOfOne, AreSpares, AreUsed, IsArm}
use Rattle.draid_chain.specs.Chain.{EndsAt, chain_end, chain_links}
use Rattle.draid_chain.specs.Used.{Gains}
use Rattle.draid_chain.proofs.Ways.{AreSpread, IsOff, IsWay, NoneLeads, few_passed, one_start}

pub not_both : (o : Option ℕ) (spare : ℕ) → o ≡ None → o ≢ Some spare
not_both None spare one two = grind arith
not_both (Some other) spare one two = grind arith

pub not_some : (o : Option ℕ) → ((spare : ℕ) → o ≡ Some spare → ⊥) → o ≡ None
not_some None other = refl
not_some (Some spare) other = absurd (other spare refl)

-- at a slot without a spare arm a chain ends
pub end_here : (slot_at : ℕ → ℕ) (first : ℕ → Option ℕ) (most spare : ℕ) → first (slot_at spare) ≡ None
    → chain_end slot_at first most spare ≡ slot_at spare
end_here slot_at first zero spare is = refl
end_here slot_at first (suc most) spare is = ap (λ o. option_map_or (λ next. chain_end slot_at first most next) o (slot_at spare)) is

pub links_here : (slot_at : ℕ → ℕ) (first : ℕ → Option ℕ) (most spare : ℕ) → first (slot_at spare) ≡ None
    → chain_links slot_at first most spare ≡ 1
links_here slot_at first zero spare is = refl
links_here slot_at first (suc most) spare is = ap (λ o. option_map_or (λ next. chain_links slot_at first most next + 1) o 1) is

-- at another it goes on with that slot's first spare
pub end_next : (slot_at : ℕ → ℕ) (first : ℕ → Option ℕ) (most spare next : ℕ) → first (slot_at spare) ≡ Some next
    → chain_end slot_at first (suc most) spare ≡ chain_end slot_at first most next
end_next slot_at first most spare next is = ap (λ o. option_map_or (λ next. chain_end slot_at first most next) o (slot_at spare)) is

links_next : (slot_at : ℕ → ℕ) (first : ℕ → Option ℕ) (most spare next : ℕ) → first (slot_at spare) ≡ Some next
    → chain_links slot_at first (suc most) spare ≡ chain_links slot_at first most next + 1
links_next slot_at first most spare next is = ap (λ o. option_map_or (λ next. chain_links slot_at first most next + 1) o 1) is

-- a chain ends at a slot
pub end_below : (slot_at : ℕ → ℕ) (slots : ℕ) (first : ℕ → Option ℕ) (most spare : ℕ) → ((t : ℕ) → slot_at t < slots)
    → chain_end slot_at first most spare < slots
end_below slot_at slots first zero spare low = low spare
end_below slot_at slots first (suc most) spare low = by_first (first (slot_at spare)) (λ next. end_below slot_at slots first most next low)
  where
    by_first : (o : Option ℕ) → ((next : ℕ) → chain_end slot_at first most next < slots)
        → option_map_or (λ next. chain_end slot_at first most next) o (slot_at spare) < slots
    by_first None rest = low spare
    by_first (Some next) rest = rest next

-- a chain ends where what is left of it does
pub end_on : (slot_at : ℕ → ℕ) (spares spare last most all : ℕ) (first : ℕ → Option ℕ) (ws : List ℕ) → all ≡ length ws + most
    → IsWay slot_at spares first spare last ws → chain_end slot_at first all spare ≡ chain_end slot_at first most last
end_on slot_at spares spare last most all first [] sum way =
    let same : all ≡ most = omega (arith, sum) in
    ap (λ n. chain_end slot_at first n spare) same ∙ ap (chain_end slot_at first most) way
end_on slot_at spares spare last most all first (b ∷ ws) sum way =
    end_on slot_at spares spare b (suc most) all first ws (omega (arith, sum)) way.1
    ∙ end_next slot_at first most b last way.0.1

links_on : (slot_at : ℕ → ℕ) (spares spare last most all : ℕ) (first : ℕ → Option ℕ) (ws : List ℕ) → all ≡ length ws + most
    → IsWay slot_at spares first spare last ws → chain_links slot_at first all spare ≡ chain_links slot_at first most last + length ws
links_on slot_at spares spare last most all first [] sum way =
    let same : all ≡ most = omega (arith, sum) in
    let here : chain_links slot_at first all spare ≡ chain_links slot_at first most last
    = ap (λ n. chain_links slot_at first n spare) same ∙ ap (chain_links slot_at first most) way in
    omega (arith, here)
links_on slot_at spares spare last most all first (b ∷ ws) sum way =
    let rest : chain_links slot_at first all spare ≡ chain_links slot_at first (suc most) b + length ws
    = links_on slot_at spares spare b (suc most) all first ws (omega (arith, sum)) way.1 in
    omega (arith, rest, links_next slot_at first most b last way.0.1)

-- the end of a way that can't go on
pub record IsEnd (slot_at : ℕ → ℕ) (spares : ℕ) (first : ℕ → Option ℕ) (spare last : ℕ) (ws : List ℕ) : Type 0 where
  pub low : last < spares
  pub way : IsWay slot_at spares first spare last ws
  pub over : first (slot_at last) ≡ None
  pub few : length ws < spares

pub end_is : (slot_at : ℕ → ℕ) (spares spare last : ℕ) (first : ℕ → Option ℕ) (ws : List ℕ) → IsEnd slot_at spares first spare last ws
    → chain_end slot_at first spares spare ≡ slot_at last
end_is slot_at spares spare last first ws e =
    let less : length ws < spares = e.few in
    let sum : spares ≡ length ws + (spares - length ws) = omega arith in
    end_on slot_at spares spare last (spares - length ws) spares first ws sum e.way
    ∙ end_here slot_at first (spares - length ws) last e.over

pub links_sum : (slot_at : ℕ → ℕ) (spares spare last : ℕ) (first : ℕ → Option ℕ) (ws : List ℕ) → IsEnd slot_at spares first spare last ws
    → chain_links slot_at first spares spare ≡ length ws + 1
links_sum slot_at spares spare last first ws e =
    let less : length ws < spares = e.few in
    let sum : spares ≡ length ws + (spares - length ws) = omega arith in
    omega (
      arith,
      links_on slot_at spares spare last (spares - length ws) spares first ws sum e.way,
      links_here slot_at first (spares - length ws) last e.over,
    )

-- a way that goes on to the end of a chain
pub ends_on : (slot_at : ℕ → ℕ) (spares spare last further slot : ℕ) (first : ℕ → Option ℕ) (ws : List ℕ)
    → IsWay slot_at spares first spare last ws → EndsAt slot_at first last further slot
    → (all : ℕ) × ((all ≡ length ws + further) × EndsAt slot_at first spare all slot)
ends_on slot_at spares spare last further slot first [] way e =
    (further, (omega arith, subst (λ s. EndsAt slot_at first s further slot) (sym way) e))
ends_on slot_at spares spare last further slot first (b ∷ ws) way e =
    let rest = ends_on slot_at spares spare b (suc further) slot first ws way.1 (last, way.0.1, e) in
    let sum : rest.0 ≡ length ws + suc further = rest.1.0 in
    (rest.0, (omega (arith, sum), rest.1.1))

-- a chain after at most so many links: it has ended, or it was cut off
record HasCome (slot_at : ℕ → ℕ) (spares : ℕ) (first : ℕ → Option ℕ) (spare most : ℕ) : Type 0 where
  last : ℕ
  ws : List ℕ
  low : last < spares
  way : IsWay slot_at spares first spare last ws
  short : length ws ≤ most
  over : (first (slot_at last) ≡ None) ⊎ (length ws ≡ most)

come : (slot_at : ℕ → ℕ) (slots spares spare most : ℕ) (first : ℕ → Option ℕ) → AreSpread slot_at slots spares → AreSpares slots spares first
    → spare < spares → HasCome slot_at spares first spare most
come slot_at slots spares spare zero first spread are low =
    record { last = spare; ws = []; low = low; way = refl; short = omega arith; over = inr refl }
come slot_at slots spares spare (suc most) first spread are low = on (come slot_at slots spares spare most first spread are low)
  where
    go_on : (c : HasCome slot_at spares first spare most) → length c.ws ≡ most → (o : Option ℕ) → first (slot_at c.last) ≡ o
        → HasCome slot_at spares first spare (suc most)
    go_on c cut None is = record { last = c.last; ws = c.ws; low = c.low; way = c.way; short = omega (arith, cut); over = inl is }
    go_on c cut (Some next) is = record {
      last = next;
      ws = c.last ∷ c.ws;
      low = are (slot_at c.last) next (spread.low c.last) is;
      way = ((c.low, is), c.way);
      short = omega (arith, cut);
      over = inr (ap suc cut);
    }

    by_over : (c : HasCome slot_at spares first spare most) → (first (slot_at c.last) ≡ None) ⊎ (length c.ws ≡ most)
        → HasCome slot_at spares first spare (suc most)
    by_over c (inl none) =
        let short : length c.ws ≤ most = c.short in
        record { last = c.last; ws = c.ws; low = c.low; way = c.way; short = omega arith; over = inl none }
    by_over c (inr cut) = go_on c cut (first (slot_at c.last)) refl

    on : HasCome slot_at spares first spare most → HasCome slot_at spares first spare (suc most)
    on c = by_over c c.over

-- the chain of an arm of a slot on which no spare stands has ended before it is cut off
pub record HasEnd (slot_at : ℕ → ℕ) (spares : ℕ) (first : ℕ → Option ℕ) (spare : ℕ) : Type 0 where
  pub last : ℕ
  pub ws : List ℕ
  pub ended : IsEnd slot_at spares first spare last ws

pub has_end : (slot_at : ℕ → ℕ) (slots spares slot spare : ℕ) (first : ℕ → Option ℕ) → AreSpread slot_at slots spares → AreUsed slots spares first
    → IsOff slot_at spares slot → IsArm slots spares first slot spare → HasEnd slot_at spares first spare
has_end slot_at slots spares slot spare first spread used off arm = by_over (come slot_at slots spares spare spares first spread used.below arm.spare_is)
  where
    few : (c : HasCome slot_at spares first spare spares) → length c.ws < spares
    few c = few_passed slot_at slots spares slot spare c.last first c.ws spread used off arm c.low c.way

    over : (c : HasCome slot_at spares first spare spares) → (first (slot_at c.last) ≡ None) ⊎ (length c.ws ≡ spares) → first (slot_at c.last) ≡ None
    over c (inl none) = none
    over c (inr cut) = absurd (omega (arith, few c, cut))

    by_over : HasCome slot_at spares first spare spares → HasEnd slot_at spares first spare
    by_over c = record { last = c.last; ws = c.ws; ended = record { low = c.low; way = c.way; over = over c c.over; few = few c } }

-- each chain, even one that is cut off, ends where some spare stands
pub record EndsSomewhere (slot_at : ℕ → ℕ) (spares : ℕ) (first : ℕ → Option ℕ) (most spare : ℕ) : Type 0 where
  pub last : ℕ
  pub ws : List ℕ
  pub low : last < spares
  pub way : IsWay slot_at spares first spare last ws
  pub end : chain_end slot_at first most spare ≡ slot_at last

pub ends_somewhere : (slot_at : ℕ → ℕ) (slots spares most spare : ℕ) (first : ℕ → Option ℕ) → AreSpread slot_at slots spares
    → AreSpares slots spares first → spare < spares → EndsSomewhere slot_at spares first most spare
ends_somewhere slot_at slots spares most spare first spread are low = by_come (come slot_at slots spares spare most first spread are low)
  where
    end : (c : HasCome slot_at spares first spare most) → (first (slot_at c.last) ≡ None) ⊎ (length c.ws ≡ most)
        → chain_end slot_at first most spare ≡ slot_at c.last
    end c (inl none) =
        let short : length c.ws ≤ most = c.short in
        end_on slot_at spares spare c.last (most - length c.ws) most first c.ws (omega arith) c.way
        ∙ end_here slot_at first (most - length c.ws) c.last none
    end c (inr cut) = end_on slot_at spares spare c.last 0 most first c.ws (omega (arith, cut)) c.way

    by_come : HasCome slot_at spares first spare most → EndsSomewhere slot_at spares first most spare
    by_come c = record { last = c.last; ws = c.ws; low = c.low; way = c.way; end = end c c.over }

-- where two chains end at one slot, also by two tables, they are of one spare
pub one_end : (slot_at : ℕ → ℕ) (slots spares m n t u : ℕ) (earlier later : ℕ → Option ℕ) → AreSpread slot_at slots spares
    → AreSpares slots spares earlier → AreSpares slots spares later → AreOfOne slots earlier later → t < spares → u < spares
    → NoneLeads slot_at spares later t → NoneLeads slot_at spares earlier u
    → chain_end slot_at earlier m t ≡ chain_end slot_at later n u → t ≡ u
one_end slot_at slots spares m n t u earlier later spread ea la one low less nt nu same =
    let e : EndsSomewhere slot_at spares earlier m t = ends_somewhere slot_at slots spares m t earlier spread ea low in
    let l : EndsSomewhere slot_at spares later n u = ends_somewhere slot_at slots spares n u later spread la less in
    let last : e.last ≡ l.last = spread.apart e.last l.last e.low l.low (sym e.end ∙ (same ∙ l.end)) in
    one_start slot_at slots spares t u l.last earlier later e.ws l.ws spread one nt nu
    (subst (λ y. IsWay slot_at spares earlier t y e.ws) last e.way) l.way

-- one link more changes nothing where a chain has ended
end_stays : (slot_at : ℕ → ℕ) (first : ℕ → Option ℕ) (most spare : ℕ) → first (chain_end slot_at first most spare) ≡ None
    → chain_end slot_at first (suc most) spare ≡ chain_end slot_at first most spare
end_stays slot_at first zero spare over = end_here slot_at first (suc zero) spare over
end_stays slot_at first (suc most) spare over = by_first (first (slot_at spare)) refl (λ next. end_stays slot_at first most next)
  where
    by_first : (o : Option ℕ) → first (slot_at spare) ≡ o
        → ((next : ℕ) → first (chain_end slot_at first most next) ≡ None → chain_end slot_at first (suc most) next ≡ chain_end slot_at first most next)
        → chain_end slot_at first (suc (suc most)) spare ≡ chain_end slot_at first (suc most) spare
    by_first None is rest = end_here slot_at first (suc (suc most)) spare is ∙ sym (end_here slot_at first (suc most) spare is)
    by_first (Some next) is rest =
        let less : chain_end slot_at first (suc most) spare ≡ chain_end slot_at first most next = end_next slot_at first most spare next is in
        end_next slot_at first (suc most) spare next is ∙ (rest next (ap first (sym less) ∙ over) ∙ sym less)

-- a chain that ends goes on, with as many links at most, from the first spare of the slot at its spare's position
pub end_follows : (slot_at : ℕ → ℕ) (first : ℕ → Option ℕ) (most spare next : ℕ) → first (chain_end slot_at first most spare) ≡ None
    → first (slot_at spare) ≡ Some next → chain_end slot_at first most spare ≡ chain_end slot_at first most next
end_follows slot_at first zero spare next over is = absurd (not_both (first (slot_at spare)) next over is)
end_follows slot_at first (suc most) spare next over is =
    let less : chain_end slot_at first (suc most) spare ≡ chain_end slot_at first most next = end_next slot_at first most spare next is in
    less ∙ sym (end_stays slot_at first most next (ap first (sym less) ∙ over))

-- a chain that doesn't end at the slot that gets a first spare, or loses it, stays
pub end_as_before : (slot_at : ℕ → ℕ) (before after : ℕ → Option ℕ) (at new most spare : ℕ) → Gains before after at new
    → chain_end slot_at before most spare ≢ at → chain_end slot_at after most spare ≡ chain_end slot_at before most spare
end_as_before slot_at before after at new zero spare gains other = refl
end_as_before slot_at before after at new (suc most) spare gains other =
    by_first (before (slot_at spare)) refl (λ next. end_as_before slot_at before after at new most next gains)
  where
    by_first : (o : Option ℕ) → before (slot_at spare) ≡ o
        → ((next : ℕ) → chain_end slot_at before most next ≢ at → chain_end slot_at after most next ≡ chain_end slot_at before most next)
        → chain_end slot_at after (suc most) spare ≡ chain_end slot_at before (suc most) spare
    by_first None is rest =
        let here : chain_end slot_at before (suc most) spare ≡ slot_at spare = end_here slot_at before (suc most) spare is in
        end_here slot_at after (suc most) spare (gains.others (slot_at spare) (λ same. other (here ∙ same)) ∙ is) ∙ sym here
    by_first (Some next) is rest =
        let on : chain_end slot_at before (suc most) spare ≡ chain_end slot_at before most next = end_next slot_at before most spare next is in
        let elsewhere : slot_at spare ≢ at = λ same. not_both (before at) next gains.without (ap before (sym same) ∙ is) in
        end_next slot_at after most spare next (gains.others (slot_at spare) elsewhere ∙ is)
        ∙ (rest next (λ same. other (on ∙ same)) ∙ sym on)
