-- What moves where a slot has another first spare than before, by a third table in which it has none.
use Rattle.std.proofs.Common.{◌≡◌, ◌≢◌, ◌-◌, ◌<◌, ℕ, Bool, true, false, nat_eq, List, [], ◌∷◌, length, Option, Some, refl, sym, ap, ◌∙◌, subst, arith}
use Rattle.std.proofs.lemmas.Bool.Decides.{nat_tests}
use Rattle.draid_perm.specs.declared.perms.Perms.{Perms}
use Rattle.draid_perm.specs.Perms.{children_of}
use Rattle.draid_names.specs.Spares.{AreOfOne, AreSpares, AreUsed, IsArm}
use Rattle.draid_chain.specs.Chain.{chain_end, holder_in, spare_slot}
use Rattle.draid_chain.specs.Used.{Gains, HasColumn}
use Rattle.draid_chain.proofs.Ways.{AreSpread, IsOff, IsWay, NoneLeads, few_passed}
use Rattle.draid_chain.proofs.Ends.{EndsSomewhere, end_on, ends_somewhere, not_both, one_end}
use Rattle.draid_chain.proofs.Holders.{few_spares, holder_below, holder_is, off, spread}

one_some : (o : Option ℕ) (x y : ℕ) → o ≡ Some x → o ≡ Some y → x ≡ y
one_some o x y one two = grind (arith, one, two)

-- what a table without the slot's first spare says, one with it says too
kept : (without first : ℕ → Option ℕ) (at new slot spare : ℕ) → Gains without first at new → without slot ≡ Some spare → first slot ≡ Some spare
kept without first at new slot spare gains is =
    gains.others slot (λ same. not_both (without at) spare gains.without (ap without (sym same) ∙ is)) ∙ is

way_kept : (slot_at : ℕ → ℕ) (spares spare last at new : ℕ) (without first : ℕ → Option ℕ) (ws : List ℕ) → Gains without first at new
    → IsWay slot_at spares without spare last ws → IsWay slot_at spares first spare last ws
way_kept slot_at spares spare last at new without first [] gains way = way
way_kept slot_at spares spare last at new without first (b ∷ ws) gains way =
    ((way.0.0, kept without first at new (slot_at b) last gains way.0.1), way_kept slot_at spares spare b at new without first ws gains way.1)

-- a chain that ends at the slot without its first spare goes on from that spare with it
goes_on : (slot_at : ℕ → ℕ) (slots spares slot spare at new : ℕ) (without first : ℕ → Option ℕ) → AreSpread slot_at slots spares → Gains without first at new
    → AreUsed slots spares first → IsOff slot_at spares slot → IsArm slots spares first slot spare → chain_end slot_at without spares spare ≡ at
    → (rest : ℕ) × (chain_end slot_at first spares spare ≡ chain_end slot_at first rest new)
goes_on slot_at slots spares slot spare at new without first spread gains used off arm is =
    let are : AreSpares slots spares without = λ c t low there. used.below c t low (kept without first at new c t gains there) in
    let e : EndsSomewhere slot_at spares without spares spare = ends_somewhere slot_at slots spares spares spare without spread are arm.spare_is in
    let there : first (slot_at e.last) ≡ Some new = ap first (sym e.end ∙ is) ∙ gains.with_it in
    let way : IsWay slot_at spares first spare new (e.last ∷ e.ws) = ((e.low, there), way_kept slot_at spares spare e.last at new without first e.ws gains e.way) in
    let few : length (e.last ∷ e.ws) < spares = few_passed slot_at slots spares slot spare new first (e.last ∷ e.ws) spread used off arm
    (used.below (slot_at e.last) new (spread.low e.last) there) way in
    (spares - length (e.last ∷ e.ws), end_on slot_at spares spare new (spares - length (e.last ∷ e.ws)) spares first (e.last ∷ e.ws) (omega arith) way)

-- elsewhere the two tables are the same
elsewhere : (without first second : ℕ → Option ℕ) (at one two slot : ℕ) → Gains without first at one → Gains without second at two → slot ≢ at
    → first slot ≡ second slot
elsewhere without first second at one two slot fg sg other = fg.others slot other ∙ sym (sg.others slot other)

exchange_of_one : (slots spares at one two : ℕ) (without first second : ℕ → Option ℕ) → Gains without first at one → Gains without second at two
    → AreUsed slots spares first → AreUsed slots spares second → AreOfOne slots first second
exchange_of_one slots spares at one two without first second fg sg fu su c d spare low less is there = by_second (nat_eq d at) refl (nat_eq c at) refl
  where
    by_second : (x : Bool) → nat_eq d at ≡ x → (y : Bool) → nat_eq c at ≡ y → c ≡ d
    by_second true p true q = grind (arith, nat_tests)
    by_second true p false q =
        let other : c ≢ at = grind (arith, nat_tests) in
        su.apart c d spare low less (sym (elsewhere without first second at one two c fg sg other) ∙ is) there
    by_second false p y q =
        let other : d ≢ at = grind (arith, nat_tests) in
        fu.apart c d spare low less is (elsewhere without first second at one two d fg sg other ∙ there)

exchange_leads_none : (slot_at : ℕ → ℕ) (slots spares at one two : ℕ) (without first second : ℕ → Option ℕ) → AreSpread slot_at slots spares → at < slots
    → Gains without first at one → Gains without second at two → one ≢ two → AreUsed slots spares first → NoneLeads slot_at spares second one
exchange_leads_none slot_at slots spares at one two without first second spread low fg sg differ fu before there is = by_slot (nat_eq (slot_at before) at) refl
  where
    by_slot : (x : Bool) → nat_eq (slot_at before) at ≡ x → ⊥
    by_slot true p =
        let same : slot_at before ≡ at = grind (arith, nat_tests) in
        differ (one_some (second at) one two (ap second (sym same) ∙ is) sg.with_it)
    by_slot false p =
        let other : slot_at before ≢ at = grind (arith, nat_tests) in
        other (fu.apart (slot_at before) at one (spread.low before) low (elsewhere without first second at one two (slot_at before) fg sg other ∙ is) fg.with_it)

-- an arm whose holder without either is the slot moves where its first spare is exchanged
pub holder_exchanged : (perms : Perms) (spares slice slot spare at one two : ℕ) (without first second : ℕ → Option ℕ)
    → Gains without first at one → Gains without second at two → one ≢ two
    → AreUsed (children_of perms) spares first → AreUsed (children_of perms) spares second → HasColumn perms spares slice slot
    → IsArm (children_of perms) spares first slot spare → IsArm (children_of perms) spares second slot spare
    → holder_in perms spares slice without slot spare ≡ at
    → holder_in perms spares slice first slot spare ≢ holder_in perms spares slice second slot spare
holder_exchanged perms spares slice slot spare at one two without first second fg sg differ fu su column fa sa is same =
    let stand : AreSpread (spare_slot perms slice) (children_of perms) spares = spread perms spares slice (few_spares perms spares slice slot column) in
    let end : chain_end (spare_slot perms slice) without spares spare ≡ at = sym (holder_is perms spares slice slot spare without column) ∙ is in
    let f = goes_on (spare_slot perms slice) (children_of perms) spares slot spare at one without first stand fg fu (off perms spares slice slot column) fa end in
    let s = goes_on (spare_slot perms slice) (children_of perms) spares slot spare at two without second stand sg su (off perms spares slice slot column) sa end in
    let low : at < children_of perms = subst (λ x. x < children_of perms) is (holder_below perms spares slice slot spare without) in
    differ (one_end (spare_slot perms slice) (children_of perms) spares f.0 s.0 one two first second stand fu.below su.below
    (exchange_of_one (children_of perms) spares at one two without first second fg sg fu su)
    (fu.below at one low fg.with_it) (su.below at two low sg.with_it)
    (exchange_leads_none (spare_slot perms slice) (children_of perms) spares at one two without first second stand low fg sg differ fu)
    (exchange_leads_none (spare_slot perms slice) (children_of perms) spares at two one without second first stand low sg fg (λ x. differ (sym x)) su)
    (sym f.1 ∙ (sym (holder_is perms spares slice slot spare first column) ∙ (same ∙ (holder_is perms spares slice slot spare second column ∙ s.1)))))
