-- What a walk along a chain keeps, over the slots of a geometry.
use Rattle.std.proofs.Common.{◌≡◌, ◌+◌, ◌-◌, ◌<◌, ◌≤◌, ℕ, List, [], ◌∷◌, length, Option, Some, None, refl, sym, ap, ◌∙◌, subst, arith}
use Rattle.draid_perm.specs.declared.perms.Perms.{Perms}
use Rattle.draid_perm.specs.Perms.{children_of}
use Rattle.draid_perm.proofs.Children.{child_below}
use Rattle.draid_names.specs.Spares.{AreUsed, IsArm}
use Rattle.draid_chain.specs.Chain.{holder_in, links_in, spare_slot}
use Rattle.draid_chain.specs.Used.{HasColumn}
use Rattle.draid_chain.proofs.Ways.{IsWay, few_passed}
use Rattle.draid_chain.proofs.Ends.{IsEnd, end_is, links_sum}
use Rattle.draid_chain.proofs.Holders.{few_spares, holder_is, links_are, off, spread}

-- a walk from a spare has come to a slot, at which the last of so many spares stands
pub record HasComeTo (perms : Perms) (spares slice : ℕ) (first : ℕ → Option ℕ) (spare holder links : ℕ) : Type 0 where
  pub last : ℕ
  pub ws : List ℕ
  pub low : last < spares
  pub way : IsWay (spare_slot perms slice) spares first spare last ws
  pub stands : holder ≡ spare_slot perms slice last
  pub count : links ≡ length ws + 1

pub begun : (perms : Perms) (spares slice spare holder : ℕ) (first : ℕ → Option ℕ) → spare < spares → holder ≡ spare_slot perms slice spare
    → HasComeTo perms spares slice first spare holder 1
begun perms spares slice spare holder first low is = record { last = spare; ws = []; low = low; way = refl; stands = is; count = refl }

pub come_below : (perms : Perms) (n spares slice spare holder links : ℕ) (first : ℕ → Option ℕ) → children_of perms ≡ n
    → HasComeTo perms spares slice first spare holder links → holder < n
come_below perms n spares slice spare holder links first all come =
    subst (λ m. holder < m) all
    (subst (λ slot. slot < children_of perms) (sym come.stands) (child_below perms slice (children_of perms - 1 - come.last)))

pub gone_on : (perms : Perms) (n spares slice spare holder links next after : ℕ) (first : ℕ → Option ℕ) → children_of perms ≡ n → AreUsed n spares first
    → HasComeTo perms spares slice first spare holder links → first holder ≡ Some next → after ≡ spare_slot perms slice next
    → HasComeTo perms spares slice first spare after (links + 1)
gone_on perms n spares slice spare holder links next after first all used come is at =
    let here : first (spare_slot perms slice come.last) ≡ Some next = ap first (sym come.stands) ∙ is in
    let slot : spare_slot perms slice come.last < n = subst (λ m. spare_slot perms slice come.last < m) all (child_below perms slice _) in
    let count : links ≡ length come.ws + 1 = come.count in
    record {
      last = next;
      ws = come.last ∷ come.ws;
      low = used.below (spare_slot perms slice come.last) next slot here;
      way = ((come.low, here), come.way);
      stands = at;
      count = omega (arith, count);
    }

module _ (perms : Perms) (n spares slice slot spare holder links : ℕ) (first : ℕ → Option ℕ) (all : children_of perms ≡ n) (used : AreUsed n spares first)
    (column : HasColumn perms spares slice slot) (arm : IsArm n spares first slot spare) (come : HasComeTo perms spares slice first spare holder links) where
  passed : length come.ws < spares
  passed =
      few_passed (spare_slot perms slice) (children_of perms) spares slot spare come.last first come.ws
      (spread perms spares slice (few_spares perms spares slice slot column))
      (subst (λ m. AreUsed m spares first) (sym all) used) (off perms spares slice slot column)
      (subst (λ m. IsArm m spares first slot spare) (sym all) arm) come.low come.way

  pub links_most : links ≤ spares
  links_most = omega (arith, passed, come.count)

  end : first holder ≡ None → IsEnd (spare_slot perms slice) spares first spare come.last come.ws
  end none = record { low = come.low; way = come.way; over = ap first (sym come.stands) ∙ none; few = passed }

  pub come_to_holder : first holder ≡ None → holder ≡ holder_in perms spares slice first slot spare
  come_to_holder none =
      come.stands
      ∙ sym (holder_is perms spares slice slot spare first column ∙ end_is (spare_slot perms slice) spares spare come.last first come.ws (end none))

  pub come_by_links : first holder ≡ None → links ≡ links_in perms spares slice first slot spare
  come_by_links none =
      come.count
      ∙ sym (links_are perms spares slice slot spare first column ∙ links_sum (spare_slot perms slice) spares spare come.last first come.ws (end none))
