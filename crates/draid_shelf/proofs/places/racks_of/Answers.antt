use Rattle.std.proofs.Common.{◌≡◌, ◌+◌, ◌<◌, ℕ, Bool, List, Option, None, Some, length, get_or, set, sym, ap, subst, arith, rules, inl, inr, get_or-set_other, get_or-set_same, ◌∙◌}
use Rattle.std.specs.Prelude.{IsSomeAnd, is_some}
use Rattle.std.proofs.lemmas.Bool.{cases_eq}
use Rattle.std.proofs.lemmas.List.{get_or_default}
use Rattle.draid_rack.specs.declared.memory.MemoryRack.{MemoryRack}
use Rattle.draid_spec.specs.declared.layout.Geometry.{Geometry}
use Rattle.draid_shelf.specs.Memory.{AreMade, IsMade, Racks, list_at, list_of, rack_at}
use Rattle.draid_shelf.proofs.places.racks_of.Goals as goal

-- one more rack was made
made_more : (geometry : Geometry) (lists : ℕ → List ℕ) (fused : Bool) (n : ℕ) (racks : Racks) (rack : MemoryRack) → n < length racks → IsMade geometry (lists n) fused rack
    → AreMade geometry lists fused n racks → AreMade geometry lists fused (n + 1) (set racks n (Some rack))
made_more geometry lists fused n racks rack room made are = record {
  there = λ m below. elim (cases_eq m n) [
    | inl same ↦ subst (λ (k : ℕ). IsSomeAnd (rack_at (set racks n (Some rack)) k) (IsMade geometry (lists k) fused)) (sym same)
        (subst (λ (o : Option MemoryRack). IsSomeAnd o (IsMade geometry (lists n) fused)) (sym (get_or-set_same racks n (Some rack) None room)) made)
    | inr other ↦ subst (λ (o : Option MemoryRack). IsSomeAnd o (IsMade geometry (lists m) fused)) (sym (get_or-set_other racks n m (Some rack) None other)) (are.there m (omega (arith, below, other)))
  ];
  no_other = λ m past. get_or-set_other racks n m (Some rack) None (omega (arith, past)) ∙ are.no_other m (omega (arith, past));
}

pub loop-metaslab-preserved : goal.loop-metaslab-preserved
loop-metaslab-preserved c =
    let n = c.loop-metaslab.metaslab in
    let rack = c.in_ok-rack_of.field-0 in
    let room : n < length c.loop-metaslab.racks = search rules in
    let lists = c.args.lists.now in
    let many = c.type_inv.lists in
    let same : list_at lists n ≡ list_of (get_or lists n c.index-lists-place.result) = ap list_of (get_or_default lists n None c.index-lists-place.result (omega (arith, many))) in
    let made : IsMade c.args.geometry.now (list_at lists n) (is_some c.args.fuse.now) rack =
    subst (λ (list : List ℕ). IsMade c.args.geometry.now list (is_some c.args.fuse.now) rack) (sym same) c.in_ok-rack_of.ensures in
    made_more c.args.geometry.now (list_at c.args.lists.now) (is_some c.args.fuse.now) n c.loop-metaslab.racks rack room made c.loop-metaslab.invariant
