use Rattle.std.proofs.Common.{◌==◌, ◌||◌, List, refl, sym, subst, get_or, ℕ}
use Rattle.std.specs.Prelude.{take}
use Rattle.std.specs.List.{list_any}
use Rattle.std.proofs.lemmas.List.{take_all}
use Rattle.std.proofs.lemmas.List.Folds.{list_any_more}
use Rattle.draid_rack.specs.Soft.{FlushesThose}
use Rattle.draid_rack.proofs.Softly.{all_flushed, renamed, then_flushed}
use Rattle.draid_rack.proofs.leaf.flush_these.Goals as goal

pub loop-sector-preserved : goal.loop-sector-preserved
loop-sector-preserved c =
    let l = c.loop-sector in
    let listed : List ℕ = c.args.listed.now in
    renamed (λ s. list_any (λ k. k == s) (take l.sector-index listed) || (get_or listed l.sector-index 0 == s)) _ c.args.sectors.now.items c.flush_one.new.sectors.items
    (λ s. sym (list_any_more (λ k. k == s) listed l.sector-index 0 c.loop-sector-test.true))
    (then_flushed (λ s. list_any (λ k. k == s) (take l.sector-index listed)) (λ s. get_or listed l.sector-index 0 == s) c.args.sectors.now.items l.sectors.items c.flush_one.new.sectors.items l.invariant c.flush_one.ensures)

pub returns : goal.returns
returns c =
    let listed : List ℕ = c.args.listed.now in
    all_flushed (λ s. list_any (λ k. k == s) listed) c.args.sectors.now.items c.loop-sector.sectors.items (λ s x there soft. c.requires refl s x there soft)
    (subst (λ ks. FlushesThose (λ s. list_any (λ k. k == s) ks) c.args.sectors.now.items c.loop-sector.sectors.items) (take_all c.loop-sector.sector-index listed c.loop-sector-test.false) c.loop-sector.invariant)
