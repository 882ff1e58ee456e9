-- No number of the tree of a view is a float.
use Rattle.std.proofs.Common.{◌≡◌, refl, ap, ◌∙◌, ℕ, ◌+◌, ◌||◌, List, [], ◌∷◌, map, false, Option, None, Some}
use Rattle.std.specs.List.{enumerate_from}
use Rattle.std.specs.declared.alloc.Global.{Global}
use Rattle.std.specs.declared.vec.Vec.{Vec}
use Rattle.serde_json.specs.View.{items_of}
use Rattle.serde_json.specs.Written.{has_float, items_have_float}
use Rattle.draid_report.specs.declared.view.ArmView.{ArmView}
use Rattle.draid_report.specs.declared.view.MetaslabView.{MetaslabView}
use Rattle.draid_report.specs.declared.view.PassView.{PassView}
use Rattle.draid_report.specs.declared.view.View.{View}
use Rattle.draid_report.specs.Tree.{arm_tree, metaslab_tree, pass_tree, slot_tree, slots_tree, tree_of}

arms_have_none : (arms : List ArmView) → items_have_float (items_of (map arm_tree arms)) ≡ false
arms_have_none [] = refl
arms_have_none (arm ∷ arms) = arms_have_none arms

slots_have_none : (slots : List (Vec ArmView Global)) → items_have_float (items_of (map slot_tree slots)) ≡ false
slots_have_none [] = refl
slots_have_none (arms ∷ slots) =
    ap (λ here. here || items_have_float (items_of (map slot_tree slots))) (arms_have_none arms.items) ∙ slots_have_none slots

metaslab_has_none : (number : ℕ) (view : MetaslabView) → has_float (metaslab_tree number view) ≡ false
metaslab_has_none number view = by_pass view.pass
  where
    by_pass : (pass : Option PassView) → (has_float (pass_tree pass) || false) ≡ false
    by_pass None = refl
    by_pass (Some pass) = refl

metaslabs_have_none : (from : ℕ) (views : List MetaslabView)
    → items_have_float (items_of (map (λ at. metaslab_tree at.0 at.1) (enumerate_from from views))) ≡ false
metaslabs_have_none from [] = refl
metaslabs_have_none from (view ∷ views) =
    ap (λ here. here || items_have_float (items_of (map (λ at. metaslab_tree at.0 at.1) (enumerate_from (from + 1) views))))
    (metaslab_has_none from view)
    ∙ metaslabs_have_none (from + 1) views

pub tree_has_none : (view : View) → has_float (tree_of view) ≡ false
unfolding tree_of
tree_has_none view =
    ap (λ here. here || (has_float (slots_tree view.slots.items) || false)) (metaslabs_have_none 0 view.metaslabs.items)
    ∙ ap (λ here. here || false) (slots_have_none view.slots.items)
