use Rattle.std.proofs.Common.{◌≡◌, ◌⊎◌, ℕ, Some, refl, sym, ap, subst, ◌∙◌, inl, inr}
use Rattle.draid_machine.specs.State.{Image, Layout, State}
use Rattle.draid_machine.specs.After.{image_of, sealed_core}
use Rattle.draid_machine.specs.Images.{IsImage}
use Rattle.draid_machine.specs.Sound.{Sound}
use Rattle.draid_machine.proofs.Small.{some_injective}
use Rattle.draid_machine.proofs.Rows.{reached_sound}
use Rattle.draid_machine.proofs.laws.images_keep_passes.Goals as goal

opened : (l : Layout) (w : State) (img : Image) (t : ℕ) → Sound l w → ((w.image ≡ img) × (w.committed ≡ t)) ⊎ ((w.sealed ≡ Some img) × (w.closing ≡ Some t)) → IsImage w img × (img.group ≡ t)
opened l w img t s (inl z) = (inl z.0, ap (λ (i : Image). i.group) (sym z.0) ∙ s.groups.image_is ∙ z.1)
opened l w img t s (inr z) = (inr z.0, some_injective img.group t (sym (s.groups.sealed_is img z.0) ∙ z.1))

pub returns-clause-seal : goal.returns-clause-seal
returns-clause-seal c layout state new group failed x =
    let q = sealed_core layout state.core group failed.items x.wrote in
    (image_of group state.asked q, ap (λ (v : State). v.sealed) x.made, ap (λ (v : State). v.core.pass) (sym x.made))

pub returns-clause-commit : goal.returns-clause-commit
returns-clause-commit c layout state new group x = x.sealed ∙ ap (λ (v : State). Some v.image) (sym x.made)

pub returns-clause-opening : goal.returns-clause-opening
returns-clause-opening c layout state new group doubtful lay reached x =
    let z = opened layout state x.image group (reached_sound layout lay state reached) x.one in
    subst (λ (v : State). IsImage state v.image × (v.image.group ≡ group) × (v.core.pass ≡ v.image.core.pass)) (sym x.made) (z.0, z.1, refl)
