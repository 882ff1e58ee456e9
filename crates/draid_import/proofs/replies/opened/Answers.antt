use Rattle.std.proofs.Common.{◌∙◌, ap, refl, sym}
use Rattle.draid_spec.specs.declared.layout.Geometry.{Geometry}
use Rattle.draid_session.specs.Making.{vdev_name_of}
use Rattle.draid_import.proofs.replies.opened.Goals as goal

pub returns : goal.returns
returns g c = record {
  called = c.in_ok-name.name;
  group = c.committed.result;
  objects = c.objects.result;
  reply_is = refl;
  name_is = c.in_ok-name.ensures ∙ ap (λ (l : Geometry). vdev_name_of l.spec) c.geometry.ensures.value;
  group_is = c.committed.ensures.group;
  names = c.objects.ensures.names;
  layout = λ x is. sym c.geometry.ensures.value ∙ c.geometry.ensures.state x is;
  committed = c.committed.ensures.state;
  counted = c.objects.ensures.state;
}
