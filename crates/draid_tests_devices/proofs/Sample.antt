-- The value of a slot that a test writes.
use Rattle.std.proofs.Common.{◌≡◌, refl, inl, sym, subst, arith}
use Rattle.std.specs.Int.Count.{ones}
use Rattle.draid_spec.specs.Multiple.{lcm}
use Rattle.draid_record.specs.declared.uber.UberBody.{UberBody}
use Rattle.draid_record.specs.Uber.{IsUber}

-- group 1 of a pool of three disks, with one parity
abbrev sample : UberBody
sample = record {
  group = 1;
  spec = record { parity = 1; ndata = 2; children = 3; spares = 0 };
  props = record { sector = 512; height = 8; metaslabs = 1; slices = 4; seed = 1; version = 1 };
  next_leaf = 3;
}

is_ranged : IsUber sample
unfolding ones lcm
is_ranged = record {
  group_above = omega arith;
  group_below = omega arith;
  version_is = inl refl;
  spec_is = record {
    some_parity = omega arith;
    most_parity = omega arith;
    some_data = omega arith;
    most_data = omega arith;
    some_children = omega arith;
    most_children = omega arith;
    first_children = λ _. omega arith;
    most_spares = omega arith;
  };
  wide = omega arith;
  props_are = record {
    sector = inl refl;
    power = refl;
    least_height = omega arith;
    most_height = omega arith;
    some_metaslabs = omega arith;
    most_metaslabs = omega arith;
    some_slices = omega arith;
    most_slices = omega arith;
  };
  layout = refl;
  seed_below = omega arith;
  leaf_above = omega arith;
  leaf_below = omega arith;
}

pub sample_ranged : (body : UberBody) → body ≡ sample → IsUber body
sample_ranged body is = subst IsUber (sym is) is_ranged
