-- What is written is read again, and what a slot spells is in its ranges.
use Rattle.std.proofs.Common.{arith, ◌≡◌, ◌≤◌, ◌%◌, ◌⊎◌, ℕ, true, List, ◌++◌, length, Ok, ap, subst, sym, ◌∙◌, eqb-true, leb-true}
use Rattle.std.specs.Prelude.{◌==◌, ◌||◌, nat_le}
use Rattle.std.proofs.lemmas.Bool.Decides.{nat_tests}
use Rattle.draid_spec.specs.Geometry.{IsVersion}
use Rattle.draid_spec.specs.Spec.{most_children}
use Rattle.draid_record.specs.declared.limits.Limits.{Limits}
use Rattle.draid_record.specs.declared.uber.UberBody.{UberBody}
use Rattle.draid_record.specs.Grammar.{Spells}
use Rattle.draid_record.specs.Reading.{read}
use Rattle.draid_record.specs.Record.{RecordTold, record_of}
use Rattle.draid_record.specs.Uber.{IsUber, told, uber}
use Rattle.draid_record.specs.Written.{IsRecord, IsWhole}
use Rattle.draid_record.proofs.Laws.{read_again}
use Rattle.draid_record.proofs.Whole.{whole_only}
use Rattle.draid_record.proofs.WholeWritten.{written_spelled}

pub record_again : (limits : Limits) (value : RecordTold) (bytes more : List ℕ) → IsWhole bytes value → IsRecord limits value → record_of limits (bytes ++ more) ≡ Ok value
record_again limits value bytes more whole is = whole_only limits (bytes ++ more) value (written_spelled limits value bytes more whole is)

pub uber_again : (slot : ℕ) (body : UberBody) (bytes more : List ℕ) → Spells (uber slot) bytes body → told (length (bytes ++ more)) (read (uber slot) (bytes ++ more)) ≡ Ok body
uber_again slot body bytes more is = ap (told (length (bytes ++ more))) (read_again (uber slot) bytes more body is)

version_is : (v : ℕ) → 1 ≤ v → v ≤ 2 → IsVersion v
version_is v low high = grind (arith, nat_tests)

children_are : (v n : ℕ) → n ≤ most_children v → (n ≤ 64) × (v ≡ 1 → n ≤ 32)
children_are v n most = (grind (arith, nat_tests), λ one. grind (arith, nat_tests))

sector_is : (n : ℕ) → (n == 512 || n == 4096) ≡ true → (n ≡ 512) ⊎ (n ≡ 4096)
sector_is n is = grind (arith, nat_tests)

-- gate, magic, version, group, parity of the group, parity, data, children, spares, width, sector, its test, height, its
-- test, metaslabs, slices, layout, seed, next leaf
pub uber_ranges : (slot : ℕ) (body : UberBody) (bytes : List ℕ) → Spells (uber slot) bytes body → IsUber body
unfolding Spells uber
uber_ranges slot body bytes is =
    let version = is.6.6 in
    let group = version.6 in
    let parity = group.6.1 in
    let ndata = parity.6 in
    let children = ndata.6 in
    let spares = children.6 in
    let sector = spares.6.1 in
    let height = sector.6.1 in
    let metaslabs = height.6.1 in
    let slices = metaslabs.6 in
    let seed = slices.6.1 in
    let leaf = seed.6 in
    let few = children_are version.0 children.0 children.5 in
    let made : IsUber (record {
      group = group.0;
      spec = record { parity = parity.0; ndata = ndata.0; children = children.0; spares = spares.0 };
      props = record { sector = sector.0; height = height.0; metaslabs = metaslabs.0; slices = slices.0; seed = seed.0; version = version.0 };
      next_leaf = leaf.0;
    }) = record {
      group_above = group.4;
      group_below = group.5;
      version_is = version_is version.0 version.4 version.5;
      spec_is = record {
        some_parity = parity.4;
        most_parity = parity.5;
        some_data = ndata.4;
        most_data = let most = ndata.5 in omega (arith, most);
        some_children = children.4;
        most_children = few.0;
        first_children = few.1;
        most_spares = spares.5;
      };
      wide = leb-true _ _ spares.6.0;
      props_are = record {
        sector = sector_is sector.0 sector.6.0;
        power = height.6.0;
        least_height = height.4;
        most_height = height.5;
        some_metaslabs = metaslabs.4;
        most_metaslabs = metaslabs.5;
        some_slices = slices.4;
        most_slices = slices.5;
      };
      layout = slices.6.0;
      seed_below = let most = seed.5 in omega (arith, most);
      leaf_above = leaf.4;
      leaf_below = leaf.5;
    } in
    subst IsUber (sym leaf.6.1) made

pub uber_slot : (slot : ℕ) (body : UberBody) (bytes : List ℕ) → Spells (uber slot) bytes body → body.group % 2 ≡ slot
unfolding Spells uber
uber_slot slot body bytes is =
    let group = is.6.6.6 in
    let leaf = group.6.1.6.6.6.6.1.6.1.6.1.6.6.1.6 in
    ap (λ (b : UberBody). b.group % 2) leaf.6.1 ∙ eqb-true (group.0 % 2) slot group.6.0
