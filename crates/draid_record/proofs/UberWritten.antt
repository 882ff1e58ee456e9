-- A slot of the uberblock, one field behind the other.
use Rattle.std.proofs.Common.{◌≡◌, ℕ, ◌%◌, ◌≤◌, true, List, [], ◌∷◌, ◌++◌, refl, arith, inl, inr}
use Rattle.std.specs.Prelude.{◌==◌, ◌||◌}
use Rattle.std.proofs.lemmas.Bool.Decides.{nat_tests}
use Rattle.byteorder.specs.Endian.{big_bytes}
use Rattle.draid_spec.specs.Spec.{most_children}
use Rattle.draid_record.specs.declared.uber.UberBody.{UberBody}
use Rattle.draid_record.specs.Grammar.{Spells}
use Rattle.draid_record.specs.Uber.{IsUber, is_wide, uber}

-- the bytes of fields of so many bytes with these numbers
abbrev pub fields_bytes : List (ℕ × ℕ) → List ℕ
fields_bytes [] = []
fields_bytes (field ∷ fields) = big_bytes field.0 field.1 ++ fields_bytes fields

abbrev pub props_fields : UberBody → List (ℕ × ℕ)
props_fields body =
    (4, body.props.sector) ∷ (4, body.props.height) ∷ (4, body.props.metaslabs) ∷ (4, body.props.slices) ∷ (8, body.props.seed) ∷ (8, body.next_leaf) ∷ []

abbrev pub spec_fields : UberBody → List (ℕ × ℕ)
spec_fields body = (1, body.spec.parity) ∷ (1, body.spec.ndata) ∷ (1, body.spec.children) ∷ (1, body.spec.spares) ∷ props_fields body

abbrev pub uber_fields : UberBody → List (ℕ × ℕ)
uber_fields body = (1, 90) ∷ (4, 1146770754) ∷ (2, body.props.version) ∷ (8, body.group) ∷ spec_fields body

pub uber_spelled : (body : UberBody) → IsUber body → Spells (uber (body.group % 2)) (fields_bytes (uber_fields body)) body
unfolding Spells uber
uber_spelled body is =
    let s = is.spec_is in
    let p = is.props_are in
    let wide = is.wide in
    let most = s.most_children in
    let first = s.first_children in
    let some_children = s.some_children in
    let group_above = is.group_above in
    let group_below = is.group_below in
    let even : ((body.group % 2) == (body.group % 2)) ≡ true = grind (arith, nat_tests) in
    let fits : is_wide body.spec ≡ true = grind (arith, nat_tests) in
    let sector : (512 ≤ body.props.sector) × (body.props.sector ≤ 4096) × ((body.props.sector == 512 || body.props.sector == 4096) ≡ true) = elim p.sector [
      | inl is ↦ (omega arith, omega arith, grind (arith, nat_tests))
      | inr is ↦ (omega arith, omega arith, grind (arith, nat_tests))
    ] in
    let version : (1 ≤ body.props.version) × (body.props.version ≤ 2) × (body.spec.children ≤ most_children body.props.version) = elim is.version_is [
      | inl is ↦ (omega arith, omega arith, grind (arith, nat_tests))
      | inr is ↦ (omega arith, omega arith, grind (arith, nat_tests))
    ] in
    let version_above = version.0 in
    let version_below = version.1 in
    let seed = is.seed_below in
    let leaf_above = is.leaf_above in
    let leaf_below = is.leaf_below in (
      90,
      fields_bytes ((4, 1146770754) ∷ (2, body.props.version) ∷ (8, body.group) ∷ (1, body.spec.parity) ∷ (1, body.spec.ndata) ∷ (1, body.spec.children) ∷ (1, body.spec.spares) ∷ (4, body.props.sector) ∷ (4, body.props.height) ∷ (4, body.props.metaslabs) ∷ (4, body.props.slices) ∷ (8, body.props.seed) ∷ (8, body.next_leaf) ∷ []),
      refl,
      omega arith,
      omega arith,
      omega arith,
      (
        1146770754,
        fields_bytes ((2, body.props.version) ∷ (8, body.group) ∷ (1, body.spec.parity) ∷ (1, body.spec.ndata) ∷ (1, body.spec.children) ∷ (1, body.spec.spares) ∷ (4, body.props.sector) ∷ (4, body.props.height) ∷ (4, body.props.metaslabs) ∷ (4, body.props.slices) ∷ (8, body.props.seed) ∷ (8, body.next_leaf) ∷ []),
        refl,
        omega arith,
        omega arith,
        omega arith,
        (
          body.props.version,
          fields_bytes ((8, body.group) ∷ (1, body.spec.parity) ∷ (1, body.spec.ndata) ∷ (1, body.spec.children) ∷ (1, body.spec.spares) ∷ (4, body.props.sector) ∷ (4, body.props.height) ∷ (4, body.props.metaslabs) ∷ (4, body.props.slices) ∷ (8, body.props.seed) ∷ (8, body.next_leaf) ∷ []),
          refl,
          omega arith,
          omega arith,
          omega arith,
          (
            body.group,
            fields_bytes ((1, body.spec.parity) ∷ (1, body.spec.ndata) ∷ (1, body.spec.children) ∷ (1, body.spec.spares) ∷ (4, body.props.sector) ∷ (4, body.props.height) ∷ (4, body.props.metaslabs) ∷ (4, body.props.slices) ∷ (8, body.props.seed) ∷ (8, body.next_leaf) ∷ []),
            refl,
            omega arith,
            omega arith,
            omega arith,
            (
              even,
              (
                body.spec.parity,
                fields_bytes ((1, body.spec.ndata) ∷ (1, body.spec.children) ∷ (1, body.spec.spares) ∷ (4, body.props.sector) ∷ (4, body.props.height) ∷ (4, body.props.metaslabs) ∷ (4, body.props.slices) ∷ (8, body.props.seed) ∷ (8, body.next_leaf) ∷ []),
                refl,
                omega arith,
                omega arith,
                omega arith,
                (
                  body.spec.ndata,
                  fields_bytes ((1, body.spec.children) ∷ (1, body.spec.spares) ∷ (4, body.props.sector) ∷ (4, body.props.height) ∷ (4, body.props.metaslabs) ∷ (4, body.props.slices) ∷ (8, body.props.seed) ∷ (8, body.next_leaf) ∷ []),
                  refl,
                  omega arith,
                  omega arith,
                  omega arith,
                  (
                    body.spec.children,
                    fields_bytes ((1, body.spec.spares) ∷ (4, body.props.sector) ∷ (4, body.props.height) ∷ (4, body.props.metaslabs) ∷ (4, body.props.slices) ∷ (8, body.props.seed) ∷ (8, body.next_leaf) ∷ []),
                    refl,
                    omega arith,
                    omega arith,
                    version.2,
                    (
                      body.spec.spares,
                      fields_bytes ((4, body.props.sector) ∷ (4, body.props.height) ∷ (4, body.props.metaslabs) ∷ (4, body.props.slices) ∷ (8, body.props.seed) ∷ (8, body.next_leaf) ∷ []),
                      refl,
                      omega arith,
                      omega arith,
                      omega arith,
                      (
                        fits,
                        (
                          body.props.sector,
                          fields_bytes ((4, body.props.height) ∷ (4, body.props.metaslabs) ∷ (4, body.props.slices) ∷ (8, body.props.seed) ∷ (8, body.next_leaf) ∷ []),
                          refl,
                          omega arith,
                          sector.0,
                          sector.1,
                          (
                            sector.2,
                            (
                              body.props.height,
                              fields_bytes ((4, body.props.metaslabs) ∷ (4, body.props.slices) ∷ (8, body.props.seed) ∷ (8, body.next_leaf) ∷ []),
                              refl,
                              omega arith,
                              omega arith,
                              omega arith,
                              (
                                p.power,
                                (
                                  body.props.metaslabs,
                                  fields_bytes ((4, body.props.slices) ∷ (8, body.props.seed) ∷ (8, body.next_leaf) ∷ []),
                                  refl,
                                  omega arith,
                                  omega arith,
                                  omega arith,
                                  (
                                    body.props.slices,
                                    fields_bytes ((8, body.props.seed) ∷ (8, body.next_leaf) ∷ []),
                                    refl,
                                    omega arith,
                                    omega arith,
                                    omega arith,
                                    (
                                      is.layout,
                                      (
                                        body.props.seed,
                                        fields_bytes ((8, body.next_leaf) ∷ []),
                                        refl,
                                        omega arith,
                                        omega arith,
                                        omega arith,
                                        (
                                          body.next_leaf,
                                          [],
                                          refl,
                                          omega arith,
                                          leaf_above,
                                          leaf_below,
                                          (refl, refl),
                                        ),
                                      ),
                                    ),
                                  ),
                                ),
                              ),
                            ),
                          ),
                        ),
                      ),
                    ),
                  ),
                ),
              ),
            ),
          ),
        ),
      ),
    )
