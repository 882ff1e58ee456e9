use Rattle.std.specs.Prelude.{ℕ, List, ◌++◌, codes}
use Rattle.std.specs.Fmt.{decimal}
use Rattle.draid_spec.specs.declared.spec.Spec.{Spec}

-- the text of a spec, in full
abbrev pub spec_name_of : Spec → List ℕ
spec_name_of spec =
    codes "draid" ++ (decimal spec.parity ++ (codes ":" ++ (decimal spec.ndata
    ++ (codes "d:" ++ (decimal spec.children ++ (codes "c:" ++ (decimal spec.spares ++ codes "s")))))))

-- the name of a spare
abbrev pub spare_name_of : Spec → ℕ → List ℕ
spare_name_of spec spare = codes "draid" ++ (decimal spec.parity ++ (codes "-0-" ++ decimal spare))
