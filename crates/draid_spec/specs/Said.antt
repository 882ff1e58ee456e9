use Rattle.std.specs.Prelude.{◌==◌, ◌+◌, ◌-◌, ◌≤◌, ◌||◌, ◌&&◌, not, ℕ, Bool, min, max, nat_lt, nat_le, Option, None, Some, IfSome, is_some, unwrap_or, Result, Ok, Err, if◌then◌else◌}
use Rattle.std.specs.Result.{result_and}
use Rattle.draid_spec.specs.declared.spec.Spec.{Spec}
use Rattle.draid_spec.specs.declared.spec.SpecFault.{SpecFault}
use Rattle.draid_spec.specs.declared.spec.SpecFault.TheVariants.{Repeated, Children, Limit}
use Rattle.draid_spec.specs.declared.text.Said.{Said}
use Rattle.draid_spec.specs.Spec.{checked_width, most_children}

-- before any argument
abbrev pub nothing_said : ℕ → Said
nothing_said parity = record { parity = parity; ndata = None; children = None; spares = None }

-- a letter of an argument: d, c or s
abbrev pub is_letter : ℕ → Bool
is_letter c = c == 100 || (c == 99 || c == 115)

-- what was said before a letter
abbrev pub number_of : Said → ℕ → Option ℕ
number_of said letter = if letter == 100 then said.ndata else if letter == 99 then said.children else said.spares

-- a number before a letter, beside what was said
abbrev pub with_number : Said → ℕ → ℕ → Said
with_number said letter value =
    if letter == 100 then record said { ndata = Some value }
    else if letter == 99 then record said { children = Some value }
    else record said { spares = Some value }

-- each letter stands at most once
abbrev pub adding : Said → ℕ → ℕ → Result Said SpecFault
adding said letter value =
    if is_some (number_of said letter) then Err (Repeated letter) else Ok (with_number said letter value)

-- what a text can say: a parity, and numbers of at most nine digits
pub record IsSaid (said : Said) : Type 0 where
  pub some_parity : 1 ≤ said.parity
  pub most_parity : said.parity ≤ 3
  pub ndata : IfSome said.ndata (λ n. n ≤ 999999999)
  pub children : IfSome said.children (λ n. n ≤ 999999999)
  pub spares : IfSome said.spares (λ n. n ≤ 999999999)

-- the spec that is meant for so many children: no spares unless they are said, and 8 data columns or as
-- many as are left, but at least one
abbrev pub spec_of : Said → ℕ → Spec
spec_of said given =
    let spares = unwrap_or said.spares 0 in
    let left = given - (said.parity + spares) in
    record { parity = said.parity; ndata = unwrap_or said.ndata (max 1 (min 8 left)); children = given; spares = spares }

-- the children that are said are those that are given
abbrev pub checked_children : Option ℕ → ℕ → Result Unit SpecFault
checked_children None given = Ok tt
checked_children (Some said) given = if said == given then Ok tt else Err (Children said given)

-- the children by the version, the spares and the data that are said are in their limits: c, s, d
abbrev pub checked_limits : Said → ℕ → ℕ → Result Unit SpecFault
checked_limits said given version =
    if not (nat_le 2 given && nat_le given (most_children version)) then Err (Limit 99 given)
    else if nat_lt 4 (unwrap_or said.spares 0) then Err (Limit 115 (unwrap_or said.spares 0))
    else if unwrap_or said.ndata 8 == 0 then Err (Limit 100 0)
    else Ok tt

-- the spec, where the number of children, the limits and the width are right, looked at in this order
abbrev pub spec_checked : Said → ℕ → ℕ → Result Spec SpecFault
spec_checked said given version =
    result_and (checked_children said.children given) (result_and (checked_limits said given version)
    (result_and (checked_width (spec_of said given)) (Ok (spec_of said given))))
