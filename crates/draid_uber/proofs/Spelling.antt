-- What is spelled of a check record is in its ranges.
use Rattle.std.proofs.Common.{◌≡◌, ℕ, zero, suc, ◌+◌, ◌^◌, ◌<◌, ◌≤◌, List, [], ◌∷◌, ◌++◌, length, Option, Some, None, Result, Ok, Err, IfOk, refl, sym, ap, subst, arith}
use Rattle.std.specs.Prelude.{◌==◌, ◌*◌}
use Rattle.byteorder.specs.Endian.{big_bytes}
use Rattle.draid_record.specs.Checks.{AreDrops, CheckTold, IsCheck, SpelledCheck, drop_behind, drops_of, fields, most_drops, some_drop, told_check}
use Rattle.draid_record.specs.declared.checks.CheckBody.{CheckBody}
use Rattle.draid_record.specs.declared.checks.Dropped.{Dropped}
use Rattle.draid_record.specs.declared.fault.RecordFault.{RecordFault}
use Rattle.draid_record.specs.Grammar.{Grammar, Done, Number, Bytes, Check, ◌>>=◌, Spells, many}

-- what the first of two grammars spelled, and what the second did by it
record Parts {A B : Type 0} (g : Grammar A) (f : A → Grammar B) (y : B) : Type 0 where
  value : A
  front : List ℕ
  rest : List ℕ
  first : Spells g front value
  second : Spells (f value) rest y

parts : {A B : Type 0} (g : Grammar A) (f : A → Grammar B) (bytes : List ℕ) (y : B) → Spells (g >>= f) bytes y → Parts g f y
unfolding Spells
parts (Done x) f bytes y is = record { value = x; front = []; rest = bytes; first = (refl, refl); second = is }
parts (Number width low high next) f bytes y is =
    let p = parts (next is.0) f is.1 y is.6 in
    record { value = p.value; front = big_bytes width is.0 ++ p.front; rest = p.rest; first = (is.0, p.front, refl, is.3, is.4, is.5, p.first); second = p.second }
parts (Bytes width next) f bytes y is =
    let p = parts (next is.0) f is.1 y is.4 in
    record { value = p.value; front = is.0 ++ p.front; rest = p.rest; first = (is.0, p.front, refl, is.3, p.first); second = p.second }
parts (Check holds back next) f bytes y is =
    let p = parts next f bytes y is.1 in
    record { value = p.value; front = p.front; rest = p.rest; first = (is.0, p.first); second = p.second }

-- so many blocks, one behind the other
record AreSo (count : ℕ) (before : Option Dropped) (list : List Dropped) : Type 0 where
  many_are : length list ≡ count
  drops_are : AreDrops before list

blocks_in : (count : ℕ) (before : Option Dropped) (bytes : List ℕ) (list : List Dropped) → Spells (many count drop_behind some_drop before) bytes list → AreSo count before list
unfolding many Spells
blocks_in zero before bytes list is = subst (λ ds. AreSo 0 before ds) (sym is.1) (record { many_are = refl; drops_are = tt })
blocks_in (suc n) before bytes list is =
    let one = parts (drop_behind before) (λ d. many n drop_behind some_drop (some_drop before d) >>= λ ds. Done (d ∷ ds)) bytes list is in
    let more = parts (many n drop_behind some_drop (Some one.value)) (λ ds. Done (one.value ∷ ds)) one.rest list one.second in
    let rest = blocks_in n (Some one.value) more.front more.value more.first in
    let block : Dropped = record { object = one.first.0; seq = one.first.6.0 } in
    let object = one.first.3 in
    let seq = one.first.6.3 in
    let head : AreDrops before (block ∷ more.value) = (one.first.4, omega (arith, object), omega (arith, seq), one.first.6.6.0, subst (λ d. AreDrops (Some d) more.value) one.first.6.6.1.1 rest.drops_are) in
    subst (λ ds. AreSo (suc n) before ds) (sym more.second.1) (record { many_are = ap suc rest.many_are; drops_are = subst (λ d. AreDrops before (d ∷ more.value)) (sym one.first.6.6.1.1) head })

fields_in : (group len : ℕ) (bytes : List ℕ) (value : CheckTold) → Spells (fields group len) bytes value → IsCheck group value
unfolding Spells
fields_in group len bytes value is =
    let n = is.6.0 in
    let count = is.6.6.0 in
    let list = parts (drops_of count) (λ (ds : List Dropped). Done (record { group = n; drops = ds })) is.6.6.1 value is.6.6.6.1 in
    let blocks = blocks_in count None list.front list.value list.first in
    let own = is.3 in
    let most = is.4 in
    let many = blocks.many_are in
    subst (IsCheck group) (sym list.second.1) (record {
      small = omega (arith, own, most);
      upto = is.6.5;
      few = subst (λ k. k ≤ most_drops n) (sym many) is.6.6.5;
      drops_are = blocks.drops_are;
    })

-- what is read of a check record is in its ranges
pub check_ranges : (group : ℕ) (bytes : List ℕ) (r : Result CheckBody RecordFault) → IfOk r (λ it. SpelledCheck group bytes (told_check it)) → IfOk r (λ it. IsCheck group (told_check it))
check_ranges group bytes (Ok it) s = fields_in group s.len s.text_bytes (told_check it) s.fields_are
check_ranges group bytes (Err e) s = tt
