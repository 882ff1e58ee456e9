use Rattle.std.proofs.Common.{◌≡◌, ◌==◌, ◌≤◌, ◌+◌, ◌++◌, ◌%◌, ℕ, true, false, List, Option, Some, None, Result, Ok, Err, OnOk, arith, length, option_map, drop, refl, subst, sym, take}
use Rattle.std.proofs.lemmas.List.{length-append, take-append-le, take_all}
use Rattle.std.proofs.lemmas.Bool.Decides.{nat_tests}
use Rattle.draid_names.specs.Faults.{Rose}
use Rattle.draid_names.specs.declared.fault.DeviceFault.{DeviceFault}
use Rattle.draid_area.specs.Area.{Content, OnTold, flushes, writes}
use Rattle.draid_record.specs.Record.{RecordTold, told_record}
use Rattle.draid_record.specs.Written.{IsWhole}
use Rattle.draid_stable.specs.Stable.{Stands}
use Rattle.draid_pool.specs.Sealing.{area_by}
use Rattle.draid_pool.proofs.records.write_to.Goals as goal

even_next : (group : ℕ) → group % 2 ≡ 0 → ((group + 1) % 2 == 0) ≡ false
even_next group even = grind (arith, nat_tests)

odd_next : (group : ℕ) → (group % 2 ≡ 0 → ⊥) → ((group + 1) % 2 == 0) ≡ true
odd_next group odd = grind (arith, nat_tests)

odd_now : (group : ℕ) → (group % 2 ≡ 0 → ⊥) → (group % 2 == 0) ≡ false
odd_now group odd = grind (arith, nat_tests)

even_now : (group : ℕ) → group % 2 ≡ 0 → (group % 2 == 0) ≡ true
even_now group even = grind (arith, nat_tests)

other_even : {A : Type 0} (even odd new : A) (group : ℕ) → group % 2 ≡ 0 → area_by new odd (group + 1) ≡ area_by even odd (group + 1)
other_even even odd new group is = rw (even_next group is) refl

other_odd : {A : Type 0} (even odd new : A) (group : ℕ) → (group % 2 ≡ 0 → ⊥) → area_by even new (group + 1) ≡ area_by even odd (group + 1)
other_odd even odd new group is = rw (odd_next group is) refl

cause_even : {A E : Type 0} (faults : A → ℕ) (even odd new : A) (group : ℕ) → group % 2 ≡ 0 → (E → Rose (faults even) (faults new)) → E → Rose (faults (area_by even odd group)) (faults (area_by new odd group))
cause_even faults even odd new group is rose e = rw (even_now group is) (rose e)

cause_odd : {A E : Type 0} (faults : A → ℕ) (even odd new : A) (group : ℕ) → (group % 2 ≡ 0 → ⊥) → (E → Rose (faults odd) (faults new)) → E → Rose (faults (area_by even odd group)) (faults (area_by even new group))
cause_odd faults even odd new group is rose e = rw (odd_now group is) (rose e)

-- ---- a record that was written and flushed stands
ok_then : {P Q : Type 0} (r : Result Unit DeviceFault) → (P → Q) → OnOk r P → OnOk r Q
ok_then (Ok done) f p = f p
ok_then (Err e) f p = tt

front_is : (bytes rest : List ℕ) → take (length bytes) (bytes ++ rest) ≡ bytes
front_is bytes rest =
    let le : length bytes ≤ length bytes = omega arith in
    rw take-append-le (take_all (length bytes) bytes le)

put_stands : (bytes : List ℕ) (value : RecordTold) (x : Content) → IsWhole bytes value → Stands value (flushes (writes 0 bytes x))
put_stands bytes value x whole =
    let rest = drop (0 + length bytes) x.bytes in
    record {
      front = subst (λ (b : List ℕ). take (length b) (bytes ++ rest) ≡ b) whole.bytes_are (front_is bytes rest);
      firm = λ i less. refl;
      least = subst (λ (b : List ℕ). length b ≤ length (bytes ++ rest)) whole.bytes_are (omega (arith, length-append bytes rest));
      short = whole.short;
    }

told_stands : (bytes : List ℕ) (value : RecordTold) (old new : Option Content) → IsWhole bytes value → new ≡ option_map (λ x. flushes (writes 0 bytes x)) old → OnTold new (Stands value)
told_stands bytes value None new whole is = subst (λ o. OnTold o (Stands value)) (sym is) tt
told_stands bytes value (Some x) new whole is = subst (λ o. OnTold o (Stands value)) (sym is) (put_stands bytes value x whole)

on_even : {A : Type 0} (told : A → Option Content) (value : RecordTold) (odd new : A) (group : ℕ) → group % 2 ≡ 0 → OnTold (told new) (Stands value) → OnTold (told (area_by new odd group)) (Stands value)
on_even told value odd new group is stands = rw (even_now group is) stands

on_odd : {A : Type 0} (told : A → Option Content) (value : RecordTold) (even new : A) (group : ℕ) → (group % 2 ≡ 0 → ⊥) → OnTold (told new) (Stands value) → OnTold (told (area_by even new group)) (Stands value)
on_odd told value even new group is stands = rw (odd_now group is) stands

pub returns-then-group-eq0 : goal.returns-then-group-eq0
returns-then-group-eq0 g c =
    record {
      stands = (let told = g.A.Area.told in
          let value = told_record c.args.made.now in
          let whole = subst (λ (bytes : List ℕ). IsWhole bytes value) (sym c.deref.ensures.value) c.in_ok-bytes.ensures.whole in
          ok_then c.put_record.result
          (λ is. on_even told value c.args.odd.now c.put_record.new.area c.args.group c.if-group-eq0.true (told_stands c.deref.result.now value (told c.args.even.now) (told c.put_record.new.area) whole is))
          c.put_record.ensures.told);
      other = other_even c.args.even.now c.args.odd.now _ c.args.group c.if-group-eq0.true;
      even_later = c.put_record.ensures.later;
      odd_later = omega arith;
      cause = cause_even g.A.Area.faults c.args.even.now c.args.odd.now _ c.args.group c.if-group-eq0.true c.put_record.ensures.cause;
    }

pub returns : goal.returns
returns g c =
    record {
      stands = (let told = g.A.Area.told in
          let value = told_record c.args.made.now in
          let whole = subst (λ (bytes : List ℕ). IsWhole bytes value) (sym c.deref-else-group-eq0.ensures.value) c.in_ok-bytes.ensures.whole in
          ok_then c.put_record-else-group-eq0.result
          (λ is. on_odd told value c.args.even.now c.put_record-else-group-eq0.new.area c.args.group c.if-group-eq0.false
          (told_stands c.deref-else-group-eq0.result.now value (told c.args.odd.now) (told c.put_record-else-group-eq0.new.area) whole is))
          c.put_record-else-group-eq0.ensures.told);
      other = other_odd c.args.even.now c.args.odd.now _ c.args.group c.if-group-eq0.false;
      even_later = omega arith;
      odd_later = c.put_record-else-group-eq0.ensures.later;
      cause = cause_odd g.A.Area.faults c.args.even.now c.args.odd.now _ c.args.group c.if-group-eq0.false c.put_record-else-group-eq0.ensures.cause;
    }
