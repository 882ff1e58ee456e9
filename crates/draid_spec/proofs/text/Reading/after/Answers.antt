use Rattle.std.proofs.Common.{◌≡◌, ◌+◌, ◌*◌, ◌^◌, ◌<◌, ◌≤◌, ap, subst, arith}
use Rattle.std.specs.Prelude.{IfSome}
use Rattle.draid_spec.specs.Text.{letters_of, open_of}
use Rattle.draid_spec.proofs.Readings.{nine_digits_fit}
use Rattle.draid_spec.proofs.text.Reading.after.Goals as goal

pub with-requires-clause-value : goal.with-requires-clause-value
with-requires-clause-value c = subst (λ digits. IfSome digits (λ d. d.value < 10 ^ d.count)) c.in-Some.is c.requires.value

pub with-requires-in-Some-2-clause-value : goal.with-requires-in-Some-2-clause-value
with-requires-in-Some-2-clause-value c =
    let digits = c.in-Some-2.digits in
    nine_digits_fit digits.value digits.count (subst (λ digits. IfSome digits (λ d. d.count ≤ 9)) c.in-Some-2.is c.requires.count)
    (subst (λ digits. IfSome digits (λ d. d.value < 10 ^ d.count)) c.in-Some-2.is c.requires.value)

pub returns-in-None-clause-keeps : goal.returns-in-None-clause-keeps
returns-in-None-clause-keeps c =
    let place = subst (λ digits. c.args.at ≤ 6 + 11 * letters_of c.args.self.said + open_of digits) c.in-None.is c.requires.place in
    record { said = c.requires.said; count = omega arith; value = omega arith; place = omega (arith, place) }

pub returns-in-Some-clause-keeps : goal.returns-in-Some-clause-keeps
returns-in-Some-clause-keeps c =
    let place = subst (λ digits. c.args.at ≤ 6 + 11 * letters_of c.args.self.said + open_of digits) c.in-Some.is c.requires.place in
    let longer : c.with.result.count ≡ c.in-Some.digits.count + 1 = ap (λ d. d.count) c.with.ensures.exact in
    record { said = c.requires.said; count = omega (arith, longer); value = c.with.ensures.value; place = omega (arith, place, longer) }

pub returns-in_ok-with-in-Some-2-clause-keeps : goal.returns-in_ok-with-in-Some-2-clause-keeps
returns-in_ok-with-in-Some-2-clause-keeps c =
    let place = subst (λ digits. c.args.at ≤ 6 + 11 * letters_of c.args.self.said + open_of digits) c.in-Some-2.is c.requires.place in
    let few = subst (λ digits. IfSome digits (λ d. d.count ≤ 9)) c.in-Some-2.is c.requires.count in
    let letters = c.in_ok-with-in-Some-2.ensures.count in
    record { said = c.in_ok-with-in-Some-2.ensures.ranges; count = tt; value = tt; place = omega (arith, place, few, letters) }
