use Rattle.std.proofs.Common.{◌≡◌, ℕ, None, refl, subst, sym, arith}
use Rattle.std.specs.Prelude.{IfOk}
use Rattle.std.specs.Option.{option_map}
use Rattle.draid_record.specs.Reader.{Reads, state_of}
use Rattle.draid_record.specs.Record as spec
use Rattle.draid_record.specs.Record.{told_pass, told_slots}
use Rattle.draid_record.proofs.Steps.{done, number_ok, number_then}
use Rattle.draid_record.proofs.pass.pass.Goals as goal

pub returns-in-0-clause-pass : goal.returns-in-0-clause-pass
returns-in-0-clause-pass c =
    let b = state_of c.number.new.self in
    let D : ℕ → Type 0 = λ n. Reads b b None (spec.pass_by c.args.limits.now (told_slots c.args.all.now) n) in
    number_then 1 _ _ _ _ _ _ _ _ _ _ refl refl c.number.ensures.reads (subst D (sym c.in-0.is) (done b None))

pub returns-in-1-clause-pass : goal.returns-in-1-clause-pass
returns-in-1-clause-pass c =
    let D : ℕ → Type 0 = λ n. IfOk c.pass_of.result (λ pass. Reads (state_of c.number.new.self) (state_of c.pass_of.new.reader) (option_map told_pass pass) (spec.pass_by c.args.limits.now (told_slots c.args.all.now) n)) in
    number_ok 1 _ _ _ _ _ _ _ _ _ (λ pass. option_map told_pass pass) c.pass_of.result refl refl c.number.ensures.reads (subst D (sym c.in-1.is) c.pass_of.ensures.pass)

pub returns-in_default-clause-pass : goal.returns-in_default-clause-pass
returns-in_default-clause-pass c =
    let D : ℕ → Type 0 = λ n. IfOk c.pass_of-in_default.result (λ pass. Reads (state_of c.number.new.self) (state_of c.pass_of-in_default.new.reader) (option_map told_pass pass) (spec.pass_by c.args.limits.now (told_slots c.args.all.now) n)) in
    let last : 2 ≡ c.number.result = omega arith in
    number_ok 1 _ _ _ _ _ _ _ _ _ (λ pass. option_map told_pass pass) c.pass_of-in_default.result refl refl c.number.ensures.reads (subst D last c.pass_of-in_default.ensures.pass)
