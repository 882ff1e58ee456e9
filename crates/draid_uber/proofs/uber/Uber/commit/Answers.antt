use Rattle.std.proofs.Common.{refl, arith, ◌∙◌, ◌∷◌, [], ap, subst, Some}
use Rattle.draid_record.specs.declared.uber.UberBody.{UberBody}
use Rattle.draid_uber.specs.Slots.{StandsTold}
use Rattle.draid_uber.proofs.Ends.{on_err}
use Rattle.draid_uber.proofs.Layouts.{held_next}
use Rattle.draid_uber.proofs.uber.Uber.commit.Goals as goal

pub returns-in_err-write-clause-valid : goal.returns-in_err-write-clause-valid
returns-in_err-write-clause-valid g c =
    let long = c.requires.valid.long in
    let grown = c.write.ensures.grown in
    record { held = c.requires.valid.held; long = omega (arith, long, grown); spelled = c.requires.valid.spelled; positive = c.requires.valid.positive }

pub returns-in_err-write-clause-refused : goal.returns-in_err-write-clause-refused
returns-in_err-write-clause-refused g c = λ pending stands.
    let is = c.next-body.ensures.body in
    on_err _ (subst (λ body. StandsTold c.args.self.now.kept (body ∷ pending) (g.A.Area.told c.write.new.area)) is
    (c.in_err-write.ensures.refused c.args.self.now.kept pending (ap (λ (b : UberBody). b.group) is ∙ c.requires.next.behind) stands))

pub returns-clause-committed : goal.returns-clause-committed
returns-clause-committed g c = λ pending stands.
    let is = c.next-body.ensures.body in
    subst (λ body. StandsTold (Some body) [] (g.A.Area.told c.write.new.area)) is
    (c.in_ok-write.ensures.written c.args.self.now.kept pending (ap (λ (b : UberBody). b.group) is ∙ c.requires.next.behind) stands)

pub returns-clause-refused : goal.returns-clause-refused
returns-clause-refused g c = λ pending stands. tt

pub returns-clause-moments : goal.returns-clause-moments
returns-clause-moments g c = c.write.ensures.moments

pub returns-in_err-write-clause-moments : goal.returns-in_err-write-clause-moments
returns-in_err-write-clause-moments g c = c.write.ensures.moments

pub returns-clause-valid : goal.returns-clause-valid
returns-clause-valid g c =
    let v = c.requires.valid in
    let long = v.long in
    let grown = c.write.ensures.grown in
    let next = c.next-body.ensures in
    record {
      held = held_next c.args.self.now.kept c.args.self.now.geometry c.args.self.now.version c.args.self.now.next_leaf c.next-body.result v.held next.ranges
          (ap (λ (b : UberBody). b.spec) next.body) (ap (λ (b : UberBody). b.props) next.body);
      long = omega (arith, long, grown);
      spelled = λ group low small. v.spelled group (let behind = c.requires.next.behind in let of = ap (λ (b : UberBody). b.group) next.body in omega (arith, low, behind, of)) small;
      positive = v.positive;
    }

pub returns-clause-same : goal.returns-clause-same
returns-clause-same g c = tt

pub returns-clause-same_layout : goal.returns-clause-same_layout
returns-clause-same_layout g c = tt

pub returns-clause-version : goal.returns-clause-version
returns-clause-version g c = refl

pub returns-clause-leaf : goal.returns-clause-leaf
returns-clause-leaf g c = refl

pub returns-in_err-write-clause-same : goal.returns-in_err-write-clause-same
returns-in_err-write-clause-same g c = on_err _ refl

pub returns-in_err-write-clause-same_layout : goal.returns-in_err-write-clause-same_layout
returns-in_err-write-clause-same_layout g c = on_err _ refl

pub returns-in_err-write-clause-version : goal.returns-in_err-write-clause-version
returns-in_err-write-clause-version g c = refl

pub returns-in_err-write-clause-leaf : goal.returns-in_err-write-clause-leaf
returns-in_err-write-clause-leaf g c = refl

pub returns-clause-point : goal.returns-clause-point
returns-clause-point g c = refl

pub returns-in_err-write-clause-point : goal.returns-in_err-write-clause-point
returns-in_err-write-clause-point g c = refl

pub returns-clause-changed : goal.returns-clause-changed
returns-clause-changed g c = refl

pub returns-in_err-write-clause-changed : goal.returns-in_err-write-clause-changed
returns-in_err-write-clause-changed g c = refl
