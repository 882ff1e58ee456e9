use Rattle.std.proofs.Common.{◌+◌, ◌-◌, ◌<◌, ◌≡◌, ◌||◌, ℕ, length, get_or, min, max, arith, subst, sym, ap, ◌++◌, ◌∷◌, []}
use Rattle.std.proofs.lemmas.List.{get_or_read}
use Rattle.draid_ranges.specs.declared.run.Run.{Run}
use Rattle.draid_ranges.specs.Runs.{AreApart, end_of, in_run}
use Rattle.draid_ranges.proofs.Unions.{joined_apart, joined_has, pushed_apart}
use Rattle.draid_ranges.proofs.Within.{end_below, no_run}
use Rattle.draid_ranges.proofs.merge.extend.Goals as goal
use Rattle.draid_ranges.proofs.merge.extend.Goals.{else-len-gt0-via-then-len-gt0+else-run-end, else-len-gt0-via-else-len-gt0}

pub end-requires : goal.end-requires
end-requires c =
    let l : c.len-len.result - 1 < length c.args.runs.now.items = grind arith in
    let h = end_below c.args.runs.now.items (c.len-len.result - 1) 0 281474976710657 c.index.result.now c.requires.apart l in
    omega (arith, ap end_of c.index.ensures)

pub returns-then-run-end-clause-apart : goal.returns-then-run-end-clause-apart
returns-then-run-end-clause-apart c =
    let n = c.len-len.result - 1 in
    let last = c.index-then-run-end.result.now in
    let e : n + 1 ≡ length c.args.runs.now.items = grind arith in
    let F : Run → Type 0 = λ r. c.joined.result.first ≡ min r.first c.args.run.first in
    let E : Run → Type 0 = λ r. c.joined.result.first + c.joined.result.len ≡ max (r.first + r.len) (c.args.run.first + c.args.run.len) in
    joined_apart c.args.runs.now.items n c.args.run c.joined.result last c.requires.apart e (c.requires.order n last (omega arith)) c.requires.some c.requires.below
    (subst F c.index-then-run-end.ensures c.joined.ensures.first) (subst E c.index-then-run-end.ensures c.joined.ensures.end)

pub returns-then-run-end-clause-members : goal.returns-then-run-end-clause-members
returns-then-run-end-clause-members c =
    let n = c.len-len.result - 1 in
    let last = c.index-then-run-end.result.now in
    let e : n + 1 ≡ length c.args.runs.now.items = grind arith in
    let M : Run → Type 0 = λ r. (x : ℕ) → in_run c.joined.result x ≡ (in_run r x || in_run c.args.run x) in
    joined_has c.args.runs.now.items n c.args.run c.joined.result last e (subst M c.index-then-run-end.ensures c.joined.ensures.members)

pub returns-clause-apart : goal.returns-clause-apart
returns-clause-apart c =
    let xs = c.args.runs.now.items in
    let e : c.len-len.result ≡ length xs = grind arith in
    let gap : 0 < c.len-len.result → (get_or xs (c.len-len.result - 1) no_run).first + (get_or xs (c.len-len.result - 1) no_run).len < c.args.run.first = λ l.
    elim c.else-len-gt0.branch [
      | else-len-gt0-via-then-len-gt0+else-run-end w ↦
          omega (arith, ap end_of (get_or_read xs (c.len-len.result - 1) w.index.result.now (omega arith) w.index.ensures no_run))
      | else-len-gt0-via-else-len-gt0 w ↦ absurd (omega arith)
    ] in
    let is : c.push.new.self.items ≡ xs ++ c.args.run ∷ [] = c.in_ok-push.ensures.items in
    subst AreApart (sym is) (pushed_apart xs c.len-len.result c.args.run no_run c.requires.apart e gap c.requires.some c.requires.below)
