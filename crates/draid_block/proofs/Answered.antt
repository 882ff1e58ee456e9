-- The answers for many blocks.
use Rattle.std.proofs.Common.{◌≡◌, ℕ, List, [], ◌∷◌, map, sym, subst, Result, Ok, Err, Vec, Global}
use Rattle.std.specs.Prelude.{Contains, IfOk, MatchResult}
use Rattle.std.specs.List.{AllZip}
use Rattle.draid_names.specs.declared.fault.NoMemory.{NoMemory}
use Rattle.draid_block.specs.Columns.{Cut}
use Rattle.draid_block.specs.Many.{IsSolved, answer_of}
use Rattle.draid_block.specs.Solving.{AnswersDigest, IsAnswered, IsReadable, SolvesBlock}
use Rattle.draid_block.specs.declared.many.Solve.{Solve}
use Rattle.draid_block.specs.declared.solve.Fetched.{Fetched}
use Rattle.draid_block.specs.declared.solve.SolveFault.{SolveFault}

pub solved_is : (cut : Cut) (fetched : Fetched) (result : Result (Vec ℕ Global) SolveFault) (solve : Solve) → result ≡ answer_of solve
    → SolvesBlock cut fetched result → AnswersDigest fetched result → ((w bad : List ℕ) → IsReadable cut fetched w bad → IsAnswered result) → IsSolved cut fetched solve
solved_is cut fetched result solve is solves digest readable = record {
  solves = subst (λ (r : Result (Vec ℕ Global) SolveFault). SolvesBlock cut fetched r) is solves;
  digest = subst (λ (r : Result (Vec ℕ Global) SolveFault). AnswersDigest fetched r) is digest;
  readable = λ w bad given. subst (λ (r : Result (Vec ℕ Global) SolveFault). IsAnswered r) is (readable w bad given);
}

-- answers that were all found
pub all_found : (R : Fetched → Solve → Type 0) (blocks : List Fetched) (solves : List Solve)
    → AllZip (λ block (r : Result Solve NoMemory). IfOk r (R block)) blocks (map Ok solves) → AllZip R blocks solves
all_found R [] [] each = tt
all_found R [] (solve ∷ solves) each = absurd each
all_found R (block ∷ blocks) [] each = absurd each
all_found R (block ∷ blocks) (solve ∷ solves) each = (each.0, all_found R blocks solves each.1)

pub many_are : (R : Fetched → Solve → Type 0) (blocks : List Fetched) (result : Result (Vec Solve Global) NoMemory) (each : List (Result Solve NoMemory))
    → AllZip (λ block (r : Result Solve NoMemory). IfOk r (R block)) blocks each
    → MatchResult result (λ v. (solves : List Solve) × (each ≡ map Ok solves) × (v.items ≡ solves)) (λ e. Contains each (Err e))
    → IfOk result (λ v. AllZip R blocks v.items)
many_are R blocks (Ok v) each zipped found =
    subst (λ (solves : List Solve). AllZip R blocks solves) (sym found.2)
    (all_found R blocks found.0 (subst (λ (l : List (Result Solve NoMemory)). AllZip (λ block (r : Result Solve NoMemory). IfOk r (R block)) blocks l) found.1 zipped))
many_are R blocks (Err e) each zipped found = tt
