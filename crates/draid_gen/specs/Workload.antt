use Rattle.std.specs.Prelude.{◌≡◌, ◌+◌, ◌*◌, ◌%◌, ℕ, List, [], ◌∷◌, ◌++◌, map, flat_map, slice_index, codes, None, Some, Ok}
use Rattle.std.specs.Fmt.{decimal}
use Rattle.std.specs.List.{range_with_len}
use Rattle.rand_core.specs.Steps.{first_words}
use Rattle.rand_xoshiro.specs.SplitMix64.{splitmix_seed}
use Rattle.rand_xoshiro.specs.Xoroshiro128.{of_seed, plus_plus}
use Rattle.draid_script.specs.Grammar.{lane_of, line_of}
use Rattle.draid_script.specs.Keys.{keys_in, nothing_given}
use Rattle.draid_script.specs.Line.{Command, CreatePool, ImportPool, SyncPool, CrashPool, FillObjects, ReadObject, FreeObject, SumObjects, TakeOffline, AttachSpare, ReplaceDisk, RebuildPool, ScrubPool, RebalanceSlot, OpenLanes, LaneCommand, SectionEnd, InLane}

-- A line of a workload beside what it asks for, outside a section or in the section of four lanes.
pub data Line : Type 0 where
  Outside : List ℕ → Command → Line
  Inside : List ℕ → LaneCommand → Line

-- the line as it is printed, its end included
abbrev pub printed : Line → List ℕ
printed (Outside text command) = text ++ codes "\n"
printed (Inside text command) = text ++ codes "\n"

-- the grammar reads the line as what it says
abbrev pub IsReadAs : Line → Type 0
IsReadAs (Outside text command) = line_of text ≡ Ok command
IsReadAs (Inside text command) = lane_of 4 text ≡ Ok command

-- The words that are drawn for a workload: the next of the generator that its number seeds, one for each of the four
-- fills, one for each of the sixteen objects that are freed, and one for the child that is lost.
abbrev pub words_of : ℕ → List ℕ
words_of number = first_words plus_plus 21 (of_seed (splitmix_seed 16 number))

-- a line for each number below n
abbrev pub each : ℕ → (ℕ → Line) → List Line
each n line = map line (range_with_len 0 n)

-- a pool with the default of every key but the seed
abbrev pub create : ℕ → Line
create number =
    Outside (codes "create draid2:4d:11c:1s 11 seed=" ++ decimal number)
    (CreatePool (codes "draid2:4d:11c:1s") 11 (keys_in (record nothing_given { seed = Some number })))

-- the pool, and a section of four lanes
abbrev pub opening : ℕ → List Line
opening number = create number ∷ Outside (codes "lanes 4") (OpenLanes 4) ∷ []

-- a lane writes 100 objects of one to eight times 4,096 bytes
abbrev pub fill : ℕ → ℕ → ℕ → Line
fill number lane word =
    let first = 100 * lane in
    let len = 4096 * (1 + word % 8) in
    Inside (decimal lane ++ (codes " fill " ++ (decimal first ++ (codes " 100 " ++ (decimal len ++ (codes " " ++ decimal number))))))
    (InLane lane (FillObjects first 100 len number))

abbrev pub fills : ℕ → List ℕ → List Line
fills number words = each 4 (λ lane. fill number lane (slice_index words lane))

abbrev pub section_end : List Line
section_end = Inside (codes "end") SectionEnd ∷ Outside (codes "sync") SyncPool ∷ []

-- one of the 400 objects is freed
abbrev pub free : ℕ → Line
free word = Outside (codes "free " ++ decimal (word % 400)) (FreeObject (word % 400))

abbrev pub frees : List ℕ → List Line
frees words = each 16 (λ i. free (slice_index words (4 + i)))

-- a line of a word and the child
abbrev pub of_child : List ℕ → ℕ → Command → Line
of_child word child command = Outside (word ++ (codes " " ++ decimal child)) command

abbrev pub spare : ℕ → Line
spare child = Outside (codes "spare " ++ (decimal child ++ codes " 0")) (AttachSpare child 0)

-- a child's disk is lost, a spare takes its place, and then a new disk
abbrev pub moves : ℕ → List Line
moves child =
    of_child (codes "offline") child (TakeOffline child)
    ∷ spare child
    ∷ Outside (codes "rebuild") (RebuildPool None)
    ∷ Outside (codes "scrub") (ScrubPool None)
    ∷ of_child (codes "replace") child (ReplaceDisk child None)
    ∷ of_child (codes "rebalance") child (RebalanceSlot child) ∷ []

-- the digest of a hundred objects
abbrev pub sum : ℕ → Line
sum first = Outside (codes "sum " ++ (decimal first ++ codes " 100")) (SumObjects first 100)

abbrev pub sums : List Line
sums = each 4 (λ hundreds. sum (100 * hundreds))

abbrev pub read : ℕ → Line
read object = Outside (codes "read " ++ decimal object) (ReadObject object)

abbrev pub reads : List Line
reads = each 40 (λ tens. read (10 * tens))

abbrev pub restart : List Line
restart = Outside (codes "sync") SyncPool ∷ Outside (codes "crash") CrashPool ∷ Outside (codes "import") ImportPool ∷ []

-- the lines of the workload of a number
unfoldable pub lines_of : ℕ → List Line
lines_of number =
    opening number
    ++ fills number (words_of number)
    ++ section_end
    ++ frees (words_of number)
    ++ moves (slice_index (words_of number) 20 % 11)
    ++ sums
    ++ reads
    ++ restart
    ++ sums

-- the script of a number: its lines, one after another
abbrev pub script_of : ℕ → List ℕ
script_of number = flat_map printed (lines_of number)

-- a text grew by these lines
abbrev pub AddsLines : List ℕ → List Line → List ℕ → Type 0
AddsLines old lines new = new ≡ old ++ flat_map printed lines
