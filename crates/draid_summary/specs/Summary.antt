-- The line that tells what a session replied to a workload: how many lines, the errors that they tell, and the digest of the replies to sums and reads.
use Rattle.std.specs.Prelude.{◌≡◌, ◌-◌, ◌^◌, ◌||◌, ℕ, Bool, nat_eq, List, ◌++◌, Option, None, if◌then◌else◌, codes, drop, filter, filter_map, flat_map, length, min, sum}
use Rattle.std.specs.Fmt.{decimal}
use Rattle.std.specs.List.{slice_split, starts_with}
use Rattle.hex.specs.Hex.{encode_lower}
use Rattle.sha2.specs.Hashers.{Holds256}
use Rattle.sha2.specs.Sha256.{sha256}
use Rattle.draid_lines.specs.Lines.{lines_of}
use Rattle.draid_script.specs.Word.{is_space, number_of}
use Rattle.draid_summary.specs.declared.tally.Tally.{Tally}

-- the number that a word `errors=N` tells
abbrev pub error_count : List ℕ → Option ℕ
error_count word = if starts_with nat_eq word (codes "errors=") then number_of (drop 7 word) else None

-- such numbers of a line's words
abbrev pub error_counts : List ℕ → List ℕ
error_counts line = filter_map error_count (slice_split is_space line)

-- the sum of all such numbers of lines
abbrev pub errors_in : List (List ℕ) → ℕ
errors_in lines = sum (flat_map error_counts lines)

-- the greatest number of 64 bits stands for all above it
abbrev pub capped : ℕ → ℕ
capped n = min n (2 ^ 64 - 1)

-- the line is the reply to a sum or to a read
abbrev pub is_of_bytes : List ℕ → Bool
is_of_bytes line = starts_with nat_eq line (codes "sum ") || starts_with nat_eq line (codes "read ")

-- a line, and the byte that ends it
abbrev pub with_end : List ℕ → List ℕ
with_end line = line ++ codes "\n"

-- the replies to sums and reads, each with its end
abbrev pub byte_replies : List (List ℕ) → List ℕ
byte_replies lines = flat_map with_end (filter is_of_bytes lines)

-- the summary of what was printed for the workload of a number, its end included
abbrev pub summary_of : ℕ → List ℕ → List ℕ
summary_of number printed =
    let lines = lines_of printed in
    codes "workload " ++ (decimal number ++ (codes " lines=" ++ (decimal (length lines) ++ (codes " errors=" ++ (decimal (capped (errors_in lines))
    ++ (codes " sums=" ++ (encode_lower (sha256 (byte_replies lines)) ++ codes "\n")))))))

-- lines were counted
pub record Counts (lines : List (List ℕ)) (tally : Tally) : Type 0 where
  pub lines_are : tally.lines ≡ length lines
  pub errors_are : tally.errors ≡ capped (errors_in lines)
  pub hashed : Holds256 tally.sums (byte_replies lines)
