use Rattle.std.specs.Prelude.{◌-◌, ◌/◌, ◌++◌, ℕ, List, length, map, take, drop}
use Rattle.draid_faults.specs.declared.crash.CrashRule.{CrashRule}
use Rattle.draid_faults.specs.declared.crash.CrashRule.TheVariants.{Old, New, Torn, Half}

-- each byte is the complement of what it was
abbrev pub complement_of : List ℕ → List ℕ
complement_of bytes = map (λ b. 255 - b) bytes

-- what a crash leaves of bytes that were written since the last flush, in place of those that stood there
abbrev pub left_by : CrashRule → List ℕ → List ℕ → List ℕ
left_by Old was written = was
left_by New was written = written
left_by Torn was written = complement_of written
left_by Half was written = take (length written / 2) written ++ drop (length written / 2) was
