use Rattle.std.specs.Prelude.{◌==◌, ℕ, if◌then◌else◌}

-- how many blocks and tickets a metaslab may hold, by the version of the pool's format
abbrev pub most_held : ℕ → ℕ
most_held version = if version == 1 then 4096 else 8192
