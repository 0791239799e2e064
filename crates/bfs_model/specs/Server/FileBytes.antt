-- The bytes of a file: what a read gives, and what a write and a new size make of them.
use Rattle.std.specs.Prelude.{ℕ, ◌+◌, ◌-◌, ◌==◌, min, List, ◌++◌, length, take, drop, replicate, if◌then◌else◌}
use Rattle.bfs_model.specs.Server.Limits.{most_data_bytes}

-- filled up with zeros to at least so many
abbrev pub filled_to : ℕ → List ℕ → List ℕ
filled_to size bytes = bytes ++ replicate (size - length bytes) 0

-- cut to so many, or filled up with zeros
abbrev pub resized : ℕ → List ℕ → List ℕ
resized size bytes = take size (filled_to size bytes)

-- from an offset on, at most count and at most 8,192
abbrev pub bytes_from : (offset count : ℕ) → List ℕ → List ℕ
bytes_from offset count bytes = take (min count most_data_bytes) (drop offset bytes)

-- with others written at an offset, behind zeros where it is past the end; writing nothing changes nothing
abbrev pub overwritten : (offset : ℕ) (written bytes : List ℕ) → List ℕ
overwritten offset written bytes =
    if length written == 0 then bytes
    else take offset (filled_to offset bytes) ++ written ++ drop (offset + length written) bytes
