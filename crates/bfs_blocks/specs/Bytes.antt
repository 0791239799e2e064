-- The bytes of a file in blocks.
use Rattle.std.specs.Prelude.{◌+◌, ◌*◌, ◌/◌, ℕ, List, length, map, take, drop}
use Rattle.std.specs.List.{range_with_len}

-- the bytes of a block
abbrev pub block_bytes : ℕ
block_bytes = 4096

-- the blocks of so many bytes, none of no bytes
abbrev pub block_count : (size : ℕ) → ℕ
block_count size = (size + 4095) / 4096

-- the bytes of block n, from 0 on; the last one may be shorter
unfoldable pub block_at : List ℕ → (n : ℕ) → List ℕ
block_at bytes n = take block_bytes (drop (block_bytes * n) bytes)

-- all blocks, in order
abbrev pub blocks_in : List ℕ → List (List ℕ)
blocks_in bytes = map (block_at bytes) (range_with_len 0 (block_count (length bytes)))
