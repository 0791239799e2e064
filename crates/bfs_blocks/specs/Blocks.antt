-- The blocks of a file, as the code has them.
use Rattle.std.specs.Prelude.{◌≡◌, ◌+◌, ◌<◌, ◌≤◌, ℕ, List, [], ◌∷◌, ◌++◌, length, take, drop, map, unwrap_or, IsSome, vec_len, vec_capacity, ⊤}
use Rattle.std.specs.List.{concat}
use Rattle.bfs_model.specs.Server.Limits.{most_file_bytes}
use Rattle.bfs_blocks.specs.Bytes.{block_bytes}
use Rattle.bfs_blocks.specs.declared.blocks.Block.{Block}

-- Pieces of bytes ------------------------------------------------------------------------------------------------------

-- with others put over them from a start on
abbrev pub put_at : (start : ℕ) (put bytes : List ℕ) → List ℕ
put_at start put bytes = take start bytes ++ put ++ drop (start + length put) bytes

-- none of these is empty or longer than a block, and all but the last one are as long
abbrev pub AreFilled : List (List ℕ) → Type 0
AreFilled [] = ⊤
AreFilled (piece ∷ pieces) = (0 < length piece) × (length piece ≤ block_bytes) × (0 < length pieces → length piece ≡ block_bytes) × AreFilled pieces

-- Blocks ---------------------------------------------------------------------------------------------------------------

-- the bytes of a block
abbrev pub bytes_in : Block → List ℕ
bytes_in block = unwrap_or block.shared block.own.items

-- of each of them
abbrev pub pieces_of : List Block → List (List ℕ)
pieces_of blocks = map bytes_in blocks

-- of all of them, one after another
abbrev pub bytes_of : List Block → List ℕ
bytes_of blocks = concat (pieces_of blocks)

-- so many bytes can be put over some of its bytes with no more memory: these are its own, or it has room for as many
abbrev pub IsReady : Block → (count : ℕ) → Type 0
IsReady block count = IsSome block.shared → (count ≡ length (bytes_in block)) × (vec_len block.own ≡ 0) × (count ≤ vec_capacity block.own)

-- the blocks of a file
abbrev pub AreOfFile : List Block → Type 0
AreOfFile blocks = AreFilled (pieces_of blocks) × (length (bytes_of blocks) ≤ most_file_bytes)
