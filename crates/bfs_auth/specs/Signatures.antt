-- Signatures of texts (bfs_signatures), and how long they may be: each holds the way to the root of a tree over texts, and a signature of that root.
use Rattle.std.specs.Prelude.{ℕ, List, ◌++◌, Option, Some, None, length, nat_le, if◌then◌else◌}
use Rattle.std.specs.Int.{to_be_bytes, w32}
use Rattle.lms.specs.Signers.{HssKey, hss_signature_of}
use Rattle.bfs_signatures.specs.Hashes.{leaf_hash}

-- the bytes of one
abbrev pub most_signature_bytes : ℕ
most_signature_bytes = 12288

-- the signature of a text alone, which is leaf 0 of a tree of height 0 and its root
abbrev pub signature_alone : HssKey → (index : ℕ) (text : List ℕ) → List ℕ
signature_alone key index text = to_be_bytes w32 0 ++ (to_be_bytes w32 0 ++ hss_signature_of key index (leaf_hash text))

-- None where it is too long
abbrev pub short_enough : List ℕ → Option (List ℕ)
short_enough bytes = if nat_le (length bytes) most_signature_bytes then Some bytes else None
