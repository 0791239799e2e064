-- The indexes of a key: which are left.
use Rattle.std.specs.Prelude.{ℕ, ◌+◌, ◌-◌, ◌*◌, ◌<◌, ◌^◌, Bool, true, false, List, [], ◌∷◌, codes, min, nat_le}
use Rattle.lms.specs.Signers.{HssKey, index_count}
use Rattle.bfs_frames.specs.Parcels.{Told}
use Rattle.bfs_frames.specs.declared.kind.Kind.TheVariants.{Log}
use Rattle.bfs_frames.specs.declared.parcels.To.TheVariants.{Operator}

-- what an index signs: texts, all by one signature
pub record Use : Type 0 where
  pub index : ℕ
  pub texts : List (List ℕ)

-- where there are no texts, no index is used
abbrev pub uses_of : (index : ℕ) (texts : List (List ℕ)) → List Use
uses_of index [] = []
uses_of index (text ∷ texts) = record { index = index; texts = text ∷ texts } ∷ []

abbrev pub next_after : (index : ℕ) (texts : List (List ℕ)) → ℕ
next_after index [] = index
next_after index (text ∷ texts) = index + 1

-- the key has the index that is used
abbrev pub HasIndex : HssKey → (index : ℕ) (texts : List (List ℕ)) → Type 0
HasIndex key index [] = Unit {0}
HasIndex key index (text ∷ texts) = index < index_count key

-- how many indexes a relay can use: they have 64 bits, and the last one of these is never used
abbrev pub usable : HssKey → ℕ
usable key = min (index_count key) (2 ^ 64 - 1)

-- at most a sixteenth of them is left, from the next one on
abbrev pub is_low : HssKey → (next : ℕ) → Bool
is_low key next = nat_le (16 * (usable key - next)) (usable key)

-- what the operator reads then
unfoldable pub low_line : List ℕ
low_line = codes "at most a sixteenth of the signing key's indexes is left"

abbrev pub low_told : Told
low_told = record { to = Operator; kind = Log; payload = low_line }

-- once
abbrev pub warnings : (warned low : Bool) → List Told
warnings false true = low_told ∷ []
warnings false false = []
warnings true low = []
