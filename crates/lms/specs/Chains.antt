-- Chains of hashes (RFC 8554 section 4), and what every hash begins with.
use Rattle.std.specs.Prelude.{ℕ, zero, suc, ◌+◌, List, [], ◌∷◌, ◌++◌}
use Rattle.std.specs.Int.{to_be_bytes, w16, w32}
use Rattle.sha2.specs.Sha256.{sha256}

-- I ‖ u32str(number) ‖ u16str(kind): what every hash begins with. Among the kinds are the numbers of the chains.
abbrev pub front : (id : List ℕ) (number kind : ℕ) → List ℕ
front id number kind = id ++ (to_be_bytes w32 number ++ to_be_bytes w16 kind)

-- D_PBLK, D_MESG, D_LEAF, D_INTR: one-time public keys, texts, leaves and other nodes of a tree (section 7.1)
abbrev pub one_time_key_kind : ℕ
one_time_key_kind = 0x8080

abbrev pub text_kind : ℕ
text_kind = 0x8181

abbrev pub leaf_kind : ℕ
leaf_kind = 0x8282

abbrev pub node_kind : ℕ
node_kind = 0x8383

-- one step of the chain whose hashes begin with the front
abbrev pub step : (front : List ℕ) (number : ℕ) → List ℕ → List ℕ
step front number value = sha256 (front ++ number ∷ value)

-- so many steps of a chain, the first of which has this number
unfoldable pub steps : (front : List ℕ) (from count : ℕ) → List ℕ → List ℕ
steps front from zero value = value
steps front from (suc n) value = step front (from + n) (steps front from n value)

-- f 0 ‖ f 1 ‖ … ‖ f (count - 1)
unfoldable pub joined : (ℕ → List ℕ) → (count : ℕ) → List ℕ
joined f zero = []
joined f (suc n) = joined f n ++ f n
