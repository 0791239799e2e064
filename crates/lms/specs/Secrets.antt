-- Private keys of one tree, all of whose secrets are made from a seed (RFC 8554 appendix A), their public keys and their signatures.
use Rattle.std.specs.Prelude.{ℕ, zero, suc, ◌+◌, ◌-◌, ◌*◌, ◌/◌, ◌%◌, ◌^◌, ◌==◌, List, ◌++◌, if◌then◌else◌}
use Rattle.std.specs.Int.{to_be_bytes, w32}
use Rattle.lms.specs.declared.public_key.PublicKey.{PublicKey}
use Rattle.lms.specs.declared.private_key.PrivateKey.{PrivateKey}
use Rattle.lms.specs.Types.{chain_count, height, last_step, leaf_count, lms_code, ots_code}
use Rattle.lms.specs.Digits.{cut}
use Rattle.lms.specs.Chains.{front, joined, step, steps}
use Rattle.lms.specs.OneTime.{key_of_ends, text_hash}
use Rattle.lms.specs.Trees.{inner_node, leaf_node}

-- what is made from the seed for a leaf: the start of the chain whose number the kind is, and what other kinds stand for
abbrev pub secret : PrivateKey → (leaf kind : ℕ) → List ℕ
secret key leaf kind = step (front key.id leaf kind) 255 key.seed

-- the kind of the randomizer, behind those of all chains; as for the start of a chain, implementations agree on it and the standard leaves it open
abbrev pub randomizer_kind : ℕ
randomizer_kind = 0xfffd

abbrev pub randomizer : PrivateKey → (leaf : ℕ) → List ℕ
randomizer key leaf = secret key leaf randomizer_kind

-- the value of a chain after so many steps
abbrev pub value_after : PrivateKey → (leaf chain count : ℕ) → List ℕ
value_after key leaf chain count = steps (front key.id leaf chain) 0 count (secret key leaf chain)

abbrev pub end_of : PrivateKey → (leaf chain : ℕ) → List ℕ
end_of key leaf chain = value_after key leaf chain (last_step key.ots)

-- a leaf's one-time public key (algorithm 1)
abbrev pub one_time_key : PrivateKey → (leaf : ℕ) → List ℕ
one_time_key key leaf = key_of_ends key.ots key.id leaf (end_of key leaf)

-- the node of that number, so many levels above the leaves (section 5.3)
unfoldable pub node : PrivateKey → (level number : ℕ) → List ℕ
node key zero number = leaf_node key.id number (one_time_key key (number - leaf_count key.lms))
node key (suc n) number = inner_node key.id number (node key n (2 * number)) (node key n (2 * number + 1))

abbrev pub public_key : PrivateKey → PublicKey
public_key key = record { lms = key.lms; ots = key.ots; id = key.id; root = node key (height key.lms) 1 }

-- what of a text a leaf signs
abbrev pub signed_hash : PrivateKey → (leaf : ℕ) (text : List ℕ) → List ℕ
signed_hash key leaf text = text_hash key.id leaf (randomizer key leaf) text

-- the value of a chain in the signature of a hash (algorithm 3)
abbrev pub signed_value : PrivateKey → (leaf : ℕ) (hash : List ℕ) (chain : ℕ) → List ℕ
signed_value key leaf hash chain = value_after key leaf chain (cut key.ots hash chain)

-- the number of the node beside that of the number
abbrev pub sibling : (number : ℕ) → ℕ
sibling number = if number % 2 == 1 then number - 1 else number + 1

-- the node so many levels above the leaves that stands beside the way from a leaf to the root
abbrev pub beside : PrivateKey → (leaf level : ℕ) → List ℕ
beside key leaf level = node key level (sibling ((leaf_count key.lms + leaf) / 2 ^ level))

-- the signature of a text by a leaf (section 5.4)
abbrev pub signature_of : PrivateKey → (leaf : ℕ) (text : List ℕ) → List ℕ
signature_of key leaf text =
    to_be_bytes w32 leaf
    ++ (to_be_bytes w32 (ots_code key.ots)
    ++ (randomizer key leaf
    ++ (joined (signed_value key leaf (signed_hash key leaf text)) (chain_count key.ots)
    ++ (to_be_bytes w32 (lms_code key.lms)
    ++ joined (beside key leaf) (height key.lms)))))
