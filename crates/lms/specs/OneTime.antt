-- One-time signatures (LM-OTS, RFC 8554 section 4).
use Rattle.std.specs.Prelude.{ℕ, ◌-◌, List, ◌++◌}
use Rattle.sha2.specs.Sha256.{sha256}
use Rattle.lms.specs.declared.types.OtsType.{OtsType}
use Rattle.lms.specs.Types.{chain_count, last_step}
use Rattle.lms.specs.Digits.{cut}
use Rattle.lms.specs.Chains.{front, joined, one_time_key_kind, steps, text_kind}
use Rattle.lms.specs.Bytes.{hash_at}

-- Q: what of a text is signed, with a randomizer
abbrev pub text_hash : (id : List ℕ) (leaf : ℕ) (randomizer text : List ℕ) → List ℕ
text_hash id leaf randomizer text = sha256 (front id leaf text_kind ++ (randomizer ++ text))

-- the end of a chain, from its value in a signature of the hash
abbrev pub end_from : OtsType → (id : List ℕ) (leaf : ℕ) (hash values : List ℕ) (chain : ℕ) → List ℕ
end_from ots id leaf hash values chain = steps (front id leaf chain) (cut ots hash chain) (last_step ots - cut ots hash chain) (hash_at chain values)

-- the one-time public key that the ends of its chains have
abbrev pub key_of_ends : OtsType → (id : List ℕ) (leaf : ℕ) (end : ℕ → List ℕ) → List ℕ
key_of_ends ots id leaf end = sha256 (front id leaf one_time_key_kind ++ joined end (chain_count ots))

-- the one-time public key whose signature of the hash the values are (algorithm 4b)
abbrev pub key_candidate : OtsType → (id : List ℕ) (leaf : ℕ) (hash values : List ℕ) → List ℕ
key_candidate ots id leaf hash values = key_of_ends ots id leaf (end_from ots id leaf hash values)
