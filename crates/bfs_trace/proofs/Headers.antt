-- How long a credential is.
use Rattle.std.proofs.Common.{◌≡◌, ◌+◌, ◌*◌, ℕ, List, [], ◌∷◌, ◌++◌, length, length-append, codes, replicate, refl, ap, ◌∙◌, append_assoc, append-nil, arith}
use Rattle.bfs_model.specs.Bytes.Call.{Credential}
use Rattle.bfs_model.specs.Bytes.Items.{counted, fixed, padding_of, word, words}
use Rattle.bfs_trace.specs.Messages.{credential_body}

length_of_word : (n : ℕ) → length (word n) ≡ 4
unfolding word
length_of_word n = refl

length_of_words : (ns : List ℕ) → length (words ns) ≡ 4 * length ns
length_of_words [] = refl
length_of_words (n ∷ ns) = omega (arith, length-append (word n) (words ns), length_of_word n, length_of_words ns)

length_of_front : length (word 0 ++ counted (codes "replay")) ≡ 16
unfolding counted fixed word
length_of_front = refl

pub credential_length : (caller : Credential) → length (credential_body caller) ≡ 28 + 4 * length caller.gids
unfolding credential_body
credential_length caller =
    let ns : List ℕ = caller.uid ∷ caller.gid ∷ length caller.gids ∷ caller.gids in
    omega (arith, length-append (word 0 ++ counted (codes "replay")) (words ns), length_of_front, length_of_words ns)

no_padding : (n : ℕ) → padding_of (28 + 4 * n) ≡ 0
no_padding n = omega arith

-- a credential behind its length, item by item
pub credential_counted : (caller : Credential) → counted (credential_body caller)
    ≡ words ((28 + 4 * length caller.gids) ∷ 0 ∷ []) ++ (counted (codes "replay") ++ (words (caller.uid ∷ caller.gid ∷ length caller.gids ∷ []) ++ words caller.gids))
unfolding counted credential_body fixed
credential_counted caller =
    let body : List ℕ = credential_body caller in
    ap (λ n. word n ++ (body ++ replicate (padding_of n) 0)) (credential_length caller)
    ∙ ap (λ n. word (28 + 4 * length caller.gids) ++ (body ++ replicate n 0)) (no_padding (length caller.gids))
    ∙ simp (append_assoc, append-nil)
