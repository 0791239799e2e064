-- The header of a call is read by the server.
use Rattle.std.proofs.Common.{◌≡◌, ℕ, suc, ◌%◌, ◌≤◌, false, nat_lt, List, [], ◌∷◌, ◌++◌, length, Some, Ok, codes, refl, append_assoc, append-nil, arith}
use Rattle.std.proofs.lemmas.Bool.{le-leb}
use Rattle.std.specs.Prelude.{All}
use Rattle.bfs_model.specs.Bytes.Call.{Credential, call_of, credential_of, header_of, opaque_auth_at, system_credential_of, words_at}
use Rattle.bfs_model.specs.Bytes.Items.{counted, fixed, opaque_at, word, words}
use Rattle.bfs_model.specs.Server.Stored.{IsWord}
use Rattle.bfs_model.proofs.Public.{opaque_again, word_again}
use Rattle.bfs_trace.specs.Callers.{most_gids}
use Rattle.bfs_trace.specs.Messages.{call_header, credential_body}
use Rattle.bfs_trace.specs.Laws.SentCalls.{FitsCredential, HeadersAreRead}
use Rattle.bfs_trace.proofs.Headers.{credential_length}

-- The credential -------------------------------------------------------------------------------------------------------

-- a credential's words, one after another
credential_words : (caller : Credential) → credential_body caller
    ≡ word 0 ++ (counted (codes "replay") ++ (word caller.uid ++ (word caller.gid ++ (word (length caller.gids) ++ words caller.gids))))
unfolding credential_body
credential_words caller = append_assoc (word 0) (counted (codes "replay")) (words (caller.uid ∷ caller.gid ∷ length caller.gids ∷ caller.gids))

gids_read : (gids : List ℕ) → All IsWord gids → words_at (length gids) (words gids) ≡ Some (gids, [])
unfolding words_at
gids_read [] are = refl
gids_read (gid ∷ gids) are = rw (word_again gid (words gids) (are 0 0 (omega arith)), gids_read gids (λ k d lt. are (suc k) d (omega (arith, lt)))) refl

credential_read : (caller : Credential) → FitsCredential caller → credential_of 1 (credential_body caller) ≡ Some caller
unfolding credential_of system_credential_of
credential_read caller fits =
    let behind : List ℕ = word (length caller.gids) ++ words caller.gids in
    rw (
      credential_words caller,
      word_again 0 (counted (codes "replay") ++ (word caller.uid ++ (word caller.gid ++ behind))) (omega arith),
      opaque_again false 255 (codes "replay") (word caller.uid ++ (word caller.gid ++ behind)) (omega arith) (omega arith),
      word_again caller.uid (word caller.gid ++ behind) fits.storable.uid,
      word_again caller.gid behind fits.storable.gid,
      word_again (length caller.gids) (words caller.gids) (omega (arith, fits.few)),
      few_are_no_more (length caller.gids) fits.few,
      gids_read caller.gids fits.storable.gids,
    ) refl
  where
    few_are_no_more : (count : ℕ) → count ≤ 16 → nat_lt 16 count ≡ false
    few_are_no_more count le = grind (arith, le)

-- The message ----------------------------------------------------------------------------------------------------------

-- no bytes, behind their length
no_body_read : (rest : List ℕ) → opaque_at false 400 (word 0 ++ rest) ≡ Ok ([], rest)
unfolding counted fixed
no_body_read rest = rw (← append-nil (word 0)) (opaque_again false 400 [] rest (omega arith) (omega arith))

verifier_read : (rest : List ℕ) → opaque_auth_at (word 0 ++ (word 0 ++ rest)) ≡ Some (0, ([], rest))
unfolding opaque_auth_at
verifier_read rest = rw (word_again 0 (word 0 ++ rest) (omega arith), no_body_read rest) refl

flavored_credential_read : (caller : Credential) (rest : List ℕ) → length caller.gids ≤ most_gids
    → opaque_auth_at (word 1 ++ (counted (credential_body caller) ++ rest)) ≡ Some (1, (credential_body caller, rest))
unfolding opaque_auth_at
flavored_credential_read caller rest few =
    rw (word_again 1 (counted (credential_body caller) ++ rest) (omega arith), opaque_again false 400 (credential_body caller) rest (omega (arith, few, credential_length caller)) (omega (arith, few, credential_length caller))) refl

abbrev behind_procedure : Credential → List ℕ → List ℕ
behind_procedure caller rest = word 1 ++ (counted (credential_body caller) ++ (word 0 ++ (word 0 ++ rest)))

header_items : (caller : Credential) (timestamp procedure : ℕ) (rest : List ℕ) → call_header caller timestamp procedure ++ rest
    ≡ word (timestamp % 4294967296) ++ (word 0 ++ (word 2 ++ (word 100003 ++ (word 2 ++ (word procedure ++ behind_procedure caller rest)))))
unfolding call_header
header_items caller timestamp procedure rest = simp append_assoc

header_read : (caller : Credential) (timestamp procedure : ℕ) (rest : List ℕ) → length caller.gids ≤ most_gids → procedure ≤ 17
    → header_of (word (timestamp % 4294967296) ++ (word 0 ++ (word 2 ++ (word 100003 ++ (word 2 ++ (word procedure ++ behind_procedure caller rest))))))
    ≡ Some (record { xid = timestamp % 4294967296; rpc_version = 2; program = 100003; program_version = 2; procedure = procedure; flavor = 1; body = credential_body caller; arguments = rest })
unfolding header_of
header_read caller timestamp procedure rest few within =
    rw (
      word_again (timestamp % 4294967296) (word 0 ++ (word 2 ++ (word 100003 ++ (word 2 ++ (word procedure ++ behind_procedure caller rest))))) (omega arith),
      word_again 0 (word 2 ++ (word 100003 ++ (word 2 ++ (word procedure ++ behind_procedure caller rest)))) (omega arith),
      word_again 2 (word 100003 ++ (word 2 ++ (word procedure ++ behind_procedure caller rest))) (omega arith),
      word_again 100003 (word 2 ++ (word procedure ++ behind_procedure caller rest)) (omega arith),
      word_again 2 (word procedure ++ behind_procedure caller rest) (omega arith),
      word_again procedure (behind_procedure caller rest) (omega arith),
      flavored_credential_read caller (word 0 ++ (word 0 ++ rest)) few,
      verifier_read rest,
    ) refl

pub headers_are_read : HeadersAreRead
unfolding call_of
headers_are_read caller timestamp procedure rest fits within =
    rw (header_items caller timestamp procedure rest, header_read caller timestamp procedure rest fits.few within, credential_read caller fits, le-leb procedure 17 within) refl
