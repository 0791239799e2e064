-- How the parts of messages are read, strictly. It is proved that this reads just what is written, so nothing here has to be believed.
use Rattle.std.specs.Prelude.{ℕ, ◌==◌, List, Some, None, bytes_eq, nat_lt, nat_le, not, if◌then◌else◌}
use Rattle.sha2.specs.Sha256.{sha256}
use Rattle.bfs_model.specs.Bytes.Call.{◌>>=◌}
use Rattle.bfs_model.specs.Bytes.Formats.{Reading, word_from, hyper_from, fixed_from, bytes_from, as_from, where_from, then_from, items_from, list_from}
use Rattle.bfs_model.specs.Server.Limits.{most_number, most_replicas, most_reply_bytes, most_request_bytes, most_requests}
use Rattle.bfs_model.specs.Server.Tree.{Time}
use Rattle.bfs_auth.specs.Signatures.{most_signature_bytes}
use Rattle.bfs_auth.specs.declared.authenticators.Authenticator.{Authenticator}
use Rattle.bfs_auth.specs.declared.authenticators.Authenticator.TheVariants.{Hashes, Signature}
use Rattle.bfs_messages.specs.Messages as model
use Rattle.bfs_messages.specs.Messages.{Requests, Batch, Vote}
use Rattle.bfs_messages.specs.Batches.{batch_text, signature_mark}
use Rattle.bfs_messages.specs.declared.signed.Signed.{Signed}
use Rattle.bfs_votes.specs.Tags.{request_tag}

-- of a view, or of a batch in the order
abbrev pub number_from : List ℕ → Reading ℕ
number_from bytes = where_from (λ number. nat_le number most_number) hyper_from bytes

abbrev pub digest_from : List ℕ → Reading (List ℕ)
digest_from bytes = fixed_from 32 bytes

unfoldable pub time_from : List ℕ → Reading Time
time_from bytes =
    as_from (λ p. record { seconds = p.0; useconds = p.1 }) (then_from word_from (where_from (λ useconds. nat_lt useconds 1000000) word_from)) bytes

-- the number of the things behind it, at most so many
abbrev pub count_from : (most : ℕ) → List ℕ → Reading ℕ
count_from most bytes = where_from (λ count. not (nat_lt most count)) word_from bytes

-- what stands behind the first word of an authenticator: a signature, or so many keyed hashes
unfoldable pub signature_from : List ℕ → Reading Authenticator
signature_from bytes = as_from Signature (bytes_from most_signature_bytes) bytes

unfoldable pub hashes_from : (count : ℕ) → List ℕ → Reading Authenticator
hashes_from count bytes = if nat_lt most_replicas count then None else as_from Hashes (items_from digest_from count) bytes

unfoldable pub auth_from : List ℕ → Reading Authenticator
auth_from bytes = do
  count ← word_from bytes
  if count.0 == signature_mark then signature_from count.1 else hashes_from count.0 count.1

-- What stands behind the tags ----------------------------------------------------------------------------------------

unfoldable pub request_from : List ℕ → Reading model.Request
request_from bytes =
    as_from (λ p. record { client = p.0.0; timestamp = p.0.1; call = p.1 }) (then_from (then_from word_from hyper_from) (bytes_from most_request_bytes)) bytes

unfoldable pub vote_from : List ℕ → Reading Vote
vote_from bytes =
    as_from (λ p. record { sender = p.0.0.0; view = p.0.0.1; number = p.0.1; digest = p.1 })
    (then_from (then_from (then_from word_from number_from) number_from) digest_from) bytes

unfoldable pub checkpoint_from : List ℕ → Reading model.Checkpoint
checkpoint_from bytes =
    as_from (λ p. record { sender = p.0.0; number = p.0.1; digest = p.1 }) (then_from (then_from word_from number_from) digest_from) bytes

unfoldable pub reply_from : List ℕ → Reading model.Reply
reply_from bytes =
    as_from (λ p. record { sender = p.0.0.0.0; view = p.0.0.0.1; client = p.0.0.1; timestamp = p.0.1; result = p.1 })
    (then_from (then_from (then_from (then_from word_from number_from) word_from) hyper_from) (bytes_from most_reply_bytes)) bytes

-- with its authenticator
abbrev pub behind_from : {A : Type 0} → (List ℕ → Reading A) → List ℕ → Reading (Signed A)
behind_from from bytes = as_from (λ p. record { message = p.0; auth = p.1 }) (then_from from auth_from) bytes

abbrev pub tag_from : (tag : ℕ) → List ℕ → Reading ℕ
tag_from tag bytes = where_from (λ read. read == tag) word_from bytes

-- a message within another
abbrev pub tagged_from : {A : Type 0} → (tag : ℕ) → (List ℕ → Reading A) → List ℕ → Reading A
tagged_from tag from bytes = as_from (λ p. p.1) (then_from (tag_from tag) from) bytes

abbrev pub signed_as_from : {A : Type 0} → (tag : ℕ) → (List ℕ → Reading A) → List ℕ → Reading (Signed A)
signed_as_from tag from bytes = tagged_from tag (behind_from from) bytes

-- Batches ------------------------------------------------------------------------------------------------------------

unfoldable pub requests_from : List ℕ → Reading Requests
requests_from bytes = as_from (λ p. record { time = p.0; requests = p.1 }) (then_from time_from (list_from most_requests (signed_as_from request_tag request_from))) bytes

unfoldable pub some_requests_from : List ℕ → Reading Batch
some_requests_from bytes = as_from (λ requests. Some requests) requests_from bytes

unfoldable pub batch_from : List ℕ → Reading Batch
batch_from bytes = do
  kind ← word_from bytes
  if kind.0 == 0 then Some (None, kind.1) else (if kind.0 == 1 then some_requests_from kind.1 else None)

-- only one with that digest
abbrev pub batch_of_from : (digest : List ℕ) → List ℕ → Reading Batch
batch_of_from digest bytes = where_from (λ batch. bytes_eq digest (sha256 (batch_text batch))) batch_from bytes
