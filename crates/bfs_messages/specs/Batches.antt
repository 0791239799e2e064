-- The texts of batches, and of what messages have behind their tags (this project's profile), in the items of XDR (RFC 4506 section 4).
use Rattle.std.specs.Prelude.{ℕ, List, ◌++◌, Some, None}
use Rattle.bfs_model.specs.Bytes.Items.{word, hyper, fixed, counted}
use Rattle.bfs_model.specs.Bytes.Formats.{list_text}
use Rattle.bfs_model.specs.Server.Tree.{Time}
use Rattle.bfs_auth.specs.declared.authenticators.Authenticator.{Authenticator}
use Rattle.bfs_auth.specs.declared.authenticators.Authenticator.TheVariants.{Hashes, Signature}
use Rattle.bfs_messages.specs.Messages as model
use Rattle.bfs_messages.specs.Messages.{Requests, Batch, Vote}
use Rattle.bfs_messages.specs.declared.signed.Signed.{Signed}
use Rattle.bfs_votes.specs.Tags.{request_tag}

-- what stands in front of a signature, where keyed hashes have their number
abbrev pub signature_mark : ℕ
signature_mark = 4294967295

-- an authenticator
abbrev pub auth_text : Authenticator → List ℕ
auth_text (Hashes entries) = list_text fixed entries
auth_text (Signature bytes) = word signature_mark ++ counted bytes

abbrev pub request_text : model.Request → List ℕ
request_text request = word request.client ++ hyper request.timestamp ++ counted request.call

abbrev pub vote_text : Vote → List ℕ
vote_text vote = word vote.sender ++ hyper vote.view ++ hyper vote.number ++ fixed vote.digest

abbrev pub checkpoint_text : model.Checkpoint → List ℕ
checkpoint_text checkpoint = word checkpoint.sender ++ hyper checkpoint.number ++ fixed checkpoint.digest

abbrev pub reply_text : model.Reply → List ℕ
reply_text reply = word reply.sender ++ hyper reply.view ++ word reply.client ++ hyper reply.timestamp ++ counted reply.result

-- what stands behind a message's tag, and its authenticator
abbrev pub behind_text : {A : Type 0} → (A → List ℕ) → Signed A → List ℕ
behind_text text signed = text signed.message ++ auth_text signed.auth

-- a message within another
abbrev pub signed_as : {A : Type 0} → (tag : ℕ) → (A → List ℕ) → Signed A → List ℕ
signed_as tag text signed = word tag ++ behind_text text signed

abbrev pub time_text : Time → List ℕ
time_text time = word time.seconds ++ word time.useconds

abbrev pub requests_text : Requests → List ℕ
requests_text requests = time_text requests.time ++ list_text (signed_as request_tag request_text) requests.requests

-- 0 for the null request
unfoldable pub batch_text : Batch → List ℕ
batch_text None = word 0
batch_text (Some requests) = word 1 ++ requests_text requests
