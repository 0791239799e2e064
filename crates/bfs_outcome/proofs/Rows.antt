-- A batch with repeats inside, computed: each request is one of RPC version 3, which is executed by a refusal with its xid.
use Rattle.std.proofs.Common.{◌≡◌, ℕ, List, [], ◌∷◌, None, Some, refl}
use Rattle.bfs_model.specs.Bytes.Items.{word_at, bytes_at, fixed_at, opaque_at, word, words}
use Rattle.bfs_model.specs.Server.Tree.{new_file_system, new_tree}
use Rattle.bfs_model.specs.Bytes.Call.{call_of, header_of, opaque_auth_at, credential_of}
use Rattle.bfs_model.specs.Bytes.Replies.{refusal}
use Rattle.bfs_model.specs.Server.Serial.{answer}
use Rattle.bfs_auth.specs.declared.authenticators.Authenticator.TheVariants.{Hashes}
use Rattle.bfs_messages.specs.Messages.{Request, Requests}
use Rattle.bfs_messages.specs.declared.signed.Signed.{Signed}
use Rattle.bfs_replies.specs.Answers.{Answer}
use Rattle.bfs_replies.specs.Tables.{Last}
use Rattle.bfs_outcome.specs.Outcome.{at_start, outcome}
use Rattle.bfs_outcome.specs.Ran.{Execution, executions}

abbrev asked : (xid : ℕ) → List ℕ
asked xid = words (xid ∷ 0 ∷ 3 ∷ 0 ∷ 0 ∷ 0 ∷ 0 ∷ 0 ∷ 0 ∷ 0 ∷ [])

abbrev refused : (xid : ℕ) → List ℕ
refused xid = words (xid ∷ 1 ∷ 1 ∷ 0 ∷ 2 ∷ 2 ∷ [])

abbrev sent : (client timestamp xid : ℕ) → Signed Request
sent client timestamp xid = record { message = record { client = client; timestamp = timestamp; call = asked xid }; auth = Hashes [] }

abbrev got : (client timestamp xid : ℕ) → Answer
got client timestamp xid = record { client = client; timestamp = timestamp; reply = refused xid }

abbrev last : (timestamp xid : ℕ) → Last
last timestamp xid = record { timestamp = timestamp; reply = refused xid }

-- new, repeated, old, new, old by now, repeated, of no client, new
abbrev batch : Requests
batch = record {
  time = record { seconds = 1; useconds = 0 };
  requests = sent 0 5 7 ∷ sent 0 5 70 ∷ sent 0 4 71 ∷ sent 0 6 8 ∷ sent 0 5 72 ∷ sent 0 6 73 ∷ sent 9 1 74 ∷ sent 1 1 9 ∷ [];
}

pub row-repeats_inside : outcome new_file_system (None ∷ None ∷ []) (Some batch) ≡ record {
  files = record { tree = new_tree; next_ordinal = 6; last_time = record { seconds = 1; useconds = 0 } };
  table = Some (last 6 8) ∷ Some (last 1 9) ∷ [];
  answers = got 0 5 7 ∷ got 0 5 7 ∷ got 0 6 8 ∷ got 0 6 8 ∷ got 1 1 9 ∷ [];
}
unfolding outcome answer call_of header_of opaque_auth_at credential_of opaque_at fixed_at bytes_at word_at word refusal
row-repeats_inside = refl

abbrev ran : (xid : ℕ) → Execution
ran xid = record { call = asked xid; reply = refused xid }

pub row-executions : executions (at_start new_file_system (None ∷ None ∷ [])) batch.time batch.requests ≡ ran 7 ∷ ran 8 ∷ ran 9 ∷ []
unfolding answer call_of header_of opaque_auth_at credential_of opaque_at fixed_at bytes_at word_at word refusal
row-executions = refl

pub row-null : outcome new_file_system (Some (last 6 8) ∷ []) None ≡ record { files = new_file_system; table = Some (last 6 8) ∷ []; answers = [] }
unfolding outcome
row-null = refl

-- no request is new: the time moves alone
pub row-none_new : outcome new_file_system (Some (last 6 8) ∷ []) (Some (record { time = record { seconds = 3; useconds = 0 }; requests = sent 0 6 70 ∷ sent 0 2 71 ∷ [] }))
    ≡ record { files = record { tree = new_tree; next_ordinal = 3; last_time = record { seconds = 3; useconds = 0 } }; table = Some (last 6 8) ∷ []; answers = got 0 6 8 ∷ [] }
unfolding outcome
row-none_new = refl
