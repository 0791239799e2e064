-- Who signs a REPLY to a client shares a key with it.
use Rattle.std.proofs.Common.{◌≡◌, ◌∙◌, ℕ, ◌<◌, Bool, true, false, List, ◌++◌, length, Some, None, Option, refl, sym, ap, arith}
use Rattle.std.specs.Prelude.{nat_lt, option_and_then, if◌then◌else◌}
use Rattle.std.specs.List.{slice_get}
use Rattle.std.proofs.lemmas.Nat.{from_be_bytes-to_be_bytes_4}
use Rattle.std.proofs.lemmas.Option.{slice_get_within}
use Rattle.lms.specs.Bytes.{word_at}
use Rattle.bfs_model.specs.Bytes.Items.{word}
use Rattle.bfs_votes.specs.Tags.{reply_tag}
use Rattle.bfs_auth.specs.Authenticators.{entry_for, is_hash, is_right, passes, signature_in}
use Rattle.bfs_auth.specs.Keys.{Keys}
use Rattle.bfs_auth.specs.Places.{place_by, place_in}
use Rattle.bfs_auth.specs.declared.pairwise.SharedKeys.{SharedKeys}
use Rattle.bfs_auth.specs.declared.places.Place.{Place}
use Rattle.bfs_messages.specs.Batches.{reply_text}
use Rattle.bfs_messages.specs.Messages as model
use Rattle.bfs_messages.specs.Signing.{is_signed}
use Rattle.bfs_messages.specs.Spelling.{body_text}
use Rattle.bfs_messages.specs.declared.signed.Signed.{Signed}
use Rattle.bfs_messages.specs.declared.message.Message.{Message}
use Rattle.bfs_messages.specs.declared.message.Message.TheVariants.{Reply}

-- a REPLY is of no place: replicas sign none
if_either : (t : Bool) (p : Option Place) → (if t then p else p) ≡ p
if_either true p = refl
if_either false p = refl

reply_tagged : (rest : List ℕ) → word_at 0 (word reply_tag ++ rest) ≡ reply_tag
unfolding word
reply_tagged rest = from_be_bytes-to_be_bytes_4 reply_tag (omega arith)

reply_of_no_place : (reply : model.Reply) → place_in (body_text (Reply reply)) ≡ None
unfolding place_in
reply_of_no_place reply =
    let bytes = word reply_tag ++ reply_text reply in
    ap (λ (p : Option Place). if nat_lt (length bytes) 16 then None else p) (ap (λ t. place_by t bytes) (reply_tagged (reply_text reply)))
    ∙ if_either (nat_lt (length bytes) 16) None

-- so its sender has a number among the replicas
pub sender_below : (keys : Keys) (m : Signed Message) (reply : model.Reply) → m.message ≡ Reply reply → is_signed keys m ≡ true → reply.sender < length keys.replicas
unfolding passes
sender_below keys m reply is signed =
    let text = body_text (Reply reply) in
    let shared = slice_get keys.replicas reply.sender in
    go shared refl
    (sym (ap (λ (p : Option Place). is_right (option_and_then (λ place. slice_get keys.replica_signers reply.sender) p) shared text (entry_for keys.me m.auth) (signature_in m.auth)) (reply_of_no_place reply))
    ∙ (sym (ap (λ (x : Message). is_signed keys (record { message = x; auth = m.auth })) is) ∙ signed))
  where
    go : (o : Option SharedKeys) → slice_get keys.replicas reply.sender ≡ o → is_hash o (body_text (Reply reply)) (entry_for keys.me m.auth) ≡ true → reply.sender < length keys.replicas
    go None e h = absurd cc
    go (Some shared) e h = slice_get_within keys.replicas reply.sender shared e
