-- What proofs above this crate cite.
use Rattle.std.proofs.Common.{◌≡◌, ◌∙◌, List, [], ◌∷◌, refl, ap, ℕ}
use Rattle.std.specs.Prelude.{fold}
use Rattle.bfs_messages.specs.declared.message.Message.{Message}
use Rattle.bfs_messages.specs.declared.signed.Signed.{Signed}
use Rattle.bfs_clients.specs.Clients.{Clients}
use Rattle.bfs_clients.specs.Tallies.{Tally, no_replies, tallied_by, tally_of}
use Rattle.bfs_clients.specs.Inside.Places.{name_of}
use Rattle.bfs_clients.proofs.Places.{same_name_of}
pub use Rattle.bfs_clients.proofs.Replies.{sender_below}

still_named : (clients : Clients) (messages : List (Signed Message)) (tally : Tally) → name_of (fold (tallied_by clients) tally messages) ≡ name_of tally
still_named clients [] tally = refl
still_named clients (signed ∷ messages) tally = still_named clients messages (tallied_by clients tally signed) ∙ same_name_of clients signed tally

-- a tally stays that of its request
pub of_its_request : (clients : Clients) (replies : List (Signed Message)) (client timestamp : ℕ)
    → ((tally_of clients replies client timestamp).client ≡ client) × ((tally_of clients replies client timestamp).timestamp ≡ timestamp)
of_its_request clients replies client timestamp =
    let same = still_named clients replies (no_replies clients.f client timestamp) in (ap (λ name. name.client) same, ap (λ name. name.timestamp) same)
