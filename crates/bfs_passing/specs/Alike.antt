-- What passes by the keys of one replica passes by those of another one.
use Rattle.std.specs.Prelude.{◌≡◌, ◌⊎◌, ℕ, true, is_some, List}
use Rattle.bfs_auth.specs.Authenticators.{passes}
use Rattle.bfs_auth.specs.Keys.{Keys}
use Rattle.bfs_auth.specs.Places.{place_in}
use Rattle.bfs_auth.specs.declared.authenticators.Authenticator.{Authenticator}
use Rattle.bfs_auth.specs.declared.principals.Principal.TheVariants.{Replica, Client}
use Rattle.bfs_log.specs.Headers.{header}
use Rattle.bfs_messages.specs.Messages as model
use Rattle.bfs_messages.specs.Signing.{carried_are_signed, order_is_signed}
use Rattle.bfs_messages.specs.declared.order_messages.OrderMessage.{OrderMessage}
use Rattle.bfs_messages.specs.declared.signed.Signed.{Signed}
use Rattle.bfs_view_change.specs.Changes.ViewChanges.{has_stable, valid_view_change}
use Rattle.bfs_votes.specs.Tags.{commit_tag}
use Rattle.bfs_nodes_progress.specs.Begun.{new_view_passes}

-- whatever a client is to have said, whatever a replica is to have said that is of a place, and so each message of the order but a COMMIT, with the REQUESTs that it
-- carries, each VIEW-CHANGE and each NEW-VIEW, and what shows that a number is stable
pub record PassAlike (one other : Keys) : Type 0 where
  pub of_clients : (client : ℕ) (text : List ℕ) (auth : Authenticator) → passes one (Client client) text auth ≡ passes other (Client client) text auth
  pub of_replicas : (sender : ℕ) (text : List ℕ) (auth : Authenticator) → is_some (place_in text) ≡ true → passes one (Replica sender) text auth ≡ passes other (Replica sender) text auth
  pub votes : (m : Signed OrderMessage) → ((header m).tag ≡ commit_tag) ⊎ (order_is_signed one m ≡ order_is_signed other m)
  pub carried : (m : OrderMessage) → carried_are_signed one m ≡ carried_are_signed other m
  pub changes : (s : Signed model.ViewChange) → valid_view_change one s ≡ valid_view_change other s
  pub new_views : (s : Signed model.NewView) → new_view_passes one s ≡ new_view_passes other s
  pub stable : (change : model.ViewChange) → has_stable one change ≡ has_stable other change
