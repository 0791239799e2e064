-- The whole text of a saved replica (this project's profile).
use Rattle.std.specs.Prelude.{◌≡◌, ℕ, ◌-◌, List, ◌++◌, length, take, drop, Option, Some, None, bytes_eq, nat_lt, if◌then◌else◌}
use Rattle.sha2.specs.Sha256.{sha256}
use Rattle.bfs_model.specs.Bytes.Call.{◌>>=◌}
use Rattle.bfs_model.specs.Bytes.Formats.{Reading, as_from, hyper_from, then_from, whole_from}
use Rattle.bfs_model.specs.Bytes.Items.{hyper, word}
use Rattle.bfs_model.specs.Server.Stored.{IsDouble}
use Rattle.bfs_auth.specs.Keys.{Keys}
use Rattle.bfs_messages.specs.Messages.{NewView, Request}
use Rattle.bfs_messages.specs.declared.signed.Signed.{Signed}
use Rattle.bfs_codec.specs.Parts.{tag_from}
use Rattle.bfs_log.specs.Certificates.{StableCheckpoint}
use Rattle.bfs_order.specs.Replica.States.{State}
use Rattle.bfs_view_change.specs.Changes.Keeping.{Kept}
use Rattle.bfs_saving.specs.Certificates.{FitsStable, stable_from, stable_text}
use Rattle.bfs_saving.specs.Items.{FitMany, FitsLong, long_from, long_text, many_from, many_text}
use Rattle.bfs_saving.specs.Parts.{FitChanges, FitRequests, FitsNewView, FitsOrder, changes_from, changes_text, new_view_from, new_view_text, order_from, order_text, requests_from, requests_text}

-- the text of a state, and the number of its checkpoint
pub record SavedState : Type 0 where
  pub number : ℕ
  pub text : List ℕ

-- what is saved of a replica: states by their texts
pub record Saved : Type 0 where
  -- how many there are
  pub clients : ℕ
  pub order : State
  pub pending : List (Signed Request)
  pub changes : Kept
  pub new_view : Option (Signed NewView)
  pub stable : Option StableCheckpoint
  pub states : List SavedState
  pub own : List ℕ

-- the word in front, whose bytes are `BFSN`
abbrev pub magic : ℕ
magic = 0x4246534e

abbrev pub version : ℕ
version = 1

abbrev pub state_text : SavedState → List ℕ
state_text state = hyper state.number ++ long_text state.text

abbrev pub FitsState : SavedState → Type 0
FitsState state = IsDouble state.number × FitsLong state.text

unfoldable pub state_from : List ℕ → Reading SavedState
state_from bytes = as_from (λ p. record { number = p.0; text = p.1 }) (then_from hyper_from long_from) bytes

-- behind the version
abbrev pub parts_text : Saved → List ℕ
parts_text s =
    (order_text s.order ++ requests_text s.pending) ++ (changes_text s.changes ++ new_view_text s.new_view) ++ (stable_text s.stable ++ many_text state_text s.states) ++ long_text s.own

abbrev pub body_text : Saved → List ℕ
body_text s = word magic ++ word version ++ word s.clients ++ parts_text s

-- SHA-256 (FIPS 180-4) stands behind it, by which bytes that were cut or changed are told
abbrev pub sealed : List ℕ → List ℕ
sealed body = body ++ sha256 body

abbrev pub saved_text : Saved → List ℕ
saved_text s = sealed (body_text s)

abbrev pub FitParts : Keys → (f me : ℕ) → Saved → Type 0
FitParts keys f me s =
    (((FitsOrder f me s.order × FitRequests keys s.pending) × (FitChanges s.changes × FitsNewView s.new_view)) × (FitsStable f s.stable × FitMany FitsState s.states)) × FitsLong s.own

-- of the replica of that number, where f may be faulty, as the holder of the keys sees it: it knows as many clients
abbrev pub FitsSaved : Keys → (f me : ℕ) → Saved → Type 0
FitsSaved keys f me s = (s.clients ≡ length keys.clients) × FitParts keys f me s

unfoldable pub parts_from : Keys → (f me : ℕ) → List ℕ → Reading Saved
parts_from keys f me bytes =
    as_from (λ p. record { clients = length keys.clients; order = p.0.0.0.0; pending = p.0.0.0.1; changes = p.0.0.1.0; new_view = p.0.0.1.1; stable = p.0.1.0; states = p.0.1.1; own = p.1 })
    (then_from (then_from (then_from (then_from (order_from f me) (requests_from keys)) (then_from changes_from new_view_from)) (then_from (stable_from f) (many_from state_from))) long_from) bytes

unfoldable pub saved_from : Keys → (f me : ℕ) → List ℕ → Reading Saved
saved_from keys f me bytes = as_from (λ p. p.1) (then_from (then_from (then_from (tag_from magic) (tag_from version)) (tag_from (length keys.clients))) (parts_from keys f me)) bytes

-- what stands in front of its digest, where that is right
unfoldable pub unsealed : List ℕ → Option (List ℕ)
unsealed bytes =
    let body = take (length bytes - 32) bytes in
    if nat_lt (length bytes) 32 then None else if bytes_eq (sha256 body) (drop (length bytes - 32) bytes) then Some body else None

-- what the bytes spell, all of them
unfoldable pub saved_of : Keys → (f me : ℕ) → List ℕ → Option Saved
saved_of keys f me bytes = do
  body ← unsealed bytes
  whole_from (saved_from keys f me) body
