-- The texts of the parts of a saved replica.
use Rattle.std.specs.Prelude.{◌≡◌, ℕ, Bool, true, ◌&&◌, List, ◌++◌, length, Option, nat_le}
use Rattle.std.specs.List.{list_all}
use Rattle.bfs_model.specs.Bytes.Formats.{Reading, as_from, hyper_from, then_from, where_from}
use Rattle.bfs_model.specs.Bytes.Items.{hyper, word}
use Rattle.bfs_model.specs.Server.Limits.{most_requests}
use Rattle.bfs_model.specs.Server.Stored.{IsDouble}
use Rattle.bfs_auth.specs.Keys.{Keys}
use Rattle.bfs_messages.specs.Limits.{IsNumber}
use Rattle.bfs_messages.specs.Messages as model
use Rattle.bfs_messages.specs.Signing.{as_message, request_is_signed}
use Rattle.bfs_messages.specs.declared.signed.Signed.{Signed}
use Rattle.bfs_messages.specs.declared.message.Message.TheVariants.{NewView, Request, ViewChange}
use Rattle.bfs_codec.specs.Parts.{number_from, tag_from}
use Rattle.bfs_order.specs.Replica.Marks.{marks_of, state_with}
use Rattle.bfs_order.specs.Replica.States.{State}
use Rattle.bfs_order.specs.declared.marks.Marks.{Marks}
use Rattle.bfs_view_change.specs.Changes.Keeping.{Kept}
use Rattle.bfs_view_change.specs.Changes.Restoring.{are_few}
use Rattle.bfs_saving.specs.Items.{FitMany, FitsOptional, many_from, many_text, optional_from, optional_text}
use Rattle.bfs_saving.specs.Logs.{FitsLog, log_from, log_text}
use Rattle.bfs_saving.specs.Messages.{FitsText, kind_from, message_text, new_view_of, request_of, view_change_of}

-- The order ----------------------------------------------------------------------------------------------------------

-- how many replicas may be faulty and which one it is, its views and marks
abbrev pub marks_text : Marks → List ℕ
marks_text m = word m.f ++ word m.me ++ hyper m.view ++ hyper m.asked ++ hyper m.low ++ hyper m.last ++ hyper m.min_s ++ hyper m.handed

-- and its log
abbrev pub order_text : State → List ℕ
order_text s = marks_text (marks_of s) ++ log_text s.log

-- of that replica, where so many may be faulty
pub record AreWithin (f me : ℕ) (m : Marks) : Type 0 where
  pub f_is : m.f ≡ f
  pub me_is : m.me ≡ me
  pub view : IsNumber m.view
  pub asked : IsNumber m.asked
  pub low : IsNumber m.low
  pub last : IsNumber m.last
  pub min_s : IsDouble m.min_s
  pub handed : IsDouble m.handed

abbrev pub FitsOrder : (f me : ℕ) → State → Type 0
FitsOrder f me s = AreWithin f me (marks_of s) × FitsLog s.log

unfoldable pub marks_from : (f me : ℕ) → List ℕ → Reading Marks
marks_from f me bytes =
    as_from (λ p. record { f = p.0.0.0.0.0.0.0; me = p.0.0.0.0.0.0.1; view = p.0.0.0.0.0.1; asked = p.0.0.0.0.1; low = p.0.0.0.1; last = p.0.0.1; min_s = p.0.1; handed = p.1 })
    (then_from (then_from (then_from (then_from (then_from (then_from (then_from (tag_from f) (tag_from me)) number_from) number_from) number_from) number_from) hyper_from) hyper_from) bytes

-- of that replica, and of no other
unfoldable pub order_from : (f me : ℕ) → List ℕ → Reading State
order_from f me bytes = as_from (λ p. state_with p.0 p.1) (then_from (marks_from f me) log_from) bytes

-- Requests that wait -------------------------------------------------------------------------------------------------

-- no more than a batch can have, and each is its client's, as the holder of the keys sees it
abbrev pub may_wait : Keys → List (Signed model.Request) → Bool
may_wait keys requests = nat_le (length requests) most_requests && list_all (request_is_signed keys) requests

abbrev pub requests_text : List (Signed model.Request) → List ℕ
requests_text requests = many_text (λ s. message_text (as_message Request s)) requests

abbrev pub FitRequests : Keys → List (Signed model.Request) → Type 0
FitRequests keys requests = FitMany (λ s. FitsText (as_message Request s)) requests × (may_wait keys requests ≡ true)

abbrev pub requests_from : Keys → List ℕ → Reading (List (Signed model.Request))
requests_from keys bytes = where_from (may_wait keys) (many_from (kind_from request_of)) bytes

-- VIEW-CHANGEs and the NEW-VIEW --------------------------------------------------------------------------------------

abbrev pub view_change_text : Signed model.ViewChange → List ℕ
view_change_text s = message_text (as_message ViewChange s)

abbrev pub FitsViewChange : Signed model.ViewChange → Type 0
FitsViewChange s = FitsText (as_message ViewChange s)

-- the views asked for, by senders; the VIEW-CHANGEs, by senders; the own one
abbrev pub changes_text : Kept → List ℕ
changes_text kept = many_text hyper kept.asked ++ many_text (optional_text view_change_text) kept.changes ++ optional_text view_change_text kept.own

abbrev pub FitKept : Kept → Type 0
FitKept kept = (FitMany IsDouble kept.asked × FitMany (FitsOptional FitsViewChange) kept.changes) × FitsOptional FitsViewChange kept.own

abbrev pub FitChanges : Kept → Type 0
FitChanges kept = FitKept kept × (are_few kept.changes ≡ true)

unfoldable pub changes_from : List ℕ → Reading Kept
changes_from bytes =
    where_from (λ kept. are_few kept.changes)
    (as_from (λ p. record { asked = p.0.0; changes = p.0.1; own = p.1 })
    (then_from (then_from (many_from hyper_from) (many_from (optional_from (kind_from view_change_of)))) (optional_from (kind_from view_change_of)))) bytes

abbrev pub new_view_text : Option (Signed model.NewView) → List ℕ
new_view_text new = optional_text (λ s. message_text (as_message NewView s)) new

abbrev pub FitsNewView : Option (Signed model.NewView) → Type 0
FitsNewView new = FitsOptional (λ s. FitsText (as_message NewView s)) new

abbrev pub new_view_from : List ℕ → Reading (Option (Signed model.NewView))
new_view_from bytes = optional_from (kind_from new_view_of) bytes
