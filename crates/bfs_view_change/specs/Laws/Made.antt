-- What holds of the VIEW-CHANGE that a replica makes of its log, and of the NEW-VIEW that a primary makes (OSDI 1999 section 4.4).
use Rattle.std.specs.Prelude.{◌≡◌, ℕ, ◌+◌, ◌<◌, ◌≤◌, true, List, None}
use Rattle.std.specs.List.{All, Contains}
use Rattle.bfs_votes.specs.Votes.{prepared, primary, replicas}
use Rattle.bfs_log.specs.Certificates.{number_in, view_in}
use Rattle.bfs_messages.specs.Messages.{PreparedBatch, ViewChange}
use Rattle.bfs_messages.specs.declared.signed.Signed.{Signed}
use Rattle.bfs_order.specs.Laws.Calls.{Call, after}
use Rattle.bfs_order.specs.Laws.Clean.{HasCleanLog, IsProper, own_keys}
use Rattle.bfs_order.specs.Laws.Logs.{HasCertificate, HasDistinctSlots, HasNoLaterView}
use Rattle.bfs_order.specs.Replica.States.{State, fresh, known}
use Rattle.bfs_view_change.specs.Changes.ViewChanges.{messages_of, valid_view_change}
use Rattle.bfs_view_change.specs.Changes.Making.{certificates, change_of, new_view_from, signed_change, signed_new_view}
use Rattle.bfs_view_change.specs.Changes.Choice.{choice}
use Rattle.bfs_view_change.specs.Changes.NewViews.{are_for, choice_refusal, new_view_refusal}
use Rattle.bfs_model.specs.Server.Limits.{log_size}

-- by its own keys it is valid where the log is clean, and what each replica's log always is
abbrev pub MadeIsValid : Type 0
MadeIsValid = (secret : List ℕ) (clients : ℕ) (s : State) (view : ℕ) → s.me < replicas s.f → s.view < view
    → HasDistinctSlots s → HasCertificate s → HasNoLaterView s → HasCleanLog secret clients s
    → valid_view_change (own_keys secret clients s.f s.me) (signed_change (own_keys secret clients s.f s.me) (change_of s view)) ≡ true

-- so it is after calls that are made with these keys
abbrev pub MadeIsValidAfterCalls : Type 0
MadeIsValidAfterCalls = (secret : List ℕ) (clients f me : ℕ) (calls : List Call) (view : ℕ) → me < replicas f → (after (fresh f me) calls).view < view
    → All (IsProper (own_keys secret clients f me)) calls
    → valid_view_change (own_keys secret clients f me) (signed_change (own_keys secret clients f me) (change_of (after (fresh f me) calls) view)) ≡ true

-- it leaves out nothing that is prepared between the marks: there is a certificate of the number, of a view as high
abbrev pub MadeHasPrepared : Type 0
MadeHasPrepared = (s : State) (view number : ℕ) (digest : List ℕ) → prepared s.f s.me (known s) view number digest ≡ true
    → s.low < number → number ≤ s.low + log_size
    → (c : PreparedBatch) × Contains (certificates s) c × (number_in c ≡ number) × (view ≤ view_in c)

-- the NEW-VIEW that a primary makes is right for each replica for which its VIEW-CHANGEs can be chosen from
abbrev pub NewViewIsRight : Type 0
NewViewIsRight = (secret : List ℕ) (clients f me other view : ℕ) (changes : List (Signed ViewChange)) → me < replicas f → other < replicas f → me ≡ primary f view
    → are_for view changes ≡ true → choice_refusal (own_keys secret clients f other) changes ≡ None
    → new_view_refusal (own_keys secret clients f other) (signed_new_view (own_keys secret clients f me) (new_view_from (own_keys secret clients f me) me view changes (choice (messages_of changes)))) ≡ None
