-- The NEW-VIEW that a primary makes is right.
use Rattle.std.proofs.Common.{◌≡◌, ℕ, ◌<◌, Bool, true, cond, ◌&&◌, not, eqb, List, [], ◌∷◌, map, Option, Some, None, refl, sym, ap, ◌∙◌}
use Rattle.std.proofs.lemmas.Bool.{and_from, eq-eqb}
use Rattle.std.proofs.lemmas.Slice.Eq.{bytes_eq-Decides}
use Rattle.bfs_auth.specs.Laws.{PassesAtReplicas}
use Rattle.bfs_auth.specs.declared.principals.Principal.TheVariants.{Replica}
use Rattle.bfs_votes.specs.Votes.{primary, replicas}
use Rattle.bfs_messages.specs.Batches.{batch_text}
use Rattle.bfs_messages.specs.Spelling.{body_text, order_body_text}
use Rattle.bfs_messages.specs.declared.message.Message.TheVariants.{NewView}
use Rattle.bfs_messages.specs.declared.order_messages.OrderMessage.TheVariants.{PrePrepare}
use Rattle.bfs_order.specs.Laws.Clean.{own_keys}
use Rattle.bfs_log.specs.Certificates.{faults}
use Rattle.bfs_view_change.specs.Changes.Choice.{Chosen, choice}
use Rattle.bfs_view_change.specs.Changes.Making.{chosen_proposal, new_view_from, signed_proposal}
use Rattle.bfs_view_change.specs.Changes.NewViews.{do_propose, first_of}
use Rattle.bfs_view_change.specs.Changes.ViewChanges.{messages_of}
use Rattle.bfs_view_change.specs.Laws.Made.{NewViewIsRight}
use Rattle.bfs_view_change.specs.declared.error.ViewError.{ViewError}
use Rattle.bfs_view_change.specs.declared.error.ViewError.TheVariants.{BadAuthenticator, BadCertificate, WrongChoice}
use Rattle.bfs_view_change.proofs.Made.{faults_of}

proposed : PassesAtReplicas → (secret : List ℕ) (clients f me other view : ℕ) → me < replicas f → other < replicas f → (chosen : List Chosen)
    → do_propose (own_keys secret clients f other) me view (map (λ c. signed_proposal (own_keys secret clients f me) (chosen_proposal me view c)) chosen) chosen ≡ true
proposed passes_at secret clients f me other view me_low other_low [] = refl
proposed passes_at secret clients f me other view me_low other_low (c ∷ cs) =
    let text = batch_text c.batch in
    let body = order_body_text (PrePrepare (chosen_proposal me view c)) in
    and_from _ _
    (and_from _ _ (and_from _ _ (eq-eqb me me refl) (and_from _ _ (eq-eqb view view refl) (eq-eqb c.number c.number refl)))
    (and_from _ _ ((bytes_eq-Decides text text).1 refl) (passes_at secret (Replica me) other (replicas f) clients body other_low me_low)))
    (proposed passes_at secret clients f me other view me_low other_low cs)

none_of : (a b c d : Bool) (o : Option ViewError) → a ≡ true → b ≡ true → c ≡ true → o ≡ None → d ≡ true
    → first_of (cond (not (a && b)) (Some BadAuthenticator) (cond (not c) (Some BadCertificate) o)) (cond d None (Some WrongChoice)) ≡ None
none_of a b c d o p q r s t = rw (p, q, r, s, t) refl

pub right : PassesAtReplicas → NewViewIsRight
right passes_at secret clients f me other view changes me_low other_low leads one_view chosen =
    let new = new_view_from (own_keys secret clients f me) me view changes (choice (messages_of changes)) in
    let led : eqb me (primary (faults (own_keys secret clients f other)) view) ≡ true = eq-eqb me _ (leads ∙ sym (ap (λ g. primary g view) (faults_of secret f other clients))) in
    none_of _ _ _ _ _ led (passes_at secret (Replica me) other (replicas f) clients (body_text (NewView new)) other_low me_low) one_view chosen
    (proposed passes_at secret clients f me other view me_low other_low (choice (messages_of changes)).chosen)
