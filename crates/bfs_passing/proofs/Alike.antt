-- What is signed passes alike by all keys among which the same public ones are known.
use Rattle.std.proofs.Common.{◌≡◌, ◌≤◌, ◌+◌, ◌*◌, ◌==◌, ◌&&◌, ℕ, Bool, true, List, [], ◌++◌, length, ◌⊎◌, inl, inr, Option, Some, None, refl, sym, ap, ap₂, ◌∙◌, ⊎_elim, arith}
use Rattle.std.specs.Prelude.{bytes_eq, get_or, is_some, nat_le, nat_lt, option_and_then, slice_get, if◌then◌else◌}
use Rattle.std.specs.List.{list_all}
use Rattle.std.proofs.lemmas.Bool.{cases_lt}
use Rattle.std.proofs.lemmas.List.Folds.{list_all-map}
use Rattle.std.proofs.lemmas.Option.{slice_get-get_or, slice_get_past}
use Rattle.bfs_auth.specs.Authenticators.{entry_for, is_right, passes, signature_in}
use Rattle.bfs_auth.specs.Keys.{Keys}
use Rattle.bfs_auth.specs.Places.{place_in}
use Rattle.bfs_model.specs.Bytes.Items.{word}
use Rattle.bfs_auth.specs.declared.authenticators.Authenticator.{Authenticator}
use Rattle.bfs_auth.specs.declared.pairwise.SharedKeys.{SharedKeys}
use Rattle.bfs_auth.specs.declared.places.Place.{Place}
use Rattle.bfs_auth.specs.declared.principals.Principal.TheVariants.{Replica, Client}
use Rattle.bfs_votes.specs.Tags.{checkpoint_tag, commit_tag, request_tag}
use Rattle.bfs_votes.specs.Votes.{replicas}
use Rattle.bfs_log.specs.Certificates.{StableCheckpoint, as_checkpoints, certifies, faults, is_all_signed, is_proved, is_shown, matches, messages_in, prepares_in, senders_differ, vote_in, vouches}
use Rattle.bfs_log.specs.Headers.{header}
use Rattle.bfs_messages.specs.Batches.{request_text}
use Rattle.bfs_messages.specs.Messages as model
use Rattle.bfs_messages.specs.Messages.{PreparedBatch, requests_of}
use Rattle.bfs_messages.specs.Signing.{as_message, carried_are_signed, is_signed, order_is_signed, request_is_signed}
use Rattle.bfs_messages.specs.declared.message.Message.TheVariants.{NewView, ViewChange}
use Rattle.bfs_messages.specs.declared.order_messages.OrderMessage.{OrderMessage}
use Rattle.bfs_messages.specs.declared.order_messages.OrderMessage.TheVariants.{PrePrepare, Prepare, Commit, Checkpoint}
use Rattle.bfs_messages.specs.declared.signed.Signed.{Signed}
use Rattle.bfs_view_change.specs.Changes.ViewChanges.{are_in_order, has_stable, stable_in, valid_view_change}
use Rattle.bfs_nodes_progress.specs.Begun.{new_view_passes}
use Rattle.bfs_passing.specs.Alike.{PassAlike}
use Rattle.bfs_passing.specs.Laws.{SignedPassesAlike}
use Rattle.bfs_passing.proofs.Places.{checkpoint_there, new_view_there, pre_prepare_there, prepare_there, view_change_there}

-- Texts ---------------------------------------------------------------------------------------------------------------

-- a public key decides; without one only shared keys do
right_alike : (key : Option (List ℕ)) (one other : Option SharedKeys) (text : List ℕ) (mine theirs signature : Option (List ℕ)) → (key ≡ None → (one ≡ None) × (other ≡ None))
    → is_right key one text mine signature ≡ is_right key other text theirs signature
right_alike (Some key) one other text mine theirs signature none = refl
right_alike None one other text mine theirs signature none =
    let both = none refl in
    ap (λ (shared : Option SharedKeys). is_right None shared text mine signature) both.0 ∙ sym (ap (λ (shared : Option SharedKeys). is_right None shared text theirs signature) both.1)

-- where no public key is at a number, no shared key is
none_shared : (known : List (List ℕ)) (shared : List SharedKeys) (k : ℕ) → length shared ≤ length known → slice_get known k ≡ None → slice_get shared k ≡ None
none_shared known shared k enough none = ⊎_elim
    (λ below. let some : Some (get_or known k []) ≡ None = sym (slice_get-get_or known k [] below) ∙ none in absurd cc)
    (λ past. slice_get_past shared k (omega (arith, past, enough)))
    (cases_lt k (length known))

module _ (one other : Keys) (same_replicas : other.replica_signers ≡ one.replica_signers) (same_clients : other.signers ≡ one.signers)
    (as_many : length other.replicas ≡ length one.replicas) (replicas_known : length one.replicas ≤ length one.replica_signers)
    (clients_known : length one.clients ≤ length one.signers) (theirs_known : length other.clients ≤ length one.signers) where
  clients_alike : (client : ℕ) (text : List ℕ) (auth : Authenticator) → passes one (Client client) text auth ≡ passes other (Client client) text auth
  unfolding passes
  clients_alike client text auth =
      let signature = signature_in auth in
      right_alike (slice_get one.signers client) (slice_get one.clients client) (slice_get other.clients client) text (entry_for one.me auth) (entry_for other.me auth) signature
      (λ none. (none_shared one.signers one.clients client clients_known none, none_shared one.signers other.clients client theirs_known none))
      ∙ ap (λ (known : List (List ℕ)). is_right (slice_get known client) (slice_get other.clients client) text (entry_for other.me auth) signature) (sym same_clients)

  of_place : (sender : ℕ) (text : List ℕ) (auth : Authenticator) (place : Option Place) → is_some place ≡ true
      → is_right (option_and_then (λ _. slice_get one.replica_signers sender) place) (slice_get one.replicas sender) text (entry_for one.me auth) (signature_in auth)
      ≡ is_right (option_and_then (λ _. slice_get other.replica_signers sender) place) (slice_get other.replicas sender) text (entry_for other.me auth) (signature_in auth)
  of_place sender text auth None some = absurd cc
  of_place sender text auth (Some place) some =
      let signature = signature_in auth in
      right_alike (slice_get one.replica_signers sender) (slice_get one.replicas sender) (slice_get other.replicas sender) text (entry_for one.me auth) (entry_for other.me auth) signature
      (λ none. (
        none_shared one.replica_signers one.replicas sender replicas_known none,
        none_shared one.replica_signers other.replicas sender (omega (arith, as_many, replicas_known)) none,
      ))
      ∙ ap (λ (known : List (List ℕ)). is_right (slice_get known sender) (slice_get other.replicas sender) text (entry_for other.me auth) signature) (sym same_replicas)

  replicas_alike : (sender : ℕ) (text : List ℕ) (auth : Authenticator) → is_some (place_in text) ≡ true → passes one (Replica sender) text auth ≡ passes other (Replica sender) text auth
  unfolding passes
  replicas_alike sender text auth some = of_place sender text auth (place_in text) some

  -- Messages ------------------------------------------------------------------------------------------------------------

  requests_alike : request_is_signed one ≡ request_is_signed other
  requests_alike = λ i s. clients_alike s.message.client (word request_tag ++ request_text s.message) s.auth i

  carried_alike : (m : OrderMessage) → carried_are_signed one m ≡ carried_are_signed other m
  carried_alike (PrePrepare proposal) = ap (λ (test : Signed model.Request → Bool). list_all test (requests_of proposal.batch)) requests_alike
  carried_alike (Prepare vote) = refl
  carried_alike (Commit vote) = refl
  carried_alike (Checkpoint checkpoint) = refl

  proposals_alike : (s : Signed model.PrePrepare) → order_is_signed one (as_message PrePrepare s) ≡ order_is_signed other (as_message PrePrepare s)
  proposals_alike s = replicas_alike s.message.vote.sender _ s.auth (pre_prepare_there s.message.vote)

  prepares_alike : (s : Signed model.Vote) → order_is_signed one (as_message Prepare s) ≡ order_is_signed other (as_message Prepare s)
  prepares_alike s = replicas_alike s.message.sender _ s.auth (prepare_there s.message)

  checkpoints_alike : (s : Signed model.Checkpoint) → order_is_signed one (as_message Checkpoint s) ≡ order_is_signed other (as_message Checkpoint s)
  checkpoints_alike s = replicas_alike s.message.sender _ s.auth (checkpoint_there s.message)

  votes_alike : (m : OrderMessage) (auth : Authenticator) → let s : Signed OrderMessage = record { message = m; auth = auth } in
      ((header s).tag ≡ commit_tag) ⊎ (order_is_signed one s ≡ order_is_signed other s)
  votes_alike (PrePrepare proposal) auth = inr (proposals_alike (record { message = proposal; auth = auth }))
  votes_alike (Prepare vote) auth = inr (prepares_alike (record { message = vote; auth = auth }))
  votes_alike (Commit vote) auth = inl refl
  votes_alike (Checkpoint checkpoint) auth = inr (checkpoints_alike (record { message = checkpoint; auth = auth }))

  -- Certificates --------------------------------------------------------------------------------------------------------

  faults_alike : faults one ≡ faults other
  faults_alike = omega (arith, as_many)

  vouches_alike : (f number : ℕ) (digest : List ℕ) (s : Signed model.Checkpoint) → vouches one f number digest (as_message Checkpoint s) ≡ vouches other f number digest (as_message Checkpoint s)
  vouches_alike f number digest s =
      let h = header (as_message Checkpoint s) in
      ap (λ (signed : Bool). (h.tag == checkpoint_tag) && ((h.number == number) && (bytes_eq h.digest digest && (nat_lt h.sender (replicas f) && signed)))) (checkpoints_alike s)

  shown_alike : (f : ℕ) (c : StableCheckpoint) → is_shown one f c ≡ is_shown other f c
  shown_alike f c =
      let by = λ (keys : Keys). list_all-map (vouches keys f c.number c.digest) (as_message Checkpoint) c.checkpoints in
      let each : (λ (s : Signed model.Checkpoint). vouches one f c.number c.digest (as_message Checkpoint s)) ≡ (λ s. vouches other f c.number c.digest (as_message Checkpoint s)) =
      λ i s. vouches_alike f c.number c.digest s i in
      ap (λ (all : Bool). all && (senders_differ (as_checkpoints c.checkpoints) && nat_le (2 * f + 1) (length c.checkpoints)))
      (by one ∙ ap (λ (test : Signed model.Checkpoint → Bool). list_all test c.checkpoints) each ∙ sym (by other))

  all_alike : (s : Signed OrderMessage) → order_is_signed one s ≡ order_is_signed other s → is_all_signed one s ≡ is_all_signed other s
  all_alike s same = ap₂ (λ (signed carried : Bool). signed && carried) same (carried_alike s.message)

  certified_alike : (c : PreparedBatch) → certifies one c ≡ certifies other c
  certified_alike c =
      let by = λ (keys : Keys). list_all-map (is_all_signed keys) (as_message Prepare) c.prepares in
      let each : (λ (s : Signed model.Vote). is_all_signed one (as_message Prepare s)) ≡ (λ s. is_all_signed other (as_message Prepare s)) =
      λ i s. all_alike (as_message Prepare s) (prepares_alike s) i in
      let prepares : list_all (is_all_signed one) (prepares_in c) ≡ list_all (is_all_signed other) (prepares_in c) =
      by one ∙ ap (λ (test : Signed model.Vote → Bool). list_all test c.prepares) each ∙ sym (by other) in
      let signed : list_all (is_all_signed one) (messages_in c) ≡ list_all (is_all_signed other) (messages_in c) =
      ap₂ (λ (first rest : Bool). first && rest) (all_alike (as_message PrePrepare c.proposal) (proposals_alike c.proposal)) prepares in
      ap₂ (λ (f : ℕ) (all : Bool). list_all (λ m. matches (vote_in c) (header m)) (prepares_in c) && (senders_differ (messages_in c) && (is_proved f c && all))) faults_alike signed

  stable_alike : (change : model.ViewChange) → has_stable one change ≡ has_stable other change
  stable_alike change =
      ap (λ (shown : Bool). if change.stable == 0 then length change.checkpoints == 0 else shown)
      (ap (λ (f : ℕ). is_shown one f (stable_in change)) faults_alike ∙ shown_alike (faults other) (stable_in change))

  changes_alike : (s : Signed model.ViewChange) → valid_view_change one s ≡ valid_view_change other s
  changes_alike s =
      let signed : is_signed one (as_message ViewChange s) ≡ is_signed other (as_message ViewChange s) = replicas_alike s.message.sender _ s.auth (view_change_there s.message) in
      let each : certifies one ≡ certifies other = λ i c. certified_alike c i in
      ap₂ (λ (sign rest : Bool). are_in_order s.message && (sign && rest)) signed
      (ap₂ (λ (stable : Bool) (test : PreparedBatch → Bool). stable && list_all test s.message.certificates) (stable_alike s.message) each)

  new_views_alike : (s : Signed model.NewView) → new_view_passes one s ≡ new_view_passes other s
  new_views_alike s =
      let signed : is_signed one (as_message NewView s) ≡ is_signed other (as_message NewView s) = replicas_alike s.message.sender _ s.auth (new_view_there s.message) in
      let changes : valid_view_change one ≡ valid_view_change other = λ i c. changes_alike c i in
      let proposals : (λ (p : Signed model.PrePrepare). order_is_signed one (as_message PrePrepare p)) ≡ (λ p. order_is_signed other (as_message PrePrepare p)) = λ i p. proposals_alike p i in
      ap₂ (λ (sign rest : Bool). sign && rest) signed
      (ap₂ (λ (test : Signed model.ViewChange → Bool) (also : Signed model.PrePrepare → Bool). list_all test s.message.changes && list_all also s.message.proposals) changes proposals)

  all_pass_alike : PassAlike one other
  all_pass_alike = record {
    of_clients = clients_alike;
    of_replicas = replicas_alike;
    votes = λ m. votes_alike m.message m.auth;
    carried = carried_alike;
    changes = changes_alike;
    new_views = new_views_alike;
    stable = stable_alike;
  }

pub signed_passes_alike : SignedPassesAlike
signed_passes_alike f keys i j know shared below there =
    let shares = shared i in
    let all = know.all in
    let mine = ap (λ (known : List (List ℕ)). length known) (know.knows_replicas i below) in
    let clients = ap (λ (known : List (List ℕ)). length known) (know.knows_clients i below) in
    let each = know.each i below in
    let theirs = know.each j there in
    all_pass_alike (keys i) (keys j)
    (know.knows_replicas j there ∙ sym (know.knows_replicas i below)) (know.knows_clients j there ∙ sym (know.knows_clients i below))
    (shared j ∙ sym shares) (omega (arith, shares, all, mine)) (omega (arith, each, clients)) (omega (arith, theirs, clients))
