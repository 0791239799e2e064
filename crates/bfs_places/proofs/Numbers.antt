-- The views and the numbers of votes are below 2^63: of those that fit, of those in a log, and of what is chosen from them for a new view.
use Rattle.std.proofs.Common.{ℕ, zero, suc, ◌+◌, ◌-◌, ◌<◌, ◌≤◌, List, [], ◌∷◌, map, inl, inr, refl, subst, sym, arith}
use Rattle.std.specs.Prelude.{Option, Some, None, max}
use Rattle.std.specs.List.{AllByRecursion, range_with_len}
use Rattle.std.proofs.lemmas.Bool.{leb-true}
use Rattle.bfs_auth.specs.Keys.{Keys}
use Rattle.bfs_auth.specs.declared.authenticators.Authenticator.{Authenticator}
use Rattle.bfs_model.specs.Server.Limits.{most_number}
use Rattle.bfs_log.specs.Certificates.{StableCheckpoint, checkpoints_in, number_in}
use Rattle.bfs_log.specs.Headers.{header}
use Rattle.bfs_messages.specs.Fits.{FitsOrder}
use Rattle.bfs_messages.specs.Limits.{FitsNewView, FitsPrePrepare, FitsPreparedBatch, FitsSigned, FitsViewChange}
use Rattle.bfs_messages.specs.Messages as model
use Rattle.bfs_messages.specs.Signing.{as_message}
use Rattle.bfs_messages.specs.declared.signed.Signed.{Signed}
use Rattle.bfs_messages.specs.declared.order_messages.OrderMessage.{OrderMessage}
use Rattle.bfs_messages.specs.declared.order_messages.OrderMessage.TheVariants.{PrePrepare, Prepare, Commit, Checkpoint}
use Rattle.bfs_order.specs.Replica.States.{State}
use Rattle.bfs_order.specs.Replica.Views.{as_proposals}
use Rattle.bfs_view_change.specs.Changes.Choice.{Chosen, choice, chosen_for, greatest, last_in, last_number, latest_stable}
use Rattle.bfs_view_change.specs.Changes.Keeping.{changes_for}
use Rattle.bfs_view_change.specs.Changes.Making.{change_of, chosen_proposal, signed_proposal}
use Rattle.bfs_view_change.specs.Changes.ViewChanges.{messages_of}
use Rattle.bfs_node.specs.Changing.{own_new_view}
use Rattle.bfs_node.specs.Nodes.{Node}
use Rattle.bfs_agreement.specs.Histories.{IsIn}
use Rattle.bfs_nodes_agree.proofs.Public.{AllIn, AreKept, IsBounded, Shows, good_for, made_holds, map_in}

abbrev pub AreNumbers : (view number : ℕ) → Type 0
AreNumbers view number = (view ≤ most_number) × (number ≤ most_number)

-- of a PRE-PREPARE or a PREPARE
abbrev pub IsNumbered : Signed OrderMessage → Type 0
IsNumbered m = (header m).tag < 4 → AreNumbers (header m).view (header m).number

-- so it is of each PRE-PREPARE in its certificates
abbrev pub AreLow : model.ViewChange → Type 0
AreLow change = AllIn (λ (c : model.PreparedBatch). number_in c ≤ most_number) change.certificates

abbrev pub IsLow : Signed model.ViewChange → Type 0
IsLow s = AreLow s.message

-- What fits -----------------------------------------------------------------------------------------------------------------

at_place : {A : Type 0} (P : A → Type 0) (xs : List A) → AllByRecursion P xs → AllIn P xs
at_place P [] all x i = absurd i
at_place P (y ∷ ys) all x i = elim i [ inl same ↦ subst P (sym same) all.0 | inr j ↦ at_place P ys all.1 x j ]

pub order_numbered : (m : OrderMessage) (auth : Authenticator) → FitsOrder m → IsNumbered (record { message = m; auth = auth })
order_numbered (PrePrepare proposal) auth fits = λ _. (fits.vote.view, fits.vote.number)
order_numbered (Prepare vote) auth fits = λ _. (fits.view, fits.number)
order_numbered (Commit vote) auth fits = λ small. absurd (omega (arith, small))
order_numbered (Checkpoint checkpoint) auth fits = λ small. absurd (omega (arith, small))

pub change_low : (change : model.ViewChange) → FitsViewChange change → AreLow change
change_low change fits c i = (at_place FitsPreparedBatch change.certificates fits.certificates.1 c i).proposal.0.vote.number

pub new_numbered : (new : model.NewView) → FitsNewView new → AllIn IsNumbered (as_proposals new.proposals)
new_numbered new fits = map_in IsNumbered (as_message PrePrepare) new.proposals (λ p i _.
    let vote = (at_place (FitsSigned FitsPrePrepare) new.proposals fits.proposals.1 p i).0.vote in
    (vote.view, vote.number))

-- CHECKPOINTs are no votes
pub told_numbered : (c : StableCheckpoint) → AllIn IsNumbered (checkpoints_in c)
told_numbered c = map_in IsNumbered (as_message Checkpoint) c.checkpoints (λ x i small. absurd (omega (arith, small)))

pub shows_numbered : (s : State) (keys : Keys) (stable : Option StableCheckpoint) → Shows IsNumbered s keys stable
shows_numbered s keys None = tt
shows_numbered s keys (Some c) = λ _. told_numbered c

-- What is made of a log, and what is chosen -----------------------------------------------------------------------------------

pub made_low : (s : State) (view : ℕ) → AllIn IsNumbered s.log → AreLow (change_of s view)
made_low s view log c i = (made_holds s c i IsNumbered log (as_message PrePrepare c.proposal) (inl refl) (omega arith)).1

greatest_low : (ns : List ℕ) → AllIn (λ n. n ≤ most_number) ns → greatest ns ≤ most_number
greatest_low [] all = omega arith
greatest_low (n ∷ ns) all =
    let here = all n (inl refl) in
    let rest = greatest_low ns (λ x i. all x (inr i)) in
    omega (arith, here, rest)

in_range : (from count n : ℕ) → IsIn n (range_with_len from count) → (from ≤ n) × (n < from + count)
in_range from zero n i = absurd i
in_range from (suc count) n i = elim i [
  | inl same ↦ (omega (arith, same), omega (arith, same))
  | inr j ↦ let got = in_range (from + 1) count n j in (omega (arith, got.0), omega (arith, got.1))
]

chosen_low : (changes : List model.ViewChange) → AllIn AreLow changes → AllIn (λ (c : Chosen). c.number ≤ most_number) (choice changes).chosen
chosen_low changes all =
    let low = latest_stable changes in
    let top = greatest (map last_in changes) in
    let most = greatest_low (map last_in changes) (map_in (λ n. n ≤ most_number) last_in changes (λ change i.
    greatest_low (map number_in change.certificates) (map_in (λ n. n ≤ most_number) number_in change.certificates (all change i)))) in
    map_in (λ (c : Chosen). c.number ≤ most_number) (chosen_for changes) (range_with_len (low + 1) (last_number changes - low)) (λ n i.
    let got = in_range (low + 1) (max low top - low) n i in
    omega (arith, most, got.0, got.1))

-- of its own NEW-VIEW
pub own_numbered : (f : ℕ) (node : Node) → IsBounded node.order → AreKept IsLow f node.changes → AllIn IsNumbered (as_proposals (own_new_view node).proposals)
own_numbered f node bounded kept =
    let asked = node.order.asked in
    let changes = changes_for asked node.changes in
    let low = map_in AreLow (λ (s : Signed model.ViewChange). s.message) changes (λ s i. (good_for IsLow asked 0 node.changes.changes kept.1 s i).1) in
    let view = leb-true asked most_number bounded in
    map_in IsNumbered (as_message PrePrepare) (own_new_view node).proposals
    (map_in (λ (p : Signed model.PrePrepare). IsNumbered (as_message PrePrepare p)) (λ (c : Chosen). signed_proposal node.keys (chosen_proposal node.order.me asked c)) (choice (messages_of changes)).chosen
    (λ c i _. (view, chosen_low (messages_of changes) low c i)))
