-- What passes by the keys of the member that gives it passes by those of each: so they hear one another.
use Rattle.std.proofs.Common.{◌≡◌, ℕ, ◌&&◌, Bool, true, List, ◌++◌, inl, inr, sym, subst, ◌∙◌, arith}
use Rattle.std.specs.Prelude.{nat_lt}
use Rattle.std.proofs.lemmas.Bool.{and_from, and_parts}
use Rattle.bfs_auth.specs.Authenticators.{passes as passes_text}
use Rattle.bfs_auth.specs.Keys.{Keys}
use Rattle.bfs_auth.specs.declared.authenticators.Authenticator.{Authenticator}
use Rattle.bfs_auth.specs.declared.principals.Principal.TheVariants.{Replica}
use Rattle.bfs_votes.specs.Votes.{replicas}
use Rattle.bfs_log.specs.Headers.{header}
use Rattle.bfs_messages.specs.Signing.{carried_are_signed, order_is_signed}
use Rattle.bfs_messages.specs.Spelling.{order_body_text}
use Rattle.bfs_messages.specs.declared.order_messages.OrderMessage.{OrderMessage}
use Rattle.bfs_messages.specs.declared.signed.Signed.{Signed}
use Rattle.bfs_order.specs.Laws.Calls.{IsKept}
use Rattle.bfs_order.specs.Laws.Logs.{HasCertificate, HasDistinctSlots}
use Rattle.bfs_view_change.specs.Changes.Making.{change_of}
use Rattle.bfs_agreement.specs.Histories.{IsIn}
use Rattle.bfs_agreement.specs.Moves.{new_world}
use Rattle.bfs_nodes_agree.specs.Nodes.Replicas.{Beginning, Keyring, NodeReplicas, NodeTurn, new_node_replicas}
use Rattle.bfs_nodes_agree.specs.Nodes.Resending.{WhatIsResentIsFair}
use Rattle.bfs_nodes_progress.specs.Following.{AreMembers}
use Rattle.bfs_nodes_progress.specs.Inside.Below.{Below}
use Rattle.bfs_nodes_progress.specs.Rounds.{passes}
use Rattle.bfs_nodes_progress.specs.Runs.{IsARun, order_of, reached}
use Rattle.bfs_nodes_progress.proofs.Public.{Leads, always}
use Rattle.bfs_liveness.specs.LawsOfProgress.{EachRequestIsExecuted, EachStateIsServed, WhatWaitsAtOneIsExecuted}
use Rattle.bfs_liveness.specs.Ways.{AllFits, GivesPass}
use Rattle.bfs_liveness.proofs.Public.{runs_on, same_f, same_keys}
use Rattle.bfs_passing.specs.Alike.{PassAlike}
use Rattle.bfs_passing.specs.Laws.{EachRequestIsExecutedWhereAllSign, EachStateIsServedWhereAllSign, SignedPassesAlike, SignersAreHeard, WhatWaitsAtOneIsExecutedWhereAllSign}
use Rattle.bfs_passing.specs.Own.{OwnPasses}
use Rattle.bfs_passing.specs.Signers.{KnowSigners, ShareKeys}
use Rattle.bfs_passing.proofs.Hashes.{commit_nowhere, hash_passes}
use Rattle.bfs_passing.proofs.Own.{GivesItsOwn, authentic, gives_its_own}
use Rattle.bfs_passing.proofs.Standing.{all_stands}

module _ (law : SignedPassesAlike) (laws : Below) (slots : IsKept HasDistinctSlots) (certificates : IsKept HasCertificate) (f : ℕ) (keys : Keyring) (start : Beginning) (faulty members : ℕ → Bool)
    (know : KnowSigners f keys) (share : ShareKeys keys members) (are : AreMembers f faulty members) (turns : List NodeTurn) (run : IsARun f keys start faulty turns)
    (signs : OwnPasses keys members (reached f keys start turns)) (fits : AllFits members (reached f keys start turns)) where
  abbrev w : NodeReplicas
  w = reached f keys start turns

  led : Leads f faulty (new_node_replicas f keys start) new_world w
  led = always laws f faulty run.others run.few keys start turns run.shared run.authentic

  own : (i : ℕ) → members i ≡ true → GivesItsOwn f (keys i) (w i) i
  own i member =
      let right = led.facts.right i in
      let same = same_keys f keys start turns i in
      let shared = run.shared i in
      gives_its_own f keys members w signs i member (same_f f keys start turns i) right.me same (omega (arith, shared))
      (λ m j. subst (λ (k : Keys). carried_are_signed k m.message ≡ true) same (right.log m j).checked)
      (all_stands laws slots certificates f faulty run.others run.few keys start turns run.shared run.authentic i (are.among i member) (are.correct i member))

  alike : (i j : ℕ) → members i ≡ true → members j ≡ true → PassAlike (keys i) (keys j)
  alike i j is also = law f keys i j know run.shared (are.among i is) (are.among j also)

  -- a COMMIT of its own it has made itself
  commit_passes : (i j : ℕ) (m : Signed OrderMessage) → members i ≡ true → members j ≡ true → IsIn m (order_of w i).log → (header m).sender ≡ i → (header m).tag ≡ 4 → order_is_signed (keys j) m ≡ true
  commit_passes i j m is also there mine four =
      let text = order_body_text m.message in
      let auth = (own i is).commits m there four mine in
      let passing = hash_passes keys i j text (share i j is also) (commit_nowhere m.message four) in
      subst (λ (k : ℕ). passes_text (keys j) (Replica k) text m.auth ≡ true) (sym mine) (subst (λ (a : Authenticator). passes_text (keys j) (Replica i) text a ≡ true) (sym auth) passing)

  votes_pass : (i j : ℕ) (m : Signed OrderMessage) → members i ≡ true → members j ≡ true → IsIn m (order_of w i).log → (header m).sender ≡ i → passes (w j).node m ≡ true
  votes_pass i j m is also there mine =
      let same = alike i j is also in
      let parts = and_parts (nat_lt (header m).sender (replicas f)) (order_is_signed (keys i) m && carried_are_signed (keys i) m.message) ((own i is).votes m there) in
      let signed = and_parts (order_is_signed (keys i) m) (carried_are_signed (keys i) m.message) parts.1 in
      let at_j : order_is_signed (keys j) m ≡ true = elim (same.votes m) [ inl commit ↦ commit_passes i j m is also there mine commit | inr equal ↦ sym equal ∙ signed.0 ] in
      let all : authentic f (keys j) m ≡ true = and_from _ _ parts.0 (and_from _ _ at_j (sym (same.carried m.message) ∙ signed.1)) in
      subst (λ (k : Keys). authentic (order_of w j).f k m ≡ true) (sym (same_keys f keys start turns j)) (subst (λ (g : ℕ). authentic g (keys j) m ≡ true) (sym (same_f f keys start turns j)) all)

  all_pass_at_each : GivesPass f keys members w
  all_pass_at_each = record {
    votes = votes_pass;
    changes = λ i j change is also kept. sym ((alike i j is also).changes change) ∙ (own i is).changes change kept;
    new_views = λ i j new is also kept. sym ((alike i j is also).new_views new) ∙ (own i is).new_views new kept;
    stable = λ i j is also. sym ((alike i j is also).stable (change_of (order_of w i) 0)) ∙ (own i is).stable;
    fits = fits;
  }

pub signers_are_heard : SignedPassesAlike → Below → WhatIsResentIsFair → IsKept HasDistinctSlots → IsKept HasCertificate → SignersAreHeard
signers_are_heard law laws again slots certificates f keys start faulty members turns know share run are fair = record {
  passes = λ way is. all_pass_at_each law laws slots certificates f keys start faulty members know share are (turns ++ way)
      (runs_on laws again f keys start faulty members are.correct turns way run fair.fits is) (fair.own way is) (fair.fits way is);
  batches = fair.batches;
  states = fair.states;
}

-- So what waits is executed -------------------------------------------------------------------------------------------

pub each_state_is_served : SignersAreHeard → EachStateIsServed → EachStateIsServedWhereAllSign
each_state_is_served heard serve f keys start faulty members turns time know share run are fair future is_time =
    serve f keys start faulty members turns time run are (heard f keys start faulty members turns know share run are fair) future is_time

pub each_request_is_executed : SignersAreHeard → EachRequestIsExecuted → EachRequestIsExecutedWhereAllSign
each_request_is_executed heard execute f keys start faulty members turns time know share run are fair future is_time =
    execute f keys start faulty members turns time run are (heard f keys start faulty members turns know share run are fair) future is_time

pub what_waits_at_one_is_executed : SignersAreHeard → WhatWaitsAtOneIsExecuted → WhatWaitsAtOneIsExecutedWhereAllSign
what_waits_at_one_is_executed heard execute f keys start faulty members turns k time know share run are fair future views is_time member =
    execute f keys start faulty members turns k time run are (heard f keys start faulty members turns know share run are fair) future views is_time member
