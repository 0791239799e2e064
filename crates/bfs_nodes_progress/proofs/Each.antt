-- Turns of each node, one behind another.
use Rattle.std.proofs.Common.{◌≡◌, ℕ, zero, suc, ◌<◌, ◌≤◌, ◌==◌, Bool, false, cond, List, [], ◌∷◌, ◌++◌, inl, inr, refl, sym, ap, subst, ◌∙◌, arith}
use Rattle.std.proofs.lemmas.Bool.{cases_lt}
use Rattle.bfs_agreement.specs.Histories.{IsIn}
use Rattle.bfs_nodes_agree.specs.Nodes.Premises.{AreAuthentic}
use Rattle.bfs_nodes_agree.specs.Nodes.Replicas.{NodeReplica, NodeReplicas, NodeTurn, after_node_step, after_node_turn, after_node_turns}
use Rattle.bfs_nodes_agree.proofs.Public.{here_after}
use Rattle.bfs_progress.proofs.Public.{differs}
use Rattle.bfs_nodes_progress.specs.Following.{each_takes}
use Rattle.bfs_nodes_progress.proofs.Rounds.{after_join}

pub authentic_both : (faulty : ℕ → Bool) (w : NodeReplicas) (xs ys : List NodeTurn) → AreAuthentic faulty w xs → AreAuthentic faulty (after_node_turns w xs) ys → AreAuthentic faulty w (xs ++ ys)
authentic_both faulty w [] ys a b = b
authentic_both faulty w (x ∷ xs) ys a b = (a.0, authentic_both faulty (after_node_turn w x) xs ys a.1 b)

-- they are a node's
abbrev pub AreOf : (k : ℕ) → List NodeTurn → Type 0
AreOf k turns = (turn : NodeTurn) → IsIn turn turns → turn.who ≡ k

-- so no other one changes
others_stay : (u : NodeReplicas) (k j : ℕ) (xs : List NodeTurn) → AreOf k xs → (j == k) ≡ false → after_node_turns u xs j ≡ u j
others_stay u k j [] own other = refl
others_stay u k j (x ∷ xs) own other =
    let who = own x (inl refl) in
    let first : after_node_turn u x j ≡ u j = ap (λ (b : Bool). cond b (after_node_step (u x.who) x.step) (u j)) (subst (λ (i : ℕ). (j == i) ≡ false) (sym who) other) in
    others_stay (after_node_turn u x) k j xs (λ turn i. own turn (inr i)) other ∙ first

-- and it comes to what it would anywhere
same_there : (u w : NodeReplicas) (k : ℕ) (xs : List NodeTurn) → AreOf k xs → u k ≡ w k → after_node_turns u xs k ≡ after_node_turns w xs k
same_there u w k [] own same = same
same_there u w k (x ∷ xs) own same =
    let who = own x (inl refl) in
    let at = λ (y : NodeReplicas). subst (λ (i : ℕ). after_node_turn y x i ≡ after_node_step (y i) x.step) who (here_after y x) in
    same_there (after_node_turn u x) (after_node_turn w x) k xs (λ turn i. own turn (inr i)) (at u ∙ ap (λ (r : NodeReplica). after_node_step r x.step) same ∙ sym (at w))

module _ (w : NodeReplicas) (turns : ℕ → List NodeTurn) (own : (k : ℕ) → AreOf k (turns k)) where
  each_is : (bound : ℕ) (u : NodeReplicas) → ((k : ℕ) → k < bound → u k ≡ w k)
      → ((k : ℕ) → k < bound → after_node_turns u (each_takes turns bound) k ≡ after_node_turns w (turns k) k) × ((k : ℕ) → bound ≤ k → after_node_turns u (each_takes turns bound) k ≡ u k)
  each_is zero u same = (λ k low. absurd (omega (arith, low)), λ k _. refl)
  each_is (suc b) u same =
      let u1 = after_node_turns u (turns b) in
      let rest = each_is b u1 (λ k low. others_stay u b k (turns b) (own b) (differs k b (λ e. omega (arith, e, low))) ∙ same k (omega (arith, low))) in
      let joined = after_join u (turns b) (each_takes turns b) in
      let at = λ (k : ℕ). ap (λ (x : NodeReplicas). x k) joined in (
        λ k low. elim (cases_lt k b) [
          | inl lt ↦ at k ∙ rest.0 k lt
          | inr le ↦
              let is : b ≡ k = omega (arith, low, le) in
              subst (λ (j : ℕ). after_node_turns u (each_takes turns (suc b)) j ≡ after_node_turns w (turns j) j) is
              (at b ∙ rest.1 b (omega arith) ∙ same_there u w b (turns b) (own b) (same b (omega arith)))
        ],
        λ k le. at k ∙ rest.1 k (omega (arith, le)) ∙ others_stay u b k (turns b) (own b) (differs k b (λ e. omega (arith, e, le))),
      )

  -- each comes to what it does by its own turns
  pub each_once : (bound k : ℕ) → k < bound → after_node_turns w (each_takes turns bound) k ≡ after_node_turns w (turns k) k
  each_once bound k low = (each_is bound w (λ j _. refl)).0 k low

pub each_authentic : (faulty : ℕ → Bool) (turns : ℕ → List NodeTurn) → ((u : NodeReplicas) (k : ℕ) → AreAuthentic faulty u (turns k)) → (bound : ℕ) (u : NodeReplicas) → AreAuthentic faulty u (each_takes turns bound)
each_authentic faulty turns each zero u = tt
each_authentic faulty turns each (suc b) u = authentic_both faulty u (turns b) (each_takes turns b) (each u b) (each_authentic faulty turns each b (after_node_turns u (turns b)))
