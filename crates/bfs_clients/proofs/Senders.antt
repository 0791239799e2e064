-- One reply of each replica.
use Rattle.std.proofs.Common.{◌≡◌, ◌∙◌, ℕ, ◌<◌, ◌≤◌, ◌||◌, Bool, true, false, eqb, List, [], ◌∷◌, ◌++◌, length, refl, sym, ap, subst}
use Rattle.std.specs.Cmp.{nat_eq_equiv}
use Rattle.std.specs.List.{All, IsDistinct, list_any}
use Rattle.std.proofs.lemmas.Bool.{eqb-true}
use Rattle.std.proofs.lemmas.List.{length-map}
use Rattle.std.proofs.lemmas.List.Elements.{All-head, All-nil, All-push, All-tail}
use Rattle.std.proofs.lemmas.Map.Keys.{IsDistinct-push}
use Rattle.std.proofs.lemmas.Map.Steps.{length-le_from_distinct_below}
use Rattle.bfs_model.specs.Server.Limits.{most_replicas}
use Rattle.bfs_clients.specs.Tallies.{Counted, AreOfReplicas, has_counted, senders}

abbrev IsOfReplica : Counted → Type 0
IsOfReplica one = one.sender < most_replicas

pub none_yet : (counted : List Counted) → counted ≡ [] → AreOfReplicas counted
unfolding IsDistinct
none_yet counted none = subst AreOfReplicas (sym none) (record { differ = tt; replicas = All-nil IsOfReplica })

among_senders : (counted : List Counted) (sender : ℕ) → list_any (eqb sender) (senders counted) ≡ has_counted counted sender
among_senders [] sender = refl
among_senders (one ∷ counted) sender = ap (λ more. eqb sender one.sender || more) (among_senders counted sender)

senders_push : (counted : List Counted) (one : Counted) → senders (counted ++ one ∷ []) ≡ senders counted ++ one.sender ∷ []
senders_push [] one = refl
senders_push (first ∷ counted) one = ap (λ more. first.sender ∷ more) (senders_push counted one)

pub one_more : (counted : List Counted) (one : Counted) → AreOfReplicas counted → has_counted counted one.sender ≡ false → one.sender < most_replicas → AreOfReplicas (counted ++ one ∷ [])
one_more counted one kept first known = record {
  differ = subst (IsDistinct eqb) (sym (senders_push counted one)) (IsDistinct-push nat_eq_equiv (senders counted) one.sender kept.differ (among_senders counted one.sender ∙ first));
  replicas = All-push IsOfReplica counted one kept.replicas known;
}

is_known : (counted : List Counted) (sender : ℕ) → All IsOfReplica counted → has_counted counted sender ≡ true → sender < most_replicas
is_known [] sender all among = absurd cc
is_known (one ∷ counted) sender all among = go (eqb sender one.sender) refl among (is_known counted sender (All-tail IsOfReplica one counted all))
  where
    go : (here : Bool) → eqb sender one.sender ≡ here → (here || has_counted counted sender) ≡ true → (has_counted counted sender ≡ true → sender < most_replicas) → sender < most_replicas
    go true is among later = subst (λ n. n < most_replicas) (sym (eqb-true sender one.sender is)) (All-head IsOfReplica one counted all)
    go false is among later = later among

pub at_most : (counted : List Counted) → AreOfReplicas counted → length counted ≤ most_replicas
at_most counted kept =
    let few = length-le_from_distinct_below (senders counted) most_replicas kept.differ (λ sender among. is_known counted sender kept.replicas (sym (among_senders counted sender) ∙ among)) in
    subst (λ n. n ≤ most_replicas) (length-map counted (λ (one : Counted). one.sender)) few
