-- What a replica does at its turn.
use Rattle.std.proofs.Common.{◌≡◌, ◌∙◌, Bool, ◌&&◌, List, [], ◌∷◌, Option, Some, None, true, false, refl, sym, ap, ap₂, subst}
use Rattle.std.specs.Option.{option_map}
use Rattle.bfs_node.specs.Advancing.{Acts as NodeActs, advancing, next_of, unless_refused, with_due_checkpoint}
use Rattle.bfs_node.specs.Executing.{execution, is_next, is_ready}
use Rattle.bfs_node.specs.Nodes.{Messages, Node, Outcome}
use Rattle.bfs_node.specs.declared.error.NodeError.{NodeError}
use Rattle.bfs_cluster.specs.Inside.Acts.{Acts, doing}
use Rattle.bfs_cluster.specs.Inside.Aside.{Ran}
use Rattle.bfs_cluster.specs.Steps.{has_ready}
use Rattle.bfs_cluster.specs.World.{Replica}

-- what one that is heard does
pub if_heard : (act : Node → Option Outcome) (old : Replica) → old.heard ≡ true → doing act old ≡ act old.node
if_heard act old heard =
    ap (λ (h : Bool). doing act (record { heard = h; node = old.node })) heard

-- what its node does
pub node_did : (act : Node → Option Outcome) (old new : Replica) (sent : Option Messages) → old.heard ≡ true → new.heard ≡ old.heard → NodeActs (act old.node) old.node new.node sent
    → Acts (doing act old) old new sent
node_did act old new sent heard same did = subst (λ (done : Option Outcome). Acts done old new sent) (sym (if_heard act old heard)) (go (act old.node) did)
  where
    go : (done : Option Outcome) → NodeActs done old.node new.node sent → Acts done old new sent
    go None did = (ap₂ (λ (h : Bool) (n : Node). record { heard = h; node = n }) same did.0, did.1)
    go (Some done) did = (ap₂ (λ (h : Bool) (n : Node). record { heard = h; node = n }) (same ∙ heard) did.0, did.1)

-- Calls that are refused or done -------------------------------------------------------------------------------------------

-- it did that
pub did : (refusal : Node → Option NodeError) (done : Node → Outcome) (old new : Replica) (sent : Messages) → old.heard ≡ true → refusal old.node ≡ None
    → new.heard ≡ old.heard → new.node ≡ (done old.node).now → sent ≡ (done old.node).sent
    → Acts (doing (λ node. unless_refused (refusal node) (Some (done node))) old) old new (Some sent)
did refusal done old new sent heard none same now said =
    node_did (λ node. unless_refused (refusal node) (Some (done node))) old new (Some sent) heard same
    (subst (λ (r : Option NodeError). NodeActs (unless_refused r (Some (done old.node))) old.node new.node (Some sent)) (sym none) (now, ap (λ (log : Messages). Some log) said))

-- Whether a batch is next ---------------------------------------------------------------------------------------------------

pub ready_heard : (old : Replica) → has_ready old ≡ true → old.heard ≡ true
ready_heard old ready = go old.heard refl
  where
    go : (heard : Bool) → old.heard ≡ heard → heard ≡ true
    go true e = refl
    go false e = absurd (let never : false ≡ true = subst (λ (h : Bool). (h && is_ready old.node) ≡ true) e ready in cc)

nothing_ready : (old : Replica) → has_ready old ≡ false → doing advancing old ≡ None
nothing_ready old none = go old.heard refl
  where
    next : (ran : Option (Option Outcome)) → is_next ran ≡ false → option_map with_due_checkpoint (next_of ran) ≡ None
    next None is = refl
    next (Some None) is = refl
    next (Some (Some outcome)) is = absurd (let never : true ≡ false = is in cc)

    go : (heard : Bool) → old.heard ≡ heard → doing advancing old ≡ None
    go true e = if_heard advancing old e ∙ next (execution old.node) (subst (λ (h : Bool). (h && is_ready old.node) ≡ false) e none)
    go false e = ap (λ (h : Bool). doing advancing (record { heard = h; node = old.node })) e

-- where something is sent, one was
pub was_ready : (old new : Replica) (sent : Messages) → Acts (doing advancing old) old new (Some sent) → has_ready old ≡ true
was_ready old new sent did = go (has_ready old) refl
  where
    go : (ready : Bool) → has_ready old ≡ ready → ready ≡ true
    go true e = refl
    go false e =
        let never : Some sent ≡ None = (subst (λ (done : Option Outcome). Acts done old new (Some sent)) (nothing_ready old e) did).1 in
        absurd (cc)

pub first_ready : (Executes : Node → Type 0) (all : List Messages) (old now : Replica) → Ran Executes all old now → has_ready now ≡ true → has_ready old ≡ true
first_ready Executes [] old now so_far ready = subst (λ (r : Replica). has_ready r ≡ true) so_far ready
first_ready Executes (first ∷ rest) old now so_far ready = was_ready old so_far.0 first so_far.1
