-- What a replica's folder holds, and which replica that is.
use Rattle.std.specs.Prelude.{◌≡◌, ℕ, List, [], ◌∷◌, ◌++◌, fold, map}
use Rattle.std.specs.List.{AllByRecursion}
use Rattle.bfs_auth.specs.Keys.{Keys}
use Rattle.bfs_node.specs.Nodes.{Node}
use Rattle.bfs_node.specs.Saving.{IsOf, IsSavable, text_of}
use Rattle.bfs_nodes_agree.specs.Nodes.Steps.{NodeStep}
use Rattle.bfs_steps.specs.Replaying.{after_steps}
use Rattle.bfs_steps.specs.Steps.{FitSteps, body_text}

pub record Held : Type 0 where
  -- the text of a saved replica
  pub text : List ℕ
  -- the bodies of the journal's records, in their order
  pub bodies : List (List ℕ)

-- that text alone
abbrev pub saved_as : List ℕ → Held
saved_as text = record { text = text; bodies = [] }

-- one record more
abbrev pub with_body : Held → List ℕ → Held
with_body held body = record held { bodies = held.bodies ++ body ∷ [] }

-- one turn's steps after another
abbrev pub after_turns : Node → List (List NodeStep) → Node
after_turns node turns = fold after_steps node turns

-- a replica with these keys was saved, and took these turns since: then it is that one
pub record IsHeld (keys : Keys) (held : Held) (node : Node) : Type 0 where
  pub saved : Node
  pub savable : IsSavable saved
  pub holder : IsOf keys saved
  pub text_is : held.text ≡ text_of saved
  pub turns : List (List NodeStep)
  pub each : AllByRecursion FitSteps turns
  pub bodies_are : held.bodies ≡ map body_text turns
  pub node_is : node ≡ after_turns saved turns

-- steps that are due to be kept are those that it took since it was held, as one body
pub record AreDue (settled : Node) (due : List ℕ) (node : Node) : Type 0 where
  pub steps : List NodeStep
  pub fit : FitSteps steps
  pub due_is : due ≡ body_text steps
  pub node_is : node ≡ after_steps settled steps
