-- What ties the text of steps to reading them.
use Rattle.std.specs.Prelude.{◌≡◌, List, Some}
use Rattle.bfs_nodes_agree.specs.Nodes.Steps.{NodeStep}
use Rattle.bfs_steps.specs.Reading.{steps_from}
use Rattle.bfs_steps.specs.Steps.{FitSteps, body_text}

-- a body spells the steps of which it is the text, and no others
abbrev pub BodiesAreRead : Type 0
BodiesAreRead = (steps : List NodeStep) → FitSteps steps → steps_from (body_text steps) ≡ Some steps
