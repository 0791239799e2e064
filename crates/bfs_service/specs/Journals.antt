-- What a replica's process does, with the text of the steps of its node, to be kept over a crash.
use Rattle.std.specs.Prelude.{◌≡◌, ℕ, Bool, true, false, List, [], ◌++◌}
use Rattle.bfs_nodes_agree.specs.Nodes.Steps.{NodeStep}
use Rattle.bfs_nodes_agree.specs.declared.node_calls.performing.NodeCall.{NodeCall}
use Rattle.bfs_nodes_agree.specs.declared.node_calls.performing.NodeCall.TheVariants as code
use Rattle.bfs_steps.specs.Replaying as nodes
use Rattle.bfs_steps.specs.Steps.{FitSteps, body_text}
use Rattle.bfs_service.specs.Acting.{Acting, GoesOn, IsAfter}

pub record Doing : Type 0 where
  pub acting : Acting
  -- the text of its node's steps
  pub body : List ℕ
  -- each of them has one
  pub is_spelled : Bool

-- an adoption has none
abbrev pub has_text : NodeCall → Bool
has_text (code.Adopt text certificate) = false
has_text _ = true

-- it went on by steps whose text was put behind the body
pub record AreSpelled (before after : Doing) : Type 0 where
  pub were : before.is_spelled ≡ true
  pub steps : List NodeStep
  pub fit : FitSteps steps
  pub body_is : after.body ≡ before.body ++ body_text steps
  pub node_is : after.acting.node ≡ nodes.after_steps before.acting.node steps

-- that holds where each step has a text
abbrev pub Journals : Doing → Doing → Type 0
Journals before after = after.is_spelled ≡ true → AreSpelled before after

-- it went on by steps of that sort, and nothing else
pub record Goes (P : NodeStep → Type 0) (before after : Doing) : Type 0 where
  pub goes : GoesOn P before.acting after.acting
  pub journals : Journals before after

-- a call that isn't refused for want of memory
pub record Acts (call : NodeCall) (before after : Doing) : Type 0 where
  pub after_is : IsAfter call before.acting after.acting
  pub journals : Journals before after

-- what was to be told was told
abbrev pub all_told : Doing → Doing
all_told doing = record doing { acting = record { node = doing.acting.node; sent = [] } }

-- the steps before are kept
abbrev pub with_no_steps : Doing → Doing
with_no_steps doing = record doing { body = []; is_spelled = true }
