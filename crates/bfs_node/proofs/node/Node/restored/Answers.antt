-- What was saved of a replica is read, and its states.
use Rattle.std.proofs.Common.{◌∙◌, ap}
use Rattle.bfs_auth.specs.Principals.{number_of}
use Rattle.bfs_node.specs.Saving.{saved}
use Rattle.bfs_node.proofs.SavedStates.{fits_as, told_memory}
use Rattle.bfs_node.proofs.node.Node.restored.Goals as goal

pub returns-in-Ok-of_saved-clause-only : goal.returns-in-Ok-of_saved-clause-only
returns-in-Ok-of_saved-clause-only g c = λ node savable of is.
    let fits = fits_as c.args.keys node c.faults_of-f.result c.number-me.result savable of c.faults_of-f.ensures.value (c.number-me.ensures ∙ ap number_of c.me.ensures) in
    c.in-Ok-of_saved.ensures.only node savable of (c.in-Ok.ensures.only (saved node) fits is)

pub returns-in-Err-of_saved-clause-only : goal.returns-in-Err-of_saved-clause-only
returns-in-Err-of_saved-clause-only g c = λ node savable of is.
    let fits = fits_as c.args.keys node c.faults_of-f.result c.number-me.result savable of c.faults_of-f.ensures.value (c.number-me.ensures ∙ ap number_of c.me.ensures) in
    told_memory c.in-Err-of_saved.error c.refusal.result c.why_refused.result c.why_refused.ensures (c.in-Err-of_saved.ensures.only node savable of (c.in-Ok.ensures.only (saved node) fits is))

pub returns-in-Err-clause-only : goal.returns-in-Err-clause-only
returns-in-Err-clause-only g c = λ node savable of is.
    let fits = fits_as c.args.keys node c.faults_of-f.result c.number-me.result savable of c.faults_of-f.ensures.value (c.number-me.ensures ∙ ap number_of c.me.ensures) in
    c.in-Err.ensures.only (saved node) fits is
