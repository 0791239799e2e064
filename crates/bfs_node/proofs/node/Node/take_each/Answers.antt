use Rattle.std.proofs.Common.{◌∙◌, ap}
use Rattle.std.specs.List.{list_all}
use Rattle.std.proofs.lemmas.List.Folds.{list_all-map}
use Rattle.bfs_messages.specs.Signing.{is_signed}
use Rattle.bfs_node.proofs.node.Node.take_each.Goals as goal

pub returns-clause-all : goal.returns-clause-all
returns-clause-all g c =
    rw (← c.self.view_is) (c.are_all_true.ensures ∙ ap (list_all (λ answer. answer)) (c.deref.ensures.value ∙ c.in_ok-passes.ensures) ∙ list_all-map (λ answer. answer) (is_signed c.self.inside.keys) c.args.messages.now)
