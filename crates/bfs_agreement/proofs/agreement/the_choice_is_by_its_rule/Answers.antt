use Rattle.bfs_agreement.proofs.Choice.{choice_is_by_its_rule}
use Rattle.bfs_agreement.proofs.agreement.the_choice_is_by_its_rule.Goals as goal

pub returns : goal.returns
returns c = choice_is_by_its_rule
