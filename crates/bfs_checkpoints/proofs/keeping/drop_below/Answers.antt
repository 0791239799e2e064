use Rattle.std.proofs.Common.{rules, nat_le}
use Rattle.std.proofs.lemmas.Fn.{filter_same}
use Rattle.bfs_checkpoints.proofs.keeping.drop_below.Goals as goal

pub returns : goal.returns
returns c = filter_same _ (λ one. nat_le c.args.number one.number) _ (λ x b f' k. search rules) _ _ c.retain.ensures.filtered
