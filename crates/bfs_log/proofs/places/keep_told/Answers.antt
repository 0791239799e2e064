use Rattle.std.proofs.Common.{rules}
use Rattle.std.specs.Prelude.{bytes_eq}
use Rattle.std.proofs.lemmas.Fn.{filter_same}
use Rattle.bfs_log.proofs.places.keep_told.Goals as goal

pub returns : goal.returns
returns c = filter_same _ (λ said. bytes_eq said.digest c.args.digest.now) _ (λ x b f' k. search rules) _ _ c.retain.ensures.filtered
