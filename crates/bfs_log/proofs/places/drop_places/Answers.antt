use Rattle.std.proofs.Common.{rules}
use Rattle.std.proofs.lemmas.Map.Made.{filter_same_pairs}
use Rattle.bfs_log.specs.Places.{is_above}
use Rattle.bfs_log.proofs.Maps.{row_filtered}
use Rattle.bfs_log.proofs.places.drop_places.Goals as goal

pub returns : goal.returns
returns c = row_filtered c.args.number c.args.places.now c.retain.new.self (filter_same_pairs _ (λ e. is_above c.args.number e.0) _ (λ k v b w f' t. search rules) _ _ c.retain.ensures.filtered)
