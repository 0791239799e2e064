-- What a machine's error is to its filter.
use Rattle.bfs_filter.specs.declared.error.ServeError.{ServeError}
use Rattle.bfs_filter.specs.declared.error.ServeError.TheVariants as errors
use Rattle.bfs_filter.specs.declared.error.TurnError.{TurnError}
use Rattle.bfs_filter.specs.declared.error.TurnError.TheVariants as turn

abbrev pub refusal : TurnError → ServeError
refusal turn.Memory = errors.Memory
refusal (turn.Storage error) = errors.Storage error
refusal turn.Spent = errors.Spent
