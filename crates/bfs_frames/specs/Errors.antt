-- What an error of the input is to a turn.
use Rattle.bfs_frames.specs.declared.error.InputError.{InputError}
use Rattle.bfs_frames.specs.declared.error.InputError.TheVariants as input
use Rattle.bfs_frames.specs.declared.error.ReadError.{ReadError}
use Rattle.bfs_frames.specs.declared.error.ReadError.TheVariants as errors

abbrev pub read_error : InputError → ReadError
read_error input.Cut = errors.Cut
read_error input.Memory = errors.Memory
read_error (input.Failed error) = errors.Input error
