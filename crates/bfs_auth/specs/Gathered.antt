-- What several threads made side by side.
use Rattle.std.specs.Prelude.{Option, None, Result, Ok, Err}

-- what one of them gave; nothing where memory ran out
abbrev pub gathered_from : {X E : Type 0} → Result (Option X) E → Option X
gathered_from (Ok given) = given
gathered_from (Err error) = None
