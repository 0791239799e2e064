-- What the words of the command line ask for: `replay [--workers N] [--engine runs|levels|serial] [--config FILE] TRACE`.
use Rattle.std.specs.Prelude.{◌≡◌, ◌==◌, ⊤, ℕ, List, [], ◌∷◌, true, Option, Some, None, Result, Ok, Err, bytes_eq, codes, if◌then◌else◌, option_map, pos}
use Rattle.std.specs.Str.Parse.{without_leading_plus}
use Rattle.clap.specs.Words.{App, Row, Rule, Text, Kinds, fault_of, first_of, matches_of, new_app, new_rule, one_of, with_rule}
use Rattle.clap.specs.declared.builder.value_parser.ValueParser.TheVariants as parser
use Rattle.bfs_model.specs.Bytes.Call.{◌>>=◌}
use Rattle.bfs_parallel.specs.declared.engine.Engine.{Engine}
use Rattle.bfs_parallel.specs.declared.engine.Engine.TheVariants as engine
use Rattle.bfs_trace.specs.Words.{number_spelled}
use Rattle.bfs_workers.specs.Workers.{most_workers}
use Rattle.bfs_replay.specs.declared.usage.Options.{Options}
use Rattle.bfs_replay.specs.declared.usage.UsageError.{UsageError}
use Rattle.bfs_replay.specs.declared.usage.UsageError.TheVariants as error

-- The words, as clap sees them -----------------------------------------------------------------------------------------

-- `--workers N`: a number from 1 to 64; 4 where there is none
abbrev pub workers_rule : Rule
workers_rule = record (new_rule (codes "workers")) { long = Some (codes "workers"); defaults = codes "4" ∷ []; parser = Some (parser.Signed (pos 1) (pos most_workers)) }

-- `--engine NAME`; `levels` where there is none
abbrev pub engine_rule : Rule
engine_rule = record (new_rule (codes "engine")) { long = Some (codes "engine"); defaults = codes "levels" ∷ [] }

-- `--config FILE`; none where there is none
abbrev pub config_rule : Rule
config_rule = record (new_rule (codes "config")) { long = Some (codes "config") }

-- the path of the trace, the one word that stands alone
abbrev pub trace_rule : Rule
trace_rule = record (new_rule (codes "trace")) { required = true }

abbrev pub replay_app : App
replay_app = with_rule (with_rule (with_rule (with_rule (new_app (codes "replay")) workers_rule) engine_rule) config_rule) trace_rule

-- What they ask for ----------------------------------------------------------------------------------------------------

-- how many workers execute the requests of a block, by which engine, if by any, the path of the settings, if there are any, and that of
-- the trace
pub record Asked : Type 0 where
  pub workers : ℕ
  pub engine : Option Engine
  pub config : Option Text
  pub trace : Text

-- the number that decimal digits spell, behind a `+` or not, where so many workers there can be
abbrev pub workers_spelled : Text → Option ℕ
workers_spelled text = do
  count ← number_spelled most_workers (without_leading_plus text)
  if count == 0 then None else Some count

abbrev pub workers_among : List Row → Option ℕ
workers_among rows = one_of (codes "workers") rows >>= workers_spelled

-- the engine of that name; `serial` is the executor that has none
abbrev pub engine_named : Text → Option (Option Engine)
engine_named name =
    if bytes_eq name (codes "runs") then Some (Some engine.Runs) else (
    if bytes_eq name (codes "levels") then Some (Some engine.Levels) else (
    if bytes_eq name (codes "serial") then Some None else None))

abbrev pub asked_among : List Row → Option Asked
asked_among rows = do
  workers ← workers_among rows
  engine ← first_of (codes "engine") rows >>= engine_named
  trace ← first_of (codes "trace") rows
  Some (record { workers = workers; engine = engine; config = first_of (codes "config") rows; trace = trace })

abbrev pub unless_faulty : Kinds → Option Asked → Option Asked
unless_faulty [] asked = asked
unless_faulty (kind ∷ kinds) asked = None

-- what the words ask for, the program's name first; None where they are no usage of `replay`
unfoldable pub asked_by : List Text → Option Asked
asked_by words = unless_faulty (fault_of replay_app words) (asked_among (matches_of replay_app words))

-- the options as a record of text
abbrev pub as_asked : Options → Asked
as_asked options = record {
  workers = options.executor.workers;
  engine = options.executor.engine;
  config = option_map (λ path. path.now) options.config;
  trace = options.trace.now;
}

-- the options are those that the words ask for; unspecified where memory ran out
abbrev pub Asks : Result Options UsageError → Option Asked → Type 0
Asks (Ok options) asked = asked ≡ Some (as_asked options)
Asks (Err error.Usage) asked = asked ≡ None
Asks (Err error.Memory) asked = ⊤
