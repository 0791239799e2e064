-- Command lines that are written out, and what they ask for.
use Rattle.std.proofs.Common.{◌≡◌, ℕ, List, [], ◌∷◌, Option, Some, None, codes, refl}
use Rattle.std.specs.Prelude.{⊤}
use Rattle.clap.specs.Words.{Text}
use Rattle.clap.proofs.OnLiterals.{clap_on_literals}
use Rattle.bfs_parallel.specs.declared.engine.Engine.{Engine}
use Rattle.bfs_parallel.specs.declared.engine.Engine.TheVariants as engine
use Rattle.bfs_trace.specs.Words.{digits_spelled}
use Rattle.bfs_replay.specs.CommandLine.{Asked, asked_by}

-- what computes what words ask for
unfoldable pub asked_on_literals : ⊤
unfolding clap_on_literals asked_by digits_spelled
asked_on_literals = tt

-- the trace `a.trace`, executed so
abbrev pub by : (workers : ℕ) → Option Engine → Option Asked
by workers engine = Some (record { workers = workers; engine = engine; config = None; trace = codes "a.trace" })

-- words behind the program's name
abbrev pub behind_name : List Text → List Text
behind_name words = codes "replay" ∷ words

pub row-trace : asked_by (behind_name (codes "a.trace" ∷ [])) ≡ by 4 (Some engine.Levels)
unfolding asked_on_literals
row-trace = refl

pub row-serial : asked_by (behind_name (codes "--engine" ∷ codes "serial" ∷ codes "a.trace" ∷ [])) ≡ by 4 None
unfolding asked_on_literals
row-serial = refl

pub row-serial_behind : asked_by (behind_name (codes "a.trace" ∷ codes "--engine=serial" ∷ [])) ≡ by 4 None
unfolding asked_on_literals
row-serial_behind = refl

pub row-runs : asked_by (behind_name (codes "--engine" ∷ codes "runs" ∷ codes "a.trace" ∷ [])) ≡ by 4 (Some engine.Runs)
unfolding asked_on_literals
row-runs = refl

pub row-levels : asked_by (behind_name (codes "--engine" ∷ codes "levels" ∷ codes "a.trace" ∷ [])) ≡ by 4 (Some engine.Levels)
unfolding asked_on_literals
row-levels = refl

pub row-most_workers : asked_by (behind_name (codes "--workers" ∷ codes "64" ∷ codes "a.trace" ∷ [])) ≡ by 64 (Some engine.Levels)
unfolding asked_on_literals
row-most_workers = refl

-- a sign, and leading zeros
pub row-plus : asked_by (behind_name (codes "--workers=+007" ∷ codes "a.trace" ∷ [])) ≡ by 7 (Some engine.Levels)
unfolding asked_on_literals
row-plus = refl

pub row-both : asked_by (behind_name (codes "--workers=1" ∷ codes "a.trace" ∷ codes "--engine=serial" ∷ [])) ≡ by 1 None
unfolding asked_on_literals
row-both = refl

-- the trace `a.trace` by the engine that is not named, set up by `a.toml`
abbrev pub configured : Option Asked
configured = Some (record { workers = 4; engine = Some engine.Levels; config = Some (codes "a.toml"); trace = codes "a.trace" })

pub row-configured : asked_by (behind_name (codes "--config" ∷ codes "a.toml" ∷ codes "a.trace" ∷ [])) ≡ configured
unfolding asked_on_literals
row-configured = refl

pub row-configured_behind : asked_by (behind_name (codes "a.trace" ∷ codes "--config=a.toml" ∷ [])) ≡ configured
unfolding asked_on_literals
row-configured_behind = refl

-- Words that are no usage of `replay` ------------------------------------------------------------------------------

pub row-no_worker : asked_by (behind_name (codes "--workers" ∷ codes "0" ∷ codes "a.trace" ∷ [])) ≡ None
unfolding asked_on_literals
row-no_worker = refl

pub row-worker_too_many : asked_by (behind_name (codes "--workers" ∷ codes "65" ∷ codes "a.trace" ∷ [])) ≡ None
unfolding asked_on_literals
row-worker_too_many = refl

pub row-minus : asked_by (behind_name (codes "--workers=-1" ∷ codes "a.trace" ∷ [])) ≡ None
unfolding asked_on_literals
row-minus = refl

pub row-workers_twice : asked_by (behind_name (codes "--workers=2" ∷ codes "--workers=2" ∷ codes "a.trace" ∷ [])) ≡ None
unfolding asked_on_literals
row-workers_twice = refl

pub row-other_engine : asked_by (behind_name (codes "--engine" ∷ codes "level" ∷ codes "a.trace" ∷ [])) ≡ None
unfolding asked_on_literals
row-other_engine = refl

pub row-no_trace : asked_by (behind_name []) ≡ None
unfolding asked_on_literals
row-no_trace = refl

pub row-two_traces : asked_by (behind_name (codes "a.trace" ∷ codes "b.trace" ∷ [])) ≡ None
unfolding asked_on_literals
row-two_traces = refl

pub row-two_configurations : asked_by (behind_name (codes "--config=a.toml" ∷ codes "--config=a.toml" ∷ codes "a.trace" ∷ [])) ≡ None
unfolding asked_on_literals
row-two_configurations = refl

pub row-no_configuration : asked_by (behind_name (codes "a.trace" ∷ codes "--config" ∷ [])) ≡ None
unfolding asked_on_literals
row-no_configuration = refl

pub row-other_option : asked_by (behind_name (codes "--conf" ∷ codes "a.toml" ∷ codes "a.trace" ∷ [])) ≡ None
unfolding asked_on_literals
row-other_option = refl

pub row-help : asked_by (behind_name (codes "--help" ∷ codes "a.trace" ∷ [])) ≡ None
unfolding asked_on_literals
row-help = refl

pub row-version : asked_by (behind_name (codes "--version" ∷ codes "a.trace" ∷ [])) ≡ None
unfolding asked_on_literals
row-version = refl
