-- One argument after another, each of which has its rule.
use Rattle.std.proofs.Common.{◌≡◌, ◌∙◌, ap₂, rules}
use Rattle.clap.specs.Words.{rule_of, with_rule}
use Rattle.bfs_replay.specs.CommandLine.{trace_rule}
use Rattle.bfs_replay.proofs.command_line.command.Goals as goal

pub returns : goal.returns
returns c =
    let trace_is : rule_of c.required-trace.result ≡ trace_rule = search rules in
    record {
      app = c.in_ok-command.ensures.shape (search rules)
          ∙ ap₂ with_rule (c.in_ok-arg-3.ensures.shape (search rules)
          ∙ ap₂ with_rule (c.in_ok-arg-2.ensures.shape (search rules)
          ∙ ap₂ with_rule (c.in_ok-arg.ensures.shape (search rules) ∙ ap₂ with_rule c.new-2.ensures.app c.workers_argument-workers.ensures.rule) c.engine_argument-engine.ensures.rule) c.config_argument-config.ensures.rule) trace_is;
    }
