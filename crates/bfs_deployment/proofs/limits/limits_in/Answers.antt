use Rattle.std.proofs.Common.{◌≡◌, rules}
use Rattle.toml.specs.View.{view}
use Rattle.bfs_deployment.specs.Limits.{limits_in}
use Rattle.bfs_deployment.proofs.Given.{gives_same}
use Rattle.bfs_deployment.proofs.limits.limits_in.Goals as goal

pub returns-in-None-clause-value : goal.returns-in-None-clause-value
returns-in-None-clause-value c =
    let said : limits_in (view c.args.value.now) ≡ c.limits_said.result = search rules in
    rw said (gives_same c.limits_said.result)
