-- How a document raises the most bytes of a frame of each kind.
use Rattle.std.specs.Prelude.{ℕ, ◌-◌, ◌^◌, ◌≤◌, Ok, Err, option_map}
use Rattle.toml.specs.Data.{Data, table, Members, get_member}
use Rattle.bfs_frames.specs.Frames.{most_of}
use Rattle.bfs_frames.specs.Limits.{default_limits}
use Rattle.bfs_frames.specs.declared.kind.Kind.{Kind}
use Rattle.bfs_frames.specs.declared.kind.Kind.TheVariants as kind
use Rattle.bfs_frames.specs.declared.limits.Limits.{Limits}
use Rattle.bfs_model.specs.Bytes.Items.{◌>>=◌}
use Rattle.bfs_deployment.specs.Keys.{limit_keys, name_of}
use Rattle.bfs_deployment.specs.Tables.{Reading, number_in, refused_or, said_or, unknown_name}
use Rattle.bfs_deployment.specs.declared.error.DeploymentError.TheVariants as error
use Rattle.bfs_deployment.specs.declared.key.Key.TheVariants as key

-- no kind has less than by default
abbrev pub AreRoomy : Limits → Type 0
AreRoomy limits = (frames : Kind) → most_of default_limits frames ≤ most_of limits frames

-- a limit may be raised, as far as the length of a frame goes, which is a word of 32 bits
abbrev pub limit_in : Kind → Members → Reading ℕ
limit_in frames members =
    let least = most_of default_limits frames in
    said_or least (number_in (key.Limit frames) least (2 ^ 32 - 1)) (get_member (name_of (key.Limit frames)) members)

-- whatever other keys there are
abbrev pub limits_said : Members → Reading Limits
limits_said members = do
  request ← limit_in kind.Request members
  order ← limit_in kind.Order members
  view_change ← limit_in kind.ViewChange members
  new_view ← limit_in kind.NewView members
  reply ← limit_in kind.Reply members
  status ← limit_in kind.Status members
  ask_state ← limit_in kind.AskState members
  state ← limit_in kind.State members
  ask_report ← limit_in kind.AskReport members
  report ← limit_in kind.Report members
  call ← limit_in kind.Call members
  answer ← limit_in kind.Answer members
  log ← limit_in kind.Log members
  Ok (record {
    request = request;
    order = order;
    view_change = view_change;
    new_view = new_view;
    reply = reply;
    status = status;
    ask_state = ask_state;
    state = state;
    ask_report = ask_report;
    report = report;
    call = call;
    answer = answer;
    log = log;
  })

abbrev pub limits_in : Data → Reading Limits
limits_in (table members) = refused_or (option_map error.UnknownLimit (unknown_name limit_keys members)) (limits_said members)
limits_in _ = Err (error.WrongType key.Limits)
