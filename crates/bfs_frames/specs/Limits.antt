-- The most bytes of the payload of a frame of each kind, where nobody has raised them.
use Rattle.std.specs.Prelude.{ℕ, ◌+◌, ◌*◌, ◌^◌}
use Rattle.bfs_model.specs.Server.Limits.{most_replicas, most_reply_bytes, most_request_bytes}
use Rattle.bfs_auth.specs.Signatures.{most_signature_bytes}
use Rattle.bfs_frames.specs.declared.limits.Limits.{Limits}

abbrev pub mebibyte : ℕ
mebibyte = 2 ^ 20

abbrev pub default_limits : Limits
default_limits = record {
  request = 28 + most_request_bytes + most_signature_bytes;
  order = 4 * mebibyte;
  view_change = 64 * mebibyte;
  new_view = 64 * mebibyte;
  reply = 36 + most_reply_bytes + 32 * most_replicas;
  status = 2048;
  ask_state = 2048;
  state = 2 * mebibyte;
  ask_report = 2048;
  report = mebibyte;
  call = 8 + most_request_bytes;
  answer = 8 + most_reply_bytes;
  log = 4096;
}
