use Rattle.std.proofs.Common.{◌≡◌, ◌-◌}
use Rattle.bfs_model.specs.Bytes.Formats.{items_from}
use Rattle.bfs_codec.specs.Codes.{behind}
use Rattle.bfs_codec.proofs.reader.MessageReader.skip_parts.Given as goal

-- what is behind those that are left is behind them all
abbrev pub invariant-loop-part : goal.invariant-loop-part
invariant-loop-part g l = behind (items_from g.T.Read.from (l.count - l._part) l.self) ≡ behind (items_from g.T.Read.from l.count l.fn.self)
