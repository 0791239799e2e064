-- Why a replica refuses a message or a call, and the numbers of the refusals.
use Rattle.std.specs.Prelude.{ℕ, ⊤}
use Rattle.bfs_checkpoints.specs.declared.adoption.AdoptError.{AdoptError}
use Rattle.bfs_checkpoints.specs.declared.adoption.AdoptError.TheVariants as adopting
use Rattle.bfs_codec.specs.declared.error.DecodeError.{DecodeError}
use Rattle.bfs_codec.specs.declared.error.DecodeError.TheVariants as decoding
use Rattle.bfs_order.specs.declared.error.OrderError.{OrderError}
use Rattle.bfs_order.specs.declared.error.OrderError.TheVariants as order
use Rattle.bfs_serial.specs.declared.executor.ExecError.{ExecError}
use Rattle.bfs_serial.specs.declared.executor.ExecError.TheVariants as executing
use Rattle.bfs_view_change.specs.declared.error.ViewError.{ViewError}
use Rattle.bfs_view_change.specs.declared.error.ViewError.TheVariants as view
use Rattle.bfs_node.specs.declared.error.NodeError.{NodeError}
use Rattle.bfs_node.specs.declared.error.NodeError.TheVariants as node

-- a refusal of the order, as one of the replica
abbrev pub of_order : OrderError → NodeError
of_order order.BadAuthenticator = node.BadAuthenticator
of_order order.WrongView = node.WrongView
of_order order.OutsideMarks = node.OutsideMarks
of_order order.NotPrimary = node.NotPrimary
of_order order.Conflicting = node.Conflicting
of_order order.AlreadyHave = node.AlreadyHave
of_order order.NoCertificate = node.NoCertificate
of_order order.Memory = node.Memory

abbrev pub of_decoding : DecodeError → NodeError
of_decoding decoding.Malformed = node.Malformed
of_decoding decoding.Memory = node.Memory

abbrev pub of_executing : ExecError → NodeError
of_executing executing.Failed = node.Failed
of_executing executing.Memory = node.Memory

abbrev pub of_adopting : AdoptError → NodeError
of_adopting adopting.Malformed = node.MalformedText
of_adopting adopting.WrongVersion = node.WrongVersion
of_adopting adopting.NotWellFormed = node.NotWellFormed
of_adopting adopting.DigestDiffers = node.DigestDiffers
of_adopting adopting.Memory = node.Memory

abbrev pub of_view : ViewError → NodeError
of_view view.BadAuthenticator = node.BadAuthenticator
of_view view.BadCertificate = node.BadCertificate
of_view view.TooFew = node.TooFew
of_view view.WrongChoice = node.WrongChoice
of_view view.Memory = node.Memory

-- why a text spells no replica to begin with, or that memory ran out
abbrev pub IsTextError : NodeError → Type 0
IsTextError node.MalformedText = ⊤
IsTextError node.WrongVersion = ⊤
IsTextError node.NotWellFormed = ⊤
IsTextError node.Memory = ⊤
IsTextError other = ⊥

abbrev pub code_of : NodeError → ℕ
code_of node.BatchFull = 13
code_of node.MalformedText = 20
code_of node.NotWellFormed = 21
code_of node.WrongVersion = 22
code_of node.Malformed = 23
code_of node.BadAuthenticator = 24
code_of node.WrongView = 25
code_of node.OutsideMarks = 26
code_of node.Conflicting = 27
code_of node.NotPrimary = 28
code_of node.AlreadyHave = 29
code_of node.TooFew = 30
code_of node.BadCertificate = 31
code_of node.WrongChoice = 32
code_of node.NoCertificate = 34
code_of node.DigestDiffers = 35
code_of node.WrongKind = 36
code_of node.Memory = 40
code_of node.Failed = 41
