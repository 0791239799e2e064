-- The numbers of refusals.
use Rattle.std.specs.Prelude.{ℕ}
use Rattle.bfs_order.specs.declared.error.OrderError.{OrderError}
use Rattle.bfs_order.specs.declared.error.OrderError.TheVariants.{BadAuthenticator, WrongView, OutsideMarks, NotPrimary, Conflicting, AlreadyHave, NoCertificate, Memory}

abbrev pub code_of : OrderError → ℕ
code_of BadAuthenticator = 24
code_of WrongView = 25
code_of OutsideMarks = 26
code_of NotPrimary = 28
code_of Conflicting = 27
code_of AlreadyHave = 29
code_of NoCertificate = 34
code_of Memory = 40
