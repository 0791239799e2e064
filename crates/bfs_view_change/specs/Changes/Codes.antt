-- The numbers of refusals.
use Rattle.std.specs.Prelude.{ℕ}
use Rattle.bfs_view_change.specs.declared.error.ViewError.{ViewError}
use Rattle.bfs_view_change.specs.declared.error.ViewError.TheVariants.{BadAuthenticator, BadCertificate, TooFew, WrongChoice, Memory}

abbrev pub code_of : ViewError → ℕ
code_of BadAuthenticator = 24
code_of BadCertificate = 31
code_of TooFew = 30
code_of WrongChoice = 32
code_of Memory = 40
