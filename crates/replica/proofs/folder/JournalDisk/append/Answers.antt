use Rattle.std.proofs.Common.{sym, append-nil}
use Rattle.replica.proofs.folder.JournalDisk.append.Goals as goal

-- nothing may have been written
pub returns-clause-crash : goal.returns-clause-crash
returns-clause-crash g c = λ left _. (left, tt, (0, sym (append-nil left)))
