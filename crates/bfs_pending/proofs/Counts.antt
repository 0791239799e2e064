-- How many of a client are in a list.
use Rattle.std.proofs.Common.{◌≡◌, ℕ, ◌+◌, cond, List, [], ◌∷◌, ◌++◌, arith}
use Rattle.std.specs.Prelude.{◌==◌}
use Rattle.std.proofs.lemmas.List.Sums.{sum_by-append, sum_by-cons}
use Rattle.bfs_messages.specs.Messages.{Request}
use Rattle.bfs_messages.specs.declared.signed.Signed.{Signed}
use Rattle.bfs_pending.specs.Requests.{count_of}

-- behind one more
pub counted_behind : (client : ℕ) (waiting : List (Signed Request)) (one : Signed Request) → count_of client (waiting ++ one ∷ []) ≡ count_of client waiting + cond (one.message.client == client) 1 0
counted_behind client waiting one =
    let each = λ (x : Signed Request). cond (x.message.client == client) 1 0 in
    let both = sum_by-append each waiting (one ∷ []) in
    let last = sum_by-cons each one [] in
    omega (arith, both, last)
