-- What is counted is signed once.
use Rattle.std.proofs.Common.{inl, inr, ap, arith}
use Rattle.bfs_messages.specs.Messages.{Request}
use Rattle.bfs_one_server.specs.Counters.{CountedRequestsAreFirst}

pub counted_requests_are_first : CountedRequestsAreFirst
counted_requests_are_first next signed request counted is = (
  λ other i same. let lt = counted other i in absurd (omega (arith, lt, same, is)),
  λ q i. elim i [
    | inl same ↦ let at = ap (λ (x : Request). x.timestamp) same in omega (arith, at, is)
    | inr j ↦ let lt = counted q j in omega (arith, lt)
  ],
)
