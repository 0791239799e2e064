-- Where a premise does not hold, two replicas execute two digests, or two texts of one, or are in two states: by computing.
use Rattle.std.proofs.Common.{inl, refl, arith}
use Rattle.bfs_agreement.specs.Examples.{ExecutesTwoDigests, IsARun, NeedsAuthenticity, NeedsDistinctDigests, NeedsDistinctStates, NeedsFewFaulty}

executes_two : ExecutesTwoDigests
executes_two = ((_, inl refl), (_, inl refl), λ e. absurd cc)

pub needs_few_faulty : NeedsFewFaulty
needs_few_faulty = (
  refl,
  (λ e. absurd cc, (λ e. absurd cc, (λ e. absurd cc, (λ e. absurd cc, (tt, (λ e. absurd cc, (λ e. absurd cc, (λ e. absurd cc, (λ e. absurd cc, (tt, tt)))))))))),
  executes_two,
)

pub needs_authenticity : NeedsAuthenticity
needs_authenticity = (omega arith, executes_two)

pub needs_distinct_digests : IsARun → NeedsDistinctDigests
needs_distinct_digests run = (run, refl, refl, λ e. absurd cc)

pub needs_distinct_states : NeedsDistinctStates
needs_distinct_states = (
  omega arith,
  (tt, (λ _. inl refl, (λ _. inl refl, (λ _. inl refl, (λ _. inl refl, (λ _. inl refl, (λ _. inl refl, (λ _. inl refl, (λ _. inl refl, (tt, ((refl, refl), (tt, (λ _. inl refl, (λ _. inl refl, ((refl, refl), (tt, tt)))))))))))))))),
  omega arith,
  inl refl,
  inl refl,
  λ e. absurd cc,
)
