-- The low mark rises to a checkpoint, or all stays as it was.
use Rattle.std.proofs.Common.{◌≡◌, ℕ, ◌<◌, true, ltb, Option, Some, None, refl}
use Rattle.std.proofs.lemmas.Bool.{and_parts, cond_both, ltb-true}
use Rattle.bfs_auth.specs.Keys.{Keys}
use Rattle.bfs_log.specs.Certificates.{StableCheckpoint, is_shown}
use Rattle.bfs_log.specs.Logs.{Log}
use Rattle.bfs_order.specs.Replica.Installing.{certified, raised, raises}
use Rattle.bfs_order.specs.Replica.States.{State}

pub raised_either : (P : State → Type 0) (keys : Keys) (s : State) (stable : Option StableCheckpoint)
    → ((c : StableCheckpoint) → stable ≡ Some c → s.low < c.number → is_shown keys s.f c ≡ true → P (record s { low = c.number; log = certified s.log c })) → P s → P (raised keys s stable)
raised_either P keys s None rises stays = stays
raised_either P keys s (Some c) rises stays =
    cond_both (raises keys s c) (record s { low = c.number; log = certified s.log c }) s P
    (λ is. let parts = and_parts (ltb s.low c.number) (is_shown keys s.f c) is in rises c refl (ltb-true s.low c.number parts.0) parts.1) (λ _. stays)

-- but for the low mark and the log all stays
pub raised_same : {A : Type 0} (part : State → A) (keys : Keys) (s : State) (stable : Option StableCheckpoint) → ((low : ℕ) (log : Log) → part (record s { low = low; log = log }) ≡ part s)
    → part (raised keys s stable) ≡ part s
raised_same part keys s stable same = raised_either (λ (u : State). part u ≡ part s) keys s stable (λ c _ _ _. same c.number (certified s.log c)) refl
