-- What a certificate that can be installed shows (OSDI 1999 section 4.3).
use Rattle.std.specs.Prelude.{◌≡◌, ℕ, true}
use Rattle.bfs_auth.specs.Keys.{Keys}
use Rattle.bfs_log.specs.Certificates.{MakesStable, StableCheckpoint, is_shown}

abbrev pub CertificatesMakeStable : Type 0
CertificatesMakeStable = (keys : Keys) (f : ℕ) (c : StableCheckpoint) → is_shown keys f c ≡ true → MakesStable f c
