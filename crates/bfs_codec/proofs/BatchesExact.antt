-- Batches are read just where they were written.
use Rattle.std.proofs.Common.{◌≡◌, ℕ, ◌^◌, ◌<◌, true, false, cond, eqb, List, [], ◌++◌, Option, Some, None, refl, sym, subst, append-nil, arith}
use Rattle.std.specs.Prelude.{bytes_eq}
use Rattle.std.proofs.lemmas.Bool.{eqb-true}
use Rattle.std.proofs.lemmas.Slice.Eq.{bytes_eq-Decides}
use Rattle.sha2.specs.Sha256.{sha256}
use Rattle.bfs_model.specs.Bytes.Items.{word}
use Rattle.bfs_model.specs.Server.Limits.{most_requests}
use Rattle.bfs_model.specs.Server.Stored.{AreBytes}
use Rattle.bfs_model.proofs.Public.{IsExact, as_exact, fits_exact, if_exact, list_exact, none_exact, some_is, spelled_exact, tagged_exact, then_exact, where_exact}
use Rattle.bfs_messages.specs.Messages.{Requests, Batch}
use Rattle.bfs_messages.specs.Batches.{batch_text, requests_text}
use Rattle.bfs_messages.specs.Limits.{FitsBatch, FitsRequests}
use Rattle.bfs_codec.specs.Parts.{batch_from, batch_of_from, requests_from, some_requests_from}
use Rattle.bfs_codec.proofs.PartsExact.{request_exact, signed_as_exact, time_exact}

requests_exact : IsExact requests_text FitsRequests requests_from
unfolding requests_from
requests_exact =
    as_exact _ (then_exact time_exact (list_exact most_requests (omega arith) (signed_as_exact 1 (omega arith) refl request_exact)))
    (λ p h. (refl, record { time = h.0; requests = h.1 })) (λ r h. ((r.time, r.requests), refl, (h.time, h.requests)))

-- whether there are requests, and what follows
abbrev kind_of : Batch → ℕ
kind_of None = 0
kind_of (Some requests) = 1

abbrev rest_of : Batch → List ℕ
rest_of None = []
rest_of (Some requests) = requests_text requests

abbrev FitsKind : ℕ → Batch → Type 0
FitsKind k batch = (kind_of batch ≡ k) × FitsBatch batch

null_exact : IsExact rest_of (FitsKind 0) (λ bytes. Some (None, bytes))
null_exact = record { again = go; written = λ bytes b rest fits e. subst (λ (p : Batch × List ℕ). (bytes ≡ rest_of p.0 ++ p.1) × FitsKind 0 p.0 × AreBytes p.1) (some_is (None, bytes) (b, rest) e) (refl, (refl, tt), fits) }
  where
    go : (b : Batch) (rest : List ℕ) → FitsKind 0 b → ◌≡◌ {A = Option (Batch × List ℕ)} (Some (None, rest_of b ++ rest)) (Some (b, rest))
    go None rest h = refl
    go (Some r) rest h = absurd (omega (arith, h.0))

some_requests_exact : IsExact rest_of (FitsKind 1) some_requests_from
unfolding some_requests_from
some_requests_exact = as_exact _ requests_exact (λ r h. (refl, (refl, h))) back
  where
    back : (b : Batch) → FitsKind 1 b → (r : Requests) × (b ≡ Some r) × FitsRequests r
    back None h = absurd (omega (arith, h.0))
    back (Some r) h = (r, refl, h.1)

pub not_false : true ≡ false → ⊥
not_false e = absurd cc

no_other : (k : ℕ) → eqb k 0 ≡ false → eqb k 1 ≡ false → (b : Batch) → FitsKind k b → ⊥
no_other k zero one None h = not_false (subst (λ (n : ℕ). eqb n 0 ≡ false) (sym h.0) zero)
no_other k zero one (Some r) h = not_false (subst (λ (n : ℕ). eqb n 1 ≡ false) (sym h.0) one)

small_kind : (b : Batch) → kind_of b < 2 ^ 32
small_kind None = omega arith
small_kind (Some r) = omega arith

any_kind : (k : ℕ) → IsExact rest_of (FitsKind k) (λ bytes. cond (eqb k 0) (Some (None, bytes)) (cond (eqb k 1) (some_requests_from bytes) None))
any_kind k =
    if_exact (eqb k 0) (λ bytes. Some (None, bytes)) (λ bytes. cond (eqb k 1) (some_requests_from bytes) None)
    (λ is. subst (λ (n : ℕ). IsExact rest_of (FitsKind n) (λ bytes. Some (None, bytes))) (sym (eqb-true k 0 is)) null_exact)
    (λ zero. if_exact (eqb k 1) some_requests_from (λ bytes. None)
    (λ is. subst (λ (n : ℕ). IsExact rest_of (FitsKind n) some_requests_from) (sym (eqb-true k 1 is)) some_requests_exact)
    (λ one. none_exact (no_other k zero one)))

batch_spelled : (b : Batch) → batch_text b ≡ word (kind_of b) ++ rest_of b
unfolding batch_text
batch_spelled None = sym (append-nil (word 0))
batch_spelled (Some r) = refl

pub batch_exact : IsExact batch_text FitsBatch batch_from
unfolding batch_from
batch_exact = spelled_exact batch_spelled (tagged_exact kind_of small_kind any_kind)

abbrev pub IsBatchOf : List ℕ → Batch → Type 0
IsBatchOf digest batch = FitsBatch batch × (digest ≡ sha256 (batch_text batch))

pub batch_of_exact : (digest : List ℕ) → IsExact batch_text (IsBatchOf digest) (batch_of_from digest)
batch_of_exact digest = fits_exact
    (λ b h. (h.0, (bytes_eq-Decides digest (sha256 (batch_text b))).0 h.1)) (λ b h. (h.0, (bytes_eq-Decides digest (sha256 (batch_text b))).1 h.1))
    (where_exact (λ b. bytes_eq digest (sha256 (batch_text b))) batch_exact)
