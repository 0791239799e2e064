-- Each part of a message is read just where it was written.
use Rattle.std.proofs.Common.{◌≡◌, ℕ, ◌^◌, ◌<◌, true, eqb, leb, ltb, List, ◌++◌, refl, sym, ap, arith}
use Rattle.std.proofs.lemmas.Bool.{ltb-true, lt-ltb, leb-true, le-leb, eqb-true}
use Rattle.bfs_model.specs.Bytes.Formats.{Reading}
use Rattle.bfs_model.specs.Bytes.Items.{word, hyper, fixed}
use Rattle.bfs_model.specs.Server.Limits.{most_number, most_replicas, most_reply_bytes, most_request_bytes}
use Rattle.bfs_model.specs.Server.Stored.{IsTime}
use Rattle.bfs_model.proofs.Public.{IsExact, as_exact, fits_exact, hyper_exact, short_exact, then_exact, where_exact, word_exact}
use Rattle.bfs_messages.specs.Batches.{behind_text, checkpoint_text, reply_text, request_text, signed_as, time_text, vote_text}
use Rattle.bfs_messages.specs.Limits.{IsDigest, IsNumber, FitsCheckpoint, FitsReply, FitsRequest, FitsSigned, FitsVote}
use Rattle.bfs_codec.proofs.AuthExact.{auth_exact, digest_exact}
use Rattle.bfs_codec.specs.Parts.{behind_from, checkpoint_from, digest_from, number_from, reply_from, request_from, signed_as_from, tagged_from, time_from, vote_from}

pub number_exact : IsExact hyper IsNumber number_from
number_exact = fits_exact (λ n h. leb-true n most_number h.1) (λ n h. (omega (arith, h), le-leb n most_number h)) (where_exact (λ n. leb n most_number) hyper_exact)

pub time_exact : IsExact time_text IsTime time_from
unfolding time_from
time_exact =
    as_exact _ (then_exact word_exact (where_exact (λ u. ltb u 1000000) word_exact))
    (λ p h. (refl, record { seconds = h.0; useconds = ltb-true p.1 1000000 h.1.1 }))
    (λ t h. ((t.seconds, t.useconds), refl, (h.seconds, (omega (arith, h.useconds), lt-ltb t.useconds 1000000 h.useconds))))

pub request_exact : IsExact request_text FitsRequest request_from
unfolding request_from
request_exact =
    as_exact _ (then_exact (then_exact word_exact hyper_exact) (short_exact most_request_bytes (omega arith)))
    (λ p h. (refl, record { client = h.0.0; timestamp = h.0.1; call = h.1 }))
    (λ r h. (((r.client, r.timestamp), r.call), refl, ((h.client, h.timestamp), h.call)))

pub vote_exact : IsExact vote_text FitsVote vote_from
unfolding vote_from
vote_exact =
    as_exact _ (then_exact (then_exact (then_exact word_exact number_exact) number_exact) digest_exact)
    (λ p h. (refl, record { sender = h.0.0.0; view = h.0.0.1; number = h.0.1; digest = h.1 }))
    (λ v h. ((((v.sender, v.view), v.number), v.digest), refl, (((h.sender, h.view), h.number), h.digest)))

pub checkpoint_exact : IsExact checkpoint_text FitsCheckpoint checkpoint_from
unfolding checkpoint_from
checkpoint_exact =
    as_exact _ (then_exact (then_exact word_exact number_exact) digest_exact)
    (λ p h. (refl, record { sender = h.0.0; number = h.0.1; digest = h.1 }))
    (λ c h. (((c.sender, c.number), c.digest), refl, ((h.sender, h.number), h.digest)))

pub reply_exact : IsExact reply_text FitsReply reply_from
unfolding reply_from
reply_exact =
    as_exact _ (then_exact (then_exact (then_exact (then_exact word_exact number_exact) word_exact) hyper_exact) (short_exact most_reply_bytes (omega arith)))
    (λ p h. (refl, record { sender = h.0.0.0.0; view = h.0.0.0.1; client = h.0.0.1; timestamp = h.0.1; result = h.1 }))
    (λ r h. (((((r.sender, r.view), r.client), r.timestamp), r.result), refl, ((((h.sender, h.view), h.client), h.timestamp), h.result)))

-- Messages within others ---------------------------------------------------------------------------------------------

pub behind_exact : {A : Type 0} {text : A → List ℕ} {Fits : A → Type 0} {from : List ℕ → Reading A} → IsExact text Fits from → IsExact (behind_text text) (FitsSigned Fits) (behind_from from)
behind_exact exact = as_exact _ (then_exact exact auth_exact) (λ p h. (refl, h)) (λ s h. ((s.message, s.auth), refl, h))

pub tagged_as_exact : {A : Type 0} {text : A → List ℕ} {Fits : A → Type 0} {from : List ℕ → Reading A} (tag : ℕ) → tag < 2 ^ 32 → eqb tag tag ≡ true → IsExact text Fits from
    → IsExact (λ x. word tag ++ text x) Fits (tagged_from tag from)
tagged_as_exact {text = text} tag small same exact =
    as_exact _ (then_exact (where_exact (λ t. eqb t tag) word_exact) exact)
    (λ p h. (ap (λ n. word n ++ text p.1) (sym (eqb-true p.0 tag h.0.1)), h.1))
    (λ x h. ((tag, x), refl, ((small, same), h)))

pub signed_as_exact : {A : Type 0} {text : A → List ℕ} {Fits : A → Type 0} {from : List ℕ → Reading A} (tag : ℕ) → tag < 2 ^ 32 → eqb tag tag ≡ true → IsExact text Fits from
    → IsExact (signed_as tag text) (FitsSigned Fits) (signed_as_from tag from)
signed_as_exact tag small same exact = tagged_as_exact tag small same (behind_exact exact)
