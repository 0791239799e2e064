-- The parts of a saved replica are read just where they were written.
use Rattle.std.proofs.Common.{◌≡◌, ℕ, ◌<◌, ◌≤◌, ◌^◌, true, eqb, leb, List, length, refl, sym, subst, arith}
use Rattle.std.proofs.lemmas.Bool.{and_from, eqb-true, eq-eqb, le-leb}
use Rattle.std.specs.List.{list_all}
use Rattle.bfs_model.specs.Bytes.Items.{word}
use Rattle.bfs_model.specs.Server.Limits.{most_requests}
use Rattle.bfs_model.specs.Server.Stored.{IsWord}
use Rattle.bfs_model.proofs.Public.{IsExact, as_exact, fits_exact, hyper_exact, then_exact, where_exact, word_exact}
use Rattle.bfs_auth.specs.Keys.{Keys}
use Rattle.bfs_messages.specs.Messages as model
use Rattle.bfs_messages.specs.Signing.{request_is_signed}
use Rattle.bfs_messages.specs.declared.signed.Signed.{Signed}
use Rattle.bfs_codec.specs.Parts.{tag_from}
use Rattle.bfs_codec.proofs.Public.{number_exact}
use Rattle.bfs_order.specs.Replica.Marks.{marks_of}
use Rattle.bfs_pending.specs.Passed.{HavePassed}
use Rattle.bfs_view_change.specs.Changes.Restoring.{are_few}
use Rattle.bfs_saving.specs.Parts.{AreWithin, FitChanges, FitKept, FitRequests, FitsNewView, FitsOrder, changes_from, changes_text, marks_from, marks_text, may_wait, new_view_from, new_view_text, order_from, order_text, requests_from, requests_text}
use Rattle.bfs_saving.proofs.Apart.{log_exact}
use Rattle.bfs_saving.proofs.Carrying.{new_view_exact, request_exact, view_change_exact}
use Rattle.bfs_saving.proofs.Exact.{many_exact, optional_exact}

-- just that word
pub tag_exact : (tag : ℕ) → IsWord tag → IsExact word (λ n. n ≡ tag) (tag_from tag)
tag_exact tag small = fits_exact (λ n h. eqb-true n tag h.1) (λ n e. (subst IsWord (sym e) small, eq-eqb n tag e)) (where_exact (λ n. eqb n tag) word_exact)

marks_exact : (f me : ℕ) → IsWord f → IsWord me → IsExact marks_text (AreWithin f me) (marks_from f me)
unfolding marks_from
marks_exact f me f_small me_small =
    as_exact _
    (then_exact (then_exact (then_exact (then_exact (then_exact (then_exact (then_exact (tag_exact f f_small) (tag_exact me me_small)) number_exact) number_exact) number_exact) number_exact) hyper_exact) hyper_exact)
    (λ p h. (refl, record { f_is = h.0.0.0.0.0.0.0; me_is = h.0.0.0.0.0.0.1; view = h.0.0.0.0.0.1; asked = h.0.0.0.0.1; low = h.0.0.0.1; last = h.0.0.1; min_s = h.0.1; handed = h.1 }))
    (λ m h. ((((((((m.f, m.me), m.view), m.asked), m.low), m.last), m.min_s), m.handed), refl, (((((((h.f_is, h.me_is), h.view), h.asked), h.low), h.last), h.min_s), h.handed)))

pub order_exact : (f me : ℕ) → IsWord f → IsWord me → IsExact order_text (FitsOrder f me) (order_from f me)
unfolding order_from
order_exact f me f_small me_small =
    as_exact _ (then_exact (marks_exact f me f_small me_small) log_exact) (λ p h. (refl, h)) (λ s h. ((marks_of s, s.log), refl, h))

pub requests_exact : (keys : Keys) → IsExact requests_text (FitRequests keys) (requests_from keys)
requests_exact keys = where_exact (may_wait keys) (many_exact request_exact)

pub may_wait_again : (keys : Keys) (requests : List (Signed model.Request)) → length requests ≤ most_requests → HavePassed keys requests → may_wait keys requests ≡ true
may_wait_again keys requests few passed = and_from (leb (length requests) most_requests) (list_all (request_is_signed keys) requests) (le-leb (length requests) most_requests few) passed

pub changes_exact : IsExact changes_text FitChanges changes_from
unfolding changes_from
changes_exact =
    where_exact {Fits = FitKept} (λ kept. are_few kept.changes)
    (as_exact {Fb = FitKept} _ (then_exact (then_exact (many_exact hyper_exact) (many_exact (optional_exact view_change_exact))) (optional_exact view_change_exact))
    (λ p h. (refl, h)) (λ k h. (((k.asked, k.changes), k.own), refl, h)))

pub new_view_written : IsExact new_view_text FitsNewView new_view_from
new_view_written = optional_exact new_view_exact
