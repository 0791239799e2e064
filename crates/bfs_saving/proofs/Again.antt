-- A saved replica is read just where it was written.
use Rattle.std.proofs.Common.{◌≡◌, ℕ, refl, sym, ap, ◌∙◌, arith, List, ◌++◌, length, Option, Some, None}
use Rattle.bfs_model.specs.Bytes.Call.{◌>>=◌}
use Rattle.bfs_model.specs.Bytes.Formats.{whole_from}
use Rattle.bfs_model.specs.Bytes.Items.{word}
use Rattle.bfs_model.specs.Server.Stored.{AreBytes, IsWord}
use Rattle.bfs_model.proofs.Public.{IsExact, as_exact, hyper_exact, some_is, then_exact, whole_again, whole_written}
use Rattle.bfs_auth.specs.Keys.{Keys}
use Rattle.bfs_saving.specs.Saved.{FitsSaved, FitsState, Saved, body_text, magic, parts_from, parts_text, saved_from, saved_of, saved_text, sealed, state_from, state_text, unsealed, version}
use Rattle.bfs_saving.proofs.Exact.{bytes_exact, many_exact}
use Rattle.bfs_saving.proofs.Sealed.{from_body, sealed_again, unsealed_written}
use Rattle.bfs_saving.proofs.Stable.{stable_exact}
use Rattle.bfs_saving.proofs.Whole.{changes_exact, new_view_written, order_exact, requests_exact, tag_exact}

state_exact : IsExact state_text FitsState state_from
unfolding state_from
state_exact = as_exact {Fb = FitsState} _ (then_exact hyper_exact bytes_exact) (λ p h. (refl, h)) (λ s h. ((s.number, s.text), refl, h))

module _ (keys : Keys) (f me : ℕ) (f_small : IsWord f) (me_small : IsWord me) (clients_small : IsWord (length keys.clients)) where
  parts_exact : IsExact parts_text (FitsSaved keys f me) (parts_from keys f me)
  unfolding parts_from
  parts_exact =
      as_exact {Fb = FitsSaved keys f me} _
      (then_exact (then_exact (then_exact (then_exact (order_exact f me f_small me_small) (requests_exact keys)) (then_exact changes_exact new_view_written)) (then_exact (stable_exact f) (many_exact state_exact))) bytes_exact)
      (λ p h. (refl, (refl, h)))
      (λ s h. (((((s.order, s.pending), (s.changes, s.new_view)), (s.stable, s.states)), s.own), ap (λ n. record s { clients = n }) h.0, h.1))

  body_exact : IsExact body_text (FitsSaved keys f me) (saved_from keys f me)
  unfolding saved_from
  body_exact =
      as_exact {Fb = FitsSaved keys f me} _ (then_exact (then_exact (then_exact (tag_exact magic (omega arith)) (tag_exact version (omega arith))) (tag_exact (length keys.clients) clients_small)) parts_exact)
      (λ p h. (
        ap (λ n. word n ++ word version ++ word p.1.clients ++ parts_text p.1) (sym h.0.0.0)
            ∙ ap (λ n. word p.0.0.0 ++ word n ++ word p.1.clients ++ parts_text p.1) (sym h.0.0.1)
            ∙ ap (λ n. word p.0.0.0 ++ word p.0.0.1 ++ word n ++ parts_text p.1) (h.1.0 ∙ sym h.0.1),
        h.1,
      ))
      (λ s h. ((((magic, version), length keys.clients), s), refl, (((refl, refl), refl), h)))

  pub found : (bytes : List ℕ) (s : Saved) → AreBytes bytes → saved_of keys f me bytes ≡ Some s → (bytes ≡ saved_text s) × FitsSaved keys f me s
  unfolding saved_of
  found bytes s fits e =
      let there = from_body (unsealed bytes) (whole_from (saved_from keys f me)) s e in
      let seal = unsealed_written bytes there.0 fits there.1.0 in
      let read = whole_written body_exact there.0 s seal.1 there.1.1 in
      (seal.0 ∙ ap sealed read.0, read.1)

  told : (bytes : List ℕ) (s : Saved) → FitsSaved keys f me s → bytes ≡ saved_text s → saved_of keys f me bytes ≡ Some s
  unfolding saved_of
  told bytes s fits e = ap (saved_of keys f me) e ∙ ap (λ o. o >>= whole_from (saved_from keys f me)) (sealed_again (body_text s)) ∙ whole_again body_exact s fits

  pub only : (bytes : List ℕ) (read s : Saved) → saved_of keys f me bytes ≡ Some read → FitsSaved keys f me s → bytes ≡ saved_text s → read ≡ s
  only bytes read s e fits is = some_is read s (sym e ∙ told bytes s fits is)

  pub never : (bytes : List ℕ) (s : Saved) → saved_of keys f me bytes ≡ None → FitsSaved keys f me s → bytes ≡ saved_text s → ⊥
  never bytes s e fits is = let none = sym e ∙ told bytes s fits is in absurd cc
