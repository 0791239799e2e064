-- Messages of each kind are read just where they were written.
use Rattle.std.proofs.Common.{◌≡◌, ℕ, ◌^◌, ◌<◌, true, false, eqb, List, [], ◌++◌, refl, sym, ap, subst, ◌∙◌, append-nil, append_assoc, arith}
use Rattle.std.proofs.lemmas.Bool.{eqb-true}
use Rattle.bfs_model.specs.Bytes.Formats.{Reading}
use Rattle.bfs_model.specs.Bytes.Items.{word}
use Rattle.bfs_model.proofs.Public.{IsExact, as_exact, if_exact, none_exact, spelled_exact, tagged_exact}
use Rattle.bfs_messages.specs.Messages as model
use Rattle.bfs_messages.specs.Messages.{Vote}
use Rattle.bfs_messages.specs.declared.signed.Signed.{Signed}
use Rattle.bfs_messages.specs.declared.message.Message.{Message}
use Rattle.bfs_messages.specs.declared.message.Message.TheVariants.{Request, Order, ViewChange, NewView, Reply}
use Rattle.bfs_messages.specs.OrderMessages.{order_tag}
use Rattle.bfs_messages.specs.declared.order_messages.OrderMessage.{OrderMessage}
use Rattle.bfs_messages.specs.declared.order_messages.OrderMessage.TheVariants.{PrePrepare, Prepare, Commit, Checkpoint}
use Rattle.bfs_auth.specs.declared.authenticators.Authenticator.{Authenticator}
use Rattle.bfs_messages.specs.Batches.{auth_text, behind_text}
use Rattle.bfs_messages.specs.Spelling.{tag_of, fields_text, attached_text, signed_text}
use Rattle.bfs_messages.specs.Limits.{FitsSigned, FitsRequest, FitsPrePrepare, FitsVote, FitsCheckpoint, FitsViewChange, FitsNewView, FitsReply}
use Rattle.bfs_messages.specs.Fits.{FitsMessage}
use Rattle.bfs_codec.specs.Parts.{behind_from}
use Rattle.bfs_codec.specs.Reading.{behind_tag_from, message_from, signed_from}
use Rattle.bfs_codec.proofs.PartsExact.{behind_exact, checkpoint_exact, reply_exact, request_exact, vote_exact}
use Rattle.bfs_codec.proofs.BatchesExact.{not_false}
use Rattle.bfs_codec.proofs.ChangesExact.{behind_proposal_exact, new_view_exact, view_change_exact}

abbrev after_tag : Signed Message → List ℕ
after_tag signed = fields_text signed.message ++ auth_text signed.auth ++ attached_text signed.message

abbrev FitsTag : ℕ → Signed Message → Type 0
FitsTag k signed = (tag_of signed.message ≡ k) × FitsSigned FitsMessage signed

-- a kind whose messages end behind their keyed hashes
record IsPlain {A : Type 0} (text : A → List ℕ) (Fits : A → Type 0) (k : ℕ) (to : A → Message) : Type 0 where
  tag : (a : A) → tag_of (to a) ≡ k
  fields : (a : A) → fields_text (to a) ≡ text a
  attached : (a : A) → attached_text (to a) ≡ []
  fits : (a : A) → Fits a → FitsMessage (to a)
  only : (m : Message) → tag_of m ≡ k → FitsMessage m → (a : A) × (m ≡ to a) × Fits a

with_auth : {m n : Message} (auth : Authenticator) → m ≡ n → ◌≡◌ {A = Signed Message} (record { message = m; auth = auth }) (record { message = n; auth = auth })
with_auth {m} {n} auth e = subst (λ (x : Message). ◌≡◌ {A = Signed Message} (record { message = m; auth = auth }) (record { message = x; auth = auth })) e refl

plain_exact : {A : Type 0} {text : A → List ℕ} {Fits : A → Type 0} {from : List ℕ → Reading A} {k : ℕ} {to : A → Message} → IsPlain text Fits k to → IsExact text Fits from
    → IsExact after_tag (FitsTag k) (message_from to (behind_from from))
plain_exact {A} {text} {to = to} plain exact =
    as_exact _ (behind_exact exact)
    (λ s h. (ap (λ fields. fields ++ auth_text s.auth ++ attached_text (to s.message)) (plain.fields s.message) ∙ ap (λ attached. text s.message ++ auth_text s.auth ++ attached) (plain.attached s.message) ∙ append-nil (behind_text text s), (plain.tag s.message, (plain.fits s.message h.0, h.1))))
    (λ s h. let is = plain.only s.message h.0 h.1.0 in (record { message = is.0; auth = s.auth }, with_auth s.auth is.1, (is.2, h.1.1)))

abbrev Only : {A : Type 0} → (Fits : A → Type 0) → (k : ℕ) → (to : A → Message) → Type 0
Only {A} Fits k to = (m : Message) → tag_of m ≡ k → FitsMessage m → (a : A) × (m ≡ to a) × Fits a

order_tags : (m : OrderMessage) → (1 < order_tag m) × (order_tag m < 6)
order_tags (PrePrepare x) = (omega arith, omega arith)
order_tags (Prepare x) = (omega arith, omega arith)
order_tags (Commit x) = (omega arith, omega arith)
order_tags (Checkpoint x) = (omega arith, omega arith)

a_request : Only FitsRequest 1 Request
a_request (Request x) e h = (x, refl, h)
a_request (Order o) e h = absurd (omega (arith, order_tags o, e))
a_request other e h = absurd (omega (arith, e))

a_prepare : Only FitsVote 3 (λ m. Order (Prepare m))
a_prepare (Order (Prepare x)) e h = (x, refl, h)
a_prepare other e h = absurd (omega (arith, e))

a_commit : Only FitsVote 4 (λ m. Order (Commit m))
a_commit (Order (Commit x)) e h = (x, refl, h)
a_commit other e h = absurd (omega (arith, e))

a_checkpoint : Only FitsCheckpoint 5 (λ m. Order (Checkpoint m))
a_checkpoint (Order (Checkpoint x)) e h = (x, refl, h)
a_checkpoint other e h = absurd (omega (arith, e))

a_view_change : Only FitsViewChange 6 ViewChange
a_view_change (ViewChange x) e h = (x, refl, h)
a_view_change (Order o) e h = absurd (omega (arith, order_tags o, e))
a_view_change other e h = absurd (omega (arith, e))

a_new_view : Only FitsNewView 7 NewView
a_new_view (NewView x) e h = (x, refl, h)
a_new_view (Order o) e h = absurd (omega (arith, order_tags o, e))
a_new_view other e h = absurd (omega (arith, e))

a_reply : Only FitsReply 8 Reply
a_reply (Reply x) e h = (x, refl, h)
a_reply (Order o) e h = absurd (omega (arith, order_tags o, e))
a_reply other e h = absurd (omega (arith, e))

proposed : (s : Signed Message) → FitsTag 2 s → (p : Signed model.PrePrepare) × (s ≡ record { message = Order (PrePrepare p.message); auth = p.auth }) × FitsSigned FitsPrePrepare p
proposed s h = go s.message h.0 h.1.0
  where
    go : (m : Message) → tag_of m ≡ 2 → FitsMessage m → (p : Signed model.PrePrepare) × (◌≡◌ {A = Signed Message} (record { message = m; auth = s.auth }) (record { message = Order (PrePrepare p.message); auth = p.auth })) × FitsSigned FitsPrePrepare p
    go (Order (PrePrepare p)) e fits = (record { message = p; auth = s.auth }, refl, (fits, h.1.1))
    go other e fits = absurd (omega (arith, e))

-- One of the eight ---------------------------------------------------------------------------------------------------

abbrev IsOther : ℕ → Type 0
IsOther k = (eqb k 1 ≡ false) × (eqb k 2 ≡ false) × (eqb k 3 ≡ false) × (eqb k 4 ≡ false) × (eqb k 5 ≡ false) × (eqb k 6 ≡ false) × (eqb k 7 ≡ false) × (eqb k 8 ≡ false)

no_other : (m : Message) → IsOther (tag_of m) → ⊥
no_other (Request x) h = not_false h.0
no_other (Order (PrePrepare x)) h = not_false h.1
no_other (Order (Prepare x)) h = not_false h.2
no_other (Order (Commit x)) h = not_false h.3
no_other (Order (Checkpoint x)) h = not_false h.4
no_other (ViewChange x) h = not_false h.5
no_other (NewView x) h = not_false h.6
no_other (Reply x) h = not_false h.7

small_tag : (m : Message) → tag_of m < 2 ^ 32
small_tag (Request x) = omega arith
small_tag (Order (PrePrepare x)) = omega arith
small_tag (Order (Prepare x)) = omega arith
small_tag (Order (Commit x)) = omega arith
small_tag (Order (Checkpoint x)) = omega arith
small_tag (ViewChange x) = omega arith
small_tag (NewView x) = omega arith
small_tag (Reply x) = omega arith

at_tag : (k n : ℕ) (from : List ℕ → Reading (Signed Message)) → IsExact after_tag (FitsTag n) from → eqb k n ≡ true → IsExact after_tag (FitsTag k) from
at_tag k n from exact is = subst (λ (j : ℕ). IsExact after_tag (FitsTag j) from) (sym (eqb-true k n is)) exact

any_tag : (k : ℕ) → IsExact after_tag (FitsTag k) (behind_tag_from k)
unfolding behind_tag_from
any_tag k =
    if_exact (eqb k 1) _ _ (at_tag k 1 _ (plain_exact {to = Request} (record { tag = λ a. refl; fields = λ a. refl; attached = λ a. refl; fits = λ a h. h; only = a_request }) request_exact)) (λ n1.
    if_exact (eqb k 2) _ _ (at_tag k 2 _ (as_exact _ behind_proposal_exact (λ p h. (refl, (refl, h))) proposed)) (λ n2.
    if_exact (eqb k 3) _ _ (at_tag k 3 _ (plain_exact {to = λ m. Order (Prepare m)} (record { tag = λ a. refl; fields = λ a. refl; attached = λ a. refl; fits = λ a h. h; only = a_prepare }) vote_exact)) (λ n3.
    if_exact (eqb k 4) _ _ (at_tag k 4 _ (plain_exact {to = λ m. Order (Commit m)} (record { tag = λ a. refl; fields = λ a. refl; attached = λ a. refl; fits = λ a h. h; only = a_commit }) vote_exact)) (λ n4.
    if_exact (eqb k 5) _ _ (at_tag k 5 _ (plain_exact {to = λ m. Order (Checkpoint m)} (record { tag = λ a. refl; fields = λ a. refl; attached = λ a. refl; fits = λ a h. h; only = a_checkpoint }) checkpoint_exact)) (λ n5.
    if_exact (eqb k 6) _ _ (at_tag k 6 _ (plain_exact {to = ViewChange} (record { tag = λ a. refl; fields = λ a. refl; attached = λ a. refl; fits = λ a h. h; only = a_view_change }) view_change_exact)) (λ n6.
    if_exact (eqb k 7) _ _ (at_tag k 7 _ (plain_exact {to = NewView} (record { tag = λ a. refl; fields = λ a. refl; attached = λ a. refl; fits = λ a h. h; only = a_new_view }) new_view_exact)) (λ n7.
    if_exact (eqb k 8) _ _ (at_tag k 8 _ (plain_exact {to = Reply} (record { tag = λ a. refl; fields = λ a. refl; attached = λ a. refl; fits = λ a h. h; only = a_reply }) reply_exact)) (λ n8.
    none_exact (λ s h. no_other s.message (subst IsOther (sym h.0) (n1, n2, n3, n4, n5, n6, n7, n8)))))))))))

signed_spelled : (s : Signed Message) → signed_text s ≡ word (tag_of s.message) ++ after_tag s
unfolding signed_text
signed_spelled s = simp append_assoc

pub signed_exact : IsExact signed_text (FitsSigned FitsMessage) signed_from
unfolding signed_from
signed_exact = spelled_exact signed_spelled (tagged_exact (λ s. tag_of s.message) (λ s. small_tag s.message) any_tag)
