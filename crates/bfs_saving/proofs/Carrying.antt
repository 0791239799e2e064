-- Messages are read just where they were written.
use Rattle.std.proofs.Common.{◌≡◌, ℕ, List, ◌++◌, length, Option, Some, None, Result, Ok, Err, refl, ap, subst, ◌∙◌}
use Rattle.std.specs.Option.{option_map}
use Rattle.std.specs.Prelude.{⊤, OnOk}
use Rattle.bfs_model.specs.Bytes.Call.{◌>>=◌}
use Rattle.bfs_model.specs.Server.Stored.{AreBytes, IsDouble}
use Rattle.bfs_model.proofs.Public.{IsExact, chosen, some_is, went_on}
use Rattle.bfs_auth.specs.declared.authenticators.Authenticator.{Authenticator}
use Rattle.bfs_messages.specs.Messages as model
use Rattle.bfs_messages.specs.Signing.{as_message}
use Rattle.bfs_messages.specs.Spelling.{signed_text}
use Rattle.bfs_messages.specs.declared.signed.Signed.{Signed}
use Rattle.bfs_messages.specs.declared.message.Message.{Message}
use Rattle.bfs_messages.specs.declared.message.Message.TheVariants.{Request, Order, ViewChange, NewView, Reply}
use Rattle.bfs_messages.specs.declared.order_messages.OrderMessage.{OrderMessage}
use Rattle.bfs_messages.specs.declared.order_messages.OrderMessage.TheVariants.{PrePrepare, Prepare, Commit, Checkpoint}
use Rattle.bfs_codec.specs.Reading.{message_of}
use Rattle.bfs_codec.proofs.Public.{spelled, text_spells}
use Rattle.bfs_saving.specs.Items.{FitsLong, long_text}
use Rattle.bfs_saving.specs.Messages.{FitsText, checkpoint_of, kind_from, message_from, message_text, new_view_of, order_of, request_of, signed_of, view_change_of}
use Rattle.bfs_saving.proofs.Exact.{bytes_exact, long_again, made_exact}

message_exact : IsExact message_text FitsText message_from
message_exact = record {
  again = λ m rest fits.
      ap (λ o. o >>= λ read. message_of read.0 >>= λ made. Some (made, read.1)) (long_again (signed_text m) rest fits.1)
      ∙ ap (λ o. o >>= λ made. Some (made, rest)) (text_spells m fits.0);
  written = λ bytes m rest fits e.
      went_on bytes_exact _ (m, rest) bytes fits e (λ text r1 e1 f1 b1 n1.
      chosen (message_of text) _ (m, rest) n1 (λ made is n2.
      let h = spelled text (Ok made) f1.1 is in
      subst (λ (p : Signed Message × List ℕ). (bytes ≡ message_text p.0 ++ p.1) × FitsText p.0 × AreBytes p.1) (some_is (made, r1) (m, rest) n2)
      (e1 ∙ ap (λ t. long_text t ++ r1) h.0, (h.1, subst (λ t. IsDouble (length t)) h.0 f1.0), b1)));
}

-- Of one kind --------------------------------------------------------------------------------------------------------

-- the kind has just those messages
record IsKind {A : Type 0} (to : A → Message) (of : Message → Option A) : Type 0 where
  there : (a : A) → of (to a) ≡ Some a
  only : (m : Message) (a : A) → of m ≡ Some a → m ≡ to a

kind_exact : {A : Type 0} {to : A → Message} {of : Message → Option A} → IsKind to of → IsExact (λ (s : Signed A). message_text (as_message to s)) (λ (s : Signed A). FitsText (as_message to s)) (kind_from of)
kind_exact {A} {to} {of} kind = made_exact (signed_of of) (as_message to) there only message_exact
  where
    there : (s : Signed A) → signed_of of (as_message to s) ≡ Some s
    there s = ap (option_map (λ (message : A). record { message = message; auth = s.auth })) (kind.there s.message)

    made : (o : Option A) (auth : Authenticator) (s : Signed A) → option_map {U = Signed A} (λ message. record { message = message; auth = auth }) o ≡ Some s → (o ≡ Some s.message) × (auth ≡ s.auth)
    made None auth s e = absurd cc
    made (Some a) auth s e = let same = some_is (record { message = a; auth = auth }) s e in (ap (λ (x : Signed A). Some x.message) same, ap (λ (x : Signed A). x.auth) same)

    alike : (m n : Message) (auth other : Authenticator) → m ≡ n → auth ≡ other → ◌≡◌ {A = Signed Message} (record { message = m; auth = auth }) (record { message = n; auth = other })
    alike m n auth other e d = rw (e, d)

    only : (m : Signed Message) (s : Signed A) → signed_of of m ≡ Some s → m ≡ as_message to s
    only m s e = let h = made (of m.message) m.auth s e in alike m.message (to s.message) m.auth s.auth (kind.only m.message s.message h.0) h.1

order_only : (m : Message) (a : OrderMessage) → order_of m ≡ Some a → m ≡ Order a
order_only (Order x) a e = ap Order (some_is x a e)
order_only (Request x) a e = absurd cc
order_only (ViewChange x) a e = absurd cc
order_only (NewView x) a e = absurd cc
order_only (Reply x) a e = absurd cc

pub order_exact : IsExact (λ (s : Signed OrderMessage). message_text (as_message Order s)) (λ (s : Signed OrderMessage). FitsText (as_message Order s)) (kind_from order_of)
order_exact = kind_exact (record { there = λ a. refl; only = order_only })

checkpoint_only : (m : Message) (a : model.Checkpoint) → checkpoint_of m ≡ Some a → m ≡ Order (Checkpoint a)
checkpoint_only (Order (Checkpoint x)) a e = ap (λ c. Order (Checkpoint c)) (some_is x a e)
checkpoint_only (Order (PrePrepare x)) a e = absurd cc
checkpoint_only (Order (Prepare x)) a e = absurd cc
checkpoint_only (Order (Commit x)) a e = absurd cc
checkpoint_only (Request x) a e = absurd cc
checkpoint_only (ViewChange x) a e = absurd cc
checkpoint_only (NewView x) a e = absurd cc
checkpoint_only (Reply x) a e = absurd cc

pub checkpoint_exact : IsExact (λ (s : Signed model.Checkpoint). message_text (as_message (λ c. Order (Checkpoint c)) s)) (λ (s : Signed model.Checkpoint). FitsText (as_message (λ c. Order (Checkpoint c)) s)) (kind_from checkpoint_of)
checkpoint_exact = kind_exact (record { there = λ a. refl; only = checkpoint_only })

request_only : (m : Message) (a : model.Request) → request_of m ≡ Some a → m ≡ Request a
request_only (Request x) a e = ap Request (some_is x a e)
request_only (Order x) a e = absurd cc
request_only (ViewChange x) a e = absurd cc
request_only (NewView x) a e = absurd cc
request_only (Reply x) a e = absurd cc

pub request_exact : IsExact (λ (s : Signed model.Request). message_text (as_message Request s)) (λ (s : Signed model.Request). FitsText (as_message Request s)) (kind_from request_of)
request_exact = kind_exact (record { there = λ a. refl; only = request_only })

view_change_only : (m : Message) (a : model.ViewChange) → view_change_of m ≡ Some a → m ≡ ViewChange a
view_change_only (ViewChange x) a e = ap ViewChange (some_is x a e)
view_change_only (Order x) a e = absurd cc
view_change_only (Request x) a e = absurd cc
view_change_only (NewView x) a e = absurd cc
view_change_only (Reply x) a e = absurd cc

pub view_change_exact : IsExact (λ (s : Signed model.ViewChange). message_text (as_message ViewChange s)) (λ (s : Signed model.ViewChange). FitsText (as_message ViewChange s)) (kind_from view_change_of)
view_change_exact = kind_exact (record { there = λ a. refl; only = view_change_only })

new_view_only : (m : Message) (a : model.NewView) → new_view_of m ≡ Some a → m ≡ NewView a
new_view_only (NewView x) a e = ap NewView (some_is x a e)
new_view_only (Order x) a e = absurd cc
new_view_only (Request x) a e = absurd cc
new_view_only (ViewChange x) a e = absurd cc
new_view_only (Reply x) a e = absurd cc

pub new_view_exact : IsExact (λ (s : Signed model.NewView). message_text (as_message NewView s)) (λ (s : Signed model.NewView). FitsText (as_message NewView s)) (kind_from new_view_of)
new_view_exact = kind_exact (record { there = λ a. refl; only = new_view_only })

-- what was written of a message fits
pub text_fits : {E : Type 0} (r : Result ⊤ E) (m : Signed Message) (text bytes : List ℕ) → text ≡ bytes → message_of bytes ≡ Some m → OnOk r (FitsLong text) → OnOk r (FitsText m)
text_fits (Ok x) m text bytes same is long =
    let h = spelled bytes (Ok m) (subst AreBytes same long.1) is in
    (h.1, subst (λ (t : List ℕ). IsDouble (length t)) (same ∙ h.0) long.0)
text_fits (Err e) m text bytes same is long = tt
