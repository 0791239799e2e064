-- What users read from one server.
use Rattle.std.proofs.Common.{◌∙◌, ℕ, Bool, cond, List, [], ◌∷◌, ◌++◌, inl, inr, refl, sym, ap, subst}
use Rattle.std.specs.Prelude.{◌==◌}
use Rattle.std.proofs.lemmas.Bool.{cond_both, eq-eqb}
use Rattle.bfs_messages.specs.Messages.{Request}
use Rattle.bfs_messages.specs.declared.signed.Signed.{Signed}
use Rattle.bfs_messages.specs.declared.message.Message.{Message}
use Rattle.bfs_agreement.specs.Histories.{IsIn}
use Rattle.bfs_one_server.specs.Laws.{ClientsSeeOneServer, HasAccepted, client_after, history}
use Rattle.bfs_one_server.specs.Reading.{ReadersSeeWrites}
use Rattle.bfs_one_server.specs.Serving.{Serves}
use Rattle.bfs_one_server.specs.Users.{AcceptedWritesAreRead, IsBehind, RequestsTakeEffectOnce, StandBehind}
use Rattle.bfs_one_server.specs.Worlds.{Act, Steps, Signs, Hears, Client, Deployment, World, after_act, after_acts, new_world, with_heard, with_signed}
use Rattle.bfs_one_server.proofs.Growing.{acts_append, signed_on}
use Rattle.bfs_one_server.proofs.Serving.{same_effect}

-- what has come to a client
heard_on : (w : World) (act : Act) (c : ℕ) (m : Signed Message) → IsIn m (w.clients c).heard → IsIn m ((after_act w act).clients c).heard
heard_on w (Steps turn) c m i = i
heard_on w (Signs new) c m i = cond_both (c == new.client) (with_signed (w.clients c) new) (w.clients c) (λ (it : Client). IsIn m it.heard) (λ _. i) (λ _. i)
heard_on w (Hears client message) c m i = cond_both (c == client) (with_heard (w.clients c) message) (w.clients c) (λ (it : Client). IsIn m it.heard) (λ _. inr i) (λ _. i)

record KeepsTo (one other : Client) : Type 0 where
  signed : (q : Request) → IsIn q one.signed → IsIn q other.signed
  heard : (m : Signed Message) → IsIn m one.heard → IsIn m other.heard

keeps_acts : (acts : List Act) (w : World) (c : ℕ) → KeepsTo (w.clients c) ((after_acts w acts).clients c)
keeps_acts [] w c = record { signed = λ q i. i; heard = λ m i. i }
keeps_acts (act ∷ acts) w c =
    let more = keeps_acts acts (after_act w act) c in
    record { signed = λ q i. more.signed q (signed_on w act c q i); heard = λ m i. more.heard m (heard_on w act c m i) }

keeps_then : (d : Deployment) (one other : List Act) (c : ℕ) → KeepsTo (client_after d one c) (client_after d (one ++ other) c)
keeps_then d one other c = subst (λ (v : World). KeepsTo (client_after d one c) (v.clients c)) (sym (acts_append one other (new_world d))) (keeps_acts other (after_acts (new_world d) one) c)

accepted_then : (d : Deployment) (one other : List Act) (c t : ℕ) (r : List ℕ) → HasAccepted d one c t r → HasAccepted d (one ++ other) c t r
accepted_then d one other c t r has = record { counted = has.counted; came = λ m i. (keeps_then d one other c).heard m (has.came m i); agreed = has.agreed }

-- what is signed at an act
signed_then : (d : Deployment) (before after : List Act) (request : Request) → IsIn request (client_after d (before ++ Signs request ∷ after) request.client).signed
signed_then d before after request =
    let w = after_acts (new_world d) before in
    let next = after_act w (Signs request) in
    let here : IsIn request (next.clients request.client).signed = subst (λ (it : Client). IsIn request it.signed)
    (sym (ap (λ (b : Bool). cond b (with_signed (w.clients request.client) request) (w.clients request.client)) (eq-eqb request.client request.client refl))) (inl refl) in
    subst (λ (v : World). IsIn request (v.clients request.client).signed) (sym (acts_append before (Signs request ∷ after) (new_world d))) ((keeps_acts after next request.client).signed request here)

stand_behind : ClientsSeeOneServer → (d : Deployment) (before after : List Act) (earlier later : Request) (told gave : List ℕ) → IsBehind d before after earlier later told gave
    → (stand : StandBehind d (before ++ Signs later ∷ after) earlier later told gave) × Serves d.files.tree d.files.next_ordinal (history d stand.batches)
stand_behind law d before after earlier later told gave is =
    let acts : List Act = before ++ Signs later ∷ after in
    let got = law d acts is.run in
    let see = got.3 in
    let c = earlier.client in
    let first = see.accepted c earlier.timestamp told is.honest (accepted_then d before (Signs later ∷ after) c earlier.timestamp told is.accepted) in
    let second = see.accepted later.client later.timestamp gave is.honest_later is.accepted_later in
    let later_is = second.3 later (signed_then d before after later) refl in
    let places = see.order before after later c earlier.timestamp told refl is.honest is.honest_later is.accepted first.0 second.0 first.1 second.1 first.2 later_is in (
      record {
        batches = got.0;
        are = got.1;
        front = places.0;
        one = first.0;
        between = places.1;
        other = second.0;
        back = places.2;
        places = places.3;
        one_is = first.3 earlier ((keeps_then d before (Signs later ∷ after) c).signed earlier is.signed) refl;
        one_told = first.2.reply_is;
        other_is = later_is;
        other_gave = second.2.reply_is;
      },
      see.serves,
    )

pub accepted_writes_are_read : ClientsSeeOneServer → ReadersSeeWrites → AcceptedWritesAreRead
accepted_writes_are_read law reads d before after earlier later told gave whole is =
    let got = stand_behind law d before after earlier later told gave is in
    let stand = got.0 in
    record {
      stand = stand;
      gives = λ one other id offset written spells done none spells_later done_later.
          let read = reads d.files stand.front stand.one stand.between stand.other stand.back one other id offset written whole
          (subst (Serves d.files.tree d.files.next_ordinal) stand.places got.1) spells done none spells_later done_later in
          (read.0, sym stand.other_gave ∙ read.1);
    }

pub requests_take_effect_once : ClientsSeeOneServer → RequestsTakeEffectOnce
requests_take_effect_once law d acts c t r run honest accepted =
    let got = law d acts run in
    let see = got.3 in
    let it = see.accepted c t r honest accepted in
    record {
      batches = got.0;
      are = got.1;
      effect = it.0;
      there = it.1;
      is = it.2;
      one = λ other i client timestamp. same_effect (history d got.0) other it.0 see.once i it.1 (client ∙ sym it.2.client_is) (timestamp ∙ sym it.2.timestamp_is);
      one_result = λ other has. see.one_result c t other r honest has accepted;
    }
