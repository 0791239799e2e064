-- A result that a client accepts was sent by a correct replica.
use Rattle.std.proofs.Common.{◌≡◌, ◌≢◌, ◌∙◌, ℕ, zero, suc, ◌+◌, ◌<◌, ◌≤◌, Bool, true, false, cond, ◌&&◌, not, List, [], ◌∷◌, ◌++◌, ◌⊎◌, length, Some, None, Option, option_map, inl, inr, refl, sym, ap, subst, arith}
use Rattle.std.specs.Prelude.{◌==◌, bytes_eq, fold}
use Rattle.std.specs.List.{count_by, find}
use Rattle.std.proofs.lemmas.Bool.{and_parts, cases_Bool, cases_eq, cases_lt, cond_both, eq-eqb, eqb-true, leb-true}
use Rattle.std.proofs.lemmas.List.Sums.{sum_by-cons}
use Rattle.std.proofs.lemmas.Slice.Eq.{bytes_eq-Decides}
use Rattle.bfs_votes.specs.Votes.{count_below}
use Rattle.bfs_auth.specs.Keys.{Keys}
use Rattle.bfs_messages.specs.Messages as model
use Rattle.bfs_messages.specs.Signing.{is_signed}
use Rattle.bfs_messages.specs.declared.signed.Signed.{Signed}
use Rattle.bfs_messages.specs.declared.message.Message.{Message}
use Rattle.bfs_messages.specs.declared.message.Message.TheVariants.{Reply}
use Rattle.bfs_agreement.specs.Histories.{IsIn}
use Rattle.bfs_clients.specs.Clients.{Clients, keys_at}
use Rattle.bfs_clients.specs.Tallies.{Counted, Tally, agreed, has_counted, is_agreed, is_signed_by, is_wanted, no_replies, reply_is_signed, result_to, senders_of, tallied_as, tallied_by, tally_of, with_reply}
use Rattle.bfs_clients.proofs.Public.{sender_below}
use Rattle.bfs_nodes_agree.proofs.Public.{AllIn, any_in, both_in, found, more_in, none_in, one_in, some_is}

-- Counting senders ----------------------------------------------------------------------------------------------------------

-- but for one number
abbrev but : (ℕ → Bool) → (m : ℕ) → ℕ → Bool
but q m k = not (k == m) && q k

but_fewer : (q : ℕ → Bool) (m n : ℕ) → count_below (but q m) n ≤ count_below q n
but_fewer q m zero = omega arith
but_fewer q m (suc n) =
    let fewer = but_fewer q m n in
    elim (n == m) as (λ e. cond (not e && q n) (1 + count_below (but q m) n) (count_below (but q m) n) ≤ cond (q n) (1 + count_below q n) (count_below q n)) [
      | true ↦ elim (q n) as (λ a. count_below (but q m) n ≤ cond a (1 + count_below q n) (count_below q n)) [ true ↦ omega (arith, fewer) | false ↦ fewer ]
      | false ↦ elim (q n) as (λ a. cond a (1 + count_below (but q m) n) (count_below (but q m) n) ≤ cond a (1 + count_below q n) (count_below q n)) [ true ↦ omega (arith, fewer) | false ↦ fewer ]
    ]

but_one : (q : ℕ → Bool) (m n : ℕ) → m < n → q m ≡ true → count_below (but q m) n + 1 ≤ count_below q n
but_one q m zero low is = absurd (omega (arith, low))
but_one q m (suc n) low is = elim (cases_eq n m) [
  | inl same ↦
      let fewer = but_fewer q m n in
      let skipped : count_below (but q m) (suc n) ≡ count_below (but q m) n = ap (λ (e : Bool). cond (not e && q n) (1 + count_below (but q m) n) (count_below (but q m) n)) (eq-eqb n m same) in
      let counted : count_below q (suc n) ≡ 1 + count_below q n = ap (λ (a : Bool). cond a (1 + count_below q n) (count_below q n)) (ap q same ∙ is) in
      omega (arith, fewer, skipped, counted)
  | inr differ ↦
      let under : m < n = lower differ low in
      let more = but_one q m n under is in
      elim (cases_Bool (n == m)) [
        | inl e ↦ absurd (differ (eqb-true n m e))
        | inr e ↦
            let skipped : count_below (but q m) (suc n) ≡ cond (q n) (1 + count_below (but q m) n) (count_below (but q m) n) =
            ap (λ (e : Bool). cond (not e && q n) (1 + count_below (but q m) n) (count_below (but q m) n)) e in
            let both = elim (q n) as (λ a. cond a (1 + count_below (but q m) n) (count_below (but q m) n) + 1 ≤ cond a (1 + count_below q n) (count_below q n)) [ true ↦ omega (arith, more) | false ↦ more ] in
            omega (arith, skipped, both)
      ]
]
  where
    lower : n ≢ m → m < suc n → m < n
    lower differ low = elim (cases_lt m n) [ inl lt ↦ lt | inr le ↦ let same : n ≡ m = omega (arith, le, low) in absurd (differ same) ]

-- no two replies of one sender
abbrev pub Differ : List Counted → Type 0
Differ [] = Unit {0}
Differ (x ∷ xs) = ((y : Counted) → IsIn y xs → y.sender ≡ x.sender → ⊥) × Differ xs

differ_more : (xs : List Counted) (n : Counted) → Differ xs → ((x : Counted) → IsIn x xs → x.sender ≡ n.sender → ⊥) → Differ (xs ++ n ∷ [])
differ_more [] n d apart = (λ y i. absurd i, tt)
differ_more (x ∷ xs) n d apart = (
  both_in (λ (y : Counted). y.sender ≡ x.sender → ⊥) xs (n ∷ []) d.0 (one_in (λ (y : Counted). y.sender ≡ x.sender → ⊥) n (λ e. apart x (inl refl) (sym e))),
  differ_more xs n d.1 (λ y i. apart y (inr i)),
)

module _ (p : Counted → Bool) (n : ℕ) where
  -- of those that pass, the sender does
  abbrev Pass : (q : ℕ → Bool) → List Counted → Type 0
  Pass q xs = AllIn (λ (x : Counted). p x ≡ true → q x.sender ≡ true) xs

  apart : (q : ℕ → Bool) (m k : ℕ) → k ≢ m → q k ≡ true → but q m k ≡ true
  apart q m k differ is = elim (cases_Bool (k == m)) [ inl e ↦ absurd (differ (eqb-true k m e)) | inr e ↦ ap (λ (b : Bool). not b && q k) e ∙ is ]

  -- as many senders below n pass
  few_of : (xs : List Counted) (q : ℕ → Bool) → Differ xs → AllIn (λ (x : Counted). x.sender < n) xs → Pass q xs → count_by p xs ≤ count_below q n
  few_of [] q d within all = omega arith
  few_of (x ∷ xs) q d within all =
      subst (λ (k : ℕ). k ≤ count_below q n) (sym (sum_by-cons (λ (y : Counted). cond (p y) 1 0) x xs))
      (elim (cases_Bool (p x)) [
        | inl e ↦
            let fewer = few_of xs (but q x.sender) d.1 (λ y i. within y (inr i)) (λ y i h. apart q x.sender y.sender (d.0 y i) (all y (inr i) h)) in
            let one = but_one q x.sender n (within x (inl refl)) (all x (inl refl) e) in
            let counted = ap (λ (b : Bool). cond b 1 0 + count_by p xs) e in
            omega (arith, fewer, one, counted)
        | inr e ↦
            let fewer = few_of xs q d.1 (λ y i. within y (inr i)) (λ y i. all y (inr i)) in
            let counted = ap (λ (b : Bool). cond b 1 0 + count_by p xs) e in
            omega (arith, fewer, counted)
      ])

  -- one that passes, whose sender is correct
  pub record OneCorrect (faulty : ℕ → Bool) (xs : List Counted) : Type 0 where
    pub one : Counted
    pub there : IsIn one xs
    pub passes : p one ≡ true
    pub correct : faulty one.sender ≡ false

  look_for : (faulty : ℕ → Bool) (xs : List Counted) → OneCorrect faulty xs ⊎ Pass faulty xs
  look_for faulty [] = inr (none_in (λ (x : Counted). p x ≡ true → faulty x.sender ≡ true))
  look_for faulty (x ∷ xs) = elim (look_for faulty xs) [
    | inl one ↦ inl (record { one = one.one; there = inr one.there; passes = one.passes; correct = one.correct })
    | inr all ↦
        let more = more_in (λ (y : Counted). p y ≡ true → faulty y.sender ≡ true) x xs in
        elim (cases_Bool (p x)) [
          | inl e ↦ elim (cases_Bool (faulty x.sender)) [
            | inl bad ↦ inr (more (λ _. bad) all)
            | inr good ↦ inl (record { one = x; there = inl refl; passes = e; correct = good })
          ]
          | inr e ↦ inr (more (λ h. let no : true ≡ false = sym h ∙ e in absurd cc) all)
        ]
  ]

  pub one_correct : (faulty : ℕ → Bool) (f : ℕ) (xs : List Counted) → count_below faulty n ≤ f → Differ xs → AllIn (λ (x : Counted). x.sender < n) xs → f + 1 ≤ count_by p xs → OneCorrect faulty xs
  one_correct faulty f xs few d within many = elim (look_for faulty xs) [
    | inl one ↦ one
    | inr all ↦ absurd (let fewer = few_of xs faulty d within all in omega (arith, few, many, fewer))
  ]

-- What a tally counts ---------------------------------------------------------------------------------------------------------

-- a reply to a request that came, and that passed by its client's keys
pub record HasCome (clients : Clients) (c t : ℕ) (messages : List (Signed Message)) (one : Counted) : Type 0 where
  pub message : Signed Message
  pub there : IsIn message messages
  pub reply : model.Reply
  pub is : message.message ≡ Reply reply
  pub keys : Keys
  pub held : keys_at clients c ≡ Some keys
  pub signed : is_signed keys message ≡ true
  pub sender : reply.sender ≡ one.sender
  pub client : reply.client ≡ c
  pub timestamp : reply.timestamp ≡ t
  pub result : reply.result ≡ one.result

record IsFair (clients : Clients) (c t : ℕ) (messages : List (Signed Message)) (tally : Tally) : Type 0 where
  few : tally.f ≡ clients.f
  client : tally.client ≡ c
  timestamp : tally.timestamp ≡ t
  come : AllIn (HasCome clients c t messages) tally.counted
  differ : Differ tally.counted

held_by : (o : Option Keys) (m : Signed Message) → is_signed_by o m ≡ true → (keys : Keys) × (o ≡ Some keys) × (is_signed keys m ≡ true)
held_by (Some keys) m e = (keys, refl, e)
held_by None m e = absurd cc

module _ (clients : Clients) (c t : ℕ) (messages : List (Signed Message)) where
  fair_as : (tally : Tally) (signed : Signed Message) (m : Message) → signed.message ≡ m → IsIn signed messages → IsFair clients c t messages tally
      → IsFair clients c t messages (tallied_as m (reply_is_signed clients signed m) tally)
  fair_as tally signed (Reply reply) is there fair =
      let new : Counted = record { sender = reply.sender; result = reply.result } in
      let right = is_signed_by (keys_at clients reply.client) signed in
      cond_both (is_wanted tally reply && right) (with_reply tally reply) tally (IsFair clients c t messages)
      (λ e.
      let a = and_parts (is_wanted tally reply) right e in
      let b = and_parts (reply.client == tally.client) ((reply.timestamp == tally.timestamp) && not (has_counted tally.counted reply.sender)) a.0 in
      let g = and_parts (reply.timestamp == tally.timestamp) (not (has_counted tally.counted reply.sender)) b.1 in
      let of_client = eqb-true reply.client tally.client b.0 ∙ fair.client in
      let held = held_by (keys_at clients reply.client) signed a.1 in
      record {
        few = fair.few;
        client = fair.client;
        timestamp = fair.timestamp;
        come = both_in (HasCome clients c t messages) tally.counted (new ∷ []) fair.come (one_in (HasCome clients c t messages) new (record {
          message = signed;
          there = there;
          reply = reply;
          is = is;
          keys = held.0;
          held = ap (keys_at clients) (sym of_client) ∙ held.1;
          signed = held.2;
          sender = refl;
          client = of_client;
          timestamp = eqb-true reply.timestamp tally.timestamp g.0 ∙ fair.timestamp;
          result = refl;
        }));
        differ = differ_more tally.counted new fair.differ (λ x i same.
            let any = any_in (λ (one : Counted). reply.sender == one.sender) tally.counted x i (eq-eqb reply.sender x.sender (sym same)) in
            let none : not true ≡ true = ap not (sym any) ∙ g.1 in
            absurd cc);
      })
      (λ _. fair)
  fair_as tally signed other is there fair = fair

  fair_all : (some : List (Signed Message)) (tally : Tally) → AllIn (λ (m : Signed Message). IsIn m messages) some → IsFair clients c t messages tally
      → IsFair clients c t messages (fold (tallied_by clients) tally some)
  fair_all [] tally all fair = fair
  fair_all (m ∷ some) tally all fair = fair_all some (tallied_by clients tally m) (λ x i. all x (inr i)) (fair_as tally m m.message refl (all m (inl refl)) fair)

agreed_so : (tally : Tally) (r : List ℕ) → agreed tally ≡ Some r → tally.f + 1 ≤ senders_of tally.counted r
agreed_so tally r e = go (find (is_agreed tally) tally.counted) refl e
  where
    go : (o : Option Counted) → find (is_agreed tally) tally.counted ≡ o → option_map (λ (one : Counted). one.result) o ≡ Some r → tally.f + 1 ≤ senders_of tally.counted r
    go None is h = absurd cc
    go (Some one) is h =
        let enough = leb-true (tally.f + 1) (senders_of tally.counted one.result) (found (is_agreed tally) tally.counted one is).1 in
        subst (λ (x : List ℕ). tally.f + 1 ≤ senders_of tally.counted x) (some_is one.result r h) enough

-- a message that came is a correct replica's REPLY with that result
pub record FromCorrect (faulty : ℕ → Bool) (clients : Clients) (c t : ℕ) (r : List ℕ) (messages : List (Signed Message)) : Type 0 where
  pub message : Signed Message
  pub there : IsIn message messages
  pub reply : model.Reply
  pub is : message.message ≡ Reply reply
  pub keys : Keys
  pub held : keys_at clients c ≡ Some keys
  pub signed : is_signed keys message ≡ true
  pub correct : faulty reply.sender ≡ false
  pub client : reply.client ≡ c
  pub timestamp : reply.timestamp ≡ t
  pub result : reply.result ≡ r

pub from_correct : (faulty : ℕ → Bool) (clients : Clients) (n c t : ℕ) (r : List ℕ) (messages : List (Signed Message)) → count_below faulty n ≤ clients.f
    → ((keys : Keys) → keys_at clients c ≡ Some keys → length keys.replicas ≡ n) → result_to clients messages c t ≡ Some r → FromCorrect faulty clients c t r messages
from_correct faulty clients n c t r messages few shared e =
    let tally = tally_of clients messages c t in
    let fair = fair_all clients c t messages messages (no_replies clients.f c t) (λ x i. i)
    (record { few = refl; client = refl; timestamp = refl; come = none_in (HasCome clients c t messages); differ = tt }) in
    let many = agreed_so tally r e in
    let p = λ (x : Counted). bytes_eq x.result r in
    let one = one_correct p n faulty clients.f tally.counted few fair.differ
    (λ x i.
    let come = fair.come x i in
    subst (λ (k : ℕ). k < n) come.sender (subst (λ (k : ℕ). come.reply.sender < k) (shared come.keys come.held) (sender_below come.keys come.message come.reply come.is come.signed)))
    (subst (λ (g : ℕ). g + 1 ≤ count_by p tally.counted) fair.few many) in
    let come = fair.come one.one one.there in
    record {
      message = come.message;
      there = come.there;
      reply = come.reply;
      is = come.is;
      keys = come.keys;
      held = come.held;
      signed = come.signed;
      correct = ap faulty come.sender ∙ one.correct;
      client = come.client;
      timestamp = come.timestamp;
      result = come.result ∙ (bytes_eq-Decides one.one.result r).0 one.passes;
    }
