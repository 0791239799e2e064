-- What was executed is new no more: the last reply to its client, if the table has it, is to it, or to a later one, from then on.
use Rattle.std.proofs.Common.{◌≡◌, ℕ, zero, suc, ◌<◌, ◌≤◌, ◌==◌, Bool, true, false, cond, List, [], ◌∷◌, Option, Some, None, inl, inr, refl, sym, ap, subst, ◌∙◌, arith}
use Rattle.std.specs.Prelude.{nat_lt, slice_get, slice_set}
use Rattle.std.specs.List.{list_any}
use Rattle.std.proofs.lemmas.Bool.{and_parts, cases_lt, cond_both, eqb-true, lt-ltb, ltb-true, or_cases}
use Rattle.bfs_messages.specs.Messages as model
use Rattle.bfs_messages.specs.Messages.{Batch}
use Rattle.bfs_messages.specs.declared.signed.Signed.{Signed}
use Rattle.bfs_model.specs.Server.Tree.{FileSystem, Time}
use Rattle.bfs_outcome.specs.Outcome.{Standing, at_start, class_at, executed, outcome, standing_after, standing_as, stands}
use Rattle.bfs_pending.specs.Requests.{is_among, is_same}
use Rattle.bfs_replies.specs.Classes.{Timestamps, class_among, class_behind, class_in, class_of, timestamps_of}
use Rattle.bfs_replies.specs.Tables.{Table}
use Rattle.bfs_replies.specs.declared.tables.Class.{Class}
use Rattle.bfs_replies.specs.declared.tables.Class.TheVariants.{New, Repeat, Old, Unknown}
use Rattle.bfs_replies.proofs.Public.{timestamps_recorded}
use Rattle.bfs_node.specs.Forgetting.{is_new_class}
use Rattle.bfs_nodes_agree.specs.Nodes.Laws.{ComesOfBatches, Executed}
use Rattle.bfs_nodes_agree.specs.Nodes.Replicas.{Beginning, NodeReplicas}

-- Timestamps ----------------------------------------------------------------------------------------------------------

-- it is not new
abbrev IsPast : Option (Option ℕ) → (timestamp : ℕ) → Type 0
IsPast last timestamp = is_new_class (class_in last timestamp) ≡ false

past_behind : (last timestamp : ℕ) → timestamp ≤ last → is_new_class (class_behind (Some last) timestamp) ≡ false
past_behind last timestamp le = cond_both (nat_lt last timestamp) New (cond (last == timestamp) Repeat Old) (λ (c : Class). is_new_class c ≡ false)
    (λ new. let lt = ltb-true last timestamp new in absurd (omega (arith, lt, le)))
    (λ _. cond_both (last == timestamp) Repeat Old (λ (c : Class). is_new_class c ≡ false) (λ _. refl) (λ _. refl))

behind_past : (last timestamp : ℕ) → is_new_class (class_behind (Some last) timestamp) ≡ false → timestamp ≤ last
behind_past last timestamp e = elim (cases_lt last timestamp) [
  | inl lt ↦
      let new : class_behind (Some last) timestamp ≡ New = ap (λ (b : Bool). cond b New (cond (last == timestamp) Repeat Old)) (lt-ltb last timestamp lt) in
      let is : true ≡ false = sym (ap is_new_class new) ∙ e in
      absurd cc
  | inr le ↦ le
]

new_behind : (last timestamp : ℕ) → class_behind (Some last) timestamp ≡ New → last < timestamp
new_behind last timestamp e = elim (cases_lt last timestamp) [
  | inl lt ↦ lt
  | inr le ↦ let is : true ≡ false = sym (ap is_new_class e) ∙ past_behind last timestamp le in absurd cc
]

-- a new one is past once it is taken, and what was past stays so
taken_past : (ts : Timestamps) (client timestamp : ℕ) → class_in (slice_get ts client) timestamp ≡ New → IsPast (slice_get (slice_set ts client (Some timestamp)) client) timestamp
taken_past [] client timestamp new = absurd cc
taken_past (x ∷ ts) zero timestamp new = past_behind timestamp timestamp (omega arith)
taken_past (x ∷ ts) (suc client) timestamp new = taken_past ts client timestamp new

taken_keeps : (ts : Timestamps) (client timestamp other later : ℕ) → IsPast (slice_get ts client) timestamp → class_in (slice_get ts other) later ≡ New
    → IsPast (slice_get (slice_set ts other (Some later)) client) timestamp
taken_keeps [] client timestamp other later past new = absurd cc
taken_keeps (x ∷ ts) zero timestamp zero later past new = go x past new
  where
    go : (last : Option ℕ) → is_new_class (class_behind last timestamp) ≡ false → class_behind last later ≡ New → is_new_class (class_behind (Some later) timestamp) ≡ false
    go None e n = absurd cc
    go (Some last) e n = let le = behind_past last timestamp e in let lt = new_behind last later n in past_behind later timestamp (omega (arith, le, lt))
taken_keeps (x ∷ ts) zero timestamp (suc other) later past new = past
taken_keeps (x ∷ ts) (suc client) timestamp zero later past new = past
taken_keeps (x ∷ ts) (suc client) timestamp (suc other) later past new = taken_keeps ts client timestamp other later past new

-- Tables --------------------------------------------------------------------------------------------------------------

-- to the table it is not new
abbrev IsAnswered : Table → (client timestamp : ℕ) → Type 0
IsAnswered table client timestamp = is_new_class (class_of table client timestamp) ≡ false

recorded_so : (standing : Standing) (time : Time) (request : model.Request) (client timestamp : ℕ)
    → IsPast (slice_get (slice_set (timestamps_of standing.table) request.client (Some request.timestamp)) client) timestamp → IsAnswered (standing_as New standing time request).table client timestamp
recorded_so standing time request client timestamp past = subst (λ (ts : Timestamps). is_new_class (class_among ts client timestamp) ≡ false)
    (sym (timestamps_recorded standing.table request.client request.timestamp (executed standing time request).1)) past

stands_keeps : (standing : Standing) (time : Time) (request : model.Request) (client timestamp : ℕ) → IsAnswered standing.table client timestamp → IsAnswered (stands standing time request).table client timestamp
stands_keeps standing time request client timestamp past = go (class_at standing request) refl
  where
    go : (c : Class) → class_at standing request ≡ c → IsAnswered (standing_as c standing time request).table client timestamp
    go New e = recorded_so standing time request client timestamp (taken_keeps (timestamps_of standing.table) client timestamp request.client request.timestamp past e)
    go Repeat e = past
    go Old e = past
    go Unknown e = past

stands_answered : (standing : Standing) (time : Time) (request : model.Request) → IsAnswered (stands standing time request).table request.client request.timestamp
stands_answered standing time request = go (class_at standing request) refl
  where
    go : (c : Class) → class_at standing request ≡ c → IsAnswered (standing_as c standing time request).table request.client request.timestamp
    go New e = recorded_so standing time request request.client request.timestamp (taken_past (timestamps_of standing.table) request.client request.timestamp e)
    go Repeat e = ap is_new_class e
    go Old e = ap is_new_class e
    go Unknown e = ap is_new_class e

all_keep : (requests : List (Signed model.Request)) (standing : Standing) (time : Time) (client timestamp : ℕ) → IsAnswered standing.table client timestamp
    → IsAnswered (standing_after standing time requests).table client timestamp
all_keep [] standing time client timestamp past = past
all_keep (signed ∷ rest) standing time client timestamp past =
    all_keep rest (stands standing time signed.message) time client timestamp (stands_keeps standing time signed.message client timestamp past)

all_answered : (requests : List (Signed model.Request)) (standing : Standing) (time : Time) (one : Signed model.Request) → list_any (is_same one) requests ≡ true
    → IsAnswered (standing_after standing time requests).table one.message.client one.message.timestamp
all_answered [] standing time one among = absurd cc
all_answered (signed ∷ rest) standing time one among =
    let next = stands standing time signed.message in
    let client = one.message.client in
    let timestamp = one.message.timestamp in
    elim (or_cases (is_same one signed) (list_any (is_same one) rest) among) [
      | inl same ↦
          let both = and_parts (client == signed.message.client) (timestamp == signed.message.timestamp) same in
          let here = stands_answered standing time signed.message in
          let mine : IsAnswered next.table client timestamp = subst (λ (c : ℕ). IsAnswered next.table c timestamp) (sym (eqb-true client signed.message.client both.0))
          (subst (λ (t : ℕ). IsAnswered next.table signed.message.client t) (sym (eqb-true timestamp signed.message.timestamp both.1)) here) in
          all_keep rest next time client timestamp mine
      | inr later ↦ all_answered rest next time one later
    ]

batch_keeps : (files : FileSystem) (table : Table) (batch : Batch) (client timestamp : ℕ) → IsAnswered table client timestamp → IsAnswered (outcome files table batch).table client timestamp
unfolding outcome
batch_keeps files table None client timestamp past = past
batch_keeps files table (Some requests) client timestamp past = all_keep requests.requests (at_start files table) _ client timestamp past

batch_answers : (files : FileSystem) (table : Table) (batch : Batch) (one : Signed model.Request) → is_among batch one ≡ true → IsAnswered (outcome files table batch).table one.message.client one.message.timestamp
unfolding outcome
batch_answers files table None one among = absurd cc
batch_answers files table (Some requests) one among = all_answered requests.requests (at_start files table) _ one among

-- States that come of batches -----------------------------------------------------------------------------------------

-- of which the one of that number has the request
pub answered : (start : Beginning) (faulty : ℕ → Bool) (w : NodeReplicas) (number : ℕ) (batch : Batch) (one : Signed model.Request) → 0 < number → is_among batch one ≡ true
    → ((k : ℕ) (other : Batch) → faulty k ≡ false → Executed (w k) number other → other ≡ batch)
    → (last : ℕ) (files : FileSystem) (table : Table) → number ≤ last → ComesOfBatches start faulty w last files table → IsAnswered table one.message.client one.message.timestamp
answered start faulty w number batch one some among alone zero files table le c = absurd (omega (arith, some, le))
answered start faulty w number batch one some among alone (suc last) files table le c =
    let client = one.message.client in
    let timestamp = one.message.timestamp in
    subst (λ (t : Table). IsAnswered t client timestamp) (sym c.8) (elim (cases_lt number (suc last)) [
      | inl less ↦ batch_keeps c.0 c.1 c.5 client timestamp (answered start faulty w number batch one some among alone last c.0 c.1 (omega (arith, less)) c.2)
      | inr high ↦
          let same : suc last ≡ number = omega (arith, le, high) in
          let is = alone c.3 c.5 c.4 (subst (λ (n : ℕ). Executed (w c.3) n c.5) same c.6) in
          batch_answers c.0 c.1 c.5 one (subst (λ (b : Batch). is_among b one ≡ true) (sym is) among)
    ])
