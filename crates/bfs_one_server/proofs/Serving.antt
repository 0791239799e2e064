-- Batches that are executed one after another do what one server does.
use Rattle.std.proofs.Common.{◌≡◌, ◌∙◌, ℕ, zero, suc, ◌<◌, true, List, [], ◌∷◌, ◌++◌, inl, inr, Option, Some, None, replicate, refl, sym, ap, subst, append_assoc, append-nil, length, arith}
use Rattle.std.specs.Prelude.{◌==◌, ◌&&◌, nat_lt}
use Rattle.std.specs.List.{slice_get}
use Rattle.std.proofs.lemmas.Bool.{and_parts, cases_eq, cond_both, eqb-true, ltb-true, or_cases}
use Rattle.bfs_model.specs.Server.Tree.{Time, FileSystem}
use Rattle.bfs_model.specs.Server.Serial.{effective_time, is_after, next_microsecond}
use Rattle.bfs_messages.specs.Messages.{Request, Batch, requests_of}
use Rattle.bfs_messages.specs.declared.signed.Signed.{Signed}
use Rattle.bfs_replies.specs.Answers.{Answer}
use Rattle.bfs_replies.specs.Tables.{Last, Table, last_of, recorded}
use Rattle.bfs_replies.specs.declared.tables.Class.{Class}
use Rattle.bfs_replies.specs.declared.tables.Class.TheVariants.{New, Repeat, Old, Unknown}
use Rattle.bfs_outcome.specs.Outcome.{Standing, answer_again, answers_as, answers_to, at_start, class_at, executed, outcome, standing_after, standing_as, stands}
use Rattle.bfs_agreement.specs.Histories.{IsIn}
use Rattle.bfs_nodes_agree.proofs.Public.{AllIn, either_in, left_in, more_in, none_in, right_in}
use Rattle.bfs_one_server.specs.Serving.{AreTimely, Effect, IsBy, IsOf, Rise, Serves, effects, effects_as, effects_in, effects_to, files_after, table_after}
use Rattle.bfs_one_server.proofs.Tables.{IsAbove, new_above, new_known, repeat_same, recorded_elsewhere, recorded_here}

-- What holds of effects, from the last request back -----------------------------------------------------------------------------

-- a property of what takes effect from a standing on, at a time: where it holds behind a request of each class, it holds from that request on
module _ (P : Standing → Time → List Effect → Type 0)
    (step : (class : Class) (s : Standing) (time : Time) (request : Request) (rest : List Effect) → class_at s request ≡ class → P (standing_as class s time request) time rest → P s time (effects_as class s time request ++ rest)) where
  holds_to : (s : Standing) (time : Time) (requests : List (Signed Request)) (rest : List Effect) → P (standing_after s time requests) time rest → P s time (effects_to s time requests ++ rest)
  holds_to s time [] rest h = h
  holds_to s time (signed ∷ more) rest h =
      let class = class_at s signed.message in
      let next = stands s time signed.message in
      subst (P s time) (sym (append_assoc (effects_as class s time signed.message) (effects_to next time more) rest))
      (step class s time signed.message (effects_to next time more ++ rest) refl (holds_to next time more rest h))

-- One server serves ---------------------------------------------------------------------------------------------------------

serves_as : (class : Class) (s : Standing) (time : Time) (request : Request) (rest : List Effect) → class_at s request ≡ class
    → Serves (standing_as class s time request).inodes (standing_as class s time request).ordinal rest → Serves s.inodes s.ordinal (effects_as class s time request ++ rest)
serves_as New s time request rest is h = (refl, h)
serves_as other s time request rest is h = h

serves_in : (files : FileSystem) (table : Table) (batch : Batch) (rest : List Effect)
    → Serves (outcome files table batch).files.tree (outcome files table batch).files.next_ordinal rest → Serves files.tree files.next_ordinal (effects_in files table batch ++ rest)
unfolding outcome
serves_in files table None rest h = h
serves_in files table (Some requests) rest h =
    holds_to (λ s time list. Serves s.inodes s.ordinal list) serves_as (at_start files table) (effective_time files.last_time requests.time) requests.requests rest h

pub serves : (files : FileSystem) (table : Table) (batches : List Batch) → Serves files.tree files.next_ordinal (effects files table batches)
serves files table [] = tt
serves files table (batch ∷ rest) =
    let done = outcome files table batch in
    serves_in files table batch (effects done.files done.table rest) (serves done.files done.table rest)

-- Timestamps rise -----------------------------------------------------------------------------------------------------------

-- above the last one of its client in a table
abbrev IsNewer : Table → Effect → Type 0
IsNewer table e = IsAbove (last_of table e.request.client) e.request.timestamp

record RisesFrom (table : Table) (list : List Effect) : Type 0 where
  newer : AllIn (IsNewer table) list
  rise : Rise list

below : (o : Option Last) (one other : ℕ) → IsAbove o one → one < other → IsAbove o other
below None one other a b = tt
below (Some last) one other a b = omega (arith, a, b)

behind : (table : Table) (request : Request) (reply : List ℕ) (e : Effect) → request.client < length table → IsAbove (last_of table request.client) request.timestamp
    → IsNewer (recorded table request.client request.timestamp reply) e → IsNewer table e × (e.request.client ≡ request.client → request.timestamp < e.request.timestamp)
behind table request reply e known above newer =
    let now = recorded table request.client request.timestamp reply in
    elim (cases_eq e.request.client request.client) [
      | inl same ↦
          let here : request.timestamp < e.request.timestamp = subst (λ (o : Option Last). IsAbove o e.request.timestamp) (recorded_here table request.client request.timestamp reply known)
          (subst (λ (c : ℕ). IsAbove (last_of now c) e.request.timestamp) same newer) in
          (subst (λ (c : ℕ). IsAbove (last_of table c) e.request.timestamp) (sym same) (below (last_of table request.client) request.timestamp e.request.timestamp above here), λ again. here)
      | inr differ ↦
          (subst (λ (o : Option Last). IsAbove o e.request.timestamp) (recorded_elsewhere table e.request.client request.client request.timestamp reply differ) newer, λ same. absurd (differ same))
    ]

rises_as : (class : Class) (s : Standing) (time : Time) (request : Request) (rest : List Effect) → class_at s request ≡ class
    → RisesFrom (standing_as class s time request).table rest → RisesFrom s.table (effects_as class s time request ++ rest)
rises_as New s time request rest is h =
    let reply = (executed s time request).1 in
    let above = new_above s.table request.client request.timestamp is in
    let each = λ (e : Effect) (i : IsIn e rest). behind s.table request reply e (new_known s.table request.client request.timestamp is) above (h.newer e i) in
    record {
      newer = more_in (IsNewer s.table) (record { request = request; time = time; reply = reply }) rest above (λ e i. (each e i).0);
      rise = (λ later i. (each later i).1, h.rise);
    }
rises_as other s time request rest is h = h

rises_in : (files : FileSystem) (table : Table) (batch : Batch) (rest : List Effect) → RisesFrom (outcome files table batch).table rest → RisesFrom table (effects_in files table batch ++ rest)
unfolding outcome
rises_in files table None rest h = h
rises_in files table (Some requests) rest h =
    holds_to (λ s time list. RisesFrom s.table list) rises_as (at_start files table) (effective_time files.last_time requests.time) requests.requests rest h

rises_all : (files : FileSystem) (table : Table) (batches : List Batch) → RisesFrom table (effects files table batches)
rises_all files table [] = record { newer = none_in (IsNewer table); rise = tt }
rises_all files table (batch ∷ rest) =
    let done = outcome files table batch in
    rises_in files table batch (effects done.files done.table rest) (rises_all done.files done.table rest)

pub rises : (files : FileSystem) (table : Table) (batches : List Batch) → Rise (effects files table batches)
rises files table batches = (rises_all files table batches).rise

-- so there is one effect of a client and timestamp
pub same_effect : (list : List Effect) (a b : Effect) → Rise list → IsIn a list → IsIn b list → a.request.client ≡ b.request.client → a.request.timestamp ≡ b.request.timestamp → a ≡ b
same_effect [] a b rise i j client timestamp = absurd i
same_effect (e ∷ list) a b rise i j client timestamp =
    let above : (x y : Effect) → x ≡ e → IsIn y list → y.request.client ≡ x.request.client → x.request.timestamp < y.request.timestamp =
    λ x y first k same. subst (λ (z : Effect). z.request.timestamp < y.request.timestamp) (sym first) (rise.0 y k (same ∙ ap (λ (z : Effect). z.request.client) first)) in
    elim i [
      | inl first ↦ elim j [
        | inl other ↦ first ∙ sym other
        | inr k ↦ let lt = above a b first k (sym client) in absurd (omega (arith, lt, timestamp))
      ]
      | inr k ↦ elim j [
        | inl other ↦ let lt = above b a other k client in absurd (omega (arith, lt, timestamp))
        | inr l ↦ same_effect list a b rise.1 k l client timestamp
      ]
    ]

-- Times never fall ------------------------------------------------------------------------------------------------------------

by_itself : (t : Time) → IsBy t t
by_itself t = inr (refl, omega arith)

by_both : (a b c : Time) → IsBy a b → IsBy b c → IsBy a c
by_both a b c x y = elim x [
  | inl low ↦ elim y [ inl more ↦ inl (omega (arith, low, more)) | inr same ↦ let s = same.0 in inl (omega (arith, low, s)) ]
  | inr same ↦
      let s = same.0 in
      let u = same.1 in
      elim y [ inl more ↦ inl (omega (arith, s, more)) | inr other ↦ let t = other.0 in let v = other.1 in inr (omega (arith, s, t), omega (arith, u, v)) ]
]

after_by : (t other : Time) → is_after t other ≡ true → IsBy other t
after_by t other e = elim (or_cases (nat_lt other.seconds t.seconds) ((t.seconds == other.seconds) && nat_lt other.useconds t.useconds) e) [
  | inl a ↦ inl (ltb-true other.seconds t.seconds a)
  | inr b ↦
      let p = and_parts (t.seconds == other.seconds) (nat_lt other.useconds t.useconds) b in
      let low = ltb-true other.useconds t.useconds p.1 in
      inr (sym (eqb-true t.seconds other.seconds p.0), omega (arith, low))
]

next_by : (t : Time) → IsBy t (next_microsecond t)
next_by t = cond_both (nat_lt t.useconds 999999) _ _ (IsBy t) (λ _. inr (refl, omega arith))
    (λ _. cond_both (nat_lt t.seconds 4294967295) _ t (IsBy t) (λ _. inl (omega arith)) (λ _. by_itself t))

effective_by : (last proposed : Time) → IsBy last (effective_time last proposed)
effective_by last proposed = cond_both (is_after proposed last) proposed (next_microsecond last) (IsBy last) (λ e. after_by proposed last e) (λ _. next_by last)

earlier : (last then : Time) (list : List Effect) → IsBy last then → AreTimely then list → AreTimely last list
earlier last then [] by h = tt
earlier last then (e ∷ list) by h = (by_both last then e.time by h.0, h.1)

timely_as : (class : Class) (s : Standing) (time : Time) (request : Request) (rest : List Effect) → class_at s request ≡ class → AreTimely time rest → AreTimely time (effects_as class s time request ++ rest)
timely_as New s time request rest is h = (by_itself time, h)
timely_as other s time request rest is h = h

timely_in : (files : FileSystem) (table : Table) (batch : Batch) (rest : List Effect) → AreTimely (outcome files table batch).files.last_time rest → AreTimely files.last_time (effects_in files table batch ++ rest)
unfolding outcome
timely_in files table None rest h = h
timely_in files table (Some requests) rest h =
    let time = effective_time files.last_time requests.time in
    earlier files.last_time time (effects_to (at_start files table) time requests.requests ++ rest) (effective_by files.last_time requests.time)
    (holds_to (λ s time list. AreTimely time list) timely_as (at_start files table) time requests.requests rest h)

pub timely : (files : FileSystem) (table : Table) (batches : List Batch) → AreTimely files.last_time (effects files table batches)
timely files table [] = tt
timely files table (batch ∷ rest) =
    let done = outcome files table batch in
    timely_in files table batch (effects done.files done.table rest) (timely done.files done.table rest)

-- Where answers come from -----------------------------------------------------------------------------------------------------

-- an effect among these is of the client's request of that timestamp, with that reply
abbrev pub Tells : List Effect → (client timestamp : ℕ) → List ℕ → Type 0
Tells list client timestamp reply = (e : Effect) × IsIn e list × IsOf e client timestamp reply

pub tells_left : (one other : List Effect) (client timestamp : ℕ) (reply : List ℕ) → Tells one client timestamp reply → Tells (one ++ other) client timestamp reply
tells_left one other client timestamp reply t = (t.0, left_in one other t.0 t.1, t.2)

-- what the table has was the reply to a request that took effect
abbrev pub IsKnown : Table → List Effect → Type 0
IsKnown table past = (client : ℕ) (last : Last) → last_of table client ≡ Some last → Tells past client last.timestamp last.reply

known_as : (class : Class) (s : Standing) (time : Time) (request : Request) (past : List Effect) → class_at s request ≡ class → IsKnown s.table past
    → IsKnown (standing_as class s time request).table (past ++ effects_as class s time request)
known_as New s time request past is known client last is_last =
    let reply = (executed s time request).1 in
    let e : Effect = record { request = request; time = time; reply = reply } in
    let now = recorded s.table request.client request.timestamp reply in
    elim (cases_eq client request.client) [
      | inl same ↦
          let new : Last = record { timestamp = request.timestamp; reply = reply } in
          let it : Some new ≡ Some last = sym (recorded_here s.table request.client request.timestamp reply (new_known s.table request.client request.timestamp is)) ∙ sym (ap (last_of now) same) ∙ is_last in
          let one : new ≡ last = cc in
          (e, right_in past (e ∷ []) e (inl refl), record { client_is = sym same; timestamp_is = ap (λ (l : Last). l.timestamp) one; reply_is = ap (λ (l : Last). l.reply) one })
      | inr differ ↦
          tells_left past (e ∷ []) client last.timestamp last.reply (known client last (sym (recorded_elsewhere s.table client request.client request.timestamp reply differ) ∙ is_last))
    ]
known_as other s time request past is known client last is_last = tells_left past [] client last.timestamp last.reply (known client last is_last)

answered_as : (class : Class) (s : Standing) (time : Time) (request : Request) (past : List Effect) → class_at s request ≡ class → IsKnown s.table past
    → (a : Answer) → IsIn a (answers_as class s time request) → Tells (past ++ effects_as class s time request) a.client a.timestamp a.reply
answered_as New s time request past is known a i = elim i [
  | inl same ↦
      let e : Effect = record { request = request; time = time; reply = (executed s time request).1 } in (
        e,
        right_in past (e ∷ []) e (inl refl),
        record {
          client_is = ap (λ (x : Answer). x.client) (sym same);
          timestamp_is = ap (λ (x : Answer). x.timestamp) (sym same);
          reply_is = ap (λ (x : Answer). x.reply) (sym same);
        },
      )
  | inr none ↦ absurd none
]
answered_as Repeat s time request past is known a i = go (last_of s.table request.client) refl i
  where
    go : (o : Option Last) → last_of s.table request.client ≡ o → IsIn a (answer_again request o) → Tells (past ++ []) a.client a.timestamp a.reply
    go None e j = absurd j
    go (Some last) e j = elim j [
      | inl same ↦
          let at = known request.client last e in
          tells_left past [] a.client a.timestamp a.reply (
            at.0,
            at.1,
            record {
              client_is = at.2.client_is ∙ ap (λ (x : Answer). x.client) (sym same);
              timestamp_is = at.2.timestamp_is ∙ repeat_same s.table request.client request.timestamp is last e ∙ ap (λ (x : Answer). x.timestamp) (sym same);
              reply_is = at.2.reply_is ∙ ap (λ (x : Answer). x.reply) (sym same);
            },
          )
      | inr none ↦ absurd none
    ]
answered_as Old s time request past is known a i = absurd i
answered_as Unknown s time request past is known a i = absurd i

known_to : (s : Standing) (time : Time) (requests : List (Signed Request)) (past : List Effect) → IsKnown s.table past
    → IsKnown (standing_after s time requests).table (past ++ effects_to s time requests)
known_to s time [] past known = subst (IsKnown s.table) (sym (append-nil past)) known
known_to s time (signed ∷ more) past known =
    let class = class_at s signed.message in
    let next = stands s time signed.message in
    let first = effects_as class s time signed.message in
    subst (IsKnown (standing_after next time more).table) (append_assoc past first (effects_to next time more))
    (known_to next time more (past ++ first) (known_as class s time signed.message past refl known))

answered_to : (s : Standing) (time : Time) (requests : List (Signed Request)) (past : List Effect) → IsKnown s.table past
    → (a : Answer) → IsIn a (answers_to s time requests) → Tells (past ++ effects_to s time requests) a.client a.timestamp a.reply
answered_to s time [] past known a i = absurd i
answered_to s time (signed ∷ more) past known a i =
    let class = class_at s signed.message in
    let next = stands s time signed.message in
    let first = effects_as class s time signed.message in
    let rest = effects_to next time more in
    subst (λ (l : List Effect). Tells l a.client a.timestamp a.reply) (append_assoc past first rest)
    (elim (either_in (answers_as class s time signed.message) (answers_to next time more) a i) [
      | inl j ↦ tells_left (past ++ first) rest a.client a.timestamp a.reply (answered_as class s time signed.message past refl known a j)
      | inr j ↦ answered_to next time more (past ++ first) (known_as class s time signed.message past refl known) a j
    ])

known_in : (files : FileSystem) (table : Table) (batch : Batch) (past : List Effect) → IsKnown table past → IsKnown (outcome files table batch).table (past ++ effects_in files table batch)
unfolding outcome
known_in files table None past known = subst (IsKnown table) (sym (append-nil past)) known
known_in files table (Some requests) past known = known_to (at_start files table) (effective_time files.last_time requests.time) requests.requests past known

pub answered_in : (files : FileSystem) (table : Table) (batch : Batch) (past : List Effect) → IsKnown table past
    → (a : Answer) → IsIn a (outcome files table batch).answers → Tells (past ++ effects_in files table batch) a.client a.timestamp a.reply
unfolding outcome
answered_in files table None past known a i = absurd i
answered_in files table (Some requests) past known a i = answered_to (at_start files table) (effective_time files.last_time requests.time) requests.requests past known a i

pub known_all : (files : FileSystem) (table : Table) (batches : List Batch) (past : List Effect) → IsKnown table past → IsKnown (table_after files table batches) (past ++ effects files table batches)
known_all files table [] past known = subst (IsKnown table) (sym (append-nil past)) known
known_all files table (batch ∷ rest) past known =
    let done = outcome files table batch in
    subst (IsKnown (table_after done.files done.table rest)) (append_assoc past (effects_in files table batch) (effects done.files done.table rest))
    (known_all done.files done.table rest (past ++ effects_in files table batch) (known_in files table batch past known))

-- a table without a reply
pub none_known : (clients : ℕ) → IsKnown (replicate clients None) []
none_known clients client last is = absurd (none clients client last is)
  where
    none : (n k : ℕ) (last : Last) → last_of (replicate n None) k ≡ Some last → ⊥
    none zero k last e = absurd cc
    none (suc n) zero last e = absurd cc
    none (suc n) (suc k) last e = none n k last e

-- Where effects come from -------------------------------------------------------------------------------------------------------

request_as : (class : Class) (s : Standing) (time : Time) (request : Request) (e : Effect) → IsIn e (effects_as class s time request) → e.request ≡ request
request_as New s time request e i = elim i [ inl same ↦ ap (λ (x : Effect). x.request) same | inr none ↦ absurd none ]
request_as other s time request e i = absurd i

from_requests : (s : Standing) (time : Time) (requests : List (Signed Request)) (e : Effect) → IsIn e (effects_to s time requests) → (x : Signed Request) × IsIn x requests × (e.request ≡ x.message)
from_requests s time [] e i = absurd i
from_requests s time (signed ∷ rest) e i =
    let class = class_at s signed.message in
    elim (either_in (effects_as class s time signed.message) (effects_to (stands s time signed.message) time rest) e i) [
      | inl j ↦ (signed, inl refl, request_as class s time signed.message e j)
      | inr j ↦ let later = from_requests (stands s time signed.message) time rest e j in (later.0, inr later.1, later.2)
    ]

from_batch : (files : FileSystem) (table : Table) (batch : Batch) (e : Effect) → IsIn e (effects_in files table batch) → (x : Signed Request) × IsIn x (requests_of batch) × (e.request ≡ x.message)
from_batch files table None e i = absurd i
from_batch files table (Some requests) e i = from_requests (at_start files table) (effective_time files.last_time requests.time) requests.requests e i

-- it is that of a request in the batch at a place
pub record ComesFrom (batches : List Batch) (e : Effect) : Type 0 where
  pub place : ℕ
  pub batch : Batch
  pub there : slice_get batches place ≡ Some batch
  pub signed : Signed Request
  pub among : IsIn signed (requests_of batch)
  pub is : e.request ≡ signed.message

pub from_batches : (files : FileSystem) (table : Table) (batches : List Batch) (e : Effect) → IsIn e (effects files table batches) → ComesFrom batches e
from_batches files table [] e i = absurd i
from_batches files table (batch ∷ rest) e i =
    let done = outcome files table batch in
    elim (either_in (effects_in files table batch) (effects done.files done.table rest) e i) [
      | inl j ↦ let from = from_batch files table batch e j in record { place = 0; batch = batch; there = refl; signed = from.0; among = from.1; is = from.2 }
      | inr j ↦ let later = from_batches done.files done.table rest e j in record { place = suc later.place; batch = later.batch; there = later.there; signed = later.signed; among = later.among; is = later.is }
    ]

-- More batches ------------------------------------------------------------------------------------------------------------------

pub effects_append : (files : FileSystem) (table : Table) (one other : List Batch)
    → effects files table (one ++ other) ≡ effects files table one ++ effects (files_after files table one) (table_after files table one) other
effects_append files table [] other = refl
effects_append files table (batch ∷ one) other =
    let done = outcome files table batch in
    ap (λ (l : List Effect). effects_in files table batch ++ l) (effects_append done.files done.table one other)
    ∙ sym (append_assoc (effects_in files table batch) (effects done.files done.table one) (effects (files_after done.files done.table one) (table_after done.files done.table one) other))

pub files_append : (files : FileSystem) (table : Table) (one other : List Batch) → files_after files table (one ++ other) ≡ files_after (files_after files table one) (table_after files table one) other
files_append files table [] other = refl
files_append files table (batch ∷ one) other = files_append (outcome files table batch).files (outcome files table batch).table one other

pub table_append : (files : FileSystem) (table : Table) (one other : List Batch) → table_after files table (one ++ other) ≡ table_after (files_after files table one) (table_after files table one) other
table_append files table [] other = refl
table_append files table (batch ∷ one) other = table_append (outcome files table batch).files (outcome files table batch).table one other
