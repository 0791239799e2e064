-- Replies that are recorded one after another.
use Rattle.std.proofs.Common.{◌≡◌, ◌≢◌, ◌∙◌, ℕ, ◌+◌, ◌<◌, ◌≤◌, List, [], ◌∷◌, ◌++◌, length, take, get_or, Option, Some, None, refl, sym, ap, arith}
use Rattle.std.specs.List.{slice_get, slice_set}
use Rattle.std.specs.Option.{option_map}
use Rattle.std.proofs.lemmas.List.{get_or-set_other, get_or-set_same, length-set, map-set, take_more}
use Rattle.std.proofs.lemmas.Option.{slice_get-get_or, slice_get-map, slice_get_past, slice_get_within}
use Rattle.bfs_replies.specs.Answers.{Answer, recorded_all}
use Rattle.bfs_replies.specs.Classes.{Timestamps, class_among, class_in, timestamp_of, timestamps_of}
use Rattle.bfs_replies.specs.Tables.{Last, Table, last_in, last_of, recorded}
use Rattle.bfs_replies.specs.declared.tables.Class.TheVariants.{New}

pub new_is_known : (timestamps : Timestamps) (client timestamp : ℕ) → class_among timestamps client timestamp ≡ New → client < length timestamps
new_is_known timestamps client timestamp new = go (slice_get timestamps client) refl new
  where
    go : (last : Option (Option ℕ)) → slice_get timestamps client ≡ last → class_in last timestamp ≡ New → client < length timestamps
    go None here unknown = absurd cc
    go (Some last) here is = slice_get_within timestamps client last here

pub timestamp_found : (table : Table) (client : ℕ) → slice_get (timestamps_of table) client ≡ option_map timestamp_of (slice_get table client)
timestamp_found table client = slice_get-map timestamp_of table client

-- the timestamps of a table in which a reply was recorded
pub timestamps_recorded : (table : Table) (client timestamp : ℕ) (reply : List ℕ) → timestamps_of (recorded table client timestamp reply) ≡ slice_set (timestamps_of table) client (Some timestamp)
timestamps_recorded table client timestamp reply = map-set timestamp_of table client (Some (record { timestamp = timestamp; reply = reply }))

abbrev last_with : (timestamp : ℕ) → (reply : List ℕ) → Option Last
last_with timestamp reply = Some (record { timestamp = timestamp; reply = reply })

pub length-recorded_all : (table : Table) (answers : List Answer) → length (recorded_all table answers) ≡ length table
length-recorded_all table [] = refl
length-recorded_all table (answer ∷ answers) =
    length-recorded_all (recorded table answer.client answer.timestamp answer.reply) answers ∙ length-set table answer.client (last_with answer.timestamp answer.reply)

pub none_of_no_client : (table : Table) (answers : List Answer) (client : ℕ) → length table ≤ client → last_of (recorded_all table answers) client ≡ None
none_of_no_client table answers client past = ap last_in (slice_get_past (recorded_all table answers) client (omega (arith, length-recorded_all table answers)))

pub recorded_append : (table : Table) (one other : List Answer) → recorded_all table (one ++ other) ≡ recorded_all (recorded_all table one) other
recorded_append table [] other = refl
recorded_append table (answer ∷ one) other = recorded_append (recorded table answer.client answer.timestamp answer.reply) one other

-- the first answers, and one more
pub one_more : (table : Table) (answers : List Answer) (i : ℕ) (answer : Answer) → i < length answers → answer ≡ get_or answers i answer
    → recorded_all table (take (i + 1) answers) ≡ recorded (recorded_all table (take i answers)) answer.client answer.timestamp answer.reply
one_more table answers i answer within is =
    ap (recorded_all table) (take_more answers i answer within ∙ ap (λ a. take i answers ++ a ∷ []) (sym is)) ∙ recorded_append table (take i answers) (answer ∷ [])

-- The reply to a client's last request, behind one that was recorded last -----------------------------------------------

abbrev pub reply_in : Option Last → Option (List ℕ)
reply_in last = option_map (λ l. l.reply) last

pub recorded_here : (table : Table) (client timestamp : ℕ) (reply : List ℕ) → client < length table → reply_in (last_of (recorded table client timestamp reply) client) ≡ Some reply
recorded_here table client timestamp reply known =
    let last = last_with timestamp reply in
    ap (λ found. reply_in (last_in found)) (slice_get-get_or (recorded table client timestamp reply) client last (omega (arith, length-set table client last)) ∙ ap Some (get_or-set_same table client last last known))

pub recorded_elsewhere : (table : Table) (client other timestamp : ℕ) (reply : List ℕ) → client < length table → client ≢ other → reply_in (last_of (recorded table other timestamp reply) client) ≡ reply_in (last_of table client)
recorded_elsewhere table client other timestamp reply known differ =
    let last = last_with timestamp reply in
    ap (λ found. reply_in (last_in found))
    (slice_get-get_or (recorded table other timestamp reply) client last (omega (arith, length-set table other last)) ∙ ap Some (get_or-set_other table other client last last differ) ∙ sym (slice_get-get_or table client last known))
