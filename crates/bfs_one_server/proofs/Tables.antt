-- What the table of last replies tells of a request, and what recording a reply leaves of it.
use Rattle.std.proofs.Common.{◌≡◌, ◌≢◌, inl, inr, ◌∙◌, ℕ, ◌<◌, List, length, Option, Some, None, refl, sym, ap, arith}
use Rattle.std.specs.Prelude.{nat_lt, ◌==◌}
use Rattle.std.specs.List.{slice_get}
use Rattle.std.specs.Option.{option_map}
use Rattle.std.proofs.lemmas.Bool.{cond_both, eqb-true, ltb-true}
use Rattle.std.proofs.lemmas.List.{get_or-set_other, get_or-set_same, length-set}
use Rattle.std.proofs.lemmas.Option.{slice_get-get_or, slice_get-map, slice_get_past, slice_get_within, slice_get_cases}
use Rattle.bfs_replies.specs.Classes.{class_in, class_of, timestamp_of}
use Rattle.bfs_replies.specs.Tables.{Last, Table, last_in, last_of, recorded}
use Rattle.bfs_replies.specs.declared.tables.Class.{Class}
use Rattle.bfs_replies.specs.declared.tables.Class.TheVariants.{New, Repeat, Old}

abbrev pub IsAbove : Option Last → ℕ → Type 0
IsAbove None timestamp = Unit {0}
IsAbove (Some last) timestamp = last.timestamp < timestamp

new_there : (o : Option (Option Last)) (timestamp : ℕ) → class_in (option_map timestamp_of o) timestamp ≡ New → IsAbove (last_in o) timestamp
new_there None timestamp e = absurd cc
new_there (Some None) timestamp e = tt
new_there (Some (Some last)) timestamp e = cond_both (nat_lt last.timestamp timestamp) New _ (λ (c : Class). c ≡ New → last.timestamp < timestamp)
    (λ is _. ltb-true last.timestamp timestamp is)
    (λ _. cond_both (last.timestamp == timestamp) Repeat Old (λ (c : Class). c ≡ New → last.timestamp < timestamp) (λ _ no. absurd cc) (λ _ no. absurd cc)) e

class_there : (table : Table) (client timestamp : ℕ) → class_in (option_map timestamp_of (slice_get table client)) timestamp ≡ class_of table client timestamp
class_there table client timestamp = ap (λ (o : Option (Option ℕ)). class_in o timestamp) (sym (slice_get-map timestamp_of table client))

-- a new request's timestamp is above that of its client's last one
pub new_above : (table : Table) (client timestamp : ℕ) → class_of table client timestamp ≡ New → IsAbove (last_of table client) timestamp
new_above table client timestamp e = new_there (slice_get table client) timestamp (class_there table client timestamp ∙ e)

pub new_known : (table : Table) (client timestamp : ℕ) → class_of table client timestamp ≡ New → client < length table
new_known table client timestamp e = go (slice_get table client) refl (class_there table client timestamp ∙ e)
  where
    go : (o : Option (Option Last)) → slice_get table client ≡ o → class_in (option_map timestamp_of o) timestamp ≡ New → client < length table
    go None is h = absurd cc
    go (Some last) is h = slice_get_within table client last is

repeat_there : (o : Option (Option Last)) (timestamp : ℕ) → class_in (option_map timestamp_of o) timestamp ≡ Repeat → (last : Last) → last_in o ≡ Some last → last.timestamp ≡ timestamp
repeat_there None timestamp e last is = absurd cc
repeat_there (Some None) timestamp e last is = absurd cc
repeat_there (Some (Some one)) timestamp e last is =
    let same : one ≡ last = cc in
    cond_both (nat_lt one.timestamp timestamp) New _ (λ (c : Class). c ≡ Repeat → last.timestamp ≡ timestamp) (λ _ no. absurd cc)
    (λ _. cond_both (one.timestamp == timestamp) Repeat Old (λ (c : Class). c ≡ Repeat → last.timestamp ≡ timestamp)
    (λ at _. ap (λ (l : Last). l.timestamp) (sym same) ∙ eqb-true one.timestamp timestamp at) (λ _ no. absurd cc)) e

-- a repeated request's timestamp is that of its client's last one
pub repeat_same : (table : Table) (client timestamp : ℕ) → class_of table client timestamp ≡ Repeat → (last : Last) → last_of table client ≡ Some last → last.timestamp ≡ timestamp
repeat_same table client timestamp e = repeat_there (slice_get table client) timestamp (class_there table client timestamp ∙ e)

pub recorded_here : (table : Table) (client timestamp : ℕ) (reply : List ℕ) → client < length table → last_of (recorded table client timestamp reply) client ≡ Some (record { timestamp = timestamp; reply = reply })
recorded_here table client timestamp reply known =
    let last : Option Last = Some (record { timestamp = timestamp; reply = reply }) in
    ap (λ (o : Option (Option Last)). last_in o)
    (slice_get-get_or (recorded table client timestamp reply) client last (omega (arith, length-set table client last)) ∙ ap Some (get_or-set_same table client last last known))

pub recorded_elsewhere : (table : Table) (client other timestamp : ℕ) (reply : List ℕ) → client ≢ other → last_of (recorded table other timestamp reply) client ≡ last_of table client
recorded_elsewhere table client other timestamp reply differ =
    let last : Option Last = Some (record { timestamp = timestamp; reply = reply }) in
    let now = recorded table other timestamp reply in
    let same : slice_get now client ≡ slice_get table client = elim ((slice_get_cases table client).1) [
      | inl there ↦
          slice_get-get_or now client there.0 (let within = there.1 in omega (arith, within, length-set table other last))
          ∙ ap Some (get_or-set_other table other client last there.0 differ ∙ there.3) ∙ sym there.2
      | inr past ↦ slice_get_past now client (let out = past.0 in omega (arith, out, length-set table other last)) ∙ sym past.1
    ] in
    ap (λ (o : Option (Option Last)). last_in o) same
