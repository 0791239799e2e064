-- The text of a table: what is written is read again, and what is read was written.
use Rattle.std.proofs.Common.{◌≡◌, ℕ, ◌<◌, ◌≤◌, Bool, true, false, cond, ltb, List, ◌++◌, length, Option, Some, None, Ok, refl, sym, ap, subst, ◌∙◌, append_assoc, arith}
use Rattle.std.specs.List.{flat_map, slice_index}
use Rattle.std.proofs.lemmas.Bool.{ltb-false, le-ltb}
use Rattle.std.proofs.lemmas.List.Elements.{All-from_recursion, recursion_from_All}
use Rattle.bfs_model.specs.Bytes.Items.{word, hyper, boolean, counted, word_at}
use Rattle.bfs_model.specs.Server.Limits.{most_clients, most_reply_bytes}
use Rattle.bfs_model.specs.Server.Stored.{AreBytes}
use Rattle.bfs_model.proofs.Public.{AreFew, IsExact, behind, boolean_exact, bytes_are, bytes_exact, go_on, hyper_exact, items_again, items_written, some_is, went_on, word_exact, word_written}
use Rattle.bfs_model.specs.Bytes.Formats.{bytes_from, items_from}
use Rattle.bfs_replies.specs.Tables.{Last, Table, LastIsKept, IsKept}
use Rattle.bfs_replies.specs.Texts.{last_text, table_text}
use Rattle.bfs_replies.specs.TextReading.{TablesAreReadAgain, TablesWereWritten, reply_from, last_from, table_from}

short_exact : IsExact counted (AreFew most_reply_bytes) (bytes_from most_reply_bytes)
short_exact = bytes_exact most_reply_bytes (omega arith)

-- Lasts --------------------------------------------------------------------------------------------------------------

abbrev reply_text : Last → List ℕ
reply_text last = hyper last.timestamp ++ counted last.reply

reply_again : (last : Last) (rest : List ℕ) → LastIsKept (Some last) → reply_from (reply_text last ++ rest) ≡ Some (Some last, rest)
unfolding reply_from
reply_again last rest kept =
    rw (append_assoc (hyper last.timestamp) (counted last.reply) rest) (go_on hyper_exact _ last.timestamp (counted last.reply ++ rest) kept.0 ∙ go_on short_exact _ last.reply rest (kept.1, kept.2))

abbrev WasWritten : List ℕ → Option Last → List ℕ → Type 0
WasWritten bytes last rest = (bytes ≡ last_text last ++ rest) × LastIsKept last × AreBytes rest

last_again : (last : Option Last) (rest : List ℕ) → LastIsKept last → last_from (last_text last ++ rest) ≡ Some (last, rest)
unfolding last_from
last_again None rest kept = go_on boolean_exact _ false rest tt
last_again (Some last) rest kept =
    rw (append_assoc (boolean true) (hyper last.timestamp) (counted last.reply), append_assoc (boolean true) (reply_text last) rest) (go_on boolean_exact _ true (reply_text last ++ rest) tt ∙ reply_again last rest kept)

reply_written : (bytes : List ℕ) (behind : List ℕ) (last : Option Last) (rest : List ℕ) → AreBytes behind → bytes ≡ boolean true ++ behind → reply_from behind ≡ Some (last, rest) → WasWritten bytes last rest
unfolding reply_from
reply_written bytes behind last rest fits whole e =
    went_on hyper_exact _ (last, rest) behind fits e (λ timestamp r1 e1 f1 b1 n1.
    went_on short_exact _ (last, rest) r1 b1 n1 (λ reply r2 e2 f2 b2 n2.
    let read : Last = record { timestamp = timestamp; reply = reply } in
    let all : bytes ≡ last_text (Some read) ++ r2 = (whole ∙ ap (λ r. boolean true ++ r) (e1 ∙ ap (λ r. hyper timestamp ++ r) e2)) ∙ simp append_assoc in
    subst (λ (p : Option Last × List ℕ). WasWritten bytes p.0 p.1) (some_is (Some read, r2) (last, rest) n2) (all, (f1, f2.0, f2.1), b2)))

last_written : (bytes : List ℕ) (last : Option Last) (rest : List ℕ) → AreBytes bytes → last_from bytes ≡ Some (last, rest) → WasWritten bytes last rest
unfolding last_from
last_written bytes last rest fits e = went_on boolean_exact _ (last, rest) bytes fits e (λ executed r1 e1 f1 b1 n1. by executed r1 e1 b1 n1)
  where
    by : (executed : Bool) (r1 : List ℕ) → bytes ≡ boolean executed ++ r1 → AreBytes r1 → cond executed (reply_from r1) (Some (None, r1)) ≡ Some (last, rest) → WasWritten bytes last rest
    by true r1 e1 b1 n1 = reply_written bytes r1 last rest b1 e1 n1
    by false r1 e1 b1 n1 = subst (λ (p : Option Last × List ℕ). WasWritten bytes p.0 p.1) (some_is (None, r1) (last, rest) n1) (e1, tt, b1)

last_exact : IsExact last_text LastIsKept last_from
last_exact = record { again = last_again; written = last_written }

-- Tables -------------------------------------------------------------------------------------------------------------

pub tables_again : TablesAreReadAgain
unfolding table_from table_text
tables_again table rest kept =
    let few : length table ≤ most_clients = kept.clients in
    rw (append_assoc (word (length table)) (flat_map last_text table) rest)
    (go_on word_exact _ (length table) (flat_map last_text table ++ rest) (omega arith)
    ∙ rw (le-ltb most_clients (length table) few) (items_again last_exact table rest (recursion_from_All LastIsKept table kept.lasts)))

pub tables_written : TablesWereWritten
unfolding table_from table_text
tables_written bytes table rest fits e = went_on word_exact _ (table, rest) bytes fits e (λ count r1 e1 f1 b1 n1. by count (ltb most_clients count) r1 refl e1 b1 n1)
  where
    by : (count : ℕ) (many : Bool) (r1 : List ℕ) → ltb most_clients count ≡ many → bytes ≡ word count ++ r1 → AreBytes r1 → cond many None (items_from last_from count r1) ≡ Some (table, rest) → (bytes ≡ (word (length table) ++ flat_map last_text table) ++ rest) × IsKept table
    by count true r1 is e1 b1 n1 = absurd cc
    by count false r1 is e1 b1 n1 =
        let h = items_written last_exact count r1 table rest b1 n1 in
        let few : count ≤ most_clients = ltb-false most_clients count is in
        let same : length table ≡ count = h.1 in (
          e1 ∙ ap (λ r. word count ++ r) h.0 ∙ ap (λ n. word n ++ (flat_map last_text table ++ rest)) (sym same) ∙ sym (append_assoc (word (length table)) (flat_map last_text table) rest),
          record { clients = omega arith; lasts = All-from_recursion LastIsKept table h.2 },
        )

-- what was read of a text can be a table
pub read_kept : (bytes : List ℕ) (count : ℕ) (lasts : List ℕ) (table : Table) (rest : List ℕ) → ((k : ℕ) → slice_index bytes k < 256) → word_at bytes ≡ Ok (count, lasts) → count ≤ most_clients
    → items_from last_from count lasts ≡ Some (table, rest) → IsKept table
read_kept bytes count lasts table rest small first few read =
    let fits = bytes_are bytes small in
    let whole = (word_written bytes count lasts fits first).0 in
    let h = items_written last_exact count lasts table rest (behind (word count) lasts bytes fits whole) read in
    record { clients = omega (arith, h.1); lasts = All-from_recursion LastIsKept table h.2 }
