-- A handle leads to the file that it was made of, and nothing else leads there.
use Rattle.std.proofs.Common.{◌≡◌, ◌≢◌, ℕ, ◌^◌, ◌<◌, List, length, take, drop, Option, Some, None, refl, ap, ◌∙◌}
use Rattle.std.specs.Int.{w32, from_be_bytes}
use Rattle.std.specs.Str.{bytes_eq}
use Rattle.std.proofs.lemmas.Nat.{from_be_bytes-to_be_bytes_4}
use Rattle.std.proofs.lemmas.Slice.Eq.{bytes_eq-Decides}
use Rattle.std.proofs.lemmas.Option.{cond_some}
use Rattle.bfs_model.specs.Bytes.Items.{word}
use Rattle.bfs_model.specs.Bytes.Arguments.{handle, handle_id}
use Rattle.bfs_model.specs.Laws.Spelling.{HandleLeadsToItsFile, OnlyTheHandleLeadsToAFile}

-- the fileid that stands in a handle
abbrev id_in : List ℕ → ℕ
id_in bytes = from_be_bytes w32 (take 4 (drop 8 bytes))

pub length_of_handle : (id : ℕ) → length (handle id) ≡ 32
unfolding handle word
length_of_handle id = refl

id_in_handle : (id : ℕ) → id < 2 ^ 32 → id_in (handle id) ≡ id
unfolding handle word
id_in_handle id lt = from_be_bytes-to_be_bytes_4 id lt

pub handle_leads : HandleLeadsToItsFile
unfolding handle_id
handle_leads id lt = rw (id_in_handle id lt, (bytes_eq-Decides (handle id) (handle id)).1 refl) refl

pub only_handle_leads : OnlyTheHandleLeadsToAFile
unfolding handle_id
only_handle_leads bytes id e =
    let found = cond_some (bytes_eq bytes (handle (id_in bytes))) (id_in bytes) id e in
    (bytes_eq-Decides bytes (handle (id_in bytes))).0 found.0 ∙ ap handle found.1

-- bytes of another length than a handle's lead nowhere
nowhere : (bytes : List ℕ) (found : Option ℕ) → handle_id bytes ≡ found → length bytes ≢ 32 → found ≡ None
nowhere bytes None e other = refl
nowhere bytes (Some id) e other = absurd (other (ap length (only_handle_leads bytes id e) ∙ length_of_handle id))

pub other_lengths_lead_nowhere : (bytes : List ℕ) → length bytes ≢ 32 → handle_id bytes ≡ None
other_lengths_lead_nowhere bytes other = nowhere bytes (handle_id bytes) refl other
