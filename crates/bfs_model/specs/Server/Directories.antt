-- The entries of a directory: names, and what is listed of them.
use Rattle.std.specs.Prelude.{ℕ, ◌+◌, ◌-◌, ◌==◌, ◌||◌, Bool, min, List, [], ◌∷◌, length, filter, find, Option, codes, bytes_eq, nat_lt, nat_le, if◌then◌else◌}
use Rattle.std.specs.List.{list_any}
use Rattle.bfs_model.specs.Server.Limits.{most_data_bytes}
use Rattle.bfs_model.specs.Bytes.Items.{padding_of}
use Rattle.bfs_model.specs.Server.Tree.{Entry, Listing}

-- Names (RFC 1094 section 2.3.7) -------------------------------------------------------------------------------------

abbrev pub dot : List ℕ
dot = codes "."

abbrev pub dot_dot : List ℕ
dot_dot = codes ".."

-- an empty name, or one with a byte 0 or a `/`: no directory holds it
abbrev pub is_no_name : List ℕ → Bool
is_no_name name = length name == 0 || list_any (λ byte. byte == 0x00 || byte == 0x2F) name

-- such a name, or one that each directory has of itself: no call makes, takes or replaces it
abbrev pub is_bad_name : List ℕ → Bool
is_bad_name name = is_no_name name || bytes_eq name dot || bytes_eq name dot_dot

-- Entries ----------------------------------------------------------------------------------------------------------

-- the entry of that name
abbrev pub entry_named : List ℕ → List Entry → Option Entry
entry_named name entries = find (λ entry. bytes_eq entry.name name) entries

-- the entries without that of the name
abbrev pub without_name : List ℕ → List Entry → List Entry
without_name name [] = []
without_name name (entry ∷ entries) = if bytes_eq entry.name name then entries else entry ∷ without_name name entries

-- What is listed (RFC 1094 section 2.2.17) ---------------------------------------------------------------------------

-- `.`, `..` and the entries, by rising cookie
abbrev pub all_listed : (dir : ℕ) → Listing → List Entry
all_listed dir listing = (record { cookie = 1; name = dot; child = dir }) ∷ (record { cookie = 2; name = dot_dot; child = listing.parent }) ∷ listing.entries

-- those behind a cookie
abbrev pub listed_behind : (cookie : ℕ) → List Entry → List Entry
listed_behind cookie entries = filter (λ entry. nat_lt cookie entry.cookie) entries

-- the bytes that an entry takes in a reply
abbrev pub listed_size : Entry → ℕ
listed_size entry = 16 + length entry.name + padding_of (length entry.name)

-- the first entries, as many as so many bytes hold
abbrev pub held_by : (room : ℕ) → List Entry → List Entry
held_by room [] = []
held_by room (entry ∷ entries) = if nat_le (listed_size entry) room then entry ∷ held_by (room - listed_size entry) entries else []

-- a page of at most so many bytes, of which status, end of list and eof take 12
abbrev pub page_of : (count : ℕ) → List Entry → List Entry
page_of count entries = held_by (min count most_data_bytes - 12) entries
