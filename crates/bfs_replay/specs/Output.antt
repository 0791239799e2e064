-- The lines that a run prints.
use Rattle.std.specs.Prelude.{ℕ, ◌++◌, List, [], ◌∷◌, Option, Some, None, codes, decimal, nat_lt, if◌then◌else◌}
use Rattle.std.specs.List.{flat_map}
use Rattle.hex.specs.Hex.{encode_lower}
use Rattle.bfs_clients.specs.Clients.{Clients}
use Rattle.bfs_clients.specs.Tallies.{Tally, agreed, result_to}
use Rattle.bfs_cluster.specs.declared.standings.Standing.{Standing}
use Rattle.bfs_cluster.specs.declared.standings.Standing.TheVariants as standing
use Rattle.bfs_node.specs.Nodes.{Messages}
use Rattle.bfs_trace.specs.Events.{Request}

-- Results --------------------------------------------------------------------------------------------------------------

-- a result as it is printed: lower-case hexadecimal digits, `-` for no bytes, or `none` where there is no result
abbrev pub result_text : Option (List ℕ) → List ℕ
result_text None = codes "none"
result_text (Some []) = codes "-"
result_text (Some (byte ∷ bytes)) = encode_lower (byte ∷ bytes)

-- the line that tells it: `c<client> t<timestamp> <result>`
unfoldable pub result_line : (client timestamp : ℕ) → Option (List ℕ) → List ℕ
result_line client timestamp result = codes "c" ++ decimal client ++ codes " t" ++ decimal timestamp ++ codes " " ++ result_text result ++ codes "\n"

-- a line for each request, with what its client makes of replies
abbrev pub result_lines : Clients → (replies : Messages) → List Request → List ℕ
result_lines clients replies requests = flat_map (λ request. result_line request.client request.timestamp (result_to clients replies request.client request.timestamp)) requests

abbrev pub line_if_answered : (client timestamp : ℕ) → Option (List ℕ) → List ℕ
line_if_answered client timestamp None = []
line_if_answered client timestamp (Some result) = result_line client timestamp (Some result)

abbrev pub answered_line : Tally → List ℕ
answered_line tally = line_if_answered tally.client tally.timestamp (agreed tally)

-- a line for each tally that has a result
abbrev pub answered_lines : List Tally → List ℕ
answered_lines tallies = flat_map answered_line tallies

-- Views ----------------------------------------------------------------------------------------------------------------

-- the line that tells the view: `view <view>`
unfoldable pub view_line : (view : ℕ) → List ℕ
view_line view = codes "view " ++ decimal view ++ codes "\n"

-- only a view above the one before it has a line
abbrev pub view_lines : (before view : ℕ) → List ℕ
view_lines before view = if nat_lt before view then view_line view else []

-- Replicas -------------------------------------------------------------------------------------------------------------

-- the line that tells the digest of a replica: `digest <replica> <hex>`
unfoldable pub digest_line : (replica : ℕ) → (digest : List ℕ) → List ℕ
digest_line replica digest = codes "digest " ++ decimal replica ++ codes " " ++ encode_lower digest ++ codes "\n"

-- the line of one that has executed less than another: `behind <replica> <last executed>`
unfoldable pub behind_line : (replica last : ℕ) → List ℕ
behind_line replica last = codes "behind " ++ decimal replica ++ codes " " ++ decimal last ++ codes "\n"

abbrev pub standing_line : Standing → List ℕ
standing_line (standing.Digest replica digest) = digest_line replica digest
standing_line (standing.Behind replica last) = behind_line replica last

abbrev pub standing_lines : List Standing → List ℕ
standing_lines standings = flat_map standing_line standings
