-- The table that a document spells, and the names in it, by what `toml` reads.
use Rattle.std.proofs.Common.{◌≡◌, ℕ, Bool, not, List, [], ◌∷◌, Option, Some, None, String, Global, string_bytes, Bor, option_map, refl, inl, inr, Ok, Err}
use Rattle.std.proofs.lemmas.Bool.{cases_Bool}
use Rattle.std.proofs.lemmas.Str.{IsUtf8-from_is_utf8, is_utf8-from_IsUtf8}
use Rattle.std.specs.List.{find}
use Rattle.std.specs.Map.{keys_of}
use Rattle.std.specs.Str.{IsUtf8, is_utf8}
use Rattle.toml.specs.Data.{Members}
use Rattle.toml.specs.Parse.{parse_document}
use Rattle.toml.specs.View.{members_view}
use Rattle.toml.specs.declared.value.Value.{Value}
use Rattle.bfs_deployment.specs.Keys.{is_name_of}
use Rattle.bfs_deployment.specs.Tables.{table_spelled, unknown_name}
use Rattle.bfs_deployment.specs.declared.error.DeploymentError.TheVariants as error
use Rattle.bfs_deployment.specs.declared.key.Key.{Key}

pub spelled_in : (document : List ℕ) (said : Members) → IsUtf8 document → parse_document document ≡ Some said → table_spelled document ≡ Ok said
unfolding table_spelled
spelled_in document said utf8 reads = rw (is_utf8-from_IsUtf8 document utf8, reads)

pub spelled_otherwise : (document : List ℕ) → IsUtf8 document → parse_document document ≡ None → table_spelled document ≡ Err error.NotToml
unfolding table_spelled
spelled_otherwise document utf8 refused = rw (is_utf8-from_IsUtf8 document utf8, refused)

pub spelled_nowhere : (document : List ℕ) → (IsUtf8 document → ⊥) → table_spelled document ≡ Err error.NotUtf8
unfolding table_spelled
spelled_nowhere document not_utf8 =
    elim (cases_Bool (is_utf8 document)) [
      | inl utf8 ↦ absurd (not_utf8 (IsUtf8-from_is_utf8 document utf8))
      | inr other ↦ rw other
    ]

-- a text of the code is no name of these keys
abbrev pub is_unknown : List Key → String Global → Bool
is_unknown keys name = not (is_name_of keys (string_bytes name))

pub found_name : (keys : List Key) (entries : List (String Global × Value))
    → option_map string_bytes (find (is_unknown keys) (keys_of entries)) ≡ unknown_name keys (members_view entries)
found_name keys [] = refl
found_name keys (entry ∷ entries) =
    elim (cases_Bool (is_name_of keys (string_bytes entry.0))) [
      | inl known ↦ rw (known, found_name keys entries)
      | inr unknown ↦ rw unknown
    ]

pub name_behind : (found : Option (Bor (String Global)))
    → option_map (λ name. string_bytes name.now) found ≡ option_map string_bytes (option_map (λ name. name.now) found)
name_behind None = refl
name_behind (Some name) = refl
