-- The table that a document spells, and its keys, by what `toml` reads.
use Rattle.std.proofs.Common.{◌≡◌, ℕ, Bool, ◌||◌, List, [], ◌∷◌, Some, None, String, Global, string_bytes, Bor, map, refl, ap, inl, inr}
use Rattle.std.proofs.lemmas.Bool.{cases_Bool}
use Rattle.std.proofs.lemmas.Str.{IsUtf8-from_is_utf8, is_utf8-from_IsUtf8}
use Rattle.std.specs.List.{list_all, list_any}
use Rattle.std.specs.Map.{keys_of}
use Rattle.std.specs.Str.{IsUtf8, bytes_eq, is_utf8}
use Rattle.toml.specs.Data.{Members}
use Rattle.toml.specs.Parse.{parse_document}
use Rattle.toml.specs.View.{members_view}
use Rattle.toml.specs.declared.value.Value.{Value}
use Rattle.bfs_settings.specs.Tables.{has_only, table_spelled}

-- text is one of some that are borrowed
abbrev pub is_among : List (Bor (List ℕ)) → List ℕ → Bool
is_among names text = list_any (λ name. bytes_eq text name.now) names

is_among-map : (names : List (Bor (List ℕ))) (text : List ℕ) → list_any (bytes_eq text) (map (λ name. name.now) names) ≡ is_among names text
is_among-map [] text = refl
is_among-map (name ∷ names) text = ap (λ more. bytes_eq text name.now || more) (is_among-map names text)

pub has_only-view : (names : List (Bor (List ℕ))) (entries : List (String Global × Value))
    → has_only (map (λ name. name.now) names) (members_view entries) ≡ list_all (λ key. is_among names (string_bytes key)) (keys_of entries)
has_only-view names [] = refl
has_only-view names (entry ∷ entries) = rw (is_among-map names (string_bytes entry.0), has_only-view names entries)

pub spelled_in : (document : List ℕ) (said : Members) → IsUtf8 document → parse_document document ≡ Some said → table_spelled document ≡ Some said
unfolding table_spelled
spelled_in document said utf8 reads = rw (is_utf8-from_IsUtf8 document utf8, reads)

pub spelled_nowhere : (document : List ℕ) → (IsUtf8 document → parse_document document ≡ None) → table_spelled document ≡ None
unfolding table_spelled
spelled_nowhere document refused =
    elim (cases_Bool (is_utf8 document)) [
      | inl utf8 ↦ rw (utf8, refused (IsUtf8-from_is_utf8 document utf8))
      | inr not_utf8 ↦ rw not_utf8
    ]
