-- The settings that a document of TOML says.
use Rattle.std.specs.Prelude.{ℕ, List, [], ◌∷◌, Option, None, codes, if◌then◌else◌}
use Rattle.std.specs.Result.{result_ok}
use Rattle.hex.specs.Hex.{decode_of}
use Rattle.toml.specs.Data.{Data, string, Members, get_member}
use Rattle.bfs_model.specs.Bytes.Call.{◌>>=◌}
use Rattle.bfs_settings.specs.Settings.{Settings, default_settings, settings_of}
use Rattle.bfs_settings.specs.Tables.{has_only, number_in, said_or, table_spelled}

-- the bytes that hexadecimal digits spell, in either case
abbrev pub bytes_in : Data → Option (List ℕ)
bytes_in (string text) = result_ok (decode_of text)
bytes_in _ = None

abbrev pub settings_said : Members → Option Settings
settings_said members = do
  f ← said_or default_settings.f number_in (get_member (codes "f") members)
  clients ← said_or default_settings.clients number_in (get_member (codes "clients") members)
  secret ← said_or default_settings.secret bytes_in (get_member (codes "secret") members)
  settings_of f clients secret

-- None where there is another key
unfoldable pub settings_in : Members → Option Settings
settings_in members = if has_only (codes "f" ∷ codes "clients" ∷ codes "secret" ∷ []) members then settings_said members else None

-- the settings that a document says
unfoldable pub settings_spelled : List ℕ → Option Settings
settings_spelled document = table_spelled document >>= settings_in
