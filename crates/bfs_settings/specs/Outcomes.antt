-- How an answer stands to what the definitions give.
use Rattle.std.specs.Prelude.{◌≡◌, ⊤, Option, Some, None, Result, Ok, Err}
use Rattle.bfs_settings.specs.declared.error.SettingsError.{SettingsError}
use Rattle.bfs_settings.specs.declared.error.SettingsError.TheVariants as error

-- a value is what is given, as `view` sees it, and a fault comes where nothing is; unspecified where memory ran out
abbrev pub Gives : {X Y : Type 0} → (view : X → Y) → Result X SettingsError → Option Y → Type 0
Gives view (Ok value) given = given ≡ Some (view value)
Gives view (Err error.BadSettings) given = given ≡ None
Gives view (Err error.Memory) given = ⊤
