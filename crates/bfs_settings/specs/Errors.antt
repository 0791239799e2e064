-- The numbers of the refusals.
use Rattle.std.specs.Prelude.{ℕ}
use Rattle.bfs_settings.specs.declared.error.SettingsError.{SettingsError}
use Rattle.bfs_settings.specs.declared.error.SettingsError.TheVariants as error

abbrev pub settings_error_code : SettingsError → ℕ
settings_error_code error.BadSettings = 43
settings_error_code error.Memory = 40
