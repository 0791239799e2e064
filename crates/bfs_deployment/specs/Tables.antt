-- What a document and its tables say, or the first fault.
use Rattle.std.specs.Prelude.{ℕ, not, List, [], ◌∷◌, Option, Some, None, Result, Ok, Err, find, pos, if◌then◌else◌}
use Rattle.std.specs.Str.{is_utf8}
use Rattle.toml.specs.Data.{Data, string, integer, Items, no_items, item, Members, no_members, member, get_member}
use Rattle.toml.specs.Parse.{parse_document}
use Rattle.bfs_model.specs.Bytes.Items.{◌>>=◌}
use Rattle.bfs_settings.specs.Settings.{is_between}
use Rattle.bfs_deployment.specs.Keys.{is_name_of, name_of}
use Rattle.bfs_deployment.specs.declared.error.DeploymentError.{DeploymentError}
use Rattle.bfs_deployment.specs.declared.error.DeploymentError.TheVariants as error
use Rattle.bfs_deployment.specs.declared.key.Key.{Key}

-- a value, or why there is none
abbrev pub Reading : Type 0 → Type 0
Reading A = Result A DeploymentError

abbrev pub some_or : {A : Type 0} → DeploymentError → Option A → Reading A
some_or fault None = Err fault
some_or fault (Some value) = Ok value

abbrev pub refused_or : {A : Type 0} → Option DeploymentError → Reading A → Reading A
refused_or (Some fault) given = Err fault
refused_or None given = given

-- the table that a document spells
unfoldable pub table_spelled : List ℕ → Reading Members
table_spelled document = if is_utf8 document then some_or error.NotToml (parse_document document) else Err error.NotUtf8

abbrev pub names_in : Members → List (List ℕ)
names_in no_members = []
names_in (member name value more) = name ∷ names_in more

-- the first name that is none of these keys'
abbrev pub unknown_name : (keys : List Key) → Members → Option (List ℕ)
unknown_name keys members = find (λ name. not (is_name_of keys name)) (names_in members)

-- the value at a key, which may not be missing
abbrev pub needed : Key → Members → Reading Data
needed key members = some_or (error.Missing key) (get_member (name_of key) members)

-- what a key says, or the default where it isn't there
abbrev pub said_or : {A : Type 0} → (default : A) → (Data → Reading A) → Option Data → Reading A
said_or default read None = Ok default
said_or default read (Some value) = read value

abbrev pub number_in : Key → (least most : ℕ) → Data → Reading ℕ
number_in key least most (integer (pos number)) = if is_between least most number then Ok number else Err (error.OutOfBounds key least most)
number_in key least most (integer _) = Err (error.OutOfBounds key least most)
number_in key least most _ = Err (error.WrongType key)

abbrev pub number_at : Key → (least most : ℕ) → Members → Reading ℕ
number_at key least most members = needed key members >>= number_in key least most

abbrev pub text_in : Key → Data → Reading (List ℕ)
text_in key (string text) = Ok text
text_in key _ = Err (error.WrongType key)

abbrev pub texts_in : Key → Items → Reading (List (List ℕ))
texts_in key no_items = Ok []
texts_in key (item value more) = do
  text ← text_in key value
  texts ← texts_in key more
  Ok (text ∷ texts)
