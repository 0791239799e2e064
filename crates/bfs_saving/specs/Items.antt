-- Items of the text of a saved replica beside those of XDR (RFC 4506; this project's profile): what has no limit stands behind a length of 64 bits.
use Rattle.std.specs.Prelude.{ℕ, true, false, List, ◌++◌, length, take, drop, Option, Some, None, nat_lt, if◌then◌else◌}
use Rattle.std.specs.List.{flat_map, AllByRecursion}
use Rattle.bfs_model.specs.Bytes.Call.{◌>>=◌}
use Rattle.bfs_model.specs.Bytes.Formats.{Reading, as_from, boolean_from, hyper_from, items_from}
use Rattle.bfs_model.specs.Bytes.Items.{boolean, hyper}
use Rattle.bfs_model.specs.Server.Stored.{AreBytes, IsDouble}

-- Bytes --------------------------------------------------------------------------------------------------------------

-- behind their number, without padding
abbrev pub long_text : List ℕ → List ℕ
long_text bytes = hyper (length bytes) ++ bytes

-- they are bytes, and not too many for their number
abbrev pub FitsLong : List ℕ → Type 0
FitsLong bytes = IsDouble (length bytes) × AreBytes bytes

unfoldable pub long_from : List ℕ → Reading (List ℕ)
long_from bytes = do
  count ← hyper_from bytes
  if nat_lt (length count.1) count.0 then None else Some (take count.0 count.1, drop count.0 count.1)

-- Lists --------------------------------------------------------------------------------------------------------------

-- things behind their number
abbrev pub many_text : {A : Type 0} → (A → List ℕ) → List A → List ℕ
many_text text items = hyper (length items) ++ flat_map text items

abbrev pub FitMany : {A : Type 0} → (A → Type 0) → List A → Type 0
FitMany Fits items = IsDouble (length items) × AllByRecursion Fits items

unfoldable pub many_from : {A : Type 0} → (List ℕ → Reading A) → List ℕ → Reading (List A)
many_from from bytes = do
  count ← hyper_from bytes
  items_from from count.0 count.1

-- One or none (RFC 4506 section 4.19) --------------------------------------------------------------------------------

abbrev pub optional_text : {A : Type 0} → (A → List ℕ) → Option A → List ℕ
optional_text text None = boolean false
optional_text text (Some item) = boolean true ++ text item

abbrev pub FitsOptional : {A : Type 0} → (A → Type 0) → Option A → Type 0
FitsOptional Fits None = Unit {0}
FitsOptional Fits (Some item) = Fits item

unfoldable pub optional_from : {A : Type 0} → (List ℕ → Reading A) → List ℕ → Reading (Option A)
optional_from from bytes = do
  there ← boolean_from bytes
  if there.0 then as_from (λ item. Some item) from there.1 else Some (None, there.1)

-- What is made of what was read --------------------------------------------------------------------------------------

-- where something is made of it
abbrev pub made_from : {A B : Type 0} → (A → Option B) → (List ℕ → Reading A) → List ℕ → Reading B
made_from to from bytes = do
  read ← from bytes
  made ← to read.0
  Some (made, read.1)
