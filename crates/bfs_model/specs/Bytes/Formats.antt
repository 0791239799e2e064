-- How formats of this project's own are read, strictly: items of XDR (RFC 4506), one thing and then another, and lists.
use Rattle.std.specs.Prelude.{ℕ, zero, suc, ◌≤◌, Bool, true, List, [], ◌∷◌, ◌++◌, length, Option, Some, None, nat_lt, if◌then◌else◌}
use Rattle.std.specs.List.{flat_map, AllByRecursion}
use Rattle.std.specs.Result.{result_ok}
use Rattle.bfs_model.specs.Bytes.Call.{◌>>=◌}
use Rattle.bfs_model.specs.Bytes.Items.{word, word_at, hyper_at, boolean_at, fixed_at, opaque_at}

-- Items --------------------------------------------------------------------------------------------------------------

-- what was read, and the bytes behind it, where the bytes begin with such a thing
abbrev pub Reading : Type 0 → Type 0
Reading A = Option (A × List ℕ)

abbrev pub word_from : List ℕ → Reading ℕ
word_from bytes = result_ok (word_at bytes)

abbrev pub hyper_from : List ℕ → Reading ℕ
hyper_from bytes = result_ok (hyper_at bytes)

abbrev pub boolean_from : List ℕ → Reading Bool
boolean_from bytes = result_ok (boolean_at bytes)

-- so many bytes, whose number both sides know
abbrev pub fixed_from : (count : ℕ) → List ℕ → Reading (List ℕ)
fixed_from count bytes = result_ok (fixed_at true count bytes)

abbrev pub bytes_from : (most : ℕ) → List ℕ → Reading (List ℕ)
bytes_from most bytes = result_ok (opaque_at true most bytes)

-- One thing and then another -----------------------------------------------------------------------------------------

-- what was read, made into something else
abbrev pub as_from : {A B : Type 0} → (A → B) → (List ℕ → Reading A) → List ℕ → Reading B
as_from to from bytes = do
  read ← from bytes
  Some (to read.0, read.1)

-- only what meets a test
abbrev pub where_from : {A : Type 0} → (A → Bool) → (List ℕ → Reading A) → List ℕ → Reading A
where_from test from bytes = do
  read ← from bytes
  if test read.0 then Some read else None

-- a second thing, which may depend on the first
abbrev pub with_from : {A B : Type 0} → (List ℕ → Reading A) → (A → List ℕ → Reading B) → List ℕ → Reading (A × B)
with_from first second bytes = do
  one ← first bytes
  two ← second one.0 one.1
  Some ((one.0, two.0), two.1)

abbrev pub then_from : {A B : Type 0} → (List ℕ → Reading A) → (List ℕ → Reading B) → List ℕ → Reading (A × B)
then_from first second bytes = with_from first (λ _. second) bytes

-- Lists --------------------------------------------------------------------------------------------------------------

-- so many things
unfoldable pub items_from : {A : Type 0} → (List ℕ → Reading A) → (count : ℕ) → List ℕ → Reading (List A)
items_from from zero bytes = Some ([], bytes)
items_from from (suc count) bytes = do
  item ← from bytes
  items ← items_from from count item.1
  Some (item.0 ∷ items.0, items.1)

-- things behind their number
abbrev pub list_text : {A : Type 0} → (A → List ℕ) → List A → List ℕ
list_text text items = word (length items) ++ flat_map text items

abbrev pub FitsList : {A : Type 0} → (most : ℕ) → (A → Type 0) → List A → Type 0
FitsList most Fits items = (length items ≤ most) × AllByRecursion Fits items

-- at most so many of them
unfoldable pub list_from : {A : Type 0} → (most : ℕ) → (List ℕ → Reading A) → List ℕ → Reading (List A)
list_from most from bytes = do
  count ← word_from bytes
  if nat_lt most count.0 then None else items_from from count.0 count.1

-- Whole texts --------------------------------------------------------------------------------------------------------

-- what was read, where nothing is left
abbrev pub whole_from : {A : Type 0} → (List ℕ → Reading A) → List ℕ → Option A
whole_from from bytes = do
  read ← from bytes
  if nat_lt 0 (length read.1) then None else Some read.0
