-- What ties reading an item to writing it: what is written is read again, whatever follows it, and what a strict reader
-- reads stood there as it is written.
use Rattle.std.specs.Prelude.{◌≡◌, ℕ, ◌<◌, ◌≤◌, ◌^◌, Bool, true, List, ◌++◌, length, Some, Ok}
use Rattle.bfs_model.specs.Bytes.Items.{word_at, hyper_at, boolean_at, fixed_at, opaque_at, word, hyper, boolean, fixed, counted}
use Rattle.bfs_model.specs.Bytes.Arguments.{handle, handle_id}
use Rattle.bfs_model.specs.Server.Stored.{AreBytes}

-- What is written is read again -----------------------------------------------------------------------------------

abbrev pub WordIsReadAgain : Type 0
WordIsReadAgain = (n : ℕ) (rest : List ℕ) → n < 2 ^ 32 → word_at (word n ++ rest) ≡ Ok (n, rest)

abbrev pub HyperIsReadAgain : Type 0
HyperIsReadAgain = (n : ℕ) (rest : List ℕ) → n < 2 ^ 64 → hyper_at (hyper n ++ rest) ≡ Ok (n, rest)

abbrev pub BooleanIsReadAgain : Type 0
BooleanIsReadAgain = (b : Bool) (rest : List ℕ) → boolean_at (boolean b ++ rest) ≡ Ok (b, rest)

abbrev pub FixedIsReadAgain : Type 0
FixedIsReadAgain = (strict : Bool) (item rest : List ℕ) → fixed_at strict (length item) (fixed item ++ rest) ≡ Ok (item, rest)

abbrev pub OpaqueIsReadAgain : Type 0
OpaqueIsReadAgain = (strict : Bool) (max : ℕ) (item rest : List ℕ) → length item ≤ max → length item < 2 ^ 32
    → opaque_at strict max (counted item ++ rest) ≡ Ok (item, rest)

-- What is read was written so -------------------------------------------------------------------------------------

abbrev pub WordWasWritten : Type 0
WordWasWritten = (bytes : List ℕ) (n : ℕ) (rest : List ℕ) → AreBytes bytes → word_at bytes ≡ Ok (n, rest)
    → (bytes ≡ word n ++ rest) × (n < 2 ^ 32)

abbrev pub HyperWasWritten : Type 0
HyperWasWritten = (bytes : List ℕ) (n : ℕ) (rest : List ℕ) → AreBytes bytes → hyper_at bytes ≡ Ok (n, rest)
    → (bytes ≡ hyper n ++ rest) × (n < 2 ^ 64)

abbrev pub BooleanWasWritten : Type 0
BooleanWasWritten = (bytes : List ℕ) (b : Bool) (rest : List ℕ) → AreBytes bytes → boolean_at bytes ≡ Ok (b, rest)
    → bytes ≡ boolean b ++ rest

abbrev pub FixedWasWritten : Type 0
FixedWasWritten = (count : ℕ) (bytes item rest : List ℕ) → fixed_at true count bytes ≡ Ok (item, rest)
    → (bytes ≡ fixed item ++ rest) × (length item ≡ count)

abbrev pub OpaqueWasWritten : Type 0
OpaqueWasWritten = (max : ℕ) (bytes item rest : List ℕ) → AreBytes bytes → opaque_at true max bytes ≡ Ok (item, rest)
    → (bytes ≡ counted item ++ rest) × (length item ≤ max)

-- File handles ------------------------------------------------------------------------------------------------------

abbrev pub HandleLeadsToItsFile : Type 0
HandleLeadsToItsFile = (id : ℕ) → id < 2 ^ 32 → handle_id (handle id) ≡ Some id

abbrev pub OnlyTheHandleLeadsToAFile : Type 0
OnlyTheHandleLeadsToAFile = (bytes : List ℕ) (id : ℕ) → handle_id bytes ≡ Some id → bytes ≡ handle id
