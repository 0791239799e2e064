-- What the calls of a disk do, and what a crash may leave between two syncs.
use Rattle.std.specs.Prelude.{◌≡◌, ◌⊎◌, ℕ, ◌≤◌, List, [], ◌∷◌, ◌++◌, take, All, Option, Some, IsTrue}
use Rattle.bfs_journal.specs.Records.{IsBody, Splits, journal_of}
use Rattle.bfs_journal.specs.Rests.{is_front_of_record}

-- a front of the bytes stands behind what was there
abbrev pub Grown : (bytes old new : List ℕ) → Type 0
Grown bytes old new = (count : ℕ) × (new ≡ old ++ take count bytes)

-- each new outcome of a crash is an old outcome after a step
abbrev pub Follows : (List ℕ → List ℕ → Type 0) → (List ℕ → Type 0) → (List ℕ → Type 0) → Type 0
Follows step old new = (c : List ℕ) → new c → (d : List ℕ) × old d × step d c

-- a crash leaves this and nothing else
abbrev pub Only : (outcomes : List ℕ → Type 0) → (file : List ℕ) → Type 0
Only outcomes file = (c : List ℕ) → outcomes c → c ≡ file

-- time goes on: a crash since t might have left what it might have left before, or what it may leave now
pub record Elapses (before now : ℕ) (past since : ℕ → List ℕ → Type 0) (may_leave : List ℕ → Type 0) : Type 0 where
  pub later : before ≤ now
  pub nothing_else : (t : ℕ) (c : List ℕ) → t ≤ before → since t c → past t c ⊎ may_leave c

-- a crash at any moment since old leaves a file that has P
pub record LeavesOnly {D : Type 0} (moment : D → ℕ) (left_since : D → ℕ → List ℕ → Type 0) (old new : D) (P : List ℕ → Type 0) : Type 0 where
  pub later : moment old ≤ moment new
  pub each : (c : List ℕ) → left_since new (moment old) c → P c
  -- for a run that began earlier
  pub before : (t : ℕ) (c : List ℕ) → t ≤ moment old → left_since new t c → left_since old t c ⊎ P c

-- what is read of a file is these bodies, and behind them stands at most a front of a record
pub record ReadsAs (bodies : List (List ℕ)) (file : List ℕ) : Type 0 where
  pub rest : List ℕ
  pub split : Splits file bodies rest
  pub cut : IsTrue (is_front_of_record rest)

-- what is read of a file is these bodies, with one more or without it
abbrev pub IsBeforeOrAfter : List (List ℕ) → List ℕ → List ℕ → Type 0
IsBeforeOrAfter bodies body file = ReadsAs bodies file ⊎ ReadsAs (bodies ++ body ∷ []) file

-- the file is known, and is whole records, all of them on the disk
pub record IsSettled {D : Type 0} (seen : D → Option (List ℕ)) (may_leave : D → List ℕ → Type 0) (disk : D) (bodies : List (List ℕ)) : Type 0 where
  pub file : seen disk ≡ Some (journal_of bodies)
  pub each : All IsBody bodies
  pub durable : Only (may_leave disk) (journal_of bodies)
