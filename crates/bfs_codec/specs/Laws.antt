-- What ties the text of a message to reading it.
use Rattle.std.specs.Prelude.{◌≡◌, ℕ, List, ◌++◌, Some}
use Rattle.bfs_model.specs.Server.Stored.{AreBytes}
use Rattle.bfs_messages.specs.Messages.{Batch}
use Rattle.bfs_messages.specs.Batches.{batch_text}
use Rattle.bfs_messages.specs.Limits.{FitsBatch, FitsSigned}
use Rattle.bfs_messages.specs.Spelling.{signed_text}
use Rattle.bfs_messages.specs.Fits.{FitsMessage}
use Rattle.bfs_codec.specs.Reading.{signed_from, message_of}
use Rattle.bfs_messages.specs.declared.signed.Signed.{Signed}
use Rattle.bfs_messages.specs.declared.message.Message.{Message}

-- a message that was written is read again, whatever follows it
abbrev pub MessageIsReadAgain : Type 0
MessageIsReadAgain = (m : Signed Message) (rest : List ℕ) → FitsSigned FitsMessage m → signed_from (signed_text m ++ rest) ≡ Some (m, rest)

-- where a message is read, it stands there as it is written
abbrev pub MessageWasWritten : Type 0
MessageWasWritten = (bytes : List ℕ) (m : Signed Message) (rest : List ℕ) → AreBytes bytes → signed_from bytes ≡ Some (m, rest) → (bytes ≡ signed_text m ++ rest) × FitsSigned FitsMessage m × AreBytes rest

-- the text of a message spells it
abbrev pub TextSpellsMessage : Type 0
TextSpellsMessage = (m : Signed Message) → FitsSigned FitsMessage m → message_of (signed_text m) ≡ Some m

-- messages with one text are one message
abbrev pub OneText : Type 0
OneText = (m n : Signed Message) → FitsSigned FitsMessage m → FitsSigned FitsMessage n → signed_text m ≡ signed_text n → m ≡ n

-- batches with one text are one batch
abbrev pub OneBatch : Type 0
OneBatch = (a b : Batch) → FitsBatch a → FitsBatch b → batch_text a ≡ batch_text b → a ≡ b
