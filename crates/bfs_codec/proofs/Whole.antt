-- Whole texts of messages.
use Rattle.std.proofs.Common.{◌≡◌, List, Result, Ok, Err, Some, sym, ap, ◌∙◌}
use Rattle.std.specs.Prelude.{ℕ, IfOk}
use Rattle.bfs_model.specs.Bytes.Formats.{whole_from}
use Rattle.bfs_model.specs.Server.Stored.{AreBytes}
use Rattle.bfs_model.proofs.Public.{some_is, whole_again, whole_written}
use Rattle.bfs_codec.specs.Codes.{Gives}
use Rattle.bfs_messages.specs.Spelling.{signed_text}
use Rattle.bfs_messages.specs.Limits.{FitsSigned}
use Rattle.bfs_messages.specs.Fits.{FitsMessage}
use Rattle.bfs_messages.specs.Batches.{batch_text}
use Rattle.bfs_codec.specs.Parts.{batch_from}
use Rattle.bfs_codec.specs.Reading.{message_of}
use Rattle.bfs_codec.specs.Laws.{MessageIsReadAgain, MessageWasWritten, TextSpellsMessage, OneText, OneBatch}
use Rattle.bfs_messages.specs.declared.signed.Signed.{Signed}
use Rattle.bfs_messages.specs.declared.message.Message.{Message}
use Rattle.bfs_codec.specs.declared.error.DecodeError.{DecodeError}
use Rattle.bfs_codec.proofs.BatchesExact.{batch_exact}
use Rattle.bfs_codec.proofs.KindsExact.{signed_exact}

pub message_again : MessageIsReadAgain
message_again = signed_exact.again

pub message_written : MessageWasWritten
message_written = signed_exact.written

pub text_spells : TextSpellsMessage
unfolding message_of
text_spells m fits = whole_again signed_exact m fits

pub one_text : OneText
one_text m n f g e = some_is m n (sym (text_spells m f) ∙ ap message_of e ∙ text_spells n g)

pub spelled : (bytes : List ℕ) (r : Result (Signed Message) DecodeError) → AreBytes bytes → Gives r (message_of bytes) → IfOk r (λ m. (bytes ≡ signed_text m) × FitsSigned FitsMessage m)
unfolding message_of
spelled bytes (Ok m) fits e = whole_written signed_exact bytes m fits e
spelled bytes (Err d) fits e = tt

pub one_batch : OneBatch
one_batch a b f g e =
    let x : whole_from batch_from (batch_text a) ≡ Some a = whole_again batch_exact a f in
    let y : whole_from batch_from (batch_text b) ≡ Some b = whole_again batch_exact b g in
    some_is a b (sym x ∙ ap (whole_from batch_from) e ∙ y)
