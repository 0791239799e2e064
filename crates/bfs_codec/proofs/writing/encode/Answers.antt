use Rattle.std.proofs.Common.{◌≡◌, ◌++◌, ap, ◌∙◌}
use Rattle.bfs_messages.specs.Spelling.{signed_text}
use Rattle.bfs_codec.specs.Reading.{message_of}
use Rattle.bfs_codec.proofs.Whole.{text_spells}
use Rattle.bfs_codec.proofs.writing.encode.Goals as goal

pub returns-clause-again : goal.returns-clause-again
returns-clause-again c =
    let text : c.put_message.new.bytes.items ≡ signed_text c.args.signed.now = c.in_ok-put_message.ensures.text ∙ ap (λ before. before ++ signed_text c.args.signed.now) c.new-bytes.ensures.items in
    ap message_of text ∙ text_spells c.args.signed.now c.in_ok-put_message.ensures.fits
