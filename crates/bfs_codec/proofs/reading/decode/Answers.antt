use Rattle.std.proofs.Common.{Ok, sym, ap, ◌∙◌, arith}
use Rattle.bfs_model.proofs.Public.{bytes_are}
use Rattle.bfs_codec.specs.Reading.{message_of}
use Rattle.bfs_codec.proofs.Whole.{spelled, text_spells}
use Rattle.bfs_codec.proofs.reading.decode.Goals as goal

pub returns-in-Ok-clause-found : goal.returns-in-Ok-clause-found
returns-in-Ok-clause-found c = spelled c.args.bytes.now (Ok c.in-Ok.signed) (bytes_are c.args.bytes.now (λ i. omega (arith, c.type_inv.bytes i))) c.in-Ok.ensures

pub returns-in-Ok-clause-only : goal.returns-in-Ok-clause-only
returns-in-Ok-clause-only c = λ m fits e. sym (ap message_of e ∙ text_spells m fits) ∙ c.in-Ok.ensures

pub returns-in-Err-clause-only : goal.returns-in-Err-clause-only
returns-in-Err-clause-only c = λ m fits e. rw (c.why_unread.ensures, ap message_of e ∙ text_spells m fits) tt
