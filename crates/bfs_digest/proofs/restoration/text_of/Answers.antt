-- What was read of the bytes tells what they are.
use Rattle.std.proofs.Common.{refl, sym, ap, ◌∙◌}
use Rattle.bfs_digest.specs.Inside.TextReading.{version_from}
use Rattle.bfs_digest.specs.Inside.Taking.{IsText}
use Rattle.bfs_model.proofs.Public.{bytes_are}
use Rattle.bfs_digest.proofs.Restoring.{unread_is_malformed, no_other_version, unspelled_is_malformed, other_version, not_malformed, text_records}
use Rattle.bfs_digest.proofs.restoration.text_of.Goals as goal

pub returns-in_default-clause-malformed : goal.returns-in_default-clause-malformed
returns-in_default-clause-malformed c = (λ told. unread_is_malformed c.args.oldest c.args.bytes.now (ap version_from (sym c.new-reader.ensures) ∙ c.in_default.ensures), λ malformed. refl)

pub returns-in_default-clause-wrong_version : goal.returns-in_default-clause-wrong_version
returns-in_default-clause-wrong_version c = (λ told. absurd cc, λ other. absurd ((unread_is_malformed c.args.oldest c.args.bytes.now (ap version_from (sym c.new-reader.ensures) ∙ c.in_default.ensures)).0 other))

pub returns-then-not-is_taken-clause-malformed : goal.returns-then-not-is_taken-clause-malformed
returns-then-not-is_taken-clause-malformed c =
    let fits = bytes_are c.args.bytes.now (λ k. (c.type_inv.bytes k).fits) in
    let other = other_version c.args.oldest c.args.bytes.now c.in-Ok.version c.version.new.self fits (ap version_from (sym c.new-reader.ensures) ∙ c.in-Ok.ensures) (sym c.is_taken.ensures ∙ c.if-not-is_taken.true) in
    (λ told. absurd cc, λ malformed. absurd (malformed.0 other))

pub returns-then-not-is_taken-clause-wrong_version : goal.returns-then-not-is_taken-clause-wrong_version
returns-then-not-is_taken-clause-wrong_version c =
    let fits = bytes_are c.args.bytes.now (λ k. (c.type_inv.bytes k).fits) in
    let other = other_version c.args.oldest c.args.bytes.now c.in-Ok.version c.version.new.self fits (ap version_from (sym c.new-reader.ensures) ∙ c.in-Ok.ensures) (sym c.is_taken.ensures ∙ c.if-not-is_taken.true) in
    (λ told. other, λ other_one. refl)

pub returns-in-Ok-spelled-clause-ok : goal.returns-in-Ok-spelled-clause-ok
returns-in-Ok-spelled-clause-ok c = record {
  version = c.in-Ok.version;
  taken = sym c.is_taken.ensures ∙ c.if-not-is_taken.false;
  rest = c.version.new.self;
  begun = ap version_from (sym c.new-reader.ensures) ∙ c.in-Ok.ensures;
  spelled = c.in-Ok-spelled.ensures.ok;
}

pub returns-in-Ok-spelled-clause-records : goal.returns-in-Ok-spelled-clause-records
returns-in-Ok-spelled-clause-records c =
    let fits = bytes_are c.args.bytes.now (λ k. (c.type_inv.bytes k).fits) in
    let begun = ap version_from (sym c.new-reader.ensures) ∙ c.in-Ok.ensures in
    let taken = sym c.is_taken.ensures ∙ c.if-not-is_taken.false in
    let text : IsText c.args.oldest c.args.bytes.now c.in-Ok-spelled.text.0 c.in-Ok-spelled.text.1.now = record { version = c.in-Ok.version; taken = taken; rest = c.version.new.self; begun = begun; spelled = c.in-Ok-spelled.ensures.ok } in
    text_records c.args.oldest c.args.bytes.now c.in-Ok-spelled.text.0 c.in-Ok-spelled.text.1.now fits text

pub returns-in-Ok-spelled-clause-malformed : goal.returns-in-Ok-spelled-clause-malformed
returns-in-Ok-spelled-clause-malformed c =
    let fits = bytes_are c.args.bytes.now (λ k. (c.type_inv.bytes k).fits) in
    let begun = ap version_from (sym c.new-reader.ensures) ∙ c.in-Ok.ensures in
    let taken = sym c.is_taken.ensures ∙ c.if-not-is_taken.false in
    let text : IsText c.args.oldest c.args.bytes.now c.in-Ok-spelled.text.0 c.in-Ok-spelled.text.1.now = record { version = c.in-Ok.version; taken = taken; rest = c.version.new.self; begun = begun; spelled = c.in-Ok-spelled.ensures.ok } in
    (λ told. absurd cc, λ malformed. absurd (not_malformed c.args.oldest c.args.bytes.now c.in-Ok-spelled.text.0 c.in-Ok-spelled.text.1.now fits text malformed))

pub returns-in-Ok-spelled-clause-wrong_version : goal.returns-in-Ok-spelled-clause-wrong_version
returns-in-Ok-spelled-clause-wrong_version c =
    let begun = ap version_from (sym c.new-reader.ensures) ∙ c.in-Ok.ensures in
    let taken = sym c.is_taken.ensures ∙ c.if-not-is_taken.false in
    (λ told. absurd cc, λ other. absurd (no_other_version c.args.oldest c.in-Ok.version c.args.bytes.now c.version.new.self taken begun other))

pub returns-in-Err-clause-malformed : goal.returns-in-Err-clause-malformed
returns-in-Err-clause-malformed c =
    let begun = ap version_from (sym c.new-reader.ensures) ∙ c.in-Ok.ensures in
    let taken = sym c.is_taken.ensures ∙ c.if-not-is_taken.false in
    (λ told. unspelled_is_malformed c.args.oldest c.in-Ok.version c.args.bytes.now c.version.new.self taken begun c.in-Err.ensures.err, λ malformed. refl)

pub returns-in-Err-clause-wrong_version : goal.returns-in-Err-clause-wrong_version
returns-in-Err-clause-wrong_version c =
    let begun = ap version_from (sym c.new-reader.ensures) ∙ c.in-Ok.ensures in
    let taken = sym c.is_taken.ensures ∙ c.if-not-is_taken.false in
    (λ told. absurd cc, λ other. absurd (no_other_version c.args.oldest c.in-Ok.version c.args.bytes.now c.version.new.self taken begun other))
