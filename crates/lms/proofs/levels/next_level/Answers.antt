use Rattle.std.proofs.Common.{◌≡◌, None, ap, sym, ◌∙◌, arith}
use Rattle.lms.specs.Keys.{public_key_in}
use Rattle.lms.specs.Levels.{next_key}
use Rattle.lms.proofs.Nested.{first_part, next_part, over_none, over_refused, over_short}
use Rattle.lms.proofs.Upper.{if_none}
use Rattle.lms.proofs.levels.next_level.Goals as goal

pub returns-then-bytes-length-clause-none : goal.returns-then-bytes-length-clause-none
returns-then-bytes-length-clause-none c = λ n text.
    over_short n c.args.key.now text c.args.bytes.now (omega (arith, c.signature_length-length.ensures, c.if-bytes-length.true))

pub returns-then-not-verify-clause-none : goal.returns-then-not-verify-clause-none
returns-then-not-verify-clause-none c = λ n text.
    let key = c.args.key.now in
    let bytes = c.args.bytes.now in
    let told = c.signature_length-length.ensures in
    let first = first_part key _ bytes _ told c.split_at.ensures.front in
    let next = next_part key _ bytes _ _ told c.split_at.ensures.back c.split_at-2.ensures.front in
    over_refused n key text bytes cc

pub returns-in_err-next-clause-none : goal.returns-in_err-next-clause-none
returns-in_err-next-clause-none c =
    let key = c.args.key.now in
    let bytes = c.args.bytes.now in
    let told = c.signature_length-length.ensures in
    let next = next_part key _ bytes _ _ told c.split_at.ensures.back c.split_at-2.ensures.front in
    let none : public_key_in (next_key key bytes) ≡ None = sym (ap public_key_in next) ∙ sym c.from_bytes.ensures ∙ c.in_err-next.was in
    if_none c.from_residual.result (λ n text. over_none n key text bytes none)
