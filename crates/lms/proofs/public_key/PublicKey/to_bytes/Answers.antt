use Rattle.std.proofs.Common.{◌≡◌, ℕ, List, ◌++◌, length, ap, ◌∙◌, arith}
use Rattle.std.specs.Int.{to_be_bytes, w32}
use Rattle.lms.specs.Types.{lms_code, ots_code}
use Rattle.lms.proofs.Parts.{four_of}
use Rattle.lms.proofs.public_key.PublicKey.to_bytes.Goals as goal

pub returns : goal.returns
returns c =
    let key = c.args.self.now in
    let lms : c.to_be_bytes.result ≡ to_be_bytes w32 (lms_code key.lms) = c.to_be_bytes.ensures ∙ ap (to_be_bytes w32) c.code.ensures in
    let ots : c.to_be_bytes-2.result ≡ to_be_bytes w32 (ots_code key.ots) = c.to_be_bytes-2.ensures ∙ ap (to_be_bytes w32) c.code-2.ensures in
    four_of c.to_be_bytes.result c.to_be_bytes-2.result key.id key.root c.put_at.new.bytes c.put_at-2.new.bytes c.put_at-3.new.bytes c.put_at-4.new.bytes
    (ap length lms) (ap length ots) (omega arith) (omega arith) (omega arith)
    c.put_at.ensures.front c.put_at-2.ensures.front c.put_at-3.ensures.front c.put_at-4.ensures.front
    ∙ ap (λ (l : List ℕ). l ++ (c.to_be_bytes-2.result ++ (key.id ++ key.root))) lms
    ∙ ap (λ (l : List ℕ). to_be_bytes w32 (lms_code key.lms) ++ (l ++ (key.id ++ key.root))) ots
