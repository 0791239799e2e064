use Rattle.std.proofs.Common.{◌≡◌, ℕ, List, ◌++◌, length, ap, ◌∙◌, arith}
use Rattle.std.specs.Int.{to_be_bytes, w32}
use Rattle.lms.specs.Keys.{public_key_bytes}
use Rattle.lms.proofs.Parts.{two_of}
use Rattle.lms.proofs.hss.HssPublicKey.to_bytes.Goals as goal

pub returns : goal.returns
returns c =
    let key = c.args.self.now in
    let levels : c.to_be_bytes.result ≡ to_be_bytes w32 key.levels = c.to_be_bytes.ensures in
    let rest : c.to_bytes.result ≡ public_key_bytes key.key = c.to_bytes.ensures in
    let long : length c.to_bytes.result ≡ 56 = omega arith in
    two_of c.to_be_bytes.result c.to_bytes.result c.put_at.new.bytes c.put_at-2.new.bytes 4 (ap length levels) (omega (arith, long)) (omega arith)
    c.put_at.ensures.front c.put_at-2.ensures.front
    ∙ ap (λ (l : List ℕ). l ++ c.to_bytes.result) levels ∙ ap (λ (l : List ℕ). to_be_bytes w32 key.levels ++ l) rest
