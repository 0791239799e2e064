use Rattle.std.proofs.Common.{◌≡◌, length, ap, arith}
use Rattle.lms.proofs.Parts.{ended}
use Rattle.lms.proofs.digits.with_checksum.Goals as goal

pub returns : goal.returns
returns c =
    let long : length c.copy_from_slice.new.self ≡ 32 = omega (arith, ap length c.copy_from_slice.ensures.after) in
    let parts = ended c.copy_from_slice.new.self c.copy_from_slice-2.new.self long in
    cc (parts, c.copy_from_slice.ensures.after, c.copy_from_slice-2.ensures.after)
