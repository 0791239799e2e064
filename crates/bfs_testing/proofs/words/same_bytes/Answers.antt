-- Bytes that are spelled alike in hexadecimal are the same, since the text is read back.
use Rattle.std.proofs.Common.{◌≡◌, ℕ, List, slice_index_or, Fits, w8, arith, ap, ◌∙◌}
use Rattle.std.proofs.lemmas.Result.{IfOk-at_ok, IfOk-weaker}
use Rattle.std.specs.String.{string_bytes}
use Rattle.hex.specs.Hex.{IsBytes, decode_of, encode_lower}
use Rattle.hex.proofs.HexLemmas.{decode_of-encode_lower, decode_of-same}
use Rattle.bfs_testing.proofs.words.same_bytes.Goals as goal

are_bytes : (bytes : List ℕ) → ((i : ℕ) → Fits w8 (slice_index_or bytes i 0)) → IsBytes bytes
are_bytes bytes fits = λ i. let f = fits i in omega arith

read_back : (given wanted : List ℕ) → IsBytes given → IsBytes wanted → encode_lower given ≡ encode_lower wanted → given ≡ wanted
read_back given wanted one two same = decode_of-same (encode_lower given) given wanted (decode_of-encode_lower given one) (ap decode_of same ∙ decode_of-encode_lower wanted two)

pub returns : goal.returns
returns c =
    let text : string_bytes c.in_ok-encode.field-0 ≡ encode_lower c.args.wanted.now = IfOk-at_ok _ c.in_ok-encode.was c.encode.ensures in
    IfOk-weaker c.spells.result (λ _. encode_lower c.args.given.now ≡ c.as_str.result.now) (λ _. c.args.given.now ≡ c.args.wanted.now) (λ _ same. read_back c.args.given.now c.args.wanted.now (are_bytes c.args.given.now c.type_inv.given) (are_bytes c.args.wanted.now c.type_inv.wanted) (same ∙ c.as_str.ensures.value ∙ text)) c.spells.ensures
