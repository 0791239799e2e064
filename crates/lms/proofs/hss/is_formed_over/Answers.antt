use Rattle.std.proofs.Common.{◌≡◌, ◌-◌, ◌+◌, ℕ, suc, Bool, true, List, Some, ap, sym, ◌∙◌, arith}
use Rattle.lms.specs.declared.public_key.PublicKey.{PublicKey}
use Rattle.lms.specs.Keys.{is_formed, public_key_in}
use Rattle.lms.specs.Levels.{first_signature, is_formed_over, next_key}
use Rattle.lms.proofs.Nested.{behind_part, first_part, last_formed, next_part, formed_none, formed_refused, formed_short, formed_step}
use Rattle.lms.proofs.hss.is_formed_over.Goals as goal

-- the number of levels left, where there is one more
ended : (all b : Bool) (left n : ℕ) (key : PublicKey) (bytes : List ℕ) → left ≡ suc n → all ≡ is_formed_over left (Some key) bytes
    → is_formed_over (suc n) (Some key) bytes ≡ b → all ≡ b
ended all b left n key bytes more before now = before ∙ ap (λ k. is_formed_over k (Some key) bytes) more ∙ now

pub returns-then-rest-length : goal.returns-then-rest-length
returns-then-rest-length c =
    let l = c.loop-level in
    let n = c.args.below - (l._level + 1) in
    let told = c.signature_length-length.ensures in
    sym (ended _ _ (c.args.below - l._level) n l.key l.rest.now (omega arith) l.invariant (formed_short n l.key l.rest.now (omega (arith, told, c.if-rest-length.true))))

pub returns-then-not-is_formed : goal.returns-then-not-is_formed
returns-then-not-is_formed c =
    let l = c.loop-level in
    let n = c.args.below - (l._level + 1) in
    let told = c.signature_length-length.ensures in
    let first = first_part l.key _ l.rest.now _ told c.split_at.ensures.front in
    let next = next_part l.key _ l.rest.now _ _ told c.split_at.ensures.back c.split_at-in-loop-level.ensures.front in
    sym (ended _ _ (c.args.below - l._level) n l.key l.rest.now (omega arith) l.invariant (formed_refused n l.key l.rest.now cc))

pub returns-in-None : goal.returns-in-None
returns-in-None c =
    let l = c.loop-level in
    let n = c.args.below - (l._level + 1) in
    let told = c.signature_length-length.ensures in
    let next = next_part l.key _ l.rest.now _ _ told c.split_at.ensures.back c.split_at-in-loop-level.ensures.front in
    sym (ended _ _ (c.args.below - l._level) n l.key l.rest.now (omega arith) l.invariant (formed_none n l.key l.rest.now cc))

pub loop-level-preserved : goal.loop-level-preserved
loop-level-preserved c =
    let l = c.loop-level in
    let n = c.args.below - (l._level + 1) in
    let told = c.signature_length-length.ensures in
    let first = first_part l.key _ l.rest.now _ told c.split_at.ensures.front in
    let next = next_part l.key _ l.rest.now _ _ told c.split_at.ensures.back c.split_at-in-loop-level.ensures.front in
    let behind = behind_part l.key _ l.rest.now _ _ told c.split_at.ensures.back c.split_at-in-loop-level.ensures.back in
    let signed : is_formed l.key.lms l.key.ots (first_signature l.key l.rest.now) ≡ true = cc in
    let found : public_key_in (next_key l.key l.rest.now) ≡ Some c.in-Some.next = cc in
    let step = formed_step n l.key c.in-Some.next l.rest.now signed found in
    ended _ _ (c.args.below - l._level) n l.key l.rest.now (omega arith) l.invariant
    (step ∙ ap (λ (b : List ℕ). is_formed_over n (Some c.in-Some.next) b) (sym behind))

pub returns : goal.returns
returns c =
    let l = c.loop-level in
    let none : c.args.below - l._level ≡ 0 = omega arith in
    c.is_formed-2.ensures ∙ sym (l.invariant ∙ ap (λ k. is_formed_over k (Some l.key) l.rest.now) none ∙ last_formed l.key l.rest.now)
