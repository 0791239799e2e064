use Rattle.std.proofs.Common.{◌≡◌, ℕ, suc, ◌+◌, ◌<◌, ◌∙◌, List, [], ◌∷◌, ◌++◌, Ok, Err, length, get_or, drop, add-one, drop-cons, append_assoc, refl, sym, ap, arith, rules}
use Rattle.toml.specs.View.{items_view, view}
use Rattle.toml.specs.declared.value.Value.{Value}
use Rattle.lms.specs.declared.hss.HssPublicKey.{HssPublicKey}
use Rattle.bfs_model.specs.Bytes.Items.{◌>>=◌}
use Rattle.bfs_deployment.specs.Signers.{signer_in, signers_of}
use Rattle.bfs_deployment.specs.Tables.{Reading}
use Rattle.bfs_deployment.specs.declared.key.Key.{Key}
use Rattle.bfs_deployment.proofs.signers.signers_of.Goals as goal

moved : (found : List HssPublicKey) (signer : HssPublicKey) (given : Reading (List HssPublicKey))
    → ((given >>= (λ signers. Ok (signer ∷ signers))) >>= (λ more. Ok (found ++ more))) ≡ (given >>= (λ more. Ok ((found ++ signer ∷ []) ++ more)))
moved found signer (Ok more) = rw append_assoc refl
moved found signer (Err fault) = refl

-- a public key further
read_on : (key : Key) (value : Value) (left : List Value) (found : List HssPublicKey) (signer : HssPublicKey) → signer_in key (view value) ≡ Ok signer
    → (signers_of key (items_view (value ∷ left)) >>= (λ more. Ok (found ++ more))) ≡ (signers_of key (items_view left) >>= (λ more. Ok ((found ++ signer ∷ []) ++ more)))
read_on key value left found signer reads = rw reads (moved found signer (signers_of key (items_view left)))

next_of : (values : List Value) (place : ℕ) (value : Value) → place < length values → value ≡ get_or values place value
    → drop place values ≡ value ∷ drop (place + 1) values
next_of values place value within is = rw add-one (drop-cons values place value within ∙ ap (λ first. first ∷ drop (suc place) values) (sym is))

step : (key : Key) (values : List Value) (place : ℕ) (value : Value) (found items : List HssPublicKey) (signer : HssPublicKey)
    → place < length values → value ≡ get_or values place value → signer_in key (view value) ≡ Ok signer → items ≡ found ++ signer ∷ []
    → signers_of key (items_view values) ≡ (signers_of key (items_view (drop place values)) >>= (λ more. Ok (found ++ more)))
    → signers_of key (items_view values) ≡ (signers_of key (items_view (drop (place + 1) values)) >>= (λ more. Ok (items ++ more)))
step key values place value found items signer within is reads pushed so_far =
    let next : drop place values ≡ value ∷ drop (place + 1) values = next_of values place value within is in
    rw pushed (rw next at so_far ∙ read_on key value (drop (place + 1) values) found signer reads)

pub loop-value-preserved : goal.loop-value-preserved
loop-value-preserved c =
    step c.args.key c.args.values.now c.loop-value.value-index c.value-item.result c.loop-value.signers.items c.push.new.self.items c.in_ok-signer_in.field-0
    (omega arith) c.value-item.is (sym c.signer_in.ensures ∙ c.in_ok-signer_in.was) (search rules) c.loop-value.invariant
