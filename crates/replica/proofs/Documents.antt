-- What a principal's document says of its keys.
use Rattle.std.proofs.Common.{◌≡◌, ℕ, Bool, true, false, ◌&&◌, List, [], length, Option, Some, None, codes, if◌then◌else◌, sym, ap, refl}
use Rattle.toml.specs.Data.{Members, get_member}
use Rattle.lms.specs.Signers.{HssKey}
use Rattle.bfs_model.specs.Bytes.Call.{◌>>=◌}
use Rattle.bfs_auth.specs.Keys.{Keys, keys_from}
use Rattle.bfs_auth.specs.declared.pairwise.Pair.{Pair}
use Rattle.bfs_auth.specs.declared.principals.Principal.{Principal}
use Rattle.bfs_settings.specs.KeysDocument.{has_one_key_with_itself, is_system, keys_in, keys_said, keys_spelled, may_hold, me_in, pairs_in}
use Rattle.bfs_settings.specs.Tables.{said_or, table_spelled}

-- they sign with nothing, if there are any
record Unsigned (given : Option Keys) : Type 0 where
  none : (keys : Keys) → given ≡ Some keys → keys.signer ≡ None

of_nothing : Unsigned None
of_nothing = record { none = λ keys e. absurd (let never : None ≡ Some keys = e in cc) }

with_each : {A : Type 0} (given : Option A) (keys : A → Option Keys) → ((value : A) → Unsigned (keys value)) → Unsigned (given >>= keys)
with_each None keys unsigned = of_nothing
with_each (Some value) keys unsigned = unsigned value

where_it_holds : (holds : Bool) (keys : Option Keys) → Unsigned keys → Unsigned (if holds then keys else None)
where_it_holds true keys unsigned = unsigned
where_it_holds false keys unsigned = of_nothing

abbrev signer_of : Option Keys → Option HssKey
signer_of None = None
signer_of (Some keys) = keys.signer

of_pairs : (me : Principal) (replicas clients : List Pair) → Unsigned (Some (keys_from me replicas clients))
of_pairs me replicas clients = record { none = λ keys e. sym (ap signer_of e) }

abbrev made : Principal → (replicas clients : List Pair) → Option Keys
made me replicas clients =
    if is_system (length replicas) && may_hold me (length replicas) (length clients) && has_one_key_with_itself me replicas
    then Some (keys_from me replicas clients)
    else None

made_of : (me : Principal) (replicas clients : List Pair) → Unsigned (made me replicas clients)
made_of me replicas clients =
    where_it_holds (is_system (length replicas) && may_hold me (length replicas) (length clients) && has_one_key_with_itself me replicas)
    (Some (keys_from me replicas clients)) (of_pairs me replicas clients)

abbrev with_clients : Members → Principal → (replicas : List Pair) → Option Keys
with_clients members me replicas = said_or [] pairs_in (get_member (codes "clients") members) >>= (λ clients. made me replicas clients)

abbrev with_replicas : Members → Principal → Option Keys
with_replicas members me = (get_member (codes "replicas") members >>= pairs_in) >>= (λ replicas. with_clients members me replicas)

said : (members : Members) → Unsigned (keys_said members)
said members =
    with_each (get_member (codes "me") members >>= me_in) (λ me. with_replicas members me) (λ me.
    with_each (get_member (codes "replicas") members >>= pairs_in) (λ replicas. with_clients members me replicas) (λ replicas.
    with_each (said_or [] pairs_in (get_member (codes "clients") members)) (λ clients. made me replicas clients) (λ clients. made_of me replicas clients)))

in_table : (members : Members) → Unsigned (keys_in members)
unfolding keys_in
in_table members = where_it_holds _ (keys_said members) (said members)

spelled : (document : List ℕ) → Unsigned (keys_spelled document)
unfolding keys_spelled
spelled document = with_each (table_spelled document) keys_in in_table

-- a document says nothing that signs
pub unsigned_spelled : (document : List ℕ) (keys : Keys) → keys_spelled document ≡ Some keys → keys.signer ≡ None
unsigned_spelled document keys says = (spelled document).none keys says
