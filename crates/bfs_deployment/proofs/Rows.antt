-- Documents that are written out, and the deployment or the fault of each.
use Rattle.std.proofs.Common.{◌≡◌, ◌∷◌, ◌++◌, [], List, ℕ, None, Some, Ok, Err, codes, refl}
use Rattle.std.specs.Prelude.{⊤, replicate}
use Rattle.std.specs.Str.{chars, is_utf8}
use Rattle.hex.proofs.OnLiterals.{hex_on_literals}
use Rattle.toml.proofs.OnLiterals.{toml_on_literals}
use Rattle.lms.specs.declared.hss.HssPublicKey.{HssPublicKey}
use Rattle.lms.specs.declared.types.LmsType.TheVariants.{H10}
use Rattle.lms.specs.declared.types.OtsType.TheVariants.{W4}
use Rattle.bfs_frames.specs.declared.kind.Kind.TheVariants as kind
use Rattle.bfs_deployment.specs.Document.{deployment_in, deployment_spelled}
use Rattle.bfs_frames.specs.Limits.{default_limits}
use Rattle.bfs_deployment.specs.Tables.{table_spelled}
use Rattle.bfs_deployment.specs.declared.error.DeploymentError.TheVariants as error
use Rattle.bfs_deployment.specs.declared.key.Key.TheVariants as key

-- what computes the deployment that a document says
unfoldable pub deployment_on_literals : ⊤
unfolding hex_on_literals toml_on_literals chars is_utf8 table_spelled deployment_in deployment_spelled
deployment_on_literals = tt

-- what every document says, but for f
abbrev rest : List ℕ
rest = codes "clients = 1\nreplicas = [\"a\"]\nrelay = \"b\"\n"

abbrev smallest : List ℕ
smallest = codes "f = 0\n" ++ rest

pub row-smallest : deployment_spelled smallest
    ≡ Ok (record {
      f = 0;
      clients = 1;
      replicas = codes "a" ∷ [];
      relay = codes "b";
      portmap = None;
      patience = 2000;
      signers = [];
      replica_signers = [];
      limits = default_limits;
    })
unfolding deployment_on_literals
row-smallest = refl

abbrev largest : List ℕ
largest =
    codes "limits.order = 4294967295 # bytes\npatience = 60000\nportmap = 'p'\nrelay = \"r\"\n"
    ++ codes "clients = 1_024\nf = 1\nreplicas = ['a', 'b', 'c', '']\n"

pub row-every_key : deployment_spelled largest
    ≡ Ok (record {
      f = 1;
      clients = 1024;
      replicas = codes "a" ∷ codes "b" ∷ codes "c" ∷ [] ∷ [];
      relay = codes "r";
      portmap = Some (codes "p");
      patience = 60000;
      signers = [];
      replica_signers = [];
      limits = record default_limits { order = 4294967295 };
    })
unfolding deployment_on_literals
row-every_key = refl

pub row-no_text : deployment_spelled (255 ∷ []) ≡ Err error.NotUtf8
unfolding deployment_on_literals
row-no_text = refl

pub row-twice : deployment_spelled (codes "f = 1\nf = 1\n") ≡ Err error.NotToml
unfolding deployment_on_literals
row-twice = refl

pub row-nothing : deployment_spelled [] ≡ Err (error.Missing key.F)
unfolding deployment_on_literals
row-nothing = refl

-- before what is missing
pub row-another_key : deployment_spelled (codes "secret = \"00\"\ng = 1\n") ≡ Err (error.UnknownKey (codes "g"))
unfolding deployment_on_literals
row-another_key = refl

pub row-below_zero : deployment_spelled (codes "f = -1\n" ++ rest) ≡ Err (error.OutOfBounds key.F 0 10)
unfolding deployment_on_literals
row-below_zero = refl

pub row-no_number : deployment_spelled (codes "f = 0.0\n" ++ rest) ≡ Err (error.WrongType key.F)
unfolding deployment_on_literals
row-no_number = refl

pub row-a_replica_too_few : deployment_spelled (codes "f = 1\n" ++ rest) ≡ Err (error.WrongCount key.Replicas 4)
unfolding deployment_on_literals
row-a_replica_too_few = refl

pub row-no_patience : deployment_spelled (codes "patience = 0\n" ++ smallest) ≡ Err (error.OutOfBounds key.Patience 1 60000)
unfolding deployment_on_literals
row-no_patience = refl

-- of three levels: trees of height 10 and one-time signatures of W4, by their typecodes (RFC 8554 sections 5.1 and 4.1)
abbrev signed : List ℕ
signed = codes "00000003" ++ codes "00000006" ++ codes "00000003" ++ codes "01010101010101010101010101010101" ++ codes "fFfFfFfFfFfFfFfFfFfFfFfFfFfFfFfFfFfFfFfFfFfFfFfFfFfFfFfFfFfFfFfF"

abbrev signed_key : HssPublicKey
signed_key = record { levels = 3; key = record { lms = H10; ots = W4; id = replicate 16 1; root = replicate 32 255 } }

pub row-a_signer : deployment_spelled (codes "signers = ['" ++ signed ++ codes "']\n" ++ smallest)
    ≡ Ok (record {
      f = 0;
      clients = 1;
      replicas = codes "a" ∷ [];
      relay = codes "b";
      portmap = None;
      patience = 2000;
      signers = signed_key ∷ [];
      replica_signers = [];
      limits = default_limits;
    })
unfolding deployment_on_literals
row-a_signer = refl

pub row-a_replica_that_signs : deployment_spelled (codes "replica_signers = ['" ++ signed ++ codes "']\n" ++ smallest)
    ≡ Ok (record {
      f = 0;
      clients = 1;
      replicas = codes "a" ∷ [];
      relay = codes "b";
      portmap = None;
      patience = 2000;
      signers = [];
      replica_signers = signed_key ∷ [];
      limits = default_limits;
    })
unfolding deployment_on_literals
row-a_replica_that_signs = refl

pub row-no_replica_signs : deployment_spelled (codes "replica_signers = []\n" ++ largest) ≡ Err (error.WrongCount key.ReplicaSigners 4)
unfolding deployment_on_literals
row-no_replica_signs = refl

pub row-a_signer_too_many : deployment_spelled (codes "signers = ['" ++ signed ++ codes "', '" ++ signed ++ codes "']\n" ++ smallest) ≡ Err (error.WrongCount key.Signers 1)
unfolding deployment_on_literals
row-a_signer_too_many = refl

pub row-no_signer : deployment_spelled (codes "signers = []\n" ++ smallest) ≡ Err (error.WrongCount key.Signers 1)
unfolding deployment_on_literals
row-no_signer = refl

pub row-a_digit_too_many : deployment_spelled (codes "signers = ['" ++ signed ++ codes "0']\n" ++ smallest) ≡ Err (error.NoPublicKey key.Signers)
unfolding deployment_on_literals
row-a_digit_too_many = refl

pub row-a_signer_of_numbers : deployment_spelled (codes "signers = [3]\n" ++ smallest) ≡ Err (error.WrongType key.Signers)
unfolding deployment_on_literals
row-a_signer_of_numbers = refl

-- a REQUEST of the most bytes has 28,700
pub row-requests_cut : deployment_spelled (smallest ++ codes "[limits]\nrequest = 28699\n") ≡ Err (error.OutOfBounds (key.Limit kind.Request) 28700 4294967295)
unfolding deployment_on_literals
row-requests_cut = refl

pub row-another_limit : deployment_spelled (smallest ++ codes "[limits]\norders = 1\n") ≡ Err (error.UnknownLimit (codes "orders"))
unfolding deployment_on_literals
row-another_limit = refl
