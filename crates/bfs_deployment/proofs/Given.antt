-- What is given is what the definition gives.
use Rattle.std.proofs.Common.{Ok, Err, refl}
use Rattle.bfs_deployment.specs.Outcomes.{Gives}
use Rattle.bfs_deployment.specs.Tables.{Reading}
use Rattle.bfs_deployment.specs.declared.error.DeploymentError.TheVariants as error

pub gives_same : {X : Type 0} (given : Reading X) → Gives (λ value. value) given given
gives_same (Ok value) = refl
gives_same (Err error.NotUtf8) = refl
gives_same (Err error.NotToml) = refl
gives_same (Err (error.UnknownKey name)) = refl
gives_same (Err (error.UnknownLimit name)) = refl
gives_same (Err (error.Missing key)) = refl
gives_same (Err (error.WrongType key)) = refl
gives_same (Err (error.OutOfBounds key least most)) = refl
gives_same (Err (error.WrongCount key count)) = refl
gives_same (Err (error.NoPublicKey key)) = refl
gives_same (Err error.Memory) = tt
