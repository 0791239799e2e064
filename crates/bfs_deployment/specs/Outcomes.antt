-- How an answer stands to what the definitions give.
use Rattle.std.specs.Prelude.{◌≡◌, ⊤, Ok, Err}
use Rattle.bfs_deployment.specs.Tables.{Reading}
use Rattle.bfs_deployment.specs.declared.error.DeploymentError.TheVariants as error

-- a value, as `view` sees it, or a fault is what is given; unspecified where memory ran out
abbrev pub Gives : {X Y : Type 0} → (view : X → Y) → Reading X → Reading Y → Type 0
Gives view (Err error.Memory) given = ⊤
Gives view (Err fault) given = given ≡ Err fault
Gives view (Ok value) given = given ≡ Ok (view value)
