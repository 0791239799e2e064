-- What a replica does is what becomes of the world.
use Rattle.std.proofs.Common.{◌≡◌, ◌∙◌, ℕ, ◌<◌, ◌≤◌, ◌+◌, zero, suc, List, [], ◌∷◌, length, get_or, Option, Some, None, Result, Ok, Err, true, refl, sym, ap, subst, arith}
use Rattle.std.specs.Prelude.{IsSome, OnOk}
use Rattle.std.specs.List.{fold, range_with_len, slice_get, slice_set}
use Rattle.std.specs.Option.{option_map}
use Rattle.std.proofs.lemmas.Bool.{lt-ltb}
use Rattle.std.proofs.lemmas.List.{length-set, set-get_or}
use Rattle.std.proofs.lemmas.Option.{get_or_from_slice_get, slice_get-get_or}
use Rattle.bfs_model.specs.Bytes.Call.{◌>>=◌}
use Rattle.bfs_messages.specs.declared.message.Message.{Message}
use Rattle.bfs_messages.specs.declared.signed.Signed.{Signed}
use Rattle.bfs_node.specs.Advancing.{advancing}
use Rattle.bfs_node.specs.Nodes.{Messages, Node, Outcome}
use Rattle.bfs_node.specs.Receivers.{receivers_of}
use Rattle.bfs_node.specs.declared.receivers.Receivers.{Receivers}
use Rattle.bfs_node.specs.declared.receivers.Receivers.TheVariants.{Replicas, Client}
use Rattle.bfs_cluster.proofs.Each.{one_more}
use Rattle.bfs_cluster.specs.Inside.Acts.{Acts, acting, deed, doing, posted_if}
use Rattle.bfs_cluster.specs.declared.acts.Act.{Act}
use Rattle.bfs_cluster.specs.Steps.{turning, turn_taken}
use Rattle.bfs_cluster.specs.World.{Replica, SomeActs, World, done_if, node_at, node_if_heard, noted, posted, posted_to}

-- the world with a replica as a call left it
abbrev pub with_replica : World → (number : ℕ) → Replica → World
with_replica world number replica = record world { replicas = slice_set world.replicas number replica }

pub with_itself : (world : World) (number : ℕ) (replica : Replica) → slice_get world.replicas number ≡ Some replica → with_replica world number replica ≡ world
with_itself world number replica is =
    ap (λ (replicas : List Replica). record world { replicas = replicas })
    (ap (slice_set world.replicas number) (sym (get_or_from_slice_get world.replicas number replica replica is)) ∙ set-get_or world.replicas number replica)

pub acted : (world : World) (number : ℕ) (old new : Replica) (done : Option Outcome) (sent : Option Messages) → slice_get world.replicas number ≡ Some old
    → Acts done old new sent → posted_if number (with_replica world number new) sent ≡ done_if number world done
acted world number old new None sent is did =
    ap (posted_if number (with_replica world number new)) did.1 ∙ ap (with_replica world number) did.0 ∙ with_itself world number old is
acted world number old new (Some done) sent is did =
    ap (posted_if number (with_replica world number new)) did.1 ∙ ap (λ (replica : Replica). posted_if number (with_replica world number replica) (Some done.sent)) did.0

pub at_number : (act : Node → Option Outcome) (world : World) (number : ℕ) (old : Replica) → slice_get world.replicas number ≡ Some old
    → (node_at world number >>= act) ≡ doing act old
at_number act world number old is = ap (λ (replica : Option Replica). node_if_heard replica >>= act) is

pub in_turn : (world : World) (number : ℕ) → number < length world.replicas → turning world number ≡ turn_taken world number (node_at world number >>= advancing)
in_turn world number within = rw (lt-ltb number (length world.replicas) within) refl

-- the replica that stands at a number
pub stands : (replicas : List Replica) (number : ℕ) (replica : Replica) → number < length replicas → replica ≡ get_or replicas number replica
    → slice_get replicas number ≡ Some replica
stands replicas number replica within is = slice_get-get_or replicas number replica within ∙ ap (λ (r : Replica). Some r) (sym is)

-- the same of what the replica of that number does, if it is heard
pub acted_at : (act : Node → Option Outcome) (world : World) (number : ℕ) (old new : Replica) (sent : Option Messages)
    → slice_get world.replicas number ≡ Some old → Acts (doing act old) old new sent
    → posted_if number (with_replica world number new) sent ≡ done_if number world (node_at world number >>= act)
acted_at act world number old new sent is did =
    acted world number old new (doing act old) sent is did ∙ ap (done_if number world) (sym (at_number act world number old is))

-- the same of one that is told to do something, of a world that is the same, once what it sent was posted
pub acted_as : {A E : Type 0} (r : Result A E) (act : Act) (world own now : World) (number : ℕ) (old new : Replica) (sent : Option Messages)
    → slice_get world.replicas number ≡ Some old → Acts (doing (deed act) old) old new sent → world ≡ own
    → OnOk r (now ≡ posted_if number (with_replica world number new) sent) → OnOk r (now ≡ acting act own number)
acted_as (Ok x) act world own now number old new sent is did same posted =
    posted ∙ acted_at (deed act) world number old new sent is did ∙ ap (λ (w : World). acting act w number) same
acted_as (Err e) act world own now number old new sent is did same posted = tt

-- What is sent does not depend on the replicas ------------------------------------------------------------------------------

module _ (replicas : List Replica) (turn : Option ℕ) where
  abbrev pub beside : World → World
  beside world = record world { replicas = replicas; turn = turn }

  posted_beside : (sender : ℕ) (world : World) (signed : Signed Message) → posted sender (beside world) signed ≡ beside (posted sender world signed)
  posted_beside sender world signed = go (receivers_of signed.message)
    where
      go : (receivers : Receivers) → posted_to sender (noted sender (beside world) signed) signed receivers ≡ beside (posted_to sender (noted sender world signed) signed receivers)
      go Replicas = refl
      go (Client client) = refl

  pub sent_beside : (sender : ℕ) (world : World) (sent : Messages) → fold (posted sender) (beside world) sent ≡ beside (fold (posted sender) world sent)
  sent_beside sender world [] = refl
  sent_beside sender world (signed ∷ sent) =
      ap (λ (w : World). fold (posted sender) w sent) (posted_beside sender world signed) ∙ sent_beside sender (posted sender world signed) sent

-- As many replicas as before -------------------------------------------------------------------------------------------

all_posted_keep : (sender : ℕ) (world : World) (sent : Messages) → (fold (posted sender) world sent).replicas ≡ world.replicas
all_posted_keep sender world sent = ap (λ (w : World). w.replicas) (sent_beside world.replicas world.turn sender world sent)

pub as_many : (number : ℕ) (world : World) (done : Option Outcome) → length (done_if number world done).replicas ≡ length world.replicas
as_many number world None = refl
as_many number world (Some done) =
    ap length (all_posted_keep number _ done.sent) ∙ length-set world.replicas number (record { heard = true; node = done.now })

-- one replica more, in a loop over their numbers
pub goes_on : (act : Node → Option Outcome) (first before next : World) (n : ℕ)
    → next ≡ done_if n before (node_at before n >>= act)
    → (before ≡ fold (λ world number. done_if number world (node_at world number >>= act)) first (range_with_len 0 n)) × (length before.replicas ≡ length first.replicas)
    → (next ≡ fold (λ world number. done_if number world (node_at world number >>= act)) first (range_with_len 0 (n + 1))) × (length next.replicas ≡ length first.replicas)
goes_on act first before next n is so_far = (
  is ∙ ap (λ (world : World). done_if n world (node_at world n >>= act)) so_far.0 ∙ sym (one_more (λ world number. done_if number world (node_at world number >>= act)) first n),
  ap (λ (world : World). length world.replicas) is ∙ as_many n before (node_at before n >>= act) ∙ so_far.1,
)

-- Those whose turn is to come --------------------------------------------------------------------------------------------

elsewhere : {X : Type 0} (xs : List X) (n k : ℕ) (x : X) → n < k → slice_get (slice_set xs n x) k ≡ slice_get xs k
elsewhere [] zero k x lt = refl
elsewhere [] (suc n) k x lt = refl
elsewhere (first ∷ rest) zero zero x lt = absurd (omega (arith, lt))
elsewhere (first ∷ rest) zero (suc k) x lt = refl
elsewhere (first ∷ rest) (suc n) zero x lt = absurd (omega (arith, lt))
elsewhere (first ∷ rest) (suc n) (suc k) x lt = elsewhere rest n k x (omega (arith, lt))

-- what a replica does leaves the others
others_stay : (number k : ℕ) (world : World) (done : Option Outcome) → number < k → node_at (done_if number world done) k ≡ node_at world k
others_stay number k world None lt = refl
others_stay number k world (Some done) lt =
    ap (λ (replicas : List Replica). node_if_heard (slice_get replicas k)) (all_posted_keep number _ done.sent)
    ∙ ap node_if_heard (elsewhere world.replicas number k (record { heard = true; node = done.now }) lt)

-- from that number on they are as they were
abbrev pub IsToCome : (number : ℕ) → (first now : World) → Type 0
IsToCome number first now = (k : ℕ) → number ≤ k → node_at now k ≡ node_at first k

pub to_come : (act : Node → Option Outcome) (first before next : World) (n : ℕ) → next ≡ done_if n before (node_at before n >>= act)
    → IsToCome n first before → IsToCome (n + 1) first next
to_come act first before next n is so_far k le =
    ap (λ (world : World). node_at world k) is ∙ others_stay n k before (node_at before n >>= act) (omega (arith, le)) ∙ so_far k (omega (arith, le))

-- one that does something now would have done it at first
pub wanted : (act : Node → Option Outcome) (first before : World) (n : ℕ) → IsToCome n first before → IsSome (node_at before n >>= act) → SomeActs act first
wanted act first before n so_far some = (n, subst (λ (node : Option Node). IsSome (node >>= act)) (so_far n (omega arith)) some)

pub acts_some : (act : Node → Option Outcome) (world : World) (number : ℕ) (old : Replica) → slice_get world.replicas number ≡ Some old
    → IsSome (doing act old) → IsSome (node_at world number >>= act)
acts_some act world number old is some = subst (λ (done : Option Outcome). IsSome done) (sym (at_number act world number old is)) some

-- what sends something was done
pub sends : {X : Type 0} (view : X → Messages) (done : Option Outcome) (old new : Replica) (sent : Option X) → Acts done old new (option_map view sent) → IsSome sent → IsSome done
sends view None old new None did some = some
sends view None old new (Some sent) did some = absurd (let none : Some (view sent) ≡ None = did.1 in cc)
sends view (Some done) old new sent did some = refl
