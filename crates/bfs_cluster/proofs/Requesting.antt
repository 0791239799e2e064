-- Requests that come to one replica after another are as those that come to all, one after another: none makes a replica send anything.
use Rattle.std.proofs.Common.{◌≡◌, ◌∙◌, ℕ, zero, suc, ◌+◌, ◌<◌, Bool, true, false, List, [], ◌∷◌, length, map, Option, Some, None, true≢false, ◌||◌, refl, sym, ap, ap₂, subst, arith}
use Rattle.std.specs.Prelude.{IsSome, ◌==◌, get_or, if◌then◌else◌, is_some}
use Rattle.std.specs.List.{fold, list_all, list_any, range_with_len, slice_get, slice_set}
use Rattle.std.proofs.lemmas.Bool.{and_parts, eqb-true, or_parts}
use Rattle.bfs_model.specs.Bytes.Call.{◌>>=◌}
use Rattle.bfs_messages.specs.Messages as model
use Rattle.bfs_messages.specs.declared.message.Message.{Message}
use Rattle.bfs_messages.specs.declared.message.Message.TheVariants.{Request, Order, ViewChange, NewView, Reply}
use Rattle.bfs_messages.specs.declared.signed.Signed.{Signed}
use Rattle.bfs_node.specs.Advancing.{unless_refused}
use Rattle.bfs_node.specs.Delivering.{after_request, after_requests, if_taken, message_delivered, message_refusal, request_in, request_refusal, with_request}
use Rattle.bfs_node.specs.Nodes.{Messages, Node}
use Rattle.bfs_node.specs.declared.error.NodeError.{NodeError}
use Rattle.bfs_cluster.proofs.Acting.{stands, with_itself}
use Rattle.bfs_cluster.proofs.Each.{one_more}
use Rattle.bfs_cluster.specs.Blocks.{HasRequests, requested}
use Rattle.bfs_cluster.specs.Inside.Requests.{changed, changing, is_request, is_request_message, with_changed, with_requests}
use Rattle.bfs_cluster.specs.Steps.{delivery, handed}
use Rattle.bfs_cluster.specs.World.{Replica, SomeHeard, World, done_if, node_if_heard}

-- Each replica changes -------------------------------------------------------------------------------------------------------

module _ (change : Replica → Replica) where
  -- those of the first numbers have changed
  abbrev first_with : ℕ → List Replica → List Replica
  first_with zero replicas = replicas
  first_with (suc n) [] = []
  first_with (suc n) (replica ∷ rest) = change replica ∷ first_with n rest

  all_with : (replicas : List Replica) → first_with (length replicas) replicas ≡ map change replicas
  all_with [] = refl
  all_with (replica ∷ rest) = ap (λ (more : List Replica). change replica ∷ more) (all_with rest)

  behind : (first : Replica) (replicas : List Replica) (n : ℕ) (found : Option Replica) → with_changed change (first ∷ replicas) (suc n) found ≡ first ∷ with_changed change replicas n found
  behind first replicas n None = refl
  behind first replicas n (Some replica) = refl

  next_with : (n : ℕ) (replicas : List Replica) → changed change (first_with n replicas) n ≡ first_with (suc n) replicas
  next_with zero [] = refl
  next_with zero (replica ∷ rest) = refl
  next_with (suc n) [] = refl
  next_with (suc n) (replica ∷ rest) =
      behind (change replica) (first_with n rest) n (slice_get (first_with n rest) n)
      ∙ ap (λ (more : List Replica). change replica ∷ more) (next_with n rest)

  each : (world : World) (n : ℕ) → fold (changing change) world (range_with_len 0 n) ≡ record world { replicas = first_with n world.replicas }
  each world zero = refl
  each world (suc n) =
      ap (λ (k : ℕ). fold (changing change) world (range_with_len 0 k)) (let same : suc n ≡ n + 1 = omega arith in same)
      ∙ one_more (changing change) world n ∙ ap (λ (w : World). changing change w n) (each world n)
      ∙ ap (λ (replicas : List Replica). record world { replicas = replicas }) (next_with n world.replicas)

  at_each : (world : World) → fold (changing change) world (range_with_len 0 (length world.replicas)) ≡ record world { replicas = map change world.replicas }
  at_each world = each world (length world.replicas) ∙ ap (λ (replicas : List Replica). record world { replicas = replicas }) (all_with world.replicas)

-- A request comes to a replica ---------------------------------------------------------------------------------------------

module _ (world : World) (number : ℕ) (signed : Signed Message) where
  abbrev placed : Replica → World
  placed replica = record world { replicas = slice_set world.replicas number replica }

  -- it waits, or is lost
  by_refusal : (replica : Replica) (request : Signed model.Request) (refusal : Option NodeError) → replica.heard ≡ true → slice_get world.replicas number ≡ Some replica
      → done_if number world (unless_refused refusal (Some (with_request replica.node request)))
      ≡ placed (record replica { node = if_taken refusal (with_request replica.node request).now replica.node })
  by_refusal replica request None heard at =
      ap (λ (h : Bool). placed (record { heard = h; node = (with_request replica.node request).now })) (sym heard)
  by_refusal replica request (Some error) heard at = sym (with_itself world number replica at)

  by_message : (replica : Replica) (message : Message) → is_request_message message ≡ true → replica.heard ≡ true → slice_get world.replicas number ≡ Some replica
      → done_if number world (unless_refused (message_refusal replica.node signed message) (Some (message_delivered replica.node signed message)))
      ≡ placed (record replica { node = after_request replica.node signed message })
  by_message replica (Request request) is heard at =
      by_refusal replica (request_in signed request) (request_refusal replica.node (request_in signed request)) heard at
  by_message replica (Order message) is heard at = absurd (true≢false (sym is))
  by_message replica (ViewChange change) is heard at = absurd (true≢false (sym is))
  by_message replica (NewView new) is heard at = absurd (true≢false (sym is))
  by_message replica (Reply reply) is heard at = absurd (true≢false (sym is))

  by_hearing : (replica : Replica) (heard : Bool) → replica.heard ≡ heard → is_request signed ≡ true → slice_get world.replicas number ≡ Some replica
      → done_if number world ((if heard then Some replica.node else None) >>= delivery signed)
      ≡ placed (if heard then record replica { node = after_requests replica.node (signed ∷ []) } else replica)
  by_hearing replica true heard is at = by_message replica signed.message is heard at
  by_hearing replica false heard is at = sym (with_itself world number replica at)

  comes : is_request signed ≡ true → handed signed world number ≡ changing (with_requests (signed ∷ [])) world number
  comes is = go (slice_get world.replicas number) refl
    where
      go : (found : Option Replica) → slice_get world.replicas number ≡ found
          → done_if number world (node_if_heard found >>= delivery signed) ≡ record world { replicas = with_changed (with_requests (signed ∷ [])) world.replicas number found }
      go None at = refl
      go (Some replica) at = by_hearing replica replica.heard refl is at

-- Requests come to all -----------------------------------------------------------------------------------------------------

fold_same : {W S : Type 0} (one other : W → S → W) → ((w : W) (s : S) → one w s ≡ other w s) → (w : W) (all : List S) → fold one w all ≡ fold other w all
fold_same one other same w [] = refl
fold_same {W = W} one other same w (s ∷ rest) = ap (λ (next : W). fold one next rest) (same w s) ∙ fold_same one other same (other w s) rest

requested_once : (signed : Signed Message) → is_request signed ≡ true → (world : World) → requested world signed ≡ record world { replicas = map (with_requests (signed ∷ [])) world.replicas }
requested_once signed is world =
    fold_same (handed signed) (changing (with_requests (signed ∷ []))) (λ w number. comes w number signed is) world (range_with_len 0 (length world.replicas))
    ∙ at_each (with_requests (signed ∷ [])) world

then_more : (signed : Signed Message) (messages : Messages) (heard : Bool) (node : Node)
    → with_requests messages (with_requests (signed ∷ []) (record { heard = heard; node = node })) ≡ with_requests (signed ∷ messages) (record { heard = heard; node = node })
then_more signed messages true node = refl
then_more signed messages false node = refl

none : (heard : Bool) (node : Node) → with_requests [] (record { heard = heard; node = node }) ≡ record { heard = heard; node = node }
none true node = refl
none false node = refl

all_more : (signed : Signed Message) (messages : Messages) (replicas : List Replica) → map (with_requests messages) (map (with_requests (signed ∷ [])) replicas) ≡ map (with_requests (signed ∷ messages)) replicas
all_more signed messages [] = refl
all_more signed messages (replica ∷ rest) =
    ap₂ (λ (first : Replica) (more : List Replica). first ∷ more) (then_more signed messages replica.heard replica.node) (all_more signed messages rest)

all_none : (replicas : List Replica) → map (with_requests []) replicas ≡ replicas
all_none [] = refl
all_none (replica ∷ rest) = ap₂ (λ (first : Replica) (more : List Replica). first ∷ more) (none replica.heard replica.node) (all_none rest)

pub come : (messages : Messages) → list_all is_request messages ≡ true → (world : World) → fold requested world messages ≡ record world { replicas = map (with_requests messages) world.replicas }
come [] all world = ap (λ (replicas : List Replica). record world { replicas = replicas }) (sym (all_none world.replicas))
come (signed ∷ messages) all world =
    let both = and_parts (is_request signed) (list_all is_request messages) all in
    ap (λ (w : World). fold requested w messages) (requested_once signed both.0 world)
    ∙ come messages both.1 (record world { replicas = map (with_requests (signed ∷ [])) world.replicas })
    ∙ ap (λ (replicas : List Replica). record world { replicas = replicas }) (all_more signed messages world.replicas)

-- Whether one is heard -----------------------------------------------------------------------------------------------------

abbrev pub is_heard : Replica → Bool
is_heard replica = replica.heard

-- a replica as it is heard
hears : (replica : Replica) (heard : Bool) → replica.heard ≡ heard → node_if_heard (Some replica) ≡ (if heard then Some replica.node else None)
hears replica heard is = ap (λ (h : Bool). node_if_heard (Some (record { heard = h; node = replica.node }))) is

heard_in : (replicas : List Replica) → list_any is_heard replicas ≡ true → (number : ℕ) × IsSome (node_if_heard (slice_get replicas number))
heard_in [] any = absurd (true≢false (sym any))
heard_in (replica ∷ rest) any = go replica.heard refl (heard_in rest)
  where
    go : (heard : Bool) → replica.heard ≡ heard → (list_any is_heard rest ≡ true → (number : ℕ) × IsSome (node_if_heard (slice_get rest number)))
        → (number : ℕ) × IsSome (node_if_heard (slice_get (replica ∷ rest) number))
    go true is later = (zero, ap is_some (hears replica true is))
    go false is later =
        let more = later (subst (λ (h : Bool). (h || list_any is_heard rest) ≡ true) is any) in
        (suc more.0, more.1)

pub some_heard : (world : World) → list_any is_heard world.replicas ≡ true → SomeHeard world
some_heard world any = heard_in world.replicas any

-- one that stands at a number
pub heard_at : (world : World) (replicas : List Replica) (number : ℕ) (replica : Replica) → replicas ≡ world.replicas → number < length replicas
    → replica ≡ get_or replicas number replica → replica.heard ≡ true → SomeHeard world
heard_at world replicas number replica are within is heard = (
  number,
  ap is_some
      (ap (λ (those : List Replica). node_if_heard (slice_get those number)) (sym are) ∙ ap node_if_heard (stands replicas number replica within is)
      ∙ hears replica true heard),
)

silent : (replicas : List Replica) → list_any is_heard replicas ≡ false → (number : ℕ) → node_if_heard (slice_get replicas number) ≡ None
silent [] none zero = refl
silent [] none (suc number) = refl
silent (replica ∷ rest) none zero = hears replica false (or_parts replica.heard (list_any is_heard rest) none).0
silent (replica ∷ rest) none (suc number) = silent rest (or_parts replica.heard (list_any is_heard rest) none).1 number

-- to a silent cluster no request comes
module _ (world : World) (none : list_any is_heard world.replicas ≡ false) where
  lost : (signed : Signed Message) (numbers : List ℕ) → fold (handed signed) world numbers ≡ world
  lost signed [] = refl
  lost signed (number ∷ numbers) =
      ap (λ (node : Option Node). fold (handed signed) (done_if number world (node >>= delivery signed)) numbers) (silent world.replicas none number)
      ∙ lost signed numbers

  pub none_come : (messages : Messages) → fold requested world messages ≡ world
  none_come [] = refl
  none_come (signed ∷ messages) =
      ap (λ (w : World). fold requested w messages) (lost signed (range_with_len 0 (length world.replicas))) ∙ none_come messages

-- Whether there is a request -----------------------------------------------------------------------------------------------

pub none_is_there : (messages : Messages) (world : World) → (length messages == 0) ≡ true → world ≡ fold requested world messages
none_is_there [] world none = refl
none_is_there (signed ∷ messages) world none = absurd (let never : suc (length messages) ≡ 0 = eqb-true _ _ none in omega (arith, never))

pub has_requests : (messages : Messages) (world : World) → (length messages == 0) ≡ false → list_any is_heard world.replicas ≡ true → HasRequests world messages
has_requests messages world more any = ((λ none. true≢false (sym (ap (λ (all : Messages). length all == 0) none) ∙ more)), some_heard world any)
