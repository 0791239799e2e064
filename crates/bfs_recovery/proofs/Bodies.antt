-- Bodies of steps that are made again.
use Rattle.std.proofs.Common.{Bor, ◌≡◌, ◌≢◌, ◌∙◌, ℕ, ◌+◌, ◌<◌, List, [], ◌∷◌, ◌++◌, drop, get_or, length, map, take, Option, Some, None, Result, Ok, Err, fold, refl, sym, ap, subst}
use Rattle.std.specs.Option.{option_map}
use Rattle.std.specs.List.{AllByRecursion}
use Rattle.std.proofs.lemmas.List.{get_or-map, length-map, take-append-drop, take_more}
use Rattle.std.proofs.lemmas.List.Sums.{fold-append}
use Rattle.bfs_auth.specs.Keys.{Keys}
use Rattle.bfs_node.specs.Nodes.{Node}
use Rattle.bfs_node.specs.Saving.{IsOf, IsSavable, text_of}
use Rattle.bfs_nodes_agree.proofs.Public.{some_is}
use Rattle.bfs_nodes_agree.specs.Nodes.Steps.{NodeStep}
use Rattle.bfs_saving.specs.declared.error.SavedError.{SavedError}
use Rattle.bfs_saving.specs.declared.error.SavedError.TheVariants as saved
use Rattle.bfs_steps.proofs.Public.{bodies_read}
use Rattle.bfs_steps.specs.Reading.{steps_from}
use Rattle.bfs_steps.specs.Replaying.{Replays, after_steps}
use Rattle.bfs_steps.specs.Steps.{FitSteps, body_text}
use Rattle.bfs_steps.specs.declared.error.ReplayError.{ReplayError}
use Rattle.bfs_steps.specs.declared.error.ReplayError.TheVariants as replay
use Rattle.bfs_recovery.specs.Holding.{Held, IsHeld, after_turns}
use Rattle.bfs_recovery.specs.Recovering.{ReplaysAll, after_bodies, after_body, of_replay, of_saved}
use Rattle.bfs_recovery.specs.declared.error.RecoverError.{RecoverError}
use Rattle.bfs_recovery.specs.declared.error.RecoverError.TheVariants.{Memory}

-- one body more
one_more : (node next : Node) (now : Option Node) (bodies : List (List ℕ)) (i : ℕ) (body : List ℕ) → i < length bodies → body ≡ get_or bodies i body
    → after_bodies node (take i bodies) ≡ Some next → option_map (after_steps next) (steps_from body) ≡ now → after_bodies node (take (i + 1) bodies) ≡ now
one_more node next now bodies i body within is first made =
    ap (after_bodies node) (take_more bodies i body within) ∙ fold-append after_body (Some node) (take i bodies) (get_or bodies i body ∷ [])
    ∙ ap (λ (o : Option Node). after_body o (get_or bodies i body)) first ∙ ap (λ (b : List ℕ). option_map (after_steps next) (steps_from b)) (sym is) ∙ made

nothing_made : (bodies : List (List ℕ)) → fold after_body None bodies ≡ None
nothing_made [] = refl
nothing_made (body ∷ bodies) = nothing_made bodies

-- one that spells no steps
not_one : (node next : Node) (bodies : List (List ℕ)) (i : ℕ) (body : List ℕ) → i < length bodies → body ≡ get_or bodies i body
    → after_bodies node (take i bodies) ≡ Some next → steps_from body ≡ None → after_bodies node bodies ≡ None
not_one node next bodies i body within is first none =
    ap (after_bodies node) (sym (take-append-drop (i + 1) bodies)) ∙ fold-append after_body (Some node) (take (i + 1) bodies) (drop (i + 1) bodies)
    ∙ ap (λ (o : Option Node). fold after_body o (drop (i + 1) bodies)) (one_more node next None bodies i body within is first (ap (option_map (after_steps next)) none))
    ∙ nothing_made (drop (i + 1) bodies)

-- as slices of bytes, one behind another
module _ (node next now : Node) (bodies : List (Bor (List ℕ))) (i : ℕ) (d : Bor (List ℕ)) (within : i < length bodies)
    (first : after_bodies node (take i (map (λ (b : Bor (List ℕ)). b.now) bodies)) ≡ Some next) where
  abbrev all_bodies : List (List ℕ)
  all_bodies = map (λ (b : Bor (List ℕ)). b.now) bodies

  among : i < length all_bodies
  among = subst (λ (n : ℕ). i < n) (sym (length-map bodies (λ (b : Bor (List ℕ)). b.now))) within

  abbrev body : List ℕ
  body = (get_or bodies i d).now

  is_there : body ≡ get_or all_bodies i body
  is_there = sym (get_or-map (λ (b : Bor (List ℕ)). b.now) bodies i d body within)

  pub next_made : option_map (after_steps next) (steps_from body) ≡ Some now → after_bodies node (take (i + 1) all_bodies) ≡ Some now
  next_made made = one_more node next (Some now) all_bodies i body among is_there first made

  -- nor is all made where one is not
  pub not_all : (e : ReplayError) → Replays next body (Err e) now → ReplaysAll node all_bodies (Err e) now
  not_all replay.Malformed none = not_one node next all_bodies i body among is_there first none
  not_all replay.Memory none = tt

-- the bodies of turns are made as these turns
pub turns_made : (node : Node) (turns : List (List NodeStep)) → AllByRecursion FitSteps turns → after_bodies node (map body_text turns) ≡ Some (after_turns node turns)
turns_made node [] fit = refl
turns_made node (steps ∷ turns) fit =
    ap (λ (o : Option Node). fold after_body o (map body_text turns)) (ap (option_map (after_steps node)) (bodies_read steps fit.0))
    ∙ turns_made (after_steps node steps) turns fit.1

-- what is held is what is read
pub held_is_read : (keys : Keys) (held : Held) (node : Node) → (h : IsHeld keys held node) → after_bodies h.saved held.bodies ≡ Some node
held_is_read keys held node h = ap (after_bodies h.saved) h.bodies_are ∙ turns_made h.saved h.turns h.each ∙ ap (λ (n : Node). Some n) (sym h.node_is)

-- What is recovered ---------------------------------------------------------------------------------------------------------

-- the replica that a text is read as, if that is one's that has these keys
abbrev IsTheOne : Keys → (text : List ℕ) → (P : Node → Type 0) → Type 0
IsTheOne keys text P = (node : Node) → IsSavable node → IsOf keys node → text ≡ text_of node → P node

pub recovered : (keys : Keys) (held : Held) (start now : Node) → IsTheOne keys held.text (λ node. start ≡ node) → after_bodies start held.bodies ≡ Some now
    → (node : Node) → IsHeld keys held node → now ≡ node
recovered keys held start now only made node h =
    some_is now node (sym made ∙ ap (λ (n : Node). after_bodies n held.bodies) (only h.saved h.savable h.holder h.text_is) ∙ held_is_read keys held node h)

-- a text that was saved is refused for want of memory alone
pub not_restored : (keys : Keys) (held : Held) (e : SavedError) (given : RecoverError) → IsTheOne keys held.text (λ node. e ≡ saved.Memory) → given ≡ of_saved e
    → (node : Node) → IsHeld keys held node → given ≡ Memory
not_restored keys held e given only is node h = is ∙ ap of_saved (only h.saved h.savable h.holder h.text_is)

-- and so are steps that were journaled
pub not_replayed : (keys : Keys) (held : Held) (start now : Node) (e : ReplayError) (given : RecoverError) → IsTheOne keys held.text (λ node. start ≡ node)
    → ReplaysAll start held.bodies (Err e) now → given ≡ of_replay e → (node : Node) → IsHeld keys held node → given ≡ Memory
not_replayed keys held start now replay.Malformed given only none is node h =
    let read_as : None ≡ Some node = sym none ∙ ap (λ (n : Node). after_bodies n held.bodies) (only h.saved h.savable h.holder h.text_is) ∙ held_is_read keys held node h in
    absurd cc
not_replayed keys held start now replay.Memory given only none is node h = is
