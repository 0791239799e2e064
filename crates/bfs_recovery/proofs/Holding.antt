-- What a folder holds behind a turn.
use Rattle.std.proofs.Common.{◌≡◌, ◌∙◌, ℕ, true, List, [], ◌∷◌, ◌++◌, map, Some, inl, inr, refl, sym, ap, subst}
use Rattle.std.specs.Prelude.{◌⊎◌, OnErr, Result, Ok, Err}
use Rattle.std.proofs.lemmas.Grind.{flat_map-append}
use Rattle.std.proofs.lemmas.List.{map-append}
use Rattle.std.proofs.lemmas.List.Sums.{fold-append}
use Rattle.std.specs.List.{AllByRecursion}
use Rattle.bfs_auth.specs.Keys.{Keys}
use Rattle.bfs_frames.specs.Parcels.{Told, told_by}
use Rattle.bfs_frames.specs.declared.frames.Turn.{Turn}
use Rattle.bfs_frames.specs.declared.parcels.Parcel.{Parcel}
use Rattle.bfs_node.specs.Nodes.{Node}
use Rattle.bfs_node.specs.Saving.{IsOf, IsSavable, text_of}
use Rattle.bfs_nodes_agree.proofs.Public.{some_is}
use Rattle.bfs_nodes_agree.specs.Nodes.Steps.{NodeStep, outcome}
use Rattle.bfs_service.proofs.Public.{turned_keeps}
use Rattle.bfs_service.specs.Journals.{Doing, Journals, with_no_steps}
use Rattle.bfs_service.specs.Turns.{Turned}
use Rattle.bfs_steps.proofs.Public.{bodies_read}
use Rattle.bfs_steps.specs.Reading.{steps_from, steps_within}
use Rattle.bfs_steps.specs.Replaying.{after_step, after_steps}
use Rattle.bfs_steps.specs.Steps.{FitsStep, FitSteps, body_text, step_text}
use Rattle.bfs_recovery.proofs.Holders.{of_step, of_steps, of_turns}
use Rattle.bfs_recovery.specs.Holding.{AreDue, Held, IsHeld, saved_as, with_body}
use Rattle.bfs_recovery.specs.Keeping.{IsKept, IsKeptOrDue, Keeps, Kept, Due, Saved, Appended, Unchanged, all_due}
use Rattle.bfs_recovery.specs.Turns.{Holds, IsTaken, IsUntold, KeepsUp, Living, Settled, Waits}

all_both : {A : Type 0} (P : A → Type 0) (xs ys : List A) → AllByRecursion P xs → AllByRecursion P ys → AllByRecursion P (xs ++ ys)
all_both P [] ys p q = q
all_both P (x ∷ xs) ys p q = (p.0, all_both P xs ys p.1 q)

-- a replica with these keys is held
pub held_of : (keys : Keys) (held : Held) (node : Node) → IsHeld keys held node → IsOf keys node
held_of keys held node h = subst (IsOf keys) (sym h.node_is) (of_turns keys h.saved h.turns h.holder)

-- the node alone
pub saved_alone : (keys : Keys) (node : Node) → IsSavable node → IsOf keys node → IsHeld keys (saved_as (text_of node)) node
saved_alone keys node savable holder = record { saved = node; savable = savable; holder = holder; text_is = refl; turns = []; each = tt; bodies_are = refl; node_is = refl }

-- What is due ------------------------------------------------------------------------------------------------------------------

-- it is kept as one record more
due_appended : (keys : Keys) (held : Held) (settled node : Node) (due : List ℕ) → IsHeld keys held settled → AreDue settled due node → IsHeld keys (with_body held due) node
due_appended keys held settled node due h d = record {
  saved = h.saved;
  savable = h.savable;
  holder = h.holder;
  text_is = h.text_is;
  turns = h.turns ++ d.steps ∷ [];
  each = all_both FitSteps h.turns (d.steps ∷ []) h.each (d.fit, tt);
  bodies_are = ap (λ (bodies : List (List ℕ)). bodies ++ due ∷ []) h.bodies_are ∙ ap (λ (text : List ℕ). map body_text h.turns ++ text ∷ []) d.due_is
      ∙ sym (map-append body_text h.turns (d.steps ∷ []));
  node_is = d.node_is ∙ ap (λ (n : Node). after_steps n d.steps) h.node_is ∙ sym (fold-append after_steps h.saved h.turns (d.steps ∷ []));
}

-- more steps are due behind others
more_due : (settled node now : Node) (due body : List ℕ) (steps : List NodeStep) → FitSteps steps → body ≡ body_text steps → now ≡ after_steps node steps → AreDue settled due node
    → AreDue settled (due ++ body) now
more_due settled node now due body steps fit body_is is d = record {
  steps = d.steps ++ steps;
  fit = all_both FitsStep d.steps steps d.fit fit;
  due_is = ap (λ (text : List ℕ). text ++ body) d.due_is ∙ ap (λ (text : List ℕ). body_text d.steps ++ text) body_is ∙ sym (flat_map-append step_text d.steps steps);
  node_is = is ∙ ap (λ (n : Node). after_steps n steps) d.node_is ∙ sym (fold-append after_step settled d.steps steps);
}

read_none : steps_from [] ≡ Some []
unfolding steps_within
read_none = refl

-- an empty body is that of no steps
none_spelled : (steps : List NodeStep) → FitSteps steps → body_text steps ≡ [] → [] ≡ steps
none_spelled steps fit is = some_is [] steps (sym read_none ∙ ap steps_from (sym is) ∙ bodies_read steps fit)

-- where nothing is due, the node is the one that is held
pub none_due : (settled node : Node) (due : List ℕ) → due ≡ [] → AreDue settled due node → node ≡ settled
none_due settled node due none d = d.node_is ∙ ap (after_steps settled) (sym (none_spelled d.steps d.fit (sym d.due_is ∙ none)))

-- What is kept of a turn -------------------------------------------------------------------------------------------------------

abbrev living : Doing → Keeps → Living
living doing keeps = record { acting = doing.acting; held = keeps.held; due = keeps.due }

module _ (turn : Turn) (before doing : Doing) (told : List Told) (old : Keeps) (turned : Turned turn before.acting doing.acting told)
    (journals : Journals (with_no_steps before) doing) where
  still_due : doing.is_spelled ≡ true → (settled : Node) → AreDue settled old.due before.acting.node → AreDue settled (all_due old doing) doing.acting.node
  still_due spelled settled d =
      let s = journals spelled in
      more_due settled before.acting.node doing.acting.node old.due doing.body s.steps s.fit s.body_is s.node_is d

  kept_holds : (held : Held) → IsKept doing old held → Holds (living before old) held doing.acting.node
  kept_holds held (Saved saved) keys settled h d =
      let holder = subst (IsOf keys) (sym d.node_is) (of_steps keys settled d.steps (held_of keys old.held settled h)) in
      let now = turned_keeps (IsOf keys) (of_step keys) turn before.acting doing.acting told turned holder in
      subst (λ (x : Held). IsHeld keys x doing.acting.node) (sym saved.is) (saved_alone keys doing.acting.node saved.savable now)
  kept_holds held (Appended spelled is) keys settled h d =
      subst (λ (x : Held). IsHeld keys x doing.acting.node) (sym is) (due_appended keys old.held settled doing.acting.node (all_due old doing) h (still_due spelled settled d))
  kept_holds held (Unchanged spelled none is) keys settled h d =
      let same = none_due settled doing.acting.node (all_due old doing) none (still_due spelled settled d) in
      subst (λ (x : Held). IsHeld keys x doing.acting.node) (sym is) (subst (λ (n : Node). IsHeld keys old.held n) (sym same) h)

  keeps_up : (parcels : List Parcel) (new : Keeps) → told ≡ map told_by parcels → IsKeptOrDue doing parcels old new → KeepsUp (living before old) told (living doing new)
  keeps_up parcels new is (Kept kept none) = Settled (kept_holds new.held kept) none
  keeps_up parcels new is (Due silent spelled due) =
      Waits (is ∙ ap (map told_by) silent) (ap (λ (k : Keeps). k.held) due)
      (λ settled d. subst (λ (k : Keeps). AreDue settled k.due doing.acting.node) (sym due) (still_due spelled settled d))

  pub is_taken : (parcels : List Parcel) (new : Keeps) → told ≡ map told_by parcels → IsKeptOrDue doing parcels old new → IsTaken (living before old) turn told (living doing new)
  is_taken parcels new is keeps = record { turned = turned; keeps = keeps_up parcels new is keeps }

  pub is_untold : (held : Held) → (held ≡ old.held) ⊎ IsKept doing old held → IsUntold (living before old) turn held
  is_untold held left = elim left [
    | inl same ↦ inl same
    | inr kept ↦ inr (record { acting = doing.acting; told = told; turned = turned; holds = kept_holds held kept })
  ]

-- what holds at all holds of an error
pub on_err : {T E : Type 0} (P : Type 0) (result : Result T E) → P → OnErr result P
on_err P (Ok value) p = tt
on_err P (Err e) p = p
