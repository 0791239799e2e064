-- The states of a replica as they are written, and as they are read again.
use Rattle.std.proofs.Common.{◌≡◌, ◌∙◌, ℕ, zero, suc, ◌+◌, ◌<◌, ◌≤◌, Bool, true, false, cond, not, List, [], ◌∷◌, ◌++◌, map, length, take, get_or, Option, Result, Ok, Err, refl, sym, ap, ap₂, subst, add-one, append_assoc, length-append, arith}
use Rattle.std.specs.Prelude.{◌≢◌, IfSome, OnOk}
use Rattle.std.specs.List.{AllByRecursion, flat_map, list_all}
use Rattle.std.proofs.lemmas.Bool.{and_parts}
use Rattle.std.proofs.lemmas.List.{length-map, map-append, take_more}
use Rattle.bfs_model.specs.Bytes.Items.{hyper}
use Rattle.bfs_model.specs.Server.Limits.{most_requests}
use Rattle.bfs_model.specs.Server.Stored.{IsDouble}
use Rattle.bfs_model.specs.Server.Tree.{FileSystem}
use Rattle.bfs_auth.specs.Keys.{Keys}
use Rattle.bfs_auth.specs.Principals.{number_of}
use Rattle.bfs_checkpoints.specs.Keeping.{Kept}
use Rattle.bfs_checkpoints.specs.Snapshots.{IsTaken}
use Rattle.bfs_digest.specs.declared.errors.RestoreError.{RestoreError}
use Rattle.bfs_digest.specs.declared.errors.RestoreError.TheVariants as restore
use Rattle.bfs_checkpoints.specs.States.{state_text as own_text}
use Rattle.bfs_log.specs.Certificates.{MakesStable, StableCheckpoint, faults}
use Rattle.bfs_replies.specs.Tables.{Table}
use Rattle.bfs_saving.specs.Items.{FitMany, many_text}
use Rattle.bfs_saving.proofs.Public.{kept_is}
use Rattle.bfs_saving.specs.Errors.{refusal}
use Rattle.bfs_saving.specs.declared.error.SavedError.{SavedError}
use Rattle.bfs_saving.specs.declared.error.SavedError.TheVariants as error
use Rattle.bfs_saving.specs.Saved.{FitsSaved, FitsState, Saved, SavedState, state_text}
use Rattle.bfs_node.specs.Nodes.{Node}
use Rattle.bfs_node.specs.Saving.{AreTaken, IsOf, IsSavable, of_state, saved, saved_snapshot}

-- As they are written --------------------------------------------------------------------------------------------------

mapped_text : (kept : List Kept) → flat_map (λ one. state_text (saved_snapshot one)) kept ≡ flat_map state_text (map saved_snapshot kept)
mapped_text [] = refl
mapped_text (one ∷ kept) = ap (λ (t : List ℕ). state_text (saved_snapshot one) ++ t) (mapped_text kept)

mapped_fits : (kept : List Kept) → AllByRecursion (λ one. FitsState (saved_snapshot one)) kept → AllByRecursion FitsState (map saved_snapshot kept)
mapped_fits [] fits = tt
mapped_fits (one ∷ kept) fits = (fits.0, mapped_fits kept fits.1)

pub many_put : (before after last : List ℕ) (kept : List Kept) → after ≡ before ++ hyper (length kept) → last ≡ after ++ flat_map (λ one. state_text (saved_snapshot one)) kept
    → last ≡ before ++ many_text state_text (map saved_snapshot kept)
many_put before after last kept counted put =
    put
    ∙ ap₂ (λ (x y : List ℕ). x ++ y) counted (mapped_text kept)
    ∙ append_assoc before (hyper (length kept)) (flat_map state_text (map saved_snapshot kept))
    ∙ ap (λ (n : ℕ). before ++ (hyper n ++ flat_map state_text (map saved_snapshot kept))) (sym (length-map kept saved_snapshot))

pub many_fit : (kept : List Kept) → IsDouble (length kept) → AllByRecursion (λ one. FitsState (saved_snapshot one)) kept → FitMany FitsState (map saved_snapshot kept)
many_fit kept few fits = (subst IsDouble (sym (length-map kept saved_snapshot)) few, mapped_fits kept fits)

-- who appends leaves room
pub long_enough : (n : ℕ) (before text now : List ℕ) → n ≤ length before → now ≡ before ++ text → n ≤ length now
long_enough n before text now le is = omega (arith, ap length is, length-append before text)

pub all_ok : {X E : Type 0} (r : Result X E) {A B C D : Type 0} → OnOk r A → OnOk r B → OnOk r C → (A → B → C → D) → OnOk r D
all_ok (Ok x) a b c to = to a b c
all_ok (Err e) a b c to = tt

-- As they are read -----------------------------------------------------------------------------------------------------

-- the snapshot at a place of those whose states are read
pub record At (kept : List Kept) (i : ℕ) (state : SavedState) : Type 0 where
  pub one : Kept
  pub more : take (suc i) kept ≡ take i kept ++ one ∷ []
  pub state_is : state ≡ saved_snapshot one
  pub taken : IsTaken one.snapshot

at : (kept : List Kept) (i : ℕ) (state : SavedState) → i < length (map saved_snapshot kept) → state ≡ get_or (map saved_snapshot kept) i state → AreTaken kept → At kept i state
at [] i state lt is taken = absurd (omega (arith, lt))
at (one ∷ kept) zero state lt is taken = record { one = one; more = refl; state_is = is; taken = taken.0 }
at (one ∷ kept) (suc i) state lt is taken =
    let rest = at kept i state (omega (arith, lt)) is taken.1 in
    record { one = rest.one; more = ap (λ (t : List Kept). one ∷ t) rest.more; state_is = rest.state_is; taken = rest.taken }

pub at_place : (states : List SavedState) (kept : List Kept) (i : ℕ) (state : SavedState) → i < length states → state ≡ get_or states i state → AreTaken kept → states ≡ map saved_snapshot kept → At kept i state
at_place states kept i state lt is taken same =
    at kept i state (subst (λ (s : List SavedState). i < length s) same lt) (is ∙ ap (λ (s : List SavedState). get_or s i state) same) taken

pub pushed : (old now : List Kept) (one : Kept) (ok err : Bool) → now ≡ cond ok (old ++ one ∷ []) old → ok ≡ not err → err ≡ false → now ≡ old ++ one ∷ []
pushed old now one true err is told none = is
pushed old now one false err is told none = let both : not err ≡ true = ap not none in absurd cc

pub found_more : (states : List SavedState) (old now : List Kept) (i : ℕ) (one : Kept) (state : SavedState) → i < length states → state ≡ get_or states i state → map saved_snapshot old ≡ take i states → now ≡ old ++ one ∷ []
    → saved_snapshot one ≡ state → map saved_snapshot now ≡ take (i + 1) states
found_more states old now i one state lt is so_far put same =
    ap (map saved_snapshot) put
    ∙ map-append saved_snapshot old (one ∷ [])
    ∙ ap₂ (λ (x : List SavedState) (s : SavedState). x ++ s ∷ []) so_far (same ∙ is)
    ∙ sym (take_more states i state lt)

pub only_more : (kept old now : List Kept) (i : ℕ) (one : Kept) (state : SavedState) (here : At kept i state) → old ≡ take i kept → now ≡ old ++ one ∷ [] → one ≡ here.one → now ≡ take (i + 1) kept
only_more kept old now i one state here so_far put same =
    put ∙ ap₂ (λ (x : List Kept) (k : Kept). x ++ k ∷ []) so_far same ∙ sym here.more ∙ ap (λ (n : ℕ). take n kept) (sym (add-one i))

-- The replica ----------------------------------------------------------------------------------------------------------

-- what was read as stable is shown by its CHECKPOINTs
pub certified : (keys : Keys) (s : Saved) (f : ℕ) (stable : Option StableCheckpoint) → FitsSaved keys (faults keys) (number_of keys.me) s → s.stable ≡ stable → f ≡ s.order.f → IfSome stable (MakesStable f)
certified keys s f stable fits is same =
    subst (λ (t : Option StableCheckpoint). IfSome t (MakesStable f)) is
    (subst (λ (n : ℕ). IfSome s.stable (MakesStable n)) (sym (same ∙ fits.1.0.0.0.0.0.f_is)) (kept_is (faults keys) s.stable fits.1.0.1.0.1))

-- a replica that is saved has a text by its keys
pub fits_as : (keys : Keys) (node : Node) (f me : ℕ) → IsSavable node → IsOf keys node → f ≡ faults keys → me ≡ number_of keys.me → FitsSaved keys f me (saved node)
fits_as keys node f me savable of f_is me_is =
    subst (λ (n : ℕ). FitsSaved keys f n (saved node)) (of.number_is ∙ sym me_is)
    (subst (λ (n : ℕ). FitsSaved keys n node.order.me (saved node)) (of.faults_are ∙ sym f_is)
    (subst (λ (k : Keys). FitsSaved k node.order.f node.order.me (saved node)) of.keys_are savable.fits))

pub told_memory : (e : RestoreError) (why refused : SavedError) → refused ≡ of_state e why → e ≡ restore.Memory → refused ≡ error.Memory
told_memory e why refused is same = is ∙ ap (λ (x : RestoreError). of_state x why) same
