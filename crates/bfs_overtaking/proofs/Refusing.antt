-- Why a call is not taken.
use Rattle.std.proofs.Common.{◌≡◌, ℕ, ◌-◌, Bool, true, false, cond, not, List, map, take, Option, Some, None, ◌<◌, length, get_or, refl, ap, sym, subst, ◌∙◌}
use Rattle.std.specs.List.{slice_get}
use Rattle.bfs_footprint.specs.Seen.{footprint_seen}
use Rattle.bfs_levels.specs.declared.part.Part.{Part}
use Rattle.bfs_tree.specs.Slots.{Slots}
use Rattle.bfs_overtaking.specs.declared.calls.Call.{Call}
use Rattle.bfs_overtaking.specs.declared.errors.CoreError.{CoreError}
use Rattle.bfs_overtaking.specs.declared.errors.CoreError.TheVariants as error
use Rattle.bfs_overtaking.specs.Machine.{Standing, Machine, has_call, is_waiting, is_held, take_refusal}
use Rattle.bfs_overtaking.specs.Seen.{slot_seen, standing_seen, machine_seen}
use Rattle.bfs_overtaking.proofs.Standings.{within}
use Rattle.bfs_overtaking.proofs.Owning.{standing_there}
use Rattle.bfs_overtaking.proofs.Changing.{there_by}

-- a number that has a place is that of a call
pub has_place : (has : Bool) (k place : ℕ) → ◌≡◌ {A = Option ℕ} (cond has (Some k) None) (Some place) → (has ≡ true) × (k ≡ place)
has_place true k place is = (refl, cc)
has_place false k place is = absurd cc

abbrev refused_by : (has waits held : Bool) → Option CoreError
refused_by has waits held = cond (not has) (Some error.NoSuchCall) (cond (not waits) (Some error.Taken) (cond held (Some error.NotReady) None))

pub refusal_is : (part : Part) (tree : Slots) (calls : List Call) (number place : ℕ) (call : Call) (held : Bool) → has_call (machine_seen part tree calls) number ≡ true → number - part.first ≡ place
    → slice_get calls place ≡ Some call → is_waiting (slot_seen call.state) ≡ true → is_held (take place (map standing_seen calls)) (footprint_seen call.footprint) ≡ held
    → take_refusal (machine_seen part tree calls) number ≡ cond held (Some error.NotReady) None
refusal_is part tree calls number place call held has at there waits is =
    let stands = ap (λ k. Rattle.bfs_overtaking.specs.Machine.standing_at (map standing_seen calls) k) at ∙ standing_there calls place call there in
    λ i. refused_by (has i) ((ap (λ (s : Standing). is_waiting s.slot) stands ∙ waits) i)
    (((λ j. is_held (take (at j) (map standing_seen calls)) (stands j).footprint) ∙ is) i)

-- for the code: the machine that it stands for, and the place that it found
pub refused_at : (part : Part) (tree : Slots) (calls : List Call) (m : Machine) (number place : ℕ) (call : Call) (held : Bool) → machine_seen part tree calls ≡ m
    → ◌≡◌ {A = Option ℕ} (cond (has_call m number) (Some (number - m.first)) None) (Some place) → call ≡ get_or calls place call → is_waiting (slot_seen call.state) ≡ true
    → is_held (take place (map standing_seen calls)) (footprint_seen call.footprint) ≡ held → take_refusal m number ≡ cond held (Some error.NotReady) None
refused_at part tree calls m number place call held seen placed there waits is =
    let s = machine_seen part tree calls in
    let found = has_place (has_call s number) (number - part.first) place (ap (λ n. cond (has_call n number) (Some (number - n.first)) None) seen ∙ placed) in
    let less : place < length (map standing_seen calls) = subst (λ k. k < length (map standing_seen calls)) found.1 (within s number found.0).1 in
    ap (λ n. take_refusal n number) (sym seen) ∙ refusal_is part tree calls number place call held found.0 found.1 (there_by calls place call less there) waits is
