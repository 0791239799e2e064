-- One event after another.
use Rattle.std.proofs.Common.{◌≡◌, ◌⊎◌, ℕ, suc, ◌+◌, ◌<◌, List, [], ◌∷◌, length, get_or, drop, Option, Some, None, Result, Ok, Err, ap, sym, ◌∙◌, arith, inl, inr}
use Rattle.std.specs.Option.{IsSomeAnd}
use Rattle.std.proofs.Math.Seq.{drop-cons}
use Rattle.bfs_overtaking.specs.declared.errors.CoreError.{CoreError}
use Rattle.bfs_overtaking.specs.declared.errors.CoreError.TheVariants as error
use Rattle.bfs_overtaking.specs.declared.events.Event.{Event}
use Rattle.bfs_overtaking.specs.Machine.{Machine, Happens, on_ok, played}

-- what is left of the events leads where all of them lead
abbrev pub Leads : Option Machine → List Event → Result Machine CoreError → Type 0
Leads core events end = IsSomeAnd core (λ m. played events m ≡ end)

pub happened : {A : Type 0} (old new : Option Machine) (event : Event) (events : List Event) (end : Result Machine CoreError) (done : A) → Leads old (event ∷ events) end → Happens old event (Ok done) new → Leads new events end
happened None new event events end done leads happens = absurd leads
happened (Some m) None event events end done leads happens = absurd happens
happened (Some m) (Some n) event events end done leads happens = sym (ap (on_ok (played events)) happens) ∙ leads

pub refused : (A : Type 0) (old new : Option Machine) (event : Event) (events : List Event) (end : Result Machine CoreError) (e : CoreError) → Leads old (event ∷ events) end → Happens {A = A} old event (Err e) new
    → (end ≡ Err e) ⊎ (e ≡ error.Memory)
refused A None new event events end e leads happens = absurd leads
refused A (Some m) new event events end e leads (inl is) = inl (sym leads ∙ ap (on_ok (played events)) is.0)
refused A (Some m) new event events end e leads (inr is) = inr is.0

pub all_happened : (core : Option Machine) (end : Result Machine CoreError) → Leads core [] end → IsSomeAnd core (λ last. end ≡ Ok last)
all_happened None end leads = absurd leads
all_happened (Some m) end leads = sym leads

-- the next of the events, and what is left behind it
pub next_is : (events : List Event) (k : ℕ) (d : Event) → k < length events → drop k events ≡ get_or events k d ∷ drop (k + 1) events
next_is events k d less = drop-cons events k d less ∙ ap (λ n. get_or events k d ∷ drop n events) (let more : suc k ≡ k + 1 = omega arith in more)
