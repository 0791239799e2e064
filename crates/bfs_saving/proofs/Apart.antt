-- Messages that may be those of a log.
use Rattle.std.proofs.Common.{◌≡◌, ℕ, ◌<◌, Bool, true, false, cond, not, List, [], ◌∷◌, ◌++◌, Option, Some, None, Result, Ok, Err, refl, sym, ap, subst, ◌∙◌}
use Rattle.std.specs.Prelude.{⊤, All, OnOk}
use Rattle.std.specs.List.{list_all, AllByRecursion}
use Rattle.std.proofs.lemmas.Bool.{and_from, and_parts, lt-ltb}
use Rattle.std.proofs.lemmas.List.Elements.{recursion_from_All}
use Rattle.bfs_model.specs.Server.Limits.{most_replicas}
use Rattle.bfs_votes.specs.Votes.{Header, SlotsDiffer, is_taken}
use Rattle.bfs_messages.specs.Signing.{as_message}
use Rattle.bfs_messages.specs.declared.message.Message.TheVariants.{Order}
use Rattle.bfs_messages.specs.declared.signed.Signed.{Signed}
use Rattle.bfs_messages.specs.declared.order_messages.OrderMessage.{OrderMessage}
use Rattle.bfs_log.specs.Headers.{header}
use Rattle.bfs_log.specs.Logs.{Log, headers}
use Rattle.bfs_log.proofs.Public.{either_left, either_right, neither, same_again, same_slot}
use Rattle.bfs_model.proofs.Public.{IsExact, where_exact}
use Rattle.bfs_saving.specs.Items.{FitMany}
use Rattle.bfs_saving.specs.Messages.{FitsText}
use Rattle.bfs_saving.specs.Logs.{FitsLog, are_apart, is_from_few, is_log, log_from, log_text, may_follow}
use Rattle.bfs_saving.proofs.Exact.{many_exact}
use Rattle.bfs_saving.proofs.Carrying.{order_exact}

not_false : (b : Bool) → b ≡ false → not b ≡ true
not_false false e = refl
not_false true e = absurd cc

false_not : (b : Bool) → not b ≡ true → b ≡ false
false_not false e = refl
false_not true e = absurd cc

apart : (hs : List Header) → SlotsDiffer hs → are_apart hs ≡ true
apart [] differ = refl
apart (h ∷ hs) differ = and_from (not (is_taken hs h)) (are_apart hs) (not_false (is_taken hs h) differ.0) (apart hs differ.1)

differ : (hs : List Header) → are_apart hs ≡ true → SlotsDiffer hs
differ [] e = tt
differ (h ∷ hs) e = let parts = and_parts (not (is_taken hs h)) (are_apart hs) e in (false_not (is_taken hs h) parts.0, differ hs parts.1)

from_few : (log : Log) → AllByRecursion (λ m. (header m).sender < most_replicas) log → list_all is_from_few log ≡ true
from_few [] all = refl
from_few (m ∷ ms) all = and_from (is_from_few m) (list_all is_from_few ms) (lt-ltb (header m).sender most_replicas all.0) (from_few ms all.1)

pub log_is : (log : Log) → SlotsDiffer (headers log) → All (λ m. (header m).sender < most_replicas) log → is_log log ≡ true
log_is log apart_from all = and_from (are_apart (headers log)) (list_all is_from_few log) (apart (headers log) apart_from) (from_few log (recursion_from_All (λ m. (header m).sender < most_replicas) log all))

few_there : (xs : Log) (m : Signed OrderMessage) (ys : Log) → list_all is_from_few (xs ++ m ∷ ys) ≡ true → is_from_few m ≡ true
few_there [] m ys all = (and_parts (is_from_few m) (list_all is_from_few ys) all).0
few_there (x ∷ xs) m ys all = few_there xs m ys (and_parts (is_from_few x) (list_all is_from_few (xs ++ m ∷ ys)) all).1

-- A slot is free in what stands before its message --------------------------------------------------------------------

not_there : (h : Header) (xs : Log) (m : Signed OrderMessage) (ys : Log) → is_taken (headers (xs ++ m ∷ ys)) h ≡ false → same_slot (header m) h ≡ false
not_there h [] m ys e = either_left (same_slot (header m) h) (is_taken (headers ys) h) e
not_there h (x ∷ xs) m ys e = not_there h xs m ys (either_right (same_slot (header x) h) (is_taken (headers (xs ++ m ∷ ys)) h) e)

free_front : (xs : Log) (m : Signed OrderMessage) (ys : Log) → SlotsDiffer (headers (xs ++ m ∷ ys)) → is_taken (headers xs) (header m) ≡ false
free_front [] m ys differ = refl
free_front (x ∷ xs) m ys differ =
    neither (same_slot (header x) (header m)) (is_taken (headers xs) (header m)) (same_again (header x) (header m) ∙ not_there (header x) xs m ys differ.0) (free_front xs m ys differ.1)

-- each may follow those before it
pub follows : (log : Log) (m : Signed OrderMessage) (rest : Log) → is_log (log ++ m ∷ rest) ≡ true → may_follow log m.message ≡ true
follows log m rest whole =
    let parts = and_parts (are_apart (headers (log ++ m ∷ rest))) (list_all is_from_few (log ++ m ∷ rest)) whole in
    and_from (is_from_few m) (not (is_taken (headers log) (header m))) (few_there log m rest parts.1) (not_false _ (free_front log m rest (differ (headers (log ++ m ∷ rest)) parts.0)))

either : (b : Bool) (log : Log) → (b ≡ true → ⊥) → ◌≡◌ {A = Option Log} None (cond b (Some log) None)
either true log never = absurd (never refl)
either false log never = refl

-- one may not: they are those of no log
pub no_log : (messages log : Log) (m : Signed OrderMessage) (rest : Log) (may : Bool) → messages ≡ log ++ m ∷ rest → may ≡ may_follow log m.message → may ≡ false → ◌≡◌ {A = Option Log} None (cond (is_log messages) (Some messages) None)
no_log messages log m rest may all told refused =
    either (is_log messages) messages (λ whole. let e = sym (follows log m rest (subst (λ (l : Log). is_log l ≡ true) all whole)) ∙ sym told ∙ refused in absurd cc)

-- all of them followed one another
pub whole_log : (messages log : Log) → log ≡ messages → SlotsDiffer (headers log) → All (λ m. (header m).sender < most_replicas) log → ◌≡◌ {A = Option Log} (Some log) (cond (is_log messages) (Some messages) None)
whole_log messages log all apart_from few =
    ap (λ (l : Log). Some l) all ∙ sym (ap (λ b. cond b (Some messages) None) (subst (λ (l : Log). is_log l ≡ true) all (log_is log apart_from few)))

pub log_exact : IsExact log_text FitsLog log_from
log_exact = where_exact is_log (many_exact order_exact)

-- what was written of a log fits
pub log_fits : {E : Type 0} (r : Result ⊤ E) (log messages : Log) → messages ≡ log → SlotsDiffer (headers log) → All (λ m. (header m).sender < most_replicas) log
    → OnOk r (FitMany (λ m. FitsText (as_message Order m)) messages) → OnOk r (FitsLog log)
log_fits (Ok x) log messages same apart_from few fits = (subst (FitMany (λ m. FitsText (as_message Order m))) same fits, log_is log apart_from few)
log_fits (Err e) log messages same apart_from few fits = tt
