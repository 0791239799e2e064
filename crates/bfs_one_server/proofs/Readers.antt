-- Who reads behind a WRITE reads what was written.
use Rattle.std.proofs.Common.{◌≡◌, ◌∙◌, ℕ, ◌+◌, ◌-◌, ◌<◌, ◌≤◌, ◌==◌, Bool, true, false, List, [], ◌∷◌, ◌++◌, length, take, drop, replicate, Option, Some, Result, Ok, Err, nat_lt, not, refl, sym, ap, subst, append-nil, arith}
use Rattle.std.specs.Prelude.{min}
use Rattle.std.specs.Bool.{⊤}
use Rattle.std.specs.FinMap.{get}
use Rattle.std.proofs.lemmas.Bool.{ne_eqb}
use Rattle.std.proofs.lemmas.Bool.Decides.{nat_tests}
use Rattle.std.proofs.lemmas.List.{append_assoc, drop_at, length-append, length-replicate, length-take, length-take-le, take_at}
use Rattle.bfs_model.specs.Bytes.Arguments.{Call, arguments_of, fields_at, file_at, link_at, named_at, named_with_settings_at, read, read_at, read_directory_at, rename_at, set_attributes, set_attributes_at, symbolic_link_at, write, write_at}
use Rattle.bfs_model.specs.Bytes.Attributes.{Attributes, attributes_of}
use Rattle.bfs_model.specs.Bytes.Call as rpc
use Rattle.bfs_model.specs.Bytes.Call.{call_of}
use Rattle.bfs_model.specs.Bytes.Items.{◌>>=◌, bytes_at, fixed_at, opaque_at, word}
use Rattle.bfs_model.specs.Bytes.Replies.{Reply, Status, acces, fbig, perm, attributes, contents, refused, results, success}
use Rattle.bfs_model.specs.Server.Access.{may_write_file}
use Rattle.bfs_model.specs.Server.Context.{Context}
use Rattle.bfs_model.specs.Server.FileBytes.{bytes_from, filled_to, overwritten}
use Rattle.bfs_model.specs.Server.Limits.{most_data_bytes, most_file_bytes}
use Rattle.bfs_model.specs.Server.Procedures.{attempted, or_refused, procedure}
use Rattle.bfs_model.specs.Server.Procedures.Attributes.{set_refusals}
use Rattle.bfs_model.specs.Server.Procedures.Data.{file_read, file_written}
use Rattle.bfs_model.specs.Server.Refusals.{FoundFile, Outcome, checked, file_found, inode_found}
use Rattle.bfs_model.specs.Server.Serial.{answer, answer_arguments, answer_call, ordinal_after}
use Rattle.bfs_model.specs.Server.Tree.{Inodes, spent_ordinal}
use Rattle.bfs_model.proofs.Public.{IsServable, answer_keeps, got_put, servable}
use Rattle.bfs_one_server.specs.Reading.{AnswersBehindAll, Gives, IsDone, NoneRewrites, ReadersSeeParts, ReadersSeeWrites, Spells, inodes_by, ordinal_by, rewrites}
use Rattle.bfs_one_server.specs.Serving.{Effect, Serves}
use Rattle.bfs_one_server.proofs.Rewriting.{Keeps, attempt_keeps}

-- One after another --------------------------------------------------------------------------------------------------------

serves_behind : (m : Inodes) (o : ℕ) (front rest : List Effect) → Serves m o (front ++ rest) → Serves (inodes_by m o front) (ordinal_by o front) rest
serves_behind m o [] rest serves = serves
serves_behind m o (e ∷ front) rest serves = serves_behind (answer m o e.time e.request.call).0 (ordinal_after o 1) front rest serves.1

pub answers_behind_all : AnswersBehindAll
answers_behind_all m o front e back serves = (serves_behind m o front (e ∷ back) serves).0

pub servable_behind : (m : Inodes) (o : ℕ) (front : List Effect) → IsServable m o → IsServable (inodes_by m o front) (ordinal_by o front)
servable_behind m o [] good = good
servable_behind m o (e ∷ front) good = servable_behind (answer m o e.time e.request.call).0 (ordinal_after o 1) front (answer_keeps m o e.time e.request.call good)

-- What a reply tells -------------------------------------------------------------------------------------------------------

refused_is_told : (status : Status) (rest : List ℕ) → results (refused status) ≡ word 0 ++ rest → ⊥
unfolding results word
refused_is_told perm rest is = absurd cc
refused_is_told status rest is = absurd cc

done_is_told : (m : Inodes) (attempt : Result Outcome Status) (rest : List ℕ) → results (or_refused m attempt).1 ≡ word 0 ++ rest → (x : Outcome) × (attempt ≡ Ok x)
done_is_told m (Ok x) rest is = (x, refl)
done_is_told m (Err status) rest is = absurd (refused_is_told status rest is)

behind_header : (xid : ℕ) (bytes : List ℕ) → drop 24 (success xid bytes) ≡ bytes
unfolding success word
behind_header xid bytes = refl

abbrev pub under : (o : ℕ) → Effect → rpc.Request → Context
under o e request = record { ordinal = o; time = e.time; caller = request.credential }

-- what the server does and replies to a request that spells a call
answer_is : (m : Inodes) (o : ℕ) (e : Effect) (request : rpc.Request) (call : Call) → Spells e request call
    → ◌≡◌ {A = Inodes × List ℕ} (answer m o e.time e.request.call) ((procedure m (under o e request) call).0, success request.xid (results (procedure m (under o e request) call).1))
unfolding answer
answer_is m o e request call spells = ap (answer_call m o e.time) spells.header ∙ ap (answer_arguments m o e.time request) spells.arguments

-- where the reply tells so, it was done
pub record WasDone (m : Inodes) (o : ℕ) (e : Effect) (request : rpc.Request) (call : Call) : Type 0 where
  pub x : Outcome
  pub attempt : attempted m (under o e request) call ≡ Ok x
  pub leaves : (answer m o e.time e.request.call).0 ≡ x.0
  pub replies : e.reply ≡ success request.xid (results x.1)

pub was_done : (m : Inodes) (o : ℕ) (e : Effect) (request : rpc.Request) (call : Call) → e.reply ≡ (answer m o e.time e.request.call).1 → Spells e request call → IsDone e → WasDone m o e request call
was_done m o e request call reply spells done =
    let attempt = attempted m (under o e request) call in
    let both = answer_is m o e request call spells in
    let told : e.reply ≡ success request.xid (results (or_refused m attempt).1) = reply ∙ ap (λ (after : Inodes × List ℕ). after.1) both in
    let was = done_is_told m attempt done.1 (sym (behind_header request.xid _) ∙ ap (drop 24) (sym told ∙ done.2) ∙ behind_header done.0 _) in
    record {
      x = was.0;
      attempt = was.1;
      leaves = ap (λ (after : Inodes × List ℕ). after.0) both ∙ ap (λ a. (or_refused m a).0) was.1;
      replies = told ∙ ap (λ a. success request.xid (results (or_refused m a).1)) was.1;
    }

-- What rewrites a file is done with its attributes -----------------------------------------------------------------------------

attributes_tell : (of : Attributes) → results (attributes of) ≡ word 0 ++ drop 4 (results (attributes of))
unfolding results word
attributes_tell of = refl

replied : {X : Type 0} (found : Result X Status) (test : X → Result ⊤ Status) (after : X → Inodes) (of : X → Attributes) (x : Outcome)
    → (found >>= λ y. test y >>= λ passed. Ok (after y, attributes (of y))) ≡ Ok x → results x.1 ≡ word 0 ++ drop 4 (results x.1)
replied found test after of x is = grind (arith, attributes_tell)

rewriting_tells : (m : Inodes) (c : Context) (id : ℕ) (call : Call) (x : Outcome) → rewrites id call ≡ true → attempted m c call ≡ Ok x → results x.1 ≡ word 0 ++ drop 4 (results x.1)
rewriting_tells m c id (write (Some at) offset written) x rewriting is =
    replied (file_found m (Some at)) (λ old. checked ((not (may_write_file c.caller old.inode), acces) ∷ (nat_lt most_file_bytes (offset + length written), fbig) ∷ [])) _ _ x is
rewriting_tells m c id (set_attributes (Some at) settings) x rewriting is = replied (inode_found m (Some at)) (λ old. checked (set_refusals c old.inode settings)) _ _ x is
rewriting_tells m c id call x rewriting is = absurd cc

-- requests that do not rewrite a file, or are not done, leave its bytes
spared : (m : Inodes) (o : ℕ) (e : Effect) (id : ℕ) (bytes : List ℕ) → (o ≡ id → ⊥) → e.reply ≡ (answer m o e.time e.request.call).1
    → ((request : rpc.Request) (call : Call) → Spells e request call → IsDone e → rewrites id call ≡ false) → Keeps id bytes m → Keeps id bytes (answer m o e.time e.request.call).0
unfolding answer
spared m o e id bytes older reply spares held = grind (arith, by_call)
  where
    by_attempt : (request : rpc.Request) (call : Call) → Spells e request call → (attempt : Result Outcome Status) → attempted m (under o e request) call ≡ attempt → Keeps id bytes (or_refused m attempt).0
    by_attempt request call spells (Err status) is = held
    by_attempt request call spells (Ok x) is = attempt_keeps id bytes m (under o e request) held older call (go (rewrites id call) refl) x is
      where
        told : e.reply ≡ success request.xid (results x.1)
        told = reply ∙ ap (λ (after : Inodes × List ℕ). after.1) (answer_is m o e request call spells) ∙ ap (λ a. success request.xid (results (or_refused m a).1)) is

        go : (b : Bool) → rewrites id call ≡ b → rewrites id call ≡ false
        go false rewriting = rewriting
        go true rewriting = spares request call spells (request.xid, drop 4 (results x.1), told ∙ ap (success request.xid) (rewriting_tells m (under o e request) id call x rewriting is))

    by_call : (request : rpc.Request) (call : Call) → call_of e.request.call ≡ Ok request → arguments_of request.procedure request.arguments ≡ Some call → Keeps id bytes (procedure m (under o e request) call).0
    by_call request call header arguments = by_attempt request call (record { header = header; arguments = arguments }) (attempted m (under o e request) call) refl

all_spared : (m : Inodes) (o : ℕ) (id : ℕ) (bytes : List ℕ) (middle rest : List Effect) → id < o → o ≤ spent_ordinal → Serves m o (middle ++ rest) → NoneRewrites id middle → Keeps id bytes m → Keeps id bytes (inodes_by m o middle)
all_spared m o id bytes [] rest older most serves spares held = held
all_spared m o id bytes (e ∷ middle) rest older most serves spares held =
    all_spared (answer m o e.time e.request.call).0 (ordinal_after o 1) id bytes middle rest (omega arith) (omega arith) serves.1 spares.1 (spared m o e id bytes (λ is. absurd (omega arith)) serves.0 spares.0 held)

-- WRITE and READ -----------------------------------------------------------------------------------------------------------

item_is_short : (most : ℕ) (bytes : List ℕ) (item : List ℕ × List ℕ) → opaque_at false most bytes ≡ Ok item → length item.0 ≤ most
unfolding opaque_at fixed_at bytes_at
item_is_short most bytes item is = grind (arith, length-take {A = ℕ}, nat_tests)

write_is_short : (bytes : List ℕ) (fields : Call × List ℕ) (handle : Option ℕ) (offset : ℕ) (written : List ℕ) → write_at bytes ≡ Some fields → fields.0 ≡ write handle offset written → length written ≤ most_data_bytes
unfolding write_at
write_is_short bytes fields handle offset written is same = grind (arith, item_is_short)

fields_are_short : (number : ℕ) (bytes : List ℕ) (fields : Call × List ℕ) (handle : Option ℕ) (offset : ℕ) (written : List ℕ) → fields_at number bytes ≡ Some fields → fields.0 ≡ write handle offset written → length written ≤ most_data_bytes
unfolding fields_at file_at named_at named_with_settings_at set_attributes_at read_at rename_at link_at symbolic_link_at read_directory_at
fields_are_short number bytes fields handle offset written is same = grind (arith, write_is_short)

-- a WRITE that is spelled is short
written_is_short : (number : ℕ) (bytes : List ℕ) (handle : Option ℕ) (offset : ℕ) (written : List ℕ) → arguments_of number bytes ≡ Some (write handle offset written) → length written ≤ most_data_bytes
unfolding arguments_of
written_is_short number bytes handle offset written is = grind (arith, fields_are_short)

-- a part of what was written is there
part_is_there : (offset : ℕ) (first part last bytes : List ℕ) → length (first ++ part ++ last) ≤ most_data_bytes → bytes_from (offset + length first) (length part) (overwritten offset (first ++ part ++ last) bytes) ≡ part
part_is_there offset first [] last bytes few = refl
part_is_there offset first (p ∷ more) last bytes few =
    let part : List ℕ = p ∷ more in
    let written : List ℕ = first ++ part ++ last in
    let front : List ℕ = take offset (filled_to offset bytes) in
    let behind : List ℕ = drop (offset + length written) bytes in
    let count : length written ≡ length first + length part + length last = simp length-append in
    let some : (length written == 0) ≡ false = ne_eqb (length written) 0 (λ is. absurd (omega arith)) in
    let long : length front ≡ offset = length-take-le offset (filled_to offset bytes) (omega (arith, length-append bytes (replicate (offset - length bytes) 0), length-replicate {A = ℕ} (offset - length bytes) 0)) in
    let at : length (front ++ first) ≡ offset + length first = simp (length-append, long) in
    let parted : front ++ written ++ behind ≡ (front ++ first) ++ (part ++ (last ++ behind)) = simp append_assoc in
    let least : min (length part) most_data_bytes ≡ length part = omega arith in
    rw (some, least, parted, drop_at (front ++ first) (part ++ (last ++ behind)) (offset + length first) at, take_at part (last ++ behind) (length part) refl) refl

pub then_was : {X Y : Type 0} (step : Result X Status) (next : X → Result Y Status) (y : Y) → (step >>= next) ≡ Ok y → (x : X) × (step ≡ Ok x) × (next x ≡ Ok y)
then_was (Ok x) next y is = (x, refl, is)
then_was (Err status) next y is = absurd cc

is_there : (m : Inodes) (id : ℕ) (old : FoundFile) → file_found m (Some id) ≡ Ok old → get m id ≡ Some old.inode
is_there m id old is = grind arith

write_keeps : (m : Inodes) (c : Context) (id offset : ℕ) (written : List ℕ) (old : FoundFile) (x : Outcome) → file_found m (Some id) ≡ Ok old → file_written m c (Some id) offset written ≡ Ok x → Keeps id (overwritten offset written old.bytes) x.0
write_keeps m c id offset written old x at is = record { body = λ inode there. grind (arith, got_put) }

read_gives : (m : Inodes) (c : Context) (id offset count : ℕ) (bytes : List ℕ) (old : FoundFile) (x : Outcome) → file_found m (Some id) ≡ Ok old → file_read m c (Some id) offset count ≡ Ok x → Keeps id bytes m
    → x.1 ≡ contents (attributes_of id old.inode) (bytes_from offset count bytes)
read_gives m c id offset count bytes old x at is held = grind (arith, held.body)

-- In a history -------------------------------------------------------------------------------------------------------------

pub readers_see_parts : ReadersSeeParts
readers_see_parts files front writing middle reading back one other id offset first part last formed serves writes wrote spares reads done =
    let written : List ℕ = first ++ part ++ last in
    let m = inodes_by files.tree files.next_ordinal front in
    let o = ordinal_by files.next_ordinal front in
    let after = (answer m o writing.time writing.request.call).0 in
    let now = inodes_by after (ordinal_after o 1) middle in
    let at = ordinal_by (ordinal_after o 1) middle in
    let good = servable_behind files.tree files.next_ordinal front (servable files formed) in
    let most : o ≤ spent_ordinal = good.most in
    let from = serves_behind files.tree files.next_ordinal front (writing ∷ (middle ++ reading ∷ back)) serves in
    let answered = serves_behind after (ordinal_after o 1) middle (reading ∷ back) from.1 in
    let first_done = was_done m o writing one (write (Some id) offset written) from.0 writes wrote in
    let old = then_was (file_found m (Some id)) _ first_done.x first_done.attempt in
    let older : id < o = (good.numbered id old.0.inode (is_there m id old.0 old.1)).fileid.1 in
    let bytes : List ℕ = overwritten offset written old.0.bytes in
    let left : Keeps id bytes after = subst (Keeps id bytes) (sym first_done.leaves) (write_keeps m (under o writing one) id offset written old.0 first_done.x old.1 first_done.attempt) in
    let kept : Keeps id bytes now = all_spared after (ordinal_after o 1) id bytes middle (reading ∷ back) (omega arith) (omega arith) from.1 spares left in
    let then_done = was_done now at reading other (read (Some id) (offset + length first) (length part)) answered.0 reads done in
    let new = then_was (file_found now (Some id)) _ then_done.x then_done.attempt in
    let told = read_gives now (under at reading other) id (offset + length first) (length part) bytes new.0 then_done.x new.1 then_done.attempt kept in
    subst (Gives reading other.xid) (part_is_there offset first part last old.0.bytes (written_is_short one.procedure one.arguments (Some id) offset written writes.arguments))
    (attributes_of id new.0.inode, then_done.replies ∙ ap (λ (r : Reply). success other.xid (results r)) told)

pub readers_see_writes : ReadersSeeWrites
readers_see_writes files front writing middle reading back one other id offset written formed serves writes wrote spares reads done =
    let no_more : offset ≡ offset + length {A = ℕ} [] = omega arith in
    readers_see_parts files front writing middle reading back one other id offset [] written [] formed serves
    (subst (λ (l : List ℕ). Spells writing one (write (Some id) offset l)) (sym (append-nil written)) writes) wrote spares
    (subst (λ (n : ℕ). Spells reading other (read (Some id) n (length written))) no_more reads) done
