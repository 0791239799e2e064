-- The batches that correct replicas have executed are one list.
use Rattle.std.proofs.Common.{◌≡◌, ◌∙◌, ℕ, zero, suc, ◌<◌, ◌≤◌, Bool, true, false, List, [], ◌∷◌, ◌++◌, ◌⊎◌, length, Some, inl, inr, refl, sym, ap, ap₂, subst, arith, append-nil, length-append}
use Rattle.std.specs.Prelude.{nat_lt}
use Rattle.std.specs.List.{slice_get}
use Rattle.std.proofs.lemmas.Bool.{cases_Bool, ltb-false, ltb-true}
use Rattle.bfs_model.specs.Server.Tree.{FileSystem}
use Rattle.bfs_messages.specs.Messages.{Batch}
use Rattle.bfs_outcome.specs.Outcome as outcome
use Rattle.bfs_replies.specs.Tables.{Table}
use Rattle.bfs_agreement.specs.Histories.{IsIn}
use Rattle.bfs_nodes_agree.proofs.Public.{both_at, either_in, here_after, left_in, some_is}
use Rattle.bfs_nodes_agree.specs.Nodes.Answers.{HasCome}
use Rattle.bfs_nodes_agree.specs.Nodes.Laws.{Agree, ComesOfBatches, Executed}
use Rattle.bfs_nodes_agree.specs.Nodes.Replicas.{Beginning, Keyring, NodeReplica, NodeReplicas, NodeTurn, Standing, after_node_turn, after_node_turns, new_node_replicas, standing_of}
use Rattle.bfs_nodes_agree.specs.Nodes.Steps.{outcome as result}
use Rattle.bfs_one_server.specs.Laws.{AreAll}
use Rattle.bfs_one_server.specs.Serving.{files_after, table_after}
use Rattle.bfs_one_server.proofs.Growing.{GrowsTo, executed_grows, grows_turn, stays}
use Rattle.bfs_one_server.proofs.Serving.{files_append, table_append}

-- Lists ---------------------------------------------------------------------------------------------------------------------

pub at_more : {A : Type 0} (xs : List A) (y : A) (k : ℕ) (z : A) → slice_get (xs ++ y ∷ []) k ≡ Some z → (slice_get xs k ≡ Some z) ⊎ ((k ≡ length xs) × (z ≡ y))
at_more [] y zero z e = inr (refl, sym (some_is y z e))
at_more [] y (suc k) z e = absurd cc
at_more (x ∷ xs) y zero z e = inl e
at_more (x ∷ xs) y (suc k) z e = elim (at_more xs y k z e) [ inl f ↦ inl f | inr f ↦ inr (ap (λ (n : ℕ). suc n) f.0, f.1) ]

-- a list that has all that another has, at the same places, begins with it
pub begins_with : {A : Type 0} (xs ys : List A) → ((k : ℕ) (z : A) → slice_get xs k ≡ Some z → slice_get ys k ≡ Some z) → (more : List A) × (ys ≡ xs ++ more)
begins_with [] ys on = (ys, refl)
begins_with (x ∷ xs) [] on = let no = on zero x refl in absurd cc
begins_with {A} (x ∷ xs) (y ∷ ys) on =
    let rest = begins_with xs ys (λ k z e. on (suc k) z e) in
    (rest.0, ap₂ (λ (a : A) (l : List A). a ∷ l) (some_is y x (on zero x refl)) rest.1)

get_within : {A : Type 0} (xs : List A) (k : ℕ) → k < length xs → (x : A) × (slice_get xs k ≡ Some x)
get_within [] k low = absurd (omega (arith, low))
get_within (x ∷ xs) zero low = (x, refl)
get_within (x ∷ xs) (suc k) low = get_within xs k (omega (arith, low))

-- The greatest number that a correct replica has reached --------------------------------------------------------------------

pub record Highest (faulty : ℕ → Bool) (w : NodeReplicas) : Type 0 where
  pub most : ℕ
  pub there : (most ≡ 0) ⊎ ((i : ℕ) × (faulty i ≡ false) × (s : Standing) × IsIn s (w i).reached × (s.number ≡ most))
  pub others : (i : ℕ) (s : Standing) → faulty i ≡ false → IsIn s (w i).reached → s.number ≤ most

-- of these, of one that is no less and is known, and
record Greatest (known : ℕ) (states : List Standing) : Type 0 where
  top : ℕ
  low : known ≤ top
  there : (top ≡ known) ⊎ ((s : Standing) × IsIn s states × (s.number ≡ top))
  all : (s : Standing) → IsIn s states → s.number ≤ top

greatest : (known : ℕ) (states : List Standing) → Greatest known states
greatest known [] = record { top = known; low = omega arith; there = inl refl; all = λ s i. absurd i }
greatest known (x ∷ states) =
    let rest = greatest known states in
    let under = rest.low in
    elim (cases_Bool (nat_lt rest.top x.number)) [
      | inl e ↦
          let above = ltb-true rest.top x.number e in
          record {
            top = x.number;
            low = omega (arith, above, under);
            there = inr (x, inl refl, refl);
            all = λ s i. elim i [
              | inl same ↦ let is = ap (λ (y : Standing). y.number) same in omega (arith, is)
              | inr j ↦ let least = rest.all s j in omega (arith, least, above)
            ];
          }
      | inr e ↦
          let above = ltb-false rest.top x.number e in
          record {
            top = rest.top;
            low = rest.low;
            there = elim rest.there [ inl same ↦ inl same | inr t ↦ inr (t.0, inr t.1, t.2) ];
            all = λ s i. elim i [
              | inl same ↦ let is = ap (λ (y : Standing). y.number) same in omega (arith, is, above)
              | inr j ↦ rest.all s j
            ];
          }
    ]

highest_on : (faulty : ℕ → Bool) (w : NodeReplicas) (turn : NodeTurn) → Highest faulty w → Highest faulty (after_node_turn w turn)
highest_on faulty w turn before =
    let who = turn.who in
    let next = after_node_turn w turn in
    let now = standing_of (result (w who).node turn.step).now in
    let was : (before.most ≡ 0) ⊎ ((i : ℕ) × (faulty i ≡ false) × (s : Standing) × IsIn s (next i).reached × (s.number ≡ before.most)) =
    elim before.there [ inl e ↦ inl e | inr t ↦ inr (t.0, t.1, t.2, (grows_turn w turn t.0).reached t.2 t.3, t.4) ] in
    let bound : (most : ℕ) → before.most ≤ most → (faulty who ≡ false → (s : Standing) → IsIn s now → s.number ≤ most) → (i : ℕ) (s : Standing) → faulty i ≡ false → IsIn s (next i).reached → s.number ≤ most =
    λ most more new.
    both_at w turn (λ i r. (s : Standing) → faulty i ≡ false → IsIn s r.reached → s.number ≤ most)
    (λ s fine i. elim (either_in now (w who).reached s i) [ inl k ↦ new fine s k | inr k ↦ let low = before.others who s fine k in omega (arith, low, more) ])
    (λ i s fine j. let low = before.others i s fine j in omega (arith, low, more)) in
    elim (cases_Bool (faulty who)) [
      | inl bad ↦ record { most = before.most; there = was; others = bound before.most (omega arith) (λ fine. let no : true ≡ false = sym bad ∙ fine in absurd cc) }
      | inr good ↦
          let g = greatest before.most now in
          record {
            most = g.top;
            there = elim g.there [
              | inl same ↦ elim was [ inl none ↦ inl (same ∙ none) | inr t ↦ inr (t.0, t.1, t.2, t.3, t.4 ∙ sym same) ]
              | inr t ↦ inr (who, good, t.0, subst (λ (r : NodeReplica). IsIn t.0 r.reached) (sym (here_after w turn)) (left_in now (w who).reached t.0 t.1), t.2)
            ];
            others = bound g.top g.low (λ fine s i. g.all s i);
          }
    ]

pub highest : (faulty : ℕ → Bool) (turns : List NodeTurn) (w : NodeReplicas) → Highest faulty w → Highest faulty (after_node_turns w turns)
highest faulty [] w before = before
highest faulty (turn ∷ turns) w before = highest faulty turns (after_node_turn w turn) (highest_on faulty w turn before)

pub highest_at_first : (faulty : ℕ → Bool) (f : ℕ) (keys : Keyring) (start : Beginning) → Highest faulty (new_node_replicas f keys start)
highest_at_first faulty f keys start = record {
  most = 0;
  there = inl refl;
  others = λ i s correct j. elim j [ inl same ↦ let is = ap (λ (y : Standing). y.number) same in omega (arith, is) | inr none ↦ absurd none ];
}

-- What a state comes of ---------------------------------------------------------------------------------------------------------

pub record Listed (start : Beginning) (faulty : ℕ → Bool) (w : NodeReplicas) (n : ℕ) (files : FileSystem) (table : Table) : Type 0 where
  pub batches : List Batch
  pub long : length batches ≡ n
  pub executed : (k : ℕ) (b : Batch) → slice_get batches k ≡ Some b → (i : ℕ) × (faulty i ≡ false) × Executed (w i) (suc k) b
  pub files_are : files ≡ files_after start.files start.table batches
  pub table_is : table ≡ table_after start.files start.table batches

pub listed : (start : Beginning) (faulty : ℕ → Bool) (w : NodeReplicas) (n : ℕ) (files : FileSystem) (table : Table) → ComesOfBatches start faulty w n files table → Listed start faulty w n files table
listed start faulty w zero files table c = record { batches = []; long = refl; executed = λ k b e. absurd cc; files_are = c.0; table_is = c.1 }
listed start faulty w (suc n) files table c =
    let last = listed start faulty w n c.0 c.1 c.2 in
    let batch = c.5 in
    let one : List Batch = batch ∷ [] in
    let made : outcome.outcome c.0 c.1 batch ≡ outcome.outcome (files_after start.files start.table last.batches) (table_after start.files start.table last.batches) batch =
    ap₂ (λ (x : FileSystem) (t : Table). outcome.outcome x t batch) last.files_are last.table_is in
    record {
      batches = last.batches ++ one;
      long = let count = length-append last.batches one in let was = last.long in omega (arith, count, was);
      executed = λ k b e. elim (at_more last.batches batch k b e) [
        | inl there ↦ last.executed k b there
        | inr new ↦ (c.3, c.4, subst (λ (m : ℕ). Executed (w c.3) (suc m) b) (sym (new.0 ∙ last.long)) (subst (λ (x : Batch). Executed (w c.3) (suc n) x) (sym new.1) c.6))
      ];
      files_are = c.7 ∙ ap (λ (o : outcome.Outcome). o.files) made ∙ sym (files_append start.files start.table last.batches one);
      table_is = c.8 ∙ ap (λ (o : outcome.Outcome). o.table) made ∙ sym (table_append start.files start.table last.batches one);
    }

-- All of them -------------------------------------------------------------------------------------------------------------------

pub all_of : (start : Beginning) (faulty : ℕ → Bool) (w : NodeReplicas) → ((i number : ℕ) (b : Batch) → Executed (w i) number b → HasCome (w i) number) → Agree start faulty w → Highest faulty w
    → (batches : List Batch) × AreAll faulty w batches
all_of start faulty w comes agree top = elim top.there [
  | inl none ↦ (
    [],
    record {
      executed = λ n b e. absurd cc;
      all = λ i number b correct x.
          let led = comes i number b x in
          let low = top.others i led.standing correct led.reached in
          let a = led.there in
          let c = led.above in
          absurd (omega (arith, low, a, c, none));
    },
  )
  | inr t ↦
      let s = t.2 in
      let list = listed start faulty w s.number s.files s.table (agree.comes t.0 s t.1 t.3) in (
        list.batches,
        record {
          executed = list.executed;
          all = λ i number b correct x.
              let led = comes i number b x in
              let low = top.others i led.standing correct led.reached in
              let a = led.there in
              let c = led.above in
              let m = t.4 in
              let long = list.long in
              let got = get_within list.batches led.before (omega (arith, low, a, c, m, long)) in
              let other = list.executed led.before got.0 got.1 in
              let same = agree.batches other.0 i (suc led.before) got.0 b other.1 correct other.2 (subst (λ (n : ℕ). Executed (w i) n b) c x) in
              (led.before, c, got.1 ∙ ap (λ (y : Batch). Some y) same);
        },
      )
]

-- what correct replicas have executed stands at its place
pub placed : (faulty : ℕ → Bool) (w : NodeReplicas) (batches : List Batch) → AreAll faulty w batches → (i k : ℕ) (b : Batch) → faulty i ≡ false → Executed (w i) (suc k) b → slice_get batches k ≡ Some b
placed faulty w batches are i k b correct x =
    let at = are.all i (suc k) b correct x in
    let number = at.1 in
    let same : k ≡ at.0 = omega (arith, number) in
    ap (λ (n : ℕ). slice_get batches n) same ∙ at.2

-- those of earlier on stand first
pub earlier_first : (faulty : ℕ → Bool) (w v : NodeReplicas) (one other : List Batch) → ((i : ℕ) → GrowsTo (w i) (v i)) → AreAll faulty w one → AreAll faulty v other → (more : List Batch) × (other ≡ one ++ more)
earlier_first faulty w v one other on first all =
    begins_with one other (λ k b e. let at = first.executed k b e in placed faulty v other all at.0 k b at.1 (executed_grows (w at.0) (v at.0) (on at.0) (suc k) b at.2))

-- so there is one such list
pub only_one : (faulty : ℕ → Bool) (w : NodeReplicas) (one other : List Batch) → AreAll faulty w one → AreAll faulty w other → other ≡ one
only_one faulty w one other a b =
    let same = λ (i : ℕ). stays (w i) in
    let first = earlier_first faulty w w one other same a b in
    let second = earlier_first faulty w w other one same b a in
    let x = ap (λ (l : List Batch). length l) first.1 ∙ length-append one first.0 in
    let y = ap (λ (l : List Batch). length l) second.1 ∙ length-append other second.0 in
    first.1 ∙ ap (λ (l : List Batch). one ++ l) (empty first.0 (omega (arith, x, y))) ∙ append-nil one
  where
    empty : (l : List Batch) → length l ≡ 0 → l ≡ []
    empty [] e = refl
    empty (b ∷ l) e = absurd (omega (arith, e))
