-- "show that any two allowed results agree": what a contract allows is one value, so two answers to the same inputs are the same in result, counts, place and lists. From the contracts' equations alone. Assumes nothing.
use Rattle.std.proofs.Common.{Result, Ok, Err}
use mathlib.Core.Path.{◌≡◌, sym, ap, ◌∙◌}
use mathlib.Core.List.{List}
use Prim.Native.Nat.{ℕ}
use native.Mathlib.Omega.{arith}
use Rattle.base.specs.Base.{Next, again, done}
use Rattle.input.specs.Input.{Tokens}
use Rattle.input.specs.declared.Refusal.{Refusal}
use Rattle.event.specs.declared.State.{State}
use Rattle.parser.specs.declared.Marker.{Marker}
use Rattle.parser.specs.declared.CompletedMarker.{CompletedMarker}
use Rattle.parser.specs.Calls.{Opened, Closed, Moved, Taken, Parted, start_of, complete_of, abandon_of, precede_of, extend_of, error_of, eat_of, bump_any_of, split_of}
use Rattle.parser.specs.Public.{start_call, complete_call, abandon_call, precede_call, extend_call, error_call, eat_call, bump_any_call, split_call}
use Rattle.parser.specs.Prog.{Prog, Reply, fine, bad, run, Perhaps}
use Rattle.atoms.specs.declared.Turn.{Turn}
use Rattle.atoms.specs.declared.Turn.TheVariants as turn
use Rattle.atoms.specs.Views.{opened_reply, closed_reply, moved_reply, turn_reply}
use Rattle.grammar.specs.Views.{reading_reply}
use Rattle.grammar.specs.Expressions.{expr_bp}
use Rattle.process.specs.Process.{process_of, Processed}
use Rattle.reader.specs.Reader.{parse_of}
use Rattle.reader.specs.declared.Parsed.{Parsed}

-- a contract that is one equation allows one value; with it the pairs and triples of an answer and the lists it leaves
pub one_answer : {A : Type 0} {x y r : A} → x ≡ r → y ≡ r → x ≡ y
one_answer p q = p ∙ sym q

with_one_list : {A : Type 0} {x y : A} {e f : List ℕ} {r : A × List ℕ} → (x, e) ≡ r → (y, f) ≡ r → (x ≡ y) × (e ≡ f)
with_one_list {A} p q = (ap (λ (z : A × List ℕ). z.0) (one_answer p q), ap (λ (z : A × List ℕ). z.1) (one_answer p q))

with_two_lists : {A : Type 0} {x y : A} {e f u v : List ℕ} {r : A × List ℕ × List ℕ} → (x, e, u) ≡ r → (y, f, v) ≡ r → (x ≡ y) × (e ≡ f) × (u ≡ v)
with_two_lists {A} p q = (ap (λ (z : A × List ℕ × List ℕ). z.0) (one_answer p q), ap (λ (z : A × List ℕ × List ℕ). z.1) (one_answer p q), ap (λ (z : A × List ℕ × List ℕ). z.2) (one_answer p q))

-- the calls of the machine
pub start_agrees : (s : State) (ev : List ℕ) {x y : Opened} {e f : List ℕ} → (x, e) ≡ start_call s ev → (y, f) ≡ start_call s ev → (x ≡ y) × (e ≡ f)
start_agrees s ev p q = with_one_list p q

pub complete_agrees : (s : State) (m : Marker) (node : ℕ) (ev : List ℕ) {x y : Closed} {e f : List ℕ} → (x, e) ≡ complete_call s m node ev → (y, f) ≡ complete_call s m node ev → (x ≡ y) × (e ≡ f)
complete_agrees s m node ev p q = with_one_list p q

pub abandon_agrees : (s : State) (m : Marker) (ev : List ℕ) {x y : Moved} {e f : List ℕ} → (x, e) ≡ abandon_call s m ev → (y, f) ≡ abandon_call s m ev → (x ≡ y) × (e ≡ f)
abandon_agrees s m ev p q = with_one_list p q

pub precede_agrees : (s : State) (c : CompletedMarker) (ev : List ℕ) {x y : Opened} {e f : List ℕ} → (x, e) ≡ precede_call s c ev → (y, f) ≡ precede_call s c ev → (x ≡ y) × (e ≡ f)
precede_agrees s c ev p q = with_one_list p q

pub extend_agrees : (s : State) (c : CompletedMarker) (m : Marker) (ev : List ℕ) {x y : Closed} {e f : List ℕ} → (x, e) ≡ extend_call s c m ev → (y, f) ≡ extend_call s c m ev → (x ≡ y) × (e ≡ f)
extend_agrees s c m ev p q = with_one_list p q

pub error_agrees : (s : State) (code : ℕ) (ev : List ℕ) {x y : Moved} {e f : List ℕ} → (x, e) ≡ error_call s code ev → (y, f) ≡ error_call s code ev → (x ≡ y) × (e ≡ f)
error_agrees s code ev p q = with_one_list p q

pub eat_agrees : (ts : Tokens) (s : State) (kind : ℕ) (ev : List ℕ) {x y : Taken} {e f : List ℕ} → (x, e) ≡ eat_call ts s kind ev → (y, f) ≡ eat_call ts s kind ev → (x ≡ y) × (e ≡ f)
eat_agrees ts s kind ev p q = with_one_list p q

pub bump_any_agrees : (ts : Tokens) (s : State) (ev : List ℕ) {x y : Taken} {e f : List ℕ} → (x, e) ≡ bump_any_call ts s ev → (y, f) ≡ bump_any_call ts s ev → (x ≡ y) × (e ≡ f)
bump_any_agrees ts s ev p q = with_one_list p q

pub split_agrees : (ts : Tokens) (s : State) (m : Marker) (ev : List ℕ) {x y : Parted} {e f : List ℕ} → (x, e) ≡ split_call ts s m ev → (y, f) ≡ split_call ts s m ev → (x ≡ y) × (e ≡ f)
split_agrees ts s m ev p q = with_one_list p q

-- their inner calls
pub inner_start_agrees : (s : State) (ev : List ℕ) {x y : Opened} {e f : List ℕ} → (x, e) ≡ start_of s ev → (y, f) ≡ start_of s ev → (x ≡ y) × (e ≡ f)
inner_start_agrees s ev p q = with_one_list p q

pub inner_complete_agrees : (s : State) (m : Marker) (node : ℕ) (ev : List ℕ) {x y : Closed} {e f : List ℕ} → (x, e) ≡ complete_of s m node ev → (y, f) ≡ complete_of s m node ev → (x ≡ y) × (e ≡ f)
inner_complete_agrees s m node ev p q = with_one_list p q

pub inner_abandon_agrees : (s : State) (m : Marker) (ev : List ℕ) {x y : Moved} {e f : List ℕ} → (x, e) ≡ abandon_of s m ev → (y, f) ≡ abandon_of s m ev → (x ≡ y) × (e ≡ f)
inner_abandon_agrees s m ev p q = with_one_list p q

pub inner_precede_agrees : (s : State) (c : CompletedMarker) (ev : List ℕ) {x y : Opened} {e f : List ℕ} → (x, e) ≡ precede_of s c ev → (y, f) ≡ precede_of s c ev → (x ≡ y) × (e ≡ f)
inner_precede_agrees s c ev p q = with_one_list p q

pub inner_extend_agrees : (s : State) (c : CompletedMarker) (m : Marker) (ev : List ℕ) {x y : Closed} {e f : List ℕ} → (x, e) ≡ extend_of s c m ev → (y, f) ≡ extend_of s c m ev → (x ≡ y) × (e ≡ f)
inner_extend_agrees s c m ev p q = with_one_list p q

pub inner_error_agrees : (s : State) (code : ℕ) (ev : List ℕ) {x y : Moved} {e f : List ℕ} → (x, e) ≡ error_of s code ev → (y, f) ≡ error_of s code ev → (x ≡ y) × (e ≡ f)
inner_error_agrees s code ev p q = with_one_list p q

pub inner_eat_agrees : (ts : Tokens) (s : State) (kind : ℕ) (ev : List ℕ) {x y : Taken} {e f : List ℕ} → (x, e) ≡ eat_of ts s kind ev → (y, f) ≡ eat_of ts s kind ev → (x ≡ y) × (e ≡ f)
inner_eat_agrees ts s kind ev p q = with_one_list p q

pub inner_bump_any_agrees : (ts : Tokens) (s : State) (ev : List ℕ) {x y : Taken} {e f : List ℕ} → (x, e) ≡ bump_any_of ts s ev → (y, f) ≡ bump_any_of ts s ev → (x ≡ y) × (e ≡ f)
inner_bump_any_agrees ts s ev p q = with_one_list p q

pub inner_split_agrees : (ts : Tokens) (s : State) (m : Marker) (ev : List ℕ) {x y : Parted} {e f : List ℕ} → (x, e) ≡ split_of ts s m ev → (y, f) ≡ split_of ts s m ev → (x ≡ y) × (e ≡ f)
inner_split_agrees ts s m ev p q = with_one_list p q

-- the rules of the grammar: an answer is its own reply, or the reply tells the answer that it is of, so any two answers that meet a rule agree, for every rule
fine_not_bad : {A : Type 0} {s : State} {a : A} {r : Refusal} → fine s a ≡ bad r → ⊥
fine_not_bad q = let z : ◌≡◌ {A = ℕ} 0 1 = cc in omega arith

same_reply : {A : Type 0} {s t : State} {a b : A} → fine s a ≡ fine t b → (s ≡ t) × (a ≡ b)
same_reply {A} {s} {t} {a} {b} q = let p : ◌≡◌ {A = State × A} (s, a) (t, b) = cc in (ap (λ (z : State × A). z.0) p, ap (λ (z : State × A). z.1) p)

again_same : {m k : CompletedMarker} → ◌≡◌ {A = Next CompletedMarker CompletedMarker} (again m) (again k) → m ≡ k
again_same q = cc

done_same : {m k : CompletedMarker} → ◌≡◌ {A = Next CompletedMarker CompletedMarker} (done m) (done k) → m ≡ k
done_same q = cc

again_not_done : {m k : CompletedMarker} → ◌≡◌ {A = Next CompletedMarker CompletedMarker} (again m) (done k) → ⊥
again_not_done q = let z : ◌≡◌ {A = ℕ} 0 1 = cc in omega arith

pub opened_told : (x y : Opened) → opened_reply x ≡ opened_reply y → x ≡ y
opened_told x y q = q

pub closed_told : (x y : Closed) → closed_reply x ≡ closed_reply y → x ≡ y
closed_told x y q = q

pub reading_told : (x y : Reply (Perhaps CompletedMarker)) → reading_reply x ≡ reading_reply y → x ≡ y
reading_told x y q = q

pub moved_told : (x y : Moved) → moved_reply x ≡ moved_reply y → x ≡ y
unfolding moved_reply
moved_told (Ok s) (Ok s') q = rw (same_reply q).0
moved_told (Ok s) (Err r') q = absurd (fine_not_bad q)
moved_told (Err r) (Ok s') q = absurd (fine_not_bad (sym q))
moved_told (Err r) (Err r') q = cc

pub turn_told : (x y : Result Turn Refusal) → turn_reply x ≡ turn_reply y → x ≡ y
unfolding turn_reply
turn_told (Ok (turn.Again s m)) (Ok (turn.Again s' m')) q = let z = same_reply q in let l : m ≡ m' = again_same z.1 in rw (z.0, l)
turn_told (Ok (turn.Again s m)) (Ok (turn.Done s' m')) q = absurd (again_not_done (same_reply q).1)
turn_told (Ok (turn.Again s m)) (Err r') q = absurd (fine_not_bad q)
turn_told (Ok (turn.Done s m)) (Ok (turn.Again s' m')) q = absurd (again_not_done (sym (same_reply q).1))
turn_told (Ok (turn.Done s m)) (Ok (turn.Done s' m')) q = let z = same_reply q in let l : m ≡ m' = done_same z.1 in rw (z.0, l)
turn_told (Ok (turn.Done s m)) (Err r') q = absurd (fine_not_bad q)
turn_told (Err r) (Ok (turn.Again s' m')) q = absurd (fine_not_bad (sym q))
turn_told (Err r) (Ok (turn.Done s' m')) q = absurd (fine_not_bad (sym q))
turn_told (Err r) (Err r') q = cc

module _ (ts : Tokens) (s : State) (ev : List ℕ) {e f : List ℕ} where
  pub opened_rule_agrees : (p : Prog Marker) {x y : Opened} → (opened_reply x, e) ≡ run ts p s ev → (opened_reply y, f) ≡ run ts p s ev → (x ≡ y) × (e ≡ f)
  opened_rule_agrees p {x} {y} i j = let z = with_one_list i j in (opened_told x y z.0, z.1)

  pub closed_rule_agrees : (p : Prog CompletedMarker) {x y : Closed} → (closed_reply x, e) ≡ run ts p s ev → (closed_reply y, f) ≡ run ts p s ev → (x ≡ y) × (e ≡ f)
  closed_rule_agrees p {x} {y} i j = let z = with_one_list i j in (closed_told x y z.0, z.1)

  pub moved_rule_agrees : (p : Prog (Unit {0})) {x y : Moved} → (moved_reply x, e) ≡ run ts p s ev → (moved_reply y, f) ≡ run ts p s ev → (x ≡ y) × (e ≡ f)
  moved_rule_agrees p {x} {y} i j = let z = with_one_list i j in (moved_told x y z.0, z.1)

  pub turn_rule_agrees : (p : Prog (Next CompletedMarker CompletedMarker)) {x y : Result Turn Refusal} → (turn_reply x, e) ≡ run ts p s ev → (turn_reply y, f) ≡ run ts p s ev → (x ≡ y) × (e ≡ f)
  turn_rule_agrees p {x} {y} i j = let z = with_one_list i j in (turn_told x y z.0, z.1)

  pub reading_rule_agrees : (p : Prog (Perhaps CompletedMarker)) {x y : Reply (Perhaps CompletedMarker)} → (reading_reply x, e) ≡ run ts p s ev → (reading_reply y, f) ≡ run ts p s ev → (x ≡ y) × (e ≡ f)
  reading_rule_agrees p {x} {y} i j = let z = with_one_list i j in (reading_told x y z.0, z.1)

  pub expr_bp_agrees : (depth b : ℕ) {x y : Reply (Perhaps CompletedMarker)} → (reading_reply x, e) ≡ run ts (expr_bp depth ts b) s ev → (reading_reply y, f) ≡ run ts (expr_bp depth ts b) s ev → (x ≡ y) × (e ≡ f)
  expr_bp_agrees depth b i j = reading_rule_agrees (expr_bp depth ts b) i j

-- the pass, and the reader
pub process_agrees : (s : State) (ev st : List ℕ) {x y : Processed} {e f u v : List ℕ} → (x, e, u) ≡ process_of s ev st → (y, f, v) ≡ process_of s ev st → (x ≡ y) × (e ≡ f) × (u ≡ v)
process_agrees s ev st p q = with_two_lists p q

pub parse_agrees : (ts : Tokens) (ev st : List ℕ) {x y : Result Parsed Refusal} {e f u v : List ℕ} → (x, e, u) ≡ parse_of ts ev st → (y, f, v) ≡ parse_of ts ev st → (x ≡ y) × (e ≡ f) × (u ≡ v)
parse_agrees ts ev st p q = with_two_lists p q
