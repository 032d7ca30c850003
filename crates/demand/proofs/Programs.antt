-- A program of machine calls is a run of the public calls, where the token list passes the checks: the state of a run is always in range, so no call is refused before its work. One law for each call, one induction on programs (`run_keeps`). Assumes nothing.
use Rattle.std.proofs.Common.{Ok, Err, Some, None}
use mathlib.Core.Path.{◌≡◌, refl, subst, ap}
use mathlib.Core.List.{List, [], ◌∷◌, ◌++◌}
use mathlib.Core.Bool.{true, false}
use Prim.Native.Nat.{ℕ, ◌≤◌}
use lib.ListN.{length}
use lib.Dec.{leb}
use borrow.Author.Tests.{le-leb}
use Rattle.base.specs.Base.{whether}
use Rattle.base.proofs.Cases.{whether_by}
use Rattle.input.specs.SyntaxKind.{UNSOUND}
use Rattle.input.specs.Input.{Tokens, token_limit, tokens_of, lengths_of, on_checked, refusal, Checked}
use Rattle.input.proofs.Laws.{not_both}
use Rattle.input.specs.declared.Refusal.{Refusal}
use Rattle.event.specs.Event.{capacity_of, in_range, fresh}
use Rattle.event.specs.declared.State.{State}
use Rattle.process.specs.Process.{sound_of}
use Rattle.parser.specs.Calls.{start_of, complete_of, abandon_of, precede_of, extend_of, eat_of, bump_any_of, error_of, split_of, Opened, Closed, Moved, Taken, Parted}
use Rattle.parser.specs.Public.{range_of, looked_of, calling, start_call, complete_call, abandon_call, precede_call, extend_call, eat_call, bump_any_call, error_call, split_call}
use Rattle.parser.specs.Prog.{Prog, Ran, run}
use Rattle.parser.proofs.Moves.{Keeps, Kept, run_keeps, OpenedBy, ClosedBy, MovedBy, TakenBy, PartedBy}
use Rattle.demand.specs.Runs.{Call, starts, completes, abandons, precedes, extends, takes, takes_any, errs, splits, Heard, accepted, declined, opened_as, closed_as, moved_as, taken_as, parted_as, heard, call_of, Place, step_to, run_on, run_of}
use Rattle.demand.specs.Programs.{Run, ProgramsAreRuns, ProgramsAreSound}
use Rattle.demand.proofs.Whole.{whole}
use Rattle.demand.proofs.Checks.{then_fine, lengths_fine, bytes_fine}

-- one call more
run_snoc : (ts : Tokens) (z : Place) (cs : List Call) (c : Call) → run_on ts z (cs ++ (c ∷ [])) ≡ step_to ts (run_on ts z cs) c (call_of ts (run_on ts z cs).state (run_on ts z cs).events c)
unfolding run_on
run_snoc ts z [] c = refl
run_snoc ts z (d ∷ cs) c = run_snoc ts (step_to ts z d (call_of ts z.state z.events d)) cs c

abbrev Next : Tokens → List ℕ → State → Heard × List ℕ → Type 0
Next ts ev s o = elim o.0 [ accepted s1 ↦ Run ts ev s1 o.1 | declined ↦ Run ts ev s o.1 ]

next_go : (ts : Tokens) (ev : List ℕ) (cs : List Call) (c : Call) (h : Heard) (e : List ℕ) → run_of ts ev (cs ++ (c ∷ [])) ≡ step_to ts (run_of ts ev cs) c (h, e) → Next ts ev (run_of ts ev cs).state (h, e)
unfolding step_to
next_go ts ev cs c (accepted s) e q = record { calls = cs ++ (c ∷ []); state_is = ap (λ z. z.state) q; events_are = ap (λ z. z.events) q }
next_go ts ev cs c declined e q = record { calls = cs ++ (c ∷ []); state_is = ap (λ z. z.state) q; events_are = ap (λ z. z.events) q }

next : (ts : Tokens) (ev : List ℕ) (s : State) (e : List ℕ) → Run ts ev s e → (c : Call) → Next ts ev s (call_of ts s e c)
unfolding run_of
next ts ev s e r c =
    let cs : List Call = r.calls in
    let o : Heard × List ℕ = call_of ts (run_of ts ev cs).state (run_of ts ev cs).events c in
    let n : Next ts ev (run_of ts ev cs).state o = next_go ts ev cs c o.0 o.1 (run_snoc ts _ cs c) in
    subst (λ (l : List ℕ). Next ts ev s (call_of ts s l c)) r.events_are (subst (λ (t : State). Next ts ev t (call_of ts t (run_of ts ev cs).events c)) r.state_is n)

-- what an answer says of a run, in the words of `Keeps`
module _ (ts : Tokens) (ev : List ℕ) (s : State) where
  opened_next : (x : Opened) (e : List ℕ) → Next ts ev s (heard opened_as (x, e)) → OpenedBy (Run ts ev) (Run ts ev s) (x, e)
  opened_next (Ok (s1, o)) e n = n
  opened_next (Err r) e n = n

  closed_next : (x : Closed) (e : List ℕ) → Next ts ev s (heard closed_as (x, e)) → ClosedBy (Run ts ev) (Run ts ev s) (x, e)
  closed_next (Ok (s1, m)) e n = n
  closed_next (Err r) e n = n

  moved_next : (x : Moved) (e : List ℕ) → Next ts ev s (heard moved_as (x, e)) → MovedBy (Run ts ev) (Run ts ev s) (x, e)
  moved_next (Ok s1) e n = n
  moved_next (Err r) e n = n

  taken_next : (x : Taken) (e : List ℕ) → Next ts ev s (heard taken_as (x, e)) → TakenBy (Run ts ev) (Run ts ev s) (x, e)
  taken_next (Ok (Some s1)) e n = n
  taken_next (Ok None) e n = n
  taken_next (Err r) e n = n

  parted_next : (x : Parted) (e : List ℕ) → Next ts ev s (heard parted_as (x, e)) → PartedBy (Run ts ev) (Run ts ev s) (x, e)
  parted_next (Ok (Some (s1, m))) e n = n
  parted_next (Ok None) e n = n
  parted_next (Err r) e n = n

sound_range : (s : State) (e : List ℕ) → sound_of s e ≡ true → in_range token_limit s e ≡ true
unfolding sound_of
sound_range s e = whether_by (λ b. b ≡ true → in_range token_limit s e ≡ true) (in_range token_limit s e) _ _ (λ q _. q) (λ _ q. absurd (not_both _ q refl))

-- a position within the tokens is in their range
nearer_range : (s : State) (e : List ℕ) (n : ℕ) → in_range token_limit s e ≡ true → s.pos.0 ≤ n → in_range n s e ≡ true
unfolding in_range
nearer_range s e n q h =
    whether_by (λ b. b ≡ true) (leb s.count (capacity_of e)) (λ _. leb s.pos.0 n) (λ _. false) (λ _. le-leb s.pos.0 n h)
    (λ p. absurd (not_both _ q (whether_by (λ b. b ≡ false) (leb s.count (capacity_of e)) (λ _. leb s.pos.0 token_limit) (λ _. false) (λ z. absurd (not_both _ z p)) (λ _. refl))))

-- a run stands at sound events, within the tokens
module _ {ts : Tokens} {ev : List ℕ} {s : State} {e : List ℕ} (r : Run ts ev s e) where
  pub run_sound : sound_of s e ≡ true
  run_sound = subst (λ (l : List ℕ). sound_of s l ≡ true) r.events_are (subst (λ (t : State). sound_of t (run_of ts ev r.calls).events ≡ true) r.state_is (whole ts ev r.calls).sound)

  pub run_inside : s.pos.0 ≤ length ts.kinds
  run_inside = subst (λ (t : State). t.pos.0 ≤ length ts.kinds) r.state_is (whole ts ev r.calls).demand.inside

  range_fine : range_of token_limit s e ≡ Ok tt
  unfolding range_of
  range_fine = whether_by (λ x. x ≡ Ok tt) (in_range token_limit s e) _ _ (λ _. refl) (λ q. absurd (not_both _ (sound_range s e run_sound) q))

  looked_fine : tokens_of ts ≡ Ok tt → looked_of ts s e ≡ Ok tt
  unfolding looked_of range_of
  looked_fine fine =
      then_fine (lengths_of ts) _ (lengths_fine ts fine)
      (then_fine (whether (in_range (length ts.kinds) s e) (λ _. Ok tt) (λ _. Err (refusal UNSOUND 0))) _ (whether_by (λ x. x ≡ Ok tt) (in_range (length ts.kinds) s e) _ _ (λ _. refl) (λ q. absurd (not_both _ (nearer_range s e (length ts.kinds) (sound_range s e run_sound) run_inside) q)))
      (bytes_fine ts fine s.pos.0 run_inside))

call_fine : {A : Type 0} (c : Checked) (refused : Refusal → A) (ev : List ℕ) (work : Unit {0} → A × List ℕ) → c ≡ Ok tt → calling c refused ev work ≡ work tt
unfolding calling on_checked
call_fine c refused ev work q = ap (λ x. calling x refused ev work) q

-- so every call does its work
module _ (ts : Tokens) (fine : tokens_of ts ≡ Ok tt) (ev : List ℕ) where
  pub keeps_run : Keeps ts (Run ts ev)
  unfolding call_of start_call complete_call abandon_call precede_call extend_call eat_call bump_any_call error_call split_call
  keeps_run =
      record {
        of_start = λ s e r. opened_next ts ev s (start_of s e).0 (start_of s e).1 (subst (λ (x : Opened × List ℕ). Next ts ev s (heard opened_as x)) (call_fine _ Err e (λ _. start_of s e) (range_fine r)) (next ts ev s e r starts));
        of_complete = λ s o node e r. closed_next ts ev s (complete_of s o node e).0 (complete_of s o node e).1 (subst (λ (x : Closed × List ℕ). Next ts ev s (heard closed_as x)) (call_fine _ Err e (λ _. complete_of s o node e) (range_fine r)) (next ts ev s e r (completes o.0 node)));
        of_abandon = λ s o e r. moved_next ts ev s (abandon_of s o e).0 (abandon_of s o e).1 (subst (λ (x : Moved × List ℕ). Next ts ev s (heard moved_as x)) (call_fine _ Err e (λ _. abandon_of s o e) (range_fine r)) (next ts ev s e r (abandons o.0)));
        of_precede = λ s c e r. opened_next ts ev s (precede_of s c e).0 (precede_of s c e).1 (subst (λ (x : Opened × List ℕ). Next ts ev s (heard opened_as x)) (call_fine _ Err e (λ _. precede_of s c e) (range_fine r)) (next ts ev s e r (precedes c.0)));
        of_extend = λ s c o e r. closed_next ts ev s (extend_of s c o e).0 (extend_of s c o e).1 (subst (λ (x : Closed × List ℕ). Next ts ev s (heard closed_as x)) (call_fine _ Err e (λ _. extend_of s c o e) (range_fine r)) (next ts ev s e r (extends c.0 o.0)));
        of_eat = λ s kind e r. taken_next ts ev s (eat_of ts s kind e).0 (eat_of ts s kind e).1 (subst (λ (x : Taken × List ℕ). Next ts ev s (heard taken_as x)) (call_fine _ Err e (λ _. eat_of ts s kind e) (looked_fine r fine)) (next ts ev s e r (takes kind)));
        of_bump = λ s e r. taken_next ts ev s (bump_any_of ts s e).0 (bump_any_of ts s e).1 (subst (λ (x : Taken × List ℕ). Next ts ev s (heard taken_as x)) (call_fine _ Err e (λ _. bump_any_of ts s e) (looked_fine r fine)) (next ts ev s e r takes_any));
        of_error = λ s code e r. moved_next ts ev s (error_of s code e).0 (error_of s code e).1 (subst (λ (x : Moved × List ℕ). Next ts ev s (heard moved_as x)) (call_fine _ Err e (λ _. error_of s code e) (range_fine r)) (next ts ev s e r (errs code)));
        of_split = λ s o e r. parted_next ts ev s (split_of ts s o e).0 (split_of ts s o e).1 (subst (λ (x : Parted × List ℕ). Next ts ev s (heard parted_as x)) (call_fine _ Err e (λ _. split_of ts s o e) (looked_fine r fine)) (next ts ev s e r (splits o.0)));
      }

  -- every program from the fresh state is a run of calls
  pub program_is_a_run : {A : Type 0} (p : Prog A) → Kept (Run ts ev) (run ts p fresh ev)
  unfolding run_of run_on
  program_is_a_run p = run_keeps ts (Run ts ev) keeps_run p fresh ev (record { calls = []; state_is = refl; events_are = refl })

pub programs_are_runs : ProgramsAreRuns
programs_are_runs A ts ev q p s a e h = subst (λ (r : Ran A). Kept (Run ts ev) r) h (program_is_a_run ts q ev p)

pub programs_are_sound : ProgramsAreSound
programs_are_sound A ts ev q p s a e h = run_sound (programs_are_runs A ts ev q p s a e h)
