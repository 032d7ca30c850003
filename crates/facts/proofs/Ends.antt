-- How the public reader ends on a list that passes the checks: in steps that meet demand 3 of a run of calls, whose position is what was consumed; or in a refusal by 6 or 7, by 4 with too few events, or by 5 with too few steps. By what every reading does, and what every run of calls gives the pass. Assumes nothing.
use Rattle.std.proofs.Common.{Ok, Err}
use mathlib.Core.Path.{◌≡◌, refl, sym, subst, ◌∙◌}
use mathlib.Core.List.{List, [], ◌∷◌, map}
use mathlib.Core.Bool.{Bool, true, false}
use mathlib.Core.Logic.{◌⊎◌, inl, inr}
use Prim.Native.Nat.{ℕ, zero, suc, ◌+◌, ◌*◌, ◌≤◌, ◌<◌}
use native.Mathlib.Omega.{arith}
use lib.ListN.{length, take}
use lib.Dec.{ltb}
use borrow.Author.Tests.{ltb-true, ltb-false}
use Rattle.input.specs.SyntaxKind.{STEPS_FULL}
use Rattle.input.specs.Input.{Tokens, depth_limit, tokens_of, on_checked, Checked}
use Rattle.input.specs.declared.Refusal.{Refusal}
use Rattle.event.specs.Event.{live, spent, named, Event, start, finish, token, split, error, view, capacity_of, fresh}
use Rattle.event.specs.declared.State.{State}
use Rattle.parser.specs.declared.CompletedMarker.{CompletedMarker}
use Rattle.parser.specs.Prog.{Reply, fine, bad, run, Perhaps}
use Rattle.parser.proofs.Moves.{ReplyBy, Kept}
use Rattle.process.specs.Process.{process_of, Processed}
use Rattle.grammar.specs.Expressions.{expr_bp}
use Rattle.reader.specs.Reader.{Answer, refusing, on_processed, on_read, top_of, parse_of}
use Rattle.demand.specs.Lists.{tally}
use Rattle.demand.specs.Runs.{Call, run_of}
use Rattle.demand.specs.Demand.{seen, steps_in, Whole}
use Rattle.demand.specs.Programs.{Run}
use Rattle.demand.proofs.Whole.{whole, demand_three, only_steps}
use Rattle.facts.specs.Facts.{Met}
use Rattle.facts.proofs.Does.{World, Allowed}
use Rattle.facts.proofs.Postfix.{Read}
use Rattle.facts.proofs.Reading.{reading}
use Rattle.demand.proofs.Programs.{program_is_a_run}

-- no event gives more than a step
one_step : (es : List Event) → tally steps_in es ≤ length es
one_step [] = omega arith
one_step (start live f b ∷ es) = omega (arith, one_step es)
one_step (start spent f b ∷ es) = omega (arith, one_step es)
one_step (start (named k) f b ∷ es) = omega (arith, one_step es)
one_step (finish ∷ es) = omega (arith, one_step es)
one_step (token k w ∷ es) = omega (arith, one_step es)
one_step (split d ∷ es) = omega (arith, one_step es)
one_step (error c ∷ es) = omega (arith, one_step es)

take_most : {A : Type 0} (n : ℕ) (l : List A) → length (take n l) ≤ n
take_most zero l = omega arith
take_most (suc n) [] = omega arith
take_most (suc n) (x ∷ l) = omega (arith, take_most n l)

few_steps : (s : State) (e : List ℕ) → tally steps_in (seen s e) ≤ s.count
unfolding seen
few_steps s e = omega (arith, one_step (take s.count (map view e)), take_most s.count (map view e))

abbrev world : Tokens → List ℕ → World
world ts ev = record { ts = ts; cap = capacity_of ev; lim = 11 * length ts.kinds + 4 }

-- the refusals: those of a reading, and 5
abbrev pub Right : Tokens → List ℕ → List ℕ → Refusal → Type 0
Right ts ev st r = Allowed (world ts ev) r ⊎ ((r.number ≡ STEPS_FULL) × (length st < 11 * length ts.kinds + 4))

abbrev pub Ends : Tokens → List ℕ → List ℕ → Answer → Type 0
Ends ts ev st a = elim a.0 [ Ok got ↦ Met ts ev st got.consumed got.steps a.1 a.2 | Err r ↦ Right ts ev st r ]

module _ (ts : Tokens) (ev st : List ℕ) where
  -- the pass after a run of calls at which the reading ended
  pass_ends : (cs : List Call) (a : Perhaps CompletedMarker) → top_of ts ev ≡ (fine (run_of ts ev cs).state a, (run_of ts ev cs).events) → (run_of ts ev cs).state.count ≤ 11 * length ts.kinds + 4 → Ends ts ev st (on_processed (run_of ts ev cs).state.pos.0 (run_of ts ev cs).events st (process_of (run_of ts ev cs).state (run_of ts ev cs).events st))
  unfolding on_processed refusing
  pass_ends cs a was h = go (ltb (length st) (length w.pass.steps)) refl
    where
      w : Whole ts (run_of ts ev cs)
      w = whole ts ev cs

      few : length w.pass.steps ≤ 11 * length ts.kinds + 4
      few = omega (arith, w.pass.many, few_steps (run_of ts ev cs).state (run_of ts ev cs).events)

      go : (b : Bool) → ltb (length st) (length w.pass.steps) ≡ b → Ends ts ev st (on_processed (run_of ts ev cs).state.pos.0 (run_of ts ev cs).events st (process_of (run_of ts ev cs).state (run_of ts ev cs).events st))
      go true b = subst (λ (p : Processed × List ℕ × List ℕ). Ends ts ev st (on_processed (run_of ts ev cs).state.pos.0 (run_of ts ev cs).events st p)) (sym (w.pass.gives.full st (ltb-true _ _ b))) (inr (refl, omega (arith, ltb-true (length st) (length w.pass.steps) b, few)))
      go false b =
          let q = w.pass.gives.room st (ltb-false _ _ b) in
          subst (λ (p : Processed × List ℕ × List ℕ). Ends ts ev st (on_processed (run_of ts ev cs).state.pos.0 (run_of ts ev cs).events st p)) (sym q)
          (record { calls = cs; reading = a; was_read = was; stands_at = refl; passed = q; numbers = only_steps ts ev cs st _ _ _ _ q; demand = demand_three ts ev cs st _ _ _ _ q })

  -- a reading's reply
  reply_ends : (x : Reply (Perhaps CompletedMarker)) (e : List ℕ) → top_of ts ev ≡ (x, e) → ReplyBy (Read (world ts ev) ev fresh) (λ r _. Allowed (world ts ev) r) (x, e) → Kept (Run ts ev) (x, e) → Ends ts ev st (on_read st (x, e))
  unfolding on_read refusing
  reply_ends (fine s a) e was d k =
      let f : (run_of ts ev k.calls).state.count ≤ 11 * length ts.kinds + 4 = subst (λ (t : State). t.count ≤ 11 * length ts.kinds + 4) (sym k.state_is) (omega (arith, d.few, d.on.inside)) in
      let at : top_of ts ev ≡ (fine (run_of ts ev k.calls).state a, (run_of ts ev k.calls).events) = was ∙ rw (k.state_is, k.events_are) in
      subst (λ (l : List ℕ). Ends ts ev st (on_processed s.pos.0 l st (process_of s l st))) k.events_are
      (subst (λ (t : State). Ends ts ev st (on_processed t.pos.0 (run_of ts ev k.calls).events st (process_of t (run_of ts ev k.calls).events st))) k.state_is (pass_ends k.calls a at f))
  reply_ends (bad r) e was d k = inl d

  pub reader_ends : tokens_of ts ≡ Ok tt → Ends ts ev st (parse_of ts ev st)
  unfolding parse_of on_checked top_of
  reader_ends q =
      let d = (reading (world ts ev) depth_limit 1 (omega arith) fresh ev (record { inside = omega arith; low = omega arith; top = omega arith; room = refl; kept = λ i _. refl }) (omega arith)).does in
      subst (λ (c : Checked). Ends ts ev st (on_checked c (λ _. on_read st (run ts (expr_bp depth_limit ts 1) fresh ev)) (λ r. (Err r, ev, st)))) (sym q)
      (reply_ends (run ts (expr_bp depth_limit ts 1) fresh ev).0 (run ts (expr_bp depth_limit ts 1) fresh ev).1 refl d (program_is_a_run ts q ev (expr_bp depth_limit ts 1)))
