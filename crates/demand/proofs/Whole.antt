-- Demand 3 and the number of steps, of any run over any lent lists: what a run keeps makes its events sound, and the pass writes the steps of the events that are seen. Assumes nothing.
use Rattle.std.proofs.Common.{Result, Ok, Err}
use mathlib.Core.Path.{◌≡◌, refl, sym, ap, ◌∙◌}
use mathlib.Core.Bool.{Bool, true, false, false≢true}
use mathlib.Core.List.{List, [], ◌∷◌, ◌++◌, map}
use Prim.Native.Nat.{ℕ, ◌+◌, ◌≤◌}
use native.Mathlib.Omega.{arith}
use native.Mathlib.Nat.{zero-add, le_refl}
use lib.ListN.{length, take, drop, length-map}
use lib.Seq.{sets, sets-eq, take_at}
use lib.Dec.{ltb}
use borrow.Author.Tests.{le-leb, lt-leb, ltb-true, ltb-false}
use Rattle.base.proofs.Laws.{whether_yes, whether_no, called_is}
use Rattle.input.specs.SyntaxKind.{UNSOUND, STEPS_FULL}
use Rattle.input.specs.Input.{Tokens, refusal}
use Rattle.input.specs.declared.Refusal.{Refusal}
use Rattle.event.specs.Event.{live, spent, named, Event, start, finish, token, split, error}
use Rattle.event.specs.declared.State.{State}
use Rattle.process.specs.Process.{sound_of, count_of, process_of}
use Rattle.demand.specs.Lists.{tally, gather, count}
use Rattle.demand.specs.Runs.{Call, declined, call_of, Place, step_to, run_of}
use Rattle.demand.specs.Steps.{Step, code_of, step_from, token_in, entered, enters, leaves}
use Rattle.demand.specs.Demand.{Covers, raws_of, Demand, Gives, seen, steps_in, Exactly, Whole}
use Rattle.demand.proofs.Events.{is_split, Follows, Paired}
use Rattle.demand.proofs.Pass.{own, steps}
use Rattle.demand.proofs.Chain.{ups}
use Rattle.demand.proofs.Demanded.{good_demand}
use Rattle.demand.proofs.Sound.{plain, pass_length}
use Rattle.demand.proofs.Calls.{declined_stays, run_of_fits}
use Rattle.demand.proofs.Written.{written}
use Rattle.demand.proofs.Passes.{sound_is, sound_fits, sound_paired, count_is}
use Rattle.demand.proofs.Reading.{read_each, seen_fit, pass_small}

-- the steps of paired events: a split gives one for its finish too
abbrev owed : Bool → ℕ
owed true = 1
owed false = 0

event_steps : (c : Bool) (e : Event) (es : List Event) → Follows c (e ∷ es) → ups e + length (own c e) + owed c ≡ steps_in e + owed (is_split e)
event_steps false (start live f b) es p = refl
event_steps false (start spent f b) es p = refl
event_steps false (start (named k) f b) es p = refl
event_steps false finish es p = refl
event_steps true finish es p = refl
event_steps false (token k w) es p = refl
event_steps false (split d) es p = refl
event_steps false (error n) es p = refl
event_steps true (start s f b) es p = absurd (false≢true p)
event_steps true (token k w) es p = absurd (false≢true p)
event_steps true (split d) es p = absurd (false≢true p)
event_steps true (error n) es p = absurd (false≢true p)

paired_steps : (c : Bool) (es : List Event) → Follows c es → Paired es → tally ups es + plain c es + owed c ≡ tally steps_in es
paired_steps true [] p q = absurd p
paired_steps false [] p q = refl
paired_steps c (e ∷ es) p q = omega (arith, event_steps c e es p, paired_steps (is_split e) es q.0 q.1)

first_in_lem : (st : List ℕ) (l : List Step) → length l ≤ length st → sets st 0 (map code_of l) ≡ map code_of l ++ drop (length l) st
first_in_lem st l h = sets-eq (map code_of l) st 0 (omega (arith, length-map l code_of)) ∙ rw (zero-add, length-map)

module _ (s : State) (ev : List ℕ) (sound : sound_of s ev ≡ true) where
  abbrev ss : List Step
  ss = steps (seen s ev)

  length_steps : length ss ≡ tally ups (seen s ev) + plain false (seen s ev)
  unfolding steps
  length_steps = pass_length (length (seen s ev)) false (seen s ev) (le_refl (length (seen s ev)))

  counted : count_of ev s.count ≡ length ss
  unfolding seen
  counted = count_is s.count ev (sound_fits s ev sound) ∙ sym length_steps

  read : map step_from (map code_of ss) ≡ ss
  unfolding steps seen
  read = read_each ss (pass_small (length (seen s ev)) false (seen s ev) (seen_fit s.count ev))

  given : Gives s ev ss
  unfolding process_of seen
  given = record {
    room = λ st h. sym (whether_yes _ _ sound (whether_yes _ _ (rw counted (le-leb _ _ h)) (called_is _ (sym (written s.count ev st (sound_fits s ev sound))) (rw (first_in_lem st ss h)))));
    full = λ st h. sym (whether_yes _ _ sound (whether_no _ _ (rw counted (lt-leb _ _ h)) refl));
    reads = read;
  }

  -- the pass on a sound list: named starts, finishes, tokens and errors
  pub exactly_so_many_steps : Exactly s ev
  exactly_so_many_steps = record { steps = ss; many = omega (arith, length_steps, paired_steps false (seen s ev) tt (sound_paired s ev sound)); gives = given }

-- what an answer's number and kind say
steps_refused : {n : ℕ} {s : State} {number place : ℕ} → ◌≡◌ {A = Result (ℕ × State) Refusal} (Ok (n, s)) (Err (refusal number place)) → ◌≡◌ {A = ℕ} 0 1
steps_refused q = cc

steps_number : {m n : ℕ} {s t : State} → ◌≡◌ {A = Result (ℕ × State) Refusal} (Ok (m, s)) (Ok (n, t)) → m ≡ n
steps_number {m} {n} {s} {t} q = let e : ◌≡◌ {A = ℕ × State} (m, s) (n, t) = cc in ap (λ x. x.0) e

refusal_number : {a b p r : ℕ} → ◌≡◌ {A = Result (ℕ × State) Refusal} (Err (refusal a p)) (Err (refusal b r)) → a ≡ b
refusal_number {a} {b} {p} {r} q = let e : refusal a p ≡ refusal b r = cc in ap (λ x. x.number) e

-- the numbers that the pass wrote
steps_written : (s : State) (ev : List ℕ) (ss : List Step) → Gives s ev ss → (st : List ℕ) (n : ℕ) (s' : State) (ev' st' : List ℕ) → process_of s ev st ≡ (Ok (n, s'), ev', st') → take n st' ≡ map code_of ss
steps_written s ev ss g st n s' ev' st' q = go (ltb (length st) (length ss)) refl
  where
    go : (b : Bool) → ltb (length st) (length ss) ≡ b → take n st' ≡ map code_of ss
    go true b = absurd (let e = sym q ∙ g.full st (ltb-true _ _ b) in let w : ◌≡◌ {A = ℕ} 0 1 = steps_refused (ap (λ r. r.0) e) in omega arith)
    go false b =
        let e = sym q ∙ g.room st (ltb-false _ _ b) in
        let m : n ≡ length ss = steps_number (ap (λ r. r.0) e) in
        let t : st' ≡ map code_of ss ++ drop (length ss) st = ap (λ r. r.2) e in
        rw (m, t) (take_at (map code_of ss) (drop (length ss) st) (length ss) (length-map ss code_of))

module _ (ts : Tokens) (ev : List ℕ) (cs : List Call) where
  -- where the run stands
  abbrev z : Place
  z = run_of ts ev cs

  -- "A refused call changes nothing.", and neither does a no
  pub declined_changes_nothing : (c : Call) → (call_of ts z.state z.events c).0 ≡ declined → step_to ts z c (call_of ts z.state z.events c) ≡ z
  declined_changes_nothing c q = declined_stays ts z c (run_of_fits ts ev cs) q

  -- a run's events are always sound
  pub runs_are_sound : sound_of z.state z.events ≡ true
  runs_are_sound = let f = run_of_fits ts ev cs in sound_is z.state z.events f.fits f.placed f.decoded f.good.linked f.good.paired

  pub whole : Whole ts z
  unfolding exactly_so_many_steps
  whole = record { sound = runs_are_sound; pass = exactly_so_many_steps z.state z.events runs_are_sound; demand = good_demand ts z (run_of_fits ts ev cs).good }

  -- so the pass is never refused by 9
  pub never_unsound : (st : List ℕ) (place : ℕ) → (process_of z.state z.events st).0 ≡ Err (refusal UNSOUND place) → ⊥
  never_unsound st place q = go (ltb (length st) (length whole.pass.steps)) refl
    where
      go : (b : Bool) → ltb (length st) (length whole.pass.steps) ≡ b → ⊥
      go true b = let e = whole.pass.gives.full st (ltb-true _ _ b) in let w : ◌≡◌ {A = ℕ} STEPS_FULL UNSOUND = refusal_number (sym (ap (λ r. r.0) e) ∙ q) in omega arith
      go false b = let e = whole.pass.gives.room st (ltb-false _ _ b) in let w : ◌≡◌ {A = ℕ} 0 1 = steps_refused (sym (ap (λ r. r.0) e) ∙ q) in omega arith

  -- demand 3, where the pass is not refused: of its numbers, read as steps
  module _ (st : List ℕ) (n : ℕ) (s : State) (ev' st' : List ℕ) (q : process_of z.state z.events st ≡ (Ok (n, s), ev', st')) where
    abbrev given_steps : List Step
    given_steps = map step_from (take n st')

    read_back : given_steps ≡ whole.pass.steps
    read_back = ap (map step_from) (steps_written z.state z.events whole.pass.steps whole.pass.gives st n s ev' st' q) ∙ whole.pass.gives.reads

    pub demand_three : Demand ts z given_steps
    demand_three = rw read_back whole.demand

    -- each of them is the number of a step
    pub only_steps : take n st' ≡ map code_of given_steps
    only_steps = rw read_back (steps_written z.state z.events whole.pass.steps whole.pass.gives st n s ev' st' q)

    pub every_token_once : (gather token_in given_steps ≡ z.took) × Covers ts 0 z.took z.state.pos.0 × (gather raws_of z.took ≡ take z.state.pos.0 ts.kinds)
    every_token_once = (demand_three.tokens, demand_three.covers, demand_three.raws)

    pub nodes_balance : (tally enters given_steps ≡ tally leaves given_steps) × ((node : ℕ) → count node (gather entered given_steps) ≡ count node z.closed)
    nodes_balance = (demand_three.even, demand_three.kinds)

    pub never_more_left : (k : ℕ) → tally leaves (take k given_steps) ≤ tally enters (take k given_steps)
    never_more_left = demand_three.within
