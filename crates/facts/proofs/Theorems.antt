-- The theorems of `specs/Facts`. A reading's from what every reading does, with a limit that no state reaches; the public reader's from how it ends. Assumes nothing.
use Rattle.std.proofs.Common.{Result, Ok, Err}
use mathlib.Core.Path.{◌≡◌, refl, sym, subst, ap, ◌∙◌}
use mathlib.Core.List.{List, [], ◌∷◌, ◌++◌, map}
use mathlib.Core.Bool.{Bool, true, false}
use mathlib.Core.Logic.{◌⊎◌, inl, inr, ⊎_elim}
use Prim.Native.Nat.{ℕ, ◌+◌, ◌-◌, ◌*◌, ◌/◌, ◌≤◌}
use native.Mathlib.Omega.{arith}
use lib.ListN.{length, take}
use lib.Dec.{ltb, eqb}
use borrow.Author.Tests.{ltb-false, le-ltb, ne_eqb}
use Rattle.base.specs.Base.{whether}
use Rattle.base.proofs.Cases.{whether_by}
use Rattle.input.specs.SyntaxKind.{EVENTS_FULL, TOO_DEEP, OUTSIDE_CUT, TOKEN, LEAVE, FLOAT_SPLIT, FAULT, WIDTH_STEP, ENDS_IN_DOT}
use Rattle.input.specs.Input.{Tokens, token_limit, tokens_of, on_checked, Checked}
use Rattle.input.specs.declared.Refusal.{Refusal}
use Rattle.event.specs.Event.{event_limit, capacity_of}
use Rattle.event.specs.declared.State.{State}
use Rattle.parser.specs.declared.CompletedMarker.{CompletedMarker}
use Rattle.parser.specs.Prog.{fine, bad, Ran, run, Perhaps, some, none}
use Rattle.parser.proofs.Moves.{ReplyBy, Kept, onward}
use Rattle.grammar.specs.Expressions.{expr_bp}
use Rattle.grammar.proofs.Moves.{Takes, takes_a_token as takes_one}
use Rattle.reader.specs.Reader.{Answer, on_read, top_of, parse_of}
use Rattle.reader.specs.declared.Parsed.{Parsed}
use Rattle.demand.specs.Lists.{tally, gather}
use Rattle.demand.specs.Runs.{Tok}
use Rattle.demand.specs.Steps.{Step, code_of, parted, step_from, token_in}
use Rattle.demand.specs.Demand.{width_in}
use Rattle.facts.specs.Facts.{TakesAToken, NeverGoesBack, InRange, RefusedBy4Or6Or7, AtMostEleven, AtMostFourMore, RefusesBy1To7, width_of_step, width_of_steps, ConsumedIsWidth, Met, MeetsDemandThree, RoomSuffices, OnlyDepthOrCut, room_of, least_of}
use Rattle.facts.proofs.Does.{World, Allowed}
use Rattle.facts.proofs.Postfix.{Read}
use Rattle.facts.proofs.Reading.{reading}
use Rattle.demand.proofs.Checks.{By1_3, tokens_by, tokens_few}
use Rattle.facts.proofs.Ends.{Right, Ends, reader_ends}

sorted : (W : World) (r : Refusal) → Allowed W r → (r.number ≡ EVENTS_FULL) ⊎ ((r.number ≡ TOO_DEEP) ⊎ (r.number ≡ OUTSIDE_CUT))
sorted W r (inl a) = inr (inl a)
sorted W r (inr (inl a)) = inr (inr a)
sorted W r (inr (inr a)) = inl a.0

-- a limit that is far enough for a reading
abbrev far : Tokens → State → List ℕ → World
far ts s ev = record { ts = ts; cap = capacity_of ev; lim = s.count + 11 * length ts.kinds + 4 }

-- Readings, from a state in range.
module _ (ts : Tokens) (depth b : ℕ) (lo : 1 ≤ b) (s : State) (ev : List ℕ) (range : InRange ts s ev) where
  read_on : ReplyBy (Read (far ts s ev) ev s) (λ r _. Allowed (far ts s ev) r) (run ts (expr_bp depth ts b) s ev)
  read_on = (reading (far ts s ev) depth b lo s ev (record { inside = range.1; low = omega arith; top = range.0; room = refl; kept = λ i _. refl }) (omega arith)).does

  replied : (x : Ran (Perhaps CompletedMarker)) → run ts (expr_bp depth ts b) s ev ≡ x → ReplyBy (Read (far ts s ev) ev s) (λ r _. Allowed (far ts s ev) r) x
  replied x q = subst (λ (y : Ran (Perhaps CompletedMarker)). ReplyBy (Read (far ts s ev) ev s) (λ r _. Allowed (far ts s ev) r) y) q read_on

pub takes_a_token : TakesAToken
takes_a_token ts depth b s ev s1 m e q = (subst (λ (r : Ran (Perhaps CompletedMarker)). Takes ts s.pos.0 r) q (takes_one depth ts b s ev)).0

pub never_goes_back : NeverGoesBack
never_goes_back ts depth b s ev s1 a e q =
    let z : s.pos.0 ≤ s1.pos.0 = subst (λ (r : Ran (Perhaps CompletedMarker)). Kept (λ t _. s.pos.0 ≤ t.pos.0) r) q (onward ts (expr_bp depth ts b) s.pos.0 s ev (omega arith)) in
    omega arith

pub refused_by_4_6_7 : RefusedBy4Or6Or7
refused_by_4_6_7 ts depth b s ev lo range r e q = sorted (far ts s ev) r (replied ts depth b lo s ev range (bad r, e) q)

pub at_most_eleven : AtMostEleven
at_most_eleven ts depth b s ev lo range s1 m e q = omega (arith, (replied ts depth b lo s ev range (fine s1 (some m), e) q).got.1)

pub at_most_four_more : AtMostFourMore
at_most_four_more ts depth b s ev lo range s1 e q = omega (arith, (replied ts depth b lo s ev range (fine s1 none, e) q).few)

-- The public reader: what an answer's first part says of the whole.
answer_of_lem : (ts : Tokens) (ev st : List ℕ) (a : Answer) (x : Result Parsed Refusal) → Ends ts ev st a → a.0 ≡ x → Ends ts ev st (x, a.1, a.2)
answer_of_lem ts ev st a x h q = subst (λ (y : Result Parsed Refusal). Ends ts ev st (y, a.1, a.2)) q h

same_refusal : {r q : Refusal} → ◌≡◌ {A = Result Parsed Refusal} (Err r) (Err q) → r ≡ q
same_refusal p = cc

steps_or : {got : Parsed} {r : Refusal} → ◌≡◌ {A = Result Parsed Refusal} (Err r) (Ok got) → ⊥
steps_or p = let z : ◌≡◌ {A = ℕ} 0 1 = cc in omega arith

-- where the checks refuse
refused_at_once : (ts : Tokens) (ev st : List ℕ) (r : Refusal) → tokens_of ts ≡ Err r → (parse_of ts ev st).0 ≡ Err r
unfolding parse_of on_checked
refused_at_once ts ev st r q = ap (λ (c : Checked). (on_checked c (λ _. on_read st (top_of ts ev)) (λ r. (Err r, ev, st))).0) q

by_number : (ts : Tokens) (ev st : List ℕ) (r r1 : Refusal) → tokens_of ts ≡ Err r1 → (parse_of ts ev st).0 ≡ Err r → (1 ≤ r.number) × (r.number ≤ 3)
by_number ts ev st r r1 c q = subst (λ (x : Refusal). (1 ≤ x.number) × (x.number ≤ 3)) (same_refusal (sym (refused_at_once ts ev st r1 c) ∙ q)) (subst By1_3 c (tokens_by ts))

by_check : (ts : Tokens) {P : Type 0} → (tokens_of ts ≡ Ok tt → P) → ((r : Refusal) → tokens_of ts ≡ Err r → P) → P
by_check ts {P} f g = go (tokens_of ts) refl
  where
    go : (c : Checked) → tokens_of ts ≡ c → P
    go (Ok _) q = f q
    go (Err r) q = g r q

right_number : (ts : Tokens) (ev st : List ℕ) (r : Refusal) → Right ts ev st r → (4 ≤ r.number) × (r.number ≤ 7)
right_number ts ev st r (inl (inl a)) = (omega arith, omega arith)
right_number ts ev st r (inl (inr (inl a))) = (omega arith, omega arith)
right_number ts ev st r (inl (inr (inr a))) = (omega (arith, a.0), omega (arith, a.0))
right_number ts ev st r (inr a) = (omega (arith, a.0), omega (arith, a.0))

pub refuses_by_1_to_7 : RefusesBy1To7
refuses_by_1_to_7 ts ev st r q =
    by_check ts
    (λ c. let n = right_number ts ev st r (answer_of_lem ts ev st (parse_of ts ev st) (Err r) (reader_ends ts ev st c) q) in (omega (arith, n.0), omega (arith, n.1)))
    (λ r1 c. let n = by_number ts ev st r r1 c q in (omega (arith, n.0), omega (arith, n.1)))

-- The widths of steps, by number and as demand 3 counts them: for each way in which a number is read.
module _ (x : ℕ) where
  enter_width : ltb x TOKEN ≡ true → 0 ≡ width_of_step x
  unfolding width_of_step whether
  enter_width p = rw p

  token_width : ltb x TOKEN ≡ false → ltb x LEAVE ≡ true → (x - TOKEN) / WIDTH_STEP ≡ width_of_step x
  unfolding width_of_step whether
  token_width p q = rw (p, q)

  leave_width : x ≡ LEAVE → 0 ≡ width_of_step x
  unfolding width_of_step whether
  leave_width h = subst (λ (y : ℕ). 0 ≡ width_of_step y) (sym h) refl

  split_width : (d : Bool) → x ≡ code_of (parted d) → 1 ≡ width_of_step x
  unfolding width_of_step whether
  split_width true h = subst (λ (y : ℕ). 1 ≡ width_of_step y) (sym h) refl
  split_width false h = subst (λ (y : ℕ). 1 ≡ width_of_step y) (sym h) refl

  fault_width : FAULT ≤ x → 0 ≡ width_of_step x
  unfolding width_of_step whether
  fault_width h = rw (le-ltb x TOKEN (omega arith), le-ltb x LEAVE (omega arith), ne_eqb x FLOAT_SPLIT (λ q. omega arith), ne_eqb x (FLOAT_SPLIT + ENDS_IN_DOT) (λ q. omega arith))

  step_width : x ≡ code_of (step_from x) → tally width_in (token_in (step_from x)) ≡ width_of_step x
  unfolding step_from
  step_width =
      whether_by P (ltb x TOKEN) _ _ (λ p _. enter_width p) λ p.
      whether_by P (ltb x LEAVE) _ _ (λ q _. let z : (x - TOKEN) / WIDTH_STEP ≡ width_of_step x = token_width p q in omega arith) λ _.
      whether_by P (ltb x FLOAT_SPLIT) _ _ (λ _ h. leave_width h) λ _.
      whether_by P (ltb x FAULT) _ _ (λ _ h. split_width (eqb x (FLOAT_SPLIT + ENDS_IN_DOT)) h) (λ q _. fault_width (ltb-false x FAULT q))
    where
      P : Step → Type 0
      P s = x ≡ code_of s → tally width_in (token_in s) ≡ width_of_step x

tally_append : (l k : List Tok) → tally width_in (l ++ k) ≡ tally width_in l + tally width_in k
tally_append [] k = omega arith
tally_append (x ∷ l) k = omega (arith, tally_append l k)

heads : {A : Type 0} {x y : A} {l k : List A} → x ∷ l ≡ y ∷ k → (x ≡ y) × (l ≡ k)
heads q = ((cc), (cc))

steps_width : (l : List ℕ) → l ≡ map code_of (map step_from l) → tally width_in (gather token_in (map step_from l)) ≡ width_of_steps l
unfolding width_of_steps
steps_width [] h = refl
steps_width (x ∷ l) h = tally_append (token_in (step_from x)) (gather token_in (map step_from l)) ∙ rw (step_width x (heads h).0, steps_width l (heads h).1)

-- what was consumed, from demand 3
met_width : (ts : Tokens) (ev st : List ℕ) (c n : ℕ) (ev' st' : List ℕ) → Met ts ev st c n ev' st' → c ≡ width_of_steps (take n st')
met_width ts ev st c n ev' st' m = sym m.stands_at ∙ sym m.demand.widths ∙ ap (λ (l : List Tok). tally width_in l) (sym m.demand.tokens) ∙ steps_width (take n st') m.numbers

-- room
enough : (ts : Tokens) (ev : List ℕ) (room : ℕ) → tokens_of ts ≡ Ok tt → room ≤ length ev → room ≤ 11 * length ts.kinds + 4 → room ≤ capacity_of ev
unfolding capacity_of event_limit token_limit
enough ts ev room q h l = whether_by (λ x. room ≤ x) (ltb (length ev) event_limit) _ _ (λ _. h) (λ _. omega (arith, tokens_few ts q))

right_with_room : (ts : Tokens) (ev st : List ℕ) (r : Refusal) → 11 * length ts.kinds + 4 ≤ capacity_of ev → 11 * length ts.kinds + 4 ≤ length st → Right ts ev st r → (r.number ≡ TOO_DEEP) ⊎ (r.number ≡ OUTSIDE_CUT)
right_with_room ts ev st r h k (inl (inl a)) = inl a
right_with_room ts ev st r h k (inl (inr (inl a))) = inr a
right_with_room ts ev st r h k (inl (inr (inr a))) = absurd (omega (arith, a.1))
right_with_room ts ev st r h k (inr a) = absurd (omega (arith, a.1))

pub meets_demand_three : MeetsDemandThree
meets_demand_three ts ev st c n q =
    by_check ts
    (λ p. answer_of_lem ts ev st (parse_of ts ev st) (Ok (record { consumed = c; steps = n })) (reader_ends ts ev st p) q)
    (λ r p. absurd (steps_or (sym (refused_at_once ts ev st r p) ∙ q)))

pub consumed_is_width : ConsumedIsWidth
consumed_is_width ts ev st c n q = met_width ts ev st c n (parse_of ts ev st).1 (parse_of ts ev st).2 (meets_demand_three ts ev st c n q)

-- any room from 11n + 4 on
module _ (room : ℕ → ℕ) (l : (n : ℕ) → 11 * n + 4 ≤ room n) where
  only_6_or_7 : OnlyDepthOrCut room
  only_6_or_7 ts ev st p h k r q =
      let n : 11 * length ts.kinds + 4 ≤ room (length ts.kinds) = l (length ts.kinds) in
      right_with_room ts ev st r (enough ts ev (11 * length ts.kinds + 4) p (omega arith) (omega arith)) (omega arith) (answer_of_lem ts ev st (parse_of ts ev st) (Err r) (reader_ends ts ev st p) q)

  neither_4_nor_5 : RoomSuffices room
  neither_4_nor_5 ts ev st h k r q =
      by_check ts
      (λ c. ⊎_elim (λ a. (λ z. omega arith, λ z. omega arith)) (λ a. (λ z. omega arith, λ z. omega arith)) (only_6_or_7 ts ev st c h k r q))
      (λ r1 c. let n = by_number ts ev st r r1 c q in (λ z. omega (arith, n.1), λ z. omega (arith, n.1)))

pub room_suffices : RoomSuffices room_of
room_suffices = neither_4_nor_5 room_of (λ n. omega arith)

pub eleven_a_token_suffice : RoomSuffices least_of
eleven_a_token_suffice = neither_4_nor_5 least_of (λ n. omega arith)

pub only_depth_or_cut : OnlyDepthOrCut least_of
only_depth_or_cut = only_6_or_7 least_of (λ n. omega arith)
