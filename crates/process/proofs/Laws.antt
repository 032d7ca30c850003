-- What each answer of the code is of its rule: the rule rewritten by what the code has for each of its parts. Assumes nothing.
use mathlib.Core.Path.{◌≡◌, refl, sym, ap, ◌∙◌}
use mathlib.Core.Bool.{Bool, true, false, not, false≢true}
use mathlib.Core.List.{List}
use Prim.Native.Nat.{ℕ, zero, suc, ◌+◌, ◌-◌, ◌*◌, ◌<◌, ◌≤◌}
use lib.Dec.{eqb, ltb}
use lib.ListN.{length, get_or, set, replicate}
use mir.Val.{bool_byte}
use Rattle.std.specs.Bool.{MatchBool}
use Rattle.std.specs.List.{AllWithin, HoldsAt, range_with_len}
use Rattle.std.proofs.lemmas.List.FromFn.{length-range_with_len, get_or-range_with_len}
use native.Mathlib.Omega.{arith}
use borrow.Author.Tests.{lt-ltb, le-ltb, le-leb, lt-leb, ltb-true, ne_eqb}
use Rattle.base.specs.Base.{whether, bound, called, again, done, loops}
use Rattle.base.proofs.Laws.{tests, whether_eq, whether_ne, loops_done, loops_again}
use Rattle.input.specs.SyntaxKind.{ENTER, TOKEN, LEAVE, FLOAT_SPLIT, FAULT, WIDTH_STEP, STEPS_FULL, UNSOUND}
use Rattle.event.specs.Event.{START, FINISH, TOKEN_TAG, SPLIT_TAG, ERROR_TAG, SPENT, tag_of, rank_of, flag_of, node_of, decodes, in_range, fresh}
use Rattle.event.specs.declared.State.{State}
use Rattle.input.specs.Input.{refusal, token_limit}
use Rattle.std.proofs.Common.{Ok, Err, ◌≢◌}
use Rattle.process.specs.Process.{forward_of, lands_at, paired_at, sound_at, sound_turn, sound_events, has_name, names_of, is_split, steps_at, count_turn, chain_turn, chain_of, visited_entry, visited, entered_of, enter_turn, enter_of, step_of, process_turn, sound_of, count_of, write_of, process_of}

-- a test of a number for which the code has r
module _ {A : Type 0} (f g : Unit {0} → A) {out : A} where
  pub whether_is : (a b : ℕ) {r : ℕ} → r ≡ a → r ≡ b → out ≡ f tt → out ≡ whether (eqb a b) f g
  whether_is a b p q h = whether_eq f g a b (sym p ∙ q) h

  pub whether_isnt : (a b : ℕ) {r : ℕ} → r ≡ a → (r ≡ b → ⊥) → out ≡ g tt → out ≡ whether (eqb a b) f g
  whether_isnt a b p q h = whether_ne f g a b (λ e. q (p ∙ e)) h

pub ruleset of_pass = (tests, whether_is, whether_isnt)

-- soundness of an entry x
module _ (ev : List ℕ) (n i : ℕ) {x : ℕ} (p : x ≡ get_or ev i 0) where
  pub lands_none : 0 ≡ forward_of x → true ≡ lands_at ev n i
  unfolding lands_at bound whether
  lands_none q = rw (← p, ← q)

  module _ {off : ℕ} (q : off ≡ forward_of x) (z : 0 < off) where
    pub lands_on : {y t : ℕ} → i + off < n → y ≡ get_or ev (i + off) 0 → t ≡ tag_of y → eqb t START ≡ lands_at ev n i
    unfolding lands_at bound whether
    lands_on h r s = rw (← p, ← q, ne_eqb off 0 (λ e. omega arith), lt-ltb (i + off) n h, ← r, ← s)

    pub lands_off : n ≤ i + off → ltb (i + off) n ≡ lands_at ev n i
    unfolding lands_at bound whether
    lands_off h = rw (← p, ← q, ne_eqb off 0 (λ e. omega arith), le-ltb (i + off) n h)

  module _ {b : Bool} (q : b ≡ is_split x) where
    pub paired_on : {y u : ℕ} → b ≡ true → i + 1 < n → y ≡ get_or ev (i + 1) 0 → u ≡ tag_of y → eqb u FINISH ≡ paired_at ev n i
    unfolding paired_at whether
    paired_on z h r s = rw (← p, ← q, z, lt-ltb (i + 1) n h, ← r, ← s)

    pub paired_off : b ≡ true → n ≤ i + 1 → ltb (i + 1) n ≡ paired_at ev n i
    unfolding paired_at whether
    paired_off z h = rw (← p, ← q, z, le-ltb (i + 1) n h)

    pub paired_not : b ≡ false → true ≡ paired_at ev n i
    unfolding paired_at whether
    paired_not z = rw (← p, ← q, z)

  pub sound_all : {d l r : Bool} → d ≡ decodes x → d ≡ true → l ≡ lands_at ev n i → l ≡ true → r ≡ paired_at ev n i → r ≡ sound_at ev n i
  unfolding sound_at whether
  sound_all q z s w h = h ∙ rw (← p, ← q, z, ← s, w)

  pub sound_stray : {d l : Bool} → d ≡ decodes x → d ≡ true → l ≡ lands_at ev n i → l ≡ false → false ≡ sound_at ev n i
  unfolding sound_at whether
  sound_stray q z s w = rw (← p, ← q, z, ← s, w)

  pub sound_no : {d : Bool} → d ≡ decodes x → d ≡ false → false ≡ sound_at ev n i
  unfolding sound_at whether
  sound_no q z = rw (← p, ← q, z)

-- soundness of all entries: the loop of the rule, from i on
module _ (ev : List ℕ) (n : ℕ) where
  all_go : (k i : ℕ) → n - i < k → ((j : ℕ) → j < n → sound_at ev n j ≡ true) → loops k (sound_turn ev n) false i ≡ true
  unfolding sound_turn whether
  all_go zero i h a = absurd (omega arith)
  all_go (suc k) i h a = go (λ l. all_go k (i + 1) l a) (ltb i n) refl
    where
      go : (n - (i + 1) < k → loops k (sound_turn ev n) false (i + 1) ≡ true) → (b : Bool) → ltb i n ≡ b → loops (suc k) (sound_turn ev n) false i ≡ true
      go rest true q = loops_again k (sound_turn ev n) false i (rw (q, a i (ltb-true i n q))) ∙ rest (omega (arith, ltb-true i n q))
      go rest false q = loops_done k (sound_turn ev n) false i (rw q)

  one_go : (k i j : ℕ) → n - i < k → i ≤ j → j < n → sound_at ev n j ≡ false → loops k (sound_turn ev n) false i ≡ false
  unfolding sound_turn whether
  one_go zero i j h l m a = absurd (omega arith)
  one_go (suc k) i j h l m a = go (λ e. one_go k (i + 1) j (omega arith) e m a) (sound_at ev n i) refl
    where
      go : (i + 1 ≤ j → loops k (sound_turn ev n) false (i + 1) ≡ false) → (b : Bool) → sound_at ev n i ≡ b → loops (suc k) (sound_turn ev n) false i ≡ false
      go rest true q =
          let ne : i ≢ j = λ e. false≢true (sym a ∙ ap (λ z. sound_at ev n z) (sym e) ∙ q) in
          loops_again k (sound_turn ev n) false i (rw (lt-ltb i n (omega arith), q)) ∙ rest (omega arith)
      go rest false q = loops_done k (sound_turn ev n) false i (rw (lt-ltb i n (omega arith), q))

  nth : (k : ℕ) → k < n → get_or (range_with_len 0 n) k 0 ≡ k
  nth k h = get_or-range_with_len 0 n k 0 h ∙ omega arith

  pub sound_events_all : (r : Bool) → MatchBool r (AllWithin (λ j. sound_at ev n j ≡ true) (range_with_len 0 n) 0 (length (range_with_len 0 n))) ((k : ℕ) × (k < length (range_with_len 0 n)) × HoldsAt (λ j. sound_at ev n j ≡ false) (range_with_len 0 n) k) → r ≡ sound_events ev n
  unfolding sound_events
  sound_events_all true a = sym (all_go (suc n) 0 (omega arith) λ j h. rw (nth j h) at (a j 0 (omega arith) (omega (arith, length-range_with_len 0 n))))
  sound_events_all false (k, h, a) =
      let l : k < n = omega (arith, length-range_with_len 0 n) in
      sym (one_go (suc n) 0 k (omega arith) (omega arith) l (rw (nth k l) at (a 0)))

module _ (s : State) (ev : List ℕ) {b : Bool} (p : b ≡ in_range token_limit s ev) where
  pub sound_yes : {r : Bool} → b ≡ true → r ≡ sound_events ev s.count → r ≡ sound_of s ev
  unfolding sound_of whether
  sound_yes q e = e ∙ rw (← p, q)

  pub sound_no_range : b ≡ false → b ≡ sound_of s ev
  unfolding sound_of whether
  sound_no_range q = rw (← p, q)

-- a bool as a number
pub counts : (b : Bool) → bool_byte b ≡ whether b (λ _. 1) (λ _. 0)
unfolding whether
counts true = refl
counts false = refl

counts_not : (b : Bool) → bool_byte (not b) ≡ whether b (λ _. 0) (λ _. 1)
unfolding whether
counts_not true = refl
counts_not false = refl

-- how many steps an entry x gives that is no start: one for a token, a split or an error, whose tags stand together; a finish by what stands before it
module _ (after : Bool) (x : ℕ) {t : ℕ} (q : t ≡ tag_of x) where
  one_of : (u : ℕ) → 3 ≤ u → u < 6 → (g : Unit {0} → ℕ) → 1 ≡ whether (eqb u TOKEN_TAG) (λ _. 1) λ _. whether (eqb u SPLIT_TAG) (λ _. 1) λ _. whether (eqb u ERROR_TAG) (λ _. 1) g
  unfolding whether
  one_of (suc (suc (suc zero))) l h g = refl
  one_of (suc (suc (suc (suc zero)))) l h g = refl
  one_of (suc (suc (suc (suc (suc zero))))) l h g = refl
  one_of (suc (suc (suc (suc (suc (suc u)))))) l h g = absurd (omega arith)
  one_of zero l h g = absurd (omega arith)
  one_of (suc zero) l h g = absurd (omega arith)
  one_of (suc (suc zero)) l h g = absurd (omega arith)

  pub steps_start : {k : ℕ} → t ≡ START → k ≡ names_of x → k ≡ steps_at after x
  unfolding steps_at whether
  steps_start z e = e ∙ rw (← q, z)

  pub steps_one : 3 ≤ t → t < 6 → 1 ≡ steps_at after x
  unfolding steps_at whether
  steps_one l h = rw (← q, ne_eqb t START (λ e. omega arith)) (one_of t l h _)

  pub steps_finish : (t ≡ START → ⊥) → (t ≡ TOKEN_TAG → ⊥) → (t ≡ SPLIT_TAG → ⊥) → (t ≡ ERROR_TAG → ⊥) → bool_byte (not after) ≡ steps_at after x
  unfolding steps_at whether
  steps_finish a b c d = rw (← q, ne_eqb t START a, ne_eqb t TOKEN_TAG b, ne_eqb t SPLIT_TAG c, ne_eqb t ERROR_TAG d) (counts_not after)

-- the steps of an entry x
module _ (x : ℕ) {t : ℕ} (q : t ≡ tag_of x) where
  pub step_token : {w k : ℕ} → t ≡ TOKEN_TAG → w ≡ rank_of x → k ≡ node_of x → TOKEN + WIDTH_STEP * w + k ≡ step_of x
  unfolding step_of whether
  step_token z a b = rw (← q, z, a, b)

  pub step_split : {f : ℕ} → (t ≡ TOKEN_TAG → ⊥) → t ≡ SPLIT_TAG → f ≡ flag_of x → FLOAT_SPLIT + f ≡ step_of x
  unfolding step_of whether
  step_split y z a = rw (← q, z, a)

  pub step_error : {k : ℕ} → (t ≡ TOKEN_TAG → ⊥) → (t ≡ SPLIT_TAG → ⊥) → t ≡ ERROR_TAG → k ≡ node_of x → FAULT + k ≡ step_of x
  unfolding step_of whether
  step_error y w z a = rw (← q, z, a)

  pub step_leave : (t ≡ TOKEN_TAG → ⊥) → (t ≡ SPLIT_TAG → ⊥) → (t ≡ ERROR_TAG → ⊥) → LEAVE ≡ step_of x
  unfolding step_of whether
  step_leave a b c = rw (← q, ne_eqb t TOKEN_TAG a, ne_eqb t SPLIT_TAG b, ne_eqb t ERROR_TAG c)

  pub visited_start : {v : ℕ} → t ≡ START → v ≡ visited_entry → v ≡ visited x
  unfolding visited whether
  visited_start z e = e ∙ rw (← q, z)

  pub visited_other : (t ≡ START → ⊥) → x ≡ visited x
  unfolding visited whether
  visited_other z = rw (← q, ne_eqb t START z)

pub entered : (st st' : List ℕ) (at x : ℕ) {b : Bool} {k : ℕ} → b ≡ has_name x → b ≡ true → k ≡ node_of x → st' ≡ set st at (ENTER + k) → st' ≡ entered_of st at x
unfolding whether
entered st st' at x p q a e = e ∙ rw (← p, q, a)

pub entered_not : (st : List ℕ) (at x : ℕ) {b : Bool} → b ≡ has_name x → b ≡ false → st ≡ entered_of st at x
unfolding whether
entered_not st at x p q = rw (← p, q)

-- a name, by what the code has for the tag
module _ (x : ℕ) {t : ℕ} (q : t ≡ tag_of x) where
  pub named_start : {r : ℕ} → t ≡ START → r ≡ rank_of x → ltb SPENT r ≡ has_name x
  unfolding has_name whether
  named_start z a = rw (← q, z, a)

  pub named_no : (t ≡ START → ⊥) → eqb t START ≡ has_name x
  unfolding has_name whether
  named_no z = rw (← q, ne_eqb t START z)

-- turns of the loops
module _ (ev : List ℕ) (n i : ℕ) {x : ℕ} (h : i < n) (p : x ≡ get_or ev i 0) where
  pub count_again : (total : ℕ) (after : Bool) {r : ℕ} {b : Bool} → r ≡ steps_at after x → b ≡ is_split x → again (i + 1, total + r, b) ≡ count_turn ev n (i, total, after)
  unfolding count_turn whether
  count_again total after q s = rw (lt-ltb i n h, ← p, ← q, ← s)

  pub chain_done : (k : ℕ) {r : ℕ} → r ≡ names_of x → 0 ≡ forward_of x → done (k + r) ≡ chain_turn ev n (i, k)
  unfolding chain_turn whether bound
  chain_done k q s = rw (lt-ltb i n h, ← p, ← s, q)

  pub chain_again : (k : ℕ) {r off : ℕ} → r ≡ names_of x → off ≡ forward_of x → 0 < off → again (i + off, k + r) ≡ chain_turn ev n (i, k)
  unfolding chain_turn whether bound
  chain_again k {off = off} q s z = rw (lt-ltb i n h, ← p, ← s, ne_eqb off 0 (λ e. omega arith), q)

  module _ (st : List ℕ) (t : ℕ) {t' : ℕ} {ev' st' : List ℕ} (a : t' ≡ t - names_of x) (b : st' ≡ entered_of st t' x) (c : ev' ≡ set ev i (visited x)) where
    pub enter_done : 0 ≡ forward_of x → done (ev', st') ≡ enter_turn n (i, t, ev, st)
    unfolding enter_turn bound whether
    enter_done d = rw (lt-ltb i n h, ← p, ← d, b, c, a)

    pub enter_again : {off : ℕ} → off ≡ forward_of x → 0 < off → again (i + off, t', ev', st') ≡ enter_turn n (i, t, ev, st)
    unfolding enter_turn bound whether
    enter_again {off} d z = rw (lt-ltb i n h, ← p, ← d, ne_eqb off 0 (λ e. omega arith), b, c, a)

-- a turn of the pass: at a start, at an entry that gives a step, at one that gives none
module _ (n i m : ℕ) (after : Bool) (ev st : List ℕ) {x t : ℕ} (h : i < n) (p : x ≡ get_or ev i 0) (q : t ≡ tag_of x) where
  pub turn_start : {k : ℕ} {ev' st' : List ℕ} → t ≡ START → k ≡ chain_of ev n i → (ev', st') ≡ enter_of ev st n i (m + k) → again (i + 1, m + k, false, ev', st') ≡ process_turn n (i, m, after, ev, st)
  unfolding process_turn whether bound called
  turn_start z a e = rw (lt-ltb i n h, ← p, ← q, z, ← a, ← e)

  pub turn_step : {k v : ℕ} {st' : List ℕ} {b : Bool} → (t ≡ START → ⊥) → k ≡ steps_at after x → k ≡ 1 → v ≡ step_of x → st' ≡ set st m v → b ≡ is_split x → again (i + 1, m + 1, b, ev, st') ≡ process_turn n (i, m, after, ev, st)
  unfolding process_turn whether bound
  turn_step z a w d e s = rw (e, d, s, lt-ltb i n h, ← p, ← q, ne_eqb t START z, ← a, w)

  pub turn_none : {k : ℕ} → (t ≡ START → ⊥) → k ≡ steps_at after x → (k ≡ 1 → ⊥) → again (i + 1, m, false, ev, st) ≡ process_turn n (i, m, after, ev, st)
  unfolding process_turn whether bound
  turn_none {k} z a w = rw (lt-ltb i n h, ← p, ← q, ne_eqb t START z, ← a, ne_eqb k 1 w)

-- the answers of the pass
module _ (s : State) (ev st : List ℕ) {b : Bool} (p : b ≡ sound_of s ev) where
  pub unsound : b ≡ false → (Err (refusal UNSOUND 0), ev, st) ≡ process_of s ev st
  unfolding process_of whether
  unsound q = rw (← p, q)

  pub too_many : {k : ℕ} → b ≡ true → k ≡ count_of ev s.count → length st < k → (Err (refusal STEPS_FULL s.pos.0), ev, st) ≡ process_of s ev st
  unfolding process_of whether
  too_many {k} q e h = rw (← p, q, ← e, lt-leb k (length st) h)

  pub passed : {k m : ℕ} {f : State} {ev' st' : List ℕ} → b ≡ true → k ≡ count_of ev s.count → k ≤ length st → (m, st') ≡ write_of s.count ev st → (mid : List ℕ) → length mid ≡ length ev → ev' ≡ replicate (length mid) 0 → f ≡ fresh → (Ok (m, f), ev', st') ≡ process_of s ev st
  unfolding process_of whether called
  passed {k} q e h w mid l c f = rw (← p, q, ← e, le-leb k (length st) h, ← w, c, l, f)
