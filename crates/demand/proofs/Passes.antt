-- Soundness and the number of steps, as the pass finds them over the lent list, against the list of events: good events are found sound, sound ones pair each split with its finish, and the steps are counted right. Assumes nothing.
use mathlib.Core.Path.{◌≡◌, refl, sym, ap, ◌∙◌}
use mathlib.Core.Bool.{Bool, true, false, false≢true}
use mathlib.Core.List.{List}
use Prim.Native.Nat.{ℕ, zero, suc, ◌+◌, ◌≤◌, ◌<◌}
use native.Mathlib.Omega.{arith}
use native.Mathlib.Nat.{zero-add}
use native.Mathlib.Numerals.{add-one}
use lib.ListN.{length, get_or, drop, get_or-eq_default}
use lib.Dec.{ltb, eqb}
use borrow.Author.Tests.{ltb-true, ltb-false, leb-true, eqb-true, eqb-false, ne_eqb, lt-ltb, le-ltb, le-leb}
use Rattle.base.specs.Base.{whether, bound, again, done, loops}
use Rattle.base.proofs.Laws.{whether_yes, whether_no, loops_done, loops_again}
use Rattle.input.specs.Input.{token_limit}
use Rattle.event.specs.Event.{Event, start, finish, token, split, error, START, FINISH, TOKEN_TAG, SPLIT_TAG, ERROR_TAG, tag_of, view, entry_of, decodes, capacity_of, in_range}
use Rattle.event.specs.declared.State.{State}
use Rattle.event.proofs.Laws.{decoded, view_finish}
use Rattle.process.specs.Process.{forward_of, lands_at, paired_at, sound_at, sound_turn, sound_events, sound_of, steps_at, count_turn, count_of}
use Rattle.demand.specs.Lists.{tally}
use Rattle.demand.specs.Demand.{seen}
use Rattle.demand.proofs.Events.{is_split, is_finish, is_start, next, Follows, Paired, Linked}
use Rattle.demand.proofs.Pass.{own, names}
use Rattle.demand.proofs.Chain.{ups}
use Rattle.demand.proofs.Sound.{plain, length_tally, lands, pairs}
use Rattle.input.proofs.Laws.{both_true}
use Rattle.demand.proofs.Seen.{view_by, seen_at, capacity_length, Decoded}
use Rattle.demand.proofs.Entering.{view_next, bit_names, sees, sees_length, sees_at, sees_past}
use Rattle.demand.proofs.Written.{start_own}

-- tags by what is seen
start_tag : (x : ℕ) → is_start (view x) ≡ true → eqb (tag_of x) START ≡ true
unfolding is_start
start_tag x = view_by x (λ e. is_start e ≡ true → eqb (tag_of x) START ≡ true) (λ q _. q) (λ _ _ p. absurd (false≢true p)) (λ _ _ _ p. absurd (false≢true p)) (λ _ _ _ _ p. absurd (false≢true p)) (λ _ _ _ _ p. absurd (false≢true p))

split_tag : (x : ℕ) → is_split (view x) ≡ eqb (tag_of x) SPLIT_TAG
split_tag x = view_by x (λ e. is_split e ≡ eqb (tag_of x) SPLIT_TAG) (λ q. rw (eqb-true (tag_of x) START q)) (λ _ q. rw (eqb-true (tag_of x) TOKEN_TAG q)) (λ _ _ q. sym q) (λ _ _ _ q. rw (eqb-true (tag_of x) ERROR_TAG q)) (λ _ _ q _. sym q)

is_finish_lem : (e : Event) → is_finish e ≡ true → e ≡ finish
is_finish_lem (start s f b) q = absurd (false≢true q)
is_finish_lem finish q = refl
is_finish_lem (token k w) q = absurd (false≢true q)
is_finish_lem (split d) q = absurd (false≢true q)
is_finish_lem (error c) q = absurd (false≢true q)

finish_tag : (x : ℕ) → decodes x ≡ true → is_finish (view x) ≡ true → eqb (tag_of x) FINISH ≡ true
finish_tag x d q = let e : x ≡ FINISH = decoded x d ∙ ap entry_of (is_finish_lem (view x) q) in rw e

tag_finish : (x : ℕ) → eqb (tag_of x) FINISH ≡ true → is_finish (view x) ≡ true
tag_finish x q = let t = eqb-true (tag_of x) FINISH q in rw (view_finish x (λ z. omega arith) (λ z. omega arith) (λ z. omega arith) (λ z. omega arith))

split_next : (n : ℕ) (ev : List ℕ) (i : ℕ) → eqb (tag_of (get_or ev i 0)) SPLIT_TAG ≡ true → paired_at ev n i ≡ true → whether (ltb (i + 1) n) (λ _. eqb (tag_of (get_or ev (i + 1) 0)) FINISH) (λ _. false) ≡ true
unfolding paired_at
split_next n ev i q r = whether_yes _ _ q refl ∙ r

module _ (n : ℕ) (ev : List ℕ) (l : n ≤ length ev) where
  -- each entry of good events is sound
  module _ (d : Decoded n ev) (k : Linked (sees n ev)) (p : Paired (sees n ev)) where
    lands_ok : (i : ℕ) → i < n → lands_at ev n i ≡ true
    unfolding lands_at bound whether is_start
    lands_ok i h = go (forward_of (get_or ev i 0)) refl
      where
        far : (f : ℕ) → forward_of (get_or ev i 0) ≡ suc f → is_start (get_or (sees n ev) (i + suc f) finish) ≡ true
        far f q = lands (sees n ev) i f k (ap next (seen_at n ev i h) ∙ view_next (get_or ev i 0) ∙ q)

        go : (f : ℕ) → forward_of (get_or ev i 0) ≡ f → lands_at ev n i ≡ true
        go zero q = rw q
        go (suc f) q = at (ltb (i + suc f) n) refl
          where
            at : (b : Bool) → ltb (i + suc f) n ≡ b → lands_at ev n i ≡ true
            at true t = rw (q, ne_eqb (suc f) 0 (λ z. omega arith), t, start_tag (get_or ev (i + suc f) 0) (ap is_start (sym (seen_at n ev (i + suc f) (ltb-true (i + suc f) n t))) ∙ far f q))
            at false t = absurd (false≢true (sym (ap is_start (get_or-eq_default (sees n ev) finish {n = i + suc f} (omega (arith, sees_length n ev l, ltb-false (i + suc f) n t)))) ∙ far f q))

    paired_ok : (i : ℕ) → i < n → paired_at ev n i ≡ true
    unfolding paired_at whether
    paired_ok i h = go (eqb (tag_of (get_or ev i 0)) SPLIT_TAG) refl
      where
        go : (b : Bool) → eqb (tag_of (get_or ev i 0)) SPLIT_TAG ≡ b → paired_at ev n i ≡ true
        go false q = rw q
        go true q =
            let r = pairs (sees n ev) i p (ap is_split (seen_at n ev i h) ∙ split_tag (get_or ev i 0) ∙ q) in
            let t : suc i < n = omega (arith, r.0, sees_length n ev l) in
            rw (q, add-one, lt-ltb (suc i) n t) (finish_tag (get_or ev (suc i) 0) (d (suc i) t) (ap is_finish (sym (seen_at n ev (suc i) t)) ∙ r.1))

    ok : (i : ℕ) → i < n → sound_at ev n i ≡ true
    unfolding sound_at whether
    ok i h = rw (d i h, lands_ok i h) (paired_ok i h)

  -- and events whose entries are paired are so
  paired_from : (k i : ℕ) → n ≤ i + k → ((j : ℕ) → j < n → paired_at ev n j ≡ true) → Paired (drop i (sees n ev))
  paired_from zero i h o = rw (sees_past n ev l i (omega arith)) tt
  paired_from (suc k) i h o = go (ltb i n) refl (paired_from k (suc i) (omega arith) o)
    where
      follows : (b : Bool) → i < n → eqb (tag_of (get_or ev i 0)) SPLIT_TAG ≡ b → paired_at ev n i ≡ true → Follows b (drop (suc i) (sees n ev))
      follows false t q r = tt
      follows true t q r =
          let w : whether (ltb (i + 1) n) (λ _. eqb (tag_of (get_or ev (i + 1) 0)) FINISH) (λ _. false) ≡ true = split_next n ev i q r in
          let z = both_true _ _ w in
          let s : suc i < n = omega (arith, ltb-true (i + 1) n z.0) in
          rw (sees_at n ev l (suc i) s) (tag_finish (get_or ev (suc i) 0) (rw add-one at z.1))

      go : (b : Bool) → ltb i n ≡ b → Paired (drop (suc i) (sees n ev)) → Paired (drop i (sees n ev))
      go false b ih = rw (sees_past n ev l i (ltb-false i n b)) tt
      go true b ih = let t = ltb-true i n b in rw (sees_at n ev l i t, split_tag) (follows (eqb (tag_of (get_or ev i 0)) SPLIT_TAG) t refl (o i t), ih)

-- the scan: it finds each entry sound, or it says no
sound_out : (k n i : ℕ) (ev : List ℕ) → n ≤ i → loops (suc k) (sound_turn ev n) false i ≡ true
unfolding sound_turn
sound_out k n i ev h = loops_done k (sound_turn ev n) false i (whether_no _ _ (le-ltb i n h) refl)

sound_turn_lem : (n i : ℕ) (ev : List ℕ) → i < n → sound_at ev n i ≡ true → again (i + 1) ≡ sound_turn ev n i
unfolding sound_turn
sound_turn_lem n i ev h q = whether_yes _ _ (lt-ltb i n h) (whether_yes _ _ q refl)

sound_stop : (n i : ℕ) (ev : List ℕ) → i < n → sound_at ev n i ≡ false → done false ≡ sound_turn ev n i
unfolding sound_turn
sound_stop n i ev h q = whether_yes _ _ (lt-ltb i n h) (whether_no _ _ q refl)

sound_from : (k n i : ℕ) (ev : List ℕ) → n ≤ i + k → ((j : ℕ) → j < n → sound_at ev n j ≡ true) → loops (suc k) (sound_turn ev n) false i ≡ true
sound_from zero n i ev h o = sound_out zero n i ev (omega arith)
sound_from (suc k) n i ev h o = go (ltb i n) refl (sound_from k n (i + 1) ev (omega arith) o)
  where
    go : (b : Bool) → ltb i n ≡ b → loops (suc k) (sound_turn ev n) false (i + 1) ≡ true → loops (suc (suc k)) (sound_turn ev n) false i ≡ true
    go false b ih = sound_out (suc k) n i ev (ltb-false i n b)
    go true b ih = loops_again (suc k) (sound_turn ev n) false i (sound_turn_lem n i ev (ltb-true i n b) (o i (ltb-true i n b))) ∙ ih

sound_back : (k n i : ℕ) (ev : List ℕ) → n ≤ i + k → loops (suc k) (sound_turn ev n) false i ≡ true → (j : ℕ) → i ≤ j → j < n → sound_at ev n j ≡ true
sound_back zero n i ev h q j a b = absurd (omega arith)
sound_back (suc k) n i ev h q j a b = go (sound_at ev n i) refl (eqb i j) refl (λ r c. sound_back k n (i + 1) ev (omega arith) r j c b)
  where
    go : (t : Bool) → sound_at ev n i ≡ t → (e : Bool) → eqb i j ≡ e → (loops (suc k) (sound_turn ev n) false (i + 1) ≡ true → i + 1 ≤ j → sound_at ev n j ≡ true) → sound_at ev n j ≡ true
    go false t e z ih = absurd (false≢true (sym (loops_done (suc k) (sound_turn ev n) false i (sound_stop n i ev (omega arith) t)) ∙ q))
    go true t true z ih = rw (← eqb-true i j z) t
    go true t false z ih = ih (sym (loops_again (suc k) (sound_turn ev n) false i (sound_turn_lem n i ev (omega arith) t)) ∙ q) (omega (arith, eqb-false i j z))

-- good events are found sound
pub sound_is : (s : State) (ev : List ℕ) → s.count ≤ capacity_of ev → s.pos.0 ≤ token_limit → Decoded s.count ev → Linked (seen s ev) → Paired (seen s ev) → sound_of s ev ≡ true
unfolding sound_of sound_events in_range seen
sound_is s ev c p d k q =
    let n : ℕ = s.count in
    let l : n ≤ length ev = omega (arith, capacity_length ev) in
    sym (whether_yes _ _ (sym (whether_yes _ _ (le-leb n (capacity_of ev) c) (sym (le-leb s.pos.0 token_limit p)))) (sym (sound_from n n 0 ev (omega arith) (ok n ev l d k q))))

-- sound events: the count fits, and each split has its finish
pub sound_fits : (s : State) (ev : List ℕ) → sound_of s ev ≡ true → s.count ≤ length ev
unfolding sound_of in_range
sound_fits s ev q = omega (arith, leb-true s.count (capacity_of ev) (both_true _ _ (both_true _ _ q).0).0, capacity_length ev)

pub sound_paired : (s : State) (ev : List ℕ) → sound_of s ev ≡ true → Paired (seen s ev)
unfolding sound_of sound_events sound_at seen
sound_paired s ev q =
    let n : ℕ = s.count in
    paired_from n ev (sound_fits s ev q) n 0 (omega arith) (λ j h. (both_true _ _ (both_true _ _ (sound_back n n 0 ev (omega arith) (both_true _ _ q).1 j (omega arith) h)).1).1)

-- the steps are counted right
steps_start : (c : Bool) (x : ℕ) → eqb (tag_of x) START ≡ true → steps_at c x ≡ ups (view x) + length (own c (view x))
unfolding steps_at whether
steps_start c x q = rw ((start_own x c q).0, q) (omega (arith, bit_names x, length_tally (names (view x))))

steps_other : (c : Bool) (x : ℕ) → eqb (tag_of x) START ≡ false → steps_at c x ≡ ups (view x) + length (own c (view x))
unfolding steps_at whether
steps_other c x z = view_by x (λ e. steps_at c x ≡ ups e + length (own c e)) (λ q. absurd (false≢true (sym z ∙ q))) (λ q p. rw (q, p)) (λ q p r. rw (q, p, r)) (λ q p r t. rw (q, p, r, t)) (λ q p r t. rw (q, p, r, t) (go c))
  where
    go : (c : Bool) → whether {A = ℕ} c (λ _. 0) (λ _. 1) ≡ 0 + length (own c finish)
    go true = refl
    go false = refl

steps_at_lem : (c : Bool) (x : ℕ) → steps_at c x ≡ ups (view x) + length (own c (view x))
steps_at_lem c x = go (eqb (tag_of x) START) refl
  where
    go : (b : Bool) → eqb (tag_of x) START ≡ b → steps_at c x ≡ ups (view x) + length (own c (view x))
    go true q = steps_start c x q
    go false q = steps_other c x q

-- what is still to be counted from i on
abbrev Left : ℕ → ℕ → Bool → List ℕ → ℕ
Left n i c ev = tally ups (drop i (sees n ev)) + plain c (drop i (sees n ev))

count_out : (k n i m : ℕ) (c : Bool) (ev : List ℕ) → n ≤ length ev → n ≤ i → loops (suc k) (count_turn ev n) 0 (i, m, c) ≡ m + Left n i c ev
unfolding count_turn
count_out k n i m c ev l h = loops_done k (count_turn ev n) 0 (i, m, c) (whether_no _ _ (le-ltb i n h) refl) ∙ rw (sees_past n ev l i h) (omega arith)

count_turn_lem : (n i m : ℕ) (c : Bool) (ev : List ℕ) → i < n → again (i + 1, m + steps_at c (get_or ev i 0), eqb (tag_of (get_or ev i 0)) SPLIT_TAG) ≡ count_turn ev n (i, m, c)
unfolding count_turn
count_turn_lem n i m c ev h = whether_yes _ _ (lt-ltb i n h) refl

count_from : (k n i m : ℕ) (c : Bool) (ev : List ℕ) → n ≤ length ev → n ≤ i + k → loops (suc k) (count_turn ev n) 0 (i, m, c) ≡ m + Left n i c ev
count_from zero n i m c ev l h = count_out zero n i m c ev l (omega arith)
count_from (suc k) n i m c ev l h = go (ltb i n) refl (count_from k n (i + 1) (m + steps_at c (get_or ev i 0)) (eqb (tag_of (get_or ev i 0)) SPLIT_TAG) ev l (omega arith))
  where
    go : (b : Bool) → ltb i n ≡ b → loops (suc k) (count_turn ev n) 0 (i + 1, m + steps_at c (get_or ev i 0), eqb (tag_of (get_or ev i 0)) SPLIT_TAG) ≡ m + steps_at c (get_or ev i 0) + Left n (i + 1) (eqb (tag_of (get_or ev i 0)) SPLIT_TAG) ev
        → loops (suc (suc k)) (count_turn ev n) 0 (i, m, c) ≡ m + Left n i c ev
    go false b ih = count_out (suc k) n i m c ev l (ltb-false i n b)
    go true b ih = loops_again (suc k) (count_turn ev n) 0 (i, m, c) (count_turn_lem n i m c ev (ltb-true i n b)) ∙ ih ∙ rw (sees_at n ev l i (ltb-true i n b), steps_at_lem, ← split_tag (get_or ev i 0), add-one) (omega arith)

pub count_is : (n : ℕ) (ev : List ℕ) → n ≤ length ev → count_of ev n ≡ tally ups (sees n ev) + plain false (sees n ev)
unfolding count_of
count_is n ev l = count_from n n 0 0 false ev l (omega arith) ∙ zero-add _
