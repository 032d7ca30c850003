-- The loops over a chain of forward parents: how many names it has, and what entering it leaves, its names written outermost first and its starts visited. Both are the chain of the events that are seen. Assumes nothing.
use mathlib.Core.Path.{◌≡◌, refl, sym, ap, ◌∙◌}
use mathlib.Core.Bool.{Bool, true, false, false≢true}
use mathlib.Core.List.{List, [], ◌∷◌, ◌++◌, map, map-append, append-nil, append_assoc}
use Prim.Native.Nat.{ℕ, zero, suc, ◌+◌, ◌-◌, ◌≤◌, ◌<◌}
use native.Mathlib.Omega.{arith}
use native.Mathlib.Nat.{add-zero}
use lib.ListN.{length, get_or, set, take, drop, length-set, length-map, length-append, drop_of_length-le}
use lib.Seq.{sets, set_comm, drop-cons, drop-drop, drop-set-lt, length-take-le, set_split, take_all, take-append-add}
use lib.Dec.{ltb, eqb}
use borrow.Author.Tests.{ltb-true, ltb-false, eq-eqb, ne_eqb, lt-ltb, le-ltb}
use Rattle.base.specs.Base.{whether, again, done, loops}
use Rattle.base.proofs.Laws.{whether_yes, whether_no, bound_is, loops_done, loops_again}
use Rattle.input.specs.SyntaxKind.{ENTER}
use Rattle.event.specs.Event.{Event, finish, START, LIVE, SPENT, tag_of, rank_of, node_of, status_of, view}
use Rattle.process.specs.Process.{forward_of, has_name, chain_turn, visited, enter_turn}
use Rattle.demand.specs.Steps.{enter, code_of}
use Rattle.demand.proofs.Events.{next}
use Rattle.demand.proofs.Pass.{name_of, names, clear, chain}
use Rattle.demand.proofs.Chain.{chain_none}
use Rattle.demand.proofs.Seen.{view_by, seen_set, seen_at}

-- what code reads of an entry is what the pass reads of the event
pub view_next : (x : ℕ) → next (view x) ≡ forward_of x
unfolding forward_of whether
view_next x = view_by x (λ e. next e ≡ forward_of x) (λ q. rw q) (λ q _. rw q) (λ q _ _. rw q) (λ q _ _ _. rw q) (λ q _ _ _. rw q)

name_of_lem : (r n : ℕ) → name_of (status_of r n) ≡ whether (ltb SPENT r) (λ _. n ∷ []) (λ _. [])
unfolding status_of whether
name_of_lem r n = go (ltb SPENT r) refl (eqb r LIVE) refl
  where
    go : (b : Bool) → ltb SPENT r ≡ b → (c : Bool) → eqb r LIVE ≡ c → name_of (status_of r n) ≡ whether (ltb SPENT r) (λ _. n ∷ []) (λ _. [])
    go true q c p = rw q
    go false q true p = rw (q, p)
    go false q false p = rw (q, p)

view_names : (x : ℕ) → names (view x) ≡ whether (has_name x) (λ _. node_of x ∷ []) (λ _. [])
unfolding has_name whether
view_names x = view_by x (λ e. names e ≡ whether (has_name x) (λ _. node_of x ∷ []) (λ _. [])) (λ q. rw q (name_of_lem (rank_of x) (node_of x))) (λ q _. rw q) (λ q _ _. rw q) (λ q _ _ _. rw q) (λ q _ _ _. rw q)

view_other : (x : ℕ) → eqb (tag_of x) START ≡ false → view x ≡ clear (view x)
view_other x q = view_by x (λ e. e ≡ clear e) (λ p. absurd (false≢true (sym q ∙ p))) (λ _ _. refl) (λ _ _ _. refl) (λ _ _ _ _. refl) (λ _ _ _ _. refl)

view_clear : (x : ℕ) → view (visited x) ≡ clear (view x)
unfolding visited view status_of whether
view_clear x = go (eqb (tag_of x) START) refl
  where
    go : (b : Bool) → eqb (tag_of x) START ≡ b → view (visited x) ≡ clear (view x)
    go true q = rw q
    go false q = let z : visited x ≡ x = rw q in ap view z ∙ view_other x q

-- chains, the skipped part taken off
chain_skip0 : (es : List Event) (d : ℕ) → (chain es (suc d)).0 ≡ (chain (drop d es) 1).0
unfolding chain
chain_skip0 [] zero = refl
chain_skip0 [] (suc d) = refl
chain_skip0 (e ∷ es) zero = refl
chain_skip0 (e ∷ es) (suc d) = chain_skip0 es d

chain_skip1 : (es : List Event) (d : ℕ) → (chain es (suc d)).1 ≡ take d es ++ (chain (drop d es) 1).1
unfolding chain
chain_skip1 [] zero = refl
chain_skip1 [] (suc d) = refl
chain_skip1 (e ∷ es) zero = refl
chain_skip1 (e ∷ es) (suc d) = ap {B = List Event} (λ z. e ∷ z) (chain_skip1 es d)

pub chain_nil : (f : ℕ) → chain [] f ≡ ([], [])
unfolding chain
chain_nil f = refl

pub chain_head : (e : Event) (es : List Event) → chain (e ∷ es) 1 ≡ ((chain es (next e)).0 ++ names e, clear e ∷ (chain es (next e)).1)
unfolding chain
chain_head e es = refl

-- stores one after the other
module _ {A : Type 0} where
  pub sets_append : (l : List A) (i : ℕ) (xs ys : List A) → sets l i (xs ++ ys) ≡ sets (sets l i xs) (i + length xs) ys
  sets_append l i [] ys = rw add-zero
  sets_append l i (x ∷ xs) ys = sets_append (set l i x) (suc i) xs ys ∙ ap (λ k. sets (sets (set l i x) (suc i) xs) k ys) (omega arith)

  sets_set : (l : List A) (i j : ℕ) (xs : List A) (a : A) → i + length xs ≤ j → sets (set l j a) i xs ≡ set (sets l i xs) j a
  sets_set l i j [] a h = refl
  sets_set l i j (x ∷ xs) a h = rw (set_comm l j i a x (λ q. omega arith)) (sets_set (set l i x) (suc i) j xs a (omega arith))

  sets_comm : (l : List A) (i j : ℕ) (xs ys : List A) → i + length xs ≤ j → sets (sets l j ys) i xs ≡ sets (sets l i xs) j ys
  sets_comm l i j xs [] h = refl
  sets_comm l i j xs (y ∷ ys) h = sets_comm (set l j y) i (suc j) xs ys (omega arith) ∙ ap (λ z. sets z (suc j) ys) (sets_set l i j xs y h)

-- the events below n
abbrev pub sees : ℕ → List ℕ → List Event
sees n ev = take n (map view ev)

module _ (n : ℕ) (ev : List ℕ) (fits : n ≤ length ev) where
  pub sees_length : length (sees n ev) ≡ n
  sees_length = length-take-le n (map view ev) (omega (arith, length-map ev view))

  pub sees_past : (j : ℕ) → n ≤ j → drop j (sees n ev) ≡ []
  sees_past j h = drop_of_length-le (sees n ev) {i = j} (omega (arith, sees_length))

  pub sees_at : (j : ℕ) → j < n → drop j (sees n ev) ≡ view (get_or ev j 0) ∷ drop (suc j) (sees n ev)
  sees_at j h = drop-cons (sees n ev) j finish (omega (arith, sees_length)) ∙ rw (seen_at n ev j h)

  -- the chain from j: its start is its last, or it goes on
  chain_end : (j : ℕ) → j < n → forward_of (get_or ev j 0) ≡ 0 → chain (drop j (sees n ev)) 1 ≡ (names (view (get_or ev j 0)), clear (view (get_or ev j 0)) ∷ drop (suc j) (sees n ev))
  chain_end j h q = rw (sees_at j h, chain_head, view_next, q, chain_none)

  chain_on : (j f : ℕ) → j < n → forward_of (get_or ev j 0) ≡ suc f → chain (drop j (sees n ev)) 1
      ≡ ((chain (drop (j + suc f) (sees n ev)) 1).0 ++ names (view (get_or ev j 0)), clear (view (get_or ev j 0)) ∷ (take f (drop (suc j) (sees n ev)) ++ (chain (drop (j + suc f) (sees n ev)) 1).1))
  chain_on j f h q =
      let e : suc j + f ≡ j + suc f = omega arith in
      let d : drop f (drop (suc j) (sees n ev)) ≡ drop (j + suc f) (sees n ev) = drop-drop f (suc j) (sees n ev) ∙ ap (λ z. drop z (sees n ev)) e in
      rw (sees_at j h, chain_head, view_next, q, chain_skip0, chain_skip1, d)

-- how many names the chain from j has
abbrev pub bit : ℕ → ℕ
bit x = whether (has_name x) (λ _. 1) (λ _. 0)

pub bit_names : (x : ℕ) → bit x ≡ length (names (view x))
unfolding whether
bit_names x = rw view_names (go (has_name x) refl)
  where
    go : (b : Bool) → has_name x ≡ b → bit x ≡ length (whether (has_name x) (λ _. node_of x ∷ []) (λ _. []))
    go true q = rw q
    go false q = rw q

count_out : (n j c : ℕ) (ev : List ℕ) → n ≤ j → done c ≡ chain_turn ev n (j, c)
unfolding chain_turn
count_out n j c ev h = whether_no _ _ (le-ltb j n h) refl

count_end : (n j c : ℕ) (ev : List ℕ) → j < n → forward_of (get_or ev j 0) ≡ 0 → done (c + bit (get_or ev j 0)) ≡ chain_turn ev n (j, c)
unfolding chain_turn
count_end n j c ev h q = whether_yes _ _ (lt-ltb j n h) (bound_is _ refl (bound_is _ refl (whether_yes _ _ (eq-eqb _ _ q) refl)))

count_on : (n j c f : ℕ) (ev : List ℕ) → j < n → forward_of (get_or ev j 0) ≡ suc f → again (j + suc f, c + bit (get_or ev j 0)) ≡ chain_turn ev n (j, c)
unfolding chain_turn
count_on n j c f ev h q = whether_yes _ _ (lt-ltb j n h) (bound_is _ refl (bound_is _ refl (whether_no _ _ (ne_eqb (forward_of (get_or ev j 0)) 0 (λ z. omega arith)) (rw q))))

count_past : (k n j c : ℕ) (ev : List ℕ) → n ≤ length ev → n ≤ j → loops (suc k) (chain_turn ev n) 0 (j, c) ≡ c + length (chain (drop j (sees n ev)) 1).0
count_past k n j c ev l h = loops_done k (chain_turn ev n) 0 (j, c) (count_out n j c ev h) ∙ rw (sees_past n ev l j h, chain_nil) (omega arith)

pub count_is : (k n j c : ℕ) (ev : List ℕ) → n ≤ length ev → n ≤ j + k → loops (suc k) (chain_turn ev n) 0 (j, c) ≡ c + length (chain (drop j (sees n ev)) 1).0
count_is zero n j c ev l h = count_past zero n j c ev l (omega arith)
count_is (suc k) n j c ev l h = go (ltb j n) refl (forward_of (get_or ev j 0)) refl (λ f. count_is k n (j + suc f) (c + bit (get_or ev j 0)) ev l (omega arith))
  where
    go : (b : Bool) → ltb j n ≡ b → (f : ℕ) → forward_of (get_or ev j 0) ≡ f
        → ((f : ℕ) → loops (suc k) (chain_turn ev n) 0 (j + suc f, c + bit (get_or ev j 0)) ≡ c + bit (get_or ev j 0) + length (chain (drop (j + suc f) (sees n ev)) 1).0)
        → loops (suc (suc k)) (chain_turn ev n) 0 (j, c) ≡ c + length (chain (drop j (sees n ev)) 1).0
    go false b f q ih = count_past (suc k) n j c ev l (ltb-false j n b)
    go true b zero q ih = loops_done (suc k) (chain_turn ev n) 0 (j, c) (count_end n j c ev (ltb-true j n b) q) ∙ rw (chain_end n ev l j (ltb-true j n b) q, bit_names)
    go true b (suc f) q ih = loops_again (suc k) (chain_turn ev n) 0 (j, c) (count_on n j c f ev (ltb-true j n b) q) ∙ ih f
        ∙ rw (chain_on n ev l j f (ltb-true j n b) q, length-append, bit_names) (omega arith)

-- an entry's name put below t
abbrev codes : List ℕ → List ℕ
codes l = map code_of (map enter l)

codes_append : (l m : List ℕ) → codes (l ++ m) ≡ codes l ++ codes m
codes_append l m = rw (map-append, map-append)

codes_length : (l : List ℕ) → length (codes l) ≡ length l
codes_length l = length-map (map enter l) code_of ∙ length-map l enter

abbrev put_of : List ℕ → ℕ → ℕ → ℕ × List ℕ
put_of st t x = (t - bit x, whether (has_name x) (λ _. set st (t - bit x) (ENTER + node_of x)) (λ _. st))

put_is : (st : List ℕ) (t x i : ℕ) → t ≡ i + length (names (view x)) → ((put_of st t x).0 ≡ i) × ((put_of st t x).1 ≡ sets st i (codes (names (view x))))
unfolding whether
put_is st t x i = rw view_names (go (has_name x) refl)
  where
    go : (b : Bool) → has_name x ≡ b → t ≡ i + length (whether (has_name x) (λ _. node_of x ∷ []) (λ _. [])) → ((put_of st t x).0 ≡ i) × ((put_of st t x).1 ≡ sets st i (codes (whether (has_name x) (λ _. node_of x ∷ []) (λ _. []))))
    go true q = rw q (λ e. let z : t - 1 ≡ i = omega arith in (z, rw z))
    go false q = rw q (λ e. (omega arith, refl))

-- what the loop that enters a chain from j leaves: the chain's starts cleared, its names written from i on
pub record Entered (n j i : ℕ) (ev st : List ℕ) (r : List ℕ × List ℕ) : Type 0 where
  pub size : length r.0 ≡ length ev
  pub events : sees n r.0 ≡ take j (sees n ev) ++ (chain (drop j (sees n ev)) 1).1
  pub written : r.1 ≡ sets st i (codes (chain (drop j (sees n ev)) 1).0)

enter_out : (n j t : ℕ) (ev st : List ℕ) → n ≤ j → done (ev, st) ≡ enter_turn n (j, t, ev, st)
unfolding enter_turn
enter_out n j t ev st h = whether_no _ _ (le-ltb j n h) refl

enter_end : (n j t : ℕ) (ev st : List ℕ) → j < n → forward_of (get_or ev j 0) ≡ 0 → done (set ev j (visited (get_or ev j 0)), (put_of st t (get_or ev j 0)).1) ≡ enter_turn n (j, t, ev, st)
unfolding enter_turn
enter_end n j t ev st h q = whether_yes _ _ (lt-ltb j n h) (bound_is _ refl (bound_is _ refl (bound_is _ refl (bound_is _ refl (whether_yes _ _ (eq-eqb _ _ q) refl)))))

enter_on : (n j t f : ℕ) (ev st : List ℕ) → j < n → forward_of (get_or ev j 0) ≡ suc f → again (j + suc f, (put_of st t (get_or ev j 0)).0, set ev j (visited (get_or ev j 0)), (put_of st t (get_or ev j 0)).1) ≡ enter_turn n (j, t, ev, st)
unfolding enter_turn
enter_on n j t f ev st h q = whether_yes _ _ (lt-ltb j n h) (bound_is _ refl (bound_is _ refl (bound_is _ refl (bound_is _ refl (whether_no _ _ (ne_eqb (forward_of (get_or ev j 0)) 0 (λ z. omega arith)) (rw q))))))

-- a start cleared in place
cleared : (n : ℕ) (ev : List ℕ) (j : ℕ) → n ≤ length ev → j < n → sees n (set ev j (visited (get_or ev j 0))) ≡ take j (sees n ev) ++ (clear (view (get_or ev j 0)) ∷ drop (suc j) (sees n ev))
cleared n ev j l h = seen_set n ev j (visited (get_or ev j 0)) h ∙ rw view_clear (set_split (sees n ev) j (clear (view (get_or ev j 0))) (omega (arith, sees_length n ev l)))

entered_past : (n j t i : ℕ) (ev st : List ℕ) → n ≤ length ev → n ≤ j → Entered n j i ev st (ev, st)
entered_past n j t i ev st l h = record {
  size = refl;
  events = sym (rw (sees_past n ev l j h, chain_nil, append-nil) (take_all j (sees n ev) (omega (arith, sees_length n ev l))));
  written = rw (sees_past n ev l j h, chain_nil);
}

entered_end : (n j t i : ℕ) (ev st : List ℕ) → n ≤ length ev → j < n → forward_of (get_or ev j 0) ≡ 0 → t ≡ i + length (chain (drop j (sees n ev)) 1).0
    → Entered n j i ev st (set ev j (visited (get_or ev j 0)), (put_of st t (get_or ev j 0)).1)
entered_end n j t i ev st l h q e =
    let w = chain_end n ev l j h q in
    let p = put_is st t (get_or ev j 0) i (e ∙ rw w) in
    record { size = length-set ev j (visited (get_or ev j 0)); events = rw w (cleared n ev j l h); written = rw w p.1 }

-- the list after the first start of a chain that goes on
later : (n : ℕ) (ev : List ℕ) (j f : ℕ) → n ≤ length ev → j < n → drop (j + suc f) (sees n (set ev j (visited (get_or ev j 0)))) ≡ drop (j + suc f) (sees n ev)
later n ev j f l h = rw (seen_set n ev j (visited (get_or ev j 0)) h) (drop-set-lt (j + suc f) (sees n ev) j (view (visited (get_or ev j 0))) (omega arith))

front : (n : ℕ) (ev : List ℕ) (j f : ℕ) → n ≤ length ev → j < n → take (j + suc f) (sees n (set ev j (visited (get_or ev j 0)))) ≡ take j (sees n ev) ++ (clear (view (get_or ev j 0)) ∷ take f (drop (suc j) (sees n ev)))
front n ev j f l h =
    let e : j + suc f ≡ length (take j (sees n ev)) + suc f = omega (arith, length-take-le j (sees n ev) (omega (arith, sees_length n ev l))) in
    rw (cleared n ev j l h, e) (take-append-add (take j (sees n ev)) (clear (view (get_or ev j 0)) ∷ drop (suc j) (sees n ev)) (suc f))

entered_on : (n j t f i : ℕ) (ev st : List ℕ) (r : List ℕ × List ℕ) → n ≤ length ev → j < n → forward_of (get_or ev j 0) ≡ suc f → t ≡ i + length (chain (drop j (sees n ev)) 1).0
    → Entered n (j + suc f) i (set ev j (visited (get_or ev j 0))) (put_of st t (get_or ev j 0)).1 r → Entered n j i ev st r
entered_on n j t f i ev st r l h q e o =
    let w = chain_on n ev l j f h q in
    let m : ℕ = length (chain (drop (j + suc f) (sees n ev)) 1).0 in
    let p = put_is st t (get_or ev j 0) (i + m) (e ∙ rw (w, length-append) (omega arith)) in
    record {
      size = o.size ∙ length-set ev j (visited (get_or ev j 0));
      events = o.events ∙ rw (front n ev j f l h, later n ev j f l h, w, append_assoc);
      written = o.written ∙ rw (later n ev j f l h, w, p.1, codes_append, sets_append, codes_length)
          (sets_comm st i (i + m) (codes (chain (drop (j + suc f) (sees n ev)) 1).0) (codes (names (view (get_or ev j 0)))) (omega (arith, codes_length (chain (drop (j + suc f) (sees n ev)) 1).0)));
    }

-- what is counted before the first start of a chain that goes on
below : (n j t f i : ℕ) (ev st : List ℕ) → n ≤ length ev → j < n → forward_of (get_or ev j 0) ≡ suc f → t ≡ i + length (chain (drop j (sees n ev)) 1).0
    → (put_of st t (get_or ev j 0)).0 ≡ i + length (chain (drop (j + suc f) (sees n (set ev j (visited (get_or ev j 0))))) 1).0
below n j t f i ev st l h q e =
    rw (later n ev j f l h) (put_is st t (get_or ev j 0) (i + length (chain (drop (j + suc f) (sees n ev)) 1).0) (e ∙ rw (chain_on n ev l j f h q, length-append) (omega arith))).0

pub enter_is : (k n j t i : ℕ) (ev st : List ℕ) (d : List ℕ × List ℕ) → n ≤ length ev → n ≤ j + k → t ≡ i + length (chain (drop j (sees n ev)) 1).0 → Entered n j i ev st (loops (suc k) (enter_turn n) d (j, t, ev, st))
enter_is zero n j t i ev st d l h e = rw (loops_done zero (enter_turn n) d (j, t, ev, st) (enter_out n j t ev st (omega arith))) (entered_past n j t i ev st l (omega arith))
enter_is (suc k) n j t i ev st d l h e = go (ltb j n) refl (forward_of (get_or ev j 0)) refl
    (λ f g. enter_is k n (j + suc f) (put_of st t (get_or ev j 0)).0 i (set ev j (visited (get_or ev j 0))) (put_of st t (get_or ev j 0)).1 d (omega (arith, length-set ev j (visited (get_or ev j 0)))) (omega arith) g)
  where
    go : (b : Bool) → ltb j n ≡ b → (f : ℕ) → forward_of (get_or ev j 0) ≡ f
        → ((f : ℕ) → (put_of st t (get_or ev j 0)).0 ≡ i + length (chain (drop (j + suc f) (sees n (set ev j (visited (get_or ev j 0))))) 1).0
        → Entered n (j + suc f) i (set ev j (visited (get_or ev j 0))) (put_of st t (get_or ev j 0)).1 (loops (suc k) (enter_turn n) d (j + suc f, (put_of st t (get_or ev j 0)).0, set ev j (visited (get_or ev j 0)), (put_of st t (get_or ev j 0)).1)))
        → Entered n j i ev st (loops (suc (suc k)) (enter_turn n) d (j, t, ev, st))
    go false b f q ih = rw (loops_done (suc k) (enter_turn n) d (j, t, ev, st) (enter_out n j t ev st (ltb-false j n b))) (entered_past n j t i ev st l (ltb-false j n b))
    go true b zero q ih = rw (loops_done (suc k) (enter_turn n) d (j, t, ev, st) (enter_end n j t ev st (ltb-true j n b) q)) (entered_end n j t i ev st l (ltb-true j n b) q e)
    go true b (suc f) q ih = rw (loops_again (suc k) (enter_turn n) d (j, t, ev, st) (enter_on n j t f ev st (ltb-true j n b) q))
        (entered_on n j t f i ev st _ l (ltb-true j n b) q e (ih f (below n j t f i ev st l (ltb-true j n b) q e)))
