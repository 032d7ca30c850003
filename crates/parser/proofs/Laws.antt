-- What callers of the machine prove their own programs with: one law for each answer of each call, under `run`, backward, for `search steps`. A law reads: the call gave x and left e; of x it is known which answer it is; then what is to be shown of the whole program is to be shown of what follows.
-- Besides: a choice and a name under `run`, one program after another, and where a loop of `turns` stands. Each is one step of `run`; sequence is an induction on the program. Assumes nothing.
use Rattle.std.proofs.Common.{Ok, Err, Option, Some, None}
use mathlib.Core.Path.{◌≡◌, refl, sym, ap, ◌∙◌}
use mathlib.Core.List.{List}
use mathlib.Core.Bool.{Bool, true, false}
use Prim.Native.Nat.{ℕ, zero, suc, ◌<◌, ◌≤◌}
use native.Mathlib.Omega.{arith}
use lib.Dec.{eqb, ltb, leb}
use borrow.Author.Tests.{eq-eqb, ne_eqb, lt-ltb, le-ltb, le-leb, lt-leb}
use Rattle.base.specs.Base.{whether, bound, Next, again, done, on_next}
use Rattle.input.specs.Input.{Tokens, refusal}
use Rattle.input.specs.declared.Refusal.{Refusal}
use Rattle.event.specs.declared.State.{State}
use Rattle.parser.specs.Calls.{start_of, complete_of, abandon_of, precede_of, extend_of, eat_of, bump_any_of, error_of, split_of, Opened, Closed, Moved, Taken, Parted}
use Rattle.parser.specs.Prog.{Prog, give, refuse, look, start, complete, abandon, precede, extend, eat, bump_any, error, split, then, turns, Reply, fine, bad, Perhaps, some, none, Ran, run, on_opened, on_closed, on_moved, on_taken, on_parted}
use Rattle.parser.specs.declared.Marker.{Marker}
use Rattle.parser.specs.declared.CompletedMarker.{CompletedMarker}

-- what follows a reply
unfoldable pub on_reply : {A B : Type 0} → Ran A → (State → A → List ℕ → Ran B) → Ran B
on_reply r k = elim r.0 [ fine s a ↦ k s a r.1 | bad n ↦ (bad n, r.1) ]

-- a function that keeps refusals goes into each answer of a call
module _ {A B : Type 0} (g : Ran A → Ran B) (b : (r : Refusal) (e : List ℕ) → (bad r, e) ≡ g (bad r, e)) where
  opened_same : (x : Opened) (e : List ℕ) (k0 : State → Marker → List ℕ → Ran B) (j0 : State → Marker → List ℕ → Ran A) → ((s1 : State) (o : Marker) (e : List ℕ) → k0 s1 o e ≡ g (j0 s1 o e)) → on_opened (x, e) k0 (λ r e. (bad r, e)) ≡ g (on_opened (x, e) j0 (λ r e. (bad r, e)))
  unfolding on_opened
  opened_same (Ok (s1, o)) e k0 j0 h0 = h0 s1 o e
  opened_same (Err r) e k0 j0 h0 = b r e

  closed_same : (x : Closed) (e : List ℕ) (k0 : State → CompletedMarker → List ℕ → Ran B) (j0 : State → CompletedMarker → List ℕ → Ran A) → ((s1 : State) (m : CompletedMarker) (e : List ℕ) → k0 s1 m e ≡ g (j0 s1 m e)) → on_closed (x, e) k0 (λ r e. (bad r, e)) ≡ g (on_closed (x, e) j0 (λ r e. (bad r, e)))
  unfolding on_closed
  closed_same (Ok (s1, m)) e k0 j0 h0 = h0 s1 m e
  closed_same (Err r) e k0 j0 h0 = b r e

  moved_same : (x : Moved) (e : List ℕ) (k0 : State → List ℕ → Ran B) (j0 : State → List ℕ → Ran A) → ((s1 : State) (e : List ℕ) → k0 s1 e ≡ g (j0 s1 e)) → on_moved (x, e) k0 (λ r e. (bad r, e)) ≡ g (on_moved (x, e) j0 (λ r e. (bad r, e)))
  unfolding on_moved
  moved_same (Ok s1) e k0 j0 h0 = h0 s1 e
  moved_same (Err r) e k0 j0 h0 = b r e

  taken_same : (x : Taken) (e : List ℕ) (k0 : State → List ℕ → Ran B) (k1 : List ℕ → Ran B) (j0 : State → List ℕ → Ran A) (j1 : List ℕ → Ran A) → ((s1 : State) (e : List ℕ) → k0 s1 e ≡ g (j0 s1 e)) → ((e : List ℕ) → k1 e ≡ g (j1 e)) → on_taken (x, e) k0 k1 (λ r e. (bad r, e)) ≡ g (on_taken (x, e) j0 j1 (λ r e. (bad r, e)))
  unfolding on_taken
  taken_same (Ok (Some s1)) e k0 k1 j0 j1 h0 h1 = h0 s1 e
  taken_same (Ok None) e k0 k1 j0 j1 h0 h1 = h1 e
  taken_same (Err r) e k0 k1 j0 j1 h0 h1 = b r e

  parted_same : (x : Parted) (e : List ℕ) (k0 : State → CompletedMarker → List ℕ → Ran B) (k1 : List ℕ → Ran B) (j0 : State → CompletedMarker → List ℕ → Ran A) (j1 : List ℕ → Ran A) → ((s1 : State) (m : CompletedMarker) (e : List ℕ) → k0 s1 m e ≡ g (j0 s1 m e)) → ((e : List ℕ) → k1 e ≡ g (j1 e)) → on_parted (x, e) k0 k1 (λ r e. (bad r, e)) ≡ g (on_parted (x, e) j0 j1 (λ r e. (bad r, e)))
  unfolding on_parted
  parted_same (Ok (Some (s1, m))) e k0 k1 j0 j1 h0 h1 = h0 s1 m e
  parted_same (Ok None) e k0 k1 j0 j1 h0 h1 = h1 e
  parted_same (Err r) e k0 k1 j0 j1 h0 h1 = b r e

-- one program after another runs one after another
pub run_then : {A B : Type 0} (ts : Tokens) (p : Prog A) (k : A → Prog B) (s : State) (ev : List ℕ) → run ts (then p k) s ev ≡ on_reply (run ts p s ev) (λ s1 a e. run ts (k a) s1 e)
unfolding run then on_reply
run_then ts (give a) k s ev = refl
run_then ts (refuse n a) k s ev = refl
run_then ts (look f) k s ev = run_then ts (f s.pos.0) k s ev
run_then ts (start f) k s ev = opened_same (λ z. on_reply z (λ s1 a e. run ts (k a) s1 e)) (λ _ _. refl) (start_of s ev).0 (start_of s ev).1 _ _ (λ s1 o e. run_then ts (f o) k s1 e)
run_then ts (complete o node f) k s ev = closed_same (λ z. on_reply z (λ s1 a e. run ts (k a) s1 e)) (λ _ _. refl) (complete_of s o node ev).0 (complete_of s o node ev).1 _ _ (λ s1 m e. run_then ts (f m) k s1 e)
run_then ts (abandon o p) k s ev = moved_same (λ z. on_reply z (λ s1 a e. run ts (k a) s1 e)) (λ _ _. refl) (abandon_of s o ev).0 (abandon_of s o ev).1 _ _ (λ s1 e. run_then ts p k s1 e)
run_then ts (precede c f) k s ev = opened_same (λ z. on_reply z (λ s1 a e. run ts (k a) s1 e)) (λ _ _. refl) (precede_of s c ev).0 (precede_of s c ev).1 _ _ (λ s1 o e. run_then ts (f o) k s1 e)
run_then ts (extend c o f) k s ev = closed_same (λ z. on_reply z (λ s1 a e. run ts (k a) s1 e)) (λ _ _. refl) (extend_of s c o ev).0 (extend_of s c o ev).1 _ _ (λ s1 m e. run_then ts (f m) k s1 e)
run_then ts (eat kind p q) k s ev = taken_same (λ z. on_reply z (λ s1 a e. run ts (k a) s1 e)) (λ _ _. refl) (eat_of ts s kind ev).0 (eat_of ts s kind ev).1 _ _ _ _ (λ s1 e. run_then ts p k s1 e) (λ e. run_then ts q k s e)
run_then ts (bump_any p q) k s ev = taken_same (λ z. on_reply z (λ s1 a e. run ts (k a) s1 e)) (λ _ _. refl) (bump_any_of ts s ev).0 (bump_any_of ts s ev).1 _ _ _ _ (λ s1 e. run_then ts p k s1 e) (λ e. run_then ts q k s e)
run_then ts (error code p) k s ev = moved_same (λ z. on_reply z (λ s1 a e. run ts (k a) s1 e)) (λ _ _. refl) (error_of s code ev).0 (error_of s code ev).1 _ _ (λ s1 e. run_then ts p k s1 e)
run_then ts (split o f q) k s ev = parted_same (λ z. on_reply z (λ s1 a e. run ts (k a) s1 e)) (λ _ _. refl) (split_of ts s o ev).0 (split_of ts s o ev).1 _ _ _ _ (λ s1 m e. run_then ts (f m) k s1 e) (λ e. run_then ts q k s e)

-- sequence is associative
reply_assoc : {A B C : Type 0} (x : Reply A) (e : List ℕ) (k : State → A → List ℕ → Ran B) (j : State → B → List ℕ → Ran C) → on_reply (on_reply (x, e) k) j ≡ on_reply (x, e) (λ s a e. on_reply (k s a e) j)
unfolding on_reply
reply_assoc (fine s a) e k j = refl
reply_assoc (bad r) e k j = refl

reply_same : {A B : Type 0} (x : Reply A) (e : List ℕ) (k j : State → A → List ℕ → Ran B) → ((s : State) (a : A) (e : List ℕ) → k s a e ≡ j s a e) → on_reply (x, e) k ≡ on_reply (x, e) j
unfolding on_reply
reply_same (fine s a) e k j h = h s a e
reply_same (bad r) e k j h = refl

pub run_assoc : {A B C : Type 0} (ts : Tokens) (p : Prog A) (k : A → Prog B) (j : B → Prog C) (s : State) (ev : List ℕ) → run ts (then (then p k) j) s ev ≡ run ts (then p (λ a. then (k a) j)) s ev
run_assoc ts p k j s ev =
    run_then ts (then p k) j s ev
    ∙ ap (λ r. on_reply r (λ s1 b e. run ts (j b) s1 e)) (run_then ts p k s ev)
    ∙ reply_assoc (run ts p s ev).0 (run ts p s ev).1 _ _
    ∙ reply_same (run ts p s ev).0 (run ts p s ev).1 _ _ (λ s1 a e. sym (run_then ts (k a) j s1 e))
    ∙ sym (run_then ts p (λ a. then (k a) j) s ev)

-- a call that gave x and left e, and of x that it is y
via : {X A : Type 0} {x y : X} {e : List ℕ} {r : X × List ℕ} → (x, e) ≡ r → x ≡ y → (f : X × List ℕ → A) → f (y, e) ≡ f r
via {e = e} p q f = ap (λ z. f (z, e)) (sym q) ∙ ap f p

module _ {A : Type 0} {out : Ran A} (ts : Tokens) (s : State) (ev : List ℕ) where
  module _ {x : Opened} {e : List ℕ} (f : Marker → Prog A) where
    pub start_open : {s1 : State} {o : Marker} → (x, e) ≡ start_of s ev → x ≡ Ok (s1, o) → out ≡ run ts (f o) s1 e → out ≡ run ts (start f) s ev
    unfolding run on_opened
    start_open a b h = h ∙ via a b (λ z. on_opened z (λ s1 o e. run ts (f o) s1 e) (λ r e. (bad r, e)))

    pub start_refused : {r : Refusal} → (x, e) ≡ start_of s ev → x ≡ Err r → out ≡ (bad r, e) → out ≡ run ts (start f) s ev
    unfolding run on_opened
    start_refused a b h = h ∙ via a b (λ z. on_opened z (λ s1 o e. run ts (f o) s1 e) (λ r e. (bad r, e)))

  module _ {x : Closed} {e : List ℕ} (o : Marker) (node : ℕ) (f : CompletedMarker → Prog A) where
    pub complete_done : {s1 : State} {m : CompletedMarker} → (x, e) ≡ complete_of s o node ev → x ≡ Ok (s1, m) → out ≡ run ts (f m) s1 e → out ≡ run ts (complete o node f) s ev
    unfolding run on_closed
    complete_done a b h = h ∙ via a b (λ z. on_closed z (λ s1 m e. run ts (f m) s1 e) (λ r e. (bad r, e)))

    pub complete_refused : {r : Refusal} → (x, e) ≡ complete_of s o node ev → x ≡ Err r → out ≡ (bad r, e) → out ≡ run ts (complete o node f) s ev
    unfolding run on_closed
    complete_refused a b h = h ∙ via a b (λ z. on_closed z (λ s1 m e. run ts (f m) s1 e) (λ r e. (bad r, e)))

  module _ {x : Moved} {e : List ℕ} (o : Marker) (p : Prog A) where
    pub abandon_on : {s1 : State} → (x, e) ≡ abandon_of s o ev → x ≡ Ok s1 → out ≡ run ts p s1 e → out ≡ run ts (abandon o p) s ev
    unfolding run on_moved
    abandon_on a b h = h ∙ via a b (λ z. on_moved z (λ s1 e. run ts (p) s1 e) (λ r e. (bad r, e)))

    pub abandon_refused : {r : Refusal} → (x, e) ≡ abandon_of s o ev → x ≡ Err r → out ≡ (bad r, e) → out ≡ run ts (abandon o p) s ev
    unfolding run on_moved
    abandon_refused a b h = h ∙ via a b (λ z. on_moved z (λ s1 e. run ts (p) s1 e) (λ r e. (bad r, e)))

  module _ {x : Opened} {e : List ℕ} (c : CompletedMarker) (f : Marker → Prog A) where
    pub precede_open : {s1 : State} {o : Marker} → (x, e) ≡ precede_of s c ev → x ≡ Ok (s1, o) → out ≡ run ts (f o) s1 e → out ≡ run ts (precede c f) s ev
    unfolding run on_opened
    precede_open a b h = h ∙ via a b (λ z. on_opened z (λ s1 o e. run ts (f o) s1 e) (λ r e. (bad r, e)))

    pub precede_refused : {r : Refusal} → (x, e) ≡ precede_of s c ev → x ≡ Err r → out ≡ (bad r, e) → out ≡ run ts (precede c f) s ev
    unfolding run on_opened
    precede_refused a b h = h ∙ via a b (λ z. on_opened z (λ s1 o e. run ts (f o) s1 e) (λ r e. (bad r, e)))

  module _ {x : Closed} {e : List ℕ} (c : CompletedMarker) (o : Marker) (f : CompletedMarker → Prog A) where
    pub extend_done : {s1 : State} {m : CompletedMarker} → (x, e) ≡ extend_of s c o ev → x ≡ Ok (s1, m) → out ≡ run ts (f m) s1 e → out ≡ run ts (extend c o f) s ev
    unfolding run on_closed
    extend_done a b h = h ∙ via a b (λ z. on_closed z (λ s1 m e. run ts (f m) s1 e) (λ r e. (bad r, e)))

    pub extend_refused : {r : Refusal} → (x, e) ≡ extend_of s c o ev → x ≡ Err r → out ≡ (bad r, e) → out ≡ run ts (extend c o f) s ev
    unfolding run on_closed
    extend_refused a b h = h ∙ via a b (λ z. on_closed z (λ s1 m e. run ts (f m) s1 e) (λ r e. (bad r, e)))

  module _ {x : Taken} {e : List ℕ} (kind : ℕ) (p q : Prog A) where
    pub eat_took : {s1 : State} → (x, e) ≡ eat_of ts s kind ev → x ≡ Ok (Some s1) → out ≡ run ts p s1 e → out ≡ run ts (eat kind p q) s ev
    unfolding run on_taken
    eat_took a b h = h ∙ via a b (λ z. on_taken z (λ s1 e. run ts (p) s1 e) (λ e. run ts (q) s e) (λ r e. (bad r, e)))

    pub eat_no : (x, e) ≡ eat_of ts s kind ev → x ≡ Ok None → out ≡ run ts q s e → out ≡ run ts (eat kind p q) s ev
    unfolding run on_taken
    eat_no a b h = h ∙ via a b (λ z. on_taken z (λ s1 e. run ts (p) s1 e) (λ e. run ts (q) s e) (λ r e. (bad r, e)))

    pub eat_some : {o : Option State} {s1 : State} → (x, e) ≡ eat_of ts s kind ev → x ≡ Ok o → o ≡ Some s1 → out ≡ run ts p s1 e → out ≡ run ts (eat kind p q) s ev
    eat_some a b d h = eat_took a (b ∙ ap Ok d) h

    pub eat_none : {o : Option State} → (x, e) ≡ eat_of ts s kind ev → x ≡ Ok o → o ≡ None → out ≡ run ts q s e → out ≡ run ts (eat kind p q) s ev
    eat_none a b d h = eat_no a (b ∙ ap Ok d) h

    pub eat_refused : {r : Refusal} → (x, e) ≡ eat_of ts s kind ev → x ≡ Err r → out ≡ (bad r, e) → out ≡ run ts (eat kind p q) s ev
    unfolding run on_taken
    eat_refused a b h = h ∙ via a b (λ z. on_taken z (λ s1 e. run ts (p) s1 e) (λ e. run ts (q) s e) (λ r e. (bad r, e)))

  module _ {x : Taken} {e : List ℕ} (p q : Prog A) where
    pub bump_took : {s1 : State} → (x, e) ≡ bump_any_of ts s ev → x ≡ Ok (Some s1) → out ≡ run ts p s1 e → out ≡ run ts (bump_any p q) s ev
    unfolding run on_taken
    bump_took a b h = h ∙ via a b (λ z. on_taken z (λ s1 e. run ts (p) s1 e) (λ e. run ts (q) s e) (λ r e. (bad r, e)))

    pub bump_no : (x, e) ≡ bump_any_of ts s ev → x ≡ Ok None → out ≡ run ts q s e → out ≡ run ts (bump_any p q) s ev
    unfolding run on_taken
    bump_no a b h = h ∙ via a b (λ z. on_taken z (λ s1 e. run ts (p) s1 e) (λ e. run ts (q) s e) (λ r e. (bad r, e)))

    pub bump_some : {o : Option State} {s1 : State} → (x, e) ≡ bump_any_of ts s ev → x ≡ Ok o → o ≡ Some s1 → out ≡ run ts p s1 e → out ≡ run ts (bump_any p q) s ev
    bump_some a b d h = bump_took a (b ∙ ap Ok d) h

    pub bump_none : {o : Option State} → (x, e) ≡ bump_any_of ts s ev → x ≡ Ok o → o ≡ None → out ≡ run ts q s e → out ≡ run ts (bump_any p q) s ev
    bump_none a b d h = bump_no a (b ∙ ap Ok d) h

    pub bump_refused : {r : Refusal} → (x, e) ≡ bump_any_of ts s ev → x ≡ Err r → out ≡ (bad r, e) → out ≡ run ts (bump_any p q) s ev
    unfolding run on_taken
    bump_refused a b h = h ∙ via a b (λ z. on_taken z (λ s1 e. run ts (p) s1 e) (λ e. run ts (q) s e) (λ r e. (bad r, e)))

  module _ {x : Moved} {e : List ℕ} (code : ℕ) (p : Prog A) where
    pub error_on : {s1 : State} → (x, e) ≡ error_of s code ev → x ≡ Ok s1 → out ≡ run ts p s1 e → out ≡ run ts (error code p) s ev
    unfolding run on_moved
    error_on a b h = h ∙ via a b (λ z. on_moved z (λ s1 e. run ts (p) s1 e) (λ r e. (bad r, e)))

    pub error_refused : {r : Refusal} → (x, e) ≡ error_of s code ev → x ≡ Err r → out ≡ (bad r, e) → out ≡ run ts (error code p) s ev
    unfolding run on_moved
    error_refused a b h = h ∙ via a b (λ z. on_moved z (λ s1 e. run ts (p) s1 e) (λ r e. (bad r, e)))

  module _ {x : Parted} {e : List ℕ} (o : Marker) (f : CompletedMarker → Prog A) (q : Prog A) where
    pub split_split : {s1 : State} {m : CompletedMarker} → (x, e) ≡ split_of ts s o ev → x ≡ Ok (Some (s1, m)) → out ≡ run ts (f m) s1 e → out ≡ run ts (split o f q) s ev
    unfolding run on_parted
    split_split a b h = h ∙ via a b (λ z. on_parted z (λ s1 m e. run ts (f m) s1 e) (λ e. run ts (q) s e) (λ r e. (bad r, e)))

    pub split_no : (x, e) ≡ split_of ts s o ev → x ≡ Ok None → out ≡ run ts q s e → out ≡ run ts (split o f q) s ev
    unfolding run on_parted
    split_no a b h = h ∙ via a b (λ z. on_parted z (λ s1 m e. run ts (f m) s1 e) (λ e. run ts (q) s e) (λ r e. (bad r, e)))

    pub split_some : {v : Option (State × CompletedMarker)} {s1 : State} {m : CompletedMarker} → (x, e) ≡ split_of ts s o ev → x ≡ Ok v → v ≡ Some (s1, m) → out ≡ run ts (f m) s1 e → out ≡ run ts (split o f q) s ev
    split_some a b d h = split_split a (b ∙ ap Ok d) h

    pub split_none : {v : Option (State × CompletedMarker)} → (x, e) ≡ split_of ts s o ev → x ≡ Ok v → v ≡ None → out ≡ run ts q s e → out ≡ run ts (split o f q) s ev
    split_none a b d h = split_no a (b ∙ ap Ok d) h

    pub split_refused : {r : Refusal} → (x, e) ≡ split_of ts s o ev → x ≡ Err r → out ≡ (bad r, e) → out ≡ run ts (split o f q) s ev
    unfolding run on_parted
    split_refused a b h = h ∙ via a b (λ z. on_parted z (λ s1 m e. run ts (f m) s1 e) (λ e. run ts (q) s e) (λ r e. (bad r, e)))

  pub look_is : (f : ℕ → Prog A) → out ≡ run ts (f s.pos.0) s ev → out ≡ run ts (look f) s ev
  unfolding run
  look_is f h = h

  pub refuse_is : (n p : ℕ) → out ≡ (bad (refusal n p), ev) → out ≡ run ts (refuse n p) s ev
  unfolding run
  refuse_is n p h = h

  pub give_is : (a : A) → out ≡ (fine s a, ev) → out ≡ run ts (give a) s ev
  unfolding run
  give_is a h = h

  pub run_bound : {X : Type 0} {x v : X} (k : X → Prog A) → x ≡ v → out ≡ run ts (k x) s ev → out ≡ run ts (bound v k) s ev
  unfolding bound
  run_bound k p h = h ∙ ap (λ z. run ts (k z) s ev) p

  -- the tests of the rules
  module _ (f g : Unit {0} → Prog A) where
    pub run_yes : {b : Bool} → b ≡ true → out ≡ run ts (f tt) s ev → out ≡ run ts (whether b f g) s ev
    unfolding whether
    run_yes q h = h ∙ sym (ap (λ z. run ts (whether z f g) s ev) q)

    pub run_no : {b : Bool} → b ≡ false → out ≡ run ts (g tt) s ev → out ≡ run ts (whether b f g) s ev
    unfolding whether
    run_no q h = h ∙ sym (ap (λ z. run ts (whether z f g) s ev) q)

    -- a flag x that the code has for b
    pub run_true : {x : Bool} (b : Bool) → x ≡ b → x ≡ true → out ≡ run ts (f tt) s ev → out ≡ run ts (whether b f g) s ev
    run_true b p q h = run_yes (sym p ∙ q) h

    pub run_false : {x : Bool} (b : Bool) → x ≡ b → x ≡ false → out ≡ run ts (g tt) s ev → out ≡ run ts (whether b f g) s ev
    run_false b p q h = run_no (sym p ∙ q) h

    pub run_lt : (a b : ℕ) → a < b → out ≡ run ts (f tt) s ev → out ≡ run ts (whether (ltb a b) f g) s ev
    run_lt a b q h = run_yes (lt-ltb a b q) h

    pub run_ge : (a b : ℕ) → b ≤ a → out ≡ run ts (g tt) s ev → out ≡ run ts (whether (ltb a b) f g) s ev
    run_ge a b q h = run_no (le-ltb a b q) h

    pub run_le : (a b : ℕ) → a ≤ b → out ≡ run ts (f tt) s ev → out ≡ run ts (whether (leb a b) f g) s ev
    run_le a b q h = run_yes (le-leb a b q) h

    pub run_gt : (a b : ℕ) → b < a → out ≡ run ts (g tt) s ev → out ≡ run ts (whether (leb a b) f g) s ev
    run_gt a b q h = run_no (lt-leb a b q) h

    pub run_eq : (a b : ℕ) → a ≡ b → out ≡ run ts (f tt) s ev → out ≡ run ts (whether (eqb a b) f g) s ev
    run_eq a b q h = run_yes (eq-eqb a b q) h

    pub run_ne : (a b : ℕ) → (a ≡ b → ⊥) → out ≡ run ts (g tt) s ev → out ≡ run ts (whether (eqb a b) f g) s ev
    run_ne a b q h = run_no (ne_eqb a b q) h

    -- a number that is j, and j is not b by computation
    pub run_lit : (a b : ℕ) {j : ℕ} → a ≡ j → eqb j b ≡ false → out ≡ run ts (g tt) s ev → out ≡ run ts (whether (eqb a b) f g) s ev
    run_lit a b q r h = run_no (ap (λ z. eqb z b) q ∙ r) h

-- calls of other rules: p gave the reply x and left e
module _ {A B : Type 0} {out : Ran B} (ts : Tokens) (s : State) (ev : List ℕ) (p : Prog A) (k : A → Prog B) {x : Reply A} {e : List ℕ} where
  pub then_fine : {s1 : State} {a : A} → (x, e) ≡ run ts p s ev → x ≡ fine s1 a → out ≡ run ts (k a) s1 e → out ≡ run ts (then p k) s ev
  unfolding on_reply
  then_fine r q h = h ∙ via r q (λ z. on_reply z (λ s1 a e. run ts (k a) s1 e)) ∙ sym (run_then ts p k s ev)

  pub then_bad : {n : Refusal} → (x, e) ≡ run ts p s ev → x ≡ bad n → out ≡ (bad n, e) → out ≡ run ts (then p k) s ev
  unfolding on_reply
  then_bad r q h = h ∙ via r q (λ z. on_reply z (λ s1 a e. run ts (k a) s1 e)) ∙ sym (run_then ts p k s ev)

-- the same where the reply holds what may be missing
module _ {A B : Type 0} {out : Ran B} (ts : Tokens) (s : State) (ev : List ℕ) (p : Prog (Perhaps A)) (k : Perhaps A → Prog B) {x : Reply (Perhaps A)} {e : List ℕ} where
  pub then_some : {s1 : State} {v : Perhaps A} {a : A} → (x, e) ≡ run ts p s ev → x ≡ fine s1 v → v ≡ some a → out ≡ run ts (k (some a)) s1 e → out ≡ run ts (then p k) s ev
  then_some {s1} r q w h = then_fine ts s ev p k r (q ∙ ap (λ z. fine s1 z) w) h

  pub then_none : {s1 : State} {v : Perhaps A} → (x, e) ≡ run ts p s ev → x ≡ fine s1 v → v ≡ none → out ≡ run ts (k none) s1 e → out ≡ run ts (then p k) s ev
  then_none {s1} r q w h = then_fine ts s ev p k r (q ∙ ap (λ z. fine s1 z) w) h

-- the same where an answer of type X stands for a reply by the view v
module _ {X A B : Type 0} {out : Ran B} (v : X → Reply A) (ts : Tokens) (s : State) (ev : List ℕ) (p : Prog A) (k : A → Prog B) {x y : X} {e : List ℕ} where
  pub view_fine : {s1 : State} {a : A} → (v x, e) ≡ run ts p s ev → x ≡ y → v y ≡ fine s1 a → out ≡ run ts (k a) s1 e → out ≡ run ts (then p k) s ev
  view_fine r q w h = then_fine ts s ev p k r (ap v q ∙ w) h

  pub view_bad : {n : Refusal} → (v x, e) ≡ run ts p s ev → x ≡ y → v y ≡ bad n → out ≡ (bad n, e) → out ≡ run ts (then p k) s ev
  view_bad r q w h = then_bad ts s ev p k r (ap v q ∙ w) h

-- the reply that ends a loop
unfoldable pub as_done : {S A : Type 0} → Reply A → Reply (Next S A)
as_done (fine s a) = fine s (done a)
as_done (bad n) = bad n

-- where a loop stands: what is to be done from z on is the whole. μ bounds the turns that are left
module _ {S A : Type 0} (ts : Tokens) (f : S → Prog (Next S A)) (μ : State × S × List ℕ → ℕ) (whole : Ran A) where
  pub record Rest (z : State × S × List ℕ) : Type 0 where
    pub fuel : ℕ
    pub enough : μ z < fuel
    pub same : run ts (turns fuel f z.1) z.0 z.2 ≡ whole

  done_go : (k : ℕ) (z : State × S × List ℕ) (x : Reply A) {e : List ℕ} → μ z < k → (as_done x, e) ≡ run ts (f z.1) z.0 z.2 → run ts (turns k f z.1) z.0 z.2 ≡ whole → (x, e) ≡ whole
  unfolding turns on_next run as_done
  done_go zero z x h q w = absurd (omega arith)
  done_go (suc k) z (fine s a) h q w = then_fine ts z.0 z.2 (f z.1) _ q refl refl ∙ w
  done_go (suc k) z (bad n) h q w = then_bad ts z.0 z.2 (f z.1) _ q refl refl ∙ w

  pub rest_done : (z : State × S × List ℕ) {x : Reply A} {e : List ℕ} → Rest z → (as_done x, e) ≡ run ts (f z.1) z.0 z.2 → (x, e) ≡ whole
  rest_done z {x} r q = done_go r.fuel z x r.enough q r.same

  again_go : (k : ℕ) (z : State × S × List ℕ) {s : State} {m : S} {e : List ℕ} → μ z < k → μ (s, m, e) < μ z → (fine s (again m), e) ≡ run ts (f z.1) z.0 z.2 → run ts (turns k f z.1) z.0 z.2 ≡ whole → Rest (s, m, e)
  unfolding turns on_next
  again_go zero z h l q w = absurd (omega arith)
  again_go (suc k) z h l q w = record { fuel = k; enough = omega arith; same = then_fine ts z.0 z.2 (f z.1) _ q refl refl ∙ w }

  pub rest_again : (z : State × S × List ℕ) {s : State} {m : S} {e : List ℕ} → Rest z → (fine s (again m), e) ≡ run ts (f z.1) z.0 z.2 → μ (s, m, e) < μ z → Rest (s, m, e)
  rest_again z r q l = again_go r.fuel z r.enough l q r.same

pub rest_start : {S A : Type 0} (ts : Tokens) (f : S → Prog (Next S A)) (μ : State × S × List ℕ → ℕ) (k : ℕ) (z : State × S × List ℕ) → μ z < k → Rest ts f μ (run ts (turns k f z.1) z.0 z.2) z
rest_start ts f μ k z h = record { fuel = k; enough = h; same = refl }

-- the same read forward, for theorems about rules: a loop whose next turn is known
pub turns_done : {S A : Type 0} (ts : Tokens) (k : ℕ) (f : S → Prog (Next S A)) (z : S) (s : State) (ev : List ℕ) (x : Reply A) {e : List ℕ} → (as_done x, e) ≡ run ts (f z) s ev → (x, e) ≡ run ts (turns (suc k) f z) s ev
unfolding turns on_next run as_done
turns_done ts k f z s ev (fine s1 a) q = then_fine ts s ev (f z) _ q refl refl
turns_done ts k f z s ev (bad n) q = then_bad ts s ev (f z) _ q refl refl

pub turns_again : {S A : Type 0} (ts : Tokens) (k : ℕ) (f : S → Prog (Next S A)) (z : S) (s : State) (ev : List ℕ) {s1 : State} {z1 : S} {e : List ℕ} → (fine s1 (again z1), e) ≡ run ts (f z) s ev → run ts (turns k f z1) s1 e ≡ run ts (turns (suc k) f z) s ev
unfolding turns on_next
turns_again ts k f z s ev q = then_fine ts s ev (f z) _ q refl refl

pub ruleset steps = (start_open, start_refused, complete_done, complete_refused, abandon_on, abandon_refused, precede_open, precede_refused, extend_done, extend_refused, eat_took, eat_no, eat_some, eat_none, eat_refused, bump_took, bump_no, bump_some, bump_none, bump_refused, error_on, error_refused, split_split, split_no, split_some, split_none, split_refused, look_is, refuse_is, give_is, run_bound, run_true, run_false, run_lt, run_ge, run_le, run_gt, run_eq, run_ne, run_lit, then_some, then_none, then_fine, then_bad)
