-- What must hold of the events E and of the position q before a program, so that Q holds of its answer and of both then. A refusal is always right, and so is an error: it stays (Errors). `sound` is the one proof about `run`; `after` and `round` are sequence and loop. (`Err` is an error event, a refusal `outcome.Err`.) Assumes nothing.
use Rattle.std.proofs.Common.{Ok, Some, None}
use mathlib.Core.Path.{◌≡◌, sym, subst}
use mathlib.Core.List.{List, [], ◌∷◌, ◌++◌}
use mathlib.Core.Bool.{Bool, true, false}
use mathlib.Core.Logic.{◌⊎◌, inl, inr}
use Rattle.std.specs.declared.result.Result.TheVariants as outcome
use Prim.Native.Nat.{ℕ, zero, suc, ◌+◌, ◌<◌}
use lib.ListN.{length}
use lib.Dec.{eqb, ltb}
use Rattle.base.specs.Base.{Next, again, done, on_next}
use Rattle.input.specs.SyntaxKind.{FLOAT_NUMBER, FIELD_EXPR}
use Rattle.input.specs.Input.{Tokens, kind_at, joint_at, stands, present, width_of}
use Rattle.input.specs.declared.Refusal.{Refusal}
use Rattle.event.specs.Event as event
use Rattle.event.specs.Event.{Event, finish, token, live, spent, named}
use Rattle.event.specs.declared.State.{State}
use Rattle.parser.specs.Calls.{start_of, complete_of, precede_of, extend_of, eat_of, bump_any_of, error_of, split_of, Opened, Closed, Taken, Parted}
use Rattle.parser.specs.Prog.{Prog, give, refuse, look, start, complete, abandon, precede, extend, eat, bump_any, error, split, then, turns, Reply, fine, bad, Ran, run, on_opened, on_closed, on_taken, on_parted}
use Rattle.parser.specs.declared.Marker.{Marker}
use Rattle.parser.specs.declared.CompletedMarker.{CompletedMarker}
use Rattle.parser.proofs.Moves.{Kept, moved_by}
use Rattle.tree.proofs.Machine.{Shows, shows_is, OpenedAt, ClosedAt, TakenAt, PartedAt, start_at, eat_at, bump_at, complete_at, precede_at, extend_at, split_at}
use Rattle.tree.proofs.Errors.{Err, an_error_stays, error_err}

abbrev pub Post : Type 0 → Type 1
Post A = A → List Event → ℕ → Type 0

abbrev pub Wp : {A : Type 0} → Tokens → Prog A → Post A → List Event → ℕ → Type 0
Wp ts (give a) Q E q = Q a E q
Wp ts (refuse n p) Q E q = Unit {0}
Wp ts (look f) Q E q = Wp ts (f q) Q E q
Wp ts (start f) Q E q = (o : Marker) → o.0 ≡ length E → Wp ts (f o) Q (E ++ (event.start live 0 false ∷ [])) q
Wp ts (complete o k f) Q E q =
    (D : List Event) × (B : List Event) × (fl : Bool) × (E ≡ D ++ (event.start live 0 fl ∷ B)) × (o.0 ≡ length D)
    × ((m : CompletedMarker) → m.0 ≡ length D → Wp ts (f m) Q (D ++ (event.start (named k) 0 fl ∷ (B ++ (finish ∷ [])))) q)
Wp ts (abandon o p) Q E q = ⊥
Wp ts (precede m f) Q E q =
    (D : List Event) × (Z : List Event) × (k : ℕ) × (fl : Bool) × (E ≡ D ++ (event.start (named k) 0 fl ∷ Z)) × (m.0 ≡ length D)
    × ((o : Marker) → o.0 ≡ length (D ++ (event.start (named k) (suc (length Z)) fl ∷ Z)) → Wp ts (f o) Q ((D ++ (event.start (named k) (suc (length Z)) fl ∷ Z)) ++ (event.start live 0 true ∷ [])) q)
Wp ts (extend c o f) Q E q =
    (D : List Event) × (Z : List Event) × (k : ℕ) × (E ≡ D ++ (event.start live 0 false ∷ Z)) × (o.0 ≡ length D) × (c.0 ≡ length D + k)
    × ((m : CompletedMarker) → m.0 ≡ c.0 → Wp ts (f m) Q (D ++ (event.start spent k false ∷ Z)) q)
Wp ts (eat k p r) Q E q = (present ts q k ≡ true → Wp ts p Q (E ++ (token k (width_of k) ∷ [])) (q + width_of k)) × (present ts q k ≡ false → Wp ts r Q E q)
Wp ts (bump_any p r) Q E q = (kind_at ts q < 256) × (ltb q (length ts.kinds) ≡ true → Wp ts p Q (E ++ (token (kind_at ts q) 1 ∷ [])) (q + 1)) × (ltb q (length ts.kinds) ≡ false → Wp ts r Q E q)
Wp ts (error c p) Q E q = Unit {0}
Wp ts (split o f r) Q E q =
    (D : List Event) × (B : List Event) × (fl : Bool) × (E ≡ D ++ (event.start live 0 fl ∷ B)) × (o.0 ≡ length D)
    × (stands ts q FLOAT_NUMBER ≡ true → eqb (joint_at ts q) 0 ≡ true → (m : CompletedMarker) → m.0 ≡ length D → Wp ts (f m) Q (D ++ (event.start (named FIELD_EXPR) 0 fl ∷ (B ++ (event.split true ∷ finish ∷ [])))) (q + 1))
    × (stands ts q FLOAT_NUMBER ≡ true → eqb (joint_at ts q) 0 ≡ false → (m : CompletedMarker) → m.0 ≡ length D + suc (length B) → Wp ts (f m) Q (D ++ (event.start (named FIELD_EXPR) (suc (length B)) fl ∷ (B ++ (event.start (named FIELD_EXPR) 0 false ∷ event.split false ∷ finish ∷ [])))) (q + 1))
    × (stands ts q FLOAT_NUMBER ≡ false → Wp ts r Q E q)

-- what a run's reply says: an error stands, or Q holds
abbrev pub Sat : {A : Type 0} → Post A → Ran A → Type 0
Sat Q r = elim r.0 [ fine s a ↦ Err s r.1 ⊎ ((E : List Event) × Shows s.count r.1 E × Q a E s.pos.0) | bad n ↦ Unit {0} ]

kept_sat : {A : Type 0} (Q : Post A) (x : Reply A) (e : List ℕ) → Kept Err (x, e) → Sat Q (x, e)
kept_sat Q (fine s a) e h = inl h
kept_sat Q (bad n) e h = tt

-- what follows a call, by its answer
module _ {A : Type 0} (P : A → Type 0) where
  opened_go : (Q : Opened × List ℕ → Type 0) (x : Opened) (e : List ℕ) (k0 : State → Marker → List ℕ → A) (k1 : Refusal → List ℕ → A) → Q (x, e) → ((s : State) (o : Marker) (e : List ℕ) → Q (Ok (s, o), e) → P (k0 s o e)) → ((r : Refusal) (e : List ℕ) → P (k1 r e)) → P (on_opened (x, e) k0 k1)
  unfolding on_opened
  opened_go Q (Ok (s, o)) e k0 k1 q f g = f s o e q
  opened_go Q (outcome.Err r) e k0 k1 q f g = g r e

  closed_go : (Q : Closed × List ℕ → Type 0) (x : Closed) (e : List ℕ) (k0 : State → CompletedMarker → List ℕ → A) (k1 : Refusal → List ℕ → A) → Q (x, e) → ((s : State) (m : CompletedMarker) (e : List ℕ) → Q (Ok (s, m), e) → P (k0 s m e)) → ((r : Refusal) (e : List ℕ) → P (k1 r e)) → P (on_closed (x, e) k0 k1)
  unfolding on_closed
  closed_go Q (Ok (s, m)) e k0 k1 q f g = f s m e q
  closed_go Q (outcome.Err r) e k0 k1 q f g = g r e

  taken_go : (Q : Taken × List ℕ → Type 0) (x : Taken) (e : List ℕ) (k0 : State → List ℕ → A) (k1 : List ℕ → A) (k2 : Refusal → List ℕ → A) → Q (x, e) → ((s : State) (e : List ℕ) → Q (Ok (Some s), e) → P (k0 s e)) → ((e : List ℕ) → Q (Ok None, e) → P (k1 e)) → ((r : Refusal) (e : List ℕ) → P (k2 r e)) → P (on_taken (x, e) k0 k1 k2)
  unfolding on_taken
  taken_go Q (Ok (Some s)) e k0 k1 k2 q f0 f1 f2 = f0 s e q
  taken_go Q (Ok None) e k0 k1 k2 q f0 f1 f2 = f1 e q
  taken_go Q (outcome.Err r) e k0 k1 k2 q f0 f1 f2 = f2 r e

  parted_go : (Q : Parted × List ℕ → Type 0) (x : Parted) (e : List ℕ) (k0 : State → CompletedMarker → List ℕ → A) (k1 : List ℕ → A) (k2 : Refusal → List ℕ → A) → Q (x, e) → ((s : State) (m : CompletedMarker) (e : List ℕ) → Q (Ok (Some (s, m)), e) → P (k0 s m e)) → ((e : List ℕ) → Q (Ok None, e) → P (k1 e)) → ((r : Refusal) (e : List ℕ) → P (k2 r e)) → P (on_parted (x, e) k0 k1 k2)
  unfolding on_parted
  parted_go Q (Ok (Some (s, m))) e k0 k1 k2 q f0 f1 f2 = f0 s m e q
  parted_go Q (Ok None) e k0 k1 k2 q f0 f1 f2 = f1 e q
  parted_go Q (outcome.Err r) e k0 k1 k2 q f0 f1 f2 = f2 r e

-- the position and the list, written otherwise
module _ {A : Type 0} (ts : Tokens) (p : Prog A) (Q : Post A) where
  at_place : (E : List Event) {q q' : ℕ} → q' ≡ q → Wp ts p Q E q → Wp ts p Q E q'
  at_place E e w = subst (λ (i : ℕ). Wp ts p Q E i) (sym e) w

  same_list : (s : State) {e e' : List ℕ} → e' ≡ e → Sat Q (run ts p s e) → Sat Q (run ts p s e')
  same_list s q h = subst (λ (l : List ℕ). Sat Q (run ts p s l)) (sym q) h

-- the events' run does what Wp says
pub sound : {A : Type 0} (ts : Tokens) (p : Prog A) (Q : Post A) (s : State) (ev : List ℕ) (E : List Event) → Shows s.count ev E → Wp ts p Q E s.pos.0 → Sat Q (run ts p s ev)
unfolding run
sound ts (give a) Q s ev E h w = inr (E, h, w)
sound ts (refuse n p) Q s ev E h w = tt
sound ts (look f) Q s ev E h w = sound ts (f s.pos.0) Q s ev E h w
sound ts (start f) Q s ev E h w =
    opened_go (Sat Q) (OpenedAt s.pos.0 E (E ++ (event.start live 0 false ∷ []))) (start_of s ev).0 (start_of s ev).1 _ _ (start_at ts s ev h)
    (λ s1 o e i. sound ts (f o) Q s1 e (E ++ (event.start live 0 false ∷ [])) i.0 (at_place ts (f o) Q (E ++ (event.start live 0 false ∷ [])) i.2 (w o i.1))) (λ _ _. tt)
sound ts (complete o k f) Q s ev E h w =
    closed_go (Sat Q) (ClosedAt s.pos.0 (length w.0) _) (complete_of s o k ev).0 (complete_of s o k ev).1 _ _ (complete_at s o k ev w.0 w.1 w.2 (shows_is w.3 h) w.4)
    (λ s1 m e i. sound ts (f m) Q s1 e (w.0 ++ (event.start (named k) 0 w.2 ∷ (w.1 ++ (finish ∷ [])))) i.0 (at_place ts (f m) Q (w.0 ++ (event.start (named k) 0 w.2 ∷ (w.1 ++ (finish ∷ [])))) i.2 (w.5 m i.1))) (λ _ _. tt)
sound ts (abandon o p) Q s ev E h w = absurd w
sound ts (precede m f) Q s ev E h w =
    opened_go (Sat Q) (OpenedAt s.pos.0 (w.0 ++ (event.start (named w.2) (suc (length w.1)) w.3 ∷ w.1)) _) (precede_of s m ev).0 (precede_of s m ev).1 _ _ (precede_at s m w.2 ev w.0 w.1 w.3 (shows_is w.4 h) w.5)
    (λ s1 o e i. sound ts (f o) Q s1 e ((w.0 ++ (event.start (named w.2) (suc (length w.1)) w.3 ∷ w.1)) ++ (event.start live 0 true ∷ [])) i.0 (at_place ts (f o) Q ((w.0 ++ (event.start (named w.2) (suc (length w.1)) w.3 ∷ w.1)) ++ (event.start live 0 true ∷ [])) i.2 (w.6 o i.1))) (λ _ _. tt)
sound ts (extend c o f) Q s ev E h w =
    closed_go (Sat Q) (ClosedAt s.pos.0 c.0 _) (extend_of s c o ev).0 (extend_of s c o ev).1 _ _ (extend_at s c o w.2 ev w.0 w.1 (shows_is w.3 h) w.4 w.5)
    (λ s1 m e i. sound ts (f m) Q s1 e (w.0 ++ (event.start spent w.2 false ∷ w.1)) i.0 (at_place ts (f m) Q (w.0 ++ (event.start spent w.2 false ∷ w.1)) i.2 (w.6 m i.1))) (λ _ _. tt)
sound ts (eat k p r) Q s ev E h w =
    taken_go (Sat Q) (TakenAt (s.pos.0 + width_of k) ev (present ts s.pos.0 k) _) (eat_of ts s k ev).0 (eat_of ts s k ev).1 _ _ _ (eat_at ts s ev h k)
    (λ s1 e i. sound ts p Q s1 e (E ++ (token k (width_of k) ∷ [])) i.0 (at_place ts p Q (E ++ (token k (width_of k) ∷ [])) i.1 (w.0 i.2)))
    (λ e i. same_list ts r Q s i.0 (sound ts r Q s ev E h (w.1 i.1)))
    (λ _ _. tt)
sound ts (bump_any p r) Q s ev E h w =
    taken_go (Sat Q) (TakenAt (s.pos.0 + 1) ev (ltb s.pos.0 (length ts.kinds)) _) (bump_any_of ts s ev).0 (bump_any_of ts s ev).1 _ _ _ (bump_at ts s ev h w.0)
    (λ s1 e i. sound ts p Q s1 e (E ++ (token (kind_at ts s.pos.0) 1 ∷ [])) i.0 (at_place ts p Q (E ++ (token (kind_at ts s.pos.0) 1 ∷ [])) i.1 (w.1 i.2)))
    (λ e i. same_list ts r Q s i.0 (sound ts r Q s ev E h (w.2 i.1)))
    (λ _ _. tt)
sound ts (error c p) Q s ev E h w =
    moved_by (Sat Q) Err (λ _. Unit {0}) (error_of s c ev) _ _ (error_err s c ev) (λ s1 e i. kept_sat Q (run ts p s1 e).0 (run ts p s1 e).1 (an_error_stays ts p s1 e i)) (λ _ _ _. tt)
sound ts (split o f r) Q s ev E h w =
    parted_go (Sat Q) (PartedAt ts s o ev w.0 w.1 w.2 (shows_is w.3 h) w.4) (split_of ts s o ev).0 (split_of ts s o ev).1 _ _ _ (split_at ts s o ev w.0 w.1 w.2 (shows_is w.3 h) w.4)
    (λ s1 m e i. elim i.2 [
      | inl j ↦ sound ts (f m) Q s1 e (w.0 ++ (event.start (named FIELD_EXPR) 0 w.2 ∷ (w.1 ++ (event.split true ∷ finish ∷ [])))) j.1 (at_place ts (f m) Q (w.0 ++ (event.start (named FIELD_EXPR) 0 w.2 ∷ (w.1 ++ (event.split true ∷ finish ∷ [])))) i.0 (w.5 i.1 j.0 m j.2))
      | inr j ↦ sound ts (f m) Q s1 e (w.0 ++ (event.start (named FIELD_EXPR) (suc (length w.1)) w.2 ∷ (w.1 ++ (event.start (named FIELD_EXPR) 0 false ∷ event.split false ∷ finish ∷ [])))) j.1 (at_place ts (f m) Q (w.0 ++ (event.start (named FIELD_EXPR) (suc (length w.1)) w.2 ∷ (w.1 ++ (event.start (named FIELD_EXPR) 0 false ∷ event.split false ∷ finish ∷ [])))) i.0 (w.6 i.1 j.0 m j.2))
    ])
    (λ e i. same_list ts r Q s i.0 (sound ts r Q s ev E h (w.7 i.1)))
    (λ _ _. tt)

-- one after another
pub after : {A B : Type 0} (ts : Tokens) (p : Prog A) (k : A → Prog B) (Q : Post A) (R : Post B) (E : List Event) (q : ℕ) → Wp ts p Q E q → ((a : A) (E : List Event) (q : ℕ) → Q a E q → Wp ts (k a) R E q) → Wp ts (then p k) R E q
unfolding then
after ts (give a) k Q R E q w f = f a E q w
after ts (refuse n p) k Q R E q w f = tt
after ts (look g) k Q R E q w f = after ts (g q) k Q R E q w f
after ts (start g) k Q R E q w f = λ o i. after ts (g o) k Q R _ q (w o i) f
after ts (complete o n g) k Q R E q w f = (w.0, w.1, w.2, w.3, w.4, λ m i. after ts (g m) k Q R _ q (w.5 m i) f)
after ts (abandon o p) k Q R E q w f = absurd w
after ts (precede m g) k Q R E q w f = (w.0, w.1, w.2, w.3, w.4, w.5, λ o i. after ts (g o) k Q R _ q (w.6 o i) f)
after ts (extend c o g) k Q R E q w f = (w.0, w.1, w.2, w.3, w.4, w.5, λ m i. after ts (g m) k Q R _ q (w.6 m i) f)
after ts (eat n p r) k Q R E q w f = (λ l. after ts p k Q R _ _ (w.0 l) f, λ l. after ts r k Q R E q (w.1 l) f)
after ts (bump_any p r) k Q R E q w f = (w.0, λ l. after ts p k Q R _ _ (w.1 l) f, λ l. after ts r k Q R E q (w.2 l) f)
after ts (error c p) k Q R E q w f = tt
after ts (split o g r) k Q R E q w f =
    (w.0, w.1, w.2, w.3, w.4, λ x y m i. after ts (g m) k Q R _ _ (w.5 x y m i) f, λ x y m i. after ts (g m) k Q R _ _ (w.6 x y m i) f, λ l. after ts r k Q R E q (w.7 l) f)

-- what follows from what is said
pub weaken : {A : Type 0} (ts : Tokens) (p : Prog A) (Q R : Post A) (E : List Event) (q : ℕ) → Wp ts p Q E q → ((a : A) (E : List Event) (q : ℕ) → Q a E q → R a E q) → Wp ts p R E q
weaken ts (give a) Q R E q w f = f a E q w
weaken ts (refuse n p) Q R E q w f = tt
weaken ts (look g) Q R E q w f = weaken ts (g q) Q R E q w f
weaken ts (start g) Q R E q w f = λ o i. weaken ts (g o) Q R _ q (w o i) f
weaken ts (complete o n g) Q R E q w f = (w.0, w.1, w.2, w.3, w.4, λ m i. weaken ts (g m) Q R _ q (w.5 m i) f)
weaken ts (abandon o p) Q R E q w f = absurd w
weaken ts (precede m g) Q R E q w f = (w.0, w.1, w.2, w.3, w.4, w.5, λ o i. weaken ts (g o) Q R _ q (w.6 o i) f)
weaken ts (extend c o g) Q R E q w f = (w.0, w.1, w.2, w.3, w.4, w.5, λ m i. weaken ts (g m) Q R _ q (w.6 m i) f)
weaken ts (eat n p r) Q R E q w f = (λ l. weaken ts p Q R _ _ (w.0 l) f, λ l. weaken ts r Q R E q (w.1 l) f)
weaken ts (bump_any p r) Q R E q w f = (w.0, λ l. weaken ts p Q R _ _ (w.1 l) f, λ l. weaken ts r Q R E q (w.2 l) f)
weaken ts (error c p) Q R E q w f = tt
weaken ts (split o g r) Q R E q w f =
    (w.0, w.1, w.2, w.3, w.4, λ x y m i. weaken ts (g m) Q R _ _ (w.5 x y m i) f, λ x y m i. weaken ts (g m) Q R _ _ (w.6 x y m i) f, λ l. weaken ts r Q R E q (w.7 l) f)

-- a loop
module _ {S A : Type 0} (ts : Tokens) (f : S → Prog (Next S A)) (I : Post S) (Q : Post A) where
  abbrev pub Turn : Post (Next S A)
  Turn n E q = elim n [ again z ↦ I z E q | done a ↦ Q a E q ]

  next_turn : (g : S → Prog A) → ((z : S) (E : List Event) (q : ℕ) → I z E q → Wp ts (g z) Q E q) → (n : Next S A) (E : List Event) (q : ℕ) → Turn n E q → Wp ts (on_next n g give) Q E q
  unfolding on_next
  next_turn g h (again z) E q i = h z E q i
  next_turn g h (done a) E q i = i

  pub round : ((m : S) (E : List Event) (q : ℕ) → I m E q → Wp ts (f m) Turn E q) → (k : ℕ) (m : S) (E : List Event) (q : ℕ) → I m E q → Wp ts (turns k f m) Q E q
  unfolding turns
  round t zero m E q i = tt
  round t (suc k) m E q i = after ts (f m) _ Turn Q E q (t m E q i) (next_turn (λ z. turns k f z) (round t k))
