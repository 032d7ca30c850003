-- What a rule of the grammar does, as data: calls of the machine, one after another. A refused call ends it.
use Rattle.std.specs.Prelude.{Result, Ok, Err, Option, Some, None, ℕ, zero, suc, List}
use Rattle.base.specs.Base.{Next, on_next}
use Rattle.input.specs.Input.{Tokens, refusal}
use Rattle.input.specs.declared.Refusal.{Refusal}
use Rattle.event.specs.declared.State.{State}
use Rattle.parser.specs.Calls.{start_of, complete_of, abandon_of, precede_of, extend_of, eat_of, bump_any_of, error_of, split_of, Opened, Closed, Moved, Taken, Parted}
use Rattle.parser.specs.declared.Marker.{Marker}
use Rattle.parser.specs.declared.CompletedMarker.{CompletedMarker}

pub data Prog (A : Type 0) : Type 0 where
  -- an answer; a refusal by number, at a place
  give : A → Prog A
  refuse : ℕ → ℕ → Prog A
  -- goes on with the raw position
  look : (ℕ → Prog A) → Prog A
  -- the nine calls; the second way of a taking call is for its no
  start : (Marker → Prog A) → Prog A
  complete : Marker → ℕ → (CompletedMarker → Prog A) → Prog A
  abandon : Marker → Prog A → Prog A
  precede : CompletedMarker → (Marker → Prog A) → Prog A
  extend : CompletedMarker → Marker → (CompletedMarker → Prog A) → Prog A
  eat : ℕ → Prog A → Prog A → Prog A
  bump_any : Prog A → Prog A → Prog A
  error : ℕ → Prog A → Prog A
  split : Marker → (CompletedMarker → Prog A) → Prog A → Prog A

-- one after another
unfoldable pub then : {A B : Type 0} → Prog A → (A → Prog B) → Prog B
then (give a) k = k a
then (refuse n p) k = refuse n p
then (look f) k = look (λ p. then (f p) k)
then (start f) k = start (λ o. then (f o) k)
then (complete o n f) k = complete o n (λ m. then (f m) k)
then (abandon o p) k = abandon o (then p k)
then (precede m f) k = precede m (λ o. then (f o) k)
then (extend c o f) k = extend c o (λ m. then (f m) k)
then (eat n p q) k = eat n (then p k) (then q k)
then (bump_any p q) k = bump_any (then p k) (then q k)
then (error c p) k = error c (then p k)
then (split o f q) k = split o (λ m. then (f m) k) (then q k)

-- at most so many turns; that they are never used up is a theorem
unfoldable pub turns : {S A : Type 0} → ℕ → (S → Prog (Next S A)) → S → Prog A
turns zero f s = refuse 0 0
turns (suc k) f s = then (f s) (λ n. on_next n (λ z. turns k f z) give)

-- an answer, with the state then; or a refusal
abbrev pub Reply : Type 0 → Type 0
Reply A = Result (State × A) Refusal

pattern abbrev pub fine : {A : Type 0} → State → A → Reply A
fine s a = Ok (s, a)

pattern abbrev pub bad : {A : Type 0} → Refusal → Reply A
bad r = Err r

abbrev pub Ran : Type 0 → Type 0
Ran A = Reply A × List ℕ

unfoldable pub on_opened : {A : Type 0} → Opened × List ℕ → (State → Marker → List ℕ → A) → (Refusal → List ℕ → A) → A
on_opened r k0 k1 = elim r.0 [ Ok (s, o) ↦ k0 s o r.1 | Err n ↦ k1 n r.1 ]

unfoldable pub on_closed : {A : Type 0} → Closed × List ℕ → (State → CompletedMarker → List ℕ → A) → (Refusal → List ℕ → A) → A
on_closed r k0 k1 = elim r.0 [ Ok (s, m) ↦ k0 s m r.1 | Err n ↦ k1 n r.1 ]

unfoldable pub on_moved : {A : Type 0} → Moved × List ℕ → (State → List ℕ → A) → (Refusal → List ℕ → A) → A
on_moved r k0 k1 = elim r.0 [ Ok s ↦ k0 s r.1 | Err n ↦ k1 n r.1 ]

unfoldable pub on_taken : {A : Type 0} → Taken × List ℕ → (State → List ℕ → A) → (List ℕ → A) → (Refusal → List ℕ → A) → A
on_taken r k0 k1 k2 = elim r.0 [ Ok (Some s) ↦ k0 s r.1 | Ok None ↦ k1 r.1 | Err n ↦ k2 n r.1 ]

unfoldable pub on_parted : {A : Type 0} → Parted × List ℕ → (State → CompletedMarker → List ℕ → A) → (List ℕ → A) → (Refusal → List ℕ → A) → A
on_parted r k0 k1 k2 = elim r.0 [ Ok (Some (s, m)) ↦ k0 s m r.1 | Ok None ↦ k1 r.1 | Err n ↦ k2 n r.1 ]

-- a program on the events, by the machine's own rules
unfoldable pub run : {A : Type 0} → Tokens → Prog A → State → List ℕ → Ran A
run ts (give a) s ev = (fine s a, ev)
run ts (refuse n p) s ev = (bad (refusal n p), ev)
run ts (look f) s ev = run ts (f s.pos.0) s ev
run ts (start f) s ev = on_opened (start_of s ev) (λ s1 o e. run ts (f o) s1 e) (λ r e. (bad r, e))
run ts (complete o n f) s ev = on_closed (complete_of s o n ev) (λ s1 m e. run ts (f m) s1 e) (λ r e. (bad r, e))
run ts (abandon o p) s ev = on_moved (abandon_of s o ev) (λ s1 e. run ts p s1 e) (λ r e. (bad r, e))
run ts (precede m f) s ev = on_opened (precede_of s m ev) (λ s1 o e. run ts (f o) s1 e) (λ r e. (bad r, e))
run ts (extend c o f) s ev = on_closed (extend_of s c o ev) (λ s1 m e. run ts (f m) s1 e) (λ r e. (bad r, e))
run ts (eat k p q) s ev = on_taken (eat_of ts s k ev) (λ s1 e. run ts p s1 e) (λ e. run ts q s e) (λ r e. (bad r, e))
run ts (bump_any p q) s ev = on_taken (bump_any_of ts s ev) (λ s1 e. run ts p s1 e) (λ e. run ts q s e) (λ r e. (bad r, e))
run ts (error c p) s ev = on_moved (error_of s c ev) (λ s1 e. run ts p s1 e) (λ r e. (bad r, e))
run ts (split o f q) s ev = on_parted (split_of ts s o ev) (λ s1 m e. run ts (f m) s1 e) (λ e. run ts q s e) (λ r e. (bad r, e))

-- what may be missing
abbrev pub Perhaps : Type 0 → Type 0
Perhaps A = Option A

pattern abbrev pub some : {A : Type 0} → A → Perhaps A
some a = Some a

pattern abbrev pub none : {A : Type 0} → Perhaps A
none = None
