-- A calculus for theorems about rules: `Does W p Q s ev` says that the program p, run from the state s on the events ev, ends in an answer of which Q holds, or is refused by one of three numbers: 6, 7, or 4 where the list has less room than a limit.
-- One law for each call says what it asks and what is then known: of markers (live, or named and without forward parent), of the entries that were there before (kept below a base), of position and count. Assumes nothing.
use mathlib.Core.Path.{◌≡◌, refl, sym, ap, ◌∙◌}
use mathlib.Core.List.{List}
use mathlib.Core.Bool.{Bool, true, false, false≢true}
use mathlib.Core.Logic.{◌⊎◌, inr}
use Prim.Native.Nat.{ℕ, ◌+◌, ◌*◌, ◌≤◌, ◌<◌}
use native.Mathlib.Omega.{arith}
use lib.ListN.{length, get_or, set, length-set}
use lib.Seq.{get_or-set_other}
use borrow.Author.Tests.{ltb-false, leb-true, leb-false}
use Rattle.base.specs.Base.{whether, bound, Next, again, done}
use Rattle.base.proofs.Cases.{whether_by}
use Rattle.input.specs.SyntaxKind.{EVENTS_FULL, TOO_DEEP, OUTSIDE_CUT}
use Rattle.input.specs.Input.{Tokens, refusal}
use Rattle.input.specs.declared.Refusal.{Refusal}
use Rattle.event.specs.Event.{offset_of, is_live, is_named, event_limit, capacity_of}
use Rattle.event.specs.declared.State.{State}
use Rattle.parser.specs.Calls.{room_for, is_open, is_closed}
use Rattle.parser.specs.Prog.{Prog, give, refuse, look, then, turns, Reply, fine, bad, run}
use Rattle.parser.proofs.Moves.{ReplyBy, then_by, turns_by}
use Rattle.parser.specs.declared.Marker.{Marker}
use Rattle.parser.specs.declared.CompletedMarker.{CompletedMarker}

-- the tokens, the capacity of the event list, and the limit that is compared with it
pub record World : Type 0 where
  pub ts : Tokens
  pub cap : ℕ
  pub lim : ℕ

abbrev pub size : World → ℕ
size W = length W.ts.kinds

-- the refusals that a rule may give
abbrev pub Allowed : World → Refusal → Type 0
Allowed W r = (r.number ≡ TOO_DEEP) ⊎ ((r.number ≡ OUTSIDE_CUT) ⊎ ((r.number ≡ EVENTS_FULL) × (W.cap < W.lim)))

abbrev pub Post : Type 0 → Type 1
Post A = State → A → List ℕ → Type 0

pub record Does {A : Type 0} (W : World) (p : Prog A) (Q : Post A) (s : State) (ev : List ℕ) : Type 0 where
  pub does : ReplyBy Q (λ r _. Allowed W r) (run W.ts p s ev)

-- the state s1 with the events e, where the entries below c are those of ev
pub record On (W : World) (c : ℕ) (ev : List ℕ) (s1 : State) (e : List ℕ) : Type 0 where
  pub inside : s1.pos.0 ≤ size W
  pub low : c ≤ s1.count
  pub top : s1.count ≤ W.cap
  pub room : capacity_of e ≡ W.cap
  pub kept : (i : ℕ) → i < c → get_or e i 0 ≡ get_or ev i 0

abbrev pub Here : World → State → List ℕ → Type 0
Here W s ev = On W s.count ev s ev

-- an open marker; a closed one that has no forward parent. Both at c or above
pub record Live (c : ℕ) (o : Marker) (s : State) (e : List ℕ) : Type 0 where
  pub new : c ≤ o.0
  pub below : o.0 < s.count
  pub is : is_live (get_or e o.0 0) ≡ true
  pub bare : offset_of (get_or e o.0 0) ≡ 0

pub record Shut (c : ℕ) (m : CompletedMarker) (s : State) (e : List ℕ) : Type 0 where
  pub new : c ≤ m.0
  pub below : m.0 < s.count
  pub is : is_named (get_or e m.0 0) ≡ true
  pub bare : offset_of (get_or e m.0 0) ≡ 0

-- room for k events more; and with eleven for each token that is left
abbrev pub Fit : World → ℕ → State → Type 0
Fit W k s = s.count + k ≤ W.lim

abbrev pub Room : World → ℕ → State → Type 0
Room W k s = s.count + 11 * size W + k ≤ W.lim + 11 * s.pos.0

-- w tokens more and k events more
abbrev pub Moves : ℕ → ℕ → State → State → Type 0
Moves w k s s1 = (s1.pos.0 ≡ s.pos.0 + w) × (s1.count ≡ s.count + k)

pub shut_lower : {c c1 : ℕ} {m : CompletedMarker} {s : State} {e : List ℕ} → c ≤ c1 → Shut c1 m s e → Shut c m s e
shut_lower l v = record { new = omega (arith, v.new); below = v.below; is = v.is; bare = v.bare }

module _ {W : World} where
  pub on_on : {c c1 : ℕ} {ev e e1 : List ℕ} {s s1 : State} → c ≤ c1 → On W c ev s e → On W c1 e s1 e1 → On W c ev s1 e1
  on_on l a b = record { inside = b.inside; low = omega (arith, b.low); top = b.top; room = b.room; kept = λ i q. b.kept i (omega arith) ∙ a.kept i q }

  pub here : {c : ℕ} {ev e : List ℕ} {s : State} → On W c ev s e → Here W s e
  here a = record { inside = a.inside; low = omega arith; top = a.top; room = a.room; kept = λ i q. refl }

  pub lower : {c c1 : ℕ} {ev e : List ℕ} {s : State} → c ≤ c1 → On W c1 ev s e → On W c ev s e
  lower l a = record { inside = a.inside; low = omega (arith, a.low); top = a.top; room = a.room; kept = λ i q. a.kept i (omega arith) }

  -- a marker below the base stays what it is
  pub still : {c c1 : ℕ} {o : Marker} {s s1 : State} {e e1 : List ℕ} → Live c o s e → On W c1 e s1 e1 → o.0 < c1 → Live c o s1 e1
  still l a q = record { new = l.new; below = omega (arith, a.low); is = ap is_live (a.kept _ q) ∙ l.is; bare = ap (λ (x : ℕ). offset_of x) (a.kept _ q) ∙ l.bare }

  module _ {A : Type 0} {Q : Post A} {s : State} {ev : List ℕ} where
    pub does_give : {a : A} → Q s a ev → Does W (give a) Q s ev
    unfolding run
    does_give h = record { does = h }

    pub does_refuse : {n p : ℕ} → Allowed W (refusal n p) → Does W (refuse n p) Q s ev
    unfolding run
    does_refuse h = record { does = h }

    pub does_look : {f : ℕ → Prog A} → Does W (f s.pos.0) Q s ev → Does W (look f) Q s ev
    unfolding run
    does_look h = record { does = h.does }

    pub does_bound : {X : Type 0} (v : X) (k : X → Prog A) → Does W (k v) Q s ev → Does W (bound v k) Q s ev
    unfolding bound
    does_bound v k h = h

    pub does_if : (b : Bool) (f g : Unit {0} → Prog A) → (b ≡ true → Does W (f tt) Q s ev) → (b ≡ false → Does W (g tt) Q s ev) → Does W (whether b f g) Q s ev
    does_if b f g y n = whether_by (λ p. Does W p Q s ev) b f g y n

    pub does_then : {B : Type 0} {R : Post B} {p : Prog B} {k : B → Prog A} → Does W p R s ev → ((s1 : State) (a : B) (e : List ℕ) → R s1 a e → Does W (k a) Q s1 e) → Does W (then p k) Q s ev
    does_then {R = R} {p} {k} h f = record { does = then_by (ReplyBy Q (λ r _. Allowed W r)) R (λ r _. Allowed W r) W.ts p k s ev h.does (λ s1 a e q. (f s1 a e q).does) (λ r e q. q) }

-- a weaker fact
weaken_go : {A : Type 0} (W : World) (R Q : Post A) (x : Reply A) (e : List ℕ) → ReplyBy R (λ r _. Allowed W r) (x, e) → ((s1 : State) (a : A) (e : List ℕ) → R s1 a e → Q s1 a e) → ReplyBy Q (λ r _. Allowed W r) (x, e)
weaken_go W R Q (fine s a) e h k = k s a e h
weaken_go W R Q (bad r) e h k = h

pub does_weaken : {W : World} {A : Type 0} {R Q : Post A} {p : Prog A} {s : State} {ev : List ℕ} → Does W p R s ev → ((s1 : State) (a : A) (e : List ℕ) → R s1 a e → Q s1 a e) → Does W p Q s ev
does_weaken {W} {A} {R} {Q} {p} {s} {ev} d k = record { does = weaken_go W R Q (run W.ts p s ev).0 (run W.ts p s ev).1 d.does k }

-- a loop: I holds from turn to turn while μ falls
module _ {S A : Type 0} (I : State → S → List ℕ → Type 0) (μ : State → S → ℕ) (Q : Post A) where
  abbrev pub Turned : State → S → Post (Next S A)
  Turned s z s1 n e = elim n [ again z1 ↦ I s1 z1 e × (μ s1 z1 < μ s z) | done a ↦ Q s1 a e ]

  pub does_turns : {W : World} (f : S → Prog (Next S A)) → ((s : State) (z : S) (ev : List ℕ) → I s z ev → Does W (f z) (Turned s z) s ev) → (k : ℕ) (s : State) (z : S) (ev : List ℕ) → μ s z < k → I s z ev → Does W (turns k f z) Q s ev
  does_turns {W} f turn k s z ev l i = record { does = turns_by (ReplyBy Q (λ r _. Allowed W r)) I (λ s z _. μ s z) W.ts f (λ s z ev i. (turn s z ev i).does) k s z ev l i }

-- room in the list, by the test of the call and without it
pub within_length : (ev : List ℕ) → capacity_of ev ≤ length ev
unfolding capacity_of
within_length ev = whether_by (λ x. x ≤ length ev) _ _ _ (λ _. omega arith) (λ q. omega (arith, ltb-false (length ev) event_limit q))

pub fits : (k : ℕ) (s : State) (ev : List ℕ) → room_for k s ev ≡ true → (s.count + k ≤ length ev) × (s.count + k ≤ capacity_of ev)
unfolding room_for
fits k s ev q = (omega (arith, within_length ev, leb-true (s.count + k) (capacity_of ev) q), leb-true (s.count + k) (capacity_of ev) q)

pub full_fine : {W : World} {c : ℕ} {ev0 : List ℕ} (k : ℕ) (s : State) (ev : List ℕ) → On W c ev0 s ev → Fit W k s → room_for k s ev ≡ false → Allowed W (refusal EVENTS_FULL s.pos.0)
unfolding room_for
full_fine k s ev h r q = inr (inr (refl, omega (arith, h.room, h.inside, leb-false (s.count + k) (capacity_of ev) q)))

pub room_same : (ev : List ℕ) (i x : ℕ) → capacity_of (set ev i x) ≡ capacity_of ev
unfolding capacity_of
room_same ev i x = simp length-set

-- an entry at or above the base is written
module _ {W : World} {c : ℕ} {ev e : List ℕ} {s : State} (h : On W c ev s e) where
  pub on_set : (i x : ℕ) → c ≤ i → On W c ev s (set e i x)
  on_set i x l = record { inside = h.inside; low = h.low; top = h.top; room = room_same e i x ∙ h.room; kept = λ j q. get_or-set_other e i j x 0 (λ z. omega arith) ∙ h.kept j q }

  pub on_move : (s1 : State) → s1.pos.0 ≤ size W → c ≤ s1.count → s1.count ≤ W.cap → On W c ev s1 e
  on_move s1 i l t = record { inside = i; low = l; top = t; room = h.room; kept = h.kept }

pub open_yes : (s : State) (m : ℕ) (ev : List ℕ) → m < s.count → is_live (get_or ev m 0) ≡ true → is_open s m ev ≡ true
unfolding is_open
open_yes s m ev l q = whether_by (λ x. x ≡ true) _ _ _ (λ _. q) (λ z. absurd (omega (arith, ltb-false m s.count z)))

pub closed_yes : (s : State) (m : ℕ) (ev : List ℕ) → m < s.count → is_named (get_or ev m 0) ≡ true → is_closed s m ev ≡ true
unfolding is_closed
closed_yes s m ev l q = whether_by (λ x. x ≡ true) _ _ _ (λ _. q) (λ z. absurd (omega (arith, ltb-false m s.count z)))

-- a test cannot say both
pub clash : {b : Bool} → b ≡ true → b ≡ false → ⊥
clash p q = false≢true (sym q ∙ p)
