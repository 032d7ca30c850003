-- What each call of the machine does to the events that are seen up to the count: an event changed where it stands, and events pushed. A refused call says nothing. Assumes nothing.
use Rattle.std.proofs.Common.{Ok, Err, Some, None}
use mathlib.Core.Path.{◌≡◌, refl, sym, subst, ap, ◌∙◌}
use mathlib.Core.List.{List, [], ◌∷◌, ◌++◌, map, append_assoc}
use mathlib.Core.Bool.{Bool, true, false}
use mathlib.Core.Logic.{◌⊎◌, inl, inr}
use Prim.Native.Nat.{ℕ, suc, ◌+◌, ◌-◌, ◌≤◌, ◌<◌}
use native.Mathlib.Omega.{arith}
use lib.ListN.{length, get_or, set, take, length-set, length-append, length-map}
use lib.Seq.{length-take-le, set_at, get_or_at}
use lib.Dec.{eqb, ltb}
use Rattle.base.proofs.Cases.{whether_by, bound_by}
use Rattle.input.specs.SyntaxKind.{FLOAT_NUMBER, FIELD_EXPR}
use Rattle.input.specs.Input.{Tokens, kind_at, joint_at, stands, present, width_of}
use Rattle.event.specs.Event.{Status, Event, start, finish, token, split, live, spent, named, view, flag_of, offset_of, node_of, is_live, is_named, start_entry, preceding_entry, finish_entry, token_entry, split_entry, field_entry, named_entry, parented_entry, extended_entry}
use Rattle.event.specs.declared.State.{State}
use Rattle.event.proofs.Laws.{view_start_entry, view_preceding_entry, view_field_entry, view_finish_entry, view_token_entry, view_split_entry, view_named_entry, view_parented_entry, view_extended_entry, live_view, named_view, node_below}
use Rattle.parser.specs.Calls.{room_for, is_open, is_closed, start_of, complete_of, precede_of, extend_of, eat_of, bump_any_of, split_dot_of, split_two_of, split_of, Opened, Closed, Taken, Parted}
use Rattle.parser.specs.declared.Marker.{Marker}
use Rattle.parser.specs.declared.CompletedMarker.{CompletedMarker}
use Rattle.input.proofs.Laws.{both_true, width_bounds}
use Rattle.demand.proofs.Tokens.{node_small, kind_small}
use Rattle.demand.proofs.Seen.{seen_set, seen_push, seen_at, capacity_length, has_room}

-- up to the count n the events are E
pub record Shows (n : ℕ) (ev : List ℕ) (E : List Event) : Type 0 where
  pub events : take n (map view ev) ≡ E
  pub fits : n ≤ length ev

pub shows_is : {n : ℕ} {ev : List ℕ} {E E' : List Event} → E ≡ E' → Shows n ev E → Shows n ev E'
shows_is p h = record { events = h.events ∙ p; fits = h.fits }

module _ (n : ℕ) (ev : List ℕ) {E : List Event} (h : Shows n ev E) where
  pub long : length E ≡ n
  long = ap length (sym h.events) ∙ length-take-le n (map view ev) (omega (arith, h.fits, length-map ev view))

  -- an event pushed
  pub pushes : (v : ℕ) (e : Event) → view v ≡ e → n + 1 ≤ length ev → Shows (n + 1) (set ev n v) (E ++ (e ∷ []))
  pushes v e q l = record { events = seen_push n ev v (omega arith) ∙ ap (λ (z : List Event). z ++ (view v ∷ [])) h.events ∙ ap (λ (z : Event). E ++ (z ∷ [])) q; fits = simp length-set l }

-- an event changed, or looked at, where it stands
module _ (n : ℕ) (ev : List ℕ) (X : List Event) (y : Event) (Z : List Event) (i : ℕ) (h : Shows n ev (X ++ (y ∷ Z))) (p : i ≡ length X) where
  pub inside : i < n
  inside = omega (arith, simp length-append at (long n ev h))

  pub gap : n - i ≡ suc (length Z)
  gap = omega (arith, simp length-append at (long n ev h))

  pub stood : view (get_or ev i 0) ≡ y
  stood = sym (seen_at n ev i inside) ∙ ap (λ (l : List Event). get_or l i finish) h.events ∙ get_or_at X y Z finish i (sym p)

  pub changes : (v : ℕ) (e : Event) → view v ≡ e → Shows n (set ev i v) (X ++ (e ∷ Z))
  changes v e q = record { events = seen_set n ev i v inside ∙ ap (λ (l : List Event). set l i (view v)) h.events ∙ set_at X y Z (view v) i (sym p) ∙ ap (λ (z : Event). X ++ (z ∷ Z)) q; fits = simp length-set h.fits }

room : (k : ℕ) (s : State) (ev : List ℕ) → room_for k s ev ≡ true → s.count + k ≤ length ev
room k s ev q = omega (arith, has_room k s ev q, capacity_length ev)

open_live : (s : State) (m : ℕ) (ev : List ℕ) → is_open s m ev ≡ true → is_live (get_or ev m 0) ≡ true
unfolding is_open
open_live s m ev q = (both_true _ _ q).1

closed_named : (s : State) (m : ℕ) (ev : List ℕ) → is_closed s m ev ≡ true → is_named (get_or ev m 0) ≡ true
unfolding is_closed
closed_named s m ev q = (both_true _ _ q).1

-- the parts of a start that is seen
parts_of_lem : (x : ℕ) {st st' : Status} {off : ℕ} {fl : Bool} → view x ≡ start st off fl → view x ≡ start st' (offset_of x) (eqb (flag_of x) 1) → (st' ≡ st) × (offset_of x ≡ off) × (eqb (flag_of x) 1 ≡ fl)
parts_of_lem x p q = ((cc), (cc), (cc))

abbrev pub OpenedAt : ℕ → List Event → List Event → Opened × List ℕ → Type 0
OpenedAt q E F r = elim r.0 [ Ok (s, o) ↦ Shows s.count r.1 F × (o.0 ≡ length E) × (s.pos.0 ≡ q) | Err n ↦ Unit {0} ]

abbrev pub ClosedAt : ℕ → ℕ → List Event → Closed × List ℕ → Type 0
ClosedAt q i F r = elim r.0 [ Ok (s, m) ↦ Shows s.count r.1 F × (m.0 ≡ i) × (s.pos.0 ≡ q) | Err n ↦ Unit {0} ]

abbrev pub TakenAt : ℕ → List ℕ → Bool → List Event → Taken × List ℕ → Type 0
TakenAt q ev b F r = elim r.0 [ Ok (Some s) ↦ Shows s.count r.1 F × (s.pos.0 ≡ q) × (b ≡ true) | Ok None ↦ (r.1 ≡ ev) × (b ≡ false) | Err n ↦ Unit {0} ]

module _ (ts : Tokens) (s : State) (ev : List ℕ) {E : List Event} (h : Shows s.count ev E) where
  pub start_at : OpenedAt s.pos.0 E (E ++ (start live 0 false ∷ [])) (start_of s ev)
  unfolding start_of
  start_at = whether_by (OpenedAt s.pos.0 E (E ++ (start live 0 false ∷ []))) _ _ _ (λ q. (pushes s.count ev h start_entry _ view_start_entry (room 1 s ev q), sym (long s.count ev h), refl)) (λ _. tt)

  pub eat_at : (k : ℕ) → TakenAt (s.pos.0 + width_of k) ev (present ts s.pos.0 k) (E ++ (token k (width_of k) ∷ [])) (eat_of ts s k ev)
  unfolding eat_of
  eat_at k =
      whether_by P _ _ _
      (λ b. whether_by P _ _ _
      (λ p. whether_by P _ _ _ (λ q. (pushes s.count ev h (token_entry k (width_of k)) _ (view_token_entry k (width_of k) (omega (arith, kind_small k b)) (omega (arith, (width_bounds k).1))) (room 1 s ev q), refl, p)) (λ _. tt))
      (λ p. (refl, p)))
      (λ _. tt)
    where
      P : Taken × List ℕ → Type 0
      P = TakenAt (s.pos.0 + width_of k) ev (present ts s.pos.0 k) (E ++ (token k (width_of k) ∷ []))

-- a start is named, a finish pushed
module _ (s : State) (o : Marker) (k : ℕ) (ev : List ℕ) (D B : List Event) (fl : Bool) (h : Shows s.count ev (D ++ (start live 0 fl ∷ B))) (w : o.0 ≡ length D) where
  named_is : is_live (get_or ev o.0 0) ≡ true → k < 256 → view (named_entry (get_or ev o.0 0) k) ≡ start (named k) 0 fl
  named_is b l =
      let z = parts_of_lem (get_or ev o.0 0) (stood s.count ev D _ B o.0 h w) (live_view _ b) in
      view_named_entry (get_or ev o.0 0) k l ∙ ap (λ (i : ℕ). start (named k) i (eqb (flag_of (get_or ev o.0 0)) 1)) z.1 ∙ ap (λ (f : Bool). start (named k) 0 f) z.2

  pub complete_at : ClosedAt s.pos.0 (length D) (D ++ (start (named k) 0 fl ∷ (B ++ (finish ∷ [])))) (complete_of s o k ev)
  unfolding complete_of
  complete_at =
      whether_by P _ _ _
      (λ b. whether_by P _ _ _
      (λ n. whether_by P _ _ _
      (λ q. (shows_is (append_assoc D _ (finish ∷ [])) (pushes s.count _ (changes s.count ev D _ B o.0 h w _ _ (named_is (open_live s o.0 ev b) (omega (arith, node_small k n)))) finish_entry _ view_finish_entry (simp length-set (room 1 s ev q))), w, refl))
      (λ _. tt))
      (λ _. tt))
      (λ _. tt)
    where
      P : Closed × List ℕ → Type 0
      P = ClosedAt s.pos.0 (length D) (D ++ (start (named k) 0 fl ∷ (B ++ (finish ∷ []))))

-- a token of any kind below 256
pub bump_at : (ts : Tokens) (s : State) (ev : List ℕ) {E : List Event} → Shows s.count ev E → kind_at ts s.pos.0 < 256 → TakenAt (s.pos.0 + 1) ev (ltb s.pos.0 (length ts.kinds)) (E ++ (token (kind_at ts s.pos.0) 1 ∷ [])) (bump_any_of ts s ev)
unfolding bump_any_of
bump_at ts s ev {E} h l =
    whether_by P _ _ _
    (λ b. whether_by P _ _ _ (λ q. (pushes s.count ev h (token_entry (kind_at ts s.pos.0) 1) _ (view_token_entry (kind_at ts s.pos.0) 1 l (omega arith)) (room 1 s ev q), refl, b)) (λ _. tt))
    (λ b. (refl, b))
  where
    P : Taken × List ℕ → Type 0
    P = TakenAt (s.pos.0 + 1) ev (ltb s.pos.0 (length ts.kinds)) (E ++ (token (kind_at ts s.pos.0) 1 ∷ []))

-- a closed start gets a forward parent, which is pushed
module _ (s : State) (m : CompletedMarker) (k : ℕ) (ev : List ℕ) (D Z : List Event) (fl : Bool) (h : Shows s.count ev (D ++ (start (named k) 0 fl ∷ Z))) (w : m.0 ≡ length D) where
  abbrev Led : List Event
  Led = D ++ (start (named k) (suc (length Z)) fl ∷ Z)

  parented_is : is_named (get_or ev m.0 0) ≡ true → view (parented_entry (get_or ev m.0 0) (node_of (get_or ev m.0 0)) (s.count - m.0)) ≡ start (named k) (suc (length Z)) fl
  parented_is b =
      let x : ℕ = get_or ev m.0 0 in
      let z = parts_of_lem x (stood s.count ev D _ Z m.0 h w) (named_view x b) in
      let n : node_of x ≡ k = cc z.0 in
      view_parented_entry x (node_of x) (node_below x) (s.count - m.0)
      ∙ ap (λ (i : ℕ). start (named (node_of x)) i (eqb (flag_of x) 1)) (gap s.count ev D _ Z m.0 h w)
      ∙ ap (λ (i : ℕ). start (named i) (suc (length Z)) (eqb (flag_of x) 1)) n ∙ ap (λ (f : Bool). start (named k) (suc (length Z)) f) z.2

  pub precede_at : OpenedAt s.pos.0 Led (Led ++ (start live 0 true ∷ [])) (precede_of s m ev)
  unfolding precede_of
  precede_at =
      whether_by P _ _ _
      (λ b. bound_by P _ _ (whether_by P _ _ _
      (λ _. whether_by P _ _ _
      (λ q. let c = changes s.count ev D _ Z m.0 h w _ _ (parented_is (closed_named s m.0 ev b)) in
      (pushes s.count _ c preceding_entry _ view_preceding_entry (simp length-set (room 1 s ev q)), sym (long s.count _ c), refl))
      (λ _. tt))
      (λ _. tt)))
      (λ _. tt)
    where
      P : Opened × List ℕ → Type 0
      P = OpenedAt s.pos.0 Led (Led ++ (start live 0 true ∷ []))

-- an open start is spent, with a closed one as its forward parent
module _ (s : State) (c : CompletedMarker) (o : Marker) (k : ℕ) (ev : List ℕ) (D Z : List Event) (h : Shows s.count ev (D ++ (start live 0 false ∷ Z))) (w : o.0 ≡ length D) (v : c.0 ≡ length D + k) where
  extended_is : is_live (get_or ev o.0 0) ≡ true → view (extended_entry (get_or ev o.0 0) (c.0 - o.0)) ≡ start spent k false
  extended_is b =
      let x : ℕ = get_or ev o.0 0 in
      let z = parts_of_lem x (stood s.count ev D _ Z o.0 h w) (live_view x b) in
      let n : c.0 - o.0 ≡ k = omega arith in
      view_extended_entry x (c.0 - o.0) ∙ ap (λ (i : ℕ). start spent i (eqb (flag_of x) 1)) n ∙ ap (λ (f : Bool). start spent k f) z.2

  pub extend_at : ClosedAt s.pos.0 c.0 (D ++ (start spent k false ∷ Z)) (extend_of s c o ev)
  unfolding extend_of
  extend_at = whether_by P _ _ _ (λ b. whether_by P _ _ _ (λ _. whether_by P _ _ _ (λ _. whether_by P _ _ _ (λ _. (changes s.count ev D _ Z o.0 h w _ _ (extended_is (open_live s o.0 ev b)), refl, refl)) (λ _. tt)) (λ _. tt)) (λ _. tt)) (λ _. tt)
    where
      P : Closed × List ℕ → Type 0
      P = ClosedAt s.pos.0 c.0 (D ++ (start spent k false ∷ Z))

-- a float split, by how it ends
module _ (ts : Tokens) (s : State) (o : Marker) (ev : List ℕ) (D B : List Event) (fl : Bool) (h : Shows s.count ev (D ++ (start live 0 fl ∷ B))) (w : o.0 ≡ length D) where
  abbrev pub AtDot : List Event
  AtDot = D ++ (start (named FIELD_EXPR) 0 fl ∷ (B ++ (split true ∷ finish ∷ [])))

  abbrev pub AtTwo : List Event
  AtTwo = D ++ (start (named FIELD_EXPR) (suc (length B)) fl ∷ (B ++ (start (named FIELD_EXPR) 0 false ∷ split false ∷ finish ∷ [])))

  abbrev pub PartedAt : Parted × List ℕ → Type 0
  PartedAt r =
      elim r.0 [
        | Ok (Some (s1, m)) ↦ (s1.pos.0 ≡ s.pos.0 + 1) × (stands ts s.pos.0 FLOAT_NUMBER ≡ true) × (((eqb (joint_at ts s.pos.0) 0 ≡ true) × Shows s1.count r.1 AtDot × (m.0 ≡ length D)) ⊎ ((eqb (joint_at ts s.pos.0) 0 ≡ false) × Shows s1.count r.1 AtTwo × (m.0 ≡ length D + suc (length B))))
        | Ok None ↦ (r.1 ≡ ev) × (stands ts s.pos.0 FLOAT_NUMBER ≡ false)
        | Err n ↦ Unit {0}
      ]

  two_pushed : (E : List Event) (n : ℕ) (e : List ℕ) → Shows n e E → (v v' : ℕ) (x x' : Event) → view v ≡ x → view v' ≡ x' → n + 2 ≤ length e → Shows (n + 2) (set (set e n v) (n + 1) v') (E ++ (x ∷ x' ∷ []))
  two_pushed E n e h v v' x x' p p' l =
      let j : n + 1 + 1 ≡ n + 2 = omega arith in
      subst (λ (i : ℕ). Shows i (set (set e n v) (n + 1) v') (E ++ (x ∷ x' ∷ []))) j
      (shows_is (append_assoc E (x ∷ []) (x' ∷ [])) (pushes (n + 1) (set e n v) (pushes n e h v x p (omega arith)) v' x' p' (simp length-set (omega arith))))

  field_parented : is_live (get_or ev o.0 0) ≡ true → view (parented_entry (get_or ev o.0 0) FIELD_EXPR (s.count - o.0)) ≡ start (named FIELD_EXPR) (suc (length B)) fl
  field_parented b =
      let x : ℕ = get_or ev o.0 0 in
      let z = parts_of_lem x (stood s.count ev D _ B o.0 h w) (live_view x b) in
      view_parented_entry x FIELD_EXPR (omega arith) (s.count - o.0) ∙ ap (λ (i : ℕ). start (named FIELD_EXPR) i (eqb (flag_of x) 1)) (gap s.count ev D _ B o.0 h w) ∙ ap (λ (f : Bool). start (named FIELD_EXPR) (suc (length B)) f) z.2

  pub split_at : PartedAt (split_of ts s o ev)
  unfolding split_of split_dot_of split_two_of
  split_at =
      whether_by PartedAt _ _ _
      (λ b. whether_by PartedAt _ _ _
      (λ t. whether_by PartedAt _ _ _
      (λ j. whether_by PartedAt _ _ _
      (λ q. (refl, t, inl (j, shows_is (append_assoc D _ _) (two_pushed _ s.count _ (changes s.count ev D _ B o.0 h w _ _ (named_is s o FIELD_EXPR ev D B fl h w (open_live s o.0 ev b) (omega arith))) _ _ _ _ (view_split_entry true) view_finish_entry (simp length-set (room 2 s ev q))), w)))
      (λ _. tt))
      (λ j. whether_by PartedAt _ _ _
      (λ q. (refl, t, inr (j, three b (room 3 s ev q), sym (long s.count ev h) ∙ simp length-append)))
      (λ _. tt)))
      (λ t. (refl, t)))
      (λ _. tt)
    where
      e1 : List ℕ
      e1 = set ev o.0 (parented_entry (get_or ev o.0 0) FIELD_EXPR (s.count - o.0))

      three : is_open s o.0 ev ≡ true → s.count + 3 ≤ length ev → Shows (s.count + 3) (set (set (set e1 s.count (field_entry FIELD_EXPR)) (s.count + 1) (split_entry 0)) (s.count + 2) finish_entry) AtTwo
      three b l =
          let j : s.count + 2 + 1 ≡ s.count + 3 = omega arith in
          let c : Shows s.count e1 (D ++ (start (named FIELD_EXPR) (suc (length B)) fl ∷ B)) = changes s.count ev D _ B o.0 h w _ _ (field_parented (open_live s o.0 ev b)) in
          subst (λ (i : ℕ). Shows i (set (set (set e1 s.count (field_entry FIELD_EXPR)) (s.count + 1) (split_entry 0)) (s.count + 2) finish_entry) AtTwo) j
          (shows_is (append_assoc (D ++ (start (named FIELD_EXPR) (suc (length B)) fl ∷ B)) _ _ ∙ append_assoc D _ _)
          (pushes (s.count + 2) _ (two_pushed _ s.count e1 c (field_entry FIELD_EXPR) (split_entry 0) _ _ (view_field_entry FIELD_EXPR (omega arith)) (view_split_entry false) (simp length-set (omega arith))) finish_entry _ view_finish_entry (simp length-set (omega arith))))
