-- What each call of the machine asks and gives, as laws of `Does`. A law's premises are the call's fitness and its room; what follows the call may then use where the machine stands. Each is the call's definition with its tests decided. Assumes nothing.
use mathlib.Core.Path.{◌≡◌, refl, ap, ◌∙◌}
use mathlib.Core.List.{List}
use mathlib.Core.Bool.{true, false}
use Prim.Native.Nat.{ℕ, ◌+◌, ◌≤◌, ◌<◌}
use native.Mathlib.Omega.{arith}
use lib.ListN.{length, get_or, set, length-set}
use lib.Seq.{get_or-set_same, get_or-set_other}
use borrow.Author.Tests.{ltb-true, ltb-false, leb-true, eqb-true, eqb-false, eq-eqb}
use Rattle.base.specs.Base.{whether, bound}
use Rattle.base.proofs.Cases.{whether_by}
use Rattle.input.specs.SyntaxKind.{FLOAT_NUMBER, FIELD_EXPR, PATH_TYPE}
use Rattle.input.specs.Input.{Tokens, stands, present, width_of, is_kind, is_node, is_code}
use Rattle.event.specs.Event.{offset_of, is_live, is_named, event_limit, capacity_of, START, NAMED, tag_of, rank_of, finish_entry, split_entry, start_entry, preceding_entry, named_entry, field_entry}
use Rattle.event.specs.declared.State.{State}
use Rattle.parser.specs.Calls.{marker, completed, pushed, went, room_for, start_of, complete_of, is_last, abandon_of, precede_of, extend_of, eat_of, bump_any_of, error_of, split_dot_of, split_two_of, split_of, Opened, Closed, Moved, Taken, Parted}
use Rattle.parser.specs.Prog.{Prog, start, complete, abandon, precede, extend, eat, bump_any, error, split, bad, run, on_opened, on_closed, on_moved, on_taken, on_parted}
use Rattle.parser.proofs.Moves.{ReplyBy, present_within}
use Rattle.parser.specs.declared.Marker.{Marker}
use Rattle.parser.specs.declared.CompletedMarker.{CompletedMarker}
use Rattle.facts.proofs.Does.{World, size, Allowed, Post, Does, On, Here, Live, Shut, Fit, lower, fits, full_fine, on_set, on_move, open_yes, closed_yes, clash}

-- entries that calls write
live_start : is_live start_entry ≡ true
unfolding is_live whether
live_start = refl

live_preceding : is_live preceding_entry ≡ true
unfolding is_live whether
live_preceding = refl

module _ (x node : ℕ) (small : node < 256) where
  named_is : is_named (named_entry x node) ≡ true
  unfolding is_named
  named_is = whether_by (λ b. b ≡ true) _ _ _ (λ _. eq-eqb (rank_of (named_entry x node)) NAMED (omega arith)) (λ q. absurd (eqb-false (tag_of (named_entry x node)) START q (omega arith)))

  named_bare : offset_of x ≡ 0 → offset_of (named_entry x node) ≡ 0
  named_bare q = omega arith

field_is : is_named (field_entry FIELD_EXPR) ≡ true
unfolding is_named whether
field_is = refl

node_small : (node : ℕ) → is_node node ≡ true → node < 256
unfolding is_node
node_small node = whether_by (λ b. b ≡ true → node < 256) _ _ _ (λ _ q. omega (arith, leb-true node PATH_TYPE q)) (λ _ q. absurd (clash q refl))

below_limit : (ev : List ℕ) → capacity_of ev ≤ event_limit
unfolding capacity_of
below_limit ev = whether_by (λ x. x ≤ event_limit) _ _ _ (λ q. omega (arith, ltb-true (length ev) event_limit q)) (λ _. omega arith)

pub stands_inside : (ts : Tokens) (at kind : ℕ) → stands ts at kind ≡ true → at < length ts.kinds
unfolding stands
stands_inside ts at kind = whether_by (λ b. b ≡ true → at < length ts.kinds) _ _ _ (λ q _. ltb-true at (length ts.kinds) q) (λ _ q. absurd (clash q refl))

-- entries after stores
there : (ev : List ℕ) (i j x y : ℕ) → i < j → i < length ev → get_or (set (set ev i x) j y) i 0 ≡ x
there ev i j x y l r = get_or-set_other (set ev i x) j i y 0 (λ z. omega arith) ∙ get_or-set_same ev i x 0 r

last : (ev : List ℕ) (i j x y : ℕ) → j < length ev → get_or (set (set ev i x) j y) j 0 ≡ y
last ev i j x y r = get_or-set_same (set ev i x) j y 0 (simp length-set r)

-- markers by the entry that they stand for
live_by : {c : ℕ} {o : Marker} {s : State} {e : List ℕ} (x : ℕ) → c ≤ o.0 → o.0 < s.count → get_or e o.0 0 ≡ x → is_live x ≡ true → offset_of x ≡ 0 → Live c o s e
live_by x l b q y z = record { new = l; below = b; is = ap is_live q ∙ y; bare = ap (λ (x : ℕ). offset_of x) q ∙ z }

shut_by : {c : ℕ} {m : CompletedMarker} {s : State} {e : List ℕ} (x : ℕ) → c ≤ m.0 → m.0 < s.count → get_or e m.0 0 ≡ x → is_named x ≡ true → offset_of x ≡ 0 → Shut c m s e
shut_by x l b q y z = record { new = l; below = b; is = ap is_named q ∙ y; bare = ap (λ (x : ℕ). offset_of x) q ∙ z }

-- k events pushed
more : {W : World} {s : State} {ev : List ℕ} {c : ℕ} → Here W s ev → c ≤ s.count → (s1 : State) (k : ℕ) → s1.pos.0 ≤ size W → s1.count ≡ s.count + k → room_for k s ev ≡ true → On W c ev s1 ev
more {s = s} {ev} h l s1 k i e q = on_move (lower l h) s1 i (omega arith) (omega (arith, fits k s ev q, h.room))

-- what is to be shown of what follows a call
module _ {A : Type 0} (W : World) (Q : Post A) where
  abbrev Opens : (Marker → Prog A) → Opened × List ℕ → Type 0
  Opens f x = ReplyBy Q (λ r _. Allowed W r) (on_opened x (λ s1 o e. run W.ts (f o) s1 e) (λ r e. (bad r, e)))

  abbrev Closes : (CompletedMarker → Prog A) → Closed × List ℕ → Type 0
  Closes f x = ReplyBy Q (λ r _. Allowed W r) (on_closed x (λ s1 m e. run W.ts (f m) s1 e) (λ r e. (bad r, e)))

  abbrev Passes : Prog A → Moved × List ℕ → Type 0
  Passes p x = ReplyBy Q (λ r _. Allowed W r) (on_moved x (λ s1 e. run W.ts p s1 e) (λ r e. (bad r, e)))

  abbrev Takes : State → Prog A → Prog A → Taken × List ℕ → Type 0
  Takes s p q x = ReplyBy Q (λ r _. Allowed W r) (on_taken x (λ s1 e. run W.ts p s1 e) (λ e. run W.ts q s e) (λ r e. (bad r, e)))

  abbrev Parts : State → (CompletedMarker → Prog A) → Prog A → Parted × List ℕ → Type 0
  Parts s f q x = ReplyBy Q (λ r _. Allowed W r) (on_parted x (λ s1 m e. run W.ts (f m) s1 e) (λ e. run W.ts q s e) (λ r e. (bad r, e)))

module _ {W : World} {A : Type 0} {Q : Post A} {s : State} {ev : List ℕ} (h : Here W s ev) where
  pub does_start : {f : Marker → Prog A} → Fit W 1 s → ((o : Marker) (e : List ℕ) → On W s.count ev (pushed s 1) e → Live s.count o (pushed s 1) e → Does W (f o) Q (pushed s 1) e) → Does W (start f) Q s ev
  unfolding run on_opened start_of
  does_start {f} r k = record {
    does =
        whether_by (Opens W Q f) _ _ _
        (λ q. (k (marker s.count) (set ev s.count start_entry) (on_set (more h (omega arith) (pushed s 1) 1 h.inside refl q) _ _ (omega arith))
        (live_by start_entry (omega arith) (omega arith) (get_or-set_same ev s.count start_entry 0 (omega (arith, fits 1 s ev q))) live_start refl)).does)
        (λ q. full_fine 1 s ev h r q);
  }

  pub does_complete : {c : ℕ} {o : Marker} {node : ℕ} {f : CompletedMarker → Prog A} → Live c o s ev → is_node node ≡ true → Fit W 1 s → ((m : CompletedMarker) (e : List ℕ) → On W c ev (pushed s 1) e → Shut c m (pushed s 1) e → Does W (f m) Q (pushed s 1) e) → Does W (complete o node f) Q s ev
  unfolding run on_closed complete_of
  does_complete {c} {o} {node} {f} w n r k =
      let x : ℕ = named_entry (get_or ev o.0 0) node in
      record {
        does =
            whether_by (Closes W Q f) _ _ _
            (λ _. whether_by (Closes W Q f) _ _ _
            (λ _. whether_by (Closes W Q f) _ _ _
            (λ q. (k (completed o.0) (set (set ev o.0 x) s.count finish_entry) (on_set (on_set (more h (omega (arith, w)) (pushed s 1) 1 h.inside refl q) _ _ w.new) _ _ (omega (arith, w)))
            (shut_by x w.new (omega (arith, w)) (there ev o.0 s.count x finish_entry w.below (omega (arith, w, fits 1 s ev q))) (named_is _ node (node_small node n)) (named_bare _ node (node_small node n) w.bare))).does)
            (λ q. full_fine 1 s ev h r q))
            (λ q. absurd (clash n q)))
            (λ q. absurd (clash (open_yes s o.0 ev w.below w.is) q));
      }

  -- (no marker is the last event where it is abandoned)
  pub does_abandon : {c : ℕ} {o : Marker} {p : Prog A} → Live c o s ev → o.0 + 1 < s.count → ((e : List ℕ) → On W c ev s e → Does W p Q s e) → Does W (abandon o p) Q s ev
  unfolding run on_moved abandon_of is_last
  does_abandon {c} {o} {p} w b k =
      record {
        does =
            whether_by (Passes W Q p) _ _ _
            (λ _. whether_by (Passes W Q p) _ _ _
            (λ q. absurd (clash q (whether_by (λ x. x ≡ false) _ _ _ (λ z. absurd (omega (arith, eqb-true (o.0 + 1) s.count z))) (λ _. refl))))
            (λ _. (k _ (on_set (lower (omega (arith, w)) h) _ _ w.new)).does))
            (λ q. absurd (clash (open_yes s o.0 ev w.below w.is) q));
      }

  pub does_precede : {c : ℕ} {m : CompletedMarker} {f : Marker → Prog A} → Shut c m s ev → Fit W 1 s → ((o : Marker) (e : List ℕ) → On W c ev (pushed s 1) e → Live s.count o (pushed s 1) e → Does W (f o) Q (pushed s 1) e) → Does W (precede m f) Q s ev
  unfolding run on_opened precede_of bound
  does_precede {c} {m} {f} w r k =
      record {
        does =
            whether_by (Opens W Q f) _ _ _
            (λ _. whether_by (Opens W Q f) _ _ _
            (λ _. whether_by (Opens W Q f) _ _ _
            (λ q. (k (marker s.count) (set (set ev m.0 _) s.count preceding_entry) (on_set (on_set (more h (omega (arith, w)) (pushed s 1) 1 h.inside refl q) _ _ w.new) _ _ (omega (arith, w)))
            (live_by preceding_entry (omega arith) (omega arith) (last ev m.0 s.count _ preceding_entry (omega (arith, fits 1 s ev q))) live_preceding refl)).does)
            (λ q. full_fine 1 s ev h r q))
            (λ q. absurd (eqb-false _ 0 q w.bare)))
            (λ q. absurd (clash (closed_yes s m.0 ev w.below w.is) q));
      }

  pub does_extend : {c c1 : ℕ} {o : Marker} {m : CompletedMarker} {f : CompletedMarker → Prog A} → Live c o s ev → Shut c1 m s ev → o.0 < c1 → ((e : List ℕ) → On W c ev s e → Shut c m s e → Does W (f m) Q s e) → Does W (extend m o f) Q s ev
  unfolding run on_closed extend_of
  does_extend {c} {c1} {o} {m} {f} w v l k =
      record {
        does =
            whether_by (Closes W Q f) _ _ _
            (λ _. whether_by (Closes W Q f) _ _ _
            (λ _. whether_by (Closes W Q f) _ _ _
            (λ _. whether_by (Closes W Q f) _ _ _
            (λ _. (k _ (on_set (lower (omega (arith, w)) h) _ _ w.new) (shut_by (get_or ev m.0 0) (omega (arith, w, v)) v.below (get_or-set_other ev o.0 m.0 _ 0 (λ z. omega (arith, v))) v.is v.bare)).does)
            (λ q. absurd (omega (arith, ltb-false m.0 event_limit q, v, h, below_limit ev))))
            (λ q. absurd (omega (arith, ltb-false o.0 m.0 q, v))))
            (λ q. absurd (clash (closed_yes s m.0 ev v.below v.is) q)))
            (λ q. absurd (clash (open_yes s o.0 ev w.below w.is) q));
      }

  pub does_eat : {kind : ℕ} {p q : Prog A} → is_kind kind ≡ true → Fit W 1 s → ((e : List ℕ) → On W s.count ev (went s (width_of kind) 1) e → 1 ≤ width_of kind → Does W p Q (went s (width_of kind) 1) e) → (present W.ts s.pos.0 kind ≡ false → Does W q Q s ev) → Does W (eat kind p q) Q s ev
  unfolding run on_taken eat_of
  does_eat {kind} {p} {q = j0} i r k j =
      record {
        does =
            whether_by (Takes W Q s p j0) _ _ _
            (λ _. whether_by (Takes W Q s p j0) _ _ _
            (λ z. whether_by (Takes W Q s p j0) _ _ _
            (λ q. let n = present_within W.ts s.pos.0 kind z in (k _ (on_set (more h (omega arith) (went s (width_of kind) 1) 1 n.1 refl q) _ _ (omega arith)) (omega (arith, n.0))).does)
            (λ q. full_fine 1 s ev h r q))
            (λ z. (j z).does))
            (λ q. absurd (clash i q));
      }

  pub does_bump_any : {p q : Prog A} → Fit W 1 s → ((e : List ℕ) → On W s.count ev (went s 1 1) e → Does W p Q (went s 1 1) e) → (size W ≤ s.pos.0 → Does W q Q s ev) → Does W (bump_any p q) Q s ev
  unfolding run on_taken bump_any_of
  does_bump_any {p} {q = j0} r k j =
      record {
        does =
            whether_by (Takes W Q s p j0) _ _ _
            (λ z. whether_by (Takes W Q s p j0) _ _ _
            (λ q. (k _ (on_set (more h (omega arith) (went s 1 1) 1 (omega (arith, ltb-true s.pos.0 (size W) z)) refl q) _ _ (omega arith))).does)
            (λ q. full_fine 1 s ev h r q))
            (λ z. (j (ltb-false s.pos.0 (size W) z)).does);
      }

  pub does_error : {code : ℕ} {p : Prog A} → is_code code ≡ true → Fit W 1 s → ((e : List ℕ) → On W s.count ev (pushed s 1) e → Does W p Q (pushed s 1) e) → Does W (error code p) Q s ev
  unfolding run on_moved error_of
  does_error {code} {p} i r k =
      record {
        does =
            whether_by (Passes W Q p) _ _ _
            (λ _. whether_by (Passes W Q p) _ _ _
            (λ q. (k _ (on_set (more h (omega arith) (pushed s 1) 1 h.inside refl q) _ _ (omega arith))).does)
            (λ q. full_fine 1 s ev h r q))
            (λ q. absurd (clash i q));
      }

  -- (a split pushes two events or three)
  pub does_split : {c : ℕ} {o : Marker} {f : CompletedMarker → Prog A} {q : Prog A} → Live c o s ev → stands W.ts s.pos.0 FLOAT_NUMBER ≡ true → Fit W 3 s → ((s1 : State) (m : CompletedMarker) (e : List ℕ) → On W c ev s1 e → s1.pos.0 ≡ s.pos.0 + 1 → s1.count ≤ s.count + 3 → Shut c m s1 e → Does W (f m) Q s1 e) → Does W (split o f q) Q s ev
  unfolding run on_parted split_of split_dot_of split_two_of
  does_split {c} {o} {f} {q = j0} w z r k =
      let x : ℕ = named_entry (get_or ev o.0 0) FIELD_EXPR in
      let n : s.pos.0 < size W = stands_inside W.ts s.pos.0 FLOAT_NUMBER z in
      record {
        does =
            whether_by (Parts W Q s f j0) _ _ _
            (λ _. whether_by (Parts W Q s f j0) _ _ _
            (λ _. whether_by (Parts W Q s f j0) _ _ _
            (λ _. whether_by (Parts W Q s f j0) _ _ _
            (λ q. (k (went s 1 2) (completed o.0) (set (set (set ev o.0 x) s.count (split_entry 1)) (s.count + 1) finish_entry)
            (on_set (on_set (on_set (more h (omega (arith, w)) (went s 1 2) 2 (omega arith) refl q) _ _ w.new) _ _ (omega (arith, w))) _ _ (omega (arith, w))) refl (omega arith)
            (shut_by x w.new (omega (arith, w)) (get_or-set_other (set (set ev o.0 x) s.count (split_entry 1)) (s.count + 1) o.0 finish_entry 0 (λ z. omega (arith, w)) ∙ there ev o.0 s.count x (split_entry 1) w.below (omega (arith, w, fits 2 s ev q))) (named_is _ FIELD_EXPR (omega arith)) (named_bare _ FIELD_EXPR (omega arith) w.bare))).does)
            (λ q. full_fine 2 s ev h (omega arith) q))
            (λ _. whether_by (Parts W Q s f j0) _ _ _
            (λ q. (k (went s 1 3) (completed s.count) (set (set (set (set ev o.0 _) s.count (field_entry FIELD_EXPR)) (s.count + 1) (split_entry 0)) (s.count + 2) finish_entry)
            (on_set (on_set (on_set (on_set (more h (omega (arith, w)) (went s 1 3) 3 (omega arith) refl q) _ _ w.new) _ _ (omega (arith, w))) _ _ (omega (arith, w))) _ _ (omega (arith, w))) refl (omega arith)
            (shut_by (field_entry FIELD_EXPR) (omega (arith, w)) (omega arith)
            (get_or-set_other (set (set (set ev o.0 _) s.count (field_entry FIELD_EXPR)) (s.count + 1) (split_entry 0)) (s.count + 2) s.count finish_entry 0 (λ z. omega arith) ∙ there (set ev o.0 _) s.count (s.count + 1) (field_entry FIELD_EXPR) (split_entry 0) (omega arith) (simp length-set (omega (arith, fits 3 s ev q)))) field_is refl)).does)
            (λ q. full_fine 3 s ev h r q)))
            (λ q. absurd (clash z q)))
            (λ q. absurd (clash (open_yes s o.0 ev w.below w.is) q));
      }
