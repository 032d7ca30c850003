-- Every call keeps what a run keeps. `Fit` says what a state and a lent list are that a run can stand at; each call goes by its tests in the order of its rule, and its change of the list is seen as events pushed, a start changed, or the last one popped. Assumes nothing.
use Rattle.std.proofs.Common.{Ok, Err}
use mathlib.Core.Path.{◌≡◌, refl, sym, ap, subst, ◌∙◌}
use mathlib.Core.Bool.{true, false}
use mathlib.Core.List.{List, [], ◌∷◌, ◌++◌, map}
use Prim.Native.Nat.{ℕ, suc, ◌+◌, ◌-◌, ◌≤◌, ◌<◌}
use native.Mathlib.Omega.{arith}
use native.Mathlib.Numerals.{add-one}
use lib.ListN.{length, get_or, set, take, drop, length-set}
use lib.Seq.{take-take, take-set-le}
use lib.Dec.{ltb, eqb}
use borrow.Author.Tests.{ltb-true, eqb-true}
use Rattle.base.specs.Base.{whether}
use Rattle.base.proofs.Cases.{whether_by, bound_by}
use Rattle.input.specs.SyntaxKind.{FLOAT_NUMBER, FIELD_EXPR}
use Rattle.input.specs.Input.{Tokens, token_limit, kind_at, stands, present, width_of, is_raw, is_kind, is_node, is_code, on_checked, Checked}
use Rattle.input.specs.declared.Refusal.{Refusal}
use Rattle.event.specs.Event.{live, spent, named, Event, start, finish, token, split, error, flag_of, node_of, offset_of, view, decodes, start_entry, preceding_entry, field_entry, finish_entry, token_entry, split_entry, error_entry, named_entry, spent_entry, extended_entry, parented_entry, capacity_of, fresh, event_limit}
use Rattle.event.specs.declared.State.{State}
use Rattle.parser.specs.Calls.{marker, completed, room_for, is_open, is_closed, is_last, start_of, complete_of, abandon_of, precede_of, extend_of, eat_of, bump_any_of, error_of, split_dot_of, split_two_of, split_of}
use Rattle.parser.specs.Public.{calling, start_call, complete_call, abandon_call, precede_call, extend_call, eat_call, bump_any_call, error_call, split_call}
use Rattle.demand.specs.Runs.{Call, starts, completes, abandons, precedes, extends, takes, takes_any, errs, splits, Tok, tok, float, Heard, accepted, declined, opened_as, closed_as, moved_as, taken_as, parted_as, heard, ends_in_dot, took_of, closed_of, call_of, Place, step_to, run_on, run_of}
use Rattle.demand.specs.Demand.{seen}
use Rattle.demand.proofs.Events.{History, Anchored, Lands}
use Rattle.input.proofs.Laws.{both_true, stands_says, width_bounds, raw_bounds}
use Rattle.demand.proofs.Tokens.{present_stand, raw_present, node_small, code_small, kind_small, looked_raw}
use Rattle.event.proofs.Laws.{view_start_entry, view_preceding_entry, view_field_entry, view_finish_entry, view_token_entry, view_split_entry, view_error_entry, view_named_entry, view_parented_entry, view_extended_entry, view_spent_entry, decodes_start_entry, decodes_preceding_entry, decodes_field_entry, decodes_finish_entry, decodes_token_entry, decodes_split_entry, decodes_error_entry, decodes_named_entry, decodes_parented_entry, decodes_extended_entry, decodes_spent_entry}
use Rattle.demand.proofs.Seen.{map_set, seen_set, seen_push, seen_two, seen_three, open_seen, closed_seen, count_seen, capacity_length, capacity_same, has_room, looked_fine, Decoded, decoded_set, decoded_push, decoded_two, decoded_three, decoded_pop}
use Rattle.demand.proofs.Keeping.{Good, after, fresh_good, grow, still, pop, mid_same, mid_set, linked_append, linked_set, lands_append, lands_kept, far, near, last_at}

pub record Fit (ts : Tokens) (s : State) (ev : List ℕ) (took : List Tok) (closed : List ℕ) : Type 0 where
  pub fits : s.count ≤ capacity_of ev
  pub placed : s.pos.0 ≤ token_limit
  pub decoded : Decoded s.count ev
  pub good : Good ts (record { events = seen s ev; pos = s.pos.0; took = took; closed = closed })

-- what a call's answer says: an accepted call keeps it, with what it took and closed added, and any other leaves the list as it was
abbrev pub Goes : Tokens → State → List ℕ → List Tok → List ℕ → Call → Heard × List ℕ → Type 0
Goes ts s ev took closed c o =
    elim o.0 [ accepted s' ↦ Fit ts s' o.1 (took ++ took_of ts s.pos.0 c) (closed ++ closed_of ts s.pos.0 c) | declined ↦ o.1 ≡ ev ]

module _ (ts : Tokens) (s : State) (ev : List ℕ) (took : List Tok) (closed : List ℕ) (fit : Fit ts s ev took closed) where
  abbrev at : History
  at = record { events = seen s ev; pos = s.pos.0; took = took; closed = closed }

  abbrev es : List Event
  es = seen s ev

  -- the history after a call that leaves the events fs and the position p
  abbrev Next : Call → List Event → ℕ → Type 0
  Next c fs p = Good ts (after at (record { events = fs; pos = p; took = took_of ts s.pos.0 c; closed = closed_of ts s.pos.0 c }))

  abbrev Fits : Call → ℕ → ℕ → List ℕ → Type 0
  Fits c p n e = Fit ts (record { pos = record { 0 = p }; count = n }) e (took ++ took_of ts s.pos.0 c) (closed ++ closed_of ts s.pos.0 c)

  room : s.count ≤ length ev
  room = omega (arith, capacity_length ev, fit.fits)

  fitted : (c : Call) (fs : List Event) (p : ℕ) → p ≤ token_limit → Next c fs p → (n : ℕ) (e : List ℕ) → take n (map view e) ≡ fs → length e ≡ length ev → n ≤ capacity_of ev → Decoded n e → Fits c p n e
  unfolding seen
  fitted c fs p h g n e q l k d = record { fits = rw (capacity_same ev e l) k; placed = h; decoded = d; good = rw q g }

  -- a start pushed now is where the marker m finds it
  new_lands : (m : ℕ) (fs : List Event) (e : Event) → m < s.count → Anchored e → Lands (s.count - m) (drop (suc m) es ++ (e ∷ fs))
  new_lands m fs e h a = rw (count_seen s ev room) at (far es fs e m (omega (arith, count_seen s ev room)) a)

  -- the last start popped
  popped : (m : ℕ) → m + 1 ≡ s.count → take m (map view (set ev m 0)) ≡ take m es
  unfolding seen
  popped m h = ap (take m) (map_set view ev m 0) ∙ take-set-le m (map view ev) m (view 0) (omega arith) ∙ sym (take-take m s.count (map view ev) (omega arith))

  -- an event pushed
  pushes : (c : Call) (e : Event) (x p : ℕ) → view x ≡ e → decodes x ≡ true → s.count + 1 ≤ capacity_of ev → p ≤ token_limit → Next c (es ++ (e ∷ [])) p → Fits c p (s.count + 1) (set ev s.count x)
  unfolding seen
  pushes c e x p v d h q g =
      let l : s.count < length ev = omega (arith, capacity_length ev) in
      fitted c (es ++ (e ∷ [])) p q g (s.count + 1) (set ev s.count x) (seen_push s.count ev x l ∙ rw v) (length-set ev s.count x) h (decoded_push s.count ev x l fit.decoded d)

  -- a start changed, then nothing or one event pushed
  changes : (c : Call) (m x : ℕ) (e : Event) → m < s.count → view x ≡ e → decodes x ≡ true → Next c (set es m e) s.pos.0 → Fits c s.pos.0 s.count (set ev m x)
  unfolding seen
  changes c m x e h v d g = fitted c (set es m e) s.pos.0 fit.placed g s.count (set ev m x) (seen_set s.count ev m x h ∙ rw v) (length-set ev m x) fit.fits (decoded_set s.count ev m x room fit.decoded d)

  changes_pushes : (c : Call) (m x y : ℕ) (e f : Event) → m < s.count → view x ≡ e → decodes x ≡ true → view y ≡ f → decodes y ≡ true → s.count + 1 ≤ capacity_of ev → Next c (set es m e ++ (f ∷ [])) s.pos.0 → Fits c s.pos.0 (s.count + 1) (set (set ev m x) s.count y)
  unfolding seen
  changes_pushes c m x y e f h v d w k q g =
      let l : s.count < length (set ev m x) = omega (arith, capacity_length ev, length-set ev m x) in
      fitted c (set es m e ++ (f ∷ [])) s.pos.0 fit.placed g (s.count + 1) (set (set ev m x) s.count y)
      (seen_push s.count (set ev m x) y l ∙ rw (seen_set s.count ev m x h, v, w)) (length-set (set ev m x) s.count y ∙ length-set ev m x) q
      (decoded_push s.count (set ev m x) y l (decoded_set s.count ev m x room fit.decoded d) k)

  abbrev Via : {A : Type 0} → (A → Heard) → Call → A × List ℕ → Type 0
  Via says c r = Goes ts s ev took closed c (heard says r)

  goes_start : Via opened_as starts (start_of s ev)
  unfolding start_of
  goes_start = whether_by (Via opened_as starts) (room_for 1 s ev) _ _
      (λ q. pushes starts (start live 0 false) start_entry s.pos.0 view_start_entry decodes_start_entry (has_room 1 s ev q) fit.placed
      (grow ts at fit.good es _ s.pos.0 [] [] [] (mid_same es) (linked_append es _ fit.good.linked (tt, tt)) refl refl (λ h. refl) refl (λ a. omega arith) (tt, tt)))
      (λ _. refl)

  goes_error : (c : ℕ) → Via moved_as (errs c) (error_of s c ev)
  unfolding error_of
  goes_error c = whether_by (Via moved_as (errs c)) (is_code c) _ _
      (λ b. whether_by (Via moved_as (errs c)) (room_for 1 s ev) _ _
      (λ q. pushes (errs c) (error c) (error_entry c) s.pos.0 (view_error_entry c (omega (arith, code_small c b))) (decodes_error_entry c (omega (arith, code_small c b))) (has_room 1 s ev q) fit.placed
      (grow ts at fit.good es _ s.pos.0 [] [] [] (mid_same es) (linked_append es _ fit.good.linked (tt, tt)) refl refl (λ h. refl) refl (λ a. omega arith) (tt, tt)))
      (λ _. refl)) (λ _. refl)

  goes_eat : (k : ℕ) → length ts.kinds ≤ token_limit → Via taken_as (takes k) (eat_of ts s k ev)
  unfolding eat_of width_of
  goes_eat k len = whether_by (Via taken_as (takes k)) (is_kind k) _ _
      (λ b. whether_by (Via taken_as (takes k)) (present ts s.pos.0 k) _ _
      (λ p. whether_by (Via taken_as (takes k)) (room_for 1 s ev) _ _
      (λ q. pushes (takes k) (token k (width_of k)) (token_entry k (width_of k)) (s.pos.0 + width_of k) (view_token_entry k (width_of k) (omega (arith, kind_small k b)) (omega (arith, (width_bounds k).1))) (decodes_token_entry k (width_of k) (omega (arith, kind_small k b)) (omega (arith, (width_bounds k).1))) (has_room 1 s ev q) (omega (arith, (present_stand ts s.pos.0 k p).0))
      (grow ts at fit.good es _ (s.pos.0 + width_of k) (tok k (width_of k) ∷ []) [] [] (mid_same es) (linked_append es _ fit.good.linked (tt, tt)) refl (p, refl, refl) (λ h. refl) refl (λ a. omega arith) (tt, tt)))
      (λ _. refl)) (λ _. refl)) (λ _. refl)

  goes_any : length ts.kinds ≤ token_limit → (s.pos.0 < length ts.kinds → is_raw (kind_at ts s.pos.0) ≡ true) → Via taken_as takes_any (bump_any_of ts s ev)
  unfolding bump_any_of
  goes_any len raw = whether_by (Via taken_as takes_any) (ltb s.pos.0 (length ts.kinds)) _ _
      (λ p. whether_by (Via taken_as takes_any) (room_for 1 s ev) _ _
      (λ q. let k : ℕ = kind_at ts s.pos.0 in
      let i = ltb-true s.pos.0 (length ts.kinds) p in
      let r = raw_present ts s.pos.0 i (raw i) in
      pushes takes_any (token k 1) (token_entry k 1) (s.pos.0 + 1) (view_token_entry k 1 (omega (arith, (raw_bounds k (raw i)).1)) (omega arith)) (decodes_token_entry k 1 (omega (arith, (raw_bounds k (raw i)).1)) (omega arith)) (has_room 1 s ev q) (omega arith)
      (grow ts at fit.good es _ (s.pos.0 + 1) (tok k 1 ∷ []) [] [] (mid_same es) (linked_append es _ fit.good.linked (tt, tt)) refl (r.0, r.1, refl) (λ h. refl) refl (λ a. omega arith) (tt, tt)))
      (λ _. refl)) (λ _. refl)

  goes_complete : (m k : ℕ) → Via closed_as (completes m k) (complete_of s (marker m) k ev)
  unfolding complete_of
  goes_complete m k = whether_by (Via closed_as (completes m k)) (is_open s m ev) _ _
      (λ l. whether_by (Via closed_as (completes m k)) (is_node k) _ _
      (λ b. whether_by (Via closed_as (completes m k)) (room_for 1 s ev) _ _
      (λ q. let i = open_seen s m ev l in
      let f : ℕ = offset_of (get_or ev m 0) in
      let g : ℕ = flag_of (get_or ev m 0) in
      changes_pushes (completes m k) m (named_entry (get_or ev m 0) k) finish_entry (start (named k) f (eqb g 1)) finish i.0 (view_named_entry (get_or ev m 0) k (omega (arith, node_small k b))) (decodes_named_entry (get_or ev m 0) k (omega (arith, node_small k b))) view_finish_entry decodes_finish_entry (has_room 1 s ev q)
      (grow ts at fit.good (set es m (start (named k) f (eqb g 1))) (finish ∷ []) s.pos.0 [] (k ∷ []) [] (mid_set es m live (named k) f f (eqb g 1) (eqb g 1) (k ∷ []) i.1 refl)
      (linked_set es (finish ∷ []) m (start (named k) f (eqb g 1)) (λ _. tt) (lands_kept es _ m live f (eqb g 1) i.1 fit.good.linked) fit.good.linked (tt, tt)) refl refl (λ h. refl) refl (λ a. omega arith) (tt, tt)))
      (λ _. refl)) (λ _. refl)) (λ _. refl)

  goes_precede : (m : ℕ) → Via opened_as (precedes m) (precede_of s (completed m) ev)
  unfolding precede_of
  goes_precede m = whether_by (Via opened_as (precedes m)) (is_closed s m ev) _ _
      (λ l. bound_by (Via opened_as (precedes m)) (get_or ev m 0) _ (whether_by (Via opened_as (precedes m)) (eqb (offset_of (get_or ev m 0)) 0) _ _
      (λ z. whether_by (Via opened_as (precedes m)) (room_for 1 s ev) _ _
      (λ q. let i = closed_seen s m ev l in
      let n : ℕ = node_of (get_or ev m 0) in
      let f : ℕ = s.count - m in
      let g : ℕ = flag_of (get_or ev m 0) in
      changes_pushes (precedes m) m (parented_entry (get_or ev m 0) n f) preceding_entry (start (named n) f (eqb g 1)) (start live 0 true) i.0 (view_parented_entry (get_or ev m 0) n (omega arith) f) (decodes_parented_entry (get_or ev m 0) n (omega arith) f) view_preceding_entry decodes_preceding_entry (has_room 1 s ev q)
      (grow ts at fit.good (set es m (start (named n) f (eqb g 1))) (start live 0 true ∷ []) s.pos.0 [] [] [] (mid_set es m (named n) (named n) (offset_of (get_or ev m 0)) f (eqb g 1) (eqb g 1) [] i.1 refl)
      (linked_set es (start live 0 true ∷ []) m (start (named n) f (eqb g 1)) (λ _. tt) (new_lands m [] (start live 0 true) i.0 refl) fit.good.linked (tt, tt)) refl refl (λ h. refl) refl (λ a. omega arith) (tt, tt)))
      (λ _. refl)) (λ _. refl))) (λ _. refl)

  extended : (c m : ℕ) → is_open s m ev ≡ true → is_closed s c ev ≡ true → m < c → Fits (extends c m) s.pos.0 s.count (set ev m (extended_entry (get_or ev m 0) (c - m)))
  extended c m v l h =
      let i = closed_seen s c ev l in
      let j = open_seen s m ev v in
      let g : ℕ = flag_of (get_or ev m 0) in
      changes (extends c m) m (extended_entry (get_or ev m 0) (c - m)) (start spent (c - m) (eqb g 1)) j.0 (view_extended_entry (get_or ev m 0) (c - m)) (decodes_extended_entry (get_or ev m 0) (c - m))
      (still ts at fit.good (set es m (start spent (c - m) (eqb g 1))) (mid_set es m live spent (offset_of (get_or ev m 0)) (c - m) (eqb g 1) (eqb g 1) [] j.1 refl)
      (linked_set es [] m (start spent (c - m) (eqb g 1)) (λ z. subst Anchored j.1 z) (lands_append (c - m) _ [] (near es m c h (subst Anchored (sym i.1) tt))) fit.good.linked tt))

  goes_extend : (c m : ℕ) → Via closed_as (extends c m) (extend_of s (completed c) (marker m) ev)
  unfolding extend_of
  goes_extend c m = whether_by (Via closed_as (extends c m)) (is_open s m ev) _ _
      (λ v. whether_by (Via closed_as (extends c m)) (is_closed s c ev) _ _
      (λ l. whether_by (Via closed_as (extends c m)) (ltb m c) _ _ (λ q. whether_by (Via closed_as (extends c m)) (ltb c event_limit) _ _ (λ _. extended c m v l (ltb-true m c q)) (λ _. refl)) (λ _. refl))
      (λ _. refl)) (λ _. refl)

  last_flag : (m : ℕ) → is_last s m ev ≡ true → (m + 1 ≡ s.count) × (eqb (flag_of (get_or ev m 0)) 1 ≡ false)
  unfolding is_last
  last_flag m q = let t = both_true _ _ q in (eqb-true (m + 1) s.count t.0, rw (eqb-true (flag_of (get_or ev m 0)) 0 t.1))

  goes_abandon : (m : ℕ) → Via moved_as (abandons m) (abandon_of s (marker m) ev)
  unfolding abandon_of
  goes_abandon m = whether_by (Via moved_as (abandons m)) (is_open s m ev) _ _
      (λ l. let i = open_seen s m ev l in
      let f : ℕ = offset_of (get_or ev m 0) in
      let g : ℕ = flag_of (get_or ev m 0) in
      whether_by (Via moved_as (abandons m)) (is_last s m ev) _ _
      (λ q. let t = last_flag m q in
      fitted (abandons m) (take m es) s.pos.0 fit.placed (pop ts at fit.good (take m es) f (last_at es m (sym (add-one m) ∙ t.0 ∙ sym (count_seen s ev room)) ∙ rw (i.1, t.1))) m (set ev m 0)
      (popped m t.0) (length-set ev m 0) (omega (arith, fit.fits)) (decoded_pop s.count ev m 0 (omega arith) fit.decoded))
      (λ _. changes (abandons m) m (spent_entry (get_or ev m 0)) (start spent f (eqb g 1)) i.0 (view_spent_entry (get_or ev m 0)) (decodes_spent_entry (get_or ev m 0))
      (still ts at fit.good (set es m (start spent f (eqb g 1))) (mid_set es m live spent f f (eqb g 1) (eqb g 1) [] i.1 refl)
      (linked_set es [] m (start spent f (eqb g 1)) (λ z. subst Anchored i.1 z) (lands_kept es [] m live f (eqb g 1) i.1 fit.good.linked) fit.good.linked tt))))
      (λ _. refl)

  -- a split: the float stands at the position, and the joint byte says whether it ends in a dot
  closed_dot : (m : ℕ) → ends_in_dot ts s.pos.0 ≡ true → closed_of ts s.pos.0 (splits m) ≡ FIELD_EXPR ∷ []
  unfolding whether
  closed_dot m d = rw d

  closed_two : (m : ℕ) → ends_in_dot ts s.pos.0 ≡ false → closed_of ts s.pos.0 (splits m) ≡ FIELD_EXPR ∷ FIELD_EXPR ∷ []
  unfolding whether
  closed_two m d = rw d

  goes_split_dot : (m : ℕ) → length ts.kinds ≤ token_limit → is_open s m ev ≡ true → stands ts s.pos.0 FLOAT_NUMBER ≡ true → ends_in_dot ts s.pos.0 ≡ true → Via parted_as (splits m) (split_dot_of s (marker m) ev)
  unfolding split_dot_of seen
  goes_split_dot m len l p d = whether_by (Via parted_as (splits m)) (room_for 2 s ev) _ _
      (λ q. let i = open_seen s m ev l in
      let f : ℕ = offset_of (get_or ev m 0) in
      let g : ℕ = flag_of (get_or ev m 0) in
      let x : ℕ = named_entry (get_or ev m 0) FIELD_EXPR in
      let e : Event = start (named FIELD_EXPR) f (eqb g 1) in
      let r = has_room 2 s ev q in
      let k : s.count + 1 < length (set ev m x) = omega (arith, capacity_length ev, length-set ev m x) in
      fitted (splits m) (set es m e ++ (split true ∷ finish ∷ [])) (s.pos.0 + 1) (omega (arith, (stands_says ts s.pos.0 FLOAT_NUMBER p).inside))
      (rw (closed_dot m d, d) (grow ts at fit.good (set es m e) (split true ∷ finish ∷ []) (s.pos.0 + 1) (float true ∷ []) (FIELD_EXPR ∷ []) [] (mid_set es m live (named FIELD_EXPR) f f (eqb g 1) (eqb g 1) (FIELD_EXPR ∷ []) i.1 refl)
      (linked_set es (split true ∷ finish ∷ []) m e (λ _. tt) (lands_kept es _ m live f (eqb g 1) i.1 fit.good.linked) fit.good.linked (tt, (tt, tt))) refl (p, sym d, refl) (λ h. omega arith) refl (λ a. omega arith) (refl, (tt, tt))))
      (s.count + 2) (set (set (set ev m x) s.count (split_entry 1)) (s.count + 1) finish_entry)
      (seen_two s.count (set ev m x) (split_entry 1) finish_entry k ∙ rw (seen_set s.count ev m x i.0, view_split_entry true, view_finish_entry, view_named_entry (get_or ev m 0) FIELD_EXPR (omega arith)))
      (length-set (set (set ev m x) s.count (split_entry 1)) (s.count + 1) finish_entry ∙ length-set (set ev m x) s.count (split_entry 1) ∙ length-set ev m x) r
      (decoded_two s.count (set ev m x) (split_entry 1) finish_entry k (decoded_set s.count ev m x room fit.decoded (decodes_named_entry (get_or ev m 0) FIELD_EXPR (omega arith))) (decodes_split_entry true) decodes_finish_entry))
      (λ _. refl)

  goes_split_two : (m : ℕ) → length ts.kinds ≤ token_limit → is_open s m ev ≡ true → stands ts s.pos.0 FLOAT_NUMBER ≡ true → ends_in_dot ts s.pos.0 ≡ false → Via parted_as (splits m) (split_two_of s (marker m) ev)
  unfolding split_two_of seen
  goes_split_two m len l p d = whether_by (Via parted_as (splits m)) (room_for 3 s ev) _ _
      (λ q. let i = open_seen s m ev l in
      let f : ℕ = offset_of (get_or ev m 0) in
      let g : ℕ = flag_of (get_or ev m 0) in
      let o : ℕ = s.count - m in
      let x : ℕ = parented_entry (get_or ev m 0) FIELD_EXPR o in
      let y : ℕ = field_entry FIELD_EXPR in
      let e : Event = start (named FIELD_EXPR) o (eqb g 1) in
      let fs : List Event = start (named FIELD_EXPR) 0 false ∷ split false ∷ finish ∷ [] in
      let r = has_room 3 s ev q in
      let k : s.count + 2 < length (set ev m x) = omega (arith, capacity_length ev, length-set ev m x) in
      fitted (splits m) (set es m e ++ fs) (s.pos.0 + 1) (omega (arith, (stands_says ts s.pos.0 FLOAT_NUMBER p).inside))
      (rw (closed_two m d, d) (grow ts at fit.good (set es m e) fs (s.pos.0 + 1) (float false ∷ []) (FIELD_EXPR ∷ []) (FIELD_EXPR ∷ []) (mid_set es m live (named FIELD_EXPR) f o (eqb g 1) (eqb g 1) (FIELD_EXPR ∷ []) i.1 refl)
      (linked_set es fs m e (λ _. tt) (new_lands m (split false ∷ finish ∷ []) (start (named FIELD_EXPR) 0 false) i.0 tt) fit.good.linked (tt, (tt, (tt, tt)))) refl (p, sym d, refl) (λ h. omega arith) refl (λ a. omega arith) (tt, (refl, (tt, tt)))))
      (s.count + 3) (set (set (set (set ev m x) s.count y) (s.count + 1) (split_entry 0)) (s.count + 2) finish_entry)
      (seen_three s.count (set ev m x) y (split_entry 0) finish_entry k ∙ rw (seen_set s.count ev m x i.0, view_split_entry false, view_finish_entry, view_field_entry FIELD_EXPR (omega arith), view_parented_entry (get_or ev m 0) FIELD_EXPR (omega arith) o))
      (length-set (set (set (set ev m x) s.count y) (s.count + 1) (split_entry 0)) (s.count + 2) finish_entry ∙ length-set (set (set ev m x) s.count y) (s.count + 1) (split_entry 0) ∙ length-set (set ev m x) s.count y ∙ length-set ev m x) r
      (decoded_three s.count (set ev m x) y (split_entry 0) finish_entry k (decoded_set s.count ev m x room fit.decoded (decodes_parented_entry (get_or ev m 0) FIELD_EXPR (omega arith) o)) (decodes_field_entry FIELD_EXPR (omega arith)) (decodes_split_entry false) decodes_finish_entry))
      (λ _. refl)

  goes_split : (m : ℕ) → length ts.kinds ≤ token_limit → Via parted_as (splits m) (split_of ts s (marker m) ev)
  unfolding split_of
  goes_split m len = whether_by (Via parted_as (splits m)) (is_open s m ev) _ _
      (λ l. whether_by (Via parted_as (splits m)) (stands ts s.pos.0 FLOAT_NUMBER) _ _
      (λ p. whether_by (Via parted_as (splits m)) (ends_in_dot ts s.pos.0) _ _ (λ d. goes_split_dot m len l p d) (λ d. goes_split_two m len l p d))
      (λ _. refl)) (λ _. refl)

  -- the checks before the work: a refused call changes nothing
  calling_by : {A : Type 0} (says : A → Heard) (c : Call) (check : Checked) (refused : Refusal → A) (work : Unit {0} → A × List ℕ) → ((r : Refusal) → says (refused r) ≡ declined) → (check ≡ Ok tt → Via says c (work tt)) → Via says c (calling check refused ev work)
  unfolding calling on_checked
  calling_by says c (Ok _) refused work d w = w refl
  calling_by says c (Err r) refused work d w = rw (d r)

  goes : (c : Call) → Goes ts s ev took closed c (call_of ts s ev c)
  unfolding call_of start_call complete_call abandon_call precede_call extend_call eat_call bump_any_call error_call split_call
  goes starts = calling_by opened_as starts _ Err _ (λ _. refl) (λ _. goes_start)
  goes (completes m k) = calling_by closed_as (completes m k) _ Err _ (λ _. refl) (λ _. goes_complete m k)
  goes (abandons m) = calling_by moved_as (abandons m) _ Err _ (λ _. refl) (λ _. goes_abandon m)
  goes (precedes m) = calling_by opened_as (precedes m) _ Err _ (λ _. refl) (λ _. goes_precede m)
  goes (extends c m) = calling_by closed_as (extends c m) _ Err _ (λ _. refl) (λ _. goes_extend c m)
  goes (takes k) = calling_by taken_as (takes k) _ Err _ (λ _. refl) (λ q. goes_eat k (looked_fine ts s ev q).0)
  goes takes_any = calling_by taken_as takes_any _ Err _ (λ _. refl) (λ q. goes_any (looked_fine ts s ev q).0 (λ h. looked_raw ts s.pos.0 h (looked_fine ts s ev q).1))
  goes (errs c) = calling_by moved_as (errs c) _ Err _ (λ _. refl) (λ _. goes_error c)
  goes (splits m) = calling_by parted_as (splits m) _ Err _ (λ _. refl) (λ q. goes_split m (looked_fine ts s ev q).0)

abbrev pub Fitting : Tokens → Place → Type 0
Fitting ts z = Fit ts z.state z.events z.took z.closed

still_there : (ts : Tokens) (z : Place) (c : Call) (ev : List ℕ) → ev ≡ z.events → step_to ts z c (declined, ev) ≡ z
unfolding step_to
still_there ts z c ev q = rw q

step_fits : (ts : Tokens) (z : Place) (c : Call) (a : Heard) (ev : List ℕ) → Fitting ts z → Goes ts z.state z.events z.took z.closed c (a, ev) → Fitting ts (step_to ts z c (a, ev))
unfolding step_to
step_fits ts z c (accepted s) ev f g = g
step_fits ts z c declined ev f g = rw g f

-- a call that is not accepted leaves all as it was
pub declined_stays : (ts : Tokens) (z : Place) (c : Call) → Fitting ts z → (call_of ts z.state z.events c).0 ≡ declined → step_to ts z c (call_of ts z.state z.events c) ≡ z
declined_stays ts z c f = go (call_of ts z.state z.events c) (goes ts z.state z.events z.took z.closed f c)
  where
    go : (o : Heard × List ℕ) → Goes ts z.state z.events z.took z.closed c o → o.0 ≡ declined → step_to ts z c o ≡ z
    go (accepted s, ev) g q = absurd (let w : ◌≡◌ {A = ℕ} 0 1 = cc in omega arith)
    go (declined, ev) g q = still_there ts z c ev g

run_fits : (ts : Tokens) (z : Place) (cs : List Call) → Fitting ts z → Fitting ts (run_on ts z cs)
unfolding run_on
run_fits ts z [] f = f
run_fits ts z (c ∷ cs) f =
    let o : Heard × List ℕ = call_of ts z.state z.events c in
    run_fits ts (step_to ts z c o) cs (step_fits ts z c o.0 o.1 f (goes ts z.state z.events z.took z.closed f c))

-- every state of a run is fit
pub run_of_fits : (ts : Tokens) (ev : List ℕ) (cs : List Call) → Fitting ts (run_of ts ev cs)
unfolding run_of seen
run_of_fits ts ev cs = run_fits ts (record { state = fresh; events = ev; took = []; closed = [] }) cs (record { fits = omega arith; placed = omega arith; decoded = λ i h. absurd (omega arith); good = fresh_good ts })
