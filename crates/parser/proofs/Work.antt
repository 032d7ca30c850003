-- What the calls' own proofs use, each as a law for `search`: a test of the code that a rule repeats, an entry that a callee computed from an entry read, a store of it, a refusal, a check of what is lent, and the room that a sum or a cast has.
-- The first are steps of congruence, the last linear arithmetic under the list's limit. Assumes nothing.
use Rattle.std.proofs.Common.{Ok, Err, Some}
use mathlib.Core.Path.{◌≡◌, refl, sym, ap, ◌∙◌}
use mathlib.Core.Bool.{Bool, true, false, not}
use mathlib.Core.List.{List}
use Prim.Native.Nat.{ℕ, ◌+◌, ◌-◌, ◌≤◌, ◌<◌}
use native.Mathlib.Omega.{arith}
use lib.ListN.{length, set}
use lib.Dec.{ltb, leb}
use mir.Syntax.{w32, w64}
use mir.Val.{Fits}
use mir.Facts.{Fits-below}
use borrow.Author.Tests.{not-true, not-false, ltb-true, leb-true}
use Rattle.base.specs.Base.{whether}
use Rattle.base.proofs.Cases.{whether_by}
use Rattle.base.proofs.Laws.{tests, whether_true, whether_false}
use Rattle.input.specs.Input.{Tokens, token_limit, on_checked, stands, present, width_of, Checked}
use Rattle.input.specs.declared.Position.{Position}
use Rattle.input.specs.declared.Refusal.{Refusal}
use Rattle.event.specs.Event.{node_of, is_live, is_named, event_limit, capacity_of, token_entry, named_entry, spent_entry, extended_entry, parented_entry}
use Rattle.event.specs.declared.State.{State}
use Rattle.parser.specs.Calls.{went, is_open, is_closed, Opened, Closed, Moved, Taken, Parted}
use Rattle.parser.proofs.Moves.{stands_within, present_within}
use Rattle.parser.specs.declared.CompletedMarker.{CompletedMarker}

-- an early return tests a flag x the other way round
module _ {A : Type 0} (f g : Unit {0} → A) {out : A} {x : Bool} (b : Bool) where
  pub whether_held : x ≡ b → not x ≡ false → out ≡ f tt → out ≡ whether b f g
  whether_held p q h = whether_true f g b p (not-false x q) h

  pub whether_failed : x ≡ b → not x ≡ true → out ≡ g tt → out ≡ whether b f g
  whether_failed p q h = whether_false f g b p (not-true x q) h

-- of an entry x that is v
module _ {x : ℕ} (v : ℕ) where
  pub live_of : {b : Bool} → b ≡ is_live x → x ≡ v → b ≡ is_live v
  live_of p q = p ∙ ap is_live q

  pub named_of : {b : Bool} → b ≡ is_named x → x ≡ v → b ≡ is_named v
  named_of p q = p ∙ ap is_named q

  pub naming : (node : ℕ) {y : ℕ} → y ≡ named_entry x node → x ≡ v → y ≡ named_entry v node
  naming node p q = p ∙ ap (λ z. named_entry z node) q

  pub taking : (width : ℕ) {y : ℕ} → y ≡ token_entry x width → x ≡ v → y ≡ token_entry v width
  taking width p q = p ∙ ap (λ z. token_entry z width) q

  pub widening : (kind : ℕ) {y : ℕ} → y ≡ token_entry kind x → x ≡ v → y ≡ token_entry kind v
  widening kind p q = p ∙ ap (λ z. token_entry kind z) q

  pub spending : {y : ℕ} → y ≡ spent_entry x → x ≡ v → y ≡ spent_entry v
  spending p q = p ∙ ap (λ z. spent_entry z) q

  pub extending : (offset : ℕ) {y : ℕ} → y ≡ extended_entry x offset → x ≡ v → y ≡ extended_entry v offset
  extending offset p q = p ∙ ap (λ z. extended_entry z offset) q

  pub parenting : (node offset : ℕ) {y : ℕ} → y ≡ parented_entry x node offset → x ≡ v → y ≡ parented_entry v node offset
  parenting node offset p q = p ∙ ap (λ z. parented_entry z node offset) q

pub leading : (v offset : ℕ) {x y node : ℕ} → y ≡ parented_entry x node offset → node ≡ node_of x → x ≡ v → y ≡ parented_entry v (node_of v) offset
leading v offset {x} p q r = p ∙ ap (λ z. parented_entry x z offset) q ∙ ap (λ z. parented_entry z (node_of z) offset) r

-- a check x of what is lent
module _ {A : Type 0} {x : Checked} (check : Checked) (f : Unit {0} → A) (g : Refusal → A) {out : A} where
  pub checked_fine : x ≡ check → x ≡ Ok tt → out ≡ f tt → out ≡ on_checked check f g
  unfolding on_checked
  checked_fine p q h = h ∙ ap (λ z. on_checked z f g) (sym q ∙ p)

  pub checked_refused : {r : Refusal} → x ≡ check → x ≡ Err r → out ≡ g r → out ≡ on_checked check f g
  unfolding on_checked
  checked_refused p q h = h ∙ ap (λ z. on_checked z f g) (sym q ∙ p)

-- a refusal r that is v; an answer, and the list that was left; a list that was stored into
module _ {r : Refusal} (v : Refusal) (e : List ℕ) where
  pub opened_refused : r ≡ v → ◌≡◌ {A = Opened × List ℕ} (Err r, e) (Err v, e)
  opened_refused p = ap (λ z. (Err z, e)) p

  pub closed_refused : r ≡ v → ◌≡◌ {A = Closed × List ℕ} (Err r, e) (Err v, e)
  closed_refused p = ap (λ z. (Err z, e)) p

  pub moved_refused : r ≡ v → ◌≡◌ {A = Moved × List ℕ} (Err r, e) (Err v, e)
  moved_refused p = ap (λ z. (Err z, e)) p

  pub taken_refused : r ≡ v → ◌≡◌ {A = Taken × List ℕ} (Err r, e) (Err v, e)
  taken_refused p = ap (λ z. (Err z, e)) p

  pub parted_refused : r ≡ v → ◌≡◌ {A = Parted × List ℕ} (Err r, e) (Err v, e)
  parted_refused p = ap (λ z. (Err z, e)) p

pub left : {A : Type 0} (a : A) {e : List ℕ} (l : List ℕ) → e ≡ l → ◌≡◌ {A = A × List ℕ} (a, e) (a, l)
left a l p = ap (λ z. (a, z)) p

pub stored : {e1 e : List ℕ} {x : ℕ} (l : List ℕ) (i v : ℕ) → e1 ≡ set e i x → e ≡ l → x ≡ v → e1 ≡ set l i v
stored {x = x} l i v p q r = p ∙ ap (λ z. set z i x) q ∙ ap (λ z. set l i z) r

-- and where the position that the code has for the next one is w more
pub took : (s : State) {w v : ℕ} {e l : List ℕ} → w ≡ v → e ≡ l → ◌≡◌ {A = Taken × List ℕ} (Ok (Some (went s w 1)), e) (Ok (Some (went s v 1)), l)
took s {e = e} p q = ap (λ z. (Ok (Some (went s z 1)), e)) p ∙ left _ _ q

pub parted_at : (s : State) (k : ℕ) (c : CompletedMarker) (next : Position) {e : List ℕ} (l : List ℕ) → next.0 ≡ s.pos.0 + 1 → e ≡ l → ◌≡◌ {A = Parted × List ℕ} (Ok (Some (record { pos = next; count = s.count + k }, c)), e) (Ok (Some (went s 1 k, c)), l)
parted_at s k c next {e = e} l p q = ap (λ z. (Ok (Some (record { pos = record { 0 = z }; count = s.count + k }, c)), e)) p ∙ left _ l q

pub ruleset work = (tests, whether_held, whether_failed, checked_fine, checked_refused, opened_refused, closed_refused, moved_refused, taken_refused, parted_refused, left, stored)

pub ruleset entries = (stored, live_of, named_of, naming, taking, spending, extending, parenting)

-- a fit marker is below the count
below : (b : Bool) (f : Unit {0} → Bool) → whether b f (λ _. false) ≡ true → b ≡ true
unfolding whether
below true f h = refl
below false f h = h

module _ {b : Bool} (s : State) (m : ℕ) (ev : List ℕ) where
  pub open_below : b ≡ is_open s m ev → not b ≡ false → m < s.count
  unfolding is_open
  open_below p q = ltb-true _ _ (below (ltb m s.count) _ (sym p ∙ not-false b q))

  pub closed_below : b ≡ is_closed s m ev → not b ≡ false → m < s.count
  unfolding is_closed
  closed_below p q = ltb-true _ _ (below (ltb m s.count) _ (sym p ∙ not-false b q))

  pub closed_at_most : b ≡ is_closed s m ev → not b ≡ false → m ≤ s.count
  closed_at_most p q = let z : m < s.count = closed_below p q in omega arith

-- where there is room for k events, the count and as many more fit, and so does an offset
capacity_limit : (ev : List ℕ) → capacity_of ev ≤ event_limit
unfolding capacity_of
capacity_limit ev = whether_by (λ (n : ℕ). n ≤ event_limit) _ _ _ (λ h. let z : length ev < event_limit = ltb-true _ _ h in omega arith) (λ _. omega arith)

module _ {b : Bool} (n k : ℕ) (ev : List ℕ) (p : b ≡ leb (n + k) (capacity_of ev)) (q : not b ≡ false) where
  room_limit : n + k ≤ event_limit
  room_limit = let z : n + k ≤ capacity_of ev = leb-true _ _ (sym p ∙ not-false b q) in let y : capacity_of ev ≤ event_limit = capacity_limit ev in omega arith

  pub room_sum : Fits w64 (n + k)
  unfolding event_limit token_limit
  room_sum = Fits-below tt room_limit

  room_part : (j : ℕ) → j ≤ k → Fits w64 (n + j)
  unfolding event_limit token_limit
  room_part j t = let z : n + j ≤ event_limit = let y : n + k ≤ event_limit = room_limit in omega arith in Fits-below {n = event_limit} tt z

  pub room_offset : (m : ℕ) → Fits w32 (n - m)
  unfolding event_limit token_limit
  room_offset m = let z : n - m ≤ event_limit = let y : n + k ≤ event_limit = room_limit in omega arith in Fits-below {n = event_limit} tt z

module _ {b : Bool} (n : ℕ) (ev : List ℕ) where
  pub one_of_two : b ≡ leb (n + 2) (capacity_of ev) → not b ≡ false → Fits w64 (n + 1)
  one_of_two p q = room_part n 2 ev p q 1 (omega arith)

  pub one_of_three : b ≡ leb (n + 3) (capacity_of ev) → not b ≡ false → Fits w64 (n + 1)
  one_of_three p q = room_part n 3 ev p q 1 (omega arith)

  pub two_of_three : b ≡ leb (n + 3) (capacity_of ev) → not b ≡ false → Fits w64 (n + 2)
  two_of_three p q = room_part n 3 ev p q 2 (omega arith)

-- what is present stands within the tokens
module _ {b : Bool} (ts : Tokens) (at kind : ℕ) where
  pub stands_inside : b ≡ stands ts at kind → not b ≡ false → at < length ts.kinds
  stands_inside p q = stands_within ts at kind (sym p ∙ not-false b q)

  pub present_inside : {w : ℕ} → b ≡ present ts at kind → not b ≡ false → w ≡ width_of kind → at + w ≤ length ts.kinds
  present_inside p q r = let z : at + width_of kind ≤ length ts.kinds = (present_within ts at kind (sym p ∙ not-false b q)).1 in omega arith

pub ruleset room = (room_sum, one_of_two, one_of_three, two_of_three, room_offset, open_below, closed_below, closed_at_most)
