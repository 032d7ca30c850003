-- The entries below the count as a list of events: what an entry is seen as, an entry changed, pushed, popped or looked at, an open and a closed marker's; and that all of them decode. Assumes nothing.
use Rattle.std.proofs.Common.{Ok, Err}
use mathlib.Core.Path.{◌≡◌, refl, ap, ◌∙◌}
use mathlib.Core.Bool.{Bool, true, false}
use mathlib.Core.List.{List, [], ◌∷◌, ◌++◌, map, append_assoc}
use Prim.Native.Nat.{ℕ, zero, suc, ◌+◌, ◌≤◌, ◌<◌}
use native.Mathlib.Omega.{arith}
use native.Mathlib.Numerals.{add-one}
use lib.ListN.{length, get_or, set, take, length-set, length-map, get_or-map}
use lib.Seq.{take-suc-set, take-set-lt, get_or-take, length-take-le, get_or-set_same, get_or-set_other}
use lib.Dec.{ltb, eqb}
use borrow.Author.Tests.{ltb-true, ltb-false, leb-true, eqb-true, eqb-false}
use Rattle.base.specs.Base.{whether}
use Rattle.base.proofs.Cases.{whether_by}
use Rattle.input.specs.Input.{Tokens, token_limit, bytes_of, ahead, on_checked, Checked}
use Rattle.event.specs.Event.{live, named, Event, start, finish, token, split, error, START, TOKEN_TAG, SPLIT_TAG, ERROR_TAG, tag_of, rank_of, flag_of, node_of, offset_of, status_of, view, decodes, event_limit, capacity_of}
use Rattle.event.specs.declared.State.{State}
use Rattle.parser.specs.Calls.{room_for, is_open, is_closed}
use Rattle.parser.specs.Public.{looked_of}
use Rattle.demand.specs.Demand.{seen}
use Rattle.input.proofs.Laws.{both_true}
use Rattle.demand.proofs.Tokens.{lengths_fine}
use Rattle.event.proofs.Laws.{live_view, named_view}

-- an entry's view, by its tag
pub view_by : (x : ℕ) (P : Event → Type 0)
    → (eqb (tag_of x) START ≡ true → P (start (status_of (rank_of x) (node_of x)) (offset_of x) (eqb (flag_of x) 1)))
    → (eqb (tag_of x) START ≡ false → eqb (tag_of x) TOKEN_TAG ≡ true → P (token (node_of x) (rank_of x)))
    → (eqb (tag_of x) START ≡ false → eqb (tag_of x) TOKEN_TAG ≡ false → eqb (tag_of x) SPLIT_TAG ≡ true → P (split (eqb (flag_of x) 1)))
    → (eqb (tag_of x) START ≡ false → eqb (tag_of x) TOKEN_TAG ≡ false → eqb (tag_of x) SPLIT_TAG ≡ false → eqb (tag_of x) ERROR_TAG ≡ true → P (error (node_of x)))
    → (eqb (tag_of x) START ≡ false → eqb (tag_of x) TOKEN_TAG ≡ false → eqb (tag_of x) SPLIT_TAG ≡ false → eqb (tag_of x) ERROR_TAG ≡ false → P finish) → P (view x)
unfolding view
view_by x P a b c d e = whether_by P (eqb (tag_of x) START) _ _ a (λ q. whether_by P (eqb (tag_of x) TOKEN_TAG) _ _ (b q) (λ r. whether_by P (eqb (tag_of x) SPLIT_TAG) _ _ (c q r) (λ s. whether_by P (eqb (tag_of x) ERROR_TAG) _ _ (d q r s) (e q r s))))

pub map_set : {A B : Type 0} (g : A → B) (l : List A) (i : ℕ) (a : A) → map g (set l i a) ≡ set (map g l) i (g a)
map_set g [] i a = refl
map_set g (x ∷ l) zero a = refl
map_set g (x ∷ l) (suc i) a = ap {B = List _} (λ z. g x ∷ z) (map_set g l i a)

pub seen_set : (n : ℕ) (ev : List ℕ) (m x : ℕ) → m < n → take n (map view (set ev m x)) ≡ set (take n (map view ev)) m (view x)
seen_set n ev m x h = rw map_set (take-set-lt n (map view ev) m (view x) h)

pub seen_push : (n : ℕ) (ev : List ℕ) (x : ℕ) → n < length ev → take (n + 1) (map view (set ev n x)) ≡ take n (map view ev) ++ (view x ∷ [])
seen_push n ev x h = rw (map_set, add-one) (take-suc-set (map view ev) n (view x) (omega (arith, length-map ev view)))

pub seen_two : (n : ℕ) (ev : List ℕ) (x y : ℕ) → n + 1 < length ev → take (n + 2) (map view (set (set ev n x) (n + 1) y)) ≡ take n (map view ev) ++ (view x ∷ view y ∷ [])
seen_two n ev x y h =
    let e : n + 2 ≡ n + 1 + 1 = omega arith in
    ap (λ k. take k (map view (set (set ev n x) (n + 1) y))) e
    ∙ seen_push (n + 1) (set ev n x) y (omega (arith, length-set ev n x))
    ∙ rw (seen_push n ev x (omega arith), append_assoc)

pub seen_three : (n : ℕ) (ev : List ℕ) (x y z : ℕ) → n + 2 < length ev → take (n + 3) (map view (set (set (set ev n x) (n + 1) y) (n + 2) z)) ≡ take n (map view ev) ++ (view x ∷ view y ∷ view z ∷ [])
seen_three n ev x y z h =
    let e : n + 3 ≡ n + 2 + 1 = omega arith in
    ap (λ k. take k (map view (set (set (set ev n x) (n + 1) y) (n + 2) z))) e
    ∙ seen_push (n + 2) (set (set ev n x) (n + 1) y) z (omega (arith, length-set (set ev n x) (n + 1) y, length-set ev n x))
    ∙ rw (seen_two n ev x y (omega arith), append_assoc)

pub seen_at : (n : ℕ) (ev : List ℕ) (m : ℕ) → m < n → get_or (take n (map view ev)) m finish ≡ view (get_or ev m 0)
unfolding view whether
seen_at n ev m h = get_or-take n (map view ev) m finish h ∙ get_or-map view ev m 0

-- the count is the number of events
pub count_seen : (s : State) (ev : List ℕ) → s.count ≤ length ev → length (seen s ev) ≡ s.count
unfolding seen
count_seen s ev h = length-take-le s.count (map view ev) (omega (arith, length-map ev view))

-- an open marker and a closed one
pub open_seen : (s : State) (m : ℕ) (ev : List ℕ) → is_open s m ev ≡ true → (m < s.count) × (get_or (seen s ev) m finish ≡ start live (offset_of (get_or ev m 0)) (eqb (flag_of (get_or ev m 0)) 1))
unfolding seen is_open
open_seen s m ev q = let t = both_true _ _ q in let h = ltb-true m s.count t.0 in (h, seen_at s.count ev m h ∙ live_view (get_or ev m 0) t.1)

pub closed_seen : (s : State) (m : ℕ) (ev : List ℕ) → is_closed s m ev ≡ true → (m < s.count) × (get_or (seen s ev) m finish ≡ start (named (node_of (get_or ev m 0))) (offset_of (get_or ev m 0)) (eqb (flag_of (get_or ev m 0)) 1))
unfolding seen is_closed
closed_seen s m ev q = let t = both_true _ _ q in let h = ltb-true m s.count t.0 in (h, seen_at s.count ev m h ∙ named_view (get_or ev m 0) t.1)

-- room: the list is full at its length or at its limit
pub capacity_length : (ev : List ℕ) → capacity_of ev ≤ length ev
unfolding capacity_of
capacity_length ev = whether_by (λ n. n ≤ length ev) (ltb (length ev) event_limit) _ _ (λ _. omega arith) (λ q. omega (arith, ltb-false (length ev) event_limit q))

pub capacity_same : (ev e : List ℕ) → length e ≡ length ev → capacity_of e ≡ capacity_of ev
unfolding capacity_of
capacity_same ev e q = rw q

pub has_room : (k : ℕ) (s : State) (ev : List ℕ) → room_for k s ev ≡ true → s.count + k ≤ capacity_of ev
unfolding room_for
has_room k s ev q = leb-true _ _ q

-- the checks of a call that reads tokens
checked_fine : (c : Checked) (f : Unit {0} → Checked) → on_checked c f Err ≡ Ok tt → (c ≡ Ok tt) × (f tt ≡ Ok tt)
unfolding on_checked
checked_fine (Ok _) f q = (refl, q)
checked_fine (Err r) f q = absurd (let z : ◌≡◌ {A = ℕ} 0 1 = cc in omega arith)

pub looked_fine : (ts : Tokens) (s : State) (ev : List ℕ) → looked_of ts s ev ≡ Ok tt → (length ts.kinds ≤ token_limit) × (bytes_of ts s.pos.0 (ahead ts s.pos.0) ≡ Ok tt)
unfolding looked_of
looked_fine ts s ev q = let t = checked_fine _ _ q in (lengths_fine ts t.0, (checked_fine _ _ t.1).1)

-- entries that decode
abbrev pub Decoded : ℕ → List ℕ → Type 0
Decoded n ev = (i : ℕ) → i < n → decodes (get_or ev i 0) ≡ true

pub decoded_set : (n : ℕ) (ev : List ℕ) (m v : ℕ) → n ≤ length ev → Decoded n ev → decodes v ≡ true → Decoded n (set ev m v)
decoded_set n ev m v l d q i h = go (eqb i m) refl
  where
    go : (b : Bool) → eqb i m ≡ b → decodes (get_or (set ev m v) i 0) ≡ true
    go true p = let e = eqb-true i m p in rw (e, get_or-set_same ev m v 0 (omega arith)) q
    go false p = rw (get_or-set_other ev m i v 0 (eqb-false i m p)) (d i h)

pub decoded_push : (n : ℕ) (ev : List ℕ) (v : ℕ) → n < length ev → Decoded n ev → decodes v ≡ true → Decoded (n + 1) (set ev n v)
decoded_push n ev v l d q i h = go (eqb i n) refl
  where
    go : (b : Bool) → eqb i n ≡ b → decodes (get_or (set ev n v) i 0) ≡ true
    go true p = rw (eqb-true i n p, get_or-set_same ev n v 0 l) q
    go false p = rw (get_or-set_other ev n i v 0 (eqb-false i n p)) (d i (omega (arith, eqb-false i n p)))

pub decoded_two : (n : ℕ) (ev : List ℕ) (x y : ℕ) → n + 1 < length ev → Decoded n ev → decodes x ≡ true → decodes y ≡ true → Decoded (n + 2) (set (set ev n x) (n + 1) y)
decoded_two n ev x y l d p q i h = decoded_push (n + 1) (set ev n x) y (omega (arith, length-set ev n x)) (decoded_push n ev x (omega arith) d p) q i (omega arith)

pub decoded_three : (n : ℕ) (ev : List ℕ) (x y z : ℕ) → n + 2 < length ev → Decoded n ev → decodes x ≡ true → decodes y ≡ true → decodes z ≡ true → Decoded (n + 3) (set (set (set ev n x) (n + 1) y) (n + 2) z)
decoded_three n ev x y z l d p q r i h = decoded_push (n + 2) (set (set ev n x) (n + 1) y) z (omega (arith, length-set (set ev n x) (n + 1) y, length-set ev n x)) (decoded_two n ev x y (omega arith) d p q) r i (omega arith)

pub decoded_pop : (n : ℕ) (ev : List ℕ) (m v : ℕ) → m ≤ n → Decoded n ev → Decoded m (set ev m v)
decoded_pop n ev m v l d i h = rw (get_or-set_other ev m i v 0 (λ q. omega arith)) (d i (omega arith))
