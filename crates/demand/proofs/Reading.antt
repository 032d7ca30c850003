-- Each number that the pass writes is read as the step that it was written for: an entry's parts are small, so every event that is seen fits its entry, and the pass gives small steps of such events. Assumes nothing.
use mathlib.Core.Path.{◌≡◌, refl}
use mathlib.Core.Bool.{Bool, true, false}
use mathlib.Core.List.{List, [], ◌∷◌, ◌++◌, map}
use Prim.Native.Nat.{ℕ, zero, suc, ◌+◌, ◌-◌, ◌*◌, ◌/◌, ◌%◌, ◌<◌}
use native.Mathlib.Omega.{arith}
use lib.ListN.{take}
use lib.Dec.{ltb, eqb}
use borrow.Author.Tests.{lt-ltb, le-ltb}
use Rattle.base.specs.Base.{whether}
use Rattle.base.proofs.Cases.{whether_by}
use Rattle.input.specs.SyntaxKind.{ENTER, TOKEN, LEAVE, FLOAT_SPLIT, FAULT, WIDTH_STEP}
use Rattle.event.specs.Event.{Status, live, spent, named, Event, start, finish, token, split, error, SPENT, LIVE, rank_of, flag_of, node_of, offset_of, status_of, view}
use Rattle.event.proofs.Laws.{Fits}
use Rattle.demand.specs.Steps.{Step, enter, leave, taken, parted, fault, code_of, step_from}
use Rattle.demand.proofs.Events.{is_split, next}
use Rattle.demand.proofs.Pass.{names, clear, chain, own, pass}
use Rattle.demand.proofs.Seen.{view_by}

module _ {A : Type 0} (P : A → Type 0) where
  abbrev pub Each : List A → Type 0
  Each [] = Unit {0}
  Each (x ∷ xs) = P x × Each xs

  each_append : (xs ys : List A) → Each xs → Each ys → Each (xs ++ ys)
  each_append [] ys p q = q
  each_append (x ∷ xs) ys p q = (p.0, each_append xs ys p.1 q)

  each_take : (n : ℕ) (xs : List A) → Each xs → Each (take n xs)
  each_take zero xs p = tt
  each_take (suc n) [] p = tt
  each_take (suc n) (x ∷ xs) p = (p.0, each_take n xs p.1)

-- a step that fits its number
abbrev Small : Step → Type 0
Small (enter node) = node < 256
Small leave = Unit {0}
Small (taken kind width) = (kind < 256) × (width < 4)
Small (parted dot) = Unit {0}
Small (fault code) = code < 256

read_small : (s : Step) → Small s → step_from (code_of s) ≡ s
unfolding step_from whether
read_small (enter k) h = let z : ENTER + k - ENTER ≡ k = omega arith in rw (lt-ltb (ENTER + k) TOKEN (omega arith), z)
read_small leave h = refl
read_small (taken k w) h =
    let x : ℕ = TOKEN + WIDTH_STEP * w + k in
    let a : (x - TOKEN) % WIDTH_STEP ≡ k = omega (arith, h.0) in
    let b : (x - TOKEN) / WIDTH_STEP ≡ w = omega (arith, h.0) in
    rw (le-ltb x TOKEN (omega arith), lt-ltb x LEAVE (omega (arith, h.0, h.1)), a, b)
read_small (parted true) h = refl
read_small (parted false) h = refl
read_small (fault c) h =
    let x : ℕ = FAULT + c in
    let z : x - FAULT ≡ c = omega arith in
    rw (le-ltb x TOKEN (omega arith), le-ltb x LEAVE (omega arith), le-ltb x FLOAT_SPLIT (omega arith), le-ltb x FAULT (omega arith), z)

pub read_each : (ss : List Step) → Each Small ss → map step_from (map code_of ss) ≡ ss
read_each [] h = refl
read_each (s ∷ ss) h = rw (read_small s h.0, read_each ss h.1)

-- whatever stands in the list, what it is seen as fits
status_fits : (x offset : ℕ) (b : Bool) → Fits (start (status_of (rank_of x) (node_of x)) offset b)
unfolding status_of
status_fits x offset b =
    let P : Status → Type 0 = λ s. Fits (start s offset b) in
    whether_by P (ltb SPENT (rank_of x)) _ _ (λ _. omega arith) (λ _. whether_by P (eqb (rank_of x) LIVE) _ _ (λ _. tt) (λ _. tt))

view_fits : (x : ℕ) → Fits (view x)
view_fits x = view_by x Fits (λ _. status_fits x (offset_of x) (eqb (flag_of x) 1)) (λ _ _. (omega arith, omega arith)) (λ _ _ _. tt) (λ _ _ _ _. omega arith) (λ _ _ _ _. tt)

map_fits : (ev : List ℕ) → Each Fits (map view ev)
map_fits [] = tt
map_fits (x ∷ ev) = (view_fits x, map_fits ev)

pub seen_fit : (n : ℕ) (ev : List ℕ) → Each Fits (take n (map view ev))
seen_fit n ev = each_take Fits n (map view ev) (map_fits ev)

-- and the pass gives small steps of it
names_small : (e : Event) → Fits e → Each Small (map enter (names e))
names_small (start live f b) h = tt
names_small (start spent f b) h = tt
names_small (start (named k) f b) h = (h, tt)
names_small finish h = tt
names_small (token k w) h = tt
names_small (split d) h = tt
names_small (error c) h = tt

own_small : (c : Bool) (e : Event) → Fits e → Each Small (own c e)
own_small c (start s f b) h = tt
own_small true finish h = tt
own_small false finish h = (tt, tt)
own_small c (token k w) h = (h, tt)
own_small c (split d) h = (tt, tt)
own_small c (error n) h = (h, tt)

clear_fits : (e : Event) → Fits e → Fits (clear e)
clear_fits (start s f b) h = tt
clear_fits finish h = h
clear_fits (token k w) h = h
clear_fits (split d) h = h
clear_fits (error c) h = h

enters_small : (xs ys : List ℕ) → Each Small (map enter xs) → Each Small (map enter ys) → Each Small (map enter (xs ++ ys))
enters_small [] ys p q = q
enters_small (x ∷ xs) ys p q = (p.0, enters_small xs ys p.1 q)

chain_small : (es : List Event) (f : ℕ) → Each Fits es → Each Small (map enter (chain es f).0) × Each Fits (chain es f).1
unfolding chain
chain_small [] f h = (tt, tt)
chain_small (e ∷ es) zero h = (tt, h)
chain_small (e ∷ es) (suc zero) h = let r = chain_small es (next e) h.1 in (enters_small (chain es (next e)).0 (names e) r.0 (names_small e h.0), (clear_fits e h.0, r.1))
chain_small (e ∷ es) (suc (suc f)) h = let r = chain_small es (suc f) h.1 in (r.0, (h.0, r.1))

pub pass_small : (n : ℕ) (c : Bool) (es : List Event) → Each Fits es → Each Small (pass n c es)
unfolding pass
pass_small zero c es h = tt
pass_small (suc n) c [] h = tt
pass_small (suc n) c (e ∷ es) h =
    let r = chain_small es (next e) h.1 in
    each_append Small (map enter ((chain es (next e)).0 ++ names e)) _ (enters_small (chain es (next e)).0 (names e) r.0 (names_small e h.0))
    (each_append Small (own c e) _ (own_small c e h.0) (pass_small n (is_split e) (chain es (next e)).1 r.1))
