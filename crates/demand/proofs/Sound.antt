-- How many steps there are, without walking a chain: the names and each event's own; and what soundness of a list of events says at an index. Assumes nothing.
use mathlib.Core.Path.{◌≡◌, refl, ap, subst}
use mathlib.Core.Bool.{Bool, true, false≢true}
use mathlib.Core.List.{List, [], ◌∷◌}
use Prim.Native.Nat.{ℕ, zero, suc, ◌+◌, ◌≤◌, ◌<◌}
use native.Mathlib.Omega.{arith}
use lib.ListN.{length, get_or, drop, length-append, length-map}
use lib.Seq.{get_or-drop}
use Rattle.demand.specs.Lists.{tally}
use Rattle.event.specs.Event.{Event, start, finish, token, split, error}
use Rattle.demand.proofs.Events.{is_split, is_finish, next, Paired, Anchored, Linked, is_start}
use Rattle.demand.proofs.Pass.{names, chain, own, pass}
use Rattle.demand.proofs.Chain.{ups, chain_length, chain_names, clear_same}
use Rattle.demand.proofs.Keeping.{linked_at}

-- the steps that are no enter: each event's own
abbrev pub plain : Bool → List Event → ℕ
plain c [] = 0
plain c (e ∷ es) = length (own c e) + plain (is_split e) es

chain_plain : (c : Bool) (es : List Event) (f : ℕ) → plain c (chain es f).1 ≡ plain c es
unfolding chain
chain_plain c [] f = refl
chain_plain c (e ∷ es) zero = refl
chain_plain c (e ∷ es) (suc zero) = rw (clear_same (own c) (λ s s' f f' b b'. refl) e, clear_same is_split (λ s s' f f' b b'. refl) e, chain_plain (is_split e) es (next e))
chain_plain c (e ∷ es) (suc (suc f)) = ap (λ z. length (own c e) + z) (chain_plain (is_split e) es (suc f))

pub length_tally : (l : List ℕ) → length l ≡ tally (λ _. 1) l
length_tally [] = refl
length_tally (x ∷ l) = omega (arith, length_tally l)

pub pass_length : (n : ℕ) (c : Bool) (es : List Event) → length es ≤ n → length (pass n c es) ≡ tally ups es + plain c es
unfolding pass
pass_length zero c [] h = refl
pass_length zero c (e ∷ es) h = absurd (omega arith)
pass_length (suc n) c [] h = refl
pass_length (suc n) c (e ∷ es) h =
    let l : length (chain es (next e)).1 ≤ n = omega (arith, chain_length es (next e)) in
    simp (length-append, length-map, chain_plain, pass_length n (is_split e) (chain es (next e)).1 l) (omega (arith, chain_names (λ _. 1) es (next e), length_tally (chain es (next e)).0, length_tally (names e)))

-- a forward offset lands on a start of the list (what is past the list is seen as a finish)
anchored_start : (e : Event) → Anchored e → is_start e ≡ true
unfolding is_start
anchored_start (start s f b) a = refl
anchored_start finish a = absurd a
anchored_start (token k w) a = absurd a
anchored_start (split d) a = absurd a
anchored_start (error c) a = absurd a

pub lands : (es : List Event) (i f : ℕ) → Linked es → next (get_or es i finish) ≡ suc f → is_start (get_or es (i + suc f) finish) ≡ true
lands es i f l q =
    let a : Anchored (get_or (drop (suc i) es) f finish) = rw q at (linked_at es i l) in
    let e : suc i + f ≡ i + suc f = omega arith in
    anchored_start (get_or es (i + suc f) finish) (subst (λ j. Anchored (get_or es j finish)) e (subst Anchored (get_or-drop (suc i) es f finish) a))

pub pairs : (es : List Event) (i : ℕ) → Paired es → is_split (get_or es i finish) ≡ true → (suc i < length es) × (is_finish (get_or es (suc i) finish) ≡ true)
pairs [] i p q = absurd (false≢true q)
pairs (e ∷ []) zero p q = absurd (rw q at p.0)
pairs (e ∷ x ∷ es) zero p q = (omega arith, rw q at p.0)
pairs (e ∷ es) (suc i) p q = let h = pairs es i p.1 q in (omega arith, h.1)
