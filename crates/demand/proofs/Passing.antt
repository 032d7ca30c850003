-- The pass, of any list of events: its tokens are theirs, its enters are their names under any weight of the kinds, and its leaves never run ahead. Assumes nothing.
use mathlib.Core.Path.{◌≡◌, refl, ap}
use mathlib.Core.Bool.{Bool, true, false, false≢true}
use mathlib.Core.List.{List, [], ◌∷◌, ◌++◌, map}
use Prim.Native.Nat.{ℕ, zero, suc, ◌+◌, ◌≤◌}
use native.Mathlib.Omega.{arith}
use lib.ListN.{length}
use Rattle.demand.specs.Lists.{tally, gather}
use Rattle.demand.proofs.Sums.{Above, tally_append, gather_append, above_more, above_le}
use Rattle.event.specs.Event.{Event, start, finish, token, split, error}
use Rattle.demand.proofs.Events.{is_split, next, Follows, Paired}
use Rattle.demand.specs.Steps.{Step, enter, token_in, entered, enters, leaves}
use Rattle.demand.proofs.Pass.{names, chain, own, pass}
use Rattle.demand.proofs.Chain.{weigh, ups, downs, tok_e, chain_length, chain_toks, chain_downs, chain_names, chain_above, chain_follows, chain_paired}

enter_toks : (l : List ℕ) → gather token_in (map enter l) ≡ []
enter_toks [] = refl
enter_toks (x ∷ l) = enter_toks l

own_toks : (c : Bool) (e : Event) → gather token_in (own c e) ≡ tok_e e
own_toks c (start s f b) = refl
own_toks true finish = refl
own_toks false finish = refl
own_toks c (token k w) = refl
own_toks c (split d) = refl
own_toks c (error n) = refl

-- the token steps and splits are the token events and splits
pub pass_toks : (n : ℕ) (c : Bool) (es : List Event) → length es ≤ n → gather token_in (pass n c es) ≡ gather tok_e es
unfolding pass
pass_toks zero c [] h = refl
pass_toks zero c (e ∷ es) h = absurd (omega arith)
pass_toks (suc n) c [] h = refl
pass_toks (suc n) c (e ∷ es) h =
    let l : length (chain es (next e)).1 ≤ n = omega (arith, chain_length es (next e)) in
    simp (gather_append, enter_toks, own_toks, pass_toks n (is_split e) (chain es (next e)).1 l, chain_toks)

entered_names : (l : List ℕ) → gather entered (map enter l) ≡ l
entered_names [] = refl
entered_names (x ∷ l) = ap {B = List ℕ} (λ z. x ∷ z) (entered_names l)

own_entered : (c : Bool) (e : Event) → gather entered (own c e) ≡ []
own_entered c (start s f b) = refl
own_entered true finish = refl
own_entered false finish = refl
own_entered c (token k w) = refl
own_entered c (split d) = refl
own_entered c (error n) = refl

-- under any weight of the kinds, what is entered weighs what is named
pub pass_names : (h : ℕ → ℕ) (n : ℕ) (c : Bool) (es : List Event) → length es ≤ n → tally h (gather entered (pass n c es)) ≡ tally (weigh h) es
unfolding pass
pass_names h zero c [] l = refl
pass_names h zero c (e ∷ es) l = absurd (omega arith)
pass_names h (suc n) c [] l = refl
pass_names h (suc n) c (e ∷ es) l =
    let r : length (chain es (next e)).1 ≤ n = omega (arith, chain_length es (next e)) in
    simp (gather_append, entered_names, own_entered, tally_append, pass_names h n (is_split e) (chain es (next e)).1 r) (omega (arith, chain_names h es (next e)))

-- what the split right before has given of the leaves that are counted at its finish
abbrev owed : Bool → ℕ
owed true = 1
owed false = 0

own_leaves : (c : Bool) (e : Event) (es : List Event) → Follows c (e ∷ es) → tally leaves (own c e) + owed c ≡ downs e + owed (is_split e)
own_leaves false (start s f b) es p = refl
own_leaves false finish es p = refl
own_leaves true finish es p = refl
own_leaves false (token k w) es p = refl
own_leaves false (split true) es p = refl
own_leaves false (split false) es p = refl
own_leaves false (error n) es p = refl
own_leaves true (start s f b) es p = absurd (false≢true p)
own_leaves true (token k w) es p = absurd (false≢true p)
own_leaves true (split d) es p = absurd (false≢true p)
own_leaves true (error n) es p = absurd (false≢true p)

enter_leaves : (l : List ℕ) → tally leaves (map enter l) ≡ 0
enter_leaves [] = refl
enter_leaves (x ∷ l) = rw (enter_leaves l)

pub pass_leaves : (n : ℕ) (c : Bool) (es : List Event) → length es ≤ n → Follows c es → Paired es → tally leaves (pass n c es) + owed c ≡ tally downs es
unfolding pass
pass_leaves zero true [] l p q = absurd p
pass_leaves zero false [] l p q = refl
pass_leaves zero c (e ∷ es) l p q = absurd (omega arith)
pass_leaves (suc n) true [] l p q = absurd p
pass_leaves (suc n) false [] l p q = refl
pass_leaves (suc n) c (e ∷ es) l p q =
    let r : length (chain es (next e)).1 ≤ n = omega (arith, chain_length es (next e)) in
    let i = pass_leaves n (is_split e) (chain es (next e)).1 r (chain_follows (is_split e) es (next e) q.0) (chain_paired es (next e) q.1) in
    simp (tally_append, enter_leaves) (omega (arith, i, own_leaves c e es p, chain_downs es (next e)))

above_enter : (l : List ℕ) (a b : ℕ) (r : List Step) → b ≤ a → Above enters leaves (a + tally (λ _. 1) l) b r → Above enters leaves a b (map enter l ++ r)
above_enter [] a b r p s = above_more enters leaves (a + 0) b a b r (omega arith) (omega arith) s
above_enter (x ∷ l) a b r p s =
    (p, above_enter l (a + 1) (b + 0) r (omega arith) (above_more enters leaves (a + (1 + tally (λ _. 1) l)) b (a + 1 + tally (λ _. 1) l) (b + 0) r (omega arith) (omega arith) s))

above_own : (c : Bool) (e : Event) (a b : ℕ) (r : List Step) → b ≤ a → Above enters leaves a (b + tally leaves (own c e)) r → Above enters leaves a b (own c e ++ r)
above_own c (start t f d) a b r p s = above_more enters leaves a (b + 0) a b r (omega arith) (omega arith) s
above_own true finish a b r p s = above_more enters leaves a (b + 0) a b r (omega arith) (omega arith) s
above_own false finish a b r p s = (p, above_more enters leaves a (b + 1) (a + 0) (b + 1) r (omega arith) (omega arith) s)
above_own c (token k w) a b r p s = (p, above_more enters leaves a (b + 0) (a + 0) (b + 0) r (omega arith) (omega arith) s)
above_own c (split true) a b r p s = (p, above_more enters leaves a (b + 1) (a + 0) (b + 1) r (omega arith) (omega arith) s)
above_own c (split false) a b r p s = (p, above_more enters leaves a (b + 2) (a + 0) (b + 2) r (omega arith) (omega arith) s)
above_own c (error n) a b r p s = (p, above_more enters leaves a (b + 0) (a + 0) (b + 0) r (omega arith) (omega arith) s)

owed_le : (c : Bool) (a b : ℕ) (e : Event) (es : List Event) → Follows c (e ∷ es) → Above ups downs a b (e ∷ es) → b + owed c ≤ a
owed_le false a b e es p s = omega arith
owed_le true a b finish es p s = omega (arith, above_le ups downs (a + 0) (b + 1) es s.1)
owed_le true a b (start t f d) es p s = absurd (false≢true p)
owed_le true a b (token k w) es p s = absurd (false≢true p)
owed_le true a b (split d) es p s = absurd (false≢true p)
owed_le true a b (error n) es p s = absurd (false≢true p)

pub pass_above : (n : ℕ) (c : Bool) (a b : ℕ) (es : List Event) → length es ≤ n → Follows c es → Paired es → Above ups downs a b es → Above enters leaves a (b + owed c) (pass n c es)
unfolding pass
pass_above zero true a b [] l p q s = absurd p
pass_above zero false a b [] l p q s = omega arith
pass_above zero c a b (e ∷ es) l p q s = absurd (omega arith)
pass_above (suc n) true a b [] l p q s = absurd p
pass_above (suc n) false a b [] l p q s = omega arith
pass_above (suc n) c a b (e ∷ es) l p q s =
    let x : ℕ = tally (λ _. 1) (chain es (next e)).0 in
    let r : length (chain es (next e)).1 ≤ n = omega (arith, chain_length es (next e)) in
    let i = pass_above n (is_split e) (a + ups e + x) (b + downs e) (chain es (next e)).1 r (chain_follows (is_split e) es (next e) q.0) (chain_paired es (next e) q.1) (chain_above (a + ups e) (b + downs e) es (next e) s.1) in
    let o = owed_le c a b e es p s in
    above_enter ((chain es (next e)).0 ++ names e) a (b + owed c) _ o
    (above_own c e (a + tally (λ _. 1) ((chain es (next e)).0 ++ names e)) (b + owed c) _ (omega arith)
    (above_more enters leaves (a + ups e + x) (b + downs e + owed (is_split e)) _ _ (pass n (is_split e) (chain es (next e)).1) (omega (arith, tally_append (λ _. 1) (chain es (next e)).0 (names e))) (omega (arith, own_leaves c e es p)) i))
