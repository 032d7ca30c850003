-- An error event among the events gives an error step: the pass gives each error event its step, and a walk over a chain of forward parents leaves it. Assumes nothing.
use mathlib.Core.Path.{◌≡◌, ◌∙◌}
use mathlib.Core.List.{List, [], ◌∷◌, ◌++◌, map, map-append}
use mathlib.Core.Bool.{Bool, false}
use mathlib.Core.Logic.{◌⊎◌, inl, inr}
use Prim.Native.Nat.{ℕ, zero, suc, ◌≤◌}
use native.Mathlib.Omega.{arith}
use native.Mathlib.Nat.{le_refl}
use lib.ListN.{length, get_or}
use Rattle.event.specs.Event.{Event, start, finish, token, split, error, node_of}
use Rattle.event.specs.declared.State.{State}
use Rattle.event.proofs.Laws.{view_error}
use Rattle.demand.specs.Steps.{Step, enter, code_of}
use Rattle.demand.specs.Demand.{seen}
use Rattle.demand.proofs.Events.{is_split, next}
use Rattle.demand.proofs.Pass.{names, clear, chain, own, pass, steps}
use Rattle.demand.proofs.Chain.{chain_length}
use Rattle.demand.proofs.Seen.{seen_at}
use Rattle.tree.specs.Statement.{NoErrors}
use Rattle.tree.proofs.Errors.{Err}

abbrev Wrong : Event → Type 0
Wrong (start s f b) = ⊥
Wrong finish = ⊥
Wrong (token k w) = ⊥
Wrong (split d) = ⊥
Wrong (error c) = Unit {0}

abbrev Faulty : List Event → Type 0
Faulty [] = ⊥
Faulty (e ∷ es) = Wrong e ⊎ Faulty es

clear_wrong : (e : Event) → Wrong e → Wrong (clear e)
clear_wrong (start _ _ _) w = elim w [ ]
clear_wrong finish w = elim w [ ]
clear_wrong (token _ _) w = elim w [ ]
clear_wrong (split _) w = elim w [ ]
clear_wrong (error c) w = tt

chain_faulty : (es : List Event) (f : ℕ) → Faulty es → Faulty (chain es f).1
unfolding chain
chain_faulty [] f h = elim h [ ]
chain_faulty (e ∷ es) zero h = h
chain_faulty (e ∷ es) (suc zero) (inl w) = inl (clear_wrong e w)
chain_faulty (e ∷ es) (suc zero) (inr h) = inr (chain_faulty es (next e) h)
chain_faulty (e ∷ es) (suc (suc f)) (inl w) = inl w
chain_faulty (e ∷ es) (suc (suc f)) (inr h) = inr (chain_faulty es (suc f) h)

-- steps as numbers
no_errors_right : (l m : List ℕ) → NoErrors (l ++ m) → NoErrors m
no_errors_right [] m h = h
no_errors_right (x ∷ l) m h = no_errors_right l m h.1

own_wrong : (c : Bool) (e : Event) (l : List Step) → Wrong e → NoErrors (map code_of (own c e ++ l)) → ⊥
own_wrong c (start _ _ _) l w h = elim w [ ]
own_wrong c finish l w h = elim w [ ]
own_wrong c (token _ _) l w h = elim w [ ]
own_wrong c (split _) l w h = elim w [ ]
own_wrong c (error k) l w h = omega (arith, h.0)

own_right : (c : Bool) (e : Event) (l : List Step) → NoErrors (map code_of (own c e ++ l)) → NoErrors (map code_of l)
own_right c e l h = no_errors_right (map code_of (own c e)) (map code_of l) (rw map-append at h)

enters_right : (l : List ℕ) (m : List Step) → NoErrors (map code_of (map enter l ++ m)) → NoErrors (map code_of m)
enters_right [] m h = h
enters_right (x ∷ l) m h = enters_right l m h.1

pass_faulty : (n : ℕ) (c : Bool) (es : List Event) → length es ≤ n → Faulty es → NoErrors (map code_of (pass n c es)) → ⊥
unfolding pass
pass_faulty zero c [] l f h = elim f [ ]
pass_faulty (suc n) c [] l f h = elim f [ ]
pass_faulty zero c (e ∷ es) l f h = omega arith
pass_faulty (suc n) c (e ∷ es) l (inl w) h = own_wrong c e _ w (enters_right ((chain es (next e)).0 ++ names e) _ h)
pass_faulty (suc n) c (e ∷ es) l (inr f) h =
    pass_faulty n (is_split e) (chain es (next e)).1 (omega (arith, chain_length es (next e))) (chain_faulty es (next e) f) (own_right c e _ (enters_right ((chain es (next e)).0 ++ names e) _ h))

-- where an error stands
at_wrong : (es : List Event) (i c : ℕ) → get_or es i finish ≡ error c → Faulty es
at_wrong [] i c q = absurd (let z : ◌≡◌ {A = ℕ} 0 1 = cc in omega arith)
at_wrong (e ∷ es) zero c q = inl (wrong e q)
  where
    wrong : (e : Event) → e ≡ error c → Wrong e
    wrong (start s f b) q = absurd (let z : ◌≡◌ {A = ℕ} 0 1 = cc in omega arith)
    wrong finish q = absurd (let z : ◌≡◌ {A = ℕ} 0 1 = cc in omega arith)
    wrong (token k w) q = absurd (let z : ◌≡◌ {A = ℕ} 0 1 = cc in omega arith)
    wrong (split d) q = absurd (let z : ◌≡◌ {A = ℕ} 0 1 = cc in omega arith)
    wrong (error k) q = tt
at_wrong (e ∷ es) (suc i) c q = inr (at_wrong es i c q)

pub an_error_is_a_step : (s : State) (ev : List ℕ) → Err s ev → NoErrors (map code_of (steps (seen s ev))) → ⊥
unfolding steps seen
an_error_is_a_step s ev e h =
    pass_faulty (length (seen s ev)) false (seen s ev) (le_refl (length (seen s ev))) (at_wrong (seen s ev) e.at (node_of (get_or ev e.at 0)) (seen_at s.count ev e.at e.below ∙ view_error (get_or ev e.at 0) e.is)) h
