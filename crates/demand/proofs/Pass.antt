-- The pass from events to steps as a function of the list of events, by recursion along it: offsets count from the event before the list, so a chain is followed without an index. Assumes nothing.
use Prim.Native.Nat.{ℕ, zero, suc}
use mathlib.Core.Bool.{Bool, true, false}
use mathlib.Core.List.{List, [], ◌∷◌, ◌++◌, map}
use lib.ListN.{length}
use Rattle.event.specs.Event.{Status, live, spent, named, Event, start, finish, token, split, error}
use Rattle.demand.specs.Steps.{Step, enter, leave, taken, parted, fault}
use Rattle.demand.proofs.Events.{is_split, next}

abbrev pub name_of : Status → List ℕ
name_of live = []
name_of spent = []
name_of (named k) = k ∷ []

-- an event's name, if it is a start that has one; and what is left of it once visited
abbrev pub names : Event → List ℕ
names (start s f b) = name_of s
names finish = []
names (token k w) = []
names (split d) = []
names (error c) = []

abbrev pub clear : Event → Event
clear (start s f b) = start spent 0 false
clear finish = finish
clear (token k w) = token k w
clear (split d) = split d
clear (error c) = error c

-- The chain of forward parents of the event before the list, whose forward offset is given: the names, outermost first, and the list with the visited starts cleared
unfoldable pub chain : List Event → ℕ → List ℕ × List Event
chain [] f = ([], [])
chain (e ∷ es) zero = ([], e ∷ es)
chain (e ∷ es) (suc zero) = ((chain es (next e)).0 ++ names e, clear e ∷ (chain es (next e)).1)
chain (e ∷ es) (suc (suc f)) = ((chain es (suc f)).0, e ∷ (chain es (suc f)).1)

-- an event's own steps; the first argument says whether a split stands right before it
abbrev pub own : Bool → Event → List Step
own after (start s f b) = []
own true finish = []
own false finish = leave ∷ []
own after (token k w) = taken k w ∷ []
own after (split d) = parted d ∷ []
own after (error c) = fault c ∷ []

-- the steps of a list of at most n events
unfoldable pub pass : ℕ → Bool → List Event → List Step
pass zero after es = []
pass (suc n) after [] = []
pass (suc n) after (e ∷ es) = map enter ((chain es (next e)).0 ++ names e) ++ (own after e ++ pass n (is_split e) (chain es (next e)).1)

unfoldable pub steps : List Event → List Step
steps es = pass (length es) false es
