-- The pass on events that a run keeps good meets the demand. Assumes nothing.
use mathlib.Core.Path.{◌≡◌, refl, ap, ◌∙◌}
use mathlib.Core.Bool.{false}
use mathlib.Core.List.{List, [], ◌∷◌}
use Prim.Native.Nat.{ℕ, ◌+◌}
use native.Mathlib.Omega.{arith}
use native.Mathlib.Nat.{le_refl}
use lib.ListN.{length, take}
use lib.Dec.{eqb}
use Rattle.base.specs.Base.{pick}
use Rattle.input.specs.Input.{Tokens}
use Rattle.event.specs.Event.{Event}
use Rattle.demand.specs.Lists.{tally, gather}
use Rattle.demand.specs.Runs.{Tok, tok, float, Place}
use Rattle.demand.specs.Steps.{Step, enter, leave, taken, parted, fault, entered, enters, leaves}
use Rattle.demand.specs.Demand.{Covers, width_in, Demand, seen}
use Rattle.demand.proofs.Events.{History}
use Rattle.demand.proofs.Pass.{pass, steps}
use Rattle.demand.proofs.Sums.{above_take, above_end}
use Rattle.demand.proofs.Passing.{pass_toks, pass_names, pass_leaves, pass_above}
use Rattle.demand.proofs.Tokens.{covers_raws}
use Rattle.demand.proofs.Keeping.{Good}

enters_entered : (ss : List Step) → tally enters ss ≡ tally (λ _. 1) (gather entered ss)
enters_entered [] = refl
enters_entered (enter k ∷ ss) = ap (λ z. 1 + z) (enters_entered ss)
enters_entered (leave ∷ ss) = omega (arith, enters_entered ss)
enters_entered (taken k w ∷ ss) = omega (arith, enters_entered ss)
enters_entered (parted d ∷ ss) = omega (arith, enters_entered ss)
enters_entered (fault c ∷ ss) = omega (arith, enters_entered ss)

covers_width : (ts : Tokens) (p q : ℕ) (l : List Tok) → Covers ts p l q → p + tally width_in l ≡ q
covers_width ts p q [] c = omega (arith, c)
covers_width ts p q (tok k w ∷ l) c = omega (arith, covers_width ts (p + w) q l c.2)
covers_width ts p q (float d ∷ l) c = omega (arith, covers_width ts (p + 1) q l c.2)

-- where a run stands, with its entries seen as events
abbrev pub history : Place → History
history z = record { events = seen z.state z.events; pos = z.state.pos.0; took = z.took; closed = z.closed }

pub good_demand : (ts : Tokens) (z : Place) → Good ts (history z) → Demand ts z (steps (seen z.state z.events))
unfolding steps
good_demand ts z g =
    let es : List Event = seen z.state z.events in
    let n : ℕ = length es in
    let c = covers_raws ts 0 z.state.pos.0 z.took (omega arith) g.covers in
    record {
      tokens = pass_toks n false es (le_refl n) ∙ g.toks;
      covers = g.covers;
      raws = c.1;
      widths = omega (arith, covers_width ts 0 z.state.pos.0 z.took g.covers);
      inside = c.0;
      even = omega (arith, enters_entered (pass n false es), pass_names (λ _. 1) n false es (le_refl n), pass_leaves n false es (le_refl n) tt g.paired, g.even);
      kinds = λ k. pass_names (λ j. pick (eqb j k) 1 0) n false es (le_refl n) ∙ g.named (λ j. pick (eqb j k) 1 0);
      within = λ i. omega (arith, above_end enters leaves 0 0 (take i (pass n false es)) (above_take enters leaves 0 0 (pass n false es) i (pass_above n false 0 0 es (le_refl n) tt g.paired g.above)));
    }
